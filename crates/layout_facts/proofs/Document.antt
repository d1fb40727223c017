-- Declarations and the whole document are laid soundly.
-- Assumes nothing.
use Prim.Native.Nat.{ℕ, ◌+◌, ◌*◌, ◌-◌, ◌≤◌}
use mathlib.Core.Path.{refl}
use mathlib.Core.Bool.{Bool, true, false, not}
use mathlib.Core.List.{List, [], ◌∷◌}
use Rattle.std.specs.Prelude.{Option, None as nothing, Some}
use native.Mathlib.Omega.{arith}
use lib.ListN.{length}
use Rattle.text.proofs.Counts.{range_start}
use Rattle.text.proofs.Cuts.{uncut}
use Rattle.text.proofs.Trims.{trim_before}
use Rattle.ast.specs.Syntax.{Span, Ident, Idents, no_types, ◌∷ᵗ◌, Fields, Variants, no_variants, variant, Declaration, filter_map, const, record_decl}
use Rattle.ast.specs.Syntax.{enum_decl, function, test, import_decl, SyntaxTree}
use Rattle.tree.specs.At.{Head, past, IdentAt, ListAt, Maybe, TypesAt, FieldsAt, VariantsAt, DeclarationAt, DeclarationsAt, TreeAt}
use Rattle.rows.specs.Words.{among}
use Rattle.acts.specs.Act.{Given, Act}
use Rattle.comments.specs.Comments.{whitespace, pop_whitespace}
use Rattle.layout.specs.declared.forms.WrapStyle.TheVariants.{Tight, Wrap}
use Rattle.layout.specs.Layout.{some_type_params, Bottom, params, type_params, ident_elems, field_elems}
use Rattle.layout.specs.Layout.{opening, variant_elems, declaration, declares, shebang_rule}
use Rattle.layout.specs.Layout.{declarations_rule, import_span, unless_empty}
use Rattle.layout_facts.specs.Sound.{Ranged, Commented, BYTE_GIVES, ROW_TAKES, Sounds}
use Rattle.layout.specs.Closing.{closing, whole_rule}
use Rattle.layout_facts.specs.Height.{fields_height, variants_height, declaration_height, declarations_height, tree_height}
use Rattle.layout_facts.proofs.Steps.{◌⨾◌, fewer, sound_skip, sound_line, sound_empty_line, sound_str, sound_when, sound_asks}
use Rattle.layout_facts.proofs.Gaps.{sound_gap}
use Rattle.layout_facts.proofs.Parts.{no_word, sound_says, ranged, from_start, supplied, sound_ident, points, All, none}
use Rattle.layout_facts.proofs.Parts.{also, sound_separated, sound_idents, sound_type, ident_range, shebang_formed}
use Rattle.layout_facts.proofs.Parts.{all_types, all_fields, last_ranged, import_ranged, import_long, sound_import}
use Rattle.layout_facts.proofs.Exprs.{sound_expr, sound_block}

module _ {g : Given} (commented : Commented g) where
  sound_opening : {d : ℕ} (p : ℕ) (first : Bool) → p ≤ length g.source → Sounds g (2 * ROW_TAKES) d (opening g p first)
  unfolding opening
  sound_opening p true h =
      fewer (sound_asks (pop_whitespace g p false true false) (sound_gap commented p false true false h) (λ gap. sound_skip)) (omega arith)
  sound_opening p false h =
      sound_asks (pop_whitespace g p true true true) (sound_gap commented p true true true h) (λ gap. sound_when (not (whitespace gap)) sound_line)

  sound_params : (fs : Fields) (s : Span) (at : ℕ) {d : ℕ} → Head g.source g.image 3 s at
      → FieldsAt g.source g.image fs (at + 13) (past g.source g.image at) → 2 * (2 + fields_height fs) ≤ d
      → Sounds g (2 * ROW_TAKES + points g at 0) d (params g (field_elems g fs) s)
  unfolding among points
  sound_params fs s at {d} l a h =
      fewer
      (sound_separated commented "(" ")" "," refl refl refl
      (all_fields commented fs (at + 13) (past g.source g.image at) {d = d - 2} a (omega arith)) s (ranged l).fits Tight (omega arith) (omega arith))
      (omega (arith, l.long))

  -- the parameters of a record or of an enum, which are left out where there are none
  sound_unless_empty : (is : List Ident) {a : Act} {n d : ℕ} → Sounds g n d a → Sounds g n d (unless_empty is a)
  sound_unless_empty [] p = fewer sound_skip (omega arith)
  sound_unless_empty (i ∷ is) p = p

  sound_type_params : (is : Idents) (at : ℕ) {d : ℕ} → 3 ≤ d → ListAt g.source g.image is at
      → Sounds g (2 * ROW_TAKES + points g at 0) d (type_params g (ident_elems g is.elems) is.span)
  unfolding among
  sound_type_params is at h a = sound_idents commented "[" "]" refl refl is at h a

  some_params : (ps : Option Idents) (at : ℕ) {d : ℕ} → 3 ≤ d → Maybe g.source g.image (ListAt g.source g.image) ps at
      → Sounds g (2 * ROW_TAKES + points g at 0) d (some_type_params g ps)
  unfolding Maybe
  some_params nothing at h a = fewer sound_skip (omega arith)
  some_params (Some is) at h a = sound_unless_empty is.elems (sound_type_params is at h a)

  all_variants : (vs : Variants) (at end : ℕ) {d : ℕ} → VariantsAt g.source g.image vs at end → 2 * variants_height vs ≤ d
      → All g (BYTE_GIVES * (end - at)) d (variant_elems g vs)
  unfolding variant_elems VariantsAt variants_height TypesAt among
  all_variants no_variants at end a h = none
  all_variants (variant s i no_types vs) at end a h =
      also (from_start (ranged a.0)) (sound_ident a.1 ⨾ sound_skip)
      (all_variants vs (past g.source g.image at) end a.6 (omega arith))
      (omega (arith, a.0.long, a.5.least))
  all_variants (variant s i (t ∷ᵗ ts) vs) at end {d} a h =
      let v : ℕ = past g.source g.image (at + 13) in
      let last : Ranged g.source _ =
      last_ranged commented ts t (v + 13) (past g.source g.image (v + 13)) (past g.source g.image v) a.3.0 a.3.2
      in
      also (from_start (ranged a.0))
      (sound_ident a.1
      ⨾ sound_separated commented "(" ")" "," refl refl refl
      (all_types commented (t ∷ᵗ ts) (v + 13) (past g.source g.image v) {d = d - 2} a.3 (omega arith)) _ last.fits Tight
      (omega arith) (omega arith))
      (all_variants vs (past g.source g.image at) end a.6 (omega arith))
      (omega (arith, a.0.long, a.1.head.long, a.2.head.long, a.4.same, a.5.least))

  -- ---- each declaration
  pub sound_declaration : (x : Declaration) (at : ℕ) {d : ℕ} (first : Bool) → DeclarationAt g.source g.image x at
      → 2 * declaration_height x ≤ d → Sounds g (points g at 0) d (declaration g x first)
  unfolding declaration declares DeclarationAt declaration_height Maybe among points
  sound_declaration (filter_map i s fs b) at first a h =
      let v : ℕ = past g.source g.image (at + 13) in
      fewer
      ((sound_opening i.span.start first (from_start (ranged a.1.head)) ⨾ sound_says "filtermap " refl ⨾ sound_ident a.1)
      ⨾ sound_params fs s v a.2 a.3 (omega arith)
      ⨾ sound_says " " refl
      ⨾ sound_block commented b (past g.source g.image v) a.4 (omega arith))
      (omega (arith, a.1.head.long, a.5.same))
  sound_declaration (const i t e) at first a h =
      let v : ℕ = past g.source g.image (at + 13) in
      fewer
      ((sound_opening i.span.start first (from_start (ranged a.1.head)) ⨾ sound_says "const " refl ⨾ sound_ident a.1)
      ⨾ sound_says ": " refl
      ⨾ sound_type commented t v a.2 (omega arith)
      ⨾ sound_says " = " refl
      ⨾ sound_expr commented e (past g.source g.image v) Bottom a.3 (omega arith)
      ⨾ sound_says ";" refl)
      (omega (arith, a.1.head.long, a.4.same))
  sound_declaration (record_decl i ps s fs) at {d} first a h =
      let v : ℕ = past g.source g.image (at + 13) in
      let w : ℕ = past g.source g.image v in
      fewer
      ((sound_opening i.span.start first (from_start (ranged a.1.head)) ⨾ sound_says "record " refl ⨾ sound_ident a.1)
      ⨾ some_params ps v (omega arith) a.2
      ⨾ sound_says " " refl
      ⨾ sound_separated commented "{" "}" "," refl refl refl
      (all_fields commented fs (w + 13) (past g.source g.image w) {d = d - 2} a.4 (omega arith)) s (ranged a.3).fits Wrap
      (omega arith) (omega arith))
      (omega (arith, a.1.head.long, a.3.long, a.5.same))
  sound_declaration (enum_decl i ps s vs) at {d} first a h =
      let v : ℕ = past g.source g.image (at + 13) in
      let w : ℕ = past g.source g.image v in
      fewer
      ((sound_opening i.span.start first (from_start (ranged a.1.head)) ⨾ sound_says "enum " refl ⨾ sound_ident a.1)
      ⨾ some_params ps v (omega arith) a.2
      ⨾ sound_says " " refl
      ⨾ sound_separated commented "{" "}" "," refl refl refl
      (all_variants vs (w + 13) (past g.source g.image w) {d = d - 2} a.4 (omega arith)) s (ranged a.3).fits Wrap
      (omega arith) (omega arith))
      (omega (arith, a.1.head.long, a.3.long, a.5.same))
  sound_declaration (function i s fs nothing b) at first a h =
      let v : ℕ = past g.source g.image (at + 13) in
      let w : ℕ = past g.source g.image v in
      fewer
      ((sound_opening i.span.start first (from_start (ranged a.1.head)) ⨾ sound_says "fn " refl ⨾ sound_ident a.1)
      ⨾ sound_params fs s v a.2 a.3 (omega arith)
      ⨾ sound_says " " refl
      ⨾ sound_skip
      ⨾ sound_block commented b (past g.source g.image w) a.5 (omega arith))
      (omega (arith, a.1.head.long, a.6.same))
  sound_declaration (function i s fs (Some t) b) at first a h =
      let v : ℕ = past g.source g.image (at + 13) in
      let w : ℕ = past g.source g.image v in
      fewer
      ((sound_opening i.span.start first (from_start (ranged a.1.head)) ⨾ sound_says "fn " refl ⨾ sound_ident a.1)
      ⨾ sound_params fs s v a.2 a.3 (omega arith)
      ⨾ sound_says " " refl
      ⨾ (sound_says "-> " refl ⨾ sound_type commented t w a.4 (omega arith) ⨾ sound_says " " refl)
      ⨾ sound_block commented b (past g.source g.image w) a.5 (omega arith))
      (omega (arith, a.1.head.long, a.6.same))
  sound_declaration (test i b) at first a h =
      let v : ℕ = past g.source g.image (at + 13) in
      fewer
      ((sound_opening i.span.start first (from_start (ranged a.1.head)) ⨾ sound_says "test " refl ⨾ sound_ident a.1)
      ⨾ sound_says " " refl
      ⨾ sound_block commented b v a.2 (omega arith))
      (omega (arith, a.1.head.long, a.3.same))
  sound_declaration (import_decl i) at first a h =
      let r : Ranged g.source (import_span i) = import_ranged commented i at a in
      fewer
      (sound_opening (import_span i).start first (from_start r)
      ⨾ sound_says "import " refl
      ⨾ sound_import commented i at a h
      ⨾ sound_says ";" refl)
      (omega (arith, import_long commented i at a))

  pub sound_declarations : (xs : List Declaration) (at end : ℕ) {d : ℕ} (first : Bool) → DeclarationsAt g.source g.image xs at end
      → 2 * declarations_height xs ≤ d → Sounds g (BYTE_GIVES * (end - at)) d (declarations_rule g xs first)
  unfolding declarations_rule DeclarationsAt declarations_height points
  sound_declarations [] at end first a h = fewer sound_skip (omega arith)
  sound_declarations (x ∷ xs) at end first a h =
      fewer
      (sound_declaration x at first a.0 (omega arith)
      ⨾ sound_declarations xs (past g.source g.image at) end false a.2 (omega arith))
      (omega (arith, a.1.least))

  -- ---- the whole document
  pub sound_shebang : (i : Option Ident) (at : ℕ) {d : ℕ} → Maybe g.source g.image (IdentAt g.source g.image) i at
      → Sounds g (2 * ROW_TAKES) d (shebang_rule g i)
  unfolding shebang_rule Maybe
  sound_shebang nothing at a = fewer sound_skip (omega arith)
  sound_shebang (Some i) at a =
      sound_str
      (record {
        origin = omega arith;
        fits = omega (arith, trim_before g.image i.start (i.start + i.size), a.ends, a.head.fits);
        due = no_word (omega arith);
        formed = shebang_formed a;
        uncut = uncut _ _ (range_start _ _ _ (ident_range a));
      })
      (supplied _ a)
      ⨾ sound_empty_line

  -- comments that wait take three rows each at most, as all do, so that closing takes one of the bytes' own
  pub sound_closing : {d : ℕ} (t : SyntaxTree) (keeps : Bool) → Sounds g ROW_TAKES d (closing g t keeps)
  sound_closing t true = fewer (sound_gap commented _ _ _ false (omega arith) ⨾ sound_line) (omega arith)
  sound_closing t false = sound_line

  pub sound_whole : (t : SyntaxTree) (at : ℕ) {d : ℕ} (keeps : Bool) → TreeAt g.source g.image t at → 2 * tree_height t ≤ d + 2
      → Sounds g (points g at 0) d (whole_rule g t keeps)
  unfolding tree_height points
  sound_whole t at keeps a h =
      fewer
      (sound_shebang t.shebang (at + 13) a.shebang
      ⨾ sound_declarations t.declarations (past g.source g.image (at + 13)) (past g.source g.image at) true a.declarations (omega arith)
      ⨾ sound_closing t keeps)
      (omega (arith, a.inside.least))
