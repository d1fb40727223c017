-- The rules without expressions are sound: a part takes no more rows than its record's bytes give, and goes two rows deeper with each record.
-- Assumes nothing.
use Prim.Native.Nat.{ℕ, ◌+◌, ◌*◌, ◌-◌, ◌≤◌}
use Prim.Native.String.{String}
use mathlib.Core.Path.{◌≡◌, refl, sym, ap, ◌∙◌}
use mathlib.Core.Bool.{Bool, true, false, not, ◌&&◌}
use mathlib.Core.List.{List, [], ◌∷◌}
use Rattle.std.specs.Prelude.{None as nothing, Some}
use native.Mathlib.Omega.{arith}
use lib.ListN.{length, take, drop}
use lib.Text.{eqt}
use borrow.Author.Tests.{le-leb}
use Rattle.text.specs.Utf8.{well_formed, boundary}
use Rattle.text.specs.Space.{trim_end}
use Rattle.text.specs.Newlines.{is_range}
use Rattle.text.proofs.Counts.{range_inside, range_start}
use Rattle.text.proofs.Cuts.{uncut, text_range, trimmed_formed}
use Rattle.text.proofs.Parts.{between, well_formed_between}
use Rattle.image.specs.Bytes.{be32, part}
use Rattle.image.specs.Read.{width_bytes, stop_at}
use Rattle.ast.specs.Syntax.{Span, Ident, Path, Idents, TypeExpr, type, TypeForm, option, type_path, never, unit, record_type, TypeArgs, no_args, args}
use Rattle.ast.specs.Syntax.{Types, no_types, ◌∷ᵗ◌, Fields, no_fields, field, Import, import, ImportGroup, no_group, group, Imports, no_imports, ◌∷ⁱ◌}
use Rattle.ast.specs.Syntax.{Pattern, underscore, enum_variant}
use Rattle.tree.specs.At.{Head, past, IdentAt, IdentsAt, PathAt, ListAt, Maybe, TypeAt, TypeFormAt, TypeArgsAt, TypesAt, FieldsAt, ImportAt}
use Rattle.tree.specs.At.{ImportGroupAt, ImportsAt, PatternAt}
use Rattle.rows.specs.Node.{Text, wrap_parent}
use Rattle.rows.specs.Words.{among, word, is_word}
use Rattle.rows.proofs.Table.{words_there, word_inside}
use Rattle.renderer_rules.proofs.ByRule.{word_formed, word_uncut}
use Rattle.acts.specs.Act.{Given, Act, push, says, when}
use Rattle.layout.specs.declared.forms.WrapStyle.{WrapStyle}
use Rattle.layout.specs.declared.forms.WrapStyle.TheVariants.{Tight, Spaced, Wrap}
use Rattle.layout.specs.Layout.{edge, is_wrap, opens, ends, inside, before_elem, path_next, Elem, elements, separated, path_more, path_rule, ident}
use Rattle.layout.specs.Layout.{ident_elems, type_expr, type_form, type_args, type_elems, field_elems, last_span, import_path, import_group, import_items}
use Rattle.layout.specs.Layout.{import_elems, pattern, type_span, import_span, is_group, one_or}
use Rattle.layout_facts.specs.Sound.{Worded, Inside, Supplied, Ranged, Commented, BYTE_GIVES, ROW_TAKES, Sounds}
use Rattle.layout_facts.specs.Height.{type_height, type_form_height, args_height, types_height, fields_height, import_height, group_height, imports_height}
use Rattle.layout_facts.proofs.Steps.{◌⨾◌, fewer, sound_skip, sound_line, sound_line_or_space, sound_wrap_parent, sound_ascii, sound_str, sound_if_wrap}
use Rattle.layout_facts.proofs.Steps.{sound_when, sound_grouped, sound_indented}
use Rattle.layout_facts.proofs.Gaps.{sound_gap, sound_trailing}

-- ---- the fixed words
-- a word that the rules may say, by computation
abbrev pub Fits : String → Type 0
Fits w = is_word w ≡ true

pub inside_word : {g : Given} (w : String) → Fits w → Inside g (word w)
unfolding word
inside_word w e =
    record {
      origin = omega arith;
      fits = word_inside w e;
      due = λ i. record { letters = w; same = refl; there = words_there w e };
      formed = word_formed (word w).start (word w).size (word_inside w e);
      uncut = word_uncut (word w).start (word w).size (word_inside w e);
    }

-- a text of the source or the image is no word
pub no_word : {t : Text} → t.origin ≤ 1 → t.origin ≡ 2 → Worded t
no_word l e = absurd (omega arith)

pub sound_says : {g : Given} {d : ℕ} (w : String) → Fits w → Sounds g ROW_TAKES d (says w)
sound_says w e = sound_ascii (inside_word w e)

-- ---- spans and texts
pub sized : (s : List ℕ) (x n : ℕ) → well_formed (between s x (x + n)) ≡ true → well_formed (take n (drop x s)) ≡ true
sized s x n e = let same : x + n - x ≡ n = omega arith in rw same at e

-- a range of the source is UTF-8 and cuts nothing
pub range_formed : (s : List ℕ) (x y : ℕ) → well_formed s ≡ true → is_range s x y ≡ true → well_formed (take (y - x) (drop x s)) ≡ true
range_formed s x y f r = well_formed_between s x y r f

pub ranged : {s b : List ℕ} {k at : ℕ} {p : Span} → Head s b k p at → Ranged s p
ranged {s} {p = p} h =
    let r = range_inside s p.start p.end h.range in
    record { ordered = omega (arith, r); fits = omega (arith, r); range = h.range }

pub from_start : {s : List ℕ} {p : Span} → Ranged s p → p.start ≤ length s
from_start r = omega (arith, r.ordered, r.fits)

pub supplied : {g : Given} {at : ℕ} {i : Ident} (t : Text) → IdentAt g.source g.image i at → Supplied g (g.columns i.width t) t
supplied {g} {at} t a = record { at = at; same = ap (λ (n : ℕ). g.columns n t) (sym a.wide) }

-- a text of the image is a range of it, though the image isn't UTF-8
module _ {s b : List ℕ} {i : Ident} {at : ℕ} (a : IdentAt s b i at) where
  ends_clear : boundary b (i.start + i.size) ≡ true
  unfolding boundary
  ends_clear = rw a.ends (rw (le-leb (stop_at b at) (length b) a.head.fits, a.clear.starts))

  same_part : between b i.start (i.start + i.size) ≡ part (at + 13 + width_bytes b) (stop_at b at) b
  same_part =
      ap (λ (n : ℕ). part i.start n b) a.ends ∙ ap (λ (n : ℕ). part n (stop_at b at) b) (sym a.starts)

  between_formed : well_formed (between b i.start (i.start + i.size)) ≡ true
  between_formed = ap well_formed same_part ∙ a.formed

  pub ident_range : is_range b i.start (i.start + i.size) ≡ true
  ident_range =
      text_range b i.start (i.start + i.size) (omega arith) (omega (arith, a.ends, a.head.fits)) between_formed ends_clear

  pub ident_formed : well_formed (take i.size (drop i.start b)) ≡ true
  ident_formed = sized b i.start i.size between_formed

  pub shebang_formed : well_formed (take (trim_end b i.start (i.start + i.size) - i.start) (drop i.start b)) ≡ true
  shebang_formed = trimmed_formed b i.start (i.start + i.size) ident_range between_formed

pub sound_ident : {g : Given} {d at : ℕ} {i : Ident} → IdentAt g.source g.image i at → Sounds g ROW_TAKES d (ident g i)
sound_ident {i = i} a =
    sound_str
    (record {
      origin = omega arith;
      fits = omega (arith, a.ends, a.head.fits);
      due = no_word (omega arith);
      formed = ident_formed a;
      uncut = uncut _ _ (range_start _ _ _ (ident_range a));
    })
    (supplied _ a)

-- what the bytes of the record at `at` give, less k rows that are left for what stands around it
unfoldable pub points : Given → ℕ → ℕ → ℕ
points g at k = BYTE_GIVES * (4 + be32 g.image at) - ROW_TAKES * k

pub points_most : (g : Given) (at k : ℕ) → points g at k ≤ BYTE_GIVES * (4 + be32 g.image at)
unfolding points
points_most g at k = omega arith

-- a record gives four rows at least
pub points_left : (g : Given) (at k : ℕ) → k ≤ 4 → 9 ≤ be32 g.image at → points g at k + ROW_TAKES * k ≡ BYTE_GIVES * (4 + be32 g.image at)
unfolding points
points_left g at k h l = omega arith

pub leaving : {g : Given} {a : Act} {n d : ℕ} (at k : ℕ) → Sounds g n d a
    → n + ROW_TAKES * k ≤ BYTE_GIVES * (4 + be32 g.image at) → Sounds g (points g at k) d a
unfolding points
leaving at k p h = fewer p (omega arith)

module _ (g : Given) where
  -- elements of `separated` for n points, at most d deep; each but the first has two rows before it
  pub data All : ℕ → ℕ → List Elem → Type 0 where
    none : {n d : ℕ} → All n d []
    more : {e : Elem} {es : List Elem} {k m n d : ℕ} → e.start ≤ length g.source → Sounds g k d e.act → All m d es → 2 * ROW_TAKES + (k + m) ≤ n
        → All n d (e ∷ es)

pub also : {g : Given} {e : Elem} {es : List Elem} {k m n d : ℕ} → e.start ≤ length g.source
    → Sounds g k d e.act → All g m d es → 2 * ROW_TAKES + (k + m) ≤ n
    → All g n d (e ∷ es)
also h p ps i = more h p ps i

module _ {g : Given} (commented : Commented g) where
  -- ---- `separated`
  sound_elements : (w : String) → Fits w → {es : List Elem} {n d : ℕ} → All g n d es → Sounds g n d (elements g w false es)
  unfolding elements before_elem
  sound_elements w f none = fewer sound_skip (omega arith)
  sound_elements w f (more {e} {es} {k} {m} {n} {d} h p ps i) =
      fewer
      ((sound_when (true && not (eqt w "")) (sound_says w f) ⨾ sound_gap commented e.start true true false h ⨾ sound_line_or_space)
      ⨾ p
      ⨾ sound_elements w f ps)
      (omega arith)

  -- the first of them, and the others
  sound_first : (w : String) → Fits w → {e : Elem} {es : List Elem} {k m d : ℕ} → e.start ≤ length g.source → Sounds g k d e.act
      → All g m d es → Sounds g (k + m) d (elements g w true (e ∷ es))
  unfolding elements before_elem
  sound_first w f {e} h p ps =
      fewer ((sound_skip ⨾ sound_gap commented e.start true true false h ⨾ sound_skip) ⨾ p ⨾ sound_elements w f ps) (omega arith)

  edged : {d : ℕ} (style : WrapStyle) → Sounds g ROW_TAKES d (edge style)
  edged Tight = sound_line
  edged Spaced = sound_line_or_space
  edged Wrap = sound_line

  -- the rows of `separated` besides its elements, if it has any, whose first has no rows before it
  abbrev around : WrapStyle → ℕ
  around Tight = 7
  around Spaced = 7
  around Wrap = 8

  around_least : (style : WrapStyle) → 7 ≤ around style
  around_least Tight = omega arith
  around_least Spaced = omega arith
  around_least Wrap = omega arith

  wrapped : {d : ℕ} (style : WrapStyle) → Sounds g (ROW_TAKES * (around style - 7)) d (when (is_wrap style) (push wrap_parent))
  wrapped Tight = sound_skip
  wrapped Spaced = sound_skip
  wrapped Wrap = sound_wrap_parent

  pub sound_separated : (start end w : String) → Fits start → Fits end → Fits w → {es : List Elem} {n c d : ℕ} → All g n c es → (s : Span)
      → s.end ≤ length g.source → (style : WrapStyle) → c + 2 ≤ d → 1 ≤ c → Sounds g (ROW_TAKES * around style + n) d (separated g start end w es s style)
  unfolding separated inside opens ends among
  sound_separated start end w f₁ f₂ f₃ {n = n} {c} {d} none s h style i j =
      fewer
      (sound_grouped {c = c + 1} (omega arith)
      (λ id.
      sound_says start f₁
      ⨾ sound_line
      ⨾ sound_indented {c = c} (omega arith) (sound_gap commented s.end false false false h)
      ⨾ sound_line
      ⨾ sound_says end f₂
      ⨾ sound_trailing commented))
      (omega (arith, around_least style))
  sound_separated start end w f₁ f₂ f₃ {n = n} {c} {d} (more h p ps i) s k style l m =
      fewer
      (sound_grouped {c = c + 1} (omega arith)
      (λ id.
      (wrapped style ⨾ sound_says start f₁ ⨾ edged style)
      ⨾ sound_indented {c = c} (omega arith)
      (sound_first w f₃ h p ps
      ⨾ (sound_when (not (eqt w "")) (sound_if_wrap m (inside_word w f₃) (inside_word "" refl))
      ⨾ sound_gap commented s.end true false false k))
      ⨾ edged style
      ⨾ sound_says end f₂
      ⨾ sound_trailing commented))
      (omega (arith, around_least style))

  -- ---- paths and lists of texts
  sound_path_more : (is : List Ident) (at end : ℕ) {d : ℕ} (t : Bool) → IdentsAt g.source g.image is at end
      → Sounds g (BYTE_GIVES * (end - at)) d (path_more g t is)
  unfolding path_more path_next IdentsAt among
  sound_path_more [] at end t a = fewer sound_skip (omega arith)
  sound_path_more (i ∷ is) at end t a =
      fewer
      ((sound_when t sound_line
      ⨾ sound_gap commented i.span.end false false false (ranged a.0.head).fits
      ⨾ sound_says "." refl
      ⨾ sound_ident a.0)
      ⨾ sound_path_more is (past g.source g.image at) end t a.2)
      (omega (arith, a.0.head.long, a.1.least))

  pub sound_path : (p : Path) (at : ℕ) {d : ℕ} (t u : Bool) → 2 ≤ d → PathAt g.source g.image p at
      → Sounds g (points g at 3) d (path_rule g p t u)
  unfolding path_rule points
  sound_path p at {d} true u h a =
      let rest = past g.source g.image (at + 13) in
      fewer
      (sound_grouped {c = 1} (omega arith)
      (λ id. sound_ident a.first ⨾ sound_indented {c = 0} (omega arith) (sound_path_more p.more rest (past g.source g.image at) u a.more))
      ⨾ sound_trailing commented)
      (omega (arith, a.inside.least, a.head.head.long, a.first.head.long))
  sound_path p at {d} false u h a =
      let rest = past g.source g.image (at + 13) in
      fewer
      (sound_ident a.first ⨾ sound_path_more p.more rest (past g.source g.image at) u a.more ⨾ sound_trailing commented)
      (omega (arith, a.inside.least, a.head.head.long, a.first.head.long))

  all_idents : (is : List Ident) (at end : ℕ) {d : ℕ} → IdentsAt g.source g.image is at end → All g (BYTE_GIVES * (end - at)) d (ident_elems g is)
  unfolding IdentsAt
  all_idents [] at end a = none
  all_idents (i ∷ is) at end a =
      also (from_start (ranged a.0.head)) (sound_ident a.0) (all_idents is (past g.source g.image at) end a.2)
      (omega (arith, a.0.head.long, a.1.least))

  pub sound_idents : (start end : String) → Fits start → Fits end → (is : Idents) (at : ℕ) {d : ℕ} → 3 ≤ d
      → ListAt g.source g.image is at
      → Sounds g (2 * ROW_TAKES + points g at 0) d (separated g start end "," (ident_elems g is.elems) is.span Tight)
  unfolding among points
  sound_idents start end f₁ f₂ is at {d} h a =
      fewer
      (sound_separated start end "," f₁ f₂ refl (all_idents is.elems (at + 13) (past g.source g.image at) {d = 1} a.elems) is.span
      (ranged a.head).fits Tight (omega arith) (omega arith))
      (omega (arith, a.head.long))

  -- ---- types
  pub type_ranged : (t : TypeExpr) (at : ℕ) → TypeAt g.source g.image t at → Ranged g.source (type_span t)
  unfolding TypeAt
  type_ranged (type s f) at a = ranged a.0

  type_long : (t : TypeExpr) (at : ℕ) → TypeAt g.source g.image t at → 9 ≤ be32 g.image at
  unfolding TypeAt
  type_long (type s f) at a = a.0.long

  mutual
    unfolding type_expr TypeAt type_height among points

    pub sound_type : (t : TypeExpr) (at : ℕ) {d : ℕ} → TypeAt g.source g.image t at → 2 * type_height t ≤ d
        → Sounds g (points g at 3) d (type_expr g t)
    sound_type (type s f) at a h = sound_type_form f at a.0.long a.1 h

    sound_type_form : (f : TypeForm) (at : ℕ) {d : ℕ} → 9 ≤ be32 g.image at → TypeFormAt g.source g.image f at
        → 2 * (1 + type_form_height f) ≤ d → Sounds g (points g at 3) d (type_form g f)
    sound_type_form (option t) at l a h =
        fewer (sound_type t (at + 13) a.0 (omega arith) ⨾ sound_says "?" refl) (omega (arith, a.1.same))
    sound_type_form (type_path p x) at l a h =
        fewer
        (sound_path p (at + 13) true true (omega arith) a.0
        ⨾ sound_type_args x (past g.source g.image (at + 13)) a.1 (omega arith))
        (omega (arith, a.2.same))
    sound_type_form never at l a h = fewer (sound_says "!" refl) (omega arith)
    sound_type_form unit at l a h = fewer (sound_says "()" refl) (omega arith)
    sound_type_form (record_type s fs) at {d} l a h =
        fewer
        (sound_separated "{" "}" "," refl refl refl (all_fields fs (at + 13 + 13) (past g.source g.image (at + 13)) {d = d - 2} a.1 (omega arith)) s
        (ranged a.0).fits Tight (omega arith) (omega arith))
        (omega (arith, a.2.same, a.0.long))

    sound_type_args : (x : TypeArgs) (at : ℕ) {d : ℕ} → TypeArgsAt g.source g.image x at → 2 * args_height x + 2 ≤ d
        → Sounds g (2 * ROW_TAKES + points g at 0) d (type_args g x)
    sound_type_args no_args at a h = fewer sound_skip (omega arith)
    sound_type_args (args s ts) at {d} a h =
        fewer
        (sound_separated "[" "]" "," refl refl refl (all_types ts (at + 13) (past g.source g.image at) {d = d - 2} a.1 (omega arith)) s
        (ranged a.0).fits Tight (omega arith) (omega arith))
        (omega (arith, a.0.long))

    pub all_types : (ts : Types) (at end : ℕ) {d : ℕ} → TypesAt g.source g.image ts at end → 2 * types_height ts ≤ d
        → All g (BYTE_GIVES * (end - at)) d (type_elems g ts)
    all_types no_types at end a h = none
    all_types (t ∷ᵗ ts) at end a h =
        also (from_start (type_ranged t at a.0)) (sound_type t at a.0 (omega arith))
        (all_types ts (past g.source g.image at) end a.2 (omega arith))
        (omega (arith, a.1.least, type_long t at a.0))

    pub all_fields : (fs : Fields) (at end : ℕ) {d : ℕ} → FieldsAt g.source g.image fs at end → 2 * fields_height fs ≤ d
        → All g (BYTE_GIVES * (end - at)) d (field_elems g fs)
    all_fields no_fields at end a h = none
    all_fields (field s i t fs) at end a h =
        also (from_start (ranged a.0))
        (sound_ident a.1 ⨾ sound_says ": " refl ⨾ sound_type t (past g.source g.image (at + 13)) a.2 (omega arith))
        (all_fields fs (past g.source g.image at) end a.5 (omega arith))
        (omega (arith, a.3.same, a.4.least, a.1.head.long))

  -- the last of some types
  pub last_ranged : (ts : Types) (t : TypeExpr) (at at' end : ℕ) → TypeAt g.source g.image t at
      → TypesAt g.source g.image ts at' end → Ranged g.source (last_span t ts)
  unfolding last_span TypesAt
  last_ranged no_types t at at' end a b = type_ranged t at a
  last_ranged (u ∷ᵗ us) t at at' end a b = last_ranged us u at' (past g.source g.image at') end b.0 b.2

  -- ---- imports
  pub import_ranged : (i : Import) (at : ℕ) → ImportAt g.source g.image i at → Ranged g.source (import_span i)
  unfolding ImportAt
  import_ranged (import s p q) at a = ranged a.0

  pub import_long : (i : Import) (at : ℕ) → ImportAt g.source g.image i at → 9 ≤ be32 g.image at
  unfolding ImportAt
  import_long (import s p q) at a = a.0.long

  sound_one_or : (is : Imports) {a b : Act} {n d : ℕ} → Sounds g n d a → Sounds g n d b → Sounds g n d (one_or g is a b)
  sound_one_or no_imports p q = p
  sound_one_or (i ∷ⁱ is) p q = q

  mutual
    unfolding import_path ImportAt Maybe import_height among points

    -- four rows are left, for what a declaration adds
    pub sound_import : (i : Import) (at : ℕ) {d : ℕ} → ImportAt g.source g.image i at → 2 * import_height i ≤ d
        → Sounds g (points g at 4) d (import_path g i)
    sound_import (import s nothing q) at a h =
        fewer
        (sound_skip ⨾ sound_skip ⨾ sound_import_group q (past g.source g.image (at + 13)) a.2 (omega arith))
        (omega (arith, a.3.same))
    sound_import (import s (Some p) q) at a h =
        fewer
        (sound_path p (at + 13) true false (omega arith) a.1
        ⨾ sound_when (true && is_group q) (sound_says "." refl)
        ⨾ sound_import_group q (past g.source g.image (at + 13)) a.2 (omega arith))
        (omega (arith, a.1.head.head.long, a.3.same))

    sound_import_group : (q : ImportGroup) (at : ℕ) {d : ℕ} → ImportGroupAt g.source g.image q at → 2 * group_height q + 2 ≤ d
        → Sounds g (2 * ROW_TAKES + points g at 0) d (import_group g q)
    sound_import_group no_group at a h = fewer sound_skip (omega arith)
    sound_import_group (group s is) at a h = sound_imports is s at (ranged a.0) a.0.long a.1 h

    sound_imports : (is : Imports) (s : Span) (at : ℕ) {d : ℕ} → Ranged g.source s → 9 ≤ be32 g.image at
        → ImportsAt g.source g.image is (at + 13) (past g.source g.image at) → 2 * (1 + imports_height is) + 2 ≤ d
        → Sounds g (2 * ROW_TAKES + points g at 0) d (import_items g s is)
    sound_imports no_imports s at {d} r l a h =
        fewer (sound_separated "{" "}" "," refl refl refl {n = 0} {c = 1} none s r.fits Tight (omega arith) (omega arith)) (omega arith)
    sound_imports (i ∷ⁱ is) s at {d} r l a h =
        sound_one_or is (fewer (sound_import i (at + 13) a.0 (omega arith)) (omega (arith, a.1.least)))
        (fewer
        (sound_separated "{" "}" "," refl refl refl
        (also {e = record { start = (import_span i).start; act = import_path g i }} {n = BYTE_GIVES * (be32 g.image at - 9)} {d = d - 2}
        (from_start (import_ranged i (at + 13) a.0)) (sound_import i (at + 13) a.0 (omega arith))
        (all_imports is (past g.source g.image (at + 13)) (past g.source g.image at) a.2 (omega arith))
        (omega (arith, a.1.least, import_long i (at + 13) a.0)))
        s r.fits Tight (omega arith) (omega arith))
        (omega arith))

    all_imports : (is : Imports) (at end : ℕ) {d : ℕ} → ImportsAt g.source g.image is at end → 2 * imports_height is ≤ d
        → All g (BYTE_GIVES * (end - at)) d (import_elems g is)
    all_imports no_imports at end a h = none
    all_imports (i ∷ⁱ is) at end a h =
        also (from_start (import_ranged i at a.0)) (sound_import i at a.0 (omega arith))
        (all_imports is (past g.source g.image at) end a.2 (omega arith))
        (omega (arith, a.1.least, import_long i at a.0))

  -- ---- patterns
  pub sound_pattern : (p : Pattern) (at : ℕ) {d : ℕ} → 3 ≤ d → PatternAt g.source g.image p at
      → Sounds g (points g at 3) d (pattern g p)
  unfolding pattern PatternAt Maybe among points
  sound_pattern underscore at h a = fewer (sound_says "_" refl) (omega (arith, a.0.head.long))
  sound_pattern (enum_variant i nothing) at h a = fewer (sound_ident a.1) (omega (arith, a.0.head.long))
  sound_pattern (enum_variant i (Some is)) at h a =
      fewer (sound_ident a.1 ⨾ sound_idents "(" ")" refl refl is (past g.source g.image (at + 13)) h a.2)
      (omega (arith, a.0.head.long, a.1.head.long, a.3.same))
