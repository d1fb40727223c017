-- Laws of declarations: their forms by the kind byte, their optional parts, and declarations one after the other.
-- Assumes nothing.
use mathlib.Core.Path.{◌≡◌, refl, sym, ap, subst, ◌∙◌}
use mathlib.Core.Bool.{Bool, true, false}
use mathlib.Core.List.{List, [], ◌∷◌}
use Rattle.std.specs.Prelude.{Option, None, Some}
use Prim.Native.Nat.{ℕ, ◌+◌, ◌-◌, ◌≤◌, ◌<◌}
use native.Mathlib.Omega.{arith}
use lib.ListN.{length}
use lib.Dec.{eqb}
use Rattle.text.specs.Space.{trim_end}
use Rattle.image.specs.Bytes.{be32}
use Rattle.image.specs.Read.{width_bytes, stored_width, stop_at, kind_at}
use Rattle.ast.specs.Syntax.{Ident, Idents, TypeExpr, Import, import, Declaration, filter_map, const, record_decl, enum_decl, function, test, import_decl}
use Rattle.tree.specs.At.{IdentAt, IdentsAt, ListAt, Maybe, TypeAt, ImportAt, DeclarationAt, DeclarationsAt}
use Rattle.rows.specs.Node.{str, empty_line}
use Rattle.acts.specs.Act.{Act, ◌⨟◌, push, says}
use Rattle.acts.specs.Laid.{text, Room}
use Rattle.acts.specs.declared.Cursor.{Cursor}
use Rattle.acts.proofs.Laws.{Lays, lays_then, lays_skip, room_first, room_next}
use Rattle.comments.specs.Listed.{given}
use Rattle.comments.specs.AllIn.{AllIn}
use Rattle.comments.proofs.Offsets.{in_first, in_none}
use Rattle.layout.specs.Layout.{type_expr, unless_empty, some_type_params, return_type, declaration, shebang_rule, declarations_rule}
use Rattle.layout.specs.Promises.{HasIn, HasAllIn, Readable}
use Rattle.comments.specs.Record.{Whole}
use Rattle.layout.specs.Numbers.{HasKind}
use Rattle.layout.specs.Elems.{type_params_rule}
use Rattle.layout.specs.Forms.{two, three, four, five, OfDeclaration, declaration_rule, any_declaration}
use Rattle.layout.specs.Forms.{MaybeListAt, MaybeTypeAt, MaybeIdentAt, declarations_from}
use Rattle.layout.proofs.Places.{head_whole, type_whole, import_whole}
use Rattle.layout.proofs.Lays.{LaysAll, LaysAs}

-- d is of the form mk
abbrev pub IsDeclaration : {X : Type 0} → (X → Declaration) → Declaration → Type 0
IsDeclaration {X} mk d = (x : X) × (mk x ≡ d)

abbrev pick : Bool → Type 0 → Type 0 → Type 0
pick true a b = a
pick false a b = b

-- the form that each kind says
abbrev DeclarationIs : ℕ → Declaration → Type 0
DeclarationIs k d =
    pick (eqb k 10) (IsDeclaration (four filter_map) d)
    (pick (eqb k 11) (IsDeclaration (three const) d)
    (pick (eqb k 12) (IsDeclaration (four record_decl) d)
    (pick (eqb k 13) (IsDeclaration (four enum_decl) d)
    (pick (eqb k 14) (IsDeclaration (five function) d)
    (pick (eqb k 15) (IsDeclaration (two test) d)
    (IsDeclaration import_decl d))))))

module _ (s b : List ℕ) (at : ℕ) where
  import_kind : (i : Import) → ImportAt s b i at → kind_at b at ≡ 16
  unfolding ImportAt
  import_kind (import p q g) a = a.0.kinds

  pub declaration_is : (k : ℕ) → kind_at b at ≡ k → (d : Declaration) → DeclarationAt s b d at → DeclarationIs k d
  unfolding DeclarationAt
  declaration_is k q (filter_map x y z w) a = subst (λ (n : ℕ). DeclarationIs n (filter_map x y z w)) (sym a.0.head.kinds ∙ q) ((x, y, z, w), refl)
  declaration_is k q (const x y z) a = subst (λ (n : ℕ). DeclarationIs n (const x y z)) (sym a.0.head.kinds ∙ q) ((x, y, z), refl)
  declaration_is k q (record_decl x y z w) a = subst (λ (n : ℕ). DeclarationIs n (record_decl x y z w)) (sym a.0.head.kinds ∙ q) ((x, y, z, w), refl)
  declaration_is k q (enum_decl x y z w) a = subst (λ (n : ℕ). DeclarationIs n (enum_decl x y z w)) (sym a.0.head.kinds ∙ q) ((x, y, z, w), refl)
  declaration_is k q (function x y z w v) a = subst (λ (n : ℕ). DeclarationIs n (function x y z w v)) (sym a.0.head.kinds ∙ q) ((x, y, z, w, v), refl)
  declaration_is k q (test x y) a = subst (λ (n : ℕ). DeclarationIs n (test x y)) (sym a.0.head.kinds ∙ q) ((x, y), refl)
  declaration_is k q (import_decl x) a = subst (λ (n : ℕ). DeclarationIs n (import_decl x)) (sym (import_kind x a) ∙ q) (x, refl)

  pub declaration_kind : (d : Declaration) → DeclarationAt s b d at → (10 ≤ kind_at b at) × (kind_at b at ≤ 16)
  unfolding DeclarationAt
  declaration_kind (filter_map x y z w) a = (omega (arith, a.0.head.kinds), omega (arith, a.0.head.kinds))
  declaration_kind (const x y z) a = (omega (arith, a.0.head.kinds), omega (arith, a.0.head.kinds))
  declaration_kind (record_decl x y z w) a = (omega (arith, a.0.head.kinds), omega (arith, a.0.head.kinds))
  declaration_kind (enum_decl x y z w) a = (omega (arith, a.0.head.kinds), omega (arith, a.0.head.kinds))
  declaration_kind (function x y z w v) a = (omega (arith, a.0.head.kinds), omega (arith, a.0.head.kinds))
  declaration_kind (test x y) a = (omega (arith, a.0.head.kinds), omega (arith, a.0.head.kinds))
  declaration_kind (import_decl x) a = (omega (arith, import_kind x a), omega (arith, import_kind x a))

  pub declaration_whole : (d : Declaration) → DeclarationAt s b d at → Whole b at
  unfolding DeclarationAt
  declaration_whole (filter_map x y z w) a = head_whole a.0.head
  declaration_whole (const x y z) a = head_whole a.0.head
  declaration_whole (record_decl x y z w) a = head_whole a.0.head
  declaration_whole (enum_decl x y z w) a = head_whole a.0.head
  declaration_whole (function x y z w v) a = head_whole a.0.head
  declaration_whole (test x y) a = head_whole a.0.head
  declaration_whole (import_decl x) a = import_whole s b at x a

  pub declaration_has_kind : (d : Declaration) → DeclarationAt s b d at → HasKind 10 16 b at
  declaration_has_kind d a = let k = declaration_kind d a in record { whole = declaration_whole d a; least = k.0; most = k.1 }

-- a declaration whose form is known
module _ {s b : List ℕ} {at : ℕ} {X : Type 0} (mk : X → Declaration) (f : (d : Declaration) → DeclarationAt s b d at → IsDeclaration mk d) where
  pub declaration_has : (first : Bool) {c : Cursor} → HasIn (OfDeclaration any_declaration) (declaration_rule any_declaration first) s b at c
      → HasIn (OfDeclaration mk) (declaration_rule mk first) s b at c
  declaration_has first {c} h =
      let x = f h.tree h.held in
      record {
        accepted = h.accepted;
        tree = x.0;
        held = subst (λ (d : Declaration). DeclarationAt s b d at) (sym x.1) h.held;
        room = subst (λ (d : Declaration). Room (declaration (given s b) d first) c) (sym x.1) h.room;
      }

  pub declaration_laid : (first : Bool) {x y : List ℕ} {c d : Cursor} → LaysAs (OfDeclaration mk) (declaration_rule mk first) s b at x c y d
      → LaysAs (OfDeclaration any_declaration) (declaration_rule any_declaration first) s b at x c y d
  declaration_laid first {x} {y} {c} {d} l =
      record {
        of =
            λ e a.
            let z = f e a in
            subst (λ (u : Declaration). Lays (declaration (given s b) u first) x c y d) z.1
            (l.of z.0 (subst (λ (u : Declaration). DeclarationAt s b u at) (sym z.1) a));
      }

-- ---- optional parts
pub params_whole : (s b : List ℕ) (at : ℕ) → (be32 b at ≡ 0 → ⊥) → (m : Option Idents) → MaybeListAt s b m at → Whole b at
unfolding Maybe
params_whole s b at f None a = absurd (f a.zero)
params_whole s b at f (Some is) a = head_whole a.head

module _ {s b : List ℕ} {at : ℕ} where
  pub params_has : {c : Cursor} → (be32 b at ≡ 0 → ⊥) → (at + 13 ≡ stop_at b at → ⊥) → HasIn MaybeListAt some_type_params s b at c
      → HasIn ListAt type_params_rule s b at c
  unfolding Maybe IdentsAt
  params_has {c} f g h = go h.tree h.held h.room
    where
      inner : (is : List Ident) (w : Act) → IdentsAt s b is (at + 13) (stop_at b at) → Room (unless_empty is w) c → Room w c
      inner [] w a room = absurd (g a.same)
      inner (i ∷ is) w a room = room

      go : (m : Option Idents) → MaybeListAt s b m at → Room (some_type_params (given s b) m) c → HasIn ListAt type_params_rule s b at c
      go None a room = absurd (f a.zero)
      go (Some is) a room =
          record { accepted = h.accepted; tree = is; held = a; room = inner is.elems (type_params_rule (given s b) is) a.elems room }

  pub no_params : {x : List ℕ} {c : Cursor} → be32 b at ≡ 0 → LaysAs MaybeListAt some_type_params s b at x c x c
  unfolding Maybe
  no_params {x} {c} e = record { of = go }
    where
      go : (m : Option Idents) → MaybeListAt s b m at → Lays (some_type_params (given s b) m) x c x c
      go None a = lays_skip
      go (Some is) a = absurd (omega (arith, e, a.head.long))

  pub empty_params : {x : List ℕ} {c : Cursor} → at + 13 ≡ stop_at b at → LaysAs MaybeListAt some_type_params s b at x c x c
  unfolding Maybe IdentsAt
  empty_params {x} {c} e = record { of = go }
    where
      inner : (is : List Ident) (w : Act) → IdentsAt s b is (at + 13) (stop_at b at) → Lays (unless_empty is w) x c x c
      inner [] w a = lays_skip
      inner (i ∷ is) w a = absurd (omega (arith, e, a.0.head.long, a.1.least))

      go : (m : Option Idents) → MaybeListAt s b m at → Lays (some_type_params (given s b) m) x c x c
      go None a = lays_skip
      go (Some is) a = inner is.elems (type_params_rule (given s b) is) a.elems

  pub some_params : {x y : List ℕ} {c d : Cursor} → (be32 b at ≡ 0 → ⊥) → (at + 13 ≡ stop_at b at → ⊥)
      → LaysAs ListAt type_params_rule s b at x c y d → LaysAs MaybeListAt some_type_params s b at x c y d
  unfolding Maybe IdentsAt
  some_params {x} {y} {c} {d} f g l = record { of = go }
    where
      inner : (is : List Ident) (w : Act) → IdentsAt s b is (at + 13) (stop_at b at) → Lays w x c y d → Lays (unless_empty is w) x c y d
      inner [] w a m = absurd (g a.same)
      inner (i ∷ is) w a m = m

      go : (m : Option Idents) → MaybeListAt s b m at → Lays (some_type_params (given s b) m) x c y d
      go None a = absurd (f a.zero)
      go (Some is) a = inner is.elems (type_params_rule (given s b) is) a.elems (l.of is a)

  pub return_has : {c : Cursor} → (be32 b at ≡ 0 → ⊥) → HasIn MaybeTypeAt return_type s b at c
      → HasIn TypeAt (λ g t. says "-> " ⨟ type_expr g t ⨟ says " ") s b at c
  unfolding Maybe
  return_has {c} f h = go h.tree h.held h.room
    where
      go : (m : Option TypeExpr) → MaybeTypeAt s b m at → Room (return_type (given s b) m) c
          → HasIn TypeAt (λ g t. says "-> " ⨟ type_expr g t ⨟ says " ") s b at c
      go None a room = absurd (f a.zero)
      go (Some t) a room = record { accepted = h.accepted; tree = t; held = a; room = room }

  pub no_return : {x : List ℕ} {c : Cursor} → be32 b at ≡ 0 → LaysAs MaybeTypeAt return_type s b at x c x c
  unfolding Maybe
  no_return {x} {c} e = record { of = go }
    where
      go : (m : Option TypeExpr) → MaybeTypeAt s b m at → Lays (return_type (given s b) m) x c x c
      go None a = lays_skip
      go (Some t) a = absurd (omega (arith, e, (type_whole s b at t a).long))

  pub some_return : {x y z w : List ℕ} {c d e f : Cursor} → (be32 b at ≡ 0 → ⊥) → Lays (says "-> ") x c y d → LaysAs TypeAt type_expr s b at y d z e
      → Lays (says " ") z e w f → LaysAs MaybeTypeAt return_type s b at x c w f
  unfolding Maybe
  some_return {x} {y} {z} {w} {c} {d} {e} {f} g l m n = record { of = go }
    where
      go : (q : Option TypeExpr) → MaybeTypeAt s b q at → Lays (return_type (given s b) q) x c w f
      go None a = absurd (g a.zero)
      go (Some t) a = lays_then l (lays_then (m.of t a) n)

  pub has_ident : {c : Cursor} → (be32 b at ≡ 0 → ⊥) → HasIn MaybeIdentAt shebang_rule s b at c → HasIn IdentAt (λ g i. shebang_rule g (Some i)) s b at c
  unfolding Maybe
  has_ident {c} f h = go h.tree h.held h.room
    where
      go : (m : Option Ident) → MaybeIdentAt s b m at → Room (shebang_rule (given s b) m) c → HasIn IdentAt (λ g i. shebang_rule g (Some i)) s b at c
      go None a room = absurd (f a.zero)
      go (Some i) a room = record { accepted = h.accepted; tree = i; held = a; room = room }

  -- the rows of a shebang by the numbers of its record
  pub shebang_same : {v w f n : ℕ} {i : Ident} → IdentAt s b i at → w ≡ stored_width b at → v ≡ width_bytes b → f ≡ at + 13 + v
      → n ≡ trim_end b f (stop_at b at) - f
      → (push (str w (text 1 f n)) ⨟ push empty_line) ≡ shebang_rule (given s b) (Some i)
  unfolding shebang_rule
  shebang_same {v} {w} {f} {n} {i} a p e q r =
      let h : f ≡ i.start = q ∙ ap (λ (x : ℕ). at + 13 + x) e ∙ a.starts in
      let k : n ≡ trim_end b i.start (i.start + i.size) - i.start = r ∙ rw (h, a.ends) in
      let wide : w ≡ i.width = p ∙ a.wide in
      rw (wide, k, h)

  pub no_shebang : {x : List ℕ} {c : Cursor} → be32 b at ≡ 0 → LaysAs MaybeIdentAt shebang_rule s b at x c x c
  unfolding Maybe shebang_rule
  no_shebang {x} {c} e = record { of = go }
    where
      go : (m : Option Ident) → MaybeIdentAt s b m at → Lays (shebang_rule (given s b) m) x c x c
      go None a = lays_skip
      go (Some i) a = absurd (omega (arith, e, a.head.long))

  pub some_shebang : {v w f n : ℕ} {x y z : List ℕ} {c d e : Cursor} → (be32 b at ≡ 0 → ⊥) → w ≡ stored_width b at → v ≡ width_bytes b → f ≡ at + 13 + v
      → n ≡ trim_end b f (stop_at b at) - f → Lays (push (str w (text 1 f n))) x c y d → Lays (push empty_line) y d z e
      → LaysAs MaybeIdentAt shebang_rule s b at x c z e
  unfolding Maybe
  some_shebang {v} {w} {f} {n} {x} {y} {z} {c} {d} {e} g p o q r l m = record { of = go }
    where
      go : (i : Option Ident) → MaybeIdentAt s b i at → Lays (shebang_rule (given s b) i) x c z e
      go None a = absurd (g a.zero)
      go (Some i) a = subst (λ (v : Act). Lays v x c z e) (shebang_same a p o q r) (lays_then l m)

-- ---- declarations one after the other
pub record MoreDeclarations (first : Bool) (s b : List ℕ) (p to : ℕ) (c : Cursor) : Type 0 where
  pub accepted : Readable b
  pub tree : Declaration
  pub held : DeclarationAt s b tree p
  pub whole : Whole b p
  pub least : stop_at b p ≤ to
  pub inside : to ≤ length b
  pub rest : List Declaration
  pub rest_held : DeclarationsAt s b rest (stop_at b p) to
  pub room : Room (declaration (given s b) tree first ⨟ declarations_rule (given s b) rest false) c

module _ (first : Bool) {s b : List ℕ} {p to : ℕ} {c : Cursor} where
  pub declarations_first : p < to → HasAllIn DeclarationsAt (declarations_from first) s b p to c → MoreDeclarations first s b p to c
  unfolding DeclarationsAt declarations_rule
  declarations_first lt h = go h.tree h.held h.room
    where
      go : (ds : List Declaration) → DeclarationsAt s b ds p to → Room (declarations_from first (given s b) ds) c → MoreDeclarations first s b p to c
      go [] a room = absurd (omega (arith, a.same))
      go (d ∷ ds) a room =
          record {
            accepted = h.accepted;
            tree = d;
            held = a.0;
            whole = declaration_whole s b p d a.0;
            least = a.1.least;
            inside = h.inside;
            rest = ds;
            rest_held = a.2;
            room = room;
          }

  pub first_has : MoreDeclarations first s b p to c → HasIn (OfDeclaration any_declaration) (declaration_rule any_declaration first) s b p c
  first_has m = record { accepted = m.accepted; tree = m.tree; held = m.held; room = room_first _ m.room }

  pub rest_has : {x y : List ℕ} {d : Cursor} (m : MoreDeclarations first s b p to c)
      → LaysAs (OfDeclaration any_declaration) (declaration_rule any_declaration first) s b p x c y d
      → HasAllIn DeclarationsAt (declarations_from false) s b (stop_at b p) to d
  rest_has m l =
      record {
        accepted = m.accepted;
        tree = m.rest;
        held = m.rest_held;
        inside = m.inside;
        room = room_next m.room (l.of m.tree m.held);
      }

module _ {s b : List ℕ} {p to : ℕ} where
  pub declarations_none : (first : Bool) {x : List ℕ} {c : Cursor} → to ≤ p → LaysAll DeclarationsAt (declarations_from first) s b p to x c x c
  unfolding DeclarationsAt declarations_rule
  declarations_none first {x} {c} le = record { of = go }
    where
      go : (ds : List Declaration) → DeclarationsAt s b ds p to → Lays (declarations_from first (given s b) ds) x c x c
      go [] a = lays_skip
      go (d ∷ ds) a = absurd (omega (arith, a.1.least, (declaration_whole s b p d a.0).long))

  pub declarations_more : (first : Bool) {x y z : List ℕ} {c d e : Cursor} → p < to
      → LaysAs (OfDeclaration any_declaration) (declaration_rule any_declaration first) s b p x c y d
      → LaysAll DeclarationsAt (declarations_from false) s b (stop_at b p) to y d z e → LaysAll DeclarationsAt (declarations_from first) s b p to x c z e
  unfolding DeclarationsAt declarations_rule
  declarations_more first {x} {y} {z} {c} {d} {e} lt l r = record { of = go }
    where
      go : (ds : List Declaration) → DeclarationsAt s b ds p to → Lays (declarations_from first (given s b) ds) x c z e
      go [] a = absurd (omega (arith, a.same))
      go (i ∷ ds) a = lays_then (l.of i a.0) (r.of ds a.2)

-- declarations one after the other lie in the image
pub declarations_in : (s b : List ℕ) (from to : ℕ) (ds : List Declaration) → to ≤ length b → DeclarationsAt s b ds from to → AllIn b from to
unfolding DeclarationsAt
declarations_in s b from to [] h a = in_none b from to (omega (arith, a.same))
declarations_in s b from to (d ∷ ds) h a =
    let w = declaration_whole s b from d a.0 in
    in_first b from to (omega (arith, w.long, a.1.least)) w.fits (declarations_in s b (stop_at b from) to ds h a.2)
