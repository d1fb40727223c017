-- Laws of imports: which parts are there by their lengths, and a group of one item.
-- Assumes nothing.
use mathlib.Core.Path.{◌≡◌, refl, sym, subst, ◌∙◌}
use mathlib.Core.Bool.{Bool, true, false, not, ◌&&◌}
use mathlib.Core.List.{List, []}
use Rattle.std.specs.Prelude.{Option, None, Some}
use Prim.Native.Nat.{ℕ, ◌+◌}
use native.Mathlib.Omega.{arith}
use lib.Dec.{eqb}
use borrow.Author.Tests.{eq-eqb, ne_eqb, eqb-true, eqb-false}
use Rattle.laws.proofs.Booleans.{true_false, false_true}
use Rattle.image.specs.Bytes.{be32}
use Rattle.image.specs.Read.{stop_at}
use Rattle.ast.specs.Syntax.{Span, Path, Import, import, ImportGroup, no_group, group, Imports, no_imports, ◌∷ⁱ◌}
use Rattle.tree.specs.At.{Ends, PathAt, Maybe, ImportAt, ImportGroupAt, ImportsAt}
use Rattle.acts.specs.Act.{Given, Act, ◌⨟◌, when, says}
use Rattle.acts.specs.Laid.{Room}
use Rattle.acts.specs.declared.Cursor.{Cursor}
use Rattle.acts.proofs.Laws.{Lays, lays_then, lays_skip}
use Rattle.comments.specs.Listed.{given}
use Rattle.layout.specs.Layout.{path_rule, is_some, is_group, import_first, import_path, import_group, import_elems, separated}
use Rattle.layout.specs.Promises.{HasIn}
use Rattle.comments.specs.Record.{InImage, Whole}
use Rattle.layout.specs.Forms.{MaybePathAt}
use Rattle.layout.proofs.Places.{within, head_whole, import_whole}
use Rattle.layout.proofs.Runs.{list_of, import_elems_lem, braces}
use Rattle.layout.specs.Elems.{ImportElem, HasListIn}
use Rattle.layout.specs.declared.forms.WrapStyle.TheVariants.{Tight}
use Rattle.layout.proofs.Lays.{LaysAs, LaysList}

module _ (s b : List ℕ) (at : ℕ) where
  pub is_some_lem : (q : Option Path) → Maybe s b (PathAt s b) q at → not (eqb (be32 b at) 0) ≡ is_some q
  unfolding Maybe
  is_some_lem None a = rw (eq-eqb _ _ a.zero)
  is_some_lem (Some p) a = rw (ne_eqb (be32 b at) 0 (λ e. omega (arith, a.head.head.long)))

  pub is_group_lem : (g : ImportGroup) → ImportGroupAt s b g at → not (eqb (be32 b at) 0) ≡ is_group g
  unfolding ImportGroupAt
  is_group_lem no_group a = rw (eq-eqb _ _ a.zero)
  is_group_lem (group p is) a = rw (ne_eqb (be32 b at) 0 (λ e. omega (arith, a.0.long)))

module _ {s b : List ℕ} {at : ℕ} where
  pub has_path : {c : Cursor} → (be32 b at ≡ 0 → ⊥) → HasIn MaybePathAt import_first s b at c → HasIn PathAt (λ g p. path_rule g p true false) s b at c
  unfolding Maybe
  has_path {c} f h = go h.tree h.held h.room
    where
      go : (q : Option Path) → Maybe s b (PathAt s b) q at → Room (import_first (given s b) q) c → HasIn PathAt (λ g p. path_rule g p true false) s b at c
      go None a room = absurd (f a.zero)
      go (Some p) a room = record { accepted = h.accepted; tree = p; held = a; room = room }

  module _ {x : List ℕ} {c : Cursor} where
    pub no_path : be32 b at ≡ 0 → LaysAs MaybePathAt import_first s b at x c x c
    unfolding Maybe
    no_path e = record { of = go }
      where
        go : (q : Option Path) → Maybe s b (PathAt s b) q at → Lays (import_first (given s b) q) x c x c
        go None a = lays_skip
        go (Some p) a = absurd (omega (arith, e, a.head.head.long))

    pub no_group_lem : be32 b at ≡ 0 → LaysAs ImportGroupAt import_group s b at x c x c
    unfolding ImportGroupAt import_group
    no_group_lem e = record { of = go }
      where
        go : (q : ImportGroup) → ImportGroupAt s b q at → Lays (import_group (given s b) q) x c x c
        go no_group a = lays_skip
        go (group p is) a = absurd (omega (arith, e, a.0.long))

  module _ {x y : List ℕ} {c d : Cursor} where
    pub some_path : (be32 b at ≡ 0 → ⊥) → LaysAs PathAt (λ g p. path_rule g p true false) s b at x c y d
        → LaysAs MaybePathAt import_first s b at x c y d
    unfolding Maybe
    some_path f l = record { of = go }
      where
        go : (q : Option Path) → Maybe s b (PathAt s b) q at → Lays (import_first (given s b) q) x c y d
        go None a = absurd (f a.zero)
        go (Some p) a = l.of p a

-- ---- an import by its parts
abbrev pub ImportPartsAt : List ℕ → List ℕ → Option Path × ImportGroup → ℕ → Type 0
ImportPartsAt s b x at =
    Whole b at × MaybePathAt s b x.0 (at + 13) × ImportGroupAt s b x.1 (stop_at b (at + 13)) × Ends s b (stop_at b (at + 13)) at

-- the dot by the lengths of the parts
abbrev pub Dotted : List ℕ → ℕ → Bool
Dotted b at = not (eqb (be32 b (at + 13)) 0) && not (eqb (be32 b (stop_at b (at + 13))) 0)

abbrev pub import_steps : List ℕ → ℕ → Given → Option Path × ImportGroup → Act
import_steps b at g x = import_first g x.0 ⨟ when (Dotted b at) (says ".") ⨟ import_group g x.1

module _ (s b : List ℕ) (at : ℕ) where
  dotted : (q : Option Path) (g : ImportGroup) → Maybe s b (PathAt s b) q (at + 13) → ImportGroupAt s b g (stop_at b (at + 13))
      → Dotted b at ≡ (is_some q && is_group g)
  dotted q g a i = rw (is_some_lem s b (at + 13) q a, is_group_lem s b (stop_at b (at + 13)) g i)

module _ {s b : List ℕ} {at : ℕ} where
  pub import_parts : {c : Cursor} → HasIn ImportAt import_path s b at c → HasIn ImportPartsAt (import_steps b at) s b at c
  unfolding ImportAt import_path
  import_parts {c} h = go h.tree h.held h.room
    where
      go : (i : Import) → ImportAt s b i at → Room (import_path (given s b) i) c → HasIn ImportPartsAt (import_steps b at) s b at c
      go (import p q g) a room =
          record {
            accepted = h.accepted;
            tree = (q, g);
            held = (head_whole a.0, a.1, a.2, a.3);
            room =
                subst (λ (t : Bool). Room (import_first (given s b) q ⨟ when t (says ".") ⨟ import_group (given s b) g) c)
                (sym (dotted s b at q g a.1 a.2)) room;
          }

  pub import_laid : {x y z w : List ℕ} {c d e f : Cursor} → LaysAs MaybePathAt import_first s b (at + 13) x c y d
      → Lays (when (Dotted b at) (says ".")) y d z e
      → LaysAs ImportGroupAt import_group s b (stop_at b (at + 13)) z e w f → LaysAs ImportAt import_path s b at x c w f
  unfolding ImportAt import_path
  import_laid {x} {y} {z} {w} {c} {d} {e} {f} l m n = record { of = go }
    where
      go : (i : Import) → ImportAt s b i at → Lays (import_path (given s b) i) x c w f
      go (import p q g) a =
          lays_then (l.of q a.1)
          (lays_then (subst (λ (r : Bool). Lays (when r (says ".")) y d z e) (dotted s b at q g a.1 a.2) m) (n.of g a.2))

-- ---- a group of one item
pub single_true : {r : Bool} {m n j k : ℕ} → r ≡ (not (eqb m n) && eqb j k) → r ≡ true → (m ≡ n → ⊥) × (j ≡ k)
single_true {r} {m} {n} {j} {k} p q = go (eqb m n) refl (sym p ∙ q)
  where
    go : (t : Bool) → eqb m n ≡ t → (not (eqb m n) && eqb j k) ≡ true → (m ≡ n → ⊥) × (j ≡ k)
    go true e h = let z : false ≡ true = rw e at h in false_true z
    go false e h = (eqb-false m n e, eqb-true j k (rw e at h))

pub single_false : {r : Bool} {m n j k : ℕ} → r ≡ (not (eqb m n) && eqb j k) → r ≡ false → (m ≡ n → ⊥) → j ≡ k → ⊥
single_false {r} {m} {n} {j} {k} p q f e =
    let z : (not (eqb m n) && eqb j k) ≡ true = rw (ne_eqb m n f, eq-eqb j k e) in
    true_false (sym z ∙ sym p ∙ q)

-- what the test for one item reads
module _ (s b : List ℕ) (at : ℕ) (f : be32 b at ≡ 0 → ⊥) where
  pub group_whole : (q : ImportGroup) → ImportGroupAt s b q at → Whole b at
  unfolding ImportGroupAt
  group_whole no_group a = absurd (f a.zero)
  group_whole (group p is) a = head_whole a.0

  pub group_next : (q : ImportGroup) → ImportGroupAt s b q at → (stop_at b at ≡ at + 13 → ⊥) → InImage b (at + 13)
  unfolding ImportGroupAt ImportsAt
  group_next no_group a g = absurd (f a.zero)
  group_next (group p no_imports) a g = absurd (g (sym a.1.same))
  group_next (group p (i ∷ⁱ is)) a g = within (import_whole s b (at + 13) i a.1.0)

module _ {s b : List ℕ} {at : ℕ} where
  -- the list of a group
  pub group_list : {c : Cursor} → (be32 b at ≡ 0 → ⊥) → ((stop_at b at ≡ at + 13 → ⊥) → stop_at b (at + 13) ≡ stop_at b at → ⊥)
      → HasIn ImportGroupAt import_group s b at c → HasListIn ImportElem braces (be32 b (at + 9)) s b at c
  unfolding ImportGroupAt ImportsAt import_group
  group_list {c} f g h = go h.tree h.held h.room
    where
      list : (p : Span) (is : Imports) → ImportGroupAt s b (group p is) at
          → Room (separated (given s b) "{" "}" "," (import_elems (given s b) is) p Tight) c
          → HasListIn ImportElem braces (be32 b (at + 9)) s b at c
      list p is a room =
          record {
            accepted = h.accepted;
            tree = import_elems (given s b) is;
            held = list_of a.0 (import_elems_lem s b (stop_at b at) (at + 13) is a.1);
            span = p;
            ended = a.0.end;
            room = room;
          }

      go : (q : ImportGroup) → ImportGroupAt s b q at → Room (import_group (given s b) q) c
          → HasListIn ImportElem braces (be32 b (at + 9)) s b at c
      go no_group a room = absurd (f a.zero)
      go (group p no_imports) a room = list p no_imports a room
      go (group p (i ∷ⁱ no_imports)) a room =
          absurd (g (λ e. omega (arith, e, a.1.1.least, (import_whole s b (at + 13) i a.1.0).long)) a.1.2.same)
      go (group p (i ∷ⁱ j ∷ⁱ is)) a room = list p (i ∷ⁱ j ∷ⁱ is) a room

  -- the only item
  pub group_first : {c : Cursor} → (be32 b at ≡ 0 → ⊥) → (stop_at b at ≡ at + 13 → ⊥) → stop_at b (at + 13) ≡ stop_at b at
      → HasIn ImportGroupAt import_group s b at c → HasIn ImportAt import_path s b (at + 13) c
  unfolding ImportGroupAt ImportsAt import_group
  group_first {c} f g e h = go h.tree h.held h.room
    where
      go : (q : ImportGroup) → ImportGroupAt s b q at → Room (import_group (given s b) q) c → HasIn ImportAt import_path s b (at + 13) c
      go no_group a room = absurd (f a.zero)
      go (group p no_imports) a room = absurd (g (sym a.1.same))
      go (group p (i ∷ⁱ no_imports)) a room = record { accepted = h.accepted; tree = i; held = a.1.0; room = room }
      go (group p (i ∷ⁱ j ∷ⁱ is)) a room =
          absurd (omega (arith, e, a.1.2.1.least, (import_whole s b (stop_at b (at + 13)) j a.1.2.0).long))

  pub one_import : {x y : List ℕ} {c d : Cursor} → (be32 b at ≡ 0 → ⊥) → (stop_at b at ≡ at + 13 → ⊥) → stop_at b (at + 13) ≡ stop_at b at
      → LaysAs ImportAt import_path s b (at + 13) x c y d → LaysAs ImportGroupAt import_group s b at x c y d
  unfolding ImportGroupAt ImportsAt import_group
  one_import {x} {y} {c} {d} f g e l = record { of = go }
    where
      go : (q : ImportGroup) → ImportGroupAt s b q at → Lays (import_group (given s b) q) x c y d
      go no_group a = absurd (f a.zero)
      go (group p no_imports) a = absurd (g (sym a.1.same))
      go (group p (i ∷ⁱ no_imports)) a = l.of i a.1.0
      go (group p (i ∷ⁱ j ∷ⁱ is)) a = absurd (omega (arith, e, a.1.2.1.least, (import_whole s b (stop_at b (at + 13)) j a.1.2.0).long))

  pub more_imports : {x y : List ℕ} {c d : Cursor} → (be32 b at ≡ 0 → ⊥) → ((stop_at b at ≡ at + 13 → ⊥) → stop_at b (at + 13) ≡ stop_at b at → ⊥)
      → LaysList ImportElem braces (be32 b (at + 9)) s b at x c y d → LaysAs ImportGroupAt import_group s b at x c y d
  unfolding ImportGroupAt ImportsAt import_group
  more_imports {x} {y} {c} {d} f g l = record { of = go }
    where
      go : (q : ImportGroup) → ImportGroupAt s b q at → Lays (import_group (given s b) q) x c y d
      go no_group a = absurd (f a.zero)
      go (group p no_imports) a = l.of [] (list_of a.0 (import_elems_lem s b (stop_at b at) (at + 13) no_imports a.1)) p a.0.end
      go (group p (i ∷ⁱ no_imports)) a =
          absurd (g (λ e. omega (arith, e, a.1.1.least, (import_whole s b (at + 13) i a.1.0).long)) a.1.2.same)
      go (group p (i ∷ⁱ j ∷ⁱ is)) a =
          l.of (import_elems (given s b) (i ∷ⁱ j ∷ⁱ is)) (list_of a.0 (import_elems_lem s b (stop_at b at) (at + 13) (i ∷ⁱ j ∷ⁱ is) a.1)) p a.0.end
