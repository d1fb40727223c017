-- Laws of types one after the other: the last of them.
-- Assumes nothing.
use mathlib.Core.Path.{◌≡◌, sym, ◌∙◌}
use mathlib.Core.List.{List, [], ◌∷◌}
use Prim.Native.Nat.{ℕ, ◌+◌, ◌≤◌, ◌<◌}
use native.Mathlib.Omega.{arith}
use Rattle.image.specs.Bytes.{be32}
use Rattle.image.specs.Read.{stop_at}
use Rattle.ast.specs.Syntax.{TypeExpr, type, Types, no_types, ◌∷ᵗ◌}
use Rattle.tree.specs.At.{TypeAt, TypesAt}
use Rattle.comments.specs.AllIn.{AllIn, offsets_from}
use Rattle.comments.proofs.Offsets.{in_first, in_none, given_next, given_none}
use Rattle.layout.specs.Layout.{last_span}
use Rattle.comments.specs.Record.{Whole}
use Rattle.layout.specs.Forms.{SomeTypesAt, LastEnd}
use Rattle.layout.proofs.Places.{type_whole}

module _ {b : List ℕ} {p to : ℕ} where
  pub first_whole : SomeTypesAt b p to → Whole b p
  unfolding TypesAt
  first_whole h = type_whole _ _ _ h.first h.held.0

  pub first_least : SomeTypesAt b p to → stop_at b p ≤ to
  unfolding TypesAt
  first_least h = h.held.1.least

  -- the types after the first, where it is not the last
  pub types_rest : stop_at b p < to → SomeTypesAt b p to → SomeTypesAt b (stop_at b p) to
  unfolding TypesAt
  types_rest lt h = go h.more h.held.2
    where
      go : (ts : Types) → TypesAt h.source b ts (stop_at b p) to → SomeTypesAt b (stop_at b p) to
      go no_types a = absurd (omega (arith, a.same))
      go (t ∷ᵗ ts) a = record { source = h.source; first = t; more = ts; held = a; inside = h.inside }

  pub last_more : {r : ℕ} → stop_at b p < to → LastEnd b (stop_at b p) to r → LastEnd b p to r
  unfolding TypesAt last_span
  last_more {r} lt l = record { of = go }
    where
      go : (s : List ℕ) (t : TypeExpr) (ts : Types) → TypesAt s b (t ∷ᵗ ts) p to → r ≡ (last_span t ts).end
      go s t no_types a = absurd (omega (arith, a.2.same))
      go s t (u ∷ᵗ us) a = l.of s u us a.2

  pub last_one : to ≤ stop_at b p → LastEnd b p to (be32 b (p + 9))
  unfolding TypesAt TypeAt last_span
  last_one le = record { of = go }
    where
      go : (s : List ℕ) (t : TypeExpr) (ts : Types) → TypesAt s b (t ∷ᵗ ts) p to → be32 b (p + 9) ≡ (last_span t ts).end
      go s (type q f) no_types a = a.0.0.end
      go s t (u ∷ᵗ us) a = absurd (omega (arith, (type_whole _ _ _ u a.2.0).long, a.2.1.least))

-- types one after the other lie in the image
pub types_in : (s b : List ℕ) (from to : ℕ) (ts : Types) → TypesAt s b ts from to → AllIn b from to
unfolding TypesAt
types_in s b from to no_types a = in_none b from to (omega (arith, a.same))
types_in s b from to (t ∷ᵗ ts) a =
    let w = type_whole s b from t a.0 in
    in_first b from to (omega (arith, w.long, a.1.least)) w.fits (types_in s b (stop_at b from) to ts a.2)

-- the types that are left to a loop over their records: all, of which `last` is the first, or those after `last`
pub data Left (b : List ℕ) (to last : ℕ) (left : List ℕ) : Type 0 where
  all : left ≡ offsets_from b last to → Left b to last left
  others : left ≡ offsets_from b (stop_at b last) to → Left b to last left

pub record Turn (b : List ℕ) (from to last : ℕ) (left : List ℕ) : Type 0 where
  pub types : SomeTypesAt b last to
  pub left_is : Left b to last left
  pub ends : (r : ℕ) → LastEnd b last to r → LastEnd b from to r

module _ {b : List ℕ} {from to last : ℕ} where
  pub next_turn : {left more : List ℕ} {at : ℕ} → Turn b from to last left → left ≡ at ∷ more → Turn b from to at more
  next_turn {left} {more} {at} w e = go w.left_is
    where
      go : Left b to last left → Turn b from to at more
      go (all f) =
          let n = given_next b last to (sym f ∙ e) in
          rw n.1 (record { types = w.types; left_is = others n.2; ends = w.ends })
      go (others f) =
          let n = given_next b (stop_at b last) to (sym f ∙ e) in
          rw n.1 (record { types = types_rest n.0 w.types; left_is = others n.2; ends = λ r l. w.ends r (last_more n.0 l) })

  pub last_turn : {left : List ℕ} → Turn b from to last left → left ≡ [] → LastEnd b from to (be32 b (last + 9))
  last_turn {left} w e = go w.left_is
    where
      go : Left b to last left → LastEnd b from to (be32 b (last + 9))
      go (all f) = absurd (omega (arith, given_none b last to (sym f ∙ e), first_least w.types))
      go (others f) = w.ends _ (last_one (given_none b (stop_at b last) to (sym f ∙ e)))
