use mathlib.Core.Path.{◌≡◌, sym, ap, ap₂, ◌∙◌}
use mathlib.Core.List.{List, ◌∷◌}
use Prim.Native.Nat.{ℕ, ◌+◌, ◌-◌, ◌≤◌, ◌<◌}
use native.Mathlib.Omega.{arith}
use lib.ListN.{length, get_or}
use borrow.Author.Tests.{eq-eqb, ne_eqb}
use Rattle.text.specs.Newlines.{newline_places, last_or, counted}
use Rattle.text.specs.declared.newlines.Newlines.{Newlines}
use Rattle.text.proofs.Counts.{places_next}
use Rattle.text.proofs.newlines.newlines_between.Invariants.{Going}
use Rattle.text.proofs.newlines.newlines_between.Goals as goal
use Rattle.text.proofs.newlines.newlines_between.Goals.{then-s-at-eq10, else-s-at-eq10}

module _ {s : List ℕ} {from to at count place : ℕ} (g : Going s from to at count place) where
  abbrev more : List ℕ
  more = newline_places (to - (at + 1)) s (at + 1)

  going_on : at < to → get_or s at 0 ≡ 0x0A → Going s from to (at + 1) (count + 1) at
  going_on h e =
      let here : newline_places (to - at) s at ≡ at ∷ more =
      places_next (to - at) (to - (at + 1)) s at (omega arith) ∙ rw (eq-eqb (get_or s at 0) 0x0A e) in
      record {
        low = omega (arith, g.low);
        high = omega arith;
        few = omega (arith, g.few, g.low);
        many = omega (arith, g.many, ap length here);
        last = sym (ap (last_or place) here) ∙ g.last;
      }

  going_past : at < to → (get_or s at 0 ≡ 0x0A → ⊥) → Going s from to (at + 1) count place
  going_past h e =
      let here : newline_places (to - at) s at ≡ more = places_next (to - at) (to - (at + 1)) s at (omega arith) ∙ rw (ne_eqb (get_or s at 0) 0x0A e) in
      record {
        low = omega (arith, g.low);
        high = omega arith;
        few = omega (arith, g.few, g.low);
        many = sym (ap (λ (l : List ℕ). count + length l) here) ∙ g.many;
        last = sym (ap (last_or place) here) ∙ g.last;
      }

  going_ends : to ≤ at → ◌≡◌ {A = Newlines} (record { count = count; place = place }) (counted to (newline_places (to - from) s from))
  unfolding newline_places
  going_ends h =
      let none_left : to - at ≡ 0 = omega arith in
      ap₂ (λ (n p : ℕ). record { count = n; place = p })
      (omega (arith, g.many, ap (λ (n : ℕ). length (newline_places n s at)) none_left))
      (sym (ap (λ (n : ℕ). last_or place (newline_places n s at)) none_left) ∙ g.last)

-- the same, of numbers that are equal
told : {s : List ℕ} {from to at a b m n : ℕ} → Going s from to at a b → m ≡ a → n ≡ b → Going s from to at m n
told g p q = rw (p, q) g

pub loop-at-preserved : goal.loop-at-preserved
loop-at-preserved c =
    elim c.if-s-at-eq10.branch [
      | then-s-at-eq10 w ↦ told (going_on c.loop-at.invariant (omega arith) w.if-s-at-eq10.true) w.count-is w.place-is
      | else-s-at-eq10 w ↦ told (going_past c.loop-at.invariant (omega arith) w.if-s-at-eq10.false) w.count-is w.place-is
    ]

pub returns : goal.returns
returns c = going_ends c.loop-at.invariant (omega arith)
