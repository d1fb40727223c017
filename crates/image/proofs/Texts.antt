-- What the answer of text's check says of a text.
-- Assumes nothing.
use mathlib.Core.Path.{◌≡◌, refl}
use mathlib.Core.List.{List}
use mathlib.Core.Bool.{Bool, true, false, not}
use Prim.Native.Nat.{ℕ}
use Rattle.std.specs.Prelude.{None, Some, Result, Ok, Err, is_ok}
use Rattle.refusals.specs.Refusals.{Refusal, refuse_if}
use Rattle.refusals.specs.Reasons.{refusal_in}
use Rattle.refusals.specs.declared.Refused.{Refused}
use Rattle.text.specs.Utf8.{prefix, well_formed, ill_formed}

pub checked_well : (s : List ℕ) → ill_formed s ≡ None → well_formed s ≡ true
unfolding ill_formed
checked_well s e = go (well_formed s) e
  where
    go : (t : Bool) → refuse_if (not t) 2 (prefix s) ≡ None → t ≡ true
    go true e = refl
    go false e = cc

-- the place is that of the first bad sequence
pub checked_bad : (s : List ℕ) (r : Refusal) → ill_formed s ≡ Some r → (well_formed s ≡ false) × (r ≡ record { number = 2; place = prefix s })
unfolding ill_formed
checked_bad s r e = go (well_formed s) e
  where
    go : (t : Bool) → refuse_if (not t) 2 (prefix s) ≡ Some r → (t ≡ false) × (r ≡ record { number = 2; place = prefix s })
    go true e = (cc, cc)
    go false e = (refl, (cc))

pub checked_ok : {A : Type 0} (s : List ℕ) (r : Result A Refused) → refusal_in r ≡ ill_formed s → is_ok r ≡ well_formed s
unfolding ill_formed
checked_ok {A} s r e = go r (well_formed s) e
  where
    go : (r : Result A Refused) (t : Bool) → refusal_in r ≡ refuse_if (not t) 2 (prefix s) → is_ok r ≡ t
    go (Ok u) true e = refl
    go (Err x) false e = refl
    go (Ok u) false e = cc
    go (Err x) true e = cc
