-- What the answer of text's check says of a text.
-- Assumes nothing.
use mathlib.Core.Path.{◌≡◌, refl, sym}
use mathlib.Core.List.{List}
use mathlib.Core.Bool.{Bool, true, false, not}
use Prim.Native.Nat.{ℕ}
use Rattle.laws.proofs.Options.{never}
use Rattle.refusals.specs.Refusals.{refuse_if}
use Rattle.refusals.specs.declared.Refused.{Refused}
use Rattle.refusals.specs.Reasons.{refusal_in}
use Rattle.std.specs.Prelude.{Result, Ok, Err}
use Rattle.std.specs.Result.{is_ok}
use Rattle.text.specs.Utf8.{prefix, well_formed, ill_formed}

pub checked : {A : Type 0} (s : List ℕ) (r : Result A Refused) → refusal_in r ≡ ill_formed s → is_ok r ≡ well_formed s
unfolding ill_formed
checked s r e = go (well_formed s) r e
  where
    go : {A : Type 0} (t : Bool) (r : Result A Refused) → refusal_in r ≡ refuse_if (not t) 2 (prefix s) → is_ok r ≡ t
    go true (Ok a) e = refl
    go true (Err x) e = absurd (never _ e)
    go false (Ok a) e = absurd (never _ (sym e))
    go false (Err x) e = refl
