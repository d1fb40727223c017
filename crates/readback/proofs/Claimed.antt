-- Yes, and only if no operand breaks a rule; else one that does, and none is before it.
-- Assumes nothing.
use mathlib.Core.Path.{◌≡◌, refl, sym, ap, subst, ◌∙◌}
use mathlib.Core.List.{List, [], ◌∷◌}
use Prim.Native.Nat.{ℕ, ◌≤◌}
use native.Mathlib.Omega.{arith}
use Rattle.refusals.specs.Answers.{accepted}
use Rattle.readback.specs.ReadsBack.{VerdictHolds}
use Rattle.readback.specs.Verdict.{offenders, least, verdict_on, verdict_by, verdict_due}
use Rattle.readback.specs.declared.Verdict.{Verdict}
use Rattle.readback.specs.declared.Verdict.TheVariants.{Same, Differs}
use Rattle.readback.proofs.Offenders.{Among, among_is, is_among, some, tree_operators, least_in, least_of}

none_by : (xs : List ℕ) → verdict_on xs ≡ Same → xs ≡ []
none_by [] e = refl
none_by (x ∷ xs) e = let z : ◌≡◌ {A = ℕ} 0 1 = cc in absurd (omega arith)

one_by : (xs : List ℕ) (at : ℕ) → verdict_on xs ≡ Differs at → Among at xs
one_by [] at e = let z : ◌≡◌ {A = ℕ} 0 1 = cc in absurd (omega arith)
one_by (x ∷ xs) at e =
    let same : least x xs ≡ at = cc in
    subst (λ (z : ℕ). Among z (x ∷ xs)) same (least_in x xs)

first_by : (xs : List ℕ) (at x : ℕ) → verdict_on xs ≡ Differs at → Among x xs → at ≤ x
first_by [] at x e m = absurd (omega (arith, some m))
first_by (y ∷ xs) at x e m =
    let same : least y xs ≡ at = cc in
    rw same at (least_of y xs x m)

verdict_by_answer : {v : Verdict} (w : Verdict) → accepted v ≡ accepted w → v ≡ w
verdict_by_answer w e = cc

pub verdict_holds : VerdictHolds
verdict_holds s b i end h =
    let os = offenders b i.tree in
    let is : verdict_due s b ≡ accepted (verdict_on os) = ap (verdict_by b) h in
    record {
      same_none = λ e. none_by os (verdict_by_answer Same (sym is ∙ e));
      none_same = λ e. is ∙ ap (λ (l : List ℕ). accepted (verdict_on l)) e;
      one = λ at e. among_is (one_by os at (verdict_by_answer (Differs at) (sym is ∙ e)));
      operator = λ at e. tree_operators b i.tree at (one_by os at (verdict_by_answer (Differs at) (sym is ∙ e)));
      first = λ at x e m. first_by os at x (verdict_by_answer (Differs at) (sym is ∙ e)) (is_among x os m);
    }
