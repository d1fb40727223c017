-- What is held after files: each is counted or refused.
-- Assumes nothing.
use mathlib.Core.Path.{◌≡◌, ap, ap₂, ◌∙◌}
use Rattle.std.specs.Prelude.{Option, None, Some}
use mathlib.Core.List.{List, [], ◌∷◌}
use Prim.Native.Nat.{ℕ, suc, ◌+◌, ◌-◌, ◌≤◌}
use native.Mathlib.Nat.{zero-add}
use native.Mathlib.Omega.{arith}
use lib.ListN.{length}
use Rattle.refusals.specs.Refusals.{Refusal, unless}
use Rattle.refusals.specs.Answers.{answer_by}
use Rattle.tallies.specs.declared.Tallies.{Tallies}
use Rattle.tallies.specs.Tallies.{fresh_tallies, added}
use Rattle.tallies.specs.Order as tallied
use Rattle.tallies.specs.Order.{refused_on, totals}
use Rattle.tallies.proofs.Order.{sums}
use Rattle.figures.specs.Figures.{count_result}
use Rattle.figures.specs.Order.{File, refusal_of, figures_in}
use Rattle.report.specs.Report.{fresh_progress, progress_by, after_files, AllAccounted}
use Rattle.report.specs.declared.progress.Progress.{Progress}

abbrev make : ℕ → ℕ → Tallies → Progress
make n m t = record { files = n; refused = m; tallies = t }

abbrev counted : Tallies → List File → List File
counted = tallied.counted refusal_of figures_in

-- no more are counted than there are
few_with : (o : Option Refusal) (x : File) (ys : List File) (k : ℕ) → length ys ≤ k → length (unless o ys (x ∷ ys)) ≤ suc k
few_with (Some r) x ys k h = omega arith
few_with None x ys k h = omega arith

few : (xs : List File) (t : Tallies) → length (counted t xs) ≤ length xs
unfolding tallied.counted
few [] t = omega arith
few (x ∷ xs) t =
    let o = refused_on refusal_of figures_in t x in
    let u = unless o t (added (figures_in x) t) in
    few_with o x (counted u xs) (length xs) (few xs u)

-- going on from what is held
abbrev Account : Progress → List File → Progress
Account p xs =
    make (p.files + length xs) (p.refused + (length xs - length (counted p.tallies xs))) (totals refusal_of figures_in p.tallies xs)

account_with : (o : Option Refusal) (p : Progress) (x : File) (xs : List File) → ((q : Progress) → after_files q xs ≡ Account q xs)
    → (rest : (t : Tallies) → length (counted t xs) ≤ length xs)
    → let u : Tallies = unless o p.tallies (added (figures_in x) p.tallies) in
    after_files (progress_by p (answer_by o (count_result (figures_in x) p.tallies))) xs
    ≡ make (p.files + suc (length xs)) (p.refused + (suc (length xs) - length (unless o (counted u xs) (x ∷ counted u xs))))
    (totals refusal_of figures_in u xs)
account_with (Some r) p x xs on rest =
    let t = p.tallies in
    let h : length (counted t xs) ≤ length xs = rest t in
    let n : p.files + 1 + length xs ≡ p.files + suc (length xs) = omega arith in
    let m : p.refused + 1 + (length xs - length (counted t xs)) ≡ p.refused + (suc (length xs) - length (counted t xs)) = omega arith in
    on (make (p.files + 1) (p.refused + 1) t) ∙ ap₂ (λ (a b : ℕ). make a b (totals refusal_of figures_in t xs)) n m
account_with None p x xs on rest =
    let t = added (figures_in x) p.tallies in
    let n : p.files + 1 + length xs ≡ p.files + suc (length xs) = omega arith in
    let m : p.refused + (length xs - length (counted t xs)) ≡ p.refused + (suc (length xs) - suc (length (counted t xs))) = omega arith in
    on (make (p.files + 1) p.refused t) ∙ ap₂ (λ (a b : ℕ). make a b (totals refusal_of figures_in t xs)) n m

account : (xs : List File) (p : Progress) → after_files p xs ≡ Account p xs
unfolding after_files totals tallied.counted
account [] p =
    let n : p.files ≡ p.files + 0 = omega arith in
    let m : p.refused ≡ p.refused + 0 = omega arith in
    ap₂ (λ (a b : ℕ). make a b p.tallies) n m
account (x ∷ xs) p = account_with (refused_on refusal_of figures_in p.tallies x) p x xs (account xs) (few xs)

pub all_accounted : AllAccounted
all_accounted xs =
    let left = length xs - length (counted fresh_tallies xs) in
    account xs fresh_progress
    ∙ ap₂ (λ (a b : ℕ). make a b (totals refusal_of figures_in fresh_tallies xs)) (zero-add (length xs)) (zero-add left)
    ∙ ap (make (length xs) left) (sums refusal_of figures_in xs)
