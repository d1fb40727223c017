use mathlib.Core.Path.{◌≡◌, refl, ap, ◌∙◌}
use mathlib.Core.Bool.{Bool, ◌||◌}
use mathlib.Core.List.{List, [], ◌∷◌}
use Prim.Native.Nat.{ℕ}
use lib.ListN.{take}
use lib.Dec.{ltb}
use borrow.Author.Tests.{le-ltb}
use Rattle.laws.proofs.Booleans.{or_none}
use Rattle.std.proofs.Common.{rules, tests}
use Rattle.std.specs.List.{list_any}
use Rattle.std.proofs.lemmas.Iterator.{YieldsList-from_slice}
use Rattle.std.proofs.lemmas.Iterator.Search.{any_from_yields_List}
use Rattle.cut_rule.specs.Tests.{odd_mark}
use Rattle.render_call.proofs.fits.marks_fit.Goals as goal

some_odd : (xs : List ℕ) → list_any (ltb 1) xs ≡ odd_mark xs
some_odd [] = refl
some_odd (x ∷ xs) = ap (λ (b : Bool). ltb 1 x || b) (some_odd xs)

pub returns-then-used-marks : goal.returns-then-used-marks
returns-then-used-marks c =
    let xs = take c.args.used c.args.marks.now in
    let found = any_from_yields_List (ltb 1) _ _ c.any.result c.any.ensures.ran (YieldsList-from_slice xs cc) (λ x b q k. search (rules, tests)) in
    simp (le-ltb _ _ c.if-used-marks.true, found ∙ some_odd xs, or_none)
