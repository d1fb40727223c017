-- Arm by arm.
use native.Mathlib.Omega.{arith}
use Rattle.formula_images.proofs.Counted.{each_is, each_two, each_three, each_four, each_five, each_six, each_seven}
use Rattle.formula_images.proofs.counts.binaries.Goals as goal

pub returns-in-2 : goal.returns-in-2
returns-in-2 c = each_is _ 0 _ (omega (arith, c.in-2.is)) each_two

pub returns-in-3 : goal.returns-in-3
returns-in-3 c = each_is _ 1 _ (omega (arith, c.in-3.is)) each_three

pub returns-in-4 : goal.returns-in-4
returns-in-4 c = each_is _ 2 _ (omega (arith, c.in-4.is)) each_four

pub returns-in-5 : goal.returns-in-5
returns-in-5 c = each_is _ 3 _ (omega (arith, c.in-5.is)) each_five

pub returns-in-6 : goal.returns-in-6
returns-in-6 c = each_is _ 4 _ (omega (arith, c.in-6.is)) each_six

pub returns-in_default : goal.returns-in_default
returns-in_default c = each_is _ 5 _ (omega arith) each_seven
