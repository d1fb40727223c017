-- Arm by arm.
use native.Mathlib.Omega.{arith}
use Rattle.formula_images.proofs.Counted.{count_is, one, two, three, four, five, six, seven}
use Rattle.formula_images.proofs.counts.count.Goals as goal

pub returns-in-1 : goal.returns-in-1
returns-in-1 c = count_is _ 1 _ c.in-1.is one

pub returns-in-2 : goal.returns-in-2
returns-in-2 c = count_is _ 2 _ c.in-2.is two

pub returns-in-3 : goal.returns-in-3
returns-in-3 c = count_is _ 3 _ c.in-3.is three

pub returns-in-4 : goal.returns-in-4
returns-in-4 c = count_is _ 4 _ c.in-4.is four

pub returns-in-5 : goal.returns-in-5
returns-in-5 c = count_is _ 5 _ c.in-5.is five

pub returns-in-6 : goal.returns-in-6
returns-in-6 c = count_is _ 6 _ c.in-6.is six

pub returns-in_default : goal.returns-in_default
returns-in_default c = count_is _ 7 _ (omega arith) seven
