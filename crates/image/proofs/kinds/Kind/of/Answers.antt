-- A byte without an arm is no kind's.
-- Assumes nothing.
use Rattle.image.specs.KindNumbers.{kinds, kind_of}
use Rattle.image.proofs.Table.{none}
use Rattle.image.proofs.kinds.Kind.of.Goals as goal

pub returns-in_default : goal.returns-in_default
unfolding kind_of
returns-in_default c = none c.args.byte kinds c.in_default.in_default-own.rest
