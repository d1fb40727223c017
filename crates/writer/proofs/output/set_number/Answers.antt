use mathlib.Core.Path.{ap, ◌∙◌}
use native.Mathlib.Omega.{arith}
use lib.Seq.{sets}
use Rattle.writer.proofs.Stores.{four_bytes}
use Rattle.writer.proofs.output.set_number.Goals as goal

pub returns : goal.returns
returns c =
    c.set_all.ensures ∙ ap (sets c.args.out.now c.args.pos) (c.to_be_bytes.ensures ∙ four_bytes _ (omega arith))
