-- What the run without an output tells of the text's bytes.
use mathlib.Core.Path.{refl}
use Rattle.file.specs.Whole.{to_choice}
use Rattle.batch.specs.Whole.{saved}
use Rattle.batch.proofs.Steps.{size_ten}
use Rattle.batch.proofs.counting.text_size.Goals as goal

pub returns-in-Err-BytesNeeded : goal.returns-in-Err-BytesNeeded
returns-in-Err-BytesNeeded c =
    size_ten (saved c.args.frame.now) (to_choice c.args.choice) _ _ _ _ _ _ _ c.format_lent.ensures refl _ c.in-Err-BytesNeeded.is (cc)
