-- A run over what is accepted puts it.
use mathlib.Core.Path.{sym, ◌∙◌}
use native.Mathlib.Omega.{arith}
use Rattle.image.specs.Kinds.{TREE}
use Rattle.image.specs.Limits.{MAX_RECORDS_DEEP}
use Rattle.image.specs.Write.{written}
use Rattle.steps.specs.Writer.{record_from}
use Rattle.writer.proofs.Imaged.{put_got}
use Rattle.writer.proofs.whole.put_tree.Goals as goal

pub returns : goal.returns
returns c t end reads low =
    c.bytes-1.given.1.1 (sym c.put_record.ensures.same)
    ∙ put_got written 0 _ (record_from c.args.steps.now MAX_RECORDS_DEEP TREE c.args.at) c.put_record.result _ t _ c.put_record.ensures.put reads
    (omega (arith, low))
