-- A file's row: 0 and its text's bytes, or its refusal.
use Rattle.file.specs.Whole.{to_choice}
use Rattle.batch.specs.Whole.{saved}
use Rattle.batch.proofs.Steps.{saved_refused}
use Rattle.batch.proofs.writing.write_text.Goals as goal

pub returns-in-Err : goal.returns-in-Err
returns-in-Err c =
    rw c.number.ensures
    (saved_refused (saved c.args.frame.now) (to_choice c.args.choice) _ _ c.args.out.now _ _ _ _ c.format_lent.ensures c.requires c.in-Err.refused c.in-Err.is)
