-- 18; 19, for the table and then for the output, before anything is written; and then the files.
use Rattle.std.proofs.Common.{sym, ap, ◌∙◌, ℕ}
use Rattle.std.proofs.lemmas.Result.{err_from_is_err_and}
use native.Mathlib.Omega.{arith}
use Rattle.refusals.specs.Reasons.{answer_of}
use Rattle.batch.proofs.Buffer.{framed_ok, cut_refuses}
use Rattle.batch.proofs.Steps.{files_few, refuses_frames, refuses_table, refuses_output, has_room, done}
use Rattle.batch.proofs.format_batch.Goals as goal

pub returns-in_err-files : goal.returns-in_err-files
returns-in_err-files c =
    let p = err_from_is_err_and c.from_residual.result c.from_residual.ensures.1 in
    rw (p.1, p.2)
    (refuses_frames _ _ _ _ _ (cut_refuses _ _ (sym (ap (answer_of (λ (n : ℕ). n)) c.in_err-files.was) ∙ c.count_frames.ensures)))

pub overflow_mul-cells : goal.overflow_mul-cells
overflow_mul-cells c = omega (arith, files_few _ _ (framed_ok _ _ _ c.count_frames.ensures c.in_ok-files.was))

pub returns-then-table-cells : goal.returns-then-table-cells
returns-then-table-cells c =
    let w = framed_ok _ _ _ c.count_frames.ensures c.in_ok-files.was in
    rw c.at.ensures (refuses_table _ _ _ _ _ w c.if-table-cells.true)

pub count_texts-bytes-requires : goal.count_texts-bytes-requires
count_texts-bytes-requires c =
    let w = framed_ok _ _ _ c.count_frames.ensures c.in_ok-files.was in
    w.passes

pub returns-then-out-bytes : goal.returns-then-out-bytes
returns-then-out-bytes c =
    let w = framed_ok _ _ _ c.count_frames.ensures c.in_ok-files.was in
    rw c.at-then-out-bytes.ensures (refuses_output _ _ _ _ _ w c.if-table-cells.false _ c.count_texts-bytes.ensures c.if-out-bytes.true)

pub write_saves-requires : goal.write_saves-requires
write_saves-requires c =
    let w = framed_ok _ _ _ c.count_frames.ensures c.in_ok-files.was in
    has_room _ _ _ _ _ w c.if-table-cells.false _ c.count_texts-bytes.ensures c.if-out-bytes.false

pub returns : goal.returns
returns c =
    let w = framed_ok _ _ _ c.count_frames.ensures c.in_ok-files.was in
    done _ _ _ _ _ w c.if-table-cells.false _ c.count_texts-bytes.ensures c.if-out-bytes.false _ _ c.write_saves.ensures
