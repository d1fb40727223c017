-- The run of the file, and what is counted of what it leaves.
use Rattle.std.proofs.lemmas.Result.{err_from_is_err_and}
use Rattle.figures.proofs.Counting.{run_refused, left_fits, figures_within, file_counted}
use Rattle.figures.proofs.count_accepted.Goals as goal

pub returns-in_err-run : goal.returns-in_err-run
returns-in_err-run c =
    let p = err_from_is_err_and c.from_residual.result c.from_residual.ensures.1 in
    rw (p.1, p.2)
    (run_refused _ _ _ _ _ c.rows-store.ensures c.marks-used.ensures c.output-out.ensures _ _
    _ _ c.run_file.ensures c.args.t _ c.in_err-run.was)

pub returns : goal.returns
returns c =
    file_counted _ _ _ _ _ c.rows-store.ensures c.marks-used.ensures c.output-out.ensures _ _ _ _
    c.run_file.ensures _ c.in_ok-run.was _ c.args.file.accepts _ _ c.occurrences.ensures
    c.occurrences-2.ensures c.args.t _ c.count_figures.ensures

pub overflow_sub-figures : goal.overflow_sub-figures
overflow_sub-figures c =
    left_fits _ _ _ _ _ c.rows-store.ensures c.marks-used.ensures c.output-out.ensures
    _ _ _ _ c.run_file.ensures _ c.in_ok-run.was _ c.args.file.accepts

pub count_figures-requires : goal.count_figures-requires
count_figures-requires c =
    figures_within _ _ _ _ _ c.rows-store.ensures c.marks-used.ensures c.output-out.ensures _ _ _ _ c.run_file.ensures
    _ c.in_ok-run.was _ c.args.file.accepts _ _ c.occurrences.ensures c.occurrences-2.ensures
