-- 12, for the mode, and 15; then one layout call and one rendering call, both from fresh, on rows and marks that are lent.
use Rattle.std.proofs.Common.{ap, not}
use Rattle.std.proofs.lemmas.Result.{err_from_is_err_and}
use Rattle.whole_run.specs.Demands.{closing_at}
use Rattle.file.specs.Whole.{to_choice}
use Rattle.file.proofs.Steps.{mode_refused, width_refused, choice_passes, before_layout, layout_refused, drawn_starts, drawn_refused, drawn_formats, fresh_by}
use Rattle.file.proofs.run_file.Goals as goal

pub returns-then-choice-gt-NEW_MODE : goal.returns-then-choice-gt-NEW_MODE
returns-then-choice-gt-NEW_MODE c =
    rw c.at.ensures (before_layout _ _ _ _ _ _ _ (mode_refused _ _ (to_choice c.args.choice) c.requires.rule c.requires.read c.if-choice-gt-NEW_MODE.true))

pub returns-then-not-width_fits : goal.returns-then-not-width_fits
returns-then-not-width_fits c =
    let wide = ap not c.if-not-width_fits.true in
    rw c.at-then-not-width_fits.ensures
    (before_layout _ _ _ _ _ _ _
    (width_refused _ _ (to_choice c.args.choice) c.requires.rule c.requires.read c.if-choice-gt-NEW_MODE.false _ c.width_fits.ensures wide))

pub render_checked-requires : goal.render_checked-requires
render_checked-requires c =
    let fits = ap not c.if-not-width_fits.false in
    drawn_starts _ _ _ _ _ c.args.out.now
    (choice_passes _ _ (to_choice c.args.choice) c.requires.rule c.requires.read c.if-choice-gt-NEW_MODE.false _ c.width_fits.ensures fits)
    _ _ _ _ (fresh_by c.default.ensures) (ap (closing_at _) c.count_declarations.ensures) c.layout_at_once.ensures
    _ c.in_ok-laid.was _ _ (c.render_fresh.ensures _)

pub returns-in_err-laid : goal.returns-in_err-laid
returns-in_err-laid c =
    let fits = ap not c.if-not-width_fits.false in
    let p = err_from_is_err_and c.from_residual.result c.from_residual.ensures.1 in
    rw (p.1, p.2)
    (layout_refused _ _ _ _ _ _
    (choice_passes _ _ (to_choice c.args.choice) c.requires.rule c.requires.read c.if-choice-gt-NEW_MODE.false _ c.width_fits.ensures fits)
    _ _ _ _ (fresh_by c.default.ensures) (ap (closing_at _) c.count_declarations.ensures) c.layout_at_once.ensures
    _ c.in_err-laid.was)

pub returns-in_err-drawn : goal.returns-in_err-drawn
returns-in_err-drawn c =
    let fits = ap not c.if-not-width_fits.false in
    let p = err_from_is_err_and c.from_residual-in_err-drawn.result c.from_residual-in_err-drawn.ensures.1 in
    rw (p.1, p.2)
    (drawn_refused _ _ _ _ _ _
    (choice_passes _ _ (to_choice c.args.choice) c.requires.rule c.requires.read c.if-choice-gt-NEW_MODE.false _ c.width_fits.ensures fits)
    _ _ _ _ (fresh_by c.default.ensures) (ap (closing_at _) c.count_declarations.ensures) c.layout_at_once.ensures
    _ c.in_ok-laid.was _ _ (c.render_fresh.ensures _) _ _ _ _ _ c.render_checked.ensures _ c.in_err-drawn.was)

pub returns : goal.returns
returns c =
    let fits = ap not c.if-not-width_fits.false in
    drawn_formats _ _ _ _ _ _
    (choice_passes _ _ (to_choice c.args.choice) c.requires.rule c.requires.read c.if-choice-gt-NEW_MODE.false _ c.width_fits.ensures fits)
    _ _ _ _ (fresh_by c.default.ensures) (ap (closing_at _) c.count_declarations.ensures) c.layout_at_once.ensures
    _ c.in_ok-laid.was _ _ (c.render_fresh.ensures _) _ _ _ _ _ c.render_checked.ensures _ c.in_ok-drawn.was
