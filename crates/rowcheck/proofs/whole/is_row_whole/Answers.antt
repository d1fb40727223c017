use mathlib.Core.Path.{sym, ◌∙◌}
use Rattle.rowcheck.proofs.WholeTexts.{fits_text, whole_text, text_of_kind}
use Rattle.rowcheck.proofs.whole.is_row_whole.Goals as goal

pub is_whole-requires-clause-fits : goal.is_whole-requires-clause-fits
is_whole-requires-clause-fits c =
    fits_text c.args.rows.source.now c.args.rows.image.now c.args.rows.store.now c.args.row c.requires.fits
    (text_of_kind _ c.in-Some.kind (sym c.row_kind.ensures ∙ c.in-Some.is) c.if-has_text.ensures)

pub returns-in-Some : goal.returns-in-Some
returns-in-Some c =
    c.is_whole.ensures
    ∙ whole_text c.args.rows.source.now c.args.rows.image.now c.args.rows.store.now c.args.row
    (text_of_kind _ c.in-Some.kind (sym c.row_kind.ensures ∙ c.in-Some.is) c.if-has_text.ensures)
