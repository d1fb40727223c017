-- The width is the text's length.
use native.Mathlib.Omega.{arith}
use Rattle.formula_images.proofs.Steps.{appends_join, appends_as, text_is}
use Rattle.formula_images.proofs.put.put_text.Goals as goal

pub returns : goal.returns
returns c =
    appends_as (text_is c.args.text.now (omega (arith, c.requires)))
    (appends_join c.put_open.ensures
    (appends_join c.put.ensures (appends_join c.put16.ensures (appends_join c.put32.ensures (appends_join c.copy.ensures c.put_close.ensures)))))
