-- A text between its path's head and end.
use native.Mathlib.Omega.{arith}
use Rattle.formula_images.proofs.Steps.{appends_join, appends_as, path_is, text_length}
use Rattle.formula_images.proofs.put.put_path.Goals as goal

pub put_close-requires : goal.put_close-requires
put_close-requires c = omega (arith, c.put_open.ensures.place, c.put_text.ensures.place, text_length c.args.text.now, c.requires)

pub returns : goal.returns
returns c = appends_as (path_is c.args.text.now) (appends_join c.put_open.ensures (appends_join c.put_text.ensures c.put_close.ensures))
