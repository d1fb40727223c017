-- A text's width has two bytes at most.
-- Assumes nothing.
use native.Mathlib.Omega.{arith}
use Rattle.image.proofs.Versions.{two_at_most}
use Rattle.image.proofs.reader.Reader.text_fits.Goals as goal

pub overflow_add-width : goal.overflow_add-width
overflow_add-width c = omega (arith, c.width_bytes-width.ensures, two_at_most c.args.self.now.image.now)
