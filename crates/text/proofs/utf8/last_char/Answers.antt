-- A sequence that ends at `to` stands in the text, so its code point can be read.
use mathlib.Core.Path.{sym, ◌∙◌}
use native.Mathlib.Omega.{arith}
use Rattle.text.proofs.Characters.{bytes_of, bytes_none, decoded_none, decoded_char, before_decoded}
use Rattle.text.proofs.utf8.last_char.Goals as goal

pub returns-in_err-bytes : goal.returns-in_err-bytes
returns-in_err-bytes c =
    c.from_residual.ensures
    ∙ before_decoded _ _ _ 0 _ (sym (bytes_none _ (sym c.ending.ensures ∙ c.in_err-bytes.was))) (decoded_none _ _ 0 (omega arith))

pub returns : goal.returns
returns c =
    let n = bytes_of _ _ (sym c.ending.ensures ∙ c.in_ok-bytes.was) in
    before_decoded _ _ _ _ _ n.0 (decoded_char _ _ _ _ (omega arith) c.code_point.ensures)
