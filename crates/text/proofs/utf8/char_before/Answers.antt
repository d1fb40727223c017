-- A range of the text is a text of its own; what is no range ends in no character.
use mathlib.Core.List.{List}
use mathlib.Core.Path.{sym, ap, ◌∙◌}
use Prim.Native.Nat.{ℕ}
use lib.ListN.{length}
use Rattle.text.specs.Utf8.{char_before}
use Rattle.text.proofs.Characters.{before_outside}
use Rattle.text.proofs.Walks.{before_range}
use Rattle.text.proofs.utf8.char_before.Goals as goal

pub returns-in_err-get : goal.returns-in_err-get
returns-in_err-get c = c.from_residual.ensures ∙ sym (before_outside _ _ _ c.in_err-get.ensures.lookup.0)

pub returns : goal.returns
returns c =
    let range = c.in_ok-get.ensures.lookup.0 in
    c.last_char.ensures ∙ ap (λ (t : List ℕ). char_before t 0 (length t)) range.2 ∙ before_range _ _ _ range.0 range.1
