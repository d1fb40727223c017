use mathlib.Core.Path.{sym, ◌∙◌}
use Rattle.text.proofs.Walks.{left_start, left_next, left_nothing, left_text, left_none}
use Rattle.text.proofs.space.trim_end.Goals as goal
use Rattle.text.proofs.space.trim_end.Goals.{in-Some-last_char+then-not-is_whitespace, in_default-last_char}

pub returns-in_default : goal.returns-in_default
returns-in_default c = left_none _ _ _ c.in_default.ensures.lookup.0

pub loop-last-init : goal.loop-last-init
loop-last-init c = let range = c.in-Some.ensures.lookup.0 in rw range.2 (left_start _ _ _ range.0 range.1)

pub loop-last-preserved : goal.loop-last-preserved
loop-last-preserved c =
    left_next _ _ _ _ _ (sym c.last_char.ensures ∙ c.in-Some-last_char.is)
    (sym c.is_whitespace.ensures ∙ c.if-not-is_whitespace.false) c.loop-last.invariant

pub returns : goal.returns
returns c =
    elim c.match-last_char.branch [
      | in-Some-last_char+then-not-is_whitespace w ↦
          left_text _ _ _ _ _ (sym c.last_char.ensures ∙ w.in-Some-last_char.is) (sym w.is_whitespace.ensures ∙ w.if-not-is_whitespace.true)
          c.loop-last.invariant
      | in_default-last_char w ↦ left_nothing _ _ _ _ (sym c.last_char.ensures ∙ w.in_default-last_char.is) c.loop-last.invariant
    ]
