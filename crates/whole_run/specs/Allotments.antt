-- "From fresh to one stop, all handed on untouched, however the allotments fall, joined text, marks and end state are those of a single rendering"
-- (document 02, 12): of the rows of any store that 11 lets pass, laid out or not, under a choice that 15 and 20 let pass.
use Rattle.std.specs.Prelude.{◌≡◌, List, ℕ, None}
use Rattle.renderer_rules.specs.Check.{wrong_place_by}
use Rattle.cut_rule.specs.Rules.{RenderTo}
use Rattle.cut_rule.specs.States.{RenderChoice, render_fresh}
use Rattle.cut_rule.specs.Parts.{rule_line, width_line}
use Rattle.cut_rule.specs.Allotments.{OneRendering}
use Rattle.whole_run.specs.Parts.{other_rule}
use Rattle.whole_run.specs.Demands.{rules_of}

abbrev pub AllotmentsJoin : Type 0
AllotmentsJoin =
    (s b store : List ℕ) (q : RenderTo RenderChoice) → rule_line (other_rule b q.choice.rule) q.choice.rule ≡ None → width_line q.choice render_fresh ≡ None
    → wrong_place_by q.choice.rule s b store 0 q.stop ≡ None
    → OneRendering (rules_of s b) store q
