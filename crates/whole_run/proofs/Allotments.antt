-- Rows that 11 lets pass, under a choice that 15 and 20 let pass, are whole.
-- Assumes nothing.
use Rattle.refusals.specs.Refusals.{any}
use Rattle.refusals.proofs.Groups.{not_if}
use Rattle.image.specs.Read.{read_earlier}
use Rattle.cut_rule.specs.Tests.{width_tests, chosen_tests}
use Rattle.cut_rule.proofs.Table.{rule_legal, width_fits}
use Rattle.cut_rule.proofs.Document.{parts_one_rendering}
use Rattle.whole_run.specs.Parts.{other_rule, parts_of}
use Rattle.whole_run.specs.Allotments.{AllotmentsJoin}
use Rattle.whole_run.proofs.RenderParts.{render_parts}

pub allotments_join : AllotmentsJoin
allotments_join s b store q rule width right =
    let c = q.choice in
    parts_one_rendering (parts_of s b) (render_parts s b (read_earlier s b)) store q (record {
      legal = (width_fits c.width 0 (not_if (any (width_tests c.width 0)) 15 0 width)).legal;
      rule = rule_legal (other_rule b c.rule) c.rule (not_if (any (chosen_tests (other_rule b c.rule) c.rule)) 20 0 rule);
      right = right;
    })
