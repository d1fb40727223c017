-- What a text measures by a rule, for a caller that shows it: "a choice outside 1 to 3" is refused with 20, and nothing else is. No image asks for another.
use Rattle.std.specs.Prelude.{false, ℕ, List}
use Rattle.refusals.specs.Answers.{Answer, answer_by}
use Rattle.widths.specs.Rules.{columns_by}
use Rattle.cut_rule.specs.Parts.{rule_line}

abbrev pub columns_answer : ℕ → ℕ → List ℕ → Answer ℕ
columns_answer rule supplied text = answer_by (rule_line false rule) (columns_by rule supplied text)
