-- What is claimed holds. The cut rule: the parts of the real rules keep the laws of crates/cut_rule.
-- Assumes nothing.
use mathlib.Core.Path.{◌≡◌, sym, ap, ◌∙◌}
use mathlib.Core.Bool.{true, false}
use mathlib.Core.List.{◌∷◌}
use Prim.Native.Nat.{◌*◌}
use Rattle.std.specs.Prelude.{Option}
use Rattle.image.proofs.Earlier.{none_earlier}
use Rattle.rows.specs.Places.{PLACES}
use Rattle.refusals.specs.Refusals.{Refusal, first, unless, refuse_if, any}
use Rattle.refusals.specs.Answers.{answer_by}
use Rattle.cut_rule.specs.Run.{CallResult, laid_out, write_at}
use Rattle.cut_rule.specs.Parts.{rule_line, layout_tests, rows_line, laid_of}
use Rattle.cut_rule.proofs.Document as Document
use Rattle.whole_run.specs.Parts.{other_rule, parts_by, parts_of, listed}
use Rattle.whole_run.specs.Demands.{rules_of, asked, RulesCut, EntriesAgree, DueIsFmtParsed, LaidWithinLimits}
use Rattle.whole_run.proofs.LayoutParts.{layout_parts, comment_parts}
use Rattle.whole_run.proofs.RenderParts.{render_parts}
use Rattle.whole_run.proofs.Whole.{fmt_parsed_lem}
use Rattle.whole_run.proofs.Limits.{all_limited}

pub rules_cut : RulesCut
rules_cut r s b store₀ marks₀ calls h =
    Document.parts_cut (parts_by r s b) (listed s b) (layout_parts r s b) (render_parts s b r) (comment_parts s b r) store₀ marks₀ calls h

pub due_is_fmt_parsed : DueIsFmtParsed
due_is_fmt_parsed r s b = fmt_parsed_lem r s b

pub laid_within_limits : LaidWithinLimits
laid_within_limits s b h = all_limited s b h

pub entries_agree : EntriesAgree
entries_agree s b store z stop close k h =
    let P = parts_of s b in
    let q = asked false stop close k in
    let laid = laid_of P z q in
    let lines = refuse_if (any (layout_tests P q z store)) 12 0 ∷ rows_line P q z store in
    let table : Option Refusal → Option Refusal = λ x. first (rule_line (other_rule b k.rule) k.rule ∷ x ∷ lines) in
    let same : table (P.layout_image true) ≡ table (P.layout_image false) = ap table (none_earlier s b h ∙ sym h) in
    record {
      answer = ap (λ (o : Option Refusal). answer_by {A = CallResult (rules_of s b)} o (laid_out laid.state laid.left)) same;
      store_left_of = ap (λ (o : Option Refusal). unless o store (write_at (PLACES * z.cursor.row) laid.rows store)) same;
    }
