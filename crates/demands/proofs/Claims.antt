-- Each claim is a theorem.
-- Assumes nothing.
use Rattle.image.proofs.Numbers.{read_numbers}
use Rattle.rows.proofs.Table.{words_there}
use Rattle.widths.proofs.Editions.{editions_hold}
use Rattle.node_widths.proofs.Summed.{supplied_stay}
use Rattle.moves.proofs.Moved.{back_after_forward, forward_after_back}
use Rattle.moves.proofs.Exact.{twenty_one}
use Rattle.demands.proofs.Archive.{archive_1}
use Rattle.readback.proofs.Claimed.{verdict_holds}
use Rattle.demands.proofs.ReadsBack.{reads_back_1}
use Rattle.formulas.proofs.Once.{exactly_once}
use Rattle.formulas.proofs.Counts.{counts}
use Rattle.formulas.proofs.Places.{exchanged}
use Rattle.formula_images.proofs.Claimed.{all_accepted, one_image}
use Rattle.demands.proofs.Formulas.{formulas_1}
use Rattle.renderer_rules.proofs.Call.{call_as_rust}
use Rattle.renderer_rules.proofs.Drift.{never_drifts, ends_at_margin}
use Rattle.listed_rows.proofs.Numbers.{numbers_rows}
use Rattle.renderer_rules.proofs.Checked.{fault_of_part}
use Rattle.renderer_rules.proofs.Holds.{writes_pieces, no_slash_around}
use Rattle.layout_facts.proofs.Binop.{binop_as_rust}
use Rattle.layout_facts.proofs.BlankLines.{blank_lines}
use Rattle.layout_facts.proofs.Limits.{few_rows, words_due}
use Rattle.layout_facts.proofs.Tokens.{says_the_program, fmt_parsed_says_the_program, slash_words}
use Rattle.tree.proofs.Ordered.{strict_is_in_order}
use Rattle.whole_run.proofs.Demands.{rules_cut, entries_agree, due_is_fmt_parsed, laid_within_limits}
use Rattle.whole_run.proofs.Allotments.{allotments_join}
use Rattle.whole_run.proofs.Edges.{edges_hold, widths_hold, empty_line_holds}
use Rattle.whole_run.proofs.File.{old_mode_is_fmt_parsed, new_mode_leaves_none}
use Rattle.whole_run.proofs.FileLimits.{file_text_limited, file_column_limited}
use Rattle.whole_run.proofs.Foot.{closing_places_all, closed_holds_all}
use Rattle.whole_run.proofs.Reference.{reference_holds}
use Rattle.figures.proofs.Order.{totals_are_sums, same_in_any_order, first_are_counted, same_feed_in_any_order}
use Rattle.tallies.proofs.Ratio.{always_reduced}
use Rattle.steps.proofs.Claims.{exactly_one, written_reads_back}
use Rattle.batch.proofs.Singles.{as_singles}
use Rattle.demands.specs.Claims.{Claims}
use Rattle.demands.proofs.Demand1 as one
use Rattle.demands.proofs.Demand2 as two
use Rattle.demands.proofs.Demand3 as three
use Rattle.demands.proofs.Demand3.{calls_hold_all, closing_leaves_none}
use Rattle.demands.proofs.Generator.{generator_1, generator_lists}
use Rattle.demands.proofs.Saves.{saves_1}
use Rattle.demands.proofs.Linked.{linked_promises, linked_1, linked_2, linked_lists, linked_singles}
use Rattle.demands.proofs.LinkedCalls.{linked_3, linked_calls_hold_all}
use Rattle.demands.proofs.Text.{file_is_the_program, file_holds, new_mode_file_holds_all, linked_file_is_the_program}
use Rattle.demands.proofs.Text.{reply_is_the_program, calls_are_the_program, linked_calls_are_the_program, calls_hold}
use Rattle.demands.proofs.Text.{calls_kept_inside, linked_calls_kept_inside, comments_held_so_far}
use Rattle.stop_facts.proofs.HandedOn.{handed_on, handed_along, handed_away, handed_from}
use Rattle.stop_facts.proofs.AtBound.{bound_is_passed}
use Rattle.stop_facts.proofs.MarginEntry.{entry_kept}
use Rattle.stop_facts.proofs.MarginCalls.{calls_keep}
use Rattle.stop_facts.proofs.MarginOver.{kept_over_calls}
use Rattle.demands.proofs.Margin.{document_ends_at_margin, margin_over_calls, linked_document_ends_at_margin, linked_margin_over_calls}
use Rattle.demands.proofs.Text.{closed_calls_hold_all, batch_is_the_programs, linked_batch_is_the_programs}

pub claims : Claims
claims = record {
  demands = record {
    demand_1 = one.demand_1;
    demand_2 = two.demand_2;
    demand_3 = three.demand_3;
    edges = edges_hold;
    empty_line = empty_line_holds;
  };
  rules = record {
    call_as_rust = call_as_rust;
    binop_as_rust = binop_as_rust;
    due_is_fmt_parsed = due_is_fmt_parsed;
    cut_rule = rules_cut;
    within_limits = laid_within_limits;
    few_rows = few_rows;
    words_there = words_there;
    words_due = words_due;
    fault_of_part = fault_of_part;
    read_numbers = read_numbers;
  };
  text = record {
    file_is_the_program = file_is_the_program;
    file_holds = file_holds;
    new_mode_file_holds_all = new_mode_file_holds_all;
    reply_is_the_program = reply_is_the_program;
    calls_are_the_program = calls_are_the_program;
    calls_kept_inside = calls_kept_inside;
    comments_held_so_far = comments_held_so_far;
    calls_hold = calls_hold;
    closed_calls_hold_all = closed_calls_hold_all;
    batch_is_the_programs = batch_is_the_programs;
    writes_pieces = writes_pieces;
    says_the_program = says_the_program;
    fmt_parsed_says_the_program = fmt_parsed_says_the_program;
    no_slash_around = no_slash_around;
    slash_words = slash_words;
  };
  requests = record {
    blank_lines = blank_lines;
    totals_are_sums = totals_are_sums;
    same_in_any_order = same_in_any_order;
    first_are_counted = first_are_counted;
    same_feed_in_any_order = same_feed_in_any_order;
    always_reduced = always_reduced;
    file_text_limited = file_text_limited;
    file_column_limited = file_column_limited;
    reference_holds = reference_holds;
    widths_hold = widths_hold;
    closing_places_all = closing_places_all;
    closing_leaves_none = closing_leaves_none;
    closed_holds_all = closed_holds_all;
    calls_hold_all = calls_hold_all;
    new_mode_leaves_none = new_mode_leaves_none;
    old_mode_is_fmt_parsed = old_mode_is_fmt_parsed;
    exactly_one = exactly_one;
    written_reads_back = written_reads_back;
    generator_1 = generator_1;
    generator_lists = generator_lists;
    as_singles = as_singles;
    saves_1 = saves_1;
    editions_hold = editions_hold;
    supplied_stay = supplied_stay;
    back_after_forward = back_after_forward;
    forward_after_back = forward_after_back;
    twenty_one = twenty_one;
    archive_1 = archive_1;
    strict_is_in_order = strict_is_in_order;
    entries_agree = entries_agree;
    verdict_holds = verdict_holds;
    reads_back_1 = reads_back_1;
    allotments_join = allotments_join;
    numbers_rows = numbers_rows;
    handed_on = handed_on;
    handed_along = handed_along;
    handed_away = handed_away;
    handed_from = handed_from;
    bound_is_passed = bound_is_passed;
    never_drifts = never_drifts;
    ends_at_margin = ends_at_margin;
    document_ends_at_margin = document_ends_at_margin;
    entry_kept = entry_kept;
    calls_keep = calls_keep;
    kept_over_calls = kept_over_calls;
    margin_over_calls = margin_over_calls;
    each_once = exactly_once;
    counted = counts;
    places_exchanged = exchanged;
    all_accepted = all_accepted;
    one_image = one_image;
    formulas_1 = formulas_1;
  };
  linked = record {
    linked_promises = linked_promises;
    linked_1 = linked_1;
    linked_2 = linked_2;
    linked_3 = linked_3;
    linked_calls_hold_all = linked_calls_hold_all;
    linked_lists = linked_lists;
    linked_singles = linked_singles;
    linked_file_is_the_program = linked_file_is_the_program;
    linked_calls_are_the_program = linked_calls_are_the_program;
    linked_calls_kept_inside = linked_calls_kept_inside;
    linked_batch_is_the_programs = linked_batch_is_the_programs;
    linked_document_ends_at_margin = linked_document_ends_at_margin;
    linked_margin_over_calls = linked_margin_over_calls;
  };
}
