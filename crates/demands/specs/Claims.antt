-- All that is claimed, in one place: a field for each claim, under the sentence of the document that it is. proofs/Claims.antt has the one
-- proof of it, so that a claim that goes breaks the build. What each says is read in the file that its name is brought from; nothing is
-- assumed but what README.md lists.
use Rattle.std.specs.Prelude.{ℕ}
use Rattle.image.specs.Read.{ReadNumbers}
use Rattle.rows.specs.Words.{WordsThere}
use Rattle.acts.specs.Act.{Given, St}
use Rattle.renderer_rules.specs.Call.{CallAsRust}
use Rattle.renderer_rules.specs.Drift.{NeverDrifts, EndsAtMargin}
use Rattle.listed_rows.specs.Numbers.{NumbersRows}
use Rattle.widths.specs.Editions.{EditionsHold}
use Rattle.node_widths.specs.Summed.{SuppliedStay}
use Rattle.moves.specs.Returns.{BackAfterForward, ForwardAfterBack}
use Rattle.moves.specs.Exact.{TwentyOne}
use Rattle.demands.specs.Archive.{Archive1}
use Rattle.readback.specs.ReadsBack.{VerdictHolds}
use Rattle.demands.specs.ReadsBack.{ReadsBack1}
use Rattle.formulas.specs.Once.{EachOnce, Counted}
use Rattle.formulas.specs.Places.{Exchanged}
use Rattle.formula_images.specs.Claims.{AllAccepted, OneImage}
use Rattle.demands.specs.Formulas.{Formulas1}
use Rattle.renderer_rules.specs.Check.{FaultOfPart}
use Rattle.renderer_rules.specs.Holds.{WritesPieces, NoSlashAround}
use Rattle.layout_facts.specs.Accepted.{FewRows, WordsDue}
use Rattle.layout_facts.specs.BlankLines.{BlankLines}
use Rattle.layout_facts.specs.Binop.{BinopAsRust}
use Rattle.layout_facts.specs.Tokens.{SaysTheProgram, FmtParsedSaysTheProgram, SlashWords}
use Rattle.tree.specs.InOrder.{StrictIsInOrder}
use Rattle.whole_run.specs.Demands.{RulesCut, EntriesAgree, DueIsFmtParsed, LaidWithinLimits}
use Rattle.whole_run.specs.Allotments.{AllotmentsJoin}
use Rattle.stop_facts.specs.HandedOn.{HandedOn, HandedAlong, HandedAway, HandedFrom, BoundIsPassed}
use Rattle.stop_facts.specs.Margin.{EntryKept, CallsKeep, KeptOverCalls}
use Rattle.whole_run.specs.Edges.{EdgesHold, WidthsHold, EmptyLineHolds}
use Rattle.whole_run.specs.File.{OldModeIsFmtParsed, NewModeLeavesNone}
use Rattle.whole_run.specs.FileLimits.{FileTextLimited, FileColumnLimited}
use Rattle.whole_run.specs.Foot.{ClosingPlacesAll, ClosedHoldsAll}
use Rattle.whole_run.specs.Reference.{ReferenceHolds}
use Rattle.figures.specs.Order.{TotalsAreSums, SameInAnyOrder, FirstAreCounted, SameFeedInAnyOrder}
use Rattle.tallies.specs.Fraction.{AlwaysReduced}
use Rattle.steps.specs.Exact.{ExactlyOne, WrittenReadsBack}
use Rattle.batch.specs.Singles.{AsSingles}
use Rattle.demands.specs.Demand1 as one
use Rattle.demands.specs.Demand2 as two
use Rattle.demands.specs.Demand3.{Demand3, CallsHoldAll, ClosingLeavesNone}
use Rattle.demands.specs.Generator.{Generator1, GeneratorLists}
use Rattle.demands.specs.Saves.{Saves1}
use Rattle.demands.specs.Margin.{DocumentEndsAtMargin, MarginOverCalls, LinkedDocumentEndsAtMargin, LinkedMarginOverCalls}
use Rattle.demands.specs.Linked.{LinkedPromises, Linked1, Linked2, Linked3, LinkedCallsHoldAll, LinkedLists, LinkedSingles}
use Rattle.demands.specs.Text.{FileIsTheProgram, FileHolds, NewModeFileHoldsAll, LinkedFileIsTheProgram}
use Rattle.demands.specs.Text.{ReplyIsTheProgram, CallsAreTheProgram, LinkedCallsAreTheProgram}
use Rattle.demands.specs.Text.{CallsKeptInside, LinkedCallsKeptInside, CommentsHeldSoFar}
use Rattle.demands.specs.Text.{CallsHold, ClosedCallsHoldAll, BatchIsThePrograms, LinkedBatchIsThePrograms}

-- the three demands, of the entries by what they promise
pub record TheDemands : Type 0 where
  -- accepted, or refused under a number of the entry's list, with a place, and no lent buffer changed
  pub demand_1 : one.Demand1
  -- rows, marks, text and comments left are what `fmt_parsed` builds and `Renderer` renders
  pub demand_2 : two.Demand2
  -- "Demand 3, the cut rule, is one theorem on the list, not one a call."
  pub demand_3 : Demand3
  -- "The marked edges, held as a single list with one theorem about it"
  pub edges : EdgesHold
  -- "`EmptyLine` at column 0 writes one newline, elsewhere two."
  pub empty_line : EmptyLineHolds

-- the rules are the Rust's, and what is laid out is within the limits
pub record TheRules : Type 0 where
  -- "`Call`'s made-up group: a function over its two row ranges": the rule is that of fmt.rs
  pub call_as_rust : CallAsRust
  -- the rule for operators is `binop` of fmt.rs, with its stack and its two loops
  pub binop_as_rust : BinopAsRust
  -- "The rows and state due at a stop are those `fmt_parsed` has when its loop reaches that declaration."
  pub due_is_fmt_parsed : DueIsFmtParsed
  pub cut_rule : RulesCut
  -- "That no accepted tree yields deeper rows is proved."
  pub within_limits : LaidWithinLimits
  -- five rows for each 13 bytes of an image are enough
  pub few_rows : FewRows
  -- "the word due is there"
  pub words_there : WordsThere
  pub words_due : WordsDue
  -- 11: a part that goes past the end of its `Call` is at fault, and not the `Call`
  pub fault_of_part : FaultOfPart
  -- the reader refuses under 1 to 7 alone
  pub read_numbers : ReadNumbers

-- no comment and no word is lost
pub record TheText : Type 0 where
  pub file_is_the_program : FileIsTheProgram
  pub file_holds : FileHolds
  pub new_mode_file_holds_all : NewModeFileHoldsAll
  pub reply_is_the_program : ReplyIsTheProgram
  pub calls_are_the_program : CallsAreTheProgram
  pub calls_kept_inside : CallsKeptInside
  pub comments_held_so_far : CommentsHeldSoFar
  pub calls_hold : CallsHold
  pub closed_calls_hold_all : ClosedCallsHoldAll
  pub batch_is_the_programs : BatchIsThePrograms
  -- what they rest on: `Renderer` writes every piece of nodes, and the nodes of a tree say its tokens
  pub writes_pieces : WritesPieces
  pub says_the_program : SaysTheProgram
  pub fmt_parsed_says_the_program : FmtParsedSaysTheProgram
  -- comments start with `//`: none around the pieces, nor in a fixed word
  pub no_slash_around : NoSlashAround
  pub slash_words : SlashWords

-- the tickets of document 02 that have landed
pub record TheRequests : Type 0 where
  -- 1: "the gap that made a blank line": which gaps do, before each declaration, from every state of layout
  pub blank_lines : (g : Given) (name : ℕ) (s : St) → BlankLines g name s
  -- 2: "totals, the same in any order of the files counted"; "a reduced fraction"
  pub totals_are_sums : TotalsAreSums
  pub same_in_any_order : SameInAnyOrder
  pub first_are_counted : FirstAreCounted
  pub same_feed_in_any_order : SameFeedInAnyOrder
  pub always_reduced : AlwaysReduced
  pub file_text_limited : FileTextLimited
  pub file_column_limited : FileColumnLimited
  -- 3: "80 is the reference", and the edge of a line at other widths
  pub reference_holds : ReferenceHolds
  pub widths_hold : WidthsHold
  -- 4: "closing places every waiting comment"; "In the new mode a document closed by calls from fresh holds the whole list, 0 left"; "equality
  -- with the Rust in the old"
  pub closing_places_all : ClosingPlacesAll
  pub closing_leaves_none : ClosingLeavesNone
  pub closed_holds_all : ClosedHoldsAll
  pub calls_hold_all : CallsHoldAll
  pub new_mode_leaves_none : NewModeLeavesNone
  pub old_mode_is_fmt_parsed : OldModeIsFmtParsed
  -- 5: "exactly one list of steps that the writer, given room, turns into it"; "gives those steps"
  pub exactly_one : ExactlyOne
  pub written_reads_back : WrittenReadsBack
  pub generator_1 : Generator1
  pub generator_lists : GeneratorLists
  -- 7: "The result is that of single calls in the same order"
  pub as_singles : AsSingles
  pub saves_1 : Saves1
  -- 8: "each table has hundreds of ranges, ascending and without overlap, shown over the whole table", and what it says of each number;
  -- "Supplied widths stay equal to the Rust"
  pub editions_hold : EditionsHold
  pub supplied_stay : SuppliedStay
  -- 9: "Either move after the other, given room, returns the identical bytes"; 21 is "the first stored width that 16.0 doesn't give or, going
  -- back, one over 65,535"
  pub back_after_forward : BackAfterForward
  pub forward_after_back : ForwardAfterBack
  pub twenty_one : TwentyOne
  pub archive_1 : Archive1
  -- 10: "a comment must start at or after the end of the one before"; the archive entry "reads by the earlier rule and answers as before". That
  -- the cut rule "holds at both entries" is `demand_3`, whose calls are of either.
  pub strict_is_in_order : StrictIsInOrder
  pub entries_agree : EntriesAgree
  -- 11: "The verdict is yes exactly when none does; otherwise the first that does in reading order, by its offset"
  pub verdict_holds : VerdictHolds
  pub reads_back_1 : ReadsBack1
  -- 12: "From fresh to one stop, all handed on untouched, however the allotments fall, joined text, marks and end state are those of a single
  -- rendering"; each number in the state's list is one row, with "whether its parts wrap and which way a `Call` went". The count returned, the cut
  -- rule inside a declaration and the comments "among the rows ahead of the next one" are in the three demands.
  pub allotments_join : AllotmentsJoin
  pub numbers_rows : NumbersRows
  -- "stops when they are spent, wherever that is; the next goes on": what a call answers is accepted again, from fresh always, from every other state
  -- as far as 12's bounds let it; past them it isn't
  pub handed_on : HandedOn
  pub handed_along : HandedAlong
  pub handed_away : HandedAway
  pub handed_from : HandedFrom
  pub bound_is_passed : BoundIsPassed
  -- 13: "for each row of an accepted store, each admitted state and each width: when the row is done, `indent` plus `next_indent` is what it was before,
  -- `indent` is no smaller, and as each row within it is entered the sum is at most that before plus the rows, from this one down, that enclose the
  -- entered one"
  pub never_drifts : NeverDrifts
  -- "Hence a whole document from fresh ends with both 0": of the rules, and of the calls
  pub ends_at_margin : EndsAtMargin
  pub document_ends_at_margin : DocumentEndsAtMargin
  -- "With allotments, the state handed on and the row's range unchanged, it is said when the row finishes": of each row entered, by what closing the
  -- rows listed there would leave; of one call; over calls of the rules; and over calls of the function
  pub entry_kept : EntryKept
  pub calls_keep : CallsKeep
  pub kept_over_calls : KeptOverCalls
  pub margin_over_calls : MarginOverCalls
  -- 14: "each expression appears exactly once", in the order of the list; "There are 1, 2, 6, 20 and 72 for sizes 1 to 5"; "Given a size and a place,
  -- from 0, the image is written": it is accepted with every source that 1 and 2 let pass and says the formula alone, and two places give two images
  pub each_once : EachOnce
  pub counted : Counted
  pub places_exchanged : (n : ℕ) → Exchanged n
  pub all_accepted : AllAccepted
  pub one_image : OneImage
  pub formulas_1 : Formulas1

-- all of it of the functions that other languages link
pub record TheLinked : Type 0 where
  pub linked_promises : LinkedPromises
  pub linked_1 : Linked1
  pub linked_2 : Linked2
  pub linked_3 : Linked3
  pub linked_calls_hold_all : LinkedCallsHoldAll
  pub linked_lists : LinkedLists
  pub linked_singles : LinkedSingles
  pub linked_file_is_the_program : LinkedFileIsTheProgram
  pub linked_calls_are_the_program : LinkedCallsAreTheProgram
  pub linked_calls_kept_inside : LinkedCallsKeptInside
  pub linked_batch_is_the_programs : LinkedBatchIsThePrograms
  pub linked_document_ends_at_margin : LinkedDocumentEndsAtMargin
  pub linked_margin_over_calls : LinkedMarginOverCalls

pub record Claims : Type 0 where
  pub demands : TheDemands
  pub rules : TheRules
  pub text : TheText
  pub requests : TheRequests
  pub linked : TheLinked
