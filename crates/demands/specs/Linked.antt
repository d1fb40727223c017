-- The functions that other languages link, `rrufthim_check`, `rrufthim_layout`, `rrufthim_render`, `rrufthim_format`, `rrufthim_count`, `rrufthim_write`,
-- `rrufthim_steps`, `rrufthim_batch`, `rrufthim_columns`, `rrufthim_forward`, `rrufthim_back`, `rrufthim_reads_back`, `rrufthim_formula` and
-- `rrufthim_layout_archived`, which `archive` tells from `rrufthim_layout`. Their answers and states are arrays of so many numbers. What the numbers of an
-- answer tell is an answer of the function in Rattle, and that function's promise holds of it (`LinkedPromises`). So the three demands and the sentences of
-- requests 4, 5, 7 and 11 hold of what is linked. proofs/Linked.antt proves it.
use Rattle.std.specs.Prelude.{◌≡◌, Bool, true, false, cond, List, [], ◌∷◌, ◌++◌, map, ℕ, ◌≤◌, eqb, length, get_or, take, drop, replicate, Option}
use Rattle.std.specs.Prelude.{None, Some, Result, Ok, Err}
use Rattle.refusals.specs.Refusals.{Refusal, is_one_of}
use Rattle.refusals.specs.declared.Reason.{Reason}
use Rattle.refusals.specs.declared.Reason.TheVariants as reason
use Rattle.refusals.specs.declared.Refused.{Refused}
use Rattle.refusals.specs.Reasons.{answer_of}
use Rattle.rows.specs.declared.units.Columns.{Columns}
use Rattle.cut_rule.specs.Parts.{rule_line}
use Rattle.choices.specs.Columns.{columns_answer}
use Rattle.image.specs.Read.{read_all, reader_numbers, Checks, read_refusal}
use Rattle.image.specs.declared.Document.{Document}
use Rattle.comments.specs.Listed.{given}
use Rattle.layout.specs.Layout.{fmt_parsed}
use Rattle.layout.specs.Closing.{fresh, up_to, whole_rule}
use Rattle.cut_rule.specs.Run.{write_front, Call, layout_call, render_call, Carried, start}
use Rattle.cut_rule.specs.Plain.{at_first, answers_due, AllReadLaid}
use Rattle.cut_rule.specs.Callers.{after_all, AllKept}
use Rattle.cut_rule.specs.States.{OLD_MODE, NEW_MODE}
use Rattle.whole_run.specs.Demands.{rules_of}
use Rattle.whole_run.specs.File.{file_refusal}
use Rattle.whole_run.specs.Foot.{HoldsAll}
use Rattle.whole_run.specs.Built.{tree, declared}
use Rattle.layout_call.specs.declared.Laid.{Laid}
use Rattle.layout_call.specs.Calls as layout
use Rattle.layout_call.specs.Whole.{LayoutCalled}
use Rattle.render_call.specs.declared.Written.{Written}
use Rattle.render_call.specs.Calls as render
use Rattle.render_call.specs.Whole.{RenderCalled}
use Rattle.file.specs.declared.Text.{Text}
use Rattle.file.specs.Whole.{to_choice, Formats}
use Rattle.figures.specs.declared.Counted.{Counted}
use Rattle.figures.specs.Figures.{count_refusal, Counts}
use Rattle.image.specs.Write.{Bytes}
use Rattle.steps.specs.Writer.{writer_refusal}
use Rattle.steps.specs.OfImage.{steps_of_refusal}
use Rattle.writer.specs.Wrote.{Writes, Lists}
use Rattle.batch.specs.Batch.{all_saves, saves_by, batch_refusal}
use Rattle.batch.specs.Whole.{Batches}
use Rattle.batch.specs.Singles as singles
use Rattle.batch.specs.declared.Batch.{Batch}
use Rattle.exports.specs.Numbers.{layout_state, layout_args, render_state, render_list, render_args, file_choice, figures_from, tallies_from}
use Rattle.exports.specs.Calls.{ChecksFile, CountsFile, state_told, Lays, Renders, FormatsFile}
use Rattle.exports.specs.Generator.{WritesImage, ListsSteps}
use Rattle.exports.specs.Saves.{FormatsBatch}
use Rattle.exports.specs.Measures.{MeasuresText}
use Rattle.exports.specs.Archive as archive
use Rattle.exports.specs.Verdict.{SaysVerdict}
use Rattle.exports.specs.Formulas.{PutsFormula}
use Rattle.formula_images.specs.Images.{formula_refusal, WritesFormula}
use Rattle.demands.specs.Formulas.{formula_numbers}
use Rattle.moves.specs.Moves.{forward_refusal, back_refusal}
use Rattle.moves.specs.Moved.{MovesForward, MovesBack}
use Rattle.readback.specs.ReadsBack.{ReadsBack}
use Rattle.readback.specs.declared.Verdict.{Verdict}
use Rattle.readback.specs.declared.Verdict.TheVariants.{Same, Differs}
use Rattle.demands.specs.Archive.{move_numbers}
use Rattle.demands.specs.Demand1.{layout_numbers, render_numbers, file_numbers, count_numbers}
use Rattle.demands.specs.Demand2.{LaidOutAs, DrawnAs, FileAs}
use Rattle.demands.specs.Demand3.{Caller, Made, after_made, call_made, answer_made, held, HeldAsDue}
use Rattle.demands.specs.Demand3 as made
use Rattle.demands.specs.Generator.{writer_numbers, steps_numbers, TheList, GivesBack}
use Rattle.demands.specs.Saves.{batch_numbers}

-- ---- what the numbers of an answer tell
-- the first where the answer begins with 0, else the second
abbrev pub if_accepted : {A : Type 0} → List ℕ → A → A → A
if_accepted out2 new old = cond (eqb (get_or out2 0 0) 0) new old

-- the reason that a refusal's number stands for
abbrev pub reason_of : ℕ → Reason
reason_of n =
    cond (eqb n 1) reason.SourceTooLong
    (cond (eqb n 2) reason.SourceNotUtf8
    (cond (eqb n 3) reason.Header
    (cond (eqb n 4) reason.Record
    (cond (eqb n 5) reason.Depth
    (cond (eqb n 6) reason.Span
    (cond (eqb n 7) reason.Comments
    (cond (eqb n 8) reason.RowsNeeded
    (cond (eqb n 9) reason.MarksNeeded
    (cond (eqb n 10) reason.BytesNeeded
    (cond (eqb n 11) reason.Rows
    (cond (eqb n 12) reason.State
    (cond (eqb n 13) reason.Frame
    (cond (eqb n 14) reason.Tallies
    (cond (eqb n 15) reason.Width
    (cond (eqb n 16) reason.Steps
    (cond (eqb n 17) reason.ImageNeeds
    (cond (eqb n 18) reason.Frames
    (cond (eqb n 19) reason.BatchNeeds
    (cond (eqb n 20) reason.Rule
    (cond (eqb n 21) reason.StoredWidth
    (cond (eqb n 22) reason.Allotment
    (cond (eqb n 23) reason.Listed
    reason.Formula))))))))))))))))))))))

-- an answer, by what it tells where it begins with 0
abbrev pub answer_from : {A : Type 0} → A → List ℕ → Result A Refused
answer_from told o = if_accepted o (Ok told) (Err (record { reason = reason_of (get_or o 0 0); place = get_or o 1 0 }))

abbrev pub checked_from : List ℕ → Result Document Refused
checked_from o = answer_from (record { comments = get_or o 1 0; tree = get_or o 2 0 }) o

abbrev pub laying_from : List ℕ → Result Laid Refused
laying_from o = answer_from (record { state = layout_state (take 9 (drop 2 o)); left = get_or o 1 0 }) o

-- the state of an accepted rendering, as it is handed on
abbrev pub told_state : List ℕ → List ℕ
told_state o = take 264 (drop 3 o)

abbrev pub rendering_from : List ℕ → Result Written Refused
rendering_from o = answer_from (record { state = render_state (told_state o); bytes = record { 0 = get_or o 1 0 }; entered = get_or o 2 0 }) o

-- The list that the function in Rattle leaves: the rows that an accepted answer tells, over the front of the list that the state at entry stands for.
abbrev pub list_after : List ℕ → List ℕ → List ℕ
list_after state o = if_accepted o (write_front (take (get_or o 10 0) (drop 11 o)) (render_list state)) (render_list state)

abbrev pub formatted_from : List ℕ → Result Text Refused
formatted_from o = answer_from (record { bytes = record { 0 = get_or o 1 0 }; left = get_or o 2 0; rows = get_or o 3 0; numbers = get_or o 4 0 }) o

abbrev pub counted_from : List ℕ → Result Counted Refused
counted_from o =
    answer_from
    (record { figures = figures_from 1 o; tallies = tallies_from (drop 8 o); wrapped = record { over = get_or o 16 0; under = get_or o 17 0 } })
    o

abbrev pub wrote_from : List ℕ → Result ℕ Refused
wrote_from o = answer_from (get_or o 1 0) o

abbrev pub batch_from : List ℕ → Result Batch Refused
batch_from o = answer_from (record { files = get_or o 1 0; bytes = get_or o 2 0 }) o

abbrev pub columns_from : List ℕ → Result Columns Refused
columns_from o = answer_from (record { 0 = get_or o 1 0 }) o

abbrev pub verdict_from : List ℕ → Result Verdict Refused
verdict_from o = answer_from (cond (eqb (get_or o 1 0) 1) Same (Differs (get_or o 2 0))) o

-- the promise of each, by what is promised of the function that is linked
pub record LinkedPromises : Type 0 where
  pub check : (s b out out2 : List ℕ) → length out ≡ 4 → ChecksFile s b out out2
      → Checks s b (checked_from out2)
  pub layout : (archive : Bool) (s b store state args out store2 out2 : List ℕ) → length out ≡ 11 → Lays archive s b store state args out store2 out2
      → LayoutCalled s b (layout_state state) (layout_args archive args) store (laying_from out2) store2
  pub render : (s b store marks output state args out store2 marks2 output2 out2 : List ℕ) → length out ≡ 267
      → Renders s b store marks output state args out store2 marks2 output2 out2
      → RenderCalled s b (state_told state) (render_args args) store marks output (render_list state) (rendering_from out2) store2 marks2 output2
      (list_after state out2)
  pub format : (s b choice output out output2 out2 : List ℕ) → length out ≡ 5 → FormatsFile s b choice output out output2 out2
      → Formats s b (to_choice (file_choice choice)) output (formatted_from out2) output2
  pub count : (s b from out out2 : List ℕ) → length out ≡ 18 → CountsFile s b from out out2
      → Counts s b (tallies_from from) (counted_from out2)
  pub write : (l output out output2 out2 : List ℕ) → length out ≡ 2 → WritesImage l output out output2 out2
      → Writes l output (wrote_from out2) output2
  pub steps : (s b output out output2 out2 : List ℕ) → length out ≡ 2 → ListsSteps s b output out output2 out2
      → Lists s b output (wrote_from out2) output2
  pub batch : (f choice table output out table2 output2 out2 : List ℕ) → length out ≡ 3 → FormatsBatch f choice table output out table2 output2 out2
      → Batches f (to_choice (file_choice choice)) table output (batch_from out2) table2 output2
  pub columns : (text : List ℕ) (rule supplied : ℕ) (out out2 : List ℕ) → length out ≡ 2 → MeasuresText text rule supplied out out2
      → answer_of (λ (c : Columns). c.0) (columns_from out2) ≡ columns_answer rule supplied text
  pub forward : (s b output out output2 out2 : List ℕ) → length out ≡ 2 → archive.MovesForward s b output out output2 out2
      → MovesForward s b output (wrote_from out2) output2
  pub back : (s b output out output2 out2 : List ℕ) → length out ≡ 2 → archive.MovesBack s b output out output2 out2
      → MovesBack s b output (wrote_from out2) output2
  pub reads_back : (s b out out2 : List ℕ) → length out ≡ 3 → SaysVerdict s b out out2
      → ReadsBack s b (verdict_from out2)
  pub formula : (size place : ℕ) (output out output2 out2 : List ℕ) → length out ≡ 2 → PutsFormula size place output out output2 out2
      → WritesFormula size place output (wrote_from out2) output2

-- ---- demand 1
-- the columns of a text: 20 alone
abbrev pub columns_numbers : List ℕ
columns_numbers = 20 ∷ []

-- a refusal in an answer's first two places; it is one of the entry's numbers, none of which is 0, and `Kept` says that its buffers are as they were
pub record ToldRefusal (numbers : List ℕ) (r : Refusal) (out2 : List ℕ) (Kept : Type 0) : Type 0 where
  pub number_told : get_or out2 0 0 ≡ r.number
  pub place_told : get_or out2 1 0 ≡ r.place
  pub listed_one : is_one_of r.number numbers ≡ true
  pub kept : Kept

-- the answer of an entry for arguments of which the table says `table`: 0 first, where nothing refuses
pub record Told (numbers : List ℕ) (table : Option Refusal) (out2 : List ℕ) (Kept : Type 0) : Type 0 where
  pub accepted : table ≡ None → get_or out2 0 0 ≡ 0
  pub refused : (r : Refusal) → table ≡ Some r → ToldRefusal numbers r out2 Kept

pub record Linked1 : Type 0 where
  pub check : (s b out out2 : List ℕ) → length out ≡ 4
      → ChecksFile s b out out2
      → Told reader_numbers (read_refusal (read_all s b)) out2 (Unit {0})
  pub layout : (archive : Bool) (s b store state args out store2 out2 : List ℕ) → length out ≡ 11
      → Lays archive s b store state args out store2 out2
      → Told layout_numbers ((rules_of s b).layout_refusal (layout.to_args (layout_args archive args)) (layout.to_state (layout_state state)) store) out2
      (store2 ≡ store)
  pub render : (s b store marks output state args out store2 marks2 output2 out2 : List ℕ) → length out ≡ 267
      → Renders s b store marks output state args out store2 marks2 output2 out2
      → Told render_numbers ((rules_of s b).render_refusal (render.to_args (render_args args) (length output)) (state_told state) store marks) out2
      ((store2 ≡ store) × (marks2 ≡ marks) × (output2 ≡ output))
  pub format : (s b choice output out output2 out2 : List ℕ) → length out ≡ 5 → FormatsFile s b choice output out output2 out2
      → Told file_numbers (file_refusal s b (to_choice (file_choice choice)) (length output)) out2 (output2 ≡ output)
  pub count : (s b from out out2 : List ℕ) → length out ≡ 18 → CountsFile s b from out out2
      → Told count_numbers (count_refusal s b (tallies_from from)) out2 (Unit {0})
  pub write : (l output out output2 out2 : List ℕ) → length out ≡ 2 → WritesImage l output out output2 out2
      → Told writer_numbers (writer_refusal l (length output)) out2 (output2 ≡ output)
  pub steps : (s b output out output2 out2 : List ℕ) → length out ≡ 2 → ListsSteps s b output out output2 out2
      → Told steps_numbers (steps_of_refusal s b (length output)) out2 (output2 ≡ output)
  pub batch : (f choice table output out table2 output2 out2 : List ℕ) → length out ≡ 3 → FormatsBatch f choice table output out table2 output2 out2
      → Told batch_numbers (batch_refusal (to_choice (file_choice choice)) f (length table) (length output)) out2 ((table2 ≡ table) × (output2 ≡ output))
  pub columns : (text : List ℕ) (rule supplied : ℕ) (out out2 : List ℕ) → length out ≡ 2 → MeasuresText text rule supplied out out2
      → Told columns_numbers (rule_line false rule) out2 (Unit {0})
  pub forward : (s b output out output2 out2 : List ℕ) → length out ≡ 2 → archive.MovesForward s b output out output2 out2
      → Told move_numbers (forward_refusal s b (length output)) out2 (output2 ≡ output)
  pub back : (s b output out output2 out2 : List ℕ) → length out ≡ 2 → archive.MovesBack s b output out output2 out2
      → Told move_numbers (back_refusal s b (length output)) out2 (output2 ≡ output)
  pub reads_back : (s b out out2 : List ℕ) → length out ≡ 3 → SaysVerdict s b out out2
      → Told reader_numbers (read_refusal (read_all s b)) out2 (Unit {0})
  pub formula : (size place : ℕ) (output out output2 out2 : List ℕ) → length out ≡ 2 → PutsFormula size place output out output2 out2
      → Told formula_numbers (formula_refusal size place (length output)) out2 (output2 ≡ output)

-- ---- demand 2
-- "Fresh is all 0"
abbrev pub fresh_layout_numbers : List ℕ
fresh_layout_numbers = replicate 9 0

abbrev pub fresh_render_numbers : List ℕ
fresh_render_numbers = replicate 264 0

-- calls from fresh that answer with 0 first leave what `fmt_parsed` builds and renders; states, comments left, bytes and rows entered are the answer's
-- numbers
pub record Linked2 : Type 0 where
  pub at_stop : (archive : Bool) (s b store : List ℕ) (stop mode rule : ℕ) (out store2 out2 : List ℕ) → length out ≡ 11
      → Lays archive s b store fresh_layout_numbers (stop ∷ 0 ∷ mode ∷ rule ∷ []) out store2 out2
      → get_or out2 0 0 ≡ 0
      → LaidOutAs rule s b (up_to (given s b) (tree s b) (take stop (declared s b)) fresh) store (layout_state (take 9 (drop 2 out2))) (get_or out2 1 0) store2
  pub closed : (archive : Bool) (s b store : List ℕ) (rule : ℕ) (out store2 out2 : List ℕ) → length out ≡ 11
      → Lays archive s b store fresh_layout_numbers (length (declared s b) ∷ 1 ∷ OLD_MODE ∷ rule ∷ []) out store2 out2
      → get_or out2 0 0 ≡ 0
      → LaidOutAs rule s b (fmt_parsed (given s b) (tree s b) fresh) store (layout_state (take 9 (drop 2 out2))) (get_or out2 1 0) store2
  pub closed_keeping : (archive : Bool) (s b store : List ℕ) (rule : ℕ) (out store2 out2 : List ℕ) → length out ≡ 11
      → Lays archive s b store fresh_layout_numbers (length (declared s b) ∷ 1 ∷ NEW_MODE ∷ rule ∷ []) out store2 out2
      → get_or out2 0 0 ≡ 0
      → LaidOutAs rule s b (whole_rule (given s b) (tree s b) true fresh) store (layout_state (take 9 (drop 2 out2))) (get_or out2 1 0) store2
      × (get_or out2 1 0 ≡ 0)
  -- a rendering over all rows of such a layout: its stop is the layout state's next row, and its allotment as many rows or more
  pub rendered : (archive : Bool) (s b store : List ℕ) (mode rule : ℕ) (out store2 out2 : List ℕ) → length out ≡ 11
      → Lays archive s b store fresh_layout_numbers (length (declared s b) ∷ 1 ∷ mode ∷ rule ∷ []) out store2 out2
      → get_or out2 0 0 ≡ 0
      → (width allotment : ℕ) → (layout_state (take 9 (drop 2 out2))).row ≤ allotment
      → (marks output out3 store3 marks2 output2 out4 : List ℕ) → length out3 ≡ 267
      → Renders s b store2 marks output fresh_render_numbers ((layout_state (take 9 (drop 2 out2))).row ∷ width ∷ rule ∷ allotment ∷ []) out3 store3 marks2
      output2 out4
      → get_or out4 0 0 ≡ 0
      → DrawnAs s b (record { width = width; mode = mode; rule = rule }) marks output (get_or out4 1 0) (get_or out4 2 0) marks2 output2
  pub file : (s b choice output out output2 out2 : List ℕ) → length out ≡ 5 → FormatsFile s b choice output out output2 out2 → get_or out2 0 0 ≡ 0
      → FileAs s b (to_choice (file_choice choice)) output (get_or out2 1 0) (get_or out2 2 0) (get_or out2 3 0) (get_or out2 4 0) output2

-- ---- demand 3
-- what a caller holds: the buffers, both states as arrays, the text joined in call order, the comments left that it was told last
pub record Holder : Type 0 where
  pub store : List ℕ
  pub marks : List ℕ
  pub layout_state_of : List ℕ
  pub render_state_of : List ℕ
  pub text : List ℕ
  pub left : Option ℕ

-- "Fresh is all 0"
abbrev pub fresh_holder : List ℕ → List ℕ → Holder
fresh_holder store₀ marks₀ =
    record { store = store₀; marks = marks₀; layout_state_of = fresh_layout_numbers; render_state_of = fresh_render_numbers; text = []; left = None }

-- a call that was made: of layout whether by the archive entry, then its arguments, and the buffers at exit, the answer's array last
pub data LinkedCall : Type 0 where
  laid : (archive : Bool) (args out store2 out2 : List ℕ) → LinkedCall
  rendered : (args output out store2 marks2 output2 out2 : List ℕ) → LinkedCall

abbrev pub LinkedPromised : (s b : List ℕ) → Holder → LinkedCall → Type 0
LinkedPromised s b w (laid archive args out store2 out2) = (length out ≡ 11) × Lays archive s b w.store w.layout_state_of args out store2 out2
LinkedPromised s b w (rendered args output out store2 marks2 output2 out2) =
    (length out ≡ 267) × Renders s b w.store w.marks output w.render_state_of args out store2 marks2 output2 out2

-- what the caller holds after a call: the new state is the answer from its third place on, and of rendering from its fourth
abbrev pub after_linked : Holder → LinkedCall → Holder
after_linked w (laid archive args out store2 out2) = record {
  store = store2;
  marks = w.marks;
  layout_state_of = if_accepted out2 (take 9 (drop 2 out2)) w.layout_state_of;
  render_state_of = w.render_state_of;
  text = w.text;
  left = if_accepted out2 (Some (get_or out2 1 0)) w.left;
}
after_linked w (rendered args output out store2 marks2 output2 out2) = record {
  store = store2;
  marks = marks2;
  layout_state_of = w.layout_state_of;
  render_state_of = if_accepted out2 (told_state out2) w.render_state_of;
  text = w.text ++ if_accepted out2 (take (get_or out2 1 0) output2) [];
  left = w.left;
}

-- the same in the words of the cut rule
abbrev pub call_linked : (s b : List ℕ) → LinkedCall → Call (rules_of s b)
call_linked s b (laid archive args out store2 out2) = layout_call (layout.to_args (layout_args archive args))
call_linked s b (rendered args output out store2 marks2 output2 out2) = render_call (render.to_args (render_args args) (length output))

abbrev pub held_linked : (s b : List ℕ) → Holder → Carried (rules_of s b)
held_linked s b w = record {
  store = w.store;
  marks = w.marks;
  layout_state_of = layout.to_state (layout_state w.layout_state_of);
  render_state_of = state_told w.render_state_of;
  text = w.text;
  left = w.left;
}

-- the call as one of the functions in Rattle, with the answer and the list that its numbers tell
abbrev pub made_linked : LinkedCall → Made
made_linked (laid archive args out store2 out2) = made.laid (layout_args archive args) (laying_from out2) store2
made_linked (rendered args output out store2 marks2 output2 out2) =
    made.rendered (render_args args) output (rendering_from out2) store2 marks2 output2 (render_list (told_state out2))

-- what is held is what is due, and so is every answer
pub record LinkedCut (s b store₀ marks₀ : List ℕ) (calls : List LinkedCall) : Type 0 where
  pub as_due : HeldAsDue s b store₀ marks₀ (map (call_linked s b) calls) (held_linked s b (after_all after_linked (fresh_holder store₀ marks₀) calls))
  pub answered : map (λ m. answer_made s b (made_linked m)) calls
      ≡ answers_due (rules_of s b) store₀ marks₀ (at_first (rules_of s b)) (map (call_linked s b) calls)

-- for every list of calls that keep their promise, in which no accepted call reads rows not yet laid out
abbrev pub Linked3 : Type 0
Linked3 =
    (s b store₀ marks₀ : List ℕ) (calls : List LinkedCall) → AllKept after_linked (LinkedPromised s b) (fresh_holder store₀ marks₀) calls
    → AllReadLaid (rules_of s b) (start (rules_of s b) store₀ marks₀) (map (call_linked s b) calls)
    → LinkedCut s b store₀ marks₀ calls

-- ---- request 4
-- "In the new mode a document closed by calls from fresh holds the whole list, 0 left"
abbrev pub LinkedCallsHoldAll : Type 0
LinkedCallsHoldAll =
    (s b store₀ marks₀ : List ℕ) (calls : List LinkedCall) → AllKept after_linked (LinkedPromised s b) (fresh_holder store₀ marks₀) calls
    → (layout_state (after_all after_linked (fresh_holder store₀ marks₀) calls).layout_state_of).closed ≡ true
    → (layout_state (after_all after_linked (fresh_holder store₀ marks₀) calls).layout_state_of).mode ≡ NEW_MODE
    → HoldsAll s b (held_linked s b (after_all after_linked (fresh_holder store₀ marks₀) calls))

-- ---- request 5
-- the request's two sentences, of a list that `rrufthim_steps` gave and of an image that `rrufthim_write` wrote
pub record LinkedLists : Type 0 where
  pub one : (s b output out output2 out2 : List ℕ) → length out ≡ 2 → Bytes b → ListsSteps s b output out output2 out2
      → get_or out2 0 0 ≡ 0
      → TheList b (take (get_or out2 1 0) output2)
  pub back : (l output out output2 out2 : List ℕ) → length out ≡ 2 → Bytes l → WritesImage l output out output2 out2
      → get_or out2 0 0 ≡ 0
      → GivesBack l (take (get_or out2 1 0) output2)

-- ---- request 7
-- "The result is that of single calls in the same order", of `rrufthim_batch`, with the answer that its numbers tell
abbrev pub LinkedSingles : Type 0
LinkedSingles =
    (f choice : List ℕ) (ms : List singles.Made) → singles.AllSingle (to_choice (file_choice choice)) ms
    → map (λ m. m.file) ms ≡ saves_by (all_saves f)
    → (table output out table2 output2 out2 : List ℕ) → length out ≡ 3
    → FormatsBatch f choice table output out table2 output2 out2
    → singles.SameAsSingles f ms table output (batch_from out2) table2 output2
