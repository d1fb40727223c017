-- The numbers that a linked function leaves tell the answer of the function in Rattle, and so what is proved of that one holds of the linked one.
-- Assumes nothing.
use mathlib.Core.Path.{◌≡◌, refl, sym, ap, subst, ◌∙◌}
use mathlib.Core.Bool.{Bool, true, false, cond, ◌&&◌, ◌||◌}
use Rattle.std.specs.Prelude.{Option, None, Some, Result, Ok, Err}
use mathlib.Core.List.{List, [], ◌∷◌, ◌++◌, map}
use Prim.Native.Nat.{ℕ, suc, ◌-◌, ◌≤◌}
use native.Mathlib.Omega.{arith}
use lib.Dec.{eqb}
use lib.ListN.{length, get_or, take, drop, replicate, length-map}
use lib.Seq.{take-take}
use borrow.Author.Tests.{eqb-true, eq-eqb}
use Rattle.refusals.specs.Refusals.{Refusal, any, is_one_of, unless}
use Rattle.refusals.specs.Answers.{Answer, refused, accepted, answer_by, numbers_of}
use Rattle.refusals.proofs.Answers.{told_zero, told_refusal}
use Rattle.refusals.specs.Reasons.{number_of, answer_of}
use Rattle.refusals.specs.declared.Refused.{Refused}
use Rattle.laws.proofs.Booleans.{false_true, and_left, and_right}
use Rattle.rows.specs.Limits.{MAX_DEPTH}
use Rattle.renderer_rules.specs.Stops.{OpenRow}
use Rattle.listed_rows.specs.Numbers.{row_number}
use Rattle.image.specs.Read.{Read, got, bad, Image, read_all, read_refusal, reader_numbers, document_of, outcome}
use Rattle.image.specs.declared.Document.{Document}
use Rattle.cut_rule.specs.Rules.{RenderArgs, RenderResult}
use Rattle.cut_rule.specs.Run.{write_front, CallResult, laid_out, written}
use Rattle.cut_rule.specs.Entries.{render_gives}
use Rattle.cut_rule.specs.Parts.{rule_line}
use Rattle.cut_rule.specs.Tests.{chosen_tests}
use Rattle.rows.specs.declared.units.Columns.{Columns}
use Rattle.widths.specs.Rules.{columns_by}
use Rattle.cut_rule.specs.States as states
use Rattle.cut_rule.specs.States.{NEW_MODE}
use Rattle.whole_run.specs.Built.{declared}
use Rattle.whole_run.specs.Demands.{rules_of}
use Rattle.whole_run.specs.File.{file_refusal, FileResult, file_result}
use Rattle.layout_call.specs.declared.Laid.{Laid}
use Rattle.layout_call.specs.Calls as layout
use Rattle.layout_call.specs.Whole.{LayoutCalled}
use Rattle.render_call.specs.declared.Written.{Written}
use Rattle.render_call.specs.Calls as render
use Rattle.render_call.specs.Calls.{listed_of}
use Rattle.render_call.specs.Whole.{RenderCalled}
use Rattle.file.specs.declared.Text.{Text}
use Rattle.file.specs.Whole.{to_choice, formatted_answer, Formats}
use Rattle.figures.specs.Figures.{figures_of, count_refusal, CountResult, count_result, counted_answer}
use Rattle.steps.specs.Writer.{writer_refusal, image_due}
use Rattle.steps.specs.OfImage.{steps_of_refusal, steps_due}
use Rattle.writer.specs.Wrote.{Writes, Lists}
use Rattle.batch.specs.Batch.{batch_refusal, BatchResult, batch_result}
use Rattle.batch.specs.Whole.{batched_answer, Batches}
use Rattle.batch.specs.declared.Batch.{Batch}
use Rattle.batch.proofs.Singles.{as_singles}
use Rattle.exports.specs.Numbers.{flag, bit, layout_state, layout_args, render_state, listed_number, render_list, render_args}
use Rattle.exports.specs.Numbers.{file_choice, tallies_from, told_document, told_call, told_file, told_counted}
use Rattle.exports.specs.Calls.{ChecksFile, state_told, Lays, Renders, FormatsFile}
use Rattle.exports.specs.Generator.{told_bytes}
use Rattle.exports.specs.Saves.{told_batch, FormatsBatch}
use Rattle.exports.specs.Measures.{told_columns}
use Rattle.exports.specs.Verdict.{SaysVerdict}
use Rattle.readback.specs.Verdict.{told_verdict}
use Rattle.readback.specs.declared.Verdict.{Verdict}
use Rattle.readback.specs.declared.Verdict.TheVariants.{Same, Differs}
use Rattle.demands.specs.Demand1.{layout_numbers, render_numbers, file_numbers, count_numbers}
use Rattle.demands.specs.Generator.{writer_numbers, steps_numbers}
use Rattle.demands.specs.Saves.{batch_numbers}
use Rattle.demands.specs.Linked.{reason_of, answer_from, checked_from, laying_from, rendering_from, formatted_from, counted_from, wrote_from, batch_from}
use Rattle.demands.specs.Linked.{columns_from, columns_numbers, verdict_from}
use Rattle.demands.specs.Linked.{told_state, list_after, fresh_render_numbers}
use Rattle.demands.specs.Linked.{LinkedPromises, Told, Linked1, Linked2}
use Rattle.demands.specs.Linked.{LinkedLists, LinkedSingles}
use Rattle.demands.proofs.Demand1.{Under, under_if, read_under, layout_under, render_under, file_under, count_under, left_same}
use Rattle.demands.proofs.Demand2.{demand_2}
use Rattle.demands.proofs.Listed.{first_numbers, listed_back, InArray, given_fits}
use Rattle.demands.proofs.Generator.{write_under, list_under, generator_lists}
use Rattle.demands.proofs.Saves.{batch_under}
use Rattle.moves.specs.Moves.{forward_image, back_image, forward_refusal, back_refusal}
use Rattle.demands.specs.Archive.{move_numbers}
use Rattle.formula_images.specs.Images.{formula_image, formula_refusal}
use Rattle.demands.specs.Formulas.{formula_numbers}
use Rattle.demands.proofs.Formulas.{formula_under}
use Rattle.demands.proofs.Archive.{forward_under, back_under}
use Rattle.demands.proofs.ReadsBack.{verdict_read, verdict_answer}

-- ---- numbers and answers
-- an entry's number is not 0
not_zero : (ns : List ℕ) (r : Refusal) → is_one_of 0 ns ≡ false → is_one_of r.number ns ≡ true → eqb r.number 0 ≡ false
not_zero ns r f e = go (eqb r.number 0) refl
  where
    go : (t : Bool) → eqb r.number 0 ≡ t → t ≡ false
    go false p = refl
    go true p =
        let n : r.number ≡ 0 = eqb-true r.number 0 p in
        let z : ◌≡◌ {A = Bool} true false = sym e ∙ ap (λ (k : ℕ). is_one_of k ns) n ∙ f in
        absurd (let y : ◌≡◌ {A = ℕ} 0 1 = cc in omega arith)

from_accepted : {X : Type 0} (x : X) (out2 : List ℕ) → get_or out2 0 0 ≡ 0 → answer_from x out2 ≡ Ok x
from_accepted {X} x out2 e =
    ap (λ (n : ℕ). let r : Result X Refused = Err (record { reason = reason_of n; place = get_or out2 1 0 }) in cond (eqb n 0) (Ok x) r) e

-- numbers that have a reason
abbrev all_named : List ℕ → Bool
all_named [] = true
all_named (n ∷ ns) = eqb (number_of (reason_of n)) n && all_named ns

named : (ns : List ℕ) → all_named ns ≡ true → (n : ℕ) → is_one_of n ns ≡ true → number_of (reason_of n) ≡ n
named [] h n e = absurd (false_true e)
named (k ∷ ns) h n e =
    let test : Bool = eqb (number_of (reason_of k)) k in
    go (eqb-true (number_of (reason_of k)) k (and_left test (all_named ns) h)) (named ns (and_right test (all_named ns) h) n) (eqb n k) refl e
  where
    go : number_of (reason_of k) ≡ k → (is_one_of n ns ≡ true → number_of (reason_of n) ≡ n) → (t : Bool) → eqb n k ≡ t
        → (t || is_one_of n ns) ≡ true
        → number_of (reason_of n) ≡ n
    go here later true f g = rw (eqb-true n k f) here
    go here later false f g = later g

flag_bit : (t : Bool) → flag (bit t) ≡ t
flag_bit true = refl
flag_bit false = refl

-- a refusal, read from its number and place
refusal_from : {X A : Type 0} (value : X → A) (x : X) (r : Refusal) (rest : List ℕ) → number_of (reason_of r.number) ≡ r.number
    → eqb r.number 0 ≡ false
    → answer_of value (answer_from x (r.number ∷ r.place ∷ rest)) ≡ refused r
refusal_from {X} value x r rest e f =
    let told : Result X Refused = Err (record { reason = reason_of r.number; place = r.place }) in
    ap (λ (t : Bool). answer_of value (cond t (Ok x) told)) f ∙ ap (λ (n : ℕ). refused (record { number = n; place = r.place })) e

-- what numbers that begin with 0 tell, and what others tell
record Reads {X A : Type 0} (answer : X → Answer A) (from : List ℕ → X) (told : A → List ℕ) (a : A) : Type 0 where
  pub refusal : (r : Refusal) (rest : List ℕ) → number_of (reason_of r.number) ≡ r.number → eqb r.number 0 ≡ false
      → answer (from (r.number ∷ r.place ∷ rest)) ≡ refused r
  pub given : (rest : List ℕ) → answer (from ((0 ∷ told a) ++ rest)) ≡ accepted a

-- so the numbers of an answer by a table tell that answer, where what is given has room if it is accepted
read_back_in : {X A : Type 0} (answer : X → Answer A) (from : List ℕ → X) (told : A → List ℕ) (ns : List ℕ) (o : Option Refusal) (a : A)
    (out out2 : List ℕ)
    → is_one_of 0 ns ≡ false
    → all_named ns ≡ true
    → Under ns o
    → 2 ≤ length out
    → (o ≡ None → suc (length (told a)) ≤ length out)
    → Reads answer from told a
    → out2 ≡ numbers_of told (answer_by o a) out
    → answer (from out2) ≡ answer_by o a
read_back_in {X} {A} answer from told ns o a out out2 z w u two all back e = go o refl
  where
    go : (x : Option Refusal) → o ≡ x → answer (from out2) ≡ answer_by x a
    go None f = ap (λ (l : List ℕ). answer (from l)) (e ∙ told_zero told o a out (all f) f) ∙ back.given (drop (suc (length (told a))) out)
    go (Some r) f =
        ap (λ (l : List ℕ). answer (from l)) (e ∙ told_refusal told o a out r two f)
        ∙ back.refusal r (drop 2 out) (named ns w r.number (u.of r f)) (not_zero ns r z (u.of r f))

read_back : {X A : Type 0} (answer : X → Answer A) (from : List ℕ → X) (told : A → List ℕ) (ns : List ℕ) (o : Option Refusal) (a : A)
    (out out2 : List ℕ)
    → is_one_of 0 ns ≡ false
    → all_named ns ≡ true
    → Under ns o
    → 2 ≤ length out
    → suc (length (told a)) ≤ length out
    → Reads answer from told a
    → out2 ≡ numbers_of told (answer_by o a) out
    → answer (from out2) ≡ answer_by o a
read_back answer from told ns o a out out2 z w u two all back e = read_back_in answer from told ns o a out out2 z w u two (λ f. all) back e

-- the first numbers of it
told_first_in : {A : Type 0} (told : A → List ℕ) (ns : List ℕ) (o : Option Refusal) (a : A) (out out2 : List ℕ) (Kept : Type 0) → Under ns o
    → 2 ≤ length out
    → (o ≡ None → suc (length (told a)) ≤ length out)
    → ((r : Refusal) → o ≡ Some r → Kept)
    → out2 ≡ numbers_of told (answer_by o a) out
    → Told ns o out2 Kept
told_first_in told ns o a out out2 Kept u two all kept e = record {
  accepted = λ f. ap (λ (l : List ℕ). get_or l 0 0) (e ∙ told_zero told o a out (all f) f);
  refused =
      λ r f.
      let at = e ∙ told_refusal told o a out r two f in
      record {
        number_told = ap (λ (l : List ℕ). get_or l 0 0) at;
        place_told = ap (λ (l : List ℕ). get_or l 1 0) at;
        listed_one = u.of r f;
        kept = kept r f;
      };
}

told_first : {A : Type 0} (told : A → List ℕ) (ns : List ℕ) (o : Option Refusal) (a : A) (out out2 : List ℕ) (Kept : Type 0) → Under ns o
    → 2 ≤ length out
    → suc (length (told a)) ≤ length out
    → ((r : Refusal) → o ≡ Some r → Kept)
    → out2 ≡ numbers_of told (answer_by o a) out
    → Told ns o out2 Kept
told_first told ns o a out out2 Kept u two all kept e = told_first_in told ns o a out out2 Kept u two (λ f. all) kept e

-- ---- the reader's check: its answer is one by a table
abbrev document_by : Read Image → Document
document_by (got i end) = document_of i
document_by (bad n p) = record { comments = 0; tree = 0 }

outcome_by : (x : Read Image) → outcome x ≡ answer_by (read_refusal x) (document_by x)
outcome_by (got i end) = refl
outcome_by (bad n p) = refl

check_told : (s b out out2 : List ℕ) → ChecksFile s b out out2
    → out2 ≡ numbers_of (told_document (length (declared s b))) (answer_by (read_refusal (read_all s b)) (document_by (read_all s b))) out
check_told s b out out2 e =
    e ∙ ap (λ (a : Answer Document). numbers_of (told_document (length (declared s b))) a out) (outcome_by (read_all s b))

-- ---- what the numbers of each entry tell
checked_reads : (d : ℕ) (a : Document) → Reads (answer_of (λ d. d)) checked_from (told_document d) a
checked_reads d a = record { refusal = λ r rest. refusal_from (λ d. d) _ r rest; given = λ rest. refl }

laying_reads : (s b : List ℕ) (t : states.LayoutState) (n : ℕ) → Reads (layout.laying_answer s b) laying_from (told_call s b) (laid_out t n)
laying_reads s b t n = record {
  refusal = λ r rest. refusal_from _ _ r rest;
  given =
      λ rest i.
      accepted
      (laid_out
      (record {
        begun = flag_bit t.begun i;
        closed = flag_bit t.closed i;
        declaration = t.declaration;
        cursor = t.cursor;
        mode = t.mode;
        rule = t.rule;
      })
      n);
}

-- a rendering's answer with the list at exit
abbrev rendered_answer : (s b : List ℕ) → Result Written Refused × List ℕ → Answer (CallResult (rules_of s b))
rendered_answer s b x = render.rendering_answer s b x.1 x.0

abbrev rendered_from : List ℕ → List ℕ → Result Written Refused × List ℕ
rendered_from state o = (rendering_from o, list_after state o)

-- a state with these rows listed
abbrev with_rows : states.RenderState → List OpenRow → states.RenderState
with_rows t l = record { pen = t.pen; in_use = t.in_use; row = t.row; width = t.width; rule = t.rule; listed = l }

-- the list that an accepted answer leaves holds its rows
rows_after : (ls : List OpenRow) (old rest : List ℕ) → listed_of (length ls) (write_front (take (length ls) (map row_number ls ++ rest)) old) ≡ ls
rows_after ls old rest =
    ap (λ (l : List ℕ). listed_of (length ls) (write_front l old)) (first_numbers ls rest)
    ∙ listed_back ls (drop (length (map row_number ls)) old)

rendering_reads : (s b state : List ℕ) (t : states.RenderState) (n k : ℕ)
    → Reads (rendered_answer s b) (rendered_from state) (told_call s b) (written t n k)
rendering_reads s b state t n k = record {
  refusal = λ r rest. refusal_from _ _ r rest;
  given = λ rest. ap (λ (l : List OpenRow). accepted (written (with_rows t l) n k)) (rows_after t.listed (render_list state) rest);
}

-- and so does the list that stands for its state, as it is handed on
rows_told : (ls : List OpenRow) (rest : List ℕ) → InArray ls
    → listed_of (length ls)
    (map listed_number (take (length ls) (take 256 (map row_number ls ++ rest)))
    ++ replicate (MAX_DEPTH - length (take (length ls) (take 256 (map row_number ls ++ rest)))) 0)
    ≡ ls
rows_told ls rest h =
    let first : take (length ls) (take 256 (map row_number ls ++ rest)) ≡ map row_number ls =
    take-take (length ls) 256 (map row_number ls ++ rest) h.few ∙ first_numbers ls rest in
    ap (λ (l : List ℕ). listed_of (length ls) (map listed_number l ++ replicate (MAX_DEPTH - length l) 0)) first
    ∙ ap (λ (l : List ℕ). listed_of (length ls) (l ++ replicate (MAX_DEPTH - length (map row_number ls)) 0)) h.uncut
    ∙ listed_back ls (replicate (MAX_DEPTH - length (map row_number ls)) 0)

-- of an answer, that both lists stand for the same state
pub record SameState (state out2 : List ℕ) : Type 0 where
  pub same : state_told (told_state out2) ≡ render.to_state (render_state (told_state out2)) (list_after state out2)

same_state : (s b state : List ℕ) (t : states.RenderState) (n k : ℕ) (rest : List ℕ) → InArray t.listed
    → SameState state ((0 ∷ told_call s b (written t n k)) ++ rest)
same_state s b state t n k rest h = record {
  same = ap (with_rows t) (rows_told t.listed rest h ∙ sym (rows_after t.listed (render_list state) rest));
}

-- a rendering call's numbers
module _ (s b store marks output state args out store2 marks2 output2 out2 : List ℕ) (h : length out ≡ 267)
    (p : Renders s b store marks output state args out store2 marks2 output2 out2) where
  abbrev asked : RenderArgs states.RenderChoice
  asked = render.to_args (render_args args) (length output)

  abbrev table : Option Refusal
  table = (rules_of s b).render_refusal asked (state_told state) store marks

  abbrev gives : RenderResult states.RenderState
  gives = render_gives (rules_of s b) asked (state_told state) store marks

  abbrev given : CallResult (rules_of s b)
  given = written gives.state (length gives.text) gives.entered

  fits : table ≡ None → InArray gives.state.listed
  fits e = given_fits s b (state_told state) (render_args args) (length output) store marks e

  room : table ≡ None → suc (length (told_call s b given)) ≤ length out
  room e = let few = (fits e).few in omega (arith, length-map gives.state.listed row_number)

  -- what they are where the call is accepted
  numbers : table ≡ None → out2 ≡ (0 ∷ told_call s b given) ++ drop (suc (length (told_call s b given))) out
  numbers e = p.told_as ∙ told_zero (told_call s b) table given out (room e) e

  list_left : list_after state out2
      ≡ unless table (render_list state) (write_front (map row_number gives.state.listed) (render_list state))
  list_left = go table refl
    where
      go : (o : Option Refusal) → table ≡ o
          → list_after state out2 ≡ unless o (render_list state) (write_front (map row_number gives.state.listed) (render_list state))
      go None e =
          ap (list_after state) (numbers e)
          ∙ ap (λ (l : List ℕ). write_front l (render_list state)) (first_numbers gives.state.listed (drop (suc (length (told_call s b given))) out))
      go (Some r) e =
          let u = render_under s b asked (state_told state) store marks in
          ap (list_after state) (p.told_as ∙ told_refusal (told_call s b) table given out r (omega arith) e)
          ∙ ap
          (λ (x : Bool).
          cond x (write_front (take (get_or (drop 2 out) 8 0) (drop 9 (drop 2 out))) (render_list state)) (render_list state))
          (not_zero render_numbers r refl (u.of r e))

  -- an answer that begins with 0 hands a state on
  pub states_same : get_or out2 0 0 ≡ 0 → SameState state out2
  states_same z = go table refl
    where
      go : (o : Option Refusal) → table ≡ o → SameState state out2
      go None e =
          subst (SameState state) (sym (numbers e))
          (same_state s b state gives.state (length gives.text) gives.entered (drop (suc (length (told_call s b given))) out) (fits e))
      go (Some r) e =
          let u = render_under s b asked (state_told state) store marks in
          let first : get_or out2 0 0 ≡ r.number =
          ap (λ (l : List ℕ). get_or l 0 0) (p.told_as ∙ told_refusal (told_call s b) table given out r (omega arith) e) in
          false_true (sym (not_zero render_numbers r refl (u.of r e)) ∙ eq-eqb r.number 0 (sym first ∙ z))

formatted_reads : (a : FileResult) → Reads formatted_answer formatted_from told_file a
formatted_reads a = record { refusal = λ r rest. refusal_from _ _ r rest; given = λ rest. refl }

counted_reads : (a : CountResult) → Reads counted_answer counted_from told_counted a
counted_reads a = record { refusal = λ r rest. refusal_from _ _ r rest; given = λ rest. refl }

wrote_reads : (n : ℕ) → Reads (answer_of (λ n. n)) wrote_from told_bytes n
wrote_reads n = record { refusal = λ r rest. refusal_from _ _ r rest; given = λ rest. refl }

columns_reads : (n : ℕ) → Reads (answer_of (λ (c : Columns). c.0)) columns_from told_columns n
columns_reads n = record { refusal = λ r rest. refusal_from _ _ r rest; given = λ rest. refl }

columns_under : (rule : ℕ) → Under columns_numbers (rule_line false rule)
columns_under rule = under_if columns_numbers (any (chosen_tests false rule)) 20 0 refl

batch_reads : (a : BatchResult) → Reads batched_answer batch_from told_batch a
batch_reads a = record { refusal = λ r rest. refusal_from _ _ r rest; given = λ rest. refl }

verdict_reads : (v : Verdict) → Reads (answer_of (λ v. v)) verdict_from told_verdict v
verdict_reads Same = record { refusal = λ r rest. refusal_from _ _ r rest; given = λ rest. refl }
verdict_reads (Differs at) = record { refusal = λ r rest. refusal_from _ _ r rest; given = λ rest. refl }

-- the verdict has two numbers
verdict_size : (v : Verdict) → length (told_verdict v) ≡ 2
verdict_size Same = refl
verdict_size (Differs at) = refl

verdict_told : (s b out out2 : List ℕ) → SaysVerdict s b out out2
    → out2 ≡ numbers_of told_verdict (answer_by (read_refusal (read_all s b)) (verdict_read b (read_all s b))) out
verdict_told s b out out2 e = e ∙ ap (λ (a : Answer Verdict). numbers_of told_verdict a out) (verdict_answer b (read_all s b))

-- ---- the promises
pub linked_promises : LinkedPromises
linked_promises = record {
  check =
      λ s b out out2 h e.
      let x = read_all s b in
      read_back (answer_of (λ (d : Document). d)) checked_from (told_document (length (declared s b))) reader_numbers (read_refusal x)
      (document_by x) out out2 refl refl (read_under s b)
      (omega arith)
      (omega arith)
      (checked_reads (length (declared s b)) (document_by x))
      (check_told s b out out2 e)
      ∙ sym (outcome_by x);
  layout =
      λ archive s b store state args out store2 out2 h p.
      let q = layout.to_args (layout_args archive args) in
      let z = layout.to_state (layout_state state) in
      let o = (rules_of s b).layout_refusal q z store in
      record {
        answer =
            read_back (layout.laying_answer s b) laying_from (told_call s b) layout_numbers o (laid_out _ _) out out2 refl refl (layout_under s b q z store)
            (omega arith)
            (omega arith)
            (laying_reads s b _ _)
            p.told_as;
        store_left_of = p.store_left_of;
      };
  render =
      λ s b store marks output state args out store2 marks2 output2 out2 h p.
      let q = render.to_args (render_args args) (length output) in
      let z = state_told state in
      let o = (rules_of s b).render_refusal q z store marks in
      record {
        answer =
            read_back_in (rendered_answer s b) (rendered_from state) (told_call s b) render_numbers o (written _ _ _) out out2 refl refl
            (render_under s b q z store marks)
            (omega arith)
            (room s b store marks output state args out store2 marks2 output2 out2 h p)
            (rendering_reads s b state _ _ _)
            p.told_as;
        store_left_of = p.store_left_of;
        marks_left_of = p.marks_left_of;
        output_left_of = p.output_left_of;
        list_left_of = list_left s b store marks output state args out store2 marks2 output2 out2 h p;
      };
  format =
      λ s b choice output out output2 out2 h p.
      let c = to_choice (file_choice choice) in
      let o = file_refusal s b c (length output) in
      record {
        answer =
            read_back formatted_answer formatted_from told_file file_numbers o (file_result s b c) out out2 refl refl (file_under s b c (length output))
            (omega arith)
            (omega arith)
            (formatted_reads (file_result s b c))
            p.told_as;
        output_left_of = p.output_left_of;
      };
  count =
      λ s b from out out2 h e.
      let t = tallies_from from in
      read_back counted_answer counted_from told_counted count_numbers (count_refusal s b t) (count_result (figures_of s b) t) out out2 refl refl
      (count_under s b t)
      (omega arith)
      (omega arith)
      (counted_reads (count_result (figures_of s b) t))
      e;
  write =
      λ l output out output2 out2 h p.
      let o = writer_refusal l (length output) in (
        read_back (answer_of (λ (n : ℕ). n)) wrote_from told_bytes writer_numbers o (length (image_due l)) out out2 refl refl (write_under l (length output))
            (omega arith)
            (omega arith)
            (wrote_reads (length (image_due l)))
            p.1,
        p.0,
      );
  steps =
      λ s b output out output2 out2 h p.
      let o = steps_of_refusal s b (length output) in (
        read_back (answer_of (λ (n : ℕ). n)) wrote_from told_bytes steps_numbers o (length (steps_due s b)) out out2 refl refl
            (list_under s b (length output))
            (omega arith)
            (omega arith)
            (wrote_reads (length (steps_due s b)))
            p.1,
        p.0,
      );
  batch =
      λ f choice table output out table2 output2 out2 h p.
      let c = to_choice (file_choice choice) in
      let o = batch_refusal c f (length table) (length output) in
      record {
        answer =
            read_back batched_answer batch_from told_batch batch_numbers o (batch_result c f) out out2 refl refl
            (batch_under c f (length table) (length output))
            (omega arith)
            (omega arith)
            (batch_reads (batch_result c f))
            p.told_as;
        table_left_of = p.table_left_of;
        texts_left_of = p.texts_left_of;
      };
  columns =
      λ text rule supplied out out2 h e.
      read_back (answer_of (λ (c : Columns). c.0)) columns_from told_columns columns_numbers (rule_line false rule) (columns_by rule supplied text) out out2
      refl refl (columns_under rule) (omega arith) (omega arith) (columns_reads (columns_by rule supplied text)) e;
  forward =
      λ s b output out output2 out2 h p.
      let o = forward_refusal s b (length output) in (
        read_back (answer_of (λ (n : ℕ). n)) wrote_from told_bytes move_numbers o (length (forward_image s b)) out out2 refl refl
            (forward_under s b (length output))
            (omega arith)
            (omega arith)
            (wrote_reads (length (forward_image s b)))
            p.1,
        p.0,
      );
  back =
      λ s b output out output2 out2 h p.
      let o = back_refusal s b (length output) in (
        read_back (answer_of (λ (n : ℕ). n)) wrote_from told_bytes move_numbers o (length (back_image s b)) out out2 refl refl
            (back_under s b (length output))
            (omega arith)
            (omega arith)
            (wrote_reads (length (back_image s b)))
            p.1,
        p.0,
      );
  reads_back =
      λ s b out out2 h e.
      let x = read_all s b in
      let v = verdict_read b x in
      let size = verdict_size v in
      read_back (answer_of (λ (v : Verdict). v)) verdict_from told_verdict reader_numbers (read_refusal x) v out out2 refl refl (read_under s b)
      (omega arith)
      (omega (arith, size))
      (verdict_reads v)
      (verdict_told s b out out2 e)
      ∙ sym (verdict_answer b x);
  formula =
      λ size place output out output2 out2 h p.
      let o = formula_refusal size place (length output) in (
        read_back (answer_of (λ (n : ℕ). n)) wrote_from told_bytes formula_numbers o (length (formula_image size place)) out out2 refl refl
            (formula_under size place (length output))
            (omega arith)
            (omega arith)
            (wrote_reads (length (formula_image size place)))
            p.1,
        p.0,
      );
}

-- ---- demand 1
pub linked_1 : Linked1
linked_1 = record {
  check =
      λ s b out out2 h e.
      let x = read_all s b in
      told_first (told_document (length (declared s b))) reader_numbers (read_refusal x) (document_by x) out out2 _ (read_under s b) (omega arith) (omega arith)
      (λ r f. tt)
      (check_told s b out out2 e);
  layout =
      λ archive s b store state args out store2 out2 h p.
      let q = layout.to_args (layout_args archive args) in
      let z = layout.to_state (layout_state state) in
      told_first (told_call s b) layout_numbers ((rules_of s b).layout_refusal q z store) (laid_out _ _) out out2 _ (layout_under s b q z store)
      (omega arith)
      (omega arith)
      (λ r f. p.store_left_of ∙ left_same _ r store _ f)
      p.told_as;
  render =
      λ s b store marks output state args out store2 marks2 output2 out2 h p.
      let q = render.to_args (render_args args) (length output) in
      let z = state_told state in
      told_first_in (told_call s b) render_numbers ((rules_of s b).render_refusal q z store marks) (written _ _ _) out out2 _
      (render_under s b q z store marks)
      (omega arith)
      (room s b store marks output state args out store2 marks2 output2 out2 h p)
      (λ r f. (p.store_left_of, p.marks_left_of ∙ left_same _ r marks _ f, p.output_left_of ∙ left_same _ r output _ f))
      p.told_as;
  format =
      λ s b choice output out output2 out2 h p.
      let c = to_choice (file_choice choice) in
      told_first told_file file_numbers (file_refusal s b c (length output)) (file_result s b c) out out2 _ (file_under s b c (length output))
      (omega arith)
      (omega arith)
      (λ r f. p.output_left_of ∙ left_same _ r output _ f)
      p.told_as;
  count =
      λ s b from out out2 h e.
      let t = tallies_from from in
      told_first told_counted count_numbers (count_refusal s b t) (count_result (figures_of s b) t) out out2 _ (count_under s b t) (omega arith) (omega arith)
      (λ r f. tt)
      e;
  write =
      λ l output out output2 out2 h p.
      told_first told_bytes writer_numbers (writer_refusal l (length output)) (length (image_due l)) out out2 _ (write_under l (length output))
      (omega arith)
      (omega arith)
      (λ r f. p.0 ∙ left_same _ r output _ f)
      p.1;
  steps =
      λ s b output out output2 out2 h p.
      told_first told_bytes steps_numbers (steps_of_refusal s b (length output)) (length (steps_due s b)) out out2 _ (list_under s b (length output))
      (omega arith)
      (omega arith)
      (λ r f. p.0 ∙ left_same _ r output _ f)
      p.1;
  batch =
      λ f choice table output out table2 output2 out2 h p.
      let c = to_choice (file_choice choice) in
      let o = batch_refusal c f (length table) (length output) in
      told_first told_batch batch_numbers o (batch_result c f) out out2 _ (batch_under c f (length table) (length output)) (omega arith) (omega arith)
      (λ r g. (p.table_left_of ∙ left_same o r table _ g, p.texts_left_of ∙ left_same o r output _ g))
      p.told_as;
  columns =
      λ text rule supplied out out2 h e.
      told_first told_columns columns_numbers (rule_line false rule) (columns_by rule supplied text) out out2 _ (columns_under rule) (omega arith) (omega arith)
      (λ r f. tt)
      e;
  forward =
      λ s b output out output2 out2 h p.
      told_first told_bytes move_numbers (forward_refusal s b (length output)) (length (forward_image s b)) out out2 _ (forward_under s b (length output))
      (omega arith)
      (omega arith)
      (λ r f. p.0 ∙ left_same _ r output _ f)
      p.1;
  back =
      λ s b output out output2 out2 h p.
      told_first told_bytes move_numbers (back_refusal s b (length output)) (length (back_image s b)) out out2 _ (back_under s b (length output))
      (omega arith)
      (omega arith)
      (λ r f. p.0 ∙ left_same _ r output _ f)
      p.1;
  reads_back =
      λ s b out out2 h e.
      let x = read_all s b in
      let v = verdict_read b x in
      let size = verdict_size v in
      told_first told_verdict reader_numbers (read_refusal x) v out out2 _ (read_under s b) (omega arith) (omega (arith, size)) (λ r f. tt)
      (verdict_told s b out out2 e);
  formula =
      λ size place output out output2 out2 h p.
      told_first told_bytes formula_numbers (formula_refusal size place (length output)) (length (formula_image size place)) out out2 _
      (formula_under size place (length output))
      (omega arith)
      (omega arith)
      (λ r f. p.0 ∙ left_same _ r output _ f)
      p.1;
}

-- ---- demand 2: where 0 is first, the answer is the accepted one
pub linked_layout : (archive : Bool) (s b store state args out store2 out2 : List ℕ) → length out ≡ 11
    → Lays archive s b store state args out store2 out2
    → get_or out2 0 0 ≡ 0
    → LayoutCalled s b (layout_state state) (layout_args archive args) store
    (Ok (record { state = layout_state (take 9 (drop 2 out2)); left = get_or out2 1 0 })) store2
linked_layout archive s b store state args out store2 out2 h p e =
    subst (λ (r : Result Laid Refused). LayoutCalled s b (layout_state state) (layout_args archive args) store r store2) (from_accepted _ out2 e)
    (linked_promises.layout archive s b store state args out store2 out2 h p)

pub linked_render : (s b store marks output state args out store2 marks2 output2 out2 : List ℕ) → length out ≡ 267
    → Renders s b store marks output state args out store2 marks2 output2 out2
    → get_or out2 0 0 ≡ 0
    → RenderCalled s b (state_told state) (render_args args) store marks output (render_list state)
    (Ok (record { state = render_state (told_state out2); bytes = record { 0 = get_or out2 1 0 }; entered = get_or out2 2 0 }))
    store2
    marks2
    output2
    (list_after state out2)
linked_render s b store marks output state args out store2 marks2 output2 out2 h p e =
    subst
    (λ (r : Result Written Refused).
    RenderCalled s b (state_told state) (render_args args) store marks output (render_list state) r store2 marks2 output2 (list_after state out2))
    (from_accepted _ out2 e)
    (linked_promises.render s b store marks output state args out store2 marks2 output2 out2 h p)

pub linked_file : (s b choice output out output2 out2 : List ℕ) → length out ≡ 5 → FormatsFile s b choice output out output2 out2
    → get_or out2 0 0 ≡ 0
    → Formats s b (to_choice (file_choice choice)) output
    (Ok (record { bytes = record { 0 = get_or out2 1 0 }; left = get_or out2 2 0; rows = get_or out2 3 0; numbers = get_or out2 4 0 }))
    output2
linked_file s b choice output out output2 out2 h p e =
    subst (λ (r : Result Text Refused). Formats s b (to_choice (file_choice choice)) output r output2) (from_accepted _ out2 e)
    (linked_promises.format s b choice output out output2 out2 h p)

pub linked_batch : (f choice table output out table2 output2 out2 : List ℕ) → length out ≡ 3
    → FormatsBatch f choice table output out table2 output2 out2
    → get_or out2 0 0 ≡ 0
    → Batches f (to_choice (file_choice choice)) table output (Ok (record { files = get_or out2 1 0; bytes = get_or out2 2 0 })) table2 output2
linked_batch f choice table output out table2 output2 out2 h p e =
    subst (λ (r : Result Batch Refused). Batches f (to_choice (file_choice choice)) table output r table2 output2) (from_accepted _ out2 e)
    (linked_promises.batch f choice table output out table2 output2 out2 h p)

pub linked_2 : Linked2
linked_2 = record {
  at_stop =
      λ archive s b store stop mode rule out store2 out2 h p e.
      demand_2.at_stop archive s b store mode rule stop _ _ store2 (linked_layout archive s b store _ _ out store2 out2 h p e);
  closed =
      λ archive s b store rule out store2 out2 h p e.
      demand_2.closed archive s b store rule _ _ store2 (linked_layout archive s b store _ _ out store2 out2 h p e);
  closed_keeping =
      λ archive s b store rule out store2 out2 h p e.
      demand_2.closed_keeping archive s b store rule _ _ store2 (linked_layout archive s b store _ _ out store2 out2 h p e);
  rendered =
      λ archive s b store mode rule out store2 out2 h p e width allotment enough marks output out3 store3 marks2 output2 out4 k q f.
      let laid_out_lem = linked_layout archive s b store _ _ out store2 out2 h p e in
      demand_2.rendered archive s b store mode rule _ _ store2 laid_out_lem width allotment enough marks output (render_list fresh_render_numbers) _ _ _ store3
      marks2 output2 _
      (linked_render s b store2 marks output _ _ out3 store3 marks2 output2 out4 k q f);
  file = λ s b choice output out output2 out2 h p e. demand_2.file s b _ output _ _ _ _ output2 (linked_file s b choice output out output2 out2 h p e);
}

-- ---- requests 5 and 7
pub linked_lists : LinkedLists
linked_lists = record {
  one =
      λ s b output out output2 out2 h small p z.
      generator_lists.one s b output (get_or out2 1 0) output2 small
      (subst (λ (r : Result ℕ Refused). Lists s b output r output2) (from_accepted (get_or out2 1 0) out2 z)
      (linked_promises.steps s b output out output2 out2 h p));
  back =
      λ l output out output2 out2 h small p z.
      generator_lists.back l output (get_or out2 1 0) output2 small
      (subst (λ (r : Result ℕ Refused). Writes l output r output2) (from_accepted (get_or out2 1 0) out2 z)
      (linked_promises.write l output out output2 out2 h p));
}

pub linked_singles : LinkedSingles
linked_singles f choice ms k e table output out table2 output2 out2 h p =
    as_singles (to_choice (file_choice choice)) f ms k e table output (batch_from out2) table2 output2
    (linked_promises.batch f choice table output out table2 output2 out2 h p)
