-- Every refusal is the table's, has one of the entry's numbers, and leaves the buffers as they were.
-- Assumes nothing.
use mathlib.Core.Path.{◌≡◌, refl, sym, ap, ◌∙◌}
use mathlib.Core.Bool.{Bool, true, false, cond, not, ◌||◌}
use Rattle.std.specs.Prelude.{Option, None, Some, Result, Ok, Err}
use mathlib.Core.List.{List, [], ◌∷◌, ◌++◌}
use Prim.Native.Nat.{ℕ}
use native.Mathlib.Omega.{arith}
use lib.Dec.{eqb, ltb}
use lib.ListN.{length, take, drop}
use lib.Seq.{drop_at}
use Rattle.refusals.specs.Refusals.{Refusal, refuse_if, refuse_at, any, first, is_one_of, unless}
use Rattle.refusals.specs.Answers.{refusal_of}
use Rattle.refusals.specs.Reasons.{answer_of, refusal_in}
use Rattle.refusals.specs.declared.Refused.{Refused}
use Rattle.refusals.proofs.Answers.{by_table}
use Rattle.image.specs.Read.{Read, got, bad, read_all, read_earlier, read_refusal, reader_numbers, header_fits, any_version, source_fits}
use Rattle.image.proofs.Numbers.{read_numbers}
use Rattle.image.proofs.Answers.{read_refusal_lem}
use Rattle.cut_rule.specs.Rules as rules
use Rattle.cut_rule.specs.States as states
use Rattle.cut_rule.specs.Tests as tests
use Rattle.cut_rule.specs.Parts as cut
use Rattle.rows.specs.View.{view_of}
use Rattle.text.specs.Utf8.{prefix, well_formed, ill_formed}
use Rattle.widths.specs.Rules.{SUPPLIED}
use Rattle.whole_run.specs.Parts.{other_rule, parts_of, formed_line, render_image}
use Rattle.whole_run.specs.Demands.{rules_of}
use Rattle.whole_run.specs.Built.{FileChoice, layout_choice, reference_choice, drawn_due, rows_due, marks_due}
use Rattle.whole_run.specs.File.{file_rows, file_marks, file_before_rows, file_rows_line, file_before_marks, file_marks_line, file_before_text, file_text_line}
use Rattle.whole_run.specs.File.{file_table, file_refusal}
use Rattle.file.specs.Whole.{source_of, image_of, frame_fits, frame_refusal, frame_table}
use Rattle.layout_call.specs.Calls as layout
use Rattle.render_call.specs.Calls as render
use Rattle.file.specs.Reply.{program_room, reply_by, reply}
use Rattle.cut_rule.proofs.Memory.{take_front}
use Rattle.demands.specs.Demand1.{layout_numbers, render_numbers, file_numbers, reference_numbers, frame_numbers, count_numbers, Answered, CheckAnswered}
use Rattle.demands.specs.Demand1.{LayoutAnswered, RenderAnswered, FileAnswered, FrameAnswered, ProgramAnswered, CountAnswered, Demand1}
use Rattle.tallies.specs.declared.Tallies.{Tallies}
use Rattle.tallies.specs.Tallies.{tally_tests, tally_refusal}
use Rattle.figures.specs.Figures.{FILE_OUTPUT, count_refusal}

-- ---- refusals under a list of numbers
pub record Under (ns : List ℕ) (o : Option Refusal) : Type 0 where
  pub of : (r : Refusal) → o ≡ Some r → is_one_of r.number ns ≡ true

never : {A : Type 0} (r : Refusal) → ◌≡◌ {A = Option Refusal} None (Some r) → A
never r e = let z : ◌≡◌ {A = ℕ} 0 1 = cc in absurd (omega arith)

same : (n p : ℕ) (r : Refusal) → Some (record { number = n; place = p }) ≡ Some r → n ≡ r.number
same n p r e = let f : ◌≡◌ {A = Refusal} (record { number = n; place = p }) r = cc in ap (λ (x : Refusal). x.number) f

pub under_if : (ns : List ℕ) (t : Bool) (n p : ℕ) → is_one_of n ns ≡ true → Under ns (refuse_if t n p)
under_if ns true n p h = record { of = λ r e. sym (ap (λ (k : ℕ). is_one_of k ns) (same n p r e)) ∙ h }
under_if ns false n p h = record { of = λ r e. never r e }

pub under_at : (ns : List ℕ) (o : Option ℕ) (n : ℕ) → is_one_of n ns ≡ true → Under ns (refuse_at o n)
under_at ns (Some p) n h = under_if ns true n p h
under_at ns None n h = record { of = λ r e. never r e }

pub under_none : (ns : List ℕ) → Under ns None
under_none ns = record { of = λ r e. never r e }

-- each line of a table
abbrev pub AllUnder : List ℕ → List (Option Refusal) → Type 0
AllUnder ns [] = Unit {0}
AllUnder ns (o ∷ os) = Under ns o × AllUnder ns os

pub under_first : (ns : List ℕ) (os : List (Option Refusal)) → AllUnder ns os → Under ns (first os)
under_first ns [] h = under_none ns
under_first ns (Some q ∷ os) h = h.0
under_first ns (None ∷ os) h = under_first ns os h.1

pub all_append : (ns : List ℕ) (os ps : List (Option Refusal)) → AllUnder ns os → AllUnder ns ps → AllUnder ns (os ++ ps)
all_append ns [] ps h k = k
all_append ns (o ∷ os) ps h k = (h.0, all_append ns os ps h.1 k)

-- what was read of something
pub under_read : {A : Type 0} (ns : List ℕ) (x : Read A) → ((n p : ℕ) → x ≡ bad n p → is_one_of n ns ≡ true) → Under ns (read_refusal x)
under_read ns (got a end) h = under_none ns
under_read ns (bad n p) h = under_if ns true n p (h n p refl)

-- more numbers
one_more : (a b : Bool) → b ≡ true → (a || b) ≡ true
one_more true b e = refl
one_more false b e = e

more : (n : ℕ) (ns ms : List ℕ) → is_one_of n ns ≡ true → is_one_of n (ns ++ ms) ≡ true
more n [] ms e = let z : ◌≡◌ {A = ℕ} 0 1 = cc in absurd (omega arith)
more n (k ∷ ns) ms e = go (eqb n k) (more n ns ms) e
  where
    go : (t : Bool) → (is_one_of n ns ≡ true → is_one_of n (ns ++ ms) ≡ true) → (t || is_one_of n ns) ≡ true
        → (t || is_one_of n (ns ++ ms)) ≡ true
    go true later f = refl
    go false later f = later f

pub under_more : (ns ms : List ℕ) (o : Option Refusal) → Under ns o → Under (ns ++ ms) o
under_more ns ms o u = record { of = λ r e. more r.number ns ms (u.of r e) }

pub under_before : (k : ℕ) (ns : List ℕ) (o : Option Refusal) → Under ns o → Under (k ∷ ns) o
under_before k ns o u = record { of = λ r e. one_more (eqb r.number k) (is_one_of r.number ns) (u.of r e) }

-- ---- the tables
pub read_under : (s b : List ℕ) → Under reader_numbers (read_refusal (read_all s b))
read_under s b = under_read reader_numbers (read_all s b) (read_numbers false s b)

-- by either entry of layout
entry_under : (archive : Bool) (s b : List ℕ) → Under reader_numbers ((parts_of s b).layout_image archive)
entry_under true s b = under_read reader_numbers (read_earlier s b) (read_numbers true s b)
entry_under false s b = read_under s b

module _ (s b : List ℕ) where
  pub layout_under : (q : rules.LayoutArgs states.LayoutChoice) (z : states.LayoutState) (store : List ℕ)
      → Under layout_numbers ((rules_of s b).layout_refusal q z store)
  layout_under q z store =
      let needed = cut.rows_needed (parts_of s b) q z in
      let later = reader_numbers ++ (12 ∷ 8 ∷ []) in
      let image = (parts_of s b).layout_image q.archive in
      let read : Under layout_numbers image =
      under_before 20 later image (under_more reader_numbers (12 ∷ 8 ∷ []) image (entry_under q.archive s b)) in
      under_first layout_numbers (cut.layout_table (parts_of s b) q z store) (
        under_if layout_numbers (any (tests.chosen_tests (other_rule b q.choice.rule) q.choice.rule)) 20 0 refl,
        (
          read,
          (
            under_if layout_numbers (any (cut.layout_tests (parts_of s b) q z store)) 12 0 refl,
            (under_if layout_numbers (ltb (tests.rows_in store) needed) 8 needed refl, tt),
          ),
        ),
      )

  formed_under : (rule : ℕ) → Under render_numbers (formed_line rule s)
  unfolding ill_formed
  formed_under rule = go (eqb rule SUPPLIED)
    where
      go : (t : Bool) → Under render_numbers (cond t None (refuse_if (not (well_formed s)) 2 (prefix s)))
      go true = under_none render_numbers
      go false = under_if render_numbers (not (well_formed s)) 2 (prefix s) refl

  image_under : (rule : ℕ) → Under render_numbers (render_image rule s b)
  image_under rule =
      under_first render_numbers (refuse_if (not (source_fits s)) 1 0 ∷ formed_line rule s ∷ refuse_if (not (header_fits any_version b)) 3 0 ∷ [])
      (under_if render_numbers (not (source_fits s)) 1 0 refl, (formed_under rule, (under_if render_numbers (not (header_fits any_version b)) 3 0 refl, tt)))

  pub render_under : (q : rules.RenderArgs states.RenderChoice) (z : states.RenderState) (store marks : List ℕ)
      → Under render_numbers ((rules_of s b).render_refusal q z store marks)
  render_under q z store marks =
      let needed = cut.marks_for (parts_of s b) q z store in
      let bytes = cut.bytes_needed (parts_of s b) q z store marks in
      under_first render_numbers (cut.render_table (parts_of s b) q z store marks) (
        under_if render_numbers (any (tests.chosen_tests (other_rule b q.to.choice.rule) q.to.choice.rule)) 20 0 refl,
        (
          image_under q.to.choice.rule,
          (
            under_at render_numbers ((parts_of s b).wrong_row q.to.choice store (cut.read_from z) q.to.stop) 11 refl,
            (
              under_if render_numbers (any (tests.render_tests q z store marks)) 12 0 refl,
              (
                under_if render_numbers (any (tests.width_tests q.to.choice.width z.width)) 15 0 refl,
                (
                  under_if render_numbers (any (tests.allotment_tests q.allotment)) 22 0 refl,
                  (
                    under_if render_numbers (any (tests.listed_tests (view_of store) z)) 23 0 refl,
                    (
                      under_if render_numbers (ltb (length marks) needed) 9 needed refl,
                      (under_if render_numbers (ltb q.room bytes) 10 bytes refl, tt),
                    ),
                  ),
                ),
              ),
            ),
          ),
        ),
      )

  -- ---- a whole file
  -- 20, 1 to 7, 12 and 15
  pub before_under : (ns : List ℕ) → is_one_of 20 ns ≡ true → is_one_of 12 ns ≡ true → is_one_of 15 ns ≡ true
      → Under ns (read_refusal (read_all s b)) → (c : FileChoice)
      → AllUnder ns (file_before_rows s b c)
  before_under ns twenty twelve fifteen read c = (
    under_if ns (any (tests.chosen_tests (other_rule b c.rule) c.rule)) 20 0 twenty,
    (
      read,
      (
        under_if ns (any (tests.mode_tests (layout_choice c) states.layout_fresh)) 12 0 twelve,
        (under_if ns (any (tests.width_tests c.width 0)) 15 0 fifteen, tt),
      ),
    ),
  )

  -- and 8 and 9
  pub early_under : (ns : List ℕ) → is_one_of 8 ns ≡ true → is_one_of 9 ns ≡ true → (c : FileChoice) → AllUnder ns (file_before_rows s b c)
      → AllUnder ns (file_before_text s b c file_rows file_marks)
  early_under ns eight nine c before =
      all_append ns (file_before_marks s b c file_rows) (file_marks_line s b c file_marks)
      (all_append ns (file_before_rows s b c) (file_rows_line s b c file_rows) before
      (under_if ns (ltb file_rows (rows_due s b c)) 8 (rows_due s b c) eight, tt))
      (under_if ns (ltb file_marks (marks_due s b c)) 9 (marks_due s b c) nine, tt)

  -- and 10
  whole_under : (ns : List ℕ) → is_one_of 10 ns ≡ true → (c : FileChoice) (room : ℕ) → AllUnder ns (file_before_text s b c file_rows file_marks)
      → Under ns (file_refusal s b c room)
  whole_under ns ten c room early =
      let text = length (drawn_due s b c).text in
      under_first ns (file_table s b c file_rows file_marks room)
      (all_append ns (file_before_text s b c file_rows file_marks) (file_text_line s b c room) early (under_if ns (ltb room text) 10 text ten, tt))

  pub file_under : (c : FileChoice) (room : ℕ) → Under file_numbers (file_refusal s b c room)
  file_under c room =
      let later = reader_numbers ++ (12 ∷ 15 ∷ 8 ∷ 9 ∷ 10 ∷ []) in
      let read =
      under_before 20 later (read_refusal (read_all s b))
      (under_more reader_numbers (12 ∷ 15 ∷ 8 ∷ 9 ∷ 10 ∷ []) (read_refusal (read_all s b)) (read_under s b)) in
      whole_under file_numbers refl c room (early_under file_numbers refl refl c (before_under file_numbers refl refl refl read c))

  -- in the old mode at 80 the lines of 12 and 15 compute to none
  pub reference_under : (room : ℕ) → Under reference_numbers (file_refusal s b reference_choice room)
  reference_under room =
      let read : Under reference_numbers (read_refusal (read_all s b)) =
      under_before 20 (reader_numbers ++ (8 ∷ 9 ∷ 10 ∷ [])) (read_refusal (read_all s b))
      (under_more reader_numbers (8 ∷ 9 ∷ 10 ∷ []) (read_refusal (read_all s b)) (read_under s b)) in
      let chosen = under_if reference_numbers (any (tests.chosen_tests (other_rule b SUPPLIED) SUPPLIED)) 20 0 refl in
      whole_under reference_numbers refl reference_choice room
      (early_under reference_numbers refl refl reference_choice
      (chosen, (read, (under_none reference_numbers, (under_none reference_numbers, tt)))))

frame_under : (frame : List ℕ) (room : ℕ) → Under frame_numbers (frame_table frame room)
frame_under frame room =
    let whole = file_refusal (source_of frame) (image_of frame) reference_choice room in
    under_first frame_numbers (frame_refusal frame ∷ whole ∷ []) (
      under_if frame_numbers (not (frame_fits frame)) 13 0 refl,
      (under_before 13 reference_numbers whole (reference_under (source_of frame) (image_of frame) room), tt),
    )

-- ---- answers by a table
pub answered : {ns : List ℕ} {table refusal : Option Refusal} {Kept : Type 0} → refusal ≡ table → Under ns table
    → ((r : Refusal) → table ≡ Some r → Kept)
    → Answered ns table refusal Kept
answered e u k = record { as_table = e; listed = λ r f. u.of r (sym e ∙ f); kept = λ r f. k r (sym e ∙ f) }

-- what stands where a call is refused
pub left_same : (o : Option Refusal) (r : Refusal) (old new : List ℕ) → o ≡ Some r → unless o old new ≡ old
left_same (Some q) r old new e = refl
left_same None r old new e = never r e

-- the refusal of an answer is that of what it stands for
pub as_answer : {A B : Type 0} (given : A → B) (r : Result A Refused) → refusal_in r ≡ refusal_of (answer_of given r)
as_answer given (Ok a) = refl
as_answer given (Err r) = refl

-- ---- the entries
check : CheckAnswered
check s b r e = answered (as_answer _ r ∙ ap refusal_of e ∙ read_refusal_lem (read_all s b)) (read_under s b) (λ r f. tt)

layout_call : LayoutAnswered
layout_call s b state args store r store2 p =
    answered (as_answer _ r ∙ ap refusal_of p.answer ∙ by_table ((rules_of s b).layout_refusal (layout.to_args args) (layout.to_state state) store) _)
    (layout_under s b (layout.to_args args) (layout.to_state state) store)
    (λ r f. p.store_left_of ∙ left_same _ r store _ f)

render_call : RenderAnswered
render_call s b state args store marks out listed r store2 marks2 out2 listed2 p =
    let q = render.to_args args (length out) in
    let z = render.to_state state listed in
    answered (as_answer _ r ∙ ap refusal_of p.answer ∙ by_table ((rules_of s b).render_refusal q z store marks) _) (render_under s b q z store marks)
    (λ r f. (
      p.store_left_of,
      p.marks_left_of ∙ left_same _ r marks _ f,
      p.output_left_of ∙ left_same _ r out _ f,
      p.list_left_of ∙ left_same _ r listed _ f,
    ))

format_file : FileAnswered
format_file s b c out r out2 p =
    answered (as_answer _ r ∙ ap refusal_of p.answer ∙ by_table (file_refusal s b c (length out)) _) (file_under s b c (length out))
    (λ r f. p.output_left_of ∙ left_same _ r out _ f)

format_frame : FrameAnswered
format_frame frame out r out2 p =
    answered (as_answer _ r ∙ ap refusal_of p.answer ∙ by_table (frame_table frame (length out)) _) (frame_under frame (length out))
    (λ r f. p.output_left_of ∙ left_same _ r out _ f)

pub count_under : (s b : List ℕ) (t : Tallies) → Under count_numbers (count_refusal s b t)
count_under s b t =
    under_first count_numbers (file_refusal s b reference_choice FILE_OUTPUT ∷ tally_refusal t ∷ []) (
      under_more reference_numbers (14 ∷ []) (file_refusal s b reference_choice FILE_OUTPUT) (reference_under s b FILE_OUTPUT),
      (under_if count_numbers (any (tally_tests t)) 14 0 refl, tt),
    )

count_file : CountAnswered
count_file s b t r e = answered (as_answer _ r ∙ ap refusal_of e ∙ by_table (count_refusal s b t) _) (count_under s b t) (λ r f. tt)

program_wrote : ProgramAnswered
unfolding reply
program_wrote frame out n out2 p =
    let text = (drawn_due (source_of frame) (image_of frame) reference_choice).text in
    let wrote : take n out2 ≡ reply frame = ap (λ (o : List ℕ). take n o) p.output_left_of ∙ take_front n (reply frame) out p.bytes_due in
    record {
      refused = λ r e. (wrote ∙ ap (λ (o : Option Refusal). reply_by o text) e, (frame_under frame program_room).of r e);
      accepted = λ e. wrote ∙ ap (λ (o : Option Refusal). reply_by o text) e;
      behind =
          ap (λ (o : List ℕ). drop n o) p.output_left_of
          ∙ drop_at (reply frame) (drop (length (reply frame)) out) n (sym p.bytes_due)
          ∙ ap (λ (k : ℕ). drop k out) (sym p.bytes_due);
    }

pub demand_1 : Demand1
demand_1 = record {
  check = check;
  layout = layout_call;
  render = render_call;
  file = format_file;
  frame = format_frame;
  program = program_wrote;
  count = count_file;
}
