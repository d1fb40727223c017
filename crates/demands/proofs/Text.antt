-- What the entries write is the text of the rules, which is the comments and the program.
-- Assumes nothing.
use mathlib.Core.Path.{◌≡◌, refl, sym, ap, subst, subst₂, ◌∙◌}
use Rattle.std.specs.Prelude.{Option, None as no_refusal, Some}
use mathlib.Core.List.{List, [], ◌∷◌, ◌++◌, map}
use Prim.Native.Nat.{ℕ, ◌*◌, ◌-◌}
use native.Mathlib.Omega.{arith}
use lib.ListN.{length, take, length-append}
use Rattle.refusals.specs.Refusals.{Refusal, unless}
use Rattle.refusals.specs.Answers.{Answer, refused, accepted, answer_by}
use Rattle.refusals.proofs.Answers.{accepted_by}
use Rattle.image.specs.Read.{read_earlier, read_refusal}
use Rattle.cut_rule.specs.Run.{write_front, Carried}
use Rattle.cut_rule.proofs.Memory.{take_front}
use Rattle.whole_run.specs.Parts.{listed}
use Rattle.whole_run.specs.Built.{FileChoice, reference_choice, built, drawn_due}
use Rattle.whole_run.specs.Demands.{rules_of}
use Rattle.whole_run.specs.File.{file_rows, file_marks, file_refusal, FileResult, file_result}
use Rattle.whole_run.specs.Text.{IsProgram, TextKept}
use Rattle.whole_run.proofs.FileTable.{laid_passed, before_marks_lem}
use Rattle.whole_run.proofs.File.{new_mode_leaves_none}
use Rattle.whole_run.proofs.Text.{kept_comments_held, text_is_the_program, new_mode_places_all, output_is_the_program, calls_keep_the_text}
use Rattle.rows.specs.Node.{Text as Comment}
use Rattle.renderer_rules.specs.Page.{text_bytes}
use Rattle.renderer_rules.specs.Holds.{HoldsInOrder, anything, IsLine}
use Rattle.renderer_rules.proofs.Holds.{holds_the_comments}
use Rattle.stop_facts.specs.SoFar.{KeptInside}
use Rattle.stop_facts.proofs.SoFar.{calls_keep_inside}
use Rattle.file.specs.Whole.{source_of, image_of}
use Rattle.file.specs.Reply.{reply, reply_by}
use Rattle.batch.specs.Batch.{Save, all_saves, saves_by, row_of, text_by, rendered, single, table_of, texts_of, table_due}
use Rattle.batch.specs.Batch.{texts_due, batch_refusal, BatchResult, batch_result, batch_answer, table_left, texts_left}
use Rattle.demands.specs.Demand3.{call_made}
use Rattle.demands.specs.Linked.{call_linked}
use Rattle.demands.specs.Text.{FileIsTheProgram, FileHolds, NewModeFileHoldsAll, LinkedFileIsTheProgram, ReplyIsTheProgram}
use Rattle.demands.specs.Text.{CallsAreTheProgram, LinkedCallsAreTheProgram, CallsKeptInside, LinkedCallsKeptInside, CommentsHeldSoFar}
use Rattle.demands.specs.Text.{CallsHold, ClosedCallsHoldAll}
use Rattle.demands.specs.Text.{EachKept, no_file, refused_one, text_of_one, BatchIsThePrograms, LinkedBatchIsThePrograms}
use Rattle.demands.proofs.Demand3.{made_run}
use Rattle.demands.proofs.Linked.{linked_file, linked_batch}
use Rattle.demands.proofs.LinkedCalls.{linked_run}

-- ---- a whole file
pub file_is_the_program : FileIsTheProgram
file_is_the_program s b c out n left rows numbers out2 f =
    subst (λ (o : List ℕ). IsProgram s b (length (listed s b) - left) (take n.0 o)) (sym f.output_left_of)
    (output_is_the_program s b c out _ (sym f.answer))

pub file_holds : FileHolds
file_holds s b c out n left rows numbers out2 f = kept_comments_held s b _ _ _ (file_is_the_program s b c out n left rows numbers out2 f)

pub new_mode_file_holds_all : NewModeFileHoldsAll
new_mode_file_holds_all s b c out n left rows numbers out2 new f =
    let none_left : left ≡ 0 = new_mode_leaves_none s b c _ _ (length out) _ new (sym f.answer) in
    let all : length (listed s b) - left ≡ length (listed s b) = omega (arith, none_left) in
    subst (λ (k : ℕ). IsProgram s b k (take n.0 out2)) all (file_is_the_program s b c out n left rows numbers out2 f)

pub linked_file_is_the_program : LinkedFileIsTheProgram
linked_file_is_the_program s b choice output out output2 out2 h p e =
    file_is_the_program s b _ output _ _ _ _ output2 (linked_file s b choice output out output2 out2 h p e)

pub reply_is_the_program : ReplyIsTheProgram
unfolding reply
reply_is_the_program frame out n out2 p e =
    let s = source_of frame in
    let b = image_of frame in
    let text = (drawn_due s b reference_choice).text in
    let same : reply frame ≡ text = ap (λ (o : Option Refusal). reply_by o text) e in
    let wrote : text ≡ take n out2 =
    sym (ap (λ (o : List ℕ). take n o) p.output_left_of ∙ take_front n (reply frame) out p.bytes_due ∙ same)
    in
    subst (λ (t : List ℕ). IsProgram s b (built s b reference_choice).placed t) wrote (text_is_the_program s b reference_choice)

-- ---- lists of calls
pub calls_are_the_program : CallsAreTheProgram
calls_are_the_program s b store₀ marks₀ listed₀ made p h =
    subst (λ (v : Carried (rules_of s b)). TextKept s b v) (sym (made_run s b store₀ marks₀ listed₀ made p))
    (calls_keep_the_text s b store₀ marks₀ (map (call_made s b) made) h)

pub linked_calls_are_the_program : LinkedCallsAreTheProgram
linked_calls_are_the_program s b store₀ marks₀ made p h =
    subst (λ (v : Carried (rules_of s b)). TextKept s b v) (sym (linked_run s b store₀ marks₀ made p))
    (calls_keep_the_text s b store₀ marks₀ (map (call_linked s b) made) h)

pub calls_kept_inside : CallsKeptInside
calls_kept_inside s b store₀ marks₀ listed₀ made p h =
    subst (λ (v : Carried (rules_of s b)). KeptInside s b v) (sym (made_run s b store₀ marks₀ listed₀ made p))
    (calls_keep_inside s b store₀ marks₀ (map (call_made s b) made) h)

pub linked_calls_kept_inside : LinkedCallsKeptInside
linked_calls_kept_inside s b store₀ marks₀ made p h =
    subst (λ (v : Carried (rules_of s b)). KeptInside s b v) (sym (linked_run s b store₀ marks₀ made p))
    (calls_keep_inside s b store₀ marks₀ (map (call_linked s b) made) h)

pub comments_held_so_far : CommentsHeldSoFar
comments_held_so_far s b w k =
    subst (λ (ts : List Comment). HoldsInOrder anything (IsLine (text_bytes s b)) ts w.text) k.first
    (holds_the_comments (text_bytes s b) k.these w.text k.made)

pub calls_hold : CallsHold
calls_hold s b w k e = kept_comments_held s b _ _ _ (k.rendered e)

pub closed_calls_hold_all : ClosedCallsHoldAll
closed_calls_hold_all s b w k e closed new = kept_comments_held s b _ _ _ (k.all e closed new)

-- ---- a batch
accepted_read : (s b : List ℕ) (c : FileChoice) (room : ℕ) → file_refusal s b c room ≡ no_refusal → read_refusal (read_earlier s b) ≡ no_refusal
accepted_read s b c room e = (laid_passed s b c file_rows (before_marks_lem s b c file_rows file_marks room e)).earlier

module _ (c : FileChoice) where
  one_kept : (x : Save) {xs : List Save} {table texts : List ℕ} → EachKept c xs table texts
      → EachKept c (x ∷ xs) (row_of (single c x) ++ table) (text_by (single c x) (rendered c x) ++ texts)
  one_kept x {xs} {table} {texts} k = go (file_refusal s b c (length text)) refl
    where
      s : List ℕ
      s = x.source

      b : List ℕ
      b = x.image

      text : List ℕ
      text = rendered c x

      answered : Option Refusal → Answer FileResult
      answered o = answer_by o (file_result s b c)

      go : (o : Option Refusal) → file_refusal s b c (length text) ≡ o
          → EachKept c (x ∷ xs) (row_of (answered o) ++ table) (text_by (answered o) text ++ texts)
      go (Some r) e = refused_one r (ap answered e) k
      go no_refusal e =
          text_of_one text
          (record {
            placed = (built s b c).placed;
            is_program = text_is_the_program s b c;
            all = new_mode_places_all s b c (accepted_read s b c (length text) e);
          })
          k

  each_kept : (xs : List Save) → EachKept c xs (table_of c xs) (texts_of c xs)
  unfolding table_of texts_of
  each_kept [] = no_file
  each_kept (x ∷ xs) = one_kept x (each_kept xs)

  three : (a : Answer FileResult) → length (row_of a) ≡ 3
  three (refused r) = refl
  three (accepted x) = refl

  table_size : (xs : List Save) → length (table_of c xs) ≡ 3 * length xs
  unfolding table_of
  table_size [] = refl
  table_size (x ∷ xs) = omega (arith, table_size xs, three (single c x), length-append (row_of (single c x)) (table_of c xs))

  kept_in : (f table out : List ℕ) (r : BatchResult) → batch_answer c f (length table) (length out) ≡ accepted r
      → EachKept c (saves_by (all_saves f)) (take (3 * r.files) (table_left c f table out)) (take r.bytes (texts_left c f table out))
  kept_in f table out r e =
      let xs = saves_by (all_saves f) in
      let a = accepted_by (batch_refusal c f (length table) (length out)) r (batch_result c f) (sym e) in
      let count : r.files ≡ length xs = ap (λ (x : BatchResult). x.files) a.is in
      let size : r.bytes ≡ length (texts_due c f) = ap (λ (x : BatchResult). x.bytes) a.is in
      let cells : 3 * r.files ≡ length (table_due c f) = omega (arith, table_size xs, count) in
      let rows : take (3 * r.files) (table_left c f table out) ≡ table_due c f =
      ap (λ (o : Option Refusal). take (3 * r.files) (unless o table (write_front (table_due c f) table))) a.passes
      ∙ take_front (3 * r.files) (table_due c f) table cells
      in
      let texts : take r.bytes (texts_left c f table out) ≡ texts_due c f =
      ap (λ (o : Option Refusal). take r.bytes (unless o out (write_front (texts_due c f) out))) a.passes
      ∙ take_front r.bytes (texts_due c f) out size
      in
      subst₂ (λ (x y : List ℕ). EachKept c xs x y) (sym rows) (sym texts) (each_kept xs)

pub batch_is_the_programs : BatchIsThePrograms
batch_is_the_programs f c table out files bytes table2 out2 p =
    subst₂ (λ (x y : List ℕ). EachKept c (saves_by (all_saves f)) (take (3 * files) x) (take bytes y)) (sym p.table_left_of) (sym p.texts_left_of)
    (kept_in c f table out _ (sym p.answer))

pub linked_batch_is_the_programs : LinkedBatchIsThePrograms
linked_batch_is_the_programs f choice table output out table2 output2 out2 h p e =
    batch_is_the_programs f _ table output _ _ table2 output2 (linked_batch f choice table output out table2 output2 out2 h p e)
