-- From the run of a frame's file to the bytes that it is answered with.
-- Assumes nothing.
use mathlib.Core.Path.{◌≡◌, sym, ap, ap₂, ◌∙◌}
use Rattle.std.specs.Prelude.{Option, None, Some, Result, Ok, Err}
use mathlib.Core.List.{List, ◌++◌}
use Prim.Native.Nat.{ℕ, ◌≤◌}
use native.Mathlib.Omega.{arith}
use lib.ListN.{length, drop, length-append}
use Rattle.refusals.specs.Refusals.{Refusal, unless}
use Rattle.refusals.specs.Reasons.{refusal}
use Rattle.refusals.specs.declared.Refused.{Refused}
use Rattle.refusals.proofs.Answers.{refused_by, accepted_by}
use Rattle.cut_rule.specs.Run.{write_front}
use Rattle.whole_run.specs.Built.{reference_choice, drawn_due}
use Rattle.whole_run.specs.File.{FileResult, file_result}
use Rattle.file.specs.Whole.{formatted_answer, source_of, image_of, frame_table, FormatsFrame}
use Rattle.file.specs.declared.Text.{Text}
use Rattle.lines.specs.Lines.{refused_line}
use Rattle.file.specs.Reply.{program_refusal, reply_by, reply, Replies}

module _ (frame out : List ℕ) (full : length out ≡ 65536) where
  abbrev s : List ℕ
  s = source_of frame

  abbrev b : List ℕ
  b = image_of frame

  abbrev text : List ℕ
  text = (drawn_due s b reference_choice).text

  -- the room is the program's
  abbrev table : Option Refusal
  table = frame_table frame (length out)

  table_same : table ≡ program_refusal frame
  table_same = ap (λ (n : ℕ). frame_table frame n) full

  pub replied_text : (a : Result Text Refused) (out2 : List ℕ) (t : Text) → FormatsFrame frame out a out2 → a ≡ Ok t
      → Replies frame out t.bytes.0 out2
  unfolding reply
  replied_text a out2 u f e =
      let t = accepted_by table _ (file_result s b reference_choice) (ap formatted_answer (sym e) ∙ f.answer) in
      let passes : program_refusal frame ≡ None = sym table_same ∙ t.passes in
      record {
        bytes_due = ap (λ (x : FileResult). x.bytes) t.is ∙ sym (ap (λ (o : Option Refusal). length (reply_by o text)) passes);
        output_left_of =
            f.output_left_of
            ∙ ap (λ (o : Option Refusal). unless o out (write_front text out)) t.passes
            ∙ sym (ap (λ (o : Option Refusal). write_front (reply_by o text) out) passes);
      }

  pub replied_line : (a : Result Text Refused) (out1 : List ℕ) (why : Refused) → FormatsFrame frame out a out1 → a ≡ Err why
      → (line : List ℕ) (n : ℕ)
      → line ≡ refused_line (refusal why)
      → n ≡ length line
      → Replies frame out n (line ++ drop n out1)
  unfolding reply
  replied_line a out1 why f e line n l k =
      let r : Refusal = refusal why in
      let refuses : table ≡ Some r = refused_by table _ r (ap formatted_answer (sym e) ∙ f.answer) in
      let stops : program_refusal frame ≡ Some r = sym table_same ∙ refuses in
      let same : out1 ≡ out = f.output_left_of ∙ ap (λ (o : Option Refusal). unless o out (write_front text out)) refuses in
      record {
        bytes_due = k ∙ ap length l ∙ sym (ap (λ (o : Option Refusal). length (reply_by o text)) stops);
        output_left_of =
            ap (λ (i : ℕ). line ++ drop i out1) k
            ∙ ap₂ write_front l same
            ∙ sym (ap (λ (o : Option Refusal). write_front (reply_by o text) out) stops);
      }

-- the reply lies in the output
pub reply_within : (frame out : List ℕ) (n : ℕ) (out2 : List ℕ) → Replies frame out n out2 → n ≤ length out2
reply_within frame out n out2 r =
    omega (arith, r.bytes_due, ap length r.output_left_of, length-append (reply frame) (drop (length (reply frame)) out))
