-- A frame that 13 refuses, and one that is the run of its file.
-- Assumes nothing.
use mathlib.Core.Path.{◌≡◌, refl, sym, ap, subst₂, ◌∙◌}
use mathlib.Core.Bool.{Bool, true, false, not}
use Rattle.std.specs.Prelude.{Option, None, Some, Result, Err}
use mathlib.Core.List.{List, [], ◌∷◌}
use Prim.Native.Nat.{ℕ, ◌+◌, ◌-◌, ◌≤◌, ◌<◌}
use native.Mathlib.Omega.{arith}
use lib.ListN.{length, take, drop, length-drop}
use lib.Seq.{take_all}
use borrow.Author.Tests.{le-leb, lt-leb}
use Rattle.image.specs.Bytes.{be32}
use Rattle.refusals.specs.Refusals.{Refusal, unless, first, refuse_if}
use Rattle.refusals.specs.Answers.{answer_by}
use Rattle.cut_rule.specs.Run.{write_front}
use Rattle.whole_run.specs.Built.{reference_choice, drawn_due}
use Rattle.whole_run.specs.File.{file_refusal, file_result}
use Rattle.file.specs.Whole.{Formats, source_of, image_of, frame_fits, frame_table, formatted_answer, FormatsFrame}
use Rattle.refusals.specs.declared.Refused.{Refused}
use Rattle.refusals.specs.declared.Reason.TheVariants as reason
use Rattle.file.specs.declared.Text.{Text}

-- 13
abbrev pub frame_refused : Refused
frame_refused = record { reason = reason.Frame; place = 0 }

-- a table of one line
only : (o : Option Refusal) → first (o ∷ []) ≡ o
only None = refl
only (Some r) = refl

module _ (frame out : List ℕ) where
  abbrev s : List ℕ
  s = source_of frame

  abbrev b : List ℕ
  b = image_of frame

  -- what the run of the frame's file refuses
  abbrev whole : Option Refusal
  whole = file_refusal s b reference_choice (length out)

  -- an answer and an output by the table
  by_table : (o : Option Refusal) (r : Result Text Refused) (out2 : List ℕ) → frame_table frame (length out) ≡ o
      → formatted_answer r ≡ answer_by o (file_result s b reference_choice)
      → out2 ≡ unless o out (write_front (drawn_due s b reference_choice).text out)
      → FormatsFrame frame out r out2
  by_table o r out2 e f g = record {
    answer = f ∙ sym (ap (λ (x : Option Refusal). answer_by x (file_result s b reference_choice)) e);
    output_left_of = g ∙ sym (ap (λ (x : Option Refusal). unless x out (write_front (drawn_due s b reference_choice).text out)) e);
  }

  -- ---- 13
  stopped : frame_fits frame ≡ false → FormatsFrame frame out (Err frame_refused) out
  stopped e = by_table (Some (record { number = 13; place = 0 })) _ out (ap (λ (x : Bool). first (refuse_if (not x) 13 0 ∷ whole ∷ [])) e) refl refl

  pub too_long : 32768 < length frame → FormatsFrame frame out (Err frame_refused) out
  too_long h = stopped (rw (lt-leb (length frame) 32768 h))

  module _ (h : length frame ≤ 32768) where
    pub too_short : length frame < 4 → FormatsFrame frame out (Err frame_refused) out
    too_short k = stopped (rw (le-leb (length frame) 32768 h, lt-leb 4 (length frame) k))

    module _ (k : 4 ≤ length frame) (n : ℕ) (e : n ≡ be32 frame 0) where
      pub cut_off : length frame - 4 < n → FormatsFrame frame out (Err frame_refused) out
      cut_off l =
          stopped
          (rw (le-leb (length frame) 32768 h, le-leb 4 (length frame) k, lt-leb (4 + be32 frame 0) (length frame) (omega (arith, e))))

      -- ---- the run of its file
      runs : n ≤ length frame - 4 → (r : Result Text Refused) (out2 : List ℕ) → Formats (source_of frame) (image_of frame) reference_choice out r out2
          → FormatsFrame frame out r out2
      runs l r out2 f =
          let fits : frame_fits frame ≡ true =
          rw (le-leb (length frame) 32768 h, le-leb 4 (length frame) k, le-leb (4 + be32 frame 0) (length frame) (omega (arith, e)))
          in
          by_table whole r out2 (ap (λ (x : Bool). first (refuse_if (not x) 13 0 ∷ whole ∷ [])) fits ∙ only whole) f.answer f.output_left_of

      -- the parts of the frame are its source and its image
      pub runs_parts : n ≤ length frame - 4 → (r : Result Text Refused) (out2 : List ℕ)
          → Formats (take (4 + n - 4) (drop 4 frame)) (take (length frame - (4 + n)) (drop (4 + n) frame)) reference_choice out r out2
          → FormatsFrame frame out r out2
      runs_parts l r out2 f =
          let source : take (4 + n - 4) (drop 4 frame) ≡ source_of frame =
          let m : 4 + n - 4 ≡ be32 frame 0 = omega (arith, e) in
          ap (λ (k : ℕ). take k (drop 4 frame)) m
          in
          let image : take (length frame - (4 + n)) (drop (4 + n) frame) ≡ image_of frame =
          take_all (length frame - (4 + n)) (drop (4 + n) frame) (omega (arith, length-drop (4 + n) frame)) ∙ ap (λ (k : ℕ). drop (4 + k) frame) e
          in
          runs l r out2 (subst₂ (λ (x y : List ℕ). Formats x y reference_choice out r out2) source image f)
