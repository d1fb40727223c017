-- What the program writes for the frame that it reads: "It writes the text alone, or one line `refused N at P`, both decimal."
use Rattle.std.specs.Prelude.{◌≡◌, List, ℕ, length, Option, None, Some}
use Rattle.refusals.specs.Refusals.{Refusal}
use Rattle.lines.specs.Lines.{refused_line}
use Rattle.cut_rule.specs.Run.{write_front}
use Rattle.whole_run.specs.Built.{reference_choice, drawn_due}
use Rattle.file.specs.Whole.{source_of, image_of, frame_table}

-- "65,536 output bytes"
abbrev pub program_room : ℕ
program_room = 65536

abbrev pub program_refusal : List ℕ → Option Refusal
program_refusal frame = frame_table frame program_room

abbrev pub reply_by : Option Refusal → List ℕ → List ℕ
reply_by (Some r) text = refused_line r
reply_by None text = text

-- the bytes that a frame is answered with: the text of its file, as `Renderer` renders what `fmt_parsed` builds, or the refusal
unfoldable pub reply : List ℕ → List ℕ
reply frame = reply_by (program_refusal frame) (drawn_due (source_of frame) (image_of frame) reference_choice).text

-- n bytes are the reply, at the start of the output; behind them it is as it was
pub record Replies (frame out : List ℕ) (n : ℕ) (out2 : List ℕ) : Type 0 where
  pub bytes_due : n ≡ length (reply frame)
  pub output_left_of : out2 ≡ write_front (reply frame) out
