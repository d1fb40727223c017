-- What is claimed of writer and reader together; proofs/ proves it of all lists of bytes.
use Rattle.std.specs.Prelude.{◌≡◌, true, false, List, [], ◌∷◌, ℕ, length}
use Rattle.refusals.specs.Refusals.{is_one_of}
use Rattle.refusals.specs.Answers.{accepted}
use Rattle.image.specs.Read.{got, bad, Image, read_version}
use Rattle.image.specs.Write.{Bytes}
use Rattle.steps.specs.Writer.{writer_answer, image_due}
use Rattle.steps.specs.OfImage.{steps_of}

-- the writer, given room, turns the list of steps l into the image b
pub record Turns (l b : List ℕ) : Type 0 where
  pub taken : writer_answer l (length b) ≡ accepted (length b)
  pub image : image_due l ≡ b

-- "For each image the reader accepts there is exactly one list of steps that the writer, given room, turns into it"
pub record OneList (b : List ℕ) (i : Image) : Type 0 where
  pub turns : Turns (steps_of b i) b
  pub only : (l : List ℕ) → Bytes l → Turns l b → l ≡ steps_of b i

abbrev pub ExactlyOne : Type 0
ExactlyOne = (s b : List ℕ) (i : Image) (end : ℕ) → Bytes b → read_version 1 true s b ≡ got i end → OneList b i

-- "a written image, read with a source it fits (by 01's 1, 2, 6 and 7), gives those steps": where it is refused, it is by one of these; where it is
-- accepted, it gives the steps. Its comments are in order, so that the earlier rule answers the same
pub record ReadsBack (s l b : List ℕ) : Type 0 where
  pub refused_by : (n p : ℕ) → read_version 1 true s b ≡ bad n p → is_one_of n (1 ∷ 2 ∷ 6 ∷ 7 ∷ []) ≡ true
  pub gives : (i : Image) (end : ℕ) → read_version 1 true s b ≡ got i end → steps_of b i ≡ l
  pub ordered : read_version 1 true s b ≡ read_version 1 false s b

abbrev pub WrittenReadsBack : Type 0
WrittenReadsBack = (s l b : List ℕ) → Bytes l → Turns l b → ReadsBack s l b
