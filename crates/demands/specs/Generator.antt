-- Document 02, 5/14, of the writer's entries, by what they promise and nothing else: demand 1 of `writer::write_image` and `writer::steps_of`, and the
-- request's two sentences on lists. proofs/Generator.antt proves it.
use Rattle.std.specs.Prelude.{◌≡◌, true, List, [], ◌∷◌, ◌++◌, ℕ, ◌≤◌, length, take, Some, Result, Ok}
use Rattle.std.proofs.lemmas.List.Edits.{sets}
use Rattle.refusals.specs.Refusals.{Refusal, is_one_of}
use Rattle.refusals.specs.Reasons.{refusal_in}
use Rattle.refusals.specs.declared.Refused.{Refused}
use Rattle.image.specs.Read.{reader_numbers}
use Rattle.steps.specs.Writer.{writer_refusal}
use Rattle.steps.specs.OfImage.{steps_of_refusal}
use Rattle.image.specs.Write.{Bytes}
use Rattle.writer.specs.Wrote.{Writes, Lists}
use Rattle.demands.specs.Demand1.{Answered}

-- ---- the numbers of each entry
-- "16 first", then 17
abbrev pub writer_numbers : List ℕ
writer_numbers = 16 ∷ 17 ∷ []

-- the reader's, then 17
abbrev pub steps_numbers : List ℕ
steps_numbers = reader_numbers ++ (17 ∷ [])

-- ---- demand 1
pub record Generator1 : Type 0 where
  pub write : (l out : List ℕ) (r : Result ℕ Refused) (out2 : List ℕ) → Writes l out r out2
      → Answered writer_numbers (writer_refusal l (length out)) (refusal_in r) (out2 ≡ out)
  pub list : (s b out : List ℕ) (r : Result ℕ Refused) (out2 : List ℕ) → Lists s b out r out2
      → Answered steps_numbers (steps_of_refusal s b (length out)) (refusal_in r) (out2 ≡ out)

-- ---- the two sentences
-- "exactly one list of steps that the writer, given room, turns into it": l is turned into b wherever the output has room for b, and no other is
pub record TheList (b l : List ℕ) : Type 0 where
  pub turned : (out : List ℕ) (r : Result ℕ Refused) (out2 : List ℕ) → Writes l out r out2 → length b ≤ length out
      → (r ≡ Ok (length b)) × (out2 ≡ sets out 0 b)
  pub only : (l2 out : List ℕ) (n : ℕ) (out2 : List ℕ) → Bytes l2 → Writes l2 out (Ok n) out2 → take n out2 ≡ b → l2 ≡ l

-- "read with a source it fits (by 01's 1, 2, 6 and 7), gives those steps": the image b of the list l, with any source; 17 where the steps have no room
pub record GivesBack (l b : List ℕ) : Type 0 where
  pub refused_by : (s out : List ℕ) (r : Result ℕ Refused) (out2 : List ℕ) (q : Refusal) → Lists s b out r out2 → refusal_in r ≡ Some q
      → is_one_of q.number (1 ∷ 2 ∷ 6 ∷ 7 ∷ 17 ∷ []) ≡ true
  pub gives : (s out : List ℕ) (m : ℕ) (out2 : List ℕ) → Lists s b out (Ok m) out2 → take m out2 ≡ l

pub record GeneratorLists : Type 0 where
  -- of each image that `steps_of` takes; by demand 1 it takes each that the reader accepts, given room
  pub one : (s b out : List ℕ) (m : ℕ) (out2 : List ℕ) → Bytes b → Lists s b out (Ok m) out2 → TheList b (take m out2)
  -- of each list that `write_image` takes
  pub back : (l out : List ℕ) (n : ℕ) (out2 : List ℕ) → Bytes l → Writes l out (Ok n) out2 → GivesBack l (take n out2)
