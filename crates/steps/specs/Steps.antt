-- Document 02, 5/14, "Images from the table generator": steps, their bytes, and the steps of an image. The grammar is the reader's own.
use Rattle.std.specs.Prelude.{cond, List, [], ◌∷◌, ◌++◌, map, ℕ, eqb, length, get_or, drop}
use Rattle.image.specs.Bytes.{be16}
use Rattle.image.specs.Kinds.{TEXT}
use Rattle.image.specs.Grammar.{has_byte}
use Rattle.image.specs.Write.{Plain, Plains, without, plainly, done, ◌next◌, bytes2, bytes4}
use Rattle.tree.specs.Contents.{Contents}

-- ---- steps
-- "comments with start and end, first; then open a kind with its span, give a text and its width, give a payload byte, say absent, close"
pub data Step : Type 0 where
  comment_step : ℕ → ℕ → Step
  open_step : ℕ → ℕ → ℕ → Step
  text_step : ℕ → List ℕ → Step
  payload_step : ℕ → Step
  absent_step : Step
  close_step : Step

-- "A step is one byte, 1 to 6 in that order"
abbrev pub COMMENT_STEP : ℕ
COMMENT_STEP = 1

abbrev pub OPEN_STEP : ℕ
OPEN_STEP = 2

abbrev pub TEXT_STEP : ℕ
TEXT_STEP = 3

abbrev pub PAYLOAD_STEP : ℕ
PAYLOAD_STEP = 4

abbrev pub ABSENT_STEP : ℕ
ABSENT_STEP = 5

abbrev pub CLOSE_STEP : ℕ
CLOSE_STEP = 6

-- "then its numbers as in the image, kind before span; for a text its width, four bytes of length, the text"
abbrev pub step_bytes : Step → List ℕ
step_bytes (comment_step start end) = COMMENT_STEP ∷ bytes4 start ++ bytes4 end
step_bytes (open_step kind start end) = OPEN_STEP ∷ kind ∷ bytes4 start ++ bytes4 end
step_bytes (text_step width t) = TEXT_STEP ∷ bytes2 width ++ bytes4 (length t) ++ t
step_bytes (payload_step x) = PAYLOAD_STEP ∷ x ∷ []
step_bytes absent_step = ABSENT_STEP ∷ []
step_bytes close_step = CLOSE_STEP ∷ []

-- steps one after the other
abbrev pub list_bytes : List Step → List ℕ
list_bytes [] = []
list_bytes (x ∷ xs) = step_bytes x ++ list_bytes xs

-- ---- the steps of an image
-- a text is payload to its end, its width first; the other payloads are one byte
abbrev pub payload_steps : ℕ → List ℕ → List Step
payload_steps kind x = cond (eqb kind TEXT) (text_step (be16 x 0) (drop 2 x) ∷ []) (cond (has_byte kind) (payload_step (get_or x 0 0) ∷ []) [])

-- a record is opened, given its payload and its children, and closed
unfoldable mutual
  pub tree_steps : Plain → List Step
  tree_steps without = absent_step ∷ []
  tree_steps (plainly kind from to payload xs) = open_step kind from to ∷ payload_steps kind payload ++ (child_steps xs ++ close_step ∷ [])

  pub child_steps : Plains → List Step
  child_steps done = []
  child_steps (x next xs) = tree_steps x ++ child_steps xs

-- comments first
abbrev pub steps : Contents → List Step
steps c = map (λ x. comment_step x.start x.end) c.comments ++ tree_steps c.tree
