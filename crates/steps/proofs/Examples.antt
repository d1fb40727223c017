-- Lists of steps with the answers that document 02 gives, by the definition: antt computes each.
-- Assumes nothing.
use mathlib.Core.Path.{◌≡◌, refl}
use mathlib.Core.List.{List, [], ◌∷◌, ◌++◌}
use Prim.Native.Nat.{ℕ, zero, suc}
use lib.ListN.{replicate}
use Rattle.refusals.specs.Answers.{Answer, refused, accepted}
use Rattle.text.specs.Utf8.{within, row_in, followed, sequence, run, prefix, well_formed, boundary}
use Rattle.text.specs.Newlines.{is_range}
use Rattle.image.specs.Bytes.{be16, be32}
use Rattle.image.specs.Grammar.{row_of, row_under_of, kind_fits_of, payload_fits, first_child}
use Rattle.image.specs.Read.{bad, header, comment_fits, comments, shape, opens, children_at, skips}
use Rattle.image.specs.Read.{record_at, tree_at, read_tree, read_image, source_fits, read_with, width_bytes, stored_width, read_all}
use Rattle.image.specs.Read as Reader
use Rattle.image.specs.Write.{plainly, without, done, ◌next◌, written, plain}
use Rattle.ast.specs.Syntax.{Span}
use Rattle.tree.specs.CommentList.{span, pairs_at, comments_of}
use Rattle.tree.specs.Contents.{image_of}
use Rattle.steps.specs.Steps.{Step, comment_step, open_step, text_step, payload_step, absent_step, close_step, list_bytes, tree_steps}
use Rattle.steps.specs.Writer.{step_from, comments_from, opened_from, payload_from, children_from, record_from, contents_from, writer_answer, writer_output}
use Rattle.steps.specs.OfImage.{steps_due, steps_of_answer}

-- ---- document 01's worked input
shebang : List ℕ
shebang =
    0x01 ∷ 0x00 ∷ 0x00 ∷ 0x00 ∷ 0x22 ∷ 0x00 ∷ 0x00 ∷ 0x00 ∷ 0x00 ∷ 0x00 ∷ 0x1C ∷ 0x01 ∷ 0x00 ∷ 0x00 ∷ 0x00 ∷ 0x00 ∷ 0x00 ∷ 0x00 ∷ 0x00 ∷ 0x00 ∷ 0x00 ∷
    0x00 ∷ 0x00 ∷ 0x0F ∷ 0x02 ∷ 0x00 ∷ 0x00 ∷ 0x00 ∷ 0x00 ∷ 0x00 ∷ 0x00 ∷ 0x00 ∷ 0x00 ∷ 0x00 ∷ 0x04 ∷ 0x23 ∷ 0x21 ∷ 0x2F ∷ 0x78 ∷ []

-- its steps: open 1, open 2, the text, close, close
shebang_steps : List ℕ
shebang_steps =
    0x02 ∷ 0x01 ∷ 0x00 ∷ 0x00 ∷ 0x00 ∷ 0x00 ∷ 0x00 ∷ 0x00 ∷ 0x00 ∷ 0x00 ∷
    0x02 ∷ 0x02 ∷ 0x00 ∷ 0x00 ∷ 0x00 ∷ 0x00 ∷ 0x00 ∷ 0x00 ∷ 0x00 ∷ 0x00 ∷
    0x03 ∷ 0x00 ∷ 0x04 ∷ 0x00 ∷ 0x00 ∷ 0x00 ∷ 0x04 ∷ 0x23 ∷ 0x21 ∷ 0x2F ∷ 0x78 ∷
    0x06 ∷ 0x06 ∷ []

-- the image is written, and no byte after it; it gives the steps again
shebang_written : writer_output shebang_steps (replicate 40 9) ≡ shebang ++ 9 ∷ []
unfolding shebang shebang_steps contents_from comments_from record_from opened_from payload_from children_from step_from written
    kind_fits_of row_under_of row_of be16 be32
    well_formed prefix run within sequence followed row_in
shebang_written = refl

shebang_steps_lem : steps_due [] shebang ≡ shebang_steps
unfolding shebang shebang_steps read_with width_bytes stored_width source_fits read_image header comments Reader.comments_from comment_fits read_tree tree_at
    record_at opens shape kind_fits_of
    payload_fits first_child row_under_of row_of children_at skips be16 be32 is_range boundary well_formed prefix run within sequence followed row_in plain
    tree_steps comments_of pairs_at
shebang_steps_lem = refl

-- ---- images with comments: those that touch have steps, those that run backwards are refused at the second pair
commented : List Span → List ℕ
commented cs = image_of 1 (record { comments = cs; tree = plainly 1 0 0 [] (without next done) })

commented_steps : List Span → Answer ℕ
commented_steps cs = steps_of_answer (replicate 3 0x61) (commented cs) 4096

examples_commented : commented_steps (span 0 2 ∷ span 2 3 ∷ []) ∷ commented_steps (span 2 3 ∷ span 0 2 ∷ []) ∷ []
    ≡ accepted 30 ∷ refused (record { number = 7; place = 15 }) ∷ []
unfolding commented commented_steps read_with width_bytes stored_width source_fits read_image header comments Reader.comments_from comment_fits
    read_tree tree_at record_at opens shape kind_fits_of payload_fits first_child row_under_of row_of children_at skips be16 be32 is_range boundary
    well_formed prefix run within sequence followed row_in plain written tree_steps comments_of pairs_at
examples_commented = refl

-- ---- the answers to lists
record Example : Type 0 where
  list : List ℕ
  room : ℕ
  answer : Answer ℕ

-- with room enough
abbrev answers : List Step → Answer ℕ → Example
answers xs a = record { list = list_bytes xs; room = 4096; answer = a }

abbrev with_room : ℕ → List ℕ → Answer ℕ → Example
with_room n l a = record { list = l; room = n; answer = a }

abbrev refusal : ℕ → ℕ → Answer ℕ
refusal n p = refused (record { number = n; place = p })

abbrev given : List Example → List (Answer ℕ)
given [] = []
given (x ∷ xs) = writer_answer x.list x.room ∷ given xs

abbrev due : List Example → List (Answer ℕ)
due [] = []
due (x ∷ xs) = x.answer ∷ due xs

-- ---- the parts of the lists below
opening : ℕ → Step
opening kind = open_step kind 0 0

-- a tree without a shebang, its declaration at 11
tree : List Step → List Step
tree xs = opening 1 ∷ absent_step ∷ xs ++ close_step ∷ []

-- 19 bytes
name : List Step
name = opening 2 ∷ text_step 1 (0x41 ∷ []) ∷ close_step ∷ []

-- `const`, its expression at 51
constant : List Step → List Step
constant xs = tree (opening 11 ∷ name ++ opening 42 ∷ close_step ∷ xs ++ close_step ∷ [])

literal : ℕ → List Step
literal k = opening 51 ∷ opening 87 ∷ payload_step k ∷ close_step ∷ close_step ∷ []

-- `a op= literal`, its operator's payload at 101
assigns : ℕ → List Step
assigns k = opening 62 ∷ opening 4 ∷ name ++ close_step ∷ opening 86 ∷ payload_step k ∷ close_step ∷ literal 0 ++ close_step ∷ []

-- imports in one another: n + 1 of them, with n lists between
imports : ℕ → List Step
imports zero = opening 16 ∷ absent_step ∷ absent_step ∷ close_step ∷ []
imports (suc n) = opening 16 ∷ absent_step ∷ opening 3 ∷ imports n ++ close_step ∷ close_step ∷ []

right : List Example
right =
    with_room 39 shebang_steps (accepted 39) ∷
    answers (tree []) (accepted 24) ∷
    -- comments touch, or leave a gap
    answers (comment_step 0 2 ∷ comment_step 2 3 ∷ tree []) (accepted 40) ∷
    answers (comment_step 1 2 ∷ comment_step 4 5 ∷ tree []) (accepted 40) ∷
    answers (constant (literal 3)) (accepted 93) ∷
    answers (constant (assigns 4)) (accepted 149) ∷
    answers (tree (imports 31)) (accepted 975) ∷
    []

wrong : List Example
wrong =
    -- the list's end: nothing at all; while a child is missing; while the tree isn't closed
    answers [] (refusal 16 0) ∷
    answers (opening 1 ∷ []) (refusal 16 10) ∷
    answers (opening 1 ∷ absent_step ∷ []) (refusal 16 11) ∷
    answers (comment_step 0 1 ∷ []) (refusal 16 9) ∷
    -- unknown
    with_room 99 (7 ∷ []) (refusal 16 0) ∷
    with_room 99 (list_bytes (opening 1 ∷ []) ++ 0 ∷ []) (refusal 16 10) ∷
    -- cut off
    with_room 99 (2 ∷ 1 ∷ 0 ∷ 0 ∷ 0 ∷ 0 ∷ 0 ∷ 0 ∷ 0 ∷ []) (refusal 16 0) ∷
    with_room 99 (list_bytes (opening 1 ∷ opening 2 ∷ []) ++ 3 ∷ 0 ∷ 1 ∷ 0 ∷ 0 ∷ 0 ∷ 2 ∷ 0x41 ∷ []) (refusal 16 20) ∷
    -- a comment after the first other step; one that is empty, one that is reversed
    answers (opening 1 ∷ comment_step 0 1 ∷ []) (refusal 16 10) ∷
    answers (comment_step 1 1 ∷ tree []) (refusal 16 0) ∷
    answers (comment_step 0 1 ∷ comment_step 2 1 ∷ tree []) (refusal 16 9) ∷
    -- one that starts before the end of the one before: by a byte, wholly, with it; and before an empty one, and behind it
    answers (comment_step 0 2 ∷ comment_step 1 3 ∷ tree []) (refusal 16 9) ∷
    answers (comment_step 2 3 ∷ comment_step 0 1 ∷ tree []) (refusal 16 9) ∷
    answers (comment_step 0 1 ∷ comment_step 2 3 ∷ comment_step 2 3 ∷ tree []) (refusal 16 18) ∷
    answers (comment_step 2 3 ∷ comment_step 0 1 ∷ comment_step 4 4 ∷ tree []) (refusal 16 9) ∷
    answers (comment_step 2 3 ∷ comment_step 4 4 ∷ comment_step 0 1 ∷ tree []) (refusal 16 9) ∷
    -- a wrong kind, also of the tree itself; a span that is reversed
    answers (opening 2 ∷ []) (refusal 16 0) ∷
    answers (tree name) (refusal 16 11) ∷
    answers (open_step 1 2 1 ∷ absent_step ∷ close_step ∷ []) (refusal 16 0) ∷
    -- absent where it isn't marked; closed while a child is due
    answers (absent_step ∷ []) (refusal 16 0) ∷
    answers (tree (absent_step ∷ [])) (refusal 16 11) ∷
    answers (opening 1 ∷ close_step ∷ []) (refusal 16 10) ∷
    -- payloads: missing, not UTF-8, where none is due, too large, an operator's by its parent
    answers (opening 1 ∷ opening 2 ∷ close_step ∷ []) (refusal 16 20) ∷
    answers (opening 1 ∷ opening 2 ∷ text_step 1 (0x80 ∷ []) ∷ []) (refusal 16 20) ∷
    answers (opening 1 ∷ payload_step 0 ∷ []) (refusal 16 10) ∷
    answers (constant (literal 4)) (refusal 16 71) ∷
    answers (constant (assigns 5)) (refusal 16 101) ∷
    -- depth
    answers (tree (imports 32)) (refusal 16 673) ∷
    -- after the tree
    answers (tree [] ++ close_step ∷ []) (refusal 16 12) ∷
    -- 17: a byte less than is needed; 16 comes first
    with_room 38 shebang_steps (refusal 17 39) ∷
    with_room 0 (7 ∷ []) (refusal 16 0) ∷
    []

examples_right : given (right ++ wrong) ≡ due (right ++ wrong)
unfolding right wrong shebang_steps opening tree name constant literal assigns imports contents_from comments_from record_from opened_from
    payload_from children_from
    step_from written kind_fits_of row_under_of row_of be16 be32 well_formed prefix run within sequence followed row_in
examples_right = refl

-- a comment more than are allowed, here one
too_many : comments_from (list_bytes (comment_step 0 1 ∷ comment_step 1 2 ∷ tree [])) 1 0 0 ≡ bad 16 9
unfolding tree opening comments_from step_from be32
too_many = refl
