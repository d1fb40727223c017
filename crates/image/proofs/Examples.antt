-- Sources and images with the answers that document 01 gives, read by the definition: antt computes each.
-- Assumes nothing.
use mathlib.Core.Path.{◌≡◌, refl}
use mathlib.Core.Bool.{Bool, true, false}
use mathlib.Core.List.{List, [], ◌∷◌, ◌++◌}
use Prim.Native.Nat.{ℕ, zero, suc}
use lib.ListN.{length}
use Rattle.refusals.specs.Answers.{Answer, refused, accepted}
use Rattle.text.specs.Utf8.{within, row_in, followed, sequence, run, prefix, well_formed, boundary}
use Rattle.text.specs.Newlines.{is_range}
use Rattle.image.specs.Bytes.{be16, be32}
use Rattle.image.specs.Grammar.{row_of, row_under_of, kind_fits_of, payload_fits, first_child}
use Rattle.image.specs.Read.{header, comment_fits, comments_from, comments, shape, opens, children_at}
use Rattle.image.specs.Read.{skips, record_at, tree_at, read_tree, read_image, source_fits, read_with, read_by, width_bytes, outcome}
use Rattle.image.specs.Write.{Plain, Plains, without, plainly, done, ◌next◌, bytes4, written}
use Rattle.image.specs.declared.Document.{Document}

record Example : Type 0 where
  archive : Bool
  source : List ℕ
  image : List ℕ
  answer : Answer Document

abbrev reads : List ℕ → List ℕ → Answer Document → Example
reads s b a = record { archive = false; source = s; image = b; answer = a }

-- by the archive entry
abbrev earlier : List ℕ → List ℕ → Answer Document → Example
earlier s b a = record { archive = true; source = s; image = b; answer = a }

abbrev answers : List Example → List (Answer Document)
answers [] = []
answers (x ∷ xs) = outcome (read_by x.archive x.source x.image) ∷ answers xs

abbrev due : List Example → List (Answer Document)
due [] = []
due (x ∷ xs) = x.answer ∷ due xs

abbrev wrong : ℕ → ℕ → Answer Document
wrong n p = refused (record { number = n; place = p })

abbrev right : ℕ → ℕ → Answer Document
right n at = accepted (record { comments = n; tree = at })

-- ---- document 01's worked input, and the same with version 2
shebang : List ℕ
shebang =
    0x00 ∷ 0x00 ∷ 0x00 ∷ 0x22 ∷ 0x00 ∷ 0x00 ∷ 0x00 ∷ 0x00 ∷ 0x00 ∷ 0x1C ∷ 0x01 ∷ 0x00 ∷ 0x00 ∷
    0x00 ∷ 0x00 ∷ 0x00 ∷ 0x00 ∷ 0x00 ∷ 0x00 ∷ 0x00 ∷ 0x00 ∷ 0x00 ∷ 0x0F ∷ 0x02 ∷ 0x00 ∷ 0x00 ∷
    0x00 ∷ 0x00 ∷ 0x00 ∷ 0x00 ∷ 0x00 ∷ 0x00 ∷ 0x00 ∷ 0x04 ∷ 0x23 ∷ 0x21 ∷ 0x2F ∷ 0x78 ∷ []

worked : List Example
worked = reads [] (0x01 ∷ shebang) (right 0 7) ∷ reads [] (0x02 ∷ shebang) (right 0 7) ∷ reads [] (0x03 ∷ shebang) (wrong 3 0) ∷ []

-- ---- the parts of the images below
image : List ℕ → List ℕ
image body = 1 ∷ bytes4 (length body) ++ body

-- with comments, each by its eight bytes, then what follows them
listing : ℕ → List ℕ → List ℕ → List ℕ
listing n cs rest = image (0 ∷ n ∷ cs ++ rest)

pair : ℕ → ℕ → List ℕ
pair a e = bytes4 a ++ bytes4 e

-- an image without comments, its tree at 7
only : Plain → List ℕ
only t = listing 0 [] (written t)

tree : Plains → Plain
tree xs = plainly 1 0 0 [] xs

-- a tree without a shebang, its declaration at 24
declares : Plain → List ℕ
declares d = only (tree (without next d next done))

text : List ℕ → Plain
text xs = plainly 2 0 0 xs done

name : Plain
name = text (0 ∷ 1 ∷ 0x41 ∷ [])

-- `const`, its expression at 66
constant : Plain → List ℕ
constant e = declares (plainly 11 0 0 [] (name next plainly 42 0 0 [] done next e next done))

literal : ℕ → Plain
literal k = plainly 51 0 0 [] (plainly 87 0 0 (k ∷ []) done next done)

operator : ℕ → Plain
operator k = plainly 86 0 0 (k ∷ []) done

assigns : ℕ → Plain
assigns k = plainly 62 0 0 [] (plainly 4 0 0 [] (name next done) next operator k next literal 0 next done)

joins : ℕ → Plain
joins k = plainly 63 0 0 [] (literal 0 next operator k next literal 0 next done)

-- imports in one another: n + 1 of them, with n lists between
imports : ℕ → Plain
imports zero = plainly 16 0 0 [] (without next without next done)
imports (suc n) = plainly 16 0 0 [] (without next plainly 3 0 0 [] (imports n next done) next done)

-- é, and abc
acute : List ℕ
acute = 0xC3 ∷ 0xA9 ∷ []

abc : List ℕ
abc = 0x61 ∷ 0x62 ∷ 0x63 ∷ []

no_more : List ℕ
no_more = written (tree (without next done))

empty : List ℕ
empty = only (tree (without next done))

more : List Example
more =
    -- 2: the first byte of the bad sequence
    reads (0x61 ∷ 0xC3 ∷ 0x28 ∷ []) empty (wrong 2 1) ∷
    -- 3: too short; a byte more than the length says
    reads [] (1 ∷ 0 ∷ 0 ∷ 0 ∷ []) (wrong 3 0) ∷
    reads [] (empty ++ 0 ∷ []) (wrong 3 0) ∷
    -- 7 at the count: no count, no pair, over 8,192
    reads abc (image []) (wrong 7 5) ∷
    reads abc (listing 1 [] []) (wrong 7 5) ∷
    reads abc (image (0x20 ∷ 0x01 ∷ [])) (wrong 7 5) ∷
    -- 7 at a pair: empty, reversed, past the source, off a boundary
    reads abc (listing 2 (pair 0 1 ++ pair 2 2) []) (wrong 7 15) ∷
    reads abc (listing 1 (pair 2 1) []) (wrong 7 7) ∷
    reads abc (listing 1 (pair 2 4) []) (wrong 7 7) ∷
    reads acute (listing 1 (pair 1 2) []) (wrong 7 7) ∷
    -- 7 at a pair that starts before the end of the one before: reversed, overlapping by a byte; touching is right
    reads abc (listing 2 (pair 2 3 ++ pair 0 2) no_more) (wrong 7 15) ∷
    reads abc (listing 2 (pair 0 2 ++ pair 1 3) no_more) (wrong 7 15) ∷
    reads abc (listing 2 (pair 0 2 ++ pair 2 3) no_more) (right 2 23) ∷
    -- in the list's order with the other causes: before an empty pair, and behind one
    reads abc (listing 3 (pair 2 3 ++ pair 0 1 ++ pair 1 1) []) (wrong 7 15) ∷
    reads abc (listing 3 (pair 2 3 ++ pair 3 3 ++ pair 0 1) []) (wrong 7 15) ∷
    -- the archive entry reads these, with the other causes of 7
    earlier abc (listing 2 (pair 2 3 ++ pair 0 3) no_more) (right 2 23) ∷
    earlier abc (listing 2 (pair 0 2 ++ pair 1 3) no_more) (right 2 23) ∷
    earlier abc (listing 3 (pair 2 3 ++ pair 0 1 ++ pair 1 1) []) (wrong 7 23) ∷
    -- 4: no tree; a byte after the tree
    reads [] (image (0 ∷ 0 ∷ [])) (wrong 4 7) ∷
    reads [] (listing 0 [] (written (tree (without next done)) ++ 0 ∷ [])) (wrong 4 24) ∷
    -- 4: an optional child is never left out
    reads [] (only (tree done)) (wrong 4 20) ∷
    -- 4: a text that is not UTF-8, or is shorter than its width
    reads [] (only (tree (text (0 ∷ 1 ∷ 0x80 ∷ []) next done))) (wrong 4 20) ∷
    reads [] (only (tree (text (0 ∷ []) next done))) (wrong 4 20) ∷
    -- 4: three bytes where a child may stand, length 0 at a place without `?`, a wrong kind
    reads [] (only (plainly 1 0 0 (bytes4 0 ++ 0 ∷ 0 ∷ 0 ∷ []) done)) (wrong 4 24) ∷
    reads [] (declares without) (wrong 4 24) ∷
    reads [] (declares name) (wrong 4 24) ∷
    -- 4: payload bytes, an operator's by its parent
    reads [] (constant (literal 3)) (right 0 7) ∷
    reads [] (constant (literal 4)) (wrong 4 79) ∷
    reads [] (constant (plainly 50 0 0 (3 ∷ []) (without next done))) (wrong 4 66) ∷
    reads [] (constant (assigns 4)) (right 0 7) ∷
    reads [] (constant (assigns 5)) (wrong 4 108) ∷
    reads [] (constant (joins 13)) (right 0 7) ∷
    reads [] (constant (joins 14)) (wrong 4 106) ∷
    -- 5: a record 65 deep; an absent child there is none
    reads [] (declares (imports 31)) (right 0 7) ∷
    reads [] (declares (imports 32)) (wrong 5 971) ∷
    -- 6: reversed, past the source, off a boundary; an empty span is right
    reads abc (only (plainly 1 2 1 [] (without next done))) (wrong 6 7) ∷
    reads abc (only (plainly 1 0 4 [] (without next done))) (wrong 6 7) ∷
    reads acute (only (plainly 1 1 2 [] (without next done))) (wrong 6 7) ∷
    reads acute (only (plainly 1 2 2 [] (without next done))) (right 0 7) ∷
    -- 4 before 6 at one place; a parent's 6 before its child's 4
    reads abc (only (plainly 2 2 1 [] done)) (wrong 4 7) ∷
    reads abc (only (plainly 1 2 1 [] done)) (wrong 6 7) ∷
    []

examples_right : answers (worked ++ more) ≡ due (worked ++ more)
unfolding worked shebang more image listing pair only tree declares text name constant literal operator assigns joins imports acute abc no_more empty written
    read_with source_fits well_formed prefix run read_image header width_bytes comments comments_from comment_fits
    read_tree tree_at record_at opens shape kind_fits_of payload_fits first_child row_under_of row_of children_at skips
    be16 be32 is_range boundary within sequence followed row_in
examples_right = refl
