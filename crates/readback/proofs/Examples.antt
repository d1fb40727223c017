-- Images with their verdicts, by the definition: antt computes each.
-- Assumes nothing.
use mathlib.Core.Path.{◌≡◌, refl}
use mathlib.Core.List.{List, [], ◌∷◌, ◌++◌}
use Prim.Native.Nat.{ℕ, ◌+◌}
use lib.ListN.{length}
use Rattle.refusals.specs.Answers.{Answer, refused, accepted}
use Rattle.text.specs.Utf8.{within, row_in, followed, sequence, run, prefix, well_formed, boundary}
use Rattle.text.specs.Newlines.{is_range}
use Rattle.image.specs.Bytes.{be16, be32}
use Rattle.image.specs.Grammar.{row_of, row_under_of, kind_fits_of, payload_fits, first_child}
use Rattle.image.specs.Read.{header, comment_fits, comments_from, comments, shape, opens, children_at}
use Rattle.image.specs.Read.{skips, record_at, tree_at, read_tree, read_image, source_fits, read_with, width_bytes}
use Rattle.image.specs.Write.{Plain, without, plainly, done, ◌next◌, bytes4, written}
use Rattle.readback.specs.Operands.{left_breaks, right_breaks, broken}
use Rattle.readback.specs.Precedence.{operator_of, relative_associativity}
use Rattle.readback.specs.Verdict.{offenders, least, verdict_due}
use Rattle.readback.specs.declared.Verdict.{Verdict}
use Rattle.readback.specs.declared.Verdict.TheVariants.{Same, Differs}

record Example : Type 0 where
  image : List ℕ
  answer : Answer Verdict

abbrev answers : List Example → List (Answer Verdict)
answers [] = []
answers (x ∷ xs) = verdict_due [] x.image ∷ answers xs

abbrev due : List Example → List (Answer Verdict)
due [] = []
due (x ∷ xs) = x.answer ∷ due xs

-- ---- the parts of the images
-- without comments, its tree at 7
image : ℕ → Plain → List ℕ
image version tree = version ∷ bytes4 (2 + length (written tree)) ++ 0 ∷ 0 ∷ written tree

-- one constant, its expression at 66; at 65 in version 2
tree : Plain → Plain → Plain
tree name e = plainly 1 0 0 [] (without next plainly 11 0 0 [] (name next plainly 42 0 0 [] done next e next done) next done)

-- of one letter: after its width, and in version 2 without it
text : ℕ → Plain
text n = plainly 2 0 0 (0 ∷ 1 ∷ n ∷ []) done

text_2 : ℕ → Plain
text_2 n = plainly 2 0 0 (n ∷ []) done

named : Plain → Plain
named t = plainly 56 0 0 [] (plainly 4 0 0 [] (t next done) next done)

a : Plain
a = named (text 0x61)

joins : ℕ → Plain → Plain → Plain
joins op l r = plainly 63 0 0 [] (l next plainly 86 0 0 (op ∷ []) done next r next done)

over : ℕ → Plain → Plain
over kind e = plainly kind 0 0 [] (e next done)

reads : Plain → Verdict → Example
reads e v = record { image = image 1 (tree (text 0x63) e); answer = accepted v }

-- ---- the operators: 0 is `&&`, 1 `||`, 2 `==`, 3 `!=`, 8 `+`, 9 `-`, 10 `*`, 13 `**`
examples : List Example
examples =
    -- a sum under a product: `a * a + a` is another rate
    reads (joins 10 a (joins 8 a a)) (Differs 135) ∷
    reads (joins 10 (joins 8 a a) a) (Differs 79) ∷
    -- a product under a sum
    reads (joins 8 a (joins 10 a a)) Same ∷
    reads (joins 8 (joins 10 a a) a) Same ∷
    -- a difference of one precedence with its parent: as left operand alone
    reads (joins 9 (joins 9 a a) a) Same ∷
    reads (joins 9 a (joins 9 a a)) (Differs 135) ∷
    -- a power: as right operand alone
    reads (joins 13 a (joins 13 a a)) Same ∷
    reads (joins 13 (joins 13 a a) a) (Differs 79) ∷
    -- comparisons of comparisons: neither
    reads (joins 2 (joins 3 a a) a) (Differs 79) ∷
    reads (joins 2 a (joins 3 a a)) (Differs 135) ∷
    -- `&&` and `||` are of one precedence, and not mixed
    reads (joins 0 (joins 0 a a) a) Same ∷
    reads (joins 0 (joins 1 a a) a) (Differs 79) ∷
    reads (joins 0 a (joins 1 a a)) (Differs 135) ∷
    -- directly under `not` and `-`
    reads (over 60 (joins 0 a a)) (Differs 79) ∷
    reads (over 64 (joins 8 a a)) (Differs 79) ∷
    -- parentheses between
    reads (joins 10 a (over 70 (joins 8 a a))) Same ∷
    reads (over 60 (over 70 (joins 0 a a))) Same ∷
    -- of two the first: that in the left operand before the right operand
    reads (joins 8 (joins 8 a (joins 8 a a)) (joins 8 a a)) (Differs 148) ∷
    -- no operand of the product, but one below it
    reads (joins 10 (over 64 a) (over 60 (joins 2 a a))) (Differs 161) ∷
    []

-- the first of them in version 2, and an image that is refused
others : List Example
others =
    record {
      image = image 2 (tree (text_2 0x63) (joins 10 (named (text_2 0x61)) (joins 8 (named (text_2 0x62)) (named (text_2 0x63)))));
      answer = accepted (Differs 131);
    } ∷
    record { image = image 3 (tree (text 0x63) a); answer = refused (record { number = 3; place = 0 }) } ∷
    []

examples_right : answers (examples ++ others) ≡ due (examples ++ others)
unfolding examples others image tree text text_2 named a joins over reads written
    broken left_breaks right_breaks operator_of relative_associativity offenders least
    read_with source_fits well_formed prefix run read_image header width_bytes comments comments_from comment_fits
    read_tree tree_at record_at opens shape kind_fits_of payload_fits first_child row_under_of row_of children_at skips
    be16 be32 is_range boundary within sequence followed row_in
examples_right = refl
