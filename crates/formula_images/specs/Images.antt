-- Document 02, 14/14, "All small formulas": the image of a formula, and the answer to a size and a place.
use Rattle.std.specs.Prelude.{◌≡◌, Bool, not, ◌&&◌, List, [], ◌∷◌, ◌++◌, ℕ, ltb, leb, length, Option, Result}
use Rattle.std.proofs.lemmas.List.Edits.{sets}
use Rattle.refusals.specs.Refusals.{Refusal, first, refuse_if, unless}
use Rattle.refusals.specs.Answers.{Answer, answer_by}
use Rattle.refusals.specs.Reasons.{answer_of}
use Rattle.refusals.specs.declared.Refused.{Refused}
use Rattle.image.specs.Kinds.{TREE, TEXT, PATH, CONST, TYPE_PATH, PATH_EXPR, BIN_OP, NEGATE, PARENTHESES, OPERATOR}
use Rattle.image.specs.Write.{Plain, Plains, without, plainly, done, ◌next◌, bytes2}
use Rattle.tree.specs.Contents.{Contents, image_of}
use Rattle.formulas.specs.Formulas.{Formula, path, binary, negation, parentheses, place, formulas}
use Rattle.formulas.specs.Places.{formula_at}

-- ---- records
-- "every span 0, 0"
abbrev pub node : ℕ → List ℕ → Plains → Plain
node kind payload xs = plainly kind 0 0 payload xs

-- "each text's width its byte count"
abbrev pub text_of : List ℕ → Plain
text_of t = node TEXT (bytes2 (length t) ++ t) done

abbrev pub path_of : List ℕ → Plain
path_of t = node PATH [] (text_of t next done)

abbrev pub operator_of : ℕ → Plain
operator_of x = node OPERATOR (x ∷ []) done

-- "path `a` (56), negation (64), parentheses (70) and binary plus and times (63)"
unfoldable pub record_of : Formula → Plain
record_of path = node PATH_EXPR [] (path_of (0x61 ∷ []) next done)
record_of (binary o l r) = node BIN_OP [] (record_of l next operator_of (place o) next record_of r next done)
record_of (negation f) = node NEGATE [] (record_of f next done)
record_of (parentheses f) = node PARENTHESES [] (record_of f next done)

-- `u32`, with no parameters
abbrev pub u32 : Plain
u32 = node TYPE_PATH [] (path_of (0x75 ∷ 0x33 ∷ 0x32 ∷ []) next without next done)

-- "as the body of `const c: u32`", "no shebang"
abbrev pub const_plain : Formula → Plain
const_plain f = node TREE [] (without next node CONST [] (text_of (0x63 ∷ []) next u32 next record_of f next done) next done)

-- "no comments"
abbrev pub formula_contents : Formula → Contents
formula_contents f = record { comments = []; tree = const_plain f }

-- "a version 1 image": that of the formula at a place of those of a size, both as the caller gives them
abbrev pub formula_image : ℕ → ℕ → List ℕ
formula_image size place = image_of 1 (formula_contents (formula_at size place))

-- ---- the answer
-- "a size outside 1 to 7 or a place at or past the count"
abbrev pub is_there : ℕ → ℕ → Bool
is_there size place = leb 1 size && (leb size 7 && ltb place (length (formulas size)))

-- "24, ..; 17 for room", with the bytes needed
abbrev pub formula_refusal : ℕ → ℕ → ℕ → Option Refusal
formula_refusal size place room =
    first
    (refuse_if (not (is_there size place)) 24 0
    ∷ refuse_if (ltb room (length (formula_image size place))) 17 (length (formula_image size place))
    ∷ [])

-- the answer gives the image's bytes; and the output at exit, "untouched" where refused
abbrev pub formula_answer : ℕ → ℕ → ℕ → Answer ℕ
formula_answer size place room = answer_by (formula_refusal size place room) (length (formula_image size place))

abbrev pub formula_output : ℕ → ℕ → List ℕ → List ℕ
formula_output size place out = unless (formula_refusal size place (length out)) out (sets out 0 (formula_image size place))

-- what `write_formula` promises: of a size and a place, with the output before and after
abbrev pub WritesFormula : ℕ → ℕ → List ℕ → Result ℕ Refused → List ℕ → Type 0
WritesFormula size place out r out2 =
    (answer_of (λ n. n) r ≡ formula_answer size place (length out)) × (out2 ≡ formula_output size place out)
