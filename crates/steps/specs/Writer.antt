-- What a list of steps writes, or why it is refused: 16 with the offset of the first step at fault, then 17. l is the list as bytes, and an offset
-- `at` counts from its first byte. The recursion is the reader's (image/specs/Read.antt), over steps in place of records.
use Rattle.std.specs.Prelude.{cond, ◌&&◌, ◌||◌, List, [], ◌∷◌, ◌++◌, ℕ, zero, suc, ◌+◌, ltb, leb, eqb, length, get_or, Option}
use Rattle.std.proofs.lemmas.List.Edits.{sets}
use Rattle.refusals.specs.Refusals.{Refusal, first, refuse_if, unless}
use Rattle.refusals.specs.Answers.{Answer, answer_by}
use Rattle.text.specs.Utf8.{well_formed}
use Rattle.image.specs.Bytes.{be16, be32, part}
use Rattle.image.specs.Kinds.{TREE, TEXT}
use Rattle.image.specs.Limits.{MAX_BODY, MAX_COMMENTS, MAX_RECORDS_DEEP}
use Rattle.image.specs.Grammar.{is_optional, bare, place, after, complete, row_under_of, kind_fits_of, has_byte, top_byte}
use Rattle.image.specs.Read.{Read, got, bad, bind, read_refusal}
use Rattle.image.specs.Write.{Plain, Plains, without, plainly, done, ◌next◌, bytes2}
use Rattle.ast.specs.Syntax.{Span}
use Rattle.tree.specs.CommentList.{span}
use Rattle.steps.specs.Steps.{Step, comment_step, open_step, text_step, payload_step, absent_step, close_step}
use Rattle.tree.specs.Contents.{Contents, image_of}
use Rattle.steps.specs.Steps.{COMMENT_STEP, OPEN_STEP, TEXT_STEP, PAYLOAD_STEP, ABSENT_STEP, CLOSE_STEP}

-- ---- a step
-- the step at `at` has n bytes; 16 where it is cut off
abbrev pub whole : List ℕ → ℕ → ℕ → Step → Read Step
whole l at n x = cond (leb (at + n) (length l)) (got x (at + n)) (bad 16 at)

-- the step at `at`, and where the next one starts; 16 where it is unknown or cut off, and at the list's end, where no byte stands
unfoldable pub step_from : List ℕ → ℕ → Read Step
step_from l at =
    let k = get_or l at 0 in
    cond (eqb k COMMENT_STEP) (whole l at 9 (comment_step (be32 l (at + 1)) (be32 l (at + 5))))
    (cond (eqb k OPEN_STEP) (whole l at 10 (open_step (get_or l (at + 1) 0) (be32 l (at + 2)) (be32 l (at + 6))))
    (cond (eqb k TEXT_STEP)
    (whole l at (7 + be32 l (at + 3)) (text_step (be16 l (at + 1)) (part (at + 7) (at + 7 + be32 l (at + 3)) l)))
    (cond (eqb k PAYLOAD_STEP) (whole l at 2 (payload_step (get_or l (at + 1) 0)))
    (cond (eqb k ABSENT_STEP) (whole l at 1 absent_step)
    (cond (eqb k CLOSE_STEP) (whole l at 1 close_step)
    (bad 16 at))))))

-- ---- comments
-- "empty or reversed comments" are refused, and "a comment must start at or after the end of the one before", which is `least`; before the first none
-- ends, and its `least` is 0
abbrev pub pair_by : ℕ → ℕ → Step → ℕ → Read Span
pair_by least at (comment_step start end) past = cond (leb least start && ltb start end) (got (span start end) past) (bad 16 at)
pair_by least at (open_step kind start end) past = bad 16 at
pair_by least at (text_step width t) past = bad 16 at
pair_by least at (payload_step x) past = bad 16 at
pair_by least at absent_step past = bad 16 at
pair_by least at close_step past = bad 16 at

-- the comments, up to the first other step; n more are allowed, the first of them from `least` on
unfoldable pub comments_from : List ℕ → ℕ → ℕ → ℕ → Read (List Span)
comments_from l zero least at = cond (eqb (get_or l at 0) COMMENT_STEP) (bad 16 at) (got [] at)
comments_from l (suc n) least at =
    let more = bind (bind (step_from l at) (pair_by least at)) (λ c past. bind (comments_from l n c.end past) (λ cs end. got (c ∷ cs) end)) in
    cond (eqb (get_or l at 0) COMMENT_STEP) more (got [] at)

-- ---- records
-- what a record is opened with
pub record Opened : Type 0 where
  pub kind : ℕ
  pub from : ℕ
  pub to : ℕ

-- the kind is right at place p, and the span isn't reversed
abbrev pub opened_by : ℕ → ℕ → Step → ℕ → Read Opened
opened_by p at (open_step kind from to) past =
    cond (kind_fits_of p kind && leb from to) (got (record { kind = kind; from = from; to = to }) past) (bad 16 at)
opened_by p at (comment_step start end) past = bad 16 at
opened_by p at (text_step width t) past = bad 16 at
opened_by p at (payload_step x) past = bad 16 at
opened_by p at absent_step past = bad 16 at
opened_by p at close_step past = bad 16 at

unfoldable pub opened_from : List ℕ → ℕ → ℕ → Read Opened
opened_from l p at = bind (step_from l at) (opened_by p at)

-- a text, which must be UTF-8, with its width before it
abbrev pub text_by : ℕ → Step → ℕ → Read (List ℕ)
text_by at (text_step width t) past = cond (well_formed t) (got (bytes2 width ++ t) past) (bad 16 at)
text_by at (comment_step start end) past = bad 16 at
text_by at (open_step kind start end) past = bad 16 at
text_by at (payload_step x) past = bad 16 at
text_by at absent_step past = bad 16 at
text_by at close_step past = bad 16 at

-- a payload byte, which is `top` at most
abbrev pub byte_by : ℕ → ℕ → Step → ℕ → Read (List ℕ)
byte_by at top (payload_step x) past = cond (leb x top) (got (x ∷ []) past) (bad 16 at)
byte_by at top (comment_step start end) past = bad 16 at
byte_by at top (open_step kind start end) past = bad 16 at
byte_by at top (text_step width t) past = bad 16 at
byte_by at top absent_step past = bad 16 at
byte_by at top close_step past = bad 16 at

-- the payload of a record of this kind at place p, directly after it is opened; the other kinds have none
unfoldable pub payload_from : List ℕ → ℕ → ℕ → ℕ → Read (List ℕ)
payload_from l p kind at =
    cond (eqb kind TEXT) (bind (step_from l at) (text_by at))
    (cond (has_byte kind) (bind (step_from l at) (byte_by at (top_byte p kind)))
    (got [] at))

-- what a step says where a child may stand: the record is closed, the child is absent, or it is opened; no other step is right there
abbrev pub at_child : {A : Type 0} → A → A → A → A → Step → A
at_child closed absent opened wrong close_step = closed
at_child closed absent opened wrong absent_step = absent
at_child closed absent opened wrong (open_step kind start end) = opened
at_child closed absent opened wrong (comment_step start end) = wrong
at_child closed absent opened wrong (text_step width t) = wrong
at_child closed absent opened wrong (payload_step x) = wrong

-- the children at the places of the row, up to the step that closes their record; `one` takes one. A child has a step at least, so that n turns,
-- one more than there are bytes, never run out
unfoldable pub children_from : (ℕ → ℕ → Read Plain) → List ℕ → ℕ → ℕ → ℕ → Read Plains
children_from one l zero row at = bad 16 at
children_from one l (suc n) row at =
    bind (step_from l at)
    (λ x past.
    let closed = cond (complete row) (got done past) (bad 16 at) in
    let rest = bind (children_from one l n (after row) past) (λ ys end. got (without next ys) end) in
    let absent = cond (is_optional (place row)) rest (bad 16 at) in
    let more = bind (one (bare (place row)) at) (λ y behind. bind (children_from one l n (after row) behind) (λ ys end. got (y next ys) end)) in
    let opened = cond (eqb row 0) (bad 16 at) more in
    at_child closed absent opened (bad 16 at) x)

-- the record that the step at `at` opens, at place p, where `left` levels of records are left: "depth" is a test of this step
unfoldable pub record_from : List ℕ → ℕ → ℕ → ℕ → Read Plain
record_from l zero p at = bad 16 at
record_from l (suc left) p at =
    bind (opened_from l p at)
    (λ h past.
    bind (payload_from l p h.kind past)
    (λ x first.
    bind (children_from (record_from l left) l (suc (length l)) (row_under_of p h.kind) first)
    (λ ys end. got (plainly h.kind h.from h.to x ys) end)))

-- ---- the whole
-- comments, the tree, and nothing after it
unfoldable pub contents_from : List ℕ → Read Contents
contents_from l =
    bind (comments_from l MAX_COMMENTS 0 0)
    (λ cs at.
    bind (record_from l MAX_RECORDS_DEEP TREE at)
    (λ t end. cond (ltb end (length l)) (bad 16 end) (got (record { comments = cs; tree = t }) end)))

-- the image of an accepted list; of another nothing is written
abbrev pub image_by : Read Contents → List ℕ
image_by (got c end) = image_of 1 c
image_by (bad n p) = []

abbrev pub image_due : List ℕ → List ℕ
image_due l = image_by (contents_from l)

-- "16 first", "with its offset in the list"; "17, a body over 01's size or an image longer than the output, with the bytes needed": a head of five
-- bytes, then the body
abbrev pub writer_refusal : List ℕ → ℕ → Option Refusal
writer_refusal l room =
    first
    (read_refusal (contents_from l)
    ∷ refuse_if (ltb (5 + MAX_BODY) (length (image_due l)) || ltb room (length (image_due l))) 17 (length (image_due l))
    ∷ [])

-- the answer gives the image's bytes; and the output at exit, "untouched" where the list is refused
abbrev pub writer_answer : List ℕ → ℕ → Answer ℕ
writer_answer l room = answer_by (writer_refusal l room) (length (image_due l))

abbrev pub writer_output : List ℕ → List ℕ → List ℕ
writer_output l out = unless (writer_refusal l (length out)) out (sets out 0 (image_due l))
