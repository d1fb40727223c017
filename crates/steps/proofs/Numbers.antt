-- Every list that is refused is refused with 16.
-- Assumes nothing.
use mathlib.Core.Path.{◌≡◌, refl}
use mathlib.Core.Bool.{Bool, true, false, cond, ◌&&◌}
use mathlib.Core.List.{List}
use Prim.Native.Nat.{ℕ, zero, suc, ◌+◌}
use lib.Dec.{ltb, leb, eqb}
use lib.ListN.{length, get_or}
use Rattle.text.specs.Utf8.{well_formed}
use Rattle.image.specs.Bytes.{be32}
use Rattle.image.specs.Kinds.{TREE, TEXT}
use Rattle.image.specs.Limits.{MAX_COMMENTS, MAX_RECORDS_DEEP}
use Rattle.image.specs.Grammar.{is_optional, bare, place, after, complete, row_under_of, kind_fits_of, has_byte, top_byte}
use Rattle.image.specs.Read.{Read, got, bad, bind}
use Rattle.image.specs.Write.{Plain}
use Rattle.steps.specs.Steps.{Step, comment_step, open_step, text_step, payload_step, absent_step, close_step}
use Rattle.steps.specs.Steps.{COMMENT_STEP, OPEN_STEP, TEXT_STEP, PAYLOAD_STEP, ABSENT_STEP, CLOSE_STEP}
use Rattle.steps.specs.Writer.{whole, step_from, pair_by, comments_from, opened_by, opened_from, text_by}
use Rattle.steps.specs.Writer.{byte_by, payload_from, at_child, children_from, record_from, contents_from}

-- taken, or refused with 16
abbrev Sixteen : {A : Type 0} → Read A → Type 0
Sixteen (got a n) = Unit
Sixteen (bad n p) = n ≡ 16

pick : {A : Type 0} (t : Bool) (x y : Read A) → Sixteen x → Sixteen y → Sixteen (cond t x y)
pick true x y p q = p
pick false x y p q = q

then : {A B : Type 0} (r : Read A) (k : A → ℕ → Read B) → Sixteen r → ((a : A) (n : ℕ) → Sixteen (k a n)) → Sixteen (bind r k)
then (got a n) k p q = q a n
then (bad n m) k p q = p

-- ---- a step
whole_sixteen : (l : List ℕ) (at n : ℕ) (x : Step) → Sixteen (whole l at n x)
whole_sixteen l at n x = pick (leb (at + n) (length l)) _ _ tt refl

step_sixteen : (l : List ℕ) (at : ℕ) → Sixteen (step_from l at)
unfolding step_from
step_sixteen l at =
    let k = get_or l at 0 in
    pick (eqb k COMMENT_STEP) _ _ (whole_sixteen l at 9 _)
    (pick (eqb k OPEN_STEP) _ _ (whole_sixteen l at 10 _)
    (pick (eqb k TEXT_STEP) _ _ (whole_sixteen l at (7 + be32 l (at + 3)) _)
    (pick (eqb k PAYLOAD_STEP) _ _ (whole_sixteen l at 2 _)
    (pick (eqb k ABSENT_STEP) _ _ (whole_sixteen l at 1 _)
    (pick (eqb k CLOSE_STEP) _ _ (whole_sixteen l at 1 _) refl)))))

-- ---- comments
pair_sixteen : (least at : ℕ) (x : Step) (past : ℕ) → Sixteen (pair_by least at x past)
pair_sixteen least at (comment_step start end) past = pick (leb least start && ltb start end) _ _ tt refl
pair_sixteen least at (open_step kind start end) past = refl
pair_sixteen least at (text_step width t) past = refl
pair_sixteen least at (payload_step x) past = refl
pair_sixteen least at absent_step past = refl
pair_sixteen least at close_step past = refl

comments_sixteen : (l : List ℕ) (n least at : ℕ) → Sixteen (comments_from l n least at)
unfolding comments_from
comments_sixteen l zero least at = pick (eqb (get_or l at 0) COMMENT_STEP) _ _ refl tt
comments_sixteen l (suc n) least at =
    pick (eqb (get_or l at 0) COMMENT_STEP) _ _
    (then (bind (step_from l at) (pair_by least at)) _ (then (step_from l at) (pair_by least at) (step_sixteen l at) (pair_sixteen least at))
    (λ c past. then (comments_from l n c.end past) _ (comments_sixteen l n c.end past) (λ cs end. tt)))
    tt

-- ---- records
opened_sixteen : (p at : ℕ) (x : Step) (past : ℕ) → Sixteen (opened_by p at x past)
opened_sixteen p at (open_step kind from to) past = pick (kind_fits_of p kind && leb from to) _ _ tt refl
opened_sixteen p at (comment_step start end) past = refl
opened_sixteen p at (text_step width t) past = refl
opened_sixteen p at (payload_step x) past = refl
opened_sixteen p at absent_step past = refl
opened_sixteen p at close_step past = refl

text_sixteen : (at : ℕ) (x : Step) (past : ℕ) → Sixteen (text_by at x past)
text_sixteen at (text_step width t) past = pick (well_formed t) _ _ tt refl
text_sixteen at (comment_step start end) past = refl
text_sixteen at (open_step kind start end) past = refl
text_sixteen at (payload_step x) past = refl
text_sixteen at absent_step past = refl
text_sixteen at close_step past = refl

byte_sixteen : (at top : ℕ) (x : Step) (past : ℕ) → Sixteen (byte_by at top x past)
byte_sixteen at top (payload_step x) past = pick (leb x top) _ _ tt refl
byte_sixteen at top (comment_step start end) past = refl
byte_sixteen at top (open_step kind start end) past = refl
byte_sixteen at top (text_step width t) past = refl
byte_sixteen at top absent_step past = refl
byte_sixteen at top close_step past = refl

payload_sixteen : (l : List ℕ) (p kind at : ℕ) → Sixteen (payload_from l p kind at)
unfolding payload_from
payload_sixteen l p kind at =
    pick (eqb kind TEXT) _ _ (then (step_from l at) (text_by at) (step_sixteen l at) (text_sixteen at))
    (pick (has_byte kind) _ _ (then (step_from l at) (byte_by at (top_byte p kind)) (step_sixteen l at) (byte_sixteen at (top_byte p kind))) tt)

child_sixteen : {A : Type 0} (closed absent opened wrong : Read A) (x : Step) → Sixteen closed → Sixteen absent → Sixteen opened → Sixteen wrong
    → Sixteen (at_child closed absent opened wrong x)
child_sixteen closed absent opened wrong close_step p q r s = p
child_sixteen closed absent opened wrong absent_step p q r s = q
child_sixteen closed absent opened wrong (open_step kind start end) p q r s = r
child_sixteen closed absent opened wrong (comment_step start end) p q r s = s
child_sixteen closed absent opened wrong (text_step width t) p q r s = s
child_sixteen closed absent opened wrong (payload_step x) p q r s = s

children_sixteen : (one : ℕ → ℕ → Read Plain) (l : List ℕ) → ((p at : ℕ) → Sixteen (one p at)) → (n row at : ℕ) → Sixteen (children_from one l n row at)
unfolding children_from
children_sixteen one l f zero row at = refl
children_sixteen one l f (suc n) row at =
    let later = children_sixteen one l f n (after row) in
    then (step_from l at) _ (step_sixteen l at)
    (λ x past.
    child_sixteen _ _ _ _ x (pick (complete row) _ _ tt refl)
    (pick (is_optional (place row)) _ _ (then (children_from one l n (after row) past) _ (later past) (λ ys end. tt)) refl)
    (pick (eqb row 0) _ _ refl
    (then (one (bare (place row)) at) _ (f (bare (place row)) at)
    (λ y behind. then (children_from one l n (after row) behind) _ (later behind) (λ ys end. tt))))
    refl)

record_sixteen : (l : List ℕ) (left p at : ℕ) → Sixteen (record_from l left p at)
unfolding record_from opened_from
record_sixteen l zero p at = refl
record_sixteen l (suc left) p at =
    then (opened_from l p at) _ (then (step_from l at) (opened_by p at) (step_sixteen l at) (opened_sixteen p at))
    (λ h past.
    then (payload_from l p h.kind past) _ (payload_sixteen l p h.kind past)
    (λ x first.
    then (children_from (record_from l left) l (suc (length l)) (row_under_of p h.kind) first) _
    (children_sixteen (record_from l left) l (record_sixteen l left) (suc (length l)) (row_under_of p h.kind) first)
    (λ ys end. tt)))

-- ---- the whole
contents_sixteen : (l : List ℕ) → Sixteen (contents_from l)
unfolding contents_from
contents_sixteen l =
    then (comments_from l MAX_COMMENTS 0 0) _ (comments_sixteen l MAX_COMMENTS 0 0)
    (λ cs at.
    then (record_from l MAX_RECORDS_DEEP TREE at) _ (record_sixteen l MAX_RECORDS_DEEP TREE at)
    (λ t end. pick (ltb end (length l)) _ _ refl tt))

pub steps_number : (l : List ℕ) (n p : ℕ) → contents_from l ≡ bad n p → n ≡ 16
steps_number l n p e = rw e at (contents_sixteen l)
