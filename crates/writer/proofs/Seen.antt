-- The step at an offset, by the kind that stands there.
-- Assumes nothing.
use mathlib.Core.Path.{◌≡◌, refl, sym, ap, ◌∙◌}
use mathlib.Core.Bool.{Bool, true, false, cond, ◌&&◌}
use Rattle.std.specs.Prelude.{Option, None, Some}
use mathlib.Core.List.{List}
use Prim.Native.Nat.{ℕ, suc, ◌+◌, ◌≤◌, ◌<◌}
use native.Mathlib.Omega.{arith}
use lib.Dec.{leb, eqb}
use lib.ListN.{length, get_or}
use borrow.Author.Tests.{le-leb, lt-leb, leb-true, leb-false, eqb-true, eqb-false, eq-eqb, ne_eqb}
use Rattle.laws.proofs.Booleans.{both, and_false, clash}
use Rattle.image.specs.Bytes.{be16, be32, part}
use Rattle.image.specs.Grammar.{is_optional, bare, place, after, complete, kind_fits_of}
use Rattle.image.specs.Read.{Read, got, bad, bind}
use Rattle.image.specs.Write.{Plain, Plains, without, done, ◌next◌}
use Rattle.steps.specs.Steps.{Step, comment_step, open_step, text_step, payload_step, absent_step, close_step}
use Rattle.steps.specs.Writer.{step_from, whole, Opened, opened_by, opened_from, text_by, byte_by, at_child, children_from}
use Rattle.writer.specs.Steps.{stands, taken, child_from}

-- ---- what stands at an offset
pub stood : (l : List ℕ) (at k n : ℕ) → stands l at k n ≡ true → (at + n ≤ length l) × (get_or l at 0 ≡ k)
unfolding stands
stood l at k n e =
    let w = both (leb (at + n) (length l)) (eqb (get_or l at 0) k) e in
    (leb-true (at + n) (length l) w.0, eqb-true (get_or l at 0) k w.1)

-- so many bytes are left
pub room_for : (l : List ℕ) (at k n : ℕ) → stands l at k n ≡ true → at + n ≤ length l
room_for l at k n e = (stood l at k n e).0

pub is_standing : (l : List ℕ) (at k n : ℕ) → at + n ≤ length l → get_or l at 0 ≡ k → stands l at k n ≡ true
unfolding stands
is_standing l at k n h e = rw (le-leb (at + n) (length l) h) (eq-eqb (get_or l at 0) k e)

pub not_short : (l : List ℕ) (at k n : ℕ) → length l < at + n → stands l at k n ≡ false
unfolding stands
not_short l at k n h = rw (lt-leb (at + n) (length l) h)

pub not_there : (l : List ℕ) (at k n : ℕ) → (get_or l at 0 ≡ k → ⊥) → stands l at k n ≡ false
unfolding stands
not_there l at k n h = rw (ne_eqb (get_or l at 0) k h) (and_false (leb (at + n) (length l)))

-- how many bytes the step of kind k has
abbrev pub bytes_of : List ℕ → ℕ → ℕ → ℕ
bytes_of l at k =
    cond (eqb k 1) 9 (cond (eqb k 2) 10 (cond (eqb k 3) (7 + be32 l (at + 3)) (cond (eqb k 4) 2 1)))

abbrev pub text_at : List ℕ → ℕ → Step
text_at l at = text_step (be16 l (at + 1)) (part (at + 7) (at + 7 + be32 l (at + 3)) l)

pub data Seen (l : List ℕ) (at : ℕ) : Read Step → Type 0 where
  comment : stands l at 1 9 ≡ true → Seen l at (got (comment_step (be32 l (at + 1)) (be32 l (at + 5))) (at + 9))
  opened : stands l at 2 10 ≡ true → Seen l at (got (open_step (get_or l (at + 1) 0) (be32 l (at + 2)) (be32 l (at + 6))) (at + 10))
  text : stands l at 3 (7 + be32 l (at + 3)) ≡ true → Seen l at (got (text_at l at) (at + (7 + be32 l (at + 3))))
  payload : stands l at 4 2 ≡ true → Seen l at (got (payload_step (get_or l (at + 1) 0)) (at + 2))
  absent : stands l at 5 1 ≡ true → Seen l at (got absent_step (at + 1))
  close : stands l at 6 1 ≡ true → Seen l at (got close_step (at + 1))
  wrong : ((k : ℕ) → 1 ≤ k → k ≤ 6 → stands l at k (bytes_of l at k) ≡ false) → Seen l at (bad 16 at)

either : {A : Type 0} (P : A → Type 0) (t : Bool) (x y : A) → (t ≡ true → P x) → (t ≡ false → P y) → P (cond t x y)
either P true x y f g = f refl
either P false x y f g = g refl

-- a step that is cut off is none
cut : (l : List ℕ) (at j : ℕ) → get_or l at 0 ≡ j → length l < at + bytes_of l at j → (k : ℕ) → stands l at k (bytes_of l at k) ≡ false
cut l at j e h k = go (eqb k j) refl
  where
    go : (t : Bool) → eqb k j ≡ t → stands l at k (bytes_of l at k) ≡ false
    go true q =
        let same : k ≡ j = eqb-true k j q in
        rw same (not_short l at j (bytes_of l at j) h)
    go false q = not_there l at k (bytes_of l at k) (λ w. eqb-false k j q (sym w ∙ e))

module _ (l : List ℕ) (at : ℕ) where
  one_of : (j : ℕ) (x : Step) (n : ℕ) → n ≡ bytes_of l at j → eqb (get_or l at 0) j ≡ true
      → (stands l at j n ≡ true → Seen l at (got x (at + n)))
      → Seen l at (whole l at n x)
  one_of j x n m e f =
      either (Seen l at) (leb (at + n) (length l)) (got x (at + n)) (bad 16 at)
      (λ w. f (is_standing l at j n (leb-true (at + n) (length l) w) (eqb-true (get_or l at 0) j e)))
      (λ w. wrong (λ k a b. cut l at j (eqb-true (get_or l at 0) j e) (omega (arith, leb-false (at + n) (length l) w)) k))

  pub seen : Seen l at (step_from l at)
  unfolding step_from
  seen =
      let k = get_or l at 0 in
      either (Seen l at) (eqb k 1) _ _ (λ e. one_of 1 _ 9 refl e comment)
      (λ n1. either (Seen l at) (eqb k 2) _ _ (λ e. one_of 2 _ 10 refl e opened)
      (λ n2. either (Seen l at) (eqb k 3) _ _ (λ e. one_of 3 _ (7 + be32 l (at + 3)) refl e text)
      (λ n3. either (Seen l at) (eqb k 4) _ _ (λ e. one_of 4 _ 2 refl e payload)
      (λ n4. either (Seen l at) (eqb k 5) _ _ (λ e. one_of 5 _ 1 refl e absent)
      (λ n5. either (Seen l at) (eqb k 6) _ _ (λ e. one_of 6 _ 1 refl e close)
      (λ n6. wrong
      (λ j a b. not_there l at j (bytes_of l at j)
      (λ w. absurd (omega (arith, eqb-false k 1 n1, eqb-false k 2 n2, eqb-false k 3 n3, eqb-false k 4 n4, eqb-false k 5 n5, eqb-false k 6 n6))))))))))

-- ---- a step that stands
module _ (l : List ℕ) (at : ℕ) where
  pub open_step_lem : stands l at 2 10 ≡ true → step_from l at ≡ got (open_step (get_or l (at + 1) 0) (be32 l (at + 2)) (be32 l (at + 6))) (at + 10)
  unfolding step_from
  open_step_lem e = let w = stood l at 2 10 e in rw (w.1, le-leb (at + 10) (length l) w.0)

  pub text_step_lem : stands l at 3 (7 + be32 l (at + 3)) ≡ true → step_from l at ≡ got (text_at l at) (at + (7 + be32 l (at + 3)))
  unfolding step_from
  text_step_lem e =
      let w = stood l at 3 (7 + be32 l (at + 3)) e in
      rw (w.1, le-leb (at + (7 + be32 l (at + 3))) (length l) w.0)

  pub payload_step_lem : stands l at 4 2 ≡ true → step_from l at ≡ got (payload_step (get_or l (at + 1) 0)) (at + 2)
  unfolding step_from
  payload_step_lem e = let w = stood l at 4 2 e in rw (w.1, le-leb (at + 2) (length l) w.0)

  pub absent_step_lem : stands l at 5 1 ≡ true → step_from l at ≡ got absent_step (at + 1)
  unfolding step_from
  absent_step_lem e = let w = stood l at 5 1 e in rw (w.1, le-leb (at + 1) (length l) w.0)

  pub close_step_lem : stands l at 6 1 ≡ true → step_from l at ≡ got close_step (at + 1)
  unfolding step_from
  close_step_lem e = let w = stood l at 6 1 e in rw (w.1, le-leb (at + 1) (length l) w.0)

-- ---- a record's open step
abbrev pub opened_at : List ℕ → ℕ → Opened
opened_at l at = record { kind = get_or l (at + 1) 0; from = be32 l (at + 2); to = be32 l (at + 6) }

module _ (l : List ℕ) (p at : ℕ) where
  pub opened_not : stands l at 2 10 ≡ false → opened_from l p at ≡ bad 16 at
  unfolding opened_from
  opened_not e = go (step_from l at) (seen l at)
    where
      go : (r : Read Step) → Seen l at r → bind r (opened_by p at) ≡ bad 16 at
      go _ (comment w) = refl
      go _ (opened w) = absurd (clash _ w e)
      go _ (text w) = refl
      go _ (payload w) = refl
      go _ (absent w) = refl
      go _ (close w) = refl
      go _ (wrong w) = refl

  pub opened_if : stands l at 2 10 ≡ true → opened_from l p at
      ≡ cond (kind_fits_of p (get_or l (at + 1) 0) && leb (be32 l (at + 2)) (be32 l (at + 6))) (got (opened_at l at) (at + 10)) (bad 16 at)
  unfolding opened_from
  opened_if e = rw (open_step_lem l at e)

  opened_taken : stands l at 2 10 ≡ true
      → taken (opened_from l p at) ≡ (kind_fits_of p (get_or l (at + 1) 0) && leb (be32 l (at + 2)) (be32 l (at + 6)))
  opened_taken e = ap taken (opened_if e) ∙ go (kind_fits_of p (get_or l (at + 1) 0) && leb (be32 l (at + 2)) (be32 l (at + 6)))
    where
      go : (t : Bool) → taken (cond t (got (opened_at l at) (at + 10)) (bad 16 at)) ≡ t
      go true = refl
      go false = refl

  pub opened_kind : stands l at 2 10 ≡ true → kind_fits_of p (get_or l (at + 1) 0) ≡ false → false ≡ taken (opened_from l p at)
  opened_kind e k = sym (opened_taken e ∙ ap (λ (t : Bool). t && leb (be32 l (at + 2)) (be32 l (at + 6))) k)

  pub opened_span : stands l at 2 10 ≡ true → kind_fits_of p (get_or l (at + 1) 0) ≡ true
      → leb (be32 l (at + 2)) (be32 l (at + 6)) ≡ taken (opened_from l p at)
  opened_span e k = sym (opened_taken e ∙ ap (λ (t : Bool). t && leb (be32 l (at + 2)) (be32 l (at + 6))) k)

  -- an open step that is taken, and one that is not
  pub was_opened : taken (opened_from l p at) ≡ true → (stands l at 2 10 ≡ true) × (opened_from l p at ≡ got (opened_at l at) (at + 10))
  was_opened e = go (stands l at 2 10) refl
    where
      go : (t : Bool) → stands l at 2 10 ≡ t → (stands l at 2 10 ≡ true) × (opened_from l p at ≡ got (opened_at l at) (at + 10))
      go true w = (w, rw (opened_if w, sym (opened_taken w) ∙ e))
      go false w = absurd (clash _ e (ap taken (opened_not w)))

  -- and whose kind is right
  pub taken_fits : taken (opened_from l p at) ≡ true → kind_fits_of p (get_or l (at + 1) 0) ≡ true
  taken_fits e =
      (both (kind_fits_of p (get_or l (at + 1) 0)) (leb (be32 l (at + 2)) (be32 l (at + 6))) (sym (opened_taken (was_opened e).0) ∙ e)).0

  pub opened_room : taken (opened_from l p at) ≡ true → at + 10 ≤ length l
  opened_room e = (stood l at 2 10 (was_opened e).0).0

  pub not_opened : taken (opened_from l p at) ≡ false → opened_from l p at ≡ bad 16 at
  not_opened e = go (stands l at 2 10) refl
    where
      go : (t : Bool) → stands l at 2 10 ≡ t → opened_from l p at ≡ bad 16 at
      go true w = rw (opened_if w, sym (opened_taken w) ∙ e)
      go false w = opened_not w

-- ---- a payload's step
module _ (l : List ℕ) (at : ℕ) where
  pub text_not : stands l at 3 (7 + be32 l (at + 3)) ≡ false → bind (step_from l at) (text_by at) ≡ bad 16 at
  text_not e = go (step_from l at) (seen l at)
    where
      go : (r : Read Step) → Seen l at r → bind r (text_by at) ≡ bad 16 at
      go _ (comment w) = refl
      go _ (opened w) = refl
      go _ (text w) = absurd (clash _ w e)
      go _ (payload w) = refl
      go _ (absent w) = refl
      go _ (close w) = refl
      go _ (wrong w) = refl

  pub text_short : stands l at 3 7 ≡ false → stands l at 3 (7 + be32 l (at + 3)) ≡ false
  text_short e = go (stands l at 3 (7 + be32 l (at + 3))) refl
    where
      go : (t : Bool) → stands l at 3 (7 + be32 l (at + 3)) ≡ t → t ≡ false
      go true w = let s = stood l at 3 (7 + be32 l (at + 3)) w in absurd (clash _ (is_standing l at 3 7 (omega (arith, s.0)) s.1) e)
      go false w = refl

  pub byte_not : (top : ℕ) → stands l at 4 2 ≡ false → bind (step_from l at) (byte_by at top) ≡ bad 16 at
  byte_not top e = go (step_from l at) (seen l at)
    where
      go : (r : Read Step) → Seen l at r → bind r (byte_by at top) ≡ bad 16 at
      go _ (comment w) = refl
      go _ (opened w) = refl
      go _ (text w) = refl
      go _ (payload w) = absurd (clash _ w e)
      go _ (absent w) = refl
      go _ (close w) = refl
      go _ (wrong w) = refl

-- ---- a child
module _ (one : ℕ → ℕ → Read Plain) (l : List ℕ) (row at : ℕ) where
  pub child_close : stands l at 6 1 ≡ true → child_from one l row at ≡ cond (complete row) (got None (at + 1)) (bad 16 at)
  unfolding child_from
  child_close e = rw (close_step_lem l at e)

  pub child_absent : stands l at 5 1 ≡ true → child_from one l row at ≡ cond (is_optional (place row)) (got (Some without) (at + 1)) (bad 16 at)
  unfolding child_from
  child_absent e = rw (absent_step_lem l at e)

  pub child_open : stands l at 2 10 ≡ true
      → child_from one l row at ≡ cond (eqb row 0) (bad 16 at) (bind (one (bare (place row)) at) (λ y behind. got (Some y) behind))
  unfolding child_from
  child_open e = rw (open_step_lem l at e)

  pub child_not : stands l at 6 1 ≡ false → stands l at 5 1 ≡ false → stands l at 2 10 ≡ false → child_from one l row at ≡ bad 16 at
  unfolding child_from
  child_not n6 n5 n2 = go (step_from l at) (seen l at)
    where
      turn : Step → ℕ → Read (Option Plain)
      turn x past =
          at_child
          (cond (complete row) (got None past) (bad 16 at))
          (cond (is_optional (place row)) (got (Some without) past) (bad 16 at))
          (cond (eqb row 0) (bad 16 at) (bind (one (bare (place row)) at) (λ y behind. got (Some y) behind)))
          (bad 16 at)
          x

      go : (r : Read Step) → Seen l at r → bind r turn ≡ bad 16 at
      go _ (comment w) = refl
      go _ (opened w) = absurd (clash _ w n2)
      go _ (text w) = refl
      go _ (payload w) = refl
      go _ (absent w) = absurd (clash _ w n5)
      go _ (close w) = absurd (clash _ w n6)
      go _ (wrong w) = refl

  pub child_unclosed : stands l at 6 1 ≡ true → complete row ≡ false → child_from one l row at ≡ bad 16 at
  child_unclosed e f = child_close e ∙ ap (λ (t : Bool). cond t (got None (at + 1)) (bad 16 at)) f

  pub child_due : stands l at 5 1 ≡ true → is_optional (place row) ≡ false → child_from one l row at ≡ bad 16 at
  child_due e o = child_absent e ∙ ap (λ (t : Bool). cond t (got (Some without) (at + 1)) (bad 16 at)) o

  pub child_spare : stands l at 2 10 ≡ true → row ≡ 0 → child_from one l row at ≡ bad 16 at
  child_spare e z =
      child_open e
      ∙ ap (λ (t : Bool). cond t (bad 16 at) (bind (one (bare (place row)) at) (λ y behind. got (Some y) behind))) (eq-eqb row 0 z)

  -- where no place is left
  pub child_none : stands l at 6 1 ≡ false → row ≡ 0 → child_from one l row at ≡ bad 16 at
  child_none n6 z = go (stands l at 5 1) refl
    where
      there : (t : Bool) → stands l at 2 10 ≡ t → stands l at 5 1 ≡ false → child_from one l row at ≡ bad 16 at
      there true s n5 = child_spare s z
      there false s n5 = child_not n6 n5 s

      go : (t : Bool) → stands l at 5 1 ≡ t → child_from one l row at ≡ bad 16 at
      go true s = child_due s (ap (λ (r : ℕ). is_optional (place r)) z)
      go false s = there (stands l at 2 10) refl s

  pub child_there : stands l at 2 10 ≡ true → ¬ (row ≡ 0)
      → child_from one l row at ≡ bind (one (bare (place row)) at) (λ y behind. got (Some y) behind)
  child_there e z =
      child_open e
      ∙ ap (λ (t : Bool). cond t (bad 16 at) (bind (one (bare (place row)) at) (λ y behind. got (Some y) behind))) (ne_eqb row 0 z)

-- one turn after the other
abbrev pub next_turn : (ℕ → ℕ → Read Plain) → List ℕ → ℕ → ℕ → Option Plain → ℕ → Read Plains
next_turn one l n row None past = got done past
next_turn one l n row (Some y) past = bind (children_from one l n (after row) past) (λ ys end. got (y next ys) end)

pub children_turn : (one : ℕ → ℕ → Read Plain) (l : List ℕ) (n row at : ℕ)
    → children_from one l (suc n) row at ≡ bind (child_from one l row at) (next_turn one l n row)
unfolding children_from child_from
children_turn one l n row at = go (step_from l at)
  where
    cut_short : {A B : Type 0} (t : Bool) (x : Read A) (m q : ℕ) (k : A → ℕ → Read B) → bind (cond t x (bad m q)) k ≡ cond t (bind x k) (bad m q)
    cut_short true x m q k = refl
    cut_short false x m q k = refl

    cut_first : {A B : Type 0} (t : Bool) (x : Read A) (m q : ℕ) (k : A → ℕ → Read B) → bind (cond t (bad m q) x) k ≡ cond t (bad m q) (bind x k)
    cut_first true x m q k = refl
    cut_first false x m q k = refl

    through : (r : Read Plain)
        → bind (bind r (λ y behind. got (Some y) behind)) (next_turn one l n row)
        ≡ bind r (λ y behind. bind (children_from one l n (after row) behind) (λ ys end. got (y next ys) end))
    through (got y q) = refl
    through (bad m q) = refl

    go : (r : Read Step)
        → bind r
        (λ x past.
        at_child
        (cond (complete row) (got done past) (bad 16 at))
        (cond (is_optional (place row)) (bind (children_from one l n (after row) past) (λ ys end. got (without next ys) end)) (bad 16 at))
        (cond (eqb row 0) (bad 16 at)
        (bind (one (bare (place row)) at) (λ y behind. bind (children_from one l n (after row) behind) (λ ys end. got (y next ys) end))))
        (bad 16 at)
        x)
        ≡ bind
        (bind r
        (λ x past.
        at_child
        (cond (complete row) (got None past) (bad 16 at))
        (cond (is_optional (place row)) (got (Some without) past) (bad 16 at))
        (cond (eqb row 0) (bad 16 at) (bind (one (bare (place row)) at) (λ y behind. got (Some y) behind)))
        (bad 16 at)
        x))
        (next_turn one l n row)
    go (bad m q) = refl
    go (got (comment_step a b) past) = refl
    go (got (text_step a b) past) = refl
    go (got (payload_step a) past) = refl
    go (got close_step past) = sym (cut_short (complete row) (got None past) 16 at (next_turn one l n row))
    go (got absent_step past) = sym (cut_short (is_optional (place row)) (got (Some without) past) 16 at (next_turn one l n row))
    go (got (open_step a b c) past) =
        sym
        (cut_first (eqb row 0) (bind (one (bare (place row)) at) (λ y behind. got (Some y) behind)) 16 at (next_turn one l n row)
        ∙ ap (λ (z : Read Plains). cond (eqb row 0) (bad 16 at) z) (through (one (bare (place row)) at)))
