-- Turned rows of a store are turned rows of its view, and so the nodes in which the texts are measured; they nest as before.
-- Assumes nothing.
use mathlib.Core.Path.{◌≡◌, refl, sym, ap, ap₂, ◌∙◌}
use mathlib.Core.Bool.{Bool, true, false, cond}
use mathlib.Core.List.{List}
use Prim.Native.Nat.{ℕ, zero, suc, ◌+◌, ◌*◌, ◌-◌, ◌≤◌, ◌<◌}
use native.Mathlib.Omega.{arith}
use lib.ListN.{length, get_or}
use lib.Dec.{eqb}
use borrow.Author.Tests.{eqb-true, eqb-false}
use Rattle.rows.specs.Kinds.{STR, ASCII}
use Rattle.rows.specs.Places.{KIND, NUMBER, SECOND_NUMBER, SECOND, AFTER, ORIGIN, START, SIZE, WIDTH, PLACES}
use Rattle.rows.specs.Node.{Text}
use Rattle.rows.specs.View.{cell, view_of}
use Rattle.renderer_rules.specs.Page.{row_text}
use Rattle.rows.specs.Nesting.{Nested}
use Rattle.rows.proofs.Nested.{nests_le}
use Rattle.node_widths.specs.Measured.{TurnedAt}
use Rattle.node_widths.proofs.Turned.{turned_measures}
use Rattle.node_widths.proofs.TurnedNests.{turned_nests}
use Rattle.row_widths.specs.Passes.{TURNED, pass, row_turned, TurnedRows}
use Rattle.row_widths.proofs.Passing.{three, three_other, turned_local}
use Rattle.row_widths.proofs.Undoing.{three_kind, three_width, turned_is, turned_not}

-- ---- a row of two stores that hold the same there
same_row : (f : Text → ℕ) (s s2 u : List ℕ) (i : ℕ) → ((p : ℕ) → p < PLACES → cell u i p ≡ cell s2 i p) → TurnedAt f (view_of s) (view_of s2) i
    → TurnedAt f (view_of s) (view_of u) i
unfolding view_of
same_row f s s2 u i e t =
    record {
      after = e AFTER (omega arith) ∙ t.after;
      second = e SECOND (omega arith) ∙ t.second;
      text = rw (e ORIGIN (omega arith), e START (omega arith), e SIZE (omega arith)) t.text;
      ascii_kind = λ k. e KIND (omega arith) ∙ t.ascii_kind k;
      ascii_width = λ k. rw (e KIND (omega arith), e WIDTH (omega arith)) (t.ascii_width k);
      kind = λ k. e KIND (omega arith) ∙ t.kind k;
      width = λ k. rw (e KIND (omega arith), e WIDTH (omega arith)) (t.width k);
      number = λ k. e NUMBER (omega arith) ∙ t.number k;
      number2 = λ k. e SECOND_NUMBER (omega arith) ∙ t.number2 k;
    }

same_old : (f : Text → ℕ) (s u s2 : List ℕ) (i : ℕ) → ((p : ℕ) → p < PLACES → cell s i p ≡ cell u i p) → TurnedAt f (view_of s) (view_of s2) i
    → TurnedAt f (view_of u) (view_of s2) i
unfolding view_of
same_old f s u s2 i e t =
    record {
      after = t.after ∙ e AFTER (omega arith);
      second = t.second ∙ e SECOND (omega arith);
      text = t.text ∙ texts;
      ascii_kind = λ k. t.ascii_kind (e KIND (omega arith) ∙ k);
      ascii_width = λ k. t.ascii_width (e KIND (omega arith) ∙ k) ∙ ap f texts;
      kind = λ k. t.kind (λ q. k (sym (e KIND (omega arith)) ∙ q)) ∙ e KIND (omega arith);
      width = λ k. t.width (λ q. k (sym (e KIND (omega arith)) ∙ q)) ∙ ap₂ (λ (a w : ℕ). cond (eqb a STR) w 0) (e KIND (omega arith)) (e WIDTH (omega arith));
      number = λ k. t.number (λ q. k (sym (e KIND (omega arith)) ∙ q)) ∙ e NUMBER (omega arith);
      number2 = λ k. t.number2 (λ q. k (sym (e KIND (omega arith)) ∙ q)) ∙ e SECOND_NUMBER (omega arith);
    }
  where
    texts : row_text s i ≡ row_text u i
    texts = rw (e ORIGIN (omega arith), e START (omega arith), e SIZE (omega arith))

-- ---- one row
one_turned : (f : Text → ℕ) (s : List ℕ) (i : ℕ) → i * PLACES + WIDTH < length s → TurnedAt f (view_of s) (view_of (row_turned f s i)) i
unfolding view_of
one_turned f s i h = go (eqb (cell s i KIND) ASCII) refl
  where
    go : (x : Bool) → eqb (cell s i KIND) ASCII ≡ x → TurnedAt f (view_of s) (view_of (row_turned f s i)) i
    go false e =
        let n = eqb-false (cell s i KIND) ASCII e in
        rw (turned_not f s i n)
        (record {
          after = refl;
          second = refl;
          text = refl;
          ascii_kind = λ k. absurd (n k);
          ascii_width = λ k. absurd (n k);
          kind = λ k. refl;
          width = λ k. refl;
          number = λ k. refl;
          number2 = λ k. refl;
        })
    go true e =
        let k = eqb-true (cell s i KIND) ASCII e in
        let w = f (row_text s i) in
        rw (turned_is f s i k)
        (record {
          after = other AFTER (omega arith) (omega arith);
          second = other SECOND (omega arith) (omega arith);
          text = rw (other ORIGIN (omega arith) (omega arith), other START (omega arith) (omega arith), other SIZE (omega arith) (omega arith));
          ascii_kind = λ q. three_kind s i STR TURNED w h;
          ascii_width = λ q. rw (three_kind s i STR TURNED w h, three_width s i STR TURNED w h);
          kind = λ q. absurd (q k);
          width = λ q. absurd (q k);
          number = λ q. absurd (q k);
          number2 = λ q. absurd (q k);
        })
      where
        other : (p : ℕ) → 1 < p → p < 8 → cell (three s i STR TURNED (f (row_text s i))) i p ≡ cell s i p
        other p a b = three_other s i STR TURNED (f (row_text s i)) (i * PLACES + p) (λ q. omega arith) (λ q. omega arith) (λ q. omega arith)

-- ---- all rows
earlier : (f : Text → ℕ) (n : ℕ) (s : List ℕ) (i k : ℕ) → k < i * PLACES → get_or (pass (row_turned f) n s i) k 0 ≡ get_or s k 0
unfolding pass
earlier f zero s i k h = refl
earlier f (suc n) s i k h = earlier f n (row_turned f s i) (suc i) k (omega arith) ∙ (turned_local f).before s i k h

pub rows_turned : (f : Text → ℕ) (n : ℕ) (s : List ℕ) (i k : ℕ) → (i + n) * PLACES ≤ length s → i ≤ k → k < i + n
    → TurnedAt f (view_of s) (view_of (pass (row_turned f) n s i)) k
unfolding pass
rows_turned f zero s i k h l m = absurd (omega arith)
rows_turned f (suc n) s i k h l m =
    go (λ z. rows_turned f n (row_turned f s i) (suc i) k (let y = (turned_local f).size s i in omega arith) z (omega arith)) (eqb i k) refl
  where
    go : (suc i ≤ k → TurnedAt f (view_of (row_turned f s i)) (view_of (pass (row_turned f) n (row_turned f s i) (suc i))) k) → (x : Bool) → eqb i k ≡ x
        → TurnedAt f (view_of s) (view_of (pass (row_turned f) n (row_turned f s i) (suc i))) k
    go more true e =
        let q = eqb-true i k e in
        let one = row_turned f s i in
        rw (← q)
        (same_row f s one (pass (row_turned f) n one (suc i)) i (λ p b. earlier f n one (suc i) (i * PLACES + p) (omega arith))
        (one_turned f s i (omega arith)))
    go more false e =
        let q = eqb-false i k e in
        let z : suc i ≤ k = omega (arith, q) in
        same_old f (row_turned f s i) s (pass (row_turned f) n (row_turned f s i) (suc i)) k
        (λ p b. (turned_local f).behind s i (k * PLACES + p) (omega arith))
        (more z)

pub turned_rows : TurnedRows
turned_rows f s i n h = turned_measures f (view_of s) (view_of (pass (row_turned f) n s i)) i (i + n) (λ k l m. rows_turned f n s i k h l m)

-- ---- no other place changes, in any row
row_place : (f : Text → ℕ) (s : List ℕ) (i j k : ℕ) → 1 < k → k < 8 → cell (row_turned f s i) j k ≡ cell s j k
row_place f s i j k a b = go (eqb (cell s i KIND) ASCII) refl
  where
    go : (c : Bool) → eqb (cell s i KIND) ASCII ≡ c → cell (row_turned f s i) j k ≡ cell s j k
    go true e =
        ap (λ (m : List ℕ). cell m j k) (turned_is f s i (eqb-true (cell s i KIND) ASCII e))
        ∙ three_other s i STR TURNED (f (row_text s i)) (j * PLACES + k) (λ q. omega arith) (λ q. omega arith) (λ q. omega arith)
    go false e = ap (λ (m : List ℕ). cell m j k) (turned_not f s i (eqb-false (cell s i KIND) ASCII e))

pub turned_place : (f : Text → ℕ) (n : ℕ) (s : List ℕ) (i j k : ℕ) → 1 < k → k < 8 → cell (pass (row_turned f) n s i) j k ≡ cell s j k
unfolding pass
turned_place f zero s i j k a b = refl
turned_place f (suc n) s i j k a b = turned_place f n (row_turned f s i) (suc i) j k a b ∙ row_place f s i j k a b

-- ---- they nest as before
pub turned_size : (f : Text → ℕ) (n : ℕ) (s : List ℕ) (i : ℕ) → length (pass (row_turned f) n s i) ≡ length s
unfolding pass
turned_size f zero s i = refl
turned_size f (suc n) s i = turned_size f n (row_turned f s i) (suc i) ∙ (turned_local f).size s i

pub still_nested : (f : Text → ℕ) (s : List ℕ) (from to : ℕ) → Nested s from to → Nested (pass (row_turned f) (to - from) s from) from to
still_nested f s from to x =
    let le : from ≤ to = nests_le x.nests in
    let room = x.room in
    let size = turned_size f (to - from) s from in
    record {
      room = omega arith;
      few = x.few;
      nests =
          turned_nests f (view_of s) (view_of (pass (row_turned f) (to - from) s from)) from to
          (λ k l m. rows_turned f (to - from) s from k (omega arith) l (omega arith))
          x.nests (omega arith) (omega arith);
    }
