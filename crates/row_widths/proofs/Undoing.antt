-- Rows turned and turned back are as they were.
-- Assumes nothing.
use mathlib.Core.Path.{◌≡◌, refl, ap, sym, ◌∙◌}
use Prim.Native.Nat.{ℕ, zero, suc, ◌+◌, ◌*◌, ◌≤◌, ◌<◌}
use native.Mathlib.Omega.{arith}
use mathlib.Core.Bool.{Bool, true, false, cond, ◌&&◌}
use mathlib.Core.List.{List}
use lib.ListN.{length, get_or, set, length-set}
use lib.Seq.{get_or-set_same, get_or-set_other, ext_get_or}
use lib.Dec.{eqb}
use borrow.Author.Tests.{eqb-true, eqb-false, ne_eqb}
use Rattle.rows.specs.Kinds.{STR, ASCII}
use Rattle.rows.specs.Places.{KIND, NUMBER, WIDTH, PLACES}
use Rattle.rows.specs.Node.{Text}
use Rattle.rows.specs.View.{cell}
use Rattle.renderer_rules.specs.Page.{row_text}
use Rattle.row_widths.specs.Passes.{TURNED, pass, pass_back, row_turned, row_back, Unturned, TurnedBack}
use Rattle.row_widths.proofs.Passing.{three, three_size, three_other, turned_local}

-- ---- the three places of a row that was stored to
module _ (s : List ℕ) (i a b c : ℕ) (h : i * PLACES + WIDTH < length s) where
  abbrev one : List ℕ
  one = set s (i * PLACES + KIND) a

  abbrev two : List ℕ
  two = set one (i * PLACES + NUMBER) b

  l1 : length one ≡ length s
  l1 = length-set s (i * PLACES + KIND) a

  l2 : length two ≡ length s
  l2 = length-set one (i * PLACES + NUMBER) b ∙ l1

  pub three_width : get_or (three s i a b c) (i * PLACES + WIDTH) 0 ≡ c
  unfolding three
  three_width = get_or-set_same two (i * PLACES + WIDTH) c 0 (omega (arith, l2))

  pub three_number : get_or (three s i a b c) (i * PLACES + NUMBER) 0 ≡ b
  unfolding three
  three_number =
      get_or-set_other two (i * PLACES + WIDTH) (i * PLACES + NUMBER) c 0 (λ q. omega arith)
      ∙ get_or-set_same one (i * PLACES + NUMBER) b 0 (omega (arith, l1))

  pub three_kind : get_or (three s i a b c) (i * PLACES + KIND) 0 ≡ a
  unfolding three
  three_kind =
      get_or-set_other two (i * PLACES + WIDTH) (i * PLACES + KIND) c 0 (λ q. omega arith)
      ∙ get_or-set_other one (i * PLACES + NUMBER) (i * PLACES + KIND) b 0 (λ q. omega arith)
      ∙ get_or-set_same s (i * PLACES + KIND) a 0 (omega arith)

-- what the three places held, stored again
three_again : (s : List ℕ) (i a b c x y z : ℕ) → i * PLACES + WIDTH < length s → cell s i KIND ≡ x → cell s i NUMBER ≡ y → cell s i WIDTH ≡ z
    → three (three s i a b c) i x y z ≡ s
three_again s i a b c x y z h p q r =
    ext_get_or 0 (three t i x y z) s (lt ∙ ls) (λ j m.
    at j (eqb j (i * PLACES + KIND)) refl (eqb j (i * PLACES + NUMBER)) refl (eqb j (i * PLACES + WIDTH)) refl)
  where
    t : List ℕ
    t = three s i a b c

    ls : length (three s i a b c) ≡ length s
    ls = three_size s i a b c

    lt : length (three (three s i a b c) i x y z) ≡ length (three s i a b c)
    lt = three_size (three s i a b c) i x y z

    still : i * PLACES + WIDTH < length (three s i a b c)
    still = omega (arith, ls)

    at : (j : ℕ) (k : Bool) → eqb j (i * PLACES + KIND) ≡ k → (n : Bool) → eqb j (i * PLACES + NUMBER) ≡ n → (w : Bool) → eqb j (i * PLACES + WIDTH) ≡ w
        → get_or (three (three s i a b c) i x y z) j 0 ≡ get_or s j 0
    at j true e n f w g =
        let m = eqb-true j (i * PLACES + KIND) e in
        rw m (three_kind (three s i a b c) i x y z still ∙ sym p)
    at j false e true f w g =
        let m = eqb-true j (i * PLACES + NUMBER) f in
        rw m (three_number (three s i a b c) i x y z still ∙ sym q)
    at j false e false f true g =
        let m = eqb-true j (i * PLACES + WIDTH) g in
        rw m (three_width (three s i a b c) i x y z still ∙ sym r)
    at j false e false f false g =
        let k = eqb-false j (i * PLACES + KIND) e in
        let n = eqb-false j (i * PLACES + NUMBER) f in
        let w = eqb-false j (i * PLACES + WIDTH) g in
        three_other (three s i a b c) i x y z j k n w ∙ three_other s i a b c j k n w

-- ---- one row
pub turned_is : (f : Text → ℕ) (s : List ℕ) (i : ℕ) → cell s i KIND ≡ ASCII → row_turned f s i ≡ three s i STR TURNED (f (row_text s i))
unfolding row_turned three
turned_is f s i e = rw e

pub turned_not : (f : Text → ℕ) (s : List ℕ) (i : ℕ) → (cell s i KIND ≡ ASCII → ⊥) → row_turned f s i ≡ s
unfolding row_turned
turned_not f s i n = rw (ne_eqb (cell s i KIND) ASCII n)

back_is : (s : List ℕ) (i : ℕ) → cell s i KIND ≡ STR → cell s i NUMBER ≡ TURNED → row_back s i ≡ three s i ASCII 0 0
unfolding row_back three
back_is s i e n = rw (e, n)

back_not : (s : List ℕ) (i : ℕ) → (cell s i KIND ≡ STR → cell s i NUMBER ≡ 0) → row_back s i ≡ s
unfolding row_back
back_not s i n = go (eqb (cell s i KIND) STR) refl
  where
    go : (x : Bool) → eqb (cell s i KIND) STR ≡ x
        → cond (x && eqb (cell s i NUMBER) TURNED) (set (set (set s (i * PLACES + KIND) ASCII) (i * PLACES + NUMBER) 0) (i * PLACES + WIDTH) 0) s ≡ s
    go true e = rw (n (eqb-true (cell s i KIND) STR e))
    go false e = refl

turned_row_back : (f : Text → ℕ) (s : List ℕ) (i : ℕ) → i * PLACES + WIDTH < length s → (cell s i KIND ≡ ASCII → cell s i NUMBER ≡ 0)
    → (cell s i KIND ≡ ASCII → cell s i WIDTH ≡ 0)
    → (cell s i KIND ≡ STR → cell s i NUMBER ≡ 0)
    → row_back (row_turned f s i) i ≡ s
turned_row_back f s i h a b c = go (eqb (cell s i KIND) ASCII) refl
  where
    go : (x : Bool) → eqb (cell s i KIND) ASCII ≡ x → row_back (row_turned f s i) i ≡ s
    go true e =
        let k = eqb-true (cell s i KIND) ASCII e in
        let w = f (row_text s i) in
        ap (λ (t : List ℕ). row_back t i) (turned_is f s i k)
        ∙ back_is (three s i STR TURNED w) i (three_kind s i STR TURNED w h) (three_number s i STR TURNED w h)
        ∙ three_again s i STR TURNED w ASCII 0 0 h k (a k) (b k)
    go false e = ap (λ (t : List ℕ). row_back t i) (turned_not f s i (eqb-false (cell s i KIND) ASCII e)) ∙ back_not s i c

-- ---- all rows: the last turned is the first turned back
still_unturned : (f : Text → ℕ) (s : List ℕ) (i n : ℕ) → Unturned s i (i + suc n) → Unturned (row_turned f s i) (suc i) (suc i + n)
still_unturned f s i n u =
    record {
      number = λ k l m e. same k NUMBER l (omega arith) ∙ u.number k (omega arith) (omega arith) (sym (same k KIND l (omega arith)) ∙ e);
      width = λ k l m e. same k WIDTH l (omega arith) ∙ u.width k (omega arith) (omega arith) (sym (same k KIND l (omega arith)) ∙ e);
      unmarked = λ k l m e. same k NUMBER l (omega arith) ∙ u.unmarked k (omega arith) (omega arith) (sym (same k KIND l (omega arith)) ∙ e);
    }
  where
    same : (k p : ℕ) → suc i ≤ k → p < PLACES → cell (row_turned f s i) k p ≡ cell s k p
    same k p l q = (turned_local f).behind s i (k * PLACES + p) (omega arith)

pub turned_back : TurnedBack
unfolding pass pass_back
turned_back f s i zero h u = refl
turned_back f s i (suc n) h u =
    let here : i < i + suc n = omega arith in
    ap (λ (t : List ℕ). row_back t i)
    (turned_back f (row_turned f s i) (suc i) n (let l = (turned_local f).size s i in omega arith) (still_unturned f s i n u))
    ∙ turned_row_back f s i (omega arith) (u.number i (omega arith) here) (u.width i (omega arith) here) (u.unmarked i (omega arith) here)
