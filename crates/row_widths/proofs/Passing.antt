-- Passes over rows: going on from here gives the whole, and rows to come are as they were.
-- Assumes nothing.
use mathlib.Core.Path.{◌≡◌, refl, ap, ap₂, sym, ◌∙◌}
use Prim.Native.Nat.{ℕ, suc, ◌+◌, ◌*◌, ◌-◌, ◌≤◌, ◌<◌}
use native.Mathlib.Omega.{arith}
use native.Mathlib.Numerals.{add-one}
use mathlib.Core.Bool.{Bool, true, false, cond, ◌&&◌}
use mathlib.Core.List.{List}
use lib.ListN.{length, get_or, set, length-set}
use lib.Seq.{get_or-set_other}
use lib.Dec.{eqb}
use Rattle.laws.proofs.Numbers.{one_more}
use Rattle.rows.specs.Kinds.{STR, ASCII}
use Rattle.rows.specs.Places.{KIND, NUMBER, WIDTH, PLACES}
use Rattle.rows.specs.Node.{Text}
use Rattle.rows.specs.View.{cell}
use Rattle.renderer_rules.specs.Page.{row_text}
use Rattle.row_widths.specs.Passes.{TURNED, pass, pass_back, row_summed, row_turned, row_back}

none_left : (stop row : ℕ) → stop ≤ row → stop - row ≡ 0
none_left stop row h = omega arith

pub pass_some : (step : List ℕ → ℕ → List ℕ) (n : ℕ) (s : List ℕ) (i : ℕ) → pass step (suc n) s i ≡ pass step n (step s i) (suc i)
unfolding pass
pass_some step n s i = refl

pub pass_none : (step : List ℕ → ℕ → List ℕ) (n : ℕ) (s : List ℕ) (i : ℕ) → n ≡ 0 → pass step n s i ≡ s
unfolding pass
pass_none step n s i e = rw e

pub back_some : (step : List ℕ → ℕ → List ℕ) (n : ℕ) (s : List ℕ) (i : ℕ) → pass_back step (suc n) s i ≡ step (pass_back step n s (suc i)) i
unfolding pass_back
back_some step n s i = refl

back_none : (step : List ℕ → ℕ → List ℕ) (n : ℕ) (s : List ℕ) (i : ℕ) → n ≡ 0 → pass_back step n s i ≡ s
unfolding pass_back
back_none step n s i e = rw e

-- ---- a step changes its own row alone
pub record Local (step : List ℕ → ℕ → List ℕ) : Type 0 where
  pub size : (s : List ℕ) (i : ℕ) → length (step s i) ≡ length s
  pub before : (s : List ℕ) (i k : ℕ) → k < i * PLACES → get_or (step s i) k 0 ≡ get_or s k 0
  pub behind : (s : List ℕ) (i k : ℕ) → i * PLACES + WIDTH < k → get_or (step s i) k 0 ≡ get_or s k 0

-- three stores to a row
unfoldable pub three : List ℕ → ℕ → ℕ → ℕ → ℕ → List ℕ
three s i a b c = set (set (set s (i * PLACES + KIND) a) (i * PLACES + NUMBER) b) (i * PLACES + WIDTH) c

pub three_size : (s : List ℕ) (i a b c : ℕ) → length (three s i a b c) ≡ length s
unfolding three
three_size s i a b c =
    length-set (set (set s (i * PLACES + KIND) a) (i * PLACES + NUMBER) b) (i * PLACES + WIDTH) c
    ∙ length-set (set s (i * PLACES + KIND) a) (i * PLACES + NUMBER) b
    ∙ length-set s (i * PLACES + KIND) a

pub three_other : (s : List ℕ) (i a b c k : ℕ) → (k ≡ i * PLACES + KIND → ⊥) → (k ≡ i * PLACES + NUMBER → ⊥) → (k ≡ i * PLACES + WIDTH → ⊥)
    → get_or (three s i a b c) k 0 ≡ get_or s k 0
unfolding three
three_other s i a b c k x y z =
    get_or-set_other (set (set s (i * PLACES + KIND) a) (i * PLACES + NUMBER) b) (i * PLACES + WIDTH) k c 0 z
    ∙ get_or-set_other (set s (i * PLACES + KIND) a) (i * PLACES + NUMBER) k b 0 y
    ∙ get_or-set_other s (i * PLACES + KIND) k a 0 x

pub summed_local : (f : ℕ → Text → ℕ) → Local (row_summed f)
unfolding row_summed
summed_local f = record {
  size = λ s i. sized s i (eqb (cell s i KIND) STR);
  before = λ s i k h. same s i k (λ q. omega arith) (eqb (cell s i KIND) STR);
  behind = λ s i k h. same s i k (λ q. omega arith) (eqb (cell s i KIND) STR);
}
  where
    sized : (s : List ℕ) (i : ℕ) (t : Bool) → length (cond t (set s (i * PLACES + WIDTH) (f (cell s i WIDTH) (row_text s i))) s) ≡ length s
    sized s i true = length-set s (i * PLACES + WIDTH) (f (cell s i WIDTH) (row_text s i))
    sized s i false = refl

    same : (s : List ℕ) (i k : ℕ) → (k ≡ i * PLACES + WIDTH → ⊥) → (t : Bool)
        → get_or (cond t (set s (i * PLACES + WIDTH) (f (cell s i WIDTH) (row_text s i))) s) k 0 ≡ get_or s k 0
    same s i k n true = get_or-set_other s (i * PLACES + WIDTH) k (f (cell s i WIDTH) (row_text s i)) 0 n
    same s i k n false = refl

three_sized : (s : List ℕ) (i a b c : ℕ) (t : Bool) → length (cond t (three s i a b c) s) ≡ length s
three_sized s i a b c true = three_size s i a b c
three_sized s i a b c false = refl

three_same : (s : List ℕ) (i a b c k : ℕ) → (k ≡ i * PLACES + KIND → ⊥) → (k ≡ i * PLACES + NUMBER → ⊥) → (k ≡ i * PLACES + WIDTH → ⊥) → (t : Bool)
    → get_or (cond t (three s i a b c) s) k 0 ≡ get_or s k 0
three_same s i a b c k x y z true = three_other s i a b c k x y z
three_same s i a b c k x y z false = refl

pub turned_local : (f : Text → ℕ) → Local (row_turned f)
unfolding row_turned three
turned_local f = record {
  size = λ s i. three_sized s i STR TURNED (f (row_text s i)) (eqb (cell s i KIND) ASCII);
  before = λ s i k h. same s i k (λ q. omega arith) (λ q. omega arith) (λ q. omega arith);
  behind = λ s i k h. same s i k (λ q. omega arith) (λ q. omega arith) (λ q. omega arith);
}
  where
    same : (s : List ℕ) (i k : ℕ) → (k ≡ i * PLACES + KIND → ⊥) → (k ≡ i * PLACES + NUMBER → ⊥) → (k ≡ i * PLACES + WIDTH → ⊥)
        → get_or (row_turned f s i) k 0 ≡ get_or s k 0
    same s i k x y z = three_same s i STR TURNED (f (row_text s i)) k x y z (eqb (cell s i KIND) ASCII)

pub back_size : (s : List ℕ) (i : ℕ) → length (row_back s i) ≡ length s
unfolding row_back three
back_size s i = three_sized s i ASCII 0 0 (eqb (cell s i KIND) STR && eqb (cell s i NUMBER) TURNED)

-- ---- the loop of a pass
pub record Passing (step : List ℕ → ℕ → List ℕ) (s0 : List ℕ) (from to : ℕ) (s : List ℕ) (row : ℕ) : Type 0 where
  pub low : from ≤ row
  pub size : length s ≡ length s0
  pub later : (k : ℕ) → row * PLACES ≤ k → get_or s k 0 ≡ get_or s0 k 0
  pub whole : pass step (to - row) s row ≡ pass step (to - from) s0 from

pub passing_start : (step : List ℕ → ℕ → List ℕ) (s : List ℕ) (from to : ℕ) → Passing step s from to s from
passing_start step s from to = record { low = omega arith; size = refl; later = λ k h. refl; whole = refl }

pub passing_more : (step : List ℕ → ℕ → List ℕ) → Local step → (s0 : List ℕ) (from to : ℕ) (s : List ℕ) (row : ℕ) (s2 : List ℕ)
    → Passing step s0 from to s row
    → row < to
    → s2 ≡ step s row
    → Passing step s0 from to s2 (row + 1)
passing_more step l s0 from to s row s2 c h e =
    record {
      low = omega (arith, c.low);
      size = ap length e ∙ l.size s row ∙ c.size;
      later = λ k m. ap (λ (x : List ℕ). get_or x k 0) e ∙ l.behind s row k (omega arith) ∙ c.later k (omega arith);
      whole =
          ap₂ (λ (x : List ℕ) (k : ℕ). pass step (to - (row + 1)) x k) e (add-one row)
          ∙ sym (pass_some step (to - (row + 1)) s row)
          ∙ ap (λ (n : ℕ). pass step n s row) (sym (one_more to row h))
          ∙ c.whole;
    }

pub passing_end : (step : List ℕ → ℕ → List ℕ) (s0 : List ℕ) (from to : ℕ) (s : List ℕ) (row : ℕ) → Passing step s0 from to s row → to ≤ row
    → s ≡ pass step (to - from) s0 from
passing_end step s0 from to s row c h = sym (pass_none step (to - row) s row (none_left to row h)) ∙ c.whole

-- ---- the loop of a pass from the last row to the first
pub record Backing (step : List ℕ → ℕ → List ℕ) (s0 : List ℕ) (from to : ℕ) (s : List ℕ) (row : ℕ) : Type 0 where
  pub low : from ≤ row
  pub high : row ≤ to
  pub size : length s ≡ length s0
  pub done : s ≡ pass_back step (to - row) s0 row

pub backing_start : (step : List ℕ → ℕ → List ℕ) (s : List ℕ) (from to : ℕ) → from ≤ to → Backing step s from to s to
backing_start step s from to h =
    record { low = h; high = omega arith; size = refl; done = sym (back_none step (to - to) s to (none_left to to (omega arith))) }

pub backing_more : (step : List ℕ → ℕ → List ℕ) → ((s : List ℕ) (i : ℕ) → length (step s i) ≡ length s)
    → (s0 : List ℕ) (from to : ℕ) (s : List ℕ) (row : ℕ) (s2 : List ℕ)
    → Backing step s0 from to s row
    → from < row
    → s2 ≡ step s (row - 1)
    → Backing step s0 from to s2 (row - 1)
backing_more step l s0 from to s row s2 c h e =
    record {
      low = omega arith;
      high = omega (arith, c.high);
      size = ap length e ∙ l s (row - 1) ∙ c.size;
      done =
          e
          ∙ ap (λ (x : List ℕ). step x (row - 1)) (c.done ∙ ap (pass_back step (to - row) s0) (up row from h))
          ∙ sym (back_some step (to - row) s0 (row - 1))
          ∙ ap (λ (n : ℕ). pass_back step n s0 (row - 1)) (longer to row from h c.high);
    }
  where
    up : (row from : ℕ) → from < row → row ≡ suc (row - 1)
    up row from h = omega arith

    longer : (to row from : ℕ) → from < row → row ≤ to → suc (to - row) ≡ to - (row - 1)
    longer to row from h r = omega arith

pub backing_end : (step : List ℕ → ℕ → List ℕ) (s0 : List ℕ) (from to : ℕ) (s : List ℕ) (row : ℕ) → Backing step s0 from to s row → row ≤ from
    → s ≡ pass_back step (to - from) s0 from
backing_end step s0 from to s row c h =
    let same : row ≡ from = omega (arith, c.low) in
    c.done ∙ ap (λ (k : ℕ). pass_back step (to - k) s0 k) same
