-- Rows entered, and allotments: however they fall, turning up to some rows entered and then on to more is turning to these at once.
-- Assumes nothing.
use mathlib.Core.Path.{◌≡◌, refl, sym, ◌∙◌}
use Prim.Native.Nat.{ℕ, zero, suc, ◌≤◌}
use native.Mathlib.Omega.{arith}
use mathlib.Core.Bool.{Bool, true, false, cond, ◌&&◌}
use lib.Dec.{ltb, leb}
use borrow.Author.Tests.{lt-leb, leb-false}
use Rattle.rows.specs.View.{View}
use Rattle.renderer_rules.specs.Renderer.{Page}
use Rattle.renderer_rules.specs.Frames.{part_limit}
use Rattle.renderer_rules.specs.Machine.{Machine, turn}
use Rattle.renderer_rules.proofs.Machine.{Fine, left, is_done, turned, spent}

module _ (v : View) (pg : Page) (stop : ℕ) where
  -- the allotment n from m on: turns until n more rows are entered and all that they finished is closed
  unfoldable pub wants_row : Machine → Bool
  wants_row m = ltb m.next (part_limit v stop m.frames m.depth)

  unfoldable pub allot : ℕ → ℕ → Machine → Machine
  allot zero n m = m
  allot (suc f) n m = cond (is_done v pg stop m) m (cond (wants_row m && leb n m.entered) m (allot f n (turn v pg m)))

  -- enough turns are enough
  enough_step : (n : ℕ) (m : Machine) (b c : Bool) (x y : Machine) → (is_done v pg stop m ≡ b)
      → (b ≡ false → x ≡ y) → cond b m (cond c m x) ≡ cond b m (cond c m y)
  enough_step n m true c x y e h = refl
  enough_step n m false true x y e h = refl
  enough_step n m false false x y e h = h refl

  spent_done : (m : Machine) → Fine v pg stop m → left stop m ≤ 0 → is_done v pg stop m ≡ true
  spent_done m a l = spent v pg stop m a l

  stopped : (f n : ℕ) (m : Machine) → is_done v pg stop m ≡ true → allot f n m ≡ m
  unfolding allot
  stopped zero n m e = refl
  stopped (suc f) n m e = rw e

  pub allot_enough : (f g n : ℕ) (m : Machine) → Fine v pg stop m → left stop m ≤ f → left stop m ≤ g → allot f n m ≡ allot g n m
  unfolding allot
  allot_enough zero g n m a p q = sym (stopped g n m (spent_done m a p))
  allot_enough (suc f) zero n m a p q = stopped (suc f) n m (spent_done m a q)
  allot_enough (suc f) (suc g) n m a p q =
      enough_step n m (is_done v pg stop m) (wants_row m && leb n m.entered) (allot f n (turn v pg m)) (allot g n (turn v pg m)) refl
      (λ e. let t = turned v pg stop m a e in let l = t.less in allot_enough f g n (turn v pg m) t.fine (omega arith) (omega arith))

  sooner : (w : Bool) (n k s : ℕ) → n ≤ k → (w && leb n s) ≡ false → (w && leb k s) ≡ false
  sooner true n k s h e = lt-leb k s (let l = leb-false n s e in omega arith)
  sooner false n k s h e = refl

  -- one turn more, where the stop is not yet
  pub allot_turn : (f n : ℕ) (m : Machine) → Fine v pg stop m → left stop m ≤ f → is_done v pg stop m ≡ false
      → (wants_row m && leb n m.entered) ≡ false → allot f n (turn v pg m) ≡ allot f n m
  unfolding allot
  allot_turn zero n m a l e c = absurd (let z : is_done v pg stop m ≡ true = spent_done m a l in let y : ◌≡◌ {A = ℕ} 0 1 = cc in omega arith)
  allot_turn (suc f) n m a l e c =
      let t = turned v pg stop m a e in
      let s = t.less in
      allot_enough (suc f) f n (turn v pg m) t.fine (omega arith) (omega arith) ∙ rw (e, c)

  join_step : (F n k : ℕ) (m r : Machine) (b c : Bool) → n ≤ k → is_done v pg stop m ≡ b
      → (wants_row m && leb n m.entered) ≡ c → Fine v pg stop m → left stop m ≤ F
      → (b ≡ false → c ≡ false → allot F k r ≡ allot F k (turn v pg m)) → allot F k (cond b m (cond c m r)) ≡ allot F k m
  join_step F n k m r true c h e d a l rec = refl
  join_step F n k m r false true h e d a l rec = refl
  join_step F n k m r false false h e d a l rec = rec refl refl ∙ allot_turn F k m a l e (sooner (wants_row m) n k m.entered h d)
