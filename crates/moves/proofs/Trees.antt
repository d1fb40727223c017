-- What the moves do to a tree: what fits in one version fits in the other, spans stay, and one move undoes the other.
-- Assumes nothing.
use mathlib.Core.Path.{◌≡◌, refl, sym, ap, ap₂, ◌∙◌}
use mathlib.Core.Bool.{Bool, true, false, cond, not, ◌&&◌}
use mathlib.Core.List.{List, [], ◌++◌}
use Prim.Native.Nat.{ℕ, ◌+◌, ◌*◌, ◌/◌, ◌%◌}
use native.Mathlib.Omega.{arith}
use lib.Dec.{eqb}
use lib.ListN.{drop}
use borrow.Author.Tests.{eqb-true, eq-eqb}
use Rattle.laws.proofs.Booleans.{and_left, and_right}
use Rattle.text.specs.Newlines.{is_range}
use Rattle.image.specs.Bytes.{be16}
use Rattle.image.specs.Kinds.{TREE, TEXT}
use Rattle.image.specs.Write.{Plain, Plains, without, plainly, done, ◌next◌, bytes2}
use Rattle.tree.proofs.Fits.{Front, two, none, Pays, text, byte, nothing, Fits, fits, FitsRow, ends, gone, here, ranges, ranges_all}
use Rattle.moves.specs.Moves.{due_width, narrower, dropped, dropped_all, wider, widened, widened_all, is_wrong}

-- ---- a width in two bytes
digits : (n : ℕ) → n / 256 * 256 + n % 256 ≡ n
digits n = omega arith

width_read : (n : ℕ) (t : List ℕ) → be16 (bytes2 n ++ t) 0 ≡ n
unfolding be16
width_read n t = digits n

-- ---- spans
mutual
  unfolding ranges dropped

  pub ranges_dropped : (s : List ℕ) (x : Plain) → ranges s (dropped x) ≡ ranges s x
  ranges_dropped s without = refl
  ranges_dropped s (plainly k f t x xs) = ap (λ (b : Bool). is_range s f t && b) (ranges_all_dropped s xs)

  pub ranges_all_dropped : (s : List ℕ) (xs : Plains) → ranges_all s (dropped_all xs) ≡ ranges_all s xs
  ranges_all_dropped s done = refl
  ranges_all_dropped s (x next xs) = ap₂ (λ (a b : Bool). a && b) (ranges_dropped s x) (ranges_all_dropped s xs)

mutual
  unfolding ranges widened

  pub ranges_widened : (s : List ℕ) (u : Bool) (x : Plain) → ranges s (widened u x) ≡ ranges s x
  ranges_widened s u without = refl
  ranges_widened s u (plainly k f t x xs) = ap (λ (b : Bool). is_range s f t && b) (ranges_all_widened s (eqb k TREE) xs)

  pub ranges_all_widened : (s : List ℕ) (u : Bool) (xs : Plains) → ranges_all s (widened_all u xs) ≡ ranges_all s xs
  ranges_all_widened s u done = refl
  ranges_all_widened s u (x next xs) = ap₂ (λ (a b : Bool). a && b) (ranges_widened s u x) (ranges_all_widened s false xs)

-- ---- one after the other
narrower_wider : (u : Bool) (k : ℕ) (x : List ℕ) → narrower k (wider u k x) ≡ x
narrower_wider u k x = go (eqb k TEXT)
  where
    go : (t : Bool) → cond t (drop 2 (cond t (bytes2 (due_width u x) ++ x) x)) (cond t (bytes2 (due_width u x) ++ x) x) ≡ x
    go true = refl
    go false = refl

mutual
  unfolding dropped widened

  pub dropped_widened : (u : Bool) (x : Plain) → dropped (widened u x) ≡ x
  dropped_widened u without = refl
  dropped_widened u (plainly k f t x xs) =
      ap₂ (λ (y : List ℕ) (ys : Plains). plainly k f t y ys) (narrower_wider u k x) (dropped_all_widened (eqb k TREE) xs)

  dropped_all_widened : (u : Bool) (xs : Plains) → dropped_all (widened_all u xs) ≡ xs
  dropped_all_widened u done = refl
  dropped_all_widened u (x next xs) = ap₂ (λ (y : Plain) (ys : Plains). y next ys) (dropped_widened u x) (dropped_all_widened false xs)

-- a test that holds of no text
unfoldable mutual
  pub clean : (Bool → List ℕ → Bool) → Bool → Plain → Bool
  clean test u without = true
  clean test u (plainly k f t x xs) = not (eqb k TEXT && test u x) && clean_all test (eqb k TREE) xs

  pub clean_all : (Bool → List ℕ → Bool) → Bool → Plains → Bool
  clean_all test u done = true
  clean_all test u (x next xs) = clean test u x && clean_all test false xs

-- a text whose width is the one due
right_width : (u : Bool) (k : ℕ) (x : List ℕ) → eqb k TEXT ≡ true → not (eqb k TEXT && is_wrong u x) ≡ true → be16 x 0 ≡ due_width u (drop 2 x)
right_width u k x e h = go (eqb (be16 x 0) (due_width u (drop 2 x))) refl (rw e at h)
  where
    go : (t : Bool) → eqb (be16 x 0) (due_width u (drop 2 x)) ≡ t → not (not t) ≡ true → be16 x 0 ≡ due_width u (drop 2 x)
    go true f g = eqb-true (be16 x 0) (due_width u (drop 2 x)) f
    go false f g = cc

text_back : (u : Bool) (x front t : List ℕ) → Front 2 front → x ≡ front ++ t → be16 x 0 ≡ due_width u (drop 2 x)
    → bytes2 (due_width u (drop 2 x)) ++ drop 2 x ≡ x
text_back u x front t (none e is) from h = absurd (omega arith)
text_back u x front t (two n e is) from h =
    let whole : x ≡ bytes2 n ++ t = from ∙ ap (λ (y : List ℕ). y ++ t) is in
    let due : due_width u (drop 2 x) ≡ n = sym h ∙ ap (λ (y : List ℕ). be16 y 0) whole ∙ width_read n t in
    let rest : drop 2 x ≡ t = ap (drop 2) whole in
    ap₂ (λ (m : ℕ) (y : List ℕ). bytes2 m ++ y) due rest ∙ sym whole

wider_narrower : {p : ℕ} (u : Bool) (k : ℕ) (x : List ℕ) → Pays 2 p k x → not (eqb k TEXT && is_wrong u x) ≡ true → wider u k (narrower k x) ≡ x
wider_narrower u k x (text front t size e w from) h = rw e (text_back u x front t size from (right_width u k x e h))
wider_narrower u k x (byte y e b top is) h = rw e
wider_narrower u k x (nothing e b is) h = rw e

mutual
  unfolding dropped widened clean

  pub widened_dropped : {left p : ℕ} (u : Bool) {x : Plain} → Fits 2 left p x → clean is_wrong u x ≡ true → widened u (dropped x) ≡ x
  widened_dropped u (fits {kind = k} {from = f} {to = t} {x = x} {xs = xs} right order pays row) h =
      ap₂ (λ (y : List ℕ) (ys : Plains). plainly k f t y ys) (wider_narrower u k x pays (and_left _ (clean_all is_wrong (eqb k TREE) xs) h))
      (widened_all_dropped (eqb k TREE) row (and_right (not (eqb k TEXT && is_wrong u x)) _ h))

  widened_all_dropped : {left row : ℕ} (u : Bool) {xs : Plains} → FitsRow 2 left row xs → clean_all is_wrong u xs ≡ true
      → widened_all u (dropped_all xs) ≡ xs
  widened_all_dropped u (ends c) h = refl
  widened_all_dropped u (gone {xs = xs} o more) h = ap (λ (ys : Plains). without next ys) (widened_all_dropped false more h)
  widened_all_dropped u (here {x = x} {xs = xs} z y more) h =
      ap₂ (λ (y : Plain) (ys : Plains). y next ys) (widened_dropped u y (and_left _ (clean_all is_wrong false xs) h))
      (widened_all_dropped false more (and_right (clean is_wrong u x) _ h))

-- ---- what fits
pays_dropped : (p k : ℕ) (x : List ℕ) → Pays 2 p k x → Pays 0 p k (narrower k x)
pays_dropped p k x (text front t (none e is) k2 w from) = absurd (omega arith)
pays_dropped p k x (text front t (two n e is) k2 w from) =
    let rest : drop 2 x ≡ t = ap (drop 2) (from ∙ ap (λ (y : List ℕ). y ++ t) is) in
    text [] t (none refl refl) k2 w (rw k2 rest)
pays_dropped p k x (byte y e b top is) = byte y e b top (rw e is)
pays_dropped p k x (nothing e b is) = nothing e b (rw e is)

pays_widened : (p k : ℕ) (u : Bool) (x : List ℕ) → Pays 0 p k x → Pays 2 p k (wider u k x)
pays_widened p k u x (text front t (two n e is) k2 w from) = absurd (omega arith)
pays_widened p k u x (text front t (none e is) k2 w from) =
    let same : x ≡ t = from ∙ ap (λ (y : List ℕ). y ++ t) is in
    text (bytes2 (due_width u x)) t (two (due_width u x) refl refl) k2 w (rw k2 (ap (λ (y : List ℕ). bytes2 (due_width u x) ++ y) same))
pays_widened p k u x (byte y e b top is) = byte y e b top (rw e is)
pays_widened p k u x (nothing e b is) = nothing e b (rw e is)

mutual
  unfolding dropped

  pub fits_dropped : {left p : ℕ} {x : Plain} → Fits 2 left p x → Fits 0 left p (dropped x)
  fits_dropped (fits right order pays row) = fits right order (pays_dropped _ _ _ pays) (fits_all_dropped row)

  fits_all_dropped : {left row : ℕ} {xs : Plains} → FitsRow 2 left row xs → FitsRow 0 left row (dropped_all xs)
  fits_all_dropped (ends c) = ends c
  fits_all_dropped (gone o more) = gone o (fits_all_dropped more)
  fits_all_dropped (here z x more) = here z (fits_dropped x) (fits_all_dropped more)

mutual
  unfolding widened

  pub fits_widened : {left p : ℕ} (u : Bool) {x : Plain} → Fits 0 left p x → Fits 2 left p (widened u x)
  fits_widened u (fits {kind = k} right order pays row) = fits right order (pays_widened _ _ u _ pays) (fits_all_widened (eqb k TREE) row)

  fits_all_widened : {left row : ℕ} (u : Bool) {xs : Plains} → FitsRow 0 left row xs → FitsRow 2 left row (widened_all u xs)
  fits_all_widened u (ends c) = ends c
  fits_all_widened u (gone o more) = gone o (fits_all_widened false more)
  fits_all_widened u (here z x more) = here z (fits_widened u x) (fits_all_widened false more)

-- ---- 21 the other way
right_due : (u : Bool) (k : ℕ) (x : List ℕ) → not (eqb k TEXT && is_wrong u (wider u k x)) ≡ true
right_due u k x = go (eqb k TEXT) refl
  where
    go : (t : Bool) → eqb k TEXT ≡ t → not (t && is_wrong u (cond t (bytes2 (due_width u x) ++ x) x)) ≡ true
    go true e = rw (width_read (due_width u x) x, eq-eqb (due_width u x) (due_width u x) refl)
    go false e = refl

mutual
  unfolding widened clean

  pub clean_widened : (u : Bool) (x : Plain) → clean is_wrong u (widened u x) ≡ true
  clean_widened u without = refl
  clean_widened u (plainly k f t x xs) = rw (right_due u k x, clean_all_widened (eqb k TREE) xs)

  clean_all_widened : (u : Bool) (xs : Plains) → clean_all is_wrong u (widened_all u xs) ≡ true
  clean_all_widened u done = refl
  clean_all_widened u (x next xs) = rw (clean_widened u x, clean_all_widened false xs)
