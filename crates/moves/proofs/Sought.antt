-- Where no text is found in a tree as it was read, none is found in what it says; what is stored in two bytes is below 65,536; and how long an
-- image without widths is.
-- Assumes nothing.
use mathlib.Core.Path.{◌≡◌, refl, ap}
use mathlib.Core.Bool.{Bool, true, false, cond, not, ◌&&◌}
use mathlib.Core.List.{List, [], ◌∷◌, ◌++◌}
use Prim.Native.Nat.{ℕ, zero, suc, ◌+◌, ◌-◌, ◌≤◌}
use native.Mathlib.Omega.{arith}
use lib.Dec.{eqb}
use lib.ListN.{length, take, drop, length-append, length-drop}
use lib.Seq.{get_or-drop}
use borrow.Author.Tests.{eqb-true, le-ltb}
use Rattle.laws.proofs.Booleans.{and_left, and_right}
use Rattle.image.specs.Bytes.{be16, part}
use Rattle.image.specs.Kinds.{TREE, TEXT}
use Rattle.image.specs.Read.{Tree, Trees, absent, node, nil, ◌▸◌}
use Rattle.image.specs.Write.{Plain, Plains, without, plainly, done, ◌next◌, Bytes, written, writtens, plain, plains}
use Rattle.moves.specs.Moves.{due_width, narrower, dropped, dropped_all, texts_where, all_where, is_wrong, is_wide}
use Rattle.moves.proofs.Trees.{clean, clean_all}

-- ---- none is found
pub nothing_left : {A : Type 0} (xs ys : List A) → xs ++ ys ≡ [] → (xs ≡ []) × (ys ≡ [])
nothing_left [] ys e = (refl, e)
nothing_left (x ∷ xs) ys e = let z : ◌≡◌ {A = ℕ} 1 0 = ap (λ l. count l) e in absurd (omega arith)
  where
    count : {A : Type 0} → List A → ℕ
    count [] = 0
    count (x ∷ xs) = 1

none_here : (t : Bool) (at : ℕ) → cond t (at ∷ []) [] ≡ [] → not t ≡ true
none_here true at e = let z : ◌≡◌ {A = ℕ} 1 0 = ap (λ (l : List ℕ). length l) e in absurd (omega arith)
none_here false at e = refl

found_none : (t : Bool) (at : ℕ) → not t ≡ true → cond t (at ∷ []) [] ≡ []
found_none false at e = refl
found_none true at e = cc

mutual
  unfolding texts_where plain clean

  pub none_clean : (test : Bool → List ℕ → Bool) (b : List ℕ) (u : Bool) (t : Tree) → texts_where test b u t ≡ [] → clean test u (plain b t) ≡ true
  none_clean test b u absent e = refl
  none_clean test b u (node h ts) e =
      let here = eqb h.kind TEXT && test u (part (h.at + 13) h.first b) in
      let w = nothing_left (cond here (h.at ∷ []) []) (all_where test b (eqb h.kind TREE) ts) e in
      rw (none_here here h.at w.0, all_clean test b (eqb h.kind TREE) ts w.1)

  all_clean : (test : Bool → List ℕ → Bool) (b : List ℕ) (u : Bool) (ts : Trees) → all_where test b u ts ≡ [] → clean_all test u (plains b ts) ≡ true
  all_clean test b u nil e = refl
  all_clean test b u (t ▸ ts) e =
      let w = nothing_left (texts_where test b u t) (all_where test b false ts) e in
      rw (none_clean test b u t w.0, all_clean test b false ts w.1)

mutual
  unfolding texts_where plain clean

  pub clean_none : (test : Bool → List ℕ → Bool) (b : List ℕ) (u : Bool) (t : Tree) → clean test u (plain b t) ≡ true → texts_where test b u t ≡ []
  clean_none test b u absent e = refl
  clean_none test b u (node h ts) e =
      let here = eqb h.kind TEXT && test u (part (h.at + 13) h.first b) in
      let own = found_none here h.at (and_left (not here) (clean_all test (eqb h.kind TREE) (plains b ts)) e) in
      rw (own, clean_all_none test b (eqb h.kind TREE) ts (and_right (not here) _ e))

  clean_all_none : (test : Bool → List ℕ → Bool) (b : List ℕ) (u : Bool) (ts : Trees) → clean_all test u (plains b ts) ≡ true
      → all_where test b u ts ≡ []
  clean_all_none test b u nil e = refl
  clean_all_none test b u (t ▸ ts) e =
      rw (
        clean_none test b u t (and_left (clean test u (plain b t)) (clean_all test false (plains b ts)) e),
        clean_all_none test b false ts (and_right (clean test u (plain b t)) _ e),
      )

-- ---- bytes
part_bytes : (b : List ℕ) (x y : ℕ) → Bytes b → Bytes (part x y b)
part_bytes b x y small = taken (y - x) (drop x b) (λ i. rw (get_or-drop x b i 0) (small (x + i)))
  where
    taken : (n : ℕ) (l : List ℕ) → Bytes l → Bytes (take n l)
    taken zero l h i = omega arith
    taken (suc n) [] h i = omega arith
    taken (suc n) (c ∷ l) h zero = h zero
    taken (suc n) (c ∷ l) h (suc i) = taken n l (λ j. h (suc j)) i

low : (x : List ℕ) → Bytes x → be16 x 0 ≤ 65535
unfolding be16
low x h = let p = h 0 in let q = h 1 in omega arith

-- a width that is the one due is not too wide
not_wide : (u : Bool) (k : ℕ) (x : List ℕ) → Bytes x → not (eqb k TEXT && is_wrong u x) ≡ true → not (eqb k TEXT && is_wide u (narrower k x)) ≡ true
not_wide u k x small h = go (eqb k TEXT) refl h
  where
    go : (t : Bool) → eqb k TEXT ≡ t → not (t && is_wrong u x) ≡ true → not (t && is_wide u (cond t (drop 2 x) x)) ≡ true
    go false e h = refl
    go true e h = to (eqb (be16 x 0) (due_width u (drop 2 x))) refl h
      where
        to : (s : Bool) → eqb (be16 x 0) (due_width u (drop 2 x)) ≡ s → not (not s) ≡ true → not (is_wide u (drop 2 x)) ≡ true
        to true f g =
            let same = eqb-true (be16 x 0) (due_width u (drop 2 x)) f in
            rw (le-ltb 65535 (due_width u (drop 2 x)) (omega (arith, same, low x small)))
        to false f g = cc

mutual
  unfolding plain clean dropped

  pub clean_wide : (b : List ℕ) → Bytes b → (u : Bool) (t : Tree) → clean is_wrong u (plain b t) ≡ true → clean is_wide u (dropped (plain b t)) ≡ true
  clean_wide b small u absent e = refl
  clean_wide b small u (node h ts) e =
      let x = part (h.at + 13) h.first b in
      let own = not_wide u h.kind x (part_bytes b (h.at + 13) h.first small) (and_left _ (clean_all is_wrong (eqb h.kind TREE) (plains b ts)) e) in
      rw (own, clean_all_wide b small (eqb h.kind TREE) ts (and_right (not (eqb h.kind TEXT && is_wrong u x)) _ e))

  clean_all_wide : (b : List ℕ) → Bytes b → (u : Bool) (ts : Trees) → clean_all is_wrong u (plains b ts) ≡ true
      → clean_all is_wide u (dropped_all (plains b ts)) ≡ true
  clean_all_wide b small u nil e = refl
  clean_all_wide b small u (t ▸ ts) e =
      rw (
        clean_wide b small u t (and_left (clean is_wrong u (plain b t)) (clean_all is_wrong false (plains b ts)) e),
        clean_all_wide b small false ts (and_right (clean is_wrong u (plain b t)) _ e),
      )

-- ---- sizes
narrower_size : (k : ℕ) (x : List ℕ) → length (narrower k x) ≤ length x
narrower_size k x = go (eqb k TEXT)
  where
    go : (t : Bool) → length (cond t (drop 2 x) x) ≤ length x
    go true = omega (arith, length-drop 2 x)
    go false = omega arith

mutual
  unfolding written dropped

  pub dropped_size : (x : Plain) → length (written (dropped x)) ≤ length (written x)
  dropped_size without = omega arith
  dropped_size (plainly k f t x xs) =
      let p = narrower_size k x in
      let q = dropped_all_size xs in
      let m = length-append (narrower k x) (writtens (dropped_all xs)) in
      let n = length-append x (writtens xs) in
      omega (arith, m, n)

  dropped_all_size : (xs : Plains) → length (writtens (dropped_all xs)) ≤ length (writtens xs)
  dropped_all_size done = omega arith
  dropped_all_size (x next xs) =
      let p = dropped_size x in
      let q = dropped_all_size xs in
      rw (length-append (written (dropped x)) (writtens (dropped_all xs)), length-append (written x) (writtens xs)) (omega arith)
