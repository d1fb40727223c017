-- Bytes put into an output in another order than they stand in.
-- Assumes nothing.
use mathlib.Core.Path.{◌≡◌, refl, sym, ap, ◌∙◌}
use mathlib.Core.List.{List, [], ◌∷◌, ◌++◌, append_assoc}
use mathlib.Core.Logic.{◌⊎◌, inl, inr}
use Prim.Native.Nat.{ℕ, suc, min, ◌+◌, ◌-◌, ◌/◌, ◌%◌, ◌≤◌, ◌<◌}
use native.Mathlib.Omega.{arith}
use native.Mathlib.Numerals.{add-one}
use lib.ListN.{length, get_or, set, take, drop, length-set, length-drop, take-append-drop, drop_of_length-le}
use mathlib.Core.Bool.{Bool, true, false}
use lib.Dec.{leb}
use borrow.Author.Tests.{leb-true, leb-false}
use borrow.Rule.Slice.PartMut.{put_mid}
use lib.Seq.{sets, set_comm, set_out, sets-eq, drop-cons, drop-drop, length-sets, length-take-le}
use Rattle.laws.proofs.Stores.{sets_append}
use Rattle.std.specs.Int.{w16, w32, to_be_bytes}
use Rattle.image.specs.Write.{bytes4, bytes2}

-- a store above the run
set_above : (vs s : List ℕ) (i j v : ℕ) → j + length vs ≤ i → sets (set s i v) j vs ≡ set (sets s j vs) i v
set_above [] s i j v h = refl
set_above (w ∷ vs) s i j v h =
    ap (λ (l : List ℕ). sets l (suc j) vs) (set_comm s i j v w (omega arith)) ∙ set_above vs (set s j w) i (suc j) v (omega arith)

-- a run above the run
sets_above : (vs ws s : List ℕ) (i j : ℕ) → j + length vs ≤ i → sets (sets s i ws) j vs ≡ sets (sets s j vs) i ws
sets_above vs [] s i j h = refl
sets_above vs (w ∷ ws) s i j h =
    sets_above vs ws (set s i w) (suc i) j (omega arith) ∙ ap (λ (l : List ℕ). sets l (suc i) ws) (set_above vs s i j w h)

-- what stands first is put last
pub sets_before : (vs ws s : List ℕ) (i k : ℕ) → k ≡ i + length vs → sets (sets s k ws) i vs ≡ sets s i (vs ++ ws)
sets_before vs ws s i k e =
    sets_above vs ws s k i (omega arith) ∙ ap (λ (n : ℕ). sets (sets s i vs) n ws) e ∙ sym (sets_append vs ws s i)

-- what stands behind is put next
pub sets_behind : (vs ws s : List ℕ) (i k : ℕ) → k ≡ i + length vs → sets (sets s i vs) k ws ≡ sets s i (vs ++ ws)
sets_behind vs ws s i k e = ap (λ (n : ℕ). sets (sets s i vs) n ws) e ∙ sym (sets_append vs ws s i)

-- past the end nothing changes, and only what has room does
pub sets_out : (vs s : List ℕ) (i : ℕ) → length s ≤ i → sets s i vs ≡ s
sets_out [] s i h = refl
sets_out (v ∷ vs) s i h = ap (λ (u : List ℕ). sets u (suc i) vs) (set_out s i v h) ∙ sets_out vs s (suc i) (omega arith)

pub sets_room : (vs s : List ℕ) (i n : ℕ) → i ≤ length s → n ≡ min (length vs) (length s - i) → sets s i (take n vs) ≡ sets s i vs
sets_room vs s i n h e =
    let long = length-take-le n vs (omega (arith, e)) in
    let all = take-append-drop n vs in
    let rest : length (drop n vs) ≡ length vs - n = length-drop n vs in
    sym (ap (sets s i) (sym all) ∙ sets_append (take n vs) (drop n vs) s i ∙ past (drop n vs) (sets s i (take n vs)) (i + length (take n vs))
    (more (length vs) (length s) n i (length (drop n vs)) (length (sets s i (take n vs))) (length (take n vs)) h e rest (length-sets s i (take n vs)) long))
  where
    past : (ws u : List ℕ) (k : ℕ) → (length ws ≡ 0) ⊎ (length u ≤ k) → sets u k ws ≡ u
    past [] u k h = refl
    past (w ∷ ws) u k (inl z) = absurd (omega arith)
    past (w ∷ ws) u k (inr h) = sets_out (w ∷ ws) u k h

    more : (v s n i d u t : ℕ) → i ≤ s → n ≡ min v (s - i) → d ≡ v - n → u ≡ s → t ≡ n → (d ≡ 0) ⊎ (u ≤ i + t)
    more v s n i d u t h e f g k = go (leb (s - i) v) refl
      where
        go : (b : Bool) → leb (s - i) v ≡ b → (d ≡ 0) ⊎ (u ≤ i + t)
        go true w = let l = leb-true (s - i) v w in inr (omega arith)
        go false w = let l = leb-false (s - i) v w in inl (omega arith)

-- a part that is written over by one call, as far as there is room
pub part_sets : (vs s : List ℕ) (i n : ℕ) → i ≤ length s → n ≡ min (length vs) (length s - i)
    → put_mid i (i + n - i) s (take n vs) ≡ sets s i vs
part_sets vs s i n h e =
    let k : i + n - i ≡ n = omega arith in
    let long = length-take-le n vs (omega (arith, e)) in
    ap (λ (m : ℕ). put_mid i m s (take n vs)) k
    ∙ ap (λ (r : List ℕ). take i s ++ (take n vs ++ r)) (drop-drop n i s ∙ ap (λ (m : ℕ). drop (i + m) s) (sym long))
    ∙ sym (append_assoc (take i s) (take n vs) _)
    ∙ sym (sets-eq (take n vs) s i (omega (arith, e, long)))
    ∙ sets_room vs s i n h e

-- Bytes that are set one by one: going on from here sets them all.
pub record Setting (out0 : List ℕ) (pos : ℕ) (t out : List ℕ) (k : ℕ) : Type 0 where
  pub high : k ≤ length t
  pub size : length out ≡ length out0
  pub whole : sets out (pos + k) (drop k t) ≡ sets out0 pos t

pub setting_none : (out : List ℕ) (pos : ℕ) (t : List ℕ) → Setting out pos t out 0
setting_none out pos t = record { high = omega arith; size = refl; whole = ap (λ (a : ℕ). sets out a t) (zero_off pos) }
  where
    zero_off : (at : ℕ) → at + 0 ≡ at
    zero_off at = omega arith

pub setting_one : (out0 : List ℕ) (pos : ℕ) (t out : List ℕ) (k b : ℕ) → Setting out0 pos t out k → k < length t → b ≡ get_or t k 0
    → Setting out0 pos t (set out (pos + k) b) (k + 1)
setting_one out0 pos t out k b s h q =
    let next : b ∷ drop (k + 1) t ≡ drop k t = rw (q, add-one k) (sym (drop-cons t k 0 h)) in
    record {
      high = omega arith;
      size = length-set out (pos + k) b ∙ s.size;
      whole = ap (λ (a : ℕ). sets (set out (pos + k) b) a (drop (k + 1) t)) (along pos k) ∙ ap (λ (u : List ℕ). sets out (pos + k) u) next ∙ s.whole;
    }
  where
    along : (at k : ℕ) → at + (k + 1) ≡ suc (at + k)
    along at k = omega arith

pub setting_all : (out0 : List ℕ) (pos : ℕ) (t out : List ℕ) (k : ℕ) → Setting out0 pos t out k → length t ≤ k → out ≡ sets out0 pos t
setting_all out0 pos t out k s h = ap (sets out (pos + k)) (sym (drop_of_length-le t h)) ∙ s.whole

-- the four bytes of a number, as std gives them
pub four_bytes : (n : ℕ) → n < 4294967296 → to_be_bytes w32 n ≡ bytes4 n
four_bytes n small =
    let top : n / 16777216 % 256 ≡ n / 16777216 = omega arith in
    ap (λ (b : ℕ). b ∷ (n / 65536 % 256) ∷ (n / 256 % 256) ∷ (n % 256) ∷ []) top

pub two_bytes : (n : ℕ) → n < 65536 → to_be_bytes w16 n ≡ bytes2 n
two_bytes n small =
    let top : n / 256 % 256 ≡ n / 256 = omega arith in
    ap (λ (b : ℕ). b ∷ (n % 256) ∷ []) top
