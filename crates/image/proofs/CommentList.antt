-- What the reading of the comment list says, one comment at a time, and of each comment of an accepted list.
-- Assumes nothing.
use mathlib.Core.Path.{◌≡◌, refl}
use mathlib.Core.List.{List}
use mathlib.Core.Bool.{Bool, true, false, cond, ◌&&◌}
use Prim.Native.Nat.{ℕ, zero, suc, ◌+◌, ◌*◌, ◌-◌, ◌≤◌, ◌<◌}
use native.Mathlib.Omega.{arith}
use native.Mathlib.Numerals.{sub-one}
use native.Mathlib.Nat.{not-suc-le-zero}
use lib.ListN.{length}
use lib.Dec.{leb, ltb}
use borrow.Author.Tests.{leb-true, ltb-true}
use Rattle.text.specs.Newlines.{is_range}
use Rattle.laws.proofs.Booleans.{and_left, and_right}
use Rattle.refusals.specs.Answers.{accepted}
use Rattle.image.specs.Bytes.{be16, be32}
use Rattle.image.specs.Read.{got, bad, comment_fits, comments_from, comments, step_of}

-- where the comment after the one at `at` may start at the earliest
abbrev pub least_after : Bool → List ℕ → ℕ → ℕ
least_after ordered b at = cond ordered (be32 b (at + 4)) 0

pub from_on : (o : Bool) (s b : List ℕ) (n least at : ℕ) → 0 < n → comment_fits s b least at ≡ true
    → comments_from o s b n least at ≡ comments_from o s b (n - 1) (least_after o b at) (at + 8)
unfolding comments_from
from_on o s b zero least at h e = absurd (not-suc-le-zero h)
from_on o s b (suc n) least at h e = rw (e, sub-one)

pub from_off : (o : Bool) (s b : List ℕ) (n least at : ℕ) → 0 < n → comment_fits s b least at ≡ false → comments_from o s b n least at ≡ bad 7 at
unfolding comments_from
from_off o s b zero least at h e = absurd (not-suc-le-zero h)
from_off o s b (suc n) least at h e = rw e

pub from_end : (o : Bool) (s b : List ℕ) (n least at : ℕ) → n ≡ 0 → comments_from o s b n least at ≡ got tt at
unfolding comments_from
from_end o s b n least at e = rw e

-- ---- an accepted list
-- the pair at `at` is a comment of the source
pub record Comment (s b : List ℕ) (at : ℕ) : Type 0 where
  pub order : be32 b at < be32 b (at + 4)
  pub range : is_range s (be32 b at) (be32 b (at + 4)) ≡ true

fits_comment : (s b : List ℕ) (least at : ℕ) → comment_fits s b least at ≡ true → Comment s b at
unfolding comment_fits
fits_comment s b least at e =
    let t₁ = leb least (be32 b at) in
    let t₂ = ltb (be32 b at) (be32 b (at + 4)) in
    let t₃ = is_range s (be32 b at) (be32 b (at + 4)) in
    record { order = ltb-true (be32 b at) (be32 b (at + 4)) (and_right t₁ t₂ (and_left (t₁ && t₂) t₃ e)); range = and_right (t₁ && t₂) t₃ e }

-- n comments from `at` on were read, up to q
pub record Listed (s b : List ℕ) (n at q : ℕ) : Type 0 where
  pub stop : q ≡ at + 8 * n
  pub each : (i : ℕ) → i < n → Comment s b (at + 8 * i)

listed_from : (o : Bool) (s b : List ℕ) (n least at q : ℕ) → step_of (comments_from o s b n least at) ≡ accepted q → Listed s b n at q
unfolding comments_from
listed_from o s b zero least at q e =
    let same : at ≡ q = cc in
    record { stop = omega arith; each = λ i h. absurd (not-suc-le-zero h) }
listed_from o s b (suc n) least at q e = go (comment_fits s b least at) refl e (listed_from o s b n (least_after o b at) (at + 8) q)
  where
    each_of : Comment s b at → Listed s b n (at + 8) q → (i : ℕ) → i < suc n → Comment s b (at + 8 * i)
    each_of c l zero h = let e : at ≡ at + 8 * 0 = omega arith in rw e at c
    each_of c l (suc i) h = let e : at + 8 + 8 * i ≡ at + 8 * suc i = omega arith in rw e at (l.each i (omega arith))

    go : (t : Bool) → comment_fits s b least at ≡ t → step_of (cond t (comments_from o s b n (least_after o b at) (at + 8)) (bad 7 at)) ≡ accepted q
        → (step_of (comments_from o s b n (least_after o b at) (at + 8)) ≡ accepted q → Listed s b n (at + 8) q) → Listed s b (suc n) at q
    go true c e more =
        let l = more e in
        record { stop = omega (arith, l.stop); each = each_of (fits_comment s b least at c) l }
    go false c e more = let z : ◌≡◌ {A = ℕ} 0 1 = cc in absurd (omega arith)

-- the comment list of an accepted image: 8,192 at most, each a comment; the tree is due at q, in the image
pub record Comments (s b : List ℕ) (q : ℕ) : Type 0 where
  pub few : be16 b 5 ≤ 8192
  pub within : 7 + 8 * be16 b 5 ≤ length b
  pub list : Listed s b (be16 b 5) 7 q

pub listed : (o : Bool) (s b : List ℕ) (q : ℕ) → step_of (comments o s b) ≡ accepted q → Comments s b q
unfolding comments
listed o s b q e = go (leb 7 (length b)) (leb (be16 b 5) 8192) refl (leb (7 + 8 * be16 b 5) (length b)) refl e
  where
    go : (x y : Bool) → leb (be16 b 5) 8192 ≡ y → (z : Bool) → leb (7 + 8 * be16 b 5) (length b) ≡ z
        → step_of (cond (x && y && z) (comments_from o s b (be16 b 5) 0 7) (bad 7 5)) ≡ accepted q → Comments s b q
    go true true f true g e =
        record { few = leb-true (be16 b 5) 8192 f; within = leb-true (7 + 8 * be16 b 5) (length b) g; list = listed_from o s b (be16 b 5) 0 7 q e }
    go true true f false g e = let z : ◌≡◌ {A = ℕ} 0 1 = cc in absurd (omega arith)
    go true false f z g e = let z : ◌≡◌ {A = ℕ} 0 1 = cc in absurd (omega arith)
    go false y f z g e = let z : ◌≡◌ {A = ℕ} 0 1 = cc in absurd (omega arith)
