-- Laws of writing with a limit: a text written behind another is the joined text written at once.
-- Assumes nothing.
use mathlib.Core.Path.{◌≡◌, refl, ap, ap₂, sym, ◌∙◌}
use Prim.Native.Nat.{ℕ, zero, suc, ◌+◌, ◌-◌, ◌≤◌, ◌<◌, min}
use native.Mathlib.Omega.{arith}
use native.Mathlib.Numerals.{add-one}
use mathlib.Core.Bool.{Bool, true, false, cond}
use mathlib.Core.List.{List, [], ◌∷◌, ◌++◌}
use lib.ListN.{length, get_or, set, take, drop, replicate, length-set, length-take, length-drop, length-replicate, drop_of_length-le}
use lib.Seq.{sets, set_out, drop-cons}
use borrow.Rule.Slice.PartMut.{put_mid, mid_of, mid_len}
use lib.Dec.{ltb}
use borrow.Author.Tests.{lt-ltb, le-ltb, ltb-true, ltb-false}
use Rattle.rows.proofs.Part.{part_sets}
use Rattle.rows.specs.Texts.{origin_text}
use Rattle.renderer_rules.specs.Page.{text_bytes, text_of}
use Rattle.renderer.specs.Output.{written_over}

cond_length : (b : Bool) (out : List ℕ) (at x : ℕ) → length (cond b (set out at x) out) ≡ length out
cond_length true out at x = length-set out at x
cond_length false out at x = refl

pub over_length : (limit : ℕ) (out : List ℕ) (at : ℕ) (t : List ℕ) → length (written_over limit out at t) ≡ length out
unfolding written_over
over_length limit out at [] = refl
over_length limit out at (b ∷ t) = over_length limit (cond (ltb at limit) (set out at b) out) (at + 1) t ∙ cond_length (ltb at limit) out at b

same_place : (at n : ℕ) → at + 1 + n ≡ at + suc n
same_place at n = omega arith

pub over_join : (limit : ℕ) (out : List ℕ) (at : ℕ) (s t : List ℕ)
    → written_over limit (written_over limit out at s) (at + length s) t ≡ written_over limit out at (s ++ t)
unfolding written_over
over_join limit out at [] t = ap (λ (n : ℕ). written_over limit out n t) (zero_off at)
  where
    zero_off : (at : ℕ) → at + 0 ≡ at
    zero_off at = omega arith
over_join limit out at (b ∷ s) t =
    ap (λ (n : ℕ). written_over limit (written_over limit (cond (ltb at limit) (set out at b) out) (at + 1) s) n t) (sym (same_place at (length s)))
    ∙ over_join limit (cond (ltb at limit) (set out at b) out) (at + 1) s t

emit_in : (limit : ℕ) (out : List ℕ) (at b : ℕ) → at < limit → set out at b ≡ written_over limit out at (b ∷ [])
unfolding written_over
emit_in limit out at b h = sym (rw (lt-ltb at limit h))

emit_past : (limit : ℕ) (out : List ℕ) (at b : ℕ) → limit ≤ at → out ≡ written_over limit out at (b ∷ [])
unfolding written_over
emit_past limit out at b h = sym (rw (le-ltb at limit h))

pub emitted : (out : List ℕ) (at b : ℕ) → set out at b ≡ written_over (length out) out at (b ∷ [])
emitted out at b = go (ltb at (length out)) refl
  where
    go : (t : Bool) → ltb at (length out) ≡ t → set out at b ≡ written_over (length out) out at (b ∷ [])
    go true l = emit_in (length out) out at b (ltb-true at (length out) l)
    go false l = set_out out at b (ltb-false at (length out) l) ∙ emit_past (length out) out at b (ltb-false at (length out) l)

-- past the limit nothing is written
pub over_past : (limit : ℕ) (out : List ℕ) (at : ℕ) (t : List ℕ) → limit ≤ at → written_over limit out at t ≡ out
unfolding written_over
over_past limit out at [] h = refl
over_past limit out at (b ∷ t) h = rw (le-ltb at limit h) (over_past limit out (at + 1) t (omega arith))

over_in : (limit : ℕ) (out : List ℕ) (at b : ℕ) (t : List ℕ) → at < limit
    → written_over limit out at (b ∷ t) ≡ written_over limit (set out at b) (at + 1) t
unfolding written_over
over_in limit out at b t h = rw (lt-ltb at limit h)

-- what is written is the part below the limit
over_below : (limit room : ℕ) (out : List ℕ) (at : ℕ) (t : List ℕ) (k : ℕ) → limit ≤ room → k ≡ min (length t) (limit - at)
    → written_over room out at (take k t) ≡ written_over limit out at t
unfolding written_over
over_below limit room out at [] zero r e = refl
over_below limit room out at [] (suc k) r e = refl
over_below limit room out at (b ∷ t) zero r e = sym (over_past limit out at (b ∷ t) (omega arith))
over_below limit room out at (b ∷ t) (suc k) r e =
    over_in room out at b (take k t) (omega arith)
    ∙ over_below limit room (set out at b) (at + 1) t k r (omega arith)
    ∙ sym (over_in limit out at b t (omega arith))

-- a text that has room is written byte by byte
over_sets : (out : List ℕ) (at : ℕ) (t : List ℕ) (limit : ℕ) → at + length t ≤ limit → written_over limit out at t ≡ sets out at t
unfolding written_over
over_sets out at [] limit h = refl
over_sets out at (b ∷ t) limit h =
    over_in limit out at b t (omega arith)
    ∙ ap (λ (k : ℕ). written_over limit (set out at b) k t) (add-one at)
    ∙ over_sets (set out at b) (suc at) t limit (omega arith)

-- one byte more
over_one : (limit : ℕ) (out : List ℕ) (at b : ℕ) (t : List ℕ)
    → written_over limit (written_over limit out at (b ∷ [])) (at + 1) t ≡ written_over limit out at (b ∷ t)
over_one limit out at b t = over_join limit out at (b ∷ []) t

-- What the loop keeps: going on from here gives the whole.
pub record Copied (limit : ℕ) (out0 : List ℕ) (at : ℕ) (t out : List ℕ) (k : ℕ) : Type 0 where
  pub high : k ≤ length t
  pub size : length out ≡ length out0
  pub whole : written_over limit out (at + k) (drop k t) ≡ written_over limit out0 at t

pub copied_start : (limit : ℕ) (out : List ℕ) (at : ℕ) (t : List ℕ) → Copied limit out at t out 0
copied_start limit out at t = record { high = omega arith; size = refl; whole = ap (λ (a : ℕ). written_over limit out a t) (zero_off at) }
  where
    zero_off : (at : ℕ) → at + 0 ≡ at
    zero_off at = omega arith

pub copied_more : (limit : ℕ) (out0 : List ℕ) (at : ℕ) (t out : List ℕ) (k b : ℕ) → Copied limit out0 at t out k → k < length t → at + k < limit
    → b ≡ get_or t k 0
    → Copied limit out0 at t (set out (at + k) b) (k + 1)
copied_more limit out0 at t out k b s h l q =
    record {
      high = omega arith;
      size = length-set out (at + k) b ∙ s.size;
      whole =
          ap₂ (λ (o : List ℕ) (a : ℕ). written_over limit o a (drop (k + 1) t)) (emit_in limit out (at + k) b l) (along at k)
          ∙ over_one limit out (at + k) b (drop (k + 1) t)
          ∙ ap (written_over limit out (at + k)) (rw (q, add-one k) (sym (drop-cons t k 0 h)))
          ∙ s.whole;
    }
  where
    along : (at k : ℕ) → at + (k + 1) ≡ at + k + 1
    along at k = omega arith

copied_end : (limit : ℕ) (out0 : List ℕ) (at : ℕ) (t out : List ℕ) (k : ℕ) → Copied limit out0 at t out k → length t ≤ k
    → out ≡ written_over limit out0 at t
unfolding written_over
copied_end limit out0 at t out k s h = ap (written_over limit out (at + k)) (sym (drop_of_length-le t h)) ∙ s.whole

-- the part that has room, byte by byte, is all that is written of the text
pub copied_part : (out0 : List ℕ) (at : ℕ) (t out : List ℕ) (room k : ℕ) → at < length out0 → room ≡ min (length t) (length out0 - at)
    → Copied (length out0) out0 at (take room t) out k → room ≤ k
    → out ≡ written_over (length out0) out0 at t
copied_part out0 at t out room k h e s l =
    let n = length-take room t in
    copied_end (length out0) out0 at (take room t) out k s (omega arith)
    ∙ over_below (length out0) (length out0) out0 at t room (omega arith) e

-- the part of a text that has room is written at once
pub part_written : (out : List ℕ) (at : ℕ) (t part : List ℕ) (room : ℕ) → at < length out → room ≡ min (length t) (length out - at)
    → part ≡ take room t
    → put_mid at (at + room - at) out part ≡ written_over (length out) out at t
part_written out at t part room h e f =
    let l = length-take room t in
    let n : length (take room t) ≡ room = omega arith in
    let k : at + room - at ≡ room = omega arith in
    rw (f, k)
    (part_sets (take room t) out at room n (omega arith)
    ∙ sym (over_sets out at (take room t) (length out) (omega arith))
    ∙ over_below (length out) (length out) out at t room (omega arith) e)

-- the blanks that have room
pub blanks_written : (out : List ℕ) (at n : ℕ) (part : List ℕ) (room : ℕ) → at < length out → room ≡ min n (length out - at)
    → part ≡ replicate (length (mid_of at (at + room - at) out)) 0x20
    → put_mid at (at + room - at) out part ≡ written_over (length out) out at (replicate n 0x20)
blanks_written out at n part room h e f =
    let l = length-replicate {A = ℕ} n 0x20 in
    let k : length (mid_of at (at + room - at) out) ≡ room = mid_len at (at + room) out (omega arith) ∙ omega arith in
    part_written out at (replicate n 0x20) part room h (omega arith) (f ∙ ap (λ (m : ℕ). replicate m 0x20) k ∙ sym (take_blanks room n (omega arith)))
  where
    take_blanks : (k n : ℕ) → k ≤ n → take {A = ℕ} k (replicate n 0x20) ≡ replicate k 0x20
    take_blanks zero n h = refl
    take_blanks (suc k) zero h = absurd (omega arith)
    take_blanks (suc k) (suc n) h = ap (λ (t : List ℕ). 0x20 ∷ t) (take_blanks k n (omega arith))

-- The text of a row.
pub text_size : (source image : List ℕ) (origin start size : ℕ)
    → length (text_bytes source image (text_of origin start size)) ≡ min size (length (origin_text source image origin) - start)
unfolding text_bytes
text_size source image origin start size = simp (length-take, length-drop)

pub text_fits : (source image : List ℕ) (origin start size : ℕ) → length (text_bytes source image (text_of origin start size)) ≤ size
text_fits source image origin start size = let e = text_size source image origin start size in omega arith
