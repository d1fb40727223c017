-- What the tests of one record say: where its payload and the record itself end.
-- Assumes nothing.
use mathlib.Core.Path.{◌≡◌, refl, ap}
use mathlib.Core.List.{List}
use mathlib.Core.Bool.{Bool, true, false, cond, not, ◌&&◌, false≢true, true≢false}
use Prim.Native.Nat.{ℕ, ◌+◌, ◌/◌, ◌%◌, ◌≤◌, ◌<◌}
use native.Mathlib.Omega.{arith}
use lib.ListN.{get_or}
use lib.Dec.{leb, ltb, eqb}
use borrow.Author.Tests.{leb-true, ltb-true, eqb-false, eqb-true, ne_eqb, le-leb}
use Rattle.text.specs.Utf8.{well_formed}
use Rattle.text.specs.Newlines.{is_range}
use Rattle.laws.proofs.Booleans.{and_left, and_right}
use Rattle.image.specs.Bytes.{be32, part}
use Rattle.image.specs.Grammar.{is_list, is_optional, kind_fits_of, payload_fits, first_child, has_byte, top_byte}
use Rattle.image.specs.Read.{Read, got, bad, Head, head_at, stop_at, kind_at, shape, opens, skips}

pub record Shaped (b : List ℕ) (v p at end : ℕ) : Type 0 where
  pub long : 9 ≤ be32 b at
  pub within : stop_at b at ≤ end
  pub kind : kind_fits_of p (kind_at b at) ≡ true
  pub payload : payload_fits b v p (kind_at b at) (at + 13) (stop_at b at) ≡ true

pub shaped : (b : List ℕ) (v p at end : ℕ) → shape b v p at end ≡ true → Shaped b v p at end
unfolding shape
shaped b v p at end e =
    let t₁ = leb 9 (be32 b at) in
    let t₂ = leb (stop_at b at) end in
    let t₃ = kind_fits_of p (kind_at b at) in
    let t₄ = payload_fits b v p (kind_at b at) (at + 13) (stop_at b at) in
    let three = and_left (t₁ && t₂ && t₃) t₄ e in
    let two = and_left (t₁ && t₂) t₃ three in
    record {
      long = leb-true 9 (be32 b at) (and_left t₁ t₂ two);
      within = leb-true (stop_at b at) end (and_right t₁ t₂ two);
      kind = and_right (t₁ && t₂) t₃ three;
      payload = and_right (t₁ && t₂ && t₃) t₄ e;
    }

-- so that the bytes before its payload, and itself, are in its parent
pub shape_room : (b : List ℕ) (v p at end : ℕ) → shape b v p at end ≡ true → (at + 13 ≤ end) × (at + 4 + be32 b at ≤ end)
shape_room b v p at end e = let w = shaped b v p at end e in (omega (arith, w.long, w.within), w.within)

pub is_shaped : (b : List ℕ) (v p at end : ℕ) → Shaped b v p at end → shape b v p at end ≡ true
unfolding shape
is_shaped b v p at end h =
    simp (le-leb 9 (be32 b at) h.long, le-leb (stop_at b at) end h.within, h.kind) h.payload

-- ---- the payload
fits_first : (t₁ t₂ : Bool) (from stop : ℕ) → from ≤ stop → (t₁ ≡ false → t₂ ≡ true → from < stop)
    → cond t₁ stop (cond t₂ (from + 1) from) ≤ stop
fits_first true t₂ from stop le h = omega arith
fits_first false true from stop le h = let l = h refl refl in omega arith
fits_first false false from stop le h = le

paid : (t u lt x : Bool) → t ≡ false → u ≡ true → (y : Bool) → cond t y (cond u (lt && x) true) ≡ true → lt ≡ true
paid true u lt x f g y e = absurd (true≢false f)
paid false true lt x f g y e = and_left lt x e
paid false false lt x f g y e = absurd (false≢true g)

-- it ends in the record
pub first_within : (b : List ℕ) (v p k from stop : ℕ) → from ≤ stop → payload_fits b v p k from stop ≡ true → first_child k from stop ≤ stop
unfolding payload_fits first_child
first_within b v p k from stop le e =
    fits_first (eqb k 2) (has_byte k) from stop le (λ f g. ltb-true from stop (paid (eqb k 2) (has_byte k) (ltb from stop) _ f g _ e))

starts_first : (t₁ t₂ : Bool) (from stop : ℕ) → from ≤ stop → from ≤ cond t₁ stop (cond t₂ (from + 1) from)
starts_first true t₂ from stop le = le
starts_first false true from stop le = omega arith
starts_first false false from stop le = omega arith

pub first_after : (k from stop : ℕ) → from ≤ stop → from ≤ first_child k from stop
unfolding first_child
first_after k from stop le = starts_first (eqb k 2) (has_byte k) from stop le

-- a text is its width, in v bytes, then well-formed UTF-8
pub text_payload : (b : List ℕ) (v p from stop : ℕ) → payload_fits b v p 2 from stop ≡ true
    → (from + v ≤ stop) × (well_formed (part (from + v) stop b) ≡ true)
unfolding payload_fits
text_payload b v p from stop e =
    let t₁ = leb (from + v) stop in
    let t₂ = well_formed (part (from + v) stop b) in
    (leb-true (from + v) stop (and_left t₁ t₂ e), and_right t₁ t₂ e)

-- a payload byte is there, and no larger than its kind and place allow
pub byte_payload : (b : List ℕ) (v p k from stop : ℕ) → eqb k 2 ≡ false → has_byte k ≡ true → payload_fits b v p k from stop ≡ true
    → (from < stop) × (get_or b from 0 ≤ top_byte p k)
unfolding payload_fits
byte_payload b v p k from stop n h e =
    let t₁ = ltb from stop in
    let t₂ = leb (get_or b from 0) (top_byte p k) in
    let both : t₁ && t₂ ≡ true = simp (n, h) at e in
    (ltb-true from stop (and_left t₁ t₂ both), leb-true (get_or b from 0) (top_byte p k) (and_right t₁ t₂ both))

-- ---- the kind
-- a list at a list's place; elsewhere one of the place's range
pub kind_list : (p k : ℕ) → is_list p ≡ true → kind_fits_of p k ≡ true → k ≡ 3
unfolding kind_fits_of
kind_list p k l e = eqb-true k 3 (simp l at e)

pub kind_range : (p k : ℕ) → is_list p ≡ false → kind_fits_of p k ≡ true → (p % 128 ≤ k) × (k ≤ p % 128 + p / 128 % 32)
unfolding kind_fits_of
kind_range p k l e =
    let t₁ = leb (p % 128) k in
    let t₂ = leb k (p % 128 + p / 128 % 32) in
    let both : t₁ && t₂ ≡ true = simp l at e in
    (leb-true (p % 128) k (and_left t₁ t₂ both), leb-true k (p % 128 + p / 128 % 32) (and_right t₁ t₂ both))

-- ---- a record that passes the tests
pub record Opened (s b : List ℕ) (v left p at end : ℕ) : Type 0 where
  pub more : ¬ (left ≡ 0)
  pub right : Shaped b v p at end
  pub span : is_range s (be32 b (at + 5)) (be32 b (at + 9)) ≡ true

-- its payload starts after the span and ends in the record
pub opened_after : {s b : List ℕ} {v left p at end : ℕ} → Opened s b v left p at end → at + 13 ≤ (head_at b at).first
opened_after {b = b} {at = at} o = first_after (kind_at b at) (at + 13) (stop_at b at) (omega (arith, o.right.long))

pub opened_order : {s b : List ℕ} {v left p at end : ℕ} → Opened s b v left p at end → (head_at b at).first ≤ stop_at b at
opened_order {b = b} {v = v} {p = p} {at = at} o =
    first_within b v p (kind_at b at) (at + 13) (stop_at b at) (omega (arith, o.right.long)) o.right.payload

abbrev pub is_got : {A : Type 0} → Read A → Bool
is_got (got a n) = true
is_got (bad n p) = false

passed : (t₄ t₅ t₆ : Bool) (at : ℕ) (g h : Head) (f q : ℕ)
    → cond (not t₄) (bad 4 at) (cond t₅ (bad 5 at) (cond (not t₆) (bad 6 at) (got g f))) ≡ got h q
    → (t₄ ≡ true) × (t₅ ≡ false) × (t₆ ≡ true) × (h ≡ g) × (q ≡ f)
passed false t₅ t₆ at g h f q e = absurd (false≢true (ap is_got e))
passed true true t₆ at g h f q e = absurd (false≢true (ap is_got e))
passed true false false at g h f q e = absurd (false≢true (ap is_got e))
passed true false true at g h f q e = (refl, refl, refl, (cc), (cc))

pub opened : (s b : List ℕ) (v left p at end : ℕ) (h : Head) (q : ℕ) → opens s b v left p at end ≡ got h q
    → Opened s b v left p at end × (h ≡ head_at b at) × (q ≡ (head_at b at).first)
unfolding opens
opened s b v left p at end h q e =
    let o = passed (shape b v p at end) (eqb left 0) (is_range s (be32 b (at + 5)) (be32 b (at + 9))) at (head_at b at) h (head_at b at).first q e in (
      record { more = eqb-false left 0 o.1; right = shaped b v p at end o.0; span = o.2 },
      o.3,
      o.4,
    )

pub is_opened : {s b : List ℕ} {v left p at end : ℕ} → Opened s b v left p at end
    → opens s b v left p at end ≡ got (head_at b at) (head_at b at).first
unfolding opens
is_opened {s} {b} {v} {left} {p} {at} {end} o = simp (is_shaped b v p at end o.right, ne_eqb left 0 o.more, o.span)

-- ---- an absent child takes four bytes that are there
pub skips_within : (b : List ℕ) (p at end : ℕ) → skips b p at end ≡ true → (at + 4 ≤ end) × (be32 b at ≡ 0)
unfolding skips
skips_within b p at end e =
    let t₁ = is_optional p in
    let t₂ = leb (at + 4) end in
    let t₃ = eqb (be32 b at) 0 in
    (leb-true (at + 4) end (and_right t₁ t₂ (and_left (t₁ && t₂) t₃ e)), eqb-true (be32 b at) 0 (and_right (t₁ && t₂) t₃ e))
