-- A part of a text: its bytes, boundaries and sequences are those of the text, moved.
-- Assumes nothing.
use mathlib.Core.Path.{◌≡◌, refl, sym, ap, ◌∙◌}
use mathlib.Core.Bool.{Bool, true, false}
use mathlib.Core.List.{List}
use Prim.Native.Nat.{ℕ, zero, suc, ◌+◌, ◌-◌, ◌≤◌, ◌<◌}
use native.Mathlib.Omega.{arith}
use native.Mathlib.Nat.{add-zero, zero-add, add_assoc}
use lib.ListN.{length, get_or, take, drop, length-take, length-drop}
use lib.Seq.{get_or-take, get_or-drop}
use lib.Dec.{ltb, leb, eqb}
use borrow.Author.Tests.{ltb-true, ltb-false, le-leb, lt-leb, leb-true, leb-false, eq-eqb, ne_eqb, eqb-true, eqb-false}
use Rattle.text.specs.Utf8.{sequence, well_formed, boundary, scalar, decoded, ends, ending, char_before}
use Rattle.text.specs.Newlines.{is_range}
use Rattle.text.proofs.Boundaries.{end_boundary, sequence_before}
use Rattle.text.proofs.Bytes.{sequence_same}
use Rattle.text.proofs.Characters.{sequence_inside, decoded_char, ending_fits}
use Rattle.text.proofs.Counts.{range_order, range_start, range_end, range_inside}
use Rattle.text.proofs.Reached.{Reach, here, on, boundary_iff, well_formed_reached}

-- the n bytes from a on
abbrev pub part : List ℕ → ℕ → ℕ → List ℕ
part s a n = take n (drop a s)

-- the bytes of a sequence at another place have the same code point
scalar_same : (s t : List ℕ) (i j n : ℕ) → 0 < n → ((k : ℕ) → k < n → get_or s (i + k) 0 ≡ get_or t (j + k) 0) → scalar s i n ≡ scalar t j n
unfolding scalar
scalar_same s t i j n h f = go n h f (rw (add-zero i, add-zero j) at (f 0 h))
  where
    go : (n : ℕ) → 0 < n → ((k : ℕ) → k < n → get_or s (i + k) 0 ≡ get_or t (j + k) 0) → get_or s i 0 ≡ get_or t j 0
        → scalar s i n ≡ scalar t j n
    go zero h f e = absurd (omega arith)
    go (suc zero) h f e = e
    go (suc (suc zero)) h f e = rw (e, f 1 (omega arith))
    go (suc (suc (suc zero))) h f e = rw (e, f 1 (omega arith), f 2 (omega arith))
    go (suc (suc (suc (suc n)))) h f e = rw (e, f 1 (omega arith), f 2 (omega arith), f 3 (omega arith))

module _ (s : List ℕ) (a n : ℕ) (fits : a + n ≤ length s) where
  pub part_length : length (part s a n) ≡ n
  part_length = simp (length-take, length-drop) (omega arith)

  pub part_byte : (k : ℕ) → k < n → get_or (part s a n) k 0 ≡ get_or s (a + k) 0
  part_byte k h = rw (get_or-take, get_or-drop)

  -- a sequence of the part is one of the text
  pub sequence_up : (at : ℕ) → 0 < sequence (part s a n) at → sequence s (a + at) ≡ sequence (part s a n) at
  sequence_up at h =
      let inside = sequence_inside (part s a n) at h in
      sequence_same (part s a n) s at (a + at) h (omega (arith, part_length))
      (λ k q. part_byte (at + k) (omega (arith, part_length)) ∙ ap (λ i. get_or s i 0) (sym (add_assoc a at k)))

  -- a sequence of the text that ends in the part is one of the part
  pub sequence_down : (at : ℕ) → at < n → at + sequence s (a + at) ≤ n → sequence (part s a n) at ≡ sequence s (a + at)
  sequence_down at h ends = go (sequence s (a + at)) refl (sequence (part s a n) at) refl
    where
      go : (i : ℕ) → sequence s (a + at) ≡ i → (j : ℕ) → sequence (part s a n) at ≡ j → sequence (part s a n) at ≡ sequence s (a + at)
      go (suc i) p (suc j) q = sym (sequence_up at (omega arith))
      go zero p (suc j) q = sym (sequence_up at (omega arith))
      go zero p zero q = q ∙ sym p
      go (suc i) p zero q =
          sequence_same s (part s a n) (a + at) at (omega arith) (omega (arith, part_length))
          (λ k q. ap (λ i. get_or s i 0) (add_assoc a at k) ∙ sym (part_byte (at + k) (omega arith)))

  -- a sequence ends the part where it ends the range
  ends_part : (k : ℕ) → 0 < k → ends (part s a n) 0 n k ≡ ends s a (a + n) k
  unfolding ends
  ends_part k h = go (leb k n) refl
    where
      place : k ≤ n → a + n - k ≡ a + (n - k)
      place q = omega arith

      same : k ≤ n → (t : Bool) → eqb (sequence (part s a n) (n - k)) k ≡ t → t ≡ eqb (sequence s (a + (n - k))) k
      same q true e =
          let there = eqb-true (sequence (part s a n) (n - k)) k e in
          sym (eq-eqb (sequence s (a + (n - k))) k (sequence_up (n - k) (omega arith) ∙ there))
      same q false e =
          sym (ne_eqb (sequence s (a + (n - k))) k
          (λ f. eqb-false (sequence (part s a n) (n - k)) k e (sequence_down (n - k) (omega arith) (omega arith) ∙ f)))

      go : (t : Bool) → leb k n ≡ t → ends (part s a n) 0 n k ≡ ends s a (a + n) k
      go true e =
          let q = leb-true k n e in
          simp (zero-add k, e, le-leb (a + k) (a + n) (omega arith), place q) (same q _ refl)
      go false e = let q = leb-false k n e in simp (zero-add k, e, lt-leb (a + k) (a + n) (omega arith))

  ending_part : ending (part s a n) 0 n ≡ ending s a (a + n)
  unfolding ending
  ending_part = rw (ends_part 1 (omega arith), ends_part 2 (omega arith), ends_part 3 (omega arith), ends_part 4 (omega arith))

  -- the part's last character is the range's
  pub before_part : char_before (part s a n) 0 n ≡ char_before s a (a + n)
  unfolding char_before decoded
  before_part = rw ending_part (go (ending s a (a + n)) refl)
    where
      go : (e : ℕ) → ending s a (a + n) ≡ e → decoded (part s a n) (n - e) e ≡ decoded s (a + n - e) e
      go zero q = refl
      go (suc e) q =
          let fits = ending_fits s a (a + n) (omega arith) in
          let place : a + n - suc e ≡ a + (n - suc e) = omega arith in
          sym (decoded_char (part s a n) (n - suc e) (suc e) _ (omega arith) refl)
          ∙ decoded_char s (a + n - suc e) (suc e) _ (omega arith)
          (rw place (scalar_same (part s a n) s (n - suc e) (a + (n - suc e)) (suc e) (omega arith)
          (λ k h. part_byte (n - suc e + k) (omega arith) ∙ ap (λ i. get_or s i 0) (sym (add_assoc a (n - suc e) k)))))

  -- what the part reaches, the text reaches
  pub reach_up : (k : ℕ) → Reach s a → Reach (part s a n) k → Reach s (a + k)
  reach_up k r here = rw (add-zero a) r
  reach_up k r (on {at = i} w h) =
      let up = sequence_up i h in
      let same : a + i + sequence s (a + i) ≡ a + (i + sequence (part s a n) i) = omega arith in
      rw same at (on (reach_up i r w) (omega arith))

  -- what the text reaches, the part reaches, if no sequence crosses the part's start
  pub reach_down : ((i : ℕ) → i < a → i + sequence s i ≤ a) → (at : ℕ) → Reach s at → a ≤ at → at ≤ a + n → Reach (part s a n) (at - a)
  reach_down before at here h k = let same : 0 - a ≡ 0 = omega arith in rw same here
  reach_down before at (on {at = i} r some) h k = go (λ p q. reach_down before i r p q) (ltb i a) refl
    where
      go : (a ≤ i → i ≤ a + n → Reach (part s a n) (i - a)) → (t : Bool) → ltb i a ≡ t → Reach (part s a n) (i + sequence s i - a)
      go more true q =
          let same : i + sequence s i - a ≡ 0 = omega (arith, before i (ltb-true i a q)) in
          rw same here
      go more false q =
          let after = ltb-false i a q in
          let place : a + (i - a) ≡ i = omega arith in
          let ends : i - a + sequence s (a + (i - a)) ≤ n = rw place (omega arith) in
          let down : sequence (part s a n) (i - a) ≡ sequence s i = rw place at (sequence_down (i - a) (omega arith) ends) in
          let same : i - a + sequence (part s a n) (i - a) ≡ i + sequence s i - a = omega arith in
          rw same at (on (more after (omega arith)) (omega arith))

-- the part from one place to another
abbrev pub between : List ℕ → ℕ → ℕ → List ℕ
between s a b = part s a (b - a)

module _ (s : List ℕ) (a b : ℕ) (is : is_range s a b ≡ true) where
  range_fits : a + (b - a) ≤ length s
  range_fits = omega (arith, (range_inside s a b is).0, (range_inside s a b is).1)

  pub length_between : length (between s a b) ≡ b - a
  length_between = part_length s a (b - a) range_fits

  -- the part's boundaries are the text's
  pub boundary_between : (k : ℕ) → k ≤ b - a → boundary (between s a b) k ≡ boundary s (a + k)
  unfolding boundary
  boundary_between k h = go (ltb k (b - a)) refl
    where
      go : (t : Bool) → ltb k (b - a) ≡ t → boundary (between s a b) k ≡ boundary s (a + k)
      go true q =
          let before = ltb-true k (b - a) q in
          let inside = le-leb k (length (between s a b)) (omega (arith, length_between)) in
          rw (part_byte s a (b - a) range_fits k before, inside, le-leb (a + k) (length s) (omega (arith, range_fits)))
      go false q =
          let last : k ≡ length (between s a b) = omega (arith, length_between, ltb-false k (b - a) q) in
          let there : a + k ≡ b = omega (arith, range_order s a b is, ltb-false k (b - a) q) in
          ap (boundary (between s a b)) last ∙ end_boundary (between s a b) ∙ sym (range_end s a b is) ∙ ap (boundary s) (sym there)

  -- no sequence crosses the part's end, so each that starts in it is one of the text
  pub sequence_between : (at : ℕ) → at < b - a → sequence (between s a b) at ≡ sequence s (a + at)
  sequence_between at h =
      let ends = sequence_before s (a + at) b (range_end s a b is) (omega arith) in
      sequence_down s a (b - a) range_fits at h (omega arith)

  -- a part of a well-formed text is well-formed
  pub well_formed_between : well_formed s ≡ true → well_formed (between s a b) ≡ true
  well_formed_between e =
      let order = range_order s a b is in
      let before : (i : ℕ) → i < a → i + sequence s i ≤ a = λ i. sequence_before s i a (range_start s a b is) in
      let reached = reach_down s a (b - a) range_fits before b ((boundary_iff s b e).0 (range_end s a b is)) order (omega arith) in
      (well_formed_reached (between s a b)).1 (rw length_between reached)
