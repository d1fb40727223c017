-- The frames of a buffer, one after the other.
-- Assumes nothing.
use mathlib.Core.Path.{◌≡◌, refl, sym, ap, ◌∙◌}
use mathlib.Core.Bool.{Bool, true, false}
use Rattle.std.specs.Prelude.{None, Some, Result, Ok}
use mathlib.Core.List.{List, [], ◌∷◌}
use Prim.Native.Nat.{ℕ, zero, suc, ◌+◌, ◌-◌, ◌≤◌, ◌<◌}
use native.Mathlib.Nat.{zero-add}
use native.Mathlib.Omega.{arith}
use lib.Dec.{ltb, leb, eqb}
use lib.ListN.{length}
use borrow.Author.Tests.{ltb-true, ltb-false, leb-true, leb-false, lt-ltb, le-ltb, le-leb, lt-leb, eqb-true, eqb-false}
use Rattle.laws.proofs.Numbers.{one_more}
use Rattle.image.specs.Read.{Read, got, bad, bind, read_refusal}
use Rattle.batch.specs.Batch.{MAX_SAVES, Save, frame_end, save_at, saves_from, all_saves, saves_by}
use Rattle.batch.specs.Whole.{frames_by, Framed, IsFrame}
use Rattle.batch.specs.declared.frames.Frame.{Frame}
use Rattle.refusals.specs.Refusals.{Refusal}
use Rattle.refusals.specs.Answers.{Answer, refused, accepted}
use Rattle.refusals.specs.Reasons.{answer_of}
use Rattle.refusals.specs.declared.Refused.{Refused}

-- a file more in front
abbrev one_more_lem : Save → Read (List Save) → Read (List Save)
one_more_lem x r = bind r (λ xs end. got (x ∷ xs) end)

module _ (f : List ℕ) where
  -- ---- a turn
  no_more : (n at : ℕ) → length f ≤ at → saves_from f n at ≡ got [] at
  unfolding saves_from
  no_more zero at h = rw (le-ltb at (length f) h)
  no_more (suc n) at h = rw (le-ltb at (length f) h)

  too_many : (at : ℕ) → at < length f → saves_from f 0 at ≡ bad 18 at
  unfolding saves_from
  too_many at h = rw (lt-ltb at (length f) h)

  cut_off : (n at : ℕ) → at < length f → length f < frame_end f at → saves_from f (suc n) at ≡ bad 18 at
  unfolding saves_from
  cut_off n at h k = rw (lt-ltb at (length f) h, lt-leb (frame_end f at) (length f) k)

  goes_on : (n at : ℕ) → at < length f → frame_end f at ≤ length f
      → saves_from f (suc n) at ≡ one_more_lem (save_at f at) (saves_from f n (frame_end f at))
  unfolding saves_from
  goes_on n at h k = rw (lt-ltb at (length f) h, le-leb (frame_end f at) (length f) k)

  -- ---- counted: with those before, going on from here gives the whole answer
  abbrev frames_after : ℕ → Read (List Save) → Answer ℕ
  frames_after k (got xs end) = accepted (k + length xs)
  frames_after k (bad n p) = refused (record { number = n; place = p })

  -- a frame that is there starts in the buffer
  pub starts : (at : ℕ) (x : Frame) → IsFrame f at x → at < length f
  starts at x w = omega (arith, w.inside)

  pub record Passed (at files : ℕ) : Type 0 where
    pub inside : at ≤ length f
    pub few : files ≤ MAX_SAVES
    pub same : frames_after files (saves_from f (MAX_SAVES - files) at) ≡ frames_by (all_saves f)

  pub passed_none : Passed 0 0
  passed_none = record { inside = omega arith; few = omega arith; same = go (all_saves f) }
    where
      go : (r : Read (List Save)) → frames_after 0 r ≡ frames_by r
      go (got xs end) = ap (λ (n : ℕ). accepted n) (zero-add (length xs))
      go (bad n p) = refl

  module _ (at files : ℕ) (p : Passed at files) where
    pub passed_more : at < length f → files < MAX_SAVES → frame_end f at ≤ length f → Passed (frame_end f at) (files + 1)
    passed_more h l k =
        record {
          inside = k;
          few = omega arith;
          same =
              sym (ap (frames_after files) (ap (λ (n : ℕ). saves_from f n at) (one_more MAX_SAVES files l) ∙ goes_on (MAX_SAVES - (files + 1)) at h k)
              ∙ joins (saves_from f (MAX_SAVES - (files + 1)) (frame_end f at)))
              ∙ p.same;
        }
      where
        joins : (r : Read (List Save)) → frames_after files (one_more_lem (save_at f at) r) ≡ frames_after (files + 1) r
        joins (got xs end) = let e : files + suc (length xs) ≡ files + 1 + length xs = omega arith in ap accepted e
        joins (bad n q) = refl

    pub passed_many : at < length f → files ≡ MAX_SAVES → refused (record { number = 18; place = at }) ≡ frames_by (all_saves f)
    passed_many h e =
        let z : MAX_SAVES - files ≡ 0 = omega arith in
        sym (ap (frames_after files) (ap (λ (n : ℕ). saves_from f n at) z ∙ too_many at h)) ∙ p.same

    pub passed_cut : at < length f → files < MAX_SAVES → length f < frame_end f at
        → refused (record { number = 18; place = at }) ≡ frames_by (all_saves f)
    passed_cut h l k =
        sym (ap (frames_after files) (ap (λ (n : ℕ). saves_from f n at) (one_more MAX_SAVES files l) ∙ cut_off (MAX_SAVES - (files + 1)) at h k))
        ∙ p.same

    -- where the frame here runs past the end, or is one too many
    pub passed_end : at < length f → length f < frame_end f at → refused (record { number = 18; place = at }) ≡ frames_by (all_saves f)
    passed_end h k = go (eqb files MAX_SAVES) refl
      where
        go : (t : Bool) → eqb files MAX_SAVES ≡ t → refused (record { number = 18; place = at }) ≡ frames_by (all_saves f)
        go true e = passed_many h (eqb-true files MAX_SAVES e)
        go false e = passed_cut h (omega (arith, eqb-false files MAX_SAVES e, p.few)) k

    pub passed_all : length f ≤ at → accepted files ≡ frames_by (all_saves f)
    passed_all h =
        let e : files ≡ files + 0 = omega arith in
        ap accepted e ∙ sym (ap (frames_after files) (no_more (MAX_SAVES - files) at h)) ∙ p.same

  -- ---- the files from `at` on, where none is cut off
  pub data Files : ℕ → List Save → Type 0 where
    done : {at : ℕ} → length f ≤ at → Files at []
    more : {at : ℕ} {xs : List Save} → at < length f → frame_end f at ≤ length f → Files (frame_end f at) xs → Files at (save_at f at ∷ xs)

  -- the next of them, and the others
  pub record Next (at : ℕ) (xs : List Save) : Type 0 where
    pub others : List Save
    pub is : xs ≡ save_at f at ∷ others
    pub fits : frame_end f at ≤ length f
    pub later : Files (frame_end f at) others

  pub next : {at : ℕ} {xs : List Save} → at < length f → Files at xs → Next at xs
  next h (done l) = absurd (omega arith)
  next h (more l k r) = record { others = _; is = refl; fits = k; later = r }

  pub last : {at : ℕ} {xs : List Save} → length f ≤ at → Files at xs → xs ≡ []
  last h (done l) = refl
  last h (more l k r) = absurd (omega arith)

  -- behind the last of them no frame fits
  pub past_last : {at : ℕ} {xs : List Save} → length f < frame_end f at → Files at xs → length f ≤ at
  past_last h (done l) = l
  past_last h (more l k r) = absurd (omega arith)

  -- what was read
  pub record Listed (n at : ℕ) (r : Read (List Save)) : Type 0 where
    pub files : Files at (saves_by r)
    pub few : length (saves_by r) ≤ n

  listed_more : (n at : ℕ) (r : Read (List Save)) → at < length f → frame_end f at ≤ length f
      → (read_refusal r ≡ None → Listed n (frame_end f at) r)
      → read_refusal (one_more_lem (save_at f at) r) ≡ None
      → Listed (suc n) at (one_more_lem (save_at f at) r)
  listed_more n at (got xs end) h k later e = let l = later refl in record { files = more h k l.files; few = omega (arith, l.few) }
  listed_more n at (bad m q) h k later e = let z : ◌≡◌ {A = ℕ} 0 1 = cc in absurd (omega arith)

  listed_by : (n at : ℕ) (t : Bool) → ltb at (length f) ≡ t → (u : Bool) → leb (frame_end f at) (length f) ≡ u
      → (read_refusal (saves_from f n (frame_end f at)) ≡ None → Listed n (frame_end f at) (saves_from f n (frame_end f at)))
      → read_refusal (saves_from f (suc n) at) ≡ None
      → Listed (suc n) at (saves_from f (suc n) at)
  listed_by n at false p u q later e =
      rw (no_more (suc n) at (ltb-false at (length f) p)) (record { files = done (ltb-false at (length f) p); few = omega arith })
  listed_by n at true p false q later e =
      let g = rw (cut_off n at (ltb-true at (length f) p) (leb-false (frame_end f at) (length f) q)) at e in
      let z : ◌≡◌ {A = ℕ} 0 1 = cc in
      absurd (omega arith)
  listed_by n at true p true q later e =
      let h = ltb-true at (length f) p in
      let k = leb-true (frame_end f at) (length f) q in
      rw (goes_on n at h k) (listed_more n at (saves_from f n (frame_end f at)) h k later (rw (goes_on n at h k) at e))

  listed_none : (at : ℕ) (t : Bool) → ltb at (length f) ≡ t → read_refusal (saves_from f 0 at) ≡ None → Listed 0 at (saves_from f 0 at)
  listed_none at false p e = rw (no_more 0 at (ltb-false at (length f) p)) (record { files = done (ltb-false at (length f) p); few = omega arith })
  listed_none at true p e = let g = rw (too_many at (ltb-true at (length f) p)) at e in let z : ◌≡◌ {A = ℕ} 0 1 = cc in absurd (omega arith)

  pub listed : (n at : ℕ) → read_refusal (saves_from f n at) ≡ None → Listed n at (saves_from f n at)
  listed zero at e = listed_none at (ltb at (length f)) refl e
  listed (suc n) at e = listed_by n at (ltb at (length f)) refl (leb (frame_end f at) (length f)) refl (listed n (frame_end f at)) e

  -- ---- 18 is its number
  cut_more : (x : Save) (r : Read (List Save)) (n p : ℕ) → ((m q : ℕ) → r ≡ bad m q → m ≡ 18) → one_more_lem x r ≡ bad n p → n ≡ 18
  cut_more x (got xs end) n p later e = let z : ◌≡◌ {A = ℕ} 0 1 = cc in absurd (omega arith)
  cut_more x (bad m q) n p later e = let g : m ≡ n = cc in sym g ∙ later m q refl

  cut_by : (n at : ℕ) (t : Bool) → ltb at (length f) ≡ t → (u : Bool) → leb (frame_end f at) (length f) ≡ u
      → ((m p : ℕ) → saves_from f n (frame_end f at) ≡ bad m p → m ≡ 18)
      → (m p : ℕ)
      → saves_from f (suc n) at ≡ bad m p
      → m ≡ 18
  cut_by n at false w u q later m p e =
      let g = no_more (suc n) at (ltb-false at (length f) w) in
      let z : ◌≡◌ {A = ℕ} 0 1 = cc in
      absurd (omega arith)
  cut_by n at true w false q later m p e = let g = cut_off n at (ltb-true at (length f) w) (leb-false (frame_end f at) (length f) q) in cc
  cut_by n at true w true q later m p e =
      let g = goes_on n at (ltb-true at (length f) w) (leb-true (frame_end f at) (length f) q) in
      cut_more (save_at f at) (saves_from f n (frame_end f at)) m p later (sym g ∙ e)

  cut_none : (at : ℕ) (t : Bool) → ltb at (length f) ≡ t → (m p : ℕ) → saves_from f 0 at ≡ bad m p → m ≡ 18
  cut_none at false w m p e = let g = no_more 0 at (ltb-false at (length f) w) in let z : ◌≡◌ {A = ℕ} 0 1 = cc in absurd (omega arith)
  cut_none at true w m p e = let g = too_many at (ltb-true at (length f) w) in cc

  pub cut_number : (n at m p : ℕ) → saves_from f n at ≡ bad m p → m ≡ 18
  cut_number zero at = cut_none at (ltb at (length f)) refl
  cut_number (suc n) at = cut_by n at (ltb at (length f)) refl (leb (frame_end f at) (length f)) refl (cut_number n (frame_end f at))

-- ---- what the code's count says
framed_by : (f : List ℕ) (r : Read (List Save)) → all_saves f ≡ r → (files : ℕ) → accepted files ≡ frames_by r → Framed f files
framed_by f (got xs end) e files h =
    let g : files ≡ length xs = cc in
    record { passes = ap read_refusal e; count = g ∙ sym (ap (λ (r : Read (List Save)). length (saves_by r)) e) }
framed_by f (bad n p) e files h = absurd (cc)

pub framed_ok : (f : List ℕ) (r : Result ℕ Refused) (files : ℕ) → answer_of (λ n. n) r ≡ frames_by (all_saves f) → r ≡ Ok files
    → Framed f files
framed_ok f r files h e = framed_by f (all_saves f) refl files (sym (ap (answer_of (λ (n : ℕ). n)) e) ∙ h)

pub cut_refuses : (x : Read (List Save)) (r : Refusal) → refused r ≡ frames_by x → read_refusal x ≡ Some r
cut_refuses (got xs end) r h = absurd (cc)
cut_refuses (bad n p) r h = let g : r ≡ record { number = n; place = p } = cc in ap Some (sym g)
