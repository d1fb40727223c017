-- Refusal 11 by a rule: under supplied widths it is what it was; under the others it lets less pass. A text that is UTF-8 and cuts nothing at its
-- start cuts nothing at its end; the fixed words are whole.
-- Assumes nothing.
use mathlib.Core.Path.{◌≡◌, refl, sym, ap, ap₂, ◌∙◌}
use Prim.Native.Nat.{ℕ, zero, suc, ◌+◌, ◌*◌, ◌-◌, ◌≤◌}
use native.Mathlib.Omega.{arith}
use mathlib.Core.Bool.{Bool, true, false, cond, not, ◌&&◌, ◌||◌}
use mathlib.Core.List.{List}
use Rattle.std.specs.Prelude.{Option, Some, None}
use lib.ListN.{length, get_or, take, drop}
use lib.Dec.{ltb, leb, eqb}
use borrow.Author.Tests.{le-leb, ne_eqb}
use Rattle.laws.proofs.Booleans.{and_left, and_right}
use Rattle.laws.proofs.Options.{never}
use Rattle.rows.specs.Ascii.{bytes}
use Rattle.rows.specs.Words.{words, joined}
use Rattle.rows.specs.Texts.{origin_text}
use Rattle.rows.specs.Limits.{MAX_DEPTH, MAX_ROWS}
use Rattle.rows.specs.Places.{ORIGIN, START, SIZE, PLACES}
use Rattle.rows.specs.View.{View, cell, view_of}
use Rattle.rows.proofs.LowWords.{word_low}
use Rattle.text.specs.Utf8.{within, row_in, followed, sequence, run, prefix, well_formed, boundary, cuts}
use Rattle.text.proofs.Counts.{range_is}
use Rattle.text.proofs.Cuts.{uncut, end_uncut}
use Rattle.text.proofs.Parts.{well_formed_between}
use Rattle.text.proofs.Tests.{within_below}
use Rattle.widths.specs.Rules.{SUPPLIED}
use Rattle.renderer_rules.specs.Page.{text_bytes}
use Rattle.renderer_rules.specs.Check.{parts_fit, row_fits_of, or_later, first_wrong, wrong_row_of, places_fit, wrong_place}
use Rattle.renderer_rules.specs.Check.{text_whole, whole_at, places_fit_by, wrong_place_by}
use Rattle.renderer_rules.proofs.Checked.{no_wrong}

-- ---- supplied widths
pub supplied_same : (source image store : List ℕ) (from stop : ℕ)
    → wrong_place_by SUPPLIED source image store from stop ≡ wrong_place source image store from stop
unfolding wrong_place_by wrong_place places_fit_by
supplied_same source image store from stop = refl

-- ---- what a row that passes by a rule is
module _ (rule : ℕ) (source image store : List ℕ) (i : ℕ) where
  pub fits_by : places_fit_by rule source image store i ≡ true → places_fit source image store i ≡ true
  unfolding places_fit_by
  fits_by = go (eqb rule SUPPLIED)
    where
      go : (x : Bool) → cond x (places_fit source image store i) (places_fit source image store i && whole_at source image store i) ≡ true
          → places_fit source image store i ≡ true
      go true h = h
      go false h = and_left (places_fit source image store i) (whole_at source image store i) h

  pub whole_by : (rule ≡ SUPPLIED → ⊥) → places_fit_by rule source image store i ≡ true → whole_at source image store i ≡ true
  unfolding places_fit_by
  whole_by n h = and_right (places_fit source image store i) (whole_at source image store i) (rw (ne_eqb rule SUPPLIED n) at h)

  pub both_by : places_fit source image store i ≡ true → whole_at source image store i ≡ true → places_fit_by rule source image store i ≡ true
  unfolding places_fit_by
  both_by a b = go (eqb rule SUPPLIED)
    where
      go : (x : Bool) → cond x (places_fit source image store i) (places_fit source image store i && whole_at source image store i) ≡ true
      go true = a
      go false = ap₂ ◌&&◌ a b

-- ---- a weaker test lets more pass
module _ (strong weak : ℕ → Bool) (v : View) (less : (k : ℕ) → strong k ≡ true → weak k ≡ true) where
  row_weaker : (end d i : ℕ) → row_fits_of strong v end d i ≡ true → row_fits_of weak v end d i ≡ true
  unfolding row_fits_of
  row_weaker end d i h =
      let a = ltb d MAX_DEPTH && (ltb i (v.after i) && leb (v.after i) end) in
      let b = parts_fit v i (v.kind i) in
      let c = and_right a (b && strong i) h in
      ap₂ ◌&&◌ (and_left a (b && strong i) h) (ap₂ ◌&&◌ (and_left b (strong i) c) (less i (and_right b (strong i) c)))

  first_weaker : (f end d i : ℕ) → first_wrong f strong v end d i ≡ None → first_wrong f weak v end d i ≡ None
  unfolding first_wrong
  first_weaker zero end d i h = refl
  first_weaker (suc f) end d i h = go (λ e d i. first_weaker f e d i) (ltb i end) (row_fits_of strong v end d i) refl h
    where
      -- what is found in a row's parts and behind it
      later : (ℕ → Bool) → Option ℕ
      later p = or_later (first_wrong f p v (v.after i) (suc d) (suc i)) (first_wrong f p v end d (v.after i))

      go : ((e d i : ℕ) → first_wrong f strong v e d i ≡ None → first_wrong f weak v e d i ≡ None) → (x y : Bool) → row_fits_of strong v end d i ≡ y
          → cond x (cond y (later strong) (Some i)) None ≡ None
          → cond x (cond (row_fits_of weak v end d i) (later weak) (Some i)) None ≡ None
      go more true true q h =
          let w = no_wrong (first_wrong f strong v (v.after i) (suc d) (suc i)) (first_wrong f strong v end d (v.after i)) h in
          rw (row_weaker end d i q, more (v.after i) (suc d) (suc i) w.0, more end d (v.after i) w.1)
      go more true false q h = absurd (never i h)
      go more false y q h = refl

  pub wrong_weaker : (end d i : ℕ) → wrong_row_of strong v end d i ≡ None → wrong_row_of weak v end d i ≡ None
  unfolding wrong_row_of
  wrong_weaker end d i h = first_weaker (end - i) end d i h

-- what passes by a rule passes under supplied widths
pub right_by : (rule : ℕ) (source image store : List ℕ) (from stop : ℕ) → wrong_place_by rule source image store from stop ≡ None
    → wrong_place source image store from stop ≡ None
unfolding wrong_place_by wrong_place
right_by rule source image store from stop = go (leb stop MAX_ROWS && leb (stop * PLACES) (length store))
  where
    go : (x : Bool) → cond x (wrong_row_of (places_fit_by rule source image store) (view_of store) stop 0 from) (Some 0) ≡ None
        → cond x (wrong_row_of (places_fit source image store) (view_of store) stop 0 from) (Some 0) ≡ None
    go true h =
        wrong_weaker (places_fit_by rule source image store) (places_fit source image store) (view_of store)
        (λ k. fits_by rule source image store k) stop 0 from h
    go false h = h

-- ---- whether a text is whole is asked at its start alone
part_whole : (o : List ℕ) (start size : ℕ) → start + size ≤ length o
    → (well_formed (take size (drop start o)) && not (cuts o start))
    ≡ (well_formed (take size (drop start o)) && not (cuts o start || cuts o (start + size)))
part_whole o start size h = go (well_formed (take size (drop start o))) refl (cuts o start) refl
  where
    n : start + size - start ≡ size
    n = omega arith

    go : (x : Bool) → well_formed (take size (drop start o)) ≡ x → (y : Bool) → cuts o start ≡ y → (x && not y) ≡ (x && not (y || cuts o (start + size)))
    go false e y f = refl
    go true e true f = refl
    go true e false f = sym (ap not (end_uncut o start (start + size) (omega arith) h (ap (λ (k : ℕ). well_formed (take k (drop start o))) n ∙ e) f))

pub whole_start : (source image store : List ℕ) (i : ℕ) (o : List ℕ) → origin_text source image (cell store i ORIGIN) ≡ o
    → cell store i START + cell store i SIZE ≤ length o
    → (well_formed (take (cell store i SIZE) (drop (cell store i START) o)) && not (cuts o (cell store i START))) ≡ text_whole source image store i
unfolding text_whole text_bytes
whole_start source image store i o e h = rw e (part_whole o (cell store i START) (cell store i SIZE) h)

-- ---- the fixed words
words_formed : well_formed words ≡ true
unfolding well_formed prefix run sequence followed row_in within words joined bytes
words_formed = refl

word_boundary : (k : ℕ) → k ≤ length words → boundary words k ≡ true
unfolding boundary
word_boundary k h = ap₂ (λ (a b : Bool). a && not b) (le-leb k (length words) h) (within_below 0x80 0xBF (get_or words k 0) (word_low k))

pub word_formed : (start size : ℕ) → start + size ≤ length words → well_formed (take size (drop start words)) ≡ true
word_formed start size h =
    let r = range_is words start (start + size) (omega arith) (word_boundary start (omega arith)) (word_boundary (start + size) h) in
    let n : start + size - start ≡ size = omega arith in
    sym (ap (λ (k : ℕ). well_formed (take k (drop start words))) n) ∙ well_formed_between words start (start + size) r words_formed

pub word_uncut : (start size : ℕ) → start + size ≤ length words → cuts words start ≡ false
word_uncut start size h = uncut words start (word_boundary start (omega arith))
