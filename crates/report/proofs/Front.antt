-- What is kept of a file is answered as the whole file is: one that has more is refused by 1, 2 or 3.
-- Assumes nothing.
use mathlib.Core.Path.{◌≡◌, refl, sym, ap, ap₂, ◌∙◌}
use mathlib.Core.Bool.{Bool, true, false, cond, not, ◌&&◌}
use mathlib.Core.List.{List, [], ◌∷◌}
use Prim.Native.Nat.{ℕ, zero, suc, ◌+◌, ◌≤◌, ◌<◌}
use native.Mathlib.Omega.{arith}
use native.Mathlib.Decide.{dec_le}
use borrow.Author.Tests.{lt-leb}
use lib.Dec.{eqb}
use lib.ListN.{length, take, length-take}
use lib.Seq.{take_all}
use Rattle.image.specs.Limits.{MAX_SOURCE, MAX_BODY}
use Rattle.image.specs.Read.{Read, bad, Image, version, any_version, header_fits, read_image, source_fits, read_with, read_all, outcome}
use Rattle.image.proofs.Accepted.{headed}
use Rattle.refusals.specs.Reasons.{number_of}
use Rattle.refusals.specs.declared.Refused.{Refused}
use Rattle.refusals.specs.declared.Reason.TheVariants as reason
use Rattle.text.specs.Utf8.{prefix, well_formed}
use Rattle.tallies.specs.declared.Tallies.{Tallies}
use Rattle.figures.specs.Figures.{count_answer}
use Rattle.figures.proofs.Counting.{rule_refused, check_refused}
use Rattle.widths.specs.Rules.{SUPPLIED, UNICODE_16_0}
use Rattle.cut_rule.specs.Parts.{rule_line}
use Rattle.whole_run.specs.Parts.{other_rule}
use Rattle.report.specs.Front.{SOURCE_KEPT, IMAGE_KEPT, FrontIsEnough}

-- what is kept of an image has its first byte, and so its version
first_kept : (n : ℕ) (b : List ℕ) → 0 < n → version (take n b) ≡ version b
first_kept zero b h = absurd (omega arith)
first_kept (suc n) [] h = refl
first_kept (suc n) (x ∷ b) h = refl

-- files of the same version that the reader refuses alike are answered alike
refused_alike : (s b s2 b2 : List ℕ) (t : Tallies) (w : Refused) → version b ≡ version b2 → read_all s b ≡ bad (number_of w.reason) w.place
    → read_all s2 b2 ≡ bad (number_of w.reason) w.place
    → count_answer s b t ≡ count_answer s2 b2 t
refused_alike s b s2 b2 t w v e f = go (other_rule b SUPPLIED) refl
  where
    -- 20 asks for the version alone
    other : other_rule b2 SUPPLIED ≡ other_rule b SUPPLIED
    other = ap (λ (n : ℕ). eqb n 2 && not (eqb SUPPLIED UNICODE_16_0)) (sym v)

    twenty : Refused
    twenty = record { reason = reason.Rule; place = 0 }

    go : (x : Bool) → other_rule b SUPPLIED ≡ x → count_answer s b t ≡ count_answer s2 b2 t
    go true h =
        let line = λ (y : Bool). rule_line y SUPPLIED in
        sym (rule_refused s b t twenty (ap line (sym h))) ∙ rule_refused s2 b2 t twenty (ap line (sym (other ∙ h)))
    go false h =
        let line = λ (y : Bool). rule_line y SUPPLIED in
        sym (check_refused s b (ap line h) t w (ap outcome e)) ∙ check_refused s2 b2 (ap line (other ∙ h)) t w (ap outcome f)

-- ---- a source that is too long
too_long : (s b : List ℕ) → MAX_SOURCE < length s → read_all s b ≡ bad 1 0
unfolding read_with source_fits
too_long s b h = rw (lt-leb (length s) MAX_SOURCE h)

long_source : (s b b2 : List ℕ) (t : Tallies) → version b2 ≡ version b → SOURCE_KEPT < length s → count_answer (take SOURCE_KEPT s) b2 t ≡ count_answer s b t
long_source s b b2 t v h =
    refused_alike (take SOURCE_KEPT s) b2 s b t (record { reason = reason.SourceTooLong; place = 0 }) v
    (too_long (take SOURCE_KEPT s) b2 (omega (arith, length-take SOURCE_KEPT s)))
    (too_long s b (omega arith))

-- ---- an image that is too long
-- what the reader says of it, by what it says of the source
abbrev Sourced : Bool → Bool → ℕ → Read Image
Sourced fits formed p = cond (not fits) (bad 1 0) (cond (not formed) (bad 2 p) (bad 3 0))

no_header : (b : List ℕ) → 5 + MAX_BODY < length b → header_fits any_version b ≡ false
no_header b h = go (header_fits any_version b) refl
  where
    go : (x : Bool) → header_fits any_version b ≡ x → x ≡ false
    go false e = refl
    go true e = absurd (omega (arith, (headed any_version b e).size, (headed any_version b e).short))

sourced : (s b : List ℕ) → 5 + MAX_BODY < length b → read_all s b ≡ Sourced (source_fits s) (well_formed s) (prefix s)
unfolding read_with read_image
sourced s b h = rw (no_header b h)

alike_with : (fits formed : Bool) (q : ℕ) (s b b2 : List ℕ) (t : Tallies) → version b ≡ version b2
    → read_all s b ≡ Sourced fits formed q → read_all s b2 ≡ Sourced fits formed q
    → count_answer s b t ≡ count_answer s b2 t
alike_with false formed q s b b2 t v e f = refused_alike s b s b2 t (record { reason = reason.SourceTooLong; place = 0 }) v e f
alike_with true false q s b b2 t v e f = refused_alike s b s b2 t (record { reason = reason.SourceNotUtf8; place = q }) v e f
alike_with true true q s b b2 t v e f = refused_alike s b s b2 t (record { reason = reason.Header; place = 0 }) v e f

long_image : (s b : List ℕ) (t : Tallies) → IMAGE_KEPT < length b → count_answer s (take IMAGE_KEPT b) t ≡ count_answer s b t
long_image s b t h =
    alike_with (source_fits s) (well_formed s) (prefix s) s (take IMAGE_KEPT b) b t (first_kept IMAGE_KEPT b (omega arith))
    (sourced s (take IMAGE_KEPT b) (omega (arith, length-take IMAGE_KEPT b)))
    (sourced s b (omega arith))

pub front_is_enough : FrontIsEnough
front_is_enough s b t = go (dec_le (length s) SOURCE_KEPT) (dec_le (length b) IMAGE_KEPT)
  where
    go : Dec (length s ≤ SOURCE_KEPT) → Dec (length b ≤ IMAGE_KEPT) → count_answer (take SOURCE_KEPT s) (take IMAGE_KEPT b) t ≡ count_answer s b t
    go (yes h) (yes i) = ap₂ (λ (x y : List ℕ). count_answer x y t) (take_all SOURCE_KEPT s h) (take_all IMAGE_KEPT b i)
    go (yes h) (no i) =
        ap (λ (x : List ℕ). count_answer x (take IMAGE_KEPT b) t) (take_all SOURCE_KEPT s h) ∙ long_image s b t (omega arith)
    go (no h) i = long_source s b (take IMAGE_KEPT b) t (first_kept IMAGE_KEPT b (omega arith)) (omega arith)
