-- What the strict rule accepts, the earlier one accepts with the same tree: it asks of each comment what the strict one asks, but for the order.
-- Assumes nothing.
use mathlib.Core.Path.{◌≡◌, refl, ap, ◌∙◌}
use mathlib.Core.Bool.{Bool, true, false, cond, not, ◌&&◌}
use mathlib.Core.List.{List}
use Prim.Native.Nat.{ℕ, zero, suc, ◌+◌, ◌*◌}
use native.Mathlib.Omega.{arith}
use borrow.Author.Tests.{le-leb}
use lib.ListN.{length}
use lib.Dec.{leb, ltb}
use Rattle.text.specs.Utf8.{well_formed}
use Rattle.text.specs.Newlines.{is_range}
use Rattle.refusals.specs.Answers.{accepted}
use Rattle.laws.proofs.Booleans.{and_left, and_right}
use Rattle.std.specs.Prelude.{None as nothing}
use Rattle.image.specs.Bytes.{be16, be32}
use Rattle.image.specs.Read.{Read, got, bad, Image, any_version, header_fits, comment_fits, comments_from, comments, width_bytes, read_tree}
use Rattle.image.specs.Read.{read_image, source_fits, read_with, read_all, read_earlier, read_by, StrictIsEarlier, read_refusal, outcome, Accepts}
use Rattle.image.specs.declared.Document.{Document}
use Rattle.image.proofs.Got.{bind_got, passed, stayed}

fits_anywhere : (s b : List ℕ) (least at : ℕ) → comment_fits s b least at ≡ true → comment_fits s b 0 at ≡ true
unfolding comment_fits
fits_anywhere s b least at e =
    let starts = leb least (be32 b at) in
    let order = ltb (be32 b at) (be32 b (at + 4)) in
    let range = is_range s (be32 b at) (be32 b (at + 4)) in
    rw (le-leb 0 (be32 b at) (omega arith), and_right starts order (and_left (starts && order) range e), and_right (starts && order) range e) refl

from_earlier : (s b : List ℕ) (n least at : ℕ) (u : Unit) (e : ℕ) → comments_from true s b n least at ≡ got u e → comments_from false s b n 0 at ≡ got u e
unfolding comments_from
from_earlier s b zero least at u e h = h
from_earlier s b (suc n) least at u e h =
    let p = passed (comment_fits s b least at) _ 7 at u e h in
    rw (fits_anywhere s b least at p.0) (from_earlier s b n (be32 b (at + 4)) (at + 8) u e p.1)

comments_earlier : (s b : List ℕ) (u : Unit) (e : ℕ) → comments true s b ≡ got u e → comments false s b ≡ got u e
unfolding comments
comments_earlier s b u e h =
    let p = passed (leb 7 (length b) && leb (be16 b 5) 8192 && leb (7 + 8 * be16 b 5) (length b)) _ 7 5 u e h in
    rw p.0 (from_earlier s b (be16 b 5) 0 7 u e p.1)

image_earlier : (may : ℕ → Bool) (s b : List ℕ) (i : Image) (e : ℕ) → read_image may true s b ≡ got i e → read_image may false s b ≡ got i e
unfolding read_image
image_earlier may s b i e h =
    let fits = stayed (not (header_fits may b)) _ 3 0 i e h in
    let list = bind_got (comments true s b) (λ done at. read_tree s b (width_bytes b) at) i e fits.1 in
    rw (fits.0, comments_earlier s b list.0 list.1 list.2) list.3

pub strict_is_earlier : StrictIsEarlier
unfolding read_with
strict_is_earlier may s b i e h =
    let short = stayed (not (source_fits s)) _ 1 0 i e h in
    let well = stayed (not (well_formed s)) _ 2 _ i e short.1 in
    rw (short.0, well.0) (image_earlier may s b i e well.1)

-- so where no entry but the archive's refuses, that one doesn't
pub none_earlier : (s b : List ℕ) → read_refusal (read_all s b) ≡ nothing → read_refusal (read_earlier s b) ≡ nothing
none_earlier s b h = go (read_all s b) refl h
  where
    go : (r : Read Image) → read_all s b ≡ r → read_refusal r ≡ nothing → read_refusal (read_earlier s b) ≡ nothing
    go (got i e) f k = rw (strict_is_earlier any_version s b i e f) refl
    go (bad n p) f k = cc

-- and whichever entry doesn't refuse, the archive entry doesn't
pub none_either : (archive : Bool) (s b : List ℕ) → cond archive (read_refusal (read_earlier s b)) (read_refusal (read_all s b)) ≡ nothing
    → read_refusal (read_earlier s b) ≡ nothing
none_either true s b h = h
none_either false s b h = none_earlier s b h

-- what the reading of an entry refuses
pub refusal_by : (archive : Bool) (s b : List ℕ)
    → read_refusal (read_by archive s b) ≡ cond archive (read_refusal (read_earlier s b)) (read_refusal (read_all s b))
refusal_by true s b = refl
refusal_by false s b = refl

-- and whichever entry accepts, the archive entry accepts with the same answer
pub accepts_by : (archive : Bool) (s b : List ℕ) (d : Document) → outcome (read_by archive s b) ≡ accepted d → Accepts s b d
accepts_by true s b d h = record { answer = h }
accepts_by false s b d h = go (read_all s b) refl h
  where
    go : (r : Read Image) → read_all s b ≡ r → outcome r ≡ accepted d → Accepts s b d
    go (got i e) f k = record { answer = ap outcome (strict_is_earlier any_version s b i e f) ∙ k }
    go (bad n p) f k = let z : ◌≡◌ {A = ℕ} 0 1 = cc in absurd (omega arith)
