-- Comments in order: those that a strict reading lets pass, and those that either reading reads alike.
-- Assumes nothing.
use mathlib.Core.Path.{◌≡◌, refl, ap, ◌∙◌}
use mathlib.Core.Bool.{Bool, true, false, cond, not, ◌&&◌}
use mathlib.Core.List.{List, [], ◌∷◌}
use Prim.Native.Nat.{ℕ, zero, suc, ◌+◌, ◌*◌, ◌≤◌, ◌<◌}
use native.Mathlib.Omega.{arith}
use lib.Dec.{ltb, leb}
use lib.ListN.{length}
use borrow.Author.Tests.{le-leb, leb-true}
use Rattle.laws.proofs.Booleans.{and_left, and_right}
use Rattle.text.specs.Newlines.{is_range}
use Rattle.text.specs.Utf8.{prefix, well_formed}
use Rattle.image.specs.Bytes.{be16, be32}
use Rattle.image.specs.Read.{Read, Image, got, bad, bind, header_fits, comment_fits, comments_from, comments, width_bytes, read_tree, read_image}
use Rattle.image.specs.Read.{source_fits, read_with}
use Rattle.ast.specs.Syntax.{Span}
use Rattle.image.proofs.Got.{bind_got, passed, stayed}
use Rattle.image.proofs.Earlier.{strict_is_earlier}
use Rattle.tree.specs.CommentList.{pairs_at, comments_of}
use Rattle.tree.specs.InOrder.{comment_at, InOrder, StrictIsInOrder}
use Rattle.tree.proofs.Fits.{comments_fit}

-- each starts at the end of the one before or after it, the first at `least` or after it
unfoldable pub in_order : ℕ → List Span → Bool
in_order least [] = true
in_order least (c ∷ cs) = leb least c.start && in_order c.end cs

-- ---- what fits by the strict rule is in order
pub strict_order : (s : List ℕ) (cs : List Span) (least : ℕ) → comments_fit true s least cs ≡ true → in_order least cs ≡ true
unfolding comments_fit in_order
strict_order s [] least h = refl
strict_order s (c ∷ cs) least h =
    let starts = leb least c.start in
    let order = ltb c.start c.end in
    let range = is_range s c.start c.end in
    let rest = comments_fit true s c.end cs in
    let here = and_left starts order (and_left (starts && order) range (and_left (starts && order && range) rest h)) in
    rw (here, strict_order s cs c.end (and_right (starts && order && range) rest h)) refl

-- ---- what is in order is read alike by both rules
from_alike : (s b : List ℕ) (n least at : ℕ) → in_order least (pairs_at b n at) ≡ true
    → comments_from true s b n least at ≡ comments_from false s b n 0 at
unfolding comments_from comment_fits pairs_at in_order
from_alike s b zero least at h = refl
from_alike s b (suc n) least at h =
    let starts = leb least (be32 b at) in
    let later = in_order (be32 b (at + 4)) (pairs_at b n (at + 8)) in
    rw (and_left starts later h, le-leb 0 (be32 b at) (omega arith), from_alike s b n (be32 b (at + 4)) (at + 8) (and_right starts later h)) refl

comments_alike : (s b : List ℕ) → in_order 0 (comments_of b) ≡ true → comments true s b ≡ comments false s b
unfolding comments comments_of
comments_alike s b h =
    let counted = leb 7 (length b) && leb (be16 b 5) 8192 && leb (7 + 8 * be16 b 5) (length b) in
    ap (λ (r : Read Unit). cond counted r (bad 7 5)) (from_alike s b (be16 b 5) 0 7 h)

pub read_alike : (may : ℕ → Bool) (s b : List ℕ) → in_order 0 (comments_of b) ≡ true → read_with may true s b ≡ read_with may false s b
unfolding read_with read_image
read_alike may s b h =
    let rest : Read Unit → Read Image = λ r.
    cond (not (source_fits s)) (bad 1 0)
    (cond (not (well_formed s)) (bad 2 (prefix s))
    (cond (not (header_fits may b)) (bad 3 0) (bind r (λ done at. read_tree s b (width_bytes b) at))))
    in
    ap rest (comments_alike s b h)

-- ---- what the strict rule read is in order
from_ordered : (s b : List ℕ) (n least at : ℕ) (u : Unit) (e : ℕ) → comments_from true s b n least at ≡ got u e → in_order least (pairs_at b n at) ≡ true
unfolding comments_from comment_fits pairs_at in_order
from_ordered s b zero least at u e h = refl
from_ordered s b (suc n) least at u e h =
    let starts = leb least (be32 b at) in
    let order = ltb (be32 b at) (be32 b (at + 4)) in
    let range = is_range s (be32 b at) (be32 b (at + 4)) in
    let p = passed (starts && order && range) _ 7 at u e h in
    rw (and_left starts order (and_left (starts && order) range p.0), from_ordered s b n (be32 b (at + 4)) (at + 8) u e p.1) refl

comments_ordered : (s b : List ℕ) (u : Unit) (e : ℕ) → comments true s b ≡ got u e → in_order 0 (comments_of b) ≡ true
unfolding comments comments_of
comments_ordered s b u e h =
    let counted = leb 7 (length b) && leb (be16 b 5) 8192 && leb (7 + 8 * be16 b 5) (length b) in
    from_ordered s b (be16 b 5) 0 7 u e (passed counted _ 7 5 u e h).1

read_ordered : (may : ℕ → Bool) (s b : List ℕ) (i : Image) (e : ℕ) → read_with may true s b ≡ got i e → in_order 0 (comments_of b) ≡ true
unfolding read_with read_image
read_ordered may s b i e h =
    let short = stayed (not (source_fits s)) _ 1 0 i e h in
    let well = stayed (not (well_formed s)) _ 2 (prefix s) i e short.1 in
    let fits = stayed (not (header_fits may b)) _ 3 0 i e well.1 in
    let list = bind_got (comments true s b) (λ done at. read_tree s b (width_bytes b) at) i e fits.1 in
    comments_ordered s b list.0 list.1 list.2

-- ---- in the ticket's words
neighbours : (least : ℕ) (cs : List Span) → in_order least cs ≡ true → InOrder cs
unfolding in_order
neighbours least [] h i k = absurd (omega arith)
neighbours least (c ∷ []) h i k = absurd (omega arith)
neighbours least (c ∷ d ∷ cs) h zero k =
    let rest = and_right (leb least c.start) (leb c.end d.start && in_order d.end cs) h in
    leb-true c.end d.start (and_left (leb c.end d.start) (in_order d.end cs) rest)
neighbours least (c ∷ d ∷ cs) h (suc i) k =
    neighbours c.end (d ∷ cs) (and_right (leb least c.start) (leb c.end d.start && in_order d.end cs) h) i (omega arith)

ordered_from : (least : ℕ) (cs : List Span) → (0 < length cs → least ≤ (comment_at cs 0).start) → InOrder cs → in_order least cs ≡ true
unfolding in_order
ordered_from least [] first h = refl
ordered_from least (c ∷ cs) first h =
    rw (le-leb least c.start (first (omega arith)), ordered_from c.end cs (λ k. h 0 (omega arith)) (λ i k. h (suc i) (omega arith))) refl

pub strict_is_in_order : StrictIsInOrder
strict_is_in_order may s b i e = record {
  earlier = strict_is_earlier may s b i e;
  in_order = λ h. neighbours 0 (comments_of b) (read_ordered may s b i e h);
  strict = λ h k. read_alike may s b (ordered_from 0 (comments_of b) (λ g. omega arith) k) ∙ h;
}
