-- The image of contents that fit, if it isn't too long, is read as these contents, or refused by 1, 2, 6 or 7.
-- Assumes nothing.
use mathlib.Core.Path.{◌≡◌, refl, sym, ap, ap₂, subst}
use mathlib.Core.Bool.{Bool, true, false, cond, not, ◌&&◌, ◌||◌}
use mathlib.Core.Logic.{◌⊎◌, inl, inr}
use mathlib.Core.List.{List, [], ◌∷◌, ◌++◌}
use Prim.Native.Nat.{ℕ, ◌+◌, ◌*◌, ◌≤◌}
use native.Mathlib.Omega.{arith}
use lib.ListN.{length, length-append}
use lib.Dec.{ltb, leb, eqb}
use borrow.Author.Tests.{le-leb, le-ltb, eq-eqb}
use Rattle.laws.proofs.Booleans.{clash, and_false}
use Rattle.text.specs.Newlines.{is_range}
use Rattle.refusals.specs.Refusals.{is_one_of}
use Rattle.text.specs.Utf8.{prefix, well_formed}
use Rattle.image.specs.Bytes.{be16, be32}
use Rattle.image.specs.Limits.{MAX_BODY}
use Rattle.image.specs.Read.{Read, got, bad, bind, Image, Tree, version, width_bytes, header, header_fits, comment_fits, comments_from, comments}
use Rattle.image.specs.Read.{record_at, tree_at, read_tree, read_image, source_fits, read_with, step_of}
use Rattle.image.specs.Write.{Plain, bytes4, written, bytes2}
use Rattle.image.proofs.CommentList.{listed}
use Rattle.image.proofs.Whole.{image_next}
use Rattle.ast.specs.Syntax.{Span}
use Rattle.tree.specs.CommentList.{pairs_at, comments_of}
use Rattle.tree.specs.Contents.{pair_bytes, Contents, body_of, image_of, contents_of}
use Rattle.tree.proofs.WholeFits.{pairs_size}
use Rattle.tree.proofs.Stands.{Stands, stands_whole, stands_left, stands_right, stands_byte, stands_be32, stands_be16}
use Rattle.tree.proofs.Fits.{Listing, no_more, one_more, FitsAll, Suits, ranges, comments_fit}
use Rattle.tree.proofs.ReadsAgain.{Again, record_again}

-- ---- comments
-- pairs that stand somewhere are read there
pairs_are : (b : List ℕ) (cs : List Span) (at : ℕ) → Stands b at (pair_bytes cs) → pairs_at b (length cs) at ≡ cs
unfolding pairs_at
pairs_are b [] at s = refl
pairs_are b (c ∷ cs) at s =
    let from : be32 b at ≡ c.start = stands_be32 c.start (bytes4 c.end ++ pair_bytes cs) s in
    let to : be32 b (at + 4) ≡ c.end =
    stands_be32 c.end (pair_bytes cs) (stands_right (bytes4 c.start) (bytes4 c.end ++ pair_bytes cs) (at + 4) refl s)
    in
    rw (from, to, pairs_are b cs (at + 8) (stands_right (bytes4 c.start ++ bytes4 c.end) (pair_bytes cs) (at + 8) refl s))

-- they are listed, or refused by 7, where they don't fit the source
abbrev Seven : Bool → List ℕ → ℕ → List Span → Read Unit → Type 0
Seven o s least cs (got u e) = Unit {0}
Seven o s least cs (bad n p) = (n ≡ 7) × (comments_fit o s least cs ≡ false)

from_seven : (o : Bool) (s b : List ℕ) (cs : List Span) (least at : ℕ) → Stands b at (pair_bytes cs)
    → Seven o s least cs (comments_from o s b (length cs) least at)
unfolding comments_from comment_fits comments_fit
from_seven o s b [] least at st = tt
from_seven o s b (c ∷ cs) least at st =
    go (comment_fits s b least at) same
    (from_seven o s b cs (cond o c.end 0) (at + 8) (stands_right (bytes4 c.start ++ bytes4 c.end) (pair_bytes cs) (at + 8) refl st))
  where
    fits : Bool
    fits = leb least c.start && ltb c.start c.end && is_range s c.start c.end

    from : be32 b at ≡ c.start
    from = stands_be32 c.start (bytes4 c.end ++ pair_bytes cs) st

    to : be32 b (at + 4) ≡ c.end
    to = stands_be32 c.end (pair_bytes cs) (stands_right (bytes4 c.start) (bytes4 c.end ++ pair_bytes cs) (at + 4) refl st)

    same : comment_fits s b least at ≡ fits
    same = rw (from, to)

    later : (r : Read Unit) → Seven o s (cond o c.end 0) cs r → Seven o s least (c ∷ cs) r
    later (got u e) a = tt
    later (bad n p) a = (a.0, rw a.1 (and_false fits))

    go : (t : Bool) → t ≡ fits → Seven o s (cond o c.end 0) cs (comments_from o s b (length cs) (cond o c.end 0) (at + 8))
        → Seven o s least (c ∷ cs) (cond t (comments_from o s b (length cs) (cond o (be32 b (at + 4)) 0) (at + 8)) (bad 7 at))
    go true e a = rw to (later (comments_from o s b (length cs) (cond o c.end 0) (at + 8)) a)
    go false e a = (refl, rw (← e))

listing_size : {n : ℕ} {cs : List Span} → Listing n cs → length cs ≤ n
listing_size no_more = omega arith
listing_size (one_more order more) = omega (arith, listing_size more)

-- ---- the whole
-- these contents, or one of the numbers, where the source isn't one that fits
abbrev pub AgainAll : Bool → List ℕ → List ℕ → Contents → Read Image → Type 0
AgainAll o s b c (got i e) = contents_of b i ≡ c
AgainAll o s b c (bad n e) = (is_one_of n (1 ∷ 2 ∷ 6 ∷ 7 ∷ []) ≡ true) × (Suits o s c → ⊥)

-- an image of version n of these contents
pub record Writes (may : ℕ → Bool) (n : ℕ) (c : Contents) (b : List ℕ) : Type 0 where
  pub known : (n ≡ 1) ⊎ (n ≡ 2)
  pub may_be : may n ≡ true
  pub fits : FitsAll (width_bytes b) c
  pub image : image_of n c ≡ b
  pub short : length b ≤ 5 + MAX_BODY

module _ (may : ℕ → Bool) (ordered : Bool) (s b : List ℕ) (n : ℕ) (c : Contents) (w : Writes may n c b) where
  at_start : Stands b 0 (image_of n c)
  at_start = subst (Stands b 0) (sym w.image) (stands_whole b)

  size : length b ≡ 5 + length (body_of c)
  size = omega (arith, ap length (sym w.image))

  body : Stands b 5 (body_of c)
  body = stands_right (n ∷ bytes4 (length (body_of c))) (body_of c) 5 refl at_start

  pairs : Stands b 7 (pair_bytes c.comments ++ written c.tree)
  pairs = stands_right (bytes2 (length c.comments)) (pair_bytes c.comments ++ written c.tree) 7 refl body

  count_is : be16 b 5 ≡ length c.comments
  count_is = stands_be16 _ (pair_bytes c.comments ++ written c.tree) body

  of_version : version b ≡ n
  of_version = stands_byte _ _ at_start

  one_or_two : eqb n 1 || eqb n 2 ≡ true
  one_or_two = go w.known
    where
      go : (n ≡ 1) ⊎ (n ≡ 2) → eqb n 1 || eqb n 2 ≡ true
      go (inl e) = rw e
      go (inr e) = rw e

  header_right : header_fits may b ≡ true
  unfolding header
  header_right =
      let long : be32 b 1 ≡ length (body_of c) =
      stands_be32 _ (body_of c) (stands_right (n ∷ []) (bytes4 (length (body_of c)) ++ body_of c) 1 refl at_start)
      in
      simp (
        le-leb 5 (length b) (omega (arith, size)),
        of_version,
        one_or_two,
        long,
        eq-eqb (5 + length (body_of c)) (length b) (sym size),
        le-leb (length (body_of c)) 1048576 (omega (arith, size, w.short)),
        w.may_be,
      )

  pub comments_are : comments_of b ≡ c.comments
  unfolding comments_of
  comments_are = rw count_is (pairs_are b c.comments 7 (stands_left (pair_bytes c.comments) (written c.tree) pairs))

  tree_again : (at : ℕ) → at ≡ 7 + 8 * be16 b 5 → AgainAll ordered s b c (read_tree s b (width_bytes b) at)
  unfolding read_tree tree_at
  tree_again at e = go (record_at s b (width_bytes b) 64 1 at (length b)) again
    where
      tree : Stands b at (written c.tree)
      tree = stands_right (pair_bytes c.comments) (written c.tree) at (omega (arith, pairs_size c.comments, count_is)) pairs

      last : at + length (written c.tree) ≡ length b
      last = omega (arith, size, length-append (pair_bytes c.comments) (written c.tree), pairs_size c.comments, count_is)

      again : Again s b c.tree (at + length (written c.tree)) (record_at s b (width_bytes b) 64 1 at (length b))
      again = record_again s b (width_bytes b) w.fits.tree at (length b) tree (omega (arith, last))

      go : (r : Read Tree) → Again s b c.tree (at + length (written c.tree)) r
          → AgainAll ordered s b c (bind r (λ t q. cond (ltb q (length b)) (bad 4 q) (got (record { comments = be16 b 5; tree = t; at = at }) q)))
      go (got t q) a =
          rw (le-ltb q (length b) (omega (arith, a.1, last)))
          (ap₂ (λ (x : List Span) (y : Plain). record { comments = x; tree = y }) comments_are a.0)
      go (bad n q) a = (rw a.0, λ f. clash (ranges s c.tree) f.spans a.1)

  few : be16 b 5 ≤ 8192
  few = omega (arith, count_is, listing_size w.fits.listing)

  within : 7 + 8 * be16 b 5 ≤ length b
  within = omega (arith, size, length-append (pair_bytes c.comments) (written c.tree), pairs_size c.comments, count_is)

  seven : Seven ordered s 0 c.comments (comments ordered s b)
  unfolding comments
  seven =
      let here : leb 7 (length b) ≡ true = le-leb 7 (length b) (omega (arith, within)) in
      rw (here, le-leb (be16 b 5) 8192 few, le-leb (7 + 8 * be16 b 5) (length b) within, count_is)
      (from_seven ordered s b c.comments 0 7 (stands_left (pair_bytes c.comments) (written c.tree) pairs))

  image_again : AgainAll ordered s b c (read_image may ordered s b)
  unfolding read_image
  image_again = go (comments ordered s b) refl seven
    where
      go : (r : Read Unit) → comments ordered s b ≡ r → Seven ordered s 0 c.comments r → AgainAll ordered s b c (read_image may ordered s b)
      go (got u at) e h =
          rw (image_next may ordered s b at header_right (ap step_of e)) (tree_again at (listed ordered s b at (ap step_of e)).list.stop)
      go (bad n q) e h = rw (header_right, e) (rw h.0, λ f. clash (comments_fit ordered s 0 c.comments) f.listed h.1)

  pub all_again : AgainAll ordered s b c (read_with may ordered s b)
  unfolding read_with
  all_again = go (source_fits s) refl (well_formed s) refl
    where
      go : (x : Bool) → source_fits s ≡ x → (y : Bool) → well_formed s ≡ y
          → AgainAll ordered s b c (cond (not x) (bad 1 0) (cond (not y) (bad 2 (prefix s)) (read_image may ordered s b)))
      go false e y f = (refl, λ z. clash (source_fits s) z.short e)
      go true e false f = (refl, λ z. clash (well_formed s) z.formed f)
      go true e true f = image_again
