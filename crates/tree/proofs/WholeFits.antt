-- An image that the reader accepts says contents that fit, and is their image.
-- Assumes nothing.
use mathlib.Core.Path.{◌≡◌, refl, sym, ap, ◌∙◌}
use mathlib.Core.Bool.{Bool, true, false, cond, not}
use mathlib.Core.List.{List, [], ◌∷◌}
use Prim.Native.Nat.{ℕ, zero, suc, ◌+◌, ◌*◌, ◌≤◌, ◌<◌}
use native.Mathlib.Omega.{arith}
use lib.ListN.{length}
use lib.Dec.{leb}
use borrow.Author.Tests.{le-leb}
use Rattle.text.specs.Utf8.{well_formed}
use Rattle.image.specs.Bytes.{be16, be32}
use Rattle.image.specs.Limits.{MAX_BODY, MAX_COMMENTS}
use Rattle.image.specs.Read.{bad, step_of, source_fits, header_fits, comment_fits, comments_from, comments}
use Rattle.image.specs.Read.{got, Image, version, width_bytes, read_image, read_with, tree_at, document_of, outcome}
use Rattle.image.specs.Write.{bytes4, written, plain, Bytes}
use Rattle.image.proofs.Accepted.{Root, input, read_inside}
use Rattle.image.proofs.Versions.{two_or_none}
use Rattle.image.proofs.Exact.{tree_exact}
use Rattle.ast.specs.Syntax.{Span}
use Rattle.tree.specs.CommentList.{pairs_at, comments_of}
use Rattle.tree.specs.Contents.{pair_bytes, body_of, image_of, contents_of}
use Rattle.tree.proofs.Took.{took_all, Took, took_none, took_join, took_part, took_byte, took_four, took_two}
use Rattle.refusals.specs.Answers.{accepted}
use Rattle.tree.proofs.Fits.{comments_fit, Suits, Listing, no_more, one_more, FitsAll}
use Rattle.image.proofs.Got.{stayed, bind_got}
use Rattle.tree.proofs.ReadFits.{Right, record_fits}

-- ---- comments
-- those of the image, each not empty
listing_of : (b : List ℕ) (n m at : ℕ) → n ≤ m → ((i : ℕ) → i < n → be32 b (at + 8 * i) < be32 b (at + 8 * i + 4)) → Listing m (pairs_at b n at)
unfolding pairs_at
listing_of b zero m at le h = no_more
listing_of b (suc n) zero at le h = absurd (omega arith)
listing_of b (suc n) (suc m) at le h =
    let z : at + 8 * 0 ≡ at = omega arith in
    let later : (i : ℕ) → i < n → be32 b (at + 8 + 8 * i) < be32 b (at + 8 + 8 * i + 4) =
    λ i l. let e : at + 8 * suc i ≡ at + 8 + 8 * i = omega arith in rw e at (h (suc i) (omega arith))
    in
    one_more (rw z at (h 0 (omega arith))) (listing_of b n m (at + 8) (omega arith) later)

pub pairs_length : (b : List ℕ) (n at : ℕ) → length (pairs_at b n at) ≡ n
unfolding pairs_at
pairs_length b zero at = refl
pairs_length b (suc n) at = ap suc (pairs_length b n (at + 8))

-- how long they are as they are written
pub pairs_size : (cs : List Span) → length (pair_bytes cs) ≡ 8 * length cs
pairs_size [] = refl
pairs_size (c ∷ cs) = let e = pairs_size cs in omega arith

-- those that were read fit the source
fit_from : (o : Bool) (s b : List ℕ) (n least at q : ℕ) → step_of (comments_from o s b n least at) ≡ accepted q
    → comments_fit o s least (pairs_at b n at) ≡ true
unfolding comments_from comment_fits pairs_at comments_fit
fit_from o s b zero least at q e = refl
fit_from o s b (suc n) least at q e = go (comment_fits s b least at) refl e (fit_from o s b n (cond o (be32 b (at + 4)) 0) (at + 8) q)
  where
    go : (t : Bool) → comment_fits s b least at ≡ t
        → step_of (cond t (comments_from o s b n (cond o (be32 b (at + 4)) 0) (at + 8)) (bad 7 at)) ≡ accepted q
        → (step_of (comments_from o s b n (cond o (be32 b (at + 4)) 0) (at + 8)) ≡ accepted q
        → comments_fit o s (cond o (be32 b (at + 4)) 0) (pairs_at b n (at + 8)) ≡ true)
        → comments_fit o s least (pairs_at b (suc n) at) ≡ true
    go true f e more = rw (f, more e)
    go false f e more = let z : ◌≡◌ {A = ℕ} 0 1 = cc in absurd (omega arith)

list_fits : (o : Bool) (s b : List ℕ) (q : ℕ) → step_of (comments o s b) ≡ accepted q → be16 b 5 ≤ 8192 → 7 + 8 * be16 b 5 ≤ length b
    → comments_fit o s 0 (comments_of b) ≡ true
unfolding comments comments_of
list_fits o s b q e few within =
    let here : leb 7 (length b) ≡ true = le-leb 7 (length b) (omega arith) in
    fit_from o s b (be16 b 5) 0 7 q (rw (here, le-leb (be16 b 5) 8192 few, le-leb (7 + 8 * be16 b 5) (length b) within) at e)

-- and their bytes
pub pairs_took : (b : List ℕ) (n at end : ℕ) → end ≡ at + 8 * n → end ≤ length b → Took b at end (pair_bytes (pairs_at b n at))
unfolding pairs_at
pairs_took b zero at end e h = let same : at ≡ end = omega arith in rw (← same) (took_none b at (omega arith))
pairs_took b (suc n) at end e h =
    took_join (took_four b at (at + 4) refl (omega arith))
    (took_join (took_four b (at + 4) (at + 8) (omega arith) (omega arith)) (pairs_took b n (at + 8) end (omega arith) h))

-- ---- the whole
-- what an accepted reading was made of
pub record Read-as (may : ℕ → Bool) (ordered : Bool) (s b : List ℕ) (i : Image) : Type 0 where
  pub short : length s ≤ 65536
  pub formed : well_formed s ≡ true
  pub root : Root may ordered s b i.comments i.at
  pub tree : i.tree ≡ root.tree

pub read_as : (may : ℕ → Bool) (ordered : Bool) (s b : List ℕ) (i : Image) (end : ℕ) → read_with may ordered s b ≡ got i end
    → Read-as may ordered s b i
read_as may ordered s b i end h =
    let a = input may ordered s b (document_of i) (ap outcome h) in
    let same : read_with may ordered s b ≡ read_image may ordered s b = read_inside may ordered s b a.short a.well in
    let is : i ≡ record { comments = i.comments; tree = a.root.tree; at = i.at } = cc (sym same ∙ h, a.root.whole) in
    record { short = a.short; formed = a.well; root = a.root; tree = ap (λ (j : Image). j.tree) is }

module _ (may : ℕ → Bool) (ordered : Bool) (s b : List ℕ) (small : Bytes b) (i : Image) (read : Read-as may ordered s b i) where
  r : Root may ordered s b i.comments i.at
  r = read.root

  tree_right : Right s (width_bytes b) 64 1 (plain b r.tree)
  unfolding tree_at r
  tree_right = record_fits s b small (width_bytes b) (two_or_none b) 64 1 i.at (length b) r.tree (length b) (omega arith) r.reads

  pub whole_fits : FitsAll (width_bytes b) (contents_of b i)
  unfolding comments_of tree_at r
  whole_fits =
      record {
        listing = listing_of b (be16 b 5) MAX_COMMENTS 7 r.list.few (λ k h. (r.list.list.each k h).order);
        tree = rw read.tree tree_right.fit;
      }

  -- the body's bytes, and the image's
  body_took : Took b 5 (length b) (body_of (contents_of b i))
  unfolding comments_of r
  body_took =
      let n = be16 b 5 in
      let at-is : i.at ≡ 7 + 8 * n = omega (arith, r.place, r.count) in
      let last : Took b i.at (length b) (written (plain b i.tree)) =
      rw (read.tree, ← tree_exact may ordered s b i.comments i.at small r)
      (took_part b i.at (length b) (omega (arith, r.list.within)) (omega arith))
      in
      rw (pairs_length b n 7)
      (took_join (took_two b 5 7 refl (omega (arith, r.list.within)))
      (took_join (pairs_took b n 7 i.at at-is (omega (arith, r.list.within))) last))

  pub image_is : image_of (version b) (contents_of b i) ≡ b
  unfolding r
  image_is =
      let size : be32 b 1 ≡ length (body_of (contents_of b i)) = omega (arith, r.head.size, body_took.ends) in
      let one : Took b 0 1 (version b ∷ []) = took_byte b 0 (omega (arith, r.head.size)) in
      let head : Took b 1 5 (bytes4 (length (body_of (contents_of b i)))) = rw (← size) (took_four b 1 5 refl (omega (arith, r.head.size))) in
      sym (took_all (took_join one (took_join head body_took)) small)

  pub image_short : length b ≤ 5 + MAX_BODY
  unfolding r
  image_short = omega (arith, r.head.size, r.head.short)

  -- the source is one that fits
  pub suits : Suits ordered s (contents_of b i)
  unfolding comments_of r source_fits read_image
  suits =
      let held = stayed (not (header_fits may b)) _ 3 0 _ _ r.whole in
      let listed = bind_got (comments ordered s b) _ _ _ held.1 in
      record {
        short = le-leb (length s) 65536 read.short;
        formed = read.formed;
        listed = list_fits ordered s b listed.1 (ap step_of listed.2) r.list.few r.list.within;
        spans = rw read.tree tree_right.spans;
      }
