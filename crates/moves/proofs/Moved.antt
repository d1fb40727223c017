-- Either move after the other returns the identical bytes.
-- Assumes nothing.
use mathlib.Core.Path.{◌≡◌, refl, sym, ap, subst, ◌∙◌}
use mathlib.Core.Bool.{Bool, true, false, ◌||◌}
use mathlib.Core.Logic.{inr, inl}
use mathlib.Core.List.{List, [], ◌∷◌}
use Prim.Native.Nat.{ℕ, ◌+◌, ◌≤◌}
use native.Mathlib.Omega.{arith}
use lib.Dec.{eqb, ltb}
use lib.ListN.{length, length-append}
use borrow.Author.Tests.{le-ltb, eqb-true, ltb-false}
use Rattle.std.specs.Prelude.{Option, None, Some}
use Rattle.refusals.specs.Refusals.{Refusal, first, refuse_if, refuse_at}
use Rattle.image.specs.Limits.{MAX_BODY}
use Rattle.image.specs.Read.{Read, got, bad, Image, version, read_version, read_refusal}
use Rattle.image.specs.Write.{Bytes, Plain, written, plain}
use Rattle.image.proofs.Versions.{two_bytes, no_bytes}
use Rattle.tree.specs.Contents.{Contents, pair_bytes, image_of, contents_of}
use Rattle.tree.proofs.Fits.{FitsAll, Suits}
use Rattle.tree.proofs.WholeFits.{Read-as, read_as, whole_fits, image_is, image_short, suits}
use Rattle.tree.proofs.WholeAgain.{Writes, AgainAll, all_again}
use Rattle.moves.specs.Moves.{dropped, widened, forward_of, back_of, moved, read_forward, read_back, forward_image, back_image}
use Rattle.moves.specs.Moves.{texts_where, is_wrong, is_wide, first_where, head_of, forward_refusal, back_refusal}
use Rattle.moves.specs.Returns.{Returned, BackAfterForward, ForwardAfterBack}
use Rattle.moves.proofs.Trees.{ranges_dropped, widened_dropped, fits_dropped, clean, ranges_widened, dropped_widened, clean_widened, fits_widened}
use Rattle.moves.proofs.Sought.{none_clean, clean_none, clean_wide, dropped_size}

abbrev down : Contents → Contents
down c = record { comments = c.comments; tree = dropped c.tree }

abbrev up : Contents → Contents
up c = record { comments = c.comments; tree = widened false c.tree }

-- ---- what the three lines tell
-- what was read, where nothing refuses
record Passed (test : Bool → List ℕ → Bool) (r : Read Image) (b : List ℕ) (last : Option Refusal) : Type 0 where
  image : Image
  end : ℕ
  is : r ≡ got image end
  none : texts_where test b false image.tree ≡ []
  room : last ≡ None

passed_by : (test : Bool → List ℕ → Bool) (r : Read Image) (b : List ℕ) (last : Option Refusal)
    → first (read_refusal r ∷ refuse_at (head_of (first_where test b r)) 21 ∷ last ∷ []) ≡ None → Passed test r b last
passed_by test (bad n p) b last h = cc
passed_by test (got i end) b last h = go (texts_where test b false i.tree) refl h
  where
    go : (l : List ℕ) → texts_where test b false i.tree ≡ l → first (refuse_at (head_of l) 21 ∷ last ∷ []) ≡ None → Passed test (got i end) b last
    go (x ∷ xs) e h = cc
    go [] e h = record { image = i; end = end; is = refl; none = e; room = alone last h }
      where
        alone : (o : Option Refusal) → first (o ∷ []) ≡ None → o ≡ None
        alone None h = refl
        alone (Some r) h = h

passes : (test : Bool → List ℕ → Bool) (r : Read Image) (i : Image) (end : ℕ) (b : List ℕ) (last : Option Refusal) → r ≡ got i end
    → texts_where test b false i.tree ≡ [] → last ≡ None
    → first (read_refusal r ∷ refuse_at (head_of (first_where test b r)) 21 ∷ last ∷ []) ≡ None
passes test r i end b last e n l = rw (e, n, l)

-- ---- an image of one version, read as the other's contents were
-- what is read of the moved image
record Again (n : ℕ) (s b : List ℕ) (c : Contents) : Type 0 where
  image : Image
  end : ℕ
  reads : read_version n false s b ≡ got image end
  same : contents_of b image ≡ c

again : (n : ℕ) (s b : List ℕ) (c : Contents) → Writes (eqb n) n c b → Suits false s c → Again n s b c
again n s b c w f = go (read_version n false s b) refl (all_again (eqb n) false s b n c w)
  where
    go : (r : Read Image) → read_version n false s b ≡ r → AgainAll false s b c r → Again n s b c
    go (got i end) e a = record { image = i; end = end; reads = e; same = a }
    go (bad m p) e a = absurd (a.1 f)

-- ---- forward, then back
module _ (s b : List ℕ) (room : ℕ) (small : Bytes b) (h : forward_refusal s b room ≡ None) where
  f : Passed is_wrong (read_forward s b) b (refuse_if (ltb room (length (forward_image s b))) 17 (length (forward_image s b)))
  f = passed_by is_wrong (read_forward s b) b _ h

  c : Contents
  c = contents_of b f.image

  read : Read-as (eqb 1) false s b f.image
  read = read_as (eqb 1) false s b f.image f.end f.is

  one : version b ≡ 1
  one = sym (eqb-true 1 (version b) read.root.head.may_be)

  fits : FitsAll 2 (contents_of b f.image)
  fits = subst (λ (v : ℕ). FitsAll v (contents_of b f.image)) (two_bytes b one) (whole_fits (eqb 1) false s b small f.image read)

  whole : image_of 1 (contents_of b f.image) ≡ b
  whole = ap (λ (n : ℕ). image_of n (contents_of b f.image)) (sym one) ∙ image_is (eqb 1) false s b small f.image read

  short : length b ≤ 5 + MAX_BODY
  short = image_short (eqb 1) false s b small f.image read

  b2 : List ℕ
  b2 = forward_of (contents_of b f.image)

  forward_is : forward_image s b ≡ forward_of (contents_of b f.image)
  forward_is = ap (moved forward_of b) f.is

  shorter : length (forward_of (contents_of b f.image)) ≤ length b
  shorter =
      let x = contents_of b f.image in
      let p = length-append (pair_bytes x.comments) (written (dropped x.tree)) in
      let q = length-append (pair_bytes x.comments) (written x.tree) in
      omega (arith, p, q, dropped_size x.tree, ap length whole)

  writes : Writes (eqb 2) 2 (down (contents_of b f.image)) (forward_of (contents_of b f.image))
  writes =
      record {
        known = inr refl;
        may_be = refl;
        fits =
            subst (λ (v : ℕ). FitsAll v (down (contents_of b f.image))) (sym (no_bytes (forward_of (contents_of b f.image)) refl))
            (record { listing = fits.listing; tree = fits_dropped fits.tree });
        image = refl;
        short = omega (arith, shorter, short);
      }

  suiting : Suits false s (down (contents_of b f.image))
  suiting =
      let z = suits (eqb 1) false s b small f.image read in
      record { short = z.short; formed = z.formed; listed = z.listed; spans = ranges_dropped s (contents_of b f.image).tree ∙ z.spans }

  second : Again 2 s (forward_of (contents_of b f.image)) (down (contents_of b f.image))
  second = again 2 s (forward_of (contents_of b f.image)) (down (contents_of b f.image)) writes suiting

  clean_one : clean is_wrong false (contents_of b f.image).tree ≡ true
  clean_one = none_clean is_wrong b false f.image.tree f.none

  back_to : up (down (contents_of b f.image)) ≡ contents_of b f.image
  back_to =
      ap (λ (x : Plain). record { comments = (contents_of b f.image).comments; tree = x })
      (widened_dropped false fits.tree clean_one)

  back_is : back_image s (forward_of (contents_of b f.image)) ≡ b
  back_is =
      ap (moved back_of (forward_of (contents_of b f.image))) second.reads
      ∙ ap (λ (x : Contents). image_of 1 (up x)) second.same
      ∙ ap (image_of 1) back_to
      ∙ whole

  none_wide : texts_where is_wide (forward_of (contents_of b f.image)) false second.image.tree ≡ []
  none_wide =
      let tree : plain (forward_of (contents_of b f.image)) second.image.tree ≡ dropped (contents_of b f.image).tree =
      ap (λ (x : Contents). x.tree) second.same
      in
      clean_none is_wide (forward_of (contents_of b f.image)) false second.image.tree
      (ap (clean is_wide false) tree ∙ clean_wide b small false f.image.tree clean_one)

  back_passes : back_refusal s (forward_of (contents_of b f.image)) (length b) ≡ None
  back_passes =
      passes is_wide (read_back s (forward_of (contents_of b f.image))) second.image second.end (forward_of (contents_of b f.image)) _ second.reads none_wide
      (rw (back_is, le-ltb (5 + MAX_BODY) (length b) short, le-ltb (length b) (length b) (omega arith)))

  returned : Returned back_refusal back_image s (forward_image s b) b
  returned = subst (λ (y : List ℕ). Returned back_refusal back_image s y b) (sym forward_is) (record { passes = back_passes; same = back_is })

pub back_after_forward : BackAfterForward
back_after_forward = returned

-- ---- back, then forward
module _ (s b : List ℕ) (room : ℕ) (small : Bytes b) (h : back_refusal s b room ≡ None) where
  g : Passed is_wide (read_back s b) b
      (refuse_if (ltb (5 + MAX_BODY) (length (back_image s b)) || ltb room (length (back_image s b))) 17 (length (back_image s b)))
  g = passed_by is_wide (read_back s b) b _ h

  read-two : Read-as (eqb 2) false s b g.image
  read-two = read_as (eqb 2) false s b g.image g.end g.is

  of_two : version b ≡ 2
  of_two = sym (eqb-true 2 (version b) read-two.root.head.may_be)

  fits-two : FitsAll 0 (contents_of b g.image)
  fits-two = subst (λ (v : ℕ). FitsAll v (contents_of b g.image)) (no_bytes b of_two) (whole_fits (eqb 2) false s b small g.image read-two)

  whole-two : image_of 2 (contents_of b g.image) ≡ b
  whole-two = ap (λ (n : ℕ). image_of n (contents_of b g.image)) (sym of_two) ∙ image_is (eqb 2) false s b small g.image read-two

  back_written : back_image s b ≡ back_of (contents_of b g.image)
  back_written = ap (moved back_of b) g.is

  fits_body : (t u : Bool) (n : ℕ) → refuse_if (t || u) 17 n ≡ None → t ≡ false
  fits_body false u n e = refl
  fits_body true u n e = cc

  short-two : length (back_of (contents_of b g.image)) ≤ 5 + MAX_BODY
  short-two =
      subst (λ (y : List ℕ). length y ≤ 5 + MAX_BODY) back_written
      (ltb-false (5 + MAX_BODY) (length (back_image s b)) (fits_body _ (ltb room (length (back_image s b))) (length (back_image s b)) g.room))

  -- a body that is not too long came of one that is not
  short_before : length b ≤ 5 + MAX_BODY
  short_before = image_short (eqb 2) false s b small g.image read-two

  writes-two : Writes (eqb 1) 1 (up (contents_of b g.image)) (back_of (contents_of b g.image))
  writes-two =
      record {
        known = inl refl;
        may_be = refl;
        fits =
            subst (λ (v : ℕ). FitsAll v (up (contents_of b g.image))) (sym (two_bytes (back_of (contents_of b g.image)) refl))
            (record { listing = fits-two.listing; tree = fits_widened false fits-two.tree });
        image = refl;
        short = short-two;
      }

  suiting-two : Suits false s (up (contents_of b g.image))
  suiting-two =
      let z = suits (eqb 2) false s b small g.image read-two in
      record { short = z.short; formed = z.formed; listed = z.listed; spans = ranges_widened s false (contents_of b g.image).tree ∙ z.spans }

  second-two : Again 1 s (back_of (contents_of b g.image)) (up (contents_of b g.image))
  second-two = again 1 s (back_of (contents_of b g.image)) (up (contents_of b g.image)) writes-two suiting-two

  forward_back : forward_image s (back_of (contents_of b g.image)) ≡ b
  forward_back =
      ap (moved forward_of (back_of (contents_of b g.image))) second-two.reads
      ∙ ap (λ (x : Contents). image_of 2 (down x)) second-two.same
      ∙ ap (λ (x : Plain). image_of 2 (record { comments = (contents_of b g.image).comments; tree = x }))
      (dropped_widened false (contents_of b g.image).tree)
      ∙ whole-two

  none_wrong : texts_where is_wrong (back_of (contents_of b g.image)) false second-two.image.tree ≡ []
  none_wrong =
      let tree : plain (back_of (contents_of b g.image)) second-two.image.tree ≡ widened false (contents_of b g.image).tree =
      ap (λ (x : Contents). x.tree) second-two.same
      in
      clean_none is_wrong (back_of (contents_of b g.image)) false second-two.image.tree
      (ap (clean is_wrong false) tree ∙ clean_widened false (contents_of b g.image).tree)

  forward_passes : forward_refusal s (back_of (contents_of b g.image)) (length b) ≡ None
  forward_passes =
      passes is_wrong (read_forward s (back_of (contents_of b g.image))) second-two.image second-two.end (back_of (contents_of b g.image)) _
      second-two.reads none_wrong
      (rw (forward_back, le-ltb (length b) (length b) (omega arith)))

  returned-two : Returned forward_refusal forward_image s (back_image s b) b
  returned-two =
      subst (λ (y : List ℕ). Returned forward_refusal forward_image s y b) (sym back_written)
      (record { passes = forward_passes; same = forward_back })

pub forward_after_back : ForwardAfterBack
forward_after_back = returned-two
