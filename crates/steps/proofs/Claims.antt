-- Writer and reader together: what specs/Exact.antt claims.
-- Assumes nothing.
use mathlib.Core.Path.{◌≡◌, refl, sym, ap, subst, ◌∙◌}
use mathlib.Core.Bool.{Bool, true, false, ◌||◌}
use mathlib.Core.Logic.{inl}
use mathlib.Core.List.{List, [], ◌∷◌}
use Prim.Native.Nat.{ℕ, ◌+◌, ◌≤◌}
use native.Mathlib.Omega.{arith}
use lib.ListN.{length, get_or}
use lib.Dec.{ltb, eqb}
use borrow.Author.Tests.{ltb-false, le-ltb, eqb-true}
use Rattle.refusals.specs.Refusals.{first, refuse_if}
use Rattle.refusals.specs.Answers.{Answer, accepted, answer_by}
use Rattle.image.specs.Limits.{MAX_BODY}
use Rattle.image.specs.Read.{version, Read, got, bad, read_version, read_refusal}
use Rattle.steps.specs.Steps.{list_bytes, steps}
use Rattle.tree.specs.Contents.{Contents, image_of, contents_of}
use Rattle.steps.specs.Writer.{contents_from, image_by}
use Rattle.steps.specs.OfImage.{steps_of}
use Rattle.steps.specs.Exact.{Turns, ExactlyOne, ReadsBack, WrittenReadsBack}
use Rattle.image.specs.Write.{Bytes}
use Rattle.tree.proofs.Ordered.{in_order, strict_order, read_alike}
use Rattle.steps.proofs.WholeList.{Taken, contents_taken, list_is}
use Rattle.steps.proofs.WholeAccepted.{contents_there}
use Rattle.image.proofs.Versions.{two_bytes}
use Rattle.tree.proofs.Fits.{FitsAll}
use Rattle.tree.proofs.WholeFits.{read_as, whole_fits, image_is, image_short, suits}
use Rattle.tree.proofs.WholeAgain.{Writes, AgainAll, all_again, comments_are}

-- ---- what is turned into an image
-- the answer for the image y of an accepted list, with room for b
abbrev sized : List ℕ → List ℕ → Answer ℕ
sized y b = answer_by (first (refuse_if (ltb (5 + MAX_BODY) (length y) || ltb (length b) (length y)) 17 (length y) ∷ [])) (length y)

sized_short : (y b : List ℕ) → sized y b ≡ accepted (length b) → length y ≤ 5 + MAX_BODY
sized_short y b h = go (ltb (5 + MAX_BODY) (length y)) refl h
  where
    go : (t : Bool) → ltb (5 + MAX_BODY) (length y) ≡ t
        → answer_by (first (refuse_if (t || ltb (length b) (length y)) 17 (length y) ∷ [])) (length y) ≡ accepted (length b) → length y ≤ 5 + MAX_BODY
    go true e h = let z : ◌≡◌ {A = ℕ} 0 1 = cc in absurd (omega arith)
    go false e h = ltb-false (5 + MAX_BODY) (length y) e

short_sized : (b : List ℕ) → length b ≤ 5 + MAX_BODY → sized b b ≡ accepted (length b)
short_sized b h = rw (le-ltb (5 + MAX_BODY) (length b) h, le-ltb (length b) (length b) (omega arith))

-- the contents of the list, whose image it is; and it is not too long
record Contained (l b : List ℕ) : Type 0 where
  pub contents : Contents
  pub end : ℕ
  pub from : contents_from l ≡ got contents end
  pub image : image_of 1 contents ≡ b
  pub short : length b ≤ 5 + MAX_BODY

-- the answer of the writer by what it takes the list for
abbrev answered : Read Contents → List ℕ → Answer ℕ
answered r b =
    answer_by
    (first
    (read_refusal r ∷ refuse_if (ltb (5 + MAX_BODY) (length (image_by r)) || ltb (length b) (length (image_by r))) 17 (length (image_by r)) ∷ []))
    (length (image_by r))

contained : (l b : List ℕ) → Turns l b → Contained l b
contained l b t = go (contents_from l) refl t.taken t.image
  where
    go : (r : Read Contents) → contents_from l ≡ r → answered r b ≡ accepted (length b) → image_by r ≡ b → Contained l b
    go (bad n p) e a i = let z : ◌≡◌ {A = ℕ} 0 1 = cc in absurd (omega arith)
    go (got c end) e a i =
        record { contents = c; end = end; from = e; image = i; short = subst (λ (y : List ℕ). length y ≤ 5 + MAX_BODY) i (sized_short (image_of 1 c) b a) }

turns_into : (l b : List ℕ) (c : Contents) (end : ℕ) → contents_from l ≡ got c end → image_of 1 c ≡ b → length b ≤ 5 + MAX_BODY → Turns l b
turns_into l b c end e i short =
    record {
      taken = ap (λ (r : Read Contents). answered r b) e ∙ ap (λ (y : List ℕ). sized y b) i ∙ short_sized b short;
      image = ap image_by e ∙ i;
    }

-- ---- a written image
module _ (s l b : List ℕ) (small : Bytes l) (t : Turns l b) where
  taken : Taken l (contained l b t).contents
  taken = let c = contained l b t in contents_taken l c.contents c.end c.from

  writes : Writes (eqb 1) 1 (contained l b t).contents b
  writes =
      let c = contained l b t in
      let one : version b ≡ 1 = ap (λ (x : List ℕ). get_or x 0 0) (sym c.image) in
      let fits = subst (λ (v : ℕ). FitsAll v c.contents) (sym (two_bytes b one)) taken.fits in
      record { known = inl refl; may_be = refl; fits = fits; image = c.image; short = c.short }

  again : AgainAll true s b (contained l b t).contents (read_version 1 true s b)
  again = all_again (eqb 1) true s b 1 (contained l b t).contents writes

  pub reads_back : ReadsBack s l b
  reads_back =
      let c = contained l b t in
      record {
        refused_by = λ n p e.
            let held : AgainAll true s b c.contents (bad n p) = rw e at again in
            held.0;
        gives = λ i end e.
            let same : contents_of b i ≡ c.contents = rw e at again in
            ap (λ (x : Contents). list_bytes (steps x)) same ∙ sym (list_is l c.contents c.end small c.from);
        ordered = read_alike (eqb 1) s b (ap (in_order 0) (comments_are (eqb 1) true s b 1 c.contents writes) ∙ taken.order);
      }

pub written_reads_back : WrittenReadsBack
written_reads_back = reads_back

-- ---- an image that is read
pub exactly_one : ExactlyOne
exactly_one s b i end small h =
    let r = read_as (eqb 1) true s b i end h in
    let c = contents_of b i in
    let one : version b ≡ 1 = sym (eqb-true 1 (version b) r.root.head.may_be) in
    let fits = subst (λ (v : ℕ). FitsAll v c) (two_bytes b one) (whole_fits (eqb 1) true s b small i r) in
    let is : image_of 1 c ≡ b = ap (λ (n : ℕ). image_of n c) (sym one) ∙ image_is (eqb 1) true s b small i r in
    let order = strict_order s c.comments 0 (suits (eqb 1) true s b small i r).listed in
    record {
      turns = turns_into (steps_of b i) b c _ (contents_there c fits order) is (image_short (eqb 1) true s b small i r);
      only = λ l small-l t. sym ((reads_back s l b small-l t).gives i end h);
    }
