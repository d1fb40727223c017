-- What the walk over an accepted image tells is the verdict.
-- Assumes nothing.
use mathlib.Core.Path.{◌≡◌, refl, sym, ap, ◌∙◌}
use mathlib.Core.List.{List, [], ◌∷◌}
use Prim.Native.Nat.{ℕ, ◌≤◌, ◌<◌, min}
use native.Mathlib.Omega.{arith}
use lib.ListN.{length}
use Rattle.refusals.specs.Answers.{accepted}
use Rattle.image.specs.Read.{Read, got, bad, Image, read_all, document_of, outcome}
use Rattle.image.specs.declared.Document.{Document}
use Rattle.image.proofs.Standing.{there}
use Rattle.readback.specs.Standing.{There, TreeAt, FirstBroken}
use Rattle.readback.specs.Verdict.{offenders, least, verdict_on, verdict_by, verdict_due}
use Rattle.readback.specs.declared.Verdict.TheVariants.{Same, Differs}
use Rattle.readback.proofs.Grown.{image_grown}
use Rattle.readback.proofs.Offenders.{Among, here, offenders_inside, least_below}

-- ---- the first of some numbers below n, if it is known as their least with n
module _ (n f : ℕ) where
  first_differs : (xs : List ℕ) → ((x : ℕ) → Among x xs → x < n) → f ≡ least n xs → f < n → Differs f ≡ verdict_on xs
  unfolding least
  first_differs [] h e l = absurd (omega arith)
  first_differs (x ∷ xs) h e l =
      let m : min n x ≡ x = omega (arith, h x here) in
      ap Differs (e ∙ ap (λ (k : ℕ). least k xs) m)

  first_same : (xs : List ℕ) → ((x : ℕ) → Among x xs → x < n) → f ≡ least n xs → n ≤ f → Same ≡ verdict_on xs
  first_same [] h e l = refl
  first_same (x ∷ xs) h e l = absurd (omega (arith, h x here, least_below n (x ∷ xs) x here))

-- ---- what was read, of an image that the reader accepts
module _ (s b : List ℕ) (d : Document) (h : accepted d ≡ outcome (read_all s b)) where
  record Accepted : Type 0 where
    pub image : Image
    pub end : ℕ
    pub reads : read_all s b ≡ got image end
    pub place : image.at ≡ d.tree

  was_read : Accepted
  was_read = go (read_all s b) refl h
    where
      go : (r : Read Image) → read_all s b ≡ r → accepted d ≡ outcome r → Accepted
      go (got i end) e h =
          let is : document_of i ≡ d = cc in
          record { image = i; end = end; reads = e; place = ap (λ (x : Document). x.tree) is }
      go (bad m p) e h = let z : ◌≡◌ {A = ℕ} 0 1 = cc in absurd (omega arith)

  tree_there : There b d.tree was_read.image.tree
  tree_there =
      let a = was_read in
      let t = there _ _ s b a.image a.end a.reads in
      let own : There b a.image.at a.image.tree = record { stands = t.stands; grown = image_grown _ _ s b a.image a.end a.reads } in
      rw a.place at own

  pub tree_at : TreeAt b d.tree
  tree_at =
      let a = was_read in
      record { tree = a.image.tree; there = tree_there; short = (there _ _ s b a.image a.end a.reads).short }

  module _ (f : ℕ) (walked : FirstBroken b d.tree f) where
    found : f ≡ least (length b) (offenders b was_read.image.tree)
    found = walked was_read.image.tree tree_there

    pub answer_differs : f < length b → accepted (Differs f) ≡ verdict_due s b
    answer_differs l =
        let a = was_read in
        ap accepted (first_differs (length b) f (offenders b a.image.tree) (offenders_inside b a.image.tree) found l)
        ∙ sym (ap (verdict_by b) a.reads)

    pub answer_same : length b ≤ f → accepted Same ≡ verdict_due s b
    answer_same l =
        let a = was_read in
        ap accepted (first_same (length b) f (offenders b a.image.tree) (offenders_inside b a.image.tree) found l)
        ∙ sym (ap (verdict_by b) a.reads)
