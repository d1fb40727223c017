-- The whole reading by its parts: what each part answers decides what the whole answers.
-- Assumes nothing.
use mathlib.Core.Path.{◌≡◌, ap}
use mathlib.Core.List.{List}
use mathlib.Core.Bool.{Bool, true, cond}
use Prim.Native.Nat.{ℕ, ◌≤◌, ◌<◌}
use native.Mathlib.Omega.{arith}
use lib.ListN.{length}
use lib.Dec.{ltb}
use borrow.Author.Tests.{lt-ltb, le-ltb}
use Rattle.refusals.specs.Refusals.{Refusal}
use Rattle.refusals.specs.Answers.{Answer, refused, accepted}
use Rattle.image.specs.Bytes.{be16}
use Rattle.image.specs.Read.{Read, got, bad, bind, Tree, Image, width_bytes, header_fits, comments, record_at, tree_at, read_tree, read_image, step_of, outcome}
use Rattle.image.specs.declared.Document.{Document}

-- a refusal, by its number and place
abbrev pub wrong : ℕ → ℕ → Answer Document
wrong n p = refused (record { number = n; place = p })

-- ---- the tree
-- what is made of the tree's reading
abbrev last : List ℕ → ℕ → Read Tree → Read Image
last b at r = bind r (λ t next. cond (ltb next (length b)) (bad 4 next) (got (record { comments = be16 b 5; tree = t; at = at }) next))

last_bad : (b : List ℕ) (at : ℕ) (x : Refusal) (r : Read Tree) → step_of r ≡ refused x → outcome (last b at r) ≡ refused x
last_bad b at x (got t k) e = let z : ◌≡◌ {A = ℕ} 0 1 = cc in absurd (omega arith)
last_bad b at x (bad k p) e = cc

last_spare : (b : List ℕ) (at q : ℕ) (r : Read Tree) → step_of r ≡ accepted q → q < length b → outcome (last b at r) ≡ wrong 4 q
last_spare b at q (got t k) e h = let same : k ≡ q = cc in rw (same, lt-ltb q (length b) h)
last_spare b at q (bad k p) e h = let z : ◌≡◌ {A = ℕ} 0 1 = cc in absurd (omega arith)

last_whole : (b : List ℕ) (at q : ℕ) (r : Read Tree) → step_of r ≡ accepted q → length b ≤ q
    → outcome (last b at r) ≡ accepted (record { comments = be16 b 5; tree = at })
last_whole b at q (got t k) e h = let same : k ≡ q = cc in rw (same, le-ltb q (length b) h)
last_whole b at q (bad k p) e h = let z : ◌≡◌ {A = ℕ} 0 1 = cc in absurd (omega arith)

module _ (s b : List ℕ) (v at : ℕ) where
  pub tree_bad : (x : Refusal) → step_of (record_at s b v 64 1 at (length b)) ≡ refused x → outcome (read_tree s b v at) ≡ refused x
  unfolding read_tree tree_at
  tree_bad x e = last_bad b at x (record_at s b v 64 1 at (length b)) e

  pub tree_spare : (q : ℕ) → step_of (record_at s b v 64 1 at (length b)) ≡ accepted q → q < length b → outcome (read_tree s b v at) ≡ wrong 4 q
  unfolding read_tree tree_at
  tree_spare q e h = last_spare b at q (record_at s b v 64 1 at (length b)) e h

  pub tree_whole : (q : ℕ) → step_of (record_at s b v 64 1 at (length b)) ≡ accepted q → length b ≤ q
      → outcome (read_tree s b v at) ≡ accepted (record { comments = be16 b 5; tree = at })
  unfolding read_tree tree_at
  tree_whole q e h = last_whole b at q (record_at s b v 64 1 at (length b)) e h

-- ---- the image
then_bad : (x : Refusal) (f : ℕ → Read Image) (r : Read Unit) → step_of r ≡ refused x → outcome (bind r (λ done at. f at)) ≡ refused x
then_bad x f (got t k) e = let z : ◌≡◌ {A = ℕ} 0 1 = cc in absurd (omega arith)
then_bad x f (bad k p) e = cc

then_next : (q : ℕ) (f : ℕ → Read Image) (r : Read Unit) → step_of r ≡ accepted q → bind r (λ done at. f at) ≡ f q
then_next q f (got t k) e = let same : k ≡ q = cc in ap f same
then_next q f (bad k p) e = let z : ◌≡◌ {A = ℕ} 0 1 = cc in absurd (omega arith)

module _ (may : ℕ → Bool) (ordered : Bool) (s b : List ℕ) where
  pub image_bad : (x : Refusal) → header_fits may b ≡ true → step_of (comments ordered s b) ≡ refused x
      → outcome (read_image may ordered s b) ≡ refused x
  unfolding read_image
  image_bad x h e = rw h (then_bad x (read_tree s b (width_bytes b)) (comments ordered s b) e)

  pub image_next : (q : ℕ) → header_fits may b ≡ true → step_of (comments ordered s b) ≡ accepted q
      → read_image may ordered s b ≡ read_tree s b (width_bytes b) q
  unfolding read_image
  image_next q h e = rw h (then_next q (read_tree s b (width_bytes b)) (comments ordered s b) e)
