-- From the answer of `check` to what was read: the comments, the tree at the answered offset, and the bounds on all of it.
-- Assumes nothing.
use mathlib.Core.Path.{◌≡◌, refl, sym, ap, ◌∙◌}
use mathlib.Core.List.{List}
use mathlib.Core.Bool.{Bool, true, false, cond, not, ◌&&◌, ◌||◌, false≢true}
use mathlib.Core.Logic.{◌⊎◌, inl, inr}
use Prim.Native.Nat.{ℕ, ◌+◌, ◌*◌, ◌≤◌}
use native.Mathlib.Omega.{arith}
use lib.ListN.{length}
use lib.Dec.{ltb, leb, eqb}
use borrow.Author.Tests.{le-leb, leb-true, eqb-true, ltb-false}
use Rattle.text.specs.Utf8.{well_formed, prefix}
use Rattle.laws.proofs.Booleans.{and_left, and_right}
use Rattle.refusals.specs.Answers.{accepted as given}
use Rattle.image.specs.Bytes.{be16, be32}
use Rattle.image.specs.Read.{Read, got, bad, bind, Tree, Image, version, width_bytes, header, header_fits, any_version}
use Rattle.image.specs.Read.{comments, record_at, tree_at, read_tree, read_with, read_image, source_fits, step_of, document_of, outcome, Accepts}
use Rattle.image.specs.declared.Document.{Document}
use Rattle.image.proofs.Shapes.{is_got}
use Rattle.image.proofs.Reading.{record_within}
use Rattle.image.proofs.CommentList.{Comments, listed}
use Rattle.image.proofs.Whole.{image_next}

-- ---- the header
pub record Header (may : ℕ → Bool) (b : List ℕ) : Type 0 where
  pub known : (version b ≡ 1) ⊎ (version b ≡ 2)
  pub may_be : may (version b) ≡ true
  pub size : 5 + be32 b 1 ≡ length b
  pub short : be32 b 1 ≤ 1048576

one_or_two : (n : ℕ) → eqb n 1 || eqb n 2 ≡ true → (n ≡ 1) ⊎ (n ≡ 2)
one_or_two n e = go (eqb n 1) refl e
  where
    go : (t : Bool) → eqb n 1 ≡ t → t || eqb n 2 ≡ true → (n ≡ 1) ⊎ (n ≡ 2)
    go true f e = inl (eqb-true n 1 f)
    go false f e = inr (eqb-true n 2 e)

pub headed : (may : ℕ → Bool) (b : List ℕ) → header_fits may b ≡ true → Header may b
unfolding header
headed may b e =
    let t₁ = leb 5 (length b) in
    let t₂ = eqb (version b) 1 || eqb (version b) 2 in
    let t₃ = eqb (5 + be32 b 1) (length b) in
    let t₄ = leb (be32 b 1) 1048576 in
    let four = and_left (t₁ && t₂ && t₃ && t₄) (may (version b)) e in
    let three = and_left (t₁ && t₂ && t₃) t₄ four in
    record {
      known = one_or_two (version b) (and_right t₁ t₂ (and_left (t₁ && t₂) t₃ three));
      may_be = and_right (t₁ && t₂ && t₃ && t₄) (may (version b)) e;
      size = eqb-true (5 + be32 b 1) (length b) (and_right (t₁ && t₂) t₃ three);
      short = leb-true (be32 b 1) 1048576 (and_right (t₁ && t₂ && t₃) t₄ four);
    }

-- ---- the image
-- n comments, and at `at` a tree record that ends with the image
pub record Root (may : ℕ → Bool) (ordered : Bool) (s b : List ℕ) (n at : ℕ) : Type 0 where
  pub head : Header may b
  pub count : n ≡ be16 b 5
  pub place : at ≡ 7 + 8 * n
  pub list : Comments s b at
  pub tree : Tree
  pub reads : tree_at s b (width_bytes b) 1 at ≡ got tree (length b)
  pub whole : read_image may ordered s b ≡ got (record { comments = n; tree = tree; at = at }) (length b)

-- the tree's reading, where the image's is accepted
record Last (s b : List ℕ) (at : ℕ) (i : Image) (q : ℕ) : Type 0 where
  pub tree : Tree
  pub is : i ≡ record { comments = be16 b 5; tree = tree; at = at }
  pub reads : record_at s b (width_bytes b) 64 1 at (length b) ≡ got tree q
  pub ends : length b ≤ q

last_got : (s b : List ℕ) (at : ℕ) (i : Image) (q : ℕ) → read_tree s b (width_bytes b) at ≡ got i q → Last s b at i q
unfolding read_tree tree_at
last_got s b at i q h = go (record_at s b (width_bytes b) 64 1 at (length b)) refl h
  where
    go : (r : Read Tree) → record_at s b (width_bytes b) 64 1 at (length b) ≡ r
        → bind r (λ t next. cond (ltb next (length b)) (bad 4 next) (got (record { comments = be16 b 5; tree = t; at = at }) next)) ≡ got i q
        → Last s b at i q
    go (bad m k) e h = absurd (false≢true (ap is_got h))
    go (got t k) e h = to (ltb k (length b)) refl h
      where
        to : (x : Bool) → ltb k (length b) ≡ x
            → cond x (bad 4 k) (got (record { comments = be16 b 5; tree = t; at = at }) k) ≡ got i q → Last s b at i q
        to true l h = absurd (false≢true (ap is_got h))
        to false l h =
            let same : k ≡ q = cc in
            record { tree = t; is = (cc); reads = e ∙ ap (got t) same; ends = rw same at (ltb-false k (length b) l) }

named : (i : Image) (t : Tree) (k n a at q e : ℕ) → i ≡ record { comments = k; tree = t; at = a } → k ≡ n → a ≡ at → q ≡ e
    → got i q ≡ got (record { comments = n; tree = t; at = at }) e
named i t k n a at q e is en ea eq = rw (is, en, ea, eq)

tree_root : (may : ℕ → Bool) (ordered : Bool) (s b : List ℕ) (a n at q : ℕ) (i : Image) → header_fits may b ≡ true → step_of (comments ordered s b) ≡ given a
    → read_image may ordered s b ≡ got i q → i.comments ≡ n → i.at ≡ at → Root may ordered s b n at
unfolding tree_at
tree_root may ordered s b a n at q i hd c whole en ea =
    let l = last_got s b a i q (sym (image_next may ordered s b a hd c) ∙ whole) in
    let w = listed ordered s b a c in
    let end = record_within s b (width_bytes b) 64 1 a (length b) q (ap step_of l.reads) in
    let here : q ≡ length b = omega (arith, end.1, l.ends) in
    let same : a ≡ at = ap (λ (j : Image). j.at) (sym l.is) ∙ ea in
    let count : be16 b 5 ≡ n = ap (λ (j : Image). j.comments) (sym l.is) ∙ en in
    record {
      head = headed may b hd;
      count = sym count;
      place = omega (arith, w.list.stop);
      list = rw (← same) w;
      tree = l.tree;
      reads = rw (← same) (l.reads ∙ ap (got l.tree) here);
      whole = whole ∙ named i l.tree (be16 b 5) n a at q (length b) l.is count same here;
    }

pub rooted : (may : ℕ → Bool) (ordered : Bool) (s b : List ℕ) (d : Document) → outcome (read_image may ordered s b) ≡ given d
    → Root may ordered s b d.comments d.tree
unfolding read_image
rooted may ordered s b d h = go (header_fits may b) refl (comments ordered s b) refl (read_image may ordered s b) refl h
  where
    go : (x : Bool) → header_fits may b ≡ x → (y : Read Unit) → comments ordered s b ≡ y → (r : Read Image) → read_image may ordered s b ≡ r
        → outcome r ≡ given d → Root may ordered s b d.comments d.tree
    go x hd y c (bad m q) whole h = let z : ◌≡◌ {A = ℕ} 0 1 = cc in absurd (omega arith)
    go false hd y c (got i q) whole h = absurd (false≢true (ap is_got (rw hd at whole)))
    go true hd (bad m p) c (got i q) whole h = absurd (false≢true (ap is_got (rw (hd, c) at whole)))
    go true hd (got t a) c (got i q) whole h =
        let same : document_of i ≡ d = cc in
        tree_root may ordered s b a d.comments d.tree q i hd (ap step_of c) whole (ap (λ (x : Document). x.comments) same)
        (ap (λ (x : Document). x.tree) same)

-- ---- source and image
pub record Input (may : ℕ → Bool) (ordered : Bool) (s b : List ℕ) (n at : ℕ) : Type 0 where
  pub short : length s ≤ 65536
  pub well : well_formed s ≡ true
  pub root : Root may ordered s b n at

pub input : (may : ℕ → Bool) (ordered : Bool) (s b : List ℕ) (d : Document) → outcome (read_with may ordered s b) ≡ given d
    → Input may ordered s b d.comments d.tree
unfolding read_with source_fits
input may ordered s b d h = go (leb (length s) 65536) refl (well_formed s) refl h
  where
    go : (x : Bool) → leb (length s) 65536 ≡ x → (y : Bool) → well_formed s ≡ y
        → outcome (cond (not x) (bad 1 0) (cond (not y) (bad 2 (prefix s)) (read_image may ordered s b))) ≡ given d
        → Input may ordered s b d.comments d.tree
    go true e true f h = record { short = leb-true (length s) 65536 e; well = f; root = rooted may ordered s b d h }
    go true e false f h = let z : ◌≡◌ {A = ℕ} 0 1 = cc in absurd (omega arith)
    go false e y f h = let z : ◌≡◌ {A = ℕ} 0 1 = cc in absurd (omega arith)

pub accepted : (s b : List ℕ) (d : Document) → Accepts s b d → Input any_version false s b d.comments d.tree
accepted s b d h = input any_version false s b d h.answer

-- a source that fits leaves the image's reading
pub read_inside : (may : ℕ → Bool) (ordered : Bool) (s b : List ℕ) → length s ≤ 65536 → well_formed s ≡ true
    → read_with may ordered s b ≡ read_image may ordered s b
unfolding read_with source_fits
read_inside may ordered s b short well = rw (le-leb (length s) 65536 short, well)
