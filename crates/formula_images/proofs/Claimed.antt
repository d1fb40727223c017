-- What specs/Claims.antt claims.
-- Assumes nothing.
use mathlib.Core.Path.{◌≡◌, refl, sym, ap, ap₂, ◌∙◌}
use mathlib.Core.Bool.{true}
use mathlib.Core.Logic.{inl}
use mathlib.Core.List.{List, []}
use Prim.Native.Nat.{ℕ}
use native.Mathlib.Omega.{arith}
use Rattle.text.specs.Utf8.{well_formed, prefix, run}
use Rattle.text.specs.Newlines.{is_range}
use Rattle.text.proofs.Counts.{range_is}
use Rattle.text.proofs.Reached.{here, boundary_iff}
use Rattle.image.specs.Read.{Read, got, bad, Image, source_fits, read_all, width_bytes}
use Rattle.tree.specs.Contents.{Contents, contents_of}
use Rattle.tree.proofs.Fits.{ranges, Suits, comments_fit}
use Rattle.tree.proofs.WholeAgain.{AgainAll, all_again}
use Rattle.formulas.specs.Formulas.{Op, plus, times, Formula, path, binary, negation, parentheses, place, size}
use Rattle.formulas.specs.Places.{formula_at}
use Rattle.formulas.proofs.Places.{exchanged}
use Rattle.formula_images.specs.Images.{record_of, const_plain, formula_contents, formula_image, is_there}
use Rattle.formula_images.specs.Claims.{Accepted, AllAccepted, OneImage}
use Rattle.formula_images.proofs.Fitting.{contents_fit}
use Rattle.formula_images.proofs.Answered.{there_is, fits_at, image_short}

-- ---- spans
-- 0, 0 is a range of every source
first_range : (s : List ℕ) → well_formed s ≡ true → is_range s 0 0 ≡ true
first_range s utf8 = let b = (boundary_iff s 0 utf8).1 here in range_is s 0 0 (omega arith) b b

formula_spans : (s : List ℕ) → is_range s 0 0 ≡ true → (f : Formula) → ranges s (record_of f) ≡ true
unfolding ranges record_of
formula_spans s e path = rw e
formula_spans s e (binary o l r) = rw (e, formula_spans s e l, formula_spans s e r)
formula_spans s e (negation f) = rw (e, formula_spans s e f)
formula_spans s e (parentheses f) = rw (e, formula_spans s e f)

const_spans : (s : List ℕ) → is_range s 0 0 ≡ true → (f : Formula) → ranges s (const_plain f) ≡ true
unfolding ranges
const_spans s e f = rw (e, formula_spans s e f)

-- ---- accepted
module _ (s : List ℕ) (n p : ℕ) (source : source_fits s ≡ true) (utf8 : well_formed s ≡ true) (there : is_there n p ≡ true) where
  abbrev b : List ℕ
  b = formula_image n p

  abbrev c : Contents
  c = formula_contents (formula_at n p)

  suits : Suits true s c
  unfolding comments_fit
  suits = record { short = source; formed = utf8; listed = refl; spans = const_spans s (first_range s utf8) (formula_at n p) }

  accepted : Accepted s n p
  unfolding width_bytes
  accepted = go (read_all s b) refl again
    where
      again : AgainAll true s b c (read_all s b)
      again =
          let t = there_is n p there in
          all_again _ true s b 1 c
          (record {
            known = inl refl;
            may_be = refl;
            fits = contents_fit (formula_at n p) (fits_at n p t);
            image = refl;
            short = omega (arith, image_short n p t);
          })

      go : (r : Read Image) → read_all s b ≡ r → AgainAll true s b c r → Accepted s n p
      go (got i end) e a = record { image = i; end = end; reads = e; says = a }
      go (bad x y) e a = absurd (a.1 suits)

pub all_accepted : AllAccepted
all_accepted s n p source utf8 there = accepted s n p source utf8 there

-- ---- one image, one formula
op_one : (o p : Op) → place o ≡ place p → o ≡ p
op_one plus plus e = refl
op_one plus times e = absurd (omega arith)
op_one times plus e = absurd (omega arith)
op_one times times e = refl

operands_one : (o p : Op) (l m r s : Formula) → record_of (binary o l r) ≡ record_of (binary p m s)
    → (place o ≡ place p) × (record_of l ≡ record_of m) × (record_of r ≡ record_of s)
unfolding record_of
operands_one o p l m r s e = (cc, cc, cc)

same_binary : {o p : Op} {l m r s : Formula} → o ≡ p → l ≡ m → r ≡ s → binary o l r ≡ binary p m s
same_binary x y z = rw (x, y, z)

record_one : (f g : Formula) → record_of f ≡ record_of g → f ≡ g
unfolding record_of
record_one path path e = refl
record_one (binary o l r) (binary p m s) e =
    let k = operands_one o p l m r s e in
    same_binary (op_one o p k.0) (record_one l m k.1) (record_one r s k.2)
record_one (negation f) (negation g) e = ap negation (record_one f g cc)
record_one (parentheses f) (parentheses g) e = ap parentheses (record_one f g cc)
record_one path (binary p m s) e = let z : ◌≡◌ {A = ℕ} 56 63 = cc in absurd (omega arith)
record_one path (negation g) e = let z : ◌≡◌ {A = ℕ} 56 64 = cc in absurd (omega arith)
record_one path (parentheses g) e = let z : ◌≡◌ {A = ℕ} 56 70 = cc in absurd (omega arith)
record_one (binary o l r) path e = let z : ◌≡◌ {A = ℕ} 63 56 = cc in absurd (omega arith)
record_one (binary o l r) (negation g) e = let z : ◌≡◌ {A = ℕ} 63 64 = cc in absurd (omega arith)
record_one (binary o l r) (parentheses g) e = let z : ◌≡◌ {A = ℕ} 63 70 = cc in absurd (omega arith)
record_one (negation f) path e = let z : ◌≡◌ {A = ℕ} 64 56 = cc in absurd (omega arith)
record_one (negation f) (binary p m s) e = let z : ◌≡◌ {A = ℕ} 64 63 = cc in absurd (omega arith)
record_one (negation f) (parentheses g) e = let z : ◌≡◌ {A = ℕ} 64 70 = cc in absurd (omega arith)
record_one (parentheses f) path e = let z : ◌≡◌ {A = ℕ} 70 56 = cc in absurd (omega arith)
record_one (parentheses f) (binary p m s) e = let z : ◌≡◌ {A = ℕ} 70 63 = cc in absurd (omega arith)
record_one (parentheses f) (negation g) e = let z : ◌≡◌ {A = ℕ} 70 64 = cc in absurd (omega arith)

contents_one : (f g : Formula) → formula_contents f ≡ formula_contents g → f ≡ g
contents_one f g e = let t : const_plain f ≡ const_plain g = ap (λ (c : Contents). c.tree) e in record_one f g cc

empty_fits : source_fits [] ≡ true
unfolding source_fits
empty_fits = refl

empty_formed : well_formed [] ≡ true
unfolding well_formed prefix run
empty_formed = refl

image_or : Image → Read Image → Image
image_or i (got j end) = j
image_or i (bad n p) = i

pub one_image : OneImage
unfolding image_or
one_image m p n q h k e =
    let x = all_accepted [] m p empty_fits empty_formed h in
    let y = all_accepted [] n q empty_fits empty_formed k in
    let i : x.image ≡ y.image = ap (image_or x.image) (sym x.reads ∙ ap (read_all []) e ∙ y.reads) in
    let f : formula_at m p ≡ formula_at n q = contents_one _ _ (sym x.says ∙ ap₂ contents_of e i ∙ y.says) in
    let t = there_is m p h in
    let u = there_is n q k in
    let same : m ≡ n = sym ((exchanged m).sized p t.inside) ∙ ap size f ∙ (exchanged n).sized q u.inside in
    (same, (exchanged n).once p q (rw same at t.inside) u.inside (rw same at f))
