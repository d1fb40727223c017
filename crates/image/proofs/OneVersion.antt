-- The reading of one version: of an image that says it the reading of any, and else refusal 3.
-- Assumes nothing.
use mathlib.Core.Path.{◌≡◌, refl, sym, ap, ◌∙◌}
use mathlib.Core.Bool.{Bool, true, false, cond, not, ◌&&◌}
use mathlib.Core.Logic.{◌⊎◌, inl, inr}
use mathlib.Core.List.{List}
use Prim.Native.Nat.{ℕ}
use native.Mathlib.Omega.{arith}
use lib.Dec.{eqb}
use lib.ListN.{length}
use borrow.Author.Tests.{eq-eqb, ne_eqb}
use Rattle.laws.proofs.Booleans.{and_false}
use Rattle.image.specs.Read.{Read, Image, bad, bind, version, width_bytes, header, any_version, header_fits, comments, read_tree, read_image}
use Rattle.image.proofs.Accepted.{headed}

any_true : (v : ℕ) → (v ≡ 1) ⊎ (v ≡ 2) → any_version v ≡ true
any_true v (inl e) = rw e refl
any_true v (inr e) = rw e refl

module _ (n : ℕ) (o : Bool) (s b : List ℕ) where
  abbrev by_header : Bool → Read Image
  by_header fits = cond (not fits) (bad 3 0) (bind (comments o s b) (λ done at. read_tree s b (width_bytes b) at))

  fits_same : version b ≡ n → header_fits any_version b ≡ header_fits (eqb n) b
  fits_same e = go (header b) refl
    where
      go : (x : Bool) → header b ≡ x → (x && any_version (version b)) ≡ (x && eqb n (version b))
      go false h = refl
      go true h =
          let known = (headed (λ v. true) b (ap (λ (x : Bool). x && true) h)).known in
          any_true (version b) known ∙ sym (eq-eqb n (version b) (sym e))

  pub one_read : version b ≡ n → read_image any_version o s b ≡ read_image (eqb n) o s b
  unfolding read_image
  one_read e = ap by_header (fits_same e)

  pub another_refused : (length b ≡ 0) ⊎ (version b ≡ n → ⊥) → read_image (eqb n) o s b ≡ bad 3 0
  unfolding read_image
  another_refused h = ap by_header (fits h)
    where
      fits : (length b ≡ 0) ⊎ (version b ≡ n → ⊥) → header_fits (eqb n) b ≡ false
      fits (inl e) = go (header_fits (eqb n) b) refl
        where
          go : (x : Bool) → header_fits (eqb n) b ≡ x → x ≡ false
          go false f = refl
          go true f = absurd (omega (arith, (headed (eqb n) b f).size))
      fits (inr e) = ap (λ (x : Bool). header b && x) (ne_eqb n (version b) (λ f. e (sym f))) ∙ and_false (header b)
