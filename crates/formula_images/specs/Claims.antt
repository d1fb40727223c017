-- What is claimed of the images; proofs/Claimed.antt proves it.
use Rattle.std.specs.Prelude.{◌≡◌, true, List, ℕ}
use Rattle.text.specs.Utf8.{well_formed}
use Rattle.image.specs.Read.{got, Image, source_fits, read_all}
use Rattle.tree.specs.Contents.{contents_of}
use Rattle.formulas.specs.Places.{formula_at}
use Rattle.formula_images.specs.Images.{formula_contents, formula_image, is_there}

-- the image is accepted with the source s, and says the formula and nothing else
pub record Accepted (s : List ℕ) (size p : ℕ) : Type 0 where
  pub image : Image
  pub end : ℕ
  pub reads : read_all s (formula_image size p) ≡ got image end
  pub says : contents_of (formula_image size p) image ≡ formula_contents (formula_at size p)

-- with every source that 1 and 2 let pass
abbrev pub AllAccepted : Type 0
AllAccepted = (s : List ℕ) (size p : ℕ) → source_fits s ≡ true → well_formed s ≡ true → is_there size p ≡ true → Accepted s size p

-- one image, one size and one place: "each expression appears exactly once"
abbrev pub OneImage : Type 0
OneImage =
    (m p n q : ℕ) → is_there m p ≡ true → is_there n q ≡ true → formula_image m p ≡ formula_image n q → (m ≡ n) × (p ≡ q)
