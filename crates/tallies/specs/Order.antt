-- "totals, the same in any order of the files counted (sums, for `column` the greatest)": for files of any kind, each with what refuses it by
-- document 01 and with the figures that it gives if nothing does. proofs/Order.antt proves the claims at the end.
use Rattle.std.specs.Prelude.{◌≡◌, List, [], ◌∷◌, map, ◌*◌, ◌≤◌, length, take, Option}
use Rattle.refusals.specs.Refusals.{Refusal, unless, first}
use Rattle.tallies.specs.declared.Figures.{Figures}
use Rattle.tallies.specs.declared.Tallies.{Tallies}
use Rattle.tallies.specs.Tallies.{MAX_FILES, MAX_TALLY, no_figures, fresh_tallies, together, added, tally_refusal}

-- a list in another order
pub data Reordered {A : Type 0} : List A → List A → Type 0 where
  none_left : Reordered [] []
  same_first : (x : A) {xs ys : List A} → Reordered xs ys → Reordered (x ∷ xs) (x ∷ ys)
  first_two : (x y : A) (xs : List A) → Reordered (x ∷ (y ∷ xs)) (y ∷ (x ∷ xs))
  one_by_one : {xs ys zs : List A} → Reordered xs ys → Reordered ys zs → Reordered xs zs

-- What a file gives is so small that 4,096 of them stay within the tallies' bound, and its groups that wrap are among those given.
pub record Small (f : Figures) : Type 0 where
  pub bytes : MAX_FILES * f.bytes ≤ MAX_TALLY
  pub newlines : MAX_FILES * f.newlines ≤ MAX_TALLY
  pub column : f.column ≤ MAX_TALLY
  pub given : MAX_FILES * f.given ≤ MAX_TALLY
  pub wrapped : f.wrapped ≤ f.given
  pub placed : MAX_FILES * f.placed ≤ MAX_TALLY
  pub left : MAX_FILES * f.left ≤ MAX_TALLY

unfoldable pub AllSmall : List Figures → Type 0
AllSmall [] = Unit {0}
AllSmall (f ∷ fs) = Small f × AllSmall fs

-- figures of files together
unfoldable pub sum : List Figures → Figures
sum [] = no_figures
sum (f ∷ fs) = together f (sum fs)

module _ {A : Type 0} (refusal : A → Option Refusal) (figures : A → Figures) where
  -- what refuses a file on top of tallies: 14 comes "after all of 01's"
  abbrev pub refused_on : Tallies → A → Option Refusal
  refused_on t x = first (refusal x ∷ tally_refusal t ∷ [])

  -- "A refused file counts nowhere", be it by 01 or by 14: "the tallies stay"
  abbrev pub counted_on : Tallies → A → Tallies
  counted_on t x = unless (refused_on t x) t (added (figures x) t)

  -- files "fed one after another", and those of them that are counted
  unfoldable pub totals : Tallies → List A → Tallies
  totals t [] = t
  totals t (x ∷ xs) = totals (counted_on t x) xs

  unfoldable pub counted : Tallies → List A → List A
  counted t [] = []
  counted t (x ∷ xs) = unless (refused_on t x) (counted (counted_on t x) xs) (x ∷ counted (counted_on t x) xs)

  -- the files that 01 does not refuse
  unfoldable pub accepted : List A → List A
  accepted [] = []
  accepted (x ∷ xs) = unless (refusal x) (accepted xs) (x ∷ accepted xs)

  -- The totals are the sums over the files counted, however many are fed, and wherever refused ones stand among them.
  abbrev pub Sums : Type 0
  Sums =
      (xs : List A)
      → totals fresh_tallies xs
      ≡ record { files = length (counted fresh_tallies xs); all = sum (map figures (counted fresh_tallies xs)) }

  -- "totals, the same in any order of the files counted": of two feeds that count the same files
  abbrev pub AnyOrder : Type 0
  AnyOrder =
      (xs ys : List A) → Reordered (counted fresh_tallies xs) (counted fresh_tallies ys) → totals fresh_tallies xs ≡ totals fresh_tallies ys

  -- Which files are counted: "up to 4,096", the first that 01 does not refuse. 14 refuses "a file past the 4,096th counted", and no other.
  abbrev pub FirstCounted : Type 0
  FirstCounted = (xs : List A) → AllSmall (map figures (accepted xs)) → counted fresh_tallies xs ≡ take MAX_FILES (accepted xs)

  -- So a whole feed may come in any order, if 01 accepts no more than 4,096 of its files. With more, the order says which of them are counted.
  abbrev pub AnyOrderOfFew : Type 0
  AnyOrderOfFew =
      (xs ys : List A) → AllSmall (map figures (accepted xs)) → length (accepted xs) ≤ MAX_FILES → Reordered xs ys
      → totals fresh_tallies xs ≡ totals fresh_tallies ys
