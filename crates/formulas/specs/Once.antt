-- What is claimed of the list: "each expression appears exactly once", in the document's order, and how many there are. proofs/Once.antt and
-- proofs/Counts.antt prove it.
use Rattle.std.specs.Prelude.{◌≡◌, List, [], ◌∷◌, map, ℕ, length}
use Rattle.formulas.specs.Formulas.{Formula, size, less, same, order, formulas}

-- f is one of a list
pub data Among (f : Formula) : List Formula → Type 0 where
  here : {fs : List Formula} → Among f (f ∷ fs)
  later : {g : Formula} {fs : List Formula} → Among f fs → Among f (g ∷ fs)

-- f comes before each of a list
pub data Ahead (f : Formula) : List Formula → Type 0 where
  none : Ahead f []
  more : {g : Formula} {fs : List Formula} → order f g ≡ less → Ahead f fs → Ahead f (g ∷ fs)

-- each of a list comes before all that stand behind it
pub data Ascends : List Formula → Type 0 where
  none : Ascends []
  more : {f : Formula} {fs : List Formula} → Ahead f fs → Ascends fs → Ascends (f ∷ fs)

pub record ExactlyOnce (n : ℕ) : Type 0 where
  -- every formula of the size is there
  pub all : (f : Formula) → size f ≡ n → Among f (formulas n)
  -- and no other
  pub sized : (f : Formula) → Among f (formulas n) → size f ≡ n
  -- in the document's order, and so none twice, since none comes before itself
  pub ascending : Ascends (formulas n)
  pub itself : (f : Formula) → order f f ≡ same

abbrev pub EachOnce : Type 0
EachOnce = (n : ℕ) → ExactlyOnce n

-- "There are 1, 2, 6, 20 and 72 for sizes 1 to 5"; 272 and 1,064 for 6 and 7
abbrev pub Counted : Type 0
Counted = map (λ n. length (formulas n)) (1 ∷ 2 ∷ 3 ∷ 4 ∷ 5 ∷ 6 ∷ 7 ∷ []) ≡ 1 ∷ 2 ∷ 6 ∷ 20 ∷ 72 ∷ 272 ∷ 1064 ∷ []
