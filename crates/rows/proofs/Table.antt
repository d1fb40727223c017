-- Each fixed word stands at its place, by computation over the whole table.
-- Assumes nothing.
use Prim.Native.Nat.{ℕ, ◌+◌, ◌≤◌}
use Prim.Native.String.{String, len}
use native.Mathlib.Omega.{arith}
use mathlib.Core.Path.{◌≡◌, refl, sym, subst}
use mathlib.Core.Bool.{Bool, true, false, ◌||◌}
use mathlib.Core.List.{List, [], ◌∷◌, map}
use lib.ListN.{length, take, drop}
use lib.Dec.{T, leb}
use lib.Text.{eqt, eqt→eq}
use borrow.Author.Tests.{leb-true}
use Rattle.rows.specs.Ascii.{bytes}
use Rattle.rows.specs.Words.{words, joined, place_in, table, word, among, is_word, WordsThere}

-- what is computed alike of each word of a list is alike of a word among them
module _ {A : Type 0} (f g : String → A) where
  pub alike : (ws : List String) (w : String) → map f ws ≡ map g ws → among ws w ≡ true → f w ≡ g w
  unfolding among
  alike [] w e h = absurd (let z : ◌≡◌ {A = ℕ} 0 1 = cc in omega arith)
  alike (x ∷ xs) w e h = go (eqt x w) refl h (λ i. alike xs w rest i)
    where
      first : f x ≡ g x
      first = cc

      rest : map f xs ≡ map g xs
      rest = cc

      go : (b : Bool) → eqt x w ≡ b → (b || among xs w) ≡ true → (among xs w ≡ true → f w ≡ g w) → f w ≡ g w
      go true q i later = subst (λ (y : String). f y ≡ g y) (eqt→eq x w (subst T (sym q) tt)) first
      go false q i later = later i

pub words_there : WordsThere
unfolding words joined bytes place_in word
words_there w h = alike (λ v. take (word v).size (drop (word v).start words)) bytes ("" ∷ table) w refl h

pub words_size : length words ≡ 178
unfolding words joined bytes
words_size = refl

-- a word lies inside the fixed words
pub word_inside : (w : String) → is_word w ≡ true → place_in table 0 w + len w ≤ length words
unfolding place_in
word_inside w h =
    let e = alike (λ v. leb (place_in table 0 v + len v) 178) (λ v. true) ("" ∷ table) w refl h in
    omega (arith, leb-true (place_in table 0 w + len w) 178 e, words_size)
