-- The fixed words of fmt.rs, which are text origin 2: one text, with each word at a place of its own.
use Rattle.std.specs.Prelude.{ℕ, ◌+◌, ◌≡◌, Bool, true, false, cond, ◌||◌, List, [], ◌∷◌, ◌++◌, take, drop}
use Prim.Native.String.{String, len}
use lib.Text.{eqt}
use Rattle.rows.specs.Ascii.{bytes}
use Rattle.rows.specs.Node.{Text}

-- The words, in this order, with nothing between.
abbrev pub table : List String
table =
    "filtermap " ∷ "const " ∷ "record " ∷ "enum " ∷ "fn " ∷ "test " ∷ "import " ∷ "-> " ∷ "let " ∷ "return" ∷ "accept" ∷ "reject" ∷
    "match " ∷ "if " ∷ "while " ∷ "for " ∷ " else " ∷ " in " ∷ " if " ∷ " => " ∷ " = " ∷ " += " ∷ " -= " ∷ " *= " ∷ " /= " ∷ " %= " ∷
    ": " ∷ " " ∷ ";" ∷ "," ∷ "." ∷ "?" ∷ "!" ∷ "-" ∷ "_" ∷ "(" ∷ ")" ∷ "[" ∷ "]" ∷ "{" ∷ "}" ∷ "()" ∷ "f\"" ∷ "\"" ∷ "true" ∷ "false" ∷
    "&&" ∷ "||" ∷ "==" ∷ "!=" ∷ "<" ∷ "<=" ∷ ">" ∷ ">=" ∷ "+" ∷ "*" ∷ "/" ∷ "%" ∷ "**" ∷ []

unfoldable pub joined : List String → List ℕ
joined [] = []
joined (w ∷ ws) = bytes w ++ joined ws

-- the bytes of text origin 2
unfoldable pub words : List ℕ
words = joined table

-- the place of w among the words ws, the first of which starts at `at`; 0 for the empty word, which is not among them
unfoldable pub place_in : List String → ℕ → String → ℕ
place_in [] at w = 0
place_in (x ∷ xs) at w = cond (eqt x w) at (place_in xs (at + len x) w)

-- a fixed word as a text of a row
unfoldable pub word : String → Text
word w = record { origin = 2; start = place_in table 0 w; size = len w }

-- w is one of the words ws
unfoldable pub among : List String → String → Bool
among [] w = false
among (x ∷ xs) w = eqt x w || among xs w

-- a word that the rules may say: one of the table, or the empty word
abbrev pub is_word : String → Bool
is_word w = among ("" ∷ table) w

-- the letters of w are where its text says
abbrev pub There : String → Type 0
There w = take (word w).size (drop (word w).start words) ≡ bytes w

-- "the word due is there": each word that the rules may say
abbrev pub WordsThere : Type 0
WordsThere = (w : String) → is_word w ≡ true → There w
