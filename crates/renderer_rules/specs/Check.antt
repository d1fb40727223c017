-- Refusal 11: the first row that does not nest, or has a place that is wrong.
use Rattle.std.specs.Prelude.{◌≡◌, ℕ, zero, suc, ◌+◌, ◌*◌, ◌-◌, Bool, true, false, cond, not, ◌&&◌, ◌||◌, ltb, leb, eqb}
use Rattle.std.specs.Prelude.{List, [], ◌∷◌, length, Option, Some, None}
use Rattle.rows.specs.Kinds.{GROUP, COMMENT, STR, ASCII, IF_WRAP, CALL, case_of}
use Rattle.rows.specs.Places.{KIND, NUMBER, SECOND_NUMBER, SECOND, ORIGIN, START, SIZE, WIDTH, PLACES}
use Rattle.rows.specs.Limits.{MAX_ROWS, MAX_DEPTH}
use Rattle.rows.specs.View.{View, cell, view_of}
use Rattle.rows.specs.Texts.{origin_text}
use Rattle.text.specs.Utf8.{well_formed, cuts}
use Rattle.widths.specs.Rules.{SUPPLIED}
use Rattle.renderer_rules.specs.Page.{text_bytes, row_text}

-- row b is reached from row a, row after row, in f steps at most
unfoldable pub reaches : ℕ → View → ℕ → ℕ → Bool
reaches zero v a b = eqb a b
reaches (suc f) v a b = cond (eqb a b) true (ltb a (v.after a) && (leb (v.after a) b && reaches f v (v.after a) b))

-- a leaf has no parts
abbrev pub is_leaf : View → ℕ → Bool
is_leaf v i = eqb (v.after i) (suc i)

-- an `IfWrap` has exactly two parts, the second part being the second of them
abbrev pub has_two : View → ℕ → Bool
has_two v i =
    (ltb (suc i) (v.second i) && ltb (v.second i) (v.after i)) && (eqb (v.after (suc i)) (v.second i) && eqb (v.after (v.second i)) (v.after i))

-- the second part of a `Call` starts at the end, or at a part: at a row before the end that is reached from the first part
abbrev pub is_split : View → ℕ → Bool
is_split v i =
    eqb (v.second i) (v.after i)
    || ((ltb i (v.second i) && ltb (v.second i) (v.after i)) && reaches (v.after i - i) v (suc i) (v.second i))

-- the parts of row i are right for its kind; there is no kind over 11
unfoldable pub parts_fit : View → ℕ → ℕ → Bool
parts_fit v i kind =
    case_of
    (record {
      group = true;
      indent = true;
      indent_next = true;
      wrap_parent = is_leaf v i;
      comment = is_leaf v i;
      str = is_leaf v i;
      ascii = is_leaf v i;
      line = is_leaf v i;
      empty_line = is_leaf v i;
      line_or_space = is_leaf v i;
      if_wrap = has_two v i;
      call = is_split v i;
      no_kind = false;
    })
    kind

-- row i, which d rows enclose, the innermost up to `end`, is right: not over 256 deep, its range nested, its parts and places right
unfoldable pub row_fits_of : (ℕ → Bool) → View → ℕ → ℕ → ℕ → Bool
row_fits_of places v end d i = (ltb d MAX_DEPTH && (ltb i (v.after i) && leb (v.after i) end)) && (parts_fit v i (v.kind i) && places i)

abbrev pub or_later : Option ℕ → Option ℕ → Option ℕ
or_later None b = b
or_later (Some i) b = Some i

-- the first row from i up to `end` that is not right: row i, or one of its parts, or one after it; f rows at most (by `let`, so that nothing is
-- computed where i is not before `end`)
unfoldable pub first_wrong : ℕ → (ℕ → Bool) → View → ℕ → ℕ → ℕ → Option ℕ
first_wrong zero places v end d i = None
first_wrong (suc f) places v end d i =
    let later : Option ℕ = or_later (first_wrong f places v (v.after i) (suc d) (suc i)) (first_wrong f places v end d (v.after i)) in
    let found : Option ℕ = cond (row_fits_of places v end d i) later (Some i) in
    cond (ltb i end) found None

unfoldable pub wrong_row_of : (ℕ → Bool) → View → ℕ → ℕ → ℕ → Option ℕ
wrong_row_of places v end d i = first_wrong (end - i) places v end d i

-- the text of row i: its origin is not over 2, and it is not outside it
abbrev pub text_fits : List ℕ → List ℕ → List ℕ → ℕ → Bool
text_fits source image store i =
    leb (cell store i ORIGIN) 2 && leb (cell store i START + cell store i SIZE) (length (origin_text source image (cell store i ORIGIN)))

-- a row without a text has 0 in these places
abbrev pub no_text_fits : List ℕ → ℕ → Bool
no_text_fits store i = eqb (cell store i ORIGIN) 0 && (eqb (cell store i START) 0 && eqb (cell store i SIZE) 0)

-- Which places a kind uses: number, second number, first row of the second part, text, width.
abbrev pub uses_number : ℕ → Bool
uses_number kind = eqb kind GROUP || (eqb kind IF_WRAP || eqb kind CALL)

abbrev pub uses_number2 : ℕ → Bool
uses_number2 kind = eqb kind CALL

abbrev pub uses_second : ℕ → Bool
uses_second kind = eqb kind IF_WRAP || eqb kind CALL

abbrev pub uses_text : ℕ → Bool
uses_text kind = eqb kind COMMENT || (eqb kind STR || eqb kind ASCII)

abbrev pub uses_width : ℕ → Bool
uses_width kind = eqb kind STR

-- the text of row i is right, and each unused place is 0
unfoldable pub places_fit : List ℕ → List ℕ → List ℕ → ℕ → Bool
places_fit source image store i =
    let kind = cell store i KIND in
    ((uses_number kind || eqb (cell store i NUMBER) 0)
    && ((uses_number2 kind || eqb (cell store i SECOND_NUMBER) 0) && (uses_second kind || eqb (cell store i SECOND) 0)))
    && ((uses_width kind || eqb (cell store i WIDTH) 0) && cond (uses_text kind) (text_fits source image store i) (no_text_fits store i))

-- Refusal 11's place: 0 for a stop past the store or 2,097,152, else the first row from `from` up to `stop` that is not right. (A store has
-- length / 9 rows, rounded down.)
unfoldable pub wrong_place : List ℕ → List ℕ → List ℕ → ℕ → ℕ → Option ℕ
wrong_place source image store from stop =
    cond (leb stop MAX_ROWS && leb (stop * PLACES) (length store)) (wrong_row_of (places_fit source image store) (view_of store) stop 0 from) (Some 0)

-- ---- request 8: 11 by a rule of widths
-- the text of row i is UTF-8, and cuts no character of its origin, neither at its start nor at its end
unfoldable pub text_whole : List ℕ → List ℕ → List ℕ → ℕ → Bool
text_whole source image store i =
    let origin = origin_text source image (cell store i ORIGIN) in
    let start = cell store i START in
    well_formed (text_bytes source image (row_text store i)) && not (cuts origin start || cuts origin (start + cell store i SIZE))

-- the text of row i, if its kind has one, is whole
abbrev pub whole_at : List ℕ → List ℕ → List ℕ → ℕ → Bool
whole_at source image store i = cond (uses_text (cell store i KIND)) (text_whole source image store i) true

-- "under the new rule .. 11 for a text that cuts a character or isn't UTF-8": under supplied widths the places of row i as they were, else also its text
unfoldable pub places_fit_by : ℕ → List ℕ → List ℕ → List ℕ → ℕ → Bool
places_fit_by rule source image store i =
    let fits = places_fit source image store i in
    cond (eqb rule SUPPLIED) fits (fits && whole_at source image store i)

-- refusal 11's place by a rule
unfoldable pub wrong_place_by : ℕ → List ℕ → List ℕ → List ℕ → ℕ → ℕ → Option ℕ
wrong_place_by rule source image store from stop =
    cond (leb stop MAX_ROWS && leb (stop * PLACES) (length store)) (wrong_row_of (places_fit_by rule source image store) (view_of store) stop 0 from) (Some 0)

-- Where a `Call`'s second part is its end, a part that goes past that end is at fault, and not the `Call`.
abbrev pub FaultOfPart : Type 0
FaultOfPart =
    wrong_place [] [] (11 ∷ 0 ∷ 1 ∷ 2 ∷ 2 ∷ 0 ∷ 0 ∷ 0 ∷ 0 ∷ 6 ∷ 0 ∷ 0 ∷ 0 ∷ 3 ∷ 0 ∷ 0 ∷ 0 ∷ 0 ∷ []) 0 2 ≡ Some 1
