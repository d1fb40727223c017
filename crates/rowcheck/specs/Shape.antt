-- The tests of a row as the check makes them: rows that have no parts apart from those that may have some, and places that are all to be 0 by their
-- sum. No rule rests on this file.
use Rattle.std.specs.Prelude.{ℕ, ◌+◌, Bool, true, false, ◌&&◌, List, eqb, ltb, leb}
use Rattle.rows.specs.Limits.{MAX_DEPTH}
use Rattle.rows.specs.Kinds.{case_of}
use Rattle.rows.specs.Places.{KIND, NUMBER, SECOND_NUMBER, SECOND, ORIGIN, START, SIZE, WIDTH}
use Rattle.rows.specs.View.{cell, view_of}
use Rattle.renderer_rules.specs.Check.{parts_fit, places_fit}

-- rows of a kind have no parts
abbrev pub is_leaf : ℕ → Bool
is_leaf kind =
    case_of
    (record {
      group = false;
      indent = false;
      indent_next = false;
      wrap_parent = true;
      comment = true;
      str = true;
      ascii = true;
      line = true;
      empty_line = true;
      line_or_space = true;
      if_wrap = false;
      call = false;
      no_kind = false;
    })
    kind

-- the places of the numbers and of the second part of row i are 0
abbrev pub no_numbers : List ℕ → ℕ → Bool
no_numbers store i = eqb (cell store i NUMBER + cell store i SECOND_NUMBER + cell store i SECOND) 0

-- the places of a text and of its width are 0
abbrev pub no_text : List ℕ → ℕ → Bool
no_text store i = eqb (cell store i ORIGIN + cell store i START + cell store i SIZE + cell store i WIDTH) 0

-- the parts of row i are right for its kind, and its places
abbrev pub shape_fits : List ℕ → List ℕ → List ℕ → ℕ → Bool
shape_fits source image store i = parts_fit (view_of store) i (cell store i KIND) && places_fit source image store i

-- a row that d rows enclose, the innermost up to `end`, isn't too deep, and its range is nested
abbrev pub inside_of : ℕ → ℕ → ℕ → ℕ → Bool
inside_of d row after end = ltb d MAX_DEPTH && (ltb row after && leb after end)
