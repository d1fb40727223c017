-- What the check of rows tells beside refusal 11: the marks that 9 asks for, and a bound on the text. No rule rests on this file.
use Rattle.std.specs.Prelude.{◌≡◌, Bool, true, false, ℕ, ◌+◌, ◌*◌, ◌-◌, ◌≤◌, List, Option, Some, None, Result, Ok, Err, max}
use Rattle.marks.specs.Marks.{row_marks, marks_needed}
use Rattle.renderer_rules.specs.Most.{nodes_most}
use Rattle.renderer_rules.specs.Limits.{ROW_GROWTH}
use Rattle.rows.specs.Kinds.{case_of}
use Rattle.rows.specs.Places.{KIND, SIZE}
use Rattle.rows.specs.View.{cell, view_of, nodes_at}
use Rattle.rowcheck.specs.declared.needs.Needs.{Needs}

-- the row that is found wrong
abbrev pub wrong_in : Result Needs ℕ → Option ℕ
wrong_in (Ok n) = None
wrong_in (Err row) = Some row

-- how many steps further in the lines of a row's parts start, by its kind
abbrev pub steps_of : ℕ → ℕ
steps_of kind =
    case_of
    (record {
      group = 0;
      indent = 1;
      indent_next = 1;
      wrap_parent = 0;
      comment = 0;
      str = 0;
      ascii = 0;
      line = 0;
      empty_line = 0;
      line_or_space = 0;
      if_wrap = 0;
      call = 1;
      no_kind = 0;
    })
    kind

-- what row i, of this kind, adds by itself at most, where lines start m steps in: `node_most` without what the parts of a node add
abbrev pub row_most : ℕ → List ℕ → ℕ → ℕ → ℕ
row_most m store i kind =
    case_of
    (record {
      group = 0;
      indent = 4;
      indent_next = 4;
      wrap_parent = 0;
      comment = cell store i SIZE + (2 + 4 * m);
      str = cell store i SIZE;
      ascii = cell store i SIZE;
      line = 2 + 4 * m;
      empty_line = 2 + 4 * m;
      line_or_space = 2 + 4 * m;
      if_wrap = 0;
      call = 4;
      no_kind = 0;
    })
    kind

-- what the rows from `from` up to `stop` need, where lines start m steps in
pub record NeedsOf (s : List ℕ) (from stop m : ℕ) (n : Needs) : Type 0 where
  pub marks : n.marks ≡ marks_needed (stop - from) s from
  pub bytes : n.bytes.0 ≡ 4 * m + nodes_most (nodes_at (view_of s) from stop) m

-- with what row i needs by itself
pub record WithRow (s : List ℕ) (i m : ℕ) (n with_it : Needs) : Type 0 where
  pub marks : with_it.marks ≡ max n.marks (row_marks s i)
  pub bytes : with_it.bytes.0 ≡ n.bytes.0 + row_most m s i (cell s i KIND)
  pub few : with_it.bytes.0 ≤ n.bytes.0 + ROW_GROWTH

-- what is told of row i: whether it is right, and what is needed with it
abbrev pub is_right : Option Needs → Bool
is_right (Some n) = true
is_right None = false

pub record Tried (s : List ℕ) (i m : ℕ) (fits : Bool) (n : Needs) (r : Option Needs) : Type 0 where
  pub right : is_right r ≡ fits
  pub needs : (k : Needs) → r ≡ Some k → WithRow s i m n k

-- what is told of the rows: which is the first wrong one, or what they need
pub record Weighed (s : List ℕ) (from stop m : ℕ) (wrong : Option ℕ) (r : Result Needs ℕ) : Type 0 where
  pub row : wrong_in r ≡ wrong
  pub needs : (n : Needs) → r ≡ Ok n → NeedsOf s from stop m n
