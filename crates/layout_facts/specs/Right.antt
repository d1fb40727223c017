-- Rows as refusal 11 wants them, apart from how they nest: a kind of 0 to 11, a text inside its origin where the kind has one, and 0 in
-- each place that the kind doesn't use.
use Rattle.std.specs.Prelude.{ℕ, List, [], ◌++◌}
use Rattle.rows.specs.Node.{Text}
use Rattle.rows.specs.Rows.{row, no_text}
use Rattle.acts.specs.Act.{Given}
use Rattle.layout_facts.specs.Sound.{Inside}

-- the nine numbers of one row, by its kind
pub data RightRow (g : Given) : List ℕ → Type 0 where
  group : (n after : ℕ) → RightRow g (row 0 n 0 0 after no_text 0)
  indent : (after : ℕ) → RightRow g (row 1 0 0 0 after no_text 0)
  indent_next : (after : ℕ) → RightRow g (row 2 0 0 0 after no_text 0)
  wrap_parent : (after : ℕ) → RightRow g (row 3 0 0 0 after no_text 0)
  comment : (after : ℕ) (t : Text) → Inside g t → RightRow g (row 4 0 0 0 after t 0)
  str : (after : ℕ) (t : Text) (w : ℕ) → Inside g t → RightRow g (row 5 0 0 0 after t w)
  ascii : (after : ℕ) (t : Text) → Inside g t → RightRow g (row 6 0 0 0 after t 0)
  line : (after : ℕ) → RightRow g (row 7 0 0 0 after no_text 0)
  empty_line : (after : ℕ) → RightRow g (row 8 0 0 0 after no_text 0)
  line_or_space : (after : ℕ) → RightRow g (row 9 0 0 0 after no_text 0)
  if_wrap : (n second after : ℕ) → RightRow g (row 10 n 0 second after no_text 0)
  call : (n k second after : ℕ) → RightRow g (row 11 n k second after no_text 0)

-- such rows one after the other
pub data RightRows (g : Given) : List ℕ → Type 0 where
  none : RightRows g []
  more : {x xs : List ℕ} → RightRow g x → RightRows g xs → RightRows g (x ++ xs)
