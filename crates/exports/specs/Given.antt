-- The numbers that the code tells of what it is given, as those of Numbers.antt tell of the definitions' values.
use Rattle.std.specs.Prelude.{ℕ, List, [], ◌∷◌}
use Rattle.layout_call.specs.declared.Laid.{Laid}
use Rattle.render_call.specs.declared.Written.{Written}
use Rattle.file.specs.declared.Text.{Text}
use Rattle.file.specs.Whole.{to_result}
use Rattle.figures.specs.declared.Counted.{Counted}
use Rattle.batch.specs.declared.Batch.{Batch}
use Rattle.exports.specs.Numbers.{bit, told_file, told_count}

abbrev pub laid_numbers : Laid → List ℕ
laid_numbers t =
    t.left
    ∷ bit t.state.begun
    ∷ bit t.state.closed
    ∷ t.state.declaration
    ∷ t.state.row
    ∷ t.state.number
    ∷ t.state.placed
    ∷ t.state.position
    ∷ t.state.mode
    ∷ t.state.rule
    ∷ []

-- without its listed rows, which stand in the list that is lent with the state
abbrev pub written_numbers : Written → List ℕ
written_numbers w =
    let pen = w.state.pen in
    w.bytes.0
    ∷ w.entered
    ∷ pen.indent
    ∷ pen.next_indent
    ∷ pen.column.0
    ∷ w.state.in_use
    ∷ w.state.row
    ∷ w.state.width.0
    ∷ w.state.rule
    ∷ w.state.listed_rows
    ∷ []

abbrev pub text_numbers : Text → List ℕ
text_numbers t = told_file (to_result t)

abbrev pub counted_numbers : Counted → List ℕ
counted_numbers c = told_count c.figures c.tallies c.wrapped

abbrev pub batch_numbers : Batch → List ℕ
batch_numbers b = b.files ∷ b.bytes ∷ []
