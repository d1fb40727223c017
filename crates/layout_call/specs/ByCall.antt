-- What is said of a source, an image, a state and arguments, said of a call.
use Rattle.std.specs.Prelude.{ℕ, ◌+◌, List}
use Rattle.rows.specs.Rows.{sizes}
use Rattle.acts.specs.Laid.{st}
use Rattle.layout_call.specs.Steps.{from_of, call_act}
use Rattle.layout_call.specs.ByFile.{of_file}
use Rattle.layout_call.specs.declared.call.Call.{Call}
use Rattle.layout_call.specs.declared.LayoutState.{LayoutState}
use Rattle.layout_call.specs.declared.LayoutArgs.{LayoutArgs}

abbrev pub of_call {ℓ} : {A : Type ℓ} → (List ℕ → List ℕ → LayoutState → LayoutArgs → A) → Call → A
of_call f c = of_file f c.file c.state c.args

-- the row behind what a call lays
abbrev pub rows_behind : Call → ℕ
rows_behind c = c.state.row + sizes (of_call call_act c (st (from_of c.state))).nodes
