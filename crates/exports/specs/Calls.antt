-- What the exported calls leave in each slice that they are lent.
use Rattle.std.specs.Prelude.{◌≡◌, Bool, ℕ, List, length}
use Rattle.refusals.specs.Answers.{numbers_of}
use Rattle.cut_rule.specs.Entries.{layout_answer, layout_store, render_answer, render_marks, render_output}
use Rattle.whole_run.specs.Demands.{rules_of}
use Rattle.whole_run.specs.File.{file_output, file_answer}
use Rattle.whole_run.specs.Built.{declared}
use Rattle.layout_call.specs.Calls as laying
use Rattle.render_call.specs.Calls as rendering
use Rattle.file.specs.Whole as whole
use Rattle.image.specs.Read.{read_all, outcome}
use Rattle.figures.specs.Figures.{count_answer}
use Rattle.cut_rule.specs.States as states
use Rattle.exports.specs.Numbers.{layout_state, layout_args, render_state, render_list, render_args, file_choice}
use Rattle.exports.specs.Numbers.{told_document, told_call, told_file, tallies_from, told_counted}

-- the reader's check: the answer's numbers
abbrev pub ChecksFile : List ℕ → List ℕ → List ℕ → List ℕ → Type 0
ChecksFile s b out out2 = out2 ≡ numbers_of (told_document (length (declared s b))) (outcome (read_all s b)) out

-- a file that is counted: the answer's numbers
abbrev pub CountsFile : List ℕ → List ℕ → List ℕ → List ℕ → List ℕ → Type 0
CountsFile s b tallies out out2 = out2 ≡ numbers_of told_counted (count_answer s b (tallies_from tallies)) out

-- document 01's rendering state, of an array's numbers
abbrev pub state_told : List ℕ → states.RenderState
state_told l = rendering.to_state (render_state l) (render_list l)

-- a layout call of the archive entry or the other: the store, and the answer's numbers
pub record Lays (archive : Bool) (s b store state args out store2 out2 : List ℕ) : Type 0 where
  pub store_left_of : store2 ≡ layout_store (rules_of s b) (laying.to_args (layout_args archive args)) (laying.to_state (layout_state state)) store
  pub told_as : out2
      ≡ numbers_of (told_call s b) (layout_answer (rules_of s b) (laying.to_args (layout_args archive args)) (laying.to_state (layout_state state)) store) out

-- a rendering call: the store as it was, marks, output, and the answer's numbers
pub record Renders (s b store marks output state args out store2 marks2 output2 out2 : List ℕ) : Type 0 where
  pub store_left_of : store2 ≡ store
  pub marks_left_of : marks2
      ≡ render_marks (rules_of s b) (rendering.to_args (render_args args) (length output)) (state_told state) store marks
  pub output_left_of : output2
      ≡ render_output (rules_of s b) (rendering.to_args (render_args args) (length output)) (state_told state) store marks output
  pub told_as : out2
      ≡ numbers_of (told_call s b)
      (render_answer (rules_of s b) (rendering.to_args (render_args args) (length output)) (state_told state) store marks)
      out

-- the run of one file: the output, and the answer's numbers
pub record FormatsFile (s b choice output out output2 out2 : List ℕ) : Type 0 where
  pub output_left_of : output2 ≡ file_output s b (whole.to_choice (file_choice choice)) output
  pub told_as : out2 ≡ numbers_of told_file (file_answer s b (whole.to_choice (file_choice choice)) (length output)) out
