-- What is said of a call's texts, state and arguments, said of the call and the list that is lent with its state.
use Rattle.std.specs.Prelude.{ℕ, ◌-◌, List}
use Rattle.marks.specs.Marks.{marks_needed}
use Rattle.cut_rule.specs.States as states
use Rattle.cut_rule.specs.Parts.{read_from}
use Rattle.render_call.specs.declared.call.Call.{Call}
use Rattle.render_call.specs.declared.RenderArgs.{RenderArgs}
use Rattle.render_call.specs.Calls.{to_state}

abbrev pub of_call : {A : Type 1} → (List ℕ → List ℕ → states.RenderState → RenderArgs → A) → Call → List ℕ → A
of_call f c listed = f c.source.now c.image.now (to_state c.state listed) c.args

-- the marks that the rows need which it reads
abbrev pub needed_of : Call → List ℕ → List ℕ → ℕ
needed_of c listed store = let from = read_from (to_state c.state listed) in marks_needed (c.args.stop - from) store from
