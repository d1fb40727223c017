-- What a layout call answers and leaves.
use Rattle.std.specs.Prelude.{◌≡◌, List, ℕ, ◌*◌, Option, Result}
use Rattle.std.proofs.lemmas.List.Edits.{sets}
use Rattle.rows.specs.Places.{PLACES}
use Rattle.rows.specs.Rows.{rows}
use Rattle.acts.specs.Laid.{st}
use Rattle.refusals.specs.Refusals.{Refusal, unless, first}
use Rattle.refusals.specs.declared.Refused.{Refused}
use Rattle.cut_rule.specs.Entries.{layout_answer, layout_store}
use Rattle.cut_rule.specs.Parts.{before_rows, rows_line}
use Rattle.whole_run.specs.Parts.{parts_of}
use Rattle.whole_run.specs.Demands.{rules_of}
use Rattle.layout_call.specs.Calls.{to_state, to_args, laying_answer}
use Rattle.layout_call.specs.Steps.{from_of, call_act}
use Rattle.layout_call.specs.declared.LayoutState.{LayoutState}
use Rattle.layout_call.specs.declared.LayoutArgs.{LayoutArgs}
use Rattle.layout_call.specs.declared.Laid.{Laid}

-- the answer, and the store at exit, for one source and image: what the caller's state, arguments and store give
pub record LayoutCalled (source image : List ℕ) (state : LayoutState) (args : LayoutArgs) (store : List ℕ)
    (r : Result Laid Refused) (store2 : List ℕ) : Type 0 where
  pub answer : laying_answer source image r ≡ layout_answer (rules_of source image) (to_args args) (to_state state) store
  pub store_left_of : store2 ≡ layout_store (rules_of source image) (to_args args) (to_state state) store

-- what the call lays, before the sums of a rule are put into it
abbrev pub bare_rows : List ℕ → List ℕ → LayoutState → LayoutArgs → List ℕ
bare_rows source image state args = rows (call_act source image state args (st (from_of state))).nodes state.row

-- The store at exit where rows are laid without counting first, by what the lines before 8 refuse and what 8 does: where 8 refuses, those that have
-- room stand in it, without sums.
abbrev pub left_by : List ℕ → List ℕ → LayoutState → LayoutArgs → List ℕ → Option Refusal → Option Refusal → List ℕ
left_by source image state args store before eight =
    unless before
    store
    (unless eight
    (sets store (PLACES * state.row) (bare_rows source image state args))
    (layout_store (rules_of source image) (to_args args) (to_state state) store))

abbrev pub store_at_once : List ℕ → List ℕ → LayoutState → LayoutArgs → List ℕ → List ℕ
store_at_once source image state args store =
    left_by source image state args store
    (first (before_rows (parts_of source image) (to_args args) (to_state state) store))
    (first (rows_line (parts_of source image) (to_args args) (to_state state) store))

-- the same where rows are laid without counting first, in a store of the caller's own
pub record LaidAtOnce (source image : List ℕ) (state : LayoutState) (args : LayoutArgs) (store : List ℕ)
    (r : Result Laid Refused) (store2 : List ℕ) : Type 0 where
  pub answer : laying_answer source image r ≡ layout_answer (rules_of source image) (to_args args) (to_state state) store
  pub store_left_of : store2 ≡ store_at_once source image state args store
