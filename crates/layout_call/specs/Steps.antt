-- What the functions below the layout call go by.
use Rattle.std.specs.Prelude.{◌≡◌, Bool, false, not, cond, List, ℕ, ◌+◌, ◌-◌, ◌≤◌, eqb, ltb, length, take, drop, Option, Some, None}
use Rattle.image.specs.Read.{stop_at, read_by, read_refusal}
use Rattle.image.specs.declared.Document.{Document}
use Rattle.rows.specs.Limits.{MAX_ROWS, MAX_NUMBER}
use Rattle.tree.specs.Walk.{walked}
use Rattle.acts.specs.Act.{Act}
use Rattle.acts.specs.Laid.{cursor}
use Rattle.comments.specs.Listed.{given}
use Rattle.layout.specs.Closing.{call_rule}
use Rattle.acts.specs.declared.Cursor.{Cursor}
use Rattle.refusals.specs.Refusals.{any}
use Rattle.cut_rule.specs.Parts.{rule_line, layout_tests}
use Rattle.whole_run.specs.Parts.{other_rule, keeps_waiting, parts_of}
use Rattle.whole_run.specs.Built.{tree, declared}
use Rattle.layout_call.specs.Calls.{to_state, to_args}
use Rattle.layout_call.specs.declared.LayoutState.{LayoutState}
use Rattle.layout_call.specs.declared.LayoutArgs.{LayoutArgs}

-- where declaration n starts
abbrev pub start_of : List ℕ → List ℕ → ℕ → ℕ → ℕ
start_of s b at n = walked b (declared s b) n (stop_at b (at + 13))

-- what a call lays, from its state's next declaration up to its stop
abbrev pub call_act : List ℕ → List ℕ → LayoutState → LayoutArgs → Act
call_act s b state q =
    let from = state.declaration in
    call_rule (given s b) (tree s b) (not state.begun) (take (q.stop - from) (drop from (declared s b))) (eqb from 0) q.close
    (keeps_waiting q.mode)

-- the cursor of a state
abbrev pub from_of : LayoutState → Cursor
from_of state = cursor state.row state.number state.position state.placed

-- what 12 lets pass, whatever the store: the call goes on from its next declaration to one that is there, and its numbers are small
pub record Goes (s b : List ℕ) (d : Document) (state : LayoutState) (q : LayoutArgs) : Type 0 where
  pub ahead : state.declaration ≤ q.stop
  pub within : q.stop ≤ length (declared s b)
  pub row : state.row ≤ MAX_ROWS
  pub number : state.number ≤ MAX_NUMBER
  pub placed : state.placed ≤ d.comments
  pub position : state.position ≤ length s

-- how many rows are needed, where a store of so many lacks some
abbrev pub missing : ℕ → ℕ → Option ℕ
missing rows needed = cond (ltb rows needed) (Some needed) None

-- 20 does not refuse a rule
abbrev pub RuleFits : List ℕ → List ℕ → ℕ → Type 0
RuleFits s b rule = rule_line (other_rule b rule) rule ≡ None

-- 1 to 7 do not refuse, by the rule that the call's entry reads by
abbrev pub Reads : List ℕ → List ℕ → Bool → Type 0
Reads s b archive = read_refusal (read_by archive s b) ≡ None

-- 12: one of its tests finds the state at fault, "place past declarations, comments, source, store" to "close elsewhere than at the end"
abbrev pub unfit : List ℕ → List ℕ → LayoutState → LayoutArgs → List ℕ → Bool
unfit s b state q store = any (layout_tests (parts_of s b) (to_args q) (to_state state) store)

-- 20, 1 to 7 and 12 do not refuse
pub record StateFits (s b : List ℕ) (state : LayoutState) (q : LayoutArgs) (store : List ℕ) : Type 0 where
  pub chosen : RuleFits s b q.rule
  pub read : Reads s b q.archive
  pub tested : unfit s b state q store ≡ false
