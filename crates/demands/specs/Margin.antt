-- Request 13, "The margin never drifts", of `render_call::render_call` and of the function that other languages link, by what they promise and nothing
-- else: its sentence with allotments, for a row that one call enters and another may finish, and that of a whole document. What is said of the rules, a
-- row at a time: crates/renderer_rules/specs/Drift.antt and crates/stop_facts/specs/Margin.antt. proofs/Margin.antt proves it.
use Rattle.std.specs.Prelude.{◌≡◌, Bool, true, List, ℕ, ◌+◌, ◌-◌, ◌≤◌, ◌<◌, length, get_or, take, drop, Ok, ◌∷◌, []}
use Rattle.rows.specs.View.{view_of}
use Rattle.rows.specs.declared.units.Bytes.{Bytes}
use Rattle.renderer_rules.specs.declared.Pen.{Pen}
use Rattle.cut_rule.specs.States as states
use Rattle.cut_rule.specs.Callers.{after_all, AllKept}
use Rattle.whole_run.specs.Built.{declared}
use Rattle.stop_facts.specs.Margin.{sum_of, PenMarginKept, StillOpen, StopsBehind, Asked, SameRows, Finishes}
use Rattle.layout_call.specs.declared.LayoutState.{LayoutState}
use Rattle.layout_call.specs.Whole.{LayoutCalled}
use Rattle.render_call.specs.declared.RenderState.{RenderState}
use Rattle.render_call.specs.declared.RenderArgs.{RenderArgs}
use Rattle.render_call.specs.declared.Written.{Written}
use Rattle.render_call.specs.Calls as render
use Rattle.render_call.specs.Whole.{RenderCalled}
use Rattle.exports.specs.Numbers.{layout_state, render_state, render_args}
use Rattle.exports.specs.Calls.{state_told, Lays, Renders}
use Rattle.demands.specs.Fresh.{fresh_layout, fresh_render}
use Rattle.demands.specs.Linked.{told_state, fresh_layout_numbers, fresh_render_numbers}

-- ---- a row over calls
-- A caller that makes rendering calls, each accepted with what the one before left, "the state handed on". `told` is document 01's state of what is
-- handed on, and `asked` what a call asks, in the words of the rules.
module _ {W M : Type 0} (s b : List ℕ) (after : W → M → W) (Accepted : W → M → Type 0) (told : W → states.RenderState) (asked : M → Asked) where
  -- "the row's range unchanged": the call is lent row i, up to its end, as another store has it, `rows`
  pub record OverRow (rows : List ℕ) (i : ℕ) (w : W) (m : M) : Type 0 where
    pub accepted : Accepted w m
    pub unchanged : SameRows i ((view_of rows).after i) rows (asked m).store

  -- and the state that it answers lists the row behind d others: the row isn't finished
  pub record LeavesOpen (rows : List ℕ) (i d : ℕ) (w : W) (m : M) : Type 0 where
    pub over : OverRow rows i w m
    pub still : StillOpen i d (told (after w m))

  -- "it is said when the row finishes", the pen being p before it: of what stands in `Renderer` where a call comes to the row's end; and where it stops
  -- right behind the row, of the state that it answers
  pub record RowFinishes (i d : ℕ) (p : Pen) (w : W) (m : M) : Type 0 where
    pub done : Finishes s b i d p (told w) (asked m)
    pub behind : StopsBehind ((view_of (asked m).store).after i) d (told (after w m)) → PenMarginKept p (told (after w m)).pen

  -- behind calls, from where row i was next, with d rows around it: "the sum is at most that before plus the rows, from this one down, that enclose"
  -- the next one, which are those listed from place d on (`enclosing` of `Finishes`); and one call more, if it comes to the row's end, leaves the sum as
  -- it was before the row, and `indent` no smaller
  pub record RowKept (rows : List ℕ) (i d : ℕ) (w : W) (ms : List M) : Type 0 where
    pub low : sum_of (told (after_all after w ms)).pen ≤ sum_of (told w).pen + (length (told (after_all after w ms)).listed - d)
    pub finishes : (m : M) → OverRow rows i (after_all after w ms) m → RowFinishes i d (told w).pen (after_all after w ms) m

  -- Of the row that is next in what was handed on at first, whatever that was, in a store by which the row ends behind its first place; and of all calls
  -- that leave it open, so that it holds at each state between, which the first so many of them leave.
  abbrev pub RowsKept : Type 0
  RowsKept =
      (rows : List ℕ) (w : W) (ms : List M) → (told w).row < (view_of rows).after (told w).row
      → AllKept after (LeavesOpen rows (told w).row (length (told w).listed)) w ms
      → RowKept rows (told w).row (length (told w).listed) w ms

-- ---- `render_call::render_call`
-- what is handed on: the state, and the list of open rows that is lent with it
pub record Handed : Type 0 where
  pub state : RenderState
  pub listed : List ℕ

abbrev pub told_handed : Handed → states.RenderState
told_handed w = render.to_state w.state w.listed

-- an accepted rendering call: its arguments and what else it was lent, what it answered, and the buffers at exit
pub record Drew : Type 0 where
  pub args : RenderArgs
  pub store : List ℕ
  pub marks : List ℕ
  pub out : List ℕ
  pub written : Written
  pub store2 : List ℕ
  pub marks2 : List ℕ
  pub out2 : List ℕ
  pub listed2 : List ℕ

-- the function's own promise
abbrev pub Promised : (s b : List ℕ) → Handed → Drew → Type 0
Promised s b w c =
    RenderCalled s b (told_handed w) c.args c.store c.marks c.out w.listed (Ok c.written) c.store2 c.marks2 c.out2 c.listed2

abbrev pub after_drew : Handed → Drew → Handed
after_drew w c = record { state = c.written.state; listed = c.listed2 }

abbrev pub asked_drew : Drew → Asked
asked_drew c = record { args = render.to_args c.args (length c.out); store = c.store; marks = c.marks }

-- "With allotments, the state handed on and the row's range unchanged, it is said when the row finishes": each call has its own stop, allotment, choice,
-- marks and output, and a store that is the same over the row alone
abbrev pub MarginOverCalls : Type 0
MarginOverCalls = (s b : List ℕ) → RowsKept s b after_drew (Promised s b) told_handed asked_drew

-- ---- `rrufthim_render`
-- an accepted call: what it was lent but for its state, and the buffers at exit; the answer's array, at entry `out`, begins with 0
pub record LinkedDrew : Type 0 where
  pub args : List ℕ
  pub store : List ℕ
  pub marks : List ℕ
  pub output : List ℕ
  pub out : List ℕ
  pub store2 : List ℕ
  pub marks2 : List ℕ
  pub output2 : List ℕ
  pub out2 : List ℕ

pub record LinkedAccepted (s b state : List ℕ) (c : LinkedDrew) : Type 0 where
  pub size : length c.out ≡ 267
  pub promised : Renders s b c.store c.marks c.output state c.args c.out c.store2 c.marks2 c.output2 c.out2
  pub accepted : get_or c.out2 0 0 ≡ 0

-- the new state is the answer from its fourth place on
abbrev pub after_linked_drew : List ℕ → LinkedDrew → List ℕ
after_linked_drew state c = told_state c.out2

abbrev pub asked_linked : LinkedDrew → Asked
asked_linked c = record { args = render.to_args (render_args c.args) (length c.output); store = c.store; marks = c.marks }

abbrev pub LinkedMarginOverCalls : Type 0
LinkedMarginOverCalls = (s b : List ℕ) → RowsKept s b after_linked_drew (LinkedAccepted s b) state_told asked_linked

-- ---- a whole document
-- "both 0"
pub record AtLeft (p : Pen) : Type 0 where
  pub indent : p.indent ≡ 0
  pub next_indent : p.next_indent ≡ 0

-- "Hence a whole document from fresh ends with both 0": a rendering call from fresh over all rows that a layout call which closed left, with an
-- allotment of as many rows, or more; in either mode, at every width, by every rule
abbrev pub DocumentEndsAtMargin : Type 0
DocumentEndsAtMargin =
    (archive : Bool) (s b store : List ℕ) (mode rule : ℕ) (t : LayoutState) (left : ℕ) (store2 : List ℕ)
    → LayoutCalled s b fresh_layout (record { stop = length (declared s b); close = true; mode = mode; rule = rule; archive = archive }) store
    (Ok (record { state = t; left = left })) store2
    → (width allotment : ℕ) → t.row ≤ allotment
    → (marks out listed : List ℕ) (u : RenderState) (n : Bytes) (count : ℕ) (store3 marks2 out2 listed2 : List ℕ)
    → RenderCalled s b (render.to_state fresh_render listed)
    (record { stop = t.row; allotment = allotment; width = record { 0 = width }; rule = rule }) store2 marks out listed
    (Ok (record { state = u; bytes = n; entered = count })) store3 marks2 out2 listed2
    → AtLeft u.pen

-- the same of `rrufthim_layout` and `rrufthim_render`
abbrev pub LinkedDocumentEndsAtMargin : Type 0
LinkedDocumentEndsAtMargin =
    (archive : Bool) (s b store : List ℕ) (mode rule : ℕ) (out store2 out2 : List ℕ) → length out ≡ 11
    → Lays archive s b store fresh_layout_numbers (length (declared s b) ∷ 1 ∷ mode ∷ rule ∷ []) out store2 out2
    → get_or out2 0 0 ≡ 0
    → (width allotment : ℕ) → (layout_state (take 9 (drop 2 out2))).row ≤ allotment
    → (marks output out3 store3 marks2 output2 out4 : List ℕ) → length out3 ≡ 267
    → Renders s b store2 marks output fresh_render_numbers ((layout_state (take 9 (drop 2 out2))).row ∷ width ∷ rule ∷ allotment ∷ []) out3 store3 marks2
    output2 out4
    → get_or out4 0 0 ≡ 0
    → AtLeft (render_state (told_state out4)).pen
