-- "Stops when they are spent, wherever that is; the next goes on" (document 02, 12): the state that an accepted rendering call answers is accepted
-- again. proofs/HandedOn.antt proves it, and nothing is assumed.
use Rattle.std.specs.Prelude.{◌≡◌, true, false, List, [], ◌∷◌, ◌++◌, ℕ, ◌≤◌, ◌<◌, get_or, length, take, None}
use Rattle.rows.specs.Limits.{CELL_LIMIT}
use Rattle.rows.specs.View.{view_of}
use Rattle.refusals.specs.Refusals.{any, first}
use Rattle.widths.specs.Rules.{SUPPLIED}
use Rattle.renderer_rules.specs.Limits.{MAX_INDENT}
use Rattle.renderer_rules.specs.Check.{wrong_place_by}
use Rattle.cut_rule.specs.Limits.{REFERENCE_WIDTH}
use Rattle.cut_rule.specs.Rules.{RenderTo, RenderArgs, RenderResult}
use Rattle.cut_rule.specs.States.{RenderChoice, RenderState, render_fresh}
use Rattle.cut_rule.specs.Tests.{rows_in, row_tests, pen_tests, mark_tests, rule_tests, listed_tests}
use Rattle.cut_rule.specs.Laws.{to_stop}
use Rattle.cut_rule.specs.Allotments.{by_allotments}
use Rattle.cut_rule.specs.Parts.{rule_line, width_line, marks_for, before_text}
use Rattle.whole_run.specs.Parts.{other_rule, render_image, parts_of}
use Rattle.whole_run.specs.Demands.{rules_of}

-- each number of a store has 32 bits, as what is lent as `u32` holds. (11 doesn't test the width of a `Str`.)
abbrev pub AreCells : List ℕ → Type 0
AreCells store = (i : ℕ) → get_or store i 0 < CELL_LIMIT

-- a call to the same stop, width and rule; what comes before 10 reads no room
abbrev pub call_to : RenderTo RenderChoice → ℕ → RenderArgs RenderChoice
call_to q allotment = record { to = q; allotment = allotment; room = 0 }

-- what a call from a state gives, with these marks in use
abbrev pub called : List ℕ → List ℕ → RenderState → RenderTo RenderChoice → ℕ → List ℕ → List ℕ → RenderResult RenderState
called s b z q n marks store = (rules_of s b).render z q n marks store

-- From fresh, by any allotment: a call with the state answered, over the same rows, and marks that begin with those answered, passes each line before
-- the room's, by every allotment that is not 0.
abbrev pub HandedOn : Type 0
HandedOn =
    (s b store : List ℕ) (q : RenderTo RenderChoice) (n : ℕ) → AreCells store → rule_line (other_rule b q.choice.rule) q.choice.rule ≡ None
    → render_image q.choice.rule s b ≡ None
    → width_line q.choice render_fresh ≡ None
    → wrong_place_by q.choice.rule s b store 0 q.stop ≡ None
    → (more : ℕ) (behind : List ℕ) → 1 ≤ more
    → (let r = called s b render_fresh q n [] store in
    first (before_text (parts_of s b) (call_to q more) r.state store (r.marks ++ behind)) ≡ None)

-- So it is however the allotments fall: behind calls from fresh to one stop, all handed on untouched, the next goes on.
abbrev pub HandedAlong : Type 0
HandedAlong =
    (s b store : List ℕ) (q : RenderTo RenderChoice) (n : ℕ) (ns : List ℕ) → AreCells store
    → rule_line (other_rule b q.choice.rule) q.choice.rule ≡ None
    → render_image q.choice.rule s b ≡ None
    → width_line q.choice render_fresh ≡ None
    → wrong_place_by q.choice.rule s b store 0 q.stop ≡ None
    → (more : ℕ) (behind : List ℕ) → 1 ≤ more
    → (let r = by_allotments (rules_of s b) q (n ∷ ns) render_fresh [] store in
    first (before_text (parts_of s b) (call_to q more) r.state store (r.marks ++ behind)) ≡ None)

-- The same of a call to another stop, if the next row is not behind it, 11 lets the rows before it pass, and there are marks for those that are read.
abbrev pub HandedAway : Type 0
HandedAway =
    (s b store : List ℕ) (q : RenderTo RenderChoice) (n : ℕ) → AreCells store → rule_line (other_rule b q.choice.rule) q.choice.rule ≡ None
    → render_image q.choice.rule s b ≡ None
    → width_line q.choice render_fresh ≡ None
    → wrong_place_by q.choice.rule s b store 0 q.stop ≡ None
    → (to more : ℕ) (behind : List ℕ) → 1 ≤ more → wrong_place_by q.choice.rule s b store 0 to ≡ None
    → (let r = called s b render_fresh q n [] store in
    let next = call_to (to_stop to q.choice) more in
    r.state.row ≤ to → marks_for (parts_of s b) next r.state store ≤ length (r.marks ++ behind)
    → first (before_text (parts_of s b) next r.state store (r.marks ++ behind)) ≡ None)

-- what is so of the state that a call answers, whatever state it came from
pub record GoesOn (s b store : List ℕ) (q : RenderTo RenderChoice) (r : RenderResult RenderState) (behind : List ℕ) : Type 0 where
  -- 23: the rows listed are those that enclose the next one, and can be closed
  pub listed : any (listed_tests (view_of store) r.state) ≡ false
  -- 12, but for the pen
  pub row : any (row_tests (rows_in store) q.stop r.state.row) ≡ false
  pub marks : any (mark_tests (r.marks ++ behind) r.state.in_use) ≡ false
  pub rule : any (rule_tests q.choice.rule r.state.rule) ≡ false
  -- and where the pen is within 12's bounds, a call with that state passes each line before the room's
  pub again : (more : ℕ) → 1 ≤ more → any (pen_tests r.state.pen) ≡ false
      → first (before_text (parts_of s b) (call_to q more) r.state store (r.marks ++ behind)) ≡ None

-- from every state that the lines before the room's let pass
abbrev pub HandedFrom : Type 0
HandedFrom =
    (s b store marks : List ℕ) (z : RenderState) (q : RenderTo RenderChoice) (n : ℕ) → AreCells store
    → first (before_text (parts_of s b) (call_to q n) z store marks) ≡ None
    → (behind : List ℕ) → GoesOn s b store q (called s b z q n (take z.in_use marks) store) behind

-- ---- No more is true: from `indent` 384 the pen can be over 12's bound, a row farther. Row 0 is an `Indent`, which wraps, and row 1 a `Line` in it.
abbrev pub wrapped_indent : List ℕ
wrapped_indent = 1 ∷ 0 ∷ 0 ∷ 0 ∷ 2 ∷ 0 ∷ 0 ∷ 0 ∷ 0 ∷ 7 ∷ 0 ∷ 0 ∷ 0 ∷ 2 ∷ 0 ∷ 0 ∷ 0 ∷ 0 ∷ []

-- a header without a tree, which 1, 2 and 3 let pass
abbrev pub no_tree : List ℕ
no_tree = 1 ∷ 0 ∷ 0 ∷ 0 ∷ 0 ∷ []

abbrev pub at_bound : RenderState
at_bound =
    record { pen = record { indent = MAX_INDENT; next_indent = 0; column = record { 0 = 0 } }; in_use = 0; row = 0; width = 0; rule = 0; listed = [] }

abbrev pub both_rows : RenderTo RenderChoice
both_rows = record { stop = 2; choice = record { width = REFERENCE_WIDTH; rule = SUPPLIED } }

-- a call that enters one row is accepted, and none that goes on from what it answers
abbrev pub BoundIsPassed : Type 0
BoundIsPassed =
    (first (before_text (parts_of [] no_tree) (call_to both_rows 1) at_bound wrapped_indent []) ≡ None)
    × (any (pen_tests (called [] no_tree at_bound both_rows 1 [] wrapped_indent).state.pen) ≡ true)
