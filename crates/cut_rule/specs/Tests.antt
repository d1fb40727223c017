-- Refusals 12, 15, 20, 22 and 23, in groups: a test more goes into its group, a group more into the list.
use Rattle.std.specs.Prelude.{Bool, false, not, ◌&&◌, ◌||◌, List, [], ◌∷◌, ◌++◌, ℕ, ◌/◌, ltb, eqb, length, take}
use Rattle.rows.specs.Places.{PLACES}
use Rattle.rows.specs.Limits.{MAX_ROWS, MAX_NUMBER}
use Rattle.rows.specs.View.{View}
use Rattle.renderer_rules.specs.Limits.{MAX_INDENT, MAX_COLUMN}
use Rattle.renderer_rules.specs.Listed.{listed_those, can_close_all}
use Rattle.cut_rule.specs.Limits.{MIN_WIDTH, MAX_WIDTH, MIN_RULE, MAX_RULE, MAX_LISTED}
use Rattle.cut_rule.specs.Rules.{LayoutArgs, RenderArgs}
use Rattle.renderer_rules.specs.declared.Pen.{Pen}
use Rattle.cut_rule.specs.States.{LayoutChoice, RenderChoice, LayoutState, RenderState, NEW_MODE}

-- "A store has length / 9 rows, rounded down."
abbrev pub rows_in : List ℕ → ℕ
rows_in store = length store / PLACES

-- a choice "differs from a carried" one "other than 0"
abbrev pub differs : ℕ → ℕ → Bool
differs chosen carried = not (eqb carried 0) && not (eqb carried chosen)

-- 12, of both kinds of calls: a rule "that differs from a carried choice other than 0"
abbrev pub rule_tests : ℕ → ℕ → List Bool
rule_tests rule carried = differs rule carried ∷ []

-- 20: "a choice outside 1 to 3", or another than the image asks for
abbrev pub chosen_tests : Bool → ℕ → List Bool
chosen_tests other rule = ltb rule MIN_RULE ∷ ltb MAX_RULE rule ∷ other ∷ []

-- ---- layout
-- all of a state that has not begun is 0
abbrev pub numbers_zero : LayoutState → Bool
numbers_zero s =
    eqb s.declaration 0
    && (eqb s.cursor.row 0
    && (eqb s.cursor.number 0 && (eqb s.cursor.placed 0 && (eqb s.cursor.position 0 && (eqb s.mode 0 && eqb s.rule 0)))))

abbrev pub all_zero : LayoutState → Bool
all_zero s = not s.closed && numbers_zero s

-- "place past declarations, comments, source, store", by how many there are of each
abbrev pub places_tests : ℕ → ℕ → ℕ → ℕ → LayoutState → List Bool
places_tests declarations comments size rows s =
    ltb declarations s.declaration
    ∷ ltb comments s.cursor.placed
    ∷ ltb size s.cursor.position
    ∷ ltb rows s.cursor.row
    ∷ []

-- "next row over 2,097,152; next number over 1,048,576"
abbrev pub limit_tests : LayoutState → List Bool
limit_tests s = ltb MAX_ROWS s.cursor.row ∷ ltb MAX_NUMBER s.cursor.number ∷ []

-- "not begun yet not all 0"
abbrev pub begun_tests : LayoutState → List Bool
begun_tests s = (not s.begun && not (all_zero s)) ∷ []

-- "stop before the next declaration or past their number; already closed; close elsewhere than at the end"
abbrev pub stop_tests : ℕ → LayoutArgs LayoutChoice → LayoutState → List Bool
stop_tests declarations q s =
    ltb q.stop s.declaration
    ∷ ltb declarations q.stop
    ∷ s.closed
    ∷ (q.close && not (eqb q.stop declarations))
    ∷ []

-- "12 also for a mode over 1, or one that differs from the carried mode once begun"
abbrev pub mode_tests : LayoutChoice → LayoutState → List Bool
mode_tests c s = ltb NEW_MODE c.mode ∷ (s.begun && not (eqb c.mode s.mode)) ∷ []

abbrev pub layout_tests_in : ℕ → ℕ → ℕ → ℕ → LayoutArgs LayoutChoice → LayoutState → List Bool
layout_tests_in declarations comments size rows q s =
    places_tests declarations comments size rows s
    ++ (limit_tests s ++ (begun_tests s ++ (stop_tests declarations q s ++ (mode_tests q.choice s ++ rule_tests q.choice.rule s.rule))))

-- ---- rendering
-- "place past .. store or the rendering's stop; next row over 2,097,152"
abbrev pub row_tests : ℕ → ℕ → ℕ → List Bool
row_tests rows stop row = ltb rows row ∷ ltb stop row ∷ ltb MAX_ROWS row ∷ []

-- "`indent` or `next_indent`" over 384; "column over 72,057,594,037,927,936"
abbrev pub pen_tests : Pen → List Bool
pen_tests z = ltb MAX_INDENT z.indent ∷ ltb MAX_INDENT z.next_indent ∷ ltb MAX_COLUMN z.column.0 ∷ []

-- marks "not 0 or 1"
abbrev pub odd_mark : List ℕ → Bool
odd_mark [] = false
odd_mark (x ∷ xs) = ltb 1 x || odd_mark xs

-- "marks in use over the buffer or not 0 or 1"
abbrev pub mark_tests : List ℕ → ℕ → List Bool
mark_tests marks used = ltb (length marks) used ∷ odd_mark (take used marks) ∷ []

-- 12, as far as it is of rendering
abbrev pub render_tests : RenderArgs RenderChoice → RenderState → List ℕ → List ℕ → List Bool
render_tests q s store marks =
    row_tests (rows_in store) q.to.stop s.row ++ (pen_tests s.pen ++ (mark_tests marks s.in_use ++ rule_tests q.to.choice.rule s.rule))

-- 15: "a chosen width outside 40 to 200, or one that differs from a carried width other than 0"
abbrev pub width_tests : ℕ → ℕ → List Bool
width_tests width carried = ltb width MIN_WIDTH ∷ ltb MAX_WIDTH width ∷ differs width carried ∷ []

-- 22: "an allotment of 0"
abbrev pub allotment_tests : ℕ → List Bool
allotment_tests allotment = eqb allotment 0 ∷ []

-- 23: more than 256; "listed rows other than those, or whose closing, innermost first and with no further row, would take `indent` under 0"
abbrev pub listed_tests : View → RenderState → List Bool
listed_tests v s =
    ltb MAX_LISTED (length s.listed)
    ∷ not (listed_those v s.listed s.row)
    ∷ not (can_close_all v s.listed s.pen)
    ∷ []
