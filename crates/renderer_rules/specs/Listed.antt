-- Request 12: rows that a state lists, and what 23 asks of them.
use Rattle.std.specs.Prelude.{ℕ, ◌+◌, Bool, true, false, cond, not, ◌&&◌, ◌||◌, List, [], ◌∷◌, ltb, eqb}
use Rattle.rows.specs.Kinds.{INDENT, INDENT_NEXT, IF_WRAP, CALL}
use Rattle.rows.specs.View.{View}
use Rattle.renderer_rules.specs.declared.Frame.{Frame}
use Rattle.renderer_rules.specs.declared.Pen.{Pen}
use Rattle.renderer_rules.specs.Machine.{closes}
use Rattle.renderer_rules.specs.Stops.{OpenRow, is_made, is_deeper}
use Rattle.renderer_rules.specs.Drift.{around}

-- "a listed `IfWrap` chose the part the next row is in", and so did a `Call`: a row of two parts whose second part is ahead of row n
abbrev pub is_early : View → ℕ → ℕ → Bool
is_early v i n = (eqb (v.kind i) IF_WRAP || eqb (v.kind i) CALL) && ltb n (v.second i)

-- the open row of the machine that goes on from a listed one, with row n next; both facts of it are believed
abbrev pub resumed : View → ℕ → OpenRow → Frame
resumed v n l = record { row = l.row; wrap = l.wraps; first = is_early v l.row n; deeper = is_deeper l.way; made = is_made l.way }

-- "9 and 11 read from the first listed row or the next row, the earlier"
abbrev pub reads_from : List OpenRow → ℕ → ℕ
reads_from [] n = n
reads_from (l ∷ ls) n = cond (ltb l.row n) l.row n

-- these rows are listed, one after the other, and no others
unfoldable pub same_rows : List OpenRow → List ℕ → Bool
same_rows [] [] = true
same_rows [] (i ∷ is) = false
same_rows (l ∷ ls) [] = false
same_rows (l ∷ ls) (i ∷ is) = eqb l.row i && same_rows ls is

-- 23: "listed rows other than those", that enclose the next row, counting none before the first listed
abbrev pub listed_those : View → List OpenRow → ℕ → Bool
listed_those v [] n = true
listed_those v (l ∷ ls) n = same_rows (l ∷ ls) (around v l.row n)

-- what the end of a listed row takes back, "with no further row" (of a `Call` in its callee its arguments are left out); and whether it is there
-- to be taken
abbrev pub closed_pen : View → OpenRow → Pen → Pen
closed_pen v l p = closes (v.kind l.row) l.wraps (is_deeper l.way) p

abbrev pub can_close : ℕ → Bool → Bool → Pen → Bool
can_close kind wraps deeper p =
    cond (eqb kind INDENT)
    (not wraps || ltb 0 p.indent)
    (cond (eqb kind INDENT_NEXT) (not wraps || ltb 0 (p.indent + p.next_indent))
    (cond (eqb kind CALL) (not deeper || ltb 0 (p.indent + p.next_indent)) true))

-- all closed, "innermost first"; the list is outermost first
unfoldable pub closed_all : View → List OpenRow → Pen → Pen
closed_all v [] p = p
closed_all v (l ∷ ls) p = closed_pen v l (closed_all v ls p)

-- 23: "whose closing, innermost first and with no further row, would take `indent` under 0"
unfoldable pub can_close_all : View → List OpenRow → Pen → Bool
can_close_all v [] p = true
can_close_all v (l ∷ ls) p = can_close_all v ls p && can_close (v.kind l.row) l.wraps (is_deeper l.way) (closed_all v ls p)
