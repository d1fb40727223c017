-- Closed examples of stops inside a row, by the rules: an `IfWrap` whose first part is not chosen, in a group that does not wrap; and a `Call`.
-- Assumes nothing.
use mathlib.Core.Path.{◌≡◌, refl}
use mathlib.Core.List.{List, [], ◌∷◌, map}
use Prim.Native.Nat.{ℕ}
use Rattle.rows.specs.Node.{Text, Nodes, group, indent, ascii, line_or_space, if_wrap, call, none, ◌then◌, must_wrap, must_wraps, width, widths}
use Rattle.rows.specs.Rows.{size, sizes, rows_of, rows}
use Rattle.rows.specs.View.{view_of, node_of, decode, nodes_at}
use Rattle.renderer_rules.specs.Renderer.{push_str, at_column, new_line, margin, text, virtual_column, insert, indent_more, indent_less}
use Rattle.renderer_rules.specs.Renderer.{next_indent_more, next_indent_less, wraps, group_wraps, trailing_call, callee_wraps, render_node, render_nodes}
use Rattle.renderer_rules.specs.Page.{text_bytes}
use Rattle.renderer_rules.specs.Frames.{part_limit, wrap_at}
use Rattle.renderer_rules.specs.Stops as stops
use Rattle.renderer_rules.specs.Stops.{OpenRow, Way, trailing, made_flat, made_wrapped}
use Rattle.rows.specs.Texts.{origin_text}
use Rattle.widths.specs.Rules.{SUPPLIED, edition_of, columns_by}
use Rattle.node_widths.specs.Measured.{ascii_columns}
use Rattle.node_widths.specs.Summed.{str_columns}
use Rattle.cut_rule.specs.Limits.{REFERENCE_WIDTH}
use Rattle.cut_rule.specs.States.{render_fresh}
use Rattle.cut_rule.specs.Parts.{Drawn}
use Rattle.whole_run.specs.Parts.{drawn}

-- "abcdefgh", and the byte at a place of it
abbrev source : List ℕ
source = 97 ∷ 98 ∷ 99 ∷ 100 ∷ 101 ∷ 102 ∷ 103 ∷ 104 ∷ []

abbrev byte : ℕ → Text
byte i = record { origin = 0; start = i; size = 1 }

-- row 0 a group, 1 an indent in it with 2, 3 and 4, and 5 an `IfWrap` of 6 and 7
abbrev chosen : Nodes
chosen =
    group 0
    (indent (ascii (byte 0) then (line_or_space then (ascii (byte 1) then none)))
    then (if_wrap 0 (ascii (byte 2)) (ascii (byte 3)) then none))
    then none

abbrev way_number : Way → ℕ
way_number trailing = 0
way_number made_flat = 1
way_number made_wrapped = 2

-- the next row, the rows entered, the text; and row and way of each row listed
abbrev seen : Drawn → List (List ℕ)
seen y = (y.row ∷ y.entered ∷ []) ∷ y.text ∷ map (λ l. l.row ∷ way_number l.way ∷ []) y.listed

abbrev stops_at : Nodes → ℕ → List (List ℕ)
stops_at ns n =
    seen
    (drawn source [] render_fresh (record { stop = sizes ns; choice = record { width = REFERENCE_WIDTH; rule = SUPPLIED } }) n (0 ∷ 0 ∷ []) (rows ns 0))

-- Row 6, the part that is not chosen, is passed over and not counted; each row is closed once its parts are done; and no more are entered than there are.
chosen_stops : stops_at chosen 1 ∷ stops_at chosen 4 ∷ stops_at chosen 5 ∷ stops_at chosen 6 ∷ stops_at chosen 7 ∷ stops_at chosen 100 ∷ []
    ≡ ((1 ∷ 1 ∷ []) ∷ [] ∷ (0 ∷ 0 ∷ []) ∷ [])
    ∷ ((4 ∷ 4 ∷ []) ∷ (97 ∷ 32 ∷ []) ∷ (0 ∷ 0 ∷ []) ∷ (1 ∷ 0 ∷ []) ∷ [])
    ∷ ((5 ∷ 5 ∷ []) ∷ (97 ∷ 32 ∷ 98 ∷ []) ∷ (0 ∷ 0 ∷ []) ∷ [])
    ∷ ((7 ∷ 6 ∷ []) ∷ (97 ∷ 32 ∷ 98 ∷ []) ∷ (0 ∷ 0 ∷ []) ∷ (5 ∷ 0 ∷ []) ∷ [])
    ∷ ((8 ∷ 7 ∷ []) ∷ (97 ∷ 32 ∷ 98 ∷ 100 ∷ []) ∷ [])
    ∷ ((8 ∷ 7 ∷ []) ∷ (97 ∷ 32 ∷ 98 ∷ 100 ∷ []) ∷ [])
    ∷ []
unfolding stops.ahead stops.behind stops.rest stops.meaning stops.within stops.entered stops.listed_rows part_limit wrap_at must_wrap must_wraps
    width widths size sizes rows_of rows view_of node_of decode nodes_at push_str at_column new_line margin text virtual_column insert wraps group_wraps
    indent_more indent_less render_node render_nodes origin_text text_bytes str_columns ascii_columns columns_by edition_of
chosen_stops = refl

-- row 0 a `Call` of 1 with 2 and 3: the group that it makes up counts for no row, and stays open until the arguments are done
abbrev called : Nodes
called = call 0 (ascii (byte 4) then none) 1 (ascii (byte 5) then (ascii (byte 6) then none)) then none

call_stops : stops_at called 1 ∷ stops_at called 2 ∷ stops_at called 3 ∷ stops_at called 4 ∷ []
    ≡ ((1 ∷ 1 ∷ []) ∷ [] ∷ (0 ∷ 1 ∷ []) ∷ [])
    ∷ ((2 ∷ 2 ∷ []) ∷ (101 ∷ []) ∷ (0 ∷ 1 ∷ []) ∷ [])
    ∷ ((3 ∷ 3 ∷ []) ∷ (101 ∷ 102 ∷ []) ∷ (0 ∷ 1 ∷ []) ∷ [])
    ∷ ((4 ∷ 4 ∷ []) ∷ (101 ∷ 102 ∷ 103 ∷ []) ∷ [])
    ∷ []
unfolding stops.ahead stops.behind stops.rest stops.meaning stops.within stops.entered stops.listed_rows part_limit wrap_at must_wrap must_wraps
    width widths size sizes rows_of rows view_of node_of decode nodes_at push_str at_column new_line margin text virtual_column insert wraps group_wraps
    next_indent_more next_indent_less trailing_call callee_wraps render_node render_nodes origin_text text_bytes str_columns ascii_columns columns_by edition_of
call_stops = refl
