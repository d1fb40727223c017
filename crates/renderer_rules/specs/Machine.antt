-- No rule rests on this file: it is how the code renders. The machine is `render_node` without recursion: one turn closes the innermost open
-- row or enters the next row. proofs/Machine.antt proves that it does what the rules say.
use Rattle.std.specs.Prelude.{ℕ, zero, suc, Bool, true, false, cond, not, ◌&&◌, List, set, eqb}
use Rattle.rows.specs.Kinds.{INDENT, INDENT_NEXT, CALL, case_of}
use Rattle.rows.specs.Node.{Node, Nodes, group, wrapped}
use Rattle.rows.specs.View.{View, nodes_at, node_at}
use Rattle.renderer_rules.specs.declared.Frame.{Frame}
use Rattle.renderer_rules.specs.declared.Pen.{Pen}
use Rattle.renderer_rules.specs.Renderer.{Page, Renderer, on_pen, render_node, group_wraps, insert, indent_more, indent_less}
use Rattle.renderer_rules.specs.Renderer.{next_indent_more, next_indent_less, trailing_call, callee_wraps}
use Rattle.renderer_rules.specs.Frames.{frame_at, part_end, wrap_at}

-- open rows, how many, the next row, the state, the rows entered
pub record Machine : Type 0 where
  pub frames : List Frame
  pub depth : ℕ
  pub next : ℕ
  pub state : Renderer
  pub entered : ℕ

-- before the first turn: no row is open, and row `from` is next
abbrev pub started : List Frame → ℕ → Renderer → Machine
started fs from t = record { frames = fs; depth = 0; next = from; state = t; entered = 0 }

-- How a turn goes on: one more row is open, with row k next; a row without parts is passed; frame k, the innermost, is f from here on; k rows
-- stay open, with row n next. No rule and no proof writes a machine out but by these.
abbrev pub opened : Machine → Frame → ℕ → Renderer → Machine
opened m f k t = record { frames = set m.frames m.depth f; depth = suc m.depth; next = k; state = t; entered = suc m.entered }

abbrev pub passed : Machine → Renderer → Machine
passed m t = record { frames = m.frames; depth = m.depth; next = suc m.next; state = t; entered = suc m.entered }

abbrev pub reopened : Machine → ℕ → Frame → Renderer → Machine
reopened m k f t = record { frames = set m.frames k f; depth = suc k; next = m.next; state = t; entered = m.entered }

abbrev pub closed_to : Machine → ℕ → ℕ → Renderer → Machine
closed_to m k n t = record { frames = m.frames; depth = k; next = n; state = t; entered = m.entered }

-- an open row by its fields: a `Call`, and any other
abbrev pub call_frame : ℕ → Bool → Bool → Bool → Bool → Frame
call_frame row wrap first deeper made = record { row = row; wrap = wrap; first = first; deeper = deeper; made = made }

abbrev pub frame_of : ℕ → Bool → Bool → Frame
frame_of row wrap first = call_frame row wrap first false false

-- what the end of a row does to the pen, by its kind, whether its parts wrap, and whether a `Call` set them one step deeper
abbrev pub closes : ℕ → Bool → Bool → Pen → Pen
closes kind wraps deeper p =
    cond (eqb kind INDENT)
    (indent_less wraps p)
    (cond (eqb kind INDENT_NEXT) (next_indent_less wraps p) (cond (eqb kind CALL) (next_indent_less deeper p) p))

-- what follows of f's row once the open part is rendered: what its end takes back and, of a `Call` in its callee, the arguments before
unfoldable pub closing : View → Page → Frame → Renderer → Renderer
closing v pg f s =
    let arguments : Node = group (v.number2 f.row) (nodes_at v (v.second f.row) (v.after f.row)) in
    case_of
    (record {
      group = s;
      indent = on_pen (indent_less f.wrap) s;
      indent_next = on_pen (next_indent_less f.wrap) s;
      wrap_parent = s;
      comment = s;
      str = s;
      ascii = s;
      line = s;
      empty_line = s;
      line_or_space = s;
      if_wrap = s;
      call = on_pen (next_indent_less f.deeper) (cond f.first (render_node pg arguments true s) s);
      no_kind = s;
    })
    (v.kind f.row)

-- the first part of row k, and the second
abbrev pub first_part : View → ℕ → Nodes
first_part v k = nodes_at v (suc k) (v.second k)

abbrev pub second_part : View → ℕ → Nodes
second_part v k = nodes_at v (v.second k) (v.after k)

module _ (v : View) (pg : Page) where
  -- row `next` is entered, by its kind: the branches of `render_node`
  unfoldable pub enter_group : Machine → Machine
  enter_group m =
      let b = group_wraps pg (nodes_at v (suc m.next) (v.after m.next)) m.state in
      opened m (frame_of m.next b false) (suc m.next) (insert b (v.number m.next) m.state)

  unfoldable pub enter_indent : Machine → Machine
  enter_indent m = let w = wrap_at m.frames m.depth in opened m (frame_of m.next w false) (suc m.next) (on_pen (indent_more w) m.state)

  unfoldable pub enter_next : Machine → Machine
  enter_next m = let w = wrap_at m.frames m.depth in opened m (frame_of m.next w false) (suc m.next) (on_pen (next_indent_more w) m.state)

  unfoldable pub enter_leaf : Machine → Machine
  enter_leaf m = passed m (render_node pg (node_at v m.next) (wrap_at m.frames m.depth) m.state)

  unfoldable pub enter_if : Machine → Machine
  enter_if m =
      let w = wrap_at m.frames m.depth in
      cond (wrapped m.state.marks (v.number m.next))
      (opened m (frame_of m.next w true) (suc m.next) m.state)
      (opened m (frame_of m.next w false) (v.second m.next) m.state)

  unfoldable pub enter_call : Machine → Machine
  enter_call m =
      let t = trailing_call pg (first_part v m.next) (second_part v m.next) m.state in
      let b = callee_wraps pg t (first_part v m.next) (second_part v m.next) m.state in
      opened m (call_frame m.next b true (not t && b) (not t)) (suc m.next) (on_pen (next_indent_more (not t && b)) (insert b (v.number m.next) m.state))

  unfoldable pub enter : Machine → Machine
  enter m =
      case_of
      (record {
        group = enter_group m;
        indent = enter_indent m;
        indent_next = enter_next m;
        wrap_parent = enter_leaf m;
        comment = enter_leaf m;
        str = enter_leaf m;
        ascii = enter_leaf m;
        line = enter_leaf m;
        empty_line = enter_leaf m;
        line_or_space = enter_leaf m;
        if_wrap = enter_if m;
        call = enter_call m;
        no_kind = m;
      })
      (v.kind m.next)

  -- frame k is the innermost: its row is closed, or a call's arguments are opened
  unfoldable pub leave : Machine → ℕ → Machine
  leave m k =
      let f = frame_at m.frames k in
      let c = group_wraps pg (nodes_at v m.next (v.after f.row)) m.state in
      cond (eqb (v.kind f.row) CALL && f.first)
      (reopened m k (call_frame f.row c false f.deeper f.made) (insert c (v.number2 f.row) m.state))
      (closed_to m k (v.after f.row) (closing v pg f m.state))

  -- one turn, with k + 1 rows open and with none
  unfoldable pub turn_at : ℕ → Machine → Machine
  turn_at zero m = enter m
  turn_at (suc k) m = cond (eqb m.next (part_end v (frame_at m.frames k))) (leave m k) (enter m)

  unfoldable pub turn : Machine → Machine
  turn m = turn_at m.depth m
