-- Rows entered: what stands in `Renderer` each time `render_node` enters a row, read off the rules (Renderer.antt) and not off the machine. A
-- rendering that may enter n rows stops where row n + 1 would be entered: what is done by then is closed, an unchosen part of an `IfWrap` is
-- passed, and of the groups that `Call`s make up those around that row are open, since that is how the rules enter it.
use Rattle.std.specs.Prelude.{ℕ, zero, suc, Bool, true, false, cond, not, ◌&&◌, List, [], ◌∷◌, ◌++◌, map, take, eqb}
use Rattle.rows.specs.Kinds.{CALL}
use Rattle.rows.specs.Node.{Node, Nodes, group, indent, indent_next, wrap_parent, comment as comment_node, str, ascii, line, empty_line, line_or_space}
use Rattle.rows.specs.Node.{if_wrap, call, none, ◌then◌, wrapped}
use Rattle.rows.specs.View.{View, nodes_at}
use Rattle.renderer_rules.specs.declared.Frame.{Frame}
use Rattle.renderer_rules.specs.Renderer.{Page, Renderer, on_pen, render_node, render_nodes, group_wraps, insert, indent_more, next_indent_more}
use Rattle.renderer_rules.specs.Renderer.{trailing_call, callee_wraps}
use Rattle.renderer_rules.specs.Frames.{frame_at, wrap_at, part_limit}
use Rattle.renderer_rules.specs.Machine.{closing}

-- "which way a `Call` went": on the line of its callee; as a group that is made up, on one line or over lines. Of any other row the first.
pub data Way : Type 0 where
  trailing : Way
  made_flat : Way
  made_wrapped : Way

-- by whether a group is made up, and whether it set its parts one step deeper; and back
abbrev pub way_of : Bool → Bool → Way
way_of made deeper = cond deeper made_wrapped (cond made made_flat trailing)

abbrev pub is_made : Way → Bool
is_made trailing = false
is_made made_flat = true
is_made made_wrapped = true

abbrev pub is_deeper : Way → Bool
is_deeper trailing = false
is_deeper made_flat = false
is_deeper made_wrapped = true

-- A row that encloses the next one: "whether its parts wrap", of a `Call` those of the part that the next row is in.
pub record OpenRow : Type 0 where
  pub row : ℕ
  pub wraps : Bool
  pub way : Way

abbrev pub open_at : ℕ → Bool → Way → OpenRow
open_at i b y = record { row = i; wraps = b; way = y }

-- Where a rendering stops: the next row, the rows that enclose it with what is known of each, outermost first, and `Renderer` there.
pub record Stop : Type 0 where
  pub next : ℕ
  pub listed : List OpenRow
  pub state : Renderer

abbrev pub stop_at : ℕ → List OpenRow → Renderer → Stop
stop_at i es r = record { next = i; listed = es; state = r }

-- one more row around what follows
abbrev pub inside : List OpenRow → OpenRow → List OpenRow
inside es f = es ++ (f ∷ [])

-- the open rows of the machine, the first d of them, as they are listed
abbrev pub listed_as : Frame → OpenRow
listed_as f = open_at f.row f.wrap (way_of f.made f.deeper)

unfoldable pub listed_rows : List Frame → ℕ → List OpenRow
listed_rows fs d = map listed_as (take d fs)

module _ (v : View) (pg : Page) where
  -- The rows entered inside row i, which is this node, and those of nodes from row i on: for each, what stands as it is entered. `es` are the
  -- rows around it. Row numbers are those of the view: parts start behind their row, or where it says.
  unfoldable mutual
    pub within : Node → ℕ → List OpenRow → Bool → Renderer → List Stop
    within (group n ns) i es w r =
        let b = group_wraps pg ns r in entered ns (suc i) (inside es (open_at i b trailing)) b (insert b n r)
    within (indent ns) i es w r = entered ns (suc i) (inside es (open_at i w trailing)) w (on_pen (indent_more w) r)
    within (indent_next ns) i es w r = entered ns (suc i) (inside es (open_at i w trailing)) w (on_pen (next_indent_more w) r)
    within wrap_parent i es w r = []
    within (comment_node t) i es w r = []
    within (str k t) i es w r = []
    within (ascii t) i es w r = []
    within line i es w r = []
    within empty_line i es w r = []
    within line_or_space i es w r = []
    within (if_wrap n a b) i es w r =
        cond (wrapped r.marks n)
        (stop_at (suc i) (inside es (open_at i w trailing)) r ∷ within a (suc i) (inside es (open_at i w trailing)) w r)
        (stop_at (v.second i) (inside es (open_at i w trailing)) r ∷ within b (v.second i) (inside es (open_at i w trailing)) w r)
    within (call n e k a) i es w r =
        let trails = trailing_call pg e a r in
        let outer = callee_wraps pg trails e a r in
        let deeper = not trails && outer in
        let way = way_of (not trails) deeper in
        let s = on_pen (next_indent_more deeper) (insert outer n r) in
        let t = render_nodes pg e outer s in
        let inner = group_wraps pg a t in
        entered e (suc i) (inside es (open_at i outer way)) outer s
        ++ entered a (v.second i) (inside es (open_at i inner way)) inner (insert inner k t)

    pub entered : Nodes → ℕ → List OpenRow → Bool → Renderer → List Stop
    entered none i es w r = []
    entered (n then ns) i es w r = stop_at i es r ∷ (within n i es w r ++ entered ns (v.after i) es w (render_node pg n w r))

  -- ---- going on from a stop: what `render_node` of the open rows has still to do
  -- what the end of the open part of f brings: of a `Call` in its callee, the rows of its arguments, whose group is made up then
  unfoldable pub arguments : List OpenRow → Frame → Renderer → List Stop
  arguments es f s =
      let inner = group_wraps pg (nodes_at v (v.second f.row) (v.after f.row)) s in
      cond (eqb (v.kind f.row) CALL && f.first)
      (entered (nodes_at v (v.second f.row) (v.after f.row)) (v.second f.row) (inside es (open_at f.row inner (way_of f.made f.deeper))) inner
      (insert inner (v.number2 f.row) s))
      []

  module _ (stop : ℕ) where
    -- the rows entered behind the open part of the innermost of d open rows
    unfoldable pub behind : List Frame → ℕ → Renderer → List Stop
    behind fs zero s = []
    behind fs (suc d) s =
        let f = frame_at fs d in
        let t = closing v pg f s in
        arguments (listed_rows fs d) f s
        ++ (entered (nodes_at v (v.after f.row) (part_limit v stop fs d)) (v.after f.row) (listed_rows fs d) (wrap_at fs d) t
        ++ behind fs d (render_nodes pg (nodes_at v (v.after f.row) (part_limit v stop fs d)) (wrap_at fs d) t))

    -- the rows entered from row i on, with d rows open
    unfoldable pub ahead : List Frame → ℕ → ℕ → Renderer → List Stop
    ahead fs d i s =
        entered (nodes_at v i (part_limit v stop fs d)) i (listed_rows fs d) (wrap_at fs d) s
        ++ behind fs d (render_nodes pg (nodes_at v i (part_limit v stop fs d)) (wrap_at fs d) s)

    -- what follows the open part of the innermost of d open rows
    unfoldable pub rest : List Frame → ℕ → Renderer → Renderer
    rest fs zero s = s
    rest fs (suc d) s =
        rest fs d (render_nodes pg (nodes_at v (v.after (frame_at fs d).row) (part_limit v stop fs d)) (wrap_at fs d) (closing v pg (frame_at fs d) s))

    -- what is rendered from row i on, with d rows open
    unfoldable pub meaning : List Frame → ℕ → ℕ → Renderer → Renderer
    meaning fs d i s = rest fs d (render_nodes pg (nodes_at v i (part_limit v stop fs d)) (wrap_at fs d) s)
