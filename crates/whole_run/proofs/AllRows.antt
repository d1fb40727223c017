-- An allotment of as many rows as are ahead, or more, renders them all: from a state without listed rows that is a rendering of the nodes of the rows.
-- Assumes nothing.
use mathlib.Core.Path.{◌≡◌, refl, ap, ap₂, ◌∙◌}
use mathlib.Core.Bool.{Bool, true, false, cond}
use mathlib.Core.List.{List, [], ◌∷◌, ◌++◌, append-nil}
use Prim.Native.Nat.{ℕ, zero, suc, ◌+◌, ◌≤◌, min}
use native.Mathlib.Omega.{arith}
use lib.ListN.{length, get_or, length-append}
use Rattle.rows.specs.Node.{Node, Nodes, group, indent, indent_next, wrap_parent, comment as comment_node, str, ascii}
use Rattle.rows.specs.Node.{line, empty_line, line_or_space, if_wrap, call, none, ◌then◌, wrapped}
use Rattle.rows.specs.Rows.{size, sizes}
use Rattle.rows.specs.View.{View, view_of, nodes_at}
use Rattle.renderer_rules.specs.Frames.{part_limit, wrap_at}
use Rattle.renderer_rules.specs.Renderer.{Page, Renderer, render_node, render_nodes}
use Rattle.renderer_rules.specs.Stops.{OpenRow, trailing, open_at, listed_rows, Stop, stop_at, inside, within, entered, behind, ahead, rest, meaning}
use Rattle.cut_rule.specs.Rules.{RenderTo}
use Rattle.cut_rule.specs.States.{RenderChoice, RenderState}
use Rattle.whole_run.specs.Parts.{renderer_of, page, whole_drawn, drawn_at, still_entered, all_rendered, stopped, drawn}

-- ---- no more rows are entered than nodes have
few_by : (c : Bool) (x y : List Stop) (n : ℕ) → length x ≤ n → length y ≤ n → length (cond c x y) ≤ n
few_by true x y n a b = a
few_by false x y n a b = b

one_more : (x y : ℕ) → x ≤ y → suc x ≤ 1 + y
one_more x y h = omega arith

of_first : (x a b : ℕ) → suc x ≤ a → suc x ≤ a + b
of_first x a b h = omega arith

of_second : (x a b : ℕ) → suc x ≤ b → suc x ≤ a + b
of_second x a b h = omega arith

both_few : (x y : List Stop) (a b : ℕ) → length x ≤ a → length y ≤ b → length (x ++ y) ≤ a + b
both_few x y a b h k = omega (arith, length-append x y)

module _ (v : View) (p : Page) where
  mutual
    unfolding within entered size sizes

    within_few : (n : Node) (i : ℕ) (es : List OpenRow) (w : Bool) (r : Renderer) → suc (length (within v p n i es w r)) ≤ size n
    within_few (group n ns) i es w r = one_more _ _ (entered_few ns (suc i) _ _ _)
    within_few (indent ns) i es w r = one_more _ _ (entered_few ns (suc i) _ w _)
    within_few (indent_next ns) i es w r = one_more _ _ (entered_few ns (suc i) _ w _)
    within_few wrap_parent i es w r = omega arith
    within_few (comment_node t) i es w r = omega arith
    within_few (str k t) i es w r = omega arith
    within_few (ascii t) i es w r = omega arith
    within_few line i es w r = omega arith
    within_few empty_line i es w r = omega arith
    within_few line_or_space i es w r = omega arith
    within_few (if_wrap n a b) i es w r =
        one_more _ _
        (few_by (wrapped r.marks n) _ _ (size a + size b)
        (of_first _ (size a) (size b) (within_few a (suc i) (inside es (open_at i w trailing)) w r))
        (of_second _ (size a) (size b) (within_few b (v.second i) (inside es (open_at i w trailing)) w r)))
    within_few (call n e k a) i es w r =
        one_more _ _ (both_few _ _ (sizes e) (sizes a) (entered_few e (suc i) _ _ _) (entered_few a (v.second i) _ _ _))

    pub entered_few : (ns : Nodes) (i : ℕ) (es : List OpenRow) (w : Bool) (r : Renderer) → length (entered v p ns i es w r) ≤ sizes ns
    entered_few none i es w r = omega arith
    entered_few (n then ns) i es w r =
        let t = render_node p n w r in
        let x = within_few n i es w r in
        let y = entered_few ns (v.after i) es w t in
        omega (arith, x, y, length-append (within v p n i es w r) (entered v p ns (v.after i) es w t))

-- ---- so all are rendered
past_all : (l : List Stop) (n : ℕ) (d : Stop) → length l ≤ n → get_or l n d ≡ d
past_all [] zero d h = refl
past_all [] (suc n) d h = refl
past_all (e ∷ l) zero d h = absurd (omega arith)
past_all (e ∷ l) (suc n) d h = past_all l n d (omega arith)

module _ (s b : List ℕ) (z : RenderState) (q : RenderTo RenderChoice) (n : ℕ) (marks store : List ℕ) (listed : z.listed ≡ []) where
  abbrev v : View
  v = view_of store

  abbrev ns : Nodes
  ns = nodes_at v z.row q.stop

  abbrev pg : Page
  pg = page q.choice s b

  abbrev start : Renderer
  start = renderer_of z.pen marks

  abbrev bare : RenderState
  bare = record { pen = z.pen; in_use = z.in_use; row = z.row; width = z.width; rule = z.rule; listed = [] }

  rows_are : still_entered s b bare q marks store ≡ entered v pg ns z.row [] true start
  unfolding ahead behind part_limit wrap_at listed_rows
  rows_are = append-nil (entered v pg ns z.row [] true start)

  end_is : all_rendered s b bare q marks store ≡ stop_at q.stop [] (render_nodes pg ns true start)
  unfolding meaning rest part_limit wrap_at
  end_is = refl

  bare_drawn : length (entered v pg ns z.row [] true start) ≤ n → drawn s b bare q n marks store
      ≡ whole_drawn q.stop (length (entered v pg ns z.row [] true start)) (render_nodes pg ns true start)
  bare_drawn few =
      let e : min n (length (entered v pg ns z.row [] true start)) ≡ length (entered v pg ns z.row [] true start) = omega (arith, few) in
      ap₂ (λ (l : List Stop) (d : Stop). drawn_at (get_or l n d) (min n (length l))) rows_are end_is
      ∙ ap₂ drawn_at
      (past_all (entered v pg ns z.row [] true start) n (stop_at q.stop [] (render_nodes pg ns true start)) (omega (arith, few)))
      e

  pub all_few : length (entered v pg ns z.row [] true start) ≤ n → drawn s b z q n marks store
      ≡ whole_drawn q.stop (length (entered v pg ns z.row [] true start)) (render_nodes pg ns true start)
  all_few h =
      (λ t. drawn s b (record { pen = z.pen; in_use = z.in_use; row = z.row; width = z.width; rule = z.rule; listed = listed t }) q n marks store)
      ∙ bare_drawn h

  pub all_rows : sizes ns ≤ n → drawn s b z q n marks store
      ≡ whole_drawn q.stop (length (entered v pg ns z.row [] true start)) (render_nodes pg ns true start)
  all_rows h = all_few (omega (arith, entered_few v pg ns z.row [] true start))

  -- the greatest column too
  pub all_widest : sizes ns ≤ n → (stopped s b z q n marks store).state.widest ≡ (render_nodes pg ns true start).widest
  all_widest h =
      let few = entered_few v pg ns z.row [] true start in
      (λ t.
      (stopped s b (record { pen = z.pen; in_use = z.in_use; row = z.row; width = z.width; rule = z.rule; listed = listed t }) q n marks store).state.widest)
      ∙ ap₂ (λ (l : List Stop) (d : Stop). (get_or l n d).state.widest) rows_are end_is
      ∙ ap (λ (x : Stop). x.state.widest)
      (past_all (entered v pg ns z.row [] true start) n (stop_at q.stop [] (render_nodes pg ns true start)) (omega (arith, few)))
