-- At each row entered the text holds the comments of the rows before it, by induction on the nodes.
-- Assumes nothing.
use mathlib.Core.Path.{◌≡◌, refl, sym, ap, subst, ◌∙◌}
use mathlib.Core.Bool.{Bool, true, false, cond, not, ◌&&◌}
use mathlib.Core.List.{List, [], ◌∷◌, ◌++◌, append-nil, append_assoc}
use Prim.Native.Nat.{ℕ, zero, suc}
use lib.ListN.{get_or}
use Rattle.rows.specs.Node.{Text, Node, Nodes, group, indent, indent_next, wrap_parent, comment as comment_node, str, ascii}
use Rattle.rows.specs.Node.{line, empty_line, line_or_space, if_wrap, call, none, ◌then◌, wrapped}
use Rattle.rows.specs.View.{View, view_of, nodes_at}
use Rattle.renderer_rules.specs.Page.{text_bytes, page_with}
use Rattle.renderer_rules.specs.Renderer.{Page, Renderer, on_pen, insert, indent_more, next_indent_more, group_wraps, trailing_call, callee_wraps}
use Rattle.renderer_rules.specs.Renderer.{render_node, render_nodes}
use Rattle.renderer_rules.specs.Stops.{OpenRow, trailing, way_of, open_at, Stop, stop_at, inside, within, entered}
use Rattle.renderer_rules.specs.Holds.{rest, nothing, Piece, pieces_of, pieces, comma_or_nothing, CommasChosenIn, CommasChosen, Adds}
use Rattle.renderer_rules.proofs.Holds.{writes_pieces}
use Rattle.cut_rule.specs.CutRule.{comments_in}
use Rattle.stop_facts.specs.SoFar.{StopHolds, StopsHold}
use Rattle.stop_facts.proofs.Joined.{holds_join}
use Rattle.stop_facts.proofs.RowComments.{NoComment, RowOf, RowsOf, rows_of, Over, over_none, over_then, over_behind, no_comma, node_over, nodes_over}

-- ---- each of a list
abbrev Each : (Stop → Type 0) → List Stop → Type 0
Each P [] = Unit {0}
Each P (e ∷ l) = P e × Each P l

each_join : (P : Stop → Type 0) (l k : List Stop) → Each P l → Each P k → Each P (l ++ k)
each_join P [] k a b = b
each_join P (e ∷ l) k a b = (a.0, each_join P l k a.1 b)

each_by : (P Q : Stop → Type 0) → ((e : Stop) → P e → Q e) → (l : List Stop) → Each P l → Each Q l
each_by P Q f [] a = a
each_by P Q f (e ∷ l) a = (f e a.0, each_by P Q f l a.1)

each_cond : (P : Stop → Type 0) (w : Bool) (l k : List Stop) → Each P l → Each P k → Each P (cond w l k)
each_cond P true l k a b = a
each_cond P false l k a b = b

each_at : (P : Stop → Type 0) (l : List Stop) (n : ℕ) (d : Stop) → Each P l → P d → P (get_or l n d)
each_at P [] zero d a b = b
each_at P [] (suc n) d a b = b
each_at P (e ∷ l) zero d a b = a.0
each_at P (e ∷ l) (suc n) d a b = each_at P l n d a.1 b

module _ (max : ℕ) (columns : Text → ℕ) (s b store : List ℕ) where
  abbrev v : View
  v = view_of store

  abbrev p : Page
  p = page_with max columns s b

  abbrev At : ℕ → List ℕ → List Piece → Stop → Type 0
  At i from all e = StopHolds s b store i from all e

  abbrev Step : List ℕ → List ℕ → List Piece → Type 0
  Step c d ps = Adds (text_bytes s b) c d ps

  -- ---- what is written between
  step_none : (c : List ℕ) → Step c c []
  step_none c = record { text = []; same = sym (append-nil c); made = rest nothing }

  step_then : (c d e : List ℕ) (ps qs : List Piece) → Step c d ps → Step d e qs → Step c e (ps ++ qs)
  step_then c d e ps qs x y =
      record {
        text = x.text ++ y.text;
        same = y.same ∙ ap (λ (t : List ℕ). t ++ y.text) x.same ∙ append_assoc c x.text y.text;
        made = holds_join x.made y.made;
      }

  nodes_step : (ns : Nodes) → CommasChosen ns → (w : Bool) (r : Renderer) → Step r.buf (render_nodes p ns w r).buf (pieces ns)
  nodes_step ns c w r = writes_pieces max columns s b ns c w r

  node_step : (n : Node) → CommasChosenIn n → (w : Bool) (r : Renderer) → Step r.buf (render_node p n w r).buf (pieces_of n)
  unfolding render_node pieces_of CommasChosenIn
  node_step n c w r =
      subst (λ (ps : List Piece). Step r.buf (render_node p n w r).buf ps) (append-nil (pieces_of n)) (nodes_step (n then none) (c, tt) w r)

  -- ---- a stop seen from further up
  -- nothing is written yet, and no comment passed
  at_once : (i j : ℕ) (all : List Piece) (es : List OpenRow) (r : Renderer) → comments_in store j ≡ comments_in store i → At i r.buf all (stop_at j es r)
  at_once i j all es r e = record { these = []; behind = all; adds = step_none r.buf; front = refl; comments = over_none store i j e }

  at_end : (i j : ℕ) (all : List Piece) (es : List OpenRow) (from : List ℕ) (r : Renderer) → Step from r.buf all → Over store i j all
      → At i from all (stop_at j es r)
  at_end i j all es from r x o = record { these = all; behind = []; adds = x; front = sym (append-nil all); comments = o }

  -- behind other pieces, which are written
  at_behind : (i k : ℕ) (from to : List ℕ) (ps all : List Piece) → Step from to ps → Over store i k ps → (e : Stop) → At k to all e → At i from (ps ++ all) e
  at_behind i k from to ps all x o e a = record {
    these = ps ++ a.these;
    behind = a.behind;
    adds = step_then from to e.state.buf ps a.these x a.adds;
    front = ap (λ (l : List Piece). ps ++ l) a.front ∙ sym (append_assoc ps a.these a.behind);
    comments = over_then store i k e.next ps a.these o a.comments;
  }

  -- before others, which are not
  at_before : (i : ℕ) (from : List ℕ) (all more : List Piece) (e : Stop) → At i from all e → At i from (all ++ more) e
  at_before i from all more e a = record {
    these = a.these;
    behind = a.behind ++ more;
    adds = a.adds;
    front = ap (λ (l : List Piece). l ++ more) a.front ∙ append_assoc a.these a.behind more;
    comments = a.comments;
  }

  -- inside a row without a comment
  at_inside : (i : ℕ) (from : List ℕ) (all : List Piece) → NoComment store i → (e : Stop) → At (suc i) from all e → At i from all e
  at_inside i from all n e a = record {
    these = a.these;
    behind = a.behind;
    adds = a.adds;
    front = a.front;
    comments = over_behind store i e.next a.these n a.comments;
  }

  -- ---- each row entered
  -- of an `IfWrap` the part that is chosen; a part that is passed holds no comment
  if_holds : (n : ℕ) (x y : Node) (i j : ℕ) (es : List OpenRow) (w : Bool) (r : Renderer) → CommasChosenIn (if_wrap n x y) → RowOf store (if_wrap n x y) i j
      → Each (At i r.buf (pieces_of (if_wrap n x y))) (within v p (if_wrap n x y) i es w r)
  unfolding within pieces_of CommasChosenIn
  if_holds n x y i j es w r comma_or_nothing q =
      let fs = inside es (open_at i w trailing) in
      each_cond _ (wrapped r.marks n) _ _
      (at_once i (suc i) _ fs r q.0, tt)
      (at_once i (v.second i) _ fs r (no_comma store i n x y comma_or_nothing j q).0, tt)

  mutual
    unfolding within entered pieces_of CommasChosenIn insert

    within_holds : (n : Node) (i j : ℕ) (es : List OpenRow) (w : Bool) (r : Renderer) → CommasChosenIn n → RowOf store n i j
        → Each (At i r.buf (pieces_of n)) (within v p n i es w r)
    within_holds (group n ns) i j es w r c q =
        let b = group_wraps p ns r in
        each_by _ _ (at_inside i r.buf (pieces ns) q.0) _ (entered_holds ns (suc i) j (inside es (open_at i b trailing)) b (insert b n r) c q.1)
    within_holds (indent ns) i j es w r c q =
        each_by _ _ (at_inside i r.buf (pieces ns) q.0) _
        (entered_holds ns (suc i) j (inside es (open_at i w trailing)) w (on_pen (indent_more w) r) c q.1)
    within_holds (indent_next ns) i j es w r c q =
        each_by _ _ (at_inside i r.buf (pieces ns) q.0) _
        (entered_holds ns (suc i) j (inside es (open_at i w trailing)) w (on_pen (next_indent_more w) r) c q.1)
    within_holds wrap_parent i j es w r c q = tt
    within_holds (comment_node t) i j es w r c q = tt
    within_holds (str k t) i j es w r c q = tt
    within_holds (ascii t) i j es w r c q = tt
    within_holds line i j es w r c q = tt
    within_holds empty_line i j es w r c q = tt
    within_holds line_or_space i j es w r c q = tt
    within_holds (if_wrap n x y) i j es w r c q = if_holds n x y i j es w r c q
    within_holds (call n e k a) i j es w r c q =
        let trails = trailing_call p e a r in
        let outer = callee_wraps p trails e a r in
        let deeper = not trails && outer in
        let way = way_of (not trails) deeper in
        let z : Renderer = on_pen (next_indent_more deeper) (insert outer n r) in
        let t = render_nodes p e outer z in
        let inner = group_wraps p a t in
        each_by _ _ (at_inside i r.buf (pieces e ++ pieces a) q.0) _
        (each_join _ _ _
        (each_by _ _ (at_before (suc i) r.buf (pieces e) (pieces a)) _
        (entered_holds e (suc i) (v.second i) (inside es (open_at i outer way)) outer z c.0 q.1))
        (each_by _ _
        (at_behind (suc i) (v.second i) r.buf t.buf (pieces e) (pieces a) (nodes_step e c.0 outer z) (nodes_over store e (suc i) (v.second i) c.0 q.1)) _
        (entered_holds a (v.second i) j (inside es (open_at i inner way)) inner (insert inner k t) c.1 q.2)))

    entered_holds : (ns : Nodes) (i j : ℕ) (es : List OpenRow) (w : Bool) (r : Renderer) → CommasChosen ns → RowsOf store ns i j
        → Each (At i r.buf (pieces ns)) (entered v p ns i es w r)
    entered_holds none i j es w r c q = tt
    entered_holds (n then ns) i j es w r c q =
        let t = render_node p n w r in (
          at_once i i (pieces_of n ++ pieces ns) es r refl,
          each_join _ _ _
              (each_by _ _ (at_before i r.buf (pieces_of n) (pieces ns)) _ (within_holds n i (v.after i) es w r c.0 q.0))
              (each_by _ _
              (at_behind i (v.after i) r.buf t.buf (pieces_of n) (pieces ns) (node_step n c.0 w r) (node_over store n i (v.after i) c.0 q.0)) _
              (entered_holds ns (v.after i) j es w t c.1 q.1)),
        )

pub stops_hold : StopsHold
stops_hold max columns s b store i j d es w r n g c =
    let ns = nodes_at (view_of store) i j in
    let q = rows_of store g in
    each_at _ _ n _ (entered_holds max columns s b store ns i j es w r c q)
    (at_end max columns s b store i j (pieces ns) es r.buf (render_nodes (page_with max columns s b) ns w r) (nodes_step max columns s b store ns c w r)
    (nodes_over store ns i j c q))
