-- The code follows the machine: for each way that a row is entered or left, the run that the code makes is the machine's next state.
-- Assumes nothing.
use mathlib.Core.Path.{◌≡◌, refl, ap, sym, ◌∙◌, subst}
use Prim.Native.Nat.{ℕ, suc, ◌+◌, ◌-◌, ◌≤◌, ◌<◌}
use native.Mathlib.Omega.{arith}
use native.Mathlib.Numerals.{add-one}
use mathlib.Core.Bool.{Bool, true, false, cond, not, ◌&&◌}
use mathlib.Core.List.{List, [], ◌++◌}
use lib.ListN.{length, length-append}
use lib.Dec.{eqb}
use Rattle.rows.specs.Kinds.{GROUP, INDENT, INDENT_NEXT, WRAP_PARENT, LINE_OR_SPACE, IF_WRAP, CALL}
use Rattle.rows.specs.Places.{KIND, NUMBER, SECOND_NUMBER, SECOND}
use Rattle.rows.specs.Node.{Nodes, wrapped}
use Rattle.rows.specs.View.{View, view_of, cell, nodes_at, node_at}
use Rattle.renderer_rules.specs.declared.Frame.{Frame}
use Rattle.renderer_rules.specs.Page.{page_of}
use Rattle.renderer_rules.specs.Renderer.{Page, Renderer, fresh_renderer, on_pen, render_node, wraps, virtual_column}
use Rattle.renderer_rules.specs.Renderer.{group_wraps, trailing_call, callee_wraps, insert, indent_more, next_indent_more}
use Rattle.renderer_rules.specs.Frames.{frame_at, part_end, wrap_at}
use Rattle.renderer_rules.specs.Machine.{closing, Machine, opened, passed, reopened, closed_to, frame_of, call_frame, enter}
use Rattle.renderer_rules.specs.Machine.{enter_group, enter_indent, enter_next, enter_leaf, enter_if, enter_call, leave, turn}
use Rattle.renderer_rules.proofs.Machine.{enter_0, enter_1, enter_2, enter_leaf_lem, enter_10, enter_11, turn_leave}
use Rattle.renderer_rules.specs.declared.Pen.{Pen}
use Rattle.renderer.specs.declared.writing.Writing.{Writing}
use Rattle.renderer.specs.Output.{written_over}
use Rattle.renderer.specs.Writing.{set_pen, writing_after, Writes}
use Rattle.renderer.specs.Run.{Running, state_of, machine_of, Wrote, Shows, Follows, opened_run}
use Rattle.renderer.specs.Run.{passed_run, closed_at, inserted, GroupOpened, CallOpened, ArgumentsOpened}
use Rattle.renderer.proofs.Written.{over_join}
use Rattle.renderer.proofs.Framed.{under, fresh_under, leaf_under}

pub wrote_more : (limit : ℕ) (o out : List ℕ) (at : ℕ) (b t out2 : List ℕ) (at2 : ℕ) → Wrote limit o out at b
    → out2 ≡ written_over limit out at t
    → at2 ≡ at + length t
    → Wrote limit o out2 at2 (b ++ t)
wrote_more limit o out at b t out2 at2 w e f =
    let l = length-append b t in
    let c = w.bytes in
    record {
      bytes = omega arith;
      written =
          e
          ∙ rw (c, w.written) (ap (λ (n : ℕ). written_over limit (written_over limit o 0 b) n t) (none_before (length b)) ∙ over_join limit o 0 b t);
    }
  where
    none_before : (n : ℕ) → n ≡ 0 + n
    none_before n = omega arith

pub shows_as : (limit : ℕ) (o marks out : List ℕ) (r : Running) (m m2 : Machine) → m ≡ m2 → Shows limit o marks out r m2
    → Shows limit o marks out r m
shows_as limit o marks out r m m2 e s = subst (λ (x : Machine). Shows limit o marks out r x) (sym e) s

-- what groups and calls decide by is the pen and the marks
group_same : (max : ℕ) (source image : List ℕ) (ns : Nodes) (p : Writing) (marks b : List ℕ)
    → group_wraps (page_of max source image) ns (state_of p marks b) ≡ group_wraps (page_of max [] []) ns (fresh_renderer p.pen marks)
unfolding group_wraps wraps virtual_column
group_same max source image ns p marks b = refl

trailing_same : (max : ℕ) (source image : List ℕ) (e a : Nodes) (p : Writing) (marks b : List ℕ)
    → trailing_call (page_of max source image) e a (state_of p marks b) ≡ trailing_call (page_of max [] []) e a (fresh_renderer p.pen marks)
unfolding trailing_call virtual_column
trailing_same max source image e a p marks b = refl

callee_same : (max : ℕ) (source image : List ℕ) (t : Bool) (e a : Nodes) (p : Writing) (marks b : List ℕ)
    → callee_wraps (page_of max source image) t e a (state_of p marks b) ≡ callee_wraps (page_of max [] []) t e a (fresh_renderer p.pen marks)
unfolding callee_wraps group_wraps wraps virtual_column
callee_same max source image t e a p marks b = refl

insert_same : (w : Bool) (n : ℕ) (p : Writing) (marks b : List ℕ) → insert w n (state_of p marks b) ≡ state_of p (inserted w n marks) b
unfolding insert
insert_same w n p marks b = refl

-- a row is opened
opened_shows : (limit : ℕ) (o out b : List ℕ) (n : ℕ) (r : Running) (marks marks2 : List ℕ) (q : Running) (f : Frame) (k k2 : ℕ)
    (p : Writing) (t : Renderer)
    → Wrote limit o out r.writing.at.0 b
    → q ≡ opened_run r f k2 p
    → k ≡ k2
    → t ≡ state_of p marks2 b
    → p.at.0 ≡ r.writing.at.0
    → Shows limit o marks2 out q (opened (machine_of r marks b n) f k t)
unfolding machine_of
opened_shows limit o out b n r marks marks2 q f k k2 p t w e i s a =
    rw (e, i, s)
    (record {
      same = ap (λ (d : ℕ). closed_to (opened (machine_of r marks b n) f k2 (state_of p marks2 b)) d k2 (state_of p marks2 b)) (sym (add-one r.depth));
      wrote = rw a w;
    })

-- The ways to enter a row.
module _ (store source image : List ℕ) (max limit : ℕ) (marks out : List ℕ) (r : Running) where
  abbrev v : View
  v = view_of store

  abbrev pg : Page
  pg = page_of max source image

  abbrev wrap : Bool
  wrap = wrap_at r.frames r.depth

  group_goes : (marks2 : List ℕ) (q : Running) → GroupOpened store max marks r marks2 q
      → (o b : List ℕ) (n : ℕ) → Wrote limit o out r.writing.at.0 b → Shows limit o marks2 out q (enter_group v pg (machine_of r marks b n))
  unfolding enter_group machine_of view_of
  group_goes marks2 q g o b n w =
      let c : group_wraps pg (nodes_at v (suc r.next) (v.after r.next)) (state_of r.writing marks b) ≡ g.wraps =
      group_same max source image (nodes_at v (suc r.next) (v.after r.next)) r.writing marks b
      ∙ sym (g.is_wraps
      ∙ ap (λ (k : ℕ). group_wraps (page_of max [] []) (nodes_at v k (v.after r.next)) (fresh_renderer r.writing.pen marks)) (add-one r.next)) in
      rw c
      (opened_shows limit o out b n r marks marks2 q (frame_of r.next g.wraps false) (suc r.next) (r.next + 1) r.writing _ w g.run
      (sym (add-one r.next))
      (insert_same g.wraps (v.number r.next) r.writing marks b ∙ ap (λ (m : List ℕ). state_of r.writing m b) (sym g.marked))
      refl)

  pub group_follows : (marks2 : List ℕ) (q : Running) → cell store r.next KIND ≡ GROUP → GroupOpened store max marks r marks2 q
      → Follows limit (enter v pg) marks out r marks2 out q
  unfolding machine_of view_of
  group_follows marks2 q k g =
      record { goes = λ o b n w. shows_as limit o marks2 out q _ _ (enter_0 v pg (machine_of r marks b n) k) (group_goes marks2 q g o b n w) }

  indent_goes : (q : Running) (x : Bool) → x ≡ wrap
      → q ≡ opened_run r (frame_of r.next x false) (r.next + 1) (set_pen (indent_more x r.writing.pen) r.writing)
      → (o b : List ℕ) (n : ℕ) → Wrote limit o out r.writing.at.0 b → Shows limit o marks out q (enter_indent v pg (machine_of r marks b n))
  unfolding enter_indent machine_of
  indent_goes q x e g o b n w =
      rw (← e)
      (opened_shows limit o out b n r marks marks q (frame_of r.next x false)
      (suc r.next) (r.next + 1) (set_pen (indent_more x r.writing.pen) r.writing) _ w g
      (sym (add-one r.next))
      refl
      refl)

  pub indent_follows : (q : Running) (x : Bool) → cell store r.next KIND ≡ INDENT → x ≡ wrap
      → q ≡ opened_run r (frame_of r.next x false) (r.next + 1) (set_pen (indent_more x r.writing.pen) r.writing)
      → Follows limit (enter v pg) marks out r marks out q
  unfolding machine_of view_of
  indent_follows q x k e g =
      record { goes = λ o b n w. shows_as limit o marks out q _ _ (enter_1 v pg (machine_of r marks b n) k) (indent_goes q x e g o b n w) }

  next_goes : (q : Running) (x : Bool) → x ≡ wrap
      → q ≡ opened_run r (frame_of r.next x false) (r.next + 1) (set_pen (next_indent_more x r.writing.pen) r.writing)
      → (o b : List ℕ) (n : ℕ) → Wrote limit o out r.writing.at.0 b → Shows limit o marks out q (enter_next v pg (machine_of r marks b n))
  unfolding enter_next machine_of
  next_goes q x e g o b n w =
      rw (← e)
      (opened_shows limit o out b n r marks marks q (frame_of r.next x false)
      (suc r.next) (r.next + 1) (set_pen (next_indent_more x r.writing.pen) r.writing) _ w g
      (sym (add-one r.next))
      refl
      refl)

  pub next_follows : (q : Running) (x : Bool) → cell store r.next KIND ≡ INDENT_NEXT → x ≡ wrap
      → q ≡ opened_run r (frame_of r.next x false) (r.next + 1) (set_pen (next_indent_more x r.writing.pen) r.writing)
      → Follows limit (enter v pg) marks out r marks out q
  unfolding machine_of view_of
  next_follows q x k e g =
      record { goes = λ o b n w. shows_as limit o marks out q _ _ (enter_2 v pg (machine_of r marks b n) k) (next_goes q x e g o b n w) }

  if_goes : (q : Running) (x : Bool) → x ≡ wrap
      → q
      ≡ cond (wrapped marks (cell store r.next NUMBER))
      (opened_run r (frame_of r.next x true) (r.next + 1) r.writing)
      (opened_run r (frame_of r.next x false) (cell store r.next SECOND) r.writing)
      → (o b : List ℕ) (n : ℕ) → Wrote limit o out r.writing.at.0 b → Shows limit o marks out q (enter_if v pg (machine_of r marks b n))
  unfolding enter_if machine_of view_of
  if_goes q x e g o b n w = rw (← e) (go (wrapped marks (cell store r.next NUMBER)) g)
    where
      m : Machine
      m = machine_of r marks b n

      go : (t : Bool)
          → q
          ≡ cond t (opened_run r (frame_of r.next x true) (r.next + 1) r.writing)
          (opened_run r (frame_of r.next x false) (cell store r.next SECOND) r.writing)
          → Shows limit o marks out q
          (cond t
          (opened m (frame_of r.next x true) (suc r.next) (state_of r.writing marks b))
          (opened m (frame_of r.next x false) (cell store r.next SECOND) (state_of r.writing marks b)))
      go true h =
          opened_shows limit o out b n r marks marks q (frame_of r.next x true)
          (suc r.next) (r.next + 1) r.writing _ w h (sym (add-one r.next)) refl refl
      go false h =
          opened_shows limit o out b n r marks marks q (frame_of r.next x false)
          (cell store r.next SECOND) (cell store r.next SECOND) r.writing _ w h refl refl refl

  pub if_follows : (q : Running) (x : Bool) → cell store r.next KIND ≡ IF_WRAP → x ≡ wrap
      → q
      ≡ cond (wrapped marks (cell store r.next NUMBER))
      (opened_run r (frame_of r.next x true) (r.next + 1) r.writing)
      (opened_run r (frame_of r.next x false) (cell store r.next SECOND) r.writing)
      → Follows limit (enter v pg) marks out r marks out q
  unfolding machine_of view_of
  if_follows q x k e g =
      record { goes = λ o b n w. shows_as limit o marks out q _ _ (enter_10 v pg (machine_of r marks b n) k) (if_goes q x e g o b n w) }

  call_goes : (marks2 : List ℕ) (q : Running) → CallOpened store max marks r marks2 q
      → (o b : List ℕ) (n : ℕ) → Wrote limit o out r.writing.at.0 b → Shows limit o marks2 out q (enter_call v pg (machine_of r marks b n))
  unfolding enter_call machine_of view_of
  call_goes marks2 q g o b n w =
      let e = nodes_at v (suc r.next) (v.second r.next) in
      let a = nodes_at v (v.second r.next) (v.after r.next) in
      let t : trailing_call pg e a (state_of r.writing marks b) ≡ g.trails =
      trailing_same max source image e a r.writing marks b
      ∙ sym (g.is_trails
      ∙ ap (λ (k : ℕ). trailing_call (page_of max [] []) (nodes_at v k (v.second r.next)) a (fresh_renderer r.writing.pen marks)) (add-one r.next)) in
      let c : callee_wraps pg g.trails e a (state_of r.writing marks b) ≡ g.wraps =
      callee_same max source image g.trails e a r.writing marks b
      ∙ sym (g.is_wraps
      ∙ ap (λ (k : ℕ). callee_wraps (page_of max [] []) g.trails (nodes_at v k (v.second r.next)) a (fresh_renderer r.writing.pen marks))
      (add-one r.next)) in
      rw (t, c)
      (opened_shows limit o out b n r marks marks2 q (call_frame r.next g.wraps true (not g.trails && g.wraps) (not g.trails)) (suc r.next) (r.next + 1)
      (set_pen (next_indent_more (not g.trails && g.wraps) r.writing.pen) r.writing)
      _
      w
      g.run
      (sym (add-one r.next))
      (ap (on_pen (next_indent_more (not g.trails && g.wraps)))
      (insert_same g.wraps (v.number r.next) r.writing marks b ∙ ap (λ (m : List ℕ). state_of r.writing m b) (sym g.marked)))
      refl)

  pub call_follows : (marks2 : List ℕ) (q : Running) → cell store r.next KIND ≡ CALL → CallOpened store max marks r marks2 q
      → Follows limit (enter v pg) marks out r marks2 out q
  unfolding machine_of view_of
  call_follows marks2 q k g =
      record { goes = λ o b n w. shows_as limit o marks2 out q _ _ (enter_11 v pg (machine_of r marks b n) k) (call_goes marks2 q g o b n w) }

  -- a row without parts
  leaf_state : (x : Bool) → WRAP_PARENT ≤ v.kind r.next → v.kind r.next ≤ LINE_OR_SPACE → (b : List ℕ)
      → render_node pg (node_at v r.next) x (state_of r.writing marks b)
      ≡ under b marks r.writing.widest.0 (render_node pg (node_at v r.next) x (fresh_renderer r.writing.pen []))
  leaf_state x k l b =
      ap (render_node pg (node_at v r.next) x) (fresh_under r.writing marks b)
      ∙ leaf_under v pg r.next x (v.kind r.next) refl k l b marks r.writing.widest.0 (fresh_renderer r.writing.pen [])

  leaf_shows : (s : Renderer) (out2 : List ℕ) (p : Writing) → Writes limit s out r.writing out2 p → (o b : List ℕ) (n : ℕ)
      → Wrote limit o out r.writing.at.0 b
      → Shows limit o marks out2 (passed_run r p)
      (passed (machine_of r marks b n) (under b marks r.writing.widest.0 s))
  unfolding machine_of under writing_after
  leaf_shows s out2 p d o b n w =
      rw d.after
      (record {
        same =
            ap (λ (k : ℕ). closed_to (passed (machine_of r marks b n) (under b marks r.writing.widest.0 s)) r.depth k
            (under b marks r.writing.widest.0 s))
            (sym (add-one r.next));
        wrote = wrote_more limit o out r.writing.at.0 b s.buf out2 (r.writing.at.0 + length s.buf) w d.written refl;
      })

  leaf_goes : (x : Bool) (out2 : List ℕ) (p : Writing) → x ≡ wrap → WRAP_PARENT ≤ v.kind r.next → v.kind r.next ≤ LINE_OR_SPACE
      → Writes limit (render_node pg (node_at v r.next) x (fresh_renderer r.writing.pen [])) out r.writing out2 p
      → (o b : List ℕ) (n : ℕ) → Wrote limit o out r.writing.at.0 b
      → Shows limit o marks out2 (passed_run r p) (enter_leaf v pg (machine_of r marks b n))
  unfolding enter_leaf machine_of
  leaf_goes x out2 p e k l d o b n w =
      rw (← e, leaf_state x k l b) (leaf_shows (render_node pg (node_at v r.next) x (fresh_renderer r.writing.pen [])) out2 p d o b n w)

  pub leaf_follows : (x : Bool) (out2 : List ℕ) (p : Writing) → WRAP_PARENT ≤ cell store r.next KIND
      → cell store r.next KIND ≤ LINE_OR_SPACE → x ≡ wrap
      → Writes limit (render_node pg (node_at v r.next) x (fresh_renderer r.writing.pen [])) out r.writing out2 p
      → Follows limit (enter v pg) marks out r marks out2 (passed_run r p)
  unfolding machine_of view_of
  leaf_follows x out2 p k l e d =
      record {
        goes =
            λ o b n w.
            shows_as limit o marks out2 _ _ _ (enter_leaf_lem v pg (machine_of r marks b n) (cell store r.next KIND) refl k l)
            (leaf_goes x out2 p e k l d o b n w);
      }

  -- The ways to leave the innermost row, whose open part is done.
  module _ (h : 0 < r.depth) (f : Frame) (i : f ≡ frame_at r.frames (r.depth - 1)) (z : r.next ≡ part_end v f) where
    deep : r.depth ≡ suc (r.depth - 1)
    deep = omega arith

    turned : (b : List ℕ) (n : ℕ) → turn v pg (machine_of r marks b n) ≡ leave v pg (machine_of r marks b n) (r.depth - 1)
    unfolding machine_of
    turned b n = turn_leave v pg (machine_of r marks b n) (r.depth - 1) deep (z ∙ ap (part_end v) i)

    on_goes : (marks2 : List ℕ) (q : Running) → cell store f.row KIND ≡ CALL → f.first ≡ true → ArgumentsOpened store max marks r f marks2 q
        → (o b : List ℕ) (n : ℕ) → Wrote limit o out r.writing.at.0 b
        → Shows limit o marks2 out q (leave v pg (machine_of r marks b n) (r.depth - 1))
    unfolding leave machine_of view_of insert
    on_goes marks2 q k y g o b n w =
        let c : group_wraps pg (nodes_at v r.next (v.after f.row)) (state_of r.writing marks b) ≡ g.wraps =
        group_same max source image (nodes_at v r.next (v.after f.row)) r.writing marks b ∙ sym g.is_wraps in
        rw (← i, k, y, c, g.run, g.marked)
        (record {
          same =
              ap
              (λ (d : ℕ).
              closed_to (reopened (machine_of r marks b n) (r.depth - 1) (call_frame f.row g.wraps false f.deeper f.made)
              (state_of r.writing (inserted g.wraps (cell store f.row SECOND_NUMBER) marks) b))
              d r.next
              (state_of r.writing (inserted g.wraps (cell store f.row SECOND_NUMBER) marks) b))
              (sym deep);
          wrote = w;
        })

    pub arguments_follows : (marks2 : List ℕ) (q : Running) → cell store f.row KIND ≡ CALL → f.first ≡ true
        → ArgumentsOpened store max marks r f marks2 q
        → Follows limit (turn v pg) marks out r marks2 out q
    arguments_follows marks2 q k y g = record { goes = λ o b n w. shows_as limit o marks2 out q _ _ (turned b n) (on_goes marks2 q k y g o b n w) }

    -- the row is closed, its last step being s
    off_goes : (s : Pen → Pen) (q : Running) → (eqb (v.kind f.row) CALL && f.first) ≡ false
        → ((t : Renderer) → closing v pg f t ≡ on_pen s t)
        → q ≡ closed_at r (v.after f.row) (s r.writing.pen)
        → (o b : List ℕ) (n : ℕ) → Wrote limit o out r.writing.at.0 b
        → Shows limit o marks out q (leave v pg (machine_of r marks b n) (r.depth - 1))
    unfolding leave machine_of
    off_goes s q e c g o b n w = rw (← i, e, c (state_of r.writing marks b), g) (record { same = refl; wrote = w })

    pub closed_follows : (s : Pen → Pen) (q : Running) → (eqb (v.kind f.row) CALL && f.first) ≡ false
        → ((t : Renderer) → closing v pg f t ≡ on_pen s t)
        → q ≡ closed_at r (v.after f.row) (s r.writing.pen)
        → Follows limit (turn v pg) marks out r marks out q
    closed_follows s q e c g = record { goes = λ o b n w. shows_as limit o marks out q _ _ (turned b n) (off_goes s q e c g o b n w) }
