-- The meaning of a list of open rows: what is still to be rendered. A turn of the machine keeps it, whichever way it goes; each way to open
-- a row is one equation on `render_node` of that row.
-- Assumes nothing.
use mathlib.Core.Path.{◌≡◌, refl, ap, sym, ◌∙◌}
use Prim.Native.Nat.{ℕ, zero, suc, ◌≤◌, ◌<◌}
use native.Mathlib.Omega.{arith}
use mathlib.Core.Bool.{Bool, true, false, not, ◌&&◌}
use mathlib.Core.List.{List}
use lib.ListN.{length, set}
use lib.Seq.{get_or-set_same, get_or-set_other}
use Rattle.rows.specs.Kinds.{GROUP, INDENT, INDENT_NEXT, IF_WRAP, CALL}
use Rattle.rows.specs.Node.{wrapped}
use Rattle.rows.specs.View.{View, nodes_at, first_of, node_at}
use Rattle.rows.specs.Nesting.{RangeIn, Split, TwoParts}
use Rattle.rows.proofs.Decode.{nodes_some, nodes_none, node_group, node_indent, node_next, node_if, node_call}
use Rattle.renderer_rules.specs.declared.Frame.{Frame}
use Rattle.renderer_rules.specs.Renderer.{Page, Renderer, on_pen, render_node, render_nodes, trailing_call, callee_wraps, group_wraps, insert, indent_more}
use Rattle.renderer_rules.specs.Renderer.{next_indent_more}
use Rattle.renderer_rules.specs.Frames.{no_frame, frame_at, part_end, part_limit, wrap_at}
use Rattle.renderer_rules.specs.Machine.{frame_of, call_frame, closing}
use Rattle.renderer_rules.specs.Stops.{rest, meaning}

module _ (v : View) (pg : Page) (stop : ℕ) where
  pub frame_same : (fs : List Frame) (k : ℕ) (f : Frame) → k < length fs → frame_at (set fs k f) k ≡ f
  frame_same fs k f h = get_or-set_same fs k f no_frame h

  pub frame_other : (fs : List Frame) (k d : ℕ) (f : Frame) → d < k → frame_at (set fs k f) d ≡ frame_at fs d
  frame_other fs k d f h = get_or-set_other fs k d f no_frame (λ e. omega arith)

  pub limit_set : (fs : List Frame) (k d : ℕ) (f : Frame) → d ≤ k → part_limit v stop (set fs k f) d ≡ part_limit v stop fs d
  unfolding part_limit
  limit_set fs k zero f h = refl
  limit_set fs k (suc d) f h = ap (part_end v) (frame_other fs k d f h)

  wrap_at_set : (fs : List Frame) (k d : ℕ) (f : Frame) → d ≤ k → wrap_at (set fs k f) d ≡ wrap_at fs d
  unfolding wrap_at
  wrap_at_set fs k zero f h = refl
  wrap_at_set fs k (suc d) f h = ap (λ (x : Frame). x.wrap) (frame_other fs k d f h)

  rest_set : (fs : List Frame) (k d : ℕ) (f : Frame) (s : Renderer) → d ≤ k → rest v pg stop (set fs k f) d s ≡ rest v pg stop fs d s
  unfolding rest
  rest_set fs k zero f s h = refl
  rest_set fs k (suc d) f s h =
      rest_set fs k d f _ (omega arith)
      ∙ rw (frame_other fs k d f h, limit_set fs k d f (omega arith), wrap_at_set fs k d f (omega arith))

  -- a row is rendered whole
  pub advance : (fs : List Frame) (d i : ℕ) (s : Renderer) → RangeIn v i (part_limit v stop fs d)
      → meaning v pg stop fs d i s ≡ meaning v pg stop fs d (v.after i) (render_node pg (node_at v i) (wrap_at fs d) s)
  unfolding meaning render_nodes
  advance fs d i s w = rw (nodes_some v i (part_limit v stop fs d) w)

  -- the innermost row's open part is done
  pub pop : (fs : List Frame) (d i : ℕ) (s : Renderer) → part_end v (frame_at fs d) ≤ i
      → meaning v pg stop fs (suc d) i s ≡ meaning v pg stop fs d (v.after (frame_at fs d).row) (closing v pg (frame_at fs d) s)
  unfolding meaning render_nodes rest part_limit
  pop fs d i s h = rw (nodes_none v i (part_end v (frame_at fs d)) h)

  pub wrap_same : (fs : List Frame) (d : ℕ) (f : Frame) → d < length fs → wrap_at (set fs d f) (suc d) ≡ f.wrap
  unfolding wrap_at
  wrap_same fs d f h = ap (λ (x : Frame). x.wrap) (frame_same fs d f h)

  pub limit_same : (fs : List Frame) (d : ℕ) (f : Frame) → d < length fs → part_limit v stop (set fs d f) (suc d) ≡ part_end v f
  unfolding part_limit
  limit_same fs d f h = ap (part_end v) (frame_same fs d f h)

  -- what an opened row stands for
  opened : (fs : List Frame) (d i : ℕ) (f : Frame) (s : Renderer) → d < length fs
      → meaning v pg stop (set fs d f) (suc d) i s
      ≡ meaning v pg stop fs d (v.after f.row) (closing v pg f (render_nodes pg (nodes_at v i (part_end v f)) f.wrap s))
  unfolding meaning rest
  opened fs d i f s h =
      rw (limit_same fs d f h, wrap_same fs d f h, frame_same fs d f h)
      (rest_set fs d d f _ (omega arith)
      ∙ rw (limit_set fs d d f (omega arith), wrap_at_set fs d d f (omega arith)))

  -- a row is opened
  pub pushed : (fs : List Frame) (d i k : ℕ) (f : Frame) (s t : Renderer) → d < length fs → f.row ≡ i → RangeIn v i (part_limit v stop fs d)
      → closing v pg f (render_nodes pg (nodes_at v k (part_end v f)) f.wrap t) ≡ render_node pg (node_at v i) (wrap_at fs d) s
      → meaning v pg stop (set fs d f) (suc d) k t ≡ meaning v pg stop fs d i s
  pushed fs d i k f s t h e w q = opened fs d k f t h ∙ rw (q, e) (sym (advance fs d i s w))

  -- Each way that a turn goes.
  pub open_group : (fs : List Frame) (d i : ℕ) (s : Renderer) (b : Bool) → d < length fs → RangeIn v i (part_limit v stop fs d) → v.kind i ≡ GROUP
      → b ≡ group_wraps pg (nodes_at v (suc i) (v.after i)) s
      → meaning v pg stop (set fs d (frame_of i b false)) (suc d) (suc i) (insert b (v.number i) s) ≡ meaning v pg stop fs d i s
  unfolding closing part_end render_node
  open_group fs d i s b h w k e =
      pushed fs d i (suc i) (frame_of i b false) s (insert b (v.number i) s) h refl w
      (rw (node_group v i k, k, e))

  pub open_indent : (fs : List Frame) (d i : ℕ) (s : Renderer) → d < length fs → RangeIn v i (part_limit v stop fs d) → v.kind i ≡ INDENT
      → meaning v pg stop (set fs d (frame_of i (wrap_at fs d) false)) (suc d) (suc i) (on_pen (indent_more (wrap_at fs d)) s)
      ≡ meaning v pg stop fs d i s
  unfolding closing part_end render_node
  open_indent fs d i s h w k =
      pushed fs d i (suc i) (frame_of i (wrap_at fs d) false) s (on_pen (indent_more (wrap_at fs d)) s) h refl w
      (rw (node_indent v i k, k))

  pub open_next : (fs : List Frame) (d i : ℕ) (s : Renderer) → d < length fs → RangeIn v i (part_limit v stop fs d) → v.kind i ≡ INDENT_NEXT
      → meaning v pg stop (set fs d (frame_of i (wrap_at fs d) false)) (suc d) (suc i) (on_pen (next_indent_more (wrap_at fs d)) s)
      ≡ meaning v pg stop fs d i s
  unfolding closing part_end render_node
  open_next fs d i s h w k =
      pushed fs d i (suc i) (frame_of i (wrap_at fs d) false) s (on_pen (next_indent_more (wrap_at fs d)) s) h refl w
      (rw (node_next v i k, k))

  -- an IfWrap has two parts, each one row with what is below it
  single : (i : ℕ) → RangeIn v i (v.after i) → (w : Bool) (s : Renderer)
      → render_nodes pg (nodes_at v i (v.after i)) w s ≡ render_node pg (first_of (nodes_at v i (v.after i))) w s
  unfolding render_nodes
  single i h w s = rw (nodes_some v i (v.after i) h, nodes_none v (v.after i) (v.after i) (omega arith))

  pub open_if_first : (fs : List Frame) (d i : ℕ) (s : Renderer) → d < length fs → RangeIn v i (part_limit v stop fs d) → v.kind i ≡ IF_WRAP
      → TwoParts v i
      → wrapped s.marks (v.number i) ≡ true
      → meaning v pg stop (set fs d (frame_of i (wrap_at fs d) true)) (suc d) (suc i) s ≡ meaning v pg stop fs d i s
  unfolding closing part_end render_node
  open_if_first fs d i s h w k t m =
      pushed fs d i (suc i) (frame_of i (wrap_at fs d) true) s s h refl w
      (rw (node_if v i k (record { up = omega arith; to = omega arith }), k, m)
      (rw (← t.first) (single (suc i) (record { up = omega arith; to = omega arith }) (wrap_at fs d) s)))

  pub open_if_second : (fs : List Frame) (d i : ℕ) (s : Renderer) → d < length fs → RangeIn v i (part_limit v stop fs d)
      → v.kind i ≡ IF_WRAP → TwoParts v i
      → wrapped s.marks (v.number i) ≡ false
      → meaning v pg stop (set fs d (frame_of i (wrap_at fs d) false)) (suc d) (v.second i) s ≡ meaning v pg stop fs d i s
  unfolding closing part_end render_node
  open_if_second fs d i s h w k t m =
      pushed fs d i (v.second i) (frame_of i (wrap_at fs d) false) s s h refl w
      (rw (node_if v i k (record { up = omega arith; to = omega arith }), k, m)
      (rw (← t.second) (single (v.second i) (record { up = omega arith; to = omega arith }) (wrap_at fs d) s)))

  pub open_call : (fs : List Frame) (d i : ℕ) (s : Renderer) (t b : Bool) → d < length fs → RangeIn v i (part_limit v stop fs d)
      → v.kind i ≡ CALL → Split v i
      → t ≡ trailing_call pg (nodes_at v (suc i) (v.second i)) (nodes_at v (v.second i) (v.after i)) s
      → b ≡ callee_wraps pg t (nodes_at v (suc i) (v.second i)) (nodes_at v (v.second i) (v.after i)) s
      → meaning v pg stop (set fs d (call_frame i b true (not t && b) (not t))) (suc d) (suc i)
      (on_pen (next_indent_more (not t && b)) (insert b (v.number i) s))
      ≡ meaning v pg stop fs d i s
  unfolding closing part_end render_node
  open_call fs d i s t b h w k p e q =
      pushed fs d i (suc i) (call_frame i b true (not t && b) (not t)) s (on_pen (next_indent_more (not t && b)) (insert b (v.number i) s)) h refl w
      (rw (node_call v i k p, k, q, e))

  -- the callee is done: the arguments' group is opened
  pub call_on : (fs : List Frame) (d i : ℕ) (s : Renderer) (c : Bool) → d < length fs → v.kind (frame_at fs d).row ≡ CALL
      → (frame_at fs d).first ≡ true
      → i ≡ v.second (frame_at fs d).row
      → c ≡ group_wraps pg (nodes_at v i (v.after (frame_at fs d).row)) s
      → meaning v pg stop (set fs d (call_frame (frame_at fs d).row c false (frame_at fs d).deeper (frame_at fs d).made)) (suc d) i
      (insert c (v.number2 (frame_at fs d).row) s)
      ≡ meaning v pg stop fs (suc d) i s
  unfolding closing part_end render_node
  call_on fs d i s c h k y e q =
      opened fs d i (call_frame (frame_at fs d).row c false (frame_at fs d).deeper (frame_at fs d).made) (insert c (v.number2 (frame_at fs d).row) s) h
      ∙ sym (pop fs d i s (rw (y, e) (omega arith)) ∙ rw (k, y, q, e))
