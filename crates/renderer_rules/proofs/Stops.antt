-- The machine stops where the rules enter the next row: each turn enters the first of the rows ahead, or enters none and leaves them as they are.
-- Assumes nothing.
use mathlib.Core.Path.{◌≡◌, refl, ap, sym, ◌∙◌}
use Prim.Native.Nat.{ℕ, zero, suc, ◌≤◌, ◌<◌}
use native.Mathlib.Omega.{arith}
use Rattle.std.proofs.lemmas.List.{map-append}
use mathlib.Core.Bool.{Bool, true, false, not, ◌&&◌}
use mathlib.Core.List.{map, List, [], ◌∷◌, ◌++◌, append-nil, append_assoc}
use lib.ListN.{length, take, set}
use lib.Seq.{take-suc-set, take-set-le}
use lib.Dec.{eqb}
use Rattle.rows.specs.Kinds.{GROUP, INDENT, INDENT_NEXT, WRAP_PARENT, LINE_OR_SPACE, IF_WRAP, CALL}
use Rattle.rows.specs.Node.{Nodes, wrapped}
use Rattle.rows.specs.View.{View, nodes_at, node_at, first_of}
use Rattle.rows.specs.Nesting.{RangeIn, Split, TwoParts}
use Rattle.rows.proofs.Decode.{nodes_some, nodes_none, node_group, node_indent, node_next, node_if, node_call, node_parent, node_comment, node_str}
use Rattle.rows.proofs.Decode.{node_ascii, node_line, node_empty, node_space}
use Rattle.renderer_rules.specs.declared.Frame.{Frame}
use Rattle.renderer_rules.specs.Renderer.{Page, Renderer, on_pen, render_node, render_nodes, trailing_call, callee_wraps, group_wraps, insert}
use Rattle.renderer_rules.specs.Renderer.{indent_more, next_indent_more}
use Rattle.renderer_rules.specs.Frames.{frame_at, part_end, part_limit, wrap_at}
use Rattle.renderer_rules.specs.Machine.{frame_of, call_frame, closing}
use Rattle.renderer_rules.specs.Stops.{OpenRow, listed_as, listed_rows, Stop, stop_at, inside, within, entered, arguments, behind, ahead}
use Rattle.renderer_rules.proofs.Meaning.{frame_same, frame_other, limit_set, limit_same, wrap_same}

-- the listed rows of more frames than are open
pub listed_set : (fs : List Frame) (d k : ℕ) (f : Frame) → d ≤ k → listed_rows (set fs k f) d ≡ listed_rows fs d
unfolding listed_rows
listed_set fs d k f h = ap (map listed_as) (take-set-le d fs k f h)

pub listed_suc : (fs : List Frame) (d : ℕ) (f : Frame) → d < length fs → listed_rows (set fs d f) (suc d) ≡ inside (listed_rows fs d) (listed_as f)
unfolding listed_rows
listed_suc fs d f h = ap (map listed_as) (take-suc-set fs d f h) ∙ map-append listed_as (take d fs) (f ∷ [])

module _ (v : View) (pg : Page) (stop : ℕ) where
  wrap_set : (fs : List Frame) (k d : ℕ) (f : Frame) → d ≤ k → wrap_at (set fs k f) d ≡ wrap_at fs d
  unfolding wrap_at
  wrap_set fs k zero f h = refl
  wrap_set fs k (suc d) f h = ap (λ (x : Frame). x.wrap) (frame_other v pg stop fs k d f h)

  -- the rows behind the innermost of d + 1 open rows, in the part around it
  abbrev later : List Frame → ℕ → Nodes
  later fs d = nodes_at v (v.after (frame_at fs d).row) (part_limit v stop fs d)

  -- a frame that is not among the first d changes nothing behind them
  behind_set : (fs : List Frame) (k d : ℕ) (f : Frame) (s : Renderer) → d ≤ k → behind v pg stop (set fs k f) d s ≡ behind v pg stop fs d s
  unfolding behind
  behind_set fs k zero f s h = refl
  behind_set fs k (suc d) f s h =
      rw (frame_other v pg stop fs k d f h, limit_set v pg stop fs k d f (omega arith), wrap_set fs k d f (omega arith), listed_set fs d k f (omega arith))
      (ap (λ (l : List Stop). arguments v pg (listed_rows fs d) (frame_at fs d) s
      ++ (entered v pg (later fs d) (v.after (frame_at fs d).row) (listed_rows fs d) (wrap_at fs d) (closing v pg (frame_at fs d) s) ++ l))
      (behind_set fs k d f (render_nodes pg (later fs d) (wrap_at fs d) (closing v pg (frame_at fs d) s)) (omega arith)))

  -- a row is rendered whole: it is entered, then what is within it, then what follows
  advance : (fs : List Frame) (d i : ℕ) (s : Renderer) → RangeIn v i (part_limit v stop fs d)
      → ahead v pg stop fs d i s
      ≡ (stop_at i (listed_rows fs d) s
      ∷ (within v pg (node_at v i) i (listed_rows fs d) (wrap_at fs d) s ++ ahead v pg stop fs d (v.after i) (render_node pg (node_at v i) (wrap_at fs d) s)))
  unfolding ahead entered render_nodes
  advance fs d i s w =
      rw (nodes_some v i (part_limit v stop fs d) w)
      (ap (λ (l : List Stop). stop_at i (listed_rows fs d) s ∷ l) (append_assoc (within v pg (node_at v i) i (listed_rows fs d) (wrap_at fs d) s) _ _))

  -- the open part of the innermost row is done
  pop : (fs : List Frame) (d i : ℕ) (s : Renderer) → part_end v (frame_at fs d) ≤ i
      → ahead v pg stop fs (suc d) i s
      ≡ arguments v pg (listed_rows fs d) (frame_at fs d) s ++ ahead v pg stop fs d (v.after (frame_at fs d).row) (closing v pg (frame_at fs d) s)
  unfolding ahead entered render_nodes behind part_limit
  pop fs d i s h = rw (nodes_none v i (part_end v (frame_at fs d)) h)

  -- the open part of f, rendered from row k on
  abbrev done : ℕ → Frame → Renderer → Renderer
  done k f t = render_nodes pg (nodes_at v k (part_end v f)) f.wrap t

  -- what an opened row stands for
  opened : (fs : List Frame) (d k : ℕ) (f : Frame) (t : Renderer) → d < length fs
      → ahead v pg stop (set fs d f) (suc d) k t
      ≡ entered v pg (nodes_at v k (part_end v f)) k (inside (listed_rows fs d) (listed_as f)) f.wrap t
      ++ (arguments v pg (listed_rows fs d) f (render_nodes pg (nodes_at v k (part_end v f)) f.wrap t)
      ++ ahead v pg stop fs d (v.after f.row) (closing v pg f (render_nodes pg (nodes_at v k (part_end v f)) f.wrap t)))
  unfolding ahead behind
  opened fs d k f t h =
      rw (limit_same v pg stop fs d f h, wrap_same v pg stop fs d f h, frame_same v pg stop fs d f h, listed_suc fs d f h, listed_set fs d d f (omega arith))
      (rw (limit_set v pg stop fs d d f (omega arith), wrap_set fs d d f (omega arith))
      (ap (λ (l : List Stop). entered v pg (nodes_at v k (part_end v f)) k (inside (listed_rows fs d) (listed_as f)) f.wrap t
      ++ (arguments v pg (listed_rows fs d) f (done k f t)
      ++ (entered v pg (nodes_at v (v.after f.row) (part_limit v stop fs d)) (v.after f.row) (listed_rows fs d) (wrap_at fs d) (closing v pg f (done k f t))
      ++ l)))
      (behind_set fs d d f (render_nodes pg (nodes_at v (v.after f.row) (part_limit v stop fs d)) (wrap_at fs d) (closing v pg f (done k f t))) (omega arith))))

  -- a row is opened at one of its parts: the row itself is the first of those ahead
  pushed : (fs : List Frame) (d i k : ℕ) (f : Frame) (s t : Renderer) → d < length fs → f.row ≡ i → RangeIn v i (part_limit v stop fs d)
      → within v pg (node_at v i) i (listed_rows fs d) (wrap_at fs d) s
      ≡ entered v pg (nodes_at v k (part_end v f)) k (inside (listed_rows fs d) (listed_as f)) f.wrap t
      ++ arguments v pg (listed_rows fs d) f (render_nodes pg (nodes_at v k (part_end v f)) f.wrap t)
      → closing v pg f (render_nodes pg (nodes_at v k (part_end v f)) f.wrap t) ≡ render_node pg (node_at v i) (wrap_at fs d) s
      → ahead v pg stop fs d i s ≡ (stop_at i (listed_rows fs d) s ∷ ahead v pg stop (set fs d f) (suc d) k t)
  pushed fs d i k f s t h e w q c =
      advance fs d i s w
      ∙ ap (λ (l : List Stop). stop_at i (listed_rows fs d) s ∷ l)
      (rw (q, ← c, ← e)
      (append_assoc (entered v pg (nodes_at v k (part_end v f)) k (inside (listed_rows fs d) (listed_as f)) f.wrap t) _ _ ∙ sym (opened fs d k f t h)))

  -- Each way that a turn goes.
  pub group_ahead : (fs : List Frame) (d i : ℕ) (s : Renderer) (b : Bool) → d < length fs → RangeIn v i (part_limit v stop fs d) → v.kind i ≡ GROUP
      → b ≡ group_wraps pg (nodes_at v (suc i) (v.after i)) s
      → ahead v pg stop fs d i s
      ≡ (stop_at i (listed_rows fs d) s ∷ ahead v pg stop (set fs d (frame_of i b false)) (suc d) (suc i) (insert b (v.number i) s))
  unfolding closing part_end render_node within arguments
  group_ahead fs d i s b h w k e =
      pushed fs d i (suc i) (frame_of i b false) s (insert b (v.number i) s) h refl w
      (rw (node_group v i k, k, e) (sym (append-nil _)))
      (rw (node_group v i k, k, e))

  pub indent_ahead : (fs : List Frame) (d i : ℕ) (s : Renderer) → d < length fs → RangeIn v i (part_limit v stop fs d) → v.kind i ≡ INDENT
      → ahead v pg stop fs d i s
      ≡ (stop_at i (listed_rows fs d) s ∷ ahead v pg stop (set fs d (frame_of i (wrap_at fs d) false)) (suc d) (suc i) (on_pen (indent_more (wrap_at fs d)) s))
  unfolding closing part_end render_node within arguments
  indent_ahead fs d i s h w k =
      pushed fs d i (suc i) (frame_of i (wrap_at fs d) false) s (on_pen (indent_more (wrap_at fs d)) s) h refl w
      (rw (node_indent v i k, k) (sym (append-nil _)))
      (rw (node_indent v i k, k))

  pub next_ahead : (fs : List Frame) (d i : ℕ) (s : Renderer) → d < length fs → RangeIn v i (part_limit v stop fs d) → v.kind i ≡ INDENT_NEXT
      → ahead v pg stop fs d i s
      ≡ (stop_at i (listed_rows fs d) s ∷ ahead v pg stop (set fs d (frame_of i (wrap_at fs d) false)) (suc d) (suc i)
      (on_pen (next_indent_more (wrap_at fs d)) s))
  unfolding closing part_end render_node within arguments
  next_ahead fs d i s h w k =
      pushed fs d i (suc i) (frame_of i (wrap_at fs d) false) s (on_pen (next_indent_more (wrap_at fs d)) s) h refl w
      (rw (node_next v i k, k) (sym (append-nil _)))
      (rw (node_next v i k, k))

  -- a part of an `IfWrap` is one row
  pub single : (i : ℕ) (es : List OpenRow) (w : Bool) (s : Renderer) → RangeIn v i (v.after i)
      → entered v pg (nodes_at v i (v.after i)) i es w s ≡ (stop_at i es s ∷ within v pg (first_of (nodes_at v i (v.after i))) i es w s)
  unfolding entered
  single i es w s h =
      rw (nodes_some v i (v.after i) h, nodes_none v (v.after i) (v.after i) (omega arith))
      (ap (λ (l : List Stop). stop_at i es s ∷ l) (append-nil _))

  single_renders : (i : ℕ) → RangeIn v i (v.after i) → (w : Bool) (s : Renderer) → render_nodes pg (nodes_at v i (v.after i)) w s
      ≡ render_node pg (first_of (nodes_at v i (v.after i))) w s
  unfolding render_nodes
  single_renders i h w s = rw (nodes_some v i (v.after i) h, nodes_none v (v.after i) (v.after i) (omega arith))

  pub if_first_ahead : (fs : List Frame) (d i : ℕ) (s : Renderer) → d < length fs → RangeIn v i (part_limit v stop fs d) → v.kind i ≡ IF_WRAP → TwoParts v i
      → wrapped s.marks (v.number i) ≡ true
      → ahead v pg stop fs d i s ≡ (stop_at i (listed_rows fs d) s ∷ ahead v pg stop (set fs d (frame_of i (wrap_at fs d) true)) (suc d) (suc i) s)
  unfolding closing part_end render_node within arguments
  if_first_ahead fs d i s h w k t m =
      pushed fs d i (suc i) (frame_of i (wrap_at fs d) true) s s h refl w
      (rw (node_if v i k (record { up = omega arith; to = omega arith }), k, m)
      (rw (← t.first)
      (sym (single (suc i) (inside (listed_rows fs d) (listed_as (frame_of i (wrap_at fs d) true))) (wrap_at fs d) s
      (record { up = omega arith; to = omega arith })) ∙ sym (append-nil _))))
      (rw (node_if v i k (record { up = omega arith; to = omega arith }), k, m)
      (rw (← t.first) (single_renders (suc i) (record { up = omega arith; to = omega arith }) (wrap_at fs d) s)))

  pub if_second_ahead : (fs : List Frame) (d i : ℕ) (s : Renderer) → d < length fs → RangeIn v i (part_limit v stop fs d) → v.kind i ≡ IF_WRAP → TwoParts v i
      → wrapped s.marks (v.number i) ≡ false
      → ahead v pg stop fs d i s ≡ (stop_at i (listed_rows fs d) s ∷ ahead v pg stop (set fs d (frame_of i (wrap_at fs d) false)) (suc d) (v.second i) s)
  unfolding closing part_end render_node within arguments
  if_second_ahead fs d i s h w k t m =
      pushed fs d i (v.second i) (frame_of i (wrap_at fs d) false) s s h refl w
      (rw (node_if v i k (record { up = omega arith; to = omega arith }), k, m)
      (rw (← t.second)
      (sym (single (v.second i) (inside (listed_rows fs d) (listed_as (frame_of i (wrap_at fs d) false))) (wrap_at fs d) s
      (record { up = omega arith; to = omega arith })) ∙ sym (append-nil _))))
      (rw (node_if v i k (record { up = omega arith; to = omega arith }), k, m)
      (rw (← t.second) (single_renders (v.second i) (record { up = omega arith; to = omega arith }) (wrap_at fs d) s)))

  pub call_ahead : (fs : List Frame) (d i : ℕ) (s : Renderer) (t b : Bool) → d < length fs → RangeIn v i (part_limit v stop fs d) → v.kind i ≡ CALL → Split v i
      → t ≡ trailing_call pg (nodes_at v (suc i) (v.second i)) (nodes_at v (v.second i) (v.after i)) s
      → b ≡ callee_wraps pg t (nodes_at v (suc i) (v.second i)) (nodes_at v (v.second i) (v.after i)) s
      → ahead v pg stop fs d i s
      ≡ (stop_at i (listed_rows fs d) s
      ∷ ahead v pg stop (set fs d (call_frame i b true (not t && b) (not t))) (suc d) (suc i)
      (on_pen (next_indent_more (not t && b)) (insert b (v.number i) s)))
  unfolding closing part_end render_node within arguments
  call_ahead fs d i s t b h w k p e q =
      pushed fs d i (suc i) (call_frame i b true (not t && b) (not t)) s (on_pen (next_indent_more (not t && b)) (insert b (v.number i) s)) h refl w
      (rw (node_call v i k p, k, q, e))
      (rw (node_call v i k p, k, q, e))

  -- the callee is done: the arguments' group is opened, and no row is entered
  pub arguments_ahead : (fs : List Frame) (d i : ℕ) (s : Renderer) (c : Bool) → d < length fs → v.kind (frame_at fs d).row ≡ CALL → (frame_at fs d).first ≡ true
      → i ≡ v.second (frame_at fs d).row
      → c ≡ group_wraps pg (nodes_at v i (v.after (frame_at fs d).row)) s
      → ahead v pg stop (set fs d (call_frame (frame_at fs d).row c false (frame_at fs d).deeper (frame_at fs d).made)) (suc d) i
      (insert c (v.number2 (frame_at fs d).row) s)
      ≡ ahead v pg stop fs (suc d) i s
  unfolding closing part_end render_node arguments
  arguments_ahead fs d i s c h k y e q =
      opened fs d i (call_frame (frame_at fs d).row c false (frame_at fs d).deeper (frame_at fs d).made) (insert c (v.number2 (frame_at fs d).row) s) h
      ∙ sym (pop fs d i s (rw (y, e) (omega arith)) ∙ rw (k, y, q, e))

  -- the innermost row is closed, and no row is entered
  pub closed_ahead : (fs : List Frame) (d i : ℕ) (s : Renderer) → part_end v (frame_at fs d) ≤ i
      → (eqb (v.kind (frame_at fs d).row) CALL && (frame_at fs d).first) ≡ false
      → ahead v pg stop fs (suc d) i s ≡ ahead v pg stop fs d (v.after (frame_at fs d).row) (closing v pg (frame_at fs d) s)
  unfolding arguments
  closed_ahead fs d i s h n = pop fs d i s h ∙ rw n

  -- a row without parts is entered, and nothing is within it
  pub leaf_nothing : (i : ℕ) (es : List OpenRow) (w : Bool) (s : Renderer) (k : ℕ) → v.kind i ≡ k → WRAP_PARENT ≤ k → k ≤ LINE_OR_SPACE
      → within v pg (node_at v i) i es w s ≡ []
  unfolding within
  leaf_nothing i es w s zero e a b = absurd (omega arith)
  leaf_nothing i es w s (suc zero) e a b = absurd (omega arith)
  leaf_nothing i es w s (suc (suc zero)) e a b = absurd (omega arith)
  leaf_nothing i es w s (suc (suc (suc zero))) e a b = rw (node_parent v i e)
  leaf_nothing i es w s (suc (suc (suc (suc zero)))) e a b = rw (node_comment v i e)
  leaf_nothing i es w s (suc (suc (suc (suc (suc zero))))) e a b = rw (node_str v i e)
  leaf_nothing i es w s (suc (suc (suc (suc (suc (suc zero)))))) e a b = rw (node_ascii v i e)
  leaf_nothing i es w s (suc (suc (suc (suc (suc (suc (suc zero))))))) e a b = rw (node_line v i e)
  leaf_nothing i es w s (suc (suc (suc (suc (suc (suc (suc (suc zero)))))))) e a b = rw (node_empty v i e)
  leaf_nothing i es w s (suc (suc (suc (suc (suc (suc (suc (suc (suc zero))))))))) e a b = rw (node_space v i e)
  leaf_nothing i es w s (suc (suc (suc (suc (suc (suc (suc (suc (suc (suc n)))))))))) e a b = absurd (omega arith)

  pub leaf_ahead : (fs : List Frame) (d i : ℕ) (s : Renderer) → RangeIn v i (part_limit v stop fs d) → WRAP_PARENT ≤ v.kind i → v.kind i ≤ LINE_OR_SPACE
      → v.after i ≡ suc i
      → ahead v pg stop fs d i s ≡ (stop_at i (listed_rows fs d) s ∷ ahead v pg stop fs d (suc i) (render_node pg (node_at v i) (wrap_at fs d) s))
  leaf_ahead fs d i s w a b e =
      advance fs d i s w ∙ rw (leaf_nothing i (listed_rows fs d) (wrap_at fs d) s (v.kind i) refl a b, e)
