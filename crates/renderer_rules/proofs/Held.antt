-- The margin with allotments: what closing the open rows down to d would leave is kept by every turn, until the d-th is closed.
-- Assumes nothing.
use mathlib.Core.Path.{◌≡◌, refl, ap, sym, ◌∙◌, subst}
use Prim.Native.Nat.{ℕ, zero, suc, ◌+◌, ◌-◌, ◌≤◌, ◌<◌}
use native.Mathlib.Omega.{arith}
use native.Mathlib.Nat.{add-suc}
use mathlib.Core.Bool.{Bool, true, false, cond, not, ◌&&◌, ◌||◌}
use mathlib.Core.List.{List}
use lib.ListN.{length, set}
use lib.Dec.{ltb, eqb}
use borrow.Author.Tests.{ne_eqb, eqb-true, eqb-false, lt-ltb, ltb-true, ltb-false}
use Rattle.laws.proofs.Booleans.{both}
use Rattle.rows.specs.Kinds.{GROUP, INDENT, INDENT_NEXT, IF_WRAP, CALL}
use Rattle.rows.specs.Node.{wrapped}
use Rattle.rows.specs.View.{View, nodes_at, node_at}
use Rattle.rows.proofs.Nested.{nests_kind, nests_deep}
use Rattle.renderer_rules.specs.declared.Frame.{Frame}
use Rattle.renderer_rules.specs.declared.Pen.{Pen}
use Rattle.renderer_rules.specs.Renderer.{Page, Renderer, on_pen, insert, group_wraps, indent_more, indent_less, next_indent_more, next_indent_less}
use Rattle.renderer_rules.specs.Renderer.{render_node, with_indent, with_next_indent, trailing_call, callee_wraps}
use Rattle.renderer_rules.specs.Frames.{frame_at, part_end, part_limit, wrap_at}
use Rattle.renderer_rules.specs.Machine.{Machine, closes, opened, reopened, closed_to, frame_of, call_frame, closing, first_part, second_part}
use Rattle.renderer_rules.specs.Machine.{enter_group, enter_indent}
use Rattle.renderer_rules.specs.Machine.{enter_next, enter_leaf, enter_if, enter_call, enter, leave, turn_at, turn}
use Rattle.renderer_rules.specs.Safe.{one_if, steps_back, ins_of, steps, ins, Safe}
use Rattle.renderer_rules.specs.Listed.{can_close}
use Rattle.renderer_rules.proofs.Margin.{render_kept}
use Rattle.renderer_rules.proofs.Meaning.{frame_same, frame_other}
use Rattle.renderer_rules.proofs.Machine.{Fine, is_done, not_done, in_part, limit_suc}
use Rattle.renderer_rules.proofs.Safe.{closing_plain, closing_indent, closing_next, closing_call, indent_steps, next_steps, call_steps, plain_step}
use Rattle.renderer_rules.proofs.Safe.{ins_le}
use Rattle.renderer_rules.proofs.Closable.{PenKept, row_kept}

module _ (v : View) where
  abbrev shut : Frame → Pen → Pen
  shut f p = closes (v.kind f.row) f.wrap f.deeper p

  abbrev can_shut : Frame → Pen → Bool
  can_shut f p = can_close (v.kind f.row) f.wrap f.deeper p

  -- the k open rows from d on are closed with no further row, innermost first; and that this can be done
  unfoldable pub close_down : List Frame → ℕ → ℕ → Pen → Pen
  close_down fs d zero p = p
  close_down fs d (suc k) p = close_down fs d k (shut (frame_at fs (d + k)) p)

  unfoldable pub can_down : List Frame → ℕ → ℕ → Pen → Bool
  can_down fs d zero p = true
  can_down fs d (suc k) p = can_shut (frame_at fs (d + k)) p && can_down fs d k (shut (frame_at fs (d + k)) p)

  still : (p : Pen) → PenKept p p
  still p = record { sum = refl; low = omega arith }

  down_kept : (fs : List Frame) (d k : ℕ) (p q : Pen) → PenKept p q → can_down fs d k p ≡ true → PenKept (close_down fs d k p) (close_down fs d k q)
  unfolding close_down can_down
  down_kept fs d zero p q h e = h
  down_kept fs d (suc k) p q h e =
      let x = both (can_shut (frame_at fs (d + k)) p) (can_down fs d k (shut (frame_at fs (d + k)) p)) e in
      let y = row_kept (v.kind (frame_at fs (d + k)).row) (frame_at fs (d + k)).wrap (frame_at fs (d + k)).deeper p q h x.0 in
      down_kept fs d k (shut (frame_at fs (d + k)) p) (shut (frame_at fs (d + k)) q) y.1 x.1

  down_set : (pg : Page) (fs : List Frame) (n d k : ℕ) (f : Frame) (p : Pen) → d + k ≤ n → close_down (set fs n f) d k p ≡ close_down fs d k p
  unfolding close_down
  down_set pg fs n d zero f p h = refl
  down_set pg fs n d (suc k) f p h =
      rw (frame_other v pg 0 fs n (d + k) f (omega arith)) (down_set pg fs n d k f (shut (frame_at fs (d + k)) p) (omega arith))

  -- one more row is open: its end takes back what it put in
  down_opened : (pg : Page) (fs : List Frame) (d k : ℕ) (f : Frame) (p q : Pen) → d + k < length fs → shut f q ≡ p
      → close_down (set fs (d + k) f) d (suc k) q ≡ close_down fs d k p
  unfolding close_down
  down_opened pg fs d k f p q h e = rw (frame_same v pg 0 fs (d + k) f h, e) (down_set pg fs (d + k) d k f p (omega arith))

  -- ---- what each kind of row takes back
  more_less : (w : Bool) (p : Pen) → indent_less w (indent_more w p) ≡ p
  unfolding indent_less indent_more
  more_less true p = ap (λ (n : ℕ). with_indent n p) (back p.indent)
    where
      back : (n : ℕ) → n + 1 - 1 ≡ n
      back n = omega arith
  more_less false p = refl

  next_more_less : (w : Bool) (p : Pen) → next_indent_less w (next_indent_more w p) ≡ p
  unfolding next_indent_less next_indent_more indent_less
  next_more_less true p = rw (lt-ltb 0 (p.next_indent + 1) (omega arith)) (ap (λ (n : ℕ). with_next_indent n p) (back p.next_indent))
    where
      back : (n : ℕ) → n + 1 - 1 ≡ n
      back n = omega arith
  next_more_less false p = refl

  shut_plain : (f : Frame) (p : Pen) → (v.kind f.row ≡ INDENT → ⊥) → (v.kind f.row ≡ INDENT_NEXT → ⊥) → (v.kind f.row ≡ CALL → ⊥) → shut f p ≡ p
  shut_plain f p a b c = rw (ne_eqb (v.kind f.row) INDENT a, ne_eqb (v.kind f.row) INDENT_NEXT b, ne_eqb (v.kind f.row) CALL c)

  shut_indent : (f : Frame) (p : Pen) → v.kind f.row ≡ INDENT → shut f p ≡ indent_less f.wrap p
  shut_indent f p k = rw k

  shut_next : (f : Frame) (p : Pen) → v.kind f.row ≡ INDENT_NEXT → shut f p ≡ next_indent_less f.wrap p
  shut_next f p k = rw k

  shut_call : (f : Frame) (p : Pen) → v.kind f.row ≡ CALL → shut f p ≡ next_indent_less f.deeper p
  shut_call f p k = rw k

-- the pen p before the row at depth d, and what closing down to d would leave
pub record Held (v : View) (d : ℕ) (p : Pen) (m : Machine) : Type 0 where
  pub more : ℕ
  pub open_rows : m.depth ≡ d + more
  pub kept : PenKept p (close_down v m.frames d more m.state.pen)

module _ (v : View) (pg : Page) (stop d : ℕ) (p : Pen) (m : Machine) (a : Fine v pg stop m) (h : Held v d p m) where
  abbrev k : ℕ
  k = h.more

  abbrev z : Pen
  z = m.state.pen

  -- a row is opened
  held_opened : (f : Frame) (i : ℕ) (t : Renderer) → m.depth < length m.frames → shut v f t.pen ≡ z → Held v d p (opened m f i t)
  held_opened f i t l e =
      let o = h.open_rows in
      let q : close_down v (set m.frames m.depth f) d (suc k) t.pen ≡ close_down v m.frames d k z =
      subst (λ (n : ℕ). close_down v (set m.frames n f) d (suc k) t.pen ≡ close_down v m.frames d k z) (sym o)
      (down_opened v pg m.frames d k f z t.pen (omega arith) e) in
      record { more = suc k; open_rows = (let y = add-suc d k in omega arith); kept = subst (PenKept p) (sym q) h.kept }

  module _ (i : m.next < part_limit v stop m.frames m.depth) where
    roomy : m.depth < length m.frames
    roomy = rw a.size (nests_deep a.good i)

    group_held : v.kind m.next ≡ GROUP → Held v d p (enter_group v pg m)
    unfolding enter_group insert
    group_held e = held_opened (frame_of m.next _ false) _ _ roomy
        (shut_plain v (frame_of m.next _ false) z (λ q. omega arith) (λ q. omega arith) (λ q. omega arith))

    indent_held : v.kind m.next ≡ INDENT → Held v d p (enter_indent v pg m)
    unfolding enter_indent
    indent_held e =
        let w = wrap_at m.frames m.depth in
        held_opened (frame_of m.next w false) _ (on_pen (indent_more w) m.state) roomy
        (shut_indent v (frame_of m.next w false) (indent_more w z) e ∙ more_less v w z)

    next_held : v.kind m.next ≡ INDENT_NEXT → Held v d p (enter_next v pg m)
    unfolding enter_next
    next_held e =
        let w = wrap_at m.frames m.depth in
        held_opened (frame_of m.next w false) _ (on_pen (next_indent_more w) m.state) roomy
        (shut_next v (frame_of m.next w false) (next_indent_more w z) e ∙ next_more_less v w z)

    if_held : v.kind m.next ≡ IF_WRAP → Held v d p (enter_if v pg m)
    unfolding enter_if
    if_held e = go (wrapped m.state.marks (v.number m.next))
      where
        go : (b : Bool)
            → Held v d p (cond b (opened m (frame_of m.next (wrap_at m.frames m.depth) true) (suc m.next) m.state)
            (opened m (frame_of m.next (wrap_at m.frames m.depth) false) (v.second m.next) m.state))
        go true = held_opened _ _ _ roomy (shut_plain v (frame_of m.next (wrap_at m.frames m.depth) true) z (λ q. omega arith) (λ q. omega arith)
            (λ q. omega arith))
        go false = held_opened _ _ _ roomy (shut_plain v (frame_of m.next (wrap_at m.frames m.depth) false) z (λ q. omega arith) (λ q. omega arith)
            (λ q. omega arith))

    call_held : v.kind m.next ≡ CALL → Held v d p (enter_call v pg m)
    unfolding enter_call insert
    call_held e =
        let t = trailing_call pg (first_part v m.next) (second_part v m.next) m.state in
        let b = callee_wraps pg t (first_part v m.next) (second_part v m.next) m.state in
        held_opened (call_frame m.next b true (not t && b) (not t)) _ _ roomy
        (shut_call v (call_frame m.next b true (not t && b) (not t)) (next_indent_more (not t && b) z) e ∙ next_more_less v (not t && b) z)

    leaf_held : can_down v m.frames d k z ≡ true → Held v d p (enter_leaf v pg m)
    unfolding enter_leaf
    leaf_held e =
        let x = render_kept (node_at v m.next) pg (wrap_at m.frames m.depth) m.state in
        let y = down_kept v m.frames d k z (render_node pg (node_at v m.next) (wrap_at m.frames m.depth) m.state).pen (record { sum = x.sum; low = x.low }) e in
        let q = h.kept in
        record { more = k; open_rows = h.open_rows; kept = record { sum = y.sum ∙ q.sum; low = (let s = y.low in let t = q.low in omega arith) } }

    enter_held : can_down v m.frames d k z ≡ true → (n : ℕ) → v.kind m.next ≡ n → Held v d p (enter v pg m)
    unfolding enter
    enter_held c zero e = rw e (group_held e)
    enter_held c (suc zero) e = rw e (indent_held e)
    enter_held c (suc (suc zero)) e = rw e (next_held e)
    enter_held c (suc (suc (suc zero))) e = rw e (leaf_held c)
    enter_held c (suc (suc (suc (suc zero)))) e = rw e (leaf_held c)
    enter_held c (suc (suc (suc (suc (suc zero))))) e = rw e (leaf_held c)
    enter_held c (suc (suc (suc (suc (suc (suc zero)))))) e = rw e (leaf_held c)
    enter_held c (suc (suc (suc (suc (suc (suc (suc zero))))))) e = rw e (leaf_held c)
    enter_held c (suc (suc (suc (suc (suc (suc (suc (suc zero)))))))) e = rw e (leaf_held c)
    enter_held c (suc (suc (suc (suc (suc (suc (suc (suc (suc zero))))))))) e = rw e (leaf_held c)
    enter_held c (suc (suc (suc (suc (suc (suc (suc (suc (suc (suc zero)))))))))) e = rw e (if_held e)
    enter_held c (suc (suc (suc (suc (suc (suc (suc (suc (suc (suc (suc zero))))))))))) e = rw e (call_held e)
    enter_held c (suc (suc (suc (suc (suc (suc (suc (suc (suc (suc (suc (suc n)))))))))))) e = absurd (let y = nests_kind a.good i in omega arith)

  -- the innermost row is left: closed, or a `Call`'s arguments opened
  module _ (n : ℕ) (o : m.depth ≡ suc n) (inner : d ≤ n) where
    abbrev f : Frame
    f = frame_at m.frames n

    held_off : (i : ℕ) (t : Renderer) → t.pen ≡ shut v f z → Held v d p (closed_to m n i t)
    unfolding close_down
    held_off i t e =
        let y = h.open_rows in
        let q : k ≡ suc (n - d) = omega arith in
        let j : d + (n - d) ≡ n = omega arith in
        record {
          more = n - d;
          open_rows = sym j;
          kept = subst (PenKept p) (down_step m.frames (n - d) q (ap (frame_at m.frames) j) ∙ ap (close_down v m.frames d (n - d)) (sym e)) h.kept;
        }
      where
        down_step : (fs : List Frame) (c : ℕ) → k ≡ suc c → frame_at fs (d + c) ≡ f → close_down v fs d k z ≡ close_down v fs d c (shut v f z)
        down_step fs c q e = ap (λ (x : ℕ). close_down v fs d x z) q ∙ ap (λ (g : Frame). close_down v fs d c (shut v g z)) e

    held_on : (g : Frame) (t : Renderer) → n < length m.frames → t.pen ≡ z → shut v g z ≡ shut v f z → Held v d p (reopened m n g t)
    unfolding close_down
    held_on g t l e s =
        let y = h.open_rows in
        let q : k ≡ suc (n - d) = omega arith in
        let j : d + (n - d) ≡ n = omega arith in
        record {
          more = suc (n - d);
          open_rows = (let x = add-suc d (n - d) in omega arith);
          kept = subst (PenKept p) (same (n - d) q j) h.kept;
        }
      where
        same : (c : ℕ) → k ≡ suc c → d + c ≡ n → close_down v m.frames d k z ≡ close_down v (set m.frames n g) d (suc c) t.pen
        same c q j =
            ap (λ (x : ℕ). close_down v m.frames d x z) q
            ∙ ap (λ (x : Frame). close_down v m.frames d c (shut v x z)) (ap (frame_at m.frames) j)
            ∙ ap (close_down v m.frames d c) (sym s)
            ∙ sym (down_set v pg m.frames n d c g (shut v g z) (omega arith))
            ∙ ap (λ (x : Frame). close_down v (set m.frames n g) d c (shut v x z))
            (sym (ap (frame_at (set m.frames n g)) j ∙ frame_same v pg stop m.frames n g l))
            ∙ ap (λ (x : Pen). close_down v (set m.frames n g) d c (shut v (frame_at (set m.frames n g) (d + c)) x)) (sym e)

    closing_shut : (eqb (v.kind f.row) CALL && f.first) ≡ false → (closing v pg f m.state).pen ≡ shut v f z
    closing_shut e = go (eqb (v.kind f.row) INDENT) (eqb (v.kind f.row) INDENT_NEXT) (eqb (v.kind f.row) CALL) refl refl refl
      where
        go : (x y w : Bool) → eqb (v.kind f.row) INDENT ≡ x → eqb (v.kind f.row) INDENT_NEXT ≡ y → eqb (v.kind f.row) CALL ≡ w
            → (closing v pg f m.state).pen ≡ shut v f z
        go true y w q r s = ap (λ (t : Renderer). t.pen) (closing_indent v pg f m.state (eqb-true _ 1 q)) ∙ sym (shut_indent v f z (eqb-true _ 1 q))
        go false true w q r s = ap (λ (t : Renderer). t.pen) (closing_next v pg f m.state (eqb-true _ 2 r)) ∙ sym (shut_next v f z (eqb-true _ 2 r))
        go false false true q r s =
            ap (λ (t : Renderer). t.pen) (closing_call v pg f m.state (eqb-true _ 11 s) (sym (rw s) ∙ e)) ∙ sym (shut_call v f z (eqb-true _ 11 s))
        go false false false q r s =
            ap (λ (t : Renderer). t.pen) (closing_plain v pg f m.state (v.kind f.row) refl (eqb-false _ 1 q) (eqb-false _ 2 r) (eqb-false _ 11 s))
            ∙ sym (shut_plain v f z (eqb-false _ 1 q) (eqb-false _ 2 r) (eqb-false _ 11 s))

    leave_held : Held v d p (leave v pg m n)
    unfolding leave insert
    leave_held = go (eqb (v.kind f.row) CALL && f.first) refl
      where
        c : Bool
        c = group_wraps pg (nodes_at v m.next (v.after f.row)) m.state

        go : (b : Bool) → (eqb (v.kind f.row) CALL && f.first) ≡ b
            → Held v d p (cond b (reopened m n (call_frame f.row c false f.deeper f.made) (insert c (v.number2 f.row) m.state))
            (closed_to m n (v.after f.row) (closing v pg f m.state)))
        go true q =
            let x = both (eqb (v.kind f.row) CALL) f.first q in
            let y = eqb-true (v.kind f.row) 11 x.0 in
            held_on (call_frame f.row c false f.deeper f.made) (insert c (v.number2 f.row) m.state) (let e = a.deep in let s = a.size in omega arith) refl
            (shut_call v (call_frame f.row c false f.deeper f.made) z y ∙ sym (shut_call v f z y))
        go false q = held_off (v.after f.row) (closing v pg f m.state) (closing_shut q)

-- ---- where the numbers are in range, all can be closed
module _ (v : View) where
  record Down (f : Frame) (p : Pen) (b s i : ℕ) : Type 0 where
    can : can_shut v f p ≡ true
    sum : (shut v f p).indent + (shut v f p).next_indent ≡ b + s
    low : i ≤ (shut v f p).indent

  indent_down : (f : Frame) (p : Pen) (b s i : ℕ) (w : Bool) → v.kind f.row ≡ INDENT → f.wrap ≡ w → p.indent + p.next_indent ≡ b + (one_if w + s)
      → one_if w + i ≤ p.indent → Down f p b s i
  unfolding indent_less
  indent_down f p b s i true k e h l = record {
    can = rw (k, e) (lt-ltb 0 p.indent (omega arith));
    sum = rw (k, e) (omega arith);
    low = rw (k, e) (omega arith);
  }
  indent_down f p b s i false k e h l = record { can = rw (k, e); sum = rw (k, e) (omega arith); low = rw (k, e) (omega arith) }

  back_down : (p : Pen) (b s i : ℕ) (w : Bool) → p.indent + p.next_indent ≡ b + (one_if w + s) → i ≤ p.indent → i ≤ s
      → ((not w || ltb 0 (p.indent + p.next_indent)) ≡ true)
      × (((next_indent_less w p).indent + (next_indent_less w p).next_indent ≡ b + s) × (i ≤ (next_indent_less w p).indent))
  unfolding next_indent_less indent_less
  back_down p b s i false h l j = (refl, (omega arith, l))
  back_down p b s i true h l j = (lt-ltb 0 (p.indent + p.next_indent) (omega arith), go (ltb 0 p.next_indent) refl)
    where
      back : Bool → Pen
      back c = cond c (with_next_indent (p.next_indent - 1) p) (with_indent (p.indent - 1) p)

      go : (c : Bool) → ltb 0 p.next_indent ≡ c → ((back c).indent + (back c).next_indent ≡ b + s) × (i ≤ (back c).indent)
      go true x = let y = ltb-true 0 p.next_indent x in (omega arith, omega arith)
      go false x = let y = ltb-false 0 p.next_indent x in (omega arith, omega arith)

  one_down : (f : Frame) (p : Pen) (b s i : ℕ) → p.indent + p.next_indent ≡ b + (steps_back v f + s) → ins_of v f + i ≤ p.indent → i ≤ s → Down f p b s i
  one_down f p b s i h l j = go (eqb (v.kind f.row) INDENT) (eqb (v.kind f.row) INDENT_NEXT) (eqb (v.kind f.row) CALL) refl refl refl
    where
      go : (x y w : Bool) → eqb (v.kind f.row) INDENT ≡ x → eqb (v.kind f.row) INDENT_NEXT ≡ y → eqb (v.kind f.row) CALL ≡ w → Down f p b s i
      go true y w q r t =
          let e = indent_steps v f f.wrap (eqb-true (v.kind f.row) 1 q) refl in
          let e0 = e.0 in
          let e1 = e.1 in
          indent_down f p b s i f.wrap (eqb-true (v.kind f.row) 1 q) refl (omega arith) (omega arith)
      go false true w q r t =
          let k = eqb-true (v.kind f.row) 2 r in
          let e0 = (next_steps v f f.wrap k refl).0 in
          let x = back_down p b s i f.wrap (omega arith) (omega arith) j in
          record { can = rw k x.0; sum = rw k x.1.0; low = rw k x.1.1 }
      go false false true q r t =
          let k = eqb-true (v.kind f.row) 11 t in
          let e0 = (call_steps v f f.deeper k refl).0 in
          let x = back_down p b s i f.deeper (omega arith) (omega arith) j in
          record { can = rw k x.0; sum = rw k x.1.0; low = rw k x.1.1 }
      go false false false q r t =
          let e0 = plain_step v f (eqb-false (v.kind f.row) 1 q) (eqb-false (v.kind f.row) 2 r) (eqb-false (v.kind f.row) 11 t) in
          record { can = rw (q, r, t); sum = rw (q, r, t) (omega arith); low = rw (q, r, t) (omega arith) }

  pub safe_down : (fs : List Frame) (d k b : ℕ) (p : Pen) → p.indent + p.next_indent ≡ b + steps v fs (d + k) → ins v fs (d + k) ≤ p.indent
      → can_down v fs d k p ≡ true
  unfolding can_down steps ins
  safe_down fs d zero b p h l = refl
  safe_down fs d (suc k) b p h l =
      let e = add-suc d k in
      let s1 : steps v fs (d + suc k) ≡ steps_back v (frame_at fs (d + k)) + steps v fs (d + k) = ap (steps v fs) e ∙ steps_suc fs (d + k) in
      let i1 : ins v fs (d + suc k) ≡ ins_of v (frame_at fs (d + k)) + ins v fs (d + k) = ap (ins v fs) e ∙ ins_suc fs (d + k) in
      let x = one_down (frame_at fs (d + k)) p b (steps v fs (d + k)) (ins v fs (d + k)) (h ∙ ap (λ (n : ℕ). b + n) s1) (omega arith) (ins_le v fs (d + k)) in
      rw x.can (safe_down fs d k b (shut v (frame_at fs (d + k)) p) x.sum x.low)
    where
      steps_suc : (fs : List Frame) (n : ℕ) → steps v fs (suc n) ≡ steps_back v (frame_at fs n) + steps v fs n
      steps_suc fs n = refl

      ins_suc : (fs : List Frame) (n : ℕ) → ins v fs (suc n) ≡ ins_of v (frame_at fs n) + ins v fs n
      ins_suc fs n = refl

-- A TURN KEEPS IT, as long as the row at depth d is not closed
module _ (v : View) (pg : Page) (stop base d : ℕ) (p : Pen) where
  turn_held_at : (n : ℕ) (m : Machine) → m.depth ≡ n → Fine v pg stop m → Safe v base m → is_done v pg stop m ≡ false → (h : Held v d p m)
      → (n ≡ d → m.next < part_limit v stop m.frames m.depth) → Held v d p (turn_at v pg n m)
  unfolding turn_at
  turn_held_at zero m e a s x h c = enter_held v pg stop d p m a h (not_done v pg stop m a x e) (closing_down m s h) (v.kind m.next) refl
    where
      closing_down : (m : Machine) → Safe v base m → (h : Held v d p m) → can_down v m.frames d h.more m.state.pen ≡ true
      closing_down m s h =
          safe_down v m.frames d h.more base m.state.pen (subst (λ (j : ℕ). m.state.pen.indent + m.state.pen.next_indent
          ≡ base + steps v m.frames j) h.open_rows s.sum)
          (subst (λ (j : ℕ). ins v m.frames j ≤ m.state.pen.indent) h.open_rows s.low)
  turn_held_at (suc n) m e a s x h c = go (eqb m.next (part_end v (frame_at m.frames n))) refl
    where
      closing_down : can_down v m.frames d h.more m.state.pen ≡ true
      closing_down =
          safe_down v m.frames d h.more base m.state.pen (subst (λ (j : ℕ). m.state.pen.indent + m.state.pen.next_indent
          ≡ base + steps v m.frames j) h.open_rows s.sum)
          (subst (λ (j : ℕ). ins v m.frames j ≤ m.state.pen.indent) h.open_rows s.low)

      go : (b : Bool) → eqb m.next (part_end v (frame_at m.frames n)) ≡ b → Held v d p (cond b (leave v pg m n) (enter v pg m))
      go true q =
          let o = h.open_rows in
          let l : part_limit v stop m.frames m.depth ≡ part_end v (frame_at m.frames n) = ap (part_limit v stop m.frames) e ∙ limit_suc v pg stop m.frames n in
          let z = eqb-true m.next (part_end v (frame_at m.frames n)) q in
          leave_held v pg stop d p m a h n e (inner h.more (omega arith) (λ r. let y = c r in omega arith))
        where
          inner : (j : ℕ) → suc n ≡ d + j → (suc n ≡ d → ⊥) → d ≤ n
          inner zero r w = absurd (w (omega arith))
          inner (suc j) r w = omega arith
      go false q = enter_held v pg stop d p m a h (in_part v pg stop m n e a (eqb-false m.next (part_end v (frame_at m.frames n)) q)) closing_down
          (v.kind m.next) refl

  pub turn_held : (m : Machine) → Fine v pg stop m → Safe v base m → is_done v pg stop m ≡ false → Held v d p m
      → (m.depth ≡ d → m.next < part_limit v stop m.frames m.depth) → Held v d p (turn v pg m)
  unfolding turn
  turn_held m a s x h c = turn_held_at m.depth m refl a s x h c

  -- as the row is entered, and when it is done
  pub held_first : (m : Machine) → m.depth ≡ d → m.state.pen ≡ p → Held v d p m
  unfolding close_down
  held_first m e q = record { more = 0; open_rows = (let y : d + 0 ≡ d = omega arith in e ∙ sym y); kept = subst (PenKept p) (sym q) (still v p) }

  pub held_done : (m : Machine) → Held v d p m → m.depth ≡ d → PenKept p m.state.pen
  unfolding close_down
  held_done m h e = go h.more h.open_rows h.kept
    where
      go : (k : ℕ) → m.depth ≡ d + k → PenKept p (close_down v m.frames d k m.state.pen) → PenKept p m.state.pen
      go zero o x = x
      go (suc k) o x = absurd (omega arith)
