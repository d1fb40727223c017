-- What each turn of the machine keeps: the numbers in range, the column by where it began, marks of 0 or 1, and the open rows.
-- Assumes nothing.
use mathlib.Core.Path.{◌≡◌, refl, sym, ap, subst, ◌∙◌}
use mathlib.Core.Logic.{◌⊎◌, inl, inr}
use mathlib.Core.Bool.{Bool, true, false, cond, not, ◌&&◌}
use mathlib.Core.List.{List, [], ◌∷◌}
use Prim.Native.Nat.{ℕ, zero, suc, ◌+◌, ◌*◌, ◌-◌, ◌≤◌, ◌<◌}
use native.Mathlib.Omega.{arith}
use lib.Dec.{ltb, eqb, leb}
use lib.ListN.{length, set}
use borrow.Author.Tests.{eqb-true, eqb-false}
use Rattle.laws.proofs.Booleans.{both, or_first, or_rest}
use Rattle.rows.specs.Kinds.{INDENT, INDENT_NEXT, WRAP_PARENT, LINE_OR_SPACE, IF_WRAP, CALL}
use Rattle.rows.specs.Node.{wrapped}
use Rattle.rows.specs.View.{View, nodes_at, node_at}
use Rattle.rows.specs.Nesting.{Nests}
use Rattle.rows.proofs.Nested.{nests_le, nests_two, nests_kind, nests_deep, nests_leaf}
use Rattle.renderer_rules.specs.declared.Frame.{Frame}
use Rattle.renderer_rules.specs.Limits.{START_MARGIN, ROW_GROWTH}
use Rattle.renderer_rules.specs.Renderer.{Page, Renderer, on_pen, insert, indent_more, indent_less, next_indent_more, next_indent_less, group_wraps}
use Rattle.renderer_rules.specs.Renderer.{trailing_call, callee_wraps, render_node}
use Rattle.renderer_rules.specs.Frames.{frame_at, part_end, part_limit, wrap_at, At}
use Rattle.renderer_rules.specs.Machine.{Machine, opened, reopened, closed_to, frame_of, call_frame, closing, first_part, second_part}
use Rattle.renderer_rules.specs.Machine.{enter_group, enter_indent, enter_next, enter_leaf, enter_if, enter_call, enter, leave, turn_at, turn}
use Rattle.renderer_rules.specs.Safe.{SmallTexts, Safe}
use Rattle.renderer_rules.proofs.Drift.{nests_ends}
use Rattle.renderer_rules.proofs.Opened.{at_top_suc}
use Rattle.renderer_rules.proofs.Safe.{steps_le, turn_safe, closing_plain, closing_indent, closing_next, closing_call}
use Rattle.renderer_rules.proofs.Machine.{Fine, left, is_done, turned, not_done, in_part, spent}
use Rattle.renderer_rules.proofs.Allot.{allot, wants_row}
use Rattle.cut_rule.specs.Tests.{odd_mark}
use Rattle.stop_facts.proofs.Leaves.{leaf_moves}
use Rattle.stop_facts.proofs.OpenRows.{Rows, opened_rows, passed_rows, reopened_rows, closed_rows}

-- the column by what it was and the rows passed, and marks of 0 or 1
pub record Level (c n : ℕ) (s : Renderer) : Type 0 where
  pub column : s.pen.column.0 ≤ c + n * ROW_GROWTH
  pub even : odd_mark s.marks ≡ false

set_even : (marks : List ℕ) (n : ℕ) → odd_mark marks ≡ false → odd_mark (set marks n 1) ≡ false
set_even [] n e = refl
set_even (x ∷ xs) zero e = or_rest (ltb 1 x) (odd_mark xs) e
set_even (x ∷ xs) (suc n) e = rw (or_first (ltb 1 x) (odd_mark xs) e) (set_even xs n (or_rest (ltb 1 x) (odd_mark xs) e))

level_on : (c n k : ℕ) (s t : Renderer) → n ≤ k → Level c n s → t.pen.column.0 ≡ s.pen.column.0 → t.marks ≡ s.marks → Level c k t
level_on c n k s t h l e m = record { column = omega (arith, l.column, e); even = ap odd_mark m ∙ l.even }

insert_level : (b : Bool) (i c n : ℕ) (s : Renderer) → Level c n s → Level c n (insert b i s)
unfolding insert
insert_level true i c n s l = record { column = l.column; even = set_even s.marks i l.even }
insert_level false i c n s l = record { column = l.column; even = l.even }

less_level : (b : Bool) (c n : ℕ) (s : Renderer) → Level c n s → Level c n (on_pen (indent_less b) s)
unfolding indent_less
less_level b c n s l = record { column = l.column; even = l.even }

next_less_level : (b : Bool) (c n : ℕ) (s : Renderer) → Level c n s → Level c n (on_pen (next_indent_less b) s)
unfolding next_indent_less indent_less
next_less_level true c n s l = go (ltb 0 s.pen.next_indent)
  where
    go : (d : Bool)
        → Level c n
        (on_pen
        (λ p.
        cond d (record { indent = p.indent; next_indent = p.next_indent - 1; column = p.column })
        (record { indent = p.indent - 1; next_indent = p.next_indent; column = p.column }))
        s)
    go true = record { column = l.column; even = l.even }
    go false = record { column = l.column; even = l.even }
next_less_level false c n s l = record { column = l.column; even = l.even }

module _ (v : View) (pg : Page) (stop base c lo : ℕ) (small : SmallTexts v pg) (few : base ≤ START_MARGIN) where
  pub record Runs (m : Machine) : Type 0 where
    pub safe : Safe v base m
    pub level : Level c m.next m.state
    pub rows : Rows v pg lo m

  -- what a turn leaves, but that its numbers are in range
  record Left (m : Machine) : Type 0 where
    level : Level c m.next m.state
    rows : Rows v pg lo m

  module _ (m : Machine) (a : Fine v pg stop m) (r : Runs m) where
    module _ (h : m.next < part_limit v stop m.frames m.depth) where
      roomy : m.depth < length m.frames
      roomy = rw a.size (nests_deep a.good h)

      -- a row is opened at its first part
      at_first : (f : Frame) (t : Renderer) → f.row ≡ m.next → Level c m.next t → Left (opened m f (suc m.next) t)
      at_first f t e l =
          record {
            level = level_on c m.next (suc m.next) t t (omega arith) l refl refl;
            rows = opened_rows v pg lo m r.rows f (suc m.next) t roomy e (omega arith) (λ i p q. absurd (omega arith));
          }

      group_left : Left (enter_group v pg m)
      unfolding enter_group
      group_left =
          let b = group_wraps pg (nodes_at v (suc m.next) (v.after m.next)) m.state in
          at_first (frame_of m.next b false) (insert b (v.number m.next) m.state) refl (insert_level b (v.number m.next) c m.next m.state r.level)

      indent_left : Left (enter_indent v pg m)
      unfolding enter_indent indent_more
      indent_left =
          let w = wrap_at m.frames m.depth in
          at_first (frame_of m.next w false) (on_pen (indent_more w) m.state) refl
          (level_on c m.next m.next m.state (on_pen (indent_more w) m.state) (omega arith) r.level refl refl)

      next_left : Left (enter_next v pg m)
      unfolding enter_next next_indent_more
      next_left =
          let w = wrap_at m.frames m.depth in
          at_first (frame_of m.next w false) (on_pen (next_indent_more w) m.state) refl
          (level_on c m.next m.next m.state (on_pen (next_indent_more w) m.state) (omega arith) r.level refl refl)

      if_left : v.kind m.next ≡ IF_WRAP → Left (enter_if v pg m)
      unfolding enter_if
      if_left k = go (wrapped m.state.marks (v.number m.next))
        where
          w : Bool
          w = wrap_at m.frames m.depth

          go : (b : Bool)
              → Left (cond b (opened m (frame_of m.next w true) (suc m.next) m.state) (opened m (frame_of m.next w false) (v.second m.next) m.state))
          go true = at_first (frame_of m.next w true) m.state refl r.level
          go false =
              let t = nests_two a.good h k in
              record {
                level = level_on c m.next (v.second m.next) m.state m.state (omega (arith, t.0.up)) r.level refl refl;
                rows =
                    opened_rows v pg lo m r.rows (frame_of m.next w false) (v.second m.next) m.state roomy refl (omega (arith, t.0.up))
                    (λ i p q. nests_ends t.1.first i p q);
              }

      call_left : Left (enter_call v pg m)
      unfolding enter_call next_indent_more
      call_left =
          let t = trailing_call pg (first_part v m.next) (second_part v m.next) m.state in
          let b = callee_wraps pg t (first_part v m.next) (second_part v m.next) m.state in
          let s = insert b (v.number m.next) m.state in
          at_first (call_frame m.next b true (not t && b) (not t)) (on_pen (next_indent_more (not t && b)) s) refl
          (level_on c m.next m.next s (on_pen (next_indent_more (not t && b)) s) (omega arith)
          (insert_level b (v.number m.next) c m.next m.state r.level) refl refl)

      leaf_left : WRAP_PARENT ≤ v.kind m.next → v.kind m.next ≤ LINE_OR_SPACE → Left (enter_leaf v pg m)
      unfolding enter_leaf
      leaf_left k l =
          let g = leaf_moves v pg m.next (wrap_at m.frames m.depth) m.state (v.kind m.next) small refl k l in
          record {
            level =
                record {
                  column = omega (arith, g.column, r.level.column, r.safe.sum, steps_le v m.frames m.depth, a.deep);
                  even = ap odd_mark g.marks ∙ r.level.even;
                };
            rows = passed_rows v pg lo m r.rows (render_node pg (node_at v m.next) (wrap_at m.frames m.depth) m.state) (nests_leaf a.good h k l).next;
          }

      enter_left : (k : ℕ) → v.kind m.next ≡ k → Left (enter v pg m)
      unfolding enter
      enter_left zero e = rw e group_left
      enter_left (suc zero) e = rw e indent_left
      enter_left (suc (suc zero)) e = rw e next_left
      enter_left (suc (suc (suc zero))) e = rw e (leaf_left (omega arith) (omega arith))
      enter_left (suc (suc (suc (suc zero)))) e = rw e (leaf_left (omega arith) (omega arith))
      enter_left (suc (suc (suc (suc (suc zero))))) e = rw e (leaf_left (omega arith) (omega arith))
      enter_left (suc (suc (suc (suc (suc (suc zero)))))) e = rw e (leaf_left (omega arith) (omega arith))
      enter_left (suc (suc (suc (suc (suc (suc (suc zero))))))) e = rw e (leaf_left (omega arith) (omega arith))
      enter_left (suc (suc (suc (suc (suc (suc (suc (suc zero)))))))) e = rw e (leaf_left (omega arith) (omega arith))
      enter_left (suc (suc (suc (suc (suc (suc (suc (suc (suc zero))))))))) e = rw e (leaf_left (omega arith) (omega arith))
      enter_left (suc (suc (suc (suc (suc (suc (suc (suc (suc (suc zero)))))))))) e = rw e (if_left e)
      enter_left (suc (suc (suc (suc (suc (suc (suc (suc (suc (suc (suc zero))))))))))) e = rw e call_left
      enter_left (suc (suc (suc (suc (suc (suc (suc (suc (suc (suc (suc (suc k)))))))))))) e = absurd (omega (arith, nests_kind a.good h))

    -- frame k is the innermost, and its open part is done
    module _ (k : ℕ) (deep : m.depth ≡ suc k) (done : m.next ≡ part_end v (frame_at m.frames k)) where
      abbrev f : Frame
      f = frame_at m.frames k

      abbrev n : ℕ
      n = v.after f.row

      later : Nests v m.next n (suc k)
      later =
          subst (λ (i : ℕ). Nests v i n (suc k)) (sym done)
          (at_top_suc v pg stop m.frames k m.next (subst (λ (d : ℕ). At v stop m.frames d m.next) deep a)).later

      closing_level : (eqb (v.kind f.row) CALL && f.first) ≡ false → Level c m.next (closing v pg f m.state)
      closing_level e = go (eqb (v.kind f.row) INDENT) (eqb (v.kind f.row) INDENT_NEXT) (eqb (v.kind f.row) CALL) refl refl refl
        where
          go : (x y w : Bool) → eqb (v.kind f.row) INDENT ≡ x → eqb (v.kind f.row) INDENT_NEXT ≡ y → eqb (v.kind f.row) CALL ≡ w
              → Level c m.next (closing v pg f m.state)
          go true y w p q s = rw (closing_indent v pg f m.state (eqb-true _ 1 p)) (less_level f.wrap c m.next m.state r.level)
          go false true w p q s = rw (closing_next v pg f m.state (eqb-true _ 2 q)) (next_less_level f.wrap c m.next m.state r.level)
          go false false true p q s =
              rw (closing_call v pg f m.state (eqb-true _ 11 s) (sym (rw s) ∙ e)) (next_less_level f.deeper c m.next m.state r.level)
          go false false false p q s =
              rw (closing_plain v pg f m.state (v.kind f.row) refl (eqb-false _ 1 p) (eqb-false _ 2 q) (eqb-false _ 11 s)) r.level

      leave_left : Left (leave v pg m k)
      unfolding leave
      leave_left = go (eqb (v.kind f.row) CALL && f.first) refl
        where
          b : Bool
          b = group_wraps pg (nodes_at v m.next n) m.state

          on : Machine
          on = reopened m k (call_frame f.row b false f.deeper f.made) (insert b (v.number2 f.row) m.state)

          off : Machine
          off = closed_to m k n (closing v pg f m.state)

          go : (x : Bool) → (eqb (v.kind f.row) CALL && f.first) ≡ x → Left (cond x on off)
          go true e =
              record {
                level = insert_level b (v.number2 f.row) c m.next m.state r.level;
                rows =
                    reopened_rows v pg lo m r.rows k deep (call_frame f.row b false f.deeper f.made) (insert b (v.number2 f.row) m.state)
                    (omega (arith, a.deep, a.size)) refl;
              }
          go false e =
              record {
                level = level_on c m.next n (closing v pg f m.state) (closing v pg f m.state) (nests_le later) (closing_level e) refl refl;
                rows = closed_rows v pg lo m r.rows k deep n (closing v pg f m.state) refl (nests_le later) (λ i p q. nests_ends later i p q);
              }

  turn_left_at : (d : ℕ) (m : Machine) → m.depth ≡ d → Fine v pg stop m → is_done v pg stop m ≡ false → Runs m → Left (turn_at v pg d m)
  unfolding turn_at
  turn_left_at zero m e a x r = enter_left m a r (not_done v pg stop m a x e) (v.kind m.next) refl
  turn_left_at (suc k) m e a x r = go (eqb m.next (part_end v (frame_at m.frames k))) refl
    where
      go : (b : Bool) → eqb m.next (part_end v (frame_at m.frames k)) ≡ b → Left (cond b (leave v pg m k) (enter v pg m))
      go true q = leave_left m a r k e (eqb-true m.next _ q)
      go false q = enter_left m a r (in_part v pg stop m k e a (eqb-false m.next _ q)) (v.kind m.next) refl

  turn_left : (m : Machine) → Fine v pg stop m → is_done v pg stop m ≡ false → Runs m → Left (turn v pg m)
  unfolding turn
  turn_left m a x r = turn_left_at m.depth m refl a x r

  turn_runs : (m : Machine) → Fine v pg stop m → is_done v pg stop m ≡ false → Runs m → Runs (turn v pg m)
  turn_runs m a x r =
      let l = turn_left m a x r in
      record { safe = turn_safe v pg stop base m a x small few r.safe; level = l.level; rows = l.rows }

  -- what holds where an allotment ends: all is done, or a row is ahead in the open part
  pub record Ended (m : Machine) : Type 0 where
    pub runs : Runs m
    pub ends : (is_done v pg stop m ≡ true) ⊎ (wants_row v pg stop m ≡ true)

  ended_step : (k : ℕ) (m next : Machine) (b x : Bool) → Runs m → is_done v pg stop m ≡ b → (wants_row v pg stop m && leb k m.entered) ≡ x
      → (b ≡ false → Ended next) → Ended (cond b m (cond x m next))
  ended_step k m next true x r e d h = record { runs = r; ends = inl e }
  ended_step k m next false true r e d h = record { runs = r; ends = inr (both _ _ d).0 }
  ended_step k m next false false r e d h = h refl

  pub allot_ended : (f k : ℕ) (m : Machine) → Fine v pg stop m → left stop m ≤ f → Runs m → Ended (allot v pg stop f k m)
  unfolding allot
  allot_ended zero k m a l r = record { runs = r; ends = inl (spent v pg stop m a l) }
  allot_ended (suc f) k m a l r =
      ended_step k m (allot v pg stop f k (turn v pg m)) (is_done v pg stop m) (wants_row v pg stop m && leb k m.entered) r refl refl
      (λ e. let t = turned v pg stop m a e in allot_ended f k (turn v pg m) t.fine (omega (arith, t.less)) (turn_runs m a e r))
