-- Whether a group wraps and which way a call goes, from what the code measured.
-- Assumes nothing.
use mathlib.Core.Path.{◌≡◌, refl, ap, sym, ◌∙◌}
use Prim.Native.Nat.{ℕ, ◌+◌, ◌*◌, ◌≤◌, ◌<◌}
use native.Mathlib.Omega.{arith}
use mathlib.Core.Bool.{Bool, true, false, cond, not, ◌&&◌, ◌||◌}
use mathlib.Core.List.{List, []}
use lib.Dec.{ltb}
use borrow.Author.Tests.{le-ltb, ltb-true, ltb-false, not-true}
use Rattle.laws.proofs.Booleans.{and_false, and_left, and_right, or_first}
use Rattle.renderer.specs.Limits.{BEFORE_ROW, IN_ROW, MAX_MARGIN, MEASURED_LIMIT}
use Rattle.rows.specs.View.{view_of, nodes_at}
use Rattle.rows.specs.Nesting.{Nested}
use Rattle.rows.proofs.Nested.{nests_join, nests_le, nodes_join}
use Rattle.rows.proofs.Widths.{widths_join}
use Rattle.rows.specs.Node.{Nodes, widths, must_wraps, byte_columns}
use Rattle.renderer_rules.specs.Page.{page_of}
use Rattle.renderer_rules.specs.Renderer.{fresh_renderer, virtual_column, wraps, group_wraps, trailing_call}
use Rattle.renderer_rules.specs.Renderer.{callee_wraps}
use Rattle.renderer_rules.specs.declared.Pen.{Pen}

-- the virtual column is small
pub virtual_low : (p : Pen) → p.indent ≤ MAX_MARGIN → p.column.0 < BEFORE_ROW → virtual_column p < BEFORE_ROW
unfolding virtual_column
virtual_low p a b = go (ltb 0 p.column.0)
  where
    go : (t : Bool) → cond t p.column.0 (4 * p.indent) < BEFORE_ROW
    go true = b
    go false = omega arith

-- two comparisons that agree
ltb_same : (a b c d : ℕ) → (a < b → c < d) → (c < d → a < b) → ltb a b ≡ ltb c d
ltb_same a b c d f g = go (ltb a b) (ltb c d) refl refl
  where
    go : (x y : Bool) → ltb a b ≡ x → ltb c d ≡ y → x ≡ y
    go true true p q = refl
    go false false p q = refl
    go true false p q = absurd (let u = f (ltb-true a b p) in let w = ltb-false c d q in omega arith)
    go false true p q = absurd (let u = g (ltb-true c d q) in let w = ltb-false a b p in omega arith)

-- rows that follow each other
pub nested_both : {store : List ℕ} {from mid to : ℕ} → Nested store from mid → Nested store mid to → Nested store from to
nested_both g h = record { room = h.room; few = h.few; nests = nests_join g.nests h.nests }

pub widths_both : (store m : List ℕ) (from mid to : ℕ) → Nested store from mid → Nested store mid to
    → widths byte_columns m (nodes_at (view_of store) from to)
    ≡ widths byte_columns m (nodes_at (view_of store) from mid) + widths byte_columns m (nodes_at (view_of store) mid to)
widths_both store m from mid to g h =
    ap (widths byte_columns m) (nodes_join to g.nests (nests_le h.nests))
    ∙ widths_join (nodes_at (view_of store) from mid) (nodes_at (view_of store) mid to) byte_columns m

module _ (max : ℕ) (p : Pen) (m : List ℕ) where
  -- which way a call goes; the callee and its arguments are as wide as both together
  module _ (e a : Nodes) (over : Bool) (o : over ≡ ltb max (virtual_column p + (widths byte_columns m e + widths byte_columns m a))) where
    both : ltb max (virtual_column p + widths byte_columns m e + widths byte_columns m a) ≡ over
    both =
        ltb_same max (virtual_column p + widths byte_columns m e + widths byte_columns m a) max
        (virtual_column p + (widths byte_columns m e + widths byte_columns m a))
        (λ l. omega arith)
        (λ l. omega arith)
        ∙ sym o

    pub trail_fits : over ≡ false → false ≡ trailing_call (page_of max [] []) e a (fresh_renderer p m)
    unfolding trailing_call
    trail_fits u = sym (simp (both ∙ u, and_false))

    pub trail_callee : true ≡ must_wraps e → false ≡ trailing_call (page_of max [] []) e a (fresh_renderer p m)
    unfolding trailing_call
    trail_callee h = rw (← h)

    pub trail_arguments : false ≡ must_wraps e → true ≡ must_wraps a → false ≡ trailing_call (page_of max [] []) e a (fresh_renderer p m)
    unfolding trailing_call
    trail_arguments h k = rw (← h, ← k)

    pub trail_long : (x : ℕ) → over ≡ true → false ≡ must_wraps e → false ≡ must_wraps a → x ≡ widths byte_columns m e
        → ltb (virtual_column p + x + 1) max ≡ trailing_call (page_of max [] []) e a (fresh_renderer p m)
    unfolding trailing_call
    trail_long x u h k i = ap (λ (n : ℕ). ltb (virtual_column p + n + 1) max) i ∙ sym (rw (← h, ← k, both ∙ u))

    -- a callee that is wider than the line
    pub trail_past : over ≡ true → false ≡ must_wraps e → false ≡ must_wraps a → max < widths byte_columns m e
        → false ≡ trailing_call (page_of max [] []) e a (fresh_renderer p m)
    unfolding trailing_call
    trail_past u h k i = sym (le-ltb (virtual_column p + widths byte_columns m e + 1) max (omega arith)) ∙ sym (rw (← h, ← k, both ∙ u))

    -- where the callee keeps its line it does not wrap
    kept : trailing_call (page_of max [] []) e a (fresh_renderer p m) ≡ true → group_wraps (page_of max [] []) e (fresh_renderer p m) ≡ false
    unfolding trailing_call group_wraps wraps
    kept t =
        let one = not (must_wraps e || must_wraps a) in
        let two = ltb max (virtual_column p + widths byte_columns m e + widths byte_columns m a) in
        let three = ltb (virtual_column p + widths byte_columns m e + 1) max in
        let short = ltb-true (virtual_column p + widths byte_columns m e + 1) max (and_right (one && two) three t) in
        let neither = not-true (must_wraps e || must_wraps a) (and_left one two (and_left (one && two) three t)) in
        rw (or_first (must_wraps e) (must_wraps a) neither) (le-ltb max (virtual_column p + widths byte_columns m e) (omega arith))

    pub callee_way : (t : Bool) → t ≡ trailing_call (page_of max [] []) e a (fresh_renderer p m)
        → (not t && over) ≡ callee_wraps (page_of max [] []) t e a (fresh_renderer p m)
    unfolding callee_wraps wraps
    callee_way true r = sym (kept (sym r))
    callee_way false r = o

-- the made-up group wraps in the second branch alone
pub made_up_once : (t over w : Bool) → w ≡ (not t && over) → w ≡ (not t && w)
made_up_once true over w e = e
made_up_once false over w e = refl

-- sums of columns and widths fit
pub sum_fits : (a b : ℕ) → a < IN_ROW → b < IN_ROW → a + b < 18446744073709551616
sum_fits a b h k = omega arith

pub virtual_small : (p : Pen) (c : ℕ) → c ≡ virtual_column p → p.indent ≤ MAX_MARGIN → p.column.0 < BEFORE_ROW → c < BEFORE_ROW
virtual_small p c e a b = rw e (virtual_low p a b)

pub lower : (a : ℕ) → a < MEASURED_LIMIT → a < IN_ROW
lower a h = omega arith

pub lower_column : (a : ℕ) → a < BEFORE_ROW → a < IN_ROW
lower_column a h = omega arith

pub lower_sum : (a b : ℕ) → a < BEFORE_ROW → b < MEASURED_LIMIT → a + b < IN_ROW
lower_sum a b h k = omega arith
