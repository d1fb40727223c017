-- What a row without parts does: the column grows by less than 2 ^ 34 with the line's start, and no mark is set.
-- Assumes nothing.
use mathlib.Core.Path.{◌≡◌, refl}
use Prim.Native.Nat.{ℕ, zero, suc, ◌+◌, ◌*◌, ◌≤◌}
use native.Mathlib.Omega.{arith}
use mathlib.Core.Bool.{Bool, true, false, cond}
use mathlib.Core.List.{List, [], ◌∷◌, ◌++◌}
use lib.ListN.{replicate}
use lib.Dec.{ltb}
use Rattle.rows.specs.View.{View, node_at}
use Rattle.rows.proofs.Decode.{node_parent, node_comment, node_str, node_ascii, node_line, node_empty, node_space}
use Rattle.renderer_rules.specs.Renderer.{Page, Renderer, push_str, at_column, new_line, margin, comment, text, render_node}
use Rattle.renderer_rules.specs.Safe.{SmallTexts}

-- the column by k more than where the line stands or starts at most, and the same marks
pub record Moves (k : ℕ) (s t : Renderer) : Type 0 where
  pub column : t.pen.column.0 ≤ s.pen.column.0 + 4 * s.pen.indent + k
  pub marks : t.marks ≡ s.marks

more : (k l : ℕ) (s t : Renderer) → k ≤ l → Moves k s t → Moves l s t
more k l s t h g = record { column = omega (arith, g.column); marks = g.marks }

still : (s : Renderer) → Moves 0 s s
still s = record { column = omega arith; marks = refl }

by_cond : (k : ℕ) (b : Bool) (s t u : Renderer) → Moves k s t → Moves k s u → Moves k s (cond b t u)
by_cond k true s t u p q = p
by_cond k false s t u p q = q

text_moves : (x : List ℕ) (w : ℕ) (s : Renderer) → Moves w s (text x w s)
unfolding text push_str at_column margin
text_moves x w s = go (ltb 0 s.pen.column.0)
  where
    line : Bool → Renderer
    line b = cond b s (at_column (4 * s.pen.indent) (push_str (replicate (4 * s.pen.indent) 0x20) s))

    go : (b : Bool) → Moves w s (at_column ((line b).pen.column.0 + w) (push_str x (line b)))
    go true = record { column = omega arith; marks = refl }
    go false = record { column = omega arith; marks = refl }

comment_moves : (x : List ℕ) (s : Renderer) → Moves 0 s (comment x s)
unfolding comment push_str at_column margin
comment_moves x s = go (ltb 0 s.pen.column.0)
  where
    line : Bool → Renderer
    line b = cond b (push_str (0x20 ∷ []) s) (at_column (4 * s.pen.indent) (push_str (replicate (4 * s.pen.indent) 0x20) s))

    go : (b : Bool) → Moves 0 s (at_column 0 (push_str (x ++ (0x0A ∷ [])) (line b)))
    go true = record { column = omega arith; marks = refl }
    go false = record { column = omega arith; marks = refl }

line_moves : (s : Renderer) → Moves 0 s (new_line s)
unfolding new_line
line_moves s = record { column = omega arith; marks = refl }

empty_moves : (s : Renderer) → Moves 0 s (new_line (push_str (0x0A ∷ []) s))
unfolding push_str new_line
empty_moves s = record { column = omega arith; marks = refl }

pub leaf_moves : (v : View) (pg : Page) (i : ℕ) (w : Bool) (s : Renderer) (k : ℕ) → SmallTexts v pg → v.kind i ≡ k → 3 ≤ k → k ≤ 9
    → Moves 8589934592 s (render_node pg (node_at v i) w s)
unfolding render_node
leaf_moves v pg i w s zero m e a b = absurd (omega arith)
leaf_moves v pg i w s (suc zero) m e a b = absurd (omega arith)
leaf_moves v pg i w s (suc (suc zero)) m e a b = absurd (omega arith)
leaf_moves v pg i w s (suc (suc (suc zero))) m e a b = rw (node_parent v i e) (more 0 8589934592 s s (omega arith) (still s))
leaf_moves v pg i w s (suc (suc (suc (suc zero)))) m e a b =
    rw (node_comment v i e) (more 0 8589934592 s (comment (pg.bytes (v.text i)) s) (omega arith) (comment_moves (pg.bytes (v.text i)) s))
leaf_moves v pg i w s (suc (suc (suc (suc (suc zero))))) m e a b =
    rw (node_str v i e)
    (more (v.width i) 8589934592 s
    (text (pg.bytes (v.text i)) (v.width i) s)
    (omega (arith, m.width i))
    (text_moves (pg.bytes (v.text i)) (v.width i) s))
leaf_moves v pg i w s (suc (suc (suc (suc (suc (suc zero)))))) m e a b =
    rw (node_ascii v i e)
    (more (pg.columns (v.text i)) 8589934592 s
    (text (pg.bytes (v.text i)) (pg.columns (v.text i)) s)
    (omega (arith, m.columns i))
    (text_moves (pg.bytes (v.text i)) (pg.columns (v.text i)) s))
leaf_moves v pg i w s (suc (suc (suc (suc (suc (suc (suc zero))))))) m e a b =
    rw (node_line v i e)
    (by_cond 8589934592 w s
    (new_line s)
    s
    (more 0 8589934592 s (new_line s) (omega arith) (line_moves s))
    (more 0 8589934592 s s (omega arith) (still s)))
leaf_moves v pg i w s (suc (suc (suc (suc (suc (suc (suc (suc zero)))))))) m e a b =
    rw (node_empty v i e) (more 0 8589934592 s (new_line (push_str (0x0A ∷ []) s)) (omega arith) (empty_moves s))
leaf_moves v pg i w s (suc (suc (suc (suc (suc (suc (suc (suc (suc zero))))))))) m e a b =
    rw (node_space v i e)
    (by_cond 8589934592 w s
    (new_line s)
    (text (0x20 ∷ []) 1 s)
    (more 0 8589934592 s (new_line s) (omega arith) (line_moves s))
    (more 1 8589934592 s (text (0x20 ∷ []) 1 s) (omega arith) (text_moves (0x20 ∷ []) 1 s)))
leaf_moves v pg i w s (suc (suc (suc (suc (suc (suc (suc (suc (suc (suc n)))))))))) m e a b = absurd (omega arith)
