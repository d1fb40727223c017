-- Rendering reads nothing of what is written: what a row without parts does behind a text is that text and what it does alone.
-- Assumes nothing.
use mathlib.Core.Path.{◌≡◌, refl, ap, ◌∙◌}
use Prim.Native.Nat.{ℕ, zero, suc, ◌+◌, ◌*◌, ◌≤◌, max}
use native.Mathlib.Omega.{arith}
use native.Mathlib.Nat.{max-zero}
use mathlib.Core.Bool.{Bool, true, false, cond}
use mathlib.Core.List.{List, [], ◌∷◌, ◌++◌, append_assoc, append-nil}
use lib.ListN.{replicate}
use lib.Dec.{ltb}
use Rattle.rows.specs.View.{View, node_at}
use Rattle.rows.proofs.Decode.{node_parent, node_comment, node_str, node_ascii, node_line, node_empty, node_space}
use Rattle.renderer_rules.specs.Renderer.{Page, Renderer, fresh_renderer, with_buf, with_marks, with_widest}
use Rattle.renderer_rules.specs.Renderer.{render_node, push_str, at_column, new_line, margin, comment, text}
use Rattle.renderer_rules.proofs.Widest.{max_of_three}
use Rattle.renderer.specs.declared.writing.Writing.{Writing}
use Rattle.renderer.specs.Run.{state_of}

-- s behind a text, with other marks, where `column` was u at most before
unfoldable pub under : List ℕ → List ℕ → ℕ → Renderer → Renderer
under b m u s = with_widest (max u s.widest) (with_buf (b ++ s.buf) (with_marks m s))

pub fresh_under : (w : Writing) (m b : List ℕ) → state_of w m b ≡ under b m w.widest.0 (fresh_renderer w.pen [])
unfolding under
fresh_under w m b = rw (append-nil b, max-zero w.widest.0)

column_of : (b m : List ℕ) (u : ℕ) (s : Renderer) → (under b m u s).pen.column.0 ≡ s.pen.column.0
unfolding under
column_of b m u s = refl

column_same : (b m : List ℕ) (u : ℕ) (s : Renderer) → ltb 0 (under b m u s).pen.column.0 ≡ ltb 0 s.pen.column.0
unfolding under
column_same b m u s = refl

push_under : (t b m : List ℕ) (u : ℕ) (s : Renderer) → push_str t (under b m u s) ≡ under b m u (push_str t s)
unfolding push_str under
push_under t b m u s = rw (append_assoc b s.buf t)

column_under : (c : ℕ) (b m : List ℕ) (u : ℕ) (s : Renderer) → at_column c (under b m u s) ≡ under b m u (at_column c s)
unfolding at_column under
column_under c b m u s = ap (λ (x : ℕ). with_widest x (at_column c (under b m u s))) (max_of_three u s.widest c)

margin_under : (b m : List ℕ) (u : ℕ) (s : Renderer) → margin (under b m u s) ≡ under b m u (margin s)
unfolding margin under push_str at_column
margin_under b m u s = rw (append_assoc b s.buf (replicate (4 * s.pen.indent) 0x20), max_of_three u s.widest (4 * s.pen.indent))

line_under : (b m : List ℕ) (u : ℕ) (s : Renderer) → new_line (under b m u s) ≡ under b m u (new_line s)
unfolding new_line under
line_under b m u s = rw (append_assoc b s.buf (cond (ltb 0 s.pen.column.0) (0x0A ∷ []) []))

cond_under : (w : Bool) (b m : List ℕ) (u : ℕ) (s t s2 t2 : Renderer) → s2 ≡ under b m u s → t2 ≡ under b m u t
    → cond w s2 t2 ≡ under b m u (cond w s t)
cond_under true b m u s t s2 t2 e f = e
cond_under false b m u s t s2 t2 e f = f

put_under : (t : List ℕ) (c : ℕ) (b m : List ℕ) (u : ℕ) (s s2 : Renderer) → s2 ≡ under b m u s
    → at_column c (push_str t s2) ≡ under b m u (at_column c (push_str t s))
put_under t c b m u s s2 e =
    ap (λ (x : Renderer). at_column c (push_str t x)) e ∙ ap (at_column c) (push_under t b m u s) ∙ column_under c b m u (push_str t s)

text_under : (t : List ℕ) (w : ℕ) (b m : List ℕ) (u : ℕ) (s : Renderer) → text t w (under b m u s) ≡ under b m u (text t w s)
unfolding text
text_under t w b m u s = go (ltb 0 s.pen.column.0) (ltb 0 (under b m u s).pen.column.0) (column_same b m u s)
  where
    go : (x y : Bool) → y ≡ x
        → at_column ((cond y (under b m u s) (margin (under b m u s))).pen.column.0 + w) (push_str t (cond y (under b m u s) (margin (under b m u s))))
        ≡ under b m u (at_column ((cond x s (margin s)).pen.column.0 + w) (push_str t (cond x s (margin s))))
    go true y e =
        rw e
        (ap (λ (c : ℕ). at_column (c + w) (push_str t (under b m u s))) (column_of b m u s)
        ∙ put_under t (s.pen.column.0 + w) b m u s (under b m u s) refl)
    go false y e =
        rw e
        (ap (λ (c : ℕ). at_column (c + w) (push_str t (margin (under b m u s))))
        (ap (λ (r : Renderer). r.pen.column.0) (margin_under b m u s) ∙ column_of b m u (margin s))
        ∙ put_under t ((margin s).pen.column.0 + w) b m u (margin s) (margin (under b m u s)) (margin_under b m u s))

comment_under : (t b m : List ℕ) (u : ℕ) (s : Renderer) → comment t (under b m u s) ≡ under b m u (comment t s)
unfolding comment
comment_under t b m u s = go (ltb 0 s.pen.column.0) (ltb 0 (under b m u s).pen.column.0) (column_same b m u s)
  where
    go : (x y : Bool) → y ≡ x
        → at_column 0 (push_str (t ++ (0x0A ∷ [])) (cond y (push_str (0x20 ∷ []) (under b m u s)) (margin (under b m u s))))
        ≡ under b m u (at_column 0 (push_str (t ++ (0x0A ∷ [])) (cond x (push_str (0x20 ∷ []) s) (margin s))))
    go true y e =
        rw e
        (put_under (t ++ (0x0A ∷ [])) 0 b m u (push_str (0x20 ∷ []) s) (push_str (0x20 ∷ []) (under b m u s)) (push_under (0x20 ∷ []) b m u s))
    go false y e = rw e (put_under (t ++ (0x0A ∷ [])) 0 b m u (margin s) (margin (under b m u s)) (margin_under b m u s))

pub leaf_under : (v : View) (pg : Page) (i : ℕ) (w : Bool) (k : ℕ) → v.kind i ≡ k → 3 ≤ k → k ≤ 9 → (b m : List ℕ) (u : ℕ) (s : Renderer)
    → render_node pg (node_at v i) w (under b m u s) ≡ under b m u (render_node pg (node_at v i) w s)
unfolding render_node
leaf_under v pg i w zero e x y b m u s = absurd (omega arith)
leaf_under v pg i w (suc zero) e x y b m u s = absurd (omega arith)
leaf_under v pg i w (suc (suc zero)) e x y b m u s = absurd (omega arith)
leaf_under v pg i w (suc (suc (suc zero))) e x y b m u s = rw (node_parent v i e)
leaf_under v pg i w (suc (suc (suc (suc zero)))) e x y b m u s = rw (node_comment v i e) (comment_under (pg.bytes (v.text i)) b m u s)
leaf_under v pg i w (suc (suc (suc (suc (suc zero))))) e x y b m u s = rw (node_str v i e) (text_under (pg.bytes (v.text i)) (v.width i) b m u s)
leaf_under v pg i w (suc (suc (suc (suc (suc (suc zero)))))) e x y b m u s =
    rw (node_ascii v i e) (text_under (pg.bytes (v.text i)) (pg.columns (v.text i)) b m u s)
leaf_under v pg i w (suc (suc (suc (suc (suc (suc (suc zero))))))) e x y b m u s =
    rw (node_line v i e) (cond_under w b m u (new_line s) s (new_line (under b m u s)) (under b m u s) (line_under b m u s) refl)
leaf_under v pg i w (suc (suc (suc (suc (suc (suc (suc (suc zero)))))))) e x y b m u s =
    rw (node_empty v i e) (ap new_line (push_under (0x0A ∷ []) b m u s) ∙ line_under b m u (push_str (0x0A ∷ []) s))
leaf_under v pg i w (suc (suc (suc (suc (suc (suc (suc (suc (suc zero))))))))) e x y b m u s =
    rw (node_space v i e)
    (cond_under w b m u
    (new_line s)
    (text (0x20 ∷ []) 1 s)
    (new_line (under b m u s))
    (text (0x20 ∷ []) 1 (under b m u s))
    (line_under b m u s)
    (text_under (0x20 ∷ []) 1 b m u s))
leaf_under v pg i w (suc (suc (suc (suc (suc (suc (suc (suc (suc (suc n)))))))))) e x y b m u s = absurd (omega arith)
