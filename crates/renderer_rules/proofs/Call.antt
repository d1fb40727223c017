-- The rule for `Call` is the Rust's: its two branches, with the groups that they make up.
-- Assumes nothing.
use mathlib.Core.Path.{◌≡◌, refl, ap}
use Prim.Native.Nat.{ℕ, ◌+◌}
use native.Mathlib.Omega.{arith}
use mathlib.Core.Bool.{Bool, true, false, cond, not, ◌&&◌}
use mathlib.Core.List.{List}
use Rattle.rows.specs.Node.{Text, Node, Nodes, group, indent_next, none, ◌then◌, join, widths, must_wraps}
use Rattle.rows.proofs.Widths.{widths_join}
use Rattle.renderer_rules.specs.declared.Pen.{Pen}
use Rattle.renderer_rules.specs.Renderer.{Page, Renderer, on_pen, render_node, render_nodes, trailing_call}
use Rattle.renderer_rules.specs.Renderer.{callee_wraps, group_wraps, wraps, insert, next_indent_more, next_indent_less}
use Rattle.renderer_rules.specs.Call.{call_of_rust, CallAsRust}

-- nodes and one more: `nodes.push`
renders_last : (p : Page) (ns : Nodes) (x : Node) (w : Bool) (s : Renderer)
    → render_nodes p (join ns (x then none)) w s ≡ render_node p x w (render_nodes p ns w s)
unfolding join render_nodes
renders_last p none x w s = refl
renders_last p (n then ns) x w s = renders_last p ns x w (render_node p n w s)

next_indent_more_false : (p : Pen) → next_indent_more false p ≡ p
unfolding next_indent_more
next_indent_more_false p = refl

next_indent_less_false : (p : Pen) → next_indent_less false p ≡ p
unfolding next_indent_less
next_indent_less_false p = refl

last_width : (columns : Text → ℕ) (m : List ℕ) (e : Nodes) (k : ℕ) (a : Nodes)
    → widths columns m (indent_next (join e (group k a then none)) then none) ≡ widths columns m e + widths columns m a
unfolding widths
last_width columns m e k a = let h = widths_join e (group k a then none) columns m in omega arith

made_up_wraps : (p : Page) (e : Nodes) (k : ℕ) (a : Nodes) (s : Renderer)
    → group_wraps p (indent_next (join e (group k a then none)) then none) s
    ≡ wraps p false (widths p.columns s.marks e + widths p.columns s.marks a) s
unfolding group_wraps must_wraps
made_up_wraps p e k a s = ap (λ (x : ℕ). wraps p false x s) (last_width p.columns s.marks e k a)

pub call_as_rust : CallAsRust
unfolding call_of_rust render_node callee_wraps group_wraps
call_as_rust p n e k a w s = go (trailing_call p e a s)
  where
    outer : Bool → Bool
    outer t = callee_wraps p t e a s

    callee : Bool → Renderer
    callee t = render_nodes p e (outer t) (on_pen (next_indent_more (not t && outer t)) (insert (outer t) n s))

    go : (t : Bool)
        → on_pen (next_indent_less (not t && outer t)) (render_nodes p a (group_wraps p a (callee t)) (insert (group_wraps p a (callee t)) k (callee t)))
        ≡ cond t
        (render_node p (group k a) true (render_node p (group n e) false s))
        (render_node p (group n (indent_next (join e (group k a then none)) then none)) w s)
    go true = rw (next_indent_more_false, next_indent_less_false)
    go false = rw (made_up_wraps, renders_last)
