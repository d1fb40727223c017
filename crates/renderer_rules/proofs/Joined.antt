-- Rendering goes over joined nodes, and over joined ranges of rows, one after the other.
-- Assumes nothing.
use mathlib.Core.Path.{◌≡◌, refl, ap, ◌∙◌}
use Prim.Native.Nat.{ℕ, ◌≤◌}
use mathlib.Core.Bool.{Bool}
use Rattle.rows.specs.Node.{Nodes, none, ◌then◌, join}
use Rattle.rows.specs.View.{View, nodes_at}
use Rattle.rows.specs.Nesting.{Nests}
use Rattle.rows.proofs.Nested.{nodes_join}
use Rattle.renderer_rules.specs.Renderer.{Page, Renderer, render_node, render_nodes}

pub renders_join : (p : Page) (a b : Nodes) (w : Bool) (s : Renderer) → render_nodes p (join a b) w s ≡ render_nodes p b w (render_nodes p a w s)
unfolding join render_nodes
renders_join p none b w s = refl
renders_join p (n then a) b w s = renders_join p a b w (render_node p n w s)

pub renders_ranges : (p : Page) {v : View} {i j d : ℕ} (k : ℕ) (w : Bool) (s : Renderer) → Nests v i j d → j ≤ k
    → render_nodes p (nodes_at v i k) w s ≡ render_nodes p (nodes_at v j k) w (render_nodes p (nodes_at v i j) w s)
renders_ranges p {v} {i} {j} k w s g h =
    ap (λ (ns : Nodes). render_nodes p ns w s) (nodes_join k g h) ∙ renders_join p (nodes_at v i j) (nodes_at v j k) w s
