-- A `Group` and a `Call` by what was decided of them.
use Prim.Native.Nat.{ℕ}
use mathlib.Core.Bool.{Bool, not, ◌&&◌}
use Rattle.rows.specs.Node.{Nodes}
use Rattle.renderer_rules.specs.Renderer.{Page, Renderer, on_pen, insert, next_indent_more, next_indent_less, group_wraps, render_nodes}

module _ (p : Page) where
  unfoldable pub grouped : ℕ → Nodes → Renderer → Renderer
  grouped n ns s = render_nodes p ns (group_wraps p ns s) (insert (group_wraps p ns s) n s)

  -- the callee, and the whole: which branch was taken, and whether the callee wraps
  unfoldable pub callee : Bool → Bool → ℕ → Nodes → Renderer → Renderer
  callee t w n e s = render_nodes p e w (on_pen (next_indent_more (not t && w)) (insert w n s))

  unfoldable pub called : Bool → Bool → ℕ → Nodes → ℕ → Nodes → Renderer → Renderer
  called t w n e k a s = on_pen (next_indent_less (not t && w)) (grouped k a (callee t w n e s))
