-- Request 13, "The margin never drifts", over the rules: a row keeps `indent` plus `next_indent`, `indent` is no smaller when it is done, and as
-- each row within it is entered the sum is at most that before and one for each row, from this one down, that encloses the entered one.
use Rattle.std.specs.Prelude.{ℕ, zero, suc, ◌+◌, ◌-◌, ◌≤◌, ◌<◌, ◌≡◌, Bool, true, cond, List, [], ◌∷◌, length, ltb}
use Rattle.rows.specs.View.{View, nodes_at, node_at}
use Rattle.rows.specs.Nesting.{Nests}
use Rattle.renderer_rules.specs.Renderer.{Page, Renderer, render_node, render_nodes}
use Rattle.renderer_rules.specs.Stops.{Stop, within}

-- `indent` plus `next_indent`
abbrev pub margin_of : Renderer → ℕ
margin_of r = r.pen.indent + r.pen.next_indent

-- the sum is what it was, and `indent` is no smaller
pub record MarginKept (r t : Renderer) : Type 0 where
  pub sum : margin_of t ≡ margin_of r
  pub low : r.pen.indent ≤ t.pen.indent

-- of k rows from i on, those that enclose row n: they end behind it
unfoldable pub enclosing : ℕ → View → ℕ → ℕ → List ℕ
enclosing zero v i n = []
enclosing (suc k) v i n = cond (ltb n (v.after i)) (i ∷ enclosing k v (suc i) n) (enclosing k v (suc i) n)

-- "the rows that enclose the next one, counting none before" row i
abbrev pub around : View → ℕ → ℕ → List ℕ
around v i n = enclosing (n - i) v i n

-- each of some stops
unfoldable pub AllStops : (Stop → Type 0) → List Stop → Type 0
AllStops P [] = Unit {0}
AllStops P (e ∷ es) = P e × AllStops P es

-- the sum at a stop inside row i, where it was `before`
pub record EntersLow (v : View) (i before : ℕ) (e : Stop) : Type 0 where
  pub low : margin_of e.state ≤ before + length (around v i e.next)

-- of row i, whichever way the part that it stands in goes, from any numbers, marks and text
pub record RowMargin (v : View) (pg : Page) (i : ℕ) (w : Bool) (r : Renderer) : Type 0 where
  pub done : MarginKept r (render_node pg (node_at v i) w r)
  pub entered_low : AllStops (EntersLow v i (margin_of r)) (within v pg (node_at v i) i [] w r)

-- "for each row of an accepted store, each admitted state and each width"
abbrev pub NeverDrifts : Type 0
NeverDrifts =
    (v : View) (pg : Page) (from stop i : ℕ) → Nests v from stop 0 → from ≤ i → i < stop → (w : Bool) (r : Renderer) → RowMargin v pg i w r

-- "Hence a whole document from fresh ends with both 0."
abbrev pub EndsAtMargin : Type 0
EndsAtMargin =
    (v : View) (pg : Page) (from stop : ℕ) (r : Renderer) → margin_of r ≡ 0 → margin_of (render_nodes pg (nodes_at v from stop) true r) ≡ 0
