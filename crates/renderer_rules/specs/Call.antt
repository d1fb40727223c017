-- `Call` of `render_node` as fmt.rs has it. The rule for it in Renderer.antt is in another form, since the groups made up here have no rows.
use Rattle.std.specs.Prelude.{ℕ, ◌≡◌, Bool, true, false, cond}
use Rattle.rows.specs.Node.{Nodes, group, indent_next, call, none, ◌then◌, join}
use Rattle.renderer_rules.specs.Renderer.{Page, Renderer, render_node, trailing_call}

-- the two branches: callee and arguments are a group each, or one group, an `IndentNext` of the callee's nodes and the group of the arguments
unfoldable pub call_of_rust : Page → ℕ → Nodes → ℕ → Nodes → Bool → Renderer → Renderer
call_of_rust p n e k a wrap r =
    cond (trailing_call p e a r)
    (render_node p (group k a) true (render_node p (group n e) false r))
    (render_node p (group n (indent_next (join e (group k a then none)) then none)) wrap r)

-- the rule for `Call` is the Rust's
abbrev pub CallAsRust : Type 0
CallAsRust =
    (p : Page) (n : ℕ) (e : Nodes) (k : ℕ) (a : Nodes) (wrap : Bool) (r : Renderer)
    → render_node p (call n e k a) wrap r ≡ call_of_rust p n e k a wrap r
