-- A text that is being written (`Writing` of the code), and what a function writes of it.
use Rattle.std.specs.Prelude.{ℕ, ◌+◌, ◌≤◌, ◌<◌, max, ◌≡◌, Bool, cond, List, [], ◌∷◌, length, ltb}
use Rattle.renderer.specs.Limits.{MAX_MARGIN}
use Rattle.renderer_rules.specs.declared.Pen.{Pen}
use Rattle.renderer_rules.specs.Renderer.{Renderer, fresh_renderer, render_node, with_column, push_str, margin}
use Rattle.renderer.specs.declared.writing.Writing.{Writing}
use Rattle.renderer.specs.declared.leaf.LeafRow.{LeafRow}
use Rattle.rows.specs.declared.texts.Rows.{Rows}
use Rattle.rows.specs.View.{view_of, node_at}
use Rattle.renderer_rules.specs.Page.{page_of}
use Rattle.renderer.specs.Output.{written_over}

-- the same with another pen
abbrev pub set_pen : Pen → Writing → Writing
set_pen p w = record { pen = p; at = w.at; widest = w.widest }

-- with a pen, once n bytes are written and `column` was set to c at most
abbrev pub writing : Pen → ℕ → ℕ → Writing
writing p n c = record { pen = p; at = record { 0 = n }; widest = record { 0 = c } }

-- the pen at column c, once n bytes are written
abbrev pub moved_to : ℕ → ℕ → Writing → Writing
moved_to c n w = writing (with_column c w.pen) n (max w.widest.0 c)

-- the same once s is rendered from there
unfoldable pub writing_after : Writing → Renderer → Writing
writing_after w s = writing s.pen (w.at.0 + length s.buf) (max w.widest.0 s.widest)

-- s, rendered from w, is what the output and w have become
pub record Writes (limit : ℕ) (s : Renderer) (out : List ℕ) (w : Writing) (out2 : List ℕ) (q : Writing) : Type 0 where
  pub after : q ≡ writing_after w s
  pub written : out2 ≡ written_over limit out w.at.0 s.buf

-- what a row without parts writes, whatever the width
abbrev pub WritesLeaf : Rows → LeafRow → List ℕ → Writing → List ℕ → Writing → Type 0
WritesLeaf rows l out w out2 q =
    (max : ℕ)
    → Writes (length out)
    (render_node (page_of max rows.source.now rows.image.now) (node_at (view_of rows.store.now) l.row) l.wrap (fresh_renderer w.pen []))
    out w out2 q

-- what `comment` (with true) and `text` write before the text that they are given
unfoldable pub before_text : Bool → Renderer → Renderer
before_text comment r = cond (ltb 0 r.pen.column.0) (cond comment (push_str (0x20 ∷ []) r) r) (margin r)

-- no sum of these numbers wraps, where `cap` leaves room
pub record WritingRoom (cap limit : ℕ) (out : List ℕ) (w : Writing) : Type 0 where
  pub fits : limit ≤ length out
  pub indent : w.pen.indent + w.pen.next_indent ≤ MAX_MARGIN
  pub column : w.pen.column.0 < cap
  pub at : w.at.0 < cap
