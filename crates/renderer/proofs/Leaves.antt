-- A row without parts, by its kind: what `render_node` does there, from the row's places.
-- Assumes nothing.
use mathlib.Core.Path.{◌≡◌, refl, sym, ap, ap₂, ◌∙◌}
use borrow.Author.Tests.{eqb-true, eqb-false}
use Rattle.std.specs.Prelude.{eqb}
use Prim.Native.Nat.{ℕ}
use mathlib.Core.Bool.{Bool, true, false, cond}
use mathlib.Core.List.{List, [], ◌∷◌}
use Rattle.rows.specs.Kinds.{WRAP_PARENT, COMMENT, STR, ASCII, LINE, EMPTY_LINE, LINE_OR_SPACE}
use Rattle.rows.specs.Places.{KIND, ORIGIN, START, SIZE, WIDTH}
use Rattle.rows.specs.View.{view_of, cell, node_at}
use Rattle.rows.proofs.Decode.{node_parent, node_comment, node_str, node_ascii, node_line, node_empty, node_space}
use Rattle.renderer_rules.specs.Page.{page_of, text_bytes, text_of}
use Rattle.renderer_rules.specs.Renderer.{Renderer, fresh_renderer, render_node, push_str, new_line, comment, text}
use Rattle.renderer.specs.declared.writing.Writing.{Writing}
use Rattle.renderer.specs.Writing.{Writes}
use Rattle.renderer_rules.specs.Page.{row_bytes}

pub writes_as : (limit : ℕ) (s t : Renderer) (out : List ℕ) (p : Writing) (out2 : List ℕ) (q : Writing)
    → t ≡ s → Writes limit s out p out2 q → Writes limit t out p out2 q
writes_as limit s t out p out2 q e d = rw e d

pub on_true : (w : Bool) (s t : Renderer) → w ≡ true → cond w s t ≡ s
on_true w s t e = rw e

pub on_false : (w : Bool) (s t : Renderer) → w ≡ false → cond w s t ≡ t
on_false w s t e = rw e

module _ (max : ℕ) (source image store : List ℕ) (row kind : ℕ) (w : Bool) (s : Renderer) (e : kind ≡ cell store row KIND) where
  abbrev bytes : List ℕ
  bytes = text_bytes source image (text_of (cell store row ORIGIN) (cell store row START) (cell store row SIZE))

  pub render_parent : kind ≡ WRAP_PARENT → render_node (page_of max source image) (node_at (view_of store) row) w s ≡ s
  unfolding render_node view_of
  render_parent k = rw (node_parent (view_of store) row (sym e ∙ k))

  pub render_comment : kind ≡ COMMENT → render_node (page_of max source image) (node_at (view_of store) row) w s ≡ comment bytes s
  unfolding render_node view_of
  render_comment k = rw (node_comment (view_of store) row (sym e ∙ k))

  pub render_str : kind ≡ STR → render_node (page_of max source image) (node_at (view_of store) row) w s ≡ text bytes (cell store row WIDTH) s
  unfolding render_node view_of
  render_str k = rw (node_str (view_of store) row (sym e ∙ k), sym e ∙ k)

  pub render_ascii : kind ≡ ASCII → render_node (page_of max source image) (node_at (view_of store) row) w s ≡ text bytes (cell store row SIZE) s
  unfolding render_node view_of
  render_ascii k = rw (node_ascii (view_of store) row (sym e ∙ k))

  pub render_line : kind ≡ LINE → render_node (page_of max source image) (node_at (view_of store) row) w s ≡ cond w (new_line s) s
  unfolding render_node view_of
  render_line k = rw (node_line (view_of store) row (sym e ∙ k))

  pub render_empty : kind ≡ EMPTY_LINE → render_node (page_of max source image) (node_at (view_of store) row) w s ≡ new_line (push_str (0x0A ∷ []) s)
  unfolding render_node view_of
  render_empty k = rw (node_empty (view_of store) row (sym e ∙ k))

  pub render_space : kind ≡ LINE_OR_SPACE
      → render_node (page_of max source image) (node_at (view_of store) row) w s ≡ cond w (new_line s) (text (0x20 ∷ []) 1 s)
  unfolding render_node view_of
  render_space k = rw (node_space (view_of store) row (sym e ∙ k))

-- a `Comment`, and a `Str` or an `Ascii`, whose text is t
module _ (max limit : ℕ) (source image store : List ℕ) (row kind : ℕ) (w : Bool)
    (out : List ℕ) (p : Writing) (out2 : List ℕ) (q : Writing) (e : kind ≡ cell store row KIND) (t : List ℕ)
    (f : t ≡ row_bytes source image store row) where
  same : (n x : ℕ) → x ≡ n → text (row_bytes source image store row) n (fresh_renderer p.pen []) ≡ text t x (fresh_renderer p.pen [])
  same n x h = ap₂ (λ (b : List ℕ) (m : ℕ). text b m (fresh_renderer p.pen [])) (sym f) (sym h)

  pub comment_leaf : kind ≡ COMMENT → Writes limit (comment t (fresh_renderer p.pen [])) out p out2 q
      → Writes limit (render_node (page_of max source image) (node_at (view_of store) row) w (fresh_renderer p.pen [])) out p out2 q
  comment_leaf k d =
      writes_as limit _ _ out p out2 q
      (render_comment max source image store row kind w (fresh_renderer p.pen []) e k
      ∙ ap (λ (b : List ℕ). comment b (fresh_renderer p.pen [])) (sym f)) d

  str_leaf : (x : ℕ) → x ≡ cell store row WIDTH → kind ≡ STR → Writes limit (text t x (fresh_renderer p.pen [])) out p out2 q
      → Writes limit (render_node (page_of max source image) (node_at (view_of store) row) w (fresh_renderer p.pen [])) out p out2 q
  str_leaf x h k d =
      writes_as limit _ _ out p out2 q
      (render_str max source image store row kind w (fresh_renderer p.pen []) e k ∙ same (cell store row WIDTH) x h) d

  ascii_leaf : (x : ℕ) → x ≡ cell store row SIZE → kind ≡ ASCII → Writes limit (text t x (fresh_renderer p.pen [])) out p out2 q
      → Writes limit (render_node (page_of max source image) (node_at (view_of store) row) w (fresh_renderer p.pen [])) out p out2 q
  ascii_leaf x h k d =
      writes_as limit _ _ out p out2 q
      (render_ascii max source image store row kind w (fresh_renderer p.pen []) e k ∙ same (cell store row SIZE) x h) d

  pub text_leaf : (x : ℕ) → x ≡ cond (eqb kind STR) (cell store row WIDTH) (cell store row SIZE) → ((kind ≡ STR → ⊥) → kind ≡ ASCII)
      → Writes limit (text t x (fresh_renderer p.pen [])) out p out2 q
      → Writes limit (render_node (page_of max source image) (node_at (view_of store) row) w (fresh_renderer p.pen [])) out p out2 q
  text_leaf x h k d = go (eqb kind STR) refl h
    where
      go : (b : Bool) → eqb kind STR ≡ b → x ≡ cond b (cell store row WIDTH) (cell store row SIZE)
          → Writes limit (render_node (page_of max source image) (node_at (view_of store) row) w (fresh_renderer p.pen [])) out p out2 q
      go true z h = str_leaf x h (eqb-true kind STR z) d
      go false z h = ascii_leaf x h (k (eqb-false kind STR z)) d
