-- Where `comment` puts a text: at a line's start behind the margin, behind another text after one blank.
use Rattle.std.specs.Prelude.{ℕ, ◌*◌, ◌≤◌, ◌<◌, ◌≡◌, List, [], ◌∷◌, ◌++◌, replicate}
use Rattle.renderer_rules.specs.declared.Pen.{Pen}
use Rattle.renderer_rules.specs.Renderer.{fresh_renderer, comment}

pub record CommentLine : Type 0 where
  pub at_start :
      (t marks : List ℕ) (p : Pen)
      → p.column.0 ≤ 0
      → (comment t (fresh_renderer p marks)).buf ≡ replicate (4 * p.indent) 0x20 ++ (t ++ (0x0A ∷ []))
  pub behind : (t marks : List ℕ) (p : Pen) → 0 < p.column.0 → (comment t (fresh_renderer p marks)).buf ≡ (0x20 ∷ []) ++ (t ++ (0x0A ∷ []))
