use mathlib.Core.Path.{refl, sym, ap, ◌∙◌}
use native.Mathlib.Omega.{arith}
use Rattle.rows.specs.Kinds.{number_of}
use Rattle.rows.specs.declared.kinds.Kind.TheVariants.{WrapParent, Comment, Line, EmptyLine, LineOrSpace}
use Rattle.rows.proofs.KindOf.{not_number}
use Rattle.renderer.proofs.Leaves.{writes_as, comment_leaf, text_leaf, on_true, on_false, render_parent, render_line, render_empty, render_space}
use Rattle.renderer.proofs.Writes.{writes_none}
use Rattle.renderer.proofs.writing.Writing.leaf.Goals as goal

pub returns-in-WrapParent : goal.returns-in-WrapParent
returns-in-WrapParent c =
    λ m. writes_as _ _ _ _ _ _ _ (render_parent m _ _ _ _ _ _ _ (sym c.requires.kind) (ap number_of c.in-WrapParent.is)) (writes_none _ _ _)

pub returns-then-l : goal.returns-then-l
returns-then-l c =
    λ m. writes_as _ _ _ _ _ _ _
    (render_line m _ _ _ _ _ _ _ (sym c.requires.kind) (ap number_of c.in-Line.is) ∙ on_true _ _ _ c.if-l.true) c.new_line.ensures

pub returns-else-l : goal.returns-else-l
returns-else-l c =
    λ m. writes_as _ _ _ _ _ _ _
    (render_line m _ _ _ _ _ _ _ (sym c.requires.kind) (ap number_of c.in-Line.is) ∙ on_false _ _ _ c.if-l.false) (writes_none _ _ _)

pub returns-in-EmptyLine : goal.returns-in-EmptyLine
returns-in-EmptyLine c =
    λ m. writes_as _ _ _ _ _ _ _ (render_empty m _ _ _ _ _ _ _ (sym c.requires.kind) (ap number_of c.in-EmptyLine.is)) c.empty_line.ensures

pub returns-then-l-2 : goal.returns-then-l-2
returns-then-l-2 c =
    λ m. writes_as _ _ _ _ _ _ _
    (render_space m _ _ _ _ _ _ _ (sym c.requires.kind) (ap number_of c.in-LineOrSpace.is) ∙ on_true _ _ _ c.if-l-2.true) c.new_line-then-l-2.ensures

pub returns-else-l-2 : goal.returns-else-l-2
returns-else-l-2 c =
    λ m. writes_as _ _ _ _ _ _ _
    (render_space m _ _ _ _ _ _ _ (sym c.requires.kind) (ap number_of c.in-LineOrSpace.is) ∙ on_false _ _ _ c.if-l-2.false) c.text.ensures

pub returns-in-Comment : goal.returns-in-Comment
returns-in-Comment c =
    λ m. comment_leaf m _ _ _ _ _ _ _ _ _ _ _ (sym c.requires.kind) _ c.row_text.ensures.text (ap number_of c.in-Comment.is) c.comment.ensures

pub returns-in_default : goal.returns-in_default
returns-in_default c =
    λ m. text_leaf m _ _ _ _ _ _ _ _ _ _ _ (sym c.requires.kind) _ c.row_text-in_default.ensures.text _ c.text_columns.ensures.columns
    (λ n. omega (
      arith,
      n,
      c.requires.whole.0,
      c.requires.whole.1,
      not_number WrapParent refl c.in_default.not-WrapParent,
      not_number Comment refl c.in_default.not-Comment,
      not_number Line refl c.in_default.not-Line,
      not_number EmptyLine refl c.in_default.not-EmptyLine,
      not_number LineOrSpace refl c.in_default.not-LineOrSpace,
    )) c.text-in_default.ensures
