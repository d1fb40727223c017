use borrow.Author.Tests.{eq-eqb, ne_eqb}
use Rattle.layout.specs.declared.kinds.Expr.TheVariants as exprs
use Rattle.layout.proofs.KindTests.{is_expr, other_expr}
use Rattle.acts.proofs.Laws.{laid_skip}
use Rattle.layout.proofs.blocks.arm_comma.Goals as goal

pub returns-then-eq : goal.returns-then-eq
returns-then-eq c = record { laid = rw (eq-eqb _ _ (is_expr _ exprs.Block c.read.ensures c.eq.ensures c.if-eq.true)) laid_skip; same = cc }

pub word-requires : goal.word-requires
word-requires c = rw (ne_eqb _ _ (other_expr _ exprs.Block c.read.ensures c.eq.ensures c.if-eq.false)) at c.requires.room

pub returns : goal.returns
returns c =
    record { laid = rw (ne_eqb _ _ (other_expr _ exprs.Block c.read.ensures c.eq.ensures c.if-eq.false)) c.word.ensures.laid; same = cc }
