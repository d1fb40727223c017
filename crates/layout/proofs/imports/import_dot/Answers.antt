use mathlib.Core.Path.{sym, ◌∙◌}
use Rattle.acts.proofs.Laws.{laid_skip}
use Rattle.layout.proofs.imports.import_dot.Goals as goal

pub returns-then-is_absent : goal.returns-then-is_absent
returns-then-is_absent c = record { laid = rw (sym c.is_absent.ensures ∙ c.if-is_absent.true) laid_skip; same = cc }

pub returns-then-is_absent-2 : goal.returns-then-is_absent-2
returns-then-is_absent-2 c =
    record { laid = rw (sym c.is_absent.ensures ∙ c.if-is_absent.false, sym c.is_absent-2.ensures ∙ c.if-is_absent-2.true) laid_skip; same = cc }

pub word-requires : goal.word-requires
word-requires c =
    rw (sym c.is_absent.ensures ∙ c.if-is_absent.false, sym c.is_absent-2.ensures ∙ c.if-is_absent-2.false) at c.requires.room

pub returns : goal.returns
returns c =
    record {
      laid = rw (sym c.is_absent.ensures ∙ c.if-is_absent.false, sym c.is_absent-2.ensures ∙ c.if-is_absent-2.false)
          c.word.ensures.laid;
      same = cc;
    }
