use Rattle.acts.proofs.Laws.{laid_skip}
use Rattle.layout.proofs.blocks.semicolon.Goals as goal

pub returns-then-is_braced : goal.returns-then-is_braced
returns-then-is_braced c = record { laid = rw (c.read.ensures, ← c.is_braced.ensures, c.if-is_braced.true) laid_skip; same = cc }

pub word-requires : goal.word-requires
word-requires c = rw (c.read.ensures, ← c.is_braced.ensures, c.if-is_braced.false) at c.requires.room

pub returns : goal.returns
returns c = record { laid = rw (c.read.ensures, ← c.is_braced.ensures, c.if-is_braced.false) c.word.ensures.laid; same = cc }
