use mathlib.Core.Path.{refl, sym, ◌∙◌}
use Rattle.acts.proofs.Laws.{laid_skip}
use Rattle.layout.proofs.pieces.between.Goals.{then-first-via-then-first, then-first-via-else-first+then-is_whitespace}
use Rattle.layout.proofs.pieces.between.Goals as goal

pub returns-then-first : goal.returns-then-first
returns-then-first c =
    elim c.then-first.branch [
      | then-first-via-then-first w ↦ rw w.if-first.true (record { laid = laid_skip; same = refl })
      | then-first-via-else-first+then-is_whitespace w ↦
          rw (w.if-first.false, sym w.is_whitespace.ensures ∙ w.if-is_whitespace.true) (record { laid = laid_skip; same = refl })
    ]

pub push-requires : goal.push-requires
push-requires c =
    record {
      room = rw (c.if-first.false, sym c.is_whitespace.ensures ∙ c.if-is_whitespace.false) at c.requires.room;
      small = c.requires.small;
    }

pub returns : goal.returns
returns c = rw (c.if-first.false, sym c.is_whitespace.ensures ∙ c.if-is_whitespace.false) c.push.ensures
