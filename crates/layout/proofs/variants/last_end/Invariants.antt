use Rattle.comments.specs.Records.{offsets}
use Rattle.layout.proofs.Lasts.{Turn}
use Rattle.layout.proofs.variants.last_end.Given as goal

abbrev pub invariant-loop-at : goal.invariant-loop-at
invariant-loop-at l = Turn l.parsed.image.now l.from l.to l.last (offsets l.at-iterator)
