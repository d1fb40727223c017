use mathlib.Core.Path.{ap}
use lib.ListN.{length}
use Rattle.std.proofs.Common.{rules}
use Rattle.comments.proofs.Offsets.{first_in, rest_in, first_offset, no_offset}
use Rattle.comments.proofs.record.RecordsIterator.next.Goals as goal

pub past-self-requires : goal.past-self-requires
past-self-requires c = first_in c.if-self.true c.args.self.now.inside

pub invariant_of-self : goal.invariant_of-self
invariant_of-self c = record { inside = rw (c.past-self.ensures) (rest_in c.if-self.true c.args.self.now.inside) }

pub returns-then-self-clause-steps : goal.returns-then-self-clause-steps
returns-then-self-clause-steps c = first_offset _ _ _ _ c.if-self.true c.past-self.ensures

pub returns-then-self-clause-goes : goal.returns-then-self-clause-goes
returns-then-self-clause-goes c =
    let old = c.args.self.now in
    let shorter = ap length (first_offset old.parsed.now.image.now old.to old.at _ c.if-self.true c.past-self.ensures) in
    search rules

pub returns-clause-steps : goal.returns-clause-steps
returns-clause-steps c = let e = no_offset _ _ _ c.if-self.false in (e, e)
