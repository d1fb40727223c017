-- The range that `partition_point` finds is the only one that can have the code point.
use Rattle.std.proofs.Common.{rules, ltb}
use Rattle.std.proofs.lemmas.List.Sorted.{IsPartitionPoint-from_clause}
use Rattle.widths.specs.Widths.{last}
use Rattle.widths.proofs.Search.{parted, found_by, early_by, past_by}
use Rattle.widths.proofs.lookup.width_in.Goals as goal

pub returns-in-Some : goal.returns-in-Some
returns-in-Some c =
    let parts = IsPartitionPoint-from_clause (λ e. ltb (last e) c.args.code) _ _ c.partition_point-next.ensures.partitioned
    (parted 0 c.args.table.now c.args.code c.requires) (λ a r f k. search rules) in
    found_by c.args.table.now c.args.code c.partition_point-next.result c.in-Some.field-0.now c.requires parts (c.in-Some.ensures.lookup.0, c.in-Some.ensures.lookup.1)
    c.if-first-code.true

pub returns-in_default : goal.returns-in_default
returns-in_default c =
    let parts = IsPartitionPoint-from_clause (λ e. ltb (last e) c.args.code) _ _ c.partition_point-next.ensures.partitioned
    (parted 0 c.args.table.now c.args.code c.requires) (λ a r f k. search rules) in
    early_by c.args.table.now c.args.code c.partition_point-next.result c.in-Some.field-0.now c.requires parts (c.in-Some.ensures.lookup.0, c.in-Some.ensures.lookup.1)
    c.if-first-code.false

pub returns-in_default-2 : goal.returns-in_default-2
returns-in_default-2 c =
    let parts = IsPartitionPoint-from_clause (λ e. ltb (last e) c.args.code) _ _ c.partition_point-next.ensures.partitioned
    (parted 0 c.args.table.now c.args.code c.requires) (λ a r f k. search rules) in
    past_by c.args.table.now c.args.code c.partition_point-next.result c.requires parts (rw c.in_default.is at c.get.ensures.lookup.0)
