use Rattle.std.proofs.Common.{ltb, rules}
use Rattle.std.proofs.lemmas.Bool.{ltb-true, ltb-false}
use Rattle.std.proofs.lemmas.List.Sorted.{IsPartitionPoint-from_clause, IsPartitionedBy-ltb}
use Rattle.block_allocator.specs.Kept.{rank}
use Rattle.block_allocator.proofs.SortedLists.{non_decreasing}
use Rattle.block_allocator.proofs.sorted.place_of.Goals as goal

pub returns-clause-before : goal.returns-clause-before
returns-clause-before c =
    let xs = c.args.list.now in
    let parted = IsPartitionedBy-ltb rank xs (rank c.args.block) (non_decreasing xs c.requires) in
    let point = IsPartitionPoint-from_clause (λ y. ltb (rank y) (rank c.args.block)) xs _ c.partition_point.ensures.partitioned parted (λ a r q k. search rules) in
    λ k d lt. ltb-true _ _ (point.0 k d (search rules) lt)

pub returns-clause-after : goal.returns-clause-after
returns-clause-after c =
    let xs = c.args.list.now in
    let parted = IsPartitionedBy-ltb rank xs (rank c.args.block) (non_decreasing xs c.requires) in
    let point = IsPartitionPoint-from_clause (λ y. ltb (rank y) (rank c.args.block)) xs _ c.partition_point.ensures.partitioned parted (λ a r q k. search rules) in
    λ k d le lt. ltb-false _ _ (point.1 k d le lt)
