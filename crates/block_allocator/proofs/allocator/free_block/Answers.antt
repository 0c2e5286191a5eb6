use Rattle.std.proofs.Common.{◌||◌, ap, ◌∙◌}
use Rattle.std.specs.List.{list_any}
use Rattle.block_allocator.proofs.Merging.{absent_rank, buddies_with}
use Rattle.block_allocator.proofs.allocator.free_block.Goals as goal

pub put-requires-clause-absent : goal.put-requires-clause-absent
put-requires-clause-absent c =
    rw c.in_default.ensures.none.0 (absent_rank c.loop-larger.free.items c.loop-larger.block c.loop-larger.invariant.beside)

pub returns-clause-buddies : goal.returns-clause-buddies
returns-clause-buddies c =
    let xs = c.loop-larger.free.items in
    let b = c.loop-larger.block in
    buddies_with xs c.put.new.list.items b
    (λ test. c.put.ensures.added test ∙ ap (λ l. list_any test l || test b) c.in_default.ensures.none.0)
    c.loop-larger.invariant.beside c.in_default.ensures.none.1
