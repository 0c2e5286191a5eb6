use Rattle.std.proofs.Common.{◌∙◌, ap}
use Rattle.std.specs.List.{list_any}
use Rattle.block_allocator.specs.Kept.{rank}
use Rattle.block_allocator.proofs.SortedLists.{any-insert, rises-insert, after_place}
use Rattle.block_allocator.proofs.sorted.put.Goals as goal

pub returns-clause-rises : goal.returns-clause-rises
returns-clause-rises c =
    let xs = c.args.list.now.items in
    let before = rw c.as_slice.ensures.value at c.place_of-place.ensures.before in
    let after = rw c.as_slice.ensures.value at c.place_of-place.ensures.after in
    let within = rw c.as_slice.ensures.value at c.place_of-place.ensures.within in
    rw c.insert_within.ensures.items
    (rises-insert xs c.place_of-place.result c.args.block c.requires.rises within before
    (λ k d le lt. after_place xs (rank c.args.block) k d c.requires.absent lt (after k d le lt)))

pub returns-clause-added : goal.returns-clause-added
returns-clause-added c = λ test. ap (list_any test) c.insert_within.ensures.items ∙ any-insert test _ _ _
