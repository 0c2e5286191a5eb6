use Rattle.std.proofs.Common.{◌≡◌, false, sym, arith}
use Rattle.std.specs.List.{list_any}
use Rattle.block_allocator.specs.Kept.{is_numbered}
use Rattle.block_allocator.proofs.SortedLists.{absent, differs}
use Rattle.block_allocator.proofs.sorted.take_out.Goals as goal
use Rattle.block_allocator.proofs.sorted.take_out.Goals.{then-place-len-via-then-place-len, then-place-len-via-else-place-len+then-ne}

missing : (c : goal.Joined-then-place-len) → list_any (is_numbered c.args.block.order c.args.block.number) c.args.list.now.items ≡ false
missing c =
    let xs = c.args.list.now.items in
    let before = rw c.as_slice.ensures.value at c.place_of-place.ensures.before in
    let after = rw c.as_slice.ensures.value at c.place_of-place.ensures.after in
    absent xs c.place_of-place.result c.args.block c.requires before after
    (λ d lt same. elim c.then-place-len.branch [
      | then-place-len-via-then-place-len w ↦ omega (arith, w.if-place-len.true, c.args.list.now.ok.0)
      | then-place-len-via-else-place-len+then-ne w ↦ differs xs c.place_of-place.result w.index.result.now c.args.block d w.ne.result lt w.index.ensures same w.ne.ensures w.if-ne.true
    ])

pub returns-then-place-len-clause-found : goal.returns-then-place-len-clause-found
returns-then-place-len-clause-found c = sym (missing c)

pub returns-then-place-len-clause-gone : goal.returns-then-place-len-clause-gone
returns-then-place-len-clause-gone c = missing c
