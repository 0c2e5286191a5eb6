use Rattle.std.proofs.Common.{◌≡◌, ℕ, ◌-◌, ◌*◌, ◌^◌, ◌<◌, true, length, get_or, Some, ap, sym, ◌∙◌, arith}
use Rattle.std.specs.Option.{option_map}
use Rattle.guest_base.specs.declared.memory.Block.{Block}
use Rattle.block_allocator.specs.declared.buddy_block.BuddyBlock.{BuddyBlock}
use Rattle.block_allocator.specs.Kept.{rank, kept}
use Rattle.block_allocator.proofs.Merging.{kept_new, beside_without}
use Rattle.block_allocator.proofs.Maximal.{none_kept}
use Rattle.block_allocator.proofs.Pages.{number_form}
use Rattle.block_allocator.proofs.Picking.{none_above, found_first, found_order, taken_pages}
use Rattle.block_allocator.proofs.allocator.take_block.Goals as goal

pub returns-then-place-len-clause-picked : goal.returns-then-place-len-clause-picked
returns-then-place-len-clause-picked c =
    let xs = c.args.free.now.items in
    let before = rw c.as_slice.ensures.value at c.place_of-place.ensures.before in
    let order = c.args.order in
    let all_before : (k : ℕ) (d : BuddyBlock) → k < length xs → rank (get_or xs k d) < order * 2 ^ 64 =
    λ k d lt. omega (arith, before k d (omega (arith, c.if-place-len.true, c.len.ensures, c.args.free.now.ok.0))) in
    let none = none_kept xs c.requires.buddies (11 - order) order (omega (arith, c.requires.order)) (none_above xs order all_before) in
    sym (ap (λ found. option_map (λ first. let b : Block = record { first = first; order = order } in b) found) none)

pub split_down-part-requires-clause-beside : goal.split_down-part-requires-clause-beside
split_down-part-requires-clause-beside c =
    beside_without c.take_at-found.new.list.items c.args.free.now.items c.take_at-found.result c.take_at-found.ensures.removed c.requires.buddies c.take_at-found.ensures.gone

-- the answer is the block that begins where the block found begins
block_is : (found part : BuddyBlock) (order : ℕ) (block : Block) → block ≡ record { first = part.number * 2 ^ part.order; order = part.order } → part.order ≡ order → part.number * 2 ^ part.order ≡ found.number * 2 ^ found.order → block ≡ record { first = found.number * 2 ^ found.order; order = order }
block_is found part order block is order_is lowest =
    let by_first : record { first = part.number * 2 ^ part.order; order = part.order } ≡ record { first = found.number * 2 ^ found.order; order = part.order } =
    ap (λ f. let b : Block = record { first = f; order = part.order } in b) lowest in
    let by_order : record { first = found.number * 2 ^ found.order; order = part.order } ≡ record { first = found.number * 2 ^ found.order; order = order } =
    ap (λ o. let b : Block = record { first = found.number * 2 ^ found.order; order = o } in b) order_is in
    is ∙ by_first ∙ by_order

pub returns-clause-picked : goal.returns-clause-picked
returns-clause-picked c =
    let xs = c.args.free.now.items in
    let before = rw c.as_slice.ensures.value at c.place_of-place.ensures.before in
    let after = rw c.as_slice.ensures.value at c.place_of-place.ensures.after in
    let order = c.args.order in
    let place = c.place_of-place.result in
    let found = c.take_at-found.result in
    let part = c.split_down-part.result in
    let within : place < length xs = omega (arith, c.place_of-place.ensures.within, c.as_slice.ensures.len, c.if-place-len.false, c.len.ensures, c.args.free.now.ok.0) in
    let read = c.take_at-found.ensures.block in
    let is : kept xs found.order found.number ≡ true = kept_new c.take_at-found.new.list.items xs found c.take_at-found.ensures.removed in
    let least = after place found (omega arith) within in
    let same : rank found ≡ rank (get_or xs place found) = ap rank read in
    let le = found_order xs c.requires.buddies order found is (omega arith) in
    let below : (k : ℕ) (d : BuddyBlock) → k < place → rank (get_or xs k d) < order * 2 ^ 64 = λ k d lt. omega (arith, before k d lt) in
    let lowest = found_first xs c.requires.rises c.requires.buddies order place found within read is le below in
    let block = block_is found part order c.block_of.result c.block_of.ensures c.split_down-part.ensures.order c.split_down-part.ensures.lowest in
    ap (λ b. Some b) block ∙ sym (ap (λ f. option_map (λ first. let b : Block = record { first = first; order = order } in b) f) lowest)

pub returns-clause-pages : goal.returns-clause-pages
returns-clause-pages c =
    taken_pages c.args.free.now.items c.take_at-found.new.list.items c.split_down-part.new.free.items c.take_at-found.result c.split_down-part.result c.block_of.result.first c.args.order
    c.split_down-part.ensures.beside c.split_down-part.ensures.order (ap (λ b. b.first) c.block_of.ensures) c.take_at-found.ensures.removed c.split_down-part.ensures.pages

pub returns-clause-block : goal.returns-clause-block
returns-clause-block c =
    let part = c.split_down-part.result in
    let beside = c.split_down-part.ensures.beside in
    let form = number_form part.number part.order c.args.order c.block_of.result.first c.split_down-part.ensures.order (ap (λ b. b.first) c.block_of.ensures) beside.end in
    (ap (λ b. b.order) c.block_of.ensures ∙ c.split_down-part.ensures.order, form.0, form.1)
