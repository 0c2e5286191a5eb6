use Rattle.std.proofs.Common.{◌≡◌, ◌+◌, ◌/◌, ◌<◌, ap, arith}
use Rattle.block_allocator.proofs.Merging.{merged_beside, merged_pages}
use Rattle.block_allocator.proofs.allocator.merge.Goals as goal

pub returns-clause-some : goal.returns-clause-some
returns-clause-some c =
    let xs = c.take_out.new.list.items in
    let ys = c.args.free.now.items in
    let b = c.args.block in
    let buddy = c.buddy_of.result in
    let larger = c.merged.result in
    let order : larger.order ≡ b.order + 1 = ap (λ x. x.order) c.merged.ensures in
    let number : larger.number ≡ b.number / 2 = ap (λ x. x.number) c.merged.ensures in
    let beside = c.requires.beside in
    let at_most = beside.order in
    let below : b.order < 10 = omega (arith, c.if-block-eq-MAX_ORDER.false) in
    let paired = c.buddy_of.ensures in (
      merged_beside xs ys b buddy larger beside below paired.order paired.pair paired.other order number c.if-not-take_out.ensures.removed c.take_out.ensures.gone,
      order,
      merged_pages xs ys b buddy larger paired.order paired.pair paired.other order number c.if-not-take_out.ensures.removed,
      c.if-not-take_out.ensures.len,
    )
