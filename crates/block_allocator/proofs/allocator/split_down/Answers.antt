use Rattle.std.proofs.Common.{◌≡◌, ◌-◌, ◌*◌, ap, ◌∙◌, arith}
use Rattle.block_allocator.proofs.Pages.{lower_first}
use Rattle.block_allocator.proofs.allocator.split_down.Goals as goal

pub loop-part-preserved : goal.loop-part-preserved
loop-part-preserved c =
    let before = c.loop-part.part in
    let after = c.split-part.result in
    let order : after.order ≡ before.order - 1 = ap (λ x. x.order) c.split-part.ensures.half in
    let number : after.number ≡ 2 * before.number = ap (λ x. x.number) c.split-part.ensures.half in
    let more = c.loop-part-test.true in
    let orders = c.loop-part.invariant.order in
    record {
      rises = c.split-part.ensures.rises;
      beside = c.split-part.ensures.beside;
      order = (omega arith, omega arith);
      lowest = lower_first before.number after.number after.order before.order (omega arith) number ∙ c.loop-part.invariant.lowest;
      pages = λ page. c.split-part.ensures.pages page ∙ c.loop-part.invariant.pages page;
      len = omega (arith, c.split-part.ensures.len, c.loop-part.invariant.len);
      capacity = omega (arith, c.split-part.ensures.capacity, c.loop-part.invariant.capacity);
    }
