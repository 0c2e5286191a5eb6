use Rattle.std.proofs.Common.{ap, ◌∙◌, arith}
use Rattle.block_allocator.proofs.Pages.{number_form}
use Rattle.block_allocator.proofs.Waiting.{first_form, lowest_first, seen_lowest}
use Rattle.block_allocator.proofs.store.Blocks.peek_unaccepted.Goals as goal

pub block_of-requires-clause-order : goal.block_of-requires-clause-order
block_of-requires-clause-order c =
    let item = c.in_ok-lowest.ensures.item in
    let first = first_form c.self.inside.waiting.items _ c.self.invariant.waiting_form c.in_ok-lowest.field-0.now c.deref.ensures.value item.1 item.3.0 in
    omega (arith, first.2)

pub block_of-requires-clause-end : goal.block_of-requires-clause-end
block_of-requires-clause-end c =
    let item = c.in_ok-lowest.ensures.item in
    (first_form c.self.inside.waiting.items _ c.self.invariant.waiting_form c.in_ok-lowest.field-0.now c.deref.ensures.value item.1 item.3.0).3

pub returns-clause-block : goal.returns-clause-block
returns-clause-block c =
    let y = c.in_ok-lowest.field-0.now in
    let item = c.in_ok-lowest.ensures.item in
    let first = first_form c.self.inside.waiting.items _ c.self.invariant.waiting_form y c.deref.ensures.value item.1 item.3.0 in
    let block = number_form y.number y.order 10 c.block_of.result.first first.2 (ap (λ b. b.first) c.block_of.ensures) first.3 in
    (ap (λ b. b.order) c.block_of.ensures ∙ first.2, block.0, block.1)

pub returns-clause-lowest : goal.returns-clause-lowest
returns-clause-lowest c =
    let ws = c.self.inside.waiting.items in
    let y = c.in_ok-lowest.field-0.now in
    let item = c.in_ok-lowest.ensures.item in
    let first = first_form ws _ c.self.invariant.waiting_form y c.deref.ensures.value item.1 item.3.0 in
    let lowest = lowest_first ws c.self.invariant.waiting_rises c.self.invariant.waiting_form y first.0 first.1 in
    seen_lowest _ c.args.self.now c.self.view_is y c.block_of.result.first (ap (λ b. b.first) c.block_of.ensures) lowest
