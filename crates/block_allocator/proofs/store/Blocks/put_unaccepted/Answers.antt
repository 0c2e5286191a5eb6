use Rattle.std.proofs.Common.{ap, ◌∙◌}
use Rattle.block_allocator.specs.State.{is_free, page_waits}
use Rattle.block_allocator.proofs.Merging.{absent_rank}
use Rattle.block_allocator.proofs.Waiting.{beside_from, not_waiting, waiting_buddies, sound_put}
use Rattle.block_allocator.proofs.store.Blocks.put_unaccepted.Goals as goal

pub put-requires-clause-absent : goal.put-requires-clause-absent
put-requires-clause-absent c =
    let ws = c.self.inside.waiting.items in
    let may = c.requires.may in
    absent_rank ws c.numbered.result
    (beside_from ws (waiting_buddies ws c.self.invariant.waiting_form) c.args.block c.numbered.result c.numbered.ensures may.order may.aligned may.end
    (λ page inside. not_waiting ws c.self.invariant.waiting_form page (ap (λ v. page_waits v page) c.self.view_is ∙ may.not_waiting page inside)))

pub invariant_of-self : goal.invariant_of-self
invariant_of-self c =
    let free = c.self.inside.free.items in
    let may = c.requires.may in
    let beside =
    beside_from free c.self.invariant.buddies c.args.block c.numbered.result c.numbered.ensures may.order may.aligned may.end
    (λ page inside. ap (λ v. is_free v page) c.self.view_is ∙ may.not_free page inside) in
    sound_put free c.self.inside.waiting.items c.put.new.list.items c.numbered.result c.self.invariant c.put.ensures.rises c.put.ensures.added
    (ap (λ b. b.order) c.numbered.ensures ∙ c.requires.order) beside.end beside.apart
