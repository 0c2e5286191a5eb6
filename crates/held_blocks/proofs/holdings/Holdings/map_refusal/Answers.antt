use Rattle.std.proofs.Common.{ap, ◌∙◌, ◌+◌, ◌*◌, ◌==◌, None, nat_lt}
use Rattle.std.specs.Option.{is_none}
use Rattle.guest_base.specs.declared.memory.Block.{Block}
use Rattle.guest_base.specs.Requests.{too_long}
use Rattle.dma_map.specs.Kept.{mapping_in}
use Rattle.event_core.specs.declared.reply.Reply.TheVariants.{NoPool, Range, TooLong, Zero}
use Rattle.event_core.specs.Holdings.{block_bytes, block_named}
use Rattle.event_core.specs.Refusals.{refuse, unknown_or}
use Rattle.event_core.specs.Refusals.{map_refusal}
use Rattle.held_blocks.specs.Held.{owned}
use Rattle.held_blocks.proofs.RefusalLemmas.{free-or, map-or}
use Rattle.held_blocks.proofs.holdings.Holdings.map_refusal.Goals as goal

pub returns-in-None : goal.returns-in-None
returns-in-None c = λ boot direction has.
    let i = c.self.inside in
    let a = c.args in
    let conditions = λ (block : Block). refuse Zero (a.len == 0) (refuse Range (nat_lt (block_bytes block) (a.off + a.len))
    (refuse TooLong (too_long (4096 * block.first + a.off) a.len a.mask) (refuse NoPool (is_none i.layout) None))) in
    rw (← c.self.view_is)
    (c.refuse_map.ensures
    ∙ ap (λ o. unknown_or o conditions) c.block_of.ensures.block
    ∙ map-or boot i.blocks.kept a.name.now a.off a.len a.mask i.layout (rw (← c.self.view_is) at has)
    ∙ free-or (mapping_in i.mappings a.mapping.now)
    (unknown_or (block_named (owned i.blocks) a.name.now) (λ h. map_refusal boot h a.off a.len a.mask)) c.in-None.ensures)
