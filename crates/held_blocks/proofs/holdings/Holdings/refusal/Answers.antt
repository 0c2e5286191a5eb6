use Rattle.std.proofs.Common.{ap, ◌∙◌, ◌==◌, None, nat_le, length}
use Rattle.std.specs.List.{list_any}
use Rattle.guest_base.specs.declared.memory.Block.{Block}
use Rattle.event_core.specs.declared.reply.Reply.TheVariants.{Mapped, Range, Zero}
use Rattle.event_core.specs.Holdings.{Mapping, block_bytes, same_block}
use Rattle.event_core.specs.Refusals.{past_end, refuse, unknown_or}
use Rattle.held_blocks.proofs.HeldLemmas.{private-or}
use Rattle.held_blocks.proofs.holdings.Holdings.refusal.Goals as goal

pub returns-in-Free : goal.returns-in-Free
returns-in-Free c = λ boot has.
    let i = c.self.inside in
    let conditions = λ (block : Block). refuse Mapped (list_any (λ (m : Mapping). same_block m.block block) i.mappings.mappings) None in
    rw (c.in-Free.is, ← c.self.view_is)
    (c.refuse_mapped.ensures
    ∙ ap (λ o. unknown_or o conditions) c.block_of-in-Free.ensures.block
    ∙ private-or i.blocks.kept c.in-Free.name conditions)

pub returns-in-Read : goal.returns-in-Read
returns-in-Read c = λ boot has.
    let conditions = λ (block : Block). refuse Zero (c.in-Read.len == 0) (past_end (block_bytes block) c.in-Read.off c.in-Read.len) in
    rw (c.in-Read.is, ← c.self.view_is)
    (c.refuse_span.ensures
    ∙ ap (λ o. unknown_or o conditions) c.block_of-in-Read.ensures.block
    ∙ private-or c.self.inside.blocks.kept c.in-Read.name conditions)

pub returns-in-Write : goal.returns-in-Write
returns-in-Write c = λ boot has.
    let conditions = λ (block : Block). past_end (block_bytes block) c.in-Write.off (length c.in-Write.hex) in
    rw (c.in-Write.is, ← c.self.view_is, c.refuse_bytes.ensures, c.len.ensures)
    (ap (λ o. unknown_or o conditions) c.block_of-in-Write.ensures.block
    ∙ private-or c.self.inside.blocks.kept c.in-Write.name conditions)

pub returns-in-Fill : goal.returns-in-Fill
returns-in-Fill c = λ boot has.
    let conditions = λ (block : Block). refuse Zero (c.in-Fill.len == 0) (past_end (block_bytes block) c.in-Fill.off c.in-Fill.len) in
    rw (c.in-Fill.is, ← c.self.view_is)
    (c.refuse_span-in-Fill.ensures
    ∙ ap (λ o. unknown_or o conditions) c.block_of-in-Fill.ensures.block
    ∙ private-or c.self.inside.blocks.kept c.in-Fill.name conditions)

pub returns-in-Load : goal.returns-in-Load
returns-in-Load c = λ boot has.
    let conditions = λ (block : Block). refuse Range (nat_le (block_bytes block) c.in-Load.off) None in
    rw (c.in-Load.is, ← c.self.view_is)
    (c.refuse_load.ensures
    ∙ ap (λ o. unknown_or o conditions) c.block_of-in-Load.ensures.block
    ∙ private-or c.self.inside.blocks.kept c.in-Load.name conditions)

pub returns-in-Map : goal.returns-in-Map
returns-in-Map c = λ boot has. rw c.in-Map.is (c.map_refusal.ensures boot c.in-Map.direction has)
