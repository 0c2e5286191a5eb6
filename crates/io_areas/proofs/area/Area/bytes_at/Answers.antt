use Rattle.std.proofs.Common.{length, sym, ap, ◌∙◌, arith}
use Rattle.guest_base.specs.Parts.{part_of}
use Rattle.event_core.specs.Bytes.{row_of}
use Rattle.event_core.specs.PoolBytes.{pool_byte}
use Rattle.io_areas.specs.Steps.{pool_at}
use Rattle.io_areas.specs.Value.{AreaValue}
use Rattle.io_areas.proofs.ByteLemmas.{bytes-read}
use Rattle.io_areas.proofs.area.Area.bytes_at.Goals as goal

pub returns-clause-out : goal.returns-clause-out
returns-clause-out c boot size =
    let i = c.self.inside in
    let at = c.args.at in
    let count = length c.args.out.now in
    let slots = ap (λ (a : AreaValue). a.slots) c.self.view_is in
    let within = c.requires in
    c.part_out.ensures
    ∙ ap (λ bytes. part_of bytes at count) c.deref.ensures.value
    ∙ bytes-read i.number i.count at count i.transfers.moved i.bytes.items c.self.invariant.bytes_stand (omega (arith, slots, within)) boot (size ∙ sym slots)
    ∙ ap (λ (a : AreaValue). row_of (pool_byte boot a.moved) (pool_at a at) count) c.self.view_is
