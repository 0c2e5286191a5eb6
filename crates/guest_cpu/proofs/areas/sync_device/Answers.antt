use Rattle.event_core.specs.Holdings.{Mapping, asks_in}
use Rattle.held_blocks.specs.Holdings.{own_in as own_held}
use Rattle.guest_cpu.proofs.AccessLemmas.{copy-here, mine-still}
use Rattle.guest_cpu.proofs.areas.sync_device.Goals as goal

pub copy_in-requires-clause-mine : goal.copy_in-requires-clause-mine
copy_in-requires-clause-mine c =
    let may = c.requires.may.4 in
    let here = copy-here (own_held c.args.held.now) c.args.area.now c.args.turn.now.cpu.0 c.args.mapping.now c.live.result (λ (m : Mapping). asks_in m.direction) c.live.ensures.live may.need may.mine in
    mine-still c.args.area.now c.reserve.new.area c.args.turn.now.cpu.0 c.live.result.run c.reserve.ensures.kept here.0.mine
