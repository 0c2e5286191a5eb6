use Rattle.held_blocks.specs.Holdings.{own_in as own_held}
use Rattle.guest_cpu.proofs.AccessLemmas.{mapping-here, mine-still}
use Rattle.guest_cpu.proofs.areas.device_write.Goals as goal

pub device_write-requires-clause-mine : goal.device_write-requires-clause-mine
device_write-requires-clause-mine c =
    let may = c.requires.may.4 in
    let here = mapping-here (own_held c.args.held.now) c.args.area.now c.args.turn.now.cpu.0 c.args.mapping.now c.live.result c.live.ensures.live may.need may.mine in
    mine-still c.args.area.now c.reserve.new.area c.args.turn.now.cpu.0 c.live.result.run c.reserve.ensures.kept here.mine
