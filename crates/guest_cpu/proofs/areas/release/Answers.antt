use Rattle.held_blocks.specs.Holdings.{own_in as own_held}
use Rattle.guest_cpu.proofs.AccessLemmas.{mapping-here, mine-still}
use Rattle.guest_cpu.proofs.areas.release.Goals as goal

pub release-requires-clause-mine : goal.release-requires-clause-mine
release-requires-clause-mine c =
    let area = c.args.area.now in
    let cpu = c.args.turn.now.cpu.0 in
    let may = c.requires.may.4 in
    let h = mapping-here (own_held c.args.held.now) area cpu c.args.mapping.now c.live.result c.live.ensures.live may.need may.mine in
    mine-still area c.reserve.new.area cpu c.live.result.run c.reserve.ensures.kept h.mine
