use Rattle.event_core.specs.Legal.{greatest_stamp}
use Rattle.io_areas.specs.Transfers.{bare_by}
use Rattle.io_areas.proofs.StepLemmas.{area-still}
use Rattle.io_areas.proofs.area.Area.note.Goals as goal

pub invariant_of-self : goal.invariant_of-self
invariant_of-self c =
    let i = c.self.inside in
    let m = bare_by i.number (greatest_stamp i.transfers.moved) c.args.turn.now c.args.event c.args.bytes.now in
    area-still i.number i.count i.slots i.bytes.items i.transfers.moved c.append.new.self.moved m c.append.ensures.moved c.requires.leaves c.requires.none c.self.invariant
