use Rattle.event_core.specs.declared.command.Command.TheVariants as command
use Rattle.guest_cpu.specs.Kept.{runs_in}
use Rattle.guest_cpu.proofs.LeavesLemmas.{begun-leaves, failed-leaves, may-taken}
use Rattle.guest_cpu.proofs.cpu.Cpu.accept.Goals as goal

pub returns-clause-leaves : goal.returns-clause-leaves
returns-clause-leaves g c =
    let e = c.take_room.ensures in
    let taken = c.in_ok-rooms.ensures.taken in
    begun-leaves g.P.Port.made g.P.Port.faults g.P.Port.room c.args.self.now c.take_room.new.progress c.args.memory.now c.take_room.new.memory c.requires.stands e.progress e.memory c.take_room.new.port e.room e.made e.faults
    c.begin.new.self c.begin.new.memory c.args.start c.args.len (runs_in c.in_ok-rooms.rooms.items) c.claim_units-units.result c.begin.result
    c.requires.steps c.claim_units-units.ensures.units taken.calls.runs taken.calls.most c.begin.ensures

pub returns-in_err-rooms-clause-leaves : goal.returns-in_err-rooms-clause-leaves
returns-in_err-rooms-clause-leaves g c =
    let e = c.take_room.ensures in
    failed-leaves g.P.Port.made g.P.Port.faults g.P.Port.room c.args.self.now c.take_room.new.progress c.args.memory.now c.take_room.new.memory c.requires.stands e.progress e.memory c.take_room.new.port e.room e.made e.faults c.from_residual.result c.from_residual.ensures.0

pub begin-requires-clause-may : goal.begin-requires-clause-may
begin-requires-clause-may g c =
    let e = c.take_room.ensures in
    may-taken g.P.Port.made g.P.Port.faults g.P.Port.room c.args.self.now c.take_room.new.progress c.args.memory.now c.take_room.new.memory c.requires.stands e.progress e.memory (command.Accept c.args.start c.args.len) c.requires.steps
