use Rattle.event_core.specs.declared.command.Command.TheVariants as command
use Rattle.guest_cpu.proofs.LeavesLemmas.{free-leaves, may-taken, owns-block, unmade-leaves}
use Rattle.guest_cpu.proofs.cpu.Cpu.free.Goals as goal

pub free-requires-clause-may : goal.free-requires-clause-may
free-requires-clause-may g c =
    let e = c.take_entry_room.ensures in
    may-taken g.P.Port.made g.P.Port.faults g.P.Port.room c.args.self.now c.take_entry_room.new.progress c.args.memory.now c.take_entry_room.new.memory c.requires.stands e.progress e.memory (command.Free c.args.name) c.requires.steps

pub free-requires-clause-owner : goal.free-requires-clause-owner
free-requires-clause-owner g c =
    let e = c.take_entry_room.ensures in
    owns-block g.P.Port.made g.P.Port.faults g.P.Port.room c.args.self.now c.take_entry_room.new.progress c.args.memory.now c.take_entry_room.new.memory c.requires.stands e.progress e.memory c.args.name

pub returns-clause-leaves : goal.returns-clause-leaves
returns-clause-leaves g c =
    let e = c.take_entry_room.ensures in
    let stepped = c.free.ensures in
    free-leaves g.P.Port.made g.P.Port.faults g.P.Port.room c.args.self.now c.take_entry_room.new.progress c.args.memory.now c.take_entry_room.new.memory c.requires.stands e.progress e.memory
    c.free.new.self c.free.new.memory stepped.same c.args.name c.requires.steps stepped.frees

pub returns-in_err-take_entry_room-clause-leaves : goal.returns-in_err-take_entry_room-clause-leaves
returns-in_err-take_entry_room-clause-leaves g c =
    let e = c.take_entry_room.ensures in
    unmade-leaves g.P.Port.made g.P.Port.faults g.P.Port.room c.args.self.now c.take_entry_room.new.progress c.args.memory.now c.take_entry_room.new.memory c.requires.stands e.progress e.memory c.from_residual.result c.from_residual.ensures.0
