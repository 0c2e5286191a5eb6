use Rattle.event_core.specs.declared.command.Command.TheVariants as command
use Rattle.guest_cpu.proofs.LeavesLemmas.{may-taken, owns-block, stray-leaves, unmade-leaves}
use Rattle.guest_cpu.proofs.cpu.Cpu.stray.Goals as goal

pub stray-requires-clause-may : goal.stray-requires-clause-may
stray-requires-clause-may g c =
    let e = c.take_entry_room.ensures in
    may-taken g.P.Port.made g.P.Port.faults g.P.Port.room c.args.self.now c.take_entry_room.new.progress c.args.memory.now c.take_entry_room.new.memory c.requires.stands e.progress e.memory (command.Load c.args.name c.args.off) c.requires.steps

pub stray-requires-clause-owner : goal.stray-requires-clause-owner
stray-requires-clause-owner g c =
    let e = c.take_entry_room.ensures in
    owns-block g.P.Port.made g.P.Port.faults g.P.Port.room c.args.self.now c.take_entry_room.new.progress c.args.memory.now c.take_entry_room.new.memory c.requires.stands e.progress e.memory c.args.name

pub returns-clause-leaves : goal.returns-clause-leaves
returns-clause-leaves g c =
    let e = c.take_entry_room.ensures in
    let stepped = c.stray.ensures in
    stray-leaves g.P.Port.made g.P.Port.faults g.P.Port.room c.args.self.now c.take_entry_room.new.progress c.args.memory.now c.take_entry_room.new.memory c.requires.stands e.progress e.memory
    c.stray.new.self c.stray.new.memory stepped.same c.args.name c.args.off c.requires.steps stepped.strays

pub returns-in_err-take_entry_room-clause-leaves : goal.returns-in_err-take_entry_room-clause-leaves
returns-in_err-take_entry_room-clause-leaves g c =
    let e = c.take_entry_room.ensures in
    unmade-leaves g.P.Port.made g.P.Port.faults g.P.Port.room c.args.self.now c.take_entry_room.new.progress c.args.memory.now c.take_entry_room.new.memory c.requires.stands e.progress e.memory c.from_residual.result c.from_residual.ensures.0

pub returns-in_err-bytes-clause-leaves : goal.returns-in_err-bytes-clause-leaves
returns-in_err-bytes-clause-leaves g c =
    let e = c.take_entry_room.ensures in
    unmade-leaves g.P.Port.made g.P.Port.faults g.P.Port.room c.args.self.now c.take_entry_room.new.progress c.args.memory.now c.take_entry_room.new.memory c.requires.stands e.progress e.memory c.from_residual-in_err-bytes.result c.from_residual-in_err-bytes.ensures.0
