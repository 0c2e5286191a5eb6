use Rattle.event_core.specs.declared.command.Command.TheVariants as command
use Rattle.guest_cpu.proofs.LeavesLemmas.{may-taken, query-leaves, unmade-leaves}
use Rattle.guest_cpu.proofs.cpu.Cpu.query.Goals as goal

pub query-requires-clause-may : goal.query-requires-clause-may
query-requires-clause-may g c =
    let e = c.take_entry_room.ensures in
    may-taken g.P.Port.made g.P.Port.faults g.P.Port.room c.args.self.now c.take_entry_room.new.progress c.args.memory.now c.take_entry_room.new.memory c.requires.stands e.progress e.memory (command.Query c.args.start c.args.len) c.requires.steps

pub returns-clause-leaves : goal.returns-clause-leaves
returns-clause-leaves g c =
    let e = c.take_entry_room.ensures in
    let stepped = c.query.ensures in
    query-leaves g.P.Port.made g.P.Port.faults g.P.Port.room c.args.self.now c.take_entry_room.new.progress c.args.memory.now c.take_entry_room.new.memory c.requires.stands e.progress e.memory
    c.query.new.self c.query.new.memory stepped.same c.args.start c.args.len c.requires.steps stepped.adds

pub returns-in_err-take_entry_room-clause-leaves : goal.returns-in_err-take_entry_room-clause-leaves
returns-in_err-take_entry_room-clause-leaves g c =
    let e = c.take_entry_room.ensures in
    unmade-leaves g.P.Port.made g.P.Port.faults g.P.Port.room c.args.self.now c.take_entry_room.new.progress c.args.memory.now c.take_entry_room.new.memory c.requires.stands e.progress e.memory c.from_residual.result c.from_residual.ensures.0
