use Rattle.event_core.specs.declared.command.Command.TheVariants as command
use Rattle.event_core.specs.Own.{replied}
use Rattle.event_core.specs.ReadableScript.{IsReadable}
use Rattle.guest_steps.proofs.BeginningLemmas.{all-got}
use Rattle.guest_cpu.specs.Kept.{runs_in}
use Rattle.guest_cpu.proofs.LeavesLemmas.{failed-leaves, looked-leaves, may-taken, owns-all}
use Rattle.guest_cpu.proofs.cpu.Cpu.alloc.Goals as goal

pub returns-clause-leaves : goal.returns-clause-leaves
returns-clause-leaves g c =
    let e = c.take_room.ensures in
    let taken = c.in_ok-rooms.ensures.taken in
    looked-leaves g.P.Port.made g.P.Port.faults g.P.Port.room c.args.self.now c.take_room.new.progress c.args.memory.now c.take_room.new.memory c.requires.stands e.progress e.memory c.take_room.new.port e.room e.made e.faults
    c.look.new.self c.look.new.memory c.args.name c.args.order (runs_in c.in_ok-rooms.rooms.items) c.waiting_units-units.result c.look.result
    c.requires.steps c.waiting_units-units.ensures.units taken.calls.runs taken.calls.most c.look.ensures.looks c.look.ensures.refused

pub returns-in_err-rooms-clause-leaves : goal.returns-in_err-rooms-clause-leaves
returns-in_err-rooms-clause-leaves g c =
    let e = c.take_room.ensures in
    failed-leaves g.P.Port.made g.P.Port.faults g.P.Port.room c.args.self.now c.take_room.new.progress c.args.memory.now c.take_room.new.memory c.requires.stands e.progress e.memory c.take_room.new.port e.room e.made e.faults c.from_residual.result c.from_residual.ensures.0

pub look-requires-clause-order : goal.look-requires-clause-order
look-requires-clause-order g c =
    let p = c.args.self.now.progress in
    (all-got IsReadable p.script (replied p.moved) (command.Alloc c.args.name c.args.order) c.requires.stands.1.stands.readable.each c.requires.steps.present).1

pub look-requires-clause-owned : goal.look-requires-clause-owned
look-requires-clause-owned g c =
    let e = c.take_room.ensures in
    owns-all g.P.Port.made g.P.Port.faults g.P.Port.room c.args.self.now c.take_room.new.progress c.args.memory.now c.take_room.new.memory c.requires.stands e.progress e.memory

pub look-requires-clause-may : goal.look-requires-clause-may
look-requires-clause-may g c =
    let e = c.take_room.ensures in
    may-taken g.P.Port.made g.P.Port.faults g.P.Port.room c.args.self.now c.take_room.new.progress c.args.memory.now c.take_room.new.memory c.requires.stands e.progress e.memory (command.Alloc c.args.name c.args.order) c.requires.steps
