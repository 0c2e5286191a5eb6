use Rattle.std.proofs.Common.{◌<◌, ◌^◌, max, refl, arith}
use Rattle.event_core.specs.Legal.{greatest_stamp}
use Rattle.guest_cpu.specs.Standing.{seen_with}
use Rattle.guest_cpu.proofs.CourseLemmas.{area-course, area-made, rests-undone}
use Rattle.guest_cpu.proofs.MayLemmas.{may-visit}
use Rattle.guest_cpu.proofs.NeedLemmas.{needs-area}
use Rattle.guest_cpu.proofs.RoomAloneLemmas.{room-in-area}
use Rattle.guest_cpu.proofs.cpu.CpuProcessor.step_area.Goals as goal

pub step_area-requires-clause-may : goal.step_area-requires-clause-may
step_area-requires-clause-may g c =
    let cpu = c.args.self.now in
    let p = cpu.progress in
    let area = c.args.area.now in
    let stood = c.requires.stands in
    let fresh : max (greatest_stamp p.moved) (greatest_stamp area.moved) < 2 ^ 64 = omega (arith, c.if-stamp.false, c.max-stamp.ensures, c.clock.ensures, c.last.ensures) in
    may-visit (g.P.Port.made cpu.port_before.value) (g.P.Port.made cpu.port) (g.P.Port.faults cpu.port_before.value) (g.P.Port.faults cpu.port) (g.P.Port.room cpu.port) p stood.0 area stood.2 stood.1 c.requires.need fresh

pub returns-then-stamp-clause-stands : goal.returns-then-stamp-clause-stands
returns-then-stamp-clause-stands g c base has s =
    let cpu = c.args.self.now in
    let p = cpu.progress in
    let area = c.args.area.now in
    room-in-area (g.P.Port.made cpu.port_before.value) (g.P.Port.made cpu.port) (g.P.Port.faults cpu.port_before.value) (g.P.Port.faults cpu.port) p p (g.P.Port.room cpu.port) base area area s has
    (refl, omega arith) (record { number = refl; slots = refl; moved = refl; room = omega arith })

pub returns-in-Ok-clause-stands : goal.returns-in-Ok-clause-stands
returns-in-Ok-clause-stands g c base has s =
    let cpu = c.args.self.now in
    let p = cpu.progress in
    let area = c.args.area.now in
    let mb = g.P.Port.made cpu.port_before.value in
    let m = g.P.Port.made cpu.port in
    let fb = g.P.Port.faults cpu.port_before.value in
    let f = g.P.Port.faults cpu.port in
    let rests = (needs-area p area.number c.requires.need).rests in
    area-course mb m fb f p c.step_area.new.self area c.step_area.new.area c.in-Ok.ensures.steps c.requires.need (rests-undone (seen_with p mb m fb f) base.memory p.out p.done s.stands.out rests) (g.P.Port.room cpu.port) base s has c.show_standing.ensures.mappings

pub returns-in-Ok-clause-event : goal.returns-in-Ok-clause-event
returns-in-Ok-clause-event g c =
    let cpu = c.args.self.now in
    let p = cpu.progress in
    let area = c.args.area.now in
    let mb = g.P.Port.made cpu.port_before.value in
    let m = g.P.Port.made cpu.port in
    let fb = g.P.Port.faults cpu.port_before.value in
    let f = g.P.Port.faults cpu.port in
    let stood = c.requires.stands in
    let rests = (needs-area p area.number c.requires.need).rests in
    area-made mb m fb f p c.step_area.new.self area c.step_area.new.area c.in-Ok.ensures.steps c.requires.need (rests-undone (seen_with p mb m fb f) stood.0.memory p.out p.done stood.2.stands.out rests)

pub returns-in-Err-clause-stands : goal.returns-in-Err-clause-stands
returns-in-Err-clause-stands g c base has s =
    let cpu = c.args.self.now in
    let p = cpu.progress in
    let failed = c.in-Err.ensures.failed in
    room-in-area (g.P.Port.made cpu.port_before.value) (g.P.Port.made cpu.port) (g.P.Port.faults cpu.port_before.value) (g.P.Port.faults cpu.port) p c.step_area.new.self (g.P.Port.room cpu.port) base c.args.area.now c.step_area.new.area s has
    failed.0 failed.1
