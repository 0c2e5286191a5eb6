use Rattle.std.proofs.Common.{arith}
use Rattle.guest_steps.specs.Steps.{MakesOwn}
use Rattle.guest_cpu.specs.Alone.{EndsAlone}
use Rattle.guest_cpu.specs.Standing.{CourseStands, seen_with}
use Rattle.guest_cpu.specs.Stepping.{OnlyRoom}
use Rattle.guest_cpu.proofs.CourseLemmas.{alone-course, alone-own, rests-undone}
use Rattle.guest_cpu.proofs.NeedLemmas.{alone-asks, is-alone}
use Rattle.guest_cpu.proofs.ResultLemmas.{either_way, on_ok}
use Rattle.guest_cpu.proofs.RoomAloneLemmas.{room-over}
use Rattle.guest_steps.proofs.AmongLemmas.{still}
use Rattle.guest_cpu.proofs.cpu.CpuProcessor.step_own.Goals as goal

pub returns-clause-stands : goal.returns-clause-stands
returns-clause-stands g c base s =
    let cpu = c.args.self.now in
    let p = cpu.progress in
    let q = c.step_alone.new.self in
    let mb = g.P.Port.made cpu.port_before.value in
    let m = g.P.Port.made cpu.port in
    let fb = g.P.Port.faults cpu.port_before.value in
    let f = g.P.Port.faults cpu.port in
    let kept = g.P.Port.room cpu.port in
    let rests = (is-alone p c.requires.need).rests in
    either_way c.step_alone.result (EndsAlone p q) (OnlyRoom p q) (CourseStands q mb m fb f kept base) c.step_alone.ensures.ends c.step_alone.ensures.failed
    (λ r. alone-course mb m fb f p q r rests (rests-undone (seen_with p mb m fb f) base.memory p.out p.done s.stands.out rests) (alone-asks p r.present c.requires.need r.is) kept base s c.requires.need)
    (λ o. room-over mb m fb f p q kept kept base base s o (still base) (omega arith))

pub returns-clause-event : goal.returns-clause-event
returns-clause-event g c =
    let cpu = c.args.self.now in
    let p = cpu.progress in
    let q = c.step_alone.new.self in
    let mb = g.P.Port.made cpu.port_before.value in
    let m = g.P.Port.made cpu.port in
    let fb = g.P.Port.faults cpu.port_before.value in
    let f = g.P.Port.faults cpu.port in
    let rests = (is-alone p c.requires.need).rests in
    let stood = c.requires.stands in
    on_ok c.step_alone.result (EndsAlone p q) (MakesOwn (seen_with p mb m fb f) (seen_with q mb m fb f)) c.step_alone.ensures.ends
    (λ r. alone-own mb m fb f p q r rests (rests-undone (seen_with p mb m fb f) stood.0.memory p.out p.done stood.1.stands.out rests) (alone-asks p r.present c.requires.need r.is))
