use Rattle.guest_cpu.proofs.WorkLemmas.{work-course}
use Rattle.guest_cpu.proofs.cpu.CpuProcessor.work.Goals as goal

pub returns-clause-stands : goal.returns-clause-stands
returns-clause-stands g c base s =
    let cpu = c.args.self.now in
    work-course cpu.progress c.work.new.self (g.P.Port.made cpu.port_before.value) (g.P.Port.made cpu.port) (g.P.Port.made c.work.new.port) (g.P.Port.faults cpu.port_before.value) (g.P.Port.faults cpu.port) (g.P.Port.faults c.work.new.port)
    (g.P.Port.room cpu.port) (g.P.Port.room c.work.new.port) base s c.work.ensures.faults c.work.ensures.does
