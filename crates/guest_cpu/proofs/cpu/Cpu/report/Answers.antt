use Rattle.guest_cpu.proofs.ReportedLemmas.{report-all, worked-may}
use Rattle.guest_cpu.proofs.cpu.Cpu.report.Goals as goal

pub report-requires : goal.report-requires
report-requires g c =
    let cpu = c.args.self.now in
    let stood = c.requires.stands in
    let w = worked-may cpu.progress (g.P.Port.made cpu.port_before.value) (g.P.Port.made cpu.port) (g.P.Port.faults cpu.port_before.value) (g.P.Port.faults cpu.port) (g.P.Port.room cpu.port) stood.0 c.args.memory.now
    stood.1 c.requires.out (c.requires.worked c.requires.out) in
    record { may = w.may }

pub returns-clause-stands : goal.returns-clause-stands
returns-clause-stands g c areas stood =
    let cpu = c.args.self.now in
    let all = report-all cpu.progress c.report.new.self (g.P.Port.made cpu.port_before.value) (g.P.Port.made cpu.port) (g.P.Port.faults cpu.port_before.value) (g.P.Port.faults cpu.port) (g.P.Port.room cpu.port) areas c.args.memory.now c.report.new.memory
    stood c.requires.out (c.requires.worked c.requires.out) c.report.ensures in
    all.stands

pub returns-clause-makes : goal.returns-clause-makes
returns-clause-makes g c =
    let cpu = c.args.self.now in
    let stood = c.requires.stands in
    let all = report-all cpu.progress c.report.new.self (g.P.Port.made cpu.port_before.value) (g.P.Port.made cpu.port) (g.P.Port.faults cpu.port_before.value) (g.P.Port.faults cpu.port) (g.P.Port.room cpu.port) stood.0 c.args.memory.now c.report.new.memory
    stood.1 c.requires.out (c.requires.worked c.requires.out) c.report.ensures in
    all.makes
