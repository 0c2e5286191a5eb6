use denote.Exit.{no}
use denote.Param.Send.{param_send, arg_send}
use Rattle.guest_cpu.proofs.Sent.{cpu_send}
use Rattle.std.proofs.Common.{arith, ℕ, Some, List, refl, map}
use Rattle.guest_base.specs.declared.memory.CpuNo.{CpuNo as CpuValue}
use Rattle.guest_runs.proofs.RunLemmas.{turns-have-run}
use Rattle.guest_runs.specs.OnPorts.{HaveRun}
use Rattle.guest_runs.proofs.by_turns.turns.Given.{Over}
use Rattle.guest_runs.proofs.by_turns.turns.Goals.{After-and}
use Rattle.guest_runs.proofs.by_turns.turns.Goals as goal

abbrev numbers : List CpuValue → List ℕ
numbers order = map (λ (cpu : CpuValue). cpu.0) order

-- the processors ran by turns
has-run : (g : Over) (c : After-and g) → HaveRun g.P.Port.made g.P.Port.faults g.P.Port.never_fails c.args.world c.args.scripts (Some (numbers c.args.order.now)) c.args.ports.now.items c.begin.new.ports.items c.turns-answer.new.processors.items c.and.result
has-run g c =
    let t = c.turns-answer.ensures in
    let b = c.in_ok-all.ensures.begun in
    turns-have-run g.P.Port.made g.P.Port.faults g.P.Port.never_fails c.args.world c.args.scripts c.args.ports.now.items c.begin.new.ports.items c.in_ok-all.all.items c.turns-answer.new.processors.items c.requires.begins b.before_is b.seen b.count t.later
    (numbers c.args.order.now) c.turns-answer.result (c.turns-answer.new.memory, c.turns-answer.new.areas) c.and.result t.stand.together t.finished t.turned c.and.ensures

pub turns-answer-requires-send-T : goal.turns-answer-requires-send-T
turns-answer-requires-send-T g c κs within = param_send _ _ (arg_send _ no _ (cpu_send _ c.type_bounds.send-P))

pub turns-answer-requires-clause-stand : goal.turns-answer-requires-clause-stand
turns-answer-requires-clause-stand g c κs within = c.in_ok-all.ensures.begun.stand

pub turns-answer-requires-clause-first : goal.turns-answer-requires-clause-first
turns-answer-requires-clause-first g c κs within = c.in_ok-all.ensures.begun.first

pub turns-answer-requires-clause-order : goal.turns-answer-requires-clause-order
turns-answer-requires-clause-order g c κs within k d lt =
    let count = c.in_ok-all.ensures.begun.count in
    let low = c.requires.order k d lt in
    omega (arith, low, count)

pub close-requires-clause-run : goal.close-requires-clause-run
close-requires-clause-run g c = (c.args.world, c.args.scripts, Some (numbers c.args.order.now), c.args.ports.now.items, refl, has-run g (goal.at.close-requires-clause-run g c).After-and)

pub returns : goal.returns
returns g c =
    let told = c.close.ensures c.args.world c.args.scripts (Some (numbers c.args.order.now)) c.args.ports.now.items refl (has-run g (goal.at.returns g c).After-and) in
    record { boot = told.boot_is; scripts = told.scripts_are; run = told.run; final_runs = told.final_runs; halted = told.halted; kept = told.kept }
