use denote.Exit.{no}
use denote.Param.Send.{param_send, arg_send}
use Rattle.guest_cpu.proofs.Sent.{cpu_send}
use Rattle.std.proofs.Common.{None, refl}
use Rattle.guest_runs.proofs.RunLemmas.{threads-have-run}
use Rattle.guest_runs.specs.OnPorts.{HaveRun}
use Rattle.guest_runs.proofs.on_threads.run_threads.Given.{Over}
use Rattle.guest_runs.proofs.on_threads.run_threads.Goals.{After-run_threads-places}
use Rattle.guest_runs.proofs.on_threads.run_threads.Goals as goal

-- the processors ran on threads
has-run : (g : Over) (c : After-run_threads-places g) → HaveRun g.P.Port.made g.P.Port.faults g.P.Port.never_fails c.args.world c.args.scripts None c.args.ports.now.items c.begin.new.ports.items c.run_threads-places.new.processors.items c.run_threads-places.result
has-run g c =
    let t = c.run_threads-places.ensures in
    let b = c.in_ok-all.ensures.begun in
    threads-have-run g.P.Port.made g.P.Port.faults g.P.Port.never_fails c.args.world c.args.scripts c.args.ports.now.items c.begin.new.ports.items c.in_ok-all.all.items c.run_threads-places.new.processors.items c.requires.begins b.before_is b.seen b.count t.later
    t.stand.0 c.run_threads-places.result t.stand.1 t.stand.2.together t.finished

pub run_threads-places-requires-send-T : goal.run_threads-places-requires-send-T
run_threads-places-requires-send-T g c κs within = param_send _ _ (arg_send _ no _ (cpu_send _ c.type_bounds.send-P))

pub run_threads-places-requires-clause-stand : goal.run_threads-places-requires-clause-stand
run_threads-places-requires-clause-stand g c κs within = c.in_ok-all.ensures.begun.stand

pub run_threads-places-requires-clause-first : goal.run_threads-places-requires-clause-first
run_threads-places-requires-clause-first g c κs within = c.in_ok-all.ensures.begun.first

pub close-requires-clause-run : goal.close-requires-clause-run
close-requires-clause-run g c = (c.args.world, c.args.scripts, None, c.args.ports.now.items, refl, has-run g (goal.at.close-requires-clause-run g c).After-run_threads-places)

pub returns : goal.returns
returns g c =
    let told = c.close.ensures c.args.world c.args.scripts None c.args.ports.now.items refl (has-run g (goal.at.returns g c).After-run_threads-places) in
    record { boot = told.boot_is; scripts = told.scripts_are; run = told.run; final_runs = told.final_runs; halted = told.halted; kept = told.kept }
