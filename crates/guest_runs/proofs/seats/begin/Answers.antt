use Rattle.std.proofs.Common.{rules, ◌≡◌, refl, sym, subst, length}
use Rattle.event_core.specs.declared.boot.Boot.{Boot}
use Rattle.guest_cpu.specs.Standing.{CpuStands, seen_by}
use Rattle.guest_steps.specs.Running.{AllStand}
use Rattle.guest_runs.specs.OnPorts.{ground_in}
use Rattle.guest_runs.proofs.BeginLemmas.{begin-first, begin-stand, world-layout}
use Rattle.guest_runs.proofs.RunLemmas.{halts-first, kept-first, on-err}
use Rattle.guest_runs.proofs.seats.begin.Goals as goal

pub returns-in_err-left-clause-halted : goal.returns-in_err-left-clause-halted
returns-in_err-left-clause-halted g c =
    on-err c.from_residual.result (halts-first g.P.Port.made g.P.Port.faults g.P.Port.never_fails c.args.world.now c.args.scripts c.args.ports.now.items c.args.ports.now.items c.requires.begins refl)

pub returns-in_err-left-clause-kept : goal.returns-in_err-left-clause-kept
returns-in_err-left-clause-kept g c =
    on-err c.from_residual.result (kept-first g.P.Port.made g.P.Port.faults g.P.Port.never_fails (length c.args.scripts) c.args.ports.now.items c.args.ports.now.items refl)

pub start_all-requires-clause-pool : goal.start_all-requires-clause-pool
start_all-requires-clause-pool g c = world-layout c.args.world.now c.requires.begins.stands

pub returns-in_err-all-clause-halted : goal.returns-in_err-all-clause-halted
returns-in_err-all-clause-halted g c =
    on-err c.from_residual-in_err-all.result (halts-first g.P.Port.made g.P.Port.faults g.P.Port.never_fails c.args.world.now c.args.scripts c.args.ports.now.items c.start_all.new.ports.items c.requires.begins c.in_err-all.ensures.refused)

pub returns-in_err-all-clause-kept : goal.returns-in_err-all-clause-kept
returns-in_err-all-clause-kept g c =
    on-err c.from_residual-in_err-all.result (kept-first g.P.Port.made g.P.Port.faults g.P.Port.never_fails (length c.args.scripts) c.args.ports.now.items c.start_all.new.ports.items c.in_err-all.ensures.refused)

pub returns-clause-begun : goal.returns-clause-begun
returns-clause-begun g c =
    let all = c.in_ok-all.all.items in
    let e = c.in_ok-all.ensures in
    let world = c.args.world.now in
    let seen = seen_by g.P.Port.made g.P.Port.faults in
    let stands = CpuStands g.P.Port.made g.P.Port.faults g.P.Port.room in
    let count : length all ≡ length c.args.scripts = search rules in
    let S : Boot → Type 0 = λ b. AllStand seen stands b all (ground_in world) in
    record {
      before_is = e.ports;
      seen = e.seen;
      count = count;
      first = begin-first g.P.Port.made g.P.Port.faults seen stands world c.args.scripts c.args.ports.now.items _ all c.requires.begins e.seen;
      stand = subst S (sym c.requires.begins.stands.same) (begin-stand g.P.Port.made g.P.Port.faults seen stands world c.args.scripts c.args.ports.now.items _ all c.requires.begins e.seen count e.stand);
    }
