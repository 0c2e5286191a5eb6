use Rattle.std.proofs.Common.{Result, map, subst}
use Rattle.std.specs.declared.alloc.AllocError.{AllocError}
use Rattle.guest_cpu.specs.Standing.{seen_by}
use Rattle.guest_runs.specs.OnPorts.{HaveRun, Places}
use Rattle.guest_runs.proofs.RunLemmas.{have-finished, tells-halted, tells-run}
use Rattle.guest_runs.proofs.recording.close.Goals as goal

pub returns-in_err-memory : goal.returns-in_err-memory
returns-in_err-memory g c world scripts order before same run =
    tells-halted g.P.Port.made g.P.Port.faults g.P.Port.never_fails world scripts order before c.args.ports.now.items c.finish_all.new.ports.items c.args.all.items c.args.places c.args.boot
    c.from_residual.result c.from_residual.ensures.0 same run c.finish_all.ensures.ports

pub recorded-requires : goal.recorded-requires
recorded-requires g c =
    let given = c.requires.run in
    let R : Result Places AllocError → Type 0 = HaveRun g.P.Port.made g.P.Port.faults g.P.Port.never_fails given.0 given.1 given.2 given.3 c.args.ports.now.items c.args.all.items in
    let places : Places = (c.in_ok-memory.memory, c.in_ok-memory.field-0-1) in (
      map (seen_by g.P.Port.made g.P.Port.faults) c.args.all.items,
      places.1.items,
      have-finished g.P.Port.made g.P.Port.faults g.P.Port.never_fails given.0 given.1 given.2 given.3 c.args.ports.now.items c.args.all.items places c.args.boot
          c.finish_all.new.left.scripts.items c.finish_all.new.left.lists.items given.4 (subst R c.in_ok-memory.was given.5) c.finish_all.ensures.scripts c.finish_all.ensures.lists,
    )

pub returns : goal.returns
returns g c world scripts order before same run =
    let R : Result Places AllocError → Type 0 = HaveRun g.P.Port.made g.P.Port.faults g.P.Port.never_fails world scripts order before c.args.ports.now.items c.args.all.items in
    let places : Places = (c.in_ok-memory.memory, c.in_ok-memory.field-0-1) in
    let e = c.recorded.ensures in
    tells-run g.P.Port.made g.P.Port.faults g.P.Port.never_fails world scripts order before c.args.ports.now.items c.finish_all.new.ports.items c.args.all.items places c.args.boot
    c.finish_all.new.left.scripts.items c.finish_all.new.left.lists.items c.recorded.result same (subst R c.in_ok-memory.was run) c.finish_all.ensures.ports c.finish_all.ensures.scripts c.finish_all.ensures.lists
    e.boot e.scripts e.entries e.whole e.runs
