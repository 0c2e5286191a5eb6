use Rattle.std.proofs.Common.{◌≤◌, drop}
use Rattle.event_core.specs.Boot.{AcceptsRun}
use Rattle.memory_core.specs.Bitmaps.{bits_in}
use Rattle.guest_boot.specs.Booting.{StandsAfter}
use Rattle.guest_boot.proofs.InTurnLemmas.{LeadsTo}
use Rattle.guest_boot.proofs.SetRunsLemmas.{SetRuns}
use Rattle.guest_boot.proofs.stages.accept_range.Given as goal

abbrev pub invariant-loop-run : goal.invariant-loop-run
invariant-loop-run g l = record {
  leads : LeadsTo (AcceptsRun l.boot) (g.P.Port.made l.fn.port) l.run-items (g.P.Port.made l.port) (drop l.run-index l.run-items);
  stands : StandsAfter l.boot (g.P.Port.made l.port) l.kept;
  set : SetRuns (bits_in l.kept.bits) 0 (drop l.run-index l.run-items);
  faults : g.P.Port.faults l.fn.port ≤ g.P.Port.faults l.port;
  never_fails : g.P.Port.never_fails l.fn.port → g.P.Port.never_fails l.port;
}
