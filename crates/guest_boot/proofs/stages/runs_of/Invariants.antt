use Rattle.std.proofs.Common.{◌≡◌, ◌≤◌, ◌-◌, ◌++◌}
use Rattle.event_core.specs.Boot.{runs_from}
use Rattle.event_core.specs.Units.{bit_of}
use Rattle.guest_boot.proofs.stages.runs_of.Given as goal

abbrev pub invariant-loop-run : goal.invariant-loop-run
invariant-loop-run l = record {
  high : l.from ≤ l.end;
  found : l.runs.items ++ runs_from (bit_of l.bits.bits) (l.end - l.from) l.from l.end ≡ runs_from (bit_of l.bits.bits) l.fn.units.count l.fn.units.first l.end;
}

abbrev pub decreases-loop-run : goal.decreases-loop-run
decreases-loop-run l = l.end - l.from
