use Rattle.std.proofs.Common.{◌≤◌, ◌-◌, List, ◌++◌}
use Rattle.std.specs.Prelude.{All, sum_by}
use Rattle.guest_base.specs.declared.memory.Units.{Units}
use Rattle.event_core.specs.Calls.{calls_of}
use Rattle.event_core.specs.Units.{bit_after}
use Rattle.memory_core.specs.Bitmaps.{AreRunsFrom}
use Rattle.guest_cpu.specs.Kept.{HasRoom, most_of, runs_in}
use Rattle.guest_cpu.proofs.room.room_among.Given as goal

abbrev pub invariant-loop-run : goal.invariant-loop-run
invariant-loop-run l =
    let test = bit_after l.memory.boot (calls_of l.memory.boot l.memory.entries) in
    record {
      runs : (rest : List Units) → AreRunsFrom test l.at l.end rest → AreRunsFrom test l.fn.units.first l.end (runs_in l.rooms.items ++ rest);
      enough : All (HasRoom l.memory.boot) l.rooms.items;
      most : sum_by (most_of l.memory.boot) (runs_in l.rooms.items) ≤ l.calls;
    }

abbrev pub decreases-loop-run : goal.decreases-loop-run
decreases-loop-run l = l.end - l.at
