use Rattle.std.specs.Prelude.{ℕ, List, Option, ◌≤◌, ◌<◌, All, length, sum_by}
use Rattle.guest_base.specs.declared.memory.Units.{Units}
use Rattle.memory_core.specs.Steps.{unaccepted_count}
use Rattle.memory_core.specs.Value.{MemoryValue}
use Rattle.guest_cpu.specs.declared.progress.RunRoom.{RunRoom}
use Rattle.guest_cpu.specs.Kept.{HasRoom, most_of, runs_in}
use Rattle.guest_cpu.specs.Progressing.{Progressed}
use Rattle.guest_cpu.specs.Stepping.{AreRunsAmong}

-- Room for all runs of a claim.

-- there is room for the calls of each unaccepted run among units, this many of them at most
pub record RoomFor (memory : MemoryValue) (units : Option Units) (rooms : List RunRoom)
    (calls : ℕ) : Type 0 where
  pub runs : AreRunsAmong memory units (runs_in rooms)
  pub enough : All (HasRoom memory.boot) rooms
  pub most : sum_by (most_of memory.boot) (runs_in rooms) ≤ calls

-- there is room for an acceptance until it closes: in the memory, for the processor's entries, and
-- in its port
pub record RoomTaken (p : Progressed) (memory : MemoryValue) (units : Option Units)
    (rooms : List RunRoom) (port : ℕ) : Type 0 where
  pub calls : RoomFor memory units rooms port
  pub entries : length rooms < p.room
  pub memory_room : unaccepted_count memory.boot memory.entries units < memory.room
