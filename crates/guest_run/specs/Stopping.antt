use Rattle.std.specs.Prelude.{ℕ, List, None, ◌≡◌, ◌⊎◌}
use Rattle.guest_base.specs.Counts.{Rose}
use Rattle.guest_words.specs.Words.{Named}
use Rattle.guest_input.specs.Asked.{all_names, Asks, AsksFront}
use Rattle.guest_input.specs.Reading.{Reading}
use Rattle.guest_input.specs.Stopping.{IsNotRead, RefusesFile}
use Rattle.guest_input.specs.Stops.{stop_line, status_of}
use Rattle.guest_input.specs.declared.stop.Stop.{Stop}
use Rattle.guest_input.specs.declared.stop.Stop.TheVariants.{Refused, NotRead, PoolNoRoom, Module, NoMemory}
use Rattle.guest_text.specs.Putting.{Putting, Put, PutFront, PutNothing}
use Rattle.guest_run.specs.declared.program.Ended.{Ended}
use Rattle.guest_runs.specs.Asking.{Asking, Unasked}
use Rattle.guest_run.specs.Boots.{BootStops, EndsWithoutMemory, PoolStops}

-- How a run ends before its text (own rule).

-- The cause of a stop, the names that were asked for up to it, and what the ports were asked: at a
-- file that is refused or couldn't be read, and at a pool that has no room, nothing.
abbrev pub Stopped : {P : Type 0} → Reading → Asking P → Named → Stop → Type 0
Stopped files ports named (Refused file cause) = RefusesFile files named file cause × Unasked ports
Stopped files ports named (NotRead file) = IsNotRead files named file × Unasked ports
Stopped files ports named PoolNoRoom =
    PoolStops files.holds named × Asks (all_names named) files × Unasked ports
Stopped files ports named Module =
    BootStops files.holds ports named × Asks (all_names named) files
Stopped files ports named NoMemory =
    AsksFront (all_names named) files × EndsWithoutMemory files.holds ports named

-- no run is recorded, and the status is this one
abbrev pub EndsAt : ℕ → Ended → Type 0
EndsAt status ended = (ended.status ≡ status) × (ended.run ≡ None)

-- a line is put, and the program ends with its status; or a prefix is put, a fault of the sink is
-- counted, and it ends with 5; or nothing is put, and it ends with 6
abbrev pub EndsWith : Putting → List ℕ → ℕ → Ended → Type 0
EndsWith out line status ended =
    (EndsAt status ended × Put out line)
    ⊎ (EndsAt 5 ended × Rose out.faults_before out.faults_after × PutFront out line)
    ⊎ (EndsAt 6 ended × PutNothing out)

-- so a stop ends, which has a line and a status of its own; where memory ran out there is no line
abbrev pub StopEnds : Putting → Named → Stop → Ended → Type 0
StopEnds out named NoMemory ended = EndsAt 6 ended × PutNothing out
StopEnds out named stop ended = EndsWith out (stop_line named stop) (status_of stop) ended
