use Rattle.std.specs.Prelude.{ℕ, [], Option, None, Some, ◌≡◌, ◌≤◌, ◌⊎◌}
use Rattle.guest_base.specs.Counts.{Rose}
use Rattle.event_core.specs.declared.boot.Recorded.{Recorded}
use Rattle.guest_words.specs.Words.{Named, cpus_in}
use Rattle.guest_input.specs.Asked.{all_names, names_of, place_of, Asks, AsksFront}
use Rattle.guest_input.specs.Causes.{IsKnownRefused}
use Rattle.guest_input.specs.Files.{AreGood, AreKnownGood}
use Rattle.guest_input.specs.Reading.{Reading}
use Rattle.guest_input.specs.Stopping.{IsNotRead}
use Rattle.guest_input.specs.Stops.{name_of, not_read_line, pool_line, refused_line, words_line}
use Rattle.guest_input.specs.declared.stop.Cause.{Cause}
use Rattle.guest_input.specs.declared.stop.InputFile.{InputFile}
use Rattle.guest_input.specs.declared.stop.Stop.{Stop}
use Rattle.guest_text.specs.Printings.{CutAfter, PrintedAfter}
use Rattle.guest_text.specs.Putting.{Putting, Put}
use Rattle.guest_run.specs.declared.program.Ended.{Ended}
use Rattle.guest_runs.specs.Asking.{Asking, PortsKept, Unasked}
use Rattle.guest_run.specs.Room.{PoolHasKnownRoom, PoolHasRoom, PoolIsKnownRoomless}
use Rattle.guest_run.specs.Stopping.{EndsWith, StopEnds, Stopped}

-- How the program ends (own rule).

-- What the program meets outside, before and after.
pub record Outside (P : Type 0) : Type 1 where
  pub files : Reading
  pub out : Putting
  pub ports : Asking P

abbrev pub outside : {P : Type 0} → Reading → Putting → Asking P → Outside P
outside files out ports = record { files = files; out = out; ports = ports }

-- Ends with a recorded run: its text is put (0), or a prefix of it, where the sink's count of
-- faults rose (5) or memory ran out (6).
abbrev pub RunEnds : Putting → Recorded → Ended → Type 0
RunEnds out r ended =
    (ended.run ≡ Some r)
    × (((ended.status ≡ 0) × PrintedAfter r out)
    ⊎ ((ended.status ≡ 5) × Rose out.faults_before out.faults_after × CutAfter r out)
    ⊎ ((ended.status ≡ 6) × CutAfter r out))

-- The program ends in one of three ways.
pub data Ending {P : Type 0} (o : Outside P) (arguments : Option Named)
    (ended : Ended) : Type 0 where
  -- the arguments don't match the usage line: its line with 2, cut with 5, or nothing with 6; no
  -- name is asked for, and no port is asked
  Unmatched : arguments ≡ None → Asks [] o.files → Unasked o.ports
      → EndsWith o.out words_line 2 ended → Ending o arguments ended
  -- the run stopped before its text, with a cause: the cause's line with 3 (a file is refused, or the
  -- pool has no room), 4 (a file couldn't be read) or 7 (boot stopped), cut with 5, or nothing with 6
  Stops : (named : Named) (stop : Stop) → arguments ≡ Some named
      → Stopped o.files o.ports named stop → StopEnds o.out named stop ended
      → Ending o arguments ended
  -- a run is recorded, all files being read and good and the pool having room: its text with 0, cut
  -- with 5 or 6
  Runs : (named : Named) (r : Recorded) → arguments ≡ Some named → AreGood o.files.holds named
      → PoolHasRoom o.files.holds named → Asks (all_names named) o.files → RunEnds o.out r ended
      → Ending o arguments ended

-- The line says that a file, which isn't read after this one, couldn't be read, and so it is.
abbrev pub SaysNotReadUpTo : InputFile → Reading → Putting → Named → Type 0
SaysNotReadUpTo last files out named =
    (file : InputFile) × (place_of file ≤ place_of last) × IsNotRead files named file
    × Put out (not_read_line (name_of named file))

-- Where a file is known to be the first that is refused, the status is 3 with its line, or 4 where
-- this file or one before it couldn't be read; or it is 5 or 6.
abbrev pub RefusesFirst : {P : Type 0} → Outside P → Option Named → ℕ → Type 0
RefusesFirst o arguments status =
    (named : Named) (file : InputFile) (cause : Cause) → arguments ≡ Some named
    → IsKnownRefused o.files.holds named file cause
    → ((status ≡ 3) × Put o.out (refused_line (name_of named file) cause))
    ⊎ ((status ≡ 4) × SaysNotReadUpTo file o.files o.out named)
    ⊎ (status ≡ 5) ⊎ (status ≡ 6)

-- the line says that a file couldn't be read, and so it is
abbrev pub SaysNotRead : Reading → Putting → Named → Type 0
SaysNotRead files out named =
    (file : InputFile) × IsNotRead files named file × Put out (not_read_line (name_of named file))

-- Where all files are known to be good, and the map to have no room for the pool, the status is 3
-- with the line of that, or 4 where a file couldn't be read; or it is 5 or 6.
abbrev pub RefusesPool : {P : Type 0} → Outside P → Option Named → ℕ → Type 0
RefusesPool o arguments status =
    (named : Named) → arguments ≡ Some named → AreKnownGood o.files.holds named
    → PoolIsKnownRoomless o.files.holds named
    → ((status ≡ 3) × Put o.out pool_line)
    ⊎ ((status ≡ 4) × SaysNotRead o.files o.out named)
    ⊎ (status ≡ 5) ⊎ (status ≡ 6)

-- Where all files are known to be good, and the map to have room for the pool, and no fault of files
-- or sink was counted, the status is 0, or 7 where boot stopped, or 6.
abbrev pub Completes : {P : Type 0} → Outside P → Option Named → ℕ → Type 0
Completes o arguments status =
    (named : Named) → arguments ≡ Some named → AreKnownGood o.files.holds named
    → PoolHasKnownRoom o.files.holds named
    → (Rose o.files.faults_before o.files.faults_after → ⊥)
    → (Rose o.out.faults_before o.out.faults_after → ⊥)
    → (status ≡ 0) ⊎ (status ≡ 6) ⊎ (status ≡ 7)

-- how many processors the arguments ask for: one for each script
abbrev pub cpus_of : Option Named → ℕ
cpus_of None = 0
cpus_of (Some named) = cpus_in named

-- How the program ends, whatever the status.
pub record Ends {P : Type 0} (o : Outside P) (arguments : Option Named)
    (ended : Ended) : Type 0 where
  -- each status has its cause, and what was put
  pub ending : Ending o arguments ended
  -- a file that is known to be the first that is refused is refused
  pub first_refused : RefusesFirst o arguments ended.status
  -- a pool that is known to have no room is refused
  pub pool_refused : RefusesPool o arguments ended.status
  -- files that are known to be good are run
  pub complete : Completes o arguments ended.status
  -- the first of the named files were asked for, in their order, and no others
  pub asked : AsksFront (names_of arguments) o.files
  -- as many ports come back, each with its count and its promise, and those of no processor
  -- unchanged
  pub kept : PortsKept (cpus_of arguments) o.ports
