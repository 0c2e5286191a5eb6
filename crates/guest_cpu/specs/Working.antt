use Rattle.std.specs.Prelude.{ℕ, List, [], ◌∷◌, ◌++◌, Option, None, Some, ◌≡◌, ◌≢◌, ◌+◌, ◌≤◌, length}
use Rattle.guest_base.specs.Counts.{Rose}
use Rattle.guest_base.specs.declared.memory.HostRun.{HostRun}
use Rattle.guest_base.specs.declared.memory.Units.{Units}
use Rattle.event_core.specs.declared.boot.Boot.{Boot}
use Rattle.event_core.specs.declared.module_call.ModuleCall.{ModuleCall}
use Rattle.event_core.specs.Acceptance.{stop_of}
use Rattle.event_core.specs.MemoryRows.{pages_count}
use Rattle.page_module.specs.Spans.{Taken}
use Rattle.accept_sizes.specs.Accepts.{Accepts}
use Rattle.accept_sizes.specs.Ends.{stopped_at}
use Rattle.accept_sizes.specs.Room.{most_calls_of}
use Rattle.accept_sizes.specs.declared.accept.RunEnd.{RunEnd}
use Rattle.guest_steps.specs.Seen.{Accepted}
use Rattle.guest_cpu.specs.declared.progress.OpenRun.{OpenRun}
use Rattle.guest_cpu.specs.Progressing.{Progressed}

-- The work for the pages that are out.

-- what a port was asked, how often it failed and for how many calls it has room, before and after
pub record Asked : Type 0 where
  pub made_before : List ModuleCall
  pub made : List ModuleCall
  pub faults_before : ℕ
  pub faults : ℕ
  pub room_before : ℕ
  pub room : ℕ

abbrev pub asked : {P : Type 0} → (P → List ModuleCall) → (P → ℕ) → (P → ℕ) → P → P → Asked
asked made faults room old new = record {
  made_before = made old;
  made = made new;
  faults_before = faults old;
  faults = faults new;
  room_before = room old;
  room = room new;
}

-- calls accepted the span's pages, with this end, and the port was asked them
pub record DoneBy (hosts : List HostRun) (old new : Taken) (calls : List ModuleCall) (end : RunEnd)
    (port : Asked) : Type 0 where
  pub accepts : Accepts hosts old new calls
  pub stop : stop_of calls ≡ stopped_at end
  pub made : port.made ≡ port.made_before ++ calls
  pub few : length calls ≤ most_calls_of old.ticket.pages.count
  pub rose : stopped_at end ≢ None → Rose port.faults_before port.faults
  pub room : port.room_before ≤ port.room + most_calls_of old.ticket.pages.count

-- an open run was worked on
pub record WorkedOn (hosts : List HostRun) (old new : OpenRun) (port : Asked) : Type 0 where
  pub run : new.room.run ≡ old.room.run
  pub copy : new.room.copy ≡ old.room.copy
  pub end : RunEnd
  pub is : new.end ≡ Some end
  pub done : DoneBy hosts old.span new.span new.room.log.calls end port

-- the port was asked nothing
pub record IsQuiet (port : Asked) : Type 0 where
  pub made : port.made ≡ port.made_before
  pub room : port.room_before ≤ port.room

-- the span that is out has as many pages as the units of the first run
abbrev pub FitsFirst : Boot → Option Taken → List Units → Type 0
FitsFirst boot None runs = Unit {0}
FitsFirst boot (Some span) [] = ⊥
FitsFirst boot (Some span) (run ∷ later) = span.ticket.pages.count ≡ pages_count boot run

-- the most calls that are owed for the span that is out
abbrev pub most_owed : Option Taken → Option Accepted → ℕ
most_owed None accepted = 0
most_owed (Some span) (Some done) = 0
most_owed (Some span) None = most_calls_of span.ticket.pages.count

-- the calls for the span were made
pub record Accepting (old new : Progressed) (span : Taken) (port : Asked) : Type 0 where
  pub accepted : Taken
  pub calls : List ModuleCall
  pub end : RunEnd
  pub course : new ≡ record old {
    out = Some accepted;
    done = Some (record { calls = calls; end = end });
  }
  pub by : DoneBy old.boot.hosts span accepted calls end port

-- nothing was owed
pub record Resting (old new : Progressed) (port : Asked) : Type 0 where
  pub same : new ≡ old
  pub quiet : IsQuiet port

-- what is owed is done
abbrev pub DoesOwed : Option Taken → Option Accepted → Progressed → Progressed → Asked → Type 0
DoesOwed None accepted old new port = Resting old new port
DoesOwed (Some span) (Some done) old new port = Resting old new port
DoesOwed (Some span) None old new port = Accepting old new span port
