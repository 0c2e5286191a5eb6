use Rattle.std.specs.Prelude.{ℕ, List, Option, None, Some, Result, IfOk, OnErr, ◌≡◌, length}
use Rattle.guest_base.specs.declared.memory.PageRun.{PageRun}
use Rattle.event_core.specs.declared.boot.Boot.{Boot}
use Rattle.event_core.specs.declared.boot.Recorded.{Recorded}
use Rattle.event_core.specs.declared.command.Command.{Command}
use Rattle.event_core.specs.AcceptedOnce.{AcceptedOnce}
use Rattle.event_core.specs.BytesTold.{BytesTold}
use Rattle.event_core.specs.Disjoint.{Disjoint}
use Rattle.event_core.specs.FullOnlyWhereFull.{FullOnlyWhereFull}
use Rattle.event_core.specs.Legal.{Legal, Whole}
use Rattle.event_core.specs.Turns.{Turned}
use Rattle.event_core.specs.Untouched.{Untouched}
use Rattle.event_core.specs.Printed.{FinalRuns}
use Rattle.guest_runs.specs.Asking.{Asking, ModuleFailed, PortsKept, PortsMade}

-- What is promised of a recorded run (own rule).

-- the run was made by turns in this order, where there is one; a run on threads has none
abbrev pub TurnedWhere : Option (List ℕ) → Recorded → Type 0
TurnedWhere None r = Unit {0}
TurnedWhere (Some order) r = Turned r.boot r.scripts order r.entries

-- one history in which every command stands once in its processor's order
pub record OneHistory (order : Option (List ℕ)) (r : Recorded) : Type 0 where
  pub whole : Whole r.boot r.scripts r.entries
  pub turned : TurnedWhere order r

-- What every recorded run keeps, whatever the status.
pub record KeepsRun {P : Type 0} (ports : Asking P) (order : Option (List ℕ))
    (r : Recorded) : Type 0 where
  -- the entries are one history, in which every command has its one reply
  pub history : OneHistory order r
  -- each module call found its pages in the state that it needs
  pub accepted_once : AcceptedOnce r.boot r.entries
  -- no pending page is touched
  pub untouched : Untouched r.boot r.scripts r.entries
  -- live mappings are disjoint
  pub disjoint : Disjoint r.entries
  -- replies tell the last bytes written
  pub bytes : BytesTold r.boot r.scripts r.entries
  -- a mapping is full only where nothing fits
  pub full : FullOnlyWhereFull r.boot r.scripts r.entries
  -- each port was asked exactly for the calls of its processor's entries, the first for boot's
  -- first
  pub calls : PortsMade ports r
  -- a command was answered `module` only where its processor's port failed
  pub «module» : ModuleFailed ports r

-- the ports' calls are those of a run with a legal history, which needn't be whole
pub record Halted {P : Type 0} (ports : Asking P) (r : Recorded) : Type 0 where
  pub legal : Legal r.boot r.scripts r.entries
  pub calls : PortsMade ports r

-- such a run of this boot and these scripts
pub record RunHalts {P : Type 0} (ports : Asking P) (boot : Boot)
    (scripts : List (List Command)) : Type 0 where
  pub run : Recorded
  pub boot_is : run.boot ≡ boot
  pub scripts_are : run.scripts ≡ scripts
  pub halted : Halted ports run

-- What a run of a boot's scripts tells: what is recorded keeps all this, and the runs of pages are
-- the final ones; where memory ran out the ports' calls are those of a legal history.
pub record Tells {P E : Type 0} (ports : Asking P) (order : Option (List ℕ)) (boot : Boot)
    (scripts : List (List Command)) (result : Result (Recorded × List PageRun) E) : Type 0 where
  pub boot_is : IfOk result (λ r. r.0.boot ≡ boot)
  pub scripts_are : IfOk result (λ r. r.0.scripts ≡ scripts)
  pub run : IfOk result (λ r. KeepsRun ports order r.0)
  pub final_runs : IfOk result (λ r. FinalRuns r.0 r.1)
  pub halted : OnErr result (RunHalts ports boot scripts)
  pub kept : PortsKept (length scripts) ports
