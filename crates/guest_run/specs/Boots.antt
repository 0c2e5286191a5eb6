use Rattle.std.specs.Prelude.{ℕ, List, Option, ◌≡◌, ◌⊎◌, drop}
use Rattle.guest_base.specs.Counts.{Rose}
use Rattle.guest_base.specs.declared.memory.CpuNo.{CpuNo}
use Rattle.guest_base.specs.declared.memory.Page.{Page}
use Rattle.event_core.specs.declared.boot.Recorded.{Recorded}
use Rattle.event_core.specs.Boot.{BootFront, BootStopped}
use Rattle.event_core.specs.Table.{Bits}
use Rattle.guest_map.specs.declared.map.GuestMap.{GuestMap}
use Rattle.guest_boot.specs.Placing.{HasNoRoom}
use Rattle.guest_words.specs.Words.{Named, cpus_in}
use Rattle.guest_input.specs.Files.{AreGood, IsGiven}
use Rattle.guest_input.specs.declared.stop.Stop.{Stop}
use Rattle.guest_input.specs.declared.stop.Stop.TheVariants.{Refused, NotRead, PoolNoRoom, Module, NoMemory}
use Rattle.guest_runs.specs.Asking.{Asking, Unasked, first_faults, first_made}
use Rattle.guest_runs.specs.Recordings.{Halted}
use Rattle.guest_run.specs.Booted.{BootedBy}
use Rattle.guest_run.specs.Room.{PoolHasNoRoom}

-- How a boot or a run ends before its text, and which calls the ports then have (own rule).

-- all ports but the first are as they were
abbrev pub OthersUnasked : {P : Type 0} → Asking P → Type 0
OthersUnasked ports = drop 1 ports.after ≡ drop 1 ports.before

-- boot of the map and the table stopped at a page, where a call on the first port failed; no other
-- port was asked
pub record BootFailed {P : Type 0} (ports : Asking P) (map : GuestMap) (table : Option Bits)
    (slots areas cpus : ℕ) : Type 0 where
  pub page : Page
  pub stopped
      : BootStopped map.descriptors map.hosts table slots areas cpus
      (first_made ports.made ports.after) page
  pub rose : Rose (first_faults ports.faults ports.before) (first_faults ports.faults ports.after)
  pub others : OthersUnasked ports

-- the first port's calls are the first ones of that boot, and no other port was asked
pub record BootCut {P : Type 0} (ports : Asking P) (map : GuestMap) (table : Option Bits)
    (slots areas cpus : ℕ) : Type 0 where
  pub front
      : BootFront map.descriptors map.hosts table slots areas cpus
      (first_made ports.made ports.after)
  pub others : OthersUnasked ports

-- why a boot ended early
abbrev pub BootEnds : {P : Type 0} → Asking P → GuestMap → Option Bits → ℕ → ℕ → ℕ → Stop → Type 0
BootEnds ports map table slots areas cpus (Refused at cause) = ⊥
BootEnds ports map table slots areas cpus (NotRead at) = ⊥
BootEnds ports map table slots areas cpus PoolNoRoom =
    HasNoRoom map.descriptors slots areas × Unasked ports
BootEnds ports map table slots areas cpus Module = BootFailed ports map table slots areas cpus
BootEnds ports map table slots areas cpus NoMemory = BootCut ports map table slots areas cpus

-- the pool has no place, all files being good
pub record PoolStops (holds : List ℕ → Option (List ℕ)) (named : Named) : Type 0 where
  pub good : AreGood holds named
  pub pool : PoolHasNoRoom holds named

-- boot of what the files hold stopped, all of them being good
pub record BootStops {P : Type 0} (holds : List ℕ → Option (List ℕ)) (ports : Asking P)
    (named : Named) : Type 0 where
  pub good : AreGood holds named
  pub map : GuestMap
  pub table : Option Bits
  pub given : IsGiven holds named map table
  pub failed : BootFailed ports map table named.slots named.areas (cpus_in named)

-- memory ran out in the boot of what the files hold
pub record EndsInBoot {P : Type 0} (holds : List ℕ → Option (List ℕ)) (ports : Asking P)
    (named : Named) : Type 0 where
  pub map : GuestMap
  pub table : Option Bits
  pub given : IsGiven holds named map table
  pub cut : BootCut ports map table named.slots named.areas (cpus_in named)

-- memory ran out in the run of what the files hold
pub record EndsInRun {P : Type 0} (holds : List ℕ → Option (List ℕ)) (ports : Asking P)
    (named : Named) : Type 0 where
  pub run : Recorded
  pub order : Option (List CpuNo)
  pub booted : BootedBy holds named order run.boot run.scripts
  pub halted : Halted ports run

-- Where memory ran out before a run is recorded all ports are as they were, or the first one's
-- calls are the first ones of boot's, or the ports' calls are those of a legal history.
abbrev pub EndsWithoutMemory : {P : Type 0} → (List ℕ → Option (List ℕ)) → Asking P → Named → Type 0
EndsWithoutMemory holds ports named =
    Unasked ports ⊎ EndsInBoot holds ports named ⊎ EndsInRun holds ports named
