use Rattle.std.specs.Prelude.{ℕ, List, [], ◌∷◌, ◌++◌, Some, All, true, drop, slice_get, ◌==◌, ◌≡◌, ◌≤◌, if◌then◌else◌}
use Rattle.guest_base.specs.Counts.{Rose}
use Rattle.event_core.specs.declared.boot.Recorded.{Recorded}
use Rattle.event_core.specs.declared.module_call.ModuleCall.{ModuleCall}
use Rattle.event_core.specs.Turns.{entries_by}
use Rattle.guest_steps.specs.Replies.{calls_reported, some_module}

-- What ports were asked (own rule).

-- Ports before and after, each at the place of its processor's number: which calls each has made,
-- how often its module failed, and that it never does.
pub record Asking (P : Type 0) : Type 1 where
  pub made : P → List ModuleCall
  pub faults : P → ℕ
  pub never_fails : P → Type 0
  pub before : List P
  pub after : List P

-- the ports that were `old` and are `new`, by a port's ghost members
abbrev pub asking : {P : Type 0} → (P → List ModuleCall) → (P → ℕ) → (P → Type 0) → List P → List P
    → Asking P
asking made faults never_fails old new = record {
  made = made;
  faults = faults;
  never_fails = never_fails;
  before = old;
  after = new;
}

-- the first port's calls, and its count of faults
abbrev pub first_made : {P : Type 0} → (P → List ModuleCall) → List P → List ModuleCall
first_made made [] = []
first_made made (port ∷ ports) = made port

abbrev pub first_faults : {P : Type 0} → (P → ℕ) → List P → ℕ
first_faults faults [] = 0
first_faults faults (port ∷ ports) = faults port

-- no port but the first has made a call
abbrev pub OthersUnmade : {P : Type 0} → (P → List ModuleCall) → List P → Type 0
OthersUnmade made ports = All (λ port. made port ≡ []) (drop 1 ports)

-- all ports are as they were
abbrev pub Unasked : {P : Type 0} → Asking P → Type 0
Unasked ports = ports.after ≡ ports.before

-- a port's count of faults isn't lower, and if it never failed it never fails
pub record PortKept {P : Type 0} (count_of : P → ℕ) (NeverFails : P → Type 0)
    (old new : P) : Type 0 where
  pub faults : count_of old ≤ count_of new
  pub never_fails : NeverFails old → NeverFails new

-- so it is with each port, and as many come back
abbrev pub EachKept : {P : Type 0} → (P → ℕ) → (P → Type 0) → List P → List P → Type 0
EachKept count_of NeverFails [] [] = Unit {0}
EachKept count_of NeverFails (old ∷ olds) (new ∷ news) =
    PortKept count_of NeverFails old new × EachKept count_of NeverFails olds news
EachKept count_of NeverFails [] (new ∷ news) = ⊥
EachKept count_of NeverFails (old ∷ olds) [] = ⊥

-- The ports that come back from a run of this many processors: each is kept, and those behind the
-- processors' are as they were.
pub record PortsKept {P : Type 0} (cpus : ℕ) (ports : Asking P) : Type 0 where
  pub each : EachKept ports.faults ports.never_fails ports.before ports.after
  pub others : drop cpus ports.after ≡ drop cpus ports.before

-- the calls of a processor's port: first boot's, where it is the first processor, and then those
-- that the processor's entries report
abbrev pub port_calls : Recorded → ℕ → List ModuleCall
port_calls r cpu =
    (if cpu == 0 then r.boot.calls else []) ++ calls_reported (entries_by cpu r.entries)

-- each port has made the calls of its processor, and no others
abbrev pub PortsMade : {P : Type 0} → Asking P → Recorded → Type 0
PortsMade {P} ports r =
    (cpu : ℕ) (port : P) → slice_get ports.after cpu ≡ Some port
    → ports.made port ≡ port_calls r cpu

-- a command of a processor was answered that the module failed only where the count of faults of
-- this processor's port rose
abbrev pub ModuleFailed : {P : Type 0} → Asking P → Recorded → Type 0
ModuleFailed {P} ports r =
    (cpu : ℕ) (old new : P) → slice_get ports.before cpu ≡ Some old
    → slice_get ports.after cpu ≡ Some new
    → some_module (entries_by cpu r.entries) ≡ true → Rose (ports.faults old) (ports.faults new)
