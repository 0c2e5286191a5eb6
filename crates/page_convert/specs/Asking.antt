use Rattle.std.specs.Prelude.{ℕ, List, ◌≡◌, ◌≢◌, ◌+◌, ◌≤◌, ◌++◌, length}
use Rattle.guest_base.specs.Counts.{Rose}
use Rattle.event_core.specs.declared.event.ConvertEnd.{ConvertEnd}
use Rattle.event_core.specs.declared.event.ConvertEnd.TheVariants.{Converted}
use Rattle.event_core.specs.declared.module_call.ModuleCall.{ModuleCall}

-- What a conversion leaves of a port and of a log (own rule).

-- calls stand behind those before, and each took one place of the room at most
pub record AddsCalls {K : Type 0} (calls_in : K → List ModuleCall) (room_in : K → ℕ) (old new : K)
    (calls : List ModuleCall) : Type 0 where
  pub added : calls_in new ≡ calls_in old ++ calls
  pub room_used : room_in old ≤ room_in new + length calls

-- A conversion ends otherwise than Converted only where the port's count of faults rose. Faults stay;
-- a port that never fails still doesn't, and the conversion is done.
pub record FailsByFault {P : Type 0} (faults_of : P → ℕ) (NeverFails : P → Type 0) (old new : P)
    (end : ConvertEnd) : Type 0 where
  pub rose : end ≢ Converted → Rose (faults_of old) (faults_of new)
  pub faults_kept : faults_of old ≤ faults_of new
  pub never_fails_kept : NeverFails old → NeverFails new
  pub never_failed : NeverFails old → end ≡ Converted
