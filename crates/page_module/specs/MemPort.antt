-- What a port in memory stands for.
use Rattle.std.specs.Prelude.{◌≡◌, ℕ, ◌+◌, ◌≤◌, Bool, List, [], length, if◌then◌else◌}
use Rattle.guest_base.specs.Counts.{raised_by}
use Rattle.guest_base.specs.Failing.{fails_at}
use Rattle.event_core.specs.declared.module_call.ModuleCall.{ModuleCall}
use Rattle.event_core.specs.declared.module_call.PortAnswer.{PortAnswer}
use Rattle.event_core.specs.declared.module_call.PortAnswer.TheVariants.{Failed}
use Rattle.page_module.specs.declared.mem_port.MemPort.{MemPort}

-- the calls of the module so far, in order
abbrev pub calls_made : MemPort → List ModuleCall
calls_made port = port.log.calls

-- the faults so far
abbrev pub faults_of : MemPort → ℕ
faults_of port = port.faults

-- how many calls can be made without memory
abbrev pub room_of : MemPort → ℕ
room_of port = port.log.room

-- the numbers of the calls that are to fail
abbrev pub failing_of : MemPort → List ℕ
failing_of port = port.failing.items

-- no call is to fail, and none has failed
abbrev pub NeverFails : MemPort → Type 0
NeverFails port = (failing_of port ≡ []) × (faults_of port ≡ 0)

-- the next call is one of those that are to fail: calls of every kind are counted together, from 1
abbrev pub fails_next : MemPort → Bool
fails_next port = fails_at (failing_of port) (length (calls_made port) + 1)

-- The answer to a call is Failed exactly where it is one of those that are to fail, else the answer
-- without a fault; each failure is one fault more, and the calls that are to fail stay the same.
pub record FailsAsTold (old new : MemPort) (honest result : PortAnswer) : Type 0 where
  pub answer : result ≡ (if fails_next old then Failed else honest)
  pub faults : faults_of new
      ≡ (if fails_next old then raised_by 1 (faults_of old) else faults_of old)
  pub faults_kept : faults_of old ≤ faults_of new
  pub failing : failing_of new ≡ failing_of old
