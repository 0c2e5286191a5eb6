-- What a port with a gate stands for.
use Rattle.std.specs.Prelude.{◌≡◌, ◌⊎◌, ℕ, List}
use Rattle.guest_base.specs.Counts.{raised_by}
use Rattle.event_core.specs.declared.module_call.ModuleCall.{ModuleCall}
use Rattle.event_core.specs.declared.module_call.PortAnswer.{PortAnswer}
use Rattle.event_core.specs.declared.module_call.PortAnswer.TheVariants.{Failed}
use Rattle.gate_port.specs.declared.gate.GatePort.{GatePort}

-- the calls of the module so far, in order
abbrev pub calls_made : GatePort → List ModuleCall
calls_made port = port.log.calls

-- the faults so far
abbrev pub faults_of : GatePort → ℕ
faults_of port = port.faults

-- how many calls can be made without memory
abbrev pub room_of : GatePort → ℕ
room_of port = port.log.room

-- at a closed gate the answer is Failed, which is one fault more
pub record IsClosed (old new : GatePort) (result : PortAnswer) : Type 0 where
  pub answer : result ≡ Failed
  pub faults : faults_of new ≡ raised_by 1 (faults_of old)

-- through an open gate the answer is the one without a fault
pub record IsOpen (old new : GatePort) (honest result : PortAnswer) : Type 0 where
  pub answer : result ≡ honest
  pub faults : faults_of new ≡ faults_of old

-- the gate is closed or open: nothing is known of the other port
abbrev pub PassesOrFails : GatePort → GatePort → PortAnswer → PortAnswer → Type 0
PassesOrFails old new honest result = IsClosed old new result ⊎ IsOpen old new honest result
