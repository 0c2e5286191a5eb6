use Rattle.std.proofs.Common.{◌≡◌, ◌*◌, [], length, All}
use Rattle.gate_port.specs.Gate.{calls_made}
use Rattle.gate_port.specs.declared.gate.GatePort.{GatePort}
use Rattle.guest_run.proofs.tests.gate_ports.Given as goal

abbrev pub invariant-loop-pair : goal.invariant-loop-pair
invariant-loop-pair l = record {
  count : length l.ports.items ≡ 2 * l.pair;
  unmade : All (λ (port : GatePort). calls_made port ≡ []) l.ports.items;
}
