use Rattle.std.proofs.Common.{◌≡◌, [], length, All}
use Rattle.page_module.specs.MemPort.{calls_made}
use Rattle.page_module.specs.declared.mem_port.MemPort.{MemPort}
use Rattle.guest.proofs.make_ports.Given as goal

abbrev pub invariant-loop-cpu : goal.invariant-loop-cpu
invariant-loop-cpu l = record {
  count : length l.ports.items ≡ l.cpu;
  unmade : All (λ (port : MemPort). calls_made port ≡ []) l.ports.items;
}
