use Rattle.std.proofs.Common.{◌≡◌, [], All, vec_len}
use Rattle.page_module.specs.MemPort.{calls_made}
use Rattle.guest_runs.proofs.tests.ports_failing.Given as goal

abbrev pub invariant-loop-cpu : goal.invariant-loop-cpu
invariant-loop-cpu l = record {
  count : vec_len l.ports ≡ l.cpu;
  unmade : All (λ port. calls_made port ≡ []) l.ports.items;
}
