use Rattle.std.proofs.Common.{◌≡◌, ◌++◌, ◌+◌, ◌≤◌, map, reverse, vec_len, vec_capacity}
use Rattle.guest_cpu.specs.Standing.{seen_by}
use Rattle.guest_steps.specs.Seen.{entries_made}
use Rattle.guest_runs.specs.OnPorts.{ports_of}
use Rattle.guest_runs.proofs.seats.finish_all.Given as goal

abbrev pub invariant-loop-cpu : goal.invariant-loop-cpu
invariant-loop-cpu g l = record {
  ports : ports_of l.fn.all.items ++ reverse l.fn.ports.items ≡ ports_of l.all.items ++ reverse l.ports.items;
  scripts : map (λ c. (seen_by g.P.Port.made g.P.Port.faults c).script) l.fn.all.items ≡ map (λ c. (seen_by g.P.Port.made g.P.Port.faults c).script) l.all.items ++ reverse l.left.scripts.items;
  lists : map (λ c. entries_made (seen_by g.P.Port.made g.P.Port.faults c)) l.fn.all.items ≡ map (λ c. entries_made (seen_by g.P.Port.made g.P.Port.faults c)) l.all.items ++ reverse l.left.lists.items;
  port_room : vec_len l.ports + vec_len l.all ≤ vec_capacity l.ports;
  script_room : vec_len l.left.scripts + vec_len l.all ≤ vec_capacity l.left.scripts;
  list_room : vec_len l.left.lists + vec_len l.all ≤ vec_capacity l.left.lists;
}

abbrev pub decreases-loop-cpu : goal.decreases-loop-cpu
decreases-loop-cpu g l = goal.left-loop-cpu g l
