use Rattle.std.proofs.Common.{◌≡◌, ◌++◌, ◌+◌, ◌≤◌, All, length, map, reverse, vec_len, vec_capacity}
use Rattle.guest_steps.specs.Ground.{Ground}
use Rattle.guest_steps.specs.Standing.{Stands}
use Rattle.guest_cpu.specs.Standing.{CpuStands, seen_by}
use Rattle.guest_runs.specs.OnPorts.{first_on, ports_of}
use Rattle.guest_runs.proofs.seats.start_all.Given as goal

abbrev pub invariant-loop-script : goal.invariant-loop-script
invariant-loop-script g l = record {
  scripts : l.fn.scripts ≡ l.yielded ++ l.script-iterator.rest.items;
  count : vec_len l.all ≡ length l.yielded;
  room : vec_capacity l.all ≡ length l.fn.scripts;
  hosts : All (λ copy. copy ≡ l.fn.boot.hosts) l.hosts.items;
  hosts_count : vec_len l.hosts + vec_len l.all ≡ length l.fn.scripts;
  ports : l.fn.ports.items ≡ ports_of l.all.items ++ reverse l.ports.items;
  ports_count : vec_len l.ports + vec_len l.all ≡ vec_len l.fn.ports;
  seen : map (seen_by g.P.Port.made g.P.Port.faults) l.all.items ≡ first_on g.P.Port.made g.P.Port.faults l.fn.boot 0 l.yielded (ports_of l.all.items);
  stand : All (λ c. (base : Ground) → Stands (seen_by g.P.Port.made g.P.Port.faults c) base → CpuStands g.P.Port.made g.P.Port.faults g.P.Port.room c base) l.all.items;
  port_room : vec_len l.fn.ports ≤ vec_capacity l.ports;
}
