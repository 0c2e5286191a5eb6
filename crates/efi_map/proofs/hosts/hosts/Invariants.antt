use Rattle.std.proofs.Common.{◌≡◌, [], length, ◌-◌}
use Rattle.std.specs.BTreeMap.{get}
use Rattle.std.specs.Ordering.{nat_cmp}
use Rattle.efi_map.specs.Starts.{IndexesHosts}
use Rattle.efi_map.specs.MapFile.{hosts_at}
use Rattle.efi_map.proofs.hosts.hosts.Given as goal

abbrev pub invariant-loop : goal.invariant-loop
invariant-loop l = record {
  number : length l.found.items ≡ l.counter;
  index : IndexesHosts (get nat_cmp l.starts) l.found.items;
  rest : hosts_at l.size (l.count - l.counter) l.found.items l.rest ≡ hosts_at l.size l.count [] l.bytes;
}
