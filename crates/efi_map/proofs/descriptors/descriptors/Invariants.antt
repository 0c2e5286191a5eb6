use Rattle.std.proofs.Common.{◌≡◌, [], length, ◌-◌, ◌≤◌, ◌^◌, sum_by}
use Rattle.event_core.specs.Map.{ram_pages}
use Rattle.std.specs.BTreeMap.{get}
use Rattle.std.specs.Ordering.{nat_cmp}
use Rattle.efi_map.specs.Starts.{IndexesDescriptors}
use Rattle.efi_map.specs.MapFile.{descriptors_at}
use Rattle.efi_map.proofs.descriptors.descriptors.Given as goal

abbrev pub invariant-loop : goal.invariant-loop
invariant-loop l = record {
  number : length l.found.items ≡ l.counter;
  index : IndexesDescriptors (get nat_cmp l.starts) l.found.items;
  ram : l.ram ≡ sum_by ram_pages l.found.items;
  few : sum_by ram_pages l.found.items ≤ 2 ^ 24;
  rest : descriptors_at l.size l.stride (l.count - l.counter) l.found.items l.rest ≡ descriptors_at l.size l.stride l.count [] l.bytes;
}
