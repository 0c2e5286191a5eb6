use Rattle.std.proofs.Common.{◌≡◌, ◌++◌, take}
use Rattle.std.specs.List.{flat_map}
use Rattle.efi_map.specs.Spelling.{host_bytes}
use Rattle.efi_map.proofs.writing.put_hosts.Given as goal

abbrev pub invariant-loop-run : goal.invariant-loop-run
invariant-loop-run l = l.out.items ≡ l.fn.out.items ++ flat_map host_bytes (take l.run-index l.hosts)
