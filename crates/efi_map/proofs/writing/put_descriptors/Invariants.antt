use Rattle.std.proofs.Common.{◌≡◌, ◌++◌, take}
use Rattle.std.specs.List.{flat_map}
use Rattle.efi_map.specs.Spelling.{descriptor_bytes}
use Rattle.efi_map.proofs.writing.put_descriptors.Given as goal

abbrev pub invariant-loop-d : goal.invariant-loop-d
invariant-loop-d l = l.out.items ≡ l.fn.out.items ++ flat_map descriptor_bytes (take l.d-index l.descriptors)
