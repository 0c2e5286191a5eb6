use Rattle.std.proofs.Common.{◌≡◌, ◌+◌, ◌-◌, sym, arith}
use Rattle.std.specs.BTreeMap.{get}
use Rattle.std.specs.Ordering.{nat_cmp}
use Rattle.event_core.specs.Map.{descriptor_end}
use Rattle.efi_map.specs.MapFile.{meet}
use Rattle.efi_map.specs.Starts.{descriptor_start}
use Rattle.efi_map.proofs.Steps.{position_of_none}
use Rattle.efi_map.proofs.Index.{clear}
use Rattle.efi_map.proofs.descriptors.first_met.Goals as goal

pub returns-then-is_clear : goal.returns-then-is_clear
returns-then-is_clear c =
    let last : (c.end.result - 1) + 1 ≡ descriptor_end c.args.d = omega (arith, c.end.ensures, c.requires.some) in
    let apart = clear descriptor_start descriptor_end (get nat_cmp c.args.starts.now) c.args.before.now c.args.d (c.end.result - 1) last c.requires.index c.if-is_clear.ensures.clear in
    sym (position_of_none (meet c.args.d) c.args.before.now apart)
