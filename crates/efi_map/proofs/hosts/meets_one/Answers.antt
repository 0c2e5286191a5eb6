use Rattle.std.proofs.Common.{◌≡◌, ◌+◌, ◌-◌, sym, false, arith}
use Rattle.std.specs.List.{list_any}
use Rattle.std.specs.BTreeMap.{get}
use Rattle.std.specs.Ordering.{nat_cmp}
use Rattle.std.proofs.lemmas.List.Folds.{list_any_none}
use Rattle.efi_map.specs.MapFile.{hosts_meet}
use Rattle.efi_map.specs.Starts.{host_start, host_end}
use Rattle.efi_map.proofs.Index.{clear}
use Rattle.efi_map.proofs.hosts.meets_one.Goals as goal

pub returns-else-not-is_clear : goal.returns-else-not-is_clear
returns-else-not-is_clear c =
    let last : (c.args.run.pages.first + (c.args.run.pages.count - 1)) + 1 ≡ host_end c.args.run = omega (arith, c.requires.record) in
    let apart = clear host_start host_end (get nat_cmp c.args.starts.now) c.args.before.now c.args.run (c.args.run.pages.first + (c.args.run.pages.count - 1)) last c.requires.index c.if-not-is_clear.ensures.clear in
    let none : list_any (hosts_meet c.args.run) c.args.before.now ≡ false = list_any_none (hosts_meet c.args.run) c.args.before.now apart in
    rw c.if-not-is_clear.false (sym none)
