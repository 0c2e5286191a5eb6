use Rattle.std.proofs.Common.{◌≡◌, ap, ◌∙◌}
use Rattle.guest_map.specs.Ram.{ram_of}
use Rattle.guest_map.proofs.RamOf.{ordered, maximal}
use Rattle.guest_map.proofs.map.GuestMap.ram.Goals as goal

pub joined-requires : goal.joined-requires
joined-requires c =
    let made : c.in_ok-runs.runs.items ≡ ram_of c.args.self.now.descriptors = c.in_ok-runs.ensures ∙ ap ram_of c.as_slice.ensures in
    let same = rw made at c.sort.ensures.same in
    rw c.deref.ensures.value (ordered c.args.self.now.descriptors c.args.self.now.hosts c.sort.new.runs.items c.requires same c.sort.ensures.rise)

pub returns : goal.returns
returns c =
    let made : c.in_ok-runs.runs.items ≡ ram_of c.args.self.now.descriptors = c.in_ok-runs.ensures ∙ ap ram_of c.as_slice.ensures in
    let same = rw made at c.sort.ensures.same in
    let are = ordered c.args.self.now.descriptors c.args.self.now.hosts c.sort.new.runs.items c.requires same c.sort.ensures.rise in
    maximal c.args.self.now.descriptors c.sort.new.runs.items c.joined.result are same (rw c.deref.ensures.value at c.joined.ensures)
