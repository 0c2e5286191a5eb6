use Rattle.std.proofs.Common.{ap, ◌∙◌, arith}
use Rattle.std.proofs.Math.ListN.{replicate}
use Rattle.io_areas.proofs.StepLemmas.{area-first}
use Rattle.io_areas.proofs.area.Area.new.Goals as goal

pub invariant_of-result : goal.invariant_of-result
invariant_of-result c =
    let slots = c.in_ok-new.ensures in
    area-first c.args.number c.args.slots c.in_ok-new.field-0 c.in_ok-vec.field-0.items c.new-2.result.moved c.new-2.ensures c.requires.number c.requires.few slots.count slots.hint slots.free
    (c.in_ok-vec.ensures.items_if_clones_equal (λ y same. same) ∙ ap (λ n. replicate n 0) (omega arith))
