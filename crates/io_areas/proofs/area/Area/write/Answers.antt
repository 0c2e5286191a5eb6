use Rattle.std.proofs.Common.{Some, sym, ap, ◌∙◌, arith}
use Rattle.std.proofs.lemmas.List.{with_items_is}
use Rattle.guest_base.specs.Parts.{with_part}
use Rattle.event_core.specs.Legal.{greatest_stamp}
use Rattle.io_areas.specs.Steps.{pool_at}
use Rattle.io_areas.specs.Transfers.{bare_by}
use Rattle.io_areas.specs.Value.{AreaValue}
use Rattle.io_areas.proofs.StepLemmas.{area-written}
use Rattle.io_areas.proofs.area.Area.write.Goals as goal

pub invariant_of-self : goal.invariant_of-self
invariant_of-self c =
    let i = c.self.inside in
    let at = c.args.at in
    let bytes = c.args.bytes.now in
    let m = bare_by i.number (greatest_stamp i.transfers.moved) c.args.turn.now c.args.event bytes in
    let slots = ap (λ (a : AreaValue). a.slots) c.self.view_is in
    let inside = c.requires.inside in
    area-written i.number i.count at i.slots i.bytes.items _ i.transfers.moved c.append.new.self.moved m c.append.ensures.moved
    (with_items_is i.bytes c.part_in.new.pool (omega arith) ∙ c.part_in.ensures ∙ ap (λ old. with_part old at bytes) c.deref_mut.ensures.value)
    c.requires.leaves
    (omega (arith, slots, inside))
    (λ boot size. c.requires.place boot (size ∙ slots) ∙ ap (λ (a : AreaValue). (let place = pool_at a at in Some place)) (sym c.self.view_is))
    c.self.invariant
