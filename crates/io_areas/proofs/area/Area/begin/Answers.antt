use Rattle.std.proofs.Common.{Some, refl, sym, ap, subst, ◌∙◌, arith}
use Rattle.std.proofs.lemmas.List.{with_items_is}
use Rattle.guest_base.specs.Parts.{with_part}
use Rattle.event_core.specs.declared.event.Event.TheVariants.{Looked}
use Rattle.event_core.specs.Legal.{greatest_stamp}
use Rattle.event_core.specs.Pool.{is_used}
use Rattle.pool_laws.specs.Live.{IsInArea, live_in}
use Rattle.io_areas.specs.Transfers.{bare_by}
use Rattle.io_areas.specs.Value.{AreaValue}
use Rattle.io_areas.proofs.StepLemmas.{area-taken}
use Rattle.io_areas.proofs.area.Area.begin.Goals as goal

pub invariant_of-self : goal.invariant_of-self
invariant_of-self c =
    let i = c.self.inside in
    let run = c.args.run in
    let bytes = c.args.bytes.now in
    let m = bare_by i.number (greatest_stamp i.transfers.moved) c.args.turn.now (Looked i.number (Some run)) bytes in
    let P : AreaValue → Type 0 = λ a. IsInArea a.number a.slots run in
    area-taken i.number i.count i.slots c.take.new.self i.bytes.items _ i.transfers.moved c.append.new.self.moved m run c.append.ensures.moved refl
    (with_items_is i.bytes c.part_in.new.pool (omega arith) ∙ c.part_in.ensures ∙ ap (λ old. with_part old c.byte_of.result bytes) c.deref_mut.ensures.value
    ∙ ap (λ at. with_part i.bytes.items at bytes) c.byte_of.ensures)
    c.requires.bytes
    (subst P (sym c.self.view_is) c.requires.area)
    (λ slot within. ap (λ (a : AreaValue). is_used (live_in a.moved) slot) c.self.view_is ∙ c.requires.free slot within)
    c.take.ensures.count c.take.ensures.used c.take.ensures.hint c.self.invariant
