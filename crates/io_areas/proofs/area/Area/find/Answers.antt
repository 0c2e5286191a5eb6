use Rattle.std.proofs.Common.{◌≡◌, Some, sym, ap, subst, ◌∙◌}
use Rattle.std.specs.Option.{option_map}
use Rattle.guest_base.specs.declared.transfer.SlotRun.{SlotRun}
use Rattle.guest_base.specs.Ranges.{in_range}
use Rattle.event_core.specs.Moved.{entries_of}
use Rattle.event_core.specs.Pool.{is_used, run_for, run_found}
use Rattle.pool_laws.specs.Live.{IsInArea, live_in}
use Rattle.io_areas.specs.Value.{AreaValue}
use Rattle.io_areas.proofs.SlotLemmas.{found-by, found-place}
use Rattle.io_areas.proofs.area.Area.find.Goals as goal

pub returns-in_err-first-clause-found : goal.returns-in_err-first-clause-found
returns-in_err-first-clause-found c boot size =
    let i = c.self.inside in
    let count = size ∙ sym (ap (λ (a : AreaValue). a.slots) c.self.view_is) in
    c.from_residual.ensures
    ∙ ap (option_map (run_for i.number c.args.request)) (sym c.in_err-first.was ∙ c.fits.ensures)
    ∙ sym (found-by boot i.number i.count i.transfers.moved i.slots c.args.request count c.self.invariant.slots_stand)
    ∙ ap (λ (a : AreaValue). run_found boot (entries_of a.moved) a.number c.args.request) c.self.view_is

pub returns-clause-found : goal.returns-clause-found
returns-clause-found c boot size =
    let i = c.self.inside in
    let count = size ∙ sym (ap (λ (a : AreaValue). a.slots) c.self.view_is) in
    ap (λ (run : SlotRun). Some run) c.run_for.ensures
    ∙ ap (option_map (run_for i.number c.args.request)) (sym c.in_ok-first.was ∙ c.fits.ensures)
    ∙ sym (found-by boot i.number i.count i.transfers.moved i.slots c.args.request count c.self.invariant.slots_stand)
    ∙ ap (λ (a : AreaValue). run_found boot (entries_of a.moved) a.number c.args.request) c.self.view_is

pub returns-clause-area : goal.returns-clause-area
returns-clause-area c run is =
    let i = c.self.inside in
    let place = found-place i.number i.count c.in_ok-first.first i.transfers.moved i.slots c.args.request c.self.invariant.slots_stand c.requires (sym c.fits.ensures ∙ c.in_ok-first.was) in
    let result : c.run_for.result ≡ run = cc in
    let P : AreaValue → Type 0 = λ a. IsInArea a.number a.slots run in
    subst P c.self.view_is (subst (IsInArea i.number i.count) (sym c.run_for.ensures ∙ result) place.area)

pub returns-clause-free : goal.returns-clause-free
returns-clause-free c run is slot within =
    let i = c.self.inside in
    let place = found-place i.number i.count c.in_ok-first.first i.transfers.moved i.slots c.args.request c.self.invariant.slots_stand c.requires (sym c.fits.ensures ∙ c.in_ok-first.was) in
    let result : c.run_for.result ≡ run = cc in
    sym (ap (λ (a : AreaValue). is_used (live_in a.moved) slot) c.self.view_is)
    ∙ place.free slot (ap (λ (r : SlotRun). in_range r.first r.count slot) (sym c.run_for.ensures ∙ result) ∙ within)
