use Rattle.std.proofs.Common.{◌≡◌, ◌∙◌, Err, List, sym, ap, subst}
use Rattle.std.specs.Prelude.{All}
use Rattle.std.specs.List.{AllPairs}
use Rattle.std.proofs.lemmas.Result.{err_from_is_err_and}
use Rattle.guest_base.specs.declared.memory.PageRun.{PageRun}
use Rattle.event_core.specs.declared.module_call.ModuleCall.{ModuleCall}
use Rattle.event_core.specs.Calls.{SoundCalls}
use Rattle.event_core.specs.Runs.{GoesBefore, state_in as first_state_of}
use Rattle.page_module.specs.States.{state_in}
use Rattle.memory_core.specs.Bitmaps.{BitsAfter}
use Rattle.guest_boot.specs.Booting.{StandsAfter, IsEarly, PoolGetsAccepted}
use Rattle.guest_boot.specs.Placing.{pool_in}
use Rattle.guest_boot.specs.Putting.{StagesPut}
use Rattle.guest_boot.specs.declared.accept.Kept.{Kept}
use Rattle.guest_boot.specs.declared.fault.BootFault.TheVariants.{PoolNoRoom, Module}
use Rattle.guest_boot.proofs.PlaceLemmas.{place-none}
use Rattle.guest_boot.proofs.SlotLemmas.{pages-some}
use Rattle.guest_boot.proofs.StartLemmas.{ram-ends, ram-rises, first-stands, cut-is}
use Rattle.guest_boot.proofs.StageLemmas.{bits-same, with_calls}
use Rattle.guest_boot.proofs.BootLemmas.{Begins, begins-booted, begins-early, begins-lies, begins-accepted, begins-areas, begins-layout, begins-shaped, begins-right, never-placed, same-fault, left-stopped, left-front, begins-whole, all-went}
use Rattle.guest_boot.proofs.StoreLemmas.{boot-made, store-right}
use Rattle.guest_boot.proofs.world.boot.Goals as goal

pub cut_ram-requires-clause-low : goal.cut_ram-requires-clause-low
cut_ram-requires-clause-low g c = ram-ends c.args.map.now.descriptors c.args.map.now.hosts c.args.table c.in_ok-ram.field-0.ram c.requires.rules c.in_ok-ram.ensures.maximal

pub returns-in_err-layout-clause-no_room : goal.returns-in_err-layout-clause-no_room
returns-in_err-layout-clause-no_room g c is =
    let e = err_from_is_err_and c.from_residual-in_err-layout.result c.from_residual-in_err-layout.ensures.1 in
    let same = ap (λ x. Err x) (same-fault c.from_residual-in_err-layout.result c.in_err-layout.field-0.0 PoolNoRoom (e.1 ∙ ap (λ x. Err x) e.2) is) in
    place-none c.args.map.now.descriptors c.args.table c.in_ok-ram.field-0.ram c.args.slots c.args.areas c.in_ok-ram.ensures.maximal
    (c.in_err-layout.ensures.asked same) (pages-some c.args.slots c.args.areas c.requires.asked.power) (c.in_err-layout.ensures.nowhere same)

pub returns-in_err-layout-clause-stopped : goal.returns-in_err-layout-clause-stopped
returns-in_err-layout-clause-stopped g c page is =
    let e = err_from_is_err_and c.from_residual-in_err-layout.result c.from_residual-in_err-layout.ensures.1 in
    absurd (c.in_err-layout.ensures.no_stop page (ap (λ x. Err x) (same-fault c.from_residual-in_err-layout.result c.in_err-layout.field-0.0 (Module page) (e.1 ∙ ap (λ x. Err x) e.2) is)))

pub returns-in_err-layout-clause-failed : goal.returns-in_err-layout-clause-failed
returns-in_err-layout-clause-failed g c page is =
    let e = err_from_is_err_and c.from_residual-in_err-layout.result c.from_residual-in_err-layout.ensures.1 in
    absurd (c.in_err-layout.ensures.no_stop page (ap (λ x. Err x) (same-fault c.from_residual-in_err-layout.result c.in_err-layout.field-0.0 (Module page) (e.1 ∙ ap (λ x. Err x) e.2) is)))

pub new-requires : goal.new-requires
new-requires g c = ram-rises c.args.map.now.descriptors c.args.map.now.hosts c.args.table c.in_ok-ram.field-0.ram c.requires.rules c.in_ok-ram.ensures.maximal

pub accept_stages-requires-clause-ram : goal.accept_stages-requires-clause-ram
accept_stages-requires-clause-ram g c = subst (λ ram. AllPairs GoesBefore ram) (sym c.in_ok-boot.ensures.ram) c.in_ok-ram.ensures.maximal.rise

pub accept_stages-requires-clause-booted : goal.accept_stages-requires-clause-booted
accept_stages-requires-clause-booted g c =
    let begin : Begins c.args.map.now.descriptors c.args.map.now.hosts c.args.table c.args.slots c.args.areas c.args.cpus c.in_ok-ram.field-0.ram c.in_ok-ram.field-0.bits c.in_ok-ram.field-0.pieces c.in_ok-layout.field-0.layout c.in_ok-boot.boot = record { rules = c.requires.rules; asked = c.requires.asked; few = c.requires.few; fits = c.requires.fits; begins = c.in_ok-ram.ensures; placed = c.in_ok-layout.ensures.layout; first = c.in_ok-boot.ensures } in
    begins-booted begin

pub accept_stages-requires-clause-stands : goal.accept_stages-requires-clause-stands
accept_stages-requires-clause-stands g c =
    let begin : Begins c.args.map.now.descriptors c.args.map.now.hosts c.args.table c.args.slots c.args.areas c.args.cpus c.in_ok-ram.field-0.ram c.in_ok-ram.field-0.bits c.in_ok-ram.field-0.pieces c.in_ok-layout.field-0.layout c.in_ok-boot.boot = record { rules = c.requires.rules; asked = c.requires.asked; few = c.requires.few; fits = c.requires.fits; begins = c.in_ok-ram.ensures; placed = c.in_ok-layout.ensures.layout; first = c.in_ok-boot.ensures } in
    let kept : Kept = record { table = c.in_ok-table.table; bits = c.in_ok-ram.field-0.bits; calls = c.new-2.result } in
    subst (λ done. StandsAfter c.in_ok-boot.boot done kept) (sym c.requires.unmade)
    (first-stands c.in_ok-boot.boot kept (begins-booted begin) (λ page. c.in_ok-table.ensures.states page ∙ ap (λ runs. state_in runs page) (sym c.in_ok-boot.ensures.ram)) c.in_ok-table.ensures.out c.in_ok-boot.ensures.bitmap c.new-2.ensures.items)

pub accept_stages-requires-clause-early : goal.accept_stages-requires-clause-early
accept_stages-requires-clause-early g c =
    let begin : Begins c.args.map.now.descriptors c.args.map.now.hosts c.args.table c.args.slots c.args.areas c.args.cpus c.in_ok-ram.field-0.ram c.in_ok-ram.field-0.bits c.in_ok-ram.field-0.pieces c.in_ok-layout.field-0.layout c.in_ok-boot.boot = record { rules = c.requires.rules; asked = c.requires.asked; few = c.requires.few; fits = c.requires.fits; begins = c.in_ok-ram.ensures; placed = c.in_ok-layout.ensures.layout; first = c.in_ok-boot.ensures } in
    let P : List PageRun → Type 0 = λ pieces. All (λ (piece : PageRun). IsEarly c.in_ok-boot.boot piece.pages) pieces in
    subst P (sym c.as_slice.ensures) (begins-early begin)

pub accept_stages-requires-clause-place : goal.accept_stages-requires-clause-place
accept_stages-requires-clause-place g c =
    let begin : Begins c.args.map.now.descriptors c.args.map.now.hosts c.args.table c.args.slots c.args.areas c.args.cpus c.in_ok-ram.field-0.ram c.in_ok-ram.field-0.bits c.in_ok-ram.field-0.pieces c.in_ok-layout.field-0.layout c.in_ok-boot.boot = record { rules = c.requires.rules; asked = c.requires.asked; few = c.requires.few; fits = c.requires.fits; begins = c.in_ok-ram.ensures; placed = c.in_ok-layout.ensures.layout; first = c.in_ok-boot.ensures } in
    begins-lies begin

pub accept_stages-requires-clause-accepted : goal.accept_stages-requires-clause-accepted
accept_stages-requires-clause-accepted g c =
    let begin : Begins c.args.map.now.descriptors c.args.map.now.hosts c.args.table c.args.slots c.args.areas c.args.cpus c.in_ok-ram.field-0.ram c.in_ok-ram.field-0.bits c.in_ok-ram.field-0.pieces c.in_ok-layout.field-0.layout c.in_ok-boot.boot = record { rules = c.requires.rules; asked = c.requires.asked; few = c.requires.few; fits = c.requires.fits; begins = c.in_ok-ram.ensures; placed = c.in_ok-layout.ensures.layout; first = c.in_ok-boot.ensures } in
    subst (PoolGetsAccepted c.in_ok-boot.boot) (sym c.as_slice.ensures) (begins-accepted begin)

pub accept_stages-requires-clause-blocks : goal.accept_stages-requires-clause-blocks
accept_stages-requires-clause-blocks g c = c.as_slice-2.ensures.value ∙ c.in_ok-layout.ensures.blocks ∙ cut-is c.in_ok-boot.boot c.in_ok-ram.field-0.ram (pool_in c.in_ok-layout.field-0.layout) c.in_ok-boot.ensures.pool c.in_ok-boot.ensures.ram

pub returns-in_err-accept_stages-clause-stopped : goal.returns-in_err-accept_stages-clause-stopped
returns-in_err-accept_stages-clause-stopped g c page is =
    let begin : Begins c.args.map.now.descriptors c.args.map.now.hosts c.args.table c.args.slots c.args.areas c.args.cpus c.in_ok-ram.field-0.ram c.in_ok-ram.field-0.bits c.in_ok-ram.field-0.pieces c.in_ok-layout.field-0.layout c.in_ok-boot.boot = record { rules = c.requires.rules; asked = c.requires.asked; few = c.requires.few; fits = c.requires.fits; begins = c.in_ok-ram.ensures; placed = c.in_ok-layout.ensures.layout; first = c.in_ok-boot.ensures } in
    let e = err_from_is_err_and c.from_residual-in_err-accept_stages.result c.from_residual-in_err-accept_stages.ensures.1 in
    left-stopped c.from_residual-in_err-accept_stages.result c.in_err-accept_stages.field-0.0 (g.P.Port.made c.args.port.now) (g.P.Port.made c.accept_stages.new.port) page begin c.requires.unmade c.as_slice.ensures (e.1 ∙ ap (λ x. Err x) e.2) is c.in_err-accept_stages.ensures.done.made

pub returns-in_err-accept_stages-clause-front : goal.returns-in_err-accept_stages-clause-front
returns-in_err-accept_stages-clause-front g c =
    let begin : Begins c.args.map.now.descriptors c.args.map.now.hosts c.args.table c.args.slots c.args.areas c.args.cpus c.in_ok-ram.field-0.ram c.in_ok-ram.field-0.bits c.in_ok-ram.field-0.pieces c.in_ok-layout.field-0.layout c.in_ok-boot.boot = record { rules = c.requires.rules; asked = c.requires.asked; few = c.requires.few; fits = c.requires.fits; begins = c.in_ok-ram.ensures; placed = c.in_ok-layout.ensures.layout; first = c.in_ok-boot.ensures } in
    left-front c.in_err-accept_stages.field-0.0 (g.P.Port.made c.args.port.now) (g.P.Port.made c.accept_stages.new.port) begin c.requires.unmade c.as_slice.ensures c.in_err-accept_stages.ensures.done.made

pub new-requires-3-clause-made : goal.new-requires-3-clause-made
new-requires-3-clause-made g c =
    let begin : Begins c.args.map.now.descriptors c.args.map.now.hosts c.args.table c.args.slots c.args.areas c.args.cpus c.in_ok-ram.field-0.ram c.in_ok-ram.field-0.bits c.in_ok-ram.field-0.pieces c.in_ok-layout.field-0.layout c.in_ok-boot.boot = record { rules = c.requires.rules; asked = c.requires.asked; few = c.requires.few; fits = c.requires.fits; begins = c.in_ok-ram.ensures; placed = c.in_ok-layout.ensures.layout; first = c.in_ok-boot.ensures } in
    boot-made c.from_vec.result (g.P.Port.made c.accept_stages.new.port) begin (c.from_vec.ensures ∙ c.in_ok-accept_stages.ensures.done.stands.calls)
    (all-went (g.P.Port.made c.args.port.now) (g.P.Port.made c.accept_stages.new.port) c.in_ok-boot.boot c.requires.unmade c.as_slice.ensures c.in_ok-accept_stages.ensures.done.made)

pub new-requires-3-clause-blocks : goal.new-requires-3-clause-blocks
new-requires-3-clause-blocks g c =
    let begin : Begins c.args.map.now.descriptors c.args.map.now.hosts c.args.table c.args.slots c.args.areas c.args.cpus c.in_ok-ram.field-0.ram c.in_ok-ram.field-0.bits c.in_ok-ram.field-0.pieces c.in_ok-layout.field-0.layout c.in_ok-boot.boot = record { rules = c.requires.rules; asked = c.requires.asked; few = c.requires.few; fits = c.requires.fits; begins = c.in_ok-ram.ensures; placed = c.in_ok-layout.ensures.layout; first = c.in_ok-boot.ensures } in
    let made = g.P.Port.made c.accept_stages.new.port in
    let store = c.accept_stages.new.store in
    let P : List ModuleCall → Type 0 = λ before. StagesPut c.in_ok-boot.boot before c.in_ok-ram.field-0.pieces made store in
    let Q : List PageRun → Type 0 = λ pieces. StagesPut c.in_ok-boot.boot (g.P.Port.made c.args.port.now) pieces made store in
    store-right c.from_vec.result made begin (c.from_vec.ensures ∙ c.in_ok-accept_stages.ensures.done.stands.calls)
    (all-went (g.P.Port.made c.args.port.now) made c.in_ok-boot.boot c.requires.unmade c.as_slice.ensures c.in_ok-accept_stages.ensures.done.made)
    store (subst P c.requires.unmade (subst Q c.as_slice.ensures c.in_ok-accept_stages.ensures.put))

pub new-requires-3-clause-bits : goal.new-requires-3-clause-bits
new-requires-3-clause-bits g c =
    let same : c.from_vec.result ≡ g.P.Port.made c.accept_stages.new.port = c.from_vec.ensures ∙ c.in_ok-accept_stages.ensures.done.stands.calls in
    let P : List ModuleCall → Type 0 = λ done. BitsAfter (with_calls c.in_ok-boot.boot c.from_vec.result) done c.accept_stages.new.kept.bits in
    subst P (sym same) (bits-same c.in_ok-boot.boot c.from_vec.result (g.P.Port.made c.accept_stages.new.port) c.accept_stages.new.kept.bits c.in_ok-accept_stages.ensures.done.stands.bits)

pub returns-in_err-accept_stages-clause-no_room : goal.returns-in_err-accept_stages-clause-no_room
returns-in_err-accept_stages-clause-no_room g c is =
    let e = err_from_is_err_and c.from_residual-in_err-accept_stages.result c.from_residual-in_err-accept_stages.ensures.1 in
    absurd (never-placed c.from_residual-in_err-accept_stages.result c.in_err-accept_stages.field-0.0 _ _ _ (e.1 ∙ ap (λ x. Err x) e.2) is c.in_err-accept_stages.ensures.done.made)

pub returns-in_err-accept_stages-clause-unasked : goal.returns-in_err-accept_stages-clause-unasked
returns-in_err-accept_stages-clause-unasked g c is =
    let e = err_from_is_err_and c.from_residual-in_err-accept_stages.result c.from_residual-in_err-accept_stages.ensures.1 in
    absurd (never-placed c.from_residual-in_err-accept_stages.result c.in_err-accept_stages.field-0.0 _ _ _ (e.1 ∙ ap (λ x. Err x) e.2) is c.in_err-accept_stages.ensures.done.made)

pub returns-in_err-areas-clause-front : goal.returns-in_err-areas-clause-front
returns-in_err-areas-clause-front g c =
    let begin : Begins c.args.map.now.descriptors c.args.map.now.hosts c.args.table c.args.slots c.args.areas c.args.cpus c.in_ok-ram.field-0.ram c.in_ok-ram.field-0.bits c.in_ok-ram.field-0.pieces c.in_ok-layout.field-0.layout c.in_ok-boot.boot = record { rules = c.requires.rules; asked = c.requires.asked; few = c.requires.few; fits = c.requires.fits; begins = c.in_ok-ram.ensures; placed = c.in_ok-layout.ensures.layout; first = c.in_ok-boot.ensures } in
    let made = g.P.Port.made c.accept_stages.new.port in
    begins-whole made begin (all-went (g.P.Port.made c.args.port.now) made c.in_ok-boot.boot c.requires.unmade c.as_slice.ensures c.in_ok-accept_stages.ensures.done.made)

pub returns-in_err-memory-clause-front : goal.returns-in_err-memory-clause-front
returns-in_err-memory-clause-front g c =
    let begin : Begins c.args.map.now.descriptors c.args.map.now.hosts c.args.table c.args.slots c.args.areas c.args.cpus c.in_ok-ram.field-0.ram c.in_ok-ram.field-0.bits c.in_ok-ram.field-0.pieces c.in_ok-layout.field-0.layout c.in_ok-boot.boot = record { rules = c.requires.rules; asked = c.requires.asked; few = c.requires.few; fits = c.requires.fits; begins = c.in_ok-ram.ensures; placed = c.in_ok-layout.ensures.layout; first = c.in_ok-boot.ensures } in
    let made = g.P.Port.made c.accept_stages.new.port in
    begins-whole made begin (all-went (g.P.Port.made c.args.port.now) made c.in_ok-boot.boot c.requires.unmade c.as_slice.ensures c.in_ok-accept_stages.ensures.done.made)

pub returns-clause-right : goal.returns-clause-right
returns-clause-right g c =
    let begin : Begins c.args.map.now.descriptors c.args.map.now.hosts c.args.table c.args.slots c.args.areas c.args.cpus c.in_ok-ram.field-0.ram c.in_ok-ram.field-0.bits c.in_ok-ram.field-0.pieces c.in_ok-layout.field-0.layout c.in_ok-boot.boot = record { rules = c.requires.rules; asked = c.requires.asked; few = c.requires.few; fits = c.requires.fits; begins = c.in_ok-ram.ensures; placed = c.in_ok-layout.ensures.layout; first = c.in_ok-boot.ensures } in
    begins-right c.from_vec.result (g.P.Port.made c.accept_stages.new.port) begin (c.from_vec.ensures ∙ c.in_ok-accept_stages.ensures.done.stands.calls)
    (all-went (g.P.Port.made c.args.port.now) (g.P.Port.made c.accept_stages.new.port) c.in_ok-boot.boot c.requires.unmade c.as_slice.ensures c.in_ok-accept_stages.ensures.done.made)

pub returns-clause-front : goal.returns-clause-front
returns-clause-front g c =
    let begin : Begins c.args.map.now.descriptors c.args.map.now.hosts c.args.table c.args.slots c.args.areas c.args.cpus c.in_ok-ram.field-0.ram c.in_ok-ram.field-0.bits c.in_ok-ram.field-0.pieces c.in_ok-layout.field-0.layout c.in_ok-boot.boot = record { rules = c.requires.rules; asked = c.requires.asked; few = c.requires.few; fits = c.requires.fits; begins = c.in_ok-ram.ensures; placed = c.in_ok-layout.ensures.layout; first = c.in_ok-boot.ensures } in
    let made = g.P.Port.made c.accept_stages.new.port in
    begins-whole made begin (all-went (g.P.Port.made c.args.port.now) made c.in_ok-boot.boot c.requires.unmade c.as_slice.ensures c.in_ok-accept_stages.ensures.done.made)

pub returns-clause-stands : goal.returns-clause-stands
returns-clause-stands g c =
    let begin : Begins c.args.map.now.descriptors c.args.map.now.hosts c.args.table c.args.slots c.args.areas c.args.cpus c.in_ok-ram.field-0.ram c.in_ok-ram.field-0.bits c.in_ok-ram.field-0.pieces c.in_ok-layout.field-0.layout c.in_ok-boot.boot = record { rules = c.requires.rules; asked = c.requires.asked; few = c.requires.few; fits = c.requires.fits; begins = c.in_ok-ram.ensures; placed = c.in_ok-layout.ensures.layout; first = c.in_ok-boot.ensures } in
    let same : c.from_vec.result ≡ g.P.Port.made c.accept_stages.new.port = c.from_vec.ensures ∙ c.in_ok-accept_stages.ensures.done.stands.calls in
    record {
      same = c.in_ok-memory.ensures.boot;
      entries = c.in_ok-memory.ensures.entries;
      out = c.in_ok-memory.ensures.out;
      sound = subst (SoundCalls (first_state_of c.in_ok-boot.boot.ram)) (sym same) c.in_ok-accept_stages.ensures.done.stands.sound;
      areas = begins-areas c.from_vec.result c.in_ok-areas.areas.items begin c.in_ok-layout.ensures.parted c.in_ok-areas.ensures.count c.in_ok-areas.ensures.each;
      layout = begins-layout c.from_vec.result begin;
      shaped = begins-shaped begin c.in_ok-layout.ensures.parted;
    }
