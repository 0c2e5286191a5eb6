use Rattle.std.proofs.Common.{◌≡◌, ◌∙◌, ◌/◌, ◌^◌, refl, ap, sym}
use Rattle.std.specs.Prelude.{Option, Some}
use Rattle.guest_base.specs.declared.memory.Pages.{Pages}
use Rattle.guest_base.specs.Requests.{raised_slots}
use Rattle.dma_map.specs.declared.pool.Layout.{Layout}
use Rattle.guest_boot.specs.Placing.{place_in}
use Rattle.guest_boot.proofs.PlaceLemmas.{place-end}
use Rattle.guest_boot.proofs.SlotLemmas.{is-parted}
use Rattle.guest_boot.proofs.place.lay_out.Goals as goal

pub returns-in-Some-clause-layout : goal.returns-in-Some-clause-layout
returns-in-Some-clause-layout c = record {
  asked = c.if-slots-eq0.false;
  raised = c.raise-raised.ensures.raised;
  same_areas = refl;
  place = ap (λ n. place_in (n / 2) c.args.ranges.now) (sym c.raise-raised.ensures.raised) ∙ ap (λ s. place_in s c.args.ranges.now) (sym c.from.ensures) ∙ sym c.in-Some.ensures;
}

pub returns-in-Some-clause-parted : goal.returns-in-Some-clause-parted
returns-in-Some-clause-parted c =
    let layout : Layout = record { pool = c.in-Some.pool; slots = c.raise-raised.result; areas = c.args.areas } in
    is-parted c.args.slots c.args.areas layout c.requires.asked c.raise-raised.ensures.raised refl c.raise-raised.ensures.power c.raise-raised.ensures.limit

pub returns-in-Some-clause-low : goal.returns-in-Some-clause-low
returns-in-Some-clause-low c = place-end (c.raise-raised.result / 2) (2 ^ 28) c.args.ranges.now c.in-Some.pool c.requires.low (ap (λ s. place_in s c.args.ranges.now) (sym c.from.ensures) ∙ sym c.in-Some.ensures)

pub returns-in-None-clause-nowhere : goal.returns-in-None-clause-nowhere
returns-in-None-clause-nowhere c = ap (λ n. place_in (n / 2) c.args.ranges.now) (sym c.raise-raised.ensures.raised) ∙ ap (λ s. place_in s c.args.ranges.now) (sym c.from.ensures) ∙ sym c.in-None.ensures
