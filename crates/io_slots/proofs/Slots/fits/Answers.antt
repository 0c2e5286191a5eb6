use Rattle.std.proofs.Common.{◌≡◌, Some, None, sym, ap, refl, length, arith, ◌∙◌}
use Rattle.io_slots.specs.FreeCounts.{zero_at}
use Rattle.io_slots.proofs.CountLemmas.{test-seen, slot_count-seen}
use Rattle.io_slots.proofs.ChooseLemmas.{choose_by_parts}
use Rattle.io_slots.proofs.Slots.fits.Goals as goal

pub returns-in-Some : goal.returns-in-Some
returns-in-Some c =
    let items = c.self.inside.counts.items in
    let counts = c.as_slice-counts.result.now in
    let value : counts ≡ items = c.as_slice-counts.ensures.value in
    let count = slot_count-seen c.args.self.now items _ c.self.view_is in
    choose_by_parts _ (zero_at counts) _ (length counts) _ c.self.inside.hint c.args.need c.args.align (Some c.in-Some.at) _
    (test-seen c.args.self.now items _ c.self.view_is ∙ ap zero_at (sym value))
    (omega (arith, count, ap length value))
    (ap (λ v. v.hint) (sym c.self.view_is))
    c.in-Some.ensures
    refl

pub returns-in-None : goal.returns-in-None
returns-in-None c =
    let items = c.self.inside.counts.items in
    let counts = c.as_slice-counts.result.now in
    let value : counts ≡ items = c.as_slice-counts.ensures.value in
    let count = slot_count-seen c.args.self.now items _ c.self.view_is in
    choose_by_parts _ (zero_at counts) _ (length counts) _ c.self.inside.hint c.args.need c.args.align None c.first_fitting.result
    (test-seen c.args.self.now items _ c.self.view_is ∙ ap zero_at (sym value))
    (omega (arith, count, ap length value))
    (ap (λ v. v.hint) (sym c.self.view_is))
    c.in-None.ensures
    c.first_fitting.ensures
