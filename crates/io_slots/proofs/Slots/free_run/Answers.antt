use Rattle.std.proofs.Common.{◌<◌, length, sym, ap, ◌∙◌, arith}
use Rattle.std.proofs.lemmas.List.{get_or_read}
use Rattle.guest_base.specs.Slots.{free_run}
use Rattle.io_slots.proofs.CountLemmas.{test-seen, slot_count-seen, free_run-counted}
use Rattle.io_slots.proofs.Slots.free_run.Goals as goal

pub returns : goal.returns
returns c =
    let items = c.self.inside.counts.items in
    let count = slot_count-seen c.args.self.now items c.self.inside.hint c.self.view_is in
    let inside : c.args.at < length items = omega (arith, count) in
    get_or_read items c.args.at _ inside c.index.ensures 0
    ∙ sym (free_run-counted items c.args.at c.self.invariant.counted)
    ∙ ap (λ u. free_run u c.args.at) (sym (test-seen c.args.self.now items c.self.inside.hint c.self.view_is))
