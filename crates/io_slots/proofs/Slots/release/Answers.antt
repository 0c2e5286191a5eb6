use Rattle.std.proofs.Common.{◌&&◌, not, sym, ap, ◌∙◌, arith}
use Rattle.std.proofs.lemmas.List.{with_items_is}
use Rattle.guest_base.specs.Ranges.{in_range}
use Rattle.io_slots.specs.FreeCounts.{zero_at}
use Rattle.io_slots.proofs.CountLemmas.{flag_at, is_used-seen}
use Rattle.io_slots.proofs.Slots.release.Goals as goal

pub count_run-requires-clause-used : goal.count_run-requires-clause-used
count_run-requires-clause-used c = λ k within.
    ap (λ s. zero_at s k) c.as_mut_slice-counts.ensures.value
    ∙ sym (is_used-seen c.args.self.now _ _ c.self.view_is k)
    ∙ c.requires.used k within

pub returns-clause-used : goal.returns-clause-used
returns-clause-used c = λ k.
    flag_at _ k
    ∙ ap (λ s. zero_at s k) (with_items_is c.self.inside.counts c.recount_before.new.counts (omega arith))
    ∙ c.recount_before.ensures.zeros k ∙ c.count_run.ensures.zeros k
    ∙ ap (λ s. not (in_range c.args.at c.args.need k) && zero_at s k) c.as_mut_slice-counts.ensures.value
    ∙ ap (λ u. not (in_range c.args.at c.args.need k) && u) (sym (is_used-seen c.args.self.now _ _ c.self.view_is k))
