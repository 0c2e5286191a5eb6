use Rattle.std.proofs.Common.{◌≡◌, ◌%◌, ◌||◌, length, sym, ap, subst, ◌∙◌, arith}
use Rattle.std.proofs.lemmas.List.{with_items_is}
use Rattle.guest_base.specs.Ranges.{in_range}
use Rattle.io_slots.specs.FreeCounts.{zero_at, IsKept}
use Rattle.io_slots.proofs.CountLemmas.{flag_at, is_used-seen, inside-seen}
use Rattle.io_slots.proofs.Slots.take.Goals as goal

pub zero_run-requires-clause-inside : goal.zero_run-requires-clause-inside
zero_run-requires-clause-inside c =
    let items = c.self.inside.counts.items in
    omega (arith, inside-seen c.args.self.now items _ c.args.at c.args.need c.self.view_is c.self.invariant.segments c.requires.segment (c.requires.free c.args.at (omega arith, omega arith)))

pub recount_before-requires-clause-inside : goal.recount_before-requires-clause-inside
recount_before-requires-clause-inside c =
    let items = c.self.inside.counts.items in
    omega (arith, inside-seen c.args.self.now items _ c.args.at c.args.need c.self.view_is c.self.invariant.segments c.requires.segment (c.requires.free c.args.at (omega arith, omega arith)))

pub overflow_add-at : goal.overflow_add-at
overflow_add-at c =
    let items = c.self.inside.counts.items in
    omega (arith, inside-seen c.args.self.now items _ c.args.at c.args.need c.self.view_is c.self.invariant.segments c.requires.segment (c.requires.free c.args.at (omega arith, omega arith)))

pub hint_behind-self-inside-requires-clause-within : goal.hint_behind-self-inside-requires-clause-within
hint_behind-self-inside-requires-clause-within c =
    let items = c.self.inside.counts.items in
    omega (arith, inside-seen c.args.self.now items _ c.args.at c.args.need c.self.view_is c.self.invariant.segments c.requires.segment (c.requires.free c.args.at (omega arith, omega arith)))

pub invariant_of-self : goal.invariant_of-self
invariant_of-self c =
    let items = c.self.inside.counts.items in
    let same : length c.recount_before.new.counts ≡ length items = omega arith in
    let hint = c.hint_behind-self-inside.result in
    let made = c.recount_before.new.counts in
    let e = with_items_is c.self.inside.counts made (omega arith) in
    subst (λ s. IsKept s hint) (sym e)
    (record {
      counted = c.recount_before.ensures.counted;
      segments = ap (λ n. n % 128) same ∙ c.self.invariant.segments;
      few = omega (arith, c.self.invariant.few);
      hint_in = omega arith;
    })

pub returns-clause-used : goal.returns-clause-used
returns-clause-used c = λ k.
    flag_at _ k
    ∙ ap (λ s. zero_at s k) (with_items_is c.self.inside.counts c.recount_before.new.counts (omega arith))
    ∙ c.recount_before.ensures.zeros k ∙ c.zero_run.ensures.zeros k
    ∙ ap (λ s. in_range c.args.at c.args.need k || zero_at s k) c.as_mut_slice-counts.ensures.value
    ∙ ap (λ u. in_range c.args.at c.args.need k || u) (sym (is_used-seen c.args.self.now _ _ c.self.view_is k))
