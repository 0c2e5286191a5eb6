use Rattle.std.proofs.Common.{◌≡◌, ◌^◌, ap, ◌∙◌, take_all}
use Rattle.std.specs.List.{flat_map}
use Rattle.guest_base.specs.declared.memory.Pages.{Pages}
use Rattle.event_core.specs.Cut.{without_pool, blocks_of}
use Rattle.guest_boot.proofs.CutLemmas.{outside-low, cut-orders, cut-ends}
use Rattle.guest_boot.proofs.cut.cut_blocks.Goals as goal

abbrev none : Pages
none = record { first = 0; count = 0 }

pub push_blocks-requires : goal.push_blocks-requires
push_blocks-requires c =
    let all : c.deref-range-items.result.now ≡ flat_map (without_pool c.args.pool) c.args.ranges.now = c.deref-range-items.ensures.value ∙ c.in_ok-outside.ensures in
    rw (← all) at (outside-low (2 ^ 28) c.args.pool c.args.ranges.now c.requires.low) c.loop-range.range-index none c.loop-range-test.true

pub returns-clause-orders : goal.returns-clause-orders
returns-clause-orders c =
    let all : c.deref-range-items.result.now ≡ flat_map (without_pool c.args.pool) c.args.ranges.now = c.deref-range-items.ensures.value ∙ c.in_ok-outside.ensures in
    let cut : c.loop-range.blocks.items ≡ flat_map blocks_of (flat_map (without_pool c.args.pool) c.args.ranges.now) =
    c.loop-range.invariant ∙ ap (flat_map blocks_of) (take_all c.loop-range.range-index c.deref-range-items.result.now c.loop-range-test.false ∙ all) in
    rw cut (cut-orders (2 ^ 28) (flat_map (without_pool c.args.pool) c.args.ranges.now) (outside-low (2 ^ 28) c.args.pool c.args.ranges.now c.requires.low))

pub returns-clause-ends : goal.returns-clause-ends
returns-clause-ends c =
    let all : c.deref-range-items.result.now ≡ flat_map (without_pool c.args.pool) c.args.ranges.now = c.deref-range-items.ensures.value ∙ c.in_ok-outside.ensures in
    let cut : c.loop-range.blocks.items ≡ flat_map blocks_of (flat_map (without_pool c.args.pool) c.args.ranges.now) =
    c.loop-range.invariant ∙ ap (flat_map blocks_of) (take_all c.loop-range.range-index c.deref-range-items.result.now c.loop-range-test.false ∙ all) in
    rw cut (cut-ends (2 ^ 28) (flat_map (without_pool c.args.pool) c.args.ranges.now) (outside-low (2 ^ 28) c.args.pool c.args.ranges.now c.requires.low))
