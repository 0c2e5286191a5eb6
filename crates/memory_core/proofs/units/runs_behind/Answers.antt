use Rattle.std.proofs.Common.{◌+◌, ◌-◌, ◌<◌, sym, ◌∙◌, arith}
use Rattle.memory_core.specs.Bitmaps.{bits_in}
use Rattle.memory_core.proofs.KeptLemmas.{written-start, written-more, written-end, written-free}
use Rattle.memory_core.proofs.UnitsLemmas.{first_run-facts}
use Rattle.memory_core.proofs.units.runs_behind.Goals as goal

pub loop-next-init : goal.loop-next-init
loop-next-init c = written-start (bits_in c.args.bits.now) (c.args.run.first + c.args.run.count) (c.args.units.first + c.args.units.count) c.args.runs.now c.requires.empty c.requires.room

pub push_reserved-requires : goal.push_reserved-requires
push_reserved-requires c =
    let end = c.args.units.first + c.args.units.count in
    let free = written-free (bits_in c.args.bits.now) (c.args.run.first + c.args.run.count) c.loop-next.at end c.loop-next.runs c.in-Some.next c.loop-next.invariant (sym c.run_from.ensures ∙ c.in-Some.is) in
    omega (arith, free, c.loop-next.runs.ok)

pub overflow_add-at-in-Some : goal.overflow_add-at-in-Some
overflow_add-at-in-Some c =
    let facts = first_run-facts (bits_in c.args.bits.now) c.loop-next.at (c.args.units.first + c.args.units.count) c.in-Some.next (sym c.run_from.ensures ∙ c.in-Some.is) in
    let high = facts.high in
    let end = c.requires.units in
    omega (arith, high, end)

pub loop-next-smaller : goal.loop-next-smaller
loop-next-smaller c =
    let end = c.args.units.first + c.args.units.count in
    let facts = first_run-facts (bits_in c.args.bits.now) c.loop-next.at end c.in-Some.next (sym c.run_from.ensures ∙ c.in-Some.is) in
    let low = facts.low in
    let some = facts.some in
    let high = facts.high in
    let less : end - (c.in-Some.next.first + c.in-Some.next.count) < end - c.loop-next.at = omega (arith, low, some, high) in
    less

pub loop-next-preserved : goal.loop-next-preserved
loop-next-preserved c =
    written-more (bits_in c.args.bits.now) (c.args.run.first + c.args.run.count) c.loop-next.at (c.args.units.first + c.args.units.count) c.loop-next.runs c.push_reserved.new.self c.in-Some.next
    c.loop-next.invariant (sym c.run_from.ensures ∙ c.in-Some.is) c.push_reserved.ensures.items (let same = c.push_reserved.ensures.capacity in omega (arith, same))

pub returns : goal.returns
returns c = written-end (bits_in c.args.bits.now) (c.args.run.first + c.args.run.count) c.loop-next.at (c.args.units.first + c.args.units.count) c.loop-next.runs c.loop-next.invariant (sym c.run_from.ensures ∙ c.in_default.is)
