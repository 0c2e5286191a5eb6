use Rattle.std.proofs.Common.{◌∙◌, ◌-◌, sym, arith}
use Rattle.event_core.specs.Units.{bit_of}
use Rattle.guest_base.proofs.SearchLemmas.{row_length_at, row_length_past, row_length_end, row_length-le}
use Rattle.unaccepted_bitmap.proofs.bytes.set_row.Goals as goal

pub loop-unit-preserved : goal.loop-unit-preserved
loop-unit-preserved c =
    omega
    (arith, c.loop-unit.invariant, row_length_past (bit_of c.args.bytes.now) c.loop-unit.unit c.args.end c.loop-unit-test.true (sym c.is_set.ensures ∙ c.if-not-is_set.false))

pub returns-then-not-is_set : goal.returns-then-not-is_set
returns-then-not-is_set c =
    omega (arith, c.loop-unit.invariant, row_length_at (bit_of c.args.bytes.now) c.loop-unit.unit c.args.end (sym c.is_set.ensures ∙ c.if-not-is_set.true))

pub returns : goal.returns
returns c =
    omega
    (arith, row_length-le (bit_of c.args.bytes.now) c.args.from (c.args.end - c.args.from), c.loop-unit.invariant, row_length_end (bit_of c.args.bytes.now) c.loop-unit.unit c.args.end c.loop-unit-test.false)
