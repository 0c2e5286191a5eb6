use Rattle.std.proofs.Common.{◌∙◌, sym}
use Rattle.event_core.specs.Units.{bit_of}
use Rattle.guest_base.proofs.SearchLemmas.{first_such_at, first_such_past, first_such_end}
use Rattle.unaccepted_bitmap.proofs.bytes.first_set.Goals as goal

pub loop-unit-preserved : goal.loop-unit-preserved
loop-unit-preserved c =
    c.loop-unit.invariant
    ∙ first_such_past (bit_of c.args.bytes.now) c.loop-unit.unit c.args.end c.loop-unit-test.true (sym c.is_set.ensures ∙ c.if-is_set.false)

pub returns-then-is_set : goal.returns-then-is_set
returns-then-is_set c =
    sym
    (c.loop-unit.invariant
    ∙ first_such_at (bit_of c.args.bytes.now) c.loop-unit.unit c.args.end c.loop-unit-test.true (sym c.is_set.ensures ∙ c.if-is_set.true))

pub returns : goal.returns
returns c = sym (c.loop-unit.invariant ∙ first_such_end (bit_of c.args.bytes.now) c.loop-unit.unit c.args.end c.loop-unit-test.false)
