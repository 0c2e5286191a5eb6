use Rattle.std.proofs.Common.{◌≡◌, sym, ◌∙◌, ap}
use Rattle.std.specs.Prelude.{is_some}
use Rattle.memory_core.specs.Bitmaps.{bits_in}
use Rattle.memory_core.proofs.CountLemmas.{counted-start, counted-set, counted-clear, one-run-is}
use Rattle.memory_core.proofs.units.count_set.Goals as goal
use Rattle.memory_core.proofs.units.count_set.Goals.{then-is_some, else-is_some}

pub loop-unit-init : goal.loop-unit-init
loop-unit-init c = counted-start (bits_in c.args.bits.now) c.args.units.first

pub loop-unit-preserved : goal.loop-unit-preserved
loop-unit-preserved c =
    let here : c.is_some.result ≡ bits_in c.args.bits.now c.loop-unit.unit = c.is_some.ensures ∙ ap is_some c.run_from.ensures ∙ one-run-is (bits_in c.args.bits.now) c.loop-unit.unit in
    elim c.if-is_some.branch [
      | then-is_some w ↦ counted-set (bits_in c.args.bits.now) c.args.units.first c.loop-unit.unit c.loop-unit.count c.if-is_some.count c.loop-unit.invariant c.loop-unit.auto.unit (sym here ∙ w.if-is_some.true) w.count-is
      | else-is_some w ↦ counted-clear (bits_in c.args.bits.now) c.args.units.first c.loop-unit.unit c.loop-unit.count c.if-is_some.count c.loop-unit.invariant c.loop-unit.auto.unit (sym here ∙ w.if-is_some.false) w.count-is
    ]
