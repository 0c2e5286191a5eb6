use Rattle.std.proofs.Common.{◌∙◌, sym, ap, arith}
use Rattle.std.specs.Prelude.{is_some}
use Rattle.event_core.specs.Units.{bit_of}
use Rattle.unaccepted_bitmap.specs.BitmapValue.{any_unit}
use Rattle.unaccepted_bitmap.proofs.GuardLemmas.{unit_count-small}
use Rattle.unaccepted_bitmap.proofs.RunLemmas.{any_unit-first_run}
use Rattle.unaccepted_bitmap.proofs.bitmap.Bitmap.contains.Goals as goal

pub returns-in-Some : goal.returns-in-Some
returns-in-Some c =
    let test = bit_of c.args.self.now.bits in
    c.is_some.ensures
    ∙ ap is_some c.next_run.ensures
    ∙ sym (any_unit-first_run test c.in-Some.units)
    ∙ ap (any_unit test) c.in-Some.ensures.units

pub overflow_add-units : goal.overflow_add-units
overflow_add-units c = omega (arith, unit_count-small c.args.self.now c.in-Some.ensures.kept, c.in-Some.ensures.inside.1)
