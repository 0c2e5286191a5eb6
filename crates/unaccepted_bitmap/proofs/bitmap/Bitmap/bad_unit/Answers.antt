use Rattle.std.proofs.Common.{◌∙◌, ◌<◌, sym, arith}
use Rattle.guest_base.proofs.SearchLemmas.{first_such_at, first_such_past, first_such_end}
use Rattle.event_core.specs.Units.{unit_count}
use Rattle.unaccepted_bitmap.specs.Fits.{is_bad}
use Rattle.unaccepted_bitmap.proofs.FitLemmas.{bad_is, bad_of, not_of}
use Rattle.unaccepted_bitmap.proofs.bitmap.Bitmap.bad_unit.Goals as goal

pub returns-in_default : goal.returns-in_default
returns-in_default c =
    let test = is_bad c.args.descriptors.now c.args.self.now in
    let end = unit_count c.args.self.now.bits in
    let below : c.loop-number.number < end = omega (arith, c.loop-number-test.true, c.unit_count-number-end.ensures.value) in
    sym (bad_is c.args.descriptors.now c.args.self.now ∙ c.loop-number.invariant.search ∙ first_such_at test c.loop-number.number end below (bad_of _ c.in_default.ensures.is))

pub loop-number-preserved : goal.loop-number-preserved
loop-number-preserved c =
    let test = is_bad c.args.descriptors.now c.args.self.now in
    let end = unit_count c.args.self.now.bits in
    let below : c.loop-number.number < end = omega (arith, c.loop-number-test.true, c.unit_count-number-end.ensures.value) in
    record {
      known = c.in-Some.ensures.known;
      search = c.loop-number.invariant.search ∙ first_such_past test c.loop-number.number end below (not_of _ c.in-Some.ensures.is);
    }

pub returns : goal.returns
returns c =
    let test = is_bad c.args.descriptors.now c.args.self.now in
    let end = unit_count c.args.self.now.bits in
    sym
    (bad_is c.args.descriptors.now c.args.self.now
    ∙ c.loop-number.invariant.search
    ∙ first_such_end test c.loop-number.number end (omega (arith, c.loop-number-test.false, c.unit_count-number-end.ensures.value)))
