use Rattle.std.proofs.Common.{sym, arith}
use Rattle.io_slots.specs.SlotUse.{is_used, slot_count}
use Rattle.io_slots.proofs.ChooseLemmas.{choose-fits, Fits_from}
use Rattle.io_slots.proofs.tests.take_fitting.Goals as goal

pub take-requires-clause-segment : goal.take-requires-clause-segment
take-requires-clause-segment c =
    (Fits_from _ _ _ _ _ (choose-fits _ _ _ _ _ _ (sym c.in_ok-at.ensures))).segment

pub take-requires-clause-free : goal.take-requires-clause-free
take-requires-clause-free c =
    (Fits_from _ _ _ _ _ (choose-fits _ _ _ _ _ _ (sym c.in_ok-at.ensures))).free

pub returns-clause-inside : goal.returns-clause-inside
returns-clause-inside c =
    let s = c.args.slots.now in
    let fits = Fits_from (is_used s) (slot_count s) c.args.need c.args.align c.in_ok-at.at (choose-fits _ _ s.hint _ _ _ (sym c.in_ok-at.ensures)) in
    omega (arith, c.take.ensures.count, fits.inside)

pub returns-clause-segment : goal.returns-clause-segment
returns-clause-segment c =
    (Fits_from _ _ _ _ _ (choose-fits _ _ _ _ _ _ (sym c.in_ok-at.ensures))).segment
