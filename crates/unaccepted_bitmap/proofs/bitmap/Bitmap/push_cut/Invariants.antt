use Rattle.std.proofs.Common.{◌-◌}
use Rattle.unaccepted_bitmap.specs.Fits.{IsCut}
use Rattle.unaccepted_bitmap.proofs.bitmap.Bitmap.push_cut.Given as goal

abbrev pub invariant-loop-page : goal.invariant-loop-page
invariant-loop-page l =
    IsCut l.fn.self l.initial.runs.items (record { pages = record { first = l.fn.run.pages.first; count = l.page - l.fn.run.pages.first }; state = l.fn.run.state }) l.runs.items
