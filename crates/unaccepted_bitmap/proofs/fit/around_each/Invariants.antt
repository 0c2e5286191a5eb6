use Rattle.std.proofs.Common.{◌≡◌, ◌-◌}
use Rattle.guest_base.specs.Search.{each_such}
use Rattle.event_core.specs.Map.{unaccepted_page}
use Rattle.unaccepted_bitmap.specs.Fits.{AreUnaccepted}
use Rattle.unaccepted_bitmap.proofs.fit.around_each.Given as goal

abbrev pub invariant-loop-page : goal.invariant-loop-page
invariant-loop-page l = record {
  known : AreUnaccepted l.descriptors l.known;
  all : each_such (unaccepted_page l.descriptors) l.fn.pages.first l.fn.pages.count ≡ each_such (unaccepted_page l.descriptors) l.page (l.end - l.page);
}
