use Rattle.std.proofs.Common.{◌≡◌, ◌-◌}
use Rattle.guest_base.specs.Search.{first_such}
use Rattle.event_core.specs.Units.{unit_count}
use Rattle.unaccepted_bitmap.specs.Fits.{AreUnaccepted, is_bad}
use Rattle.unaccepted_bitmap.proofs.bitmap.Bitmap.bad_unit.Given as goal

abbrev pub invariant-loop-number : goal.invariant-loop-number
invariant-loop-number l = record {
  known : AreUnaccepted l.descriptors l.known;
  search : first_such (is_bad l.descriptors l.fn.self) 0 (unit_count l.fn.self.bits) ≡ first_such (is_bad l.descriptors l.fn.self) l.number (unit_count l.fn.self.bits - l.number);
}
