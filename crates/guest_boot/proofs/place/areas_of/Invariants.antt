use Rattle.std.proofs.Common.{◌≡◌, ℕ, Some, length}
use Rattle.std.specs.Prelude.{slice_get}
use Rattle.io_areas.specs.Value.{AreaValue}
use Rattle.guest_boot.specs.Areas.{IsFirstArea}
use Rattle.guest_boot.proofs.place.areas_of.Given as goal

abbrev pub invariant-loop-number : goal.invariant-loop-number
invariant-loop-number l = record {
  count : length l.areas.items ≡ l.number;
  each : (number : ℕ) (area : AreaValue) → slice_get l.areas.items number ≡ Some area → IsFirstArea l.share number area;
}
