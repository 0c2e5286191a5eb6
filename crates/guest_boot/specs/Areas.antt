use Rattle.std.specs.Prelude.{ℕ, List, [], Some, ◌≡◌, ◌*◌, ◌<◌, ◌≤◌, length, slice_get}
use Rattle.guest_base.specs.declared.limits.TheConstants.{MAX_AREAS}
use Rattle.event_core.specs.declared.boot.Boot.{Boot}
use Rattle.event_core.specs.Pool.{area_count, area_slots}
use Rattle.io_areas.specs.Value.{AreaValue}

-- The areas of the pool as boot leaves them.

-- the area of a number as boot makes it: it has this share of the slots, and no entry
pub record IsFirstArea (share number : ℕ) (area : AreaValue) : Type 0 where
  pub number_is : area.number ≡ number
  pub slots : area.slots ≡ share
  pub moved : area.moved ≡ []

-- The areas of a boot before the first entry: each stands at the place of its number, and together
-- they have all slots.
pub record AreFirstAreas (boot : Boot) (areas : List AreaValue) : Type 0 where
  pub some : 0 < boot.areas
  pub few : boot.areas ≤ MAX_AREAS
  pub count : length areas ≡ area_count boot
  pub each : (number : ℕ) (area : AreaValue) → slice_get areas number ≡ Some area
      → IsFirstArea (area_slots boot) number area
  pub whole : boot.areas * area_slots boot ≡ boot.slots
