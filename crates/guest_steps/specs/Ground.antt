use Rattle.std.specs.Prelude.{ℕ, List, [], None, Some, ◌≡◌, ◌≢◌, ◌*◌, ◌<◌, ◌≤◌, length, slice_get, slice_set}
use Rattle.std.specs.Option.{option_map_or}
use Rattle.guest_base.specs.declared.limits.TheConstants.{MAX_AREAS}
use Rattle.event_core.specs.declared.boot.Boot.{Boot}
use Rattle.event_core.specs.declared.entry.Place.{Place}
use Rattle.event_core.specs.declared.entry.Place.TheVariants.{Memory, Area, Own}
use Rattle.event_core.specs.Moved.{Moved}
use Rattle.event_core.specs.Pool.{area_count, area_slots}
use Rattle.io_areas.specs.Away.{FoundAgain as AreaAgain}
use Rattle.io_areas.specs.Value.{AreaValue}
use Rattle.memory_core.specs.Away.{FoundAgain as MemoryAgain}
use Rattle.memory_core.specs.UnderLock.{moved_of}
use Rattle.memory_core.specs.Value.{MemoryValue}

-- What processors stand over: the memory, and the areas of the pool (own rule).

pub record Ground : Type 0 where
  pub memory : MemoryValue
  pub areas : List AreaValue

abbrev pub ground_of : MemoryValue → List AreaValue → Ground
ground_of memory areas = record { memory = memory; areas = areas }

-- the same with another memory, and with an area in place of the one of its number
abbrev pub with_memory : Ground → MemoryValue → Ground
with_memory base memory = ground_of memory base.areas

abbrev pub with_area : Ground → AreaValue → Ground
with_area base area = ground_of base.memory (slice_set base.areas area.number area)

-- the area stands at the place of its number
abbrev pub HasArea : Ground → AreaValue → Type 0
HasArea base area = slice_get base.areas area.number ≡ Some area

-- the bare entries that a place has, with the bytes that they moved; an own event has no list of
-- its place
abbrev pub there_in : Ground → Place → List Moved
there_in base Memory = moved_of base.memory
there_in base (Area area) =
    option_map_or (λ (a : AreaValue). a.moved) (slice_get base.areas area) []
there_in base Own = []

-- the areas of a boot share out its slots
pub record SharesOut (boot : Boot) : Type 0 where
  pub some : boot.pool ≢ None → 0 < boot.areas
  pub few : boot.areas ≤ MAX_AREAS
  pub whole : boot.areas * area_slots boot ≡ boot.slots

-- the memory is of the boot, and so are the areas, each at the place of its number
pub record IsGroundOf (boot : Boot) (base : Ground) : Type 0 where
  pub shares : SharesOut boot
  pub memory : base.memory.boot ≡ boot
  pub count : length base.areas ≡ area_count boot
  pub each : (n : ℕ) (area : AreaValue) → slice_get base.areas n ≡ Some area
      → (area.number ≡ n) × (area.slots ≡ area_slots boot)

-- the same places, each area with one that this holds of
pub record EachArea (R : AreaValue → AreaValue → Type 0) (before after : List AreaValue)
    : Type 0 where
  pub count : length after ≡ length before
  pub each : (n : ℕ) (was : AreaValue) → slice_get before n ≡ Some was
      → (is : AreaValue) × (slice_get after n ≡ Some is) × R was is

-- the area has its number and its slots
abbrev pub IsSameArea : AreaValue → AreaValue → Type 0
IsSameArea was is = (is.number ≡ was.number) × (is.slots ≡ was.slots)

-- a processor finds the memory and each area as it left them, but for the entries of others
pub record FoundAgain (cpu : ℕ) (left found : Ground) : Type 0 where
  pub memory : MemoryAgain cpu left.memory found.memory
  pub areas : EachArea (AreaAgain cpu) left.areas found.areas
