use Rattle.std.specs.Prelude.{ℕ, List, [], Option, None, Some, Bool, false, ◌≡◌, ◌≢◌, ◌+◌, ◌-◌, ◌*◌, ◌/◌, ◌%◌, ◌<◌, ◌≤◌, length, map, All, IsPermutation, if◌then◌else◌}
use Rattle.std.specs.List.{list_any}
use Rattle.guest_base.specs.declared.limits.TheConstants.{PAGE_BYTES, ADDRESS_END}
use Rattle.guest_base.specs.declared.memory.Pages.{Pages}
use Rattle.guest_base.specs.declared.memory.PageRun.{PageRun}
use Rattle.guest_base.specs.declared.memory.PageState.TheVariants.{Pending}
use Rattle.event_core.specs.declared.boot.Descriptor.{Descriptor}
use Rattle.event_core.specs.Stub.{default_unit, unaccepted, stub_base, stub_length, stub_bit, is_short, holds_unit, EarlyPieces, round_down, round_up, least_start, greatest_end, StartsRise}
use Rattle.event_core.specs.Map.{descriptor_end}
use Rattle.event_core.specs.Units.{bit_of, unit_count}
use Rattle.event_core.specs.Table.{Bits}

-- the bitmap is the one that the boot stub makes of a map with unaccepted descriptors
pub record IsStubBitmap (map : List Descriptor) (b : Bits) : Type 0 where
  pub some : unaccepted map ≢ []
  pub unit : b.unit ≡ default_unit
  pub base : b.base ≡ stub_base map
  pub size : length b.bits ≡ stub_length map
  pub each : (unit : ℕ) → bit_of b.bits unit ≡ stub_bit map unit

-- the boot stub's bitmap; it makes none where nothing is unaccepted
abbrev pub StubBitmap : List Descriptor → Option Bits → Type 0
StubBitmap map None = unaccepted map ≡ []
StubBitmap map (Some b) = IsStubBitmap map b

-- whether a unit of a bitmap with this base lies wholly in a descriptor that isn't short
abbrev pub sets_unit : ℕ → ℕ → Descriptor → Bool
sets_unit base unit d = if is_short d then false else holds_unit (base + unit * default_unit) d

-- pages that wait for acceptance
abbrev pub pending_run : Pages → PageRun
pending_run pages = record { pages = pages; state = Pending }

-- the early pieces, each with the state Pending
pub record EarlyRuns (descriptors : List Descriptor) (runs : List PageRun) : Type 0 where
  pub pieces : List Pages
  pub early : EarlyPieces descriptors pieces
  pub are : runs ≡ map pending_run pieces

-- an unaccepted descriptor of a map: it has pages, begins on a page and ends within memory
pub record IsUnaccepted (d : Descriptor) : Type 0 where
  pub some : 0 < d.pages
  pub aligned : d.start % PAGE_BYTES ≡ 0
  pub below : descriptor_end d ≤ ADDRESS_END

-- the base and the bytes of the boot stub's bitmap for these unaccepted descriptors
pub record IsStubOf (ds : List Descriptor) (base : ℕ) (bits : List ℕ) : Type 0 where
  pub least : base ≡ round_down default_unit (least_start ds)
  pub size : length bits ≡
      (round_up default_unit (greatest_end ds) - base + 8 * default_unit - 1) / (8 * default_unit)
  pub each : (unit : ℕ) → bit_of bits unit ≡ list_any (sets_unit base unit) ds
  pub low : base ≤ ADDRESS_END
  pub below : base + unit_count bits * default_unit < ADDRESS_END + 8 * default_unit

-- the unaccepted descriptors of these, in rising order
pub record IsRising (descriptors sorted : List Descriptor) : Type 0 where
  pub same : IsPermutation (unaccepted descriptors) sorted
  pub rise : StartsRise sorted
  pub each : All IsUnaccepted sorted
