use Rattle.std.specs.Prelude.{ℕ, List, [], ◌∷◌, ◌++◌, Bool, false, ◌≡◌, ◌+◌, ◌-◌, ◌*◌, ◌/◌, ◌<◌, ◌&&◌, nat_lt, nat_le, filter, fold, min, max, if◌then◌else◌, IsPermutation}
use Rattle.std.specs.List.{list_any, flat_map}
use Rattle.guest_base.specs.declared.limits.TheConstants.{PAGE_BYTES}
use Rattle.guest_base.specs.declared.memory.Pages.{Pages}
use Rattle.event_core.specs.declared.boot.Descriptor.{Descriptor}
use Rattle.event_core.specs.Map.{is_unaccepted, descriptor_end}

-- What the boot stub makes of unaccepted descriptors (after the EFI stub's process_unaccepted_memory). Sizes and addresses are in
-- bytes, but for the pages of the early pieces.

-- the bytes of a unit where no table is handed in
abbrev pub default_unit : ℕ
default_unit = 2097152

abbrev pub round_down : ℕ → ℕ → ℕ
round_down size at = at / size * size

abbrev pub round_up : ℕ → ℕ → ℕ
round_up size at = (at + size - 1) / size * size

abbrev pub unaccepted : List Descriptor → List Descriptor
unaccepted map = filter is_unaccepted map

-- the least start and the greatest end of descriptors
abbrev pub least_start : List Descriptor → ℕ
least_start [] = 0
least_start (d ∷ ds) = fold (λ least (e : Descriptor). min least e.start) d.start ds

abbrev pub greatest_end : List Descriptor → ℕ
greatest_end ds = fold (λ greatest (d : Descriptor). max greatest (descriptor_end d)) 0 ds

-- the bitmap's base: the least unaccepted start, rounded down to a unit; 0 where nothing is unaccepted
abbrev pub stub_base : List Descriptor → ℕ
stub_base map = round_down default_unit (least_start (unaccepted map))

-- the bitmap's bytes: enough for the greatest unaccepted end, rounded up to a unit
abbrev pub stub_length : List Descriptor → ℕ
stub_length map =
    (round_up default_unit (greatest_end (unaccepted map)) - stub_base map + 8 * default_unit - 1) / (8 * default_unit)

-- a descriptor shorter than two units is accepted at once, whole
abbrev pub is_short : Descriptor → Bool
is_short d = nat_lt (PAGE_BYTES * d.pages) (2 * default_unit)

-- the unit that begins at an address lies wholly in the descriptor
abbrev pub holds_unit : ℕ → Descriptor → Bool
holds_unit at d = nat_le d.start at && nat_le (at + default_unit) (descriptor_end d)

-- a unit's bit: the unit lies wholly in an unaccepted descriptor of two units or more
abbrev pub stub_bit : List Descriptor → ℕ → Bool
stub_bit map unit =
    list_any (λ d. (if is_short d then false else holds_unit (stub_base map + unit * default_unit) d)) (unaccepted map)

-- the pages from one address up to another, where there are any
abbrev pub piece : ℕ → ℕ → List Pages
piece from to = if nat_lt from to then record { first = from / PAGE_BYTES; count = (to - from) / PAGE_BYTES } ∷ [] else []

-- the pieces of a descriptor that are accepted at once: all of a short one, else its unaligned front and tail
abbrev pub early_of : Descriptor → List Pages
early_of d =
    if is_short d then piece d.start (descriptor_end d)
    else piece d.start (round_up default_unit d.start) ++ piece (round_down default_unit (descriptor_end d)) (descriptor_end d)

-- each starts below the next
abbrev pub StartsRise : List Descriptor → Type 0
StartsRise [] = Unit {0}
StartsRise (d ∷ []) = Unit {0}
StartsRise (d ∷ e ∷ ds) = (d.start < e.start) × StartsRise (e ∷ ds)

-- the pieces that the stub accepts at once, descriptor by descriptor in rising order
pub record EarlyPieces (map : List Descriptor) (pieces : List Pages) : Type 0 where
  pub sorted : List Descriptor
  pub same : IsPermutation (unaccepted map) sorted
  pub rise : StartsRise sorted
  pub made : pieces ≡ flat_map early_of sorted
