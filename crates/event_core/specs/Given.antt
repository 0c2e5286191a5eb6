use Rattle.std.specs.Prelude.{ℕ, List, [], Option, None, Some, Bool, ◌≡◌, ◌&&◌, length, if◌then◌else◌}
use Rattle.guest_base.specs.declared.memory.Pages.{Pages}
use Rattle.guest_base.specs.declared.memory.PageState.{PageState}
use Rattle.guest_base.specs.declared.memory.PageState.TheVariants.{Pending, Accepted}
use Rattle.event_core.specs.declared.boot.Descriptor.{Descriptor}
use Rattle.event_core.specs.Map.{first_state, unaccepted_page, ram_page}
use Rattle.event_core.specs.Stub.{default_unit, stub_base, stub_length, stub_bit, EarlyPieces}
use Rattle.event_core.specs.Units.{bit_of}
use Rattle.event_core.specs.Table.{Bits, FitsTable, marks_page}

-- What boot begins with: by the map alone, as the boot stub leaves it, or by the table that an earlier kernel hands in (after
-- Linux's unaccepted table, which outlives the kernel that made it; that no piece is accepted early then is an own rule).

-- a table that is handed in fits the map
abbrev pub FitsGiven : List Descriptor → Option Bits → Type 0
FitsGiven map None = Unit {0}
FitsGiven map (Some table) = FitsTable map table

-- The state that a page has at first. With a table only the unaccepted pages of units with a set bit are pending: the earlier kernel
-- accepted the others.
abbrev pub first_by : List Descriptor → Option Bits → ℕ → Option PageState
first_by map None page = first_state map page
first_by map (Some table) page =
    if unaccepted_page map page && marks_page table page then Some Pending
    else (if ram_page map page then Some Accepted else None)

-- the bytes of a unit
abbrev pub unit_by : Option Bits → ℕ
unit_by None = default_unit
unit_by (Some table) = table.unit

-- the address of the first unit
abbrev pub base_by : List Descriptor → Option Bits → ℕ
base_by map None = stub_base map
base_by map (Some table) = table.base

-- the bitmap's bytes
abbrev pub length_by : List Descriptor → Option Bits → ℕ
length_by map None = stub_length map
length_by map (Some table) = length table.bits

-- a unit's bit
abbrev pub bit_by : List Descriptor → Option Bits → ℕ → Bool
bit_by map None unit = stub_bit map unit
bit_by map (Some table) unit = bit_of table.bits unit

-- the pieces that are accepted at once
abbrev pub EarlyBy : List Descriptor → Option Bits → List Pages → Type 0
EarlyBy map None pieces = EarlyPieces map pieces
EarlyBy map (Some table) pieces = pieces ≡ []
