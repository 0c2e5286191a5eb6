-- The unaccepted table (after Linux's struct efi_unaccepted_memory): a version, the bytes of a unit, the address of the first unit, how
-- many bytes of bits there are, and these bytes. Numbers are little endian. Bit k mod 8 of byte k / 8 of the bits is the unit k, and a
-- set bit means that the unit is unaccepted.
use Rattle.std.specs.Prelude.{◌≡◌, ◌⊎◌, ℕ, ◌-◌, ◌%◌, ◌||◌, ◌==◌, nat_lt, not, List, ◌++◌, length, drop, Option, None, Result, Ok, Err}
use Rattle.guest_map.specs.Fields.{number, low_bytes, refuse, unless}
use Rattle.guest_base.specs.declared.limits.TheConstants.{ADDRESS_END}
use Rattle.unaccepted_bitmap.specs.declared.fault.TableFault.{TableFault}
use Rattle.unaccepted_bitmap.specs.declared.fault.TableFault.TheVariants.{Short, BadVersion, BadUnit, BadBase, BadLength, NoMemory}
use Rattle.unaccepted_bitmap.specs.declared.table.Header.{Header}
use Rattle.event_core.specs.Table.{Bits, is_unit, most_bytes}

-- What a function returned is what reading gives, unless memory ran out.
abbrev pub GivesTable : Result Bits TableFault → Result Bits TableFault → Type 0
GivesTable (Ok b) read = read ≡ Ok b
GivesTable (Err e) read = (e ≡ NoMemory) ⊎ (read ≡ Err e)

-- the fields, which stand in the first 24 bytes
unfoldable pub header_of : List ℕ → Header
header_of bytes = record {
  version = number 4 bytes;
  unit = number 4 (drop 4 bytes);
  base = number 8 (drop 8 bytes);
  size = number 8 (drop 16 bytes);
}

-- the first thing that is wrong with the fields, behind which this many bytes stand (own rule: their order, and the bounds)
abbrev pub header_fault : Header → ℕ → Option TableFault
header_fault h left =
    refuse (BadVersion h.version) (not (h.version == 1))
    (refuse (BadUnit h.unit) (not (is_unit h.unit))
    (refuse (BadBase h.base) (not (h.base % h.unit == 0) || nat_lt ADDRESS_END h.base)
    (refuse (BadLength h.size) (not (h.size == left) || nat_lt (most_bytes h.unit h.base) h.size) None)))

-- the first thing that is wrong with a table
unfoldable pub table_fault : List ℕ → Option TableFault
table_fault bytes = refuse (Short (length bytes)) (nat_lt (length bytes) 24) (header_fault (header_of bytes) (length bytes - 24))

-- the bitmap of a table with nothing wrong in it
abbrev pub bitmap_in : List ℕ → Bits
bitmap_in bytes = record { unit = (header_of bytes).unit; base = (header_of bytes).base; bits = drop 24 bytes }

-- the bitmap of a table, or the first thing that is wrong
unfoldable pub table_of : List ℕ → Result Bits TableFault
table_of bytes = unless (table_fault bytes) (bitmap_in bytes)

-- the table of a bitmap
unfoldable pub table_bytes_of : Bits → List ℕ
table_bytes_of b = low_bytes 4 1 ++ low_bytes 4 b.unit ++ low_bytes 8 b.base ++ low_bytes 8 (length b.bits) ++ b.bits
