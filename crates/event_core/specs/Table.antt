use Rattle.std.specs.Prelude.{ℕ, List, Option, None, Bool, true, ◌≡◌, ◌+◌, ◌-◌, ◌*◌, ◌/◌, ◌%◌, ◌^◌, ◌==◌, ◌≤◌, ◌&&◌, nat_le, not, length}
use Rattle.guest_base.specs.declared.limits.TheConstants.{PAGE_BYTES, ADDRESS_END}
use Rattle.guest_base.specs.Search.{first_such, any_such, each_such}
use Rattle.event_core.specs.declared.boot.Descriptor.{Descriptor}
use Rattle.event_core.specs.Map.{unaccepted_page}
use Rattle.event_core.specs.Units.{bit_of, unit_count}

-- Tables of unaccepted units: what an earlier kernel may hand on, and what a bitmap is (after Linux's unaccepted table; the bounds
-- are own rules).

-- the bytes of a unit, the address of the first unit, and the bytes of bits
pub record Bits : Type 0 where
  pub unit : ℕ
  pub base : ℕ
  pub bits : List ℕ

-- a unit is a power of two from 4 KiB to 2 MiB
abbrev pub is_unit : ℕ → Bool
is_unit unit = any_such (λ order. unit == PAGE_BYTES * 2 ^ order) 0 10

-- the most bytes of bits from a base on: their last byte begins below 2^40
abbrev pub most_bytes : ℕ → ℕ → ℕ
most_bytes unit base = (ADDRESS_END - base + 8 * unit - 1) / (8 * unit)

-- what holds of each table: its base stands on a unit's border within memory, and it reaches less than a byte of bits past memory
pub record IsTable (table : Bits) : Type 0 where
  pub unit_is : is_unit table.unit ≡ true
  pub aligned : table.base % table.unit ≡ 0
  pub low : table.base ≤ ADDRESS_END
  pub few : length table.bits ≤ most_bytes table.unit table.base

-- a page's bit in a table: that of the unit in which the page lies
abbrev pub marks_page : Bits → ℕ → Bool
marks_page table page = nat_le (table.base / PAGE_BYTES) page && bit_of table.bits ((page - table.base / PAGE_BYTES) / (table.unit / PAGE_BYTES))

-- each page of a unit lies in unaccepted memory
abbrev pub is_unaccepted_unit : List Descriptor → Bits → ℕ → Bool
is_unaccepted_unit map table unit = each_such (unaccepted_page map) (table.base / PAGE_BYTES + unit * (table.unit / PAGE_BYTES)) (table.unit / PAGE_BYTES)

-- the first unit whose bit is set, and which doesn't lie in unaccepted memory
unfoldable pub bad_unit : List Descriptor → Bits → Option ℕ
bad_unit map table = first_such (λ unit. bit_of table.bits unit && not (is_unaccepted_unit map table unit)) 0 (unit_count table.bits)

-- A table fits a map: each unit with a set bit lies in unaccepted memory.
pub record FitsTable (map : List Descriptor) (table : Bits) : Type 0 where
  pub is_table : IsTable table
  pub none_bad : bad_unit map table ≡ None
