use Rattle.std.specs.Prelude.{ℕ, List, Option, None, Some, Bool, true, false, ◌+◌, ◌-◌, ◌*◌, ◌/◌, ◌%◌, ◌==◌, ◌&&◌, nat_lt, nat_le, fold, length, slice_index, max, min, if◌then◌else◌}
use Rattle.std.specs.Int.{bit_at}
use Rattle.guest_base.specs.declared.limits.TheConstants.{PAGE_BYTES}
use Rattle.guest_base.specs.Search.{first_such, any_such, count_such, row_length}
use Rattle.guest_base.specs.declared.memory.Units.{Units}
use Rattle.event_core.specs.declared.boot.Boot.{Boot}
use Rattle.event_core.specs.declared.module_call.ModuleCall.{ModuleCall}
use Rattle.event_core.specs.declared.module_call.CallKind.{CallKind}
use Rattle.event_core.specs.declared.module_call.CallKind.TheVariants.{Accept, Share, Unshare, Give}
use Rattle.event_core.specs.Calls.{is_done, covers}

-- A bitmap has a unit in bytes, a base in bytes and its bytes; bit k mod 8 of byte k / 8 is the unit that begins at base + k * unit.

-- the number of units of a bitmap
abbrev pub unit_count : List ℕ → ℕ
unit_count bits = 8 * length bits

-- a unit's bit; a unit outside the bitmap has a clear bit
abbrev pub bit_of : List ℕ → ℕ → Bool
bit_of bits unit = nat_lt unit (unit_count bits) && (bit_at (slice_index bits (unit / 8)) (unit % 8) == 1)

-- the pages of a unit, and the first of them
abbrev pub unit_pages : Boot → ℕ
unit_pages boot = boot.unit / PAGE_BYTES

abbrev pub unit_first : Boot → ℕ → ℕ
unit_first boot unit = boot.base / PAGE_BYTES + unit * unit_pages boot

-- the units from the one that holds the byte start up to the one that holds the byte before end, both counted from the base
abbrev pub units_between : ℕ → ℕ → ℕ → Option Units
units_between size start end =
    if nat_lt start end then Some (record { first = start / size; count = (end + size - 1) / size - start / size }) else None

-- an end on a unit's border grows by a unit, the guard: a load at the last bytes may stray into the next page
abbrev pub with_guard : ℕ → ℕ → ℕ
with_guard size end = if end % size == 0 then end + size else end

-- the guarded units of len bytes from the address start on (after Linux's accept_memory in unaccepted_memory.c): what lies below
-- the base is left out; a range that ends below it has none; the guard is added; the bitmap's end cuts the rest off
unfoldable pub guarded : ℕ → ℕ → ℕ → ℕ → ℕ → Option Units
guarded size base count start len =
    if nat_lt (start + len) base then None
    else units_between size (max start base - base) (min (with_guard size (start + len - base)) (count * size))

abbrev pub guarded_units : Boot → ℕ → ℕ → Option Units
guarded_units boot start len = guarded boot.unit boot.base (unit_count boot.bits) start len

-- whether a page is marked as unaccepted after a call of it that was answered Ok: an accept clears the mark, giving back sets it
abbrev pub mark_made : CallKind → Bool → Bool
mark_made Accept marked = false
mark_made Share marked = marked
mark_made Unshare marked = marked
mark_made Give marked = true

abbrev pub mark_step : ℕ → Bool → ModuleCall → Bool
mark_step page marked call = if is_done call && covers call page then mark_made call.kind marked else marked

-- whether a page is marked after calls: it was given back and not accepted since, or it was marked at first and never accepted
abbrev pub is_marked : Bool → List ModuleCall → ℕ → Bool
is_marked first calls page = fold (mark_step page) first calls

-- a unit's bit after calls: a page of the unit is marked, where at first exactly the pages of units with a set bit are marked; a
-- unit outside the bitmap has a clear bit (after Linux's bitmap of unaccepted units; that giving back sets bits is an own rule)
unfoldable pub bit_after : Boot → List ModuleCall → ℕ → Bool
bit_after boot calls unit =
    elim (nat_lt unit (unit_count boot.bits)) as (λ _. Bool) [
      | true ↦ any_such (is_marked (bit_of boot.bits unit) calls) (unit_first boot unit) (unit_pages boot)
      | false ↦ false
    ]

-- whether pages all lie in units of the bitmap
abbrev pub in_units : Boot → ℕ → ℕ → Bool
in_units boot first count = nat_le (unit_first boot 0) first && nat_le (first + count) (unit_first boot (unit_count boot.bits))

-- the run that begins at a number, of the numbers below end that pass a test
abbrev pub run_at : (ℕ → Bool) → ℕ → Option ℕ → Option Units
run_at test end None = None
run_at test end (Some first) = Some (record { first = first; count = row_length test first (end - first) })

-- the first maximal run of numbers that pass a test, from `from` on and below `end`
unfoldable pub first_run : (ℕ → Bool) → ℕ → ℕ → Option Units
first_run test from end = run_at test end (first_such test from (end - from))

-- the end of units
abbrev pub units_end : Units → ℕ
units_end units = units.first + units.count

-- the first maximal run of set bits among units, after calls, from a unit on
abbrev pub run_after : Boot → List ModuleCall → Units → ℕ → Option Units
run_after boot calls units from = first_run (bit_after boot calls) from (units_end units)

-- how many of the units have their bit set after the calls before, and clear after the calls behind them
unfoldable pub units_cleared : Boot → List ModuleCall → List ModuleCall → Units → ℕ
units_cleared boot before after units =
    count_such (λ unit. bit_after boot before unit && (if bit_after boot after unit then false else true)) units.first units.count
