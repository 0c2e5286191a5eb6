use Rattle.std.specs.Prelude.{ℕ, ◌+◌, ◌-◌, ◌%◌, ◌==◌, ◌&&◌, ◌≤◌, Bool, true, not, nat_le, Option, if◌then◌else◌}
use Rattle.std.specs.Option.{option_or}
use Rattle.guest_base.specs.declared.limits.TheConstants.{SEGMENT_SLOTS}
use Rattle.guest_base.specs.declared.transfer.Align.{Align}
use Rattle.guest_base.specs.declared.transfer.Align.TheVariants.{Any, Even, Odd}
use Rattle.guest_base.specs.Search.{first_such, each_such, row_length}

-- A segment is 128 slots. The slots of an area are the numbers below its count, and a test tells the used ones.

-- the length of the free run that begins at a slot, within its segment; 0 where the slot is used (swiotlb.c)
abbrev pub free_run : (ℕ → Bool) → ℕ → ℕ
free_run used at = row_length (λ k. not (used k)) at (SEGMENT_SLOTS - at % SEGMENT_SLOTS)

-- the slots at, at + 1, .., at + need - 1 lie in one segment
abbrev pub InOneSegment : ℕ → ℕ → Type 0
InOneSegment at need = at % SEGMENT_SLOTS + need ≤ SEGMENT_SLOTS

-- a run may begin at this slot (own rule)
abbrev pub meets_align : Align → ℕ → Bool
meets_align Any at = true
meets_align Even at = at % 2 == 0
meets_align Odd at = at % 2 == 1

-- a run of need slots from at on lies in the area and in one segment, begins as the align asks, and none of its slots is
-- used (swiotlb.c)
abbrev pub fits_at : (ℕ → Bool) → ℕ → ℕ → Align → ℕ → Bool
fits_at used slots need align at =
    nat_le (at + need) slots
    && (nat_le (at % SEGMENT_SLOTS + need) SEGMENT_SLOTS && (meets_align align at && each_such (λ k. not (used k)) at need))

-- the first start that fits, in the order hint, .., last, 0, .., hint - 1 (swiotlb.c)
abbrev pub choose : (ℕ → Bool) → ℕ → ℕ → ℕ → Align → Option ℕ
choose used slots hint need align =
    option_or
    (first_such (fits_at used slots need align) hint (slots - hint))
    (first_such (fits_at used slots need align) 0 hint)

-- the hint after a run was taken: the place after it, or 0 at the area's end (swiotlb.c)
abbrev pub hint_after : ℕ → ℕ → ℕ → ℕ
hint_after slots at need = if at + need == slots then 0 else at + need
