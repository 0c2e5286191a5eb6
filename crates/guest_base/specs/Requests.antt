use Rattle.std.specs.Prelude.{ℕ, ◌-◌, ◌+◌, ◌*◌, ◌/◌, ◌^◌, ◌==◌, ◌&&◌, ◌||◌, Bool, nat_lt, nat_le, unwrap_or, bit_and, if◌then◌else◌}
use Rattle.guest_base.specs.declared.limits.TheConstants.{SLOT_BYTES, SEGMENT_SLOTS, PAGE_BYTES}
use Rattle.guest_base.specs.declared.transfer.Align.{Align}
use Rattle.guest_base.specs.declared.transfer.Align.TheVariants.{Any, Even, Odd}
use Rattle.guest_base.specs.declared.transfer.Request.{Request}
use Rattle.guest_base.specs.Search.{first_such}

-- A mapping of len bytes from the address addr on keeps the bits of the address that its mask names. A slot is 2,048 bytes,
-- and an odd slot is the second half of a page.

-- the mapping's first byte stands this far behind the start of its first slot, in bytes (swiotlb.c)
abbrev pub offset_of : ℕ → ℕ → ℕ
offset_of addr mask = bit_and (bit_and addr mask) (SLOT_BYTES - 1)

-- the slots that hold the mapping (swiotlb.c)
abbrev pub need_of : ℕ → ℕ → ℕ → ℕ
need_of addr len mask = (offset_of addr mask + len + SLOT_BYTES - 1) / SLOT_BYTES

-- the slots before the mapping in its page, 0 or 1: 1 where it has to begin in an odd slot (own rule)
abbrev pub lead_of : ℕ → ℕ → ℕ
lead_of addr mask = if bit_and (bit_and addr mask) SLOT_BYTES == 0 then 0 else 1

-- the mapping fits in no empty segment (own rule)
abbrev pub too_long : ℕ → ℕ → ℕ → Bool
too_long addr len mask = nat_lt SEGMENT_SLOTS (lead_of addr mask + need_of addr len mask)

-- an odd slot where there is a lead; else an even one where the mask is 4095, or where no bit is kept and the mapping is at
-- least a page (own rule)
abbrev pub align_of : ℕ → ℕ → ℕ → Align
align_of addr len mask =
    if lead_of addr mask == 1
    then Odd
    else (if mask == (PAGE_BYTES - 1) || (mask == 0 && nat_le PAGE_BYTES len) then Even else Any)

-- what a mapping asks of an area (own rule)
abbrev pub request_of : ℕ → ℕ → ℕ → Request
request_of addr len mask = record {
  need = need_of addr len mask;
  align = align_of addr len mask;
  offset = offset_of addr mask;
  len = len;
}

-- the least power of two that is at least n
abbrev pub raised_to_power : ℕ → ℕ
raised_to_power n = 2 ^ unwrap_or (first_such (λ k. nat_le n (2 ^ k)) 0 (n + 1)) 0

-- the size of a pool for which these slots were asked: a segment for each area at least, and then a power of two (swiotlb.c)
abbrev pub raised_slots : ℕ → ℕ → ℕ
raised_slots slots areas = if nat_lt slots (SEGMENT_SLOTS * areas) then SEGMENT_SLOTS * areas else raised_to_power slots
