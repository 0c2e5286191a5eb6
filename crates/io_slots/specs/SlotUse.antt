use Rattle.std.specs.Prelude.{ℕ, Bool, true, List, length, count_by, slice_index_or}

-- what is seen of an area's slots: whether each of them is used, and the hint
pub record SlotUse : Type 0 where
  pub flags : List Bool
  pub hint : ℕ

-- the slots of the area
abbrev pub slot_count : SlotUse → ℕ
slot_count s = length s.flags

-- a slot is used; every number past the area's end counts as used
abbrev pub is_used : SlotUse → ℕ → Bool
is_used s k = slice_index_or s.flags k true

-- how many slots are used
abbrev pub used_count : SlotUse → ℕ
used_count s = count_by (λ u. u) s.flags
