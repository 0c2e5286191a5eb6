use Rattle.std.specs.Prelude.{ℕ, ◌≡◌, ◌≢◌, ◌+◌, ◌^◌, ◌%◌, ◌<◌, ◌≤◌, ◌==◌, Bool, List, length, slice_index}
use Rattle.guest_base.specs.declared.limits.TheConstants.{SEGMENT_SLOTS}

-- The count of a slot is the length of the free run that begins at it within its segment, 0 where
-- it is used.

-- a slot is used by its count, and so is every number past the end
abbrev pub zero_at : List ℕ → ℕ → Bool
zero_at counts k = slice_index counts k == 0

-- each free slot that isn't its segment's last counts one more than the next slot, except the slot
-- just before edge; no count passes its segment
pub record IsCountedBut (counts : List ℕ) (edge : ℕ) : Type 0 where
  pub steps : (k : ℕ) → (k + 1) % SEGMENT_SLOTS ≢ 0 → k + 1 ≢ edge → 0 < slice_index counts k
      → slice_index counts k ≡ slice_index counts (k + 1) + 1
  pub bound : (k : ℕ) → slice_index counts k + k % SEGMENT_SLOTS ≤ SEGMENT_SLOTS

-- the same for every slot
abbrev pub IsCounted : List ℕ → Type 0
IsCounted counts = IsCountedBut counts 0

-- what an area keeps: the counts of whole segments, and a slot as the hint
pub record IsKept (counts : List ℕ) (hint : ℕ) : Type 0 where
  pub counted : IsCounted counts
  pub segments : length counts % SEGMENT_SLOTS ≡ 0
  pub few : length counts < 2 ^ 32
  pub hint_in : hint < length counts
