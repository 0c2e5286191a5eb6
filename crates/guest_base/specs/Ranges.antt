use Rattle.std.specs.Prelude.{◌≡◌, ◌⊎◌, ℕ, ◌+◌, ◌<◌, ◌≤◌, Bool, ◌&&◌, nat_lt, nat_le}
use Rattle.guest_base.specs.declared.limits.TheConstants.{PAGE_END}

-- a number of the range that begins at first and has count numbers
abbrev pub InRange : ℕ → ℕ → ℕ → Type 0
InRange first count n = (first ≤ n) × (n < first + count)

-- the same as a test
abbrev pub in_range : ℕ → ℕ → ℕ → Bool
in_range first count n = nat_le first n && nat_lt n (first + count)

-- two ranges have a number in common
abbrev pub RangesMeet : ℕ → ℕ → ℕ → ℕ → Type 0
RangesMeet first count other_first other_count =
    (n : ℕ) × InRange first count n × InRange other_first other_count n

-- a range has a number, and ends where memory ends or below
abbrev pub IsRange : ℕ → ℕ → Type 0
IsRange first count = (0 < count) × (first + count ≤ PAGE_END)

-- a range has no number, or ends above the end of memory
abbrev pub IsNoRange : ℕ → ℕ → Type 0
IsNoRange first count = (count ≡ 0) ⊎ (PAGE_END < first + count)
