use Rattle.std.proofs.Common.{◌≡◌, ℕ, ◌+◌, ◌<◌, ◌≤◌, true, false, arith}
use Rattle.std.specs.Prelude.{nat_lt}
use Rattle.guest_base.specs.Ranges.{in_range}

-- The test of a range: a number between its ends passes, and no other.

pub in_range-intro : (first count n : ℕ) → first ≤ n → n < first + count → in_range first count n ≡ true
in_range-intro first count n low high = grind arith

pub in_range-elim : (first count n : ℕ) → in_range first count n ≡ true → (first ≤ n) × (n < first + count)
in_range-elim first count n h = grind arith

pub in_range-below : (first count n : ℕ) → n < first → in_range first count n ≡ false
in_range-below first count n h = grind arith

pub in_range-past : (first count n : ℕ) → first + count ≤ n → in_range first count n ≡ false
in_range-past first count n h = grind arith

pub lt-of : (a b : ℕ) → nat_lt a b ≡ true → a < b
lt-of a b h = grind arith
