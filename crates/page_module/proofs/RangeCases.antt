-- Where a number lies by a range.
use Rattle.std.proofs.Common.{ℕ, ◌+◌, ◌<◌, ◌≤◌, inl, inr}
use Rattle.std.proofs.lemmas.Bool.{cases_lt}

-- a number lies below a range, in it, or past it
pub data Where (first count n : ℕ) : Type 0 where
  below : n < first → Where first count n
  within : first ≤ n → n < first + count → Where first count n
  past : first + count ≤ n → Where first count n

pub where_is : (first count n : ℕ) → Where first count n
where_is first count n =
    elim (cases_lt n first) [ inl a ↦ below a | inr a ↦ elim (cases_lt n (first + count)) [ inl b ↦ within a b | inr b ↦ past b ] ]
