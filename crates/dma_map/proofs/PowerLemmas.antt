-- Lemmas on powers of two.
use Rattle.std.proofs.Common.{ℕ, ◌≡◌, ◌+◌, ◌*◌, ◌/◌, ◌^◌, ◌<◌, ◌≤◌, zero, suc, leb, max, unwrap_or, sym, ap, ◌∙◌, ⊎_elim, subst, arith}
use Rattle.std.proofs.Math.Nat.{pow-succ'}
use Rattle.std.proofs.Math.Pow.{pow_mono, pow-add}
use Rattle.std.proofs.lemmas.Bool.{cases_lt, le-leb, lt-leb}
use Rattle.std.proofs.lemmas.Nat.{pow_pos}
use Rattle.std.specs.Int.{IsPowerOfTwo}
use Rattle.guest_base.specs.Requests.{raised_to_power}
use Rattle.guest_base.proofs.SearchLemmas.{IsFirstSuch, first_such_is}

-- a number is below its power of two
exponent_below : (k : ℕ) → k + 1 ≤ 2 ^ k
exponent_below zero = omega arith
exponent_below (suc k) = omega (arith, exponent_below k, pow-succ' 2 k)

-- half the power of a positive exponent is the power before
half_power : (j : ℕ) → 2 ^ suc j / 2 ≡ 2 ^ j
half_power j = omega (arith, pow-succ' 2 j)

is_first : (n k : ℕ) → n ≤ 2 ^ k → 2 ^ k / 2 < max 1 n → IsFirstSuch (λ e. leb n (2 ^ e)) 0 (n + 1) k
is_first n zero above close = record {
  low = omega arith;
  high = omega arith;
  passes = le-leb _ _ above;
  before = λ e _ less. absurd (omega arith);
}
is_first n (suc j) above close = record {
  low = omega arith;
  high = omega (arith, half_power j, exponent_below j, pow_pos j);
  passes = le-leb _ _ above;
  before = λ e _ less.
      let below : 2 ^ e ≤ 2 ^ j = pow_mono (omega arith) in
      lt-leb _ _ (omega (arith, half_power j, below, pow_pos j));
}

-- the least power of two that is at least n
pub raised_to_power_is : (n p : ℕ) → IsPowerOfTwo p → n ≤ p → p / 2 < max 1 n → raised_to_power n ≡ p
raised_to_power_is n p power above close =
    let k : ℕ = power.0 in
    let e : p ≡ 2 ^ k = power.1 in
    let found = first_such_is (λ e. leb n (2 ^ e)) 0 (n + 1) k (is_first n k (subst (λ q. n ≤ q) e above) (subst (λ q. q / 2 < max 1 n) e close)) in
    ap (λ o. 2 ^ unwrap_or o 0) found ∙ sym e

-- a power of two with half of it below a power isn't above that power
pub power_within : (p limit : ℕ) → IsPowerOfTwo p → p / 2 < 2 ^ limit → p ≤ 2 ^ limit
power_within p limit power close = within power.0 power.1
  where
    within : (k : ℕ) → p ≡ 2 ^ k → p ≤ 2 ^ limit
    within zero e = omega (arith, e, pow_pos limit)
    within (suc j) e =
        ⊎_elim
        (λ (low : j < limit). let m : 2 ^ suc j ≤ 2 ^ limit = pow_mono low in omega (arith, e, m))
        (λ (high : limit ≤ j). let m : 2 ^ limit ≤ 2 ^ j = pow_mono high in absurd (omega (arith, e, m, half_power j)))
        (cases_lt j limit)

-- segments for a power of two of areas
pub power_of_segments : (areas : ℕ) → IsPowerOfTwo areas → IsPowerOfTwo (areas * 128)
power_of_segments areas power = (power.0 + 7, ap (λ n. n * 128) power.1 ∙ sym (pow-add 2 power.0 7))
