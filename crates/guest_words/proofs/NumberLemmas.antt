use Rattle.std.proofs.Common.{ℕ, zero, suc, ◌+◌, ◌/◌, ◌≡◌, ◌≤◌, ◌<◌, ◌^◌, ◌==◌, ◌||◌, Bool, true, false, sym, ◌∙◌, ap, arith, inl, inr, leb, max, unwrap_or, subst, ⊎_elim}
use Rattle.std.proofs.Math.Nat.{pow-succ'}
use Rattle.std.proofs.Math.Pow.{pow_mono}
use Rattle.std.proofs.lemmas.Bool.{cases_Bool, cases_lt, eqb-true, le-leb, lt-leb}
use Rattle.std.proofs.lemmas.Bool.Decides.{nat_tests}
use Rattle.std.specs.Int.{IsPowerOfTwo}
use Rattle.guest_base.specs.Requests.{raised_to_power}
use Rattle.guest_base.specs.Search.{any_such}
use Rattle.guest_base.proofs.SearchLemmas.{IsFirstSuch, any_such-pass, any_such-fail, any_such-zero, any_such-true, first_such_is}
use Rattle.guest_words.specs.Words.{is_areas, is_cpus}

any_step : (test : ℕ → Bool) (from count : ℕ) → any_such test from (suc count) ≡ (test from || any_such test (from + 1) count)
any_step test from count =
    elim (cases_Bool (test from)) [
      | inl h ↦ any_such-pass test from count h ∙ sym (ap (λ b. b || any_such test (from + 1) count) h)
      | inr h ↦ any_such-fail test from count h ∙ sym (ap (λ b. b || any_such test (from + 1) count) h)
    ]

-- the powers of two from 1 to 64
pub areas_told : (count : ℕ) → is_areas count ≡ ((count == 1) || ((count == 2) || ((count == 4) || ((count == 8) || ((count == 16) || ((count == 32) || ((count == 64) || false)))))))
areas_told count =
    let test : ℕ → Bool = λ order. count == 2 ^ order in
    any_step test 0 6
    ∙ ap (λ b. (count == 1) || b) (any_step test 1 5
    ∙ ap (λ b. (count == 2) || b) (any_step test 2 4
    ∙ ap (λ b. (count == 4) || b) (any_step test 3 3
    ∙ ap (λ b. (count == 8) || b) (any_step test 4 2
    ∙ ap (λ b. (count == 16) || b) (any_step test 5 1
    ∙ ap (λ b. (count == 32) || b) (any_step test 6 0
    ∙ ap (λ b. (count == 64) || b) (any_such-zero test 7)))))))

pub areas_few : (count : ℕ) → is_areas count ≡ true → count ≤ 64
areas_few count h = let told = sym (areas_told count) ∙ h in grind (arith, told)

pub areas_power : (count : ℕ) → is_areas count ≡ true → IsPowerOfTwo count
areas_power count h = let found = any_such-true (λ order. count == 2 ^ order) 0 7 h in (found.0, eqb-true _ _ found.1.passes)

-- ---- a power of two from a number on

-- a number is below its power of two
exponent_below : (k : ℕ) → k + 1 ≤ 2 ^ k
exponent_below zero = omega arith
exponent_below (suc k) = omega (arith, exponent_below k, pow-succ' 2 k)

-- the exponent of the least power of two that is at least n
is_first : (n k : ℕ) → n ≤ 2 ^ k → 2 ^ k / 2 < max 1 n → IsFirstSuch (λ e. leb n (2 ^ e)) 0 (n + 1) k
is_first n zero above close = record {
  low = omega arith;
  high = omega arith;
  passes = le-leb _ _ above;
  before = λ e _ less. absurd (omega arith);
}
is_first n (suc j) above close = record {
  low = omega arith;
  high = omega (arith, pow-succ' 2 j, exponent_below j);
  passes = le-leb _ _ above;
  before = λ e _ less.
      let below : 2 ^ e ≤ 2 ^ j = pow_mono (omega arith) in
      lt-leb _ _ (omega (arith, pow-succ' 2 j, below, exponent_below j));
}

-- the least power of two that is at least n
pub raises : (n p : ℕ) → IsPowerOfTwo p → n ≤ p → p / 2 < max 1 n → p ≡ raised_to_power n
raises n p power above close =
    let k : ℕ = power.0 in
    let e : p ≡ 2 ^ k = power.1 in
    let found = first_such_is (λ e. leb n (2 ^ e)) 0 (n + 1) k (is_first n k (subst (λ q. n ≤ q) e above) (subst (λ q. q / 2 < max 1 n) e close)) in
    sym (ap (λ o. 2 ^ unwrap_or o 0) found ∙ sym e)

exponent_small : (k n : ℕ) → 2 ^ k / 2 < max 1 n → n ≤ 64 → k < 7
exponent_small zero n close few = omega arith
exponent_small (suc j) n close few =
    ⊎_elim
    (λ (low : j < 6). omega (arith, low))
    (λ (high : 6 ≤ j). let m : 2 ^ 6 ≤ 2 ^ j = pow_mono high in absurd (omega (arith, m, close, few, pow-succ' 2 j)))
    (cases_lt j 6)

cpus_few : (n : ℕ) → is_cpus n ≡ true → n ≤ 64
cpus_few n h = grind (arith, nat_tests, h)

-- as many areas as processors, raised to a power of two
pub raised_few : (n p : ℕ) → is_cpus n ≡ true → IsPowerOfTwo p → n ≤ p → p / 2 < max 1 n → p ≤ 64
raised_few n p few power above close =
    let k : ℕ = power.0 in
    let e : p ≡ 2 ^ k = power.1 in
    let small : k < 7 = exponent_small k n (subst (λ q. q / 2 < max 1 n) e close) (cpus_few n few) in
    let low : k ≤ 6 = omega (arith, small) in
    let below : 2 ^ k ≤ 2 ^ 6 = pow_mono low in
    omega (arith, e, below)
