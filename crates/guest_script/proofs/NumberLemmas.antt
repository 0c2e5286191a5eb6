use Rattle.std.proofs.Common.{◌≡◌, ℕ, ◌+◌, ◌*◌, ◌<◌, ◌≤◌, ◌^◌, List, [], ◌∷◌, None, Some, arith, refl, ap, sym, ◌∙◌, mul-le-mul_left, length, get_or, drop, drop-cons, suc, cond}
use Rattle.std.specs.Prelude.{Bool, true, false, nat_lt, ◌&&◌}
use Rattle.std.specs.Char.{digit_value}
use Rattle.std.specs.Str.Parse.{digits_value_after, digits_value}
use Rattle.guest_script.specs.Number.{all_digits, small_value}
use Rattle.std.proofs.Math.ListN.{drop_of_length-le}
use Rattle.std.proofs.lemmas.Bool.{le-ltb, lt-ltb}

-- more digits never make a number smaller
pub value_grows : (base n : ℕ) (digits : List ℕ) → 1 ≤ base → n ≤ digits_value_after base n digits
value_grows base n [] h = omega arith
value_grows base n (b ∷ bs) h = omega (arith, value_grows base (n * base + digit_value b) bs h, mul-le-mul_left n h)

not_both : (b c : Bool) (x : ℕ) → c ≡ false → cond (b && c) (Some x) None ≡ None
not_both true c x h = ap (λ d. cond d (Some x) None) h
not_both false c x h = refl

both : (b c : Bool) (x : ℕ) → b ≡ true → c ≡ true → cond (b && c) (Some x) None ≡ Some x
both b c x p q = rw (p, q) refl

-- a value of 2^64 or more isn't small
too_large : (base : ℕ) (digits : List ℕ) → 2 ^ 64 ≤ digits_value base digits → small_value base digits ≡ None
too_large base digits h = not_both (all_digits base digits) (nat_lt (digits_value base digits) (2 ^ 64)) (digits_value base digits) (le-ltb _ _ h)

-- the value of the digits up to one of them is already too large
pub overflows : (base value i d : ℕ) (digits : List ℕ) → 1 ≤ base → i < length digits
    → digits_value_after base value (drop i digits) ≡ digits_value_after base 0 digits
    → 2 ^ 64 ≤ value * base + digit_value (get_or digits i d) → small_value base digits ≡ None
overflows base value i d digits low within left large =
    let whole = sym left ∙ ap (λ ds. digits_value_after base value ds) (drop-cons digits i d within) in
    too_large base digits (omega (arith, whole, value_grows base (value * base + digit_value (get_or digits i d)) (drop (suc i) digits) low))

pub fits : (base value : ℕ) (digits : List ℕ) → all_digits base digits ≡ true → digits_value base digits ≡ value → value < 2 ^ 64 → small_value base digits ≡ Some value
fits base value digits h e small =
    both (all_digits base digits) (nat_lt (digits_value base digits) (2 ^ 64)) (digits_value base digits) h (lt-ltb _ _ (omega (arith, e))) ∙ ap (λ n. Some n) e

-- no digits are left
pub at_end : (base value i : ℕ) (digits : List ℕ) → length digits ≤ i → (all_digits base (drop i digits) ≡ true) × (digits_value_after base value (drop i digits) ≡ value)
at_end base value i digits h = let none = drop_of_length-le digits h in (ap (all_digits base) none, ap (digits_value_after base value) none)
