use Rattle.std.proofs.Common.{◌≡◌, ◌≢◌, ℕ, ◌+◌, ◌-◌, ◌*◌, ◌/◌, ◌%◌, ◌^◌, ◌<◌, ◌≤◌, min, Bool, true, false, List, Some, length, get_or, inl, inr, refl, sym, ◌∙◌, ap, arith, get_or-set_same, get_or-set_other, w8, mul-le-mul_right, length-set}
use Rattle.std.specs.Prelude.{if◌then◌else◌, ◌==◌, ◌&&◌, ◌||◌, bit_and, bit_or, nat_lt}
use Rattle.std.specs.Int.{bit_at, bit_not}
use Rattle.std.proofs.Math.Bool.{and-false, or-true, or-false}
use Rattle.std.proofs.Math.ListN.{set}
use Rattle.std.proofs.lemmas.Bool.{cases_Bool, cases_lt, lt-ltb, le-ltb, eqb-true, eqb-false}
use Rattle.std.proofs.lemmas.Nat.Bits.{bit_at_clear_same, bit_at_clear_other, bit_at_set_same, bit_at_set_other}
use Rattle.std.proofs.lemmas.Grind.{div_ceil_times}
use Rattle.event_core.specs.Units.{bit_of, unit_count, units_between}

-- two numbers are equal where both are the least whose multiple reaches a number
same_quotient : (b p q a : ℕ) → a ≤ p * b → p * b < a + b → a ≤ q * b → q * b < a + b → p ≡ q
same_quotient b p q a p_low p_high q_low q_high =
    elim (cases_lt p q) [
      | inl lt ↦ absurd (let le : p + 1 ≤ q = omega arith in omega (arith, mul-le-mul_right b le))
      | inr le ↦
          elim (cases_lt q p) [
            | inl lt ↦ absurd (let le : q + 1 ≤ p = omega arith in omega (arith, mul-le-mul_right b le))
            | inr ge ↦ omega arith
          ]
    ]

-- a quotient rounded up, in two forms
pub rounded_up : (a b : ℕ) → 0 < b → a / b + min 1 (a % b) ≡ (a + b - 1) / b
rounded_up a b some =
    let t = div_ceil_times a b some in
    let low : a ≤ (a + b - 1) / b * b = omega arith in
    let high : (a + b - 1) / b * b < a + b = omega arith in
    same_quotient b _ _ a t.0 t.1 low high

pub units_between-some : (size start end : ℕ) → 0 < size → start < end
    → units_between size start end ≡ Some (record { first = start / size; count = end / size + min 1 (end % size) - start / size })
units_between-some size start end some lt =
    let test = lt-ltb start end lt in
    let up = rounded_up end size some in
    rw (test, up) refl

-- ---- the bit of a unit by the bit of its byte

-- the bit of a unit in its byte
abbrev pub byte_bit : List ℕ → ℕ → ℕ
byte_bit xs unit = bit_at (get_or xs (unit / 8) 0) (unit % 8)

-- the test of a unit's bit by the unit's place and its byte's bit
abbrev pub bit_by : ℕ → ℕ → ℕ → Bool
bit_by size unit bit = nat_lt unit (8 * size) && (bit == 1)

pub bit_of-zero : (xs : List ℕ) (unit : ℕ) → byte_bit xs unit ≡ 0 → bit_of xs unit ≡ false
bit_of-zero xs unit e = ap (λ bit. bit_by (length xs) unit bit) e ∙ and-false (nat_lt unit (unit_count xs))

pub bit_of-one : (xs : List ℕ) (unit : ℕ) → unit < unit_count xs → byte_bit xs unit ≡ 1 → bit_of xs unit ≡ true
bit_of-one xs unit below e = ap (λ bit. bit_by (length xs) unit bit) e ∙ ap (λ b. b && true) (lt-ltb unit (unit_count xs) below)

pub bit_of-outside : (xs : List ℕ) (unit : ℕ) → unit_count xs ≤ unit → bit_of xs unit ≡ false
bit_of-outside xs unit h = ap (λ b. b && (byte_bit xs unit == 1)) (le-ltb unit (unit_count xs) h)

pub bit_of-same : (xs ys : List ℕ) (unit : ℕ) → length ys ≡ length xs → byte_bit ys unit ≡ byte_bit xs unit → bit_of ys unit ≡ bit_of xs unit
bit_of-same xs ys unit size e = ap (λ n. bit_by n unit (byte_bit ys unit)) size ∙ ap (λ bit. bit_by (length xs) unit bit) e

-- the other units of the same byte stand at other places
other_place : (unit k : ℕ) → k ≢ unit → k / 8 ≡ unit / 8 → k % 8 ≢ unit % 8
other_place unit k ne e same = ne (omega arith)

-- the byte of a unit replaced by a value
pub byte_bit-set_same : (xs : List ℕ) (unit value : ℕ) → unit < unit_count xs → (k : ℕ) → k / 8 ≡ unit / 8 → byte_bit (set xs (unit / 8) value) k ≡ bit_at value (k % 8)
byte_bit-set_same xs unit value below k e =
    let place : unit / 8 < length xs = omega arith in
    ap (λ i. bit_at (get_or (set xs (unit / 8) value) i 0) (k % 8)) e ∙ ap (λ byte. bit_at byte (k % 8)) (get_or-set_same xs (unit / 8) value 0 place)

pub byte_bit-set_other : (xs : List ℕ) (unit value k : ℕ) → k / 8 ≢ unit / 8 → byte_bit (set xs (unit / 8) value) k ≡ byte_bit xs k
byte_bit-set_other xs unit value k ne = ap (λ byte. bit_at byte (k % 8)) (get_or-set_other xs (unit / 8) (k / 8) value 0 ne)

-- the bits after one byte was replaced by itself without one bit
pub bit_of-cleared : (xs : List ℕ) (unit k value : ℕ) → unit < unit_count xs
    → value ≡ bit_and (get_or xs (unit / 8) 0) (bit_not w8 (1 * 2 ^ (unit % 8) % 2 ^ 8))
    → bit_of (set xs (unit / 8) value) k ≡ (if k == unit then false else bit_of xs k)
bit_of-cleared xs unit k value below is =
    let byte = get_or xs (unit / 8) 0 in
    let within : unit % 8 < 8 = omega arith in
    let size = length-set xs (unit / 8) value in
    elim (cases_Bool (k == unit)) [
      | inl t ↦
          (let e : k ≡ unit = eqb-true k unit t in
          let same : k / 8 ≡ unit / 8 = omega arith in
          let bit : bit_at value (k % 8) ≡ 0 =
          ap (λ n. bit_at value (n % 8)) e ∙ ap (λ v. bit_at v (unit % 8)) is ∙ bit_at_clear_same w8 byte (unit % 8) within
          in
          bit_of-zero (set xs (unit / 8) value) k (byte_bit-set_same xs unit value below k same ∙ bit)
          ∙ sym (ap (λ b. if b then false else bit_of xs k) t))
      | inr f ↦
          (let ne : k ≢ unit = λ e. eqb-false k unit f e in
          bit_of-same xs (set xs (unit / 8) value) k size
          (elim (cases_Bool (k / 8 == unit / 8)) [
            | inl t ↦
                (let e : k / 8 ≡ unit / 8 = eqb-true (k / 8) (unit / 8) t in
                byte_bit-set_same xs unit value below k e
                ∙ ap (λ v. bit_at v (k % 8)) is
                ∙ bit_at_clear_other w8 byte (unit % 8) within (k % 8) (omega arith) (other_place unit k ne e)
                ∙ sym (ap (λ i. bit_at (get_or xs i 0) (k % 8)) e))
            | inr other ↦ byte_bit-set_other xs unit value k (λ e. eqb-false (k / 8) (unit / 8) other e)
          ])
          ∙ sym (ap (λ b. if b then false else bit_of xs k) f))
    ]

-- the bits after one byte was replaced by itself with one more bit
pub bit_of-set : (xs : List ℕ) (unit k value : ℕ) → unit < unit_count xs
    → value ≡ bit_or (get_or xs (unit / 8) 0) (1 * 2 ^ (unit % 8) % 2 ^ 8)
    → bit_of (set xs (unit / 8) value) k ≡ (bit_of xs k || (k == unit))
bit_of-set xs unit k value below is =
    let byte = get_or xs (unit / 8) 0 in
    let within : unit % 8 < 8 = omega arith in
    let size = length-set xs (unit / 8) value in
    elim (cases_Bool (k == unit)) [
      | inl t ↦
          (let e : k ≡ unit = eqb-true k unit t in
          let same : k / 8 ≡ unit / 8 = omega arith in
          let inside : k < unit_count (set xs (unit / 8) value) = omega arith in
          let bit : bit_at value (k % 8) ≡ 1 =
          ap (λ n. bit_at value (n % 8)) e ∙ ap (λ v. bit_at v (unit % 8)) is ∙ bit_at_set_same w8 byte (unit % 8) within
          in
          bit_of-one (set xs (unit / 8) value) k inside (byte_bit-set_same xs unit value below k same ∙ bit)
          ∙ sym (ap (λ b. bit_of xs k || b) t ∙ or-true (bit_of xs k)))
      | inr f ↦
          (let ne : k ≢ unit = λ e. eqb-false k unit f e in
          bit_of-same xs (set xs (unit / 8) value) k size
          (elim (cases_Bool (k / 8 == unit / 8)) [
            | inl t ↦
                (let e : k / 8 ≡ unit / 8 = eqb-true (k / 8) (unit / 8) t in
                byte_bit-set_same xs unit value below k e
                ∙ ap (λ v. bit_at v (k % 8)) is
                ∙ bit_at_set_other w8 byte (unit % 8) within (k % 8) (other_place unit k ne e)
                ∙ sym (ap (λ i. bit_at (get_or xs i 0) (k % 8)) e))
            | inr other ↦ byte_bit-set_other xs unit value k (λ e. eqb-false (k / 8) (unit / 8) other e)
          ])
          ∙ sym (ap (λ b. bit_of xs k || b) f ∙ or-false (bit_of xs k)))
    ]
