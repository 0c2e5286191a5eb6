use Rattle.std.proofs.Common.{◌≡◌, ℕ, zero, ◌+◌, ◌-◌, ◌*◌, ◌/◌, ◌%◌, ◌^◌, ◌<◌, ◌≤◌, ◌||◌, eqb, leb, ltb, inl, inr, sym, ap, ◌∙◌, arith}
use Rattle.std.proofs.Math.Nat.{mul-le-mul_left, le_of_mul-le-mul_left, mul_comm}
use Rattle.std.proofs.lemmas.Bool.{cases_Bool, and_from, and_parts, eqb-true, eq-eqb, le-leb, lt-ltb, leb-true, ltb-true, false_from_ne_true, false≢true}
use Rattle.guest_base.specs.Ranges.{in_range}
use Rattle.std.proofs.lemmas.Bool.Decides.{nat_tests}
use Rattle.std.proofs.lemmas.Nat.{shl-shr, shr-shr, shr_split, pow_pos, pow-add, div-mul-add, mod_below, mod_low}

-- a page's block of the next order is the half of its number
pub half : (page k j : ℕ) → j ≡ k + 1 → page / 2 ^ j ≡ page / 2 ^ k / 2
half page k j e = sym (shr-shr page k 1 ∙ ap (λ o. page / 2 ^ o) (sym e))

-- pages of one block are in one block of each greater order
pub deeper : (p q k l : ℕ) → k ≤ l → p / 2 ^ k ≡ q / 2 ^ k → p / 2 ^ l ≡ q / 2 ^ l
deeper p q k l le same =
    let e : k + (l - k) ≡ l = omega arith in
    ap (λ o. p / 2 ^ o) (sym e) ∙ sym (shr-shr p k (l - k)) ∙ ap (λ n. n / 2 ^ (l - k)) same ∙ shr-shr q k (l - k) ∙ ap (λ o. q / 2 ^ o) e

-- the first page of a block lies in it
pub first_in : (n k : ℕ) → n * 2 ^ k / 2 ^ k ≡ n
first_in n k = shl-shr n k

-- the pages of a block lie from its first one on
pub in_block : (n k page : ℕ) → page / 2 ^ k ≡ n → (n * 2 ^ k ≤ page) × (page < n * 2 ^ k + 2 ^ k)
in_block n k page e =
    let split = shr_split page k in
    let same = ap (λ m. m * 2 ^ k) e in
    let rest = mod_below page (2 ^ k) (pow_pos k) in
    (omega arith, omega arith)

pub block_in : (n k page : ℕ) → n * 2 ^ k ≤ page → page < n * 2 ^ k + 2 ^ k → page / 2 ^ k ≡ n
block_in n k page low high =
    let rest : ℕ = page - n * 2 ^ k in
    let whole : n * 2 ^ k + rest ≡ page = omega arith in
    let small : rest < 2 ^ k = omega arith in
    ap (λ p. p / 2 ^ k) (sym whole) ∙ div-mul-add n (2 ^ k) rest small

-- 2^28 bounds a block's number with its end
pub number_small : (n k : ℕ) → (n + 1) * 2 ^ k ≤ 2 ^ 28 → n < 2 ^ 28
number_small n k end =
    let one : 1 ≤ 2 ^ k = pow_pos k in
    let le = mul-le-mul_left (n + 1) one in
    omega arith

-- a block of the next order has twice the pages
pub double : (k j : ℕ) → j ≡ k + 1 → 2 ^ j ≡ 2 * 2 ^ k
double k j e = ap (λ o. 2 ^ o) e ∙ pow-add 2 k 1 ∙ mul_comm (2 ^ k) 2

-- the end of the two halves is the end of the whole
pub halves_end : (n k j : ℕ) → j ≡ k + 1 → (n + 1) * 2 ^ j ≡ (2 * n + 2) * 2 ^ k
halves_end n k j e =
    let same = ap (λ m. (n + 1) * m) (double k j e) in
    omega arith

-- a number is the half of a half, of one or the other
pub half_tests : (q n : ℕ) → eqb (q / 2) n ≡ (eqb q (2 * n + 1) || eqb q (2 * n))
half_tests q n = grind (arith, nat_tests)

pub pair_tests : (q n m : ℕ) → m / 2 ≡ n / 2 → (m ≡ n → ⊥) → eqb (q / 2) (n / 2) ≡ (eqb q m || eqb q n)
pair_tests q n m pair other = grind (arith, nat_tests)

-- numbers of an order whose blocks end at most at 2^28
pub number_below : (n k : ℕ) → k ≤ 28 → (n + 1) * 2 ^ k ≤ 2 ^ 28 → n < 2 ^ (28 - k)
number_below n k le end =
    let e : (28 - k) + k ≡ 28 = omega arith in
    let split : 2 ^ 28 ≡ 2 ^ (28 - k) * 2 ^ k = ap (λ o. 2 ^ o) (sym e) ∙ pow-add 2 (28 - k) k in
    let turned : 2 ^ k * (n + 1) ≤ 2 ^ k * 2 ^ (28 - k) = omega arith in
    let positive : zero < 2 ^ k = pow_pos k in
    let le : n + 1 ≤ 2 ^ (28 - k) = le_of_mul-le-mul_left turned positive in
    omega arith

-- a block and its lower half begin at one page
pub lower_first : (n m k j : ℕ) → j ≡ k + 1 → m ≡ 2 * n → m * 2 ^ k ≡ n * 2 ^ j
lower_first n m k j order number =
    let same = ap (λ x. n * x) (double k j order) in
    let own = ap (λ x. x * 2 ^ k) number in
    omega arith

-- a page is in the range of a block's pages exactly where its number says so
pub in_range_is : (n k page : ℕ) → in_range (n * 2 ^ k) (2 ^ k) page ≡ eqb (page / 2 ^ k) n
in_range_is n k page =
    elim (cases_Bool (eqb (page / 2 ^ k) n)) as (λ _. in_range (n * 2 ^ k) (2 ^ k) page ≡ eqb (page / 2 ^ k) n) [
      | inl is ↦
          (let place = in_block n k page (eqb-true _ _ is) in
          and_from (leb (n * 2 ^ k) page) (ltb page (n * 2 ^ k + 2 ^ k)) (le-leb _ _ place.0) (lt-ltb _ _ place.1) ∙ sym is)
      | inr other ↦
          false_from_ne_true (in_range (n * 2 ^ k) (2 ^ k) page) (λ inside.
          let parts = and_parts (leb (n * 2 ^ k) page) (ltb page (n * 2 ^ k + 2 ^ k)) inside in
          false≢true (sym other ∙ eq-eqb _ _ (block_in n k page (leb-true _ _ parts.0) (ltb-true _ _ parts.1))))
          ∙ sym other
    ]

-- what a block's number says of its first page
pub number_form : (n k order first : ℕ) → k ≡ order → first ≡ n * 2 ^ k → (n + 1) * 2 ^ k ≤ 2 ^ 28 → (first % 2 ^ order ≡ 0) × (first + 2 ^ order ≤ 2 ^ 28)
number_form n k order first order_is first_is end =
    let same : first ≡ n * 2 ^ order = first_is ∙ ap (λ o. n * 2 ^ o) order_is in
    let whole : n * 2 ^ order ≡ n * 2 ^ order + 0 = omega arith in
    let same_end : (n + 1) * 2 ^ k ≡ (n + 1) * 2 ^ order = ap (λ o. (n + 1) * 2 ^ o) order_is in
    (ap (λ f. f % 2 ^ order) (same ∙ whole) ∙ mod_low n order 0 (pow_pos order), omega arith)

-- an aligned page is the first one of its block
pub aligned_first : (first k : ℕ) → first % 2 ^ k ≡ 0 → first / 2 ^ k * 2 ^ k ≡ first
aligned_first first k aligned = let split = shr_split first k in omega arith
