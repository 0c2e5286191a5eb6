-- The raised count of slots, and the share of each area.
use Rattle.std.proofs.Common.{◌≡◌, ◌≢◌, ℕ, zero, suc, ◌+◌, ◌-◌, ◌*◌, ◌/◌, ◌%◌, ◌^◌, ◌<◌, ◌≤◌, Bool, true, false, Option, None, Some, refl, sym, ◌∙◌, ap, subst, inl, inr, arith, unwrap_or, nat_lt, nat_le, cond}
use Rattle.std.specs.Int.{IsPowerOfTwo}
use Rattle.std.proofs.Math.Nat.{pow-succ', mul-div_cancel_left, mul-le-mul_right}
use Rattle.std.proofs.Math.Pow.{pow_mono, pow-add}
use Rattle.std.proofs.lemmas.Bool.{cases_Bool, cases_lt, leb-true, le-leb}
use Rattle.std.proofs.lemmas.Bool.Decides.{nat_tests}
use Rattle.std.proofs.lemmas.Nat.{pow_pos}
use Rattle.guest_base.specs.Search.{first_such}
use Rattle.guest_base.proofs.SearchLemmas.{first_such-Some, first_such-None}
use Rattle.guest_base.specs.Requests.{raised_slots, raised_to_power}
use Rattle.dma_map.specs.declared.pool.Layout.{Layout}
use Rattle.guest_boot.specs.Placing.{IsParted, MayAsk}

exponent-below : (n : ℕ) → n ≤ 2 ^ n
exponent-below zero = omega arith
exponent-below (suc n) = let more = exponent-below n in let one = pow_pos n in let next = pow-succ' 2 n in omega (arith, more, one, next)

power-above : (n : ℕ) → n ≤ raised_to_power n
power-above n = by_found (first_such (λ k. nat_le n (2 ^ k)) 0 (n + 1)) refl where
  by_found : (found : Option ℕ) → first_such (λ k. nat_le n (2 ^ k)) 0 (n + 1) ≡ found → n ≤ 2 ^ unwrap_or found 0
  by_found (Some k) is = leb-true n (2 ^ k) (first_such-Some (λ k. nat_le n (2 ^ k)) 0 (n + 1) k is).passes
  by_found None is =
      let fails : nat_le n (2 ^ n) ≡ false = (first_such-None (λ k. nat_le n (2 ^ k)) 0 (n + 1) is).fails n (omega arith) (omega arith) in
      let no : true ≡ false = sym (le-leb n (2 ^ n) (exponent-below n)) ∙ fails in
      cc

least-by : (b : Bool) (slots areas : ℕ) → nat_lt slots (128 * areas) ≡ b → 128 * areas ≤ cond b (128 * areas) (raised_to_power slots)
least-by true slots areas is = omega arith
least-by false slots areas is =
    let above = power-above slots in
    let least : 128 * areas ≤ slots = grind (arith, nat_tests, is) in
    omega (arith, above, least)

-- each area gets a segment at least
pub raised-least : (slots areas : ℕ) → 128 * areas ≤ raised_slots slots areas
raised-least slots areas = least-by (nat_lt slots (128 * areas)) slots areas refl

-- a power of two, and another one that is at least 128 times as great
record Shared (areas slots : ℕ) : Type 0 where
  pub share : ℕ
  pub some : 0 < share
  pub is : slots ≡ areas * (128 * share)

shared : (areas slots j k : ℕ) → areas ≡ 2 ^ j → slots ≡ 2 ^ k → 128 * areas ≤ slots → Shared areas slots
shared areas slots j k areas_is slots_is enough =
    elim (cases_lt k (j + 7)) [
      | inr high ↦
          (let m : ℕ = k - (j + 7) in
          let sum : k ≡ j + (7 + m) = omega (arith, high) in
          record {
            share = 2 ^ m;
            some = pow_pos m;
            is = slots_is ∙ ap (λ n. 2 ^ n) sum ∙ pow-add 2 j (7 + m) ∙ ap (λ n. 2 ^ j * n) (pow-add 2 7 m) ∙ ap (λ n. n * (128 * 2 ^ m)) (sym areas_is);
          })
      | inl low ↦
          (let most : 2 ^ k ≤ 2 ^ (j + 6) = pow_mono (omega (arith, low)) in
          let half : 2 ^ (j + 6) ≡ 2 ^ j * 64 = pow-add 2 j 6 in
          let some = pow_pos j in
          absurd (omega (arith, most, half, some, areas_is, slots_is, enough)))
    ]

share-is : (areas slots share : ℕ) → 0 < areas → slots ≡ areas * (128 * share) → slots / areas ≡ 128 * share
share-is areas slots share some is = ap (λ n. n / areas) is ∙ mul-div_cancel_left (128 * share) some

share-some : (n m : ℕ) → n ≡ 128 * m → 0 < m → 0 < n
share-some n m is some = omega (arith, is, some)

share-low : (n m all most : ℕ) → n ≡ 128 * m → 1 * (128 * m) ≤ all → all ≤ most → n ≤ most
share-low n m all most is up low = omega (arith, is, up, low)

whole-segments : (n m : ℕ) → n ≡ 128 * m → n % 128 ≡ 0
whole-segments n m is = omega (arith, is)

-- the areas of a raised pool share its slots out evenly, in whole segments
pub is-parted : (slots areas : ℕ) (layout : Layout) → MayAsk slots areas → layout.slots ≡ raised_slots slots areas → layout.areas ≡ areas → IsPowerOfTwo layout.slots → layout.slots ≤ 131072 → IsParted layout
is-parted slots areas layout ask raised same power low =
    let least = raised-least slots areas in
    let some_areas : 0 < areas = subst (λ n. 0 < n) (sym ask.power.1) (pow_pos ask.power.0) in
    let s = shared layout.areas layout.slots ask.power.0 power.0 (same ∙ ask.power.1) power.1 (omega (arith, least, raised, same)) in
    let some : 0 < layout.areas = omega (arith, some_areas, same) in
    let is = share-is layout.areas layout.slots s.share some s.is in
    let few = ask.few_areas in
    let up : 1 * (128 * s.share) ≤ layout.areas * (128 * s.share) = mul-le-mul_right (128 * s.share) some in
    record {
      some = some;
      few = omega (arith, few, same);
      low = low;
      share_some = share-some (layout.slots / layout.areas) s.share is s.some;
      share_low = share-low (layout.slots / layout.areas) s.share (layout.areas * (128 * s.share)) 131072 is up (subst (λ n. n ≤ 131072) s.is low);
      segments = whole-segments (layout.slots / layout.areas) s.share is;
      whole = ap (λ n. layout.areas * n) is ∙ sym s.is;
    }

-- a raised pool has pages
pub pages-some : (slots areas : ℕ) → IsPowerOfTwo areas → 0 < raised_slots slots areas / 2
pages-some slots areas power =
    let least = raised-least slots areas in
    let some : 0 < areas = subst (λ n. 0 < n) (sym power.1) (pow_pos power.0) in
    omega (arith, least, some)

pub areas-some : (slots areas : ℕ) → MayAsk slots areas → 0 < areas
areas-some slots areas ask = subst (λ n. 0 < n) (sym ask.power.1) (pow_pos ask.power.0)
