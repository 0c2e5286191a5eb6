-- Lemmas on the counts of free slots.
use Rattle.std.proofs.Common.{ℕ, ◌≡◌, ◌≢◌, ◌+◌, ◌-◌, ◌%◌, ◌<◌, ◌≤◌, ◌⊎◌, Bool, true, false, List, length, map, zero, suc, get_or, eqb, leb, max, not, ◌&&◌, add-zero, ⊎_elim, subst, sym, ap, ◌∙◌, arith}
use Rattle.std.proofs.Math.ListN.{get_or-map}
use Rattle.std.proofs.Math.Path.{fun_ext}
use Rattle.std.proofs.lemmas.Bool.{cases_eq, cases_lt, eq-eqb, eqb-true, eqb-false, ne_eqb, le-leb, lt-leb, lt-ltb, not_from_true, not_from_false, false_from_ne_true, both_ways, and_from, and_left, and_right}
use Rattle.std.proofs.lemmas.Bool.Decides.{nat_tests}
use Rattle.std.proofs.lemmas.List.{get_or_past, length-map}
use Rattle.guest_base.specs.declared.transfer.Align.{Align}
use Rattle.guest_base.specs.Ranges.{in_range}
use Rattle.guest_base.specs.Slots.{free_run, fits_at, meets_align}
use Rattle.guest_base.proofs.SearchLemmas.{AllSuch, each_such_is, each_such-true, row_length_is}
use Rattle.io_slots.specs.SlotUse.{SlotUse, is_used, slot_count}
use Rattle.io_slots.specs.FreeCounts.{IsCounted, IsCountedBut, zero_at}

-- a count is written at p: the edge moves where no other slot's step needs p, or stood open
pub IsCountedBut-write : (c c' : List ℕ) (p before after : ℕ)
    → ((j : ℕ) → j ≢ p → get_or c' j 0 ≡ get_or c j 0)
    → ((p + 1) % 128 ≢ 0 → 0 < get_or c' p 0 → get_or c' p 0 ≡ get_or c (p + 1) 0 + 1)
    → get_or c' p 0 + p % 128 ≤ 128
    → ((j : ℕ) → j + 1 ≢ after → j ≢ p → 0 < get_or c j 0 → (j + 1 ≢ before) × (j + 1 ≢ p))
    → IsCountedBut c before → IsCountedBut c' after
IsCountedBut-write c c' p before after same here top others h = record {
  steps = λ k inner off pos. step k inner off pos (cases_eq k p);
  bound = λ k. bounded k (cases_eq k p);
}
  where
    step : (k : ℕ) → (k + 1) % 128 ≢ 0 → k + 1 ≢ after → 0 < get_or c' k 0 → (k ≡ p) ⊎ (k ≡ p → ⊥) → get_or c' k 0 ≡ get_or c' (k + 1) 0 + 1
    step k inner off pos d = grind arith

    bounded : (k : ℕ) → (k ≡ p) ⊎ (k ≡ p → ⊥) → get_or c' k 0 + k % 128 ≤ 128
    bounded k d = grind arith

-- what the test of a count says
pub count_of_used : (c : List ℕ) (k : ℕ) → zero_at c k ≡ true → get_or c k 0 ≡ 0
count_of_used c k h = eqb-true _ _ h

pub count_of_free : (c : List ℕ) (k : ℕ) → zero_at c k ≡ false → 0 < get_or c k 0
count_of_free c k h = let ne = eqb-false (get_or c k 0) 0 h in omega (arith, ne)

-- a flag is the test of its count
pub flag_at : (c : List ℕ) (k : ℕ) → get_or (map (λ n. eqb n 0) c) k true ≡ zero_at c k
flag_at c k = get_or-map (λ n. eqb n 0) c k 0

-- a free slot stands before the end, and with it all slots of its segment
pub inside_from_free : (c : List ℕ) (at need : ℕ) → length c % 128 ≡ 0 → at % 128 + need ≤ 128 → 0 < get_or c at 0 → at + need ≤ length c
inside_from_free c at need whole one free =
    ⊎_elim (λ (low : at < length c). omega arith) (λ (high : length c ≤ at). absurd (omega (arith, get_or_past c at 0 high))) (cases_lt at (length c))

-- within a free run the counts fall by one from slot to slot
pub count_in_run : (c : List ℕ) (at k : ℕ) → IsCounted c → k < get_or c at 0 → get_or c (at + k) 0 + k ≡ get_or c at 0
count_in_run c at zero h low = add-zero _ ∙ ap (λ i. get_or c i 0) (add-zero at)
count_in_run c at (suc k) h low =
    let before : get_or c (at + k) 0 + k ≡ get_or c at 0 = count_in_run c at k h (omega arith) in
    let step = h.steps (at + k) (omega (arith, h.bound (at + k))) (omega arith) (omega arith) in
    let place : at + k + 1 ≡ at + suc k = omega arith in
    let e : get_or c (at + k + 1) 0 ≡ get_or c (at + suc k) 0 = ap (λ i. get_or c i 0) place in
    omega (arith, step, e)

-- a free run ends at a used slot or at its segment's end
pub count_behind_run : (c : List ℕ) (at : ℕ) → IsCounted c → get_or c at 0 + at % 128 < 128 → get_or c (at + get_or c at 0) 0 ≡ 0
count_behind_run c at h inner =
    ⊎_elim
    (λ (none : get_or c at 0 ≡ 0). ap (λ k. get_or c k 0) (omega (arith, none)) ∙ none)
    (λ (some : get_or c at 0 ≡ 0 → ⊥).
    let last : ℕ = at + (get_or c at 0 - 1) in
    let left : get_or c last 0 + (get_or c at 0 - 1) ≡ get_or c at 0 = count_in_run c at (get_or c at 0 - 1) h (omega (arith, some)) in
    let place : last + 1 ≡ at + get_or c at 0 = omega (arith, some) in
    let step = h.steps last (omega (arith, some)) (omega arith) (omega (arith, some)) in
    let next : get_or c (last + 1) 0 ≡ get_or c (at + get_or c at 0) 0 = ap (λ k. get_or c k 0) place in
    omega (arith, some))
    (cases_eq (get_or c at 0) 0)

-- the slots that a count counts are free
pub free_in_run : (c : List ℕ) (at need : ℕ) → IsCounted c → need ≤ get_or c at 0 → AllSuch (λ k. not (zero_at c k)) at need
free_in_run c at need h enough = record {
  passes = λ k low high.
      let place : at + (k - at) ≡ k = omega arith in
      let e : get_or c (at + (k - at)) 0 ≡ get_or c k 0 = ap (λ i. get_or c i 0) place in
      let left = count_in_run c at (k - at) h (omega arith) in
      not_from_false _ (ne_eqb (get_or c k 0) 0 (λ none. absurd (omega (arith, none, e, left))));
}

-- the count of a slot is the length of its free run
pub free_run-counted : (c : List ℕ) (at : ℕ) → IsCounted c → free_run (zero_at c) at ≡ get_or c at 0
free_run-counted c at h =
    row_length_is (λ k. not (zero_at c k)) at (128 - at % 128) (get_or c at 0)
    (free_in_run c at (get_or c at 0) h (omega arith))
    (omega (arith, h.bound at))
    (λ short. not_from_true _ (eq-eqb _ 0 (count_behind_run c at h (omega arith))))

-- a run fits where its slots are counted free and the align is met
pub fits_at-counted : (c : List ℕ) (need : ℕ) (align : Align) (at : ℕ)
    → IsCounted c → length c % 128 ≡ 0 → 0 < need → need ≤ get_or c at 0 → meets_align align at ≡ true
    → fits_at (zero_at c) (length c) need align at ≡ true
fits_at-counted c need align at h whole some enough meets =
    let one : at % 128 + need ≤ 128 = omega (arith, h.bound at) in
    let inside = inside_from_free c at need whole one (omega arith) in
    and_from _ _ (le-leb _ _ inside)
    (and_from _ _ (le-leb _ _ one) (and_from _ _ meets (each_such_is _ at need (free_in_run c at need h enough))))

-- no run fits where the align isn't met
pub fits_at-misses : (used : ℕ → Bool) (slots need : ℕ) (align : Align) (at : ℕ)
    → meets_align align at ≡ false → fits_at used slots need align at ≡ false
fits_at-misses used slots need align at h =
    and_right (leb (at + need) slots) _ (and_right (leb (at % 128 + need) 128) _ (and_left _ _ h))

-- no run fits where fewer slots are counted free
pub fits_at-short : (c : List ℕ) (slots need : ℕ) (align : Align) (at : ℕ)
    → IsCounted c → get_or c at 0 < need → fits_at (zero_at c) slots need align at ≡ false
fits_at-short c slots need align at h short =
    and_right (leb (at + need) slots) _
    (⊎_elim
    (λ (far : 128 < at % 128 + need). and_left _ _ (lt-leb _ _ far))
    (λ (one : at % 128 + need ≤ 128).
    and_right (leb (at % 128 + need) 128) _
    (and_right (meets_align align at) _
    (false_from_ne_true _
    (λ free.
    let used = not_from_true _ (eq-eqb _ 0 (count_behind_run c at h (omega arith))) in
    both_ways _ used ((each_such-true _ at need free).passes (at + get_or c at 0) (omega arith) (omega arith))))))
    (cases_lt 128 (at % 128 + need)))

-- no run fits at a place that the search skips: one before the align is met, or one in a free run that is too short
pub fits_at-skipped : (c : List ℕ) (slots need : ℕ) (align : Align) (at skipped s : ℕ)
    → IsCounted c → 0 < need → skipped ≤ 1 → (skipped ≡ 1 → meets_align align at ≡ false)
    → at ≤ s → s < at + max (get_or c at 0) 1 → (get_or c at 0 < skipped + need) ⊎ (s < at + skipped)
    → fits_at (zero_at c) slots need align s ≡ false
fits_at-skipped c slots need align at skipped s h some few before low high why =
    ⊎_elim
    (λ (early : s < at + skipped).
    let same : at ≡ s = omega arith in
    fits_at-misses (zero_at c) slots need align s (subst (λ i. meets_align align i ≡ false) same (before (omega arith))))
    (λ (late : at + skipped ≤ s).
    let place : at + (s - at) ≡ s = omega arith in
    let e : get_or c (at + (s - at)) 0 ≡ get_or c s 0 = ap (λ i. get_or c i 0) place in
    fits_at-short c slots need align s h
    (⊎_elim
    (λ (free : s - at < get_or c at 0). ⊎_elim (λ (short : get_or c at 0 < skipped + need). omega (arith, e, count_in_run c at (s - at) h free)) (λ (x : s < at + skipped). absurd (omega arith)) why)
    (λ (none : get_or c at 0 ≤ s - at). let at_s : at ≡ s = omega arith in let z : get_or c at 0 ≡ get_or c s 0 = ap (λ i. get_or c i 0) at_s in omega (arith, z))
    (cases_lt (s - at) (get_or c at 0))))
    (cases_lt s (at + skipped))

-- one more slot of a run, from its last one down, is counted free
pub zeros_down_more : (first c c' : List ℕ) (p k end j : ℕ) → p + 1 ≡ k → k ≤ end
    → (j ≢ p → get_or c' j 0 ≡ get_or c j 0) → 0 < get_or c' p 0
    → zero_at c j ≡ (not (in_range k (end - k) j) && zero_at first j)
    → zero_at c' j ≡ (not (in_range p (end - p) j) && zero_at first j)
zeros_down_more first c c' p k end j next high same free before =
    ⊎_elim
    (λ (here : j ≡ p).
    ne_eqb (get_or c' j 0) 0 (λ none. let moved : get_or c' j 0 ≡ get_or c' p 0 = ap (λ i. get_or c' i 0) here in absurd (omega arith))
    ∙ sym (and_left _ (zero_at first j) (not_from_true _ (and_from _ _ (le-leb p j (omega arith)) (lt-ltb j (p + (end - p)) (omega arith))))))
    (λ (other : j ≡ p → ⊥).
    ap (λ n. eqb n 0) (same other) ∙ before
    ∙ ap (λ b. not b && zero_at first j) (same_range other))
    (cases_eq j p)
  where
    same_range : (j ≡ p → ⊥) → in_range k (end - k) j ≡ in_range p (end - p) j
    same_range other = grind (arith, nat_tests)

-- a slot below the ones counted so far is used as it was
pub used_below : (first c : List ℕ) (k n j : ℕ) → zero_at c j ≡ (not (in_range k n j) && zero_at first j) → j < k → zero_at first j ≡ true → get_or c j 0 ≡ 0
used_below first c k n j zeros low used =
    count_of_used c j (zeros ∙ and_from _ _ (not_from_false _ (and_left _ _ (lt-leb k j low))) used)

-- what is seen of the counts
abbrev pub seen : List ℕ → ℕ → SlotUse
seen c hint = record { flags = map (λ n. eqb n 0) c; hint = hint }

pub is_used-seen : (v : SlotUse) (c : List ℕ) (hint : ℕ) → seen c hint ≡ v → (k : ℕ) → is_used v k ≡ zero_at c k
is_used-seen v c hint e k = ap (λ w. is_used w k) (sym e) ∙ flag_at c k

pub test-seen : (v : SlotUse) (c : List ℕ) (hint : ℕ) → seen c hint ≡ v → is_used v ≡ zero_at c
test-seen v c hint e = fun_ext (λ k. is_used-seen v c hint e k)

pub slot_count-seen : (v : SlotUse) (c : List ℕ) (hint : ℕ) → seen c hint ≡ v → slot_count v ≡ length c
slot_count-seen v c hint e = ap slot_count (sym e) ∙ length-map c _

-- the slots of a run that is free as seen stand before the end
pub inside-seen : (v : SlotUse) (c : List ℕ) (hint at need : ℕ) → seen c hint ≡ v → length c % 128 ≡ 0 → at % 128 + need ≤ 128 → is_used v at ≡ false → at + need ≤ length c
inside-seen v c hint at need e whole one free =
    inside_from_free c at need whole one (count_of_free c at (sym (is_used-seen v c hint e at) ∙ free))
