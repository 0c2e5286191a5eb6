use Rattle.std.proofs.Common.{◌≡◌, ℕ, ◌+◌, ◌*◌, ◌/◌, ◌^◌, ◌<◌, ◌≤◌, ◌||◌, Bool, true, false, eqb, List, sym, ap, ◌∙◌, refl, inl, inr, ◌⊎◌, arith}
use Rattle.std.specs.List.{list_any}
use Rattle.std.proofs.lemmas.Bool.{and_parts, and_from, eqb-true, eq-eqb, cases_lt, false_from_ne_true, false≢true, or_cases, or_left, or_right, or_parts, or_from}
use Rattle.std.proofs.lemmas.List.Folds.{Any-from_list_any, list_any_at}
use Rattle.std.proofs.Math.Nat.{mul-le-mul_left}
use Rattle.block_allocator.specs.declared.buddy_block.BuddyBlock.{BuddyBlock}
use Rattle.block_allocator.specs.Kept.{rank, is_numbered, holds_page, kept, covers, Buddies, Beside}
use Rattle.block_allocator.proofs.Pages.{half, first_in, number_small, halves_end, half_tests, pair_tests}

-- the second list has one more block
abbrev pub Added : List BuddyBlock → BuddyBlock → List BuddyBlock → Type 0
Added xs b ys = (test : BuddyBlock → Bool) → list_any test ys ≡ (list_any test xs || test b)

either : (x y z : Bool) → z ≡ (x || y) → z ≡ true → (x ≡ true) ⊎ (y ≡ true)
either x y z e is = or_cases x y (sym e ∙ is)

-- what is kept with one more block
pub kept_cases : (xs ys : List BuddyBlock) (b : BuddyBlock) → Added xs b ys → (k n : ℕ) → kept ys k n ≡ true → (kept xs k n ≡ true) ⊎ ((b.order ≡ k) × (b.number ≡ n))
kept_cases xs ys b added k n is =
    elim (either (kept xs k n) (is_numbered k n b) (kept ys k n) (added (is_numbered k n)) is) as (λ _. (kept xs k n ≡ true) ⊎ ((b.order ≡ k) × (b.number ≡ n))) [
      | inl old ↦ inl old
      | inr new ↦ (let parts = and_parts (eqb b.order k) (eqb b.number n) new in inr (eqb-true _ _ parts.0, eqb-true _ _ parts.1))
    ]

pub kept_more : (xs ys : List BuddyBlock) (b : BuddyBlock) → Added xs b ys → (k n : ℕ) → kept xs k n ≡ true → kept ys k n ≡ true
kept_more xs ys b added k n is = added (is_numbered k n) ∙ or_left (kept xs k n) (is_numbered k n b) is

pub kept_new : (xs ys : List BuddyBlock) (b : BuddyBlock) → Added xs b ys → kept ys b.order b.number ≡ true
kept_new xs ys b added =
    added (is_numbered b.order b.number)
    ∙ or_right (kept xs b.order b.number) (is_numbered b.order b.number b) (and_from _ _ (eq-eqb b.order b.order refl) (eq-eqb b.number b.number refl))

-- a kept block covers its pages
pub covered_by : (xs : List BuddyBlock) (k page : ℕ) → kept xs k (page / 2 ^ k) ≡ true → covers xs page ≡ true
covered_by xs k page is =
    let any = Any-from_list_any (is_numbered k (page / 2 ^ k)) xs is in
    let b = any.1 in
    let parts = and_parts (eqb b.order k) (eqb b.number (page / 2 ^ k)) any.4 in
    let order = eqb-true b.order k parts.0 in
    let number = eqb-true b.number (page / 2 ^ k) parts.1 in
    list_any_at (holds_page page) xs any.0 b any.2
    (ap (holds_page page) any.3 ∙ eq-eqb (page / 2 ^ b.order) b.number (ap (λ o. page / 2 ^ o) order ∙ sym number))

-- and a covered page lies in a kept block
pub cover_of : (xs : List BuddyBlock) (page : ℕ) → covers xs page ≡ true → (k : ℕ) × (kept xs k (page / 2 ^ k) ≡ true)
cover_of xs page is =
    let any = Any-from_list_any (holds_page page) xs is in
    let b = any.1 in
    let number = eqb-true (page / 2 ^ b.order) b.number any.4 in (
      b.order,
      list_any_at (is_numbered b.order (page / 2 ^ b.order)) xs any.0 b any.2
          (ap (is_numbered b.order (page / 2 ^ b.order)) any.3 ∙ and_from _ _ (eq-eqb b.order b.order refl) (eq-eqb b.number (page / 2 ^ b.order) (sym number))),
    )

-- what isn't covered isn't kept
not_kept : (xs : List BuddyBlock) (k n : ℕ) → covers xs (n * 2 ^ k) ≡ false → kept xs k n ≡ false
not_kept xs k n free = false_from_ne_true (kept xs k n) (λ is.
    false≢true (sym free ∙ covered_by xs k (n * 2 ^ k) (ap (kept xs k) (first_in n k) ∙ is)))

-- buddies without one of them are buddies
pub buddies_without : (xs ys : List BuddyBlock) (b : BuddyBlock) → Added xs b ys → Buddies (kept ys) → Buddies (kept xs)
buddies_without xs ys b added buddies = record {
  form = λ k n is. buddies.form k n (kept_more xs ys b added k n is);
  apart = λ page k l is_k is_l. buddies.apart page k l (kept_more xs ys b added k _ is_k) (kept_more xs ys b added l _ is_l);
  alone = λ k n low high. buddies.alone k n (kept_more xs ys b added k _ low) (kept_more xs ys b added k _ high);
}

-- and no other one covers any of its pages
pub apart_without : (xs ys : List BuddyBlock) (b : BuddyBlock) → Added xs b ys → Buddies (kept ys) → kept xs b.order b.number ≡ false → (page : ℕ) → holds_page page b ≡ true → covers xs page ≡ false
apart_without xs ys b added buddies gone page in_b = false_from_ne_true (covers xs page) (λ is.
    let number = eqb-true (page / 2 ^ b.order) b.number in_b in
    let cover = cover_of xs page is in
    let own = ap (kept ys b.order) number ∙ kept_new xs ys b added in
    let same : cover.0 ≡ b.order = buddies.apart page cover.0 b.order (kept_more xs ys b added cover.0 _ cover.1) own in
    let there : kept xs b.order b.number ≡ true = sym (ap (λ k. kept xs k (page / 2 ^ k)) same ∙ ap (kept xs b.order) number) ∙ cover.1 in
    false≢true (sym gone ∙ there))

-- a block beside buddies joins them, unless it could merge with its buddy
pub buddies_with : (xs ys : List BuddyBlock) (b : BuddyBlock) → Added xs b ys → Beside xs b → ((n : ℕ) → b.order < 10 → n / 2 ≡ b.number / 2 → (n ≡ b.number → ⊥) → kept xs b.order n ≡ false) → Buddies (kept ys)
buddies_with xs ys b added beside unpaired = record {
  form = λ k n is. elim (kept_cases xs ys b added k n is) as (λ _. (k ≤ 10) × ((n + 1) * 2 ^ k ≤ 2 ^ 28))
      [ inl old ↦ beside.buddies.form k n old | inr new ↦ form_of k n new ];
  apart = λ page k l is_k is_l. elim (kept_cases xs ys b added k _ is_k) as (λ _. k ≡ l) [
    | inl old_k ↦ elim (kept_cases xs ys b added l _ is_l) as (λ _. k ≡ l)
        [ inl old_l ↦ beside.buddies.apart page k l old_k old_l | inr new_l ↦ absurd (clash page k l old_k new_l) ]
    | inr new_k ↦ elim (kept_cases xs ys b added l _ is_l) as (λ _. k ≡ l)
        [ inl old_l ↦ absurd (clash page l k old_l new_k) | inr new_l ↦ sym new_k.0 ∙ new_l.0 ]
  ];
  alone = λ k n low high. elim (kept_cases xs ys b added k _ low) as (λ _. 10 ≤ k) [
    | inl old_low ↦ elim (kept_cases xs ys b added k _ high) as (λ _. 10 ≤ k)
        [ inl old_high ↦ beside.buddies.alone k n old_low old_high | inr new_high ↦ top k (2 * n) old_low new_high.0 (omega (arith, new_high.1)) (omega (arith, new_high.1)) ]
    | inr new_low ↦ elim (kept_cases xs ys b added k _ high) as (λ _. 10 ≤ k)
        [ inl old_high ↦ top k (2 * n + 1) old_high new_low.0 (omega (arith, new_low.1)) (omega (arith, new_low.1)) | inr new_high ↦ absurd (omega (arith, new_low.1, new_high.1)) ]
  ];
}
  where
    form_of : (k n : ℕ) → (b.order ≡ k) × (b.number ≡ n) → (k ≤ 10) × ((n + 1) * 2 ^ k ≤ 2 ^ 28)
    form_of k n new =
        let order = beside.order in
        let end = beside.end in
        let same : (b.number + 1) * 2 ^ b.order ≡ (n + 1) * 2 ^ k = ap (λ o. (b.number + 1) * 2 ^ o) new.0 ∙ ap (λ m. (m + 1) * 2 ^ k) new.1 in
        (omega (arith, new.0), omega arith)

    clash : (page k l : ℕ) → kept xs k (page / 2 ^ k) ≡ true → (b.order ≡ l) × (b.number ≡ page / 2 ^ l) → ⊥
    clash page k l old new =
        let in_b : holds_page page b ≡ true = eq-eqb (page / 2 ^ b.order) b.number (ap (λ o. page / 2 ^ o) new.0 ∙ sym new.1) in
        false≢true (sym (beside.apart page in_b) ∙ covered_by xs k page old)

    top : (k m : ℕ) → kept xs k m ≡ true → b.order ≡ k → m / 2 ≡ b.number / 2 → (m ≡ b.number → ⊥) → 10 ≤ k
    top k m is order pair other = elim (cases_lt k 10) as (λ _. 10 ≤ k) [
      | inl lt ↦ absurd (false≢true (sym (unpaired m (omega arith) pair other) ∙ ap (λ o. kept xs o m) order ∙ is))
      | inr ge ↦ ge
    ]

-- no kept block has the rank of a block beside the kept ones
pub absent_rank : (xs : List BuddyBlock) (b : BuddyBlock) → Beside xs b → list_any (λ y. eqb (rank y) (rank b)) xs ≡ false
absent_rank xs b beside = false_from_ne_true (list_any (λ y. eqb (rank y) (rank b)) xs) (λ is.
    let any = Any-from_list_any (λ y. eqb (rank y) (rank b)) xs is in
    let y = any.1 in
    let same = eqb-true (rank y) (rank b) any.4 in
    let is_y : kept xs y.order y.number ≡ true =
    list_any_at (is_numbered y.order y.number) xs any.0 y any.2 (ap (is_numbered y.order y.number) any.3 ∙ and_from _ _ (eq-eqb y.order y.order refl) (eq-eqb y.number y.number refl)) in
    let y_form = beside.buddies.form y.order y.number is_y in
    let y_small = number_small y.number y.order y_form.1 in
    let b_small = number_small b.number b.order beside.end in
    let order : y.order ≡ b.order = omega arith in
    let number : y.number ≡ b.number = omega arith in
    let is_b : kept xs b.order b.number ≡ true = sym (ap (λ o. kept xs o y.number) order ∙ ap (kept xs b.order) number) ∙ is_y in
    let first = first_in b.number b.order in
    let uncovered = beside.apart (b.number * 2 ^ b.order) (eq-eqb _ _ first) in
    false≢true (sym (not_kept xs b.order b.number uncovered) ∙ is_b))

-- a block out of the kept ones is beside them
pub beside_without : (xs ys : List BuddyBlock) (b : BuddyBlock) → Added xs b ys → Buddies (kept ys) → kept xs b.order b.number ≡ false → Beside xs b
beside_without xs ys b added buddies gone =
    let form = buddies.form b.order b.number (kept_new xs ys b added) in
    record {
      buddies = buddies_without xs ys b added buddies;
      order = form.0;
      end = form.1;
      apart = apart_without xs ys b added buddies gone;
    }

-- ---- one half joins the kept blocks, and the other one is beside them

in_whole : (page : ℕ) (b part : BuddyBlock) → b.order ≡ part.order + 1 → part.number / 2 ≡ b.number → holds_page page part ≡ true → holds_page page b ≡ true
in_whole page b part order number is =
    let e = eqb-true (page / 2 ^ part.order) part.number is in
    let h = half page part.order b.order order in
    eq-eqb (page / 2 ^ b.order) b.number (h ∙ ap (λ n. n / 2) e ∙ number)

not_both : (page : ℕ) (one other : BuddyBlock) → one.order ≡ other.order → (one.number ≡ other.number → ⊥) → holds_page page one ≡ true → holds_page page other ≡ false
not_both page one other order number is = false_from_ne_true (holds_page page other) (λ both.
    let first = eqb-true (page / 2 ^ one.order) one.number is in
    let second = eqb-true (page / 2 ^ other.order) other.number both in
    number (sym first ∙ ap (λ o. page / 2 ^ o) order ∙ second))

-- part of a block beside the kept ones is beside them
pub part_beside : (xs : List BuddyBlock) (b part : BuddyBlock) → Beside xs b → b.order ≡ part.order + 1 → part.number / 2 ≡ b.number → Beside xs part
part_beside xs b part beside order number =
    let end = beside.end in
    let both = halves_end b.number part.order b.order order in
    let le : part.number + 1 ≤ 2 * b.number + 2 = omega arith in
    let less = mul-le-mul_left (2 ^ part.order) le in
    record {
      buddies = beside.buddies;
      order = omega (arith, beside.order);
      end = omega arith;
      apart = λ page is. beside.apart page (in_whole page b part order number is);
    }

pub halved : (xs ys : List BuddyBlock) (b upper lower : BuddyBlock) → Beside xs b → b.order ≡ upper.order + 1 → upper.number ≡ 2 * b.number + 1 → b.order ≡ lower.order + 1 → lower.number ≡ 2 * b.number → Added xs upper ys → Beside ys lower
halved xs ys b upper lower beside upper_order upper_number lower_order lower_number added =
    let upper_beside = part_beside xs b upper beside upper_order (omega arith) in
    let lower_beside = part_beside xs b lower beside lower_order (omega arith) in
    record {
      buddies = buddies_with xs ys upper added upper_beside (λ n below pair other.
          let same : lower.number ≡ n = omega arith in
          let first : holds_page (n * 2 ^ upper.order) lower ≡ true =
          eq-eqb _ _ (ap (λ o. n * 2 ^ upper.order / 2 ^ o) (order_same lower upper lower_order upper_order) ∙ first_in n upper.order ∙ sym same) in
          not_kept xs upper.order n (lower_beside.apart (n * 2 ^ upper.order) first));
      order = lower_beside.order;
      end = lower_beside.end;
      apart = λ page is.
          added (holds_page page)
          ∙ or_from (covers xs page) (holds_page page upper) (lower_beside.apart page is) (not_both page lower upper (order_same lower upper lower_order upper_order) (λ e. omega arith) is);
    }
  where
    order_same : (one other : BuddyBlock) → b.order ≡ one.order + 1 → b.order ≡ other.order + 1 → one.order ≡ other.order
    order_same one other e f = omega arith

or_assoc : (x y z : Bool) → ((x || y) || z) ≡ (x || (y || z))
or_assoc true y z = refl
or_assoc false y z = refl

halves_hold : (page : ℕ) (b upper lower : BuddyBlock) → b.order ≡ upper.order + 1 → upper.number ≡ 2 * b.number + 1 → upper.order ≡ lower.order → lower.number ≡ 2 * b.number → holds_page page b ≡ (holds_page page upper || holds_page page lower)
halves_hold page b upper lower order upper_number same lower_number =
    ap (λ q. eqb q b.number) (half page upper.order b.order order)
    ∙ half_tests (page / 2 ^ upper.order) b.number
    ∙ ap (λ n. eqb (page / 2 ^ upper.order) n || eqb (page / 2 ^ upper.order) (2 * b.number)) (sym upper_number)
    ∙ ap (λ n. holds_page page upper || eqb (page / 2 ^ upper.order) n) (sym lower_number)
    ∙ ap (λ o. holds_page page upper || eqb (page / 2 ^ o) lower.number) same

-- the pages are the same as before
pub halved_pages : (xs ys : List BuddyBlock) (b upper lower : BuddyBlock) → b.order ≡ upper.order + 1 → upper.number ≡ 2 * b.number + 1 → upper.order ≡ lower.order → lower.number ≡ 2 * b.number → Added xs upper ys → (page : ℕ) → (covers ys page || holds_page page lower) ≡ (covers xs page || holds_page page b)
halved_pages xs ys b upper lower order upper_number same lower_number added page =
    ap (λ c. c || holds_page page lower) (added (holds_page page))
    ∙ or_assoc (covers xs page) (holds_page page upper) (holds_page page lower)
    ∙ ap (λ c. covers xs page || c) (sym (halves_hold page b upper lower order upper_number same lower_number))

-- ---- a block merges with its buddy, which was kept

pair_holds : (page : ℕ) (b buddy larger : BuddyBlock) → buddy.order ≡ b.order → buddy.number / 2 ≡ b.number / 2 → (buddy.number ≡ b.number → ⊥) → larger.order ≡ b.order + 1 → larger.number ≡ b.number / 2 → holds_page page larger ≡ (holds_page page buddy || holds_page page b)
pair_holds page b buddy larger buddy_order pair other larger_order larger_number =
    ap (λ q. eqb q larger.number) (half page b.order larger.order larger_order)
    ∙ ap (eqb (page / 2 ^ b.order / 2)) larger_number
    ∙ pair_tests (page / 2 ^ b.order) b.number buddy.number pair other
    ∙ ap (λ o. eqb (page / 2 ^ o) buddy.number || holds_page page b) (sym buddy_order)

le_along : {m n : ℕ} → m ≡ n → m ≤ 2 ^ 28 → n ≤ 2 ^ 28
le_along e h = omega arith

pub merged_beside : (xs ys : List BuddyBlock) (b buddy larger : BuddyBlock) → Beside ys b → b.order < 10 → buddy.order ≡ b.order → buddy.number / 2 ≡ b.number / 2 → (buddy.number ≡ b.number → ⊥) → larger.order ≡ b.order + 1 → larger.number ≡ b.number / 2 → Added xs buddy ys → kept xs buddy.order buddy.number ≡ false → Beside xs larger
merged_beside xs ys b buddy larger beside below buddy_order pair other larger_order larger_number added gone =
    record {
      buddies = buddies_without xs ys buddy added beside.buddies;
      order = omega arith;
      end = larger_end;
      apart = larger_apart;
    }
  where
    larger_end : (larger.number + 1) * 2 ^ larger.order ≤ 2 ^ 28
    larger_end =
        let form = beside.buddies.form buddy.order buddy.number (kept_new xs ys buddy added) in
        let buddy_end : (buddy.number + 1) * 2 ^ b.order ≤ 2 ^ 28 = le_along (ap (λ o. (buddy.number + 1) * 2 ^ o) buddy_order) form.1 in
        let own_end = beside.end in
        let both = halves_end larger.number b.order larger.order larger_order in
        elim (cases_lt b.number buddy.number) as (λ _. (larger.number + 1) * 2 ^ larger.order ≤ 2 ^ 28) [
          | inl lt ↦
              (let e : 2 * larger.number + 2 ≡ buddy.number + 1 = omega arith in
              let same = ap (λ n. n * 2 ^ b.order) e in
              omega arith)
          | inr ge ↦
              (let e : 2 * larger.number + 2 ≡ b.number + 1 = omega arith in
              let same = ap (λ n. n * 2 ^ b.order) e in
              omega arith)
        ]

    larger_apart : (page : ℕ) → holds_page page larger ≡ true → covers xs page ≡ false
    larger_apart page is =
        elim (or_cases (holds_page page buddy) (holds_page page b) (sym (pair_holds page b buddy larger buddy_order pair other larger_order larger_number) ∙ is)) as (λ _. covers xs page ≡ false) [
          | inl in_buddy ↦ apart_without xs ys buddy added beside.buddies gone page in_buddy
          | inr in_b ↦ (or_parts (covers xs page) (holds_page page buddy) (sym (added (holds_page page)) ∙ beside.apart page in_b)).0
        ]

-- the pages are the same as before
pub merged_pages : (xs ys : List BuddyBlock) (b buddy larger : BuddyBlock) → buddy.order ≡ b.order → buddy.number / 2 ≡ b.number / 2 → (buddy.number ≡ b.number → ⊥) → larger.order ≡ b.order + 1 → larger.number ≡ b.number / 2 → Added xs buddy ys → (page : ℕ) → (covers xs page || holds_page page larger) ≡ (covers ys page || holds_page page b)
merged_pages xs ys b buddy larger buddy_order pair other larger_order larger_number added page =
    ap (λ c. covers xs page || c) (pair_holds page b buddy larger buddy_order pair other larger_order larger_number)
    ∙ sym (or_assoc (covers xs page) (holds_page page buddy) (holds_page page b))
    ∙ ap (λ c. c || holds_page page b) (sym (added (holds_page page)))
