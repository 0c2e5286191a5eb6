use Rattle.std.proofs.Common.{◌≡◌, ℕ, zero, suc, ◌+◌, ◌-◌, ◌*◌, ◌/◌, ◌^◌, ◌<◌, ◌≤◌, ◌||◌, true, false, not, eqb, List, Some, None, sym, ap, ◌∙◌, refl, inl, inr, arith}
use Rattle.std.proofs.lemmas.Bool.{and_parts, and_from, not-true, not_from_false, eqb-true, eq-eqb, cases_lt, cases_eq, false_from_ne_true, false≢true, or_cases, or_left, or_right}
use Rattle.guest_base.specs.Blocks.{is_whole, is_free_block, lowest_free}
use Rattle.guest_base.proofs.SearchLemmas.{each_such-true, each_such_is, first_such_is, first_such_none}
use Rattle.guest_base.proofs.BlockFacts.{lowest_here, lowest_above, lowest_nothing}
use Rattle.block_allocator.specs.declared.buddy_block.BuddyBlock.{BuddyBlock}
use Rattle.block_allocator.specs.Kept.{kept, covers, Buddies}
use Rattle.block_allocator.proofs.Pages.{half, deeper, first_in, in_block, block_in, number_below}
use Rattle.block_allocator.proofs.Merging.{covered_by, cover_of}

-- a block of covered pages lies in a kept block of at least its order
pub in_kept : (xs : List BuddyBlock) → Buddies (kept xs) → (k : ℕ) → k ≤ 10 → (page : ℕ) → ((p : ℕ) → p / 2 ^ k ≡ page / 2 ^ k → covers xs p ≡ true) → (l : ℕ) × (k ≤ l) × (kept xs l (page / 2 ^ l) ≡ true)
in_kept xs buddies zero below page whole =
    let cover = cover_of xs page (whole page refl) in
    (cover.0, omega arith, cover.1)
in_kept xs buddies (suc k) below page whole =
    let n = page / 2 ^ k in
    let page_half = half page k (suc k) (omega arith) in
    let own = in_kept xs buddies k (omega arith) page (λ p same. whole p (deeper p page k (suc k) (omega arith) same)) in
    let other = other_half n in
    let start = other.0 * 2 ^ k in
    let start_in : start / 2 ^ k ≡ other.0 = first_in other.0 k in
    let start_half = half start k (suc k) (omega arith) in
    let one_whole : start / 2 ^ suc k ≡ page / 2 ^ suc k = start_half ∙ ap (λ m. m / 2) start_in ∙ other.1 ∙ sym page_half in
    let buddy = in_kept xs buddies k (omega arith) start (λ p same. whole p (deeper p start k (suc k) (omega arith) same ∙ one_whole)) in
    elim (cases_lt k own.0) as (λ _. (l : ℕ) × (suc k ≤ l) × (kept xs l (page / 2 ^ l) ≡ true)) [
      | inl lt ↦ (own.0, omega arith, own.2)
      | inr own_at ↦ elim (cases_lt k buddy.0) as (λ _. (l : ℕ) × (suc k ≤ l) × (kept xs l (page / 2 ^ l) ≡ true)) [
        | inl lt ↦ (buddy.0, omega arith, sym (ap (kept xs buddy.0) (deeper start page (suc k) buddy.0 (omega arith) one_whole)) ∙ buddy.2)
        | inr buddy_at ↦
            (let own_order : own.0 ≡ k = omega arith in
            let buddy_order : buddy.0 ≡ k = omega arith in
            let own_kept : kept xs k n ≡ true = sym (ap (λ o. kept xs o (page / 2 ^ o)) own_order) ∙ own.2 in
            let buddy_kept : kept xs k other.0 ≡ true = sym (ap (λ o. kept xs o (start / 2 ^ o)) buddy_order ∙ ap (kept xs k) start_in) ∙ buddy.2 in
            let top = both_kept n other.0 own_kept buddy_kept other.1 other.2 in
            absurd (omega arith))
      ]
    ]
  where
    other_half : (n : ℕ) → (m : ℕ) × (m / 2 ≡ n / 2) × (m ≡ n → ⊥)
    other_half n = elim (cases_eq (2 * (n / 2)) n) as (λ _. (m : ℕ) × (m / 2 ≡ n / 2) × (m ≡ n → ⊥))
        [ inl even ↦ (n + 1, omega arith, λ e. omega arith) | inr odd ↦ (2 * (n / 2), omega arith, odd) ]

    both_kept : (n m : ℕ) → kept xs k n ≡ true → kept xs k m ≡ true → m / 2 ≡ n / 2 → (m ≡ n → ⊥) → 10 ≤ k
    both_kept n m is_n is_m pair other = elim (cases_lt n m) as (λ _. 10 ≤ k) [
      | inl lt ↦ buddies.alone k (n / 2) (ap (kept xs k) (omega arith) ∙ is_n) (ap (kept xs k) (omega arith) ∙ is_m)
      | inr ge ↦ buddies.alone k (n / 2) (ap (kept xs k) (omega arith) ∙ is_m) (ap (kept xs k) (omega arith) ∙ is_n)
    ]

-- a block of covered pages, by its number
whole_pages : (xs : List BuddyBlock) (k n page : ℕ) → page / 2 ^ k ≡ n → is_whole (covers xs) k n ≡ true → (p : ℕ) → p / 2 ^ k ≡ page / 2 ^ k → covers xs p ≡ true
whole_pages xs k n page in_it whole p same =
    let place = in_block n k p (same ∙ in_it) in
    (each_such-true (covers xs) (n * 2 ^ k) (2 ^ k) whole).passes p place.0 place.1

-- each kept block is a free block of the covered pages
pub kept_is_free : (xs : List BuddyBlock) → Buddies (kept xs) → (k n : ℕ) → kept xs k n ≡ true → is_free_block (covers xs) k n ≡ true
kept_is_free xs buddies k n is =
    and_from (is_whole (covers xs) k n) (eqb k 10 || not (is_whole (covers xs) (k + 1) (n / 2))) whole maximal
  where
    whole : is_whole (covers xs) k n ≡ true
    whole = each_such_is (covers xs) (n * 2 ^ k) (2 ^ k) (record { passes = λ p low high. covered_by xs k p (ap (kept xs k) (block_in n k p low high) ∙ is) })

    not_larger : (k ≡ 10 → ⊥) → is_whole (covers xs) (k + 1) (n / 2) ≡ true → ⊥
    not_larger other larger =
        let form = buddies.form k n is in
        let page = n * 2 ^ k in
        let page_half : page / 2 ^ (k + 1) ≡ n / 2 = half page k (k + 1) refl ∙ ap (λ m. m / 2) (first_in n k) in
        let above = in_kept xs buddies (k + 1) (omega arith) page (whole_pages xs (k + 1) (n / 2) page page_half larger) in
        let own : kept xs k (page / 2 ^ k) ≡ true = ap (kept xs k) (first_in n k) ∙ is in
        let same = buddies.apart page k above.0 own above.2 in
        omega arith

    maximal : (eqb k 10 || not (is_whole (covers xs) (k + 1) (n / 2))) ≡ true
    maximal = elim (cases_eq k 10) as (λ _. (eqb k 10 || not (is_whole (covers xs) (k + 1) (n / 2))) ≡ true) [
      | inl e ↦ or_left (eqb k 10) (not (is_whole (covers xs) (k + 1) (n / 2))) (eq-eqb k 10 e)
      | inr other ↦ or_right (eqb k 10) (not (is_whole (covers xs) (k + 1) (n / 2)))
          (not_from_false (is_whole (covers xs) (k + 1) (n / 2)) (false_from_ne_true (is_whole (covers xs) (k + 1) (n / 2)) (not_larger other)))
    ]

-- and each free block of the covered pages is kept
pub free_is_kept : (xs : List BuddyBlock) → Buddies (kept xs) → (k n : ℕ) → k ≤ 10 → is_free_block (covers xs) k n ≡ true → kept xs k n ≡ true
free_is_kept xs buddies k n below is =
    elim (cases_lt k lies.0) as (λ _. kept xs k n ≡ true) [
      | inl lt ↦ absurd (larger lt)
      | inr ge ↦
          (let order : lies.0 ≡ k = omega (arith, lies.1) in
          sym (ap (λ o. kept xs o (n * 2 ^ k / 2 ^ o)) order ∙ ap (kept xs k) (first_in n k)) ∙ lies.2)
    ]
  where
    parts : (is_whole (covers xs) k n ≡ true) × ((eqb k 10 || not (is_whole (covers xs) (k + 1) (n / 2))) ≡ true)
    parts = and_parts (is_whole (covers xs) k n) (eqb k 10 || not (is_whole (covers xs) (k + 1) (n / 2))) is

    lies : (l : ℕ) × (k ≤ l) × (kept xs l (n * 2 ^ k / 2 ^ l) ≡ true)
    lies = in_kept xs buddies k below (n * 2 ^ k) (whole_pages xs k n (n * 2 ^ k) (first_in n k) parts.0)

    page_half : n * 2 ^ k / 2 ^ (k + 1) ≡ n / 2
    page_half = half (n * 2 ^ k) k (k + 1) refl ∙ ap (λ m. m / 2) (first_in n k)

    larger_whole : k < lies.0 → is_whole (covers xs) (k + 1) (n / 2) ≡ true
    larger_whole lt = each_such_is (covers xs) (n / 2 * 2 ^ (k + 1)) (2 ^ (k + 1)) (record {
      passes = λ p low high.
          let in_larger : p / 2 ^ (k + 1) ≡ n * 2 ^ k / 2 ^ (k + 1) = block_in (n / 2) (k + 1) p low high ∙ sym page_half in
          covered_by xs lies.0 p (ap (kept xs lies.0) (deeper p (n * 2 ^ k) (k + 1) lies.0 (omega arith) in_larger) ∙ lies.2);
    })

    larger : k < lies.0 → ⊥
    larger lt =
        let form = buddies.form lies.0 (n * 2 ^ k / 2 ^ lies.0) lies.2 in
        elim (or_cases (eqb k 10) (not (is_whole (covers xs) (k + 1) (n / 2))) parts.1) as (λ _. ⊥) [
          | inl top ↦ (let e = eqb-true k 10 top in omega arith)
          | inr no_larger ↦ false≢true (sym (not-true (is_whole (covers xs) (k + 1) (n / 2)) no_larger) ∙ larger_whole lt)
        ]

-- a block that isn't kept isn't a free block
not_free : (xs : List BuddyBlock) → Buddies (kept xs) → (k n : ℕ) → k ≤ 10 → kept xs k n ≡ false → is_free_block (covers xs) k n ≡ false
not_free xs buddies k n below is = false_from_ne_true (is_free_block (covers xs) k n) (λ free. false≢true (sym is ∙ free_is_kept xs buddies k n below free))

-- the lowest kept block of the least order is the lowest free block
pub lowest_kept : (xs : List BuddyBlock) → Buddies (kept xs) → (k n : ℕ) → kept xs k n ≡ true → ((m : ℕ) → m < n → kept xs k m ≡ false) → (orders order : ℕ) → order + orders ≡ 11 → order ≤ k → ((j m : ℕ) → order ≤ j → j < k → kept xs j m ≡ false) → lowest_free (covers xs) order orders ≡ Some (n * 2 ^ k)
lowest_kept xs buddies k n is lowest zero order count le least = let form = buddies.form k n is in absurd (omega arith)
lowest_kept xs buddies k n is lowest (suc orders) order count le least =
    let form = buddies.form k n is in
    elim (cases_eq order k) as (λ _. lowest_free (covers xs) order (suc orders) ≡ Some (n * 2 ^ k)) [
      | inl e ↦
          (let here : kept xs order n ≡ true = ap (λ o. kept xs o n) e ∙ is in
          let end : (n + 1) * 2 ^ order ≤ 2 ^ 28 = le_along (ap (λ o. (n + 1) * 2 ^ o) (sym e)) form.1 in
          let found = first_such_is (is_free_block (covers xs) order) 0 (2 ^ (28 - order)) n (record { low = omega arith; high = let below = number_below n order (omega arith) end in omega arith; passes = kept_is_free xs buddies order n here; before = λ m low lt. not_free xs buddies order m (omega arith) (ap (λ o. kept xs o m) e ∙ lowest m lt) }) in
          lowest_here (covers xs) order orders n found ∙ ap (λ o. Some (n * 2 ^ o)) e)
      | inr other ↦
          lowest_above (covers xs) order orders (first_such_none (is_free_block (covers xs) order) 0 (2 ^ (28 - order)) (record { fails = λ m low high. not_free xs buddies order m (omega arith) (least order m (omega arith) (omega arith)) }))
          ∙ lowest_kept xs buddies k n is lowest orders (order + 1) (omega arith) (omega arith) (λ j m ge lt. least j m (omega arith) lt)
    ]
  where
    le_along : {a b : ℕ} → a ≡ b → a ≤ 2 ^ 28 → b ≤ 2 ^ 28
    le_along e h = omega arith

-- where no block of sufficient order is kept there is none
pub none_kept : (xs : List BuddyBlock) → Buddies (kept xs) → (orders order : ℕ) → order + orders ≡ 11 → ((j m : ℕ) → order ≤ j → kept xs j m ≡ false) → lowest_free (covers xs) order orders ≡ None
none_kept xs buddies zero order count none = lowest_nothing (covers xs) order
none_kept xs buddies (suc orders) order count none =
    lowest_above (covers xs) order orders (first_such_none (is_free_block (covers xs) order) 0 (2 ^ (28 - order)) (record { fails = λ m low high. not_free xs buddies order m (omega arith) (none order m (omega arith)) }))
    ∙ none_kept xs buddies orders (order + 1) (omega arith) (λ j m ge. none j m (omega arith))
