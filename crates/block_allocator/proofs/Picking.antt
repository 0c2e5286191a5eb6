use Rattle.std.proofs.Common.{◌≡◌, ℕ, ◌+◌, ◌-◌, ◌*◌, ◌/◌, ◌^◌, ◌<◌, ◌≤◌, ◌&&◌, ◌||◌, Bool, true, false, not, eqb, leb, ltb, List, length, get_or, Some, sym, ap, ◌∙◌, refl, inl, inr, arith}
use Rattle.std.proofs.lemmas.Bool.{cases_order, false_from_ne_true, or_right, and_from, le-leb, lt-ltb}
use Rattle.std.proofs.lemmas.List.{get_or_default}
use Rattle.std.proofs.lemmas.List.Folds.{Any-from_list_any}
use Rattle.guest_base.specs.Ranges.{InRange, in_range}
use Rattle.guest_base.specs.Blocks.{lowest_free}
use Rattle.block_allocator.specs.declared.buddy_block.BuddyBlock.{BuddyBlock}
use Rattle.block_allocator.specs.Kept.{rank, Rises, is_numbered, kept, covers, holds_page, Buddies, Beside}
use Rattle.block_allocator.proofs.SortedLists.{rank-numbered}
use Rattle.block_allocator.proofs.Pages.{number_small, in_range_is}
use Rattle.block_allocator.proofs.Merging.{Added}
use Rattle.block_allocator.proofs.Maximal.{lowest_kept}

-- where a kept block stands in the list
place_of_kept : (xs : List BuddyBlock) (j m : ℕ) → kept xs j m ≡ true → (i : ℕ) × (y : BuddyBlock) × (i < length xs) × (get_or xs i y ≡ y) × (rank y ≡ j * 2 ^ 64 + m)
place_of_kept xs j m is =
    let any = Any-from_list_any (is_numbered j m) xs is in
    (any.0, any.1, any.2, any.3, rank-numbered j m any.1 any.4)

-- where all ranks are lower, no block of the order or above is kept
pub none_above : (xs : List BuddyBlock) (order : ℕ) → ((k : ℕ) (d : BuddyBlock) → k < length xs → rank (get_or xs k d) < order * 2 ^ 64) → (j m : ℕ) → order ≤ j → kept xs j m ≡ false
none_above xs order below j m le = false_from_ne_true (kept xs j m) (λ is.
    let at = place_of_kept xs j m is in
    let less = below at.0 at.1 at.2 in
    let same = ap rank at.3 in
    let which = at.4 in
    omega arith)

-- the block at a place before which all ranks are lower is the first that isn't lower
pub first_above : (xs : List BuddyBlock) → Rises xs → (p : ℕ) (found : BuddyBlock) → p < length xs → found ≡ get_or xs p found → (low : ℕ) → ((k : ℕ) (d : BuddyBlock) → k < p → rank (get_or xs k d) < low) → (j m : ℕ) → kept xs j m ≡ true → low ≤ j * 2 ^ 64 + m → rank found ≤ j * 2 ^ 64 + m
first_above xs rises p found within read low below j m is le =
    let at = place_of_kept xs j m is in
    let y = at.1 in
    let own = ap rank at.3 in
    let which = at.4 in
    let here : rank found ≡ rank (get_or xs p y) = ap rank (read ∙ get_or_default xs p found y within) in
    elim (cases_order at.0 p) as (λ _. rank found ≤ j * 2 ^ 64 + m) [
      | inl e ↦ (let same : rank (get_or xs at.0 y) ≡ rank (get_or xs p y) = ap (λ i. rank (get_or xs i y)) e in omega arith)
      | inr o ↦ elim o as (λ _. rank found ≤ j * 2 ^ 64 + m) [
        | inl lower ↦ (let less = below at.0 y lower in absurd (omega arith))
        | inr higher ↦ (let less = rises p at.0 y higher at.2 in omega arith)
      ]
    ]

-- the block found first at or above an order is the lowest free block of the least sufficient order
pub found_first : (xs : List BuddyBlock) → Rises xs → Buddies (kept xs) → (order p : ℕ) (found : BuddyBlock) → p < length xs → found ≡ get_or xs p found → kept xs found.order found.number ≡ true → order ≤ found.order → ((k : ℕ) (d : BuddyBlock) → k < p → rank (get_or xs k d) < order * 2 ^ 64) → lowest_free (covers xs) order (11 - order) ≡ Some (found.number * 2 ^ found.order)
found_first xs rises buddies order p found within read is le below =
    let form = buddies.form found.order found.number is in
    lowest_kept xs buddies found.order found.number is
    (λ m lt. false_from_ne_true (kept xs found.order m) (λ there.
    let first = first_above xs rises p found within read (order * 2 ^ 64) below found.order m there (omega arith) in
    omega arith))
    (11 - order) order (omega arith) le
    (λ j m ge lt. false_from_ne_true (kept xs j m) (λ there.
    let first = first_above xs rises p found within read (order * 2 ^ 64) below j m there (omega arith) in
    let other = buddies.form j m there in
    let small = number_small m j other.1 in
    omega arith))

-- and its order suffices
pub found_order : (xs : List BuddyBlock) → Buddies (kept xs) → (order : ℕ) (found : BuddyBlock) → kept xs found.order found.number ≡ true → order * 2 ^ 64 ≤ rank found → order ≤ found.order
found_order xs buddies order found is le =
    let form = buddies.form found.order found.number is in
    let small = number_small found.number found.order form.1 in
    omega arith

-- what is left of a set from which a part was taken
pub without : (x y z : Bool) → (x || y) ≡ z → (y ≡ true → x ≡ false) → x ≡ (z && not y)
without true true z e apart = apart refl ∙ and_false z
  where
    and_false : (b : Bool) → false ≡ (b && false)
    and_false true = refl
    and_false false = refl
without true false z e apart = e ∙ and_true z
  where
    and_true : (b : Bool) → b ≡ (b && true)
    and_true true = refl
    and_true false = refl
without false true z e apart = and_false z
  where
    and_false : (b : Bool) → false ≡ (b && false)
    and_false true = refl
    and_false false = refl
without false false z e apart = e ∙ and_true z
  where
    and_true : (b : Bool) → b ≡ (b && true)
    and_true true = refl
    and_true false = refl

-- the pages after a block was taken: they were free, and are no more
pub taken_pages : (old taken new : List BuddyBlock) (found part : BuddyBlock) (first order : ℕ) → Beside new part → part.order ≡ order → first ≡ part.number * 2 ^ part.order → Added taken found old → ((page : ℕ) → (covers new page || holds_page page part) ≡ (covers taken page || holds_page page found)) → ((page : ℕ) → InRange first (2 ^ order) page → covers old page ≡ true) × ((page : ℕ) → covers new page ≡ (covers old page && not (in_range first (2 ^ order) page)))
taken_pages old taken new found part first order beside order_is first_is added pages = (were_free, are_taken)
  where
    all : (page : ℕ) → (covers new page || holds_page page part) ≡ covers old page
    all page = pages page ∙ sym (added (holds_page page))

    first_at : first ≡ part.number * 2 ^ order
    first_at = first_is ∙ ap (λ o. part.number * 2 ^ o) order_is

    in_part : (page : ℕ) → in_range first (2 ^ order) page ≡ holds_page page part
    in_part page = ap (λ f. in_range f (2 ^ order) page) first_at ∙ in_range_is part.number order page ∙ ap (λ o. eqb (page / 2 ^ o) part.number) (sym order_is)

    were_free : (page : ℕ) → InRange first (2 ^ order) page → covers old page ≡ true
    were_free page inside =
        sym (all page) ∙ or_right (covers new page) (holds_page page part)
        (sym (in_part page) ∙ and_from (leb first page) (ltb page (first + 2 ^ order)) (le-leb _ _ inside.0) (lt-ltb _ _ inside.1))

    are_taken : (page : ℕ) → covers new page ≡ (covers old page && not (in_range first (2 ^ order) page))
    are_taken page =
        without (covers new page) (holds_page page part) (covers old page) (all page) (beside.apart page)
        ∙ ap (λ t. covers old page && not t) (sym (in_part page))
