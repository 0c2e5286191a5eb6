use Rattle.std.proofs.Common.{◌≡◌, ℕ, zero, suc, ◌+◌, ◌*◌, ◌/◌, ◌^◌, ◌-◌, ◌<◌, ◌≤◌, Bool, true, false, not, ◌&&◌, ◌||◌, None, Some, refl, sym, ◌∙◌, ap, inl, inr, arith}
use Rattle.std.specs.Prelude.{◌==◌}
use Rattle.std.specs.Option.{option_map}
use Rattle.std.proofs.lemmas.Bool.{cases_Bool}
use Rattle.std.proofs.lemmas.Nat.{pow_pos}
use Rattle.std.proofs.lemmas.Bool.Decides.{nat_tests}
use Rattle.guest_base.specs.Ranges.{in_range}
use Rattle.guest_base.specs.Search.{first_such, each_such}
use Rattle.guest_base.specs.Blocks.{is_whole, is_free_block, lowest_free, pick}
use Rattle.guest_base.specs.declared.memory.Block.{Block}
use Rattle.guest_base.proofs.SearchLemmas.{first_such_none, each_such_is, each_such-true}
use Rattle.guest_base.proofs.BlockFacts.{lowest_above, lowest_nothing, pick_same}

-- Which block is picked, where it can't be computed by a search over all of memory.

-- ---- no page is free

not_whole : (free : ℕ → Bool) (order number : ℕ) → ((page : ℕ) → free page ≡ false) → 0 < 2 ^ order → is_whole free order number ≡ false
not_whole free order number never some =
    elim (cases_Bool (is_whole free order number)) [
      | inl t ↦ (let here = (each_such-true free (number * 2 ^ order) (2 ^ order) t).passes (number * 2 ^ order) (omega arith) (omega (arith, some)) in let no : true ≡ false = sym here ∙ never (number * 2 ^ order) in cc)
      | inr f ↦ f
    ]

not_free : (free : ℕ → Bool) (order number : ℕ) → is_whole free order number ≡ false → is_free_block free order number ≡ false
not_free free order number h = ap (λ b. b && (order == 10 || not (is_whole free (order + 1) (number / 2)))) h

pub none_lowest : (free : ℕ → Bool) (order orders : ℕ) → ((page : ℕ) → free page ≡ false) → lowest_free free order orders ≡ None
none_lowest free order zero never = lowest_nothing free order
none_lowest free order (suc orders) never =
    lowest_above free order orders (first_such_none (is_free_block free order) 0 (2 ^ (28 - order)) (record { fails = λ number low high. not_free free order number (not_whole free order number never (pow_pos order)) }))
    ∙ none_lowest free (order + 1) orders never

pub pick-none : (free : ℕ → Bool) (order : ℕ) → ((page : ℕ) → free page ≡ false) → pick free order ≡ None
pick-none free order never = ap (option_map (λ first. let b : Block = record { first = first; order = order } in b)) (none_lowest free order (11 - order) never)

-- ---- the first block of 4 MiB alone is free

abbrev low_pages : ℕ → Bool
low_pages page = in_range 0 1024 page

low_true : (page : ℕ) → page < 1024 → low_pages page ≡ true
low_true page low = grind (arith, nat_tests, low)

low_below : (page : ℕ) → low_pages page ≡ true → page < 1024
low_below page h = grind (arith, nat_tests, h)

half : (b c : Bool) → (b ≡ true → c ≡ true) → (b && (false || not c)) ≡ false
half true c h = rw (h refl) refl
half false c h = refl

-- a half of a free block is no free block
no_half : (order number : ℕ) → (number * 2 ^ order + 2 ^ order ≤ 1024 → number / 2 * 2 ^ (order + 1) + 2 ^ (order + 1) ≤ 1024) → (is_whole low_pages order number && (false || not (is_whole low_pages (order + 1) (number / 2)))) ≡ false
no_half order number up = half _ _ (λ t.
    let size = 2 ^ order in
    let some = pow_pos order in
    let last = number * size + size - 1 in
    let there = low_below last ((each_such-true low_pages (number * size) size t).passes last (omega (arith, some)) (omega (arith, some))) in
    let end = up (omega (arith, there, some)) in
    each_such_is low_pages (number / 2 * 2 ^ (order + 1)) (2 ^ (order + 1)) (record { passes = λ page above below. low_true page (omega (arith, below, end)) }))

above : (order orders : ℕ) → (order == 10) ≡ false → ((number : ℕ) → number * 2 ^ order + 2 ^ order ≤ 1024 → number / 2 * 2 ^ (order + 1) + 2 ^ (order + 1) ≤ 1024) → lowest_free low_pages order (suc orders) ≡ lowest_free low_pages (order + 1) orders
above order orders less up =
    lowest_above low_pages order orders (first_such_none (is_free_block low_pages order) 0 (2 ^ (28 - order)) (record {
      fails = λ number low high. ap (λ b. is_whole low_pages order number && (b || not (is_whole low_pages (order + 1) (number / 2)))) less ∙ no_half order number (up number);
    }))

top : lowest_free low_pages 10 1 ≡ Some 0
unfolding lowest_free first_such each_such
top = refl

low_lowest : lowest_free low_pages 0 11 ≡ Some 0
low_lowest =
    above 0 10 refl (λ n h. omega (arith, h)) ∙ above 1 9 refl (λ n h. omega (arith, h)) ∙ above 2 8 refl (λ n h. omega (arith, h)) ∙ above 3 7 refl (λ n h. omega (arith, h))
    ∙ above 4 6 refl (λ n h. omega (arith, h)) ∙ above 5 5 refl (λ n h. omega (arith, h)) ∙ above 6 4 refl (λ n h. omega (arith, h)) ∙ above 7 3 refl (λ n h. omega (arith, h))
    ∙ above 8 2 refl (λ n h. omega (arith, h)) ∙ above 9 1 refl (λ n h. omega (arith, h)) ∙ top

pub pick-low : (free : ℕ → Bool) → ((page : ℕ) → free page ≡ low_pages page) → pick free 0 ≡ Some (record { first = 0; order = 0 })
pick-low free same = pick_same free low_pages same 0 ∙ ap (option_map (λ first. let b : Block = record { first = first; order = 0 } in b)) low_lowest
