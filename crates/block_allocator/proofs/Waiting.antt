use Rattle.std.proofs.Common.{◌≡◌, ℕ, ◌+◌, ◌*◌, ◌/◌, ◌%◌, ◌^◌, ◌<◌, ◌≤◌, ◌&&◌, ◌||◌, Bool, true, false, not, eqb, List, length, get_or, sym, ap, subst, ◌∙◌, refl, inl, inr, arith}
use Rattle.std.specs.List.{list_any}
use Rattle.std.proofs.lemmas.Bool.{and_from, eqb-true, eq-eqb, cases_order, false_from_ne_true, false≢true, or_from, or_cases}
use Rattle.std.proofs.lemmas.List.{get_or_default}
use Rattle.std.proofs.lemmas.List.Folds.{Any-from_list_any, list_any_at}
use Rattle.guest_base.specs.Ranges.{InRange, in_range}
use Rattle.guest_base.specs.declared.memory.Block.{Block}
use Rattle.block_allocator.specs.declared.buddy_block.BuddyBlock.{BuddyBlock}
use Rattle.block_allocator.specs.Kept.{rank, Rises, is_numbered, holds_page, kept, covers, Buddies, Beside}
use Rattle.block_allocator.specs.State.{State, IsSound, Apart, waits, page_waits}
use Rattle.block_allocator.proofs.Merging.{Added, kept_more, kept_cases}
use Rattle.block_allocator.proofs.Pages.{in_block, in_range_is, aligned_first}
use Rattle.block_allocator.proofs.Picking.{without}

-- each kept block has order 10
abbrev pub Form : List BuddyBlock → Type 0
Form ws = (order number : ℕ) → kept ws order number ≡ true → (order ≡ 10) × ((number + 1) * 2 ^ 10 ≤ 2 ^ 28)

-- whether a block begins at a page
abbrev pub begins : ℕ → BuddyBlock → Bool
begins first b = eqb (b.number * 2 ^ b.order) first

-- a block in the list is kept
member : (ws : List BuddyBlock) (i : ℕ) (y : BuddyBlock) → i < length ws → get_or ws i y ≡ y → kept ws y.order y.number ≡ true
member ws i y within is =
    list_any_at (is_numbered y.order y.number) ws i y within (ap (is_numbered y.order y.number) is ∙ and_from _ _ (eq-eqb y.order y.order refl) (eq-eqb y.number y.number refl))

pub member_form : (ws : List BuddyBlock) → Form ws → (i : ℕ) (y : BuddyBlock) → i < length ws → get_or ws i y ≡ y → (y.order ≡ 10) × ((y.number + 1) * 2 ^ 10 ≤ 2 ^ 28)
member_form ws form i y within is = form y.order y.number (member ws i y within is)

-- the first block of a list of waiting ones: it stands there, and has the form of one
pub first_form : (ws items : List BuddyBlock) → Form ws → (y : BuddyBlock) → items ≡ ws → y ≡ get_or items 0 y → 0 < length items → (0 < length ws) × (y ≡ get_or ws 0 y) × (y.order ≡ 10) × ((y.number + 1) * 2 ^ y.order ≤ 2 ^ 28)
first_form ws items form y same is within =
    let some : 0 < length ws = omega (arith, ap length same) in
    let read : y ≡ get_or ws 0 y = is ∙ ap (λ l. get_or l 0 y) same in
    let has = member_form ws form 0 y some (sym read) in
    (some, read, has.0, omega (arith, ap (λ o. (y.number + 1) * 2 ^ o) has.0, has.1))

-- where a block of order 10 begins
start : (y : BuddyBlock) → y.order ≡ 10 → y.number * 2 ^ y.order ≡ y.number * 1024
start y order = ap (λ o. y.number * 2 ^ o) order

-- blocks of order 10 are buddies
pub waiting_buddies : (ws : List BuddyBlock) → Form ws → Buddies (kept ws)
waiting_buddies ws form = record {
  form = λ order number is.
      let at = form order number is in
      let same : (number + 1) * 2 ^ order ≡ (number + 1) * 1024 = ap (λ o. (number + 1) * 2 ^ o) at.0 in
      (omega (arith, at.0), omega (arith, at.1));
  apart = λ page order other one two. (form order _ one).0 ∙ sym (form other _ two).0;
  alone = λ order number low high. omega (arith, (form order _ low).0);
}

-- a page of a waiting block lies behind a page where one begins
waiting_page : (ws : List BuddyBlock) → Form ws → (page : ℕ) → covers ws page ≡ true → list_any (begins (page / 2 ^ 10 * 2 ^ 10)) ws ≡ true
waiting_page ws form page is =
    let any = Any-from_list_any (holds_page page) ws is in
    let y = any.1 in
    let order = (member_form ws form any.0 y any.2 any.3).0 in
    let number = eqb-true (page / 2 ^ y.order) y.number any.4 in
    let same : page / 1024 ≡ y.number = sym (ap (λ o. page / 2 ^ o) order) ∙ number in
    let at = start y order in
    list_any_at (begins (page / 2 ^ 10 * 2 ^ 10)) ws any.0 y any.2 (ap (begins (page / 2 ^ 10 * 2 ^ 10)) any.3 ∙ eq-eqb _ _ (omega arith))

-- and a page behind a page where one begins is a waiting block's
page_behind : (ws : List BuddyBlock) → Form ws → (page : ℕ) → list_any (begins (page / 2 ^ 10 * 2 ^ 10)) ws ≡ true → covers ws page ≡ true
page_behind ws form page is =
    let any = Any-from_list_any (begins (page / 2 ^ 10 * 2 ^ 10)) ws is in
    let z = any.1 in
    let order = (member_form ws form any.0 z any.2 any.3).0 in
    let first = eqb-true (z.number * 2 ^ z.order) (page / 2 ^ 10 * 2 ^ 10) any.4 in
    let at = start z order in
    let same : page / 2 ^ z.order ≡ page / 1024 = ap (λ o. page / 2 ^ o) order in
    list_any_at (holds_page page) ws any.0 z any.2 (ap (holds_page page) any.3 ∙ eq-eqb (page / 2 ^ z.order) z.number (omega arith))

-- what is kept soundly keeps the free and the waiting pages of the value that it is seen as apart
pub apart_of : (v w : State) → v ≡ w → IsSound v.free v.waiting → Apart w
apart_of v w same sound = subst Apart same (record {
  pages = λ page is. false_from_ne_true (page_waits v page)
      (λ behind. false≢true (sym (sound.apart page is) ∙ page_behind v.waiting sound.waiting_form page behind));
})

pub not_waiting : (ws : List BuddyBlock) → Form ws → (page : ℕ) → list_any (begins (page / 2 ^ 10 * 2 ^ 10)) ws ≡ false → covers ws page ≡ false
not_waiting ws form page none = false_from_ne_true (covers ws page) (λ is. false≢true (sym none ∙ waiting_page ws form page is))

-- a block none of whose pages is covered is beside the kept ones
pub beside_from : (xs : List BuddyBlock) → Buddies (kept xs) → (block : Block) (b : BuddyBlock) → b ≡ record { order = block.order; number = block.first / 2 ^ block.order } → block.order ≤ 10 → block.first % 2 ^ block.order ≡ 0 → block.first + 2 ^ block.order ≤ 2 ^ 28 → ((page : ℕ) → InRange block.first (2 ^ block.order) page → covers xs page ≡ false) → Beside xs b
beside_from xs buddies block b is order aligned end free = record {
  buddies = buddies;
  order = omega (arith, order_is);
  end = omega (arith, first_is, ap (λ o. (b.number + 1) * 2 ^ o) order_is);
  apart = λ page in_it.
      let place = in_block b.number block.order page (sym (ap (λ o. page / 2 ^ o) order_is) ∙ eqb-true _ _ in_it) in
      free page (omega (arith, first_is), omega (arith, first_is));
}
  where
    order_is : b.order ≡ block.order
    order_is = ap (λ x. x.order) is

    first_is : b.number * 2 ^ block.order ≡ block.first
    first_is = ap (λ x. x.number * 2 ^ block.order) is ∙ aligned_first block.first block.order aligned

-- the range of a block's pages as a test of the block
pub range_is : (block : Block) (b : BuddyBlock) → b ≡ record { order = block.order; number = block.first / 2 ^ block.order } → block.first % 2 ^ block.order ≡ 0 → (page : ℕ) → holds_page page b ≡ in_range block.first (2 ^ block.order) page
range_is block b is aligned page =
    ap (holds_page page) is
    ∙ sym (in_range_is (block.first / 2 ^ block.order) block.order page)
    ∙ ap (λ f. in_range f (2 ^ block.order) page) (aligned_first block.first block.order aligned)

-- after a block was freed
pub sound_freed : (free waiting new : List BuddyBlock) (b : BuddyBlock) → IsSound free waiting → Rises new → Buddies (kept new) → ((page : ℕ) → covers new page ≡ (covers free page || holds_page page b)) → ((page : ℕ) → holds_page page b ≡ true → covers waiting page ≡ false) → IsSound new waiting
sound_freed free waiting new b sound rises buddies pages apart = record {
  rises = rises;
  buddies = buddies;
  waiting_rises = sound.waiting_rises;
  waiting_form = sound.waiting_form;
  apart = λ page is. elim (or_cases (covers free page) (holds_page page b) (sym (pages page) ∙ is)) as (λ _. covers waiting page ≡ false)
      [ inl old ↦ sound.apart page old | inr new_page ↦ apart page new_page ];
}

-- after a block was put among the waiting ones
pub sound_put : (free waiting new : List BuddyBlock) (b : BuddyBlock) → IsSound free waiting → Rises new → Added waiting b new → b.order ≡ 10 → (b.number + 1) * 2 ^ b.order ≤ 2 ^ 28 → ((page : ℕ) → holds_page page b ≡ true → covers free page ≡ false) → IsSound free new
sound_put free waiting new b sound rises added order end apart = record {
  rises = sound.rises;
  buddies = sound.buddies;
  waiting_rises = rises;
  waiting_form = λ k n is. elim (kept_cases waiting new b added k n is) as (λ _. (k ≡ 10) × ((n + 1) * 2 ^ 10 ≤ 2 ^ 28)) [
    | inl old ↦ sound.waiting_form k n old
    | inr this ↦
        (let order_is = this.0 in
        let same : (b.number + 1) * 2 ^ b.order ≡ (n + 1) * 1024 = ap (λ o. (b.number + 1) * 2 ^ o) order ∙ ap (λ m. (m + 1) * 1024) this.1 in
        (omega arith, omega arith))
  ];
  apart = λ page is.
      added (holds_page page)
      ∙ or_from (covers waiting page) (holds_page page b) (sound.apart page is)
      (false_from_ne_true (holds_page page b) (λ in_b. false≢true (sym (apart page in_b) ∙ is)));
}

-- the first waiting block begins lowest
pub lowest_first : (ws : List BuddyBlock) → Rises ws → Form ws → (y : BuddyBlock) → 0 < length ws → y ≡ get_or ws 0 y → (list_any (begins (y.number * 2 ^ y.order)) ws ≡ true) × ((first : ℕ) → list_any (begins first) ws ≡ true → y.number * 2 ^ y.order ≤ first)
lowest_first ws rises form y some read = (here, lowest)
  where
    here : list_any (begins (y.number * 2 ^ y.order)) ws ≡ true
    here = list_any_at (begins (y.number * 2 ^ y.order)) ws 0 y some (ap (begins (y.number * 2 ^ y.order)) (sym read) ∙ eq-eqb (y.number * 2 ^ y.order) (y.number * 2 ^ y.order) refl)

    lowest : (first : ℕ) → list_any (begins first) ws ≡ true → y.number * 2 ^ y.order ≤ first
    lowest first is =
        let any = Any-from_list_any (begins first) ws is in
        let z = any.1 in
        let y_order = (member_form ws form 0 y some (sym read)).0 in
        let z_order = (member_form ws form any.0 z any.2 any.3).0 in
        let y_start = start y y_order in
        let z_start = start z z_order in
        let z_first = eqb-true (z.number * 2 ^ z.order) first any.4 in
        let own = ap rank any.3 in
        let at : rank y ≡ rank (get_or ws 0 z) = ap rank (read ∙ get_or_default ws 0 y z some) in
        elim (cases_order 0 any.0) as (λ _. y.number * 2 ^ y.order ≤ first) [
          | inl e ↦ (let same : rank (get_or ws 0 z) ≡ rank (get_or ws any.0 z) = ap (λ i. rank (get_or ws i z)) e in omega arith)
          | inr o ↦ elim o as (λ _. y.number * 2 ^ y.order ≤ first)
              [ inl later ↦ (let less = rises 0 any.0 z later any.2 in omega arith) | inr never ↦ absurd (omega arith) ]
        ]

-- what waits after one block was taken out
pub others_wait : (xs ys : List BuddyBlock) (y : BuddyBlock) → Added xs y ys → Form ys → kept xs y.order y.number ≡ false → y.order ≡ 10 → (first : ℕ) → list_any (begins first) xs ≡ (list_any (begins first) ys && not (begins first y))
others_wait xs ys y added form gone order first =
    without (list_any (begins first) xs) (begins first y) (list_any (begins first) ys) (sym (added (begins first)))
    (λ at. false_from_ne_true (list_any (begins first) xs) (λ is.
    let any = Any-from_list_any (begins first) xs is in
    let z = any.1 in
    let z_kept = member xs any.0 z any.2 any.3 in
    let z_order = (form z.order z.number (kept_more xs ys y added z.order z.number z_kept)).0 in
    let z_start = start z z_order in
    let y_start = start y order in
    let z_first = eqb-true (z.number * 2 ^ z.order) first any.4 in
    let y_first = eqb-true (y.number * 2 ^ y.order) first at in
    let number : z.number ≡ y.number = omega arith in
    let same : z.order ≡ y.order = omega arith in
    false≢true (sym gone ∙ sym (ap (λ o. kept xs o z.number) same ∙ ap (kept xs y.order) number) ∙ z_kept)))

-- the same of a value that the fields are seen as, and of the block's first page
pub seen_lowest : (v w : State) → v ≡ w → (y : BuddyBlock) (first : ℕ) → first ≡ y.number * 2 ^ y.order → (waits v (y.number * 2 ^ y.order) ≡ true) × ((other : ℕ) → waits v other ≡ true → y.number * 2 ^ y.order ≤ other) → (waits w first ≡ true) × ((other : ℕ) → waits w other ≡ true → first ≤ other)
seen_lowest v w same y first first_is lowest = (
  sym (ap (λ s. waits s (y.number * 2 ^ y.order)) same ∙ ap (waits w) (sym first_is)) ∙ lowest.0,
  λ other is. omega (arith, lowest.1 other (ap (λ s. waits s other) same ∙ is)),
)
