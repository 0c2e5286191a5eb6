use Rattle.std.proofs.Common.{◌≡◌, ℕ, ◌+◌, ◌-◌, ◌*◌, ◌^◌, ◌<◌, ◌≤◌, ◌&&◌, ◌||◌, Bool, true, false, not, eqb, List, length, get_or, insert, remove, sym, ap, ◌∙◌, refl, inl, inr, arith}
use Rattle.std.specs.List.{list_any}
use Rattle.std.specs.List.Sorted.{IsNonDecreasingBy}
use Rattle.std.proofs.lemmas.Bool.{and_parts, and_from, not_from_true, eqb-true, cases_lt, cases_order, false_from_ne_true, false≢true, eq-eqb}
use Rattle.std.proofs.lemmas.List.{get_or_default}
use Rattle.std.proofs.lemmas.List.Edits.{length-insert, get_or-insert_below, get_or-insert_at, get_or-insert_above, length-remove, get_or-remove_below, get_or-remove_above}
use Rattle.std.proofs.lemmas.List.Folds.{list_any_none, list_any_at}
use Rattle.std.proofs.lemmas.List.Sorted.{IsPermutation-insert, IsPermutation-remove, list_any-IsPermutation}
use Rattle.block_allocator.specs.declared.buddy_block.BuddyBlock.{BuddyBlock}
use Rattle.block_allocator.specs.Kept.{rank, Rises, is_numbered}

or-comm : (a b : Bool) → (a || b) ≡ (b || a)
or-comm true true = refl
or-comm true false = refl
or-comm false true = refl
or-comm false false = refl

-- an inserted block is one more that a test may pass
pub any-insert : (test : BuddyBlock → Bool) (xs : List BuddyBlock) (i : ℕ) (b : BuddyBlock) → list_any test (insert xs i b) ≡ (list_any test xs || test b)
any-insert test xs i b =
    sym (list_any-IsPermutation test _ _ (IsPermutation-insert xs i b)) ∙ or-comm (test b) (list_any test xs)

-- and one taken out is one less
pub any-remove : (test : BuddyBlock → Bool) (xs : List BuddyBlock) (i : ℕ) (b : BuddyBlock) → i < length xs → b ≡ get_or xs i b → list_any test xs ≡ (list_any test (remove xs i) || test b)
any-remove test xs i b within is =
    list_any-IsPermutation test _ _ (IsPermutation-remove xs i b within is) ∙ or-comm (test b) (list_any test (remove xs i))

-- a rising list doesn't fall
pub non_decreasing : (xs : List BuddyBlock) → Rises xs → IsNonDecreasingBy rank xs
non_decreasing xs rises i j d le within =
    elim (cases_order i j) as (λ _. rank (get_or xs i d) ≤ rank (get_or xs j d)) [
      | inl e ↦ (let same : rank (get_or xs i d) ≡ rank (get_or xs j d) = ap (λ k. rank (get_or xs k d)) e in omega arith)
      | inr o ↦ elim o as (λ _. rank (get_or xs i d) ≤ rank (get_or xs j d))
          [ inl lt ↦ (let less = rises i j d lt within in omega arith) | inr gt ↦ absurd (omega arith) ]
    ]

-- what stands after a place that no smaller rank reaches is greater, if the rank itself is absent
pub after_place : (xs : List BuddyBlock) (r k : ℕ) (d : BuddyBlock) → list_any (λ b. eqb (rank b) r) xs ≡ false → k < length xs → r ≤ rank (get_or xs k d) → r < rank (get_or xs k d)
after_place xs r k d absent within le =
    elim (cases_lt r (rank (get_or xs k d))) as (λ _. r < rank (get_or xs k d)) [
      | inl lt ↦ lt
      | inr ge ↦ absurd (false≢true (sym absent ∙ list_any_at (λ b. eqb (rank b) r) xs k d within (eq-eqb _ _ (omega arith))))
    ]

-- the ranks of a list after an insert
rank_below : (xs : List BuddyBlock) (p : ℕ) (b : BuddyBlock) → p ≤ length xs → (k : ℕ) (d : BuddyBlock) → k < p → rank (get_or (insert xs p b) k d) ≡ rank (get_or xs k d)
rank_below xs p b within k d lt = ap rank (get_or-insert_below xs p b d k lt within)

rank_at : (xs : List BuddyBlock) (p : ℕ) (b : BuddyBlock) → p ≤ length xs → (k : ℕ) (d : BuddyBlock) → k ≡ p → rank (get_or (insert xs p b) k d) ≡ rank b
rank_at xs p b within k d e = ap (λ n. rank (get_or (insert xs p b) n d)) e ∙ ap rank (get_or-insert_at xs p b d within)

rank_above : (xs : List BuddyBlock) (p : ℕ) (b : BuddyBlock) → p ≤ length xs → (k : ℕ) (d : BuddyBlock) → p < k → rank (get_or (insert xs p b) k d) ≡ rank (get_or xs (k - 1) d)
rank_above xs p b within k d lt =
    let e : k ≡ (k - 1) + 1 = omega arith in
    ap (λ n. rank (get_or (insert xs p b) n d)) e ∙ ap rank (get_or-insert_above xs p b d (k - 1) (omega arith) within)

-- a list still rises after an insert between what is lower and what is greater
pub rises-insert : (xs : List BuddyBlock) (p : ℕ) (b : BuddyBlock) → Rises xs → p ≤ length xs → ((k : ℕ) (d : BuddyBlock) → k < p → rank (get_or xs k d) < rank b) → ((k : ℕ) (d : BuddyBlock) → p ≤ k → k < length xs → rank b < rank (get_or xs k d)) → Rises (insert xs p b)
rises-insert xs p b rises within below above i j d lt end =
    let n = length-insert xs p b within in
    elim (cases_order i p) as (λ _. rank (get_or (insert xs p b) i d) < rank (get_or (insert xs p b) j d)) [
      | inl e ↦
          (let at = rank_at xs p b within i d e in
          let over = rank_above xs p b within j d (omega arith) in
          let less = above (j - 1) d (omega arith) (omega arith) in
          omega arith)
      | inr o ↦ elim o as (λ _. rank (get_or (insert xs p b) i d) < rank (get_or (insert xs p b) j d)) [
        | inl lower ↦
            (let at = rank_below xs p b within i d lower in
            elim (cases_order j p) as (λ _. rank (get_or (insert xs p b) i d) < rank (get_or (insert xs p b) j d)) [
              | inl e ↦
                  (let over = rank_at xs p b within j d e in
                  let less = below i d lower in
                  omega arith)
              | inr q ↦ elim q as (λ _. rank (get_or (insert xs p b) i d) < rank (get_or (insert xs p b) j d)) [
                | inl low ↦
                    (let over = rank_below xs p b within j d low in
                    let less = rises i j d lt (omega arith) in
                    omega arith)
                | inr high ↦
                    (let over = rank_above xs p b within j d high in
                    let less = rises i (j - 1) d (omega arith) (omega arith) in
                    omega arith)
              ]
            ])
        | inr higher ↦
            (let at = rank_above xs p b within i d higher in
            let over = rank_above xs p b within j d (omega arith) in
            let less = rises (i - 1) (j - 1) d (omega arith) (omega arith) in
            omega arith)
      ]
    ]

pub rank-numbered : (order number : ℕ) (b : BuddyBlock) → is_numbered order number b ≡ true → rank b ≡ order * 2 ^ 64 + number
rank-numbered order number b is =
    let parts = and_parts (eqb b.order order) (eqb b.number number) is in
    let o = eqb-true b.order order parts.0 in
    let n = eqb-true b.number number parts.1 in
    omega arith

-- a block isn't where only blocks of other ranks are
pub not_numbered : (order number : ℕ) (b : BuddyBlock) → (rank b ≡ order * 2 ^ 64 + number → ⊥) → is_numbered order number b ≡ false
not_numbered order number b other = false_from_ne_true (is_numbered order number b) (λ is. other (rank-numbered order number b is))

-- what is left after one block is taken out has other ranks
other_rank : (xs : List BuddyBlock) (p : ℕ) (b : BuddyBlock) → Rises xs → p < length xs → b ≡ get_or xs p b → (k : ℕ) (d : BuddyBlock) → k < length (remove xs p) → rank (get_or (remove xs p) k d) ≡ rank b → ⊥
other_rank xs p b rises within is k d lt same =
    let n = length-remove xs p within in
    let at : rank b ≡ rank (get_or xs p d) = ap rank is ∙ ap rank (get_or_default xs p b d within) in
    elim (cases_lt k p) as (λ _. ⊥) [
      | inl low ↦
          (let e = ap rank (get_or-remove_below xs p d k low within) in
          let less = rises k p d low within in
          omega arith)
      | inr high ↦
          (let e = ap rank (get_or-remove_above xs p d k high within) in
          let less = rises p (k + 1) d (omega arith) (omega arith) in
          omega arith)
    ]

-- a block taken out is there no more
pub gone : (xs : List BuddyBlock) (p : ℕ) (b : BuddyBlock) → Rises xs → p < length xs → b ≡ get_or xs p b → list_any (is_numbered b.order b.number) (remove xs p) ≡ false
gone xs p b rises within is =
    list_any_none (is_numbered b.order b.number) (remove xs p)
    (λ k d lt. not_numbered b.order b.number (get_or (remove xs p) k d) (other_rank xs p b rises within is k d lt))

-- two blocks of one order and number are one
pub same_block : (x y : BuddyBlock) → x.order ≡ y.order → x.number ≡ y.number → x ≡ y
same_block x y o n =
    let by_order : x ≡ record { order = y.order; number = x.number } = ap (λ k. record { order = k; number = x.number }) o in
    let by_number : record { order = y.order; number = x.number } ≡ y = ap (λ k. record { order = y.order; number = k }) n in
    by_order ∙ by_number

-- a block that doesn't stand at its place is nowhere
pub absent : (xs : List BuddyBlock) (p : ℕ) (b : BuddyBlock) → Rises xs → ((k : ℕ) (d : BuddyBlock) → k < p → rank (get_or xs k d) < rank b) → ((k : ℕ) (d : BuddyBlock) → p ≤ k → k < length xs → rank b ≤ rank (get_or xs k d)) → ((d : BuddyBlock) → p < length xs → get_or xs p d ≡ b → ⊥) → list_any (is_numbered b.order b.number) xs ≡ false
absent xs p b rises below above other =
    list_any_none (is_numbered b.order b.number) xs
    (λ k d lt. elim (cases_order k p) as (λ _. is_numbered b.order b.number (get_or xs k d) ≡ false) [
      | inl e ↦ false_from_ne_true (is_numbered b.order b.number (get_or xs k d))
          (λ is. let parts = and_parts (eqb (get_or xs k d).order b.order) (eqb (get_or xs k d).number b.number) is in
          other d (omega arith) (ap (λ n. get_or xs n d) (sym e) ∙ same_block (get_or xs k d) b (eqb-true _ _ parts.0) (eqb-true _ _ parts.1)))
      | inr o ↦ not_numbered b.order b.number (get_or xs k d)
          (λ same. elim o as (λ _. ⊥) [
            | inl low ↦ (let less = below k d low in omega arith)
            | inr high ↦
                (let least = above p d (omega arith) (omega arith) in
                let less = rises p k d high lt in
                omega arith)
          ])
    ])

-- the block that stands at a place is what a comparison there says
pub differs : (xs : List BuddyBlock) (p : ℕ) (x b d : BuddyBlock) (r : Bool) → p < length xs → x ≡ get_or xs p x → get_or xs p d ≡ b → r ≡ not (eqb x.order b.order && eqb x.number b.number) → r ≡ true → ⊥
differs xs p x b d r within read same result is =
    let e : x ≡ b = read ∙ get_or_default xs p x d within ∙ same in
    let both = and_from (eqb x.order b.order) (eqb x.number b.number) (eq-eqb _ _ (ap (λ y. y.order) e)) (eq-eqb _ _ (ap (λ y. y.number) e)) in
    false≢true (sym (not_from_true _ both) ∙ sym result ∙ is)
