use Rattle.std.proofs.Common.{◌≡◌, ◌≢◌, ℕ, zero, suc, ◌+◌, ◌-◌, ◌^◌, ◌<◌, ◌≤◌, true, [], ◌∷◌, refl, sym, subst, inl, inr, arith, eq-eqb, ne_eqb}
use Rattle.std.specs.List.{AllByRecursion}
use Rattle.std.proofs.lemmas.Bool.{cases_Bool, cases_lt}
use Rattle.std.proofs.lemmas.Bool.Decides.{nat_tests}
use Rattle.guest_base.specs.declared.memory.Block.{Block}
use Rattle.event_core.specs.Cut.{may_stand, order_at, blocks_from}

-- The order of a block at a place, and the blocks of a range.

pub order-most : (first left most : ℕ) → order_at first left most ≤ most
unfolding order_at
order-most first left zero = omega arith
order-most first left (suc most) =
    elim (cases_Bool (may_stand first left (suc most))) [
      | inl may ↦ rw may (omega arith)
      | inr not ↦ let below : order_at first left most ≤ most = order-most first left most in rw not (omega (arith, below))
    ]

may-fits : (first left order : ℕ) → may_stand first left order ≡ true → 2 ^ order ≤ left
may-fits first left order may = grind (arith, nat_tests)

pub order-fits : (first left most : ℕ) → 0 < left → 2 ^ order_at first left most ≤ left
unfolding order_at
order-fits first left zero some = omega arith
order-fits first left (suc most) some =
    elim (cases_Bool (may_stand first left (suc most))) [
      | inl may ↦ rw may (may-fits first left (suc most) may)
      | inr not ↦ rw not (order-fits first left most some)
    ]

pub blocks-none : (most first left : ℕ) → left ≡ 0 → blocks_from most first left ≡ []
unfolding blocks_from
blocks-none zero first left none = refl
blocks-none (suc most) first left none = rw (eq-eqb left 0 none, blocks_from) refl

pub blocks-some : (most first left : ℕ) → left ≢ 0 → blocks_from (suc most) first left ≡ record { first = first; order = order_at first left 10 } ∷ blocks_from most (first + 2 ^ order_at first left 10) (left - 2 ^ order_at first left 10)
unfolding blocks_from
blocks-some most first left some = rw (ne_eqb left 0 some, blocks_from) refl

-- each block of a range has an order up to 10
pub blocks-orders : (most first left : ℕ) → AllByRecursion (λ (b : Block). b.order ≤ 10) (blocks_from most first left)
unfolding blocks_from
blocks-orders zero first left = tt
blocks-orders (suc most) first left =
    elim (cases_lt 0 left) [
      | inl some ↦
          subst (AllByRecursion (λ (b : Block). b.order ≤ 10)) (sym (blocks-some most first left (omega (arith, some))))
          (order-most first left 10, blocks-orders most (first + 2 ^ order_at first left 10) (left - 2 ^ order_at first left 10))
      | inr none ↦ subst (AllByRecursion (λ (b : Block). b.order ≤ 10)) (sym (blocks-none (suc most) first left (omega (arith, none)))) tt
    ]
