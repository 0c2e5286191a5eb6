use Rattle.std.proofs.Common.{◌≡◌, ℕ, suc, ◌+◌, ◌-◌, ◌*◌, ◌^◌, Bool, Option, Some, None, ap, refl}
use Rattle.guest_base.specs.Search.{first_such}
use Rattle.guest_base.specs.Blocks.{is_free_block, lowest_free, pick}
use mathlib.Core.Path.{fun_ext}

-- an order that has a free block ends the search for the least such order
pub lowest_here : (free : ℕ → Bool) (order orders number : ℕ) → first_such (is_free_block free order) 0 (2 ^ (28 - order)) ≡ Some number → lowest_free free order (suc orders) ≡ Some (number * 2 ^ order)
unfolding lowest_free
lowest_here free order orders number e =
    ap (λ o. elim o as (λ _. Option ℕ) [ Some n ↦ Some (n * 2 ^ order) | None ↦ lowest_free free (order + 1) orders ]) e

-- and one that has none leaves it to the orders above
pub lowest_above : (free : ℕ → Bool) (order orders : ℕ) → first_such (is_free_block free order) 0 (2 ^ (28 - order)) ≡ None → lowest_free free order (suc orders) ≡ lowest_free free (order + 1) orders
unfolding lowest_free
lowest_above free order orders e =
    ap (λ o. elim o as (λ _. Option ℕ) [ Some n ↦ Some (n * 2 ^ order) | None ↦ lowest_free free (order + 1) orders ]) e

pub lowest_nothing : (free : ℕ → Bool) (order : ℕ) → lowest_free free order 0 ≡ None
unfolding lowest_free
lowest_nothing free order = refl

-- what is picked depends on which pages are free alone
pub pick_same : (one other : ℕ → Bool) → ((page : ℕ) → one page ≡ other page) → (order : ℕ) → pick one order ≡ pick other order
pick_same one other same order = ap (λ free. pick free order) (fun_ext same)
