-- The cut of RAM into blocks rises, and each block stands on a multiple of its pages.
use Rattle.std.proofs.Common.{◌≡◌, ℕ, zero, suc, ◌+◌, ◌-◌, ◌%◌, ◌^◌, ◌≤◌, true, Option, None, Some, List, [], ◌∷◌, ◌++◌, sym, subst, arith, inl, inr, eqb-true, ◌==◌, ◌&&◌, nat_le, nat_lt}
use Rattle.std.specs.List.{AllPairs, AllByRecursion, flat_map}
use Rattle.std.proofs.lemmas.Bool.{cases_Bool, cases_lt}
use Rattle.std.proofs.lemmas.Bool.Decides.{nat_tests}
use Rattle.guest_base.specs.declared.memory.Pages.{Pages}
use Rattle.guest_base.specs.declared.memory.Block.{Block}
use Rattle.guest_base.specs.declared.memory.PageRun.{PageRun}
use Rattle.event_core.specs.declared.boot.Boot.{Boot}
use Rattle.event_core.specs.Cut.{pages_end, joined, ram_ranges, pages_between, without_pool, may_stand, order_at, blocks_from, blocks_of, cut}
use Rattle.event_core.proofs.CutFacts.{order-fits, blocks-none, blocks-some}
use Rattle.event_core.proofs.EarlyLemmas.{pairs-tail}
use Rattle.event_core.specs.Runs.{run_end, GoesBefore}

-- ---- blocks that rise

-- blocks that rise from a page on up to another, each on a multiple of its pages
abbrev pub RiseTo : ℕ → ℕ → List Block → Type 0
RiseTo from to [] = from ≤ to
RiseTo from to (b ∷ bs) = (from ≤ b.first) × (b.first % 2 ^ b.order ≡ 0) × RiseTo (b.first + 2 ^ b.order) to bs

rise-from : (from at to : ℕ) (bs : List Block) → from ≤ at → RiseTo at to bs → RiseTo from to bs
rise-from from at to [] low rise = omega (arith, low, rise)
rise-from from at to (b ∷ bs) low rise = let here = rise.0 in (omega (arith, low, here), rise.1, rise.2)

rise-append : (from at to : ℕ) (xs ys : List Block) → RiseTo from at xs → RiseTo at to ys → RiseTo from to (xs ++ ys)
rise-append from at to [] ys left right = rise-from from at to ys left right
rise-append from at to (b ∷ bs) ys left right = (left.0, left.1, rise-append (b.first + 2 ^ b.order) at to bs ys left.2 right)

rise-le : (from to : ℕ) (bs : List Block) → RiseTo from to bs → from ≤ to
rise-le from to [] rise = rise
rise-le from to (b ∷ bs) rise =
    let low = rise.0 in
    let behind = rise-le (b.first + 2 ^ b.order) to bs rise.2 in
    omega (arith, low, behind)

-- what stands at a block of a list that rises
pub record RisesAt (from to : ℕ) (xs : List Block) (b : Block) (ys : List Block) : Type 0 where
  pub below : RiseTo from b.first xs
  pub stands : b.first % 2 ^ b.order ≡ 0
  pub above : RiseTo (b.first + 2 ^ b.order) to ys

pub rise-split : (from to : ℕ) (xs : List Block) (b : Block) (ys : List Block) → RiseTo from to (xs ++ b ∷ ys) → RisesAt from to xs b ys
rise-split from to [] b ys rise = record { below = rise.0; stands = rise.1; above = rise.2 }
rise-split from to (x ∷ xs) b ys rise =
    let rest = rise-split (x.first + 2 ^ x.order) to xs b ys rise.2 in
    record { below = (rise.0, rise.1, rest.below); stands = rest.stands; above = rest.above }

-- each block below ends where the others begin, and each above begins there
pub rise-below : (from to : ℕ) (bs : List Block) → RiseTo from to bs → AllByRecursion (λ (b : Block). b.first + 2 ^ b.order ≤ to) bs
rise-below from to [] rise = tt
rise-below from to (b ∷ bs) rise = (rise-le (b.first + 2 ^ b.order) to bs rise.2, rise-below (b.first + 2 ^ b.order) to bs rise.2)

pub rise-above : (low from to : ℕ) (bs : List Block) → low ≤ from → RiseTo from to bs → AllByRecursion (λ (b : Block). low ≤ b.first) bs
rise-above low from to [] less rise = tt
rise-above low from to (b ∷ bs) less rise =
    let here = rise.0 in
    (omega (arith, less, here), rise-above low (b.first + 2 ^ b.order) to bs (omega (arith, less, here)) rise.2)

-- ---- the blocks of a range

order-stands : (first left most : ℕ) → first % 2 ^ order_at first left most ≡ 0
unfolding order_at
order-stands first left zero = omega arith
order-stands first left (suc most) =
    elim (cases_Bool (may_stand first left (suc most))) [
      | inl may ↦ rw may (stands first left (suc most) may)
      | inr not ↦ rw not (order-stands first left most)
    ]
  where
    stands : (first left order : ℕ) → may_stand first left order ≡ true → first % 2 ^ order ≡ 0
    stands first left order may = grind (arith, nat_tests)

blocks-rise : (end most first left : ℕ) → first + left ≤ end → RiseTo first end (blocks_from most first left)
unfolding blocks_from
blocks-rise end zero first left low = omega arith
blocks-rise end (suc most) first left low =
    elim (cases_lt 0 left) [
      | inl some ↦
          let fits : 2 ^ order_at first left 10 ≤ left = order-fits first left 10 some in
          subst (RiseTo first end) (sym (blocks-some most first left (omega arith)))
          (omega arith, order-stands first left 10, blocks-rise end most (first + 2 ^ order_at first left 10) (left - 2 ^ order_at first left 10) (omega (arith, fits, low)))
      | inr none ↦ subst (RiseTo first end) (sym (blocks-none (suc most) first left (omega arith))) (omega (arith, low))
    ]

-- ---- the ranges of RAM

abbrev RangesTo : ℕ → ℕ → List Pages → Type 0
RangesTo from to [] = from ≤ to
RangesTo from to (r ∷ rs) = (from ≤ r.first) × RangesTo (pages_end r) to rs

ranges-from : (from at to : ℕ) (rs : List Pages) → from ≤ at → RangesTo at to rs → RangesTo from to rs
ranges-from from at to [] low rise = omega (arith, low, rise)
ranges-from from at to (r ∷ rs) low rise = let here = rise.0 in (omega (arith, low, here), rise.1)

ranges-append : (from at to : ℕ) (xs ys : List Pages) → RangesTo from at xs → RangesTo at to ys → RangesTo from to (xs ++ ys)
ranges-append from at to [] ys left right = ranges-from from at to ys left right
ranges-append from at to (r ∷ rs) ys left right = (left.0, ranges-append (pages_end r) at to rs ys left.1 right)

ranges-joined : (from to : ℕ) (r : Pages) (rs : List Pages) → from ≤ r.first → RangesTo (pages_end r) to rs → RangesTo from to (joined r rs)
ranges-joined from to r [] low rise = (low, rise)
ranges-joined from to r (next ∷ rs) low rise =
    elim (cases_Bool (pages_end r == next.first)) [
      | inl near ↦
          let at : pages_end r ≡ next.first = eqb-true (pages_end r) next.first near in
          let ends : r.first + (r.count + next.count) ≡ pages_end next = omega (arith, at) in
          rw near (low, subst (λ end. RangesTo end to rs) (sym ends) rise.1)
      | inr far ↦ rw far (low, (rise.0, rise.1))
    ]

abbrev pub FromOn : ℕ → List PageRun → Type 0
FromOn from [] = Unit {0}
FromOn from (run ∷ runs) = from ≤ run.pages.first

pub zero-on : (runs : List PageRun) → FromOn 0 runs
zero-on [] = tt
zero-on (run ∷ runs) = omega arith

pub next-from : (run : PageRun) (runs : List PageRun) → AllPairs GoesBefore (run ∷ runs) → FromOn (run_end run) runs
next-from run [] pairs = tt
next-from run (next ∷ runs) pairs = (pairs 0 1 run (omega arith) (omega arith)).ends

ram-rises : (from : ℕ) (runs : List PageRun) → FromOn from runs → AllPairs GoesBefore runs → (to : ℕ) × RangesTo from to (ram_ranges runs)
ram-rises from [] low pairs = (from, omega arith)
ram-rises from (run ∷ runs) low pairs =
    let rest = ram-rises (run_end run) runs (next-from run runs pairs) (pairs-tail GoesBefore run runs pairs) in
    (rest.0, ranges-joined from rest.0 run.pages (ram_ranges runs) low rest.1)

-- ---- without the pool

between-rises : (from to : ℕ) → from ≤ to → RangesTo from to (pages_between from to)
between-rises from to low =
    elim (cases_Bool (nat_lt from to)) [
      | inl some ↦ rw some (omega arith, omega arith)
      | inr none ↦ rw none low
    ]

pool-rises : (pool : Option Pages) (r : Pages) → RangesTo r.first (pages_end r) (without_pool pool r)
pool-rises None r = (omega arith, omega arith)
pool-rises (Some pool) r =
    elim (cases_Bool (nat_le r.first pool.first && nat_le (pages_end pool) (pages_end r))) [
      | inl holds ↦
          let low : r.first ≤ pool.first = grind (arith, nat_tests) in
          let high : pages_end pool ≤ pages_end r = grind (arith, nat_tests) in
          rw holds (ranges-append r.first pool.first (pages_end r) (pages_between r.first pool.first) (pages_between (pages_end pool) (pages_end r))
          (between-rises r.first pool.first low) (ranges-from pool.first (pages_end pool) (pages_end r) (pages_between (pages_end pool) (pages_end r)) (omega arith) (between-rises (pages_end pool) (pages_end r) high)))
      | inr apart ↦ rw apart (omega arith, omega arith)
    ]

pools-rise : (pool : Option Pages) (from to : ℕ) (rs : List Pages) → RangesTo from to rs → RangesTo from to (flat_map (without_pool pool) rs)
pools-rise pool from to [] rise = rise
pools-rise pool from to (r ∷ rs) rise =
    ranges-append from (pages_end r) to (without_pool pool r) (flat_map (without_pool pool) rs)
    (ranges-from from r.first (pages_end r) (without_pool pool r) rise.0 (pool-rises pool r)) (pools-rise pool (pages_end r) to rs rise.1)

blocks-all-rise : (from to : ℕ) (rs : List Pages) → RangesTo from to rs → RiseTo from to (flat_map blocks_of rs)
blocks-all-rise from to [] rise = rise
blocks-all-rise from to (r ∷ rs) rise =
    rise-append from (pages_end r) to (blocks_of r) (flat_map blocks_of rs)
    (rise-from from r.first (pages_end r) (blocks_of r) rise.0 (blocks-rise (pages_end r) r.count r.first r.count (omega arith))) (blocks-all-rise (pages_end r) to rs rise.1)

pub cut-rises : (boot : Boot) → AllPairs GoesBefore boot.ram → (to : ℕ) × RiseTo 0 to (cut boot)
unfolding cut
cut-rises boot pairs =
    let ranges = ram-rises 0 boot.ram (zero-on boot.ram) pairs in
    (ranges.0, blocks-all-rise 0 ranges.0 (flat_map (without_pool boot.pool) (ram_ranges boot.ram)) (pools-rise boot.pool 0 ranges.0 (ram_ranges boot.ram) ranges.1))
