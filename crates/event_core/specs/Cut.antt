use Rattle.std.specs.Prelude.{ℕ, zero, suc, List, [], ◌∷◌, ◌++◌, Option, None, Some, Bool, true, false, ◌+◌, ◌-◌, ◌%◌, ◌^◌, ◌==◌, ◌&&◌, nat_le, nat_lt, if◌then◌else◌}
use Rattle.std.specs.List.{flat_map}
use Rattle.guest_base.specs.declared.memory.Pages.{Pages}
use Rattle.guest_base.specs.declared.memory.Block.{Block}
use Rattle.guest_base.specs.declared.memory.PageRun.{PageRun}
use Rattle.event_core.specs.declared.boot.Boot.{Boot}

-- How RAM is cut into blocks (own rule, after the page allocator).

abbrev pub pages_end : Pages → ℕ
pages_end pages = pages.first + pages.count

-- pages in front of ranges: one range with the first where that goes on right behind them
abbrev pub joined : Pages → List Pages → List Pages
joined pages [] = pages ∷ []
joined pages (next ∷ ranges) =
    if pages_end pages == next.first
    then record { first = pages.first; count = pages.count + next.count } ∷ ranges
    else pages ∷ next ∷ ranges

-- the maximal ranges of RAM, whatever the states of its pages
abbrev pub ram_ranges : List PageRun → List Pages
ram_ranges [] = []
ram_ranges (run ∷ runs) = joined run.pages (ram_ranges runs)

-- pages from one up to another, where there are any
abbrev pub pages_between : ℕ → ℕ → List Pages
pages_between from to = if nat_lt from to then record { first = from; count = to - from } ∷ [] else []

-- a range without the pool, which lies in it or apart from it
abbrev pub without_pool : Option Pages → Pages → List Pages
without_pool None range = range ∷ []
without_pool (Some pool) range =
    if nat_le range.first pool.first && nat_le (pages_end pool) (pages_end range)
    then pages_between range.first pool.first ++ pages_between (pages_end pool) (pages_end range)
    else range ∷ []

-- a block of an order may stand at a page: the page is a multiple of the block's pages, and as many are left as it has
abbrev pub may_stand : ℕ → ℕ → ℕ → Bool
may_stand first left order = (first % 2 ^ order == 0) && nat_le (2 ^ order) left

-- the greatest order, of those up to a number, that may stand at a page
unfoldable pub order_at : ℕ → ℕ → ℕ → ℕ
order_at first left zero = 0
order_at first left (suc order) = if may_stand first left (suc order) then suc order else order_at first left order

-- the blocks of a range, each of the greatest order up to 10 that may stand at its place; it has at most `most` blocks
unfoldable pub blocks_from : ℕ → ℕ → ℕ → List Block
blocks_from zero first left = []
blocks_from (suc most) first left =
    elim (left == 0) as (λ _. List Block) [
      | true ↦ []
      | false ↦
          let order = order_at first left 10 in
          record { first = first; order = order } ∷ blocks_from most (first + 2 ^ order) (left - 2 ^ order)
    ]

abbrev pub blocks_of : Pages → List Block
blocks_of range = blocks_from range.count range.first range.count

-- the blocks of the RAM outside the pool, rising
unfoldable pub cut : Boot → List Block
cut boot = flat_map blocks_of (flat_map (without_pool boot.pool) (ram_ranges boot.ram))
