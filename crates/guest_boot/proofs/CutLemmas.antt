-- The cut of RAM into blocks: the order at a place, the blocks of a range, and the ranges of runs.
use Rattle.std.proofs.Common.{◌≡◌, ◌≢◌, ℕ, zero, suc, ◌+◌, ◌-◌, ◌^◌, ◌<◌, ◌≤◌, Bool, true, false, Option, None, Some, find, length, List, [], ◌∷◌, get_or, refl, sym, ap, ◌∙◌, arith, inl, inr, eqb-true, ◌==◌, ◌&&◌, nat_le, nat_lt}
use Rattle.std.specs.List.{All, flat_map}
use Rattle.std.specs.Option.{option_map}
use Rattle.std.proofs.lemmas.Bool.{cases_Bool, cases_lt}
use Rattle.std.proofs.lemmas.Bool.Decides.{nat_tests}
use Rattle.std.proofs.lemmas.Nat.{pow_pos}
use Rattle.std.proofs.lemmas.List.Elements.{All-nil, All-cons, All-append, All-head, All-tail, All-from_recursion}
use Rattle.guest_base.specs.declared.memory.Pages.{Pages}
use Rattle.guest_base.specs.declared.memory.Block.{Block}
use Rattle.guest_base.specs.declared.memory.PageRun.{PageRun}
use Rattle.guest_base.specs.declared.memory.PageState.{PageState}
use Rattle.event_core.specs.Cut.{pages_end, joined, ram_ranges, pages_between, without_pool, may_stand, order_at, blocks_from, blocks_of}
use Rattle.event_core.proofs.CutFacts.{order-fits, blocks-none, blocks-some, blocks-orders}
use Rattle.event_core.specs.Runs.{run_end, run_holds, AreMaximalRuns}

-- ---- the order at a place

pub order-below : (first left order : ℕ) → 0 < order → may_stand first left order ≡ false → order_at first left (order - 1) ≡ order_at first left order
unfolding order_at
order-below first left zero some not = absurd (omega arith)
order-below first left (suc order) some not = let same : suc order - 1 ≡ order = omega arith in rw (same, not) refl

pub order-here : (first left order : ℕ) → may_stand first left order ≡ true → order_at first left order ≡ order
unfolding order_at
order-here first left zero may = refl
order-here first left (suc order) may = rw may refl

pub order-last : (first left order : ℕ) → order ≤ 0 → order_at first left order ≡ order
unfolding order_at
order-last first left zero last = refl
order-last first left (suc order) last = absurd (omega arith)

-- ---- the blocks of a range

-- more than enough makes no difference
blocks-enough : (most enough first left : ℕ) → left ≤ most → left ≤ enough → blocks_from most first left ≡ blocks_from enough first left
unfolding blocks_from
blocks-enough zero enough first left below within = sym (blocks-none enough first left (omega arith))
blocks-enough most zero first left below within = blocks-none most first left (omega arith)
blocks-enough (suc most) (suc enough) first left below within =
    elim (cases_lt 0 left) [
      | inl some ↦
          let pages : ℕ = 2 ^ order_at first left 10 in
          let any : 0 < pages = pow_pos (order_at first left 10) in
          blocks-some most first left (omega arith)
          ∙ ap (λ (bs : List Block). record { first = first; order = order_at first left 10 } ∷ bs) (blocks-enough most enough (first + pages) (left - pages) (omega (arith, any)) (omega (arith, any)))
          ∙ sym (blocks-some enough first left (omega arith))
      | inr none ↦ blocks-none (suc most) first left (omega arith) ∙ sym (blocks-none (suc enough) first left (omega arith))
    ]

pub blocks-end : (first left : ℕ) → left ≡ 0 → blocks_from left first left ≡ []
blocks-end first left none = blocks-none left first left none

pub blocks-next : (first left order pages : ℕ) → 0 < left → order ≡ order_at first left 10 → pages ≡ 2 ^ order → blocks_from left first left ≡ record { first = first; order = order } ∷ blocks_from (left - pages) (first + pages) (left - pages)
blocks-next first left order pages some is size =
    let any : 0 < 2 ^ order_at first left 10 = pow_pos (order_at first left 10) in
    rw (size, is) (blocks-enough left (suc left) first left (omega arith) (omega arith)
    ∙ blocks-some left first left (omega arith)
    ∙ ap (λ (bs : List Block). record { first = first; order = order_at first left 10 } ∷ bs)
    (blocks-enough left (left - 2 ^ order_at first left 10) (first + 2 ^ order_at first left 10) (left - 2 ^ order_at first left 10) (omega arith) (omega arith)))

-- what holds of each block of a range, if it does of one at each place of it
blocks-all : (P : Block → Type 0) (end : ℕ) → ((first left : ℕ) → 0 < left → first + left ≤ end → P (record { first = first; order = order_at first left 10 })) → (most first left : ℕ) → first + left ≤ end → All P (blocks_from most first left)
unfolding blocks_from
blocks-all P end each zero first left low = All-nil P
blocks-all P end each (suc most) first left low =
    elim (cases_lt 0 left) [
      | inl some ↦
          let fits : 2 ^ order_at first left 10 ≤ left = order-fits first left 10 some in
          rw (blocks-some most first left (omega arith))
          (All-cons P (record { first = first; order = order_at first left 10 }) (blocks_from most (first + 2 ^ order_at first left 10) (left - 2 ^ order_at first left 10))
          (each first left some low) (blocks-all P end each most (first + 2 ^ order_at first left 10) (left - 2 ^ order_at first left 10) (omega (arith, fits))))
      | inr none ↦ rw (blocks-none (suc most) first left (omega arith)) (All-nil P)
    ]

blocks-ends : (end : ℕ) (range : Pages) → pages_end range ≤ end → All (λ (b : Block). b.first + 2 ^ b.order ≤ end) (blocks_of range)
blocks-ends end range low =
    blocks-all (λ (b : Block). b.first + 2 ^ b.order ≤ end) end
    (λ first left some within. let fits : 2 ^ order_at first left 10 ≤ left = order-fits first left 10 some in omega (arith, fits))
    range.count range.first range.count low

-- ---- the ranges of runs

joined-low : (end : ℕ) (range : Pages) (ranges : List Pages) → pages_end range ≤ end → All (λ (r : Pages). pages_end r ≤ end) ranges → All (λ (r : Pages). pages_end r ≤ end) (joined range ranges)
joined-low end range [] low each = All-cons (λ (r : Pages). pages_end r ≤ end) range [] low each
joined-low end range (next ∷ ranges) low each =
    let after : pages_end next ≤ end = All-head (λ (r : Pages). pages_end r ≤ end) next ranges each in
    let others = All-tail (λ (r : Pages). pages_end r ≤ end) next ranges each in
    elim (cases_Bool (pages_end range == next.first)) [
      | inl near ↦
          let at : pages_end range ≡ next.first = eqb-true (pages_end range) next.first near in
          rw near (All-cons (λ (r : Pages). pages_end r ≤ end) (record { first = range.first; count = range.count + next.count }) ranges (omega (arith, at, after)) others)
      | inr far ↦ rw far (All-cons (λ (r : Pages). pages_end r ≤ end) range (next ∷ ranges) low each)
    ]

all-flat : {X Y : Type 0} (P : Y → Type 0) (f : X → List Y) (xs : List X) → All (λ (x : X). All P (f x)) xs → All P (flat_map f xs)
all-flat P f [] each = All-nil P
all-flat {X = X} P f (x ∷ xs) each = All-append P (f x) (flat_map f xs) (All-head (λ (x : X). All P (f x)) x xs each) (all-flat P f xs (All-tail (λ (x : X). All P (f x)) x xs each))

pub ranges-low : (end : ℕ) (runs : List PageRun) → All (λ (run : PageRun). run_end run ≤ end) runs → All (λ (r : Pages). pages_end r ≤ end) (ram_ranges runs)
ranges-low end [] each = All-nil (λ (r : Pages). pages_end r ≤ end)
ranges-low end (run ∷ runs) each = joined-low end run.pages (ram_ranges runs) (All-head (λ (r : PageRun). run_end r ≤ end) run runs each) (ranges-low end runs (All-tail (λ (r : PageRun). run_end r ≤ end) run runs each))

blocks-each : (P : Block → Type 0) (end : ℕ) (ranges : List Pages) → ((range : Pages) → pages_end range ≤ end → All P (blocks_of range)) → All (λ (r : Pages). pages_end r ≤ end) ranges → All P (flat_map blocks_of ranges)
blocks-each P end ranges each low = all-flat P blocks_of ranges (λ k d lt. each (get_or ranges k d) (low k d lt))

-- each block has an order up to 10, and ends where the ranges may end
pub cut-orders : (end : ℕ) (ranges : List Pages) → All (λ (r : Pages). pages_end r ≤ end) ranges → All (λ (b : Block). b.order ≤ 10) (flat_map blocks_of ranges)
cut-orders end ranges low =
    let P : Block → Type 0 = λ b. b.order ≤ 10 in
    blocks-each P end ranges (λ range within. All-from_recursion P (blocks_of range) (blocks-orders range.count range.first range.count)) low

pub cut-ends : (end : ℕ) (ranges : List Pages) → All (λ (r : Pages). pages_end r ≤ end) ranges → All (λ (b : Block). b.first + 2 ^ b.order ≤ end) (flat_map blocks_of ranges)
cut-ends end ranges low = blocks-each (λ (b : Block). b.first + 2 ^ b.order ≤ end) end ranges (blocks-ends end) low

-- ---- without the pool

between-low : (end from to : ℕ) → to ≤ end → All (λ (r : Pages). pages_end r ≤ end) (pages_between from to)
between-low end from to low =
    elim (cases_Bool (nat_lt from to)) [
      | inl some ↦
          (let less : from < to = grind (arith, nat_tests, some) in
          rw some (All-cons (λ (r : Pages). pages_end r ≤ end) (record { first = from; count = to - from }) [] (omega (arith, less, low)) (All-nil (λ (r : Pages). pages_end r ≤ end))))
      | inr none ↦ rw none (All-nil (λ (r : Pages). pages_end r ≤ end))
    ]

without-low : (end : ℕ) (pool : Option Pages) (range : Pages) → pages_end range ≤ end → All (λ (r : Pages). pages_end r ≤ end) (without_pool pool range)
without-low end None range low = All-cons (λ (r : Pages). pages_end r ≤ end) range [] low (All-nil (λ (r : Pages). pages_end r ≤ end))
without-low end (Some pool) range low =
    elim (cases_Bool (nat_le range.first pool.first && nat_le (pages_end pool) (pages_end range))) [
      | inl holds ↦
          (let high : pages_end pool ≤ pages_end range = grind (arith, nat_tests, holds) in
          rw holds (All-append (λ (r : Pages). pages_end r ≤ end) (pages_between range.first pool.first) (pages_between (pages_end pool) (pages_end range))
          (between-low end range.first pool.first (omega (arith, high, low))) (between-low end (pages_end pool) (pages_end range) low)))
      | inr apart ↦ rw apart (All-cons (λ (r : Pages). pages_end r ≤ end) range [] low (All-nil (λ (r : Pages). pages_end r ≤ end)))
    ]

-- what is left of ranges ends where they may end
pub outside-low : (end : ℕ) (pool : Option Pages) (ranges : List Pages) → All (λ (r : Pages). pages_end r ≤ end) ranges → All (λ (r : Pages). pages_end r ≤ end) (flat_map (without_pool pool) ranges)
outside-low end pool ranges low = all-flat (λ (r : Pages). pages_end r ≤ end) (without_pool pool) ranges (λ k d lt. without-low end pool (get_or ranges k d) (low k d lt))

-- a list that holds a match isn't searched in vain
found-at : (test : PageRun → Bool) (runs : List PageRun) (k : ℕ) (d : PageRun) → k < length runs → test (get_or runs k d) ≡ true → find test runs ≢ None
found-at test [] k d within passes = absurd (omega arith)
found-at test (run ∷ runs) zero d within passes = λ none. let some : find test (run ∷ runs) ≡ Some run = rw passes refl in cc
found-at test (run ∷ runs) (suc k) d within passes =
    elim (cases_Bool (test run)) [
      | inl here ↦ λ none. let some : find test (run ∷ runs) ≡ Some run = rw here refl in cc
      | inr other ↦ λ none. found-at test runs k d (omega arith) passes (rw other at none)
    ]

some-state : (found : Option PageRun) → found ≢ None → option_map (λ (run : PageRun). run.state) found ≢ None
some-state None some = absurd (some refl)
some-state (Some run) some = λ none. cc

holds-last : (run : PageRun) → 0 < run.pages.count → run_holds (run_end run - 1) run ≡ true
holds-last run some = grind (arith, nat_tests)

-- maximal runs of pages below an end lie below it
pub runs-low : (end : ℕ) (states : ℕ → Option PageState) (runs : List PageRun) → AreMaximalRuns states runs → ((page : ℕ) → states page ≢ None → page < end) → All (λ (run : PageRun). run_end run ≤ end) runs
runs-low end states runs are low k d within =
    let run : PageRun = get_or runs k d in
    let some : 0 < run.pages.count = are.some k d within in
    let page : ℕ = run_end run - 1 in
    let held : find (run_holds page) runs ≢ None = found-at (run_holds page) runs k d within (holds-last run some) in
    let below : page < end = low page (λ none. some-state (find (run_holds page) runs) held (are.each page ∙ none)) in
    omega (arith, below, some)
