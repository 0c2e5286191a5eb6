-- The descriptors of RAM as runs: they are apart, and say the first state of each page.
use Rattle.std.proofs.Common.{◌≡◌, ℕ, suc, ◌+◌, ◌*◌, ◌/◌, ◌%◌, ◌^◌, ◌<◌, ◌≤◌, Bool, true, false, cond, List, [], ◌∷◌, length, get_or, take, drop, map, filter, sum_by, Option, Some, None, Result, Ok, Err, refl, ap, ◌∙◌, arith, inl, inr, IsPermutation}
use Rattle.std.specs.Prelude.{◌||◌, ◌&&◌, IfOk}
use Rattle.std.specs.List.{All, AllPairs, count_by, list_any}
use Rattle.std.specs.List.Sorted.{IsNonDecreasingBy}
use Rattle.std.proofs.lemmas.Bool.{cases_Bool, cases_lt}
use Rattle.std.proofs.lemmas.Bool.Decides.{nat_tests}
use Rattle.std.proofs.lemmas.List.{get_or-drop, get_or-take, length-drop, length-take}
use Rattle.std.proofs.lemmas.List.Elements.{All-head, All-tail, All-map, All-filter, filter_passes}
use Rattle.std.proofs.lemmas.List.Kept.{AllPairs-cons, AllPairs-filter}
use Rattle.std.proofs.lemmas.List.Sums.{sum_by-cons, sum_by-le, sum_by-take-drop, get_or-le-sum_by}
use Rattle.std.proofs.lemmas.List.Sorted.{sum_by-IsPermutation, list_any-IsPermutation, All-permutation}
use Rattle.std.proofs.lemmas.List.Folds.{list_any_none}
use Rattle.guest_base.specs.Ranges.{in_range}
use Rattle.guest_base.specs.declared.memory.PageState.{PageState}
use Rattle.guest_base.specs.declared.memory.PageState.TheVariants.{Pending, Accepted, Shared}
use Rattle.guest_base.specs.declared.memory.PageRun.{PageRun}
use Rattle.guest_base.specs.declared.memory.HostRun.{HostRun}
use Rattle.event_core.specs.declared.boot.Descriptor.{Descriptor}
use Rattle.event_core.specs.Map.{is_ram, is_unaccepted, holds_page, first_state, descriptor_end, IsDescriptor, AreApart, MapRules}
use Rattle.event_core.specs.Runs.{run_holds, run_end, state_in, AreMaximalRuns}
use Rattle.guest_map.specs.Ram.{run_of, ram_of, EndsBefore, AreOrdered}

AllPairs-tail : {X : Type 0} (R : X → X → Type 0) (x : X) (xs : List X) → AllPairs R (x ∷ xs) → AllPairs R xs
AllPairs-tail R x xs pairs i j d lt up = pairs (suc i) (suc j) d (omega arith) (omega arith)

AllPairs-head : {X : Type 0} (R : X → X → Type 0) (x : X) (xs : List X) → AllPairs R (x ∷ xs) → All (R x) xs
AllPairs-head R x xs pairs k d up = pairs 0 (suc k) d (omega arith) (omega arith)

-- ---- runs apart

abbrev RunsApart : PageRun → PageRun → Type 0
RunsApart a b = (page : ℕ) → run_holds page a ≡ true → run_holds page b ≡ true → ⊥

-- the first byte of a page of a descriptor is one of its bytes
byte_in : (start pages page : ℕ) → start % 4096 ≡ 0 → in_range (start / 4096) pages page ≡ true → in_range start (4096 * pages) (4096 * page) ≡ true
byte_in start pages page aligned held = grind (arith, nat_tests)

runs_apart_of : (a b : Descriptor) → IsDescriptor a → IsDescriptor b → AreApart a b → RunsApart (run_of a) (run_of b)
runs_apart_of a b is-a is-b apart page in-a in-b = apart (4096 * page) (byte_in a.start a.pages page is-a.aligned in-a) (byte_in b.start b.pages page is-b.aligned in-b)

runs_apart : (ds : List Descriptor) → All IsDescriptor ds → AllPairs AreApart ds → AllPairs RunsApart (map run_of ds)
runs_apart [] each apart = λ i j d lt up. absurd (omega (arith, up))
runs_apart (d ∷ ds) each apart =
    let heads : All (AreApart d) ds = AllPairs-head AreApart d ds apart in
    let others : All IsDescriptor ds = All-tail IsDescriptor d ds each in
    AllPairs-cons RunsApart (run_of d) (map run_of ds)
    (All-map (RunsApart (run_of d)) run_of ds (λ k x lt. runs_apart_of d (get_or ds k x) (All-head IsDescriptor d ds each) (others k x lt) (heads k x lt)))
    (runs_apart ds others (AllPairs-tail AreApart d ds apart))

-- a page is in one run at most
none_more : (page : ℕ) (run : PageRun) → (run_holds page run ≡ true → ⊥) → cond (run_holds page run) 1 0 ≤ 0
none_more page run apart = elim (cases_Bool (run_holds page run)) [ inl here ↦ absurd (apart here) | inr other ↦ rw other (omega arith) ]

held_once : (runs : List PageRun) (page : ℕ) → AllPairs RunsApart runs → count_by (run_holds page) runs ≤ 1
held_once [] page apart = omega arith
held_once (r ∷ rs) page apart =
    let heads : All (RunsApart r) rs = AllPairs-head RunsApart r rs apart in
    elim (cases_Bool (run_holds page r)) [
      | inl here ↦
          let none : All (λ (x : PageRun). cond (run_holds page x) 1 0 ≤ 0) rs = λ k d lt. none_more page (get_or rs k d) (heads k d lt page here) in
          let few = sum_by-le (λ (x : PageRun). cond (run_holds page x) 1 0) 0 rs none in
          rw (sum_by-cons (λ (x : PageRun). cond (run_holds page x) 1 0) r rs, here) (omega (arith, few))
      | inr other ↦ rw (sum_by-cons (λ (x : PageRun). cond (run_holds page x) 1 0) r rs, other) (omega (arith, held_once rs page (AllPairs-tail RunsApart r rs apart)))
    ]

-- two that hold a page count as two
held_twice : (runs : List PageRun) (page i j : ℕ) (d : PageRun) → i < j → j < length runs → run_holds page (get_or runs i d) ≡ true → run_holds page (get_or runs j d) ≡ true → 2 ≤ count_by (run_holds page) runs
held_twice runs page i j d lt up in-i in-j =
    let f : PageRun → ℕ = λ (x : PageRun). cond (run_holds page x) 1 0 in
    let parts = sum_by-take-drop f runs j in
    let front : 1 ≤ sum_by f (take j runs) = rw (get_or-take j runs i d lt, in-i) at (get_or-le-sum_by f (take j runs) i d (omega (arith, length-take j runs))) in
    let there : get_or (drop j runs) 0 d ≡ get_or runs j d = get_or-drop j runs 0 d ∙ ap (λ (k : ℕ). get_or runs k d) (omega arith) in
    let back : 1 ≤ sum_by f (drop j runs) = rw (there, in-j) at (get_or-le-sum_by f (drop j runs) 0 d (omega (arith, length-drop j runs))) in
    omega (arith, parts, front, back)

starts_in : (first count : ℕ) → 0 < count → in_range first count first ≡ true
starts_in first count some = grind (arith, nat_tests)

lies_in : (first count page : ℕ) → first ≤ page → page < first + count → in_range first count page ≡ true
lies_in first count page from below = grind (arith, nat_tests)

pub rising : (runs sorted : List PageRun) → AllPairs RunsApart runs → All (λ (run : PageRun). 0 < run.pages.count) sorted → IsPermutation runs sorted → IsNonDecreasingBy (λ (run : PageRun). run.pages.first) sorted → AllPairs EndsBefore sorted
rising runs sorted apart some same rise i j d lt up =
    let a : PageRun = get_or sorted i d in
    let b : PageRun = get_or sorted j d in
    let from : a.pages.first ≤ b.pages.first = rise i j d (omega arith) up in
    let page : ℕ = b.pages.first in
    elim (cases_lt page (run_end a)) [
      | inl overlap ↦
          let twice = held_twice sorted page i j d lt up (lies_in a.pages.first a.pages.count page from overlap) (starts_in page b.pages.count (some j d up)) in
          let once = held_once runs page apart in
          let total = sum_by-IsPermutation (λ (x : PageRun). cond (run_holds page x) 1 0) runs sorted same in
          absurd (omega (arith, twice, once, total))
      | inr behind ↦ behind
    ]

ends_below : (d : Descriptor) → IsDescriptor d → is_ram d ≡ true → run_end (run_of d) ≤ 2 ^ 28
ends_below d is ram =
    let end : descriptor_end d ≤ 2 ^ 40 = rw ram at is.below in
    omega (arith, end)

-- what sorting makes of the RAM of a map
pub ordered : (ds : List Descriptor) (hosts : List HostRun) (sorted : List PageRun) → MapRules ds hosts → IsPermutation (ram_of ds) sorted → IsNonDecreasingBy (λ (run : PageRun). run.pages.first) sorted → AreOrdered sorted
ordered ds hosts sorted rules same rise =
    let each : All IsDescriptor (filter is_ram ds) = All-filter is_ram IsDescriptor ds rules.each in
    let ram : All (λ d. is_ram d ≡ true) (filter is_ram ds) = filter_passes is_ram ds in
    let apart = runs_apart (filter is_ram ds) each (AllPairs-filter AreApart is_ram ds rules.apart) in
    let some = All-permutation (λ (run : PageRun). 0 < run.pages.count) (ram_of ds) sorted same (All-map (λ (run : PageRun). 0 < run.pages.count) run_of (filter is_ram ds) (λ k d lt. (each k d lt).some)) in
    let below = All-permutation (λ (run : PageRun). run_end run ≤ 2 ^ 28) (ram_of ds) sorted same (All-map (λ (run : PageRun). run_end run ≤ 2 ^ 28) run_of (filter is_ram ds) (λ k d lt. ends_below (get_or (filter is_ram ds) k d) (each k d lt) (ram k d lt))) in
    record { some = some; below = below; rise = rising (ram_of ds) sorted apart some same rise }

-- ---- the states that they say

abbrev is_pending : PageState → Bool
is_pending Pending = true
is_pending Accepted = false
is_pending Shared = false

-- a state that a map alone can give
abbrev IsFirst : PageState → Type 0
IsFirst Pending = Unit {0}
IsFirst Accepted = Unit {0}
IsFirst Shared = ⊥

first_of_run : (b : Bool) → IsFirst (cond b Pending Accepted)
first_of_run true = tt
first_of_run false = tt

not_later : (r x : PageRun) (page : ℕ) → run_holds page r ≡ true → EndsBefore r x → run_holds page x ≡ false
not_later r x page here before = grind (arith, nat_tests)

-- the first states: Pending where a pending run holds the page, else Accepted where a run does
abbrev by_any : List PageRun → ℕ → Option PageState
by_any runs page =
    cond (list_any (λ (run : PageRun). is_pending run.state && run_holds page run) runs) (Some Pending)
    (cond (list_any (run_holds page) runs) (Some Accepted) None)

held : (s : PageState) (p o : Bool) → IsFirst s → p ≡ false → Some s ≡ cond ((is_pending s && true) || p) (Some Pending) (cond (true || o) (Some Accepted) None)
held Pending p o is e = refl
held Accepted p o is e = rw e refl
held Shared p o is e = absurd is

and_no : (a b : Bool) → b ≡ false → (a && b) ≡ false
and_no true b e = e
and_no false b e = refl

state_is_any : (runs : List PageRun) → AllPairs EndsBefore runs → All (λ (run : PageRun). IsFirst run.state) runs → (page : ℕ) → state_in runs page ≡ by_any runs page
state_is_any [] rise each page = refl
state_is_any (r ∷ rs) rise each page =
    elim (cases_Bool (run_holds page r)) [
      | inl here ↦
          let later : All (λ (x : PageRun). run_holds page x ≡ false) rs = λ k d lt. not_later r (get_or rs k d) page here (rise 0 (suc k) d (omega arith) (omega arith)) in
          let none = list_any_none (λ (run : PageRun). is_pending run.state && run_holds page run) rs (λ k d lt. and_no (is_pending (get_or rs k d).state) (run_holds page (get_or rs k d)) (later k d lt)) in
          rw here (held r.state (list_any (λ (run : PageRun). is_pending run.state && run_holds page run) rs) (list_any (run_holds page) rs) (each 0 r (omega arith)) none)
      | inr other ↦
          rw (other, and_no (is_pending r.state) false refl) (state_is_any rs (AllPairs-tail EndsBefore r rs rise) (All-tail (λ (run : PageRun). IsFirst run.state) r rs each) page)
    ]

any_of_ram : (test : PageRun → Bool) (ds : List Descriptor) → list_any test (ram_of ds) ≡ list_any (λ (d : Descriptor). is_ram d && test (run_of d)) ds
any_of_ram test [] = refl
any_of_ram test (d ∷ ds) =
    elim (cases_Bool (is_ram d)) [
      | inl ram ↦ rw ram (ap (λ (b : Bool). test (run_of d) || b) (any_of_ram test ds))
      | inr other ↦ rw other (any_of_ram test ds)
    ]

any_alike : {X : Type 0} (p q : X → Bool) → ((x : X) → p x ≡ q x) → (xs : List X) → list_any p xs ≡ list_any q xs
any_alike p q same [] = refl
any_alike p q same (x ∷ xs) = rw (same x, any_alike p q same xs) refl

pending_first : (b ram held : Bool) → (b ≡ true → ram ≡ true) → (ram && (is_pending (cond b Pending Accepted) && held)) ≡ (b && held)
pending_first true ram held e = rw (e refl) refl
pending_first false true held e = refl
pending_first false false held e = refl

unaccepted_is_ram : (d : Descriptor) → is_unaccepted d ≡ true → is_ram d ≡ true
unaccepted_is_ram d e = grind (arith, nat_tests)

first_is_any : (ds : List Descriptor) (page : ℕ) → by_any (ram_of ds) page ≡ first_state ds page
first_is_any ds page =
    let pending = any_of_ram (λ (run : PageRun). is_pending run.state && run_holds page run) ds ∙ any_alike (λ (d : Descriptor). is_ram d && (is_pending (run_of d).state && run_holds page (run_of d))) (λ (d : Descriptor). is_unaccepted d && holds_page page d) (λ d. pending_first (is_unaccepted d) (is_ram d) (holds_page page d) (unaccepted_is_ram d)) ds in
    let others = any_of_ram (run_holds page) ds in
    rw (pending, others) refl

any_same : (runs sorted : List PageRun) (page : ℕ) → IsPermutation runs sorted → by_any sorted page ≡ by_any runs page
any_same runs sorted page same =
    rw (list_any-IsPermutation (λ (run : PageRun). is_pending run.state && run_holds page run) runs sorted same, list_any-IsPermutation (run_holds page) runs sorted same) refl

-- sorted runs of RAM say the first states
pub says_first : (ds : List Descriptor) (sorted : List PageRun) → AreOrdered sorted → IsPermutation (ram_of ds) sorted → (page : ℕ) → state_in sorted page ≡ first_state ds page
says_first ds sorted are same page =
    let each = All-permutation (λ (run : PageRun). IsFirst run.state) (ram_of ds) sorted same (All-map (λ (run : PageRun). IsFirst run.state) run_of (filter is_ram ds) (λ k d lt. first_of_run (is_unaccepted (get_or (filter is_ram ds) k d)))) in
    state_is_any sorted are.rise each page ∙ any_same (ram_of ds) sorted page same ∙ first_is_any ds page

pub maximal : {E : Type 0} (ds : List Descriptor) (sorted : List PageRun) (r : Result (List PageRun) E) → AreOrdered sorted → IsPermutation (ram_of ds) sorted → IfOk r (λ runs. AreMaximalRuns (state_in sorted) runs) → IfOk r (λ runs. AreMaximalRuns (first_state ds) runs)
maximal ds sorted (Ok runs) are same is = record { each = λ page. is.each page ∙ says_first ds sorted are same page; some = is.some; rise = is.rise }
maximal ds sorted (Err e) are same is = tt
