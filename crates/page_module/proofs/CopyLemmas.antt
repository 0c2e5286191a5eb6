-- Lemmas on what a span gets of runs.
use Rattle.std.proofs.Common.{◌≡◌, ◌≢◌, ℕ, zero, suc, ◌+◌, ◌-◌, ◌<◌, ◌≤◌, ◌⊎◌, List, [], ◌∷◌, ◌++◌, Option, None, Some, Bool, true, false, length, max, min, ◌==◌, if◌then◌else◌, arith, refl, sym, ap, ◌∙◌, inl, inr}
use Rattle.std.specs.Option.{option_or}
use Rattle.std.specs.List.{flat_map}
use Rattle.std.proofs.lemmas.Bool.{cases_lt, cases_Bool, lt-ltb, le-ltb}
use Rattle.std.proofs.lemmas.Bool.Decides.{nat_tests}
use Rattle.guest_base.specs.Ranges.{in_range}
use Rattle.guest_base.specs.Search.{count_such}
use Rattle.guest_base.specs.declared.memory.Pages.{Pages}
use Rattle.guest_base.specs.declared.memory.PageRun.{PageRun}
use Rattle.guest_base.specs.declared.memory.PageState.{PageState}
use Rattle.guest_base.specs.declared.memory.PageState.TheVariants.{Accepted}
use Rattle.event_core.specs.Runs.{state_in}
use Rattle.page_module.specs.Spans.{runs_now, RunsFrom}
use Rattle.page_module.specs.Tables.{Rising, Differing, begins_run, run_count, same_or_none, same_state}
use Rattle.page_module.specs.Building.{common}
use Rattle.event_core.specs.Runs.{run_end}
use Rattle.page_module.specs.declared.span.TakenRun.{TakenRun}
use Rattle.guest_base.proofs.RangeLemmas.{in_range-intro, in_range-below, in_range-past}
use Rattle.page_module.proofs.RangeCases.{where_is, below, within, past}
use Rattle.page_module.proofs.JoinLemmas.{state_in-append, same_state-true}
use Rattle.page_module.proofs.CutLemmas.{rising-below}

-- the common pages of a run, where there are any
common-some : (pages : Pages) (x : PageRun) → max x.pages.first pages.first < min (run_end x) (pages.first + pages.count) →
    common pages x ≡ record {
      run = record {
        pages = record { first = max x.pages.first pages.first; count = min (run_end x) (pages.first + pages.count) - max x.pages.first pages.first };
        state = x.state;
      };
      accepted = 0;
    } ∷ []
common-some pages x l = rw (lt-ltb (max x.pages.first pages.first) (min (run_end x) (pages.first + pages.count)) l) refl

common-none : (pages : Pages) (x : PageRun) → min (run_end x) (pages.first + pages.count) ≤ max x.pages.first pages.first → common pages x ≡ []
common-none pages x l = rw (le-ltb (max x.pages.first pages.first) (min (run_end x) (pages.first + pages.count)) l) refl

-- what a span gets follows one another without a gap, where every page is there
pub copies-follow : (pages : Pages) (at from : ℕ) (xs : List PageRun) → Rising from xs → pages.first ≤ at → at ≤ pages.first + pages.count →
    at ≤ max pages.first from → ((page : ℕ) → at ≤ page → page < pages.first + pages.count → state_in xs page ≢ None) →
    RunsFrom at (pages.first + pages.count) (flat_map (common pages) xs)
copies-follow pages at from [] h a b c here = elim (cases_lt at (pages.first + pages.count)) [ inl l ↦ absurd (here at (omega arith) l refl) | inr l ↦ omega arith ]
copies-follow pages at from (x ∷ xs) h a b c here =
    let h0 = h.0 in
    let h1 = h.1 in
    let first : ℕ = max x.pages.first pages.first in
    let end : ℕ = min (run_end x) (pages.first + pages.count) in
    let behind : (page : ℕ) → run_end x ≤ page → state_in (x ∷ xs) page ≡ state_in xs page =
    λ page l. rw (in_range-past x.pages.first x.pages.count page l) refl in
    elim (cases_lt first end) [
      | inl l ↦
          let same : first ≡ at = elim (cases_lt at first) [
            | inl m ↦ absurd (here at (omega arith) (omega arith) (rw (in_range-below x.pages.first x.pages.count at (omega arith)) (rising-below (run_end x) at xs h.3 (omega arith))))
            | inr m ↦ omega arith
          ] in
          let on : at + (end - first) ≡ end = omega arith in
          rw (common-some pages x l) (
            same,
            omega arith,
            omega arith,
            rw on
                (copies-follow pages end (run_end x) xs h.3 (omega arith) (omega arith) (omega arith)
                (λ page m n. rw (sym (behind page (omega arith))) (here page (omega arith) n))),
          )
      | inr l ↦
          rw (common-none pages x l)
          (copies-follow pages at (run_end x) xs h.3 a b (omega arith)
          (λ page m n. let o : run_end x ≤ page = elim (where_is x.pages.first x.pages.count page) [
            | below u ↦ absurd (here page m n (rw (in_range-below x.pages.first x.pages.count page u) (rising-below (run_end x) page xs h.3 (omega arith))))
            | within u v ↦ absurd (omega arith)
            | past u ↦ u
          ] in rw (sym (behind page o)) (here page m n)))
    ]

-- the states of what a span gets

pub runs_now-append : (xs ys : List TakenRun) → runs_now (xs ++ ys) ≡ runs_now xs ++ runs_now ys
runs_now-append [] ys = refl
runs_now-append (x ∷ xs) ys =
    ap (λ (l : List PageRun). record { pages = record { first = x.run.pages.first; count = x.accepted }; state = Accepted } ∷ (x.run ∷ l)) (runs_now-append xs ys)

empty-range : (first page : ℕ) → in_range first 0 page ≡ false
empty-range first page = elim (cases_lt page first) [ inl l ↦ in_range-below first 0 page l | inr l ↦ in_range-past first 0 page (omega arith) ]

common-states : (pages : Pages) (x : PageRun) (page : ℕ) →
    state_in (runs_now (common pages x)) page ≡ (if in_range pages.first pages.count page then state_in (x ∷ []) page else None)
common-states pages x page =
    let first : ℕ = max x.pages.first pages.first in
    let end : ℕ = min (run_end x) (pages.first + pages.count) in
    elim (cases_lt first end) [
      | inl l ↦ rw (common-some pages x l, empty-range first page)
          (elim (where_is pages.first pages.count page) [
            | below u ↦ rw (in_range-below pages.first pages.count page u, in_range-below first (end - first) page (omega arith)) refl
            | within u v ↦ rw (in_range-intro pages.first pages.count page u v)
                (elim (where_is x.pages.first x.pages.count page) [
                  | below w ↦ rw (in_range-below x.pages.first x.pages.count page w, in_range-below first (end - first) page (omega arith)) refl
                  | within w z ↦ rw (in_range-intro x.pages.first x.pages.count page w z, in_range-intro first (end - first) page (omega arith) (omega arith)) refl
                  | past w ↦ rw (in_range-past x.pages.first x.pages.count page w, in_range-past first (end - first) page (omega arith)) refl
                ])
            | past u ↦ rw (in_range-past pages.first pages.count page u, in_range-past first (end - first) page (omega arith)) refl
          ])
      | inr l ↦ rw (common-none pages x l)
          (elim (where_is pages.first pages.count page) [
            | below u ↦ rw (in_range-below pages.first pages.count page u) refl
            | within u v ↦ rw (in_range-intro pages.first pages.count page u v)
                (elim (where_is x.pages.first x.pages.count page) [
                  | below w ↦ rw (in_range-below x.pages.first x.pages.count page w) refl
                  | within w z ↦ absurd (omega arith)
                  | past w ↦ rw (in_range-past x.pages.first x.pages.count page w) refl
                ])
            | past u ↦ rw (in_range-past pages.first pages.count page u) refl
          ])
    ]

pub copies-states : (pages : Pages) (xs : List PageRun) (page : ℕ) →
    state_in (runs_now (flat_map (common pages) xs)) page ≡ (if in_range pages.first pages.count page then state_in xs page else None)
copies-states pages [] page =
    let none : Option PageState = None in
    elim (in_range pages.first pages.count page) as (λ b. none ≡ (if b then none else none)) [ true ↦ refl | false ↦ refl ]
copies-states pages (x ∷ xs) page =
    rw (
      runs_now-append (common pages x) (flat_map (common pages) xs),
      state_in-append (runs_now (common pages x)) (runs_now (flat_map (common pages) xs)) page,
      common-states pages x page,
      copies-states pages xs page,
    )
    (elim (in_range pages.first pages.count page) as
    (λ b. let none : Option PageState = None in option_or (if b then state_in (x ∷ []) page else none) (if b then state_in xs page else none) ≡ (if b then state_in (x ∷ xs) page else none))
    [ true ↦ sym (state_in-append (x ∷ []) xs page) | false ↦ refl ])

-- how many runs a span gets

-- a later start counts no more
count-step : (test : ℕ → Bool) (from count : ℕ) → count_such test (from + 1) count ≤ count_such test from (suc count)
unfolding count_such
count-step test from count =
    elim (test from) as (λ b. count_such test (from + 1) count ≤
    (elim b as (λ _. ℕ) [ true ↦ 1 + count_such test (from + 1) count | false ↦ count_such test (from + 1) count ]))
    [ true ↦ omega arith | false ↦ omega arith ]

count-one : (test : ℕ → Bool) (from count : ℕ) → test from ≡ true → count_such test from (suc count) ≡ 1 + count_such test (from + 1) count
unfolding count_such
count-one test from count e =
    elim (test from) as (λ b. b ≡ true →
    (elim b as (λ _. ℕ) [ true ↦ 1 + count_such test (from + 1) count | false ↦ count_such test (from + 1) count ]) ≡ 1 + count_such test (from + 1) count)
    [ true ↦ λ _. refl | false ↦ λ z. cc ] e

count-later : (test : ℕ → Bool) (from by count : ℕ) → count_such test (from + by) count ≤ count_such test from (by + count)
count-later test from zero count = let a : from + 0 ≡ from = omega arith in let b : 0 + count ≡ count = omega arith in rw (a, b) (omega arith)
count-later test from (suc by) count =
    let a : from + suc by ≡ (from + 1) + by = omega arith in
    let b : suc by + count ≡ suc (by + count) = omega arith in
    let more = count-later test (from + 1) by count in
    let step = count-step test from (by + count) in
    rw (a, b) (omega arith)

-- a page that passes counts, and the pages from a later one on
count-from : (test : ℕ → Bool) (from next end : ℕ) → test from ≡ true → from < next → next ≤ end →
    1 + count_such test next (end - next) ≤ count_such test from (end - from)
count-from test from next end e l m =
    let a : (from + 1) + (next - (from + 1)) ≡ next = omega arith in
    let b : end - from ≡ suc ((next - (from + 1)) + (end - next)) = omega arith in
    let later = count-later test (from + 1) (next - (from + 1)) (end - next) in
    rw (b, count-one test from ((next - (from + 1)) + (end - next)) e) (let z = rw a at later in omega arith)

differs : (a b : Option PageState) (state : PageState) → a ≡ Some state → b ≢ Some state → same_or_none a b ≡ false
differs None b state e n = cc
differs (Some x) None state e n = refl
differs (Some x) (Some y) state e n =
    elim (cases_Bool (same_state x y)) [
      | inl t ↦ absurd (n (ap (λ (z : PageState). Some z) (sym (same_state-true x y t)) ∙ e))
      | inr f ↦ f
    ]

-- the first run begins at a page with a state
abbrev pub HeadAt : ℕ → PageState → List PageRun → Type 0
HeadAt at state [] = ⊥
HeadAt at state (x ∷ xs) = (x.pages.first ≡ at) × (x.state ≡ state)

head-differs : (x : PageRun) (xs : List PageRun) (at : ℕ) (state : PageState) → Differing (x ∷ xs) → HeadAt at state xs → run_end x ≡ at → x.state ≢ state
head-differs x [] at state d h e = absurd h
head-differs x (y ∷ ys) at state d h e = let a = h.0 in rw (sym h.1) (d.0 (omega arith))

head-behind : (from at : ℕ) (state : PageState) (xs : List PageRun) → Rising from xs → HeadAt at state xs → from ≤ at
head-behind from at state [] h k = absurd k
head-behind from at state (x ∷ xs) h k = let a = h.0 in let b = k.0 in omega arith

tail-differs : (x : PageRun) (xs : List PageRun) → Differing (x ∷ xs) → Differing xs
tail-differs x [] d = tt
tail-differs x (y ∷ ys) d = d.1

-- what may be known of the page before the next one
abbrev pub Fresh : Pages → (ℕ → Option PageState) → ℕ → List PageRun → Type 0
Fresh pages meant at xs = (at ≡ pages.first) ⊎ ((state : PageState) → HeadAt at state xs → meant (at - 1) ≢ Some state)

begins : (pages : Pages) (meant : ℕ → Option PageState) (at : ℕ) (x : PageRun) (xs : List PageRun) → Fresh pages meant at (x ∷ xs) →
    max x.pages.first pages.first ≡ at → meant at ≡ Some x.state → begins_run meant pages.first at ≡ true
begins pages meant at x xs f m e =
    elim (cases_lt pages.first at) [
      | inl l ↦ elim f [
        | inl s ↦ absurd (omega arith)
        | inr n ↦
            let d = differs (meant at) (meant (at - 1)) x.state e (n x.state (omega arith, refl)) in
            let z : (at == pages.first) ≡ false = grind (arith, nat_tests) in
            rw (z, d) refl
      ]
      | inr l ↦ let s : (at == pages.first) ≡ true = (let q : at ≡ pages.first = omega arith in grind (arith, nat_tests)) in rw s refl
    ]

-- the run that comes next begins at the next page
next-first : (pages : Pages) (at : ℕ) (x : PageRun) (xs : List PageRun) → Rising (run_end x) xs → pages.first ≤ at →
    at ≤ max x.pages.first pages.first → max x.pages.first pages.first < pages.first + pages.count → state_in (x ∷ xs) at ≢ None →
    max x.pages.first pages.first ≡ at
next-first pages at x xs h a b c here =
    elim (cases_lt at (max x.pages.first pages.first)) [
      | inl m ↦ absurd (here (rw (in_range-below x.pages.first x.pages.count at (omega arith)) (rising-below (run_end x) at xs h (omega arith))))
      | inr m ↦ omega arith
    ]

pub copies-length : (pages : Pages) (meant : ℕ → Option PageState) (at from : ℕ) (xs : List PageRun) → Rising from xs → Differing xs →
    pages.first ≤ at → at ≤ pages.first + pages.count → at ≤ max pages.first from →
    ((page : ℕ) → at ≤ page → page < pages.first + pages.count → state_in xs page ≢ None) →
    ((page : ℕ) → at ≤ page → page < pages.first + pages.count → meant page ≡ state_in xs page) →
    Fresh pages meant at xs →
    length (flat_map (common pages) xs) ≤ count_such (begins_run meant pages.first) at (pages.first + pages.count - at)
copies-length pages meant at from [] h d a b c here same f = omega arith
copies-length pages meant at from (x ∷ xs) h d a b c here same f =
    let h0 = h.0 in
    let h1 = h.1 in
    let first : ℕ = max x.pages.first pages.first in
    let end : ℕ = min (run_end x) (pages.first + pages.count) in
    let behind : (page : ℕ) → run_end x ≤ page → state_in (x ∷ xs) page ≡ state_in xs page =
    λ page l. rw (in_range-past x.pages.first x.pages.count page l) refl in
    let inside : (page : ℕ) → x.pages.first ≤ page → page < run_end x → state_in (x ∷ xs) page ≡ Some x.state =
    λ page l m. rw (in_range-intro x.pages.first x.pages.count page l m) refl in
    elim (cases_lt first end) [
      | inl l ↦
          let e = next-first pages at x xs h.3 a (omega arith) (omega arith) (here at (omega arith) (omega arith)) in
          let start = begins pages meant at x xs f e (same at (omega arith) (omega arith) ∙ inside at (omega arith) (omega arith)) in
          let counted = count-from (begins_run meant pages.first) at end (pages.first + pages.count) start (omega arith) (omega arith) in
          let rest = copies-length pages meant end (run_end x) xs h.3 (tail-differs x xs d) (omega arith) (omega arith) (omega arith)
          (λ page m n. rw (sym (behind page (omega arith))) (here page (omega arith) n))
          (λ page m n. same page (omega arith) n ∙ behind page (omega arith))
          (inr (λ state k.
          let on = head-behind (run_end x) end state xs h.3 k in
          let last : ℕ = end - 1 in
          let was = same last (omega arith) (omega arith) ∙ inside last (omega arith) (omega arith) in
          λ q. head-differs x xs end state d k (omega arith) (some-same (sym was ∙ q)))) in
          rw (common-some pages x l) (omega arith)
      | inr l ↦
          rw (common-none pages x l)
          (copies-length pages meant at (run_end x) xs h.3 (tail-differs x xs d) a b (omega arith)
          (λ page m n. rw (sym (behind page (past-it page m n l))) (here page m n))
          (λ page m n. same page m n ∙ behind page (past-it page m n l))
          (elim (cases_lt pages.first at) [
            | inl m ↦ inr (λ state k. absurd (let on = head-behind (run_end x) at state xs h.3 k in omega arith))
            | inr m ↦ inl (omega arith)
          ]))
    ]
  where
    some-same : {p q : PageState} → Some p ≡ Some q → p ≡ q
    some-same e = cc

    past-it : (page : ℕ) → at ≤ page → page < pages.first + pages.count →
        min (run_end x) (pages.first + pages.count) ≤ max x.pages.first pages.first → run_end x ≤ page
    past-it page m n l = elim (where_is x.pages.first x.pages.count page) [
      | below u ↦ absurd (here page m n (rw (in_range-below x.pages.first x.pages.count page u) (rising-below (run_end x) page xs h.3 (omega arith))))
      | within u v ↦ absurd (omega arith)
      | past u ↦ u
    ]

count-few : (test : ℕ → Bool) (from count : ℕ) → count_such test from count ≤ count
unfolding count_such
count-few test from zero = omega arith
count-few test from (suc count) =
    let h = count-few test (from + 1) count in
    elim (test from) as (λ b.
    (elim b as (λ _. ℕ) [ true ↦ 1 + count_such test (from + 1) count | false ↦ count_such test (from + 1) count ]) ≤ suc count)
    [ true ↦ omega arith | false ↦ omega arith ]

-- what callers may use: pages have at most a run of one state each
pub run_count-few : (meant : ℕ → Option PageState) (pages : Pages) → run_count meant pages ≤ pages.count
run_count-few meant pages = count-few (begins_run meant pages.first) pages.first pages.count
