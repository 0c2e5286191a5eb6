-- Lemmas on runs of which some pages are cut out.
use Rattle.std.proofs.Common.{◌≡◌, ℕ, ◌+◌, ◌-◌, ◌^◌, ◌<◌, ◌≤◌, List, [], ◌∷◌, ◌++◌, Option, None, Some, true, false, length, max, min, if◌then◌else◌, arith, refl, sym, ap, ◌∙◌, inl, inr, length-append}
use Rattle.std.specs.Option.{option_or}
use Rattle.std.specs.List.{flat_map}
use Rattle.std.proofs.lemmas.Bool.{cases_Bool, cases_lt, lt-ltb, le-ltb}
use Rattle.guest_base.specs.Ranges.{in_range}
use Rattle.guest_base.specs.declared.memory.Pages.{Pages}
use Rattle.guest_base.specs.declared.memory.PageRun.{PageRun}
use Rattle.guest_base.specs.declared.memory.PageState.{PageState}
use Rattle.event_core.specs.Runs.{state_in}
use Rattle.page_module.specs.Tables.{Rising}
use Rattle.page_module.specs.Building.{part, cut, RunEnds}
use Rattle.event_core.specs.Runs.{run_end}
use Rattle.guest_base.proofs.RangeLemmas.{in_range-intro, in_range-below, in_range-past}
use Rattle.page_module.proofs.RangeCases.{where_is, below, within, past}
use Rattle.page_module.proofs.JoinLemmas.{state_in-append, end_after}

-- runs that rise

pub rising-weaker : (less from : ℕ) (xs : List PageRun) → less ≤ from → Rising from xs → Rising less xs
rising-weaker less from [] l h = tt
rising-weaker less from (x ∷ xs) l h = let a = h.0 in (omega arith, h.1, h.2, h.3)

pub rising-append : (from : ℕ) (xs ys : List PageRun) → Rising from xs → Rising (end_after from xs) ys → Rising from (xs ++ ys)
rising-append from [] ys h k = k
rising-append from (x ∷ xs) ys h k = (h.0, h.1, h.2, rising-append (run_end x) xs ys h.3 k)

pub end_after-append : (from : ℕ) (xs ys : List PageRun) → end_after from (xs ++ ys) ≡ end_after (end_after from xs) ys
end_after-append from [] ys = refl
end_after-append from (x ∷ xs) ys = end_after-append (run_end x) xs ys

pub rising-below : (from page : ℕ) (xs : List PageRun) → Rising from xs → page < from → state_in xs page ≡ None
rising-below from page [] h l = refl
rising-below from page (x ∷ xs) h l =
    let a = h.0 in
    rw (in_range-below x.pages.first x.pages.count page (omega arith)) (rising-below (run_end x) page xs h.3 (omega arith))

pub rising-past : (from page : ℕ) (xs : List PageRun) → Rising from xs → end_after from xs ≤ page → state_in xs page ≡ None
rising-past from page [] h l = refl
rising-past from page (x ∷ xs) h l =
    let e = rising-last (run_end x) xs h.3 in
    rw (in_range-past x.pages.first x.pages.count page (omega arith)) (rising-past (run_end x) page xs h.3 l)
  where
    rising-last : (from : ℕ) (xs : List PageRun) → Rising from xs → from ≤ end_after from xs
    rising-last from [] h = omega arith
    rising-last from (x ∷ xs) h = let e = rising-last (run_end x) xs h.3 in let a = h.0 in omega arith

-- a part of a run

pub part-states : (run : PageRun) (first end page : ℕ) → state_in (part run first end) page ≡ (if in_range first (end - first) page then Some run.state else None)
part-states run first end page =
    elim (cases_lt first end) [
      | inl l ↦ rw (lt-ltb first end l)
          (elim (cases_Bool (in_range first (end - first) page)) [ inl t ↦ rw t refl | inr f ↦ rw f refl ])
      | inr l ↦ rw (le-ltb first end l)
          (elim (cases_lt page first) [
            | inl u ↦ rw (in_range-below first (end - first) page u) refl
            | inr u ↦ rw (in_range-past first (end - first) page (omega arith)) refl
          ])
    ]

pub part-empty : (run : PageRun) (first end : ℕ) → end ≤ first → part run first end ≡ []
part-empty run first end l = rw (le-ltb first end l) refl

pub part-few : (run : PageRun) (first end : ℕ) → length (part run first end) ≤ 1
part-few run first end = elim (cases_lt first end) [ inl l ↦ rw (lt-ltb first end l) (omega arith) | inr l ↦ rw (le-ltb first end l) (omega arith) ]

-- a part rises, and ends where it is asked to, or is empty
pub record PartRises (run : PageRun) (from first end : ℕ) : Type 0 where
  pub rising : Rising from (part run first end)
  pub ends : end_after from (part run first end) ≤ max from end
  pub reaches : first < end → end_after from (part run first end) ≡ end

pub part-rises : (run : PageRun) (from first end : ℕ) → from ≤ first → end ≤ 2 ^ 28 → PartRises run from first end
part-rises run from first end a b =
    elim (cases_lt first end) [
      | inl l ↦
          let e : part run first end ≡ record { pages = record { first = first; count = end - first }; state = run.state } ∷ [] = rw (lt-ltb first end l) refl in
          record { rising = rw e (a, omega arith, omega arith, tt); ends = rw e (omega arith); reaches = λ _. rw e (omega arith) }
      | inr l ↦
          let e : part run first end ≡ [] = part-empty run first end l in
          record { rising = rw e tt; ends = rw e (omega arith); reaches = λ m. absurd (omega arith) }
    ]

-- cutting one run

pub cut-states : (pages : Pages) (run : PageRun) (page : ℕ) →
    state_in (cut pages run) page ≡ (if in_range pages.first pages.count page then None else state_in (run ∷ []) page)
cut-states pages run page =
    state_in-append (part run run.pages.first (min (run_end run) pages.first)) (part run (max run.pages.first (pages.first + pages.count)) (run_end run)) page
    ∙ rw (
      part-states run run.pages.first (min (run_end run) pages.first) page,
      part-states run (max run.pages.first (pages.first + pages.count)) (run_end run) page,
    )
    (elim (where_is pages.first pages.count page) [
      | below u ↦ rw (
        in_range-below pages.first pages.count page u,
        in_range-below (max run.pages.first (pages.first + pages.count)) (run_end run - max run.pages.first (pages.first + pages.count)) page (omega arith),
      )
          (elim (where_is run.pages.first run.pages.count page) [
            | below v ↦ rw (
              in_range-below run.pages.first run.pages.count page v,
              in_range-below run.pages.first (min (run_end run) pages.first - run.pages.first) page v,
            ) refl
            | within v w ↦ rw (
              in_range-intro run.pages.first run.pages.count page v w,
              in_range-intro run.pages.first (min (run_end run) pages.first - run.pages.first) page v (omega arith),
            ) refl
            | past v ↦ rw (
              in_range-past run.pages.first run.pages.count page v,
              in_range-past run.pages.first (min (run_end run) pages.first - run.pages.first) page (omega arith),
            ) refl
          ])
      | within u v ↦ rw (
        in_range-intro pages.first pages.count page u v,
        left-none page u,
        in_range-below (max run.pages.first (pages.first + pages.count)) (run_end run - max run.pages.first (pages.first + pages.count)) page (omega arith),
      ) refl
      | past u ↦ rw (in_range-past pages.first pages.count page u, left-none page (omega arith))
          (elim (where_is run.pages.first run.pages.count page) [
            | below v ↦ rw (
              in_range-below run.pages.first run.pages.count page v,
              in_range-below (max run.pages.first (pages.first + pages.count)) (run_end run - max run.pages.first (pages.first + pages.count)) page (omega arith),
            ) refl
            | within v w ↦ rw (
              in_range-intro run.pages.first run.pages.count page v w,
              in_range-intro (max run.pages.first (pages.first + pages.count)) (run_end run - max run.pages.first (pages.first + pages.count)) page (omega arith) (omega arith),
            ) refl
            | past v ↦ rw (in_range-past run.pages.first run.pages.count page v, right-none page v) refl
          ])
    ])
  where
    left-none : (page : ℕ) → pages.first ≤ page → in_range run.pages.first (min (run_end run) pages.first - run.pages.first) page ≡ false
    left-none page l = elim (cases_lt page run.pages.first) [
      | inl u ↦ in_range-below run.pages.first (min (run_end run) pages.first - run.pages.first) page u
      | inr u ↦ in_range-past run.pages.first (min (run_end run) pages.first - run.pages.first) page (omega arith)
    ]

    right-none : (page : ℕ) → run_end run ≤ page →
        in_range (max run.pages.first (pages.first + pages.count)) (run_end run - max run.pages.first (pages.first + pages.count)) page ≡ false
    right-none page l = elim (cases_lt page (max run.pages.first (pages.first + pages.count))) [
      | inl u ↦ in_range-below (max run.pages.first (pages.first + pages.count)) (run_end run - max run.pages.first (pages.first + pages.count)) page u
      | inr u ↦ in_range-past (max run.pages.first (pages.first + pages.count)) (run_end run - max run.pages.first (pages.first + pages.count)) page (omega arith)
    ]

pub cut-rising : (pages : Pages) (from : ℕ) (run : PageRun) → from ≤ run.pages.first → RunEnds run →
    Rising from (cut pages run) × (end_after from (cut pages run) ≤ run_end run)
cut-rising pages from run a b =
    let l = part-rises run from run.pages.first (min (run_end run) pages.first) a (omega arith) in
    let x = l.ends in
    let at : ℕ = end_after from (part run run.pages.first (min (run_end run) pages.first)) in
    let r = part-rises run at (max run.pages.first (pages.first + pages.count)) (run_end run) (omega arith) b in
    let y = r.ends in (
      rising-append from (part run run.pages.first (min (run_end run) pages.first)) (part run (max run.pages.first (pages.first + pages.count)) (run_end run)) l.rising r.rising,
      rw (end_after-append from (part run run.pages.first (min (run_end run) pages.first)) (part run (max run.pages.first (pages.first + pages.count)) (run_end run))) (omega arith),
    )

-- cutting all runs

pub cuts-states : (pages : Pages) (xs : List PageRun) (page : ℕ) →
    state_in (flat_map (cut pages) xs) page ≡ (if in_range pages.first pages.count page then None else state_in xs page)
cuts-states pages [] page =
    let none : Option PageState = None in
    elim (in_range pages.first pages.count page) as (λ b. none ≡ (if b then none else none)) [ true ↦ refl | false ↦ refl ]
cuts-states pages (x ∷ xs) page =
    state_in-append (cut pages x) (flat_map (cut pages) xs) page
    ∙ rw (cut-states pages x page, cuts-states pages xs page)
    (elim (in_range pages.first pages.count page) as
    (λ b. let none : Option PageState = None in option_or (if b then none else state_in (x ∷ []) page) (if b then none else state_in xs page) ≡ (if b then none else state_in (x ∷ xs) page))
    [ true ↦ refl | false ↦ sym (state_in-append (x ∷ []) xs page) ])

pub cuts-rising : (pages : Pages) (from : ℕ) (xs : List PageRun) → Rising from xs → Rising from (flat_map (cut pages) xs)
cuts-rising pages from [] h = tt
cuts-rising pages from (x ∷ xs) h =
    let c = cut-rising pages from x h.0 h.2 in
    rising-append from (cut pages x) (flat_map (cut pages) xs) c.0
    (rising-weaker (end_after from (cut pages x)) (run_end x) (flat_map (cut pages) xs) c.1 (cuts-rising pages (run_end x) xs h.3))

-- how many runs are left
cut-few : (pages : Pages) (x : PageRun) → pages.first ≤ x.pages.first → length (cut pages x) ≤ 1
cut-few pages x l =
    let right : List PageRun = part x (max x.pages.first (pages.first + pages.count)) (run_end x) in
    rw (part-empty x x.pages.first (min (run_end x) pages.first) (omega arith)) (part-few x (max x.pages.first (pages.first + pages.count)) (run_end x))

cuts-few : (pages : Pages) (from : ℕ) (xs : List PageRun) → Rising from xs → pages.first ≤ from → length (flat_map (cut pages) xs) ≤ length xs
cuts-few pages from [] h l = omega arith
cuts-few pages from (x ∷ xs) h l =
    let a = h.0 in
    let b = h.1 in
    let c = cut-few pages x (omega arith) in
    let d = cuts-few pages (run_end x) xs h.3 (omega arith) in
    rw (length-append (cut pages x) (flat_map (cut pages) xs)) (omega arith)

pub cuts-length : (pages : Pages) (from : ℕ) (xs : List PageRun) → Rising from xs → length (flat_map (cut pages) xs) ≤ length xs + 1
cuts-length pages from [] h = omega arith
cuts-length pages from (x ∷ xs) h =
    let left = part-few x x.pages.first (min (run_end x) pages.first) in
    let right = part-few x (max x.pages.first (pages.first + pages.count)) (run_end x) in
    let both = length-append (part x x.pages.first (min (run_end x) pages.first)) (part x (max x.pages.first (pages.first + pages.count)) (run_end x)) in
    let all = length-append (cut pages x) (flat_map (cut pages) xs) in
    elim (cases_lt (run_end x) pages.first) [
      | inl l ↦
          let none : length (part x (max x.pages.first (pages.first + pages.count)) (run_end x)) ≡ 0 =
          ap (λ (p : List PageRun). length p) (part-empty x (max x.pages.first (pages.first + pages.count)) (run_end x) (omega arith)) in
          let rest = cuts-length pages (run_end x) xs h.3 in
          omega arith
      | inr l ↦ let rest = cuts-few pages (run_end x) xs h.3 l in omega arith
    ]
