-- Lemmas on runs into which a span's runs are put.
use Rattle.std.proofs.Common.{◌≡◌, ℕ, ◌+◌, ◌-◌, ◌*◌, ◌^◌, ◌<◌, ◌≤◌, List, [], ◌∷◌, ◌++◌, Option, None, Some, not, filter, length, if◌then◌else◌, arith, refl, sym, ap, ◌∙◌, inl, inr, length-append, append-nil}
use Rattle.std.specs.Option.{option_or}
use Rattle.std.specs.List.{flat_map}
use Rattle.std.proofs.lemmas.Bool.{cases_lt, cases_Bool, lt-ltb, le-ltb}
use Rattle.guest_base.specs.Ranges.{in_range}
use Rattle.guest_base.specs.declared.memory.PageRun.{PageRun}
use Rattle.guest_base.specs.declared.memory.PageState.{PageState}
use Rattle.guest_base.specs.declared.memory.PageState.TheVariants.{Accepted}
use Rattle.event_core.specs.Runs.{state_in}
use Rattle.page_module.specs.Spans.{runs_now, RunsFrom}
use Rattle.page_module.specs.Tables.{Rising}
use Rattle.page_module.specs.Building.{part, parts, begins_before, RunEnds}
use Rattle.event_core.specs.Runs.{run_end}
use Rattle.page_module.specs.declared.span.TakenRun.{TakenRun}
use Rattle.guest_base.proofs.RangeLemmas.{in_range-intro, in_range-below, in_range-past}
use Rattle.page_module.proofs.RangeCases.{where_is, below, within, past}
use Rattle.page_module.proofs.SpanLemmas.{runs-end}
use Rattle.page_module.proofs.JoinLemmas.{state_in-append, end_after, rising-end}
use Rattle.page_module.proofs.CutLemmas.{rising-weaker, rising-append, rising-below, rising-past, end_after-append, part-states, part-rises, PartRises, part-few, part-empty}

-- the runs of a taken run

parts-states : (t : TakenRun) (page : ℕ) → t.accepted ≤ t.run.pages.count →
    state_in (parts t) page ≡ (if in_range t.run.pages.first t.accepted page then Some Accepted else (if in_range t.run.pages.first t.run.pages.count page then Some t.run.state else None))
parts-states t page a =
    let front : PageRun = record { pages = t.run.pages; state = Accepted } in
    let rest : ℕ = t.run.pages.first + t.accepted in
    let n : rest - t.run.pages.first ≡ t.accepted = omega arith in
    state_in-append (part front t.run.pages.first rest) (part t.run rest (run_end t.run)) page
    ∙ rw (part-states front t.run.pages.first rest page, part-states t.run rest (run_end t.run) page, n)
    (elim (where_is t.run.pages.first t.accepted page) [
      | below u ↦ rw (
        in_range-below t.run.pages.first t.accepted page u,
        in_range-below t.run.pages.first t.run.pages.count page u,
        in_range-below rest (run_end t.run - rest) page (omega arith),
      ) refl
      | within u v ↦ rw (in_range-intro t.run.pages.first t.accepted page u v) refl
      | past u ↦ rw (in_range-past t.run.pages.first t.accepted page u)
          (elim (cases_lt page (run_end t.run)) [
            | inl v ↦ rw (in_range-intro t.run.pages.first t.run.pages.count page (omega arith) v, in_range-intro rest (run_end t.run - rest) page u (omega arith)) refl
            | inr v ↦ rw (in_range-past t.run.pages.first t.run.pages.count page v, in_range-past rest (run_end t.run - rest) page (omega arith)) refl
          ])
    ])

pub all-parts-states : (first end page : ℕ) (rs : List TakenRun) → RunsFrom first end rs → state_in (flat_map parts rs) page ≡ state_in (runs_now rs) page
all-parts-states first end page [] h = refl
all-parts-states first end page (t ∷ rs) h =
    state_in-append (parts t) (flat_map parts rs) page
    ∙ rw (parts-states t page h.2, all-parts-states (first + t.run.pages.count) end page rs h.3)
    (elim (cases_Bool (in_range t.run.pages.first t.accepted page)) [
      | inl a ↦ rw a refl
      | inr a ↦ elim (cases_Bool (in_range t.run.pages.first t.run.pages.count page)) [ inl b ↦ rw (a, b) refl | inr b ↦ rw (a, b) refl ]
    ])

-- the runs of a span rise, and end where it ends
parts-rising : (t : TakenRun) → 0 < t.run.pages.count → t.accepted ≤ t.run.pages.count → RunEnds t.run →
    Rising t.run.pages.first (parts t) × (end_after t.run.pages.first (parts t) ≡ run_end t.run)
parts-rising t c a e =
    let front : PageRun = record { pages = t.run.pages; state = Accepted } in
    let rest : ℕ = t.run.pages.first + t.accepted in
    let l : PartRises front t.run.pages.first t.run.pages.first rest = part-rises front t.run.pages.first t.run.pages.first rest (omega arith) (omega arith) in
    let x = l.ends in
    let at : ℕ = end_after t.run.pages.first (part front t.run.pages.first rest) in
    let r : PartRises t.run at rest (run_end t.run) = part-rises t.run at rest (run_end t.run) (omega arith) e in (
      rising-append t.run.pages.first (part front t.run.pages.first rest) (part t.run rest (run_end t.run)) l.rising r.rising,
      rw (end_after-append t.run.pages.first (part front t.run.pages.first rest) (part t.run rest (run_end t.run)))
          (elim (cases_lt rest (run_end t.run)) [
            | inl m ↦ r.reaches m
            | inr m ↦ rw (part-empty t.run rest (run_end t.run) m) (let z = l.reaches (omega arith) in omega arith)
          ]),
    )

pub all-parts-rising : (first end : ℕ) (rs : List TakenRun) → RunsFrom first end rs → end ≤ 2 ^ 28 →
    Rising first (flat_map parts rs) × (end_after first (flat_map parts rs) ≡ end)
all-parts-rising first end [] h b = (tt, h)
all-parts-rising first end (t ∷ rs) h b =
    let f = h.0 in
    let last = runs-end (first + t.run.pages.count) end rs h.3 in
    let one = parts-rising t h.1 h.2 (omega arith) in
    let more = all-parts-rising (first + t.run.pages.count) end rs h.3 b in
    let s : run_end t.run ≡ first + t.run.pages.count = omega arith in
    rw (sym f) (
      rising-append t.run.pages.first (parts t) (flat_map parts rs) one.0 (rw (one.1, s) more.0),
      rw (end_after-append t.run.pages.first (parts t) (flat_map parts rs), one.1, s) more.1,
    )

pub all-parts-length : (rs : List TakenRun) → length (flat_map parts rs) ≤ 2 * length rs
all-parts-length [] = omega arith
all-parts-length (t ∷ rs) =
    let front : PageRun = record { pages = t.run.pages; state = Accepted } in
    let rest : ℕ = t.run.pages.first + t.accepted in
    let a = part-few front t.run.pages.first rest in
    let b = part-few t.run rest (run_end t.run) in
    let c = length-append (part front t.run.pages.first rest) (part t.run rest (run_end t.run)) in
    let d = length-append (parts t) (flat_map parts rs) in
    let e = all-parts-length rs in
    omega arith

-- runs that begin before a page, and those that begin at it or behind it

abbrev pub Before : ℕ → List PageRun → List PageRun
Before first xs = filter (begins_before first) xs

abbrev pub Behind : ℕ → List PageRun → List PageRun
Behind first xs = filter (λ run. not (begins_before first run)) xs

pub all-behind : (first from : ℕ) (xs : List PageRun) → Rising from xs → first ≤ from → (Before first xs ≡ []) × (Behind first xs ≡ xs)
all-behind first from [] h l = (refl, refl)
all-behind first from (x ∷ xs) h l =
    let a = h.0 in
    let b = h.1 in
    let r = all-behind first (run_end x) xs h.3 (omega arith) in
    (rw (le-ltb x.pages.first first (omega arith)) r.0, rw (le-ltb x.pages.first first (omega arith)) (ap (λ (l : List PageRun). x ∷ l) r.1))

-- together they tell every page's state
pub split-states : (first from page : ℕ) (xs : List PageRun) → Rising from xs →
    option_or (state_in (Before first xs) page) (state_in (Behind first xs) page) ≡ state_in xs page
split-states first from page [] h = refl
split-states first from page (x ∷ xs) h =
    elim (cases_lt x.pages.first first) [
      | inl l ↦ rw (lt-ltb x.pages.first first l)
          (elim (cases_Bool (in_range x.pages.first x.pages.count page)) [
            | inl t ↦ rw t refl
            | inr f ↦ rw f (split-states first (run_end x) page xs h.3)
          ])
      | inr l ↦
          let r = all-behind first x.pages.first (x ∷ xs) (omega arith, h.1, h.2, h.3) l in
          rw (r.0, r.1) refl
    ]

or-none : (a b : Option PageState) → option_or a b ≡ None → (a ≡ None) × (b ≡ None)
or-none None b e = (refl, e)
or-none (Some x) b e = cc

-- the states where runs are put between the two
pub placed-states : (first end from page : ℕ) (xs ys : List PageRun) → Rising from xs → Rising first ys → end_after first ys ≤ end →
    (first ≤ page → page < end → state_in xs page ≡ None) →
    state_in ((Before first xs ++ ys) ++ Behind first xs) page ≡ (if in_range first (end - first) page then state_in ys page else state_in xs page)
placed-states first end from page xs ys h k e free =
    state_in-append (Before first xs ++ ys) (Behind first xs) page
    ∙ rw (state_in-append (Before first xs) ys page)
    (elim (where_is first (end - first) page) [
      | below u ↦ rw (in_range-below first (end - first) page u, rising-below first page ys k u) outside
      | within u v ↦ rw (in_range-intro first (end - first) page u v)
          (let n = or-none (state_in (Before first xs) page) (state_in (Behind first xs) page) (split-states first from page xs h ∙ free u (omega arith)) in
          rw (n.0, n.1) (or-right (state_in ys page)))
      | past u ↦
          let s = rising-end first ys k in
          rw (in_range-past first (end - first) page u, rising-past first page ys k (omega arith)) outside
    ])
  where
    or-right : (a : Option PageState) → option_or a None ≡ a
    or-right None = refl
    or-right (Some x) = refl

    outside : option_or (option_or (state_in (Before first xs) page) None) (state_in (Behind first xs) page) ≡ state_in xs page
    outside = rw (or-right (state_in (Before first xs) page)) (split-states first from page xs h)

-- a state is not none
some-none-state : (state : PageState) {o : Option PageState} → Some state ≡ None → o ≡ None
some-none-state state e = cc

some-none-order : (state : PageState) (a b : ℕ) → Some state ≡ None → a ≤ b
some-none-order state a b e = cc

ends-before : (a b : ℕ) (ys : List PageRun) → a ≤ b → end_after a ys ≤ end_after b ys
ends-before a b [] l = l
ends-before a b (y ∷ ys) l = omega arith

-- they rise together
pub placed-rising : (first end from : ℕ) (xs ys : List PageRun) → Rising from xs → Rising first ys → end_after first ys ≤ end →
    (end ≤ first → ys ≡ []) → (first < end → from ≤ first) →
    ((page : ℕ) → first ≤ page → page < end → state_in xs page ≡ None) →
    Rising from ((Before first xs ++ ys) ++ Behind first xs)
placed-rising first end from [] ys h k e none before free =
    let s : ([] ++ ys) ++ [] ≡ ys = append-nil ys in
    rw s (elim (cases_lt first end) [ inl l ↦ rising-weaker from first ys (before l) k | inr l ↦ rw (none l) tt ])
placed-rising first end from (x ∷ xs) ys h k e none before free =
    let h0 = h.0 in
    let h1 = h.1 in
    elim (cases_lt x.pages.first first) [
      | inl l ↦ rw (lt-ltb x.pages.first first l) (
        h.0,
        h.1,
        h.2,
        placed-rising first end (run_end x) xs ys h.3 k e none
            (λ m. elim (cases_lt first (run_end x)) [
              | inl u ↦ let z = sym (rw (in_range-intro x.pages.first x.pages.count first (omega arith) u) refl) ∙ free first (omega arith) m in some-none-order x.state (run_end x) first z
              | inr u ↦ u
            ])
            (λ page u v. elim (where_is x.pages.first x.pages.count page) [
              | below w ↦ absurd (omega arith)
              | within w z ↦ let q = sym (rw (in_range-intro x.pages.first x.pages.count page w z) refl) ∙ free page u v in some-none-state x.state q
              | past w ↦ sym (rw (in_range-past x.pages.first x.pages.count page w) refl) ∙ free page u v
            ]),
      )
      | inr l ↦
          let r = all-behind first x.pages.first (x ∷ xs) (omega arith, h.1, h.2, h.3) l in
          rw (r.0, r.1)
          (elim (cases_lt first end) [
            | inl m ↦
                let behind : end ≤ x.pages.first = elim (cases_lt x.pages.first end) [
                  | inl u ↦ some-none-order x.state end x.pages.first (sym (rw (in_range-intro x.pages.first x.pages.count x.pages.first (omega arith) (omega arith)) refl) ∙ free x.pages.first l u)
                  | inr u ↦ u
                ] in
                let last = ends-before from first ys (before m) in
                rising-append from ys (x ∷ xs) (rising-weaker from first ys (before m) k)
                (omega arith, h.1, h.2, h.3)
            | inr m ↦ rw (none m) h
          ])
    ]

pub split-length : (first : ℕ) (xs : List PageRun) → length (Before first xs) + length (Behind first xs) ≡ length xs
split-length first [] = omega arith
split-length first (x ∷ xs) =
    let h = split-length first xs in
    elim (cases_Bool (begins_before first x)) [ inl t ↦ rw t (omega arith) | inr t ↦ rw t (omega arith) ]

-- a span of no pages has no run
pub none-taken : (first end : ℕ) (rs : List TakenRun) → RunsFrom first end rs → end ≤ first → flat_map parts rs ≡ []
none-taken first end [] h l = refl
none-taken first end (t ∷ rs) h l = absurd (let e = runs-end (first + t.run.pages.count) end rs h.3 in let c = h.1 in omega arith)
