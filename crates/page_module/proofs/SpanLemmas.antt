-- Lemmas on the states of a span's pages.
use Rattle.std.proofs.Common.{◌≡◌, ◌≢◌, ℕ, suc, ◌+◌, ◌-◌, ◌^◌, ◌<◌, ◌≤◌, List, [], ◌∷◌, None, Some, All, true, false, if◌then◌else◌, map, min, arith, refl, sym, ap, ◌∙◌, inl, inr, Bool, length, get_or, drop, add-one, drop-cons, subst, ◌==◌, ◌&&◌, ◌⊎◌}
use Rattle.std.proofs.lemmas.Bool.Decides.{nat_tests}
use Rattle.std.proofs.lemmas.Bool.{cases_lt, cases_Bool}
use Rattle.std.proofs.lemmas.Grind.{common_steps}
use Rattle.std.proofs.lemmas.List.Elements.{All-nil, All-cons}
use Rattle.guest_base.specs.Ranges.{in_range}
use Rattle.guest_base.specs.declared.memory.Pages.{Pages}
use Rattle.guest_base.specs.declared.memory.PageState.{PageState}
use Rattle.guest_base.specs.declared.memory.PageState.TheVariants.{Pending, Accepted}
use Rattle.event_core.specs.Runs.{state_in}
use Rattle.page_module.specs.States.{AllIn}
use Rattle.page_module.specs.Spans.{Taken, runs_now, RunsFrom, BeginsPending, Becomes}
use Rattle.page_module.specs.declared.ticket.Ticket.{Ticket}
use Rattle.page_module.specs.Marking.{EndsInMemory, all_in_state, accepted_in, rest_first}
use Rattle.page_module.specs.declared.span.TakenRun.{TakenRun}
use Rattle.guest_base.proofs.RangeLemmas.{in_range-intro, in_range-below, in_range-past, in_range-elim}
use Rattle.page_module.proofs.RangeCases.{where_is, below, within, past}

pub runs-end : (first end : ℕ) (rs : List TakenRun) → RunsFrom first end rs → first ≤ end
runs-end first end [] h = omega (arith, h)
runs-end first end (t ∷ rs) h = omega (arith, h.0, h.1, runs-end (first + t.run.pages.count) end rs h.3)

-- each taken run ends within memory, where the last does
pub runs-fit : (first end : ℕ) (rs : List TakenRun) → RunsFrom first end rs → (first < end → end ≤ 2 ^ 28) → All EndsInMemory rs
runs-fit first end [] h b = All-nil EndsInMemory
runs-fit first end (t ∷ rs) h b =
    let e = runs-end (first + t.run.pages.count) end rs h.3 in
    let f = h.0 in
    let g = h.1 in
    let bound : end ≤ 2 ^ 28 = b (omega arith) in
    All-cons EndsInMemory t rs (h.2, omega arith) (runs-fit (first + t.run.pages.count) end rs h.3 (λ _. bound))

pub state-below : (first end page : ℕ) (rs : List TakenRun) → RunsFrom first end rs → page < first → state_in (runs_now rs) page ≡ None
state-below first end page [] h b = refl
state-below first end page (t ∷ rs) h b =
    let f = h.0 in
    rw (in_range-below t.run.pages.first t.accepted page (omega arith), in_range-below t.run.pages.first t.run.pages.count page (omega arith))
    (state-below (first + t.run.pages.count) end page rs h.3 (omega arith))

pub state-past : (first end page : ℕ) (rs : List TakenRun) → RunsFrom first end rs → end ≤ page → state_in (runs_now rs) page ≡ None
state-past first end page [] h b = refl
state-past first end page (t ∷ rs) h b =
    let f = h.0 in
    let a = h.2 in
    let e = runs-end (first + t.run.pages.count) end rs h.3 in
    rw (in_range-past t.run.pages.first t.accepted page (omega arith), in_range-past t.run.pages.first t.run.pages.count page (omega arith))
    (state-past (first + t.run.pages.count) end page rs h.3 b)

-- the state of a page of a taken run
abbrev pub state_here : TakenRun → ℕ → PageState
state_here t page = if in_range t.run.pages.first t.accepted page then Accepted else t.run.state

-- a page of the first run has its state there, and a later page by the runs that follow
pub state-head : (t : TakenRun) (rs : List TakenRun) (page : ℕ) → in_range t.run.pages.first t.run.pages.count page ≡ true →
    t.accepted ≤ t.run.pages.count →
    state_in (runs_now (t ∷ rs)) page ≡ Some (state_here t page)
state-head t rs page i a =
    (elim (cases_Bool (in_range t.run.pages.first t.accepted page)) [ inl u ↦ rw (i, u) refl | inr u ↦ rw (i, u) refl ])

pub state-tail : (t : TakenRun) (rs : List TakenRun) (page : ℕ) → t.run.pages.first + t.run.pages.count ≤ page →
    t.accepted ≤ t.run.pages.count →
    state_in (runs_now (t ∷ rs)) page ≡ state_in (runs_now rs) page
state-tail t rs page b a =
    rw (in_range-past t.run.pages.first t.accepted page (omega arith), in_range-past t.run.pages.first t.run.pages.count page (omega arith)) refl

pub state-some : (first end page : ℕ) (rs : List TakenRun) → RunsFrom first end rs → first ≤ page → page < end → state_in (runs_now rs) page ≢ None
state-some first end page [] h b c = absurd (omega (arith, h))
state-some first end page (t ∷ rs) h b c =
    let f = h.0 in
    elim (where_is t.run.pages.first t.run.pages.count page) [
      | below u ↦ absurd (omega arith)
      | within u v ↦ let e = state-head t rs page (in_range-intro t.run.pages.first t.run.pages.count page u v) h.2 in λ n. cc
      | past u ↦ rw (state-tail t rs page u h.2) (state-some (first + t.run.pages.count) end page rs h.3 (omega arith) c)
    ]

-- All pages of the span get a state.

pub runs-all : (state : PageState) (first end : ℕ) (rs : List TakenRun) → RunsFrom first end rs → RunsFrom first end (map (all_in_state state) rs)
runs-all state first end [] h = h
runs-all state first end (t ∷ rs) h = (h.0, h.1, omega arith, runs-all state (first + t.run.pages.count) end rs h.3)

pub states-all : (state : PageState) (first end page : ℕ) (rs : List TakenRun) → RunsFrom first end rs → first ≤ page → page < end →
    state_in (runs_now (map (all_in_state state) rs)) page ≡ Some state
states-all state first end page [] h b c = absurd (omega (arith, h))
states-all state first end page (t ∷ rs) h b c =
    let f = h.0 in
    elim (where_is t.run.pages.first t.run.pages.count page) [
      | below u ↦ absurd (omega arith)
      | within u v ↦ rw (in_range-past t.run.pages.first 0 page (omega arith), in_range-intro t.run.pages.first t.run.pages.count page u v) refl
      | past u ↦ rw (state-tail (all_in_state state t) (map (all_in_state state) rs) page u (omega arith))
          (states-all state (first + t.run.pages.count) end page rs h.3 (omega arith) c)
    ]

-- Pages that begin a maximal run of pending pages are accepted.

pub accepted-few : (pages : Pages) (t : TakenRun) → t.accepted ≤ t.run.pages.count → (accepted_in pages t).accepted ≤ t.run.pages.count
accepted-few pages t a =
    elim (in_range pages.first pages.count (rest_first t)) as
    (λ b. (if b then min (t.run.pages.first + t.run.pages.count) (pages.first + pages.count) - t.run.pages.first else t.accepted) ≤ t.run.pages.count)
    [ true ↦ omega arith | false ↦ a ]

pub runs-accepted : (pages : Pages) (first end : ℕ) (rs : List TakenRun) → RunsFrom first end rs → RunsFrom first end (map (accepted_in pages) rs)
runs-accepted pages first end [] h = h
runs-accepted pages first end (t ∷ rs) h =
    (h.0, h.1, accepted-few pages t h.2, runs-accepted pages (first + t.run.pages.count) end rs h.3)

-- what marking needs of the runs from a page on
pub record MayMark (pages : Pages) (first : ℕ) (rs : List TakenRun) : Type 0 where
  pub pending : (page : ℕ) → first ≤ page → in_range pages.first pages.count page ≡ true → state_in (runs_now rs) page ≡ Some Pending
  pub maximal : (page : ℕ) → first ≤ page → page + 1 ≡ pages.first → state_in (runs_now rs) page ≢ Some Pending

pub may-mark-tail : (pages : Pages) (first : ℕ) (t : TakenRun) (rs : List TakenRun) → t.run.pages.first ≡ first → t.accepted ≤ t.run.pages.count →
    MayMark pages first (t ∷ rs) → MayMark pages (first + t.run.pages.count) rs
may-mark-tail pages first t rs f a m =
    record {
      pending = λ page b i. sym (state-tail t rs page (omega arith) a) ∙ m.pending page (omega arith) i;
      maximal = λ page b e. rw (sym (state-tail t rs page (omega arith) a)) (m.maximal page (omega arith) e);
    }

pub state-first : (t : TakenRun) (page : ℕ) → t.run.pages.first ≤ page → page < rest_first t → state_here t page ≡ Accepted
state-first t page b c = rw (in_range-intro t.run.pages.first t.accepted page b c) refl

pub state-rest : (t : TakenRun) (page : ℕ) → rest_first t ≤ page → state_here t page ≡ t.run.state
state-rest t page b = rw (in_range-past t.run.pages.first t.accepted page b) refl

-- where the range doesn't hold the first page of the rest, nothing changes, so that its pages have to be accepted already
states-here-kept : (pages : Pages) (t : TakenRun) (page : ℕ) → in_range pages.first pages.count (rest_first t) ≡ false →
    (in_range pages.first pages.count page ≡ true → state_here t page ≡ Accepted) →
    state_here (accepted_in pages t) page ≡ (if in_range pages.first pages.count page then Accepted else state_here t page)
states-here-kept pages t page f h =
    rw f
    (elim (in_range pages.first pages.count page) as
    (λ b. (b ≡ true → state_here t page ≡ Accepted) → state_here t page ≡ (if b then Accepted else state_here t page))
    [ true ↦ λ k. k refl | false ↦ λ k. refl ] h)

-- the first page of the rest lies below the range: then no page of the rest lies in it, since the range begins a maximal run
accepted-below : (pages : Pages) (t : TakenRun) (page : ℕ) → t.accepted ≤ t.run.pages.count →
    t.run.pages.first ≤ page → page < t.run.pages.first + t.run.pages.count → rest_first t < pages.first →
    (in_range pages.first pages.count page ≡ true → state_here t page ≡ Pending) →
    ((p : ℕ) → t.run.pages.first ≤ p → p < t.run.pages.first + t.run.pages.count → p + 1 ≡ pages.first → state_here t p ≢ Pending) →
    in_range pages.first pages.count page ≡ true → state_here t page ≡ Accepted
accepted-below pages t page a b c u pend maxi i =
    let r = in_range-elim pages.first pages.count page i in
    let before : ℕ = pages.first - 1 in
    let s = state-rest t page (omega arith) in
    let z = state-rest t before (omega arith) in
    absurd (maxi before (omega arith) (omega arith) (omega arith) (z ∙ sym s ∙ pend i))

-- where the range holds the first page of the rest, the rest's pages in it are accepted
states-here-grown : (pages : Pages) (t : TakenRun) (page : ℕ) → t.accepted ≤ t.run.pages.count →
    t.run.pages.first ≤ page → page < t.run.pages.first + t.run.pages.count →
    pages.first ≤ rest_first t → rest_first t < pages.first + pages.count →
    state_here (accepted_in pages t) page ≡ (if in_range pages.first pages.count page then Accepted else state_here t page)
states-here-grown pages t page a b c u v =
    let grown : ℕ = min (t.run.pages.first + t.run.pages.count) (pages.first + pages.count) - t.run.pages.first in
    rw (in_range-intro pages.first pages.count (rest_first t) u v)
    (elim (cases_lt page (pages.first + pages.count)) [
      | inl p ↦ rw (in_range-intro t.run.pages.first grown page b (omega arith))
          (elim (cases_lt page pages.first) [
            | inl q ↦ rw (in_range-below pages.first pages.count page q) (sym (state-first t page b (omega arith)))
            | inr q ↦ rw (in_range-intro pages.first pages.count page q p) refl
          ])
      | inr p ↦ rw (in_range-past t.run.pages.first grown page (omega arith), in_range-past pages.first pages.count page p)
          (sym (state-rest t page (omega arith)))
    ])

pub states-here : (pages : Pages) (t : TakenRun) (page : ℕ) → t.accepted ≤ t.run.pages.count →
    t.run.pages.first ≤ page → page < t.run.pages.first + t.run.pages.count →
    (in_range pages.first pages.count page ≡ true → state_here t page ≡ Pending) →
    ((p : ℕ) → t.run.pages.first ≤ p → p < t.run.pages.first + t.run.pages.count → p + 1 ≡ pages.first → state_here t p ≢ Pending) →
    state_here (accepted_in pages t) page ≡ (if in_range pages.first pages.count page then Accepted else state_here t page)
states-here pages t page a b c pend maxi =
    elim (where_is pages.first pages.count (rest_first t)) [
      | below u ↦ states-here-kept pages t page (in_range-below pages.first pages.count (rest_first t) u)
          (λ i. accepted-below pages t page a b c u pend maxi i)
      | within u v ↦ states-here-grown pages t page a b c u v
      | past u ↦ states-here-kept pages t page (in_range-past pages.first pages.count (rest_first t) u)
          (λ i. let r = in_range-elim pages.first pages.count page i in state-first t page b (omega arith))
    ]

some-if : (b : Bool) (old new : PageState) → new ≡ (if b then Accepted else old) → Some new ≡ (if b then Some Accepted else Some old)
some-if true old new e = ap (λ z. Some z) e
some-if false old new e = ap (λ z. Some z) e

some-inj : {a b : PageState} → Some a ≡ Some b → a ≡ b
some-inj e = cc

pub states-accepted : (pages : Pages) (first end page : ℕ) (rs : List TakenRun) → RunsFrom first end rs → MayMark pages first rs →
    first ≤ page → page < end →
    state_in (runs_now (map (accepted_in pages) rs)) page ≡ (if in_range pages.first pages.count page then Some Accepted else state_in (runs_now rs) page)
states-accepted pages first end page [] h m b c = absurd (omega (arith, h))
states-accepted pages first end page (t ∷ rs) h m b c =
    let f = h.0 in
    elim (where_is t.run.pages.first t.run.pages.count page) [
      | below u ↦ absurd (omega arith)
      | within u v ↦
          let i = in_range-intro t.run.pages.first t.run.pages.count page u v in
          rw (state-head (accepted_in pages t) (map (accepted_in pages) rs) page i (accepted-few pages t h.2), state-head t rs page i h.2)
          (some-if (in_range pages.first pages.count page) (state_here t page) (state_here (accepted_in pages t) page)
          (states-here pages t page h.2 u v
          (λ w. some-inj (sym (state-head t rs page i h.2) ∙ m.pending page (omega arith) w))
          (λ p x y e q. m.maximal p (omega arith) e
          (state-head t rs p (in_range-intro t.run.pages.first t.run.pages.count p x y) h.2 ∙ ap (λ z. Some z) q))))
      | past u ↦
          rw (state-tail (accepted_in pages t) (map (accepted_in pages) rs) page u (accepted-few pages t h.2), state-tail t rs page u h.2)
          (states-accepted pages (first + t.run.pages.count) end page rs h.3 (may-mark-tail pages first t rs f h.2 m) (omega arith) c)
    ]

-- A scan of the runs.

-- a page that a run doesn't hold has its state by the runs behind it
pub state-pass : (items : List TakenRun) (i : ℕ) (d : TakenRun) (page : ℕ) → i < length items →
    (get_or items i d).accepted ≤ (get_or items i d).run.pages.count →
    in_range (get_or items i d).run.pages.first (get_or items i d).run.pages.count page ≡ false →
    state_in (runs_now (drop (i + 1) items)) page ≡ state_in (runs_now (drop i items)) page
state-pass items i d page l a f =
    rw (add-one, drop-cons items i d l)
    (elim (where_is (get_or items i d).run.pages.first (get_or items i d).run.pages.count page) [
      | below u ↦ rw (f, in_range-below (get_or items i d).run.pages.first (get_or items i d).accepted page u) refl
      | within u v ↦ let e = in_range-intro (get_or items i d).run.pages.first (get_or items i d).run.pages.count page u v in cc
      | past u ↦ sym (state-tail (get_or items i d) (drop (suc i) items) page u a)
    ])

pub state-found : (items : List TakenRun) (i : ℕ) (d : TakenRun) (page : ℕ) → i < length items →
    (get_or items i d).accepted ≤ (get_or items i d).run.pages.count →
    in_range (get_or items i d).run.pages.first (get_or items i d).run.pages.count page ≡ true →
    state_in (runs_now (drop i items)) page ≡ Some (state_here (get_or items i d) page)
state-found items i d page l a f = rw (drop-cons items i d l) (state-head (get_or items i d) (drop (suc i) items) page f a)

-- nothing is left behind the last run
pub state-end : (items : List TakenRun) (i page : ℕ) → length items ≤ i → state_in (runs_now (drop i items)) page ≡ None
state-end items i page l = let e : drop i items ≡ [] = grind (arith, common_steps) in rw e refl

-- What a span tells of itself.

-- each page of a span has a state
pub taken-some : (ticket : Ticket) (rs : List TakenRun) (span : Taken) (page : ℕ) →
    RunsFrom ticket.pages.first (ticket.pages.first + ticket.pages.count) rs →
    (let own : Taken = record { ticket = ticket; runs = runs_now rs } in own ≡ span) →
    in_range span.ticket.pages.first span.ticket.pages.count page ≡ true → state_in span.runs page ≢ None
taken-some ticket rs span page h e =
    let P : Taken → Type 0 = λ s. in_range s.ticket.pages.first s.ticket.pages.count page ≡ true → state_in s.runs page ≢ None in
    subst P e
    (λ i. let w = in_range-elim ticket.pages.first ticket.pages.count page i in
    state-some ticket.pages.first (ticket.pages.first + ticket.pages.count) page rs h w.0 w.1)

-- the span in which all pages got a state
pub becomes-all : (state : PageState) (ticket : Ticket) (rs new : List TakenRun) (span : Taken) (pages : Pages) →
    RunsFrom ticket.pages.first (ticket.pages.first + ticket.pages.count) rs →
    (let own : Taken = record { ticket = ticket; runs = runs_now rs } in own ≡ span) →
    pages ≡ ticket.pages → new ≡ map (all_in_state state) rs →
    Becomes state span (record { ticket = ticket; runs = runs_now new }) pages.first pages.count
becomes-all state ticket rs new span pages h e p n =
    let P : Taken → Type 0 = λ s. Becomes state s (record { ticket = ticket; runs = runs_now new }) pages.first pages.count in
    subst P e (rw (p, n) (record { ticket = refl; states = λ page. all-states state ticket.pages.first ticket.pages.count page rs h }))
  where
    all-states : (state : PageState) (first count page : ℕ) (rs : List TakenRun) → RunsFrom first (first + count) rs →
        state_in (runs_now (map (all_in_state state) rs)) page ≡ (if in_range first count page then Some state else state_in (runs_now rs) page)
    all-states state first count page rs h =
        elim (where_is first count page) [
          | below u ↦ rw (
            in_range-below first count page u,
            state-below first (first + count) page rs h u,
            state-below first (first + count) page (map (all_in_state state) rs) (runs-all state first (first + count) rs h) u,
          ) refl
          | within u v ↦ rw (in_range-intro first count page u v) (states-all state first (first + count) page rs h u v)
          | past u ↦ rw (
            in_range-past first count page u,
            state-past first (first + count) page rs h u,
            state-past first (first + count) page (map (all_in_state state) rs) (runs-all state first (first + count) rs h) u,
          ) refl
        ]

-- the span in which pages that begin a maximal run of pending pages were accepted
pub becomes-accepted : (ticket : Ticket) (rs new : List TakenRun) (span : Taken) (pages : Pages) →
    RunsFrom ticket.pages.first (ticket.pages.first + ticket.pages.count) rs →
    (let own : Taken = record { ticket = ticket; runs = runs_now rs } in own ≡ span) →
    BeginsPending span pages.first pages.count → new ≡ map (accepted_in pages) rs →
    Becomes Accepted span (record { ticket = ticket; runs = runs_now new }) pages.first pages.count
becomes-accepted ticket rs new span pages h e b n =
    let P : Taken → Type 0 = λ s. BeginsPending s pages.first pages.count →
    Becomes Accepted s (record { ticket = ticket; runs = runs_now new }) pages.first pages.count in
    subst P e (λ c. rw n (record { ticket = refl; states = λ page. accepted-states pages ticket.pages.first ticket.pages.count page rs h c.pending c.maximal })) b
  where
    outside : (pages : Pages) (page : ℕ) (rs : List TakenRun) →
        (in_range pages.first pages.count page ≡ true → state_in (runs_now rs) page ≡ Some Pending) →
        state_in (runs_now rs) page ≡ None → state_in (runs_now (map (accepted_in pages) rs)) page ≡ None →
        state_in (runs_now (map (accepted_in pages) rs)) page ≡ (if in_range pages.first pages.count page then Some Accepted else state_in (runs_now rs) page)
    outside pages page rs pend old new =
        elim (cases_Bool (in_range pages.first pages.count page)) [
          | inl t ↦ let p = pend t in cc
          | inr f ↦ rw (f, new, old) refl
        ]

    accepted-states : (pages : Pages) (first count page : ℕ) (rs : List TakenRun) → RunsFrom first (first + count) rs →
        AllIn Pending (runs_now rs) pages.first pages.count →
        ((p : ℕ) → p + 1 ≡ pages.first → state_in (runs_now rs) p ≢ Some Pending) →
        state_in (runs_now (map (accepted_in pages) rs)) page ≡ (if in_range pages.first pages.count page then Some Accepted else state_in (runs_now rs) page)
    accepted-states pages first count page rs h pend maxi =
        elim (where_is first count page) [
          | below u ↦ outside pages page rs (pend page) (state-below first (first + count) page rs h u)
              (state-below first (first + count) page (map (accepted_in pages) rs) (runs-accepted pages first (first + count) rs h) u)
          | within u v ↦ states-accepted pages first (first + count) page rs h (record { pending = λ p _. pend p; maximal = λ p _. maxi p }) u v
          | past u ↦ outside pages page rs (pend page) (state-past first (first + count) page rs h u)
              (state-past first (first + count) page (map (accepted_in pages) rs) (runs-accepted pages first (first + count) rs h) u)
        ]

-- a page with a state is one of the span's
pub state-within : {state : PageState} (first end page : ℕ) (rs : List TakenRun) → RunsFrom first end rs → state_in (runs_now rs) page ≡ Some state →
    (first ≤ page) × (page < end)
state-within first end page rs h e = (
  elim (cases_lt page first) [ inl l ↦ let z = state-below first end page rs h l in cc | inr l ↦ l ],
  elim (cases_lt page end) [ inl l ↦ l | inr l ↦ let z = state-past first end page rs h l in cc ],
)

-- pending pages lie in the span
pub span-end : (ticket : Ticket) (rs : List TakenRun) (span : Taken) (pages : Pages) →
    RunsFrom ticket.pages.first (ticket.pages.first + ticket.pages.count) rs →
    (let own : Taken = record { ticket = ticket; runs = runs_now rs } in own ≡ span) →
    BeginsPending span pages.first pages.count → 0 < pages.count →
    (ticket.pages.first ≤ pages.first) × (pages.first + pages.count ≤ ticket.pages.first + ticket.pages.count)
span-end ticket rs span pages h e b s =
    let last : ℕ = pages.first + pages.count - 1 in
    let states = λ (p : ℕ). ap (λ (s : Taken). state_in s.runs p) e in
    let x = state-within ticket.pages.first (ticket.pages.first + ticket.pages.count) pages.first rs h
    (states pages.first ∙ b.pending pages.first (in_range-intro pages.first pages.count pages.first (omega arith) (omega arith))) in
    let y = state-within ticket.pages.first (ticket.pages.first + ticket.pages.count) last rs h
    (states last ∙ b.pending last (in_range-intro pages.first pages.count last (omega arith) (omega arith))) in
    let z = y.1 in
    (x.0, omega arith)

pub pages-same : (a b : Pages) → (a.first == b.first && a.count == b.count) ≡ true → a ≡ b
pages-same a b e = let h : (a.first ≡ b.first) × (a.count ≡ b.count) = grind (arith, nat_tests) in
    ap (λ n. let r : Pages = record { first = n; count = a.count } in r) h.0 ∙ ap (λ n. let r : Pages = record { first = b.first; count = n } in r) h.1

pub pages-differ : (a b : Pages) → (a.first == b.first && a.count == b.count) ≡ false → a ≢ b
pages-differ a b e p = let x = ap (λ (z : Pages). z.first) p in let y = ap (λ (z : Pages). z.count) p in grind (arith, nat_tests)

pub length-map : {X Y : Type 0} (f : X → Y) (xs : List X) → length (map f xs) ≡ length xs
length-map f xs = grind (arith, common_steps)

-- what marking asks for, where the pages aren't the whole span
pub marks-first : {state : PageState} (ticket : Ticket) (rs : List TakenRun) (span : Taken) (pages : Pages) →
    (let own : Taken = record { ticket = ticket; runs = runs_now rs } in own ≡ span) →
    (pages.first == ticket.pages.first && pages.count == ticket.pages.count) ≡ false →
    (pages ≡ span.ticket.pages) ⊎ ((state ≡ Accepted) × BeginsPending span pages.first pages.count) →
    (state ≡ Accepted) × BeginsPending span pages.first pages.count
marks-first ticket rs span pages e d (inl p) = absurd (pages-differ pages ticket.pages d (p ∙ ap (λ (s : Taken). s.ticket.pages) (sym e)))
marks-first ticket rs span pages e d (inr b) = b
