-- What a page table's calls rest on.
use Rattle.std.proofs.Common.{◌≡◌, ◌≢◌, ℕ, ◌+◌, ◌-◌, ◌*◌, ◌<◌, ◌≤◌, List, [], ◌∷◌, Option, None, All, true, fold, length, if◌then◌else◌, arith, refl, sym, ap, subst, ◌∙◌, inl, inr}
use Rattle.std.specs.List.{flat_map}
use Rattle.std.proofs.lemmas.List.Elements.{All-nil, All-cons}
use Rattle.std.proofs.lemmas.Bool.{cases_lt}
use Rattle.guest_base.specs.Ranges.{in_range}
use Rattle.guest_base.specs.declared.limits.TheConstants.{PAGE_END}
use Rattle.guest_base.specs.declared.memory.Pages.{Pages}
use Rattle.guest_base.specs.declared.memory.PageRun.{PageRun}
use Rattle.guest_base.specs.declared.memory.PageState.{PageState}
use Rattle.event_core.specs.Runs.{state_in}
use Rattle.page_module.specs.Spans.{runs_now, RunsFrom, LieInMemory}
use Rattle.page_module.specs.declared.span.TakenRun.{TakenRun}
use Rattle.page_module.specs.Tables.{Table, AreLow, Rising, Differing, Apart, run_count}
use Rattle.page_module.specs.declared.ticket.Ticket.{Ticket}
use Rattle.page_module.specs.Building.{RunEnds, cut, common, joined, AllOut}
use Rattle.event_core.specs.Runs.{run_end}
use Rattle.guest_base.proofs.RangeLemmas.{in_range-intro, in_range-below, in_range-past}
use Rattle.page_module.proofs.RangeCases.{where_is, below, within, past}
use Rattle.page_module.proofs.CutLemmas.{cuts-length, cuts-rising, cuts-states}
use Rattle.page_module.proofs.JoinLemmas.{fold-states, fold-rising, fold-differing}
use Rattle.page_module.proofs.CopyLemmas.{copies-follow, copies-length, copies-states}
use Rattle.page_module.proofs.OutLemmas.{out-alone}

pub rising-ends : (from : ℕ) (xs : List PageRun) → Rising from xs → All RunEnds xs
rising-ends from [] h = All-nil RunEnds
rising-ends from (x ∷ xs) h = All-cons RunEnds x xs h.2 (rising-ends (run_end x) xs h.3)

-- a page with a state lies in memory
pub in-memory : (from page : ℕ) (xs : List PageRun) → Rising from xs → state_in xs page ≢ None → page < PAGE_END
in-memory from page [] h s = absurd (s refl)
in-memory from page (x ∷ xs) h s =
    elim (where_is x.pages.first x.pages.count page) [
      | below u ↦ in-memory (run_end x) page xs h.3 (λ e. s (rw (in_range-below x.pages.first x.pages.count page u) e))
      | within u v ↦ let b = h.2 in omega arith
      | past u ↦ in-memory (run_end x) page xs h.3 (λ e. s (rw (in_range-past x.pages.first x.pages.count page u) e))
    ]

-- the same, as a table's value tells it
pub table-low : (t : Table) (runs : List PageRun) (out : List Ticket) (room : ℕ) →
    (let own : Table = record { runs = runs; out = out; room = room } in own ≡ t) → Rising 0 runs → AreLow t.runs
table-low t runs out room e h =
    let P : Table → Type 0 = λ s. AreLow s.runs in
    subst P e (λ page some. in-memory 0 page runs h some)

-- pages that all have a state lie within memory
pub pages-low : (runs : List PageRun) (pages : Pages) → AreLow runs →
    ((page : ℕ) → in_range pages.first pages.count page ≡ true → state_in runs page ≢ None) → LieInMemory pages
pages-low runs pages low here some =
    let last : ℕ = pages.first + pages.count - 1 in
    let below = low last (here last (in_range-intro pages.first pages.count last (omega arith) (omega arith))) in
    omega arith

-- there are no more of them than memory has
pub pages-few : (runs : List PageRun) (pages : Pages) → AreLow runs →
    ((page : ℕ) → in_range pages.first pages.count page ≡ true → state_in runs page ≢ None) → pages.count ≤ PAGE_END
pages-few runs pages low here =
    elim (cases_lt 0 pages.count) [ inl some ↦ let end = pages-low runs pages low here some in omega arith | inr none ↦ omega arith ]

-- what holds where pages may be taken
pub record MayTake (runs : List PageRun) (pages : Pages) : Type 0 where
  pub ends : All RunEnds runs
  pub memory : LieInMemory pages
  pub follow : RunsFrom pages.first (pages.first + pages.count) (flat_map (common pages) runs)
  pub few : length (flat_map (common pages) runs) ≤ run_count (state_in runs) pages
  pub left : length (flat_map (cut pages) runs) ≤ length runs + 1

pub may-take : (runs : List PageRun) (pages : Pages) → Rising 0 runs → Differing runs →
    ((page : ℕ) → in_range pages.first pages.count page ≡ true → state_in runs page ≢ None) → MayTake runs pages
may-take runs pages h d here =
    let there : (page : ℕ) → pages.first ≤ page → page < pages.first + pages.count → state_in runs page ≢ None =
    λ page a b. here page (in_range-intro pages.first pages.count page a b) in
    let count : pages.first + pages.count - pages.first ≡ pages.count = omega arith in
    record {
      ends = rising-ends 0 runs h;
      memory = pages-low runs pages (λ page some. in-memory 0 page runs h some) here;
      follow = copies-follow pages pages.first 0 runs h (omega arith) (omega arith) (omega arith) there;
      few = rw count at (copies-length pages (state_in runs) pages.first 0 runs h d (omega arith) (omega arith) (omega arith) there (λ page a b. refl) (inl refl));
      left = cuts-length pages 0 runs h;
    }

-- the same for a table that has room, as its value tells it
pub record TakeFacts (runs : List PageRun) (pages : Pages) (room : ℕ) : Type 0 where
  pub may : MayTake runs pages
  pub enough : 2 * run_count (state_in runs) pages + 2 ≤ room

pub take-facts : {t : Table} {runs : List PageRun} {out : List Ticket} {room : ℕ} {pages : Pages} →
    (let own : Table = record { runs = runs; out = out; room = room } in own ≡ t) → Rising 0 runs → Differing runs →
    ((page : ℕ) → in_range pages.first pages.count page ≡ true → state_in t.runs page ≢ None) →
    2 * run_count (state_in t.runs) pages + 2 ≤ t.room → TakeFacts runs pages room
take-facts {runs = runs} {room = room} {pages = pages} e h d here enough =
    let P : Table → Type 0 = λ s. ((page : ℕ) → in_range pages.first pages.count page ≡ true → state_in s.runs page ≢ None) →
    2 * run_count (state_in s.runs) pages + 2 ≤ s.room → TakeFacts runs pages room in
    subst P e (λ a b. record { may = may-take runs pages h d a; enough = b }) here enough

-- runs that are written anew from none
pub record Built (runs source : List PageRun) : Type 0 where
  pub rising : Rising 0 runs
  pub differing : Differing runs
  pub states : (page : ℕ) → state_in runs page ≡ state_in source page

pub built : (next source new : List PageRun) → next ≡ [] → new ≡ fold joined next source → Rising 0 source → Built new source
built next source new e n h =
    let m : new ≡ fold joined [] source = rw e at n in
    rw m (record { rising = fold-rising 0 [] source tt h; differing = fold-differing [] source tt; states = fold-states [] source })

pub record CutOut (old new : List PageRun) (pages : Pages) : Type 0 where
  pub rising : Rising 0 new
  pub differing : Differing new
  pub states : (page : ℕ) → state_in new page ≡ (let none : Option PageState = None in if in_range pages.first pages.count page then none else state_in old page)

pub cut-out : (old next new : List PageRun) (pages : Pages) → Rising 0 old → next ≡ [] → new ≡ fold joined next (flat_map (cut pages) old) → CutOut old new pages
cut-out old next new pages h e n =
    let b = built next (flat_map (cut pages) old) new e n (cuts-rising pages 0 old h) in
    record { rising = b.rising; differing = b.differing; states = λ page. b.states page ∙ cuts-states pages old page }

pub take-here : (t : Table) (runs : List PageRun) (out : List Ticket) (room : ℕ) (pages : Pages) →
    (let own : Table = record { runs = runs; out = out; room = room } in own ≡ t) →
    ((page : ℕ) → in_range pages.first pages.count page ≡ true → state_in t.runs page ≢ None) →
    (page : ℕ) → in_range pages.first pages.count page ≡ true → state_in runs page ≢ None
take-here t runs out room pages e here page i = rw (ap (λ (s : Table). state_in s.runs page) e) (here page i)

pub take-states : (t : Table) (runs : List PageRun) (out : List Ticket) (room : ℕ) (pages : Pages) (taken : List TakenRun) (page : ℕ) →
    (let own : Table = record { runs = runs; out = out; room = room } in own ≡ t) → taken ≡ flat_map (common pages) runs →
    state_in (runs_now taken) page ≡ (let none : Option PageState = None in if in_range pages.first pages.count page then state_in t.runs page else none)
take-states t runs out room pages taken page e k = rw (k, sym (ap (λ (s : Table). state_in s.runs page) e)) (copies-states pages runs page)

pub take-rest : (t : Table) (runs next new : List PageRun) (out : List Ticket) (room : ℕ) (pages : Pages) (page : ℕ) →
    (let own : Table = record { runs = runs; out = out; room = room } in own ≡ t) → Rising 0 runs → next ≡ [] → new ≡ fold joined next (flat_map (cut pages) runs) →
    state_in new page ≡ (let none : Option PageState = None in if in_range pages.first pages.count page then none else state_in t.runs page)
take-rest t runs next new out room pages page e h n k = rw (sym (ap (λ (s : Table). state_in s.runs page) e)) ((cut-out runs next new pages h n k).states page)

pub take-alone : (t : Table) (runs : List PageRun) (out : List Ticket) (room : ℕ) (pages : Pages) →
    (let own : Table = record { runs = runs; out = out; room = room } in own ≡ t) → AllOut runs out →
    ((page : ℕ) → in_range pages.first pages.count page ≡ true → state_in t.runs page ≢ None) → All (λ (other : Ticket). Apart pages other.pages) t.out
take-alone t runs out room pages e h here =
    let P : Table → Type 0 = λ s. ((page : ℕ) → in_range pages.first pages.count page ≡ true → state_in s.runs page ≢ None) →
    All (λ (other : Ticket). Apart pages other.pages) s.out in
    subst P e (λ k. out-alone runs out pages h k) here
