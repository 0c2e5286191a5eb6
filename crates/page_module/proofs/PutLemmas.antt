-- What putting a span back rests on.
use Rattle.std.proofs.Common.{◌≡◌, ℕ, ◌+◌, ◌-◌, ◌*◌, ◌^◌, ◌<◌, ◌≤◌, List, [], ◌++◌, Option, None, All, true, false, fold, length, length-append, sum_by, if◌then◌else◌, arith, refl, sym, ap, subst, ◌∙◌, inl, inr}
use Rattle.std.specs.List.{flat_map}
use Rattle.std.proofs.lemmas.Bool.{cases_lt}
use Rattle.guest_base.specs.Ranges.{in_range}
use Rattle.guest_base.specs.declared.memory.PageRun.{PageRun}
use Rattle.guest_base.specs.declared.memory.PageState.{PageState}
use Rattle.event_core.specs.Cut.{pages_end}
use Rattle.event_core.specs.Runs.{state_in}
use Rattle.page_module.specs.Spans.{Taken, runs_now, RunsFrom, LieInMemory}
use Rattle.page_module.specs.Tables.{Table, Rising, Differing, is_out, without}
use Rattle.page_module.specs.Building.{parts, placed, joined, places, AllOut, RunEnds}
use Rattle.page_module.specs.declared.span.TakenRun.{TakenRun}
use Rattle.page_module.specs.declared.ticket.Ticket.{Ticket}
use Rattle.guest_base.proofs.RangeLemmas.{in_range-intro}
use Rattle.page_module.proofs.JoinLemmas.{end_after}
use Rattle.page_module.proofs.PlaceLemmas.{Before, Behind, placed-states, placed-rising, all-parts-states, all-parts-rising, all-parts-length, split-length, none-taken}
use Rattle.page_module.proofs.OutLemmas.{out-free, places-without, length-without}
use Rattle.page_module.proofs.TableLemmas.{built, rising-ends}
use Rattle.page_module.proofs.SpanLemmas.{runs-fit}
use Rattle.page_module.specs.Marking.{EndsInMemory}

-- a span's runs, as they are put
record SpanRises (ticket : Ticket) (taken : List TakenRun) : Type 0 where
  pub rising : Rising ticket.pages.first (flat_map parts taken)
  pub ends : end_after ticket.pages.first (flat_map parts taken) ≤ ticket.pages.first + ticket.pages.count

span-rises : (ticket : Ticket) (taken : List TakenRun) → RunsFrom ticket.pages.first (ticket.pages.first + ticket.pages.count) taken →
    (0 < ticket.pages.count → ticket.pages.first + ticket.pages.count ≤ 2 ^ 28) → SpanRises ticket taken
span-rises ticket taken h m =
    elim (cases_lt 0 ticket.pages.count) [
      | inl l ↦
          let r = all-parts-rising ticket.pages.first (ticket.pages.first + ticket.pages.count) taken h (m l) in
          let e = r.1 in
          record { rising = r.0; ends = omega arith }
      | inr l ↦
          let n = none-taken ticket.pages.first (ticket.pages.first + ticket.pages.count) taken h (omega arith) in
          record { rising = rw n tt; ends = rw n (omega arith) }
    ]

-- the runs of a table in which a span is back
pub record PutBack (old new : List PageRun) (ticket : Ticket) (taken : List TakenRun) : Type 0 where
  pub rising : Rising 0 new
  pub differing : Differing new
  pub states : (page : ℕ) → state_in new page ≡ (if in_range ticket.pages.first ticket.pages.count page then state_in (runs_now taken) page else state_in old page)

pub put-back : (old next new : List PageRun) (ticket : Ticket) (taken : List TakenRun) (out : List Ticket) →
    Rising 0 old → AllOut old out → is_out out ticket ≡ true →
    RunsFrom ticket.pages.first (pages_end ticket.pages) taken → LieInMemory ticket.pages →
    next ≡ [] → new ≡ fold joined next (placed ticket.pages.first old taken) → PutBack old new ticket taken
put-back old next new ticket taken out h a o f m e all =
    let first : ℕ = ticket.pages.first in
    let end : ℕ = first + ticket.pages.count in
    let ys : List PageRun = flat_map parts taken in
    let span = span-rises ticket taken f m in
    let free : (page : ℕ) → first ≤ page → page < end → state_in old page ≡ None =
    λ page u v. out-free old out ticket a o page (in_range-intro first ticket.pages.count page u v) in
    let source : List PageRun = placed first old taken in
    let b = built next source new e all
    (placed-rising first end 0 old ys h span.rising span.ends (λ l. none-taken first end taken f l) (λ _. omega arith) free) in
    let count : end - first ≡ ticket.pages.count = omega arith in
    record {
      rising = b.rising;
      differing = b.differing;
      states = λ page. b.states page
          ∙ rw count at (placed-states first end 0 page old ys h span.rising span.ends (λ u v. free page u v))
          ∙ ap (λ (s : Option PageState). if in_range first ticket.pages.count page then s else state_in old page) (all-parts-states first end page taken f);
    }

-- what holds where a span is put back
pub record PutFacts (old : List PageRun) (out : List Ticket) (kept : ℕ) (ticket : Ticket) (taken : List TakenRun) : Type 0 where
  pub out_is : is_out out ticket ≡ true
  pub follow : RunsFrom ticket.pages.first (pages_end ticket.pages) taken
  pub memory : LieInMemory ticket.pages
  pub ends : All RunEnds old
  pub inner : All EndsInMemory taken
  pub sum : sum_by places (without ticket out) + places ticket ≡ kept
  pub fewer : length (without ticket out) + 1 ≡ length out
  pub long : length (placed ticket.pages.first old taken) ≤ length old + 2 * ticket.runs

pub put-facts : {t : Table} {old : List PageRun} {out : List Ticket} {kept room : ℕ} {given ticket : Ticket} {taken : List TakenRun} →
    (let own : Table = record { runs = old; out = out; room = room } in own ≡ t) → ticket ≡ given → Rising 0 old → kept ≡ sum_by places out →
    is_out t.out given ≡ true → RunsFrom given.pages.first (pages_end given.pages) taken → length taken ≤ given.runs →
    LieInMemory given.pages → PutFacts old out kept ticket taken
put-facts {old = old} {out = out} {kept = kept} {given = given} {taken = taken} e g h k o f n m =
    let P : Ticket → Type 0 = λ x. PutFacts old out kept x taken in
    let there : is_out out given ≡ true = rw (ap (λ (s : Table). s.out) e) o in
    let first = given.pages.first in
    let sides = split-length first old in
    let between = all-parts-length taken in
    let both = length-append (Before first old) (flat_map parts taken) in
    let all = length-append (Before first old ++ flat_map parts taken) (Behind first old) in
    subst P (sym g) (record {
      out_is = there;
      follow = f;
      memory = m;
      ends = rising-ends 0 old h;
      inner = runs-fit first (pages_end given.pages) taken f (λ l. m (omega arith));
      sum = places-without out given there ∙ sym k;
      fewer = length-without out given there;
      long = omega arith;
    })

pub put-outside : (old new : List PageRun) (ticket : Ticket) (taken : List TakenRun) → PutBack old new ticket taken → (page : ℕ) →
    in_range ticket.pages.first ticket.pages.count page ≡ false → state_in new page ≡ state_in old page
put-outside old new ticket taken b page f = b.states page ∙ rw f refl

pub put-states : (t : Table) (old new : List PageRun) (out : List Ticket) (room : ℕ) (span : Taken) (ticket : Ticket) (taken : List TakenRun) (page : ℕ) →
    (let own : Table = record { runs = old; out = out; room = room } in own ≡ t) → ticket ≡ span.ticket → runs_now taken ≡ span.runs →
    PutBack old new ticket taken →
    state_in new page ≡ (if in_range span.ticket.pages.first span.ticket.pages.count page then state_in span.runs page else state_in t.runs page)
put-states t old new out room span ticket taken page e g r b =
    b.states page
    ∙ rw (g, r, ap (λ (s : Table). state_in s.runs page) e) refl
