use Rattle.std.proofs.Common.{◌≡◌, ℕ, ◌+◌, ◌≤◌, Option, None, Some, List, [], ◌∷◌, ◌++◌, refl, sym, ◌∙◌, ap, subst, arith, append-nil}
use Rattle.std.specs.Prelude.{drop, length, sum_by, ◌*◌, ◌-◌}
use Rattle.std.proofs.lemmas.List.Sums.{sum_by-cons}
use Rattle.guest_base.specs.declared.memory.Pages.{Pages}
use Rattle.guest_base.specs.declared.memory.Units.{Units}
use Rattle.event_core.specs.declared.boot.Boot.{Boot}
use Rattle.event_core.specs.declared.module_call.ModuleCall.{ModuleCall}
use Rattle.event_core.specs.Claims.{Claimed}
use Rattle.event_core.specs.MemoryRows.{pages_count}
use Rattle.event_core.specs.Moved.{entries_of}
use Rattle.page_module.specs.Spans.{Taken}
use Rattle.page_module.specs.declared.ticket.Ticket.{Ticket}
use Rattle.accept_sizes.specs.Accepts.{Accepts}
use Rattle.accept_sizes.specs.Room.{most_calls_of}
use Rattle.memory_core.specs.Steps.{pages_of}
use Rattle.guest_steps.specs.Ground.{Ground}
use Rattle.guest_steps.specs.Replies.{calls_reported}
use Rattle.guest_steps.specs.Seen.{Seen, Accepted, STEPS, command_number, left_by, own_now, steps_left, steps_waiting}
use Rattle.guest_base.specs.declared.limits.TheConstants.{PAGE_END}
use Rattle.guest_steps.specs.Standing.{Claiming, IsOut, PortTells, StopTold, unreported}
use Rattle.guest_cpu.specs.Kept.{most_of}
use Rattle.guest_cpu.specs.Progressing.{Progressed}
use Rattle.guest_cpu.specs.Standing.{CourseStands, RunsAre, calls_owed, seen_with}
use Rattle.guest_cpu.specs.Working.{Accepting, Asked, DoesOwed, Resting, most_owed}
use Rattle.guest_cpu.proofs.ToldLemmas.{rose-from, rose-on, told-on}

-- What the work makes of a processor that stands.

-- ---- the runs that are owed

pub record FirstOut (boot : Boot) (span : Taken) (runs : List Units) : Type 0 where
  pub run : Units
  pub later : List Units
  pub are : runs ≡ run ∷ later
  pub pages : span.ticket.pages.count ≡ pages_count boot run

first-by : (boot : Boot) (claim : Claimed) (span : Taken) (runs : List Units) → RunsAre boot claim runs → span.ticket.pages ≡ pages_of boot claim.run → FirstOut boot span runs
first-by boot claim span [] are is = absurd are
first-by boot claim span (run ∷ later) are is = record { run = run; later = later; are = refl; pages = ap (λ (p : Pages). p.count) is ∙ ap (pages_count boot) (sym are.0) }

-- a span that is out is for the first run
pub first-out : (p : Progressed) (made_before made : List ModuleCall) (faults_before faults kept : ℕ) (base : Ground) (span : Taken) → CourseStands p made_before made faults_before faults kept base → IsOut (seen_with p made_before made faults_before faults) base.memory (Some span) None → FirstOut p.boot span p.runs
first-out p made_before made faults_before faults kept base span s is_out =
    let has = is_out.2.has in
    let pages : span.ticket.pages ≡ pages_of p.boot is_out.0.run = has.pages ∙ ap (λ (b : Boot). pages_of b is_out.0.run) s.stands.same.memory in
    first-by p.boot is_out.0 span p.runs (s.runs is_out.0 is_out.1.claimed) pages

first-sum : (boot : Boot) (span : Taken) (runs : List Units) → FirstOut boot span runs → sum_by (most_of boot) runs ≡ most_calls_of span.ticket.pages.count + sum_by (most_of boot) (drop 1 runs)
first-sum boot span runs f =
    let S : List Units → Type 0 = λ rs. sum_by (most_of boot) rs ≡ most_calls_of span.ticket.pages.count + sum_by (most_of boot) (drop 1 rs) in
    let same = ap most_calls_of f.pages in
    let cons = sum_by-cons (most_of boot) f.run f.later in
    subst S (sym f.are) (let e : sum_by (most_of boot) (f.run ∷ f.later) ≡ most_calls_of span.ticket.pages.count + sum_by (most_of boot) f.later = cons ∙ ap (λ n. n + sum_by (most_of boot) f.later) (sym same) in e)

-- ---- what the call asks

pub fits-first : (p : Progressed) (made_before made : List ModuleCall) (faults_before faults kept : ℕ) (base : Ground) (out : Option Taken) (done : Option Accepted) → CourseStands p made_before made faults_before faults kept base → p.out ≡ out → p.done ≡ done → IsOut (seen_with p made_before made faults_before faults) base.memory out done → most_owed out done ≤ kept
fits-first p made_before made faults_before faults kept base None told s is_out is_done out = omega arith
fits-first p made_before made faults_before faults kept base (Some span) (Some told) s is_out is_done out = omega arith
fits-first p made_before made faults_before faults kept base (Some span) None s is_out is_done out =
    let sum = first-sum p.boot span p.runs (first-out p made_before made faults_before faults kept base span s out) in
    let O : Option Accepted → Type 0 = λ d. calls_owed p.boot d p.runs ≤ kept in
    let owed : sum_by (most_of p.boot) p.runs ≤ kept = subst O is_done s.port in
    omega (arith, sum, owed)

-- ---- faults that rise

stop-on : (before mid after : ℕ) (done : Option Accepted) → before ≤ mid → mid ≤ after → StopTold before done mid → StopTold before done after
stop-on before mid after None le on told = tt
stop-on before mid after (Some accepted) le on told = λ some. rose-on before mid after le on (told some)

module _ (p q : Progressed) (made_before made made_then : List ModuleCall) (faults_before faults faults_then kept more : ℕ) (base : Ground) (s : CourseStands p made_before made faults_before faults kept base) (on : faults ≤ faults_then) where
  abbrev port : Asked
  port = record { made_before = made; made = made_then; faults_before = faults; faults = faults_then; room_before = kept; room = more }

  abbrev see : Seen
  see = seen_with p made_before made faults_before faults

  -- with this span out, and this done for it
  abbrev next : Option Taken → Option Accepted → Progressed
  next out done = record p { out = out; done = done }

  abbrev see_next : Option Taken → Option Accepted → Seen
  see_next out done = seen_with (next out done) made_before made_then faults_before faults_then

  -- an open claim goes on with a span of the same pages
  claiming-on : (out : Option Taken) (done : Option Accepted) (claim : Claimed) (span now : Taken) → now.ticket ≡ span.ticket → Claiming see base.memory claim span → Claiming (see_next out done) base.memory claim now
  claiming-on out made_for claim span now ticket c = record {
    claimed = c.claimed;
    handed = c.handed;
    is_handed = c.is_handed;
    ticket = c.ticket ∙ sym ticket;
    some = c.some;
    command = c.command;
    present = c.present;
    fine = c.fine;
    claims = c.claims;
    clock = c.clock;
  }

  -- and the processor stands as before where what is out does, the port tells it, and no step is lost
  stands-on : (out : Option Taken) (done : Option Accepted) → IsOut (see_next out done) base.memory out done → PortTells (see_next out done)
      → length p.moved + steps_left (see_next out done) + steps_waiting p.boot base.memory.entries ≤ (length p.script + PAGE_END) * STEPS
      → calls_owed p.boot done p.runs ≤ more → CourseStands (next out done) made_before made_then faults_before faults_then more base
  stands-on out made_for is_out tells spent owed =
      let st = s.stands in
      record {
        stands = record {
          same = st.same;
          booted = st.booted;
          cpu = st.cpu;
          unconverting = st.unconverting;
          readable = st.readable;
          mine = st.mine;
          named = st.named;
          rises = st.rises;
          follows = st.follows;
          held = record { owned = st.held.owned; differ = st.held.differ };
          mapped = record { live = st.mapped.live; differ = st.mapped.differ };
          out = is_out;
          port = tells;
          spent = spent;
        };
        runs = s.runs;
        port = owed;
      }

  -- where nothing is owed
  resting : Resting p q port → CourseStands q made_before made_then faults_before faults_then more base
  resting r =
      let Q : Progressed → Type 0 = λ x. CourseStands x made_before made_then faults_before faults_then more base in
      let t = s.stands.port in
      let low = t.faults in
      let owed = s.port in
      let room = r.quiet.room in
      subst Q (sym r.same)
      (stands-on p.out p.done
      (out-on p.out p.done s.stands.out)
      (record {
        made = r.quiet.made ∙ t.made;
        faults = omega (arith, low, on);
        failed = told-on (entries_of p.moved) faults_before faults faults_then low on t.failed;
        stopped = stop-on faults_before faults faults_then p.done low on t.stopped;
      })
      s.stands.spent (omega (arith, owed, room)))
    where
      out-on : (out : Option Taken) (done : Option Accepted) → IsOut see base.memory out done → IsOut (see_next p.out p.done) base.memory out done
      out-on None None is = is
      out-on None (Some told) is = is
      out-on (Some span) None is = (is.0, claiming-on p.out p.done is.0 span span refl is.1, is.2)
      out-on (Some span) (Some told) is = (is.0, claiming-on p.out p.done is.0 span span refl is.1, is.2)

  -- where the span was worked on
  accepting : (span : Taken) → p.out ≡ Some span → p.done ≡ None → IsOut see base.memory (Some span) None → Accepting p q span port → CourseStands q made_before made_then faults_before faults_then more base
  accepting span is_out is_done out a =
      let d : Accepted = record { calls = a.calls; end = a.end } in
      let Q : Progressed → Type 0 = λ x. CourseStands x made_before made_then faults_before faults_then more base in
      let t = s.stands.port in
      let low = t.faults in
      let h = out.2 in
      let H : Boot → Type 0 = λ b. Accepts b.hosts span a.accepted a.calls in
      let sum = first-sum p.boot span p.runs (first-out p made_before made faults_before faults kept base span s out) in
      let O : Option Accepted → Type 0 = λ x. calls_owed p.boot x p.runs ≤ kept in
      let owed : sum_by (most_of p.boot) p.runs ≤ kept = subst O is_done s.port in
      let room = a.by.room in
      let ticket = a.by.accepts.ticket in
      let L : Option Taken → Type 0 = λ o. length p.moved + (left_by (length p.script) (command_number see) o - (own_now see).looks) + steps_waiting p.boot base.memory.entries ≤ (length p.script + PAGE_END) * STEPS in
      let T : Ticket → Type 0 = λ x. length p.moved + (((length p.script - (command_number see + 1)) * STEPS + 1 + (PAGE_END - x.pages.first)) - (own_now see).looks) + steps_waiting p.boot base.memory.entries ≤ (length p.script + PAGE_END) * STEPS in
      subst Q (sym a.course)
      (stands-on (Some a.accepted) (Some d) (
        out.0,
        claiming-on (Some a.accepted) (Some d) out.0 span a.accepted ticket out.1,
        record {
          before = h.before;
          rest = h.rest;
          split = h.split;
          others = h.others;
          brings = record { taken = span; has = h.has; accepts = subst H (sym s.stands.same.memory) a.by.accepts; stop = a.by.stop };
        },
      )
      (record {
        made = a.by.made ∙ ap (λ cs. cs ++ a.calls) (t.made ∙ ap (λ x. made_before ++ calls_reported (entries_of p.moved) ++ x) (ap unreported is_done) ∙ append-nil (made_before ++ calls_reported (entries_of p.moved)));
        faults = omega (arith, low, on);
        failed = told-on (entries_of p.moved) faults_before faults faults_then low on t.failed;
        stopped = λ some. rose-from faults_before faults faults_then low (a.by.rose some);
      })
      (subst T (sym ticket) (subst L is_out s.stands.spent)) (omega (arith, sum, owed, room)))

  does : (out : Option Taken) (done : Option Accepted) → p.out ≡ out → p.done ≡ done → IsOut (seen_with p made_before made faults_before faults) base.memory out done → DoesOwed out done p q port → CourseStands q made_before made_then faults_before faults_then more base
  does None told is_out is_done out d = resting d
  does (Some span) (Some told) is_out is_done out d = resting d
  does (Some span) None is_out is_done out d = accepting span is_out is_done out d

  pub work-course : DoesOwed p.out p.done p q port → CourseStands q made_before made_then faults_before faults_then more base
  work-course d = does p.out p.done refl refl s.stands.out d
