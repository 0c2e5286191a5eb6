use Rattle.std.proofs.Common.{◌≡◌, ◌+◌, ◌-◌, ◌<◌, ◌≤◌, true, None, Some, List, [], ◌∷◌, ◌++◌, sym, ◌∙◌, ap, subst, arith, refl, rules}
use Rattle.std.specs.Prelude.{slice_set}
use Rattle.guest_base.specs.Ranges.{in_range}
use Rattle.guest_base.specs.declared.memory.Pages.{Pages}
use Rattle.guest_base.specs.declared.memory.Units.{Units}
use Rattle.event_core.specs.declared.entry.Entry.{Entry}
use Rattle.event_core.specs.declared.entry.Turn.{Turn}
use Rattle.event_core.specs.Calls.{calls_of}
use Rattle.event_core.specs.Claims.{Claimed, claim_of}
use Rattle.event_core.specs.MemoryRows.{AcceptsUnits, next_run, pages_first, pages_count, report_event}
use Rattle.event_core.specs.Acceptance.{stop_of}
use Rattle.event_core.specs.Units.{unit_pages}
use Rattle.page_module.specs.States.{state_in}
use Rattle.page_module.specs.Tables.{run_count}
use Rattle.page_module.specs.declared.ticket.Ticket.{Ticket}
use Rattle.accept_sizes.specs.Accepts.{pending_of}
use Rattle.accept_sizes.specs.Ends.{stopped_at}
use Rattle.accepting_ranges.specs.Claims.{kept_of, MeetsNone}
use Rattle.accepting_ranges.proofs.ClaimLemmas.{kept_of-inside}
use Rattle.memory_core.specs.Bitmaps.{bits_in}
use Rattle.memory_core.specs.Answers.{GoesOn, ReportedBy, OthersKeep, answer_at}
use Rattle.memory_core.specs.OpenClaims.{units_of}
use Rattle.memory_core.specs.StandsFor.{OpenStands, pieces_for}
use Rattle.memory_core.specs.Steps.{BringsTo, bare_entry, pages_of}
use Rattle.memory_core.specs.Value.{MemoryValue}
use Rattle.memory_core.specs.Waiting.{waiting_left}
use Rattle.memory_core.specs.declared.claims.OpenClaim.{OpenClaim}
use Rattle.memory_core.specs.declared.memory.Reported.{Reported}
use Rattle.memory_core.proofs.BegunLemmas.{seen, goes-on-of, closes-of}
use Rattle.memory_core.proofs.BitsLemmas.{run-pages-are, cleared-same}
use Rattle.memory_core.proofs.BlockStepLemmas.{MayPutBack, closed-go, may-put-back, next-go, report-falls, report-fewer, room-closed, room-next}
use Rattle.memory_core.proofs.CloseLemmas.{ReportsIn, stands-closed, stands-next, calls-after}
use Rattle.memory_core.proofs.KeptLemmas.{opened-less}
use Rattle.memory_core.proofs.HoldsLemmas.{kept-open}
use Rattle.memory_core.proofs.OpenLemmas.{kept-same, room-take, runs-few}
use Rattle.memory_core.proofs.ReportLemmas.{accepts, opened, next-here, next-has}
use Rattle.memory_core.proofs.ReportedLemmas.{NextRun, same-claim, reports-of, kept-covers, kept-next, clock-kept, next-opens, next-found, entries-are, cleared-is, others-reported, reported-closed, appends-reported}
use Rattle.memory_core.proofs.memory.Memory.report.Goals.{After-put, After-append, After-run_pages, After-take-span, After-add, In-Some, In-None}
use Rattle.memory_core.proofs.memory.Memory.report.Goals as goal

-- ---- what holds on the way

-- the reported run
reports : (c : After-put) → ReportsIn c.self.inside.boot.value c.self.inside.entries.items c.args.calls c.self.inside.table c.put.new.self c.self.inside.bits c.clear_run.new.bits c.self.inside.accepting c.args.turn.now.cpu.0 c.remove-claim.result c.requires.step.claim c.args.span c.args.end c.clear_run.result
reports c =
    let i = c.self.inside in
    let s = c.self.invariant.0 in
    reports-of i.boot.value i.entries.items i.accepting i.room c.args.self.now c.args.calls i.table c.put.new.self i.bits c.clear_run.new.bits c.args.turn.now.cpu.0 c.remove-claim.result c.requires.step.claim c.args.span c.args.end c.clear_run.result c.self.view_is s.holds s.same_bits s.booted.some
    c.requires.step.claimed c.remove-claim.ensures.taken c.requires.step.out s.steady.runs_keep c.requires.step.brings c.clear_run.ensures.cleared c.put.ensures.states c.put.ensures.out

-- the claim as it was kept
claim-was : (c : After-put) → OpenStands c.self.inside.boot.value (bits_in c.self.inside.bits) c.self.inside.table.out c.remove-claim.result c.requires.step.claim
claim-was c =
    let i = c.self.inside in
    opened i.boot.value (calls_of i.boot.value i.entries.items) c.args.calls (claim_of i.boot.value i.entries.items) i.table c.put.new.self i.bits c.clear_run.new.bits (kept_of i.accepting) c.args.turn.now.cpu.0 c.remove-claim.result c.requires.step.claim c.args.span c.args.end c.clear_run.result (reports c)

-- the calls accept the run's units
accepted : (c : After-put) → AcceptsUnits c.self.inside.boot.value (calls_of c.self.inside.boot.value c.self.inside.entries.items) c.requires.step.claim.run c.args.calls
accepted c =
    let i = c.self.inside in
    accepts i.boot.value (calls_of i.boot.value i.entries.items) c.args.calls (claim_of i.boot.value i.entries.items) i.table c.put.new.self i.bits c.clear_run.new.bits (kept_of i.accepting) c.args.turn.now.cpu.0 c.remove-claim.result c.requires.step.claim c.args.span c.args.end c.clear_run.result (reports c)

-- and brought the span from the states in which it was out
brings : (c : After-put) (claim : Claimed) → claim_of c.args.self.now.boot c.args.self.now.entries c.args.turn.now.cpu.0 ≡ Some claim
    → BringsTo c.args.self.now.boot (calls_of c.args.self.now.boot c.args.self.now.entries) claim.run c.args.span c.args.calls c.args.end
brings c claim has =
    let same = same-claim (claim_of c.args.self.now.boot c.args.self.now.entries c.args.turn.now.cpu.0) c.requires.step.claim claim c.requires.step.claimed has in
    let P : MemoryValue → Type 0 = λ m. BringsTo m.boot (calls_of m.boot m.entries) c.requires.step.claim.run c.args.span c.args.calls c.args.end in
    let Q : Claimed → Type 0 = λ x. BringsTo c.args.self.now.boot (calls_of c.args.self.now.boot c.args.self.now.entries) x.run c.args.span c.args.calls c.args.end in
    subst Q same (subst P c.self.view_is (reports c).brings)

-- the entry is the definition's
entry-is : (c : After-append) → c.append.new.entries.items ≡ c.self.inside.entries.items ++ bare_entry c.args.turn.now c.self.inside.last (report_event c.self.inside.boot.value c.requires.step.claim c.args.calls) ∷ []
entry-is c =
    let i = c.self.inside in
    entries-are i.boot.value i.entries.items c.args.calls i.table c.put.new.self i.bits c.clear_run.new.bits i.accepting c.args.turn.now.cpu.0 c.remove-claim.result c.requires.step.claim c.args.span c.args.end c.clear_run.result (reports (goal.at.After-append c).After-put) c.append.new.entries.items c.args.turn.now i.last c.stopped_page.result c.next_run_of-next.result c.stopped_page.ensures c.next_run_of-next.ensures c.append.ensures.entries

-- the claim goes on with a run
goes-on : (c : In-Some) → NextRun c.self.inside.boot.value c.self.inside.entries.items c.args.calls c.self.inside.table c.put.new.self c.self.inside.bits c.clear_run.new.bits c.self.inside.accepting c.args.turn.now.cpu.0 c.remove-claim.result c.requires.step.claim c.args.span c.args.end c.clear_run.result (reports (goal.at.In-Some c).After-put) c.in-Some.run'
goes-on c =
    let i = c.self.inside in
    next-opens i.boot.value i.entries.items c.args.calls i.table c.put.new.self i.bits c.clear_run.new.bits i.accepting c.args.turn.now.cpu.0 c.remove-claim.result c.requires.step.claim c.args.span c.args.end c.clear_run.result (reports (goal.at.In-Some c).After-put) c.next_run_of-next.result c.in-Some.run' c.next_run_of-next.ensures c.in-Some.is

-- and is kept with it
pages-are : (c : After-run_pages) → c.run_pages.result ≡ pages_of c.self.inside.boot.value c.in-Some.run'
pages-are c =
    let i = c.self.inside in
    let s = c.self.invariant.0 in
    let clears = (reports (goal.at.After-run_pages c).After-put).clears in
    run-pages-are i.boot.value c.clear_run.new.bits c.in-Some.run' c.run_pages.result (cleared-same i.boot.value i.bits c.clear_run.new.bits (pending_of c.args.span) c.requires.step.claim.run c.clear_run.result s.same_bits clears) c.run_pages.ensures

abbrev next_kept : After-take-span → OpenClaim
next_kept c = record c.remove-claim.result {
  run = c.in-Some.run';
  opened = c.remove-claim.result.opened + 1;
  cleared = c.remove-claim.result.cleared + c.clear_run.result;
  ticket = c.take-span.result.ticket;
  room = c.remove-claim.result.room - c.in-Some.run'.count;
}

kept-again : (c : After-add) → c.add.new.self ≡ slice_set c.self.inside.accepting c.args.turn.now.cpu.0 (Some (next_kept (goal.at.After-add c).After-take-span))
kept-again c =
    let made = next_kept (goal.at.After-add c).After-take-span in
    kept-next c.self.inside.accepting c.remove-claim.new.self c.add.new.self c.args.turn.now.cpu.0 c.append.new.turn.cpu.0 c.with_next-claim.result made c.remove-claim.ensures.rest c.add.ensures (ap (λ (t : Turn). t.cpu.0) c.append.ensures.turn)
    (c.with_next-claim.ensures ∙ ap (λ t. let k : OpenClaim = record made { ticket = t } in k) c.ticket.ensures)

-- the claim is closed, and its block is put back
none-next : (c : In-None) → next_run c.self.inside.boot.value c.requires.step.claim (stop_of c.args.calls) ≡ None
none-next c =
    let i = c.self.inside in
    let found = next-found i.boot.value i.entries.items c.args.calls i.table c.put.new.self i.bits c.clear_run.new.bits i.accepting c.args.turn.now.cpu.0 c.remove-claim.result c.requires.step.claim c.args.span c.args.end c.clear_run.result (reports (goal.at.In-None c).After-put) in
    sym (c.next_run_of-next.ensures ∙ found) ∙ c.in-None.is

may-back : (c : In-None) → MayPutBack c.self.inside.blocks c.remove-claim.result.block
may-back c =
    let i = c.self.inside in
    let s = c.self.invariant.0 in
    let r = reports (goal.at.In-None c).After-put in
    may-put-back i.boot.value i.entries.items i.blocks i.accepting c.args.turn.now.cpu.0 i.room c.remove-claim.result c.requires.step.claim s.settled s.blocks_are s.block_room r.claimed (claim-was (goal.at.In-None c).After-put).block r.keeps

-- ---- the goals
pub clear_run-requires-clause-set : goal.clear_run-requires-clause-set
clear_run-requires-clause-set c unit inside =
    let i = c.self.inside in
    let s = c.self.invariant.0 in
    let cpu = c.args.turn.now.cpu.0 in
    let stands = kept-open i.boot.value (bits_in i.bits) i.table.out (kept_of i.accepting cpu) (claim_of i.boot.value i.entries.items cpu) c.remove-claim.result c.remove-claim.ensures.taken (s.holds.open_claims cpu) in
    stands.2.each unit (sym (ap (λ (u : Units). in_range u.first u.count unit) stands.2.run) ∙ inside)

pub with_next-claim-requires-clause-opened : goal.with_next-claim-requires-clause-opened
with_next-claim-requires-clause-opened c =
    let o = c.remove-claim.result in
    opened-less o.later.items o.opened c.args.end c.in-Some.run' (sym c.next_run_of-next.ensures ∙ c.in-Some.is)

pub run_pages-requires-clause-some : goal.run_pages-requires-clause-some
run_pages-requires-clause-some c = (goes-on (goal.at.run_pages-requires-clause-some c).In-Some).some

pub run_pages-requires-clause-set : goal.run_pages-requires-clause-set
run_pages-requires-clause-set c = (goes-on (goal.at.run_pages-requires-clause-set c).In-Some).set

pub take-span-requires-clause-here : goal.take-span-requires-clause-here
take-span-requires-clause-here c page inside none =
    let i = c.self.inside in
    let r = reports (goal.at.take-span-requires-clause-here c).After-put in
    let n = goes-on (goal.at.take-span-requires-clause-here c).In-Some in
    let pages = pages-are (goal.at.take-span-requires-clause-here c).After-run_pages in
    let at : in_range (pages_first i.boot.value c.in-Some.run') (pages_count i.boot.value c.in-Some.run') page ≡ true = sym (ap (λ (p : Pages). in_range p.first p.count page) pages) ∙ inside in
    next-here i.boot.value (calls_of i.boot.value i.entries.items) c.args.calls (claim_of i.boot.value i.entries.items) i.table c.put.new.self i.bits c.clear_run.new.bits (kept_of i.accepting) c.args.turn.now.cpu.0 c.remove-claim.result c.requires.step.claim c.args.span c.args.end c.clear_run.result r c.in-Some.run' n.whole page at none

pub take-span-requires-clause-room : goal.take-span-requires-clause-room
take-span-requires-clause-room c =
    let i = c.self.inside in
    let r = reports (goal.at.take-span-requires-clause-room c).After-put in
    let n = goes-on (goal.at.take-span-requires-clause-room c).In-Some in
    let pages = pages-are (goal.at.take-span-requires-clause-room c).After-run_pages in
    let o = c.remove-claim.result in
    let mine = claim-was (goal.at.take-span-requires-clause-room c).After-put in
    let has : pieces_for (unit_pages i.boot.value) o.room ≤ c.put.new.self.room =
    (let room = mine.room in let put = c.put.ensures.room in let same : o.ticket.room ≡ c.args.span.ticket.room = ap (λ (t : Ticket). t.room) r.ticket in omega (arith, room, same, put)) in
    room-take (unit_pages i.boot.value) o.room c.in-Some.run'.count (run_count (state_in c.put.new.self.runs) c.run_pages.result) c.put.new.self.room n.some n.fits (runs-few i.boot.value c.in-Some.run' c.put.new.self.runs c.run_pages.result pages) has

pub with_next-claim-requires-clause-room : goal.with_next-claim-requires-clause-room
with_next-claim-requires-clause-room c = (goes-on (goal.at.with_next-claim-requires-clause-room c).In-Some).fits

pub overflow_sub-self : goal.overflow_sub-self
overflow_sub-self c =
    let i = c.self.inside in
    let s = c.self.invariant.0 in
    let n = goes-on (goal.at.overflow_sub-self c).In-Some in
    let covers = kept-covers i.accepting c.args.turn.now.cpu.0 i.kept c.remove-claim.result s.reports c.remove-claim.ensures.taken in
    omega (arith, n.fits, covers)

pub add-requires : goal.add-requires
add-requires c =
    let i = c.self.inside in
    let s = c.self.invariant.0 in
    let cpu = c.args.turn.now.cpu.0 in
    let inside = kept_of-inside i.accepting cpu c.remove-claim.result c.remove-claim.ensures.taken in
    let cpu_now : c.append.new.turn.cpu.0 ≡ cpu = ap (λ (t : Turn). t.cpu.0) c.append.ensures.turn in
    let in_place : c.append.new.turn.cpu.0 < 64 = (let places = s.places in omega (arith, inside, places, cpu_now)) in
    let free : kept_of c.remove-claim.new.self c.append.new.turn.cpu.0 ≡ None =
    ap (kept_of c.remove-claim.new.self) cpu_now ∙ ap (λ cs. kept_of cs cpu) c.remove-claim.ensures.rest ∙ kept-same i.accepting cpu None inside in
    let P : OpenClaim → Type 0 = λ k. MeetsNone units_of c.remove-claim.new.self k.units in
    let apart = subst P (sym c.with_next-claim.ensures) c.remove-claim.ensures.apart in
    search rules

pub invariant_of-self : goal.invariant_of-self
invariant_of-self c =
    let i = c.self.inside in
    let s = c.self.invariant.0 in
    let r = reports (goal.at.invariant_of-self c).After-put in
    let n = goes-on (goal.at.invariant_of-self c).In-Some in
    let entries = entry-is (goal.at.invariant_of-self c).After-append in
    let pages = pages-are (goal.at.invariant_of-self c).After-run_pages in
    let made = next_kept (goal.at.invariant_of-self c).After-take-span in
    let set = kept-again (goal.at.invariant_of-self c).After-add in
    let o = c.remove-claim.result in
    let mine = claim-was (goal.at.invariant_of-self c).After-put in
    let clock = clock-kept i.boot.value i.entries.items i.accepting i.room c.args.turn.now.clock i.last c.args.self.now c.self.view_is s.last_is c.requires.step.clock in
    let same : o.ticket.room ≡ c.args.span.ticket.room = ap (λ (t : Ticket). t.room) r.ticket in
    let put = c.put.ensures.room in (
      stands-next i.boot.value i.entries c.append.new.entries i.last c.append.new.last i.table c.put.new.self c.take-span.new.self i.bits c.clear_run.new.bits i.accepting c.add.new.self i.blocks i.blocks i.unit_pages i.kept _ i.room c.args.turn.now c.args.calls o made c.requires.step.claim c.args.span c.take-span.result c.args.end c.clear_run.result c.in-Some.run' c.run_pages.result
          s r entries c.append.ensures.capacity c.append.ensures.last clock n.stop n.next n.some n.fits refl
          (let P : Units → Type 0 = λ u. c.clear_run.result ≤ u.count in subst P mine.run c.clear_run.ensures.few) (omega (arith, same, put)) pages c.take-span.ensures.pages c.take-span.ensures.rest c.take-span.ensures.out c.take-span.ensures.room set refl
          (next-go i.boot.value i.entries.items c.args.turn.now i.last i.blocks c.add.new.self 0 c.requires.step.claim c.args.calls c.in-Some.run' s.settled s.steady.waiting s.blocks_are r.claimed (accepted (goal.at.invariant_of-self c).After-put) n.next n.stop
          (room-next i.blocks i.accepting c.add.new.self c.args.turn.now.cpu.0 i.room o made s.block_room r.keeps set refl)),
      record { empty = c.self.invariant.1.empty; enough = omega arith },
    )

pub invariant_of-self-in-None-1 : goal.invariant_of-self-in-None-1
invariant_of-self-in-None-1 c =
    let i = c.self.inside in
    let s = c.self.invariant.0 in
    let r = reports (goal.at.invariant_of-self-in-None-1 c).After-put in
    let entries = entry-is (goal.at.invariant_of-self-in-None-1 c).After-append in
    let next = none-next (goal.at.invariant_of-self-in-None-1 c).In-None in
    let mine = claim-was (goal.at.invariant_of-self-in-None-1 c).After-put in
    let clock = clock-kept i.boot.value i.entries.items i.accepting i.room c.args.turn.now.clock i.last c.args.self.now c.self.view_is s.last_is c.requires.step.clock in (
      stands-closed i.boot.value i.entries c.append.new.entries i.last c.append.new.last i.table c.put.new.self i.bits c.clear_run.new.bits i.accepting c.remove-claim.new.self i.blocks c.put_back.new.blocks i.unit_pages i.kept _ i.room c.args.turn.now c.args.calls c.remove-claim.result c.requires.step.claim c.args.span c.args.end c.clear_run.result
          s r entries c.append.ensures.capacity c.append.ensures.last clock next c.remove-claim.ensures.rest refl c.put.ensures.room_kept
          (closed-go i.boot.value i.entries.items c.args.turn.now i.last i.blocks c.put_back.new.blocks c.remove-claim.new.self i.room c.requires.step.claim c.args.calls c.remove-claim.result.block (stopped_at c.args.end) s.settled s.steady.waiting s.blocks_are r.claimed (accepted (goal.at.invariant_of-self-in-None-1 c).After-put) next mine.block r.brings.stop c.put_back.ensures
          (room-closed i.blocks c.put_back.new.blocks i.accepting c.remove-claim.new.self c.args.turn.now.cpu.0 i.room c.remove-claim.result (stopped_at c.args.end) s.block_room r.keeps c.remove-claim.ensures.rest c.put_back.ensures)),
      c.self.invariant.1,
    )

pub put_back-requires-clause-may : goal.put_back-requires-clause-may
put_back-requires-clause-may c = (may-back (goal.at.put_back-requires-clause-may c).In-None).may

pub put_back-requires-clause-order : goal.put_back-requires-clause-order
put_back-requires-clause-order c = (may-back (goal.at.put_back-requires-clause-order c).In-None).order

pub put_back-requires-clause-room : goal.put_back-requires-clause-room
put_back-requires-clause-room c = (may-back (goal.at.put_back-requires-clause-room c).In-None).room

pub returns-in-Some-clause-reported : goal.returns-in-Some-clause-reported
returns-in-Some-clause-reported c claim' has =
    let i = c.self.inside in
    let r = reports (goal.at.returns-in-Some-clause-reported c).After-put in
    let n = goes-on (goal.at.returns-in-Some-clause-reported c).In-Some in
    let entries = entry-is (goal.at.returns-in-Some-clause-reported c).After-append in
    let pages = pages-are (goal.at.returns-in-Some-clause-reported c).After-run_pages in
    let made = next_kept (goal.at.returns-in-Some-clause-reported c).After-take-span in
    let set = kept-again (goal.at.returns-in-Some-clause-reported c).After-add in
    let same = same-claim (claim_of c.args.self.now.boot c.args.self.now.entries c.args.turn.now.cpu.0) c.requires.step.claim claim' c.requires.step.claimed has in
    let span = c.take-span.result in
    let states = next-has i.boot.value (calls_of i.boot.value i.entries.items) c.args.calls (claim_of i.boot.value i.entries.items) i.table c.put.new.self i.bits c.clear_run.new.bits (kept_of i.accepting) c.args.turn.now.cpu.0 c.remove-claim.result c.requires.step.claim c.args.span c.args.end c.clear_run.result r c.in-Some.run' c.run_pages.result span n.whole pages c.take-span.ensures.pages c.take-span.ensures.states in
    let P : MemoryValue → Type 0 = λ m. GoesOn m (seen i.boot.value c.append.new.entries.items c.add.new.self 0) c.args.turn.now.cpu.0 claim' c.args.calls span in
    let Q : Claimed → Type 0 = λ x. GoesOn (seen i.boot.value i.entries.items i.accepting i.room) (seen i.boot.value c.append.new.entries.items c.add.new.self 0) c.args.turn.now.cpu.0 x c.args.calls span in
    subst P c.self.view_is
    (subst Q same
    (goes-on-of i.boot.value i.entries.items c.append.new.entries.items i.accepting c.add.new.self i.room c.args.turn.now.cpu.0 c.requires.step.claim c.args.calls c.in-Some.run' span c.remove-claim.result made (calls_of i.boot.value i.entries.items ++ c.args.calls)
    n.next c.remove-claim.ensures.taken (let fits = n.fits in omega (arith, fits)) (kept_of-inside i.accepting c.args.turn.now.cpu.0 c.remove-claim.result c.remove-claim.ensures.taken) set refl
    (calls-after i.boot.value i.entries.items c.append.new.entries.items c.args.turn.now i.last c.requires.step.claim c.args.calls entries) states))

pub returns-in-Some-clause-appends : goal.returns-in-Some-clause-appends
returns-in-Some-clause-appends c claim' has =
    let i = c.self.inside in
    let s = c.self.invariant.0 in
    let entries = entry-is (goal.at.returns-in-Some-clause-appends c).After-append in
    appends-reported i.boot.value i.entries.items i.accepting i.room c.args.self.now (seen i.boot.value c.append.new.entries.items c.add.new.self 0) c.args.turn.now c.append.new.turn i.last c.requires.step.claim claim' c.args.calls c.self.view_is c.requires.step.claimed has refl entries s.last_is c.append.ensures.turn

pub returns-in-Some-clause-others : goal.returns-in-Some-clause-others
returns-in-Some-clause-others c =
    let i = c.self.inside in
    let r = reports (goal.at.returns-in-Some-clause-others c).After-put in
    let entries = entry-is (goal.at.returns-in-Some-clause-others c).After-append in
    let made = next_kept (goal.at.returns-in-Some-clause-others c).After-take-span in
    let set = kept-again (goal.at.returns-in-Some-clause-others c).After-add in
    let P : MemoryValue → Type 0 = λ m. OthersKeep m (seen i.boot.value c.append.new.entries.items c.add.new.self 0) c.args.turn.now.cpu.0 in
    subst P c.self.view_is
    (others-reported i.boot.value i.entries.items c.args.calls i.table c.put.new.self i.bits c.clear_run.new.bits i.accepting c.args.turn.now.cpu.0 c.remove-claim.result c.requires.step.claim c.args.span c.args.end c.clear_run.result r c.append.new.entries.items c.add.new.self i.room 0 (Some made) (calls-after i.boot.value i.entries.items c.append.new.entries.items c.args.turn.now i.last c.requires.step.claim c.args.calls entries)
    (let W : List Entry → Type 0 = λ es. waiting_left i.boot.value es ≤ waiting_left i.boot.value i.entries.items in subst W (sym entries) (report-falls i.boot.value i.entries.items c.args.turn.now i.last c.requires.step.claim c.args.calls r.claimed)) set)

pub returns-in-None-clause-reported : goal.returns-in-None-clause-reported
returns-in-None-clause-reported c claim' has =
    let i = c.self.inside in
    let s = c.self.invariant.0 in
    let r = reports (goal.at.returns-in-None-clause-reported c).After-put in
    let next = none-next (goal.at.returns-in-None-clause-reported c).In-None in
    let entries = entry-is (goal.at.returns-in-None-clause-reported c).After-append in
    let same = same-claim (claim_of c.args.self.now.boot c.args.self.now.entries c.args.turn.now.cpu.0) c.requires.step.claim claim' c.requires.step.claimed has in
    let new = seen i.boot.value c.append.new.entries.items c.remove-claim.new.self i.room in
    let answer = answer_at c.args.end (c.remove-claim.result.cleared + c.clear_run.result) in
    let P : MemoryValue → Type 0 = λ m. ReportedBy m new c.args.turn.now c.requires.step.claim c.args.calls answer in
    let Q : Claimed → Type 0 = λ x. ReportedBy c.args.self.now new c.args.turn.now x c.args.calls answer in
    let R : Reported → Type 0 = λ a. ReportedBy c.args.self.now new c.args.turn.now claim' c.args.calls a in
    subst R (sym c.closed_by.ensures)
    (subst Q same
    (subst P c.self.view_is
    (reported-closed (seen i.boot.value i.entries.items i.accepting i.room) new c.args.turn.now c.requires.step.claim c.args.calls c.args.end (c.remove-claim.result.cleared + c.clear_run.result) r.brings.stop next
    (cleared-is i.boot.value i.entries.items c.args.calls i.table c.put.new.self i.bits c.clear_run.new.bits i.accepting c.args.turn.now.cpu.0 c.remove-claim.result c.requires.step.claim c.args.span c.args.end c.clear_run.result r)
    (closes-of i.boot.value i.entries.items c.append.new.entries.items i.accepting c.remove-claim.new.self i.room c.args.turn.now.cpu.0 (kept_of-inside i.accepting c.args.turn.now.cpu.0 c.remove-claim.result c.remove-claim.ensures.taken) c.remove-claim.ensures.rest)
    (λ stop some. let W : List Entry → Type 0 = λ es. waiting_left i.boot.value es < waiting_left i.boot.value i.entries.items in subst W (sym entries) (report-fewer i.boot.value i.entries.items c.args.turn.now i.last c.requires.step.claim c.args.calls c.requires.step.claim.block s.settled r.claimed stop next refl some)))))

pub returns-in-None-clause-appends : goal.returns-in-None-clause-appends
returns-in-None-clause-appends c claim' has =
    let i = c.self.inside in
    let s = c.self.invariant.0 in
    let entries = entry-is (goal.at.returns-in-None-clause-appends c).After-append in
    appends-reported i.boot.value i.entries.items i.accepting i.room c.args.self.now (seen i.boot.value c.append.new.entries.items c.remove-claim.new.self i.room) c.args.turn.now c.append.new.turn i.last c.requires.step.claim claim' c.args.calls c.self.view_is c.requires.step.claimed has refl entries s.last_is c.append.ensures.turn

pub returns-in-None-clause-others : goal.returns-in-None-clause-others
returns-in-None-clause-others c =
    let i = c.self.inside in
    let r = reports (goal.at.returns-in-None-clause-others c).After-put in
    let entries = entry-is (goal.at.returns-in-None-clause-others c).After-append in
    let P : MemoryValue → Type 0 = λ m. OthersKeep m (seen i.boot.value c.append.new.entries.items c.remove-claim.new.self i.room) c.args.turn.now.cpu.0 in
    subst P c.self.view_is
    (others-reported i.boot.value i.entries.items c.args.calls i.table c.put.new.self i.bits c.clear_run.new.bits i.accepting c.args.turn.now.cpu.0 c.remove-claim.result c.requires.step.claim c.args.span c.args.end c.clear_run.result r c.append.new.entries.items c.remove-claim.new.self i.room i.room None (calls-after i.boot.value i.entries.items c.append.new.entries.items c.args.turn.now i.last c.requires.step.claim c.args.calls entries)
    (let W : List Entry → Type 0 = λ es. waiting_left i.boot.value es ≤ waiting_left i.boot.value i.entries.items in subst W (sym entries) (report-falls i.boot.value i.entries.items c.args.turn.now i.last c.requires.step.claim c.args.calls r.claimed)) c.remove-claim.ensures.rest)

pub returns-in-Some-clause-brings : goal.returns-in-Some-clause-brings
returns-in-Some-clause-brings c claim' has = brings (goal.at.returns-in-Some-clause-brings c).After-put claim' has

pub returns-in-None-clause-brings : goal.returns-in-None-clause-brings
returns-in-None-clause-brings c claim' has = brings (goal.at.returns-in-None-clause-brings c).After-put claim' has
