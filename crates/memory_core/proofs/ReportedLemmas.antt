use Rattle.std.proofs.Common.{◌≡◌, ◌≢◌, ℕ, ◌+◌, ◌^◌, ◌<◌, ◌≤◌, true, Option, None, Some, List, [], ◌∷◌, ◌++◌, refl, max, sym, ◌∙◌, ap, subst, arith, cond}
use Rattle.std.specs.Prelude.{slice_set, sum_by, IfSome}
use Rattle.std.proofs.lemmas.List.Sums.{sum_by-set}
use Rattle.guest_base.specs.Ranges.{in_range}
use Rattle.guest_base.specs.declared.memory.Page.{Page}
use Rattle.guest_base.specs.declared.memory.Units.{Units}
use Rattle.event_core.specs.declared.boot.Boot.{Boot}
use Rattle.event_core.specs.declared.entry.Entry.{Entry}
use Rattle.event_core.specs.declared.entry.Turn.{Turn}
use Rattle.event_core.specs.declared.event.Event.TheVariants.{Report}
use Rattle.event_core.specs.declared.module_call.ModuleCall.{ModuleCall}
use Rattle.event_core.specs.Acceptance.{stop_of}
use Rattle.event_core.specs.Calls.{calls_of}
use Rattle.event_core.specs.Claims.{Claimed, claim_of}
use Rattle.event_core.specs.MemoryRows.{page_state, pages_first, pages_count, next_run, report_event, cleared_by}
use Rattle.event_core.specs.Units.{unit_pages}
use Rattle.page_module.specs.Spans.{Taken}
use Rattle.page_module.specs.States.{state_in}
use Rattle.page_module.specs.Tables.{Table, without}
use Rattle.page_module.specs.declared.ticket.Ticket.{Ticket}
use Rattle.event_core.specs.Table.{Bits}
use Rattle.accept_sizes.specs.Accepts.{pending_of}
use Rattle.accept_sizes.specs.Ends.{stopped_at}
use Rattle.accept_sizes.specs.declared.accept.RunEnd.{RunEnd}
use Rattle.accept_sizes.specs.declared.accept.RunEnd.TheVariants.{Whole, Stopped}
use Rattle.accepting_ranges.specs.Claims.{kept_of}
use Rattle.accepting_ranges.proofs.ClaimLemmas.{kept_of-inside}
use Rattle.memory_core.specs.Away.{BringsSince, RunsKeep}
use Rattle.memory_core.specs.Answers.{ReportedBy, Closes, OthersKeep, answer_at}
use Rattle.memory_core.specs.Bitmaps.{bits_in, SameBits, ClearedIn, next_of}
use Rattle.memory_core.specs.Value.{MemoryValue, Handed, handed_to}
use Rattle.memory_core.specs.Waiting.{waiting_left}
use Rattle.memory_core.specs.Steps.{BringsTo, Appends, bare_entry, last_stamp}
use Rattle.memory_core.specs.StandsFor.{HoldsFor, handed_for, reports_of}
use Rattle.memory_core.specs.declared.claims.OpenClaim.{OpenClaim}
use Rattle.memory_core.proofs.BegunLemmas.{seen, appends-of}
use Rattle.memory_core.proofs.CloseLemmas.{ReportsIn}
use Rattle.memory_core.proofs.HoldsLemmas.{kept-open}
use Rattle.memory_core.proofs.KeptLemmas.{set-twice}
use Rattle.memory_core.proofs.OpenLemmas.{handed-is, if-in, kept-other}
use Rattle.memory_core.proofs.ReportLemmas.{opened, counted, others-states, next-is, next-few, next-facts, not-stopped}

pub same-claim : (found : Option Claimed) (a b : Claimed) → found ≡ Some a → found ≡ Some b → a ≡ b
same-claim found a b is_a is_b = let two : Some a ≡ Some b = sym is_a ∙ is_b in cc

handed-ticket : (found : Option Handed) (o : OpenClaim) (ticket : Ticket) → found ≡ handed_for (Some o) → IfSome found (λ h. h.ticket ≡ ticket) → o.ticket ≡ ticket
handed-ticket found o ticket is has = let P : Option Handed → Type 0 = λ h. IfSome h (λ (x : Handed). x.ticket ≡ ticket) in let here : IfSome (handed_for (Some o)) (λ (x : Handed). x.ticket ≡ ticket) = subst P is has in here

-- calls brought the span of an open run from the states that its pages have now
brings-still : (memory : MemoryValue) (cpu : ℕ) (claim : Claimed) (span : Taken) (calls : List ModuleCall) (end : RunEnd) → claim_of memory.boot memory.entries cpu ≡ Some claim → RunsKeep memory.boot memory.entries → BringsSince memory cpu claim span calls end
    → BringsTo memory.boot (calls_of memory.boot memory.entries) claim.run span calls end
brings-still memory cpu claim span calls end has keep b = record {
  taken = b.brings.taken;
  has = record {
    pages = b.brings.has.pages;
    states = λ page.
        b.brings.has.states page
        ∙ if-in (in_range (pages_first memory.boot claim.run) (pages_count memory.boot claim.run) page) (page_state memory.boot (calls_of memory.boot b.before) page) (page_state memory.boot (calls_of memory.boot memory.entries) page) None
        (keep cpu claim b.before b.rest page has b.split b.others);
  };
  accepts = b.brings.accepts;
  stop = b.brings.stop;
}

-- the reported run, of what a report requires and its parts give
pub reports-of : (boot : Boot) (entries : List Entry) (claims : List (Option OpenClaim)) (room : ℕ) (v : MemoryValue) (now : List ModuleCall) (table table' : Table) (bits bits' : Option Bits) (cpu : ℕ) (o : OpenClaim) (claim : Claimed) (span : Taken) (end : RunEnd) (cleared : ℕ)
    → seen boot entries claims room ≡ v → HoldsFor boot (calls_of boot entries) (claim_of boot entries) table.runs table.out (bits_in bits) (kept_of claims) → SameBits boot bits → 0 < unit_pages boot
    → claim_of v.boot v.entries cpu ≡ Some claim → kept_of claims cpu ≡ Some o → IfSome (handed_to v cpu) (λ h. h.ticket ≡ span.ticket)
    → RunsKeep boot entries → BringsSince v cpu claim span now end
    → ClearedIn bits bits' (pending_of span) o.run cleared
    → ((page : ℕ) → state_in table'.runs page ≡ cond (in_range span.ticket.pages.first span.ticket.pages.count page) (state_in span.runs page) (state_in table.runs page))
    → table'.out ≡ without span.ticket table.out
    → ReportsIn boot entries now table table' bits bits' claims cpu o claim span end cleared
reports-of boot entries claims room v now table table' bits bits' cpu o claim span end cleared view holds same some claimed keeps ticket stay since clears back out =
    let claimed_here : claim_of boot entries cpu ≡ Some claim = ap (λ (m : MemoryValue). claim_of m.boot m.entries cpu) view ∙ claimed in
    let found = kept-open boot (bits_in bits) table.out (kept_of claims cpu) (claim_of boot entries cpu) o keeps (holds.open_claims cpu) in
    let run : o.run ≡ claim.run = found.2.run ∙ ap (λ (c : Claimed). c.run) (same-claim (claim_of boot entries cpu) found.0 claim found.1 claimed_here) in
    let B : MemoryValue → Type 0 = λ m. BringsSince m cpu claim span now end in
    let C : Units → Type 0 = λ u. ClearedIn bits bits' (pending_of span) u cleared in
    record {
      holds = holds;
      same_bits = same;
      pages = some;
      claimed = claimed_here;
      keeps = keeps;
      ticket = handed-ticket (handed_to v cpu) o span.ticket (ap (λ (m : MemoryValue). handed_to m cpu) (sym view) ∙ handed-is claims cpu ∙ ap handed_for keeps) ticket;
      brings = brings-still (seen boot entries claims room) cpu claim span now end claimed_here stay (subst B (sym view) since);
      clears = subst C run clears;
      back = back;
      out = out;
    }

-- an open claim's reports are kept
pub kept-covers : (claims : List (Option OpenClaim)) (cpu kept : ℕ) (o : OpenClaim) → kept ≡ sum_by reports_of claims → kept_of claims cpu ≡ Some o → o.room + 1 ≤ kept
kept-covers claims cpu kept o is keeps =
    let sums = sum_by-set reports_of claims cpu None None (kept_of-inside claims cpu o keeps) in
    let was : reports_of (kept_of claims cpu) ≡ o.room + 1 = ap reports_of keeps in
    omega (arith, sums, was, is)

module _ (boot : Boot) (entries : List Entry) (now : List ModuleCall) (table table' : Table) (bits bits' : Option Bits) (claims : List (Option OpenClaim)) (cpu : ℕ) (o : OpenClaim) (claim : Claimed) (span : Taken) (end : RunEnd) (cleared : ℕ) (r : ReportsIn boot entries now table table' bits bits' claims cpu o claim span end cleared) where
  -- the kept runs have the definition's next run
  pub next-found : next_of o.later.items o.opened end ≡ next_run boot claim (stop_of now)
  next-found =
      let mine = opened boot (calls_of boot entries) now (claim_of boot entries) table table' bits bits' (kept_of claims) cpu o claim span end cleared r in
      next-is boot claim o.later.items o.opened end (stop_of now) r.brings.stop mine.later

  -- the event is the definition's
  pub event-is : (next : Option Units) → next ≡ next_of o.later.items o.opened end → Report o.run now (stopped_at end) next ≡ report_event boot claim now
  event-is next is =
      let mine = opened boot (calls_of boot entries) now (claim_of boot entries) table table' bits bits' (kept_of claims) cpu o claim span end cleared r in
      ap (λ u. Report u now (stopped_at end) next) mine.run ∙ ap (λ p. Report claim.run now p next) (sym r.brings.stop) ∙ ap (Report claim.run now (stop_of now)) (is ∙ next-found)

  -- the units that the claim has cleared
  pub cleared-is : o.cleared + cleared ≡ cleared_by boot entries claim now
  cleared-is =
      let mine = opened boot (calls_of boot entries) now (claim_of boot entries) table table' bits bits' (kept_of claims) cpu o claim span end cleared r in
      ap (λ n. n + cleared) mine.cleared ∙ ap (λ n. claim.cleared + n) (counted boot (calls_of boot entries) now (claim_of boot entries) table table' bits bits' (kept_of claims) cpu o claim span end cleared r)

  -- what is out with the others stays
  pub others-reported : (entries' : List Entry) (claims' : List (Option OpenClaim)) (room room' : ℕ) (k : Option OpenClaim) → calls_of boot entries' ≡ calls_of boot entries ++ now → waiting_left boot entries' ≤ waiting_left boot entries → claims' ≡ slice_set claims cpu k → OthersKeep (seen boot entries claims room) (seen boot entries' claims' room') cpu
  others-reported entries' claims' room room' k calls falls is = record {
    handed = λ other differ. handed-is claims' other ∙ ap (λ cs. handed_for (kept_of cs other)) is ∙ ap handed_for (kept-other claims cpu other k differ) ∙ sym (handed-is claims other);
    states = λ other b page differ has inside.
        ap (λ cs. page_state boot cs page) calls
        ∙ others-states boot (calls_of boot entries) now (claim_of boot entries) table table' bits bits' (kept_of claims) cpu o claim span end cleared r other b page differ has inside;
    waiting = falls;
  }

  -- the entry is the definition's
  pub entries-are : (entries' : List Entry) (turn : Turn) (last : ℕ) (stopped : Option Page) (next : Option Units) → stopped ≡ stopped_at end → next ≡ next_of o.later.items o.opened end
      → entries' ≡ entries ++ bare_entry turn last (Report o.run now stopped next) ∷ [] → entries' ≡ entries ++ bare_entry turn last (report_event boot claim now) ∷ []
  entries-are entries' turn last stopped next at is made = made ∙ ap (λ e. entries ++ bare_entry turn last e ∷ []) (ap (λ p. Report o.run now p next) at ∙ event-is next is)

  -- what is known of the run with which the claim goes on
  pub record NextRun (run : Units) : Type 0 where
    pub next : next_run boot claim (stop_of now) ≡ Some run
    pub stop : stop_of now ≡ None
    pub whole : next_run boot claim None ≡ Some run
    pub some : 0 < run.count
    pub fits : run.count ≤ o.room
    pub set : (unit : ℕ) → in_range run.first run.count unit ≡ true → bits_in bits' unit ≡ true

  pub next-opens : (next : Option Units) (run : Units) → next ≡ next_of o.later.items o.opened end → next ≡ Some run → NextRun run
  next-opens next run found is =
      let here : next_run boot claim (stop_of now) ≡ Some run = sym (found ∙ next-found) ∙ is in
      let stop = not-stopped boot claim (stop_of now) run here in
      let whole : next_run boot claim None ≡ Some run = ap (next_run boot claim) (sym stop) ∙ here in
      let few = next-few boot (calls_of boot entries) now (claim_of boot entries) table table' bits bits' (kept_of claims) cpu o claim span end cleared r run whole in
      record {
        next = here;
        stop = stop;
        whole = whole;
        some = few.0;
        fits = few.1;
        set = (next-facts boot (calls_of boot entries) now (claim_of boot entries) table table' bits bits' (kept_of claims) cpu o claim span end cleared r run whole).set;
      }

-- the lock's last stamp, as it is kept
pub clock-kept : (boot : Boot) (entries : List Entry) (claims : List (Option OpenClaim)) (room clock last : ℕ) (v : MemoryValue) → seen boot entries claims room ≡ v → last ≡ last_stamp entries → clock ≤ max (2 ^ 64) (last_stamp v.entries) → clock ≤ max (2 ^ 64) last
clock-kept boot entries claims room clock last v view is low = let P : ℕ → Type 0 = λ n. clock ≤ max (2 ^ 64) n in subst P (sym (is ∙ ap (λ (m : MemoryValue). last_stamp m.entries) view)) low

-- the claim was taken away, and its next run is kept in its place
pub kept-next : (claims left claims' : List (Option OpenClaim)) (cpu cpu' : ℕ) (k next : OpenClaim) → left ≡ slice_set claims cpu None → claims' ≡ slice_set left cpu' (Some k) → cpu' ≡ cpu → k ≡ next → claims' ≡ slice_set claims cpu (Some next)
kept-next claims left claims' cpu cpu' k next rest is same made =
    is ∙ ap (λ n. slice_set left n (Some k)) same ∙ ap (λ cs. slice_set cs cpu (Some k)) rest ∙ set-twice claims cpu None (Some k) ∙ ap (λ x. slice_set claims cpu (Some x)) made

pub reported-closed : (old new : MemoryValue) (turn : Turn) (claim : Claimed) (calls : List ModuleCall) (end : RunEnd) (count : ℕ) → stop_of calls ≡ stopped_at end → next_run old.boot claim (stop_of calls) ≡ None → count ≡ cleared_by old.boot old.entries claim calls → Closes old new turn.cpu.0 → (stop_of calls ≡ None → claim.block ≢ None → waiting_left old.boot new.entries < waiting_left old.boot old.entries) → ReportedBy old new turn claim calls (answer_at end count)
reported-closed old new turn claim calls Whole count stop none is closes fewer = (stop, none, is, closes, fewer stop)
reported-closed old new turn claim calls (Stopped page) count stop none is closes fewer = (λ no. (let bad : Some page ≡ None = sym stop ∙ no in cc), closes)

-- the entry of the report was appended
pub appends-reported : (boot : Boot) (entries : List Entry) (claims : List (Option OpenClaim)) (room : ℕ) (v new : MemoryValue) (turn turned : Turn) (last : ℕ) (claim claim' : Claimed) (now : List ModuleCall)
    → seen boot entries claims room ≡ v → claim_of v.boot v.entries turn.cpu.0 ≡ Some claim → claim_of v.boot v.entries turn.cpu.0 ≡ Some claim'
    → new.boot ≡ boot → new.entries ≡ entries ++ bare_entry turn last (report_event boot claim now) ∷ [] → last ≡ last_stamp entries → turned ≡ record turn { clock = max turn.clock last + 1 }
    → Appends v new turn turned (report_event v.boot claim' now)
appends-reported boot entries claims room v new turn turned last claim claim' now view is_claim is_claim' same made last_is clock =
    let P : MemoryValue → Type 0 = λ m. Appends m new turn turned (report_event m.boot claim now) in
    let Q : Claimed → Type 0 = λ x. Appends v new turn turned (report_event v.boot x now) in
    subst Q (same-claim (claim_of v.boot v.entries turn.cpu.0) claim claim' is_claim is_claim')
    (subst P view (appends-of (seen boot entries claims room) new turn turned last (report_event boot claim now) (report_event boot claim now) same made last_is refl clock))
