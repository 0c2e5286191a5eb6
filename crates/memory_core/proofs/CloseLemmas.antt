use Rattle.std.proofs.Common.{◌≡◌, ℕ, ◌+◌, ◌-◌, ◌*◌, ◌^◌, ◌<◌, ◌≤◌, true, Option, None, Some, List, [], ◌∷◌, ◌++◌, sym, ◌∙◌, ap, subst, arith, cond, length, max}
use Rattle.std.specs.Prelude.{sum_by, slice_set, Vec, vec_capacity}
use Rattle.std.specs.declared.alloc.Global.{Global}
use Rattle.std.proofs.lemmas.List.{length_push, length-set}
use Rattle.std.proofs.lemmas.List.Sums.{sum_by-set}
use Rattle.guest_base.specs.Ranges.{in_range}
use Rattle.guest_base.specs.declared.memory.Pages.{Pages}
use Rattle.guest_base.specs.declared.memory.Units.{Units}
use Rattle.event_core.specs.declared.boot.Boot.{Boot}
use Rattle.event_core.specs.declared.entry.Entry.{Entry}
use Rattle.event_core.specs.declared.entry.Turn.{Turn}
use Rattle.event_core.specs.declared.module_call.ModuleCall.{ModuleCall}
use Rattle.event_core.specs.Acceptance.{stop_of}
use Rattle.event_core.specs.Calls.{calls_of}
use Rattle.event_core.specs.Claims.{Claimed, claim_of, claim_step}
use Rattle.event_core.specs.MemoryRows.{page_state, next_run, report_event}
use Rattle.event_core.proofs.StandingLemmas.{calls_of-push}
use Rattle.page_module.specs.Spans.{Taken}
use Rattle.page_module.specs.States.{state_in}
use Rattle.page_module.specs.Tables.{Table, is_out, run_count}
use Rattle.page_module.specs.declared.ticket.Ticket.{Ticket}
use Rattle.page_module.proofs.OutLemmas.{length-without}
use Rattle.event_core.specs.Table.{Bits}
use Rattle.accept_sizes.specs.Accepts.{pending_of}
use Rattle.accept_sizes.specs.declared.accept.RunEnd.{RunEnd}
use Rattle.block_allocator.specs.State.{State}
use Rattle.accepting_ranges.specs.Claims.{kept_of}
use Rattle.accepting_ranges.proofs.ClaimLemmas.{kept_of-inside}
use Rattle.memory_core.specs.Bitmaps.{bits_in}
use Rattle.memory_core.specs.KeptBlocks.{BlocksAfter}
use Rattle.memory_core.specs.Settled.{Settled}
use Rattle.memory_core.specs.Steps.{bare_entry, last_stamp, pages_of}
use Rattle.memory_core.specs.StandsFor.{StandsFor, HoldsFor, spans_of, reports_of}
use Rattle.memory_core.specs.declared.claims.OpenClaim.{OpenClaim}
use Rattle.memory_core.proofs.BlockStepLemmas.{BlocksGo}
use Rattle.memory_core.proofs.HoldsLemmas.{OthersSame}
use Rattle.memory_core.proofs.BitsLemmas.{cleared-same}
use Rattle.memory_core.proofs.StepLemmas.{steady-push, last-push, claim-mine, claim-other}
use Rattle.memory_core.proofs.OpenLemmas.{kept-same, kept-other, cpus-set}
use Rattle.memory_core.proofs.ReportLemmas.{others-states, Reports, opened, returned, went-on, closes, continues, next_claim}

-- the reported run of a memory that stands for its entries
abbrev pub ReportsIn : Boot → List Entry → List ModuleCall → Table → Table → Option Bits → Option Bits → List (Option OpenClaim) → ℕ → OpenClaim → Claimed → Taken → RunEnd → ℕ → Type 0
ReportsIn boot entries now table table' bits bits' claims cpu o claim span end cleared =
    Reports boot (calls_of boot entries) now (claim_of boot entries) table table' bits bits' (kept_of claims) cpu o claim span end cleared

-- the claims and calls after the report
pub calls-after : (boot : Boot) (entries entries' : List Entry) (turn : Turn) (last : ℕ) (claim : Claimed) (now : List ModuleCall) → entries' ≡ entries ++ bare_entry turn last (report_event boot claim now) ∷ [] → calls_of boot entries' ≡ calls_of boot entries ++ now
calls-after boot entries entries' turn last claim now is = ap (calls_of boot) is ∙ calls_of-push boot entries (bare_entry turn last (report_event boot claim now))

pub claim-after : (boot : Boot) (entries entries' : List Entry) (turn : Turn) (last : ℕ) (claim : Claimed) (now : List ModuleCall) → entries' ≡ entries ++ bare_entry turn last (report_event boot claim now) ∷ [] → claim_of boot entries turn.cpu.0 ≡ Some claim
    → claim_of boot entries' turn.cpu.0 ≡ claim_step boot (calls_of boot entries) (Some claim) (report_event boot claim now)
claim-after boot entries entries' turn last claim now is has =
    ap (λ es. claim_of boot es turn.cpu.0) is ∙ claim-mine boot entries turn last (report_event boot claim now) ∙ ap (λ c. claim_step boot (calls_of boot entries) c (report_event boot claim now)) has

others-after : (boot : Boot) (entries entries' : List Entry) (turn : Turn) (last : ℕ) (claim : Claimed) (now : List ModuleCall) (claims claims' : List (Option OpenClaim)) (k : Option OpenClaim) → entries' ≡ entries ++ bare_entry turn last (report_event boot claim now) ∷ [] → claims' ≡ slice_set claims turn.cpu.0 k → OthersSame turn.cpu.0 (claim_of boot entries) (claim_of boot entries') (kept_of claims) (kept_of claims')
others-after boot entries entries' turn last claim now claims claims' k is claims_is = record {
  claimed = λ d differ. ap (λ es. claim_of boot es d) is ∙ claim-other boot entries turn last (report_event boot claim now) d differ;
  keeps = λ d differ. ap (λ cs. kept_of cs d) claims_is ∙ kept-other claims turn.cpu.0 d k differ;
}

-- ---- the claim is closed

pub stands-closed : (boot : Boot) (entries entries' : Vec Entry Global) (last last' : ℕ) (table table' : Table) (bits bits' : Option Bits) (claims claims' : List (Option OpenClaim)) (blocks blocks' : State) (pages kept kept' room : ℕ) (turn : Turn) (now : List ModuleCall) (o : OpenClaim) (claim : Claimed) (span : Taken) (end : RunEnd) (cleared : ℕ)
    → StandsFor boot entries last table bits claims blocks pages kept room
    → ReportsIn boot entries.items now table table' bits bits' claims turn.cpu.0 o claim span end cleared
    → entries'.items ≡ entries.items ++ bare_entry turn last (report_event boot claim now) ∷ [] → vec_capacity entries ≤ vec_capacity entries'
    → last' ≡ max turn.clock last + 1 → turn.clock ≤ max (2 ^ 64) last
    → next_run boot claim (stop_of now) ≡ None
    → claims' ≡ slice_set claims turn.cpu.0 None → kept' ≡ kept - (o.room + 1) → table.room ≤ table'.room → BlocksGo boot entries.items (bare_entry turn last (report_event boot claim now)) blocks' claims' room
    → StandsFor boot entries' last' table' bits' claims' blocks' pages kept' room
stands-closed boot entries entries' last last' table table' bits bits' claims claims' blocks blocks' pages kept kept' room turn now o claim span end cleared s r is more last_is clock none claims_is kept_is has go =
    let cpu = turn.cpu.0 in
    let calls = calls_of boot entries.items in
    let mine = opened boot calls now (claim_of boot entries.items) table table' bits bits' (kept_of claims) cpu o claim span end cleared r in
    let inside = kept_of-inside claims cpu o r.keeps in
    let long : length entries'.items ≡ length entries.items + 1 = ap (λ (es : List Entry). length es) is ∙ length_push entries.items (bare_entry turn last (report_event boot claim now)) in
    let sums = sum_by-set reports_of claims cpu None None inside in
    let spans = sum_by-set spans_of claims cpu None None inside in
    let reports_was : reports_of (kept_of claims cpu) ≡ o.room + 1 = ap reports_of r.keeps in
    let spans_was : spans_of (kept_of claims cpu) ≡ 1 = ap spans_of r.keeps in
    let reports_now = ap (λ (cs : List (Option OpenClaim)). sum_by reports_of cs) claims_is in
    let spans_now = ap (λ (cs : List (Option OpenClaim)). sum_by spans_of cs) claims_is in
    let is_out_now : is_out table.out span.ticket ≡ true = ap (is_out table.out) (sym r.ticket) ∙ mine.out in
    let fewer_out = length-without table.out span.ticket is_out_now in
    let out_now = ap (λ (ts : List Ticket). length ts) r.out in
    let fits = s.entry_room in
    let reports = s.reports in
    let spans_were = s.spans in
    let pieces = s.table_room in
    let stamps = s.stamps in
    let kept_mine : kept_of claims' cpu ≡ None = ap (λ cs. kept_of cs cpu) claims_is ∙ kept-same claims cpu None inside in
    let others = others-after boot entries.items entries'.items turn last claim now claims claims' None is claims_is in
    let gone : claim_of boot entries'.items cpu ≡ None = claim-after boot entries.items entries'.items turn last claim now is r.claimed ∙ closes boot calls now claim (stop_of now) (next_run boot claim (stop_of now)) none in
    let P : List ModuleCall → Type 0 = λ cs. HoldsFor boot cs (claim_of boot entries'.items) table'.runs table'.out (bits_in bits') (kept_of claims') in
    record {
      booted = s.booted;
      holds = subst P (sym (calls-after boot entries.items entries'.items turn last claim now is))
          (returned boot calls now (claim_of boot entries.items) table table' bits bits' (kept_of claims) cpu o claim span end cleared r (claim_of boot entries'.items) (kept_of claims') others gone kept_mine);
      same_bits = cleared-same boot bits bits' (pending_of span) claim.run cleared s.same_bits r.clears;
      last_is = last_is ∙ sym (ap last_stamp is ∙ last-push entries.items turn last (report_event boot claim now) s.last_is);
      places = ap (λ (cs : List (Option OpenClaim)). length cs) claims_is ∙ length-set claims cpu None ∙ s.places;
      cpus = cpus-set claims claims' cpu boot.cpus None claims_is inside (λ k no. let bad : None ≡ Some k = no in cc) s.cpus;
      spans = omega (arith, spans, spans_was, spans_now, fewer_out, out_now, spans_were);
      pages_are = s.pages_are;
      reports = omega (arith, sums, reports_was, reports_now, reports, kept_is);
      entry_room = omega (arith, long, fits, more, kept_is, sums, reports_was, reports);
      table_room = omega (arith, pieces, has);
      stamps = omega (arith, last_is, clock, stamps, kept_is, sums, reports_was, reports);
      steady =
          steady-push boot entries.items entries'.items turn last (report_event boot claim now) is s.last_is s.steady go.falls
          (λ other b page differ has inside. ap (λ cs. page_state boot cs page) (calls_of-push boot entries.items (bare_entry turn last (report_event boot claim now))) ∙ others-states boot calls now (claim_of boot entries.items) table table' bits bits' (kept_of claims) cpu o claim span end cleared r other b page differ has inside);
      settled = subst (Settled boot) (sym is) go.settled;
      blocks_are = (let B : List Entry → Type 0 = λ es. BlocksAfter boot es blocks' in subst B (sym is) go.blocks_are);
      block_room = go.enough;
    }

-- ---- the claim goes on

pub stands-next : (boot : Boot) (entries entries' : Vec Entry Global) (last last' : ℕ) (table table' last_table : Table) (bits bits' : Option Bits) (claims claims' : List (Option OpenClaim)) (blocks blocks' : State) (pages kept kept' room : ℕ) (turn : Turn) (now : List ModuleCall) (o next : OpenClaim) (claim : Claimed) (span span' : Taken) (end : RunEnd) (cleared : ℕ) (run : Units) (asked : Pages)
    → StandsFor boot entries last table bits claims blocks pages kept room
    → ReportsIn boot entries.items now table table' bits bits' claims turn.cpu.0 o claim span end cleared
    → entries'.items ≡ entries.items ++ bare_entry turn last (report_event boot claim now) ∷ [] → vec_capacity entries ≤ vec_capacity entries'
    → last' ≡ max turn.clock last + 1 → turn.clock ≤ max (2 ^ 64) last
    → stop_of now ≡ None → next_run boot claim (stop_of now) ≡ Some run → 0 < run.count → run.count ≤ o.room
    → next ≡ record o { run = run; opened = o.opened + 1; cleared = o.cleared + cleared; ticket = span'.ticket; room = o.room - run.count }
    → cleared ≤ claim.run.count → o.ticket.room ≤ table'.room → asked ≡ pages_of boot run → span'.ticket.pages ≡ asked
    → ((page : ℕ) → state_in last_table.runs page ≡ cond (in_range asked.first asked.count page) None (state_in table'.runs page))
    → last_table.out ≡ table'.out ++ span'.ticket ∷ [] → table'.room ≤ span'.ticket.room + (2 * run_count (state_in table'.runs) asked + 2)
    → claims' ≡ slice_set claims turn.cpu.0 (Some next) → kept' ≡ kept - run.count → BlocksGo boot entries.items (bare_entry turn last (report_event boot claim now)) blocks' claims' 0
    → StandsFor boot entries' last' last_table bits' claims' blocks' pages kept' 0
stands-next boot entries entries' last last' table table' last_table bits bits' claims claims' blocks blocks' pages kept kept' room turn now o next claim span span' end cleared run asked s r is more last_is clock stop is_next some less next_is few has asked_is taken rest out given claims_is kept_is go =
    let cpu = turn.cpu.0 in
    let calls = calls_of boot entries.items in
    let mine = opened boot calls now (claim_of boot entries.items) table table' bits bits' (kept_of claims) cpu o claim span end cleared r in
    let inside = kept_of-inside claims cpu o r.keeps in
    let long : length entries'.items ≡ length entries.items + 1 = ap (λ (es : List Entry). length es) is ∙ length_push entries.items (bare_entry turn last (report_event boot claim now)) in
    let sums = sum_by-set reports_of claims cpu (Some next) None inside in
    let spans = sum_by-set spans_of claims cpu (Some next) None inside in
    let reports_was : reports_of (kept_of claims cpu) ≡ o.room + 1 = ap reports_of r.keeps in
    let spans_was : spans_of (kept_of claims cpu) ≡ 1 = ap spans_of r.keeps in
    let next_room : next.room ≡ o.room - run.count = ap (λ (k : OpenClaim). k.room) next_is in
    let reports_now = ap (λ (cs : List (Option OpenClaim)). sum_by reports_of cs) claims_is in
    let spans_now = ap (λ (cs : List (Option OpenClaim)). sum_by spans_of cs) claims_is in
    let is_out_now : is_out table.out span.ticket ≡ true = ap (is_out table.out) (sym r.ticket) ∙ mine.out in
    let fewer_out = length-without table.out span.ticket is_out_now in
    let out_now = ap (λ (ts : List Ticket). length ts) r.out in
    let out_last : length last_table.out ≡ length table'.out + 1 = ap (λ (ts : List Ticket). length ts) out ∙ length_push table'.out span'.ticket in
    let fits = s.entry_room in
    let reports = s.reports in
    let spans_were = s.spans in
    let stamps = s.stamps in
    let kept_mine : kept_of claims' cpu ≡ Some next = ap (λ cs. kept_of cs cpu) claims_is ∙ kept-same claims cpu (Some next) inside in
    let others = others-after boot entries.items entries'.items turn last claim now claims claims' (Some next) is claims_is in
    let now_claim : claim_of boot entries'.items cpu ≡ Some (next_claim boot calls now claim run) = claim-after boot entries.items entries'.items turn last claim now is r.claimed ∙ continues boot calls now claim (stop_of now) (next_run boot claim (stop_of now)) run stop is_next in
    let P : List ModuleCall → Type 0 = λ cs. HoldsFor boot cs (claim_of boot entries'.items) last_table.runs last_table.out (bits_in bits') (kept_of claims') in
    record {
      booted = s.booted;
      holds = subst P (sym (calls-after boot entries.items entries'.items turn last claim now is))
          (went-on boot calls now (claim_of boot entries.items) table table' bits bits' (kept_of claims) cpu o claim span end cleared r (claim_of boot entries'.items) (kept_of claims') last_table run asked span' next others now_claim kept_mine next_is few
          (ap (next_run boot claim) (sym stop) ∙ is_next) has asked_is taken rest out given);
      same_bits = cleared-same boot bits bits' (pending_of span) claim.run cleared s.same_bits r.clears;
      last_is = last_is ∙ sym (ap last_stamp is ∙ last-push entries.items turn last (report_event boot claim now) s.last_is);
      places = ap (λ (cs : List (Option OpenClaim)). length cs) claims_is ∙ length-set claims cpu (Some next) ∙ s.places;
      cpus = cpus-set claims claims' cpu boot.cpus (Some next) claims_is inside (λ k same. s.cpus cpu o r.keeps) s.cpus;
      spans = omega (arith, spans, spans_was, spans_now, fewer_out, out_now, out_last, spans_were);
      pages_are = s.pages_are;
      reports = omega (arith, sums, reports_was, reports_now, reports, kept_is, next_room, less);
      entry_room = omega (arith, long, fits, more, kept_is, sums, reports_was, reports, some, less, next_room);
      table_room = omega arith;
      stamps = omega (arith, last_is, clock, stamps, kept_is, sums, reports_was, reports, some, less, next_room);
      steady =
          steady-push boot entries.items entries'.items turn last (report_event boot claim now) is s.last_is s.steady go.falls
          (λ other b page differ has inside. ap (λ cs. page_state boot cs page) (calls_of-push boot entries.items (bare_entry turn last (report_event boot claim now))) ∙ others-states boot calls now (claim_of boot entries.items) table table' bits bits' (kept_of claims) cpu o claim span end cleared r other b page differ has inside);
      settled = subst (Settled boot) (sym is) go.settled;
      blocks_are = (let B : List Entry → Type 0 = λ es. BlocksAfter boot es blocks' in subst B (sym is) go.blocks_are);
      block_room = go.enough;
    }
