use Rattle.std.proofs.Common.{◌≡◌, ◌≢◌, ℕ, ◌+◌, ◌-◌, ◌*◌, ◌^◌, ◌<◌, ◌≤◌, Bool, true, false, Option, None, Some, List, [], ◌∷◌, ◌++◌, refl, sym, ◌∙◌, ap, subst, arith, cond, length, max}
use Rattle.std.specs.Prelude.{sum_by, slice_set, Vec, vec_capacity}
use Rattle.std.specs.declared.alloc.Global.{Global}
use Rattle.std.proofs.Math.Nat.{mul-le-mul_right}
use Rattle.std.proofs.lemmas.List.{length_push, length-set}
use Rattle.std.proofs.lemmas.List.Sums.{sum_by-set}
use Rattle.guest_base.specs.Ranges.{in_range}
use Rattle.guest_base.specs.Search.{count_such}
use Rattle.guest_base.proofs.SearchLemmas.{count_such_same}
use Rattle.guest_base.specs.declared.memory.Block.{Block}
use Rattle.guest_base.specs.declared.memory.Pages.{Pages}
use Rattle.guest_base.specs.declared.memory.Units.{Units}
use Rattle.event_core.specs.declared.boot.Boot.{Boot}
use Rattle.event_core.specs.declared.entry.Entry.{Entry}
use Rattle.event_core.specs.declared.entry.Turn.{Turn}
use Rattle.event_core.specs.declared.event.Event.TheVariants.{Claim}
use Rattle.event_core.specs.declared.module_call.ModuleCall.{ModuleCall}
use Rattle.event_core.specs.Calls.{calls_of}
use Rattle.event_core.specs.Claims.{Claimed, claim_of, claim_step, units_meet}
use Rattle.event_core.specs.MemoryRows.{page_state, pages_first, pages_count}
use Rattle.event_core.specs.Units.{bit_after, unit_pages, units_end, first_run}
use Rattle.page_module.specs.Spans.{Taken}
use Rattle.page_module.specs.States.{state_in}
use Rattle.page_module.specs.Tables.{Table, is_out, run_count}
use Rattle.page_module.specs.declared.ticket.Ticket.{Ticket}
use Rattle.page_module.proofs.OutLemmas.{is_out-last, is_out-more}
use Rattle.event_core.specs.Table.{Bits}
use Rattle.block_allocator.specs.State.{State}
use Rattle.accepting_ranges.specs.Claims.{kept_of, MeetsNone}
use Rattle.memory_core.specs.OpenClaims.{units_of}
use Rattle.memory_core.specs.Bitmaps.{bits_in, AreRunsFrom}
use Rattle.memory_core.specs.KeptBlocks.{BlocksAfter}
use Rattle.memory_core.specs.Settled.{Settled}
use Rattle.memory_core.specs.Steps.{bare_entry, last_stamp, pages_of, IsInTable}
use Rattle.memory_core.specs.StandsFor.{StandsFor, HoldsFor, OpenStands, spans_of, reports_of, pieces_for}
use Rattle.memory_core.specs.declared.claims.OpenClaim.{OpenClaim}
use Rattle.memory_core.proofs.BlockStepLemmas.{BlocksGo}
use Rattle.memory_core.proofs.HoldsLemmas.{open-kept, none-kept, holds-open}
use Rattle.memory_core.proofs.UnitsLemmas.{first_run-facts, run-counts}
use Rattle.memory_core.proofs.KeptLemmas.{runs-same}
use Rattle.memory_core.proofs.StepLemmas.{steady-push, last-push, claim-mine, claim-other, calls-claimed}
use Rattle.memory_core.proofs.OpenLemmas.{clear-of, apart-of, meets-swap, run-in, runs-few, room-left, kept-same, kept-other, cpus-set}

-- the claim that is kept
abbrev pub made_claim : Option Block → Units → Units → Vec Units Global → Ticket → ℕ → OpenClaim
made_claim block units run later ticket room = record { block = block; units = units; run = run; later = later; opened = 0; cleared = 0; ticket = ticket; room = room }

-- and the one that is open
abbrev pub opened_claim : Option Block → Units → Units → List ModuleCall → Claimed
opened_claim block units run before = record { block = block; units = units; run = run; before = before; cleared = 0 }

-- the first run's place in the units
pub record FirstRun (test : ℕ → Bool) (units run : Units) : Type 0 where
  pub low : units.first ≤ run.first
  pub some : 0 < run.count
  pub within : units_end run ≤ units_end units
  pub set : (unit : ℕ) → in_range run.first run.count unit ≡ true → test unit ≡ true
  pub counts : run.count + count_such test (units_end run) (units_end units - units_end run) ≤ count_such test units.first units.count

pub first-run : (test : ℕ → Bool) (units run : Units) → first_run test units.first (units.first + units.count) ≡ Some run → FirstRun test units run
first-run test units run is =
    let facts = first_run-facts test units.first (units.first + units.count) run is in
    let all : units.first + units.count - units.first ≡ units.count = omega arith in
    let P : ℕ → Type 0 = λ n. run.count + count_such test (units_end run) (units_end units - units_end run) ≤ count_such test units.first n in
    record {
      low = facts.low;
      some = facts.some;
      within = facts.high;
      set = facts.set;
      counts = subst P all (run-counts test units.first (units.first + units.count) run facts);
    }

-- no other open claim meets the units
others-clear : (boot : Boot) (entries : Vec Entry Global) (last : ℕ) (table : Table) (bits : Option Bits) (claims : List (Option OpenClaim)) (blocks : State) (pages kept room : ℕ) (units : Units)
    → StandsFor boot entries last table bits claims blocks pages kept room → MeetsNone units_of claims units
    → (d : ℕ) (b : Claimed) → claim_of boot entries.items d ≡ Some b → (b.units.first ≤ b.run.first) × (units_end b.run ≤ units_end b.units) × (units_meet units b.units ≡ false)
others-clear boot entries last table bits claims blocks pages kept room units s clear d b is =
    let found = open-kept boot (bits_in bits) table.out (kept_of claims d) (claim_of boot entries.items d) b is (s.holds.open_claims d) in
    (found.2.low, found.2.within, apart-of units b.units (meets-swap b.units units (clear-of boot entries last table bits claims blocks pages kept room s units clear d b is)))

-- the pages of the run are in
pub claimed-in : (boot : Boot) (entries : Vec Entry Global) (last : ℕ) (table : Table) (bits : Option Bits) (claims : List (Option OpenClaim)) (blocks : State) (pages kept room : ℕ) (units run : Units)
    → StandsFor boot entries last table bits claims blocks pages kept room → MeetsNone units_of claims units → FirstRun (bits_in bits) units run
    → (page : ℕ) → in_range (pages_first boot run) (pages_count boot run) page ≡ true → IsInTable boot (claim_of boot entries.items) page
claimed-in boot entries last table bits claims blocks pages kept room units run s clear first page inside =
    run-in boot (claim_of boot entries.items) (opened_claim None units run []) page first.low first.within (others-clear boot entries last table bits claims blocks pages kept room units s clear) inside

pub stands-claimed : (boot : Boot) (entries entries' : Vec Entry Global) (last last' : ℕ) (table table' : Table) (bits : Option Bits) (claims claims' : List (Option OpenClaim)) (blocks blocks' : State) (pages kept kept' room left : ℕ) (turn : Turn) (block : Option Block) (units run : Units) (later : Vec Units Global) (asked : Pages) (span : Taken)
    → StandsFor boot entries last table bits claims blocks pages kept room
    → turn.cpu.0 < boot.cpus → claim_of boot entries.items turn.cpu.0 ≡ None → MeetsNone units_of claims units → FirstRun (bits_in bits) units run → units.first + units.count < 2 ^ 64
    → count_such (bits_in bits) units.first units.count < room → AreRunsFrom (bits_in bits) (units_end run) (units_end units) later.items
    → entries'.items ≡ entries.items ++ bare_entry turn last (Claim block (Some units) (Some run)) ∷ [] → vec_capacity entries ≤ vec_capacity entries'
    → last' ≡ max turn.clock last + 1 → turn.clock < 2 ^ 64 → last < 2 ^ 64
    → asked ≡ pages_of boot run → span.ticket.pages ≡ asked
    → ((page : ℕ) → state_in table'.runs page ≡ cond (in_range asked.first asked.count page) None (state_in table.runs page))
    → table'.out ≡ table.out ++ span.ticket ∷ [] → table.room ≤ span.ticket.room + (2 * run_count (state_in table.runs) asked + 2)
    → left ≡ room - 1 - run.count → claims' ≡ slice_set claims turn.cpu.0 (Some (made_claim block units run later span.ticket left))
    → kept' ≡ kept + (left + 1) → kept' < 2 ^ 64 → BlocksGo boot entries.items (bare_entry turn last (Claim block (Some units) (Some run))) blocks' claims' 0
    → StandsFor boot entries' last' table' bits claims' blocks' pages kept' 0
stands-claimed boot entries entries' last last' table table' bits claims claims' blocks blocks' pages kept kept' room left turn block units run later asked span s low free clear first end need runs_are is more last_is low_clock low_last asked_is taken rest out given left_is claims_is kept_is few go =
    let cpu = turn.cpu.0 in
    let calls = calls_of boot entries.items in
    let o = made_claim block units run later span.ticket left in
    let claim = opened_claim block units run calls in
    let event = Claim block (Some units) (Some run) in
    let counts = first.counts in
    let some = first.some in
    let inside : cpu < length claims = (let places = s.places in let few = s.booted.cpus in omega (arith, low, places, few)) in
    let long : length entries'.items ≡ length entries.items + 1 = ap (λ (es : List Entry). length es) is ∙ length_push entries.items (bare_entry turn last event) in
    let was_none : kept_of claims cpu ≡ None = none-kept boot (bits_in bits) table.out (kept_of claims cpu) (claim_of boot entries.items cpu) free (s.holds.open_claims cpu) in
    let size : pages ≡ unit_pages boot = s.pages_are in
    let runs = runs-few boot run table.runs asked asked_is in
    let had : pieces_for (unit_pages boot) (room - 1) ≤ table.room =
    (let P : ℕ → Type 0 = λ n. pieces_for n (room - 1) ≤ table.room in
    let all = s.table_room in
    let less : (room - 1) * (2 * pages + 2) ≤ room * (2 * pages + 2) = mul-le-mul_right (2 * pages + 2) (let l : room - 1 ≤ room = omega arith in l) in
    subst P size (omega (arith, all, less))) in
    let opened : OpenStands boot (bits_in bits) table'.out o claim = record {
      block = refl;
      units = refl;
      run = refl;
      cleared = refl;
      some = first.some;
      low = first.low;
      within = first.within;
      end = end;
      each = first.set;
      later = runs-same (bits_in bits) (bit_after boot calls) s.holds.bits (units_end run) (units_end units) later.items runs_are;
      set = λ unit above below was. s.holds.bits unit ∙ was;
      few = (let under = first.low in omega arith);
      out = (let P : List Ticket → Type 0 = λ ts. is_out ts span.ticket ≡ true in subst P (sym out) (is_out-last table.out span.ticket));
      pages = taken ∙ asked_is;
      room = room-left (unit_pages boot) (room - 1) run.count (run_count (state_in table.runs) asked) left span.ticket.room table.room first.some (omega (arith, counts, need)) left_is runs had given;
      enough = (let same = count_such_same (bits_in bits) (bit_after boot calls) (units_end run) (units_end units - units_end run) (record { same = λ unit low high. s.holds.bits unit }) in omega (arith, counts, need, left_is, same));
    } in
    let sums = sum_by-set reports_of claims cpu (Some o) None inside in
    let spans = sum_by-set spans_of claims cpu (Some o) None inside in
    let fits = s.entry_room in
    let reports_now : sum_by reports_of claims' ≡ sum_by reports_of claims + (left + 1) =
    (let none : reports_of (kept_of claims cpu) ≡ 0 = ap reports_of was_none in let now = ap (λ (cs : List (Option OpenClaim)). sum_by reports_of cs) claims_is in omega (arith, none, now, sums)) in
    let spans_now : sum_by spans_of claims' ≡ sum_by spans_of claims + 1 =
    (let none : spans_of (kept_of claims cpu) ≡ 0 = ap spans_of was_none in let now = ap (λ (cs : List (Option OpenClaim)). sum_by spans_of cs) claims_is in omega (arith, none, now, spans)) in
    let kept_mine : kept_of claims' cpu ≡ Some o = ap (λ cs. kept_of cs cpu) claims_is ∙ kept-same claims cpu (Some o) inside in
    let kept_others : (other : ℕ) → other ≢ cpu → kept_of claims' other ≡ kept_of claims other = λ other differ. ap (λ cs. kept_of cs other) claims_is ∙ kept-other claims cpu other (Some o) differ in
    let now : claim_of boot entries'.items ≡ claim_of boot (entries.items ++ bare_entry turn last event ∷ []) = ap (claim_of boot) is in
    let P : List ModuleCall → Type 0 = λ cs. HoldsFor boot cs (claim_of boot entries'.items) table'.runs table'.out (bits_in bits) (kept_of claims') in
    record {
      booted = s.booted;
      holds = subst P (sym (ap (calls_of boot) is ∙ calls-claimed boot entries.items turn last block (Some units) (Some run)))
          (holds-open boot calls (claim_of boot entries.items) (claim_of boot entries'.items) table.runs table'.runs table.out table'.out (bits_in bits) (kept_of claims) (kept_of claims') cpu o claim
          s.holds free
          (record { claimed = λ other differ. ap (λ (f : ℕ → Option Claimed). f other) now ∙ claim-other boot entries.items turn last event other differ; keeps = kept_others })
          (ap (λ (f : ℕ → Option Claimed). f cpu) now ∙ claim-mine boot entries.items turn last event ∙ ap (λ c. claim_step boot calls c event) free)
          kept_mine
          (λ page. rest page ∙ ap (λ (p : Pages). cond (in_range p.first p.count page) None (state_in table.runs page)) asked_is)
          (λ ticket was. let Q : List Ticket → Type 0 = λ ts. is_out ts ticket ≡ true in subst Q (sym out) (is_out-more table.out span.ticket ticket was))
          opened
          (λ d b is_open. (others-clear boot entries last table bits claims blocks pages kept room units s clear d b is_open).2)
          (λ d b is_open. apart-of b.units units (clear-of boot entries last table bits claims blocks pages kept room s units clear d b is_open)));
      same_bits = s.same_bits;
      last_is = last_is ∙ sym (ap last_stamp is ∙ last-push entries.items turn last event s.last_is);
      places = ap (λ (cs : List (Option OpenClaim)). length cs) claims_is ∙ length-set claims cpu (Some o) ∙ s.places;
      cpus = cpus-set claims claims' cpu boot.cpus (Some o) claims_is inside (λ k same. low) s.cpus;
      spans = ap (λ (ts : List Ticket). length ts) out ∙ length_push table.out span.ticket ∙ ap (λ n. n + 1) s.spans ∙ sym spans_now;
      pages_are = s.pages_are;
      reports = kept_is ∙ ap (λ n. n + (left + 1)) s.reports ∙ sym reports_now;
      entry_room = omega (arith, long, fits, more, kept_is, left_is, some, counts, need);
      table_room = omega arith;
      stamps = omega (arith, last_is, low_clock, low_last, few);
      steady = steady-push boot entries.items entries'.items turn last event is s.last_is s.steady go.falls (λ other claimed page differ has inside. ap (λ cs. page_state boot cs page) (calls-claimed boot entries.items turn last block (Some units) (Some run)));
      settled = subst (Settled boot) (sym is) go.settled;
      blocks_are = (let B : List Entry → Type 0 = λ es. BlocksAfter boot es blocks' in subst B (sym is) go.blocks_are);
      block_room = go.enough;
    }
