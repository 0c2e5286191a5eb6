use Rattle.std.proofs.Common.{◌≡◌, ◌≢◌, ℕ, ◌+◌, ◌-◌, ◌*◌, ◌<◌, ◌≤◌, true, false, Option, None, Some, List, [], ◌∷◌, ◌++◌, refl, sym, ◌∙◌, ap, subst, arith, cond}
use Rattle.std.specs.Prelude.{◌==◌, drop}
use Rattle.std.proofs.Math.Nat.{mul-le-mul_right}
use Rattle.guest_base.proofs.RangeLemmas.{in_range-intro, in_range-elim, in_range-past}
use Rattle.guest_base.specs.Ranges.{in_range}
use Rattle.guest_base.specs.Search.{any_such}
use Rattle.guest_base.specs.declared.memory.Page.{Page}
use Rattle.guest_base.specs.declared.memory.Pages.{Pages}
use Rattle.guest_base.specs.declared.memory.Units.{Units}
use Rattle.event_core.specs.declared.boot.Boot.{Boot}
use Rattle.event_core.specs.declared.module_call.ModuleCall.{ModuleCall}
use Rattle.event_core.specs.Claims.{Claimed, goes_on, units_meet}
use Rattle.event_core.specs.MemoryRows.{AcceptsUnits, page_state, is_pending, pages_first, pages_count, next_run}
use Rattle.event_core.specs.Units.{bit_after, unit_first, unit_pages, units_end, units_cleared}
use Rattle.page_module.specs.Spans.{Taken}
use Rattle.page_module.specs.States.{state_in}
use Rattle.page_module.specs.Tables.{Table, is_out, without, run_count}
use Rattle.page_module.specs.declared.ticket.Ticket.{Ticket}
use Rattle.page_module.proofs.OutLemmas.{is_out-last, is_out-more, is_out-less}
use Rattle.event_core.specs.Table.{Bits}
use Rattle.accept_sizes.specs.Accepts.{pending_of}
use Rattle.accept_sizes.specs.Ends.{stopped_at}
use Rattle.accept_sizes.specs.declared.accept.RunEnd.{RunEnd}
use Rattle.accept_sizes.specs.declared.accept.RunEnd.TheVariants.{Whole, Stopped}
use Rattle.memory_core.specs.Bitmaps.{bits_in, SameBits, ClearedIn, AreRunsFrom, next_of}
use Rattle.memory_core.specs.Steps.{HasStates, pages_of, BringsTo, IsInTable}
use Rattle.memory_core.specs.StandsFor.{HoldsFor, OpenStands, pieces_for}
use Rattle.memory_core.specs.declared.claims.OpenClaim.{OpenClaim}
use Rattle.memory_core.proofs.KeptLemmas.{kept-first, kept-rest}
use Rattle.memory_core.proofs.HoldsLemmas.{open-kept, kept-open, holds-open, holds-close, OthersSame, Returns, one-run, stands-virtual, other-unit, others-page, put_back}
use Rattle.memory_core.proofs.RunLemmas.{run-stands, run-cleared, run-accepts}
use Rattle.memory_core.proofs.UnitsLemmas.{first_run-facts, IsRunIn, runs-apart, run-counts, run-page-some}
use Rattle.memory_core.proofs.BitsLemmas.{cleared-bits, cleared-count}
use Rattle.memory_core.proofs.StepLemmas.{same-is, not-same}
use Rattle.memory_core.proofs.OpenLemmas.{run-in, has-states, runs-few, room-left}

-- ---- what the event makes of the claim

pub closes : (boot : Boot) (before now : List ModuleCall) (claim : Claimed) (stop : Option Page) (next : Option Units) → next ≡ None → goes_on boot before now (Some claim) stop next ≡ None
closes boot before now claim (Some page) next is = refl
closes boot before now claim None None is = refl
closes boot before now claim None (Some run) is = cc

-- the claim with its next run
abbrev pub next_claim : Boot → List ModuleCall → List ModuleCall → Claimed → Units → Claimed
next_claim boot before now claim run = record claim { run = run; cleared = claim.cleared + units_cleared boot before (before ++ now) claim.run }

pub continues : (boot : Boot) (before now : List ModuleCall) (claim : Claimed) (stop : Option Page) (next : Option Units) (run : Units) → stop ≡ None → next ≡ Some run → goes_on boot before now (Some claim) stop next ≡ Some (next_claim boot before now claim run)
continues boot before now claim (Some page) next run stop is = cc
continues boot before now claim None None run stop is = cc
continues boot before now claim None (Some next) run stop is = let same : next ≡ run = cc in ap (λ r. Some (next_claim boot before now claim r)) same

-- a next run comes of an acceptance that didn't stop
pub not-stopped : (boot : Boot) (claim : Claimed) (stop : Option Page) (run : Units) → next_run boot claim stop ≡ Some run → stop ≡ None
not-stopped boot claim None run is = refl
not-stopped boot claim (Some page) run is = cc

-- the kept runs have the next run
pub next-is : (boot : Boot) (claim : Claimed) (runs : List Units) (opened : ℕ) (end : RunEnd) (stop : Option Page) → stop ≡ stopped_at end → AreRunsFrom (bit_after boot claim.before) (units_end claim.run) (units_end claim.units) (drop opened runs) → next_of runs opened end ≡ next_run boot claim stop
next-is boot claim runs opened (Stopped page) stop is are = ap (next_run boot claim) (sym is)
next-is boot claim runs opened Whole stop is are = kept-first (bit_after boot claim.before) (units_end claim.run) (units_end claim.units) runs opened are ∙ ap (next_run boot claim) (sym is)

-- ---- what comes back

-- A run is reported: the parts of the memory before and after its pages are put back and its bits are cleared. It is claimed by a
-- processor, and its calls brought the span to its states.
pub record Reports (boot : Boot) (calls now : List ModuleCall) (claims : ℕ → Option Claimed) (table table' : Table) (bits bits' : Option Bits) (kept : ℕ → Option OpenClaim) (cpu : ℕ) (o : OpenClaim) (claim : Claimed) (span : Taken) (end : RunEnd) (cleared : ℕ) : Type 0 where
  pub holds : HoldsFor boot calls claims table.runs table.out (bits_in bits) kept
  pub same_bits : SameBits boot bits
  pub pages : 0 < unit_pages boot
  pub claimed : claims cpu ≡ Some claim
  pub keeps : kept cpu ≡ Some o
  pub ticket : o.ticket ≡ span.ticket
  pub brings : BringsTo boot calls claim.run span now end
  pub clears : ClearedIn bits bits' (pending_of span) claim.run cleared
  pub back : (page : ℕ) → state_in table'.runs page ≡ cond (in_range span.ticket.pages.first span.ticket.pages.count page) (state_in span.runs page) (state_in table.runs page)
  pub out : table'.out ≡ without span.ticket table.out

module _ (boot : Boot) (calls now : List ModuleCall) (claims : ℕ → Option Claimed) (table table' : Table) (bits bits' : Option Bits) (kept : ℕ → Option OpenClaim) (cpu : ℕ) (o : OpenClaim) (claim : Claimed) (span : Taken) (end : RunEnd) (cleared : ℕ) (r : Reports boot calls now claims table table' bits bits' kept cpu o claim span end cleared) where
  pub opened : OpenStands boot (bits_in bits) table.out o claim
  opened =
      let found = kept-open boot (bits_in bits) table.out (kept cpu) (claims cpu) o r.keeps (r.holds.open_claims cpu) in
      let some : Some found.0 ≡ Some claim = sym found.1 ∙ r.claimed in
      let same : found.0 ≡ claim = cc in
      subst (λ c. OpenStands boot (bits_in bits) table.out o c) same found.2

  pub returns : Returns boot calls now claim.run r.brings.taken span table.runs table'.runs (bits_in bits) (bits_in bits')
  returns = record {
    has = r.brings.has;
    accepts = r.brings.accepts;
    back = r.back;
    clears = cleared-bits boot bits bits' (pending_of span) claim.run cleared r.same_bits opened.each r.clears;
  }

  -- other claims' tickets are others
  other-ticket : (d : ℕ) (k : OpenClaim) → d ≢ cpu → kept d ≡ Some k → k.ticket ≢ span.ticket
  other-ticket d k differ is same =
      let found = kept-open boot (bits_in bits) table.out (kept d) (claims d) k is (r.holds.open_claims d) in
      let b = found.0 in
      let apart = r.holds.apart cpu d claim b (λ e. differ (sym e)) r.claimed found.1 in
      let mine = opened in
      let pages : pages_of boot b.run ≡ pages_of boot claim.run = sym found.2.pages ∙ ap (λ (t : Ticket). t.pages) (same ∙ sym r.ticket) ∙ mine.pages in
      let first : pages_first boot b.run ≡ pages_first boot claim.run = ap (λ (p : Pages). p.first) pages in
      let some = mul-le-mul_right (unit_pages boot) (let l : 1 ≤ claim.run.count = mine.some in l) in
      let size = r.pages in
      let here : in_range (pages_first boot claim.run) (pages_count boot claim.run) (pages_first boot claim.run) ≡ true = in_range-intro (pages_first boot claim.run) (pages_count boot claim.run) (pages_first boot claim.run) (omega arith) (omega (arith, some, size)) in
      let theirs = found.2.low in
      let within = found.2.within in
      let apart' = r.holds.apart d cpu b claim differ found.1 r.claimed in
      let gone = runs-apart boot claim.run b.run (pages_first boot claim.run) (λ unit in_run. let at = in_range-elim claim.run.first claim.run.count unit in_run in other-unit b claim unit theirs within apart (let l = mine.low in omega (arith, l, at.0)) (let h = mine.within in omega (arith, h, at.1))) here in
      let yes : in_range (pages_first boot b.run) (pages_count boot b.run) (pages_first boot claim.run) ≡ true = sym (ap (λ (p : Pages). in_range p.first p.count (pages_first boot claim.run)) (sym pages)) ∙ here in
      let no : true ≡ false = sym yes ∙ gone in
      cc

  -- the memory without the reported claim
  pub returned : (claims' : ℕ → Option Claimed) (kept' : ℕ → Option OpenClaim) → OthersSame cpu claims claims' kept kept' → claims' cpu ≡ None → kept' cpu ≡ None → HoldsFor boot (calls ++ now) claims' table'.runs table'.out (bits_in bits') kept'
  returned claims' kept' others gone unkept =
      holds-close boot calls now claims claims' table.runs table'.runs table.out table'.out (bits_in bits) (bits_in bits') kept kept' cpu o claim r.brings.taken span r.holds opened r.claimed others gone unkept returns
      (λ d k differ is was. let P : List Ticket → Type 0 = λ ts. is_out ts k.ticket ≡ true in subst P (sym r.out) (is_out-less table.out span.ticket k.ticket was (other-ticket d k differ is)))

  -- the cleared units are the definition's
  pub counted : cleared ≡ units_cleared boot calls (calls ++ now) claim.run
  counted =
      cleared-count boot bits bits' (pending_of span) claim.run cleared r.same_bits r.clears
      ∙ sym (run-cleared boot calls now claim.run (page_state boot calls) (put_back boot calls claim.run span) (state_in r.brings.taken.runs) (state_in span.runs) (bits_in bits) (bits_in bits')
      (stands-virtual boot calls claims table.runs table.out (bits_in bits) kept r.holds) (one-run boot calls now claim.run r.brings.taken span table.runs table'.runs (bits_in bits) (bits_in bits') opened.each returns))

  -- the calls accept the run's pending pages
  pub accepts : AcceptsUnits boot calls claim.run now
  accepts =
      run-accepts boot calls now claim.run (page_state boot calls) (put_back boot calls claim.run span) (state_in r.brings.taken.runs) (state_in span.runs) (bits_in bits) (bits_in bits')
      (stands-virtual boot calls claims table.runs table.out (bits_in bits) kept r.holds) (one-run boot calls now claim.run r.brings.taken span table.runs table'.runs (bits_in bits) (bits_in bits') opened.each returns)

  -- the bits behind the run that were set at the claim are set still
  pub behind : (unit : ℕ) → units_end claim.run ≤ unit → unit < units_end claim.units → bit_after boot claim.before unit ≡ true → bits_in bits' unit ≡ true
  behind unit above below was =
      returns.clears unit
      ∙ ap (λ b. cond b (any_such (λ page. is_pending (state_in span.runs page)) (unit_first boot unit) (unit_pages boot)) (bits_in bits unit)) (in_range-past claim.run.first claim.run.count unit above)
      ∙ opened.set unit above below was

  -- the calls leave the pages of other claims
  pub others-states : (d : ℕ) (b : Claimed) (page : ℕ) → d ≢ cpu → claims d ≡ Some b → in_range (pages_first boot b.run) (pages_count boot b.run) page ≡ true → page_state boot (calls ++ now) page ≡ page_state boot calls page
  others-states d b page differ is inside =
      let stands = run-stands boot calls now claim.run (page_state boot calls) (put_back boot calls claim.run span) (state_in r.brings.taken.runs) (state_in span.runs) (bits_in bits) (bits_in bits')
      (stands-virtual boot calls claims table.runs table.out (bits_in bits) kept r.holds) (one-run boot calls now claim.run r.brings.taken span table.runs table'.runs (bits_in bits) (bits_in bits') opened.each returns) in
      let found = open-kept boot (bits_in bits) table.out (kept d) (claims d) b is (r.holds.open_claims d) in
      let mine = opened in
      let out = others-page boot b claim page found.2.low found.2.within mine.low mine.within (r.holds.apart d cpu b claim differ is r.claimed) inside in
      sym (stands.states page) ∙ ap (λ b. cond b (state_in span.runs page) (page_state boot calls page)) out

  -- the claims without the reported one
  pub claims_left : ℕ → Option Claimed
  claims_left d = cond (d == cpu) None (claims d)

  pub kept_left : ℕ → Option OpenClaim
  kept_left d = cond (d == cpu) None (kept d)

  pub left-others : OthersSame cpu claims claims_left kept kept_left
  unfolding claims_left kept_left
  left-others = record {
    claimed = λ d differ. ap (λ b. cond b None (claims d)) (not-same d cpu (λ e. differ (sym e)));
    keeps = λ d differ. ap (λ b. cond b None (kept d)) (not-same d cpu (λ e. differ (sym e)));
  }

  pub left-gone : claims_left cpu ≡ None
  unfolding claims_left
  left-gone = ap (λ b. cond b None (claims cpu)) (same-is cpu)

  left-unkept : kept_left cpu ≡ None
  unfolding kept_left
  left-unkept = ap (λ b. cond b None (kept cpu)) (same-is cpu)

  pub left-holds : HoldsFor boot (calls ++ now) claims_left table'.runs table'.out (bits_in bits') kept_left
  left-holds = returned claims_left kept_left left-others left-gone left-unkept

  left-differs : (d : ℕ) (b : Claimed) → claims_left d ≡ Some b → d ≢ cpu
  left-differs d b is = λ same. (let no : None ≡ Some b = sym (ap claims_left same ∙ left-gone) ∙ is in cc)

  left-is : (d : ℕ) (b : Claimed) → claims_left d ≡ Some b → claims d ≡ Some b
  left-is d b is = sym (left-others.claimed d (left-differs d b is)) ∙ is

  -- where the next run of the claim lies
  next-was : (run : Units) → next_run boot claim None ≡ Some run → IsRunIn (bit_after boot claim.before) (units_end claim.run) (units_end claim.units) run
  next-was run is = first_run-facts (bit_after boot claim.before) (units_end claim.run) (units_end claim.units) run is

  pub next-facts : (run : Units) → next_run boot claim None ≡ Some run → IsRunIn (bits_in bits') (units_end claim.run) (units_end claim.units) run
  next-facts run is =
      let was = next-was run is in
      let low = was.low in
      let high = was.high in
      record {
        low = was.low;
        some = was.some;
        high = was.high;
        set = λ unit inside. (let at = in_range-elim run.first run.count unit inside in behind unit (omega (arith, low, at.0)) (omega (arith, high, at.1)) (was.set unit inside));
      }

  left-clear : (d : ℕ) (b : Claimed) → claims_left d ≡ Some b → (b.units.first ≤ b.run.first) × (units_end b.run ≤ units_end b.units) × (units_meet claim.units b.units ≡ false)
  left-clear d b is =
      let found = open-kept boot (bits_in bits) table.out (kept d) (claims d) b (left-is d b is) (r.holds.open_claims d) in
      (found.2.low, found.2.within, r.holds.apart cpu d claim b (λ e. left-differs d b is (sym e)) r.claimed (left-is d b is))

  -- there is room for it
  pub next-few : (run : Units) → next_run boot claim None ≡ Some run → (0 < run.count) × (run.count ≤ o.room)
  next-few run is =
      let was = next-was run is in
      let count = run-counts (bit_after boot claim.before) (units_end claim.run) (units_end claim.units) run was in
      let enough = opened.enough in
      (was.some, omega (arith, count, enough))

  -- its pages are in
  pub next-in : (run : Units) → next_run boot claim None ≡ Some run → (page : ℕ) → in_range (pages_first boot run) (pages_count boot run) page ≡ true → IsInTable boot claims_left page
  next-in run is page inside =
      let facts = next-facts run is in
      let low = facts.low in
      let mine = opened.low in
      run-in boot claims_left (next_claim boot calls now claim run) page (omega (arith, low, mine)) facts.high left-clear inside

  -- and in the table
  pub next-here : (run : Units) → next_run boot claim None ≡ Some run → (page : ℕ) → in_range (pages_first boot run) (pages_count boot run) page ≡ true → state_in table'.runs page ≢ None
  next-here run is page inside none =
      run-page-some boot (calls ++ now) run left-holds.ram (λ unit in_run. sym (left-holds.bits unit) ∙ (next-facts run is).set unit in_run) page inside
      (sym (left-holds.states page (next-in run is page inside)) ∙ none)

  -- the span that is taken has its pages' states
  pub next-has : (run : Units) (asked : Pages) (span' : Taken) → next_run boot claim None ≡ Some run → asked ≡ pages_of boot run → span'.ticket.pages ≡ asked
      → ((page : ℕ) → state_in span'.runs page ≡ cond (in_range asked.first asked.count page) (state_in table'.runs page) None)
      → HasStates boot (calls ++ now) run span'
  next-has run asked span' is asked_is taken states = has-states boot (calls ++ now) claims_left run asked table'.runs span' asked_is taken states (next-in run is) left-holds.states

  -- the next run of the claim is opened
  pub went-on : (claims' : ℕ → Option Claimed) (kept' : ℕ → Option OpenClaim) (last_table : Table) (run : Units) (asked : Pages) (span' : Taken) (next : OpenClaim) → OthersSame cpu claims claims' kept kept'
      → claims' cpu ≡ Some (next_claim boot calls now claim run) → kept' cpu ≡ Some next
      → next ≡ record o { run = run; opened = o.opened + 1; cleared = o.cleared + cleared; ticket = span'.ticket; room = o.room - run.count }
      → cleared ≤ claim.run.count → next_run boot claim None ≡ Some run
      → o.ticket.room ≤ table'.room → asked ≡ pages_of boot run → span'.ticket.pages ≡ asked
      → ((page : ℕ) → state_in last_table.runs page ≡ cond (in_range asked.first asked.count page) None (state_in table'.runs page))
      → last_table.out ≡ table'.out ++ span'.ticket ∷ [] → table'.room ≤ span'.ticket.room + (2 * run_count (state_in table'.runs) asked + 2)
      → HoldsFor boot (calls ++ now) claims' last_table.runs last_table.out (bits_in bits') kept'
  went-on claims' kept' last_table run asked span' next others now_claim now_kept next_is few is_next has asked_is taken rest out given =
      let mine = opened in
      let facts = next-facts run is_next in
      let claim' = next_claim boot calls now claim run in
      let count = run-counts (bit_after boot claim.before) (units_end claim.run) (units_end claim.units) run (next-was run is_next) in
      let enough = mine.enough in
      let low = facts.low in
      let first = mine.low in
      let was = mine.few in
      let pieces : pieces_for (unit_pages boot) o.room ≤ table'.room = (let p = mine.room in omega (arith, p, has)) in
      let runs = runs-few boot run table'.runs asked asked_is in
      let made : OpenClaim = record o { run = run; opened = o.opened + 1; cleared = o.cleared + cleared; ticket = span'.ticket; room = o.room - run.count } in
      let now_open : OpenStands boot (bits_in bits') last_table.out made claim' = record {
        block = mine.block;
        units = mine.units;
        run = refl;
        cleared = ap (λ n. n + cleared) mine.cleared ∙ ap (λ n. claim.cleared + n) counted;
        some = facts.some;
        low = omega (arith, low, first);
        within = facts.high;
        end = mine.end;
        each = facts.set;
        later = kept-rest (bit_after boot claim.before) (units_end claim.run) (units_end claim.units) o.later.items o.opened run mine.later (kept-first (bit_after boot claim.before) (units_end claim.run) (units_end claim.units) o.later.items o.opened mine.later ∙ is_next);
        set = λ unit above below was_set. behind unit (omega (arith, low, above)) below was_set;
        few = (let sum = counted in omega (arith, low, was, few, sum));
        out = (let P : List Ticket → Type 0 = λ ts. is_out ts span'.ticket ≡ true in subst P (sym out) (is_out-last table'.out span'.ticket));
        pages = taken ∙ asked_is;
        room = room-left (unit_pages boot) o.room run.count (run_count (state_in table'.runs) asked) (o.room - run.count) span'.ticket.room table'.room facts.some (omega (arith, count, enough)) refl runs pieces given;
        enough = omega (arith, count, enough);
      } in
      let same_others : OthersSame cpu claims_left claims' kept_left kept' = record {
        claimed = λ d differ. others.claimed d differ ∙ sym (left-others.claimed d differ);
        keeps = λ d differ. others.keeps d differ ∙ sym (left-others.keeps d differ);
      } in
      holds-open boot (calls ++ now) claims_left claims' table'.runs last_table.runs table'.out last_table.out (bits_in bits') kept_left kept' cpu made claim'
      left-holds left-gone same_others now_claim (now_kept ∙ ap (λ k. Some k) next_is)
      (λ page. rest page ∙ ap (λ (p : Pages). cond (in_range p.first p.count page) None (state_in table'.runs page)) asked_is)
      (λ ticket still. let P : List Ticket → Type 0 = λ ts. is_out ts ticket ≡ true in subst P (sym out) (is_out-more table'.out span'.ticket ticket still))
      now_open
      (λ d b is. (left-clear d b is).2)
      (λ d b is. r.holds.apart d cpu b claim (left-differs d b is) (left-is d b is) r.claimed)
