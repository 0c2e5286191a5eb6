use Rattle.std.proofs.Common.{◌≡◌, ◌≢◌, ℕ, ◌+◌, ◌≤◌, ◌<◌, true, false, Option, None, Some, List, [], ◌∷◌, ◌++◌, refl, sym, ◌∙◌, ap, subst, arith, append-nil, cond, length}
use Rattle.std.specs.Prelude.{Bool, IfSome, drop, is_some, slice_get}
use Rattle.std.proofs.lemmas.Option.{slice_get_within}
use Rattle.std.proofs.lemmas.List.Elements.{All-nil}
use Rattle.guest_base.specs.Counts.{Rose}
use Rattle.guest_base.specs.declared.memory.Block.{Block}
use Rattle.guest_base.specs.declared.memory.Page.{Page}
use Rattle.guest_base.specs.declared.memory.Pages.{Pages}
use Rattle.guest_base.specs.declared.memory.Units.{Units}
use Rattle.event_core.specs.declared.boot.Boot.{Boot}
use Rattle.event_core.specs.declared.command.Command.{Command}
use Rattle.event_core.specs.declared.command.Command.TheVariants as command
use Rattle.event_core.specs.declared.entry.Entry.{Entry}
use Rattle.event_core.specs.declared.entry.Place.TheVariants as place
use Rattle.event_core.specs.declared.entry.Turn.{Turn}
use Rattle.event_core.specs.declared.event.Event.{Event}
use Rattle.event_core.specs.declared.event.Event.TheVariants as event
use Rattle.event_core.specs.declared.module_call.ModuleCall.{ModuleCall}
use Rattle.event_core.specs.declared.reply.Reply.{Reply}
use Rattle.event_core.specs.declared.reply.Reply.TheVariants as reply
use Rattle.event_core.specs.Acceptance.{stop_of}
use Rattle.event_core.specs.Calls.{calls_of}
use Rattle.event_core.specs.Claims.{Claimed, claim_of, claim_step, goes_on}
use Rattle.event_core.specs.MemoryRows.{AcceptsUnits, cleared_by, next_run, report_event}
use Rattle.event_core.specs.Next.{report_reply, stopped_reply}
use Rattle.event_core.specs.Moved.{Moved}
use Rattle.event_core.specs.Own.{own_of, replied}
use Rattle.event_core.specs.Units.{bit_after, units_end}
use Rattle.accept_sizes.specs.Ends.{stopped_at}
use Rattle.accept_sizes.specs.declared.accept.RunEnd.{RunEnd}
use Rattle.memory_core.specs.Answers.{GoesOn, ReportedBy}
use Rattle.memory_core.specs.Away.{BringsSince}
use Rattle.memory_core.specs.Bitmaps.{AreRunsFrom}
use Rattle.memory_core.specs.Owners.{is_owner}
use Rattle.memory_core.specs.Steps.{last_stamp, pages_of}
use Rattle.memory_core.specs.UnderLock.{unmoved}
use Rattle.io_areas.specs.Value.{AreaValue}
use Rattle.memory_core.specs.Value.{MemoryValue, Handed, handed_to}
use Rattle.memory_core.specs.Waiting.{waiting_left}
use Rattle.memory_core.specs.declared.memory.Reported.{Reported}
use Rattle.memory_core.specs.declared.memory.Reported.TheVariants.{Next, Closed, Stopped}
use Rattle.memory_core.proofs.ReportLemmas.{closes, continues, not-stopped, next_claim}
use Rattle.memory_core.proofs.StepLemmas.{claim-mine}
use Rattle.memory_core.proofs.UnitsLemmas.{first_run-facts}
use Rattle.page_module.specs.Spans.{LieInMemory, Taken}
use Rattle.page_module.specs.declared.ticket.Ticket.{Ticket}
use Rattle.guest_steps.specs.Replies.{is_module}
use Rattle.guest_steps.specs.Seen.{Seen, Accepted, left_by, need_by, need_for, need_of, steps_waiting}
use Rattle.guest_steps.specs.declared.processor.Need.TheVariants as need
use Rattle.guest_steps.specs.Ground.{ground_of}
use Rattle.guest_steps.specs.Standing.{Claiming, ClaimsFor, IsAsHanded, IsOut, StopTold, unreported}
use Rattle.guest_steps.specs.Steps.{MakesInMemory}
use Rattle.guest_steps.proofs.AccountLemmas.{again-less, waiting-fewer}
use Rattle.guest_cpu.specs.Made.{entry_at, turn_of}
use Rattle.guest_cpu.specs.Progressing.{Progressed, command_of}
use Rattle.guest_cpu.specs.Standing.{CourseStands, RunsAre, RunsStand, calls_owed, seen_with}
use Rattle.guest_cpu.specs.Stepping.{Reportable, Reports, first_of, going_on, memory_entry, reply_of_report, runs_with, span_of_report}
use Rattle.guest_cpu.specs.Wanting.{is_alloc}
use Rattle.guest_cpu.proofs.ClaimLemmas.{clock-low, fine-behind, same-claimed}
use Rattle.guest_cpu.proofs.ClaimNextLemmas.{report-next, told_by}
use Rattle.guest_cpu.proofs.CourseLemmas.{made-course, no-runs}
use Rattle.guest_cpu.proofs.MemoryLemmas.{Stepped_to}
use Rattle.guest_cpu.proofs.NextLemmas.{NextThere}
use Rattle.guest_cpu.proofs.SpanLemmas.{pages-behind, pages-low, span-accepts}
use Rattle.guest_cpu.proofs.ToldLemmas.{less-closed, less-next, replied-push}

-- What a report makes of a processor that stands.

-- the done acceptance, and what is out for it
abbrev pub accepted_by : List ModuleCall → RunEnd → Accepted
accepted_by calls end = record { calls = calls; end = end }

pub out-claims : (c : Seen) (memory : MemoryValue) (out : Option Taken) (done : Option Accepted) (span : Taken) (accepted : Accepted) → IsOut c memory out done → out ≡ Some span → done ≡ Some accepted
    → (claim : Claimed) × Claiming c memory claim span × BringsSince memory c.number claim span accepted.calls accepted.end
out-claims c memory None told_of span accepted is some told = absurd (let no : None ≡ Some span = some in cc)
out-claims c memory (Some s) None span accepted is some told = absurd (let no : None ≡ Some accepted = told in cc)
out-claims c memory (Some s) (Some d) span accepted is some told =
    let same : s ≡ span = cc in
    let same_done : d ≡ accepted = cc in
    let S : Taken → Type 0 = λ x. (claim : Claimed) × Claiming c memory claim x × BringsSince memory c.number claim x d.calls d.end in
    let D : Accepted → Type 0 = λ x. (claim : Claimed) × Claiming c memory claim span × BringsSince memory c.number claim span x.calls x.end in
    subst D same_done (subst S same is)

-- what a report is made over
pub record ReportOver (p q : Progressed) (made_before made : List ModuleCall) (faults_before faults kept : ℕ) (areas : List AreaValue) (before after : MemoryValue) (claim : Claimed) (span : Taken) (calls : List ModuleCall) (end : RunEnd) : Type 0 where
  pub stands : CourseStands p made_before made faults_before faults kept (ground_of before areas)
  pub out : p.out ≡ Some span
  pub done : p.done ≡ Some (accepted_by calls end)
  pub claiming : Claiming (seen_with p made_before made faults_before faults) before claim span
  pub reports : Reports p q before after claim calls end

-- where no run is left there is no next one, and else it is the first of those left
record Behind (boot : Boot) (claim : Claimed) (later : List Units) (next : Units) : Type 0 where
  rest : List Units
  are : later ≡ next ∷ rest
  some : 0 < next.count
  behind : units_end claim.run ≤ next.first
  runs : AreRunsFrom (bit_after boot claim.before) (units_end next) (units_end claim.units) rest

next-behind : (boot : Boot) (claim : Claimed) (stop : Option Page) (later : List Units) (next : Units) → AreRunsFrom (bit_after boot claim.before) (units_end claim.run) (units_end claim.units) later → next_run boot claim stop ≡ Some next → Behind boot claim later next
next-behind boot claim (Some page) later next are is = absurd (let no : None ≡ Some next = is in cc)
next-behind boot claim None [] next are is = absurd (let no : None ≡ Some next = sym are ∙ is in cc)
next-behind boot claim None (r ∷ rest) next are is =
    let both : Some r ≡ Some next = sym are.0 ∙ is in
    let same : r ≡ next = cc in
    let facts = first_run-facts (bit_after boot claim.before) (units_end claim.run) (units_end claim.units) next is in
    let R : Units → Type 0 = λ x. AreRunsFrom (bit_after boot claim.before) (units_end x) (units_end claim.units) rest in
    record { rest = rest; are = ap (λ x. x ∷ rest) same; some = facts.some; behind = facts.low; runs = subst R same are.1 }

stopped-none : (boot : Boot) (claim : Claimed) (stop : Option Page) → stop ≢ None → next_run boot claim stop ≡ None
stopped-none boot claim None some = absurd (some refl)
stopped-none boot claim (Some page) some = refl

stopped-module : (for_block : Bool) (stop : Option Page) (next : Option Units) (cleared : ℕ) → stop ≢ None → told_by for_block stop next cleared ≡ Some reply.Module
stopped-module for_block None next cleared some = absurd (some refl)
stopped-module false (Some page) next cleared some = refl
stopped-module true (Some page) next cleared some = refl

-- a report is answered that the module failed only where it stopped
module-stopped : (for_block : Bool) (stop : Option Page) (next : Option Units) (cleared : ℕ) → is_module (told_by for_block stop next cleared) ≡ true → stop ≢ None
module-stopped true None next cleared is none = absurd (let no : false ≡ true = is in cc)
module-stopped false None None cleared is none = absurd (let no : false ≡ true = is in cc)
module-stopped false None (Some run) cleared is none = absurd (let no : false ≡ true = is in cc)
module-stopped for_block (Some page) next cleared is none = absurd (let no : Some page ≡ None = none in cc)

-- while runs are left it isn't answered
open-untold : (for_block : Bool) (stop : Option Page) (next : Option Units) (cleared : ℕ) (run : Units) → stop ≡ None → next ≡ Some run → told_by for_block stop next cleared ≡ None
open-untold true stop next cleared run whole is = ap stopped_reply whole
open-untold false stop next cleared run whole is = ap (λ (s : Option Page). report_reply s next cleared) whole ∙ ap (λ (n : Option Units). report_reply None n cleared) is

-- once none is left an acceptance is told the count, and an allocation nothing
closed-told : (for_block : Bool) (stop : Option Page) (next : Option Units) (cleared count : ℕ) → stop ≡ None → next ≡ None → count ≡ cleared → told_by for_block stop next cleared ≡ reply_of_report for_block (Closed count)
closed-told true stop next cleared count whole none is = ap stopped_reply whole
closed-told false stop next cleared count whole none is =
    ap (λ (s : Option Page). report_reply s next cleared) whole ∙ ap (λ (n : Option Units). report_reply None n cleared) none ∙ ap (λ (n : ℕ). Some (reply.Count n)) (sym is)

-- a claim of an allocation is for a block
for-a-block : (c : Command) (block : Option Block) → ClaimsFor c block → is_alloc (Some c) ≡ true → block ≢ None
for-a-block (command.Alloc name order) block claims is = claims
for-a-block (command.Accept start len) block claims is = absurd (let no : false ≡ true = is in cc)
for-a-block _ block claims is = absurd claims

module _ (made_before made : List ModuleCall) (faults_before faults kept : ℕ) (p0 q : Progressed) (areas : List AreaValue) (before after : MemoryValue) (claim : Claimed) (span : Taken) (calls : List ModuleCall) (end : RunEnd) where
  abbrev p : Progressed
  p = record p0 { boot = before.boot }

  abbrev see : Progressed → Seen
  see x = seen_with x made_before made faults_before faults

  abbrev next : Option Units
  next = next_run before.boot claim (stop_of calls)

  abbrev cleared : ℕ
  cleared = cleared_by before.boot before.entries claim calls

  abbrev for_block : Bool
  for_block = is_alloc (command_of p0)

  abbrev told : Option Reply
  told = told_by for_block (stop_of calls) next cleared

  abbrev e : Entry
  e = memory_entry p before (report_event before.boot claim calls) told

  module _ (h : ReportOver p q made_before made faults_before faults kept areas before after claim span calls end) where
    abbrev r : Reports p q before after claim calls end
    r = h.reports

    abbrev later : List Units
    later = drop 1 p0.runs

    stop-is : stopped_at end ≡ stop_of calls
    stop-is = sym r.brings.stop

    runs-are : RunsAre before.boot claim (r.run ∷ later)
    runs-are = let R : List Units → Type 0 = λ rs. RunsAre before.boot claim rs in subst R r.first (h.stands.runs claim h.claiming.claimed)

    accepts : AcceptsUnits before.boot (calls_of before.boot before.entries) claim.run calls
    accepts = span-accepts before.boot (calls_of before.boot before.entries) claim.run r.brings.taken r.span calls r.brings.has r.brings.accepts

    claim-is : claim_of before.boot after.entries p0.number ≡ goes_on before.boot (calls_of before.boot before.entries) calls (Some claim) (stop_of calls) next
    claim-is =
        ap (λ (es : List Entry). claim_of before.boot es p0.number) r.appends.entries
        ∙ claim-mine before.boot before.entries (turn_of p0.number p0.moved) (last_stamp before.entries) (report_event before.boot claim calls)
        ∙ ap (λ (c : Option Claimed). claim_step before.boot (calls_of before.boot before.entries) c (report_event before.boot claim calls)) h.claiming.claimed

    -- the entry that was made
    entry-is : (rs : List Units) (answer : Option Reply) → first_of rs ≡ next → answer ≡ told → unmoved (entry_at r.turned place.Memory (event.Report r.run calls (stopped_at end) (first_of rs)) answer) ≡ unmoved e
    entry-is rs answer first is =
        let same : event.Report r.run calls (stopped_at end) (first_of rs) ≡ report_event before.boot claim calls =
        ap (λ (u : Units). event.Report u calls (stopped_at end) (first_of rs)) runs-are.0 ∙ ap (λ (s : Option Page). event.Report claim.run calls s (first_of rs)) stop-is ∙ ap (event.Report claim.run calls (stop_of calls)) first in
        ap (λ (t : Turn). unmoved (entry_at t place.Memory (event.Report r.run calls (stopped_at end) (first_of rs)) answer)) r.appends.clock
        ∙ ap (λ (x : Event). unmoved (memory_entry p before x answer)) same
        ∙ ap (λ (o : Option Reply). unmoved (memory_entry p before (report_event before.boot claim calls) o)) is

    rose : is_module told ≡ true → Rose faults_before faults
    rose is =
        let S : Option Accepted → Type 0 = λ d. StopTold faults_before d faults in
        let stopped : StopTold faults_before (Some (accepted_by calls end)) faults = subst S h.done h.stands.stands.port.stopped in
        stopped (λ none. module-stopped for_block (stop_of calls) next cleared is (sym stop-is ∙ none))

    -- fewer steps are left, with those for the blocks that wait
    abbrev LeftIn : Option Taken → Option Taken → Type 0
    LeftIn out o = left_by (length p0.script) (replied (p0.moved ++ unmoved e ∷ [])) out + steps_waiting before.boot after.entries < left_by (length p0.script) (replied p0.moved) o + steps_waiting before.boot before.entries

    abbrev left_behind : Option Taken → ℕ
    left_behind out = left_by (length p0.script) (replied (p0.moved ++ unmoved e ∷ [])) out

    abbrev left_before : ℕ
    left_before = left_by (length p0.script) (replied p0.moved) (Some span)

    left-in : (out : Option Taken) → left_behind out + steps_waiting before.boot after.entries < left_before + steps_waiting before.boot before.entries → LeftIn out (Some span)
    left-in out less = less

    no-more : steps_waiting before.boot after.entries ≤ steps_waiting before.boot before.entries
    no-more = waiting-fewer before.boot before.entries after.entries r.others.waiting

    next-is : NextThere (see p) before.entries e
    next-is =
        let N : Option Reply → Type 0 = λ o. NextThere (see p) before.entries (memory_entry p before (report_event before.boot claim calls) o) in
        let same = ap (λ (oc : Option Command). told_by (is_alloc oc) (stop_of calls) next cleared) (sym h.claiming.present) in
        subst N same (report-next (see p) before.entries h.claiming.command claim calls h.claiming.present h.claiming.fine h.claiming.claims h.claiming.claimed accepts)

    nobodys : (got : Block) → e.event ≡ event.Got got → is_owner before.entries p0.number got ≡ false
    nobodys got is = absurd (let no : report_event before.boot claim calls ≡ event.Got got = is in cc)

    -- behind it
    finish : (out : Option Taken) (rs : List Units) → q ≡ going_on p (unmoved e) out rs q.room → LeftIn out (Some span)
        → IsOut (see (going_on p (unmoved e) out rs q.room)) after out None → RunsStand (going_on p (unmoved e) out rs q.room) after → calls_owed before.boot None rs ≤ kept
        → Stepped_to p q made_before made faults_before faults kept areas before after
    finish out rs is less is_out stand owed =
        let Q : Progressed → Type 0 = λ x. Stepped_to p x made_before made faults_before faults kept areas before after in
        let makes : MakesInMemory (see p) (see (going_on p (unmoved e) out rs q.room)) before after = record {
          m = unmoved e;
          makes = record {
            next = next-is.next;
            moved = refl;
            same = record { boot = refl; number = refl; script = refl; made_before = refl; made = refl; faults_before = refl; faults = refl };
            done = refl;
          };
          place = refl;
          busy = next-is.busy;
          boot = r.appends.boot;
          entries = r.appends.entries;
          others = r.others;
          less = subst (LeftIn out) (sym h.out) less;
        } in
        let needs : need_of (see p) ≡ need.Memory = ap (λ (o : Option Taken). need_by o (need_for before.boot p0.number (own_of p0.script p0.moved) (command_of p))) h.out in
        subst Q (sym is) (record {
          makes = makes;
          stands = made-course made_before made faults_before faults p (unmoved e) out rs q.room kept areas before after h.stands needs makes nobodys is_out stand owed (sym (ap unreported h.done)) rose;
        })

    count-by : (answer : Option Reply) → answer ≡ told → replied (p0.moved ++ unmoved e ∷ []) ≡ replied p0.moved + cond (is_some answer) 1 0
    count-by answer is = replied-push p0.moved (unmoved e) ∙ ap (λ (o : Option Reply). replied p0.moved + cond (is_some o) 1 0) (sym is)

    count-open : told ≡ None → replied (p0.moved ++ unmoved e ∷ []) ≡ replied p0.moved
    count-open none = count-by None (sym none) ∙ add-zero (replied p0.moved) where
      add-zero : (n : ℕ) → n + 0 ≡ n
      add-zero n = omega arith

    -- with a reply the command has ended
    left-ended : (answer : Reply) → told ≡ Some answer → LeftIn None (Some span)
    left-ended answer is =
        let count = ap (λ n. left_by (length p0.script) n None) (count-by (Some answer) (sym is)) in
        let less = less-closed (length p0.script) (replied p0.moved) span in
        let more = no-more in
        left-in None (omega (arith, count, less, more))

    left-closed : (b : Bool) → for_block ≡ b → stop_of calls ≡ None → next ≡ None → (claim.block ≢ None → waiting_left before.boot after.entries < waiting_left before.boot before.entries) → LeftIn None (Some span)
    left-closed false is whole none pays = left-ended (reply.Count cleared) (ap (λ (b : Bool). told_by b (stop_of calls) next cleared) is ∙ closed-told false (stop_of calls) next cleared cleared whole none refl)
    left-closed true is whole none pays =
        let untold : told ≡ None = ap (λ (b : Bool). told_by b (stop_of calls) next cleared) is ∙ closed-told true (stop_of calls) next cleared cleared whole none refl in
        let count = ap (λ n. left_by (length p0.script) n None) (count-open untold) in
        let some = slice_get_within p0.script (replied p0.moved) h.claiming.command h.claiming.present in
        let fewer = pays (for-a-block h.claiming.command claim.block h.claiming.claims (ap is_alloc (sym h.claiming.present) ∙ is)) in
        let less = again-less before.boot before.entries after.entries (length p0.script) (replied p0.moved) span some fewer in
        left-in None (omega (arith, count, less))

    -- no run is left, or it stopped
    closed-steps : (answer : Option Reply) → next ≡ None → told ≡ answer → LeftIn None (Some span)
        → q ≡ going_on p (unmoved (entry_at r.turned place.Memory (event.Report r.run calls (stopped_at end) None) answer)) None [] q.room
        → Stepped_to p q made_before made faults_before faults kept areas before after
    closed-steps answer none is less course =
        let same : q ≡ going_on p (unmoved e) None [] q.room = course ∙ ap (λ (x : Moved). let y : Progressed = going_on p x None [] q.room in y) (entry-is [] answer (sym none) (sym is)) in
        let still : claim_of before.boot after.entries p0.number ≡ None = claim-is ∙ closes before.boot (calls_of before.boot before.entries) calls claim (stop_of calls) next none in
        finish None [] same less still (no-runs made_before made faults_before faults (going_on p (unmoved e) None [] q.room) after still) (omega arith)

    -- the claim goes on with its next run
    next-steps : (other : Taken) → GoesOn before after p0.number claim calls other
        → q ≡ going_on p (unmoved (entry_at r.turned place.Memory (event.Report r.run calls (stopped_at end) (first_of later)) None)) (Some other) later q.room
        → Stepped_to p q made_before made faults_before faults kept areas before after
    next-steps other goes course =
        let stop = not-stopped before.boot claim (stop_of calls) goes.run goes.next in
        let b = next-behind before.boot claim (stop_of calls) later goes.run runs-are.1 goes.next in
        let first : first_of later ≡ next = ap first_of b.are ∙ sym goes.next in
        let open_still : told ≡ None = open-untold for_block (stop_of calls) next cleared goes.run stop goes.next in
        let same : q ≡ going_on p (unmoved e) (Some other) later q.room = course ∙ ap (λ (x : Moved). let y : Progressed = going_on p x (Some other) later q.room in y) (entry-is later None first (sym open_still)) in
        let claim' = next_claim before.boot (calls_of before.boot before.entries) calls claim goes.run in
        let claimed : claim_of before.boot after.entries p0.number ≡ Some claim' = claim-is ∙ continues before.boot (calls_of before.boot before.entries) calls claim (stop_of calls) next goes.run stop goes.next in
        let count = count-open open_still in
        let size = h.stands.stands.booted.some in
        let some = h.claiming.some in
        let pages : span.ticket.pages ≡ pages_of before.boot claim.run = span-pages in
        let there : other.ticket.pages ≡ pages_of before.boot goes.run = goes.out.has.pages ∙ ap (λ (x : Boot). pages_of x goes.run) r.appends.boot in
        let behind = pages-behind before.boot claim.run goes.run size some b.behind in
        let low = pages-low before.boot claim.run span.ticket.pages size some pages span-low in
        let here_first = ap (λ (x : Pages). x.first) pages in
        let there_first = ap (λ (x : Pages). x.first) there in
        let less = less-next (length p0.script) (replied p0.moved) span other (omega (arith, behind, here_first, there_first)) low in
        let by_count = ap (λ n. left_by (length p0.script) n (Some other)) count in
        let more = no-more in
        let left = left-in (Some other) (omega (arith, by_count, less, more)) in
        let now : command_of (going_on p (unmoved e) (Some other) later q.room) ≡ Some h.claiming.command = ap (slice_get p0.script) count ∙ h.claiming.present in
        let claiming : Claiming (see (going_on p (unmoved e) (Some other) later q.room)) after claim' other = record {
          claimed = claimed;
          handed = record { ticket = other.ticket; room = goes.out.room };
          is_handed = goes.out.handed;
          ticket = refl;
          some = b.some;
          command = h.claiming.command;
          present = now;
          fine = fine-behind before.boot p0.script p0.moved (unmoved e) h.claiming.command claim.block h.claiming.claims (λ name own. refl) open_still h.claiming.present h.claiming.fine;
          claims = h.claiming.claims;
          clock = clock-low p0.moved before.entries after.entries e refl r.appends.entries;
        } in
        let handed : IsAsHanded after p0.number claim' other = record {
          before = after.entries;
          rest = [];
          split = sym (append-nil after.entries);
          others = All-nil (λ (x : Entry). x.cpu.0 ≢ p0.number);
          has = goes.out.has;
        } in
        let R : List Units → Type 0 = λ rs. RunsAre before.boot claim' rs in
        let are : RunsAre before.boot claim' later = subst R (sym b.are) (refl, b.runs) in
        let stand : RunsStand (going_on p (unmoved e) (Some other) later q.room) after = (λ x has. (let C : Claimed → Type 0 = λ y. RunsAre before.boot y later in subst C (same-claimed (claim_of before.boot after.entries p0.number) claim' x claimed has) are)) in
        let O : Option Accepted → Type 0 = λ d. calls_owed before.boot d p0.runs ≤ kept in
        finish (Some other) later same left (claim', claiming, handed) stand (subst O h.done h.stands.port)
      where
        same-span : span ≡ r.span
        same-span = let both : Some span ≡ Some r.span = sym h.out ∙ r.out in (let same : span ≡ r.span = cc in same)

        span-pages : span.ticket.pages ≡ pages_of before.boot claim.run
        span-pages = ap (λ (s : Taken). s.ticket.pages) same-span ∙ ap (λ (t : Ticket). t.pages) r.brings.accepts.ticket ∙ r.brings.has.pages

        span-low : LieInMemory span.ticket.pages
        span-low = let L : Taken → Type 0 = λ s. LieInMemory s.ticket.pages in subst L (sym same-span) r.low

    by-answer : (reported : Reported) → ReportedBy before after (turn_of p0.number p0.moved) claim calls reported
        → q ≡ going_on p (unmoved (entry_at r.turned place.Memory (event.Report r.run calls (stopped_at end) (first_of (runs_with (span_of_report reported) later))) (reply_of_report for_block reported))) (span_of_report reported) (runs_with (span_of_report reported) later) q.room
        → Stepped_to p q made_before made faults_before faults kept areas before after
    by-answer (Next other) by course = next-steps other by course
    by-answer (Closed count) by course =
        closed-steps (reply_of_report for_block (Closed count)) by.1 (closed-told for_block (stop_of calls) next cleared count by.0 by.1 by.2) (left-closed for_block refl by.0 by.1 by.4) course
    by-answer Stopped by course =
        let told_module = stopped-module for_block (stop_of calls) next cleared by.0 in
        closed-steps (Some reply.Module) (stopped-none before.boot claim (stop_of calls) by.0) told_module (left-ended reply.Module told_module) course

    pub report-at : Stepped_to p q made_before made faults_before faults kept areas before after
    report-at = by-answer r.reported r.by r.course

-- the same, of a processor of the memory's boot
pub report-steps : (p q : Progressed) (made_before made : List ModuleCall) (faults_before faults kept : ℕ) (areas : List AreaValue) (before after : MemoryValue) (claim : Claimed) (span : Taken) (calls : List ModuleCall) (end : RunEnd) → ReportOver p q made_before made faults_before faults kept areas before after claim span calls end → Stepped_to p q made_before made faults_before faults kept areas before after
report-steps p q made_before made faults_before faults kept areas before after claim span calls end h =
    let T : Boot → Type 0 = λ b. ReportOver (record p { boot = b }) q made_before made faults_before faults kept areas before after claim span calls end → Stepped_to (record p { boot = b }) q made_before made faults_before faults kept areas before after in
    let here : T before.boot = (λ x. report-at made_before made faults_before faults kept p q areas before after claim span calls end x) in
    let there : T p.boot = subst T h.stands.stands.same.memory here in
    there h

-- ---- what may be reported

some-of : {A : Type 0} (o : Option A) → o ≢ None → (x : A) × (o ≡ Some x)
some-of None some = absurd (some refl)
some-of (Some x) some = (x, refl)

next-left : (boot : Boot) (claim : Claimed) (runs : List Units) (stop : Option Page) (run : Units) → RunsAre boot claim runs → next_run boot claim stop ≡ Some run → drop 1 runs ≢ []
next-left boot claim [] stop run are is none = are
next-left boot claim (r ∷ later) stop run are is none =
    let b = next-behind boot claim stop later run are.1 is in
    let no : b_list b ≡ [] = sym b.are ∙ none in
    cc
  where
    b_list : Behind boot claim later run → List Units
    b_list b = run ∷ b.rest

handed-if : (o : Option Handed) (h : Handed) (t : Ticket) → o ≡ Some h → h.ticket ≡ t → IfSome o (λ (x : Handed). x.ticket ≡ t)
handed-if o h t is same = let P : Option Handed → Type 0 = λ x. IfSome x (λ (y : Handed). y.ticket ≡ t) in subst P (sym is) same

-- a processor with a claim open, whose span was worked on
pub record Worked (p : Progressed) (made_before made : List ModuleCall) (faults_before faults : ℕ) (memory : MemoryValue) : Type 0 where
  pub claim : Claimed
  pub span : Taken
  pub calls : List ModuleCall
  pub end : RunEnd
  pub out : p.out ≡ Some span
  pub done : p.done ≡ Some (accepted_by calls end)
  pub claiming : Claiming (seen_with p made_before made faults_before faults) memory claim span
  pub may : Reportable p memory

pub worked-may : (p : Progressed) (made_before made : List ModuleCall) (faults_before faults kept : ℕ) (areas : List AreaValue) (memory : MemoryValue) → CourseStands p made_before made faults_before faults kept (ground_of memory areas) → p.out ≢ None → p.done ≢ None → Worked p made_before made faults_before faults memory
worked-may p made_before made faults_before faults kept areas memory s is_out is_done =
    let out = some-of p.out is_out in
    let done = some-of p.done is_done in
    let c = seen_with p made_before made faults_before faults in
    let at = out-claims c memory p.out p.done out.0 done.0 s.stands.out out.1 done.1 in
    let claiming = at.1 in
    let boot = s.stands.same.memory in
    let claimed : claim_of memory.boot memory.entries p.number ≡ Some at.0 = ap (λ (b : Boot). claim_of b memory.entries p.number) boot ∙ claiming.claimed in
    let more = slice_get_within p.script (replied p.moved) claiming.command claiming.present in
    let few = s.stands.readable.few in
    let low = claiming.clock in
    let R : Boot → Type 0 = λ b. RunsAre b at.0 p.runs in
    let runs : RunsAre memory.boot at.0 p.runs = subst R (sym boot) (s.runs at.0 claiming.claimed) in
    record {
      claim = at.0;
      span = out.0;
      calls = done.0.calls;
      end = done.0.end;
      out = out.1;
      done = done.1;
      claiming = claiming;
      may = record {
        span = out.0;
        out = out.1;
        calls = done.0.calls;
        end = done.0.end;
        done = done.1;
        few = omega (arith, more, few);
        may = record {
          claim = at.0;
          claimed = claimed;
          out = handed-if (handed_to memory p.number) claiming.handed out.0.ticket claiming.is_handed claiming.ticket;
          brings = at.2;
          clock = omega (arith, low);
        };
        next = λ run is. next-left memory.boot at.0 p.runs (stop_of done.0.calls) run runs is;
      };
    }

-- a report by a processor that stands
pub report-all : (p q : Progressed) (made_before made : List ModuleCall) (faults_before faults kept : ℕ) (areas : List AreaValue) (before after : MemoryValue) → CourseStands p made_before made faults_before faults kept (ground_of before areas) → p.out ≢ None → p.done ≢ None
    → ((calls : List ModuleCall) (end : RunEnd) → p.done ≡ Some (accepted_by calls end) → (claim : Claimed) → claim_of before.boot before.entries p.number ≡ Some claim → Reports p q before after claim calls end)
    → Stepped_to p q made_before made faults_before faults kept areas before after
report-all p q made_before made faults_before faults kept areas before after s is_out is_done reports =
    let w = worked-may p made_before made faults_before faults kept areas before s is_out is_done in
    let claimed : claim_of before.boot before.entries p.number ≡ Some w.claim = ap (λ (b : Boot). claim_of b before.entries p.number) s.stands.same.memory ∙ w.claiming.claimed in
    report-steps p q made_before made faults_before faults kept areas before after w.claim w.span w.calls w.end (record {
      stands = s;
      out = w.out;
      done = w.done;
      claiming = w.claiming;
      reports = reports w.calls w.end w.done w.claim claimed;
    })
