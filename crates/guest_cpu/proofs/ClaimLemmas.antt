use Rattle.std.proofs.Common.{◌≡◌, ◌≢◌, ◌⊎◌, ℕ, ◌+◌, ◌≤◌, ◌<◌, max, true, false, Option, None, Some, List, [], ◌∷◌, ◌++◌, refl, sym, ◌∙◌, ap, subst, inl, inr, arith, append-nil, cond, length}
use Rattle.std.specs.Prelude.{is_some, slice_get, sum_by}
use Rattle.std.proofs.lemmas.Option.{slice_get_within}
use Rattle.std.proofs.lemmas.List.Elements.{All-nil}
use Rattle.std.proofs.lemmas.List.Sums.{fold-append}
use Rattle.guest_base.specs.Counts.{Rose}
use Rattle.guest_base.specs.declared.memory.Block.{Block}
use Rattle.guest_base.specs.declared.memory.Units.{Units}
use Rattle.event_core.specs.declared.boot.Boot.{Boot}
use Rattle.event_core.specs.declared.command.Command.{Command}
use Rattle.event_core.specs.declared.command.Command.TheVariants as command
use Rattle.event_core.specs.declared.entry.Entry.{Entry}
use Rattle.event_core.specs.declared.entry.Turn.{Turn}
use Rattle.event_core.specs.declared.event.Event.TheVariants as event
use Rattle.event_core.specs.declared.module_call.ModuleCall.{ModuleCall}
use Rattle.event_core.specs.declared.reply.Reply.{Reply}
use Rattle.event_core.specs.declared.reply.Reply.TheVariants as reply
use Rattle.event_core.specs.Calls.{calls_of}
use Rattle.event_core.specs.Claims.{Claimed, claim_of, in_the_way, opened}
use Rattle.event_core.specs.Legal.{greatest_stamp}
use Rattle.event_core.specs.MemoryRows.{run_of_claim}
use Rattle.event_core.specs.Moved.{Moved}
use Rattle.event_core.specs.Next.{claim_reply}
use Rattle.event_core.specs.Own.{after_alloc, own_of, replied}
use Rattle.event_core.specs.Holdings.{Own}
use Rattle.event_core.specs.Refusals.{refusal_of}
use Rattle.event_core.specs.Units.{bit_after, units_end}
use Rattle.memory_core.specs.Answers.{Opens, OthersKeep}
use Rattle.memory_core.specs.Bitmaps.{AreRunsFrom}
use Rattle.memory_core.specs.Owners.{is_owner}
use Rattle.memory_core.specs.Steps.{Appends, last_stamp}
use Rattle.memory_core.specs.UnderLock.{unmoved}
use Rattle.io_areas.specs.Value.{AreaValue}
use Rattle.memory_core.specs.Value.{MemoryValue}
use Rattle.memory_core.specs.Waiting.{waiting_left}
use Rattle.memory_core.proofs.StepLemmas.{claim-mine}
use Rattle.memory_core.proofs.UnitsLemmas.{first_run-facts}
use Rattle.page_module.specs.Spans.{Taken}
use Rattle.guest_steps.specs.Replies.{is_module}
use Rattle.guest_steps.specs.Seen.{Seen, left_by, need_of, need_unrefused, steps_waiting}
use Rattle.guest_steps.specs.declared.processor.Need.TheVariants as need
use Rattle.guest_steps.specs.Ground.{Ground, ground_of}
use Rattle.guest_steps.specs.Standing.{Claiming, ClaimsFor, IsAsHanded, unreported}
use Rattle.guest_steps.specs.Steps.{IsBlocked, MakesInMemory, RoomAlone, without_reply}
use Rattle.guest_steps.specs.declared.processor.Stepped.{Stepped}
use Rattle.guest_steps.specs.declared.processor.Stepped.TheVariants as stepped
use Rattle.guest_steps.proofs.AccountLemmas.{cleared-less, waiting-fewer}
use Rattle.guest_cpu.specs.Kept.{most_of}
use Rattle.guest_cpu.specs.Made.{turn_of}
use Rattle.guest_cpu.specs.Progressing.{Progressed, command_of}
use Rattle.guest_cpu.specs.Standing.{CourseStands, RunsAre, RunsStand, seen_with}
use Rattle.guest_cpu.specs.Stepping.{AreRunsAmong, ClaimMade, OnlyRoom, claim_made, first_of, going_on, memory_entry, reply_of_claim, runs_with}
use Rattle.guest_cpu.proofs.CourseLemmas.{made-course, no-runs, replied-less, rests-free, rests-undone}
use Rattle.guest_cpu.proofs.OwnLemmas.{alloc-still}
use Rattle.guest_cpu.proofs.MemoryLemmas.{Stepped_to, room-steps, steps-memory}
use Rattle.guest_cpu.proofs.NextLemmas.{NextThere}
use Rattle.guest_cpu.proofs.RoomAloneLemmas.{seen-room}
use Rattle.guest_cpu.proofs.ToldLemmas.{less-claimed, replied-push}

-- What a claim makes of a processor that stands.

-- ---- stamps

pub greatest-push : (moved : List Moved) (m : Moved) → greatest_stamp (moved ++ m ∷ []) ≡ max (greatest_stamp moved) m.entry.stamp
greatest-push moved m = fold-append (λ (greatest : ℕ) (x : Moved). max greatest x.entry.stamp) 0 moved (m ∷ [])

last-push : (memory : List Entry) (e : Entry) → last_stamp (memory ++ e ∷ []) ≡ max (last_stamp memory) e.stamp
last-push memory e = fold-append (λ (last : ℕ) (x : Entry). max last x.stamp) 0 memory (e ∷ [])

-- behind an entry of the memory its stamp is the greatest of both
pub clock-low : (moved : List Moved) (memory after : List Entry) (e : Entry) → e.stamp ≡ max (greatest_stamp moved) (last_stamp memory) + 1 → after ≡ memory ++ without_reply e ∷ [] → greatest_stamp (moved ++ unmoved e ∷ []) ≤ last_stamp after
clock-low moved memory after e stamp is =
    let own = greatest-push moved (unmoved e) in
    let last : last_stamp after ≡ max (last_stamp memory) e.stamp = ap last_stamp is ∙ last-push memory (without_reply e) in
    omega (arith, stamp, own, last)

-- ---- runs

pub record First (memory : MemoryValue) (units : Option Units) (runs : List Units) (run : Units) : Type 0 where
  pub later : List Units
  pub are : runs ≡ run ∷ later
  pub among : Units
  pub is : units ≡ Some among
  pub some : 0 < run.count
  pub behind : AreRunsFrom (bit_after memory.boot (calls_of memory.boot memory.entries)) (units_end run) (units_end among) later

pub among-first : (memory : MemoryValue) (units : Option Units) (runs : List Units) (run : Units) → AreRunsAmong memory units runs → run_of_claim memory.boot memory.entries units ≡ Some run → First memory units runs run
among-first memory None runs run are first = absurd (let no : None ≡ Some run = first in cc)
among-first memory (Some u) [] run are first = absurd (let no : None ≡ Some run = sym are ∙ first in cc)
among-first memory (Some u) (r ∷ later) run are first =
    let some : Some r ≡ Some run = sym are.0 ∙ first in
    let same : r ≡ run = cc in
    let B : Units → Type 0 = λ x. AreRunsFrom (bit_after memory.boot (calls_of memory.boot memory.entries)) (units_end x) (units_end u) later in
    let facts = first_run-facts (bit_after memory.boot (calls_of memory.boot memory.entries)) u.first (units_end u) run first in
    record { later = later; are = ap (λ x. x ∷ later) same; among = u; is = refl; some = facts.some; behind = subst B same are.1 }

-- a claim without a run isn't open
opened-none : (block : Option Block) (units run : Option Units) (calls : List ModuleCall) → run ≡ None → opened block units run calls ≡ None
opened-none block None run calls is = refl
opened-none block (Some u) None calls is = refl
opened-none block (Some u) (Some run) calls is = absurd (let no : Some run ≡ None = is in cc)

abbrev open_claim : Option Block → Units → Units → List ModuleCall → Claimed
open_claim block units run calls = record { block = block; units = units; run = run; before = calls; cleared = 0 }

opened-some : (block : Option Block) (units run : Option Units) (u r : Units) (calls : List ModuleCall) → units ≡ Some u → run ≡ Some r → opened block units run calls ≡ Some (open_claim block u r calls)
opened-some block units run u r calls is_units is_run =
    ap (λ o. opened block o run calls) is_units ∙ ap (λ o. opened block (Some u) o calls) is_run

pub same-claimed : (found : Option Claimed) (a b : Claimed) → found ≡ Some a → found ≡ Some b → a ≡ b
same-claimed found a b is other = let some : Some a ≡ Some b = sym is ∙ other in (let same : a ≡ b = cc in same)

-- ---- the claim

-- the claim took out its first run; or it found none, and where it is for a block that is accepted
abbrev pub OpensBy : MemoryValue → MemoryValue → ℕ → Option Block → Option Units → Option Taken → Type 0
OpensBy before after cpu block units None =
    (in_the_way before.boot before.entries units ≡ None) × (run_of_claim before.boot before.entries units ≡ None)
    × (block ≢ None → waiting_left before.boot after.entries < waiting_left before.boot before.entries)
OpensBy before after cpu block units (Some span) = Opens before after cpu units span

-- what a claim is made over
pub record ClaimOver (p q : Progressed) (made_before made : List ModuleCall) (faults_before faults kept : ℕ) (areas : List AreaValue) (before after : MemoryValue) (c : Command) (block : Option Block) (units : Option Units) (runs : List Units) (span : Option Taken) (ended : Stepped) : Type 0 where
  pub stands : CourseStands p made_before made faults_before faults kept (ground_of before areas)
  pub rests : p.out ≡ None
  pub now : command_of p ≡ Some c
  pub fine : refusal_of p.boot (own_of p.script p.moved) c ≡ None
  pub claims : ClaimsFor c block
  pub next : in_the_way before.boot before.entries units ≡ None
      → (let run = run_of_claim before.boot before.entries units in NextThere (seen_with p made_before made faults_before faults) before.entries (memory_entry p before (event.Claim block units run) (reply_of_claim block run)))
  pub did : ClaimMade p q before after block units span runs ended
  pub opens : OpensBy before after p.number block units span
  pub others : OthersKeep before after p.number
  pub among : AreRunsAmong before units runs
  pub owed : sum_by (most_of p.boot) runs ≤ kept

-- the command of a claim isn't refused behind an entry that doesn't end it either
pub fine-behind : (boot : Boot) (script : List Command) (moved : List Moved) (m : Moved) (c : Command) (block : Option Block) → ClaimsFor c block → ((name : List ℕ) (own : Own) → after_alloc name m.entry.event own ≡ own) → m.entry.reply ≡ None → slice_get script m.entry.cmd ≡ Some c
    → refusal_of boot (own_of script moved) c ≡ None → refusal_of boot (own_of script (moved ++ m ∷ [])) c ≡ None
fine-behind boot script moved m (command.Accept start len) block claims quiet none its fine = fine
fine-behind boot script moved m (command.Alloc name order) block claims quiet none its fine =
    ap (λ (o : Own). refusal_of boot o (command.Alloc name order)) (alloc-still script moved m name order its none (quiet name)) ∙ fine
fine-behind boot script moved m _ block claims quiet none its fine = absurd claims

-- what claims takes a step of the memory
claims-memory : (boot : Boot) (cpu : ℕ) (own : Own) (c : Command) (block : Option Block) → ClaimsFor c block → need_unrefused boot cpu own c ≡ need.Memory
claims-memory boot cpu own (command.Accept start len) block claims = refl
claims-memory boot cpu own (command.Alloc name order) block claims = refl
claims-memory boot cpu own _ block claims = absurd claims

no-module : (block : Option Block) (run : Option Units) (before after : ℕ) → is_module (reply_of_claim block run) ≡ true → Rose before after
no-module None None before after is = absurd (let no : false ≡ true = is in cc)
no-module None (Some run) before after is = absurd (let no : false ≡ true = is in cc)
no-module (Some block) run before after is = absurd (let no : false ≡ true = is in cc)

no-reply : (block : Option Block) (run : Option Units) (r : Units) → run ≡ Some r → reply_of_claim block run ≡ None
no-reply None run r is = ap claim_reply is
no-reply (Some block) run r is = refl

module _ (made_before made : List ModuleCall) (faults_before faults kept : ℕ) (p0 q : Progressed) (areas : List AreaValue) (before after : MemoryValue) (c : Command) (block : Option Block) (units : Option Units) (runs : List Units) (span : Option Taken) (ended : Stepped) where
  abbrev p : Progressed
  p = record p0 { boot = before.boot }

  abbrev see : Progressed → Seen
  see x = seen_with x made_before made faults_before faults

  abbrev run : Option Units
  run = run_of_claim before.boot before.entries units

  abbrev e : Entry
  e = memory_entry p before (event.Claim block units run) (reply_of_claim block run)

  module _ (h : ClaimOver p q made_before made faults_before faults kept areas before after c block units runs span ended) where
    undone : p0.done ≡ None
    undone = rests-undone (see p) before p0.out p0.done h.stands.stands.out h.rests

    free : claim_of before.boot before.entries p0.number ≡ None
    free = rests-free (see p) before p0.out p0.done h.stands.stands.out h.rests

    appends : Appends before after (turn_of p0.number p0.moved) h.did.turned (event.Claim block units run)
    appends = h.did.appends

    -- the claim after it
    claim-is : claim_of before.boot after.entries p0.number ≡ opened block units run (calls_of before.boot before.entries)
    claim-is =
        ap (λ (es : List Entry). claim_of before.boot es p0.number) appends.entries ∙ claim-mine before.boot before.entries (turn_of p0.number p0.moved) (last_stamp before.entries) (event.Claim block units run)

    -- the entry that was made
    entry-is : (rs : List Units) → first_of rs ≡ run → claim_made h.did.turned block units rs ≡ unmoved e
    entry-is rs first =
        ap (λ (t : Turn). claim_made t block units rs) appends.clock
        ∙ ap (λ (o : Option Units). let x : Moved = unmoved (memory_entry p before (event.Claim block units o) (reply_of_claim block o)) in x) first

    needs : need_of (see p) ≡ need.Memory
    needs = steps-memory (see p) c h.rests h.now h.fine (claims-memory before.boot p0.number (own_of p0.script p0.moved) c block h.claims)

    -- no more blocks wait, and fewer where it makes one accepted
    abbrev LeftIn : Option Taken → Option Taken → Type 0
    LeftIn out o = left_by (length p0.script) (replied (p0.moved ++ unmoved e ∷ [])) out + steps_waiting before.boot after.entries < left_by (length p0.script) (replied p0.moved) o + steps_waiting before.boot before.entries

    abbrev makes-with : (out : Option Taken) (rs : List Units) → in_the_way before.boot before.entries units ≡ None → LeftIn out None → MakesInMemory (see p) (see (going_on p (unmoved e) out rs q.room)) before after
    makes-with out rs way less = record {
      m = unmoved e;
      makes = record {
        next = (h.next way).next;
        moved = refl;
        same = record { boot = refl; number = refl; script = refl; made_before = refl; made = refl; faults_before = refl; faults = refl };
        done = refl;
      };
      place = refl;
      busy = (h.next way).busy;
      boot = appends.boot;
      entries = appends.entries;
      others = h.others;
      less = subst (LeftIn out) (sym h.rests) less;
    }

    nobodys : (got : Block) → e.event ≡ event.Got got → is_owner before.entries p0.number got ≡ false
    nobodys got is = absurd (let no : event.Claim block units run ≡ event.Got got = is in cc)

    replies-none : e.reply ≡ None → replied (p0.moved ++ unmoved e ∷ []) ≡ replied p0.moved
    replies-none none = replied-push p0.moved (unmoved e) ∙ ap (λ (o : Option Reply). replied p0.moved + cond (is_some o) 1 0) none ∙ add_zero (replied p0.moved) where
      add_zero : (n : ℕ) → n + 0 ≡ n
      add_zero n = omega arith

    no-more : steps_waiting before.boot after.entries ≤ steps_waiting before.boot before.entries
    no-more = waiting-fewer before.boot before.entries after.entries h.others.waiting

    -- with no run an acceptance ends, and an allocation goes on with one block fewer that waits
    clear-less : (b : Option Block) → block ≡ b → run ≡ None → (block ≢ None → waiting_left before.boot after.entries < waiting_left before.boot before.entries) → LeftIn None None
    clear-less None is none pays =
        let ends : e.reply ≡ Some (reply.Count 0) = ap (λ (x : Option Block). reply_of_claim x run) is ∙ ap claim_reply none in
        let less = replied-less made_before made faults_before faults p (unmoved e) (reply.Count 0) c h.now ends in
        let more = no-more in
        omega (arith, less, more)
    clear-less (Some b) is none pays =
        let still : e.reply ≡ None = ap (λ (x : Option Block). reply_of_claim x run) is in
        let count = ap (λ n. left_by (length p0.script) n None) (replies-none still) in
        let fewer = pays (λ nothing. (let no : Some b ≡ None = sym is ∙ nothing in cc)) in
        let less = cleared-less before.boot before.entries after.entries (length p0.script) (replied p0.moved) fewer in
        omega (arith, less, count)

    clear-steps : in_the_way before.boot before.entries units ≡ None → run ≡ None → (block ≢ None → waiting_left before.boot after.entries < waiting_left before.boot before.entries)
        → q ≡ going_on p (claim_made h.did.turned block units []) None [] q.room → Stepped_to p q made_before made faults_before faults kept areas before after
    clear-steps way none pays course =
        let is : q ≡ going_on p (unmoved e) None [] q.room = course ∙ ap (λ (x : Moved). let y : Progressed = going_on p x None [] q.room in y) (entry-is [] (sym none)) in
        let Q : Progressed → Type 0 = λ x. Stepped_to p x made_before made faults_before faults kept areas before after in
        let still : claim_of before.boot after.entries p0.number ≡ None = claim-is ∙ opened-none block units run (calls_of before.boot before.entries) none in
        let makes = makes-with None [] way (clear-less block refl none pays) in
        subst Q (sym is) (record {
          makes = makes;
          stands = made-course made_before made faults_before faults p (unmoved e) None [] q.room kept areas before after h.stands needs makes nobodys still
              (no-runs made_before made faults_before faults (going_on p (unmoved e) None [] q.room) after still) (omega arith) (sym (ap unreported undone)) (no-module block run faults_before faults);
        })

    -- with a run it is open, and the run's pages are out
    run-steps : (s : Taken) → Opens before after p0.number units s → q ≡ going_on p (claim_made h.did.turned block units runs) (Some s) runs q.room → Stepped_to p q made_before made faults_before faults kept areas before after
    run-steps s opens course =
        let first = among-first before units runs opens.run h.among opens.first in
        let told : first_of runs ≡ run = ap first_of first.are ∙ sym opens.first in
        let is : q ≡ going_on p (unmoved e) (Some s) runs q.room = course ∙ ap (λ (x : Moved). let y : Progressed = going_on p x (Some s) runs q.room in y) (entry-is runs told) in
        let Q : Progressed → Type 0 = λ x. Stepped_to p x made_before made faults_before faults kept areas before after in
        let claim = open_claim block first.among opens.run (calls_of before.boot before.entries) in
        let claimed : claim_of before.boot after.entries p0.number ≡ Some claim = claim-is ∙ opened-some block units run first.among opens.run (calls_of before.boot before.entries) first.is opens.first in
        let open_still : e.reply ≡ None = no-reply block run opens.run opens.first in
        let count = replies-none open_still in
        let more = slice_get_within p0.script (replied p0.moved) c h.now in
        let fewer = less-claimed (length p0.script) (replied p0.moved) s more in
        let same = ap (λ n. left_by (length p0.script) n (Some s)) count in
        let waiting = no-more in
        let makes = makes-with (Some s) runs opens.free (omega (arith, fewer, same, waiting)) in
        let now : command_of (going_on p (unmoved e) (Some s) runs q.room) ≡ Some c = ap (slice_get p0.script) count ∙ h.now in
        let claiming : Claiming (see (going_on p (unmoved e) (Some s) runs q.room)) after claim s = record {
          claimed = claimed;
          handed = record { ticket = s.ticket; room = opens.out.room };
          is_handed = opens.out.handed;
          ticket = refl;
          some = first.some;
          command = c;
          present = now;
          fine = fine-behind before.boot p0.script p0.moved (unmoved e) c block h.claims (λ name own. refl) open_still h.now h.fine;
          claims = h.claims;
          clock = clock-low p0.moved before.entries after.entries e refl appends.entries;
        } in
        let handed : IsAsHanded after p0.number claim s = record {
          before = after.entries;
          rest = [];
          split = sym (append-nil after.entries);
          others = All-nil (λ (x : Entry). x.cpu.0 ≢ p0.number);
          has = opens.out.has;
        } in
        let R : List Units → Type 0 = λ rs. RunsAre before.boot claim rs in
        let are : RunsAre before.boot claim runs = subst R (sym first.are) (refl, first.behind) in
        let stand : RunsStand (going_on p (unmoved e) (Some s) runs q.room) after = (λ other has. (let C : Claimed → Type 0 = λ x. RunsAre before.boot x runs in subst C (same-claimed (claim_of before.boot after.entries p0.number) claim other claimed has) are)) in
        subst Q (sym is) (record {
          makes = makes;
          stands = made-course made_before made faults_before faults p (unmoved e) (Some s) runs q.room kept areas before after h.stands needs makes nobodys (claim, claiming, handed) stand h.owed (sym (ap unreported undone)) (no-module block run faults_before faults);
        })

    steps-by : (s : Option Taken) → OpensBy before after p0.number block units s → q ≡ going_on p (claim_made h.did.turned block units (runs_with s runs)) s (runs_with s runs) q.room → Stepped_to p q made_before made faults_before faults kept areas before after
    steps-by None opens course = clear-steps opens.0 opens.1 opens.2 course
    steps-by (Some s) opens course = run-steps s opens course

    pub claim-at : Stepped_to p q made_before made faults_before faults kept areas before after
    claim-at = steps-by span h.opens h.did.course

-- the same, of a processor of the memory's boot
pub claim-steps : (p q : Progressed) (made_before made : List ModuleCall) (faults_before faults kept : ℕ) (areas : List AreaValue) (before after : MemoryValue) (c : Command) (block : Option Block) (units : Option Units) (runs : List Units) (span : Option Taken) (ended : Stepped) → ClaimOver p q made_before made faults_before faults kept areas before after c block units runs span ended → Stepped_to p q made_before made faults_before faults kept areas before after
claim-steps p q made_before made faults_before faults kept areas before after c block units runs span ended h =
    let T : Boot → Type 0 = λ b. ClaimOver (record p { boot = b }) q made_before made faults_before faults kept areas before after c block units runs span ended → Stepped_to (record p { boot = b }) q made_before made faults_before faults kept areas before after in
    let here : T before.boot = (λ x. claim-at made_before made faults_before faults kept p q areas before after c block units runs span ended x) in
    let there : T p.boot = subst T h.stands.stands.same.memory here in
    there h

-- ---- a step with no claim open

-- how it ends, of a port that was asked for room
pub record StepEnds (p q : Progressed) (made_before made made_then : List ModuleCall) (faults_before faults faults_then kept : ℕ) (areas : List AreaValue) (before after : MemoryValue) (ended : Stepped) : Type 0 where
  pub stands : CourseStands q made_before made_then faults_before faults_then kept (ground_of after areas)
  pub event : ended ≡ stepped.Event → MakesInMemory (seen_with p made_before made faults_before faults) (seen_with q made_before made_then faults_before faults_then) before after
  pub blocked : ended ≡ stepped.Blocked
      → (seen_with q made_before made_then faults_before faults_then ≡ seen_with p made_before made faults_before faults) × RoomAlone before after × IsBlocked (seen_with p made_before made faults_before faults) before.entries

-- nothing changed, and the processor is blocked
pub record Waits (p q : Progressed) (made_before made : List ModuleCall) (faults_before faults : ℕ) (before after : MemoryValue) (ended : Stepped) : Type 0 where
  pub is : ended ≡ stepped.Blocked
  pub course : q ≡ p
  pub memory : after ≡ before
  pub blocked : IsBlocked (seen_with p made_before made faults_before faults) before.entries

-- an entry is made, or the processor is blocked
abbrev pub EndsEither : Progressed → Progressed → List ModuleCall → List ModuleCall → ℕ → ℕ → ℕ → List AreaValue → MemoryValue → MemoryValue → Stepped → Type 0
EndsEither p q made_before made faults_before faults kept areas before after ended =
    ((ended ≡ stepped.Event) × Stepped_to p q made_before made faults_before faults kept areas before after) ⊎ Waits p q made_before made faults_before faults before after ended

module _ (made_before made : List ModuleCall) (faults_before faults kept : ℕ) (p taken q : Progressed) (areas : List AreaValue) (before between after : MemoryValue) (ended : Stepped) (stood : CourseStands taken made_before made faults_before faults kept (ground_of between areas)) (only : OnlyRoom p taken) (alone : RoomAlone before between) where
  pub ends-from : EndsEither taken q made_before made faults_before faults kept areas between after ended → StepEnds p q made_before made made faults_before faults faults kept areas before after ended
  ends-from (inl made_it) =
      let all = room-steps made_before made faults_before faults p taken q kept areas before between after only alone made_it.1 in
      record {
        stands = all.stands;
        event = λ _. all.makes;
        blocked = λ no. absurd (let both : stepped.Event ≡ stepped.Blocked = sym made_it.0 ∙ no in cc);
      }
  ends-from (inr w) =
      let S : Progressed → Type 0 = λ x. CourseStands x made_before made faults_before faults kept (ground_of after areas) in
      let A : MemoryValue → Type 0 = λ m. CourseStands taken made_before made faults_before faults kept (ground_of m areas) in
      let R : MemoryValue → Type 0 = λ m. RoomAlone before m in
      let see = λ (x : Progressed). seen_with x made_before made faults_before faults in
      let seen = seen-room made_before made faults_before faults p taken only in
      let B : Seen → Type 0 = λ c. IsBlocked c between.entries in
      let E : List Entry → Type 0 = λ es. IsBlocked (see p) es in
      record {
        stands = subst S (sym w.course) (subst A (sym w.memory) stood);
        event = λ no. absurd (let both : stepped.Blocked ≡ stepped.Event = sym w.is ∙ no in cc);
        blocked = λ _. (ap see w.course ∙ seen, subst R (sym w.memory) alone, subst E alone.entries (subst B seen w.blocked));
      }

-- a port that was asked for room, no more
pub stands-then : (q : Progressed) (made_before made made_then : List ModuleCall) (faults_before faults faults_then kept : ℕ) (base : Ground) → made_then ≡ made → faults_then ≡ faults → CourseStands q made_before made faults_before faults kept base → CourseStands q made_before made_then faults_before faults_then kept base
stands-then q made_before made made_then faults_before faults faults_then kept base same_made same_faults stands =
    let M : List ModuleCall → Type 0 = λ m. CourseStands q made_before m faults_before faults kept base in
    let F : ℕ → Type 0 = λ f. CourseStands q made_before made_then faults_before f kept base in
    subst F (sym same_faults) (subst M (sym same_made) stands)

pub ends-then : (p q : Progressed) (made_before made made_then : List ModuleCall) (faults_before faults faults_then kept : ℕ) (areas : List AreaValue) (before after : MemoryValue) (ended : Stepped) → made_then ≡ made → faults_then ≡ faults → StepEnds p q made_before made made faults_before faults faults kept areas before after ended → StepEnds p q made_before made made_then faults_before faults faults_then kept areas before after ended
ends-then p q made_before made made_then faults_before faults faults_then kept areas before after ended same_made same_faults ends =
    let M : List ModuleCall → Type 0 = λ m. StepEnds p q made_before made m faults_before faults faults kept areas before after ended in
    let F : ℕ → Type 0 = λ f. StepEnds p q made_before made made_then faults_before faults f kept areas before after ended in
    subst F (sym same_faults) (subst M (sym same_made) ends)
