use Rattle.std.proofs.Common.{◌≡◌, ℕ, ◌+◌, ◌≤◌, ◌<◌, Bool, true, false, Option, None, Some, List, [], ◌∷◌, ◌++◌, refl, sym, ◌∙◌, ap, subst, arith, cond, length}
use Rattle.std.specs.Prelude.{◌==◌}
use Rattle.std.specs.Option.{ForSome}
use Rattle.guest_base.specs.declared.memory.Block.{Block}
use Rattle.guest_base.specs.declared.memory.Page.{Page}
use Rattle.event_core.specs.declared.boot.Boot.{Boot}
use Rattle.event_core.specs.declared.command.Command.{Command}
use Rattle.event_core.specs.declared.command.Command.TheVariants as command
use Rattle.event_core.specs.declared.entry.Entry.{Entry}
use Rattle.event_core.specs.declared.event.Event.{Event}
use Rattle.event_core.specs.declared.event.Event.TheVariants as event
use Rattle.event_core.specs.declared.module_call.ModuleCall.{ModuleCall}
use Rattle.event_core.specs.declared.reply.Reply.{Reply}
use Rattle.event_core.specs.declared.reply.Reply.TheVariants as reply
use Rattle.event_core.specs.Calls.{calls_in, calls_of}
use Rattle.event_core.specs.Claims.{Claimed, claim_of, claim_step}
use Rattle.event_core.specs.Holdings.{Holding, block_named}
use Rattle.event_core.specs.MemoryRows.{some_unaccepted}
use Rattle.event_core.specs.Moved.{Moved}
use Rattle.event_core.specs.Own.{replied}
use Rattle.event_core.specs.OwnRows.{found_at, page_behind}
use Rattle.event_core.specs.Refusals.{refusal_of}
use Rattle.event_core.specs.Units.{guarded_units}
use Rattle.event_core.proofs.StandingLemmas.{claim_of-push}
use Rattle.memory_core.specs.Owners.{is_owner}
use Rattle.memory_core.specs.UnderLock.{unmoved}
use Rattle.io_areas.specs.Value.{AreaValue}
use Rattle.memory_core.specs.Value.{MemoryValue}
use Rattle.memory_core.specs.Waiting.{waiting_left}
use Rattle.page_module.specs.Spans.{Taken}
use Rattle.guest_steps.specs.Replies.{is_module}
use Rattle.guest_steps.specs.Seen.{Seen, Accepted, left_by, need_by, need_for, need_of, need_unless_refused, need_unrefused, own_now, present_command, steps_waiting}
use Rattle.guest_steps.specs.declared.processor.Need.TheVariants as need
use Rattle.guest_steps.specs.Ground.{ground_of}
use Rattle.guest_steps.specs.Standing.{OwnsHeld, unreported}
use Rattle.guest_steps.specs.Steps.{MakesInMemory, RoomAlone, without_reply}
use Rattle.guest_steps.proofs.AccountLemmas.{waiting-fewer}
use Rattle.guest_steps.proofs.HeldLemmas.{named-owned}
use Rattle.guest_cpu.specs.Blocks.{FreesNamed, StraysFrom}
use Rattle.guest_cpu.specs.Progressing.{Progressed, command_of, own_in}
use Rattle.guest_cpu.specs.Resting.{StepsOn}
use Rattle.guest_cpu.specs.Standing.{CourseStands, calls_owed, seen_with}
use Rattle.guest_cpu.specs.Stepping.{Adds, OnlyRoom, going_on, memory_entry}
use Rattle.guest_cpu.proofs.AloneLemmas.{load-outside}
use Rattle.guest_cpu.proofs.RoomAloneLemmas.{makes-room, room-course, seen-room}
use Rattle.guest_cpu.proofs.CourseLemmas.{made-course, no-runs, replied-less, rests-free, rests-undone, same-course}
use Rattle.guest_cpu.proofs.NextLemmas.{NextThere, free-next, query-next, stray-next}

-- What steps of the memory make of a processor that stands.

-- a step of a processor: what it makes, and that it stands then
pub record Stepped_to (p q : Progressed) (made_before made : List ModuleCall) (faults_before faults kept : ℕ) (areas : List AreaValue) (before after : MemoryValue) : Type 0 where
  pub makes : MakesInMemory (seen_with p made_before made faults_before faults) (seen_with q made_before made faults_before faults) before after
  pub stands : CourseStands q made_before made faults_before faults kept (ground_of after areas)

-- a command at rest that isn't refused and takes a step of the memory needs it
pub steps-memory : (c : Seen) (command : Command) → c.out ≡ None → present_command c ≡ Some command → refusal_of c.boot (own_now c) command ≡ None → need_unrefused c.boot c.number (own_now c) command ≡ need.Memory → need_of c ≡ need.Memory
steps-memory c command rests now fine needs =
    ap (λ (o : Option Taken). need_by o (need_for c.boot c.number (own_now c) (present_command c))) rests
    ∙ ap (need_for c.boot c.number (own_now c)) now
    ∙ ap (λ (r : Option Reply). need_unless_refused r (need_unrefused c.boot c.number (own_now c) command)) fine
    ∙ needs

-- an event with which a processor's claim stays as it is
pub record LeavesClaim (what : Event) : Type 0 where
  pub calls : calls_in what ≡ []
  pub claim : (boot : Boot) (before : List ModuleCall) (claim : Option Claimed) → claim_step boot before claim what ≡ claim

cond-same : {A : Type 0} (b : Bool) (x : A) → cond b x x ≡ x
cond-same true x = refl
cond-same false x = refl

claim-kept : (boot : Boot) (memory : List Entry) (e : Entry) (cpu : ℕ) → LeavesClaim e.event → claim_of boot (memory ++ e ∷ []) cpu ≡ claim_of boot memory cpu
claim-kept boot memory e cpu leaves =
    claim_of-push boot memory e cpu
    ∙ ap (λ (c : Option Claimed). cond (e.cpu.0 == cpu) c (claim_of boot memory cpu)) (leaves.claim boot (calls_of boot memory) (claim_of boot memory cpu))
    ∙ cond-same (e.cpu.0 == cpu) (claim_of boot memory cpu)

-- the block of a name is the processor's in the memory
pub owns-named : (c : Seen) (memory : List Entry) (name : List ℕ) → OwnsHeld c memory → ForSome (block_named (own_now c) name) (λ (h : Holding). is_owner memory c.number h.block ≡ true)
owns-named c memory name owns = λ h is. named-owned c memory owns name h is

module _ (made_before made : List ModuleCall) (faults_before faults : ℕ) where
  abbrev see : Progressed → Seen
  see p = seen_with p made_before made faults_before faults

  abbrev StepsTo : Progressed → Progressed → ℕ → List AreaValue → MemoryValue → MemoryValue → Type 0
  StepsTo p q kept areas before after = Stepped_to p q made_before made faults_before faults kept areas before after

  -- room that was taken before a step
  pub room-steps : (p taken q : Progressed) (kept : ℕ) (areas : List AreaValue) (before between after : MemoryValue) → OnlyRoom p taken → RoomAlone before between → StepsTo taken q kept areas between after → StepsTo p q kept areas before after
  room-steps p taken q kept areas before between after only alone steps =
      let M : Seen → Type 0 = λ c. MakesInMemory c (see q) before after in
      record {
        makes = subst M (seen-room made_before made faults_before faults p taken only) (makes-room (see taken) (see q) before between after alone steps.makes);
        stands = steps.stands;
      }

  -- ---- a command that ends with one entry in the memory

  module _ (p : Progressed) (kept : ℕ) (areas : List AreaValue) (before : MemoryValue) (s : CourseStands p made_before made faults_before faults kept (ground_of before areas)) (rests : p.out ≡ None) where
    undone : p.done ≡ None
    undone = rests-undone (see p) before p.out p.done s.stands.out rests

    free : claim_of p.boot before.entries p.number ≡ None
    free = rests-free (see p) before p.out p.done s.stands.out rests

    owed-at-rest : calls_owed p.boot None p.runs ≤ kept
    owed-at-rest = let O : Option Accepted → Type 0 = λ d. calls_owed p.boot d p.runs ≤ kept in subst O undone s.port

    module _ (q : Progressed) (after : MemoryValue) (c : Command) (what : Event) (told : Reply) (now : command_of p ≡ Some c) (adds : Adds p q before after what (Some told)) (course : q ≡ record p { moved = q.moved; room = q.room }) where
      abbrev e : Entry
      e = memory_entry p before what (Some told)

      waits : waiting_left p.boot after.entries ≤ waiting_left p.boot before.entries
      waits =
          let B : Boot → Type 0 = λ b. waiting_left b after.entries ≤ waiting_left b before.entries in
          subst B s.stands.same.memory adds.others.waiting

      lessens : (m n v w : ℕ) → m < n → v ≤ w → m + v < n + w
      lessens m n v w less few = omega (arith, less, few)

      pub one-steps : need_of (see p) ≡ need.Memory → NextThere (see p) before.entries e → LeavesClaim what → is_module (Some told) ≡ false → ((got : Block) → what ≡ event.Got got → is_owner before.entries p.number got ≡ false) → StepsTo p q kept areas before after
      one-steps needs next leaves sound nobodys =
          let m : Moved = unmoved e in
          let G : List Moved → Progressed = λ ms. record p { moved = ms; room = q.room } in
          let is : q ≡ going_on p m None p.runs q.room = course ∙ ap G adds.moved ∙ same-course made_before made faults_before faults p m q.room rests undone in
          let Q : Progressed → Type 0 = λ x. StepsTo p x kept areas before after in
          let L : Option Taken → Type 0 = λ o. left_by (length p.script) (replied (p.moved ++ m ∷ [])) None + steps_waiting p.boot after.entries < left_by (length p.script) (replied p.moved) o + steps_waiting p.boot before.entries in
          let still : claim_of p.boot after.entries p.number ≡ None = ap (λ (es : List Entry). claim_of p.boot es p.number) adds.memory ∙ claim-kept p.boot before.entries (without_reply e) p.number leaves ∙ free in
          let makes : MakesInMemory (see p) (see (going_on p m None p.runs q.room)) before after = record {
            m = m;
            makes = record {
              next = next.next;
              moved = refl;
              same = record { boot = refl; number = refl; script = refl; made_before = refl; made = refl; faults_before = refl; faults = refl };
              done = refl;
            };
            place = refl;
            busy = next.busy;
            boot = adds.same;
            entries = adds.memory;
            others = adds.others;
            less = subst L (sym rests) (lessens _ _ _ _ (replied-less made_before made faults_before faults p m told c now refl) (waiting-fewer p.boot before.entries after.entries waits));
          } in
          subst Q (sym is) (record {
            makes = makes;
            stands = made-course made_before made faults_before faults p m None p.runs q.room kept areas before after s needs makes nobodys still
                (no-runs made_before made faults_before faults (going_on p m None p.runs q.room) after still) owed-at-rest (leaves.calls ∙ sym (ap unreported undone)) (λ no. absurd (let n : false ≡ true = sym sound ∙ no in cc));
          })

  pub owns-taken : (p taken : Progressed) (kept : ℕ) (areas : List AreaValue) (before between : MemoryValue) → CourseStands p made_before made faults_before faults kept (ground_of before areas) → OnlyRoom p taken → RoomAlone before between → (name : List ℕ)
      → ForSome (block_named (own_in taken) name) (λ (h : Holding). is_owner between.entries taken.number h.block ≡ true)
  owns-taken p taken kept areas before between s only alone name =
      let stood = room-course made_before made faults_before faults p taken kept kept areas before between s only alone (omega arith) in
      owns-named (see taken) between.entries name stood.stands.held

  -- ---- with room taken before it

  module _ (p taken q : Progressed) (kept : ℕ) (areas : List AreaValue) (before between after : MemoryValue) (s : CourseStands p made_before made faults_before faults kept (ground_of before areas)) (only : OnlyRoom p taken) (alone : RoomAlone before between) (course : q ≡ record taken { moved = q.moved; room = q.room }) where
    stood : CourseStands taken made_before made faults_before faults kept (ground_of between areas)
    stood = room-course made_before made faults_before faults p taken kept kept areas before between s only alone (omega arith)

    abbrev On : Command → Progressed → Type 0
    On c x = StepsOn (see x) before c

    on-taken : (c : Command) → StepsOn (see p) before c → StepsOn (see taken) before c
    on-taken c on = subst (On c) (sym only.0) on

    -- whether a range of memory has an unaccepted unit
    pub query-all : (start len : ℕ) → StepsOn (see p) before (command.Query start len)
        → (let found = some_unaccepted taken.boot between.entries (guarded_units taken.boot start len) in Adds taken q between after (event.Asked found) (Some (reply.Query found)))
        → StepsTo p q kept areas before after
    query-all start len on adds =
        let t = on-taken (command.Query start len) on in
        let found = some_unaccepted taken.boot between.entries (guarded_units taken.boot start len) in
        room-steps p taken q kept areas before between after only alone
        (one-steps taken kept areas between stood t.rests q after (command.Query start len) (event.Asked found) (reply.Query found) t.present adds course (steps-memory (see taken) _ t.rests t.present t.fine t.need)
        (query-next (see taken) between.entries start len t.fine t.present) (record { calls = refl; claim = λ boot calls claim. refl }) refl (λ got is. absurd (let no : event.Asked found ≡ event.Got got = is in cc)))

    -- a block is freed
    pub free-all : (name : List ℕ) → StepsOn (see p) before (command.Free name) → FreesNamed taken q between after name → StepsTo p q kept areas before after
    free-all name on f =
        let t = on-taken (command.Free name) on in
        room-steps p taken q kept areas before between after only alone
        (one-steps taken kept areas between stood t.rests q after (command.Free name) (event.Freed f.h.block) reply.Done t.present f.adds course (steps-memory (see taken) _ t.rests t.present t.fine t.need)
        (free-next (see taken) between.entries name f.h t.present t.fine f.named) (record { calls = refl; claim = λ boot calls claim. refl }) refl (λ got is. absurd (let no : event.Freed f.h.block ≡ event.Got got = is in cc)))

    -- a load strays past its block
    pub stray-all : (name : List ℕ) (off : ℕ) → StepsOn (see p) before (command.Load name off) → StraysFrom taken q between after name off → StepsTo p q kept areas before after
    stray-all name off on f =
        let t = on-taken (command.Load name off) on in
        let page : Page = record { 0 = page_behind f.h.block } in
        let B : Boot → Type 0 = λ b. found_at b between.entries (page_behind f.h.block) ≡ Some f.found in
        room-steps p taken q kept areas before between after only alone
        (one-steps taken kept areas between stood t.rests q after (command.Load name off) (event.Touched page f.found) _ t.present f.adds course (steps-memory (see taken) _ t.rests t.present t.fine t.need)
        (stray-next (see taken) between.entries name off f.h f.found t.present t.fine f.named (load-outside (block_named (own_in taken) name) off f.h f.named t.need) (subst B stood.stands.same.memory f.finds))
        (record { calls = refl; claim = λ boot calls claim. refl }) refl (λ got is. absurd (let no : event.Touched page f.found ≡ event.Got got = is in cc)))
