use Rattle.std.proofs.Common.{◌≡◌, ◌≢◌, ℕ, ◌≤◌, ◌<◌, ◌*◌, true, false, Option, None, Some, List, refl, sym, ◌∙◌, ap, subst, inl, inr, arith}
use Rattle.std.specs.Prelude.{sum_by}
use Rattle.std.specs.Option.{option_and_then}
use Rattle.guest_base.proofs.SearchLemmas.{first_such-Some}
use Rattle.guest_base.specs.Blocks.{pick}
use Rattle.guest_base.specs.declared.limits.TheConstants.{PAGE_BYTES}
use Rattle.guest_base.specs.declared.memory.Block.{Block}
use Rattle.guest_base.specs.declared.memory.Units.{Units}
use Rattle.event_core.specs.declared.boot.Boot.{Boot}
use Rattle.event_core.specs.declared.command.Command.{Command}
use Rattle.event_core.specs.declared.command.Command.TheVariants as command
use Rattle.event_core.specs.declared.entry.Entry.{Entry}
use Rattle.event_core.specs.declared.event.Event.{Event}
use Rattle.event_core.specs.declared.event.Event.TheVariants as event
use Rattle.event_core.specs.declared.module_call.ModuleCall.{ModuleCall}
use Rattle.event_core.specs.declared.reply.Reply.TheVariants as reply
use Rattle.event_core.specs.BlockRows.{alloc_event, with_pick, without_free, without_waiting}
use Rattle.event_core.specs.Blocks.{block_units, free_page, in_flight_with, is_for_block, lowest_waiting}
use Rattle.event_core.specs.Claims.{claim_of, in_the_way}
use Rattle.event_core.specs.MemoryRows.{run_of_claim}
use Rattle.event_core.specs.Own.{own_of}
use Rattle.event_core.specs.Refusals.{refusal_of}
use Rattle.memory_core.specs.Looks.{Gets, LookedBy, Wants}
use Rattle.memory_core.specs.Owners.{is_owner}
use Rattle.io_areas.specs.Value.{AreaValue}
use Rattle.memory_core.specs.Value.{MemoryValue}
use Rattle.memory_core.specs.Waiting.{waiting_units}
use Rattle.memory_core.specs.declared.memory.Look.{Look}
use Rattle.memory_core.specs.declared.memory.Look.TheVariants as look
use Rattle.page_module.specs.Spans.{Taken}
use Rattle.guest_steps.specs.Seen.{Seen}
use Rattle.guest_steps.specs.Ground.{ground_of}
use Rattle.guest_steps.specs.Steps.{IsBlocked, IsIdle, RoomAlone}
use Rattle.guest_steps.specs.declared.processor.Stepped.{Stepped}
use Rattle.guest_cpu.specs.Kept.{most_of}
use Rattle.guest_cpu.specs.Looking.{ComesAgain, DidLook, Ended, LooksFor}
use Rattle.guest_cpu.specs.Made.{turn_of}
use Rattle.guest_cpu.specs.Progressing.{Progressed, command_of}
use Rattle.guest_cpu.specs.Standing.{CourseStands, seen_with}
use Rattle.guest_cpu.specs.Stepping.{AreRunsAmong, ClaimMade, OnlyRoom}
use Rattle.guest_cpu.proofs.AcceptLemmas.{met-blocks}
use Rattle.guest_cpu.proofs.ClaimLemmas.{ClaimOver, EndsEither, OpensBy, StepEnds, claim-steps, ends-from, ends-then}
use Rattle.guest_cpu.proofs.ClaimNextLemmas.{alloc-idle, alloc-next, claims-moves, got-moves, none-moves}
use Rattle.guest_cpu.proofs.CourseLemmas.{rests-free}
use Rattle.guest_cpu.proofs.MemoryLemmas.{one-steps, steps-memory}
use Rattle.guest_cpu.proofs.RoomAloneLemmas.{room-course}

-- What an allocation makes of a processor that stands, with no claim open.

-- ---- its event

pub event-got : (boot : Boot) (memory : List Entry) (order : ℕ) (block : Block) → pick (free_page boot memory) order ≡ Some block → alloc_event boot memory order ≡ Some (event.Got block)
unfolding alloc_event
event-got boot memory order block is = ap (with_pick boot memory) is

pub event-wanted : (memory : MemoryValue) (order : ℕ) (block : Option Block) → Wants memory order block → alloc_event memory.boot memory.entries order ≡ without_free memory.boot memory.entries block
unfolding alloc_event
event-wanted memory order block wants = ap (with_pick memory.boot memory.entries) wants.none_free ∙ ap (without_free memory.boot memory.entries) wants.lowest

-- a claim for the lowest waiting block, by what is in the way of it
abbrev pub unless_met : MemoryValue → Block → Option ℕ → Option Event
unless_met memory block way =
    let units = block_units memory.boot block in
    elim way as (λ _. Option Event) [ None ↦ Some (event.Claim (Some block) units (run_of_claim memory.boot memory.entries units)) | Some _ ↦ None ]

pub event-claim : (memory : MemoryValue) (order : ℕ) (block : Block) (way : Option ℕ) → Wants memory order (Some block) → in_the_way memory.boot memory.entries (block_units memory.boot block) ≡ way → alloc_event memory.boot memory.entries order ≡ unless_met memory block way
event-claim memory order block way wants is = event-wanted memory order (Some block) wants ∙ ap (unless_met memory block) is

-- a processor that accepts a block has a claim
flying : (boot : Boot) (memory : List Entry) (cpu : ℕ) → in_flight_with boot memory ≡ Some cpu → (cpu < boot.cpus) × (claim_of boot memory cpu ≢ None)
unfolding in_flight_with
flying boot memory cpu is =
    let first = first_such-Some (λ n. is_for_block (claim_of boot memory n)) 0 boot.cpus cpu is in
    let high = first.high in
    (omega (arith, high), λ none. (let no : false ≡ true = sym (ap is_for_block none) ∙ first.passes in cc))

-- ---- the allocation

-- what it is made over
pub record AllocOver (p q : Progressed) (made_before made : List ModuleCall) (faults_before faults kept : ℕ) (areas : List AreaValue) (before after : MemoryValue) (name : List ℕ) (order : ℕ) (runs : List Units) (ended : Stepped) : Type 0 where
  pub stands : CourseStands p made_before made faults_before faults kept (ground_of before areas)
  pub rests : p.out ≡ None
  pub now : command_of p ≡ Some (command.Alloc name order)
  pub fine : refusal_of p.boot (own_of p.script p.moved) (command.Alloc name order) ≡ None
  pub looks : LooksFor p q before after order runs ended
  pub among : AreRunsAmong before (waiting_units before.boot before.entries) runs
  pub owed : sum_by (most_of p.boot) runs ≤ kept

module _ (made_before made : List ModuleCall) (faults_before faults kept : ℕ) (p0 q : Progressed) (areas : List AreaValue) (before after : MemoryValue) (name : List ℕ) (order : ℕ) (runs : List Units) (ended : Stepped) where
  abbrev p : Progressed
  p = record p0 { boot = before.boot }

  abbrev see : Progressed → Seen
  see x = seen_with x made_before made faults_before faults

  abbrev present : Command
  present = command.Alloc name order

  abbrev Either : Type 0
  Either = EndsEither p q made_before made faults_before faults kept areas before after ended

  module _ (h : AllocOver p q made_before made faults_before faults kept areas before after name order runs ended) where
    free : claim_of before.boot before.entries p0.number ≡ None
    free = rests-free (see p) before p0.out p0.done h.stands.stands.out h.rests

    -- it claims the lowest waiting block
    made-by : (block : Block) (span : Option Taken) → Wants before order (Some block)
        → ClaimMade p q before after (lowest_waiting before.boot before.entries) (waiting_units before.boot before.entries) span runs ended
        → OpensBy before after p0.number (Some block) (block_units before.boot block) span → Either
    made-by block span wants did opens =
        let units = block_units before.boot block in
        let run = run_of_claim before.boot before.entries units in
        let D : Option Block → Type 0 = λ b. ClaimMade p q before after b (option_and_then (block_units before.boot) b) span runs ended in
        let A : Option Block → Type 0 = λ b. AreRunsAmong before (option_and_then (block_units before.boot) b) runs in
        let it : ClaimMade p q before after (Some block) units span runs ended = subst D wants.lowest did in
        let over : ClaimOver p q made_before made faults_before faults kept areas before after (command.Alloc name order) (Some block) units runs span ended = record {
          stands = h.stands;
          rests = h.rests;
          now = h.now;
          fine = h.fine;
          claims = λ none. (let no : Some block ≡ None = none in cc);
          next = λ way. alloc-next (see p) before.entries name order h.now h.fine (event.Claim (Some block) units run) free (event-claim before order block None wants way) tt refl (claims-moves (Some block) units run);
          did = it;
          opens = opens;
          others = h.looks.others;
          among = subst A wants.lowest h.among;
          owed = h.owed;
        } in
        inl (it.is, claim-steps p q made_before made faults_before faults kept areas before after (command.Alloc name order) (Some block) units runs span ended over)

    -- it gets a block
    got-by : (block : Block) → Gets before after order block → Ended p q before after (event.Got block) (reply.Addr (PAGE_BYTES * block.first)) ended → Either
    got-by block gets did =
        let O : Block → Type 0 = λ b. is_owner before.entries p0.number b ≡ false in
        inl (
          did.is,
          one-steps made_before made faults_before faults p kept areas before h.stands h.rests q after present (event.Got block) (reply.Addr (PAGE_BYTES * block.first)) h.now did.adds did.same (steps-memory (see p) present h.rests h.now h.fine refl)
              (alloc-next (see p) before.entries name order h.now h.fine (event.Got block) free (event-got before.boot before.entries order block gets.picked) tt refl (got-moves block))
              (record { calls = refl; claim = λ boot calls claim. refl }) refl
              (λ got is. (let same : block ≡ got = (let both : event.Got block ≡ event.Got got = is in cc) in subst O same (gets.fresh p0.number))),
        )

    -- or none
    none-by : Wants before order None → in_flight_with before.boot before.entries ≡ None → Ended p q before after event.NoBlock reply.NoBlock ended → Either
    none-by wants none did =
        inl (
          did.is,
          one-steps made_before made faults_before faults p kept areas before h.stands h.rests q after present event.NoBlock reply.NoBlock h.now did.adds did.same (steps-memory (see p) present h.rests h.now h.fine refl)
              (alloc-next (see p) before.entries name order h.now h.fine event.NoBlock free (event-wanted before order None wants ∙ ap without_waiting none) tt refl none-moves)
              (record { calls = refl; claim = λ boot calls claim. refl }) refl
              (λ got is. absurd (let no : event.NoBlock ≡ event.Got got = is in cc)),
        )

    idle : alloc_event before.boot before.entries order ≡ None → IsIdle (see p) before.entries
    idle none = alloc-idle (see p) before.entries name order h.now h.fine free none

    comes-again : ComesAgain p q before after ended → IsBlocked (see p) before.entries → Either
    comes-again again blocked = inr (record { is = again.is; course = again.course; memory = again.memory; blocked = blocked })

    ends-by : (looked : Look) → LookedBy before after (turn_of p0.number p0.moved) order looked → DidLook p q before after runs ended looked → Either
    ends-by (look.Got block) by did = got-by block by did
    ends-by look.NoBlock by did = none-by by.0 by.1 did
    ends-by look.Cleared by did = made-by by.block None by.wants did (by.free, by.none, λ some. by.fewer)
    ends-by (look.Claimed span) by did = made-by by.block (Some span) by.wants did by.opens
    ends-by (look.Blocked met) by did =
        let m = by.met_is in
        comes-again did (met-blocks (see p) before (block_units before.boot by.block) met refl h.rests m (idle (event-claim before order by.block (Some m.cpu) by.wants m.first)))
    ends-by (look.InFlight cpu) by did =
        let other = flying before.boot before.entries cpu.0 by.1 in
        comes-again did (record {
          rests = h.rests;
          idle = idle (event-wanted before order None by.0 ∙ ap without_waiting by.1);
          other = cpu.0;
          among = other.0;
          claimed = other.1;
        })

    pub alloc-at : Either
    alloc-at = ends-by h.looks.looked h.looks.by h.looks.did

-- the same, of a processor of the memory's boot
alloc-ends : (p q : Progressed) (made_before made : List ModuleCall) (faults_before faults kept : ℕ) (areas : List AreaValue) (before after : MemoryValue) (name : List ℕ) (order : ℕ) (runs : List Units) (ended : Stepped) → AllocOver p q made_before made faults_before faults kept areas before after name order runs ended → EndsEither p q made_before made faults_before faults kept areas before after ended
alloc-ends p q made_before made faults_before faults kept areas before after name order runs ended h =
    let T : Boot → Type 0 = λ b. AllocOver (record p { boot = b }) q made_before made faults_before faults kept areas before after name order runs ended → EndsEither (record p { boot = b }) q made_before made faults_before faults kept areas before after ended in
    let here : T before.boot = (λ x. alloc-at made_before made faults_before faults kept p q areas before after name order runs ended x) in
    let there : T p.boot = subst T h.stands.stands.same.memory here in
    there h

-- with room taken before it, and a port that was asked for room
pub alloc-all : (made_before made made_then : List ModuleCall) (faults_before faults faults_then kept more : ℕ) (p taken q : Progressed) (areas : List AreaValue) (before between after : MemoryValue) (name : List ℕ) (order : ℕ) (runs : List Units) (ended : Stepped)
    → CourseStands p made_before made faults_before faults kept (ground_of before areas) → OnlyRoom p taken → RoomAlone before between → kept ≤ more → made_then ≡ made → faults_then ≡ faults
    → p.out ≡ None → command_of p ≡ Some (command.Alloc name order) → refusal_of p.boot (own_of p.script p.moved) (command.Alloc name order) ≡ None
    → LooksFor taken q between after order runs ended → AreRunsAmong between (waiting_units between.boot between.entries) runs → sum_by (most_of between.boot) runs ≤ more
    → StepEnds p q made_before made made_then faults_before faults faults_then more areas before after ended
alloc-all made_before made made_then faults_before faults faults_then kept more p taken q areas before between after name order runs ended s only alone le same_made same_faults rests now fine looks among owed =
    let stood = room-course made_before made faults_before faults p taken kept more areas before between s only alone le in
    let R : Progressed → Type 0 = λ x. x.out ≡ None in
    let C : Progressed → Type 0 = λ x. command_of x ≡ Some (command.Alloc name order) in
    let F : Progressed → Type 0 = λ x. refusal_of x.boot (own_of x.script x.moved) (command.Alloc name order) ≡ None in
    let O : Boot → Type 0 = λ b. sum_by (most_of b) runs ≤ more in
    let h : AllocOver taken q made_before made faults_before faults more areas between after name order runs ended = record {
      stands = stood;
      rests = subst R (sym only.0) rests;
      now = subst C (sym only.0) now;
      fine = subst F (sym only.0) fine;
      looks = looks;
      among = among;
      owed = subst O stood.stands.same.memory owed;
    } in
    ends-then p q made_before made made_then faults_before faults faults_then more areas before after ended same_made same_faults
    (ends-from made_before made faults_before faults more p taken q areas before between after ended stood only alone (alloc-ends taken q made_before made faults_before faults more areas between after name order runs ended h))
