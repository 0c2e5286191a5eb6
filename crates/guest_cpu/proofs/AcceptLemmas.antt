use Rattle.std.proofs.Common.{◌≡◌, ◌≢◌, ℕ, ◌≤◌, ◌<◌, Option, None, Some, List, refl, sym, ◌∙◌, subst, inl, inr, arith}
use Rattle.std.specs.Prelude.{sum_by}
use Rattle.guest_base.proofs.SearchLemmas.{first_such-Some}
use Rattle.guest_base.specs.declared.memory.Units.{Units}
use Rattle.event_core.specs.declared.boot.Boot.{Boot}
use Rattle.event_core.specs.declared.command.Command.TheVariants as command
use Rattle.event_core.specs.declared.entry.Entry.{Entry}
use Rattle.event_core.specs.declared.module_call.ModuleCall.{ModuleCall}
use Rattle.event_core.specs.Claims.{Claimed, claim_meets, claim_of, in_the_way}
use Rattle.event_core.specs.Refusals.{memory_range_refusal}
use Rattle.event_core.specs.Units.{guarded_units}
use Rattle.memory_core.specs.Answers.{BegunBy, IsBlocked as IsBegunBlocked, IsMet}
use Rattle.io_areas.specs.Value.{AreaValue}
use Rattle.memory_core.specs.Value.{MemoryValue}
use Rattle.memory_core.specs.declared.memory.Begin.{Begin}
use Rattle.memory_core.specs.declared.memory.Begin.TheVariants.{Clear, Claimed as IsClaimed, Blocked}
use Rattle.page_module.specs.Spans.{Taken}
use Rattle.guest_steps.specs.Seen.{Seen}
use Rattle.guest_steps.specs.Ground.{ground_of}
use Rattle.guest_steps.specs.Steps.{IsBlocked, IsIdle, RoomAlone}
use Rattle.guest_steps.specs.declared.processor.Stepped.{Stepped}
use Rattle.guest_steps.specs.declared.processor.Stepped.TheVariants as stepped
use Rattle.guest_cpu.specs.Kept.{most_of}
use Rattle.guest_cpu.specs.Made.{turn_of}
use Rattle.guest_cpu.specs.Progressing.{Progressed, command_of}
use Rattle.guest_cpu.specs.Standing.{CourseStands, seen_with}
use Rattle.guest_cpu.specs.Stepping.{AreRunsAmong, Begins, ClaimMade, OnlyRoom, span_of_claim}
use Rattle.guest_cpu.proofs.ClaimLemmas.{ClaimOver, EndsEither, OpensBy, StepEnds, claim-steps, ends-from, ends-then}
use Rattle.guest_cpu.proofs.ClaimNextLemmas.{accept-idle, accept-next}
use Rattle.guest_cpu.proofs.CourseLemmas.{rests-free}
use Rattle.guest_cpu.proofs.RoomAloneLemmas.{room-course}

-- What an acceptance makes of a processor that stands, with no claim open.

-- ---- a claim in the way

way-below : (boot : Boot) (memory : List Entry) (units : Option Units) (cpu : ℕ) → in_the_way boot memory units ≡ Some cpu → cpu < boot.cpus
unfolding in_the_way
way-below boot memory None cpu is = absurd (let no : None ≡ Some cpu = is in cc)
way-below boot memory (Some u) cpu is =
    let high = (first_such-Some (λ n. claim_meets u (claim_of boot memory n)) 0 boot.cpus cpu is).high in
    omega (arith, high)

pub is-claimed : (found : Option Claimed) (claim : Claimed) → found ≡ Some claim → found ≢ None
is-claimed found claim is none = (let no : Some claim ≡ None = sym is ∙ none in cc)

-- an open claim meets the units of a processor that is idle
pub met-blocks : (c : Seen) (memory : MemoryValue) (units : Option Units) (met : Units) → memory.boot ≡ c.boot → c.out ≡ None → IsMet memory units met → IsIdle c memory.entries → IsBlocked c memory.entries
met-blocks c memory units met same rests is idle =
    let L : Boot → Type 0 = λ b. is.cpu < b.cpus in
    let C : Boot → Type 0 = λ b. claim_of b memory.entries is.cpu ≢ None in
    record {
      rests = rests;
      idle = idle;
      other = is.cpu;
      among = subst L same (way-below memory.boot memory.entries units is.cpu is.first);
      claimed = subst C same (is-claimed (claim_of memory.boot memory.entries is.cpu) is.claim is.claimed);
    }

-- ---- the acceptance

-- what it is made over
pub record AcceptOver (p q : Progressed) (made_before made : List ModuleCall) (faults_before faults kept : ℕ) (areas : List AreaValue) (before after : MemoryValue) (start len : ℕ) (runs : List Units) (ended : Stepped) : Type 0 where
  pub stands : CourseStands p made_before made faults_before faults kept (ground_of before areas)
  pub rests : p.out ≡ None
  pub now : command_of p ≡ Some (command.Accept start len)
  pub fine : memory_range_refusal start len ≡ None
  pub begins : Begins p q before after start len runs ended
  pub among : AreRunsAmong before (guarded_units before.boot start len) runs
  pub owed : sum_by (most_of p.boot) runs ≤ kept

module _ (made_before made : List ModuleCall) (faults_before faults kept : ℕ) (p0 q : Progressed) (areas : List AreaValue) (before after : MemoryValue) (start len : ℕ) (runs : List Units) (ended : Stepped) where
  abbrev p : Progressed
  p = record p0 { boot = before.boot }

  abbrev see : Progressed → Seen
  see x = seen_with x made_before made faults_before faults

  abbrev units : Option Units
  units = guarded_units before.boot start len

  module _ (h : AcceptOver p q made_before made faults_before faults kept areas before after start len runs ended) where
    free : claim_of before.boot before.entries p0.number ≡ None
    free = rests-free (see p) before p0.out p0.done h.stands.stands.out h.rests

    -- it claims its units
    made-by : (span : Option Taken) → ClaimMade p q before after None units span runs ended → OpensBy before after p0.number None units span → EndsEither p q made_before made faults_before faults kept areas before after ended
    made-by span did opens =
        let over : ClaimOver p q made_before made faults_before faults kept areas before after (command.Accept start len) None units runs span ended = record {
          stands = h.stands;
          rests = h.rests;
          now = h.now;
          fine = h.fine;
          claims = refl;
          next = accept-next (see p) before.entries start len h.now h.fine free;
          did = did;
          opens = opens;
          others = h.begins.others;
          among = h.among;
          owed = h.owed;
        } in
        inl (did.is, claim-steps p q made_before made faults_before faults kept areas before after (command.Accept start len) None units runs span ended over)

    ends-by : (begin : Begin) → BegunBy before after (turn_of p0.number p0.moved) units begin → (IsBegunBlocked begin → (ended ≡ stepped.Blocked) × (q ≡ p) × (after ≡ before))
        → ((IsBegunBlocked begin → ⊥) → ClaimMade p q before after None units (span_of_claim begin) runs ended)
        → EndsEither p q made_before made faults_before faults kept areas before after ended
    ends-by Clear begun blocked does = made-by None (does (λ no. no)) (begun.0, begun.1, λ some. absurd (some refl))
    ends-by (IsClaimed span) begun blocked does = made-by (Some span) (does (λ no. no)) begun
    ends-by (Blocked met) begun blocked does =
        let b = blocked tt in
        inr (record {
          is = b.0;
          course = b.1;
          memory = b.2;
          blocked = met-blocks (see p) before units met refl h.rests begun (accept-idle (see p) before.entries start len h.now h.fine begun.cpu free begun.first);
        })

    pub accept-at : EndsEither p q made_before made faults_before faults kept areas before after ended
    accept-at = ends-by h.begins.begin h.begins.begun h.begins.blocked h.begins.made

-- the same, of a processor of the memory's boot
accept-ends : (p q : Progressed) (made_before made : List ModuleCall) (faults_before faults kept : ℕ) (areas : List AreaValue) (before after : MemoryValue) (start len : ℕ) (runs : List Units) (ended : Stepped) → AcceptOver p q made_before made faults_before faults kept areas before after start len runs ended → EndsEither p q made_before made faults_before faults kept areas before after ended
accept-ends p q made_before made faults_before faults kept areas before after start len runs ended h =
    let T : Boot → Type 0 = λ b. AcceptOver (record p { boot = b }) q made_before made faults_before faults kept areas before after start len runs ended → EndsEither (record p { boot = b }) q made_before made faults_before faults kept areas before after ended in
    let here : T before.boot = (λ x. accept-at made_before made faults_before faults kept p q areas before after start len runs ended x) in
    let there : T p.boot = subst T h.stands.stands.same.memory here in
    there h

-- with room taken before it, and a port that was asked for room
pub accept-all : (made_before made made_then : List ModuleCall) (faults_before faults faults_then kept more : ℕ) (p taken q : Progressed) (areas : List AreaValue) (before between after : MemoryValue) (start len : ℕ) (runs : List Units) (ended : Stepped)
    → CourseStands p made_before made faults_before faults kept (ground_of before areas) → OnlyRoom p taken → RoomAlone before between → kept ≤ more → made_then ≡ made → faults_then ≡ faults
    → p.out ≡ None → command_of p ≡ Some (command.Accept start len) → memory_range_refusal start len ≡ None
    → Begins taken q between after start len runs ended → AreRunsAmong between (guarded_units between.boot start len) runs → sum_by (most_of between.boot) runs ≤ more
    → StepEnds p q made_before made made_then faults_before faults faults_then more areas before after ended
accept-all made_before made made_then faults_before faults faults_then kept more p taken q areas before between after start len runs ended s only alone le same_made same_faults rests now fine begins among owed =
    let stood = room-course made_before made faults_before faults p taken kept more areas before between s only alone le in
    let R : Progressed → Type 0 = λ x. x.out ≡ None in
    let C : Progressed → Type 0 = λ x. command_of x ≡ Some (command.Accept start len) in
    let O : Boot → Type 0 = λ b. sum_by (most_of b) runs ≤ more in
    let h : AcceptOver taken q made_before made faults_before faults more areas between after start len runs ended = record {
      stands = stood;
      rests = subst R (sym only.0) rests;
      now = subst C (sym only.0) now;
      fine = fine;
      begins = begins;
      among = among;
      owed = subst O stood.stands.same.memory owed;
    } in
    ends-then p q made_before made made_then faults_before faults faults_then more areas before after ended same_made same_faults
    (ends-from made_before made faults_before faults more p taken q areas before between after ended stood only alone (accept-ends taken q made_before made faults_before faults more areas between after start len runs ended h))
