use Rattle.std.proofs.Common.{◌≡◌, ℕ, Bool, true, false, Option, None, Some, List, [], refl, ◌∙◌, ap, map}
use Rattle.std.specs.Prelude.{is_none}
use Rattle.std.specs.Option.{option_map}
use Rattle.guest_base.specs.declared.memory.Block.{Block}
use Rattle.guest_base.specs.declared.memory.Page.{Page}
use Rattle.guest_base.specs.declared.memory.Units.{Units}
use Rattle.event_core.specs.declared.command.Command.{Command}
use Rattle.event_core.specs.declared.command.Command.TheVariants as command
use Rattle.event_core.specs.declared.entry.Entry.{Entry}
use Rattle.event_core.specs.declared.event.Event.{Event}
use Rattle.event_core.specs.declared.event.Event.TheVariants as event
use Rattle.event_core.specs.declared.module_call.ModuleCall.{ModuleCall}
use Rattle.event_core.specs.declared.reply.Reply.{Reply}
use Rattle.event_core.specs.Acceptance.{stop_of}
use Rattle.event_core.specs.BlockRows.{alloc_event}
use Rattle.event_core.specs.Calls.{calls_in, calls_of}
use Rattle.event_core.specs.Claims.{Claimed, claim_of, in_the_way}
use Rattle.event_core.specs.Legal.{CallsFit, place_of}
use Rattle.event_core.specs.MemoryRows.{AcceptsUnits, cleared_by, next_run, report_event, run_of_claim}
use Rattle.event_core.specs.Next.{Step, accept_step, alloc_reply, alloc_step, claim_reply, refused_or, report_reply, stopped_reply, unrefused_step}
use Rattle.event_core.specs.PoolBytes.{bytes_moved}
use Rattle.event_core.specs.Refusals.{refusal_of}
use Rattle.event_core.specs.Units.{guarded_units}
use Rattle.event_core.specs.declared.entry.Place.TheVariants as place
use Rattle.memory_core.specs.UnderLock.{unmoved}
use Rattle.guest_steps.specs.Seen.{Seen, own_now, present_command}
use Rattle.guest_steps.specs.Standing.{ClaimsFor}
use Rattle.guest_steps.specs.Steps.{IsIdle}
use Rattle.guest_steps.proofs.StepLemmas.{entries-unmoved}
use Rattle.guest_cpu.specs.Wanting.{is_alloc}
use Rattle.guest_cpu.proofs.NextLemmas.{MovesNone, NextThere, entry_of_step, memory-next, next-now, report-moves}

-- What the next entry of a processor is that claims units, reports a claim's run, or gets a block.

pub claims-moves : (block : Option Block) (units run : Option Units) → MovesNone (event.Claim block units run)
unfolding bytes_moved
claims-moves block units run boot script own there e is = rw is refl

pub got-moves : (block : Block) → MovesNone (event.Got block)
unfolding bytes_moved
got-moves block boot script own there e is = rw is refl

pub none-moves : MovesNone event.NoBlock
unfolding bytes_moved
none-moves boot script own there e is = rw is refl

-- ---- acceptances

module _ (c : Seen) (memory : List Entry) (start len : ℕ) (now : present_command c ≡ Some (command.Accept start len)) (fine : refusal_of c.boot (own_now c) (command.Accept start len) ≡ None) where
  abbrev units : Option Units
  units = guarded_units c.boot start len

  abbrev way_event : Option ℕ → Option Event
  way_event w = elim w as (λ _. Option Event) [ None ↦ Some (event.Claim None units (run_of_claim c.boot memory units)) | Some _ ↦ None ]

  abbrev claims : Option Event → Option Step
  claims = option_map (λ (e : Event). let s : Step = record { event = e; reply = claim_reply (run_of_claim c.boot memory units) } in s)

  -- a claim that nothing is in the way of
  pub accept-next : claim_of c.boot memory c.number ≡ None → in_the_way c.boot memory units ≡ None
      → (let run = run_of_claim c.boot memory units in NextThere c memory (entry_of_step c memory (event.Claim None units run) (claim_reply run)))
  accept-next free way =
      let run = run_of_claim c.boot memory units in
      let S : List Entry → Option Step = λ es. accept_step c.boot es (claim_of c.boot es c.number) units [] in
      memory-next c memory (command.Accept start len) (event.Claim None units run) (claim_reply run) now fine
      (ap S (entries-unmoved memory) ∙ ap (λ (claim : Option Claimed). accept_step c.boot memory claim units []) free ∙ ap (λ (w : Option ℕ). claims (way_event w)) way)
      tt refl (claims-moves None units run)

  pub accept-idle : (other : ℕ) → claim_of c.boot memory c.number ≡ None → in_the_way c.boot memory units ≡ Some other → IsIdle c memory
  accept-idle other free way scripts have =
      let S : List Entry → Option Step = λ es. accept_step c.boot es (claim_of c.boot es c.number) units [] in
      ap is_none
      (next-now c scripts (map unmoved memory) [] (command.Accept start len) have now
      ∙ ap (λ (r : Option Reply). refused_or r (unrefused_step c.boot c.number (own_now c) (map unmoved memory) (command.Accept start len) [])) fine
      ∙ ap S (entries-unmoved memory) ∙ ap (λ (claim : Option Claimed). accept_step c.boot memory claim units []) free ∙ ap (λ (w : Option ℕ). claims (way_event w)) way)

  pub accept-report-next : (claim : Claimed) (calls : List ModuleCall) → claim_of c.boot memory c.number ≡ Some claim → AcceptsUnits c.boot (calls_of c.boot memory) claim.run calls
      → NextThere c memory (entry_of_step c memory (report_event c.boot claim calls) (report_reply (stop_of calls) (next_run c.boot claim (stop_of calls)) (cleared_by c.boot memory claim calls)))
  accept-report-next claim calls has accepts =
      let S : List Entry → Option Step = λ es. accept_step c.boot es (claim_of c.boot es c.number) units calls in
      memory-next c memory (command.Accept start len) (report_event c.boot claim calls) (report_reply (stop_of calls) (next_run c.boot claim (stop_of calls)) (cleared_by c.boot memory claim calls)) now fine
      (ap S (entries-unmoved memory) ∙ ap (λ (claim : Option Claimed). accept_step c.boot memory claim units calls) has)
      accepts refl (report-moves c.boot claim calls)

-- ---- allocations

module _ (c : Seen) (memory : List Entry) (name : List ℕ) (order : ℕ) (now : present_command c ≡ Some (command.Alloc name order)) (fine : refusal_of c.boot (own_now c) (command.Alloc name order) ≡ None) where
  abbrev allocates : Option Event → Option Step
  allocates = option_map (λ (e : Event). let s : Step = record { event = e; reply = alloc_reply e } in s)

  abbrev allocs : List ModuleCall → List Entry → Option Step
  allocs calls es = alloc_step c.boot es (claim_of c.boot es c.number) order calls

  at-rest : (calls : List ModuleCall) (e : Option Event) → claim_of c.boot memory c.number ≡ None → alloc_event c.boot memory order ≡ e → unrefused_step c.boot c.number (own_now c) (map unmoved memory) (command.Alloc name order) calls ≡ allocates e
  at-rest calls e free is = ap (allocs calls) (entries-unmoved memory) ∙ ap (λ (claim : Option Claimed). alloc_step c.boot memory claim order calls) free ∙ ap allocates is

  -- an allocation's event
  pub alloc-next : (e : Event) → claim_of c.boot memory c.number ≡ None → alloc_event c.boot memory order ≡ Some e → CallsFit c.boot memory e → place.Memory ≡ place_of c.boot e → MovesNone e
      → NextThere c memory (entry_of_step c memory e (alloc_reply e))
  alloc-next e free is fits here moves =
      memory-next c memory (command.Alloc name order) e (alloc_reply e) now fine (at-rest (calls_in e) (Some e) free is) fits here moves

  pub alloc-idle : claim_of c.boot memory c.number ≡ None → alloc_event c.boot memory order ≡ None → IsIdle c memory
  alloc-idle free is scripts have =
      ap is_none
      (next-now c scripts (map unmoved memory) [] (command.Alloc name order) have now
      ∙ ap (λ (r : Option Reply). refused_or r (unrefused_step c.boot c.number (own_now c) (map unmoved memory) (command.Alloc name order) [])) fine
      ∙ at-rest [] None free is)

  pub alloc-report-next : (claim : Claimed) (calls : List ModuleCall) → claim_of c.boot memory c.number ≡ Some claim → AcceptsUnits c.boot (calls_of c.boot memory) claim.run calls
      → NextThere c memory (entry_of_step c memory (report_event c.boot claim calls) (stopped_reply (stop_of calls)))
  alloc-report-next claim calls has accepts =
      memory-next c memory (command.Alloc name order) (report_event c.boot claim calls) (stopped_reply (stop_of calls)) now fine
      (ap (allocs calls) (entries-unmoved memory) ∙ ap (λ (claim : Option Claimed). alloc_step c.boot memory claim order calls) has)
      accepts refl (report-moves c.boot claim calls)

-- ---- reports of either

-- the reply of a report: of an acceptance, or of an allocation, which looks again unless it stopped
abbrev pub told_by : Bool → Option Page → Option Units → ℕ → Option Reply
told_by false stop next cleared = report_reply stop next cleared
told_by true stop next cleared = stopped_reply stop

pub report-next : (c : Seen) (memory : List Entry) (present : Command) (claim : Claimed) (calls : List ModuleCall) → present_command c ≡ Some present → refusal_of c.boot (own_now c) present ≡ None → ClaimsFor present claim.block
    → claim_of c.boot memory c.number ≡ Some claim → AcceptsUnits c.boot (calls_of c.boot memory) claim.run calls
    → NextThere c memory (entry_of_step c memory (report_event c.boot claim calls) (told_by (is_alloc (Some present)) (stop_of calls) (next_run c.boot claim (stop_of calls)) (cleared_by c.boot memory claim calls)))
report-next c memory (command.Accept start len) claim calls now fine claims has accepts = accept-report-next c memory start len now fine claim calls has accepts
report-next c memory (command.Alloc name order) claim calls now fine claims has accepts = alloc-report-next c memory name order now fine claim calls has accepts
report-next c memory _ claim calls now fine claims has accepts = absurd claims
