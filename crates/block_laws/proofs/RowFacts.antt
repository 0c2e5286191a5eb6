-- The rows of the steps of commands that convert nothing: what holds of the event of each row holds of each step's.
use Rattle.std.proofs.Common.{◌≡◌, ℕ, Bool, true, false, Option, None, Some, List, refl, ◌∙◌, ap, subst}
use Rattle.std.specs.Prelude.{IfSome}
use Rattle.std.specs.Option.{option_and_then, option_map}
use Rattle.guest_base.specs.Blocks.{pick}
use Rattle.guest_base.specs.declared.memory.Block.{Block}
use Rattle.guest_base.specs.declared.memory.Units.{Units}
use Rattle.event_core.specs.declared.boot.Boot.{Boot}
use Rattle.event_core.specs.declared.command.Command.{Command}
use Rattle.event_core.specs.declared.command.Command.TheVariants as command
use Rattle.event_core.specs.declared.entry.Entry.{Entry}
use Rattle.event_core.specs.declared.event.Event.{Event}
use Rattle.event_core.specs.declared.event.Event.TheVariants as event
use Rattle.event_core.specs.declared.module_call.ModuleCall.{ModuleCall}
use Rattle.event_core.specs.declared.reply.Found.{Found}
use Rattle.event_core.specs.declared.reply.Reply.{Reply}
use Rattle.event_core.specs.declared.reply.Reply.TheVariants as reply
use Rattle.event_core.specs.Acceptance.{stop_of}
use Rattle.event_core.specs.BlockRows.{alloc_event, with_pick, without_free, without_waiting}
use Rattle.event_core.specs.Blocks.{lowest_waiting, in_flight_with, free_page, block_units}
use Rattle.event_core.specs.Bytes.{row_of}
use Rattle.event_core.specs.Calls.{calls_in}
use Rattle.event_core.specs.Claims.{Claimed, claim_of, in_the_way}
use Rattle.event_core.specs.Holdings.{Holding, Own, block_named, mapping_named, asks_in, asks_out}
use Rattle.event_core.specs.Legal.{Follows, at_place}
use Rattle.event_core.specs.MemoryRows.{claim_event, run_of_claim, next_run}
use Rattle.event_core.specs.Moved.{Moved, entries_of, made_by}
use Rattle.event_core.specs.Next.{Step, step_of, unrefused_step, refused_or, replied_by, accept_step, alloc_step, alloc_reply, claim_reply, load_step, stray_step, copy_step}
use Rattle.event_core.specs.Own.{own_of, script_of}
use Rattle.event_core.specs.OwnRows.{is_inside, strayed_bytes, page_behind, found_at}
use Rattle.event_core.specs.Refusals.{refusal_of}
use Rattle.event_core.specs.Units.{guarded_units}
use Rattle.block_laws.specs.Unconverting.{ConvertsNothing, ConvertNothing}
use Rattle.event_core.proofs.CommandLemmas.{some-same, command-of, step_told}
use Rattle.block_laws.proofs.EventFacts.{IsUnconverting, IsOfArea, is-unconverting, area-unconverting}

-- what holds of a step's event
pub record StepHas (P : Event → Type 0) (step : Option Step) : Type 0 where
  pub each : IfSome step (λ (s : Step). P s.event)

-- something holds of each row's event, of a processor that has this and has this command, before the memory's entries
pub record RowsHave (P : Event → Type 0) (boot : Boot) (memory : List Entry) (cpu : ℕ) (own : Own) (c : Command) : Type 0 where
  pub quiet : P event.Own
  pub asked : (found : Bool) → P (event.Asked found)
  pub claimed : (block : Option Block) (units : Option Units) → claim_of boot memory cpu ≡ None → ((b : Block) → block ≡ Some b → (lowest_waiting boot memory ≡ Some b) × (units ≡ block_units boot b)) → P (event.Claim block units (run_of_claim boot memory units))
  pub reported : (claim : Claimed) (calls : List ModuleCall) → claim_of boot memory cpu ≡ Some claim → P (event.Report claim.run calls (stop_of calls) (next_run boot claim (stop_of calls)))
  pub got : (name : List ℕ) (order : ℕ) (block : Block) → c ≡ command.Alloc name order → pick (free_page boot memory) order ≡ Some block → P (event.Got block)
  pub none : P event.NoBlock
  pub freed : (name : List ℕ) (h : Holding) → c ≡ command.Free name → block_named own name ≡ Some h → P (event.Freed h.block)
  pub touched : (page : ℕ) (found : Found) → found_at boot memory page ≡ Some found → P (event.Touched (record { 0 = page }) found)
  pub area : (e : Event) → IsOfArea e → P e

module _ (P : Event → Type 0) where
  no-step : StepHas P None
  no-step = record { each = tt }

  held-step : {A : Type 0} (step : A → Option Step) (held : Option A) → ((a : A) → held ≡ Some a → StepHas P (step a)) → StepHas P (option_and_then step held)
  held-step step None each = no-step
  held-step step (Some a) each = each a refl

  refused-step : (refusal : Option Reply) (step : Option Step) → P event.Own → StepHas P step → StepHas P (refused_or refusal step)
  refused-step None step quiet has = has
  refused-step (Some r) step quiet has = record { each = quiet }

  mapped-step : (e : Option Event) (told : Event → Option Reply) → IfSome e P → StepHas P (option_map (λ e. let s : Step = record { event = e; reply = told e } in s) e)
  mapped-step None told has = no-step
  mapped-step (Some e) told has = record { each = has }

  module _ (boot : Boot) (memory : List Entry) (cpu : ℕ) (own : Own) (c : Command) (rows : RowsHave P boot memory cpu own c) where
    claim-row : (block : Option Block) (units : Option Units) → claim_of boot memory cpu ≡ None → ((b : Block) → block ≡ Some b → (lowest_waiting boot memory ≡ Some b) × (units ≡ block_units boot b)) → IfSome (claim_event boot memory block units) P
    claim-row block units none lowest = by_way (in_the_way boot memory units) where
      by_way : (way : Option ℕ) → IfSome (elim way as (λ _. Option Event) [ None ↦ Some (event.Claim block units (run_of_claim boot memory units)) | Some _ ↦ None ]) P
      by_way None = rows.claimed block units none lowest
      by_way (Some c) = tt

    accept-row : (claim : Option Claimed) (units : Option Units) (calls : List ModuleCall) → claim_of boot memory cpu ≡ claim → StepHas P (accept_step boot memory claim units calls)
    accept-row None units calls is = mapped-step (claim_event boot memory None units) (λ _. claim_reply (run_of_claim boot memory units)) (claim-row None units is (λ b no. cc))
    accept-row (Some claim) units calls is = record { each = rows.reported claim calls is }

    pick-row : (name : List ℕ) (order : ℕ) (block : Option Block) → c ≡ command.Alloc name order → claim_of boot memory cpu ≡ None → pick (free_page boot memory) order ≡ block → IfSome (with_pick boot memory block) P
    pick-row name order (Some block) its none is = rows.got name order block its is
    pick-row name order None its none is = by_waiting (lowest_waiting boot memory) refl where
      by_flight : (way : Option ℕ) → IfSome (without_waiting way) P
      by_flight None = rows.none
      by_flight (Some c) = tt

      by_waiting : (block : Option Block) → lowest_waiting boot memory ≡ block → IfSome (without_free boot memory block) P
      by_waiting (Some block) at =
          claim-row (Some block) (block_units boot block) none
          (λ b same. (at ∙ same, ap (block_units boot) (some-same block b same)))
      by_waiting None at = by_flight (in_flight_with boot memory)

    alloc-row : (name : List ℕ) (order : ℕ) (claim : Option Claimed) (calls : List ModuleCall) → c ≡ command.Alloc name order → claim_of boot memory cpu ≡ claim → StepHas P (alloc_step boot memory claim order calls)
    unfolding alloc_event
    alloc-row name order None calls its is = mapped-step (alloc_event boot memory order) alloc_reply (pick-row name order (pick (free_page boot memory) order) its is refl)
    alloc-row name order (Some claim) calls its is = record { each = rows.reported claim calls is }

    load-row : (h : Holding) (off : ℕ) → StepHas P (load_step boot memory h off)
    load-row h off = by_inside (is_inside h.block off) where
      by_found : (found : Option Found) → found_at boot memory (page_behind h.block) ≡ found
          → StepHas P (option_map (λ f. let s : Step = record { event = event.Touched (record { 0 = page_behind h.block }) f; reply = Some (reply.Loaded (strayed_bytes h off) (Some f)) } in s) found)
      by_found None at = no-step
      by_found (Some f) at = record { each = rows.touched (page_behind h.block) f at }

      by_inside : (inside : Bool) → StepHas P (elim inside as (λ _. Option Step) [ true ↦ replied_by event.Own (reply.Loaded (row_of h.bytes off 8) None) | false ↦ stray_step boot memory h off ])
      by_inside true = record { each = rows.quiet }
      by_inside false = by_found (found_at boot memory (page_behind h.block)) refl

  copy-row : (asked : Bool) (copy : Event) → P event.Own → P copy → StepHas P (copy_step asked copy)
  copy-row true copy quiet copied = record { each = copied }
  copy-row false copy quiet copied = record { each = quiet }

  unrefused-row : (boot : Boot) (cpu : ℕ) (own : Own) (there : List Moved) (c : Command) (calls : List ModuleCall) → ConvertsNothing c → RowsHave P boot (entries_of there) cpu own c → StepHas P (unrefused_step boot cpu own there c calls)
  unrefused-row boot cpu own there (command.Alloc name order) calls is rows = alloc-row boot (entries_of there) cpu own (command.Alloc name order) rows name order (claim_of boot (entries_of there) cpu) calls refl refl
  unrefused-row boot cpu own there (command.Free name) calls is rows = held-step _ (block_named own name) (λ h has. record { each = rows.freed name h refl has })
  unrefused-row boot cpu own there (command.Accept start len) calls is rows = accept-row boot (entries_of there) cpu own (command.Accept start len) rows (claim_of boot (entries_of there) cpu) (guarded_units boot start len) calls refl
  unrefused-row boot cpu own there (command.Query start len) calls is rows = record { each = rows.asked _ }
  unrefused-row boot cpu own there (command.Read name off len) calls is rows = held-step _ (block_named own name) (λ h has. record { each = rows.quiet })
  unrefused-row boot cpu own there (command.Write name off hex) calls is rows = record { each = rows.quiet }
  unrefused-row boot cpu own there (command.Fill name off len byte) calls is rows = record { each = rows.quiet }
  unrefused-row boot cpu own there (command.Load name off) calls is rows = held-step _ (block_named own name) (λ h has. load-row boot (entries_of there) cpu own (command.Load name off) rows h off)
  unrefused-row boot cpu own there (command.Share name) calls is rows = absurd is
  unrefused-row boot cpu own there (command.Private name) calls is rows = absurd is
  unrefused-row boot cpu own there (command.Giveback name) calls is rows = absurd is
  unrefused-row boot cpu own there (command.Map mapping name off len direction mask) calls is rows = held-step _ (block_named own name) (λ h has. record { each = rows.area _ tt })
  unrefused-row boot cpu own there (command.SyncDev mapping off len) calls is rows = held-step _ (mapping_named own mapping) (λ m has. copy-row (asks_in m.direction) (event.CopiedIn m.run off len) rows.quiet (rows.area _ tt))
  unrefused-row boot cpu own there (command.SyncCpu mapping off len) calls is rows = held-step _ (mapping_named own mapping) (λ m has. copy-row (asks_out m.direction) (event.CopiedOut m.run off len) rows.quiet (rows.area _ tt))
  unrefused-row boot cpu own there (command.Unmap mapping skip) calls is rows = held-step _ (mapping_named own mapping) (λ m has. record { each = rows.area _ tt })
  unrefused-row boot cpu own there (command.DRead mapping off len) calls is rows = held-step _ (mapping_named own mapping) (λ m has. record { each = rows.area _ tt })
  unrefused-row boot cpu own there (command.DWrite mapping off hex) calls is rows = held-step _ (mapping_named own mapping) (λ m has. record { each = rows.area _ tt })
  unrefused-row boot cpu own there (command.HostRead off len) calls is rows = record { each = rows.area _ tt }
  unrefused-row boot cpu own there (command.HostWrite off hex) calls is rows = record { each = rows.area _ tt }

-- what holds of each row's event holds of a step's
pub step-row : (P : Event → Type 0) (boot : Boot) (cpu : ℕ) (own : Own) (there : List Moved) (c : Command) (calls : List ModuleCall) (step : Step) → ConvertsNothing c → RowsHave P boot (entries_of there) cpu own c → step_of boot cpu own there c calls ≡ Some step → P step.event
step-row P boot cpu own there c calls step is rows made =
    (subst (StepHas P) made (refused-step P (refusal_of boot own c) (unrefused_step boot cpu own there c calls) rows.quiet (unrefused-row P boot cpu own there c calls is rows))).each

-- what holds of each row's event holds of the event that follows
pub follows-row : (P : Event → Type 0) (boot : Boot) (scripts : List (List Command)) (history : List Moved) (entry : Entry) → ConvertNothing scripts → (f : Follows boot scripts history entry)
    → RowsHave P boot (entries_of (at_place entry.place history)) entry.cpu.0 (own_of (script_of scripts entry.cpu.0) (made_by entry.cpu.0 history)) (command-of boot scripts history entry f).command → P entry.event
follows-row P boot scripts history entry all f rows =
    let c = command-of boot scripts history entry f in
    step-row P boot entry.cpu.0 (own_of (script_of scripts entry.cpu.0) (made_by entry.cpu.0 history)) (at_place entry.place history) c.command (calls_in entry.event) (step_told entry)
    (is-unconverting scripts entry.cpu.0 entry.cmd c.command all c.its) rows c.step

-- such steps convert nothing
pub unconverting-rows : (boot : Boot) (memory : List Entry) (cpu : ℕ) (own : Own) (c : Command) → RowsHave IsUnconverting boot memory cpu own c
unconverting-rows boot memory cpu own c = record {
  quiet = tt;
  asked = λ found. tt;
  claimed = λ block units none lowest. tt;
  reported = λ claim calls is. tt;
  got = λ name order block its is. tt;
  none = tt;
  freed = λ name h its has. tt;
  touched = λ page found at. tt;
  area = area-unconverting;
}

pub follows-unconverting : (boot : Boot) (scripts : List (List Command)) (history : List Moved) (entry : Entry) → ConvertNothing scripts → Follows boot scripts history entry → IsUnconverting entry.event
follows-unconverting boot scripts history entry all f =
    follows-row IsUnconverting boot scripts history entry all f
    (unconverting-rows boot (entries_of (at_place entry.place history)) entry.cpu.0 (own_of (script_of scripts entry.cpu.0) (made_by entry.cpu.0 history)) (command-of boot scripts history entry f).command)
