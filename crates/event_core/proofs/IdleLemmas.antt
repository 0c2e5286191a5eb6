use Rattle.std.proofs.Common.{◌≡◌, ℕ, Bool, true, false, Option, None, Some, List, [], ◌∷◌, ◌++◌, length, map, refl, sym, ◌∙◌, ap, subst, inl, inr, arith, append-nil, slice_get}
use Rattle.std.specs.Prelude.{is_none}
use Rattle.std.specs.Option.{option_and_then, option_map}
use Rattle.std.proofs.lemmas.Bool.{cases_Bool, both_ways}
use Rattle.std.proofs.lemmas.Option.{slice_get_past}
use Rattle.guest_base.specs.declared.memory.Block.{Block}
use Rattle.guest_base.specs.declared.memory.Units.{Units}
use Rattle.guest_base.specs.declared.memory.PageState.{PageState}
use Rattle.guest_base.specs.declared.memory.PageState.TheVariants.{Pending, Accepted, Shared}
use Rattle.guest_base.specs.Blocks.{pick}
use Rattle.event_core.specs.declared.boot.Boot.{Boot}
use Rattle.event_core.specs.declared.command.Command.{Command}
use Rattle.event_core.specs.declared.command.Command.TheVariants as command
use Rattle.event_core.specs.declared.module_call.ModuleCall.{ModuleCall}
use Rattle.event_core.specs.declared.event.Event.{Event}
use Rattle.event_core.specs.declared.event.Event.TheVariants as event
use Rattle.event_core.specs.declared.entry.Place.TheVariants as place
use Rattle.event_core.specs.declared.entry.Entry.{Entry}
use Rattle.event_core.specs.declared.reply.Reply.{Reply}
use Rattle.event_core.specs.declared.reply.Reply.TheVariants as reply
use Rattle.event_core.specs.declared.reply.Found.{Found}
use Rattle.event_core.specs.Bytes.{row_of}
use Rattle.event_core.specs.Calls.{calls_in}
use Rattle.event_core.specs.Units.{guarded_units}
use Rattle.event_core.specs.Claims.{Claimed, claim_of, in_the_way}
use Rattle.event_core.specs.Blocks.{lowest_waiting, in_flight_with, free_page, block_units}
use Rattle.event_core.specs.MemoryRows.{claim_event, run_of_claim}
use Rattle.event_core.specs.BlockRows.{alloc_event, with_pick, without_free, without_waiting}
use Rattle.event_core.specs.OwnRows.{is_inside, found_at, page_behind, strayed_bytes}
use Rattle.event_core.specs.Moved.{Moved, entries_of, made_by}
use Rattle.event_core.specs.Holdings.{Own, Holding, block_named, mapping_named}
use Rattle.event_core.specs.Own.{replied, own_of, script_of, present}
use Rattle.event_core.specs.Refusals.{refusal_of}
use Rattle.event_core.specs.Next.{Step, claim_reply, alloc_reply, replied_by, accept_step, alloc_step, convert_step, load_step, stray_step, refused_or, unrefused_step, step_of, next_step}
use Rattle.event_core.specs.Legal.{same_place, at_place, place_of, Follows, LegalAfter, Whole, with_bytes, with_moved}
use Rattle.event_core.specs.Turns.{is_idle, TakenIn, Turned}
use Rattle.event_core.proofs.SoundLemmas.{same_place-Memory}
use Rattle.event_core.proofs.BlockingLemmas.{blocked-same}

-- Whoever has made an entry wasn't idle, and whoever has replied to every command is.

-- ---- events of the memory

abbrev InMemory : Boot → Event → Type 0
InMemory boot e = same_place place.Memory (place_of boot e) ≡ true

abbrev EventIn : Boot → Option Event → Type 0
EventIn boot None = Unit {0}
EventIn boot (Some e) = InMemory boot e

abbrev StepIn : Boot → Option Step → Type 0
StepIn boot None = Unit {0}
StepIn boot (Some s) = InMemory boot s.event

mapped-in : (boot : Boot) (e : Option Event) (told : Event → Option Reply) → EventIn boot e → StepIn boot (option_map (λ e. let s : Step = record { event = e; reply = told e } in s) e)
mapped-in boot None told within = tt
mapped-in boot (Some e) told within = within

claim-in : (boot : Boot) (memory : List Entry) (block : Option Block) (units : Option Units) → EventIn boot (claim_event boot memory block units)
claim-in boot memory block units = by_way (in_the_way boot memory units) where
  by_way : (way : Option ℕ) → EventIn boot (elim way as (λ _. Option Event) [ None ↦ Some (event.Claim block units (run_of_claim boot memory units)) | Some _ ↦ None ])
  by_way None = refl
  by_way (Some cpu) = tt

accept-in : (boot : Boot) (memory : List Entry) (claim : Option Claimed) (units : Option Units) (calls : List ModuleCall) → StepIn boot (accept_step boot memory claim units calls)
accept-in boot memory None units calls = mapped-in boot (claim_event boot memory None units) (λ _. claim_reply (run_of_claim boot memory units)) (claim-in boot memory None units)
accept-in boot memory (Some claim) units calls = refl

pick-in : (boot : Boot) (memory : List Entry) (block : Option Block) → EventIn boot (with_pick boot memory block)
pick-in boot memory (Some block) = refl
pick-in boot memory None = by_waiting (lowest_waiting boot memory) where
  by_flight : (way : Option ℕ) → EventIn boot (without_waiting way)
  by_flight None = refl
  by_flight (Some cpu) = tt

  by_waiting : (block : Option Block) → EventIn boot (without_free boot memory block)
  by_waiting (Some block) = claim-in boot memory (Some block) (block_units boot block)
  by_waiting None = by_flight (in_flight_with boot memory)

alloc-in : (boot : Boot) (memory : List Entry) (claim : Option Claimed) (order : ℕ) (calls : List ModuleCall) → StepIn boot (alloc_step boot memory claim order calls)
unfolding alloc_event
alloc-in boot memory None order calls = mapped-in boot (alloc_event boot memory order) alloc_reply (pick-in boot memory (pick (free_page boot memory) order))
alloc-in boot memory (Some claim) order calls = refl

convert-in : (boot : Boot) (memory : List Entry) (begun : Option Block) (block : Block) (to : PageState) (calls : List ModuleCall) → StepIn boot (convert_step boot memory begun block to calls)
convert-in boot memory None block to calls = refl
convert-in boot memory (Some begun) block to calls = refl

converts-in : (boot : Boot) (memory : List Entry) (begun : Option Block) (h : Option Holding) (to : PageState) (calls : List ModuleCall) → StepIn boot (option_and_then (λ (h : Holding). convert_step boot memory begun h.block to calls) h)
converts-in boot memory begun None to calls = tt
converts-in boot memory begun (Some h) to calls = convert-in boot memory begun h.block to calls

stray-in : (boot : Boot) (memory : List Entry) (h : Holding) (off : ℕ) → StepIn boot (stray_step boot memory h off)
stray-in boot memory h off = by_found (found_at boot memory (page_behind h.block)) where
  by_found : (found : Option Found)
      → StepIn boot (option_map (λ f. let s : Step = record { event = event.Touched (record { 0 = page_behind h.block }) f; reply = Some (reply.Loaded (strayed_bytes h off) (Some f)) } in s) found)
  by_found None = tt
  by_found (Some f) = refl

-- ---- steps elsewhere

-- a step that isn't the memory's is made whatever stands in the list of its place
abbrev Elsewhere : Boot → Option Step → Option Step → Type 0
Elsewhere boot one other = (s : Step) → one ≡ Some s → same_place place.Memory (place_of boot s.event) ≡ false → is_none other ≡ false

never-in : (boot : Boot) (one other : Option Step) → StepIn boot one → Elsewhere boot one other
never-in boot one other within s is out = absurd (both_ways (same_place place.Memory (place_of boot s.event)) out (subst (StepIn boot) is within))

as-one : (boot : Boot) (one other : Option Step) → is_none one ≡ is_none other → Elsewhere boot one other
as-one boot one other same s is out = sym same ∙ ap is_none is

held-alike : {A : Type 0} (boot : Boot) (one other : A → Option Step) → ((a : A) → is_none (one a) ≡ is_none (other a)) → (held : Option A) → Elsewhere boot (option_and_then one held) (option_and_then other held)
held-alike boot one other same None s is out = cc
held-alike boot one other same (Some a) s is out = sym (same a) ∙ ap is_none is

loads : (boot : Boot) (memory others : List Entry) (off : ℕ) (held : Option Holding) → Elsewhere boot (option_and_then (λ h. load_step boot memory h off) held) (option_and_then (λ h. load_step boot others h off) held)
loads boot memory others off None s is out = cc
loads boot memory others off (Some h) s is out = by_inside (is_inside h.block off) is where
  its : List Entry → Bool → Option Step
  its entries inside = elim inside as (λ _. Option Step) [ true ↦ replied_by event.Own (reply.Loaded (row_of h.bytes off 8) None) | false ↦ stray_step boot entries h off ]

  by_inside : (inside : Bool) → its memory inside ≡ Some s → is_none (its others inside) ≡ false
  by_inside true is = refl
  by_inside false is = never-in boot (stray_step boot memory h off) (stray_step boot others h off) (stray-in boot memory h off) s is out

unrefused-elsewhere : (boot : Boot) (cpu : ℕ) (own : Own) (there others : List Moved) (c : Command) (calls : List ModuleCall) → Elsewhere boot (unrefused_step boot cpu own there c calls) (unrefused_step boot cpu own others c [])
unrefused-elsewhere boot cpu own there others (command.Alloc name order) calls = never-in boot _ (unrefused_step boot cpu own others (command.Alloc name order) []) (alloc-in boot (entries_of there) (claim_of boot (entries_of there) cpu) order calls)
unrefused-elsewhere boot cpu own there others (command.Accept start len) calls = never-in boot _ (unrefused_step boot cpu own others (command.Accept start len) []) (accept-in boot (entries_of there) (claim_of boot (entries_of there) cpu) (guarded_units boot start len) calls)
unrefused-elsewhere boot cpu own there others (command.Share name) calls = never-in boot _ (unrefused_step boot cpu own others (command.Share name) []) (converts-in boot (entries_of there) own.converting (block_named own name) Shared calls)
unrefused-elsewhere boot cpu own there others (command.Private name) calls = never-in boot _ (unrefused_step boot cpu own others (command.Private name) []) (converts-in boot (entries_of there) own.converting (block_named own name) Accepted calls)
unrefused-elsewhere boot cpu own there others (command.Giveback name) calls = never-in boot _ (unrefused_step boot cpu own others (command.Giveback name) []) (converts-in boot (entries_of there) own.converting (block_named own name) Pending calls)
unrefused-elsewhere boot cpu own there others (command.Load name off) calls = loads boot (entries_of there) (entries_of others) off (block_named own name)
unrefused-elsewhere boot cpu own there others (command.Map mapping name off len direction mask) calls = held-alike boot _ _ (λ h. refl) (block_named own name)
unrefused-elsewhere boot cpu own there others (command.DRead mapping off len) calls = held-alike boot _ _ (λ m. refl) (mapping_named own mapping)
unrefused-elsewhere boot cpu own there others c calls = as-one boot (unrefused_step boot cpu own there c calls) (unrefused_step boot cpu own others c []) refl

refused-elsewhere : (boot : Boot) (refusal : Option Reply) (one other : Option Step) → Elsewhere boot one other → Elsewhere boot (refused_or refusal one) (refused_or refusal other)
refused-elsewhere boot None one other goes = goes
refused-elsewhere boot (Some r) one other goes = λ s is out. refl

present-elsewhere : (boot : Boot) (cpu : ℕ) (own : Own) (there others : List Moved) (c : Option Command) (calls : List ModuleCall)
    → Elsewhere boot (option_and_then (λ command. step_of boot cpu own there command calls) c) (option_and_then (λ command. step_of boot cpu own others command []) c)
present-elsewhere boot cpu own there others None calls = λ s is out. cc
present-elsewhere boot cpu own there others (Some c) calls =
    refused-elsewhere boot (refusal_of boot own c) (unrefused_step boot cpu own there c calls) (unrefused_step boot cpu own others c []) (unrefused-elsewhere boot cpu own there others c calls)

-- ---- turns

-- whoever makes an entry that follows isn't idle before it
pub follows-turn : (boot : Boot) (scripts : List (List Command)) (history : List Moved) (entry : Entry) → Follows boot scripts history entry → is_idle boot scripts history entry.cpu.0 ≡ false
follows-turn boot scripts history entry follows =
    elim (cases_Bool (same_place place.Memory entry.place)) [
      | inl within ↦
          (let at : entry.place ≡ place.Memory = same_place-Memory entry.place within in
          let step = subst (λ p. next_step boot scripts entry.cpu.0 (made_by entry.cpu.0 history) (at_place p history) (calls_in entry.event) ≡ Some (record { event = entry.event; reply = entry.reply })) at follows.over.step in
          sym (blocked-same boot scripts entry.cpu.0 (made_by entry.cpu.0 history) (at_place place.Memory history) (calls_in entry.event)) ∙ ap is_none step)
      | inr out ↦
          present-elsewhere boot entry.cpu.0 (own_of (script_of scripts entry.cpu.0) (made_by entry.cpu.0 history)) (at_place entry.place history) (at_place place.Memory history) (present scripts entry.cpu.0 (made_by entry.cpu.0 history)) (calls_in entry.event)
          (record { event = entry.event; reply = entry.reply }) follows.over.step (ap (same_place place.Memory) (sym follows.over.place) ∙ out)
    ]

-- a legal history is made by the turns of its entries' processors
pub legal-turns : (boot : Boot) (scripts : List (List Command)) (history : List Moved) (entries : List Entry) → LegalAfter boot scripts history entries → TakenIn boot scripts history (map (λ (e : Entry). e.cpu.0) entries) entries
legal-turns boot scripts history [] legal = refl
legal-turns boot scripts history (entry ∷ entries) legal =
    taken (is_idle boot scripts history entry.cpu.0) (follows-turn boot scripts history entry legal.0)
    (refl, legal.0, legal-turns boot scripts (history ++ with_bytes boot scripts history entry ∷ []) entries legal.2)
  where
    turns : List ℕ
    turns = map (λ (e : Entry). e.cpu.0) entries

    Made : Type 0
    Made = (entry.cpu.0 ≡ entry.cpu.0) × Follows boot scripts history entry × TakenIn boot scripts (history ++ with_bytes boot scripts history entry ∷ []) turns entries

    taken : (idle : Bool) → idle ≡ false → Made → elim idle as (λ _. Type 0) [ true ↦ TakenIn boot scripts history turns (entry ∷ entries) | false ↦ Made ]
    taken true idle made = cc
    taken false idle made = made

-- whoever has replied to all is idle
no-more : (script : Option (List Command)) (own : List Moved) → ((s : List Command) → script ≡ Some s → replied own ≡ length s) → option_and_then (λ (s : List Command). slice_get s (replied own)) script ≡ None
no-more None own all = refl
no-more (Some s) own all = slice_get_past s (replied own) (let at = all s refl in omega (arith, at))

pub whole-idle : (boot : Boot) (scripts : List (List Command)) (entries : List Entry) → Whole boot scripts entries → (cpu : ℕ) → is_idle boot scripts (with_moved boot scripts entries) cpu ≡ true
whole-idle boot scripts entries whole cpu =
    let own = made_by cpu (with_moved boot scripts entries) in
    let there = at_place place.Memory (with_moved boot scripts entries) in
    ap (λ (c : Option Command). is_none (option_and_then (λ command. step_of boot cpu (own_of (script_of scripts cpu) own) there command []) c)) (no-more (slice_get scripts cpu) own (whole.all cpu))

pub whole-turned : (boot : Boot) (scripts : List (List Command)) (entries : List Entry) → Whole boot scripts entries → Turned boot scripts (map (λ (e : Entry). e.cpu.0) entries) entries
whole-turned boot scripts entries whole = record {
  taken = entries;
  same = λ cpu. refl;
  rounds = 0;
  turns = subst (λ turns. TakenIn boot scripts [] turns entries) (sym (append-nil (map (λ (e : Entry). e.cpu.0) entries))) (legal-turns boot scripts [] entries whole.legal);
  ended = whole-idle boot scripts entries whole;
}
