-- A look that claims the lowest waiting block.
use Rattle.std.proofs.Common.{◌≡◌, ℕ, ◌<◌, Option, None, Some, List, sym, ◌∙◌, ap, subst}
use Rattle.std.specs.Option.{option_and_then}
use Rattle.guest_base.specs.Blocks.{pick}
use Rattle.guest_base.specs.declared.memory.Block.{Block}
use Rattle.guest_base.specs.declared.memory.Units.{Units}
use Rattle.event_core.specs.declared.entry.Entry.{Entry}
use Rattle.event_core.specs.declared.entry.Turn.{Turn}
use Rattle.event_core.specs.declared.event.Event.{Event}
use Rattle.event_core.specs.declared.event.Event.TheVariants.{Claim}
use Rattle.event_core.specs.BlockRows.{alloc_event}
use Rattle.event_core.specs.Blocks.{block_units, free_page, lowest_waiting}
use Rattle.event_core.specs.Claims.{in_the_way}
use Rattle.event_core.specs.MemoryRows.{claim_event, run_of_claim}
use Rattle.memory_core.specs.Answers.{IsMet, LeavesNoRoom}
use Rattle.memory_core.specs.Looks.{Clears, Looks, Wants}
use Rattle.memory_core.specs.Steps.{Appends, IsForLowest, bare_entry, last_stamp}
use Rattle.memory_core.specs.Value.{MemoryValue}
use Rattle.memory_core.specs.Waiting.{waiting_left, waiting_units}
use Rattle.memory_core.proofs.LookLemmas.{event-waiting, looks-none, looks-some}
use Rattle.memory_core.proofs.WaitingLemmas.{waiting-cleared}

-- the units that a look would claim are the guarded ones of the lowest waiting block
pub for-lowest : (memory : MemoryValue) (block : Block) (units : Option Units) → lowest_waiting memory.boot memory.entries ≡ Some block → units ≡ waiting_units memory.boot memory.entries → IsForLowest memory units block
for-lowest memory block units lowest is = record { lowest = lowest; guarded = is ∙ ap (option_and_then (block_units memory.boot)) lowest }

module _ (old new : MemoryValue) (turn turned : Turn) (block : Block) (units : Option Units) (its : IsForLowest old units block) (order : ℕ) (none : pick (free_page old.boot old.entries) order ≡ None) where
  wants : Wants old order (Some block)
  wants = record { none_free = none; lowest = its.lowest }

  event : Event
  event = Claim (Some block) units (run_of_claim old.boot old.entries units)

  -- the event of the allocation is the claim's, unless a claim is in the way
  by-way : (way : Option ℕ) → in_the_way old.boot old.entries units ≡ way
      → alloc_event old.boot old.entries order ≡ elim way as (λ _. Option Event) [ None ↦ Some event | Some cpu ↦ None ]
  unfolding event
  by-way way is =
      event-waiting old.boot old.entries order (Some block) none its.lowest
      ∙ ap (claim_event old.boot old.entries (Some block)) (sym its.guarded)
      ∙ ap (λ (o : Option ℕ). elim o as (λ _. Option Event) [ None ↦ Some (Claim (Some block) units (run_of_claim old.boot old.entries units)) | Some cpu ↦ None ]) is

  -- the block is free
  pub look-cleared : in_the_way old.boot old.entries units ≡ None → run_of_claim old.boot old.entries units ≡ None → LeavesNoRoom old new
      → Appends old new turn turned (Claim (Some block) units (run_of_claim old.boot old.entries units)) → Clears old new order
  look-cleared free no_run uses appends =
      let entry = bare_entry turn (last_stamp old.entries) (Claim (Some block) units (run_of_claim old.boot old.entries units)) in
      let fewer = waiting-cleared old.boot old.entries entry block units (ap (Claim (Some block) units) no_run) its.lowest in
      let W : List Entry → Type 0 = λ es. waiting_left old.boot es < waiting_left old.boot old.entries in
      record {
        block = block;
        wants = wants;
        free = ap (in_the_way old.boot old.entries) (sym its.guarded) ∙ free;
        none = ap (run_of_claim old.boot old.entries) (sym its.guarded) ∙ no_run;
        fewer = subst W (sym appends.entries) fewer;
        uses = uses;
      }

  -- the claim's event is appended
  pub looks-claim : in_the_way old.boot old.entries units ≡ None → Appends old new turn turned (Claim (Some block) units (run_of_claim old.boot old.entries units)) → Looks old new turn turned order
  unfolding event
  looks-claim free appends = looks-some old new turn turned order (Claim (Some block) units (run_of_claim old.boot old.entries units)) (by-way None free) appends

  -- or nothing changes
  pub looks-stopped : (met : Units) → IsMet old units met → (new ≡ old) × (turned ≡ turn) → Looks old new turn turned order
  looks-stopped met is same =
      let P : MemoryValue → Type 0 = λ m. Looks old m turn turned order in
      let Q : Turn → Type 0 = λ t. Looks old old turn t order in
      subst P (sym same.0) (subst Q (sym same.1) (looks-none old turn order (by-way (Some is.cpu) is.first)))
