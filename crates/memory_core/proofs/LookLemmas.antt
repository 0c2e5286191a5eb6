-- Steps for blocks: events without module calls that leave all claims.
use Rattle.std.proofs.Common.{◌≡◌, ℕ, ◌+◌, ◌^◌, ◌<◌, ◌≤◌, Bool, true, false, Option, None, Some, List, [], ◌∷◌, ◌++◌, refl, sym, ◌∙◌, ap, subst, cond, append-nil, arith, max}
use mathlib.Core.Path.{fun_ext}
use Rattle.std.specs.Prelude.{Vec, vec_capacity, ◌==◌}
use Rattle.std.specs.declared.alloc.Global.{Global}
use Rattle.guest_base.specs.Blocks.{pick}
use Rattle.guest_base.specs.declared.memory.Block.{Block}
use Rattle.event_core.specs.declared.boot.Boot.{Boot}
use Rattle.event_core.specs.declared.entry.Entry.{Entry}
use Rattle.event_core.specs.declared.entry.Turn.{Turn}
use Rattle.event_core.specs.declared.event.Event.{Event}
use Rattle.event_core.specs.declared.event.Event.TheVariants.{Freed, Got}
use Rattle.event_core.specs.declared.module_call.ModuleCall.{ModuleCall}
use Rattle.event_core.specs.BlockRows.{alloc_event, with_pick, without_free}
use Rattle.event_core.specs.Blocks.{free_page, lowest_waiting}
use Rattle.event_core.specs.Calls.{calls_in, calls_of}
use Rattle.event_core.specs.Claims.{Claimed, claim_of, claim_step}
use Rattle.event_core.specs.Legal.{CallsFit}
use Rattle.event_core.specs.MemoryRows.{page_state}
use Rattle.event_core.specs.Table.{Bits}
use Rattle.event_core.proofs.StandingLemmas.{calls_of-push, claim_of-push}
use Rattle.block_allocator.specs.State.{State}
use Rattle.block_laws.proofs.FitFacts.{Fits}
use Rattle.page_module.specs.Tables.{Table}
use Rattle.memory_core.specs.Answers.{OthersKeep}
use Rattle.memory_core.specs.KeptBlocks.{BlocksAfter, HasBlockRoom}
use Rattle.memory_core.specs.Looks.{Looks}
use Rattle.memory_core.specs.Owners.{is_owner}
use Rattle.memory_core.specs.StandsFor.{StandsFor}
use Rattle.memory_core.specs.Steps.{bare_entry, Appends}
use Rattle.memory_core.specs.Value.{MemoryValue}
use Rattle.memory_core.specs.Waiting.{waiting_left}
use Rattle.memory_core.specs.declared.claims.OpenClaim.{OpenClaim}
use Rattle.memory_core.proofs.BegunLemmas.{seen}
use Rattle.memory_core.proofs.BlockStepLemmas.{blocks-go}
use Rattle.memory_core.proofs.StepLemmas.{stands-more}
use Rattle.memory_core.proofs.WaitingLemmas.{waiting-push}

-- an event without module calls that leaves all claims
pub record IsStill (boot : Boot) (event : Event) : Type 0 where
  pub calls : calls_in event ≡ []
  pub claims : (calls : List ModuleCall) (claim : Option Claimed) → claim_step boot calls claim event ≡ claim

either : {A : Type 0} (b : Bool) (x y : A) → x ≡ y → cond b x y ≡ y
either true x y is = is
either false x y is = refl

calls-still : (boot : Boot) (entries : List Entry) (turn : Turn) (last : ℕ) (event : Event) → IsStill boot event → calls_of boot (entries ++ bare_entry turn last event ∷ []) ≡ calls_of boot entries
calls-still boot entries turn last event still = calls_of-push boot entries (bare_entry turn last event) ∙ ap (λ cs. calls_of boot entries ++ cs) still.calls ∙ append-nil (calls_of boot entries)

claims-still : (boot : Boot) (entries : List Entry) (turn : Turn) (last : ℕ) (event : Event) → IsStill boot event → claim_of boot (entries ++ bare_entry turn last event ∷ []) ≡ claim_of boot entries
claims-still boot entries turn last event still =
    fun_ext (λ cpu. claim_of-push boot entries (bare_entry turn last event) cpu ∙ either (turn.cpu.0 == cpu) (claim_step boot (calls_of boot entries) (claim_of boot entries cpu) event) (claim_of boot entries cpu) (still.claims (calls_of boot entries) (claim_of boot entries cpu)))

-- what is kept stands for the entries behind such an event
pub stands-still : (boot : Boot) (entries entries' : Vec Entry Global) (last last' : ℕ) (table : Table) (bits : Option Bits) (claims : List (Option OpenClaim)) (blocks blocks' : State) (pages kept room room' : ℕ) (turn : Turn) (event : Event)
    → StandsFor boot entries last table bits claims blocks pages kept room
    → IsStill boot event → Fits boot entries.items turn.cpu.0 event → CallsFit boot entries.items event → ((block : Block) → event ≡ Freed block → is_owner entries.items turn.cpu.0 block ≡ true)
    → BlocksAfter boot (entries.items ++ bare_entry turn last event ∷ []) blocks' → HasBlockRoom blocks' claims room'
    → entries'.items ≡ entries.items ++ bare_entry turn last event ∷ [] → vec_capacity entries ≤ vec_capacity entries'
    → last' ≡ max turn.clock last + 1 → turn.clock < 2 ^ 64 → last < 2 ^ 64 → kept < 2 ^ 64 → room' < room
    → StandsFor boot entries' last' table bits claims blocks' pages kept room'
stands-still boot entries entries' last last' table bits claims blocks blocks' pages kept room room' turn event s still fits steps frees after enough is more last_is low_clock low_last few less =
    stands-more boot entries entries' last last' table bits claims blocks blocks' pages kept room room' turn event s
    (calls-still boot entries.items turn last event still) (claims-still boot entries.items turn last event still) is more last_is low_clock low_last few less
    (blocks-go boot entries.items (bare_entry turn last event) blocks' claims room' s.settled s.steady.waiting fits steps frees after enough)

-- what other processors have stays
pub others-still : (boot : Boot) (entries entries' : List Entry) (claims : List (Option OpenClaim)) (room room' : ℕ) (turn : Turn) (last : ℕ) (event : Event) → IsStill boot event → Fits boot entries turn.cpu.0 event
    → entries' ≡ entries ++ bare_entry turn last event ∷ [] → OthersKeep (seen boot entries claims room) (seen boot entries' claims room') turn.cpu.0
others-still boot entries entries' claims room room' turn last event still fits is = record {
  handed = λ other differ. refl;
  states = λ other claim page differ has inside. ap (λ cs. page_state boot cs page) (ap (calls_of boot) is ∙ calls-still boot entries turn last event still);
  waiting = (let fewer = waiting-push boot entries (bare_entry turn last event) fits in let same = ap (waiting_left boot) is in omega (arith, fewer, same));
}

-- behind a step that uses room for at most ten blocks there is room for those of open claims
pub room-spent : (old new : State) (claims : List (Option OpenClaim)) (room : ℕ) → HasBlockRoom old claims room → 0 < room → old.room ≤ new.room + 10 → HasBlockRoom new claims 0
room-spent old new claims room has some left = let step = has.step some in record { claimed = omega (arith, step, left); step = λ none. absurd (omega (arith, none)) }

-- ---- the event of an allocation

pub event-got : (boot : Boot) (memory : List Entry) (order : ℕ) (block : Block) → pick (free_page boot memory) order ≡ Some block → alloc_event boot memory order ≡ Some (Got block)
unfolding alloc_event
event-got boot memory order block picked = ap (with_pick boot memory) picked

pub event-waiting : (boot : Boot) (memory : List Entry) (order : ℕ) (block : Option Block) → pick (free_page boot memory) order ≡ None → lowest_waiting boot memory ≡ block → alloc_event boot memory order ≡ without_free boot memory block
unfolding alloc_event
event-waiting boot memory order block picked lowest = ap (with_pick boot memory) picked ∙ ap (without_free boot memory) lowest

-- a look that appends the event, and one that finds none
pub looks-some : (old new : MemoryValue) (turn turned : Turn) (order : ℕ) (event : Event) → alloc_event old.boot old.entries order ≡ Some event → Appends old new turn turned event → Looks old new turn turned order
looks-some old new turn turned order event is appends = record {
  appends = λ other may. (let same : event ≡ other = cc in subst (Appends old new turn turned) same appends);
  stays = λ none. (let no : Some event ≡ None = sym is ∙ none in cc);
}

pub looks-none : (old : MemoryValue) (turn : Turn) (order : ℕ) → alloc_event old.boot old.entries order ≡ None → Looks old old turn turn order
looks-none old turn order is = record {
  appends = λ event may. (let no : None ≡ Some event = sym is ∙ may in cc);
  stays = λ none. (refl, refl);
}
