use Rattle.std.proofs.Common.{◌≡◌, ℕ, ◌*◌, Bool, true, false, Option, None, Some, List, [], ◌∷◌, ◌++◌, map, inl, inr, refl, sym, ◌∙◌, ap, subst}
use Rattle.std.specs.Prelude.{All, ◌||◌, slice_get}
use Rattle.std.specs.Option.{option_and_then}
use Rattle.std.proofs.lemmas.Bool.{cases_Bool}
use Rattle.std.proofs.lemmas.List.Elements.{All-head, All-tail}
use Rattle.guest_base.specs.declared.limits.TheConstants.{PAGE_BYTES}
use Rattle.guest_base.specs.declared.memory.Block.{Block}
use Rattle.guest_base.specs.declared.memory.Units.{Units}
use Rattle.guest_base.specs.declared.memory.CpuNo.{CpuNo}
use Rattle.event_core.specs.declared.command.Command.{Command}
use Rattle.event_core.specs.declared.command.Command.TheVariants as command
use Rattle.event_core.specs.declared.entry.Entry.{Entry}
use Rattle.event_core.specs.declared.entry.Place.TheVariants as place
use Rattle.event_core.specs.declared.entry.Turn.{Turn}
use Rattle.event_core.specs.declared.event.Event.{Event}
use Rattle.event_core.specs.declared.event.Event.TheVariants as event
use Rattle.event_core.specs.declared.reply.Reply.{Reply}
use Rattle.event_core.specs.declared.reply.Reply.TheVariants as reply
use Rattle.event_core.specs.BlockRows.{without_waiting}
use Rattle.event_core.specs.Blocks.{block_units, in_flight_with, lowest_waiting}
use Rattle.event_core.specs.Claims.{in_the_way}
use Rattle.event_core.specs.Holdings.{Holding, Own, same_block}
use Rattle.event_core.specs.MemoryRows.{run_of_claim}
use Rattle.event_core.specs.Moved.{Moved}
use Rattle.event_core.specs.Own.{after_alloc, ended, own_of, replied}
use Rattle.block_laws.proofs.StandFacts.{same-block}
use Rattle.held_blocks.specs.Held.{IsInMemory, is_held}
use Rattle.held_blocks.specs.Holdings.{HoldingsValue, own_in as own_held}
use Rattle.memory_core.specs.Answers.{OthersKeep}
use Rattle.memory_core.specs.Looks.{Clears, ClaimsBlock, Gets, IsStopped, Looks, LookedBy, Wants}
use Rattle.memory_core.specs.Owners.{is_owner}
use Rattle.memory_core.specs.Steps.{Appends}
use Rattle.memory_core.specs.UnderLock.{unmoved}
use Rattle.memory_core.specs.Value.{MemoryValue}
use Rattle.memory_core.specs.Waiting.{waiting_units}
use Rattle.memory_core.specs.declared.memory.Look.TheVariants as look
use Rattle.memory_core.proofs.HomeLemmas.{picked-place}
use Rattle.page_module.specs.Spans.{Taken}
use Rattle.guest_steps.specs.declared.processor.Stepped.{Stepped}
use Rattle.guest_steps.specs.declared.processor.Stepped.TheVariants as stepped
use Rattle.guest_cpu.specs.Looking.{LooksFor}
use Rattle.guest_cpu.specs.Made.{entry_at, turn_of}
use Rattle.guest_cpu.specs.Progressing.{Progressed}
use Rattle.guest_cpu.specs.Stepping.{Adds, ClaimMade, claim_made, going_on, runs_with}
use Rattle.guest_cpu.proofs.AllocLemmas.{event-claim, event-got, event-wanted}
use Rattle.guest_cpu.proofs.KeptLemmas.{holds-told}

-- What a look makes of a processor's course.

-- ---- the block that it gets

pub got-place : (before after : MemoryValue) (order : ℕ) (block : Block) → Gets before after order block → IsInMemory block
got-place before after order block gets =
    let place = picked-place _ order block gets.picked in
    record { order = place.order; end = place.end }

unheld : (same rest : Bool) → same ≡ false → rest ≡ false → (same || rest) ≡ false
unheld false false a b = refl
unheld true rest a b = cc
unheld false true a b = cc

-- nobody owned it, so the processor doesn't hold it
pub got-unheld : (memory : List Entry) (cpu : ℕ) (block : Block) (blocks : List Holding) → is_owner memory cpu block ≡ false → All (λ (b : Block). is_owner memory cpu b ≡ true) (map (λ (h : Holding). h.block) blocks) → is_held block blocks ≡ false
got-unheld memory cpu block [] fresh owned = refl
got-unheld memory cpu block (h ∷ hs) fresh owned =
    let P : Block → Type 0 = λ b. is_owner memory cpu b ≡ true in
    let rest = All-tail P h.block (map (λ (g : Holding). g.block) hs) owned in
    unheld (same_block h.block block) (is_held block hs) differs (got-unheld memory cpu block hs fresh rest)
  where
    differs : same_block h.block block ≡ false
    differs = elim (cases_Bool (same_block h.block block)) [
      | inl t ↦
          (let same : h.block ≡ block = same-block h.block block t in
          let has : is_owner memory cpu h.block ≡ true = All-head (λ (b : Block). is_owner memory cpu b ≡ true) h.block (map (λ (g : Holding). g.block) hs) owned in
          absurd (let no : false ≡ true = sym fresh ∙ ap (is_owner memory cpu) (sym same) ∙ has in cc))
      | inr f ↦ f
    ]

-- ---- the blocks that are held behind it

pub got-holds : (script : List Command) (moved made : List Moved) (turned : Turn) (name : List ℕ) (order : ℕ) (block : Block) (answer : Reply) (held reserved got now : HoldingsValue) → own_of script moved ≡ own_held held → own_held reserved ≡ own_held held
    → own_held got ≡ after_alloc name (event.Got block) (own_held reserved) → own_held now ≡ ended (Some answer) (own_held got) → slice_get script turned.cmd ≡ Some (command.Alloc name order) → made ≡ moved ++ unmoved (entry_at turned place.Memory (event.Got block) (Some answer)) ∷ [] → own_of script made ≡ own_held now
got-holds script moved made turned name order block answer held reserved got now holds same is after its made_is =
    ap (own_of script) made_is
    ∙ holds-told script moved (unmoved (entry_at turned place.Memory (event.Got block) (Some answer))) (command.Alloc name order) held now holds its
    (ap (λ (o : Own). ended (Some answer) (after_alloc name (event.Got block) o)) (sym same) ∙ ap (ended (Some answer)) (sym is) ∙ sym after)

pub none-holds : (script : List Command) (moved made : List Moved) (turned : Turn) (name : List ℕ) (order : ℕ) (answer : Reply) (held reserved now : HoldingsValue) → own_of script moved ≡ own_held held → own_held reserved ≡ own_held held → own_held now ≡ ended (Some answer) (own_held reserved)
    → slice_get script turned.cmd ≡ Some (command.Alloc name order) → made ≡ moved ++ unmoved (entry_at turned place.Memory event.NoBlock (Some answer)) ∷ [] → own_of script made ≡ own_held now
none-holds script moved made turned name order answer held reserved now holds same after its made_is =
    ap (own_of script) made_is
    ∙ holds-told script moved (unmoved (entry_at turned place.Memory event.NoBlock (Some answer))) (command.Alloc name order) held now holds its
    (ap (ended (Some answer)) (sym same) ∙ sym after)

-- the turn behind the event is the present command's
pub turned-now : (before after : MemoryValue) (turn turned : Turn) (event : Event) (number : ℕ) (moved : List Moved) → turn ≡ turn_of number moved → Appends before after turn turned event → turned.cmd ≡ replied moved
turned-now before after turn turned event number moved is appends = ap (λ (t : Turn). t.cmd) appends.clock ∙ ap (λ (t : Turn). t.cmd) is

-- ---- the event that it appends

module _ (before after : MemoryValue) (turn turned : Turn) (order : ℕ) (looks : Looks before after turn turned order) where
  pub got-appends : (block : Block) → Gets before after order block → Appends before after turn turned (event.Got block)
  got-appends block gets = looks.appends (event.Got block) (event-got before.boot before.entries order block gets.picked)

  pub none-appends : Wants before order None → in_flight_with before.boot before.entries ≡ None → Appends before after turn turned event.NoBlock
  none-appends wants none = looks.appends event.NoBlock (event-wanted before order None wants ∙ ap without_waiting none)

  -- the lowest waiting block is claimed, by its units
  pub claim-appends : (block : Block) → Wants before order (Some block) → in_the_way before.boot before.entries (block_units before.boot block) ≡ None
      → Appends before after turn turned (event.Claim (lowest_waiting before.boot before.entries) (waiting_units before.boot before.entries) (run_of_claim before.boot before.entries (waiting_units before.boot before.entries)))
  claim-appends block wants way =
      let A : Option Block → Type 0 = λ b. let units = option_and_then (block_units before.boot) b in Appends before after turn turned (event.Claim b units (run_of_claim before.boot before.entries units)) in
      subst A (sym wants.lowest) (looks.appends _ (event-claim before order block None wants way))

  pub stopped-stays : (met : Units) → IsStopped before order met → (after ≡ before) × (turned ≡ turn)
  stopped-stays met stopped = looks.stays (event-claim before order stopped.block (Some stopped.met_is.cpu) stopped.wants stopped.met_is.first)

  pub flight-stays : (cpu : ℕ) → Wants before order None → in_flight_with before.boot before.entries ≡ Some cpu → (after ≡ before) × (turned ≡ turn)
  flight-stays cpu wants is = looks.stays (event-wanted before order None wants ∙ ap without_waiting is)

-- ---- the course

adds-by : (old : Progressed) (before after : MemoryValue) (turn turned : Turn) (event : Event) (reply : Option Reply) (made : List Moved) (room : ℕ) → turn ≡ turn_of old.number old.moved → Appends before after turn turned event → OthersKeep before after turn.cpu.0
    → made ≡ old.moved ++ unmoved (entry_at turned place.Memory event reply) ∷ [] → Adds old (record old { moved = made; room = room }) before after event reply
adds-by old before after turn turned event reply made room is appends others made_is =
    let A : Turn → Type 0 = λ t. Appends before after t turned event in
    let O : Turn → Type 0 = λ t. OthersKeep before after t.cpu.0 in
    let there : Appends before after (turn_of old.number old.moved) turned event = subst A is appends in
    record {
      boot = refl;
      number = refl;
      script = refl;
      moved = made_is ∙ ap (λ (t : Turn). old.moved ++ unmoved (entry_at t place.Memory event reply) ∷ []) there.clock;
      same = there.boot;
      memory = there.entries;
      others = subst O is others;
    }

module _ (old : Progressed) (before after : MemoryValue) (turn turned : Turn) (order : ℕ) (runs : List Units) (is : turn ≡ turn_of old.number old.moved) (looks : Looks before after turn turned order) (others : OthersKeep before after turn.cpu.0) where
  others-is : OthersKeep before after old.number
  others-is = let O : Turn → Type 0 = λ t. OthersKeep before after t.cpu.0 in subst O is others

  pub got-looks : (block : Block) (made : List Moved) (room : ℕ) → Gets before after order block → made ≡ old.moved ++ unmoved (entry_at turned place.Memory (event.Got block) (Some (reply.Addr (PAGE_BYTES * block.first)))) ∷ []
      → LooksFor old (record old { moved = made; room = room }) before after order runs stepped.Event
  got-looks block made room gets made_is = record {
    looked = look.Got block;
    by = gets;
    did = record {
      is = refl;
      adds = adds-by old before after turn turned (event.Got block) (Some (reply.Addr (PAGE_BYTES * block.first))) made room is (got-appends before after turn turned order looks block gets) others made_is;
      same = refl;
    };
    others = others-is;
  }

  pub none-looks : (made : List Moved) (room : ℕ) → LookedBy before after turn order look.NoBlock → made ≡ old.moved ++ unmoved (entry_at turned place.Memory event.NoBlock (Some reply.NoBlock)) ∷ []
      → LooksFor old (record old { moved = made; room = room }) before after order runs stepped.Event
  none-looks made room by made_is = record {
    looked = look.NoBlock;
    by = by;
    did = record {
      is = refl;
      adds = adds-by old before after turn turned event.NoBlock (Some reply.NoBlock) made room is (none-appends before after turn turned order looks by.0 by.1) others made_is;
      same = refl;
    };
    others = others-is;
  }

  pub stopped-looks : (met : Units) → IsStopped before order met → LooksFor old old before after order runs stepped.Blocked
  stopped-looks met stopped = record {
    looked = look.Blocked met;
    by = stopped;
    did = record { is = refl; course = refl; memory = (stopped-stays before after turn turned order looks met stopped).0 };
    others = others-is;
  }

  pub flight-looks : (cpu : CpuNo) → LookedBy before after turn order (look.InFlight cpu) → LooksFor old old before after order runs stepped.Blocked
  flight-looks cpu by = record {
    looked = look.InFlight cpu;
    by = by;
    did = record { is = refl; course = refl; memory = (flight-stays before after turn turned order looks cpu.0 by.0 by.1).0 };
    others = others-is;
  }

  module _ (new : Progressed) (block : Option Block) (units : Option Units) (ended : Stepped) (lowest : block ≡ lowest_waiting before.boot before.entries) (guarded : units ≡ waiting_units before.boot before.entries) (done : ended ≡ stepped.Event) where
    made-by : (span : Option Taken) (b : Block) → Wants before order (Some b) → in_the_way before.boot before.entries (block_units before.boot b) ≡ None
        → new ≡ going_on old (claim_made turned block units (runs_with span runs)) span (runs_with span runs) new.room
        → ClaimMade old new before after (lowest_waiting before.boot before.entries) (waiting_units before.boot before.entries) span runs ended
    made-by span b wants way course =
        let event = event.Claim (lowest_waiting before.boot before.entries) (waiting_units before.boot before.entries) (run_of_claim before.boot before.entries (waiting_units before.boot before.entries)) in
        let A : Turn → Type 0 = λ t. Appends before after t turned event in
        let on = λ (x : Option Block) (u : Option Units). going_on old (claim_made turned x u (runs_with span runs)) span (runs_with span runs) new.room in
        record {
          is = done;
          turned = turned;
          appends = subst A is (claim-appends before after turn turned order looks b wants way);
          course = course ∙ ap (λ (x : Option Block). on x units) lowest ∙ ap (on (lowest_waiting before.boot before.entries)) guarded;
        }

    pub cleared-looks : Clears before after order → new ≡ going_on old (claim_made turned block units []) None [] new.room → LooksFor old new before after order runs ended
    cleared-looks clears course = record {
      looked = look.Cleared;
      by = clears;
      did = made-by None clears.block clears.wants clears.free course;
      others = others-is;
    }

    pub claimed-looks : (span : Taken) → ClaimsBlock before after turn.cpu.0 order span → new ≡ going_on old (claim_made turned block units runs) (Some span) runs new.room → LooksFor old new before after order runs ended
    claimed-looks span claims course =
        let C : Turn → Type 0 = λ t. ClaimsBlock before after t.cpu.0 order span in
        record {
          looked = look.Claimed span;
          by = subst C is claims;
          did = made-by (Some span) claims.block claims.wants claims.opens.free course;
          others = others-is;
        }
