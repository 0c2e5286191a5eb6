-- Commands that convert nothing touch pages of blocks that the processor has, or that it gets.
use Rattle.std.proofs.Common.{◌≡◌, ℕ, ◌+◌, ◌-◌, ◌*◌, ◌/◌, ◌^◌, ◌<◌, ◌≤◌, min, Bool, true, false, not, ◌&&◌, Option, None, Some, List, [], ◌∷◌, length, refl, ap, subst, inl, inr, arith, nat_le, ◌==◌}
use Rattle.std.specs.Prelude.{bytes_eq}
use Rattle.std.specs.Option.{option_and_then, option_map, option_map_or}
use Rattle.std.proofs.lemmas.Bool.Decides.{nat_tests}
use Rattle.guest_base.specs.Ranges.{in_range}
use Rattle.guest_base.proofs.RangeLemmas.{in_range-intro, in_range-elim}
use Rattle.guest_base.specs.declared.memory.Block.{Block}
use Rattle.guest_base.specs.declared.memory.Pages.{Pages}
use Rattle.guest_base.specs.declared.memory.PageState.TheVariants.{Accepted}
use Rattle.guest_base.specs.declared.transfer.Direction.{Direction}
use Rattle.event_core.specs.declared.boot.Boot.{Boot}
use Rattle.event_core.specs.declared.command.Command.{Command}
use Rattle.event_core.specs.declared.command.Command.TheVariants as command
use Rattle.event_core.specs.declared.event.Event.{Event}
use Rattle.event_core.specs.declared.event.Event.TheVariants as event
use Rattle.event_core.specs.declared.module_call.ModuleCall.{ModuleCall}
use Rattle.event_core.specs.declared.reply.Reply.{Reply}
use Rattle.event_core.specs.declared.reply.Reply.TheVariants as reply
use Rattle.event_core.specs.Absent.{in_block}
use Rattle.event_core.specs.Holdings.{Holding, Mapping, Own, block_named, mapping_named, same_block, block_bytes, asks_out}
use Rattle.event_core.specs.MemoryRows.{page_state}
use Rattle.event_core.specs.Moved.{Moved}
use Rattle.event_core.specs.Next.{Step, step_of, unrefused_step, refused_or, replied_by}
use Rattle.event_core.specs.Refusals.{refuse, unknown_or, unless_private, past_end, map_refusal, refusal_of}
use Rattle.event_core.specs.Touches.{pages_of_bytes, in_named, in_loaded, in_mapped, by_command, unless_refused, touched_by}
use Rattle.event_core.specs.Untouched.{among}
use Rattle.event_core.proofs.EarlyLemmas.{or-cases}
use Rattle.event_core.proofs.RefusalLemmas.{refuse-none, private-none, within-end, map-within}
use Rattle.block_laws.specs.Mapped.{IsOfHeldBlock, MappedAreHeld}
use Rattle.block_laws.specs.Unconverting.{ConvertsNothing}
use Rattle.block_laws.specs.Guarded.{IsGuarded}
use Rattle.block_laws.proofs.ListFacts.{found-one}
use Rattle.block_laws.proofs.HeldFacts.{AreGuarded}
use Rattle.block_laws.proofs.StandFacts.{same-block}

-- ---- pages

-- a page of bytes of a block is the block's
page-of-bytes : (block : Block) (off len page : ℕ) → off + len ≤ block_bytes block → (let pages = pages_of_bytes block off len in in_range pages.first pages.count page ≡ true) → in_block page block ≡ true
page-of-bytes block off len page within h =
    let start : ℕ = 4096 * block.first + off in
    let two = in_range-elim (start / 4096) ((start + len + 4095) / 4096 - start / 4096) page h in
    let low = two.0 in
    let high = two.1 in
    let first : block.first ≤ page = omega (arith, low) in
    let last : page < block.first + 2 ^ block.order = omega (arith, high, low, within) in
    in_range-intro block.first (2 ^ block.order) page first last

one-among : (pages : Pages) (page : ℕ) → among (pages ∷ []) page → in_range pages.first pages.count page ≡ true
one-among pages page h = elim (or-cases (in_range pages.first pages.count page) false h) [ inl here ↦ here | inr bad ↦ cc ]

-- ---- blocks that the processor has

block-page : (boot : Boot) (calls : List ModuleCall) (block : Block) (off len page : ℕ) → IsGuarded boot calls block → off + len ≤ block_bytes block → among (pages_of_bytes block off len ∷ []) page → page_state boot calls page ≡ Some Accepted
block-page boot calls block off len page is within inside = is.pages page (page-of-bytes block off len page within (one-among (pages_of_bytes block off len) page inside))

named-guarded : (boot : Boot) (calls : List ModuleCall) (own : Own) (name : List ℕ) (h : Holding) → AreGuarded boot calls own → block_named own name ≡ Some h → IsGuarded boot calls h.block
named-guarded boot calls own name h are is = (found-one (λ (g : Holding). IsGuarded boot calls g.block) (λ (g : Holding). bytes_eq g.name name) own.blocks h are is).0

-- the bytes of a command in a named block
named-touch : (boot : Boot) (calls : List ModuleCall) (own : Own) (name : List ℕ) (off len page : ℕ) (refusal : Holding → Option Reply) → AreGuarded boot calls own → ((h : Holding) → refusal h ≡ None → off + len ≤ block_bytes h.block) → unknown_or (block_named own name) refusal ≡ None → among (in_named own name off len) page → page_state boot calls page ≡ Some Accepted
named-touch boot calls own name off len page refusal are fits none h = by_held (block_named own name) refl none h where
  by_held : (held : Option Holding) → block_named own name ≡ held → unknown_or held refusal ≡ None → among (option_map_or (λ (g : Holding). pages_of_bytes g.block off len ∷ []) held []) page → page_state boot calls page ≡ Some Accepted
  by_held None is none h = cc
  by_held (Some g) is none h = block-page boot calls g.block off len page (named-guarded boot calls own name g are is) (fits g none) h

loaded-touch : (boot : Boot) (calls : List ModuleCall) (own : Own) (name : List ℕ) (off page : ℕ) → AreGuarded boot calls own → refusal_of boot own (command.Load name off) ≡ None → among (in_loaded own name off) page → page_state boot calls page ≡ Some Accepted
loaded-touch boot calls own name off page are none h = by_held (block_named own name) refl none h where
  by_held : (held : Option Holding) → block_named own name ≡ held → unknown_or held (λ (g : Holding). unless_private g.sharing (refuse reply.Range (nat_le (block_bytes g.block) off) None)) ≡ None
      → among (option_map_or (λ (g : Holding). pages_of_bytes g.block off (min 8 (block_bytes g.block - off)) ∷ []) held []) page → page_state boot calls page ≡ Some Accepted
  by_held None is none h = cc
  by_held (Some g) is none h =
      let out = (refuse-none reply.Range (nat_le (block_bytes g.block) off) None (private-none g.sharing _ none)).0 in
      let low : off < block_bytes g.block = grind (arith, nat_tests, out) in
      let within : off + min 8 (block_bytes g.block - off) ≤ block_bytes g.block = grind (arith, low) in
      block-page boot calls g.block off (min 8 (block_bytes g.block - off)) page (named-guarded boot calls own name g are is) within h

-- ---- blocks of live mappings

mapped-guarded : (boot : Boot) (calls : List ModuleCall) (own : Own) (mapping : List ℕ) (m : Mapping) → AreGuarded boot calls own → MappedAreHeld own → mapping_named own mapping ≡ Some m → IsGuarded boot calls m.block × (m.off + m.run.len ≤ block_bytes m.block)
mapped-guarded boot calls own mapping m are mapped is =
    let held = (found-one (IsOfHeldBlock own) (λ (n : Mapping). bytes_eq n.name mapping) own.mappings m mapped is).0 in
    let found = found-one (λ (g : Holding). IsGuarded boot calls g.block) (λ (g : Holding). same_block g.block m.block) own.blocks held.holding are held.held in
    (subst (IsGuarded boot calls) (same-block held.holding.block m.block found.1) found.0, held.within)

-- bytes of a mapping lie in its block
mapping-page : (boot : Boot) (calls : List ModuleCall) (own : Own) (mapping : List ℕ) (m : Mapping) (off len page : ℕ) → AreGuarded boot calls own → MappedAreHeld own → mapping_named own mapping ≡ Some m → off + len ≤ m.run.len → among (pages_of_bytes m.block (m.off + off) len ∷ []) page → page_state boot calls page ≡ Some Accepted
mapping-page boot calls own mapping m off len page are mapped is within h =
    let guarded = mapped-guarded boot calls own mapping m are mapped is in
    let inside = guarded.1 in
    block-page boot calls m.block (m.off + off) len page guarded.0 (omega (arith, inside, within)) h

mapped-touch : (boot : Boot) (calls : List ModuleCall) (own : Own) (mapping : List ℕ) (off len page : ℕ) → AreGuarded boot calls own → MappedAreHeld own
    → unknown_or (mapping_named own mapping) (λ (m : Mapping). refuse reply.Zero (len == 0) (past_end m.run.len off len)) ≡ None → among (in_mapped own mapping off len) page → page_state boot calls page ≡ Some Accepted
mapped-touch boot calls own mapping off len page are mapped none h = by_held (mapping_named own mapping) refl none h where
  by_held : (held : Option Mapping) → mapping_named own mapping ≡ held → unknown_or held (λ (m : Mapping). refuse reply.Zero (len == 0) (past_end m.run.len off len)) ≡ None
      → among (option_map_or (λ (m : Mapping). pages_of_bytes m.block (m.off + off) len ∷ []) held []) page → page_state boot calls page ≡ Some Accepted
  by_held None is none h = cc
  by_held (Some m) is none h =
      mapping-page boot calls own mapping m off len page are mapped is (within-end m.run.len off len (refuse-none reply.Zero (len == 0) (past_end m.run.len off len) none).1) h

-- a released mapping was copied out of the pool, if at all
unmap-touch : (boot : Boot) (calls : List ModuleCall) (own : Own) (mapping : List ℕ) (skip : Bool) (s : Step) (page : ℕ) → AreGuarded boot calls own → MappedAreHeld own
    → option_and_then (λ (m : Mapping). replied_by (event.Released m.run (asks_out m.direction && not skip)) reply.Done) (mapping_named own mapping) ≡ Some s → among (by_command own (command.Unmap mapping skip) s.event) page → page_state boot calls page ≡ Some Accepted
unmap-touch boot calls own mapping skip s page are mapped made h = by_held (mapping_named own mapping) refl made where
  by_copied : (m : Mapping) (copied : Bool) → mapping_named own mapping ≡ Some m → among (by_command own (command.Unmap mapping skip) (event.Released m.run copied)) page → page_state boot calls page ≡ Some Accepted
  by_copied m false is h = cc
  by_copied m true is h =
      let less : 0 + m.run.len ≤ m.run.len = omega arith in
      mapping-page boot calls own mapping m 0 m.run.len page are mapped is less
      (subst (λ (o : Option Mapping). among (option_map_or (λ (n : Mapping). pages_of_bytes n.block (n.off + 0) m.run.len ∷ []) o []) page) is h)

  by_held : (held : Option Mapping) → mapping_named own mapping ≡ held → option_and_then (λ (m : Mapping). replied_by (event.Released m.run (asks_out m.direction && not skip)) reply.Done) held ≡ Some s → page_state boot calls page ≡ Some Accepted
  by_held None is made = cc
  by_held (Some m) is made =
      let said : Some (event.Released m.run (asks_out m.direction && not skip)) ≡ Some s.event = ap (option_map (λ (t : Step). t.event)) made in
      let same : s.event ≡ event.Released m.run (asks_out m.direction && not skip) = cc in
      by_copied m (asks_out m.direction && not skip) is (subst (λ e. among (by_command own (command.Unmap mapping skip) e) page) same h)

-- ---- the commands

read-fits : (off len : ℕ) (h : Holding) → unless_private h.sharing (refuse reply.Zero (len == 0) (past_end (block_bytes h.block) off len)) ≡ None → off + len ≤ block_bytes h.block
read-fits off len h none = within-end (block_bytes h.block) off len (refuse-none reply.Zero (len == 0) (past_end (block_bytes h.block) off len) (private-none h.sharing _ none)).1

write-fits : (off len : ℕ) (h : Holding) → unless_private h.sharing (past_end (block_bytes h.block) off len) ≡ None → off + len ≤ block_bytes h.block
write-fits off len h none = within-end (block_bytes h.block) off len (private-none h.sharing _ none)

got-touch : (boot : Boot) (calls : List ModuleCall) (own : Own) (name : List ℕ) (order : ℕ) (e : Event) (page : ℕ) → ((block : Block) → e ≡ event.Got block → IsGuarded boot calls block) → among (by_command own (command.Alloc name order) e) page → page_state boot calls page ≡ Some Accepted
got-touch boot calls own name order (event.Got block) page got h = (got block refl).pages page (one-among (record { first = block.first; count = 2 ^ block.order }) page h)
got-touch boot calls own name order _ page got h = cc

map-touch : (boot : Boot) (calls : List ModuleCall) (own : Own) (mapping name : List ℕ) (off len mask : ℕ) (direction : Direction) (e : Event) (page : ℕ) → AreGuarded boot calls own → refusal_of boot own (command.Map mapping name off len direction mask) ≡ None → among (by_command own (command.Map mapping name off len direction mask) e) page → page_state boot calls page ≡ Some Accepted
map-touch boot calls own mapping name off len mask direction (event.Looked area (Some run)) page are none h =
    named-touch boot calls own name off len page (λ g. map_refusal boot g off len mask) are (λ g free. map-within boot g off len mask free) (refuse-none reply.Taken _ _ none).1 h
map-touch boot calls own mapping name off len mask direction _ page are none h = cc

sync-dev-touch : (boot : Boot) (calls : List ModuleCall) (own : Own) (mapping : List ℕ) (off len : ℕ) (e : Event) (page : ℕ) → AreGuarded boot calls own → MappedAreHeld own → refusal_of boot own (command.SyncDev mapping off len) ≡ None → among (by_command own (command.SyncDev mapping off len) e) page → page_state boot calls page ≡ Some Accepted
sync-dev-touch boot calls own mapping off len (event.CopiedIn run at count) page are mapped none h = mapped-touch boot calls own mapping off len page are mapped none h
sync-dev-touch boot calls own mapping off len _ page are mapped none h = cc

sync-cpu-touch : (boot : Boot) (calls : List ModuleCall) (own : Own) (mapping : List ℕ) (off len : ℕ) (e : Event) (page : ℕ) → AreGuarded boot calls own → MappedAreHeld own → refusal_of boot own (command.SyncCpu mapping off len) ≡ None → among (by_command own (command.SyncCpu mapping off len) e) page → page_state boot calls page ≡ Some Accepted
sync-cpu-touch boot calls own mapping off len (event.CopiedOut run at count) page are mapped none h = mapped-touch boot calls own mapping off len page are mapped none h
sync-cpu-touch boot calls own mapping off len _ page are mapped none h = cc

-- what a step's command touches, where it isn't refused
module _ (boot : Boot) (calls : List ModuleCall) (cpu : ℕ) (own : Own) (there : List Moved) (made : List ModuleCall) (s : Step) (page : ℕ) (are : AreGuarded boot calls own) (mapped : MappedAreHeld own) (got : (block : Block) → s.event ≡ event.Got block → IsGuarded boot calls block) where
  command-touch : (c : Command) → ConvertsNothing c → refusal_of boot own c ≡ None → unrefused_step boot cpu own there c made ≡ Some s → among (by_command own c s.event) page → page_state boot calls page ≡ Some Accepted
  command-touch (command.Alloc name order) is none step h = got-touch boot calls own name order s.event page got h
  command-touch (command.Read name off len) is none step h = named-touch boot calls own name off len page _ are (read-fits off len) none h
  command-touch (command.Write name off hex) is none step h = named-touch boot calls own name off (length hex) page _ are (write-fits off (length hex)) none h
  command-touch (command.Fill name off len byte) is none step h = named-touch boot calls own name off len page _ are (read-fits off len) none h
  command-touch (command.Load name off) is none step h = loaded-touch boot calls own name off page are none h
  command-touch (command.Share name) is none step h = absurd is
  command-touch (command.Private name) is none step h = absurd is
  command-touch (command.Giveback name) is none step h = absurd is
  command-touch (command.Map mapping name off len direction mask) is none step h = map-touch boot calls own mapping name off len mask direction s.event page are none h
  command-touch (command.SyncDev mapping off len) is none step h = sync-dev-touch boot calls own mapping off len s.event page are mapped none h
  command-touch (command.SyncCpu mapping off len) is none step h = sync-cpu-touch boot calls own mapping off len s.event page are mapped none h
  command-touch (command.Unmap mapping skip) is none step h = unmap-touch boot calls own mapping skip s page are mapped step h
  command-touch _ is none step h = cc

  refused-touch : (c : Command) (refusal : Option Reply) → refusal_of boot own c ≡ refusal → ConvertsNothing c → refused_or refusal (unrefused_step boot cpu own there c made) ≡ Some s → among (unless_refused refusal (by_command own c s.event)) page → page_state boot calls page ≡ Some Accepted
  refused-touch c None refused is step h = command-touch c is refused step h
  refused-touch c (Some r) refused is step h = cc

-- each page that such a command's event touches is accepted
pub touch-accepted : (boot : Boot) (calls : List ModuleCall) (cpu : ℕ) (own : Own) (there : List Moved) (c : Command) (made : List ModuleCall) (s : Step) (page : ℕ) → ConvertsNothing c → AreGuarded boot calls own → MappedAreHeld own → ((block : Block) → s.event ≡ event.Got block → IsGuarded boot calls block)
    → step_of boot cpu own there c made ≡ Some s → among (touched_by boot own (Some c) s.event) page → page_state boot calls page ≡ Some Accepted
touch-accepted boot calls cpu own there c made s page is are mapped got step h =
    refused-touch boot calls cpu own there made s page are mapped got c (refusal_of boot own c) refl is step h
