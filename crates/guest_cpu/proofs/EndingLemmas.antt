use Rattle.std.proofs.Common.{◌≡◌, ℕ, ◌+◌, ◌*◌, ◌≤◌, Bool, true, false, List, [], ◌++◌, Option, None, Some, Ok, take, refl, sym, ◌∙◌, ap, subst}
use Rattle.std.specs.Prelude.{length, ◌&&◌}
use Rattle.std.specs.Option.{ForSome, IsSomeAnd, option_and_then, option_map_or}
use Rattle.std.proofs.Math.Seq.{take-append_seam}
use Rattle.guest_base.specs.declared.limits.TheConstants.{PAGE_BYTES}
use Rattle.guest_base.specs.declared.transfer.Direction.{Direction}
use Rattle.guest_base.specs.declared.transfer.Request.{Request}
use Rattle.guest_base.specs.declared.transfer.SlotRun.{SlotRun}
use Rattle.guest_base.specs.Requests.{request_of}
use Rattle.event_core.specs.declared.boot.Boot.{Boot}
use Rattle.event_core.specs.declared.command.Command.TheVariants as command
use Rattle.event_core.specs.declared.entry.Turn.{Turn}
use Rattle.event_core.specs.declared.event.Event.TheVariants as event
use Rattle.event_core.specs.declared.reply.Reply.{Reply}
use Rattle.event_core.specs.declared.reply.Reply.TheVariants as reply
use Rattle.event_core.specs.AreaRows.{look_reply}
use Rattle.event_core.specs.Bytes.{row_of}
use Rattle.event_core.specs.Holdings.{Holding, Mapping, Own, asks_out, block_bytes, block_named, mapping_named}
use Rattle.event_core.specs.Moved.{Moved, entries_of}
use Rattle.event_core.specs.Next.{Step, copy_step, look_step, replied_by}
use Rattle.event_core.specs.Own.{after_map, copied_out, without_mapping}
use Rattle.event_core.specs.Pool.{pool_place, run_found}
use Rattle.event_core.specs.PoolBytes.{buffer_bytes, pool_byte}
use Rattle.dma_map.specs.Pools.{HasPool}
use Rattle.dma_map.specs.declared.kept.Live.{Live}
use Rattle.io_areas.specs.Value.{AreaValue, Appends, HasSizeOf, moved_by_look}
use Rattle.pool_laws.proofs.LiveLemmas.{found-free}
use Rattle.held_blocks.specs.Held.{EndsWithin}
use Rattle.held_blocks.specs.Holdings.{HoldingsValue, Leaves, LeavesAll, MayMap, own_in as own_held}
use Rattle.held_blocks.proofs.UnrefusedLemmas.{unrefused-map}
use Rattle.guest_steps.specs.Steps.{AreaRoomAlone}
use Rattle.guest_steps.specs.declared.processor.Need.TheVariants as need
use Rattle.guest_cpu.specs.declared.access.Access.{Access}
use Rattle.guest_cpu.specs.Accessing.{AccessedBy, MayAccessWith, moved_for}
use Rattle.guest_cpu.proofs.AccessLemmas.{IsHere, access-made, row-still, size-still}

-- A command that copies bytes out of a mapping or ends it, and a look for a mapping's slots.

-- ---- what a processor has behind room that was taken

own-over : (held between now : HoldingsValue) (after : Own → Own) → LeavesAll held between → Leaves between now (after (own_held between)) → own_held now ≡ after (own_held held)
own-over held between now after all left = left.own ∙ ap after all.own

-- a buffer that was filled whole
pub all-filled : (n : ℕ) (new rest : List ℕ) → length new ≡ n → take n (new ++ rest) ≡ new
all-filled n new rest long = ap (λ (k : ℕ). take k (new ++ rest)) (sym long) ∙ take-append_seam new rest

-- ---- steps that copy bytes out of a mapping

-- what the area gives out, for each boot whose areas have its slots
abbrev pub GivesOut : AreaValue → SlotRun → ℕ → ℕ → List ℕ → Type 0
GivesOut area run off len out = (boot : Boot) → HasSizeOf boot area → out ≡ row_of (pool_byte boot area.moved) (pool_place boot run off) len

module _ (held between now : HoldingsValue) (area reserved after : AreaValue) (turn turned : Turn) (mapping : List ℕ) (l : Live)
    (all : LeavesAll held between) (alone : AreaRoomAlone area reserved) (h : IsHere (own_held held) area turn.cpu.0 mapping l) where
  -- a copy that was asked for
  pub copied-made : (off len n : ℕ) (out : List ℕ) (a : Access) → a ≡ record { event = event.CopiedOut l.run off len; reply = Some reply.Done; bytes = out } → asks_out h.m.direction ≡ true → n ≡ len → GivesOut reserved l.run off n out
      → Appends reserved after turn turned (event.CopiedOut l.run off n) out → Leaves between now (copied_out mapping off out (own_held between))
      → AccessedBy held now area after turn turned (command.SyncCpu mapping off len) (Ok a)
  copied-made off len n out a is asks long gives appends left =
      let does : Option Mapping → Option Step = λ o. option_and_then (λ (m : Mapping). copy_step (asks_out m.direction) (event.CopiedOut m.run off len)) o in
      let asked : Bool → Option Step = λ b. copy_step b (event.CopiedOut h.m.run off len) in
      let copy : Live → Option Step = λ x. replied_by (event.CopiedOut x.run off len) reply.Done in
      let E : ℕ → Type 0 = λ k. Appends reserved after turn turned (event.CopiedOut l.run off k) out in
      access-made held now area reserved after turn turned (command.SyncCpu mapping off len) (event.CopiedOut l.run off len) (Some reply.Done) out a is
      (left.layout ∙ all.layout) alone (subst E long appends)
      (λ boot pool may. record {
        step = ap does h.named ∙ ap asked asks ∙ ap copy h.live;
        moves = row-still boot area reserved (pool_place boot l.run off) len n out alone may.size long (gives boot);
        holds = own-over held between now (copied_out mapping off out) all left;
      })

  -- a mapping that ends with its bytes
  pub released-into-made : (copied : HoldingsValue) (out : List ℕ) (a : Access) → a ≡ record { event = event.Released l.run true; reply = Some reply.Done; bytes = out }
      → ForSome (mapping_named (own_held held) mapping) (λ (m : Mapping). asks_out m.direction ≡ true) → GivesOut reserved l.run 0 l.run.len out
      → Appends reserved after turn turned (event.Released l.run true) out → Leaves between copied (copied_out mapping 0 out (own_held between)) → Leaves copied now (without_mapping mapping (own_held copied))
      → AccessedBy held now area after turn turned (command.Unmap mapping false) (Ok a)
  released-into-made copied out a is asks gives appends first left =
      let does : Option Mapping → Option Step = λ o. option_and_then (λ (m : Mapping). replied_by (event.Released m.run (asks_out m.direction && true)) reply.Done) o in
      let asked : Bool → Option Step = λ b. replied_by (event.Released h.m.run (b && true)) reply.Done in
      let ends : Live → Option Step = λ x. replied_by (event.Released x.run true) reply.Done in
      access-made held now area reserved after turn turned (command.Unmap mapping false) (event.Released l.run true) (Some reply.Done) out a is (left.layout ∙ first.layout ∙ all.layout) alone appends
      (λ boot pool may. record {
        step = ap does h.named ∙ ap asked (asks h.m h.named) ∙ ap ends h.live;
        moves = row-still boot area reserved (pool_place boot l.run 0) l.run.len l.run.len out alone may.size refl (gives boot);
        holds = left.own ∙ ap (without_mapping mapping) (own-over held between copied (copied_out mapping 0 out) all first);
      })

-- ---- a look

some-held : {A : Type 0} (P : A → Type 0) (o : Option A) → IsSomeAnd o P → (x : A) × (o ≡ Some x) × P x
some-held P None is = absurd is
some-held P (Some x) is = (x, refl, is)

same-area : (a b : ℕ) → need.Area a ≡ need.Area b → a ≡ b
same-area a b is = cc

-- what a look goes by
pub record LooksBy (held : HoldingsValue) (area : AreaValue) (name : List ℕ) (off len mask : ℕ) : Type 0 where
  pub may : MayMap (own_held held) name off len mask
  pub h : Holding
  pub named : block_named (own_held held) name ≡ Some h
  pub boot : Boot
  pub size : HasSizeOf boot area

pub looks-by : (held : HoldingsValue) (area : AreaValue) (turn : Turn) (mapping name : List ℕ) (off len : ℕ) (direction : Direction) (mask : ℕ) → MayAccessWith held area turn (command.Map mapping name off len direction mask)
    → LooksBy held area name off len mask
looks-by held area turn mapping name off len direction mask (boot, pool, laid, few, access) =
    let fine = unrefused-map boot (own_held held) mapping name off len direction mask access.fine in
    let block = some-held (λ (h : Holding). off + len ≤ block_bytes h.block) (block_named (own_held held) name) fine.may.within in
    record { may = fine.may; h = block.0; named = block.1; boot = boot; size = access.size }

-- slots that a look finds hold the bytes that were asked for
pub found-within : (own : Own) (area : AreaValue) (boot : Boot) (name : List ℕ) (off : ℕ) (request : Request) (run : Option SlotRun) → EndsWithin own name off request.len
    → run ≡ run_found boot (entries_of area.moved) area.number request → ForSome run (λ (r : SlotRun). EndsWithin own name off r.len)
found-within own area boot name off request run ends is r found =
    let len = (found-free boot (entries_of area.moved) area.number request r (sym is ∙ found)).len in
    subst (λ (n : ℕ). EndsWithin own name off n) (sym len) ends

-- the bytes that a look moves are the block's
looked-bytes : (boot : Boot) (own : Own) (there : List Moved) (mapping name : List ℕ) (off len : ℕ) (direction : Direction) (mask n : ℕ) (run : Option SlotRun) (bytes : List ℕ)
    → bytes ≡ buffer_bytes own name off len → moved_by_look run bytes ≡ moved_for boot own there (command.Map mapping name off len direction mask) (event.Looked n run)
looked-bytes boot own there mapping name off len direction mask n None bytes is = refl
looked-bytes boot own there mapping name off len direction mask n (Some run) bytes is = is

pub looked-made : (held between now : HoldingsValue) (area reserved after : AreaValue) (turn turned : Turn) (mapping name : List ℕ) (off len : ℕ) (direction : Direction) (mask : ℕ)
    (request : Request) (run : Option SlotRun) (reply : Option Reply) (bytes : List ℕ) (a : Access) → a ≡ record { event = event.Looked area.number run; reply = reply; bytes = moved_by_look run bytes }
    → LooksBy held area name off len mask → LeavesAll held between → AreaRoomAlone area reserved
    → ForSome (block_named (own_held held) name) (λ (h : Holding). request ≡ request_of (PAGE_BYTES * h.block.first + off) len mask)
    → ForSome (block_named (own_held held) name) (λ (h : Holding). bytes ≡ row_of h.bytes off len)
    → ((boot : Boot) → HasSizeOf boot reserved → run ≡ run_found boot (entries_of reserved.moved) reserved.number request)
    → Appends reserved after turn turned (event.Looked reserved.number run) (moved_by_look run bytes)
    → ((boot : Boot) → HasPool boot between.layout → reply ≡ look_reply boot between.looks run)
    → Leaves between now (after_map mapping name off direction (event.Looked area.number run) (own_held between))
    → AccessedBy held now area after turn turned (command.Map mapping name off len direction mask) (Ok a)
looked-made held between now area reserved after turn turned mapping name off len direction mask request run reply bytes a is by all alone asks read found appends replies left =
    let E : ℕ → Type 0 = λ n. Appends reserved after turn turned (event.Looked n run) (moved_by_look run bytes) in
    let looks : between.looks ≡ held.looks = ap (λ (o : Own). o.looks) all.own in
    let there = entries_of area.moved in
    let row : Option Holding → List ℕ = λ o. option_map_or (λ (h : Holding). row_of h.bytes off len) o [] in
    let same : bytes ≡ buffer_bytes (own_held held) name off len = read by.h by.named ∙ sym (ap row by.named) in
    access-made held now area reserved after turn turned (command.Map mapping name off len direction mask) (event.Looked area.number run) reply (moved_by_look run bytes) a is
    (left.layout ∙ all.layout) alone (subst E alone.number appends)
    (λ boot pool may.
    let does : Option Holding → Option Step = λ o. option_and_then (λ (h : Holding). look_step boot there turn.cpu.0 held.looks (request_of (PAGE_BYTES * h.block.first + off) len mask)) o in
    let behind : run ≡ run_found boot there area.number request =
    found boot (size-still boot area reserved alone may.size) ∙ ap (λ (ms : List Moved). run_found boot (entries_of ms) reserved.number request) alone.moved ∙ ap (λ (n : ℕ). run_found boot there n request) alone.number in
    let answer : reply ≡ look_reply boot held.looks run = replies boot (subst (HasPool boot) (sym all.layout) pool) ∙ ap (λ (n : ℕ). look_reply boot n run) looks in
    let in_area : ℕ → Option Step = λ n. Some (record { event = event.Looked n (run_found boot there n request); reply = look_reply boot held.looks (run_found boot there n request) }) in
    let by_run : Option SlotRun → Option Step = λ r. Some (record { event = event.Looked area.number r; reply = look_reply boot held.looks r }) in
    let by_reply : Option Reply → Option Step = λ x. Some (record { event = event.Looked area.number run; reply = x }) in
    record {
      step = ap does by.named ∙ ap (λ (r : Request). look_step boot there turn.cpu.0 held.looks r) (sym (asks by.h by.named)) ∙ ap in_area (same-area _ _ may.need) ∙ ap by_run (sym behind) ∙ ap by_reply (sym answer);
      moves = looked-bytes boot (own_held held) area.moved mapping name off len direction mask area.number run bytes same;
      holds = own-over held between now (after_map mapping name off direction (event.Looked area.number run)) all left;
    })
