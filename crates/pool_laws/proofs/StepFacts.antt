-- The steps of commands: a look in an area, or a step that looks in none.
use Rattle.std.proofs.Common.{◌≡◌, ◌⊎◌, ℕ, ◌+◌, ◌*◌, ◌-◌, ◌/◌, ◌<◌, ◌≤◌, Bool, true, false, not, ◌&&◌, Option, None, Some, List, refl, subst, inl, inr, arith}
use Rattle.std.specs.Prelude.{◌==◌, nat_lt, IfSome, is_some, is_none, length}
use Rattle.std.specs.Option.{option_and_then, option_map}
use Rattle.std.proofs.lemmas.Bool.{cases_lt, eq-eqb, both_ways}
use Rattle.guest_base.specs.declared.limits.TheConstants.{PAGE_BYTES, SLOT_BYTES}
use Rattle.guest_base.specs.declared.memory.Page.{Page}
use Rattle.guest_base.specs.declared.memory.Units.{Units}
use Rattle.guest_base.specs.declared.memory.Block.{Block}
use Rattle.guest_base.specs.declared.memory.PageState.{PageState}
use Rattle.guest_base.specs.declared.memory.PageState.TheVariants.{Pending, Accepted, Shared}
use Rattle.guest_base.specs.declared.transfer.Direction.{Direction}
use Rattle.guest_base.specs.Blocks.{pick}
use Rattle.guest_base.specs.Requests.{offset_of, need_of, request_of, too_long}
use Rattle.event_core.specs.declared.boot.Boot.{Boot}
use Rattle.event_core.specs.declared.command.Command.{Command}
use Rattle.event_core.specs.declared.command.Command.TheVariants as command
use Rattle.event_core.specs.declared.entry.Entry.{Entry}
use Rattle.event_core.specs.declared.event.ConvertEnd.{ConvertEnd as End}
use Rattle.event_core.specs.declared.event.ConvertEnd.TheVariants as end
use Rattle.event_core.specs.declared.event.Event.{Event}
use Rattle.event_core.specs.declared.event.Event.TheVariants as event
use Rattle.event_core.specs.declared.module_call.ModuleCall.{ModuleCall}
use Rattle.event_core.specs.declared.reply.Found.{Found}
use Rattle.event_core.specs.declared.reply.Reply.{Reply}
use Rattle.event_core.specs.declared.reply.Reply.TheVariants as reply
use Rattle.event_core.specs.Acceptance.{stop_of}
use Rattle.event_core.specs.BlockRows.{alloc_event, with_pick, without_free, without_waiting}
use Rattle.event_core.specs.Blocks.{lowest_waiting, in_flight_with, free_page, block_units}
use Rattle.event_core.specs.Bytes.{row_of}
use Rattle.event_core.specs.Calls.{calls_in}
use Rattle.event_core.specs.Claims.{Claimed, claim_of, in_the_way}
use Rattle.event_core.specs.ConvertRows.{convert_end}
use Rattle.event_core.specs.Holdings.{Sharing, PrivateBlock, SharedBlock, HalfBlock, Holding, Own, block_named, mapping_named, block_bytes, asks_in, asks_out}
use Rattle.event_core.specs.Legal.{Follows, at_place}
use Rattle.event_core.specs.MemoryRows.{claim_event, run_of_claim, next_run, cleared_by}
use Rattle.event_core.specs.Moved.{Moved, entries_of, made_by}
use Rattle.event_core.specs.Next.{Step, step_of, unrefused_step, refused_or, replied_by, accept_step, alloc_step, alloc_reply, stopped_reply, claim_reply, report_reply, convert_step, end_reply, load_step, stray_step, look_step, copy_step}
use Rattle.event_core.specs.Own.{own_of, script_of}
use Rattle.event_core.specs.OwnRows.{is_inside, strayed_bytes, page_behind, found_at}
use Rattle.event_core.specs.Refusals.{refuse, refusal_of, map_refusal, unknown_or, unless_private}
use Rattle.event_core.specs.Units.{guarded_units}
use Rattle.event_core.proofs.CommandLemmas.{command-of, step_told}
use Rattle.event_core.proofs.RefusalLemmas.{IsRefusal, AreRefusals, refusal-is}

-- ---- steps that look in no area

-- a reply isn't full
abbrev pub NotFull : Option Reply → Type 0
NotFull (Some reply.Full) = ⊥
NotFull _ = Unit {0}

refusal-other : (r : Reply) → IsRefusal r → NotFull (Some r)
refusal-other reply.Full is = absurd is
refusal-other _ is = tt

abbrev pub NoLook : Event → Type 0
NoLook (event.Looked area run) = ⊥
NoLook _ = Unit {0}

-- a step that looks in no area, and doesn't reply full
pub record IsPlainStep (s : Step) : Type 0 where
  pub event : NoLook s.event
  pub reply : NotFull s.reply

record ArePlain (step : Option Step) : Type 0 where
  each : IfSome step IsPlainStep

none-made : ArePlain None
none-made = record { each = tt }

made : (e : Event) (r : Option Reply) → NoLook e → NotFull r → ArePlain (Some (record { event = e; reply = r }))
made e r is not = record { each = record { event = is; reply = not } }

refused : (refusal : Option Reply) (step : Option Step) → AreRefusals refusal → ArePlain step → ArePlain (refused_or refusal step)
refused None step other is = is
refused (Some r) step other is = made event.Own (Some r) tt (refusal-other r other.each)

claim-other : (run : Option Units) → NotFull (claim_reply run)
claim-other None = tt
claim-other (Some run) = tt

report-other : (stopped : Option Page) (next : Option Units) (cleared : ℕ) → NotFull (report_reply stopped next cleared)
report-other (Some page) next cleared = tt
report-other None None cleared = tt
report-other None (Some next) cleared = tt

stopped-other : (stopped : Option Page) → NotFull (stopped_reply stopped)
stopped-other (Some page) = tt
stopped-other None = tt

alloc-other : (e : Event) → NotFull (alloc_reply e)
alloc-other (event.Got block) = tt
alloc-other event.NoBlock = tt
alloc-other _ = tt

end-other : (e : End) → NotFull (Some (end_reply e))
end-other end.Converted = tt
end-other end.Refused = tt
end-other (end.Half page) = tt

-- an event that may be made, if any
abbrev MayMake : Option Event → Type 0
MayMake e = IfSome e NoLook

mapped : (e : Option Event) (told : Event → Option Reply) → MayMake e → ((e : Event) → NotFull (told e)) → ArePlain (option_map (λ e. let s : Step = record { event = e; reply = told e } in s) e)
mapped None told is not = none-made
mapped (Some e) told is not = made e (told e) is (not e)

claim-made : (boot : Boot) (memory : List Entry) (block : Option Block) (units : Option Units) → MayMake (claim_event boot memory block units)
claim-made boot memory block units = by_way (in_the_way boot memory units) where
  by_way : (way : Option ℕ) → MayMake (elim way as (λ _. Option Event) [ None ↦ Some (event.Claim block units (run_of_claim boot memory units)) | Some _ ↦ None ])
  by_way None = tt
  by_way (Some cpu) = tt

accept-made : (boot : Boot) (memory : List Entry) (claim : Option Claimed) (units : Option Units) (calls : List ModuleCall) → ArePlain (accept_step boot memory claim units calls)
accept-made boot memory None units calls = mapped (claim_event boot memory None units) (λ _. claim_reply (run_of_claim boot memory units)) (claim-made boot memory None units) (λ e. claim-other (run_of_claim boot memory units))
accept-made boot memory (Some claim) units calls = made (event.Report claim.run calls (stop_of calls) (next_run boot claim (stop_of calls))) _ tt (report-other (stop_of calls) (next_run boot claim (stop_of calls)) (cleared_by boot memory claim calls))

pick-made : (boot : Boot) (memory : List Entry) (block : Option Block) → MayMake (with_pick boot memory block)
pick-made boot memory (Some block) = tt
pick-made boot memory None = by_waiting (lowest_waiting boot memory) where
  by_flight : (way : Option ℕ) → MayMake (without_waiting way)
  by_flight None = tt
  by_flight (Some cpu) = tt

  by_waiting : (block : Option Block) → MayMake (without_free boot memory block)
  by_waiting (Some block) = claim-made boot memory (Some block) (block_units boot block)
  by_waiting None = by_flight (in_flight_with boot memory)

alloc-made : (boot : Boot) (memory : List Entry) (claim : Option Claimed) (order : ℕ) (calls : List ModuleCall) → ArePlain (alloc_step boot memory claim order calls)
unfolding alloc_event
alloc-made boot memory None order calls = mapped (alloc_event boot memory order) alloc_reply (pick-made boot memory (pick (free_page boot memory) order)) alloc-other
alloc-made boot memory (Some claim) order calls = made (event.Report claim.run calls (stop_of calls) (next_run boot claim (stop_of calls))) _ tt (stopped-other (stop_of calls))

-- what is made of what is held, if anything is
of-held : {A : Type 0} (held : Option A) (step : A → Option Step) → ((a : A) → ArePlain (step a)) → ArePlain (option_and_then step held)
of-held None step each = none-made
of-held (Some a) step each = each a

stray-made : (boot : Boot) (memory : List Entry) (h : Holding) (off : ℕ) → ArePlain (stray_step boot memory h off)
stray-made boot memory h off = by_found (found_at boot memory (page_behind h.block)) where
  by_found : (found : Option Found)
      → ArePlain (option_map (λ f. let s : Step = record { event = event.Touched (record { 0 = page_behind h.block }) f; reply = Some (reply.Loaded (strayed_bytes h off) (Some f)) } in s) found)
  by_found None = none-made
  by_found (Some f) = made (event.Touched (record { 0 = page_behind h.block }) f) _ tt tt

load-made : (boot : Boot) (memory : List Entry) (h : Holding) (off : ℕ) → ArePlain (load_step boot memory h off)
load-made boot memory h off = by_inside (is_inside h.block off) where
  by_inside : (inside : Bool) → ArePlain (elim inside as (λ _. Option Step) [ true ↦ replied_by event.Own (reply.Loaded (row_of h.bytes off 8) None) | false ↦ stray_step boot memory h off ])
  by_inside true = made event.Own _ tt tt
  by_inside false = stray-made boot memory h off

convert-made : (boot : Boot) (memory : List Entry) (begun : Option Block) (block : Block) (to : PageState) (calls : List ModuleCall) → ArePlain (convert_step boot memory begun block to calls)
convert-made boot memory None block to calls = made (event.ConvertBegin block to) None tt tt
convert-made boot memory (Some begun) block to calls = made (event.ConvertEnd block calls (convert_end boot memory block calls)) _ tt (end-other (convert_end boot memory block calls))

copy-made : (asked : Bool) (e : Event) → NoLook e → ArePlain (copy_step asked e)
copy-made true e is = made e _ is tt
copy-made false e is = made event.Own _ tt tt

abbrev IsNoMap : Command → Type 0
IsNoMap (command.Map mapping name off len direction mask) = ⊥
IsNoMap _ = Unit {0}

unrefused-made : (boot : Boot) (cpu : ℕ) (own : Own) (there : List Moved) (c : Command) (calls : List ModuleCall) → IsNoMap c → ArePlain (unrefused_step boot cpu own there c calls)
unrefused-made boot cpu own there (command.Alloc name order) calls is = alloc-made boot (entries_of there) (claim_of boot (entries_of there) cpu) order calls
unrefused-made boot cpu own there (command.Free name) calls is = of-held (block_named own name) _ (λ h. made (event.Freed h.block) _ tt tt)
unrefused-made boot cpu own there (command.Accept start len) calls is = accept-made boot (entries_of there) (claim_of boot (entries_of there) cpu) (guarded_units boot start len) calls
unrefused-made boot cpu own there (command.Query start len) calls is = made (event.Asked _) _ tt tt
unrefused-made boot cpu own there (command.Read name off len) calls is = of-held (block_named own name) _ (λ h. made event.Own _ tt tt)
unrefused-made boot cpu own there (command.Write name off hex) calls is = made event.Own _ tt tt
unrefused-made boot cpu own there (command.Fill name off len byte) calls is = made event.Own _ tt tt
unrefused-made boot cpu own there (command.Load name off) calls is = of-held (block_named own name) _ (λ h. load-made boot (entries_of there) h off)
unrefused-made boot cpu own there (command.Share name) calls is = of-held (block_named own name) _ (λ h. convert-made boot (entries_of there) own.converting h.block Shared calls)
unrefused-made boot cpu own there (command.Private name) calls is = of-held (block_named own name) _ (λ h. convert-made boot (entries_of there) own.converting h.block Accepted calls)
unrefused-made boot cpu own there (command.Giveback name) calls is = of-held (block_named own name) _ (λ h. convert-made boot (entries_of there) own.converting h.block Pending calls)
unrefused-made boot cpu own there (command.Map mapping name off len direction mask) calls is = absurd is
unrefused-made boot cpu own there (command.SyncDev mapping off len) calls is = of-held (mapping_named own mapping) _ (λ m. copy-made (asks_in m.direction) (event.CopiedIn m.run off len) tt)
unrefused-made boot cpu own there (command.SyncCpu mapping off len) calls is = of-held (mapping_named own mapping) _ (λ m. copy-made (asks_out m.direction) (event.CopiedOut m.run off len) tt)
unrefused-made boot cpu own there (command.Unmap mapping skip) calls is = of-held (mapping_named own mapping) _ (λ m. made (event.Released m.run (asks_out m.direction && not skip)) _ tt tt)
unrefused-made boot cpu own there (command.DRead mapping off len) calls is = of-held (mapping_named own mapping) _ (λ m. made (event.DeviceRead m.run off len) _ tt tt)
unrefused-made boot cpu own there (command.DWrite mapping off hex) calls is = of-held (mapping_named own mapping) _ (λ m. made (event.DeviceWrote m.run off (length hex)) _ tt tt)
unrefused-made boot cpu own there (command.HostRead off len) calls is = made (event.HostRead off len) _ tt tt
unrefused-made boot cpu own there (command.HostWrite off hex) calls is = made (event.HostWrote off (length hex)) _ tt tt

-- ---- looks

-- A step of a mapping that looks in an area: the mapping has a byte.
pub record IsLook (boot : Boot) (cpu : ℕ) (own : Own) (there : List Moved) (c : Command) (s : Step) : Type 0 where
  pub mapping : List ℕ
  pub name : List ℕ
  pub off : ℕ
  pub len : ℕ
  pub direction : Direction
  pub mask : ℕ
  pub is : c ≡ command.Map mapping name off len direction mask
  pub holding : Holding
  pub named : block_named own name ≡ Some holding
  pub some : 0 < len
  pub step : look_step boot (entries_of there) cpu own.looks (request_of (PAGE_BYTES * holding.block.first + off) len mask) ≡ Some s

-- a mapping that isn't refused by its block has a byte
unrefused-map : (sharing : Sharing) (none range long pool : Bool) (step : Option Step) (s : Step)
    → refused_or (unless_private sharing (refuse reply.Zero none (refuse reply.Range range (refuse reply.TooLong long (refuse reply.NoPool pool None))))) step ≡ Some s
    → (IsPlainStep s) ⊎ ((none ≡ false) × (step ≡ Some s))
unrefused-map SharedBlock none range long pool step s is = inl (subst (λ o. ArePlain o) is (made event.Own (Some reply.IsShared) tt tt)).each
unrefused-map HalfBlock none range long pool step s is = inl (subst (λ o. ArePlain o) is (made event.Own (Some reply.Half) tt tt)).each
unrefused-map PrivateBlock true range long pool step s is = inl (subst (λ o. ArePlain o) is (made event.Own (Some reply.Zero) tt tt)).each
unrefused-map PrivateBlock false true long pool step s is = inl (subst (λ o. ArePlain o) is (made event.Own (Some reply.Range) tt tt)).each
unrefused-map PrivateBlock false false true pool step s is = inl (subst (λ o. ArePlain o) is (made event.Own (Some reply.TooLong) tt tt)).each
unrefused-map PrivateBlock false false false true step s is = inl (subst (λ o. ArePlain o) is (made event.Own (Some reply.NoPool) tt tt)).each
unrefused-map PrivateBlock false false false false step s is = inr (refl, is)

some-byte : (len : ℕ) → (len == 0) ≡ false → 0 < len
some-byte len is =
    elim (cases_lt 0 len) [
      | inl some ↦ some
      | inr none ↦ (let zero : len ≡ 0 = omega arith in absurd (both_ways (len == 0) is (eq-eqb len 0 zero)))
    ]

map-made : (boot : Boot) (cpu : ℕ) (own : Own) (there : List Moved) (mapping name : List ℕ) (off len : ℕ) (direction : Direction) (mask : ℕ) (s : Step) (taken : Bool) (held : Option Holding) → block_named own name ≡ held
    → refused_or (refuse reply.Taken taken (unknown_or held (λ h. map_refusal boot h off len mask))) (option_and_then (λ h. look_step boot (entries_of there) cpu own.looks (request_of (PAGE_BYTES * h.block.first + off) len mask)) held) ≡ Some s
    → (IsPlainStep s) ⊎ (IsLook boot cpu own there (command.Map mapping name off len direction mask) s)
map-made boot cpu own there mapping name off len direction mask s true held named is = inl (subst (λ o. ArePlain o) is (made event.Own (Some reply.Taken) tt tt)).each
map-made boot cpu own there mapping name off len direction mask s false None named is = inl (subst (λ o. ArePlain o) is (made event.Own (Some reply.Unknown) tt tt)).each
map-made boot cpu own there mapping name off len direction mask s false (Some h) named is =
    elim (unrefused-map h.sharing (len == 0) (nat_lt (block_bytes h.block) (off + len)) (too_long (PAGE_BYTES * h.block.first + off) len mask) (is_none boot.pool)
    (look_step boot (entries_of there) cpu own.looks (request_of (PAGE_BYTES * h.block.first + off) len mask)) s is) [
      | inl plain ↦ inl plain
      | inr looks ↦
          inr
          (record {
            mapping = mapping;
            name = name;
            off = off;
            len = len;
            direction = direction;
            mask = mask;
            is = refl;
            holding = h;
            named = named;
            some = some-byte len looks.0;
            step = looks.1;
          })
    ]

-- each step of a command is one of these
abbrev pub IsKnown : Boot → ℕ → Own → List Moved → Command → Step → Type 0
IsKnown boot cpu own there c s = (IsPlainStep s) ⊎ (IsLook boot cpu own there c s)

other-made : (boot : Boot) (cpu : ℕ) (own : Own) (there : List Moved) (c : Command) (calls : List ModuleCall) (s : Step) → IsNoMap c → step_of boot cpu own there c calls ≡ Some s → IsKnown boot cpu own there c s
other-made boot cpu own there c calls s unmapped is = inl (subst (λ o. ArePlain o) is (refused (refusal_of boot own c) (unrefused_step boot cpu own there c calls) (refusal-is boot own c) (unrefused-made boot cpu own there c calls unmapped))).each

pub step-known : (boot : Boot) (cpu : ℕ) (own : Own) (there : List Moved) (c : Command) (calls : List ModuleCall) (s : Step) → step_of boot cpu own there c calls ≡ Some s → IsKnown boot cpu own there c s
step-known boot cpu own there (command.Map mapping name off len direction mask) calls s is = map-made boot cpu own there mapping name off len direction mask s (is_some (mapping_named own mapping)) (block_named own name) refl is
step-known boot cpu own there c calls s is = other-made boot cpu own there c calls s tt is

-- ---- the request of a look

pub need-some : (addr len mask : ℕ) → 0 < len → 0 < need_of addr len mask
need-some addr len mask some = need-of-some (offset_of addr mask) len some where
  need-of-some : (offset len : ℕ) → 0 < len → 0 < (offset + len + SLOT_BYTES - 1) / SLOT_BYTES
  need-of-some offset len some = omega arith

pub need-holds : (addr len mask : ℕ) → offset_of addr mask + len ≤ SLOT_BYTES * need_of addr len mask
need-holds addr len mask = need-of-holds (offset_of addr mask + len) where
  need-of-holds : (bytes : ℕ) → bytes ≤ SLOT_BYTES * ((bytes + SLOT_BYTES - 1) / SLOT_BYTES)
  need-of-holds bytes = omega arith

-- ---- the command of an entry

-- what a processor has after a history
abbrev pub own_after : List (List Command) → List Moved → ℕ → Own
own_after scripts history cpu = own_of (script_of scripts cpu) (made_by cpu history)

-- the step of an entry's command is one of these
pub known-of : (boot : Boot) (scripts : List (List Command)) (history : List Moved) (entry : Entry) (f : Follows boot scripts history entry)
    → IsKnown boot entry.cpu.0 (own_after scripts history entry.cpu.0) (at_place entry.place history) (command-of boot scripts history entry f).command (step_told entry)
known-of boot scripts history entry f =
    let c = command-of boot scripts history entry f in
    step-known boot entry.cpu.0 (own_after scripts history entry.cpu.0) (at_place entry.place history) c.command (calls_in entry.event) (step_told entry) c.step
