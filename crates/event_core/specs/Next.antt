use Rattle.std.specs.Prelude.{ℕ, List, Option, None, Some, Bool, true, false, not, ◌&&◌, ◌+◌, ◌*◌, length, if◌then◌else◌}
use Rattle.std.specs.Option.{option_and_then, option_map}
use Rattle.guest_base.specs.declared.limits.TheConstants.{PAGE_BYTES}
use Rattle.guest_base.specs.Requests.{request_of}
use Rattle.guest_base.specs.declared.memory.Page.{Page}
use Rattle.guest_base.specs.declared.memory.Units.{Units}
use Rattle.guest_base.specs.declared.memory.Block.{Block}
use Rattle.guest_base.specs.declared.memory.PageState.{PageState}
use Rattle.guest_base.specs.declared.memory.PageState.TheVariants.{Pending, Accepted, Shared}
use Rattle.guest_base.specs.declared.transfer.Request.{Request}
use Rattle.event_core.specs.declared.boot.Boot.{Boot}
use Rattle.event_core.specs.declared.module_call.ModuleCall.{ModuleCall}
use Rattle.event_core.specs.declared.command.Command.{Command}
use Rattle.event_core.specs.declared.command.Command.TheVariants as command
use Rattle.event_core.specs.declared.reply.Reply.{Reply}
use Rattle.event_core.specs.declared.reply.Reply.TheVariants as reply
use Rattle.event_core.specs.declared.event.ConvertEnd.{ConvertEnd as End}
use Rattle.event_core.specs.declared.event.ConvertEnd.TheVariants.{Converted, Refused, Half}
use Rattle.event_core.specs.declared.event.Event.{Event}
use Rattle.event_core.specs.declared.event.Event.TheVariants as event
use Rattle.event_core.specs.declared.entry.Entry.{Entry}
use Rattle.event_core.specs.Units.{guarded_units}
use Rattle.event_core.specs.Acceptance.{stop_of}
use Rattle.event_core.specs.Claims.{Claimed, claim_of}
use Rattle.event_core.specs.Moved.{Moved, entries_of}
use Rattle.event_core.specs.Bytes.{row_of}
use Rattle.event_core.specs.Holdings.{Holding, Own, block_named, mapping_named, asks_in, asks_out}
use Rattle.event_core.specs.Own.{present, own_of, script_of}
use Rattle.event_core.specs.Refusals.{refusal_of}
use Rattle.event_core.specs.Pool.{run_found}
use Rattle.event_core.specs.PoolBytes.{taken_bytes}
use Rattle.event_core.specs.MemoryRows.{claim_event, run_of_claim, report_event, next_run, cleared_by, some_unaccepted}
use Rattle.event_core.specs.BlockRows.{alloc_event}
use Rattle.event_core.specs.ConvertRows.{convert_end}
use Rattle.event_core.specs.AreaRows.{area_looked_in, look_event, look_reply}
use Rattle.event_core.specs.OwnRows.{is_inside, strayed_bytes, page_behind, found_at}

-- What a processor may do next: an event, and the reply where the command ends with it. Only the module's answers are free in it.
pub record Step : Type 0 where
  pub event : Event
  pub reply : Option Reply

-- the event ends its command with this reply
abbrev pub replied_by : Event → Reply → Option Step
replied_by event reply = Some (record { event = event; reply = Some reply })

-- ---- acceptances

-- a claim with no run ends an acceptance: no unit was cleared
abbrev pub claim_reply : Option Units → Option Reply
claim_reply None = Some (reply.Count 0)
claim_reply (Some run) = None

-- a report ends an acceptance where it stopped or no run is left
abbrev pub report_reply : Option Page → Option Units → ℕ → Option Reply
report_reply (Some page) next cleared = Some reply.Module
report_reply None None cleared = Some (reply.Count cleared)
report_reply None (Some next) cleared = None

-- an acceptance claims its guarded units, and then reports each run
abbrev pub accept_step : Boot → List Entry → Option Claimed → Option Units → List ModuleCall → Option Step
accept_step boot memory None units calls =
    option_map (λ event. record { event = event; reply = claim_reply (run_of_claim boot memory units) }) (claim_event boot memory None units)
accept_step boot memory (Some claim) units calls = Some (record {
  event = report_event boot claim calls;
  reply = report_reply (stop_of calls) (next_run boot claim (stop_of calls)) (cleared_by boot memory claim calls);
})

-- ---- allocations

-- an allocation ends with a block's address, without a block, or where the acceptance of a waiting block stopped
abbrev pub alloc_reply : Event → Option Reply
alloc_reply (event.Got block) = Some (reply.Addr (PAGE_BYTES * block.first))
alloc_reply event.NoBlock = Some reply.NoBlock
alloc_reply _ = None

abbrev pub stopped_reply : Option Page → Option Reply
stopped_reply (Some page) = Some reply.Module
stopped_reply None = None

abbrev pub alloc_step : Boot → List Entry → Option Claimed → ℕ → List ModuleCall → Option Step
alloc_step boot memory None order calls = option_map (λ event. record { event = event; reply = alloc_reply event }) (alloc_event boot memory order)
alloc_step boot memory (Some claim) order calls = Some (record { event = report_event boot claim calls; reply = stopped_reply (stop_of calls) })

-- ---- conversions

abbrev pub end_reply : End → Reply
end_reply Converted = reply.Done
end_reply Refused = reply.Module
end_reply (Half page) = reply.Module

abbrev pub ends_by : Block → List ModuleCall → End → Option Step
ends_by block calls end = replied_by (event.ConvertEnd block calls end) (end_reply end)

-- a conversion begins, and then ends by its calls
abbrev pub convert_step : Boot → List Entry → Option Block → Block → PageState → List ModuleCall → Option Step
convert_step boot memory None block to calls = Some (record { event = event.ConvertBegin block to; reply = None })
convert_step boot memory (Some begun) block to calls = ends_by block calls (convert_end boot memory block calls)

-- ---- loads

abbrev pub stray_step : Boot → List Entry → Holding → ℕ → Option Step
stray_step boot memory h off =
    option_map
    (λ found. record { event = event.Touched (record { 0 = page_behind h.block }) found; reply = Some (reply.Loaded (strayed_bytes h off) (Some found)) })
    (found_at boot memory (page_behind h.block))

abbrev pub load_step : Boot → List Entry → Holding → ℕ → Option Step
load_step boot memory h off =
    elim (is_inside h.block off) as (λ _. Option Step) [
      | true ↦ replied_by event.Own (reply.Loaded (row_of h.bytes off 8) None)
      | false ↦ stray_step boot memory h off
    ]

-- ---- mappings

-- a look in the next area
abbrev pub look_step : Boot → List Entry → ℕ → ℕ → Request → Option Step
look_step boot entries cpu looks request =
    let area = area_looked_in boot cpu looks in
    Some (record { event = look_event boot entries area request; reply = look_reply boot looks (run_found boot entries area request) })

-- an event that takes bytes out of the pool for its reply
abbrev pub taking_step : Boot → List Moved → Event → Option Step
taking_step boot there event = replied_by event (reply.Hex (taken_bytes boot there event))

-- a copy where the mapping's direction asks for it
abbrev pub copy_step : Bool → Event → Option Step
copy_step asked copy = replied_by (if asked then copy else event.Own) reply.Done

-- ---- the present command

-- a refused command ends by itself
abbrev pub refused_or : Option Reply → Option Step → Option Step
refused_or (Some refusal) step = Some (record { event = event.Own; reply = Some refusal })
refused_or None step = step

-- a command that isn't refused, of a processor that has this and stands before the entries of the event's place
abbrev pub unrefused_step : Boot → ℕ → Own → List Moved → Command → List ModuleCall → Option Step
unrefused_step boot cpu own there (command.Alloc name order) calls = alloc_step boot (entries_of there) (claim_of boot (entries_of there) cpu) order calls
unrefused_step boot cpu own there (command.Free name) calls = option_and_then (λ h. replied_by (event.Freed h.block) reply.Done) (block_named own name)
unrefused_step boot cpu own there (command.Accept start len) calls = accept_step boot (entries_of there) (claim_of boot (entries_of there) cpu) (guarded_units boot start len) calls
unrefused_step boot cpu own there (command.Query start len) calls =
    let found = some_unaccepted boot (entries_of there) (guarded_units boot start len) in
    Some (record { event = event.Asked found; reply = Some (reply.Query found) })
unrefused_step boot cpu own there (command.Read name off len) calls = option_and_then (λ h. replied_by event.Own (reply.Hex (row_of h.bytes off len))) (block_named own name)
unrefused_step boot cpu own there (command.Write name off hex) calls = replied_by event.Own reply.Done
unrefused_step boot cpu own there (command.Fill name off len byte) calls = replied_by event.Own reply.Done
unrefused_step boot cpu own there (command.Load name off) calls = option_and_then (λ h. load_step boot (entries_of there) h off) (block_named own name)
unrefused_step boot cpu own there (command.Share name) calls = option_and_then (λ h. convert_step boot (entries_of there) own.converting h.block Shared calls) (block_named own name)
unrefused_step boot cpu own there (command.Private name) calls = option_and_then (λ h. convert_step boot (entries_of there) own.converting h.block Accepted calls) (block_named own name)
unrefused_step boot cpu own there (command.Giveback name) calls = option_and_then (λ h. convert_step boot (entries_of there) own.converting h.block Pending calls) (block_named own name)
unrefused_step boot cpu own there (command.Map mapping name off len direction mask) calls =
    option_and_then (λ h. look_step boot (entries_of there) cpu own.looks (request_of (PAGE_BYTES * h.block.first + off) len mask)) (block_named own name)
unrefused_step boot cpu own there (command.SyncDev mapping off len) calls = option_and_then (λ m. copy_step (asks_in m.direction) (event.CopiedIn m.run off len)) (mapping_named own mapping)
unrefused_step boot cpu own there (command.SyncCpu mapping off len) calls = option_and_then (λ m. copy_step (asks_out m.direction) (event.CopiedOut m.run off len)) (mapping_named own mapping)
unrefused_step boot cpu own there (command.Unmap mapping skip) calls = option_and_then (λ m. replied_by (event.Released m.run (asks_out m.direction && not skip)) reply.Done) (mapping_named own mapping)
unrefused_step boot cpu own there (command.DRead mapping off len) calls = option_and_then (λ m. taking_step boot there (event.DeviceRead m.run off len)) (mapping_named own mapping)
unrefused_step boot cpu own there (command.DWrite mapping off hex) calls = option_and_then (λ m. replied_by (event.DeviceWrote m.run off (length hex)) reply.Done) (mapping_named own mapping)
unrefused_step boot cpu own there (command.HostRead off len) calls = taking_step boot there (event.HostRead off len)
unrefused_step boot cpu own there (command.HostWrite off hex) calls = replied_by (event.HostWrote off (length hex)) reply.Done

abbrev pub step_of : Boot → ℕ → Own → List Moved → Command → List ModuleCall → Option Step
step_of boot cpu own there command calls = refused_or (refusal_of boot own command) (unrefused_step boot cpu own there command calls)

-- the next step of a processor: that of its present command; none where it is finished or blocked
abbrev pub next_step : Boot → List (List Command) → ℕ → List Moved → List Moved → List ModuleCall → Option Step
next_step boot scripts cpu own there calls =
    option_and_then (λ command. step_of boot cpu (own_of (script_of scripts cpu) own) there command calls) (present scripts cpu own)
