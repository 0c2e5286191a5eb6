use Rattle.std.specs.Prelude.{ℕ, List, [], Option, None, Some, Bool, ◌+◌, ◌-◌, ◌*◌, length, slice_get, if◌then◌else◌}
use Rattle.guest_base.specs.declared.limits.TheConstants.{PAGE_END}
use Rattle.event_core.specs.declared.boot.Boot.{Boot}
use Rattle.event_core.specs.declared.command.Command.{Command}
use Rattle.event_core.specs.declared.command.Command.TheVariants.{Read, Write, Fill, Load, Map, SyncDev, SyncCpu, Unmap, DRead, DWrite, HostRead, HostWrite}
use Rattle.event_core.specs.declared.entry.Entry.{Entry}
use Rattle.event_core.specs.declared.module_call.ModuleCall.{ModuleCall}
use Rattle.event_core.specs.declared.reply.Reply.{Reply}
use Rattle.event_core.specs.AreaRows.{area_looked_in}
use Rattle.event_core.specs.Holdings.{Holding, Mapping, Own, asks_in, asks_out, block_named, mapping_named}
use Rattle.event_core.specs.Moved.{Moved, entries_of}
use Rattle.event_core.specs.Own.{replied, own_of}
use Rattle.event_core.specs.OwnRows.{is_inside}
use Rattle.event_core.specs.Pool.{area_of_offset}
use Rattle.event_core.specs.Refusals.{refusal_of}
use Rattle.page_module.specs.Spans.{Taken}
use Rattle.accept_sizes.specs.declared.accept.RunEnd.{RunEnd}
use Rattle.memory_core.specs.Waiting.{waiting_left}
use Rattle.guest_steps.specs.declared.processor.Need.{Need}
use Rattle.guest_steps.specs.declared.processor.Need.TheVariants as need

-- What contracts see of a processor (own rule).

-- the calls that were made for the span that is out, and how its acceptance ended
pub record Accepted : Type 0 where
  pub calls : List ModuleCall
  pub end : RunEnd

-- A processor: how the guest was booted, its number, its script, its entries with their replies and
-- the bytes that they moved, the span that is out for its open claim, what was done for this span
-- and isn't reported yet, and its port's calls and count of faults, as they were when the processor
-- was made and as they are.
pub record Seen : Type 0 where
  pub boot : Boot
  pub number : ℕ
  pub script : List Command
  pub moved : List Moved
  pub out : Option Taken
  pub done : Option Accepted
  pub made_before : List ModuleCall
  pub made : List ModuleCall
  pub faults_before : ℕ
  pub faults : ℕ

-- a processor that has made no entry
abbrev pub first_seen : Boot → ℕ → List Command → List ModuleCall → ℕ → Seen
first_seen boot number script made faults = record {
  boot = boot;
  number = number;
  script = script;
  moved = [];
  out = None;
  done = None;
  made_before = made;
  made = made;
  faults_before = faults;
  faults = faults;
}

-- its entries alone
abbrev pub entries_made : Seen → List Entry
entries_made c = entries_of c.moved

-- the number of its present command: the count of its replies
abbrev pub command_number : Seen → ℕ
command_number c = replied c.moved

-- its present command; none where all have their reply
abbrev pub present_command : Seen → Option Command
present_command c = slice_get c.script (command_number c)

-- what the processor has
abbrev pub own_now : Seen → Own
own_now c = own_of c.script c.moved

-- a load that ends in its block needs nothing beside the processor
abbrev pub need_of_load : Option Holding → ℕ → Need
need_of_load None off = need.Memory
need_of_load (Some h) off = if is_inside h.block off then need.Own else need.Memory

-- a command about a mapping needs its area
abbrev pub need_of_mapping : Option Mapping → Need
need_of_mapping None = need.Memory
need_of_mapping (Some m) = need.Area m.run.area

-- a copy that the mapping's direction doesn't ask for needs nothing
abbrev pub need_of_copy : Option Mapping → (Mapping → Bool) → Need
need_of_copy None asks = need.Memory
need_of_copy (Some m) asks = if asks m then need.Area m.run.area else need.Own

-- A command that reads or writes a block's bytes needs nothing beside the processor, and one about
-- the pool an area. Any other takes a step of the memory.
abbrev pub need_unrefused : Boot → ℕ → Own → Command → Need
need_unrefused boot cpu own (Read name off len) = need.Own
need_unrefused boot cpu own (Write name off hex) = need.Own
need_unrefused boot cpu own (Fill name off len byte) = need.Own
need_unrefused boot cpu own (Load name off) = need_of_load (block_named own name) off
need_unrefused boot cpu own (Map mapping name off len direction mask) =
    need.Area (area_looked_in boot cpu own.looks)
need_unrefused boot cpu own (SyncDev mapping off len) =
    need_of_copy (mapping_named own mapping) (λ (m : Mapping). asks_in m.direction)
need_unrefused boot cpu own (SyncCpu mapping off len) =
    need_of_copy (mapping_named own mapping) (λ (m : Mapping). asks_out m.direction)
need_unrefused boot cpu own (Unmap mapping skip) = need_of_mapping (mapping_named own mapping)
need_unrefused boot cpu own (DRead mapping off len) = need_of_mapping (mapping_named own mapping)
need_unrefused boot cpu own (DWrite mapping off hex) = need_of_mapping (mapping_named own mapping)
need_unrefused boot cpu own (HostRead off len) = need.Area (area_of_offset boot off)
need_unrefused boot cpu own (HostWrite off hex) = need.Area (area_of_offset boot off)
need_unrefused boot cpu own _ = need.Memory

-- a refused command ends by the processor alone
abbrev pub need_unless_refused : Option Reply → Need → Need
need_unless_refused (Some refusal) unrefused = need.Own
need_unless_refused None unrefused = unrefused

abbrev pub need_for : Boot → ℕ → Own → Option Command → Need
need_for boot cpu own None = need.Finished
need_for boot cpu own (Some command) =
    need_unless_refused (refusal_of boot own command) (need_unrefused boot cpu own command)

-- with an open claim the next step is the claim's report
abbrev pub need_by : Option Taken → Need → Need
need_by (Some span) at_rest = need.Memory
need_by None at_rest = at_rest

-- what a processor's next step needs
abbrev pub need_of : Seen → Need
need_of c = need_by c.out (need_for c.boot c.number (own_now c) (present_command c))

-- The most steps of a command, and one more: its claim, and a report for each page of memory. Those
-- of an allocation that claims a block and makes it accepted are the block's. A mapping looks in
-- each area once, which are fewer.
abbrev pub STEPS : ℕ
STEPS = PAGE_END + 2

-- The most steps that are left with this many commands, of which this many have their reply. With
-- an open claim, whose later runs lie behind the one that is out, those of its command are fewer.
abbrev pub left_by : ℕ → ℕ → Option Taken → ℕ
left_by commands number None = (commands - number) * STEPS
left_by commands number (Some span) =
    (commands - (number + 1)) * STEPS + 1 + (PAGE_END - span.ticket.pages.first)

-- those of its commands, from the present one on
abbrev pub commands_left : Seen → ℕ
commands_left c = left_by (length c.script) (command_number c) c.out

-- and without the looks that the present one has made
abbrev pub steps_left : Seen → ℕ
steps_left c = commands_left c - (own_now c).looks

-- The steps for the blocks that aren't accepted yet, at most: an allocation whose claim ends well
-- looks again, but then one block fewer is left.
abbrev pub steps_waiting : Boot → List Entry → ℕ
steps_waiting boot memory = waiting_left boot memory * STEPS
