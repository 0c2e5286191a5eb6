use Rattle.std.specs.Prelude.{ℕ, List, [], ◌∷◌, ◌++◌, Option, None, Some, Bool, false, true, ◌≡◌, ◌≢◌, ◌+◌, ◌≤◌, ◌<◌, is_none, map, max, slice_get, if◌then◌else◌}
use Rattle.std.specs.Option.{option_map}
use Rattle.event_core.specs.declared.command.Command.{Command}
use Rattle.event_core.specs.declared.entry.Entry.{Entry}
use Rattle.event_core.specs.declared.entry.Place.{Place}
use Rattle.event_core.specs.declared.entry.Place.TheVariants.{Memory, Area, Own}
use Rattle.event_core.specs.declared.event.Event.TheVariants as event
use Rattle.event_core.specs.declared.reply.Reply.{Reply}
use Rattle.event_core.specs.Claims.{claim_of}
use Rattle.event_core.specs.Legal.{bare, greatest_stamp, same_place}
use Rattle.event_core.specs.Locally.{FollowsLocally}
use Rattle.event_core.specs.Moved.{Moved}
use Rattle.event_core.specs.Next.{Step, next_step}
use Rattle.page_module.specs.Spans.{Taken}
use Rattle.page_module.specs.declared.ticket.Ticket.{Ticket}
use Rattle.io_areas.specs.Value.{AreaValue}
use Rattle.memory_core.specs.Answers.{OthersKeep}
use Rattle.memory_core.specs.Steps.{last_stamp}
use Rattle.memory_core.specs.UnderLock.{moved_of, unmoved}
use Rattle.memory_core.specs.Value.{MemoryValue}
use Rattle.guest_steps.specs.Ground.{Ground, EachArea, IsSameArea, there_in}
use Rattle.guest_steps.specs.Seen.{Seen, commands_left, steps_left, steps_waiting}

-- What a step of a processor does (own rule).

-- the entry as the memory keeps it
abbrev pub without_reply : Entry → Entry
without_reply entry = record entry { reply = None }

-- among scripts the processor's stands at its number
abbrev pub HaveScript : List (List Command) → Seen → Type 0
HaveScript scripts c = slice_get scripts c.number ≡ Some c.script

-- a processor's own event, which ends its command with a reply
abbrev pub own_reply : Reply → Step
own_reply reply = record { event = event.Own; reply = Some reply }

-- whether a processor has no next event, before the memory's entries
abbrev pub IsIdle : Seen → List Entry → Type 0
IsIdle c memory =
    (scripts : List (List Command)) → HaveScript scripts c
    → is_none (next_step c.boot scripts c.number c.moved (map unmoved memory) []) ≡ true

abbrev pub IsBusy : Seen → List Entry → Type 0
IsBusy c memory =
    (scripts : List (List Command)) → HaveScript scripts c
    → is_none (next_step c.boot scripts c.number c.moved (map unmoved memory) []) ≡ false

-- the entry is the processor's next one, behind these of its place, whatever the other scripts
pub record IsNext (c : Seen) (there : List Moved) (m : Moved) : Type 0 where
  pub mine : m.entry.cpu.0 ≡ c.number
  pub follows : (scripts : List (List Command)) → HaveScript scripts c
      → FollowsLocally c.boot scripts c.moved there m

-- The processor has no open claim and no next event, and another one has an open claim: it is in
-- the way of the units that would be claimed, or for a block that an allocation waits for.
pub record IsBlocked (c : Seen) (memory : List Entry) : Type 0 where
  pub rests : c.out ≡ None
  pub idle : IsIdle c memory
  pub other : ℕ
  pub among : other < c.boot.cpus
  pub claimed : claim_of c.boot memory other ≢ None

-- the same processor, whose port was asked nothing
pub record IsUnasked (old new : Seen) : Type 0 where
  pub boot : new.boot ≡ old.boot
  pub number : new.number ≡ old.number
  pub script : new.script ≡ old.script
  pub made_before : new.made_before ≡ old.made_before
  pub made : new.made ≡ old.made
  pub faults_before : new.faults_before ≡ old.faults_before
  pub faults : new.faults ≡ old.faults

-- a processor made an entry, its next one behind these of its place, and what was done is reported
pub record Makes (old new : Seen) (there : List Moved) (m : Moved) : Type 0 where
  pub next : IsNext old there m
  pub moved : new.moved ≡ old.moved ++ m ∷ []
  pub same : IsUnasked old new
  pub done : new.done ≡ None

-- ---- an entry over the memory

-- The memory keeps the entry, and what is out with others stays. Fewer steps are left of the
-- commands, with those for the blocks that aren't accepted yet.
pub record MakesInMemory (old new : Seen) (before after : MemoryValue) : Type 0 where
  pub m : Moved
  pub makes : Makes old new (moved_of before) m
  pub place : m.entry.place ≡ Memory
  pub busy : IsBusy old before.entries
  pub boot : after.boot ≡ before.boot
  pub entries : after.entries ≡ before.entries ++ without_reply m.entry ∷ []
  pub others : OthersKeep before after old.number
  pub less : commands_left new + steps_waiting old.boot after.entries
      < commands_left old + steps_waiting old.boot before.entries

-- nothing of the memory changed but its room, which isn't less
pub record RoomAlone (before after : MemoryValue) : Type 0 where
  pub boot : after.boot ≡ before.boot
  pub entries : after.entries ≡ before.entries
  pub out : after.out ≡ before.out
  pub room : before.room ≤ after.room

-- the greatest stamp before a step: the greater one of the processor's and the memory's last
abbrev pub stamp_before : Seen → MemoryValue → ℕ
stamp_before c memory = max (greatest_stamp c.moved) (last_stamp memory.entries)

-- ---- an entry in an area

-- the area keeps the entry, with the bytes that it moved; nothing is out before it and after it
pub record MakesInArea (old new : Seen) (before after : AreaValue) : Type 0 where
  pub m : Moved
  pub makes : Makes old new before.moved m
  pub place : m.entry.place ≡ Area before.number
  pub rests : new.out ≡ None
  pub number : after.number ≡ before.number
  pub slots : after.slots ≡ before.slots
  pub moved : after.moved ≡ before.moved ++ bare m ∷ []

-- nothing of the area changed but its room, which isn't less
pub record AreaRoomAlone (before after : AreaValue) : Type 0 where
  pub number : after.number ≡ before.number
  pub slots : after.slots ≡ before.slots
  pub moved : after.moved ≡ before.moved
  pub room : before.room ≤ after.room

-- the greatest stamp before a step there: the greater one of the processor's and the area's last
abbrev pub stamp_in : Seen → AreaValue → ℕ
stamp_in c area = max (greatest_stamp c.moved) (greatest_stamp area.moved)

-- ---- an entry of the processor's own

-- the entry was made by the processor alone, and fewer steps are left of its commands
pub record MakesOwn (old new : Seen) : Type 0 where
  pub m : Moved
  pub makes : Makes old new [] m
  pub place : m.entry.place ≡ Own
  pub rests : new.out ≡ None
  pub less : commands_left new < commands_left old

-- ---- an entry at any place

-- the entries of a place behind an entry that takes place there, or elsewhere; an own event has no
-- list of its place
abbrev pub there_after : Moved → Place → List Moved → List Moved
there_after m Own there = there
there_after m place there = if same_place place m.entry.place then there ++ bare m ∷ [] else there

-- the steps that are left, with those for the blocks that aren't accepted yet
abbrev pub steps_before : Seen → Ground → ℕ
steps_before c base = steps_left c + steps_waiting c.boot base.memory.entries

-- A processor made an entry at its place, which keeps it. What is out with others stays, and no
-- other place changed. Fewer steps are left.
pub record MakesIn (old new : Seen) (before after : Ground) : Type 0 where
  pub m : Moved
  pub makes : Makes old new (there_in before m.entry.place) m
  pub busy : IsBusy old before.memory.entries
  pub boot : after.memory.boot ≡ before.memory.boot
  pub areas : EachArea IsSameArea before.areas after.areas
  pub there : (place : Place) → there_in after place ≡ there_after m place (there_in before place)
  pub others : OthersKeep before.memory after.memory old.number
  pub less : steps_before new after < steps_before old before

-- nothing changed but room
pub record AllRoomAlone (before after : Ground) : Type 0 where
  pub memory : RoomAlone before.memory after.memory
  pub areas : EachArea AreaRoomAlone before.areas after.areas

-- no span is out with which nothing was done
abbrev pub IsWorked : Seen → Type 0
IsWorked c = c.out ≢ None → c.done ≢ None

-- which pages are out, by which taking
abbrev pub ticket_of : Option Taken → Option Ticket
ticket_of out = option_map (λ (span : Taken). span.ticket) out

-- The work is done for the span that is out, where there is one. The processor is the same, and so
-- are the pages that are out.
pub record Works (old new : Seen) : Type 0 where
  pub boot : new.boot ≡ old.boot
  pub number : new.number ≡ old.number
  pub script : new.script ≡ old.script
  pub moved : new.moved ≡ old.moved
  pub taken : ticket_of new.out ≡ ticket_of old.out
  pub worked : IsWorked new
  pub made_before : new.made_before ≡ old.made_before
  pub faults_before : new.faults_before ≡ old.faults_before
  pub faults : old.faults ≤ new.faults
