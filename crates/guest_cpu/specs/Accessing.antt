use Rattle.std.specs.Prelude.{ℕ, List, [], ◌∷◌, ◌++◌, Option, None, Some, Result, ◌≡◌, ◌+◌, ◌^◌, ◌<◌, All, IfOk, OnErr, max}
use Rattle.std.specs.Option.{ForSome}
use Rattle.std.specs.declared.alloc.AllocError.{AllocError}
use Rattle.event_core.specs.declared.boot.Boot.{Boot}
use Rattle.event_core.specs.declared.command.Command.{Command}
use Rattle.event_core.specs.declared.entry.Place.TheVariants as place
use Rattle.event_core.specs.declared.entry.Turn.{Turn}
use Rattle.event_core.specs.declared.event.Event.{Event}
use Rattle.event_core.specs.declared.reply.Reply.{Reply}
use Rattle.event_core.specs.Holdings.{Mapping, Own}
use Rattle.event_core.specs.Legal.{bare, greatest_stamp}
use Rattle.event_core.specs.Moved.{Moved}
use Rattle.event_core.specs.Next.{unrefused_step}
use Rattle.event_core.specs.Own.{replied, told}
use Rattle.event_core.specs.PoolBytes.{given_bytes, taken_bytes, writes_at}
use Rattle.event_core.specs.ReadableScript.{IsReadable}
use Rattle.event_core.specs.Refusals.{refusal_of}
use Rattle.io_areas.specs.Value.{AreaValue, Appends, HasSizeOf, IsMine}
use Rattle.dma_map.specs.Pools.{HasPool, IsLayout}
use Rattle.held_blocks.specs.Holdings.{HoldingsValue, own_in as own_held}
use Rattle.guest_steps.specs.Seen.{need_unrefused}
use Rattle.guest_steps.specs.Steps.{AreaRoomAlone}
use Rattle.guest_steps.specs.declared.processor.Need.TheVariants.{Area}
use Rattle.guest_cpu.specs.declared.access.Access.{Access}
use Rattle.guest_cpu.specs.Kept.{HasFewLooks}
use Rattle.guest_cpu.specs.Made.{entry_at}
use Rattle.guest_cpu.specs.Progressing.{Progressed, command_of, own_in}

-- What a command does in an area of the pool.

-- the bytes that an event of a command moves, of a processor that has this, after an area's entries
abbrev pub moved_for : Boot → Own → List Moved → Command → Event → List ℕ
moved_for boot own there c event =
    elim (writes_at boot event) as (λ _. List ℕ) [
      | Some at ↦ given_bytes own (Some c)
      | None ↦ taken_bytes boot there event
    ]

-- an entry in an area with the bytes that it moved, by the turn behind it
abbrev pub entry_in : ℕ → Turn → Event → Option Reply → List ℕ → Moved
entry_in area turned event reply bytes =
    record { entry = entry_at turned (place.Area area) event reply; bytes = bytes }

-- the turn of a processor behind an entry that it makes in an area
abbrev pub area_turn : Progressed → AreaValue → Turn
area_turn p area = record {
  cpu = record { 0 = p.number };
  cmd = replied p.moved;
  clock = max (greatest_stamp p.moved) (greatest_stamp area.moved) + 1;
}

-- a processor that has this may access the area by its turn, for a command that isn't refused and
-- needs the area: its mappings there are live, and stamps are left
pub record MayAccess (boot : Boot) (own : Own) (area : AreaValue) (turn : Turn) (c : Command)
    : Type 0 where
  pub size : HasSizeOf boot area
  pub readable : IsReadable c
  pub fine : refusal_of boot own c ≡ None
  pub need : need_unrefused boot turn.cpu.0 own c ≡ Area area.number
  pub mine : All (λ (m : Mapping). m.run.area ≡ area.number → IsMine area turn.cpu.0 m.run)
      own.mappings
  pub clock : turn.clock < 2 ^ 64
  pub last : greatest_stamp area.moved < 2 ^ 64

-- The command's next step was made in the area: an event with the bytes that it moves, and the
-- reply where the command ends with it. The processor has then what its entry tells, and its looks
-- aren't ended yet.
pub record Accesses (boot : Boot) (own now : Own) (area after : AreaValue) (turn turned : Turn)
    (c : Command) (event : Event) (reply : Option Reply) (bytes : List ℕ) : Type 0 where
  pub step : unrefused_step boot turn.cpu.0 own area.moved c []
      ≡ Some (record { event = event; reply = reply })
  pub moves : bytes ≡ moved_for boot own area.moved c event
  pub appends : Appends area after turn turned event bytes
  pub holds : now ≡ told (Some c) (entry_in area.number turned event reply bytes) own

-- the same of what a processor keeps, for a boot that has its layout
abbrev pub MayAccessWith : HoldingsValue → AreaValue → Turn → Command → Type 0
MayAccessWith held area turn c =
    (boot : Boot) × HasPool boot held.layout × ForSome held.layout IsLayout × HasFewLooks held
    × MayAccess boot (own_held held) area turn c

-- A step of a command in an area, by a processor that keeps this. It was made, for each boot of the
-- layout by which the processor may access the area; or there was no room for it, and then nothing
-- has changed but room.
pub record AccessedBy (held now : HoldingsValue) (area after : AreaValue) (turn turned : Turn)
    (c : Command) (result : Result Access AllocError) : Type 0 where
  pub made : IfOk result (λ a. (boot : Boot) → HasPool boot held.layout
      → MayAccess boot (own_held held) area turn c
      → Accesses boot (own_held held) (own_held now) area after turn turned c
      a.event a.reply a.bytes)
  pub layout : now.layout ≡ held.layout
  pub refused : OnErr result
      ((own_held now ≡ own_held held) × AreaRoomAlone area after × (turned ≡ turn))

-- a processor with no claim open may step the area: its mappings there are live, and stamps are
-- left
pub record MayVisit (p : Progressed) (area : AreaValue) : Type 0 where
  pub size : HasSizeOf p.boot area
  pub rests : p.out ≡ None
  pub mine : All (λ (m : Mapping). m.run.area ≡ area.number → IsMine area p.number m.run)
      (own_in p).mappings
  pub few : replied p.moved < 2 ^ 32
  pub clock : greatest_stamp p.moved < 2 ^ 64
  pub last : greatest_stamp area.moved < 2 ^ 64

-- the present command of the processor was stepped on in an area
pub record StepsArea (old new : Progressed) (before after : AreaValue) : Type 0 where
  pub present : Command
  pub is : command_of old ≡ Some present
  pub event : Event
  pub reply : Option Reply
  pub bytes : List ℕ
  pub step : unrefused_step old.boot old.number (own_in old) before.moved present []
      ≡ Some (record { event = event; reply = reply })
  pub moves : bytes ≡ moved_for old.boot (own_in old) before.moved present event
  pub course :
      let m = entry_in before.number (area_turn old before) event reply bytes in
      new ≡ record old { moved = old.moved ++ m ∷ []; room = new.room }
  pub number : after.number ≡ before.number
  pub slots : after.slots ≡ before.slots
  pub moved : after.moved
      ≡ before.moved ++ bare (entry_in before.number (area_turn old before) event reply bytes) ∷ []
