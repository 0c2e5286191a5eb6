use Rattle.std.specs.Prelude.{ℕ, List, Option, ◌≡◌, ◌-◌, ◌≤◌, length, vec_capacity, vec_len, Vec}
use Rattle.std.specs.declared.alloc.Global.{Global}
use Rattle.event_core.specs.declared.entry.Entry.{Entry}
use Rattle.event_core.specs.declared.entry.Place.{Place}
use Rattle.event_core.specs.declared.entry.Turn.{Turn}
use Rattle.event_core.specs.declared.event.Event.{Event}
use Rattle.event_core.specs.declared.reply.Reply.{Reply}
use Rattle.event_core.specs.Legal.{greatest_stamp}
use Rattle.event_core.specs.Moved.{Moved}
use Rattle.event_core.specs.Own.{replied}
use Rattle.io_areas.specs.Transfers.{with_bytes}

-- The entries that a processor made.

-- the entries with the bytes that they moved, and for how many more there is room
pub record Made : Type 0 where
  pub moved : List Moved
  pub room : ℕ

-- each entry has its bytes, there is room for as many of both, and the count of replies and the
-- greatest stamp are theirs
pub record MadeStand (entries : Vec Entry Global) (moves : Vec (List ℕ) Global)
    (room replies clock : ℕ) : Type 0 where
  pub beside : length entries.items ≡ length moves.items
  pub entry_room : room ≤ vec_capacity entries - vec_len entries
  pub move_room : room ≤ vec_capacity moves - vec_len moves
  pub counted : replies ≡ replied (with_bytes entries.items moves.items)
  pub last : clock ≡ greatest_stamp (with_bytes entries.items moves.items)

-- the next turn of a processor that made entries: its present command is the one whose number is
-- the count of replies, and its clock is its greatest stamp
abbrev pub turn_of : ℕ → List Moved → Turn
turn_of number moved = record {
  cpu = record { 0 = number };
  cmd = replied moved;
  clock = greatest_stamp moved;
}

-- an entry under the lock of a place, by the turn behind it
abbrev pub entry_at : Turn → Place → Event → Option Reply → Entry
entry_at turned at event reply = record {
  stamp = turned.clock;
  cpu = turned.cpu;
  cmd = turned.cmd;
  place = at;
  event = event;
  reply = reply;
}
