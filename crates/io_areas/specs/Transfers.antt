use Rattle.std.specs.Prelude.{ℕ, List, [], ◌∷◌, None, ◌≡◌, ◌+◌, ◌<◌, ◌≤◌, length, max, vec_capacity, Vec}
use Rattle.std.specs.declared.alloc.Global.{Global}
use Rattle.event_core.specs.declared.entry.Entry.{Entry}
use Rattle.event_core.specs.declared.entry.Place.TheVariants as place
use Rattle.event_core.specs.declared.entry.Turn.{Turn}
use Rattle.event_core.specs.declared.event.Event.{Event}
use Rattle.event_core.specs.Legal.{greatest_stamp}
use Rattle.event_core.specs.Locally.{Rising}
use Rattle.event_core.specs.Moved.{Moved}

-- The entries of an area with the bytes that they moved.

-- what is seen of them, and of the room for the next one
pub record TransfersValue : Type 0 where
  pub moved : List Moved
  pub room : ℕ

-- each entry with the bytes at its place in a second list
unfoldable pub with_bytes : List Entry → List (List ℕ) → List Moved
with_bytes [] moves = []
with_bytes (entry ∷ entries) [] = []
with_bytes (entry ∷ entries) (bytes ∷ moves) =
    record { entry = entry; bytes = bytes } ∷ with_bytes entries moves

-- a bare entry of an area, behind this last stamp, with the bytes that it moves
abbrev pub bare_by : ℕ → ℕ → Turn → Event → List ℕ → Moved
bare_by number last turn event bytes = record {
  entry = record {
    stamp = max turn.clock last + 1;
    cpu = turn.cpu;
    cmd = turn.cmd;
    place = place.Area number;
    event = event;
    reply = None;
  };
  bytes = bytes;
}

-- each entry has its bytes, and they rise up to the last stamp; where there is room there is a
-- place for one more entry, and for its bytes
pub record TransfersStand (entries : Vec Entry Global) (moves : Vec (List ℕ) Global)
    (spare : Vec ℕ Global) (last room : ℕ) : Type 0 where
  pub beside : length entries.items ≡ length moves.items
  pub last_is : last ≡ greatest_stamp (with_bytes entries.items moves.items)
  pub rising : Rising entries.items
  pub empty : spare.items ≡ []
  pub entry_room : 0 < room → length entries.items < vec_capacity entries
  pub move_room : 0 < room → length moves.items < vec_capacity moves
  pub byte_room : room ≤ vec_capacity spare + 1
