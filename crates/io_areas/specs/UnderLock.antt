-- What the lock of an area has to know of it (own rule).
use Rattle.std.specs.Prelude.{ℕ, List, [], ◌∷◌, None}
use Rattle.event_core.specs.Moved.{Moved}
use Rattle.event_core.specs.Parted.{Fixed, Part}
use Rattle.pool_laws.specs.Live.{live_of}
use Rattle.io_areas.specs.Value.{AreaValue}

-- no step changes the area's number and its slots
abbrev pub fixed_of : AreaValue → Fixed
fixed_of area = record { boot = None; areas = (area.number, area.slots) ∷ [] }

-- what the area keeps for a processor: its live mappings
abbrev pub part_of : AreaValue → ℕ → Part
part_of area cpu = record {
  claim = None;
  converting = None;
  out = [];
  room = [];
  live = live_of cpu area.moved;
}

abbrev pub moved_of : AreaValue → List Moved
moved_of area = area.moved
