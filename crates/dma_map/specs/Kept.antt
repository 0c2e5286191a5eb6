use Rattle.std.specs.Prelude.{ℕ, List, Option, find}
use Rattle.std.specs.Str.{bytes_eq}
use Rattle.event_core.specs.Holdings.{Mapping}
use Rattle.dma_map.specs.declared.kept.KeptMapping.{KeptMapping}
use Rattle.dma_map.specs.declared.kept.Live.{Live}

-- A processor's live mappings (own rule).

-- what contracts see of them: each, the newest first, and for how many more there is room
pub record Kept : Type 0 where
  pub mappings : List Mapping
  pub room : ℕ

-- a live mapping under a name
abbrev pub mapping_by : List ℕ → Live → Mapping
mapping_by name live = record {
  name = name;
  run = live.run;
  block = live.block;
  off = live.off;
  direction = live.direction;
}

abbrev pub kept_as : KeptMapping → Mapping
kept_as m = mapping_by m.name m.live

-- a mapping without its name
abbrev pub live_of : Mapping → Live
live_of m = record { run = m.run; block = m.block; off = m.off; direction = m.direction }

-- the newest mapping of a name
abbrev pub mapping_in : Kept → List ℕ → Option Mapping
mapping_in kept name = find (λ (m : Mapping). bytes_eq m.name name) kept.mappings
