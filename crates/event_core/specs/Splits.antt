use Rattle.std.specs.Prelude.{ℕ, List, ◌≡◌}
use Rattle.event_core.specs.declared.entry.Place.TheVariants.{Memory, Area}
use Rattle.event_core.specs.Moved.{Moved, made_by}
use Rattle.event_core.specs.Legal.{at_place}

-- How one history stands in several lists (own rule): one for each processor, and one for each lock, which knows no replies.
pub record Lists : Type 0 where
  pub by_cpu : ℕ → List Moved
  pub by_memory : List Moved
  pub by_area : ℕ → List Moved

-- a processor's list is what it made of the history, in order, and a lock's list is the bare entries of its place, in order
pub record SplitsInto (history : List Moved) (lists : Lists) : Type 0 where
  pub cpus : (cpu : ℕ) → lists.by_cpu cpu ≡ made_by cpu history
  pub memory : lists.by_memory ≡ at_place Memory history
  pub areas : (area : ℕ) → lists.by_area area ≡ at_place (Area area) history
