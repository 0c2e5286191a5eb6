-- What stays of an area for a processor while others step it (own rule).
use Rattle.std.specs.Prelude.{ℕ, List, ◌++◌, ◌≡◌, ◌≢◌, All}
use Rattle.event_core.specs.Moved.{Moved}
use Rattle.io_areas.specs.Value.{AreaValue}

-- a processor finds the area as it left it, but for the entries of others
pub record FoundAgain (cpu : ℕ) (left found : AreaValue) : Type 0 where
  pub number : found.number ≡ left.number
  pub slots : found.slots ≡ left.slots
  pub rest : List Moved
  pub longer : found.moved ≡ left.moved ++ rest
  pub others : All (λ (m : Moved). m.entry.cpu.0 ≢ cpu) rest
