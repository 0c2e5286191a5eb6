use Rattle.std.specs.Prelude.{List, ◌++◌, ◌≡◌, ◌≢◌, ◌⊎◌, ◌+◌, ◌≤◌, All}
use Rattle.std.specs.List.{AllPairs}
use Rattle.guest_base.specs.Slots.{InOneSegment}
use Rattle.guest_base.specs.declared.transfer.SlotRun.{SlotRun}
use Rattle.event_core.specs.declared.entry.Entry.{Entry}
use Rattle.event_core.specs.Pool.{live_runs}

-- two runs are in two areas, or one ends before the other begins
abbrev pub ApartRuns : SlotRun → SlotRun → Type 0
ApartRuns a b = (a.area ≢ b.area) ⊎ (a.first + a.count ≤ b.first) ⊎ (b.first + b.count ≤ a.first)

-- Live mappings have slots of their own: at each place of the history the live runs have no slot in common, and each lies in one
-- segment.
pub record Disjoint (entries : List Entry) : Type 0 where
  pub apart : (before later : List Entry) → entries ≡ before ++ later → AllPairs ApartRuns (live_runs before)
  pub segments : (before later : List Entry) → entries ≡ before ++ later → All (λ (run : SlotRun). InOneSegment run.first run.count) (live_runs before)
