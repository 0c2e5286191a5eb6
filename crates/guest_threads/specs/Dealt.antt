use Rattle.std.specs.Prelude.{ℕ, List, [], ◌∷◌, ◌++◌, ◌≡◌, ◌<◌, ◌≤◌, All, Any, Vec, vec_len, vec_capacity}
use Rattle.std.specs.declared.alloc.Global.{Global}
use Rattle.event_core.specs.Locally.{Rising}
use Rattle.event_core.specs.Moved.{entries_of}
use Rattle.event_core.specs.Parted.{Fixed, Part}
use Rattle.claim_lock.specs.Knows.{Finds, first_known}
use Rattle.claim_lock.specs.Seen.{LockSeen, PassSeen}
use Rattle.io_areas.specs.UnderLock.{fixed_of, part_of, moved_of}
use Rattle.io_areas.specs.Value.{AreaValue}
use Rattle.guest_threads.specs.declared.locks.Homes.{Homes}
use Rattle.guest_threads.specs.declared.locks.Passes.{Passes}

-- What new locks hand out, and take back before they are opened (own rule).

-- the pass of a processor for a new lock over a state
abbrev pub first_pass : {S : Type 0} → (S → Fixed) → (S → ℕ → Part) → LockSeen → S → ℕ → PassSeen
first_pass fixed part lock state cpu =
    record { table = lock.table; known = first_known fixed part lock.seats state cpu }

-- those for the new locks over areas
unfoldable pub first_passes : List LockSeen → List AreaValue → ℕ → List PassSeen
first_passes [] areas cpu = []
first_passes (lock ∷ locks) [] cpu = []
first_passes (lock ∷ locks) (area ∷ areas) cpu =
    first_pass fixed_of part_of lock area cpu ∷ first_passes locks areas cpu

-- a processor has one pass more, for a further area
pub record Gains (old new : Passes) (pass : PassSeen) : Type 0 where
  pub memory : new.memory ≡ old.memory
  pub areas : new.areas.items ≡ old.areas.items ++ pass ∷ []

-- a list has one pass more at its end, in the room that it has
pub record Adds (old new : Vec PassSeen Global) (pass : PassSeen) : Type 0 where
  pub items : new.items ≡ old.items ++ pass ∷ []
  pub capacity : vec_capacity new ≡ vec_capacity old

-- an empty list with room for the passes of this many processors
abbrev pub IsRoomFor : ℕ → Vec PassSeen Global → Type 0
IsRoomFor cpus list = (list.items ≡ []) × (cpus ≤ vec_capacity list)

-- such a list for the memory, and one for each of this many areas, and room for the areas
pub record HasRoom (homes : Homes) (cpus areas : ℕ) : Type 0 where
  pub memory : IsRoomFor cpus homes.memory
  pub count : vec_len homes.areas ≡ areas
  pub each : All (IsRoomFor cpus) homes.areas.items
  pub opened : homes.opened.items ≡ []
  pub opened_room : areas ≤ vec_capacity homes.opened

-- all passes of a lock, one for each number
pub record AreAllOf (lock : LockSeen) (passes : List PassSeen) : Type 0 where
  pub tables : All (λ (p : PassSeen). p.table ≡ lock.table) passes
  pub numbers : (cpu : ℕ) → cpu < lock.seats
      → Any (λ (p : PassSeen). p.known.number ≡ cpu) passes

-- of the area that its lock gives back all that its passes know is true, and its entries rise
pub record Opened (passes : List PassSeen) (area : AreaValue) : Type 0 where
  pub found : All (λ (p : PassSeen). Finds fixed_of part_of moved_of p.known area) passes
  pub rising : Rising (entries_of area.moved)
