-- A small state to try the lock on: one number for each processor.
use Rattle.std.specs.Prelude.{◌≡◌, ℕ, List, [], ◌∷◌, Option, Some, None, length}
use Rattle.event_core.specs.Moved.{Moved}
use Rattle.event_core.specs.Parted.{Fixed, Part}
use Rattle.claim_lock.specs.Seen.{LockSeen, PassSeen}

-- nothing is fixed
abbrev pub nothing_fixed : Fixed
nothing_fixed = record { boot = None; areas = [] }

-- a processor's part is its number
abbrev pub numbered : ℕ → Part
numbered n = record { claim = None; converting = None; out = []; room = n ∷ []; live = [] }

-- the pass is there, it is of this lock and the processor's, these are the entries that it made,
-- and it left their number
abbrev pub Ready : LockSeen → ℕ → Option PassSeen → List Moved → Type 0
Ready lock cpu None made = ⊥
Ready lock cpu (Some pass) made =
    (pass.table ≡ lock.table) × (pass.known.number ≡ cpu) × (pass.known.own ≡ made)
    × (pass.known.seats ≡ lock.seats) × (pass.known.part ≡ numbered (length made))
