use Rattle.std.specs.Prelude.{ℕ, suc, List, [], ◌∷◌, ◌++◌, Some, None, Result, Err, ◌≡◌, ◌≤◌, ◌<◌, ◌^◌, All, OnOk, OnErr, length, max, slice_get}
use Rattle.std.specs.Option.{option_map_or}
use Rattle.event_core.specs.declared.clock.NoRoom.{NoRoom}
use Rattle.event_core.specs.declared.clock.NoRoom.TheVariants.{Worn}
use Rattle.event_core.specs.declared.entry.Place.{Place}
use Rattle.event_core.specs.declared.entry.Place.TheVariants.{Memory, Area, Own}
use Rattle.event_core.specs.Legal.{greatest_stamp}
use Rattle.event_core.specs.Moved.{Moved, made_by}
use Rattle.event_core.specs.Parted.{Fixed, Part}
use Rattle.claim_lock.specs.declared.known.Known.{Known}
use Rattle.claim_lock.specs.Seen.{LockSeen, PassSeen}
use Rattle.io_areas.specs.UnderLock.{fixed_of as fixed_area, part_of as part_area, moved_of as moved_area}
use Rattle.io_areas.specs.Value.{AreaValue}
use Rattle.memory_core.specs.UnderLock.{fixed_of, part_of, moved_of}
use Rattle.memory_core.specs.Value.{MemoryValue}
use Rattle.guest_steps.specs.declared.processor.Need.TheVariants.{Finished}
use Rattle.guest_steps.specs.Ground.{Ground, there_in}
use Rattle.guest_steps.specs.Running.{StaysLater}
use Rattle.guest_steps.specs.Seen.{Seen, need_of}
use Rattle.guest_threads.specs.declared.locks.Locks.{Locks}
use Rattle.guest_threads.specs.declared.locks.Passes.{Passes}

-- A processor that shares the memory and the areas with others, each under its lock (own rule).

module _ {S : Type 0} (fixed : S → Fixed) (part : S → ℕ → Part) (moved : S → List Moved) where
  -- What a pass knows is the state as it was left: what is fixed, what it keeps for the pass's
  -- processor, all its entries, and of these the processor's.
  pub record KnowsLeft (known : Known) (left : S) : Type 0 where
    pub as_given : known.fixed ≡ fixed left
    pub as_left : known.part ≡ part left known.number
    pub all_seen : known.seen ≡ moved left
    pub own_alone : known.own ≡ made_by known.number (moved left)

  -- The pass is the processor's, of this lock, which has one for each processor of the boot. It
  -- knows the state as it was left.
  pub record Holds (lock : LockSeen) (pass : PassSeen) (left : S) (c : Seen) : Type 0 where
    pub table : pass.table ≡ lock.table
    pub number : pass.known.number ≡ c.number
    pub seats : pass.known.seats ≡ lock.seats
    pub cpus : lock.seats ≡ c.boot.cpus
    pub knows : KnowsLeft pass.known left

abbrev pub HoldsMemory : LockSeen → PassSeen → MemoryValue → Seen → Type 0
HoldsMemory lock pass left c = Holds fixed_of part_of moved_of lock pass left c

abbrev pub HoldsArea : LockSeen → PassSeen → AreaValue → Seen → Type 0
HoldsArea lock pass left c = Holds fixed_area part_area moved_area lock pass left c

-- so it is with each area, at one place in three lists
pub record HoldsAreas (locks : List LockSeen) (passes : List PassSeen) (areas : List AreaValue)
    (c : Seen) : Type 0 where
  pub locks_count : length locks ≡ length areas
  pub passes_count : length passes ≡ length areas
  pub each : (n : ℕ) (lock : LockSeen) (pass : PassSeen) (area : AreaValue)
      → slice_get locks n ≡ Some lock → slice_get passes n ≡ Some pass
      → slice_get areas n ≡ Some area → HoldsArea lock pass area c

-- The passes are the processor's. It stands over the memory and the areas, each as it was when the
-- processor gave its lock back, which may be at different times.
pub record Seated {T : Type 0} (seen : T → Seen) (stands : T → Ground → Type 0) (locks : Locks)
    (passes : Passes) (c : T) : Type 0 where
  pub left : Ground
  pub memory : HoldsMemory locks.memory passes.memory left.memory (seen c)
  pub areas : HoldsAreas locks.areas.items passes.areas.items left.areas (seen c)
  pub standing : stands c left

-- processors from one number on, each with its passes
abbrev pub EachSeated : {T : Type 0} → (T → Seen) → (T → Ground → Type 0) → Locks → ℕ
    → List Passes → List T → Type 0
EachSeated seen stands locks cpu [] [] = Unit {0}
EachSeated seen stands locks cpu (passes ∷ all) (c ∷ cs) =
    ((seen c).number ≡ cpu) × Seated seen stands locks passes c
    × EachSeated seen stands locks (suc cpu) all cs
EachSeated seen stands locks cpu [] (c ∷ cs) = ⊥
EachSeated seen stands locks cpu (passes ∷ all) [] = ⊥

-- the processors of the locks, each at the place of its number, as its passes are
pub record AllSeated {T : Type 0} (seen : T → Seen) (stands : T → Ground → Type 0)
    (locks : Locks) (passes : List Passes) (all : List T) : Type 0 where
  pub some : 0 < locks.memory.seats
  pub count : length all ≡ locks.memory.seats
  pub each : EachSeated seen stands locks 0 passes all

-- the entries of a place that its pass has seen: all that stood there when its lock was given back
abbrev pub seen_in : Passes → Place → List Moved
seen_in passes Memory = passes.memory.known.seen
seen_in passes (Area area) =
    option_map_or (λ (pass : PassSeen). pass.known.seen) (slice_get passes.areas.items area) []
seen_in passes Own = []

-- entries were added at the end
abbrev pub Grows : List Moved → List Moved → Type 0
Grows old new = (added : List Moved) × (new ≡ old ++ added)

-- what passes have seen of each place are its first entries
abbrev pub AllSeen : Passes → Ground → Type 0
AllSeen passes base = (place : Place) → Grows (seen_in passes place) (there_in base place)

-- A stamp is the greatest of the processor's entries and of those that its pass for some place has
-- seen. No step follows it.
pub record IsWorn (c : Seen) (passes : Passes) (stamp : ℕ) : Type 0 where
  pub great : 2 ^ 64 ≤ stamp
  pub place : Place
  pub stands : stamp ≡ max (greatest_stamp c.moved) (greatest_stamp (seen_in passes place))

-- How a processor ended: finished, or refused with no claim open, for want of memory or of stamps.
pub record Ended (c : Seen) (passes : Passes) (answer : Result Unit NoRoom) : Type 0 where
  pub finished : OnOk answer (need_of c ≡ Finished)
  pub refused : OnErr answer (c.out ≡ None)
  pub worn : (stamp : ℕ) → answer ≡ Err (Worn stamp) → IsWorn c passes stamp

-- a processor made its entries under the locks, until it ended
pub record Ran {T : Type 0} (seen : T → Seen) (stands : T → Ground → Type 0)
    (NeverFails : T → Type 0) (locks : Locks) (old new : T) (passes : Passes)
    (answer : Result Unit NoRoom) : Type 0 where
  pub seated : Seated seen stands locks passes new
  pub later : StaysLater seen NeverFails old new
  pub grows : Grows (seen old).moved (seen new).moved
  pub ended : Ended (seen new) passes answer
