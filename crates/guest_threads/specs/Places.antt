use Rattle.std.specs.Prelude.{List, [], ◌∷◌, ◌++◌, Option, None, Some, Result, Err, IsOk, ◌≡◌, ◌≢◌}
use Rattle.event_core.specs.declared.clock.NoRoom.{NoRoom}
use Rattle.guest_steps.specs.Ground.{Ground}
use Rattle.guest_steps.specs.Seen.{Seen}
use Rattle.guest_threads.specs.declared.locks.Locks.{Locks}
use Rattle.guest_threads.specs.declared.locks.Passes.{Passes}
use Rattle.guest_threads.specs.declared.places.Place.{Place}
use Rattle.guest_threads.specs.Seated.{Seated, Ran}

-- The places at which threads run processors (own rule).

-- the passes are there, and they are this processor's
abbrev pub SeatedBy : {T : Type 0} → (T → Seen) → (T → Ground → Type 0) → Locks
    → Option Passes → T → Type 0
SeatedBy seen stands locks None c = ⊥
SeatedBy seen stands locks (Some passes) c = Seated seen stands locks passes c

abbrev pub SeatedAt : {T : Type 0} → (T → Seen) → (T → Ground → Type 0) → Locks
    → Place T → Type 0
SeatedAt seen stands locks place = SeatedBy seen stands locks place.passes place.processor

-- the passes are there, with which a processor ran
abbrev pub RanBy : {T : Type 0} → (T → Seen) → (T → Ground → Type 0) → (T → Type 0)
    → Locks → T → T → Option Passes → Result Unit NoRoom → Type 0
RanBy seen stands NeverFails locks old new None answer = ⊥
RanBy seen stands NeverFails locks old new (Some passes) answer =
    Ran seen stands NeverFails locks old new passes answer

abbrev pub RanAt : {T : Type 0} → (T → Seen) → (T → Ground → Type 0) → (T → Type 0)
    → Locks → Place T → Place T → Type 0
RanAt seen stands NeverFails locks old new =
    RanBy seen stands NeverFails locks old.processor new.processor new.passes new.answer

-- passes are there
abbrev pub HasPasses : {T : Type 0} → Place T → Type 0
HasPasses place = place.passes ≢ None

-- the processor at a place is finished, or was refused
abbrev pub IsFinished : {T : Type 0} → Place T → Type 0
IsFinished place = IsOk place.answer

abbrev pub IsRefused : {T : Type 0} → NoRoom → Place T → Type 0
IsRefused refusal place = place.answer ≡ Err refusal

-- the processors and the passes of places, in the order of their numbers: the last one's place
-- is the first
abbrev pub processors_at : {T : Type 0} → List (Place T) → List T
processors_at [] = []
processors_at (place ∷ places) = processors_at places ++ place.processor ∷ []

abbrev pub passes_at : {T : Type 0} → List (Place T) → List (Option Passes)
passes_at [] = []
passes_at (place ∷ places) = passes_at places ++ place.passes ∷ []
