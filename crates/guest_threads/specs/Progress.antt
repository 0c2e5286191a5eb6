use Rattle.std.specs.Prelude.{Result, Ok, Err, ◌≡◌}
use Rattle.event_core.specs.declared.clock.NoRoom.{NoRoom}
use Rattle.guest_steps.specs.Ground.{Ground}
use Rattle.guest_steps.specs.Seen.{Seen}
use Rattle.guest_threads.specs.declared.locks.Locks.{Locks}
use Rattle.guest_threads.specs.declared.locks.Passes.{Passes}
use Rattle.guest_threads.specs.declared.one.Progress.{Progress}
use Rattle.guest_threads.specs.declared.one.Progress.TheVariants.{GoesOn, Ended}
use Rattle.guest_threads.specs.Seated.{Seated, Grows, Ended as EndedSo}

-- What comes of a step of a processor that shares the memory and the areas (own rule).

-- the same processor, perhaps with more entries
pub record IsSame {T : Type 0} (seen : T → Seen) (NeverFails : T → Type 0) (old new : T)
    : Type 0 where
  pub boot : (seen new).boot ≡ (seen old).boot
  pub number : (seen new).number ≡ (seen old).number
  pub script : (seen new).script ≡ (seen old).script
  pub made_before : (seen new).made_before ≡ (seen old).made_before
  pub faults_before : (seen new).faults_before ≡ (seen old).faults_before
  pub never_fails : NeverFails old → NeverFails new
  pub grows : Grows (seen old).moved (seen new).moved

-- the processor goes on with its passes, or it ended
abbrev pub Progresses : {T : Type 0} → (T → Seen) → (T → Ground → Type 0) → (T → Type 0)
    → Locks → T → T → Progress → Type 0
Progresses seen stands NeverFails locks old new (GoesOn passes) =
    IsSame seen NeverFails old new × Seated seen stands locks passes new
Progresses seen stands NeverFails locks old new (Ended driven) =
    IsSame seen NeverFails old new × Seated seen stands locks driven.passes new
    × EndedSo (seen new) driven.passes driven.answer

-- a step that can't be blocked: the processor goes on, or it was refused
abbrev pub gone_on : Passes → Result Unit NoRoom → Progress
gone_on passes (Ok done) = GoesOn passes
gone_on passes (Err refusal) = Ended (record { passes = passes; answer = Err refusal })
