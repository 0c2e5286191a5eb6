-- What a held lock has, for crates above, and a held lock after a write through `state`.
use Rattle.claim_lock.specs.declared.pass.Held.{Held}
use Rattle.claim_lock.specs.Seen.{GripSeen}

-- the state that is held
abbrev pub state_of : {S : Type 0} → Held S → S
state_of held = held.state

-- of which lock it is, what the processor knew, and the state as it was taken
abbrev pub grip_of : {S : Type 0} → Held S → GripSeen S
grip_of held = held.grip

-- what is held, with w for the state
abbrev pub held_with : {S : Type 0} → Held S → S → Held S
held_with held w = record { grip = held.grip; state = w }
