-- A log of module calls.
use Rattle.std.specs.Prelude.{ℕ, List}
use Rattle.event_core.specs.declared.module_call.ModuleCall.{ModuleCall}

-- a log of module calls: those made, and how many more it has room for
pub record Logged : Type 0 where
  pub calls : List ModuleCall
  pub room : ℕ

-- the calls of a log
abbrev pub calls_in : Logged → List ModuleCall
calls_in log = log.calls

-- the room of a log
abbrev pub room_in : Logged → ℕ
room_in log = log.room
