use Rattle.std.specs.Prelude.{ℕ, List, length, ◌+◌, ◌/◌, ◌≤◌}
use Rattle.event_core.specs.declared.module_call.ModuleCall.{ModuleCall}

-- the most calls that an acceptance of this many pages makes: one Small call for each page, and one
-- Large and one Huge call for each 2 MiB and 1 GiB, in case they aren't done (own rule)
abbrev pub most_calls_of : ℕ → ℕ
most_calls_of pages = pages + pages / 512 + pages / 262144

-- room for calls is kept but for the calls that were made: each takes at most one place (own rule)
abbrev pub KeepsRoom : List ModuleCall → List ModuleCall → ℕ → ℕ → Type 0
KeepsRoom before after old new = old + length before ≤ new + length after
