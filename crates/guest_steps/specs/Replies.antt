use Rattle.std.specs.Prelude.{ℕ, List, Option, Some, Bool, true, false, ◌≡◌}
use Rattle.std.specs.List.{flat_map, list_any}
use Rattle.guest_base.specs.Counts.{Rose}
use Rattle.event_core.specs.declared.entry.Entry.{Entry}
use Rattle.event_core.specs.declared.reply.Reply.{Reply}
use Rattle.event_core.specs.declared.reply.Reply.TheVariants.{Module}
use Rattle.event_core.specs.declared.module_call.ModuleCall.{ModuleCall}
use Rattle.event_core.specs.Calls.{calls_in}

-- What entries of one processor tell of the secure module (own rule).

-- the module calls that the entries report, in order
abbrev pub calls_reported : List Entry → List ModuleCall
calls_reported entries = flat_map (λ (e : Entry). calls_in e.event) entries

-- the reply says that the module failed
abbrev pub is_module : Option Reply → Bool
is_module (Some Module) = true
is_module _ = false

-- whether a command was answered so
abbrev pub some_module : List Entry → Bool
some_module entries = list_any (λ (e : Entry). is_module e.reply) entries

-- a command was answered so only where the count of faults rose
abbrev pub FaultsTold : ℕ → List Entry → ℕ → Type 0
FaultsTold before entries after = some_module entries ≡ true → Rose before after
