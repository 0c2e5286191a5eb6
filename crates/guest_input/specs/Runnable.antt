use Rattle.std.specs.Prelude.{Bool, true, false}
use Rattle.event_core.specs.declared.command.Command.{Command}
use Rattle.event_core.specs.declared.command.Command.TheVariants.{Share, Private, Giveback}

-- whether the command can be run today (own rule): all but those that convert a block
abbrev pub is_runnable : Command → Bool
is_runnable (Share name) = false
is_runnable (Private name) = false
is_runnable (Giveback name) = false
is_runnable _ = true
