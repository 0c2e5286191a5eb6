use Rattle.std.specs.Prelude.{Bool, false, true, Option, Some}
use Rattle.event_core.specs.declared.command.Command.{Command}
use Rattle.event_core.specs.declared.command.Command.TheVariants as command
use Rattle.guest_cpu.specs.declared.wanted.Wanted.{Wanted}
use Rattle.guest_cpu.specs.declared.wanted.Wanted.TheVariants as wanted

-- What commands ask of the memory.

abbrev pub as_command : Wanted → Command
as_command (wanted.Accept start len) = command.Accept start len
as_command (wanted.Query start len) = command.Query start len
as_command (wanted.Alloc name order) = command.Alloc name order
as_command (wanted.Free name) = command.Free name
as_command (wanted.Stray name off) = command.Load name off

-- whether a command maps bytes of a block
abbrev pub is_map : Command → Bool
is_map (command.Map mapping name off len direction mask) = true
is_map _ = false

-- whether a command allocates, so that its claims are for blocks
abbrev pub is_alloc : Option Command → Bool
is_alloc (Some (command.Alloc name order)) = true
is_alloc _ = false
