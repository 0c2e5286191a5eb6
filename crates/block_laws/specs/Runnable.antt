use Rattle.std.specs.Prelude.{List, All}
use Rattle.event_core.specs.declared.command.Command.{Command}
use Rattle.event_core.specs.ReadableScript.{ReadableScript}
use Rattle.block_laws.specs.Unconverting.{ConvertsNothing}

-- A script that a command file can tell, and whose commands convert nothing (own rule): the scripts
-- that can be run today.
pub record IsRunnable (script : List Command) : Type 0 where
  pub readable : ReadableScript script
  pub unconverting : All ConvertsNothing script
