use Rattle.std.specs.Prelude.{List, All, length, ◌≡◌, ◌≤◌, ◌<◌}
use Rattle.guest_base.specs.declared.limits.TheConstants.{MAX_CPUS}
use Rattle.event_core.specs.declared.command.Command.{Command}
use Rattle.event_core.specs.declared.module_call.ModuleCall.{ModuleCall}
use Rattle.event_laws.specs.Coming.{BootMade}
use Rattle.block_laws.specs.Runnable.{IsRunnable}
use Rattle.guest_boot.specs.declared.world.World.{World}
use Rattle.guest_boot.specs.Worlds.{WorldStands}
use Rattle.guest_runs.specs.Asking.{OthersUnmade, first_made}

-- What a run begins with (own rule).

-- A world as boot left it of a map that keeps the rules and a table that fits it, with a script for
-- each of its 1 to 64 processors, and at least as many ports. The first port has made boot's calls,
-- and no other has made one.
pub record Begins {P : Type 0} (made : P → List ModuleCall) (world : World)
    (scripts : List (List Command)) (ports : List P) : Type 0 where
  pub stands : WorldStands world
  pub boot_made : BootMade world.boot
  pub cpus : world.boot.cpus ≡ length scripts
  pub some : 0 < length scripts
  pub few : length scripts ≤ MAX_CPUS
  pub runnable : All IsRunnable scripts
  pub enough : length scripts ≤ length ports
  pub first : first_made made ports ≡ world.boot.calls
  pub others : OthersUnmade made ports
