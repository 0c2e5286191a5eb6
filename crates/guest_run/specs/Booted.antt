use Rattle.std.specs.Prelude.{ℕ, List, Option}
use Rattle.guest_base.specs.declared.memory.CpuNo.{CpuNo}
use Rattle.event_core.specs.declared.boot.Boot.{Boot}
use Rattle.event_core.specs.declared.command.Command.{Command}
use Rattle.event_core.specs.Boot.{BootRight}
use Rattle.event_core.specs.Table.{Bits}
use Rattle.guest_map.specs.declared.map.GuestMap.{GuestMap}
use Rattle.guest_words.specs.Words.{Named, cpus_in}
use Rattle.guest_input.specs.Files.{AreScriptsOf, IsGiven, IsOrderOf}

-- What a run is of (own rule).

-- The run of a boot and scripts is that of the files that are named, wherever their contents are
-- known: boot is that of the map and of the table, with the slots and areas of the arguments and a
-- processor for each script; the scripts are those of the script files; and the order is that of
-- the order file, where one is named.
pub record BootedBy (holds : List ℕ → Option (List ℕ)) (named : Named) (order : Option (List CpuNo))
    (boot : Boot) (scripts : List (List Command)) : Type 0 where
  pub order_is : IsOrderOf holds named order
  pub map : GuestMap
  pub table : Option Bits
  pub given : IsGiven holds named map table
  pub right
      : BootRight map.descriptors map.hosts table named.slots named.areas (cpus_in named) boot
  pub scripts_are : AreScriptsOf holds named scripts
