use Rattle.std.specs.Prelude.{List}
use Rattle.std.specs.List.{AllByRecursion}
use Rattle.event_core.specs.declared.command.Command.{Command}
use Rattle.event_core.specs.declared.command.Command.TheVariants.{Share, Private, Giveback}

-- Scripts whose commands convert no block between private and shared, and give none back to the host
-- (own rule).

abbrev pub ConvertsNothing : Command → Type 0
ConvertsNothing (Share name) = ⊥
ConvertsNothing (Private name) = ⊥
ConvertsNothing (Giveback name) = ⊥
ConvertsNothing _ = Unit {0}

abbrev pub ConvertNothing : List (List Command) → Type 0
ConvertNothing scripts = AllByRecursion (AllByRecursion ConvertsNothing) scripts
