-- The map that the small guest of the written histories is booted from.
use Rattle.std.specs.Prelude.{List, [], ◌∷◌}
use Rattle.event_core.specs.declared.boot.Descriptor.{Descriptor}

-- 4 MiB of conventional memory, and 8 MiB of unaccepted memory behind it (UEFI memory types 7 and 15)
abbrev pub small_map : List Descriptor
small_map = record { kind = 7; start = 0; pages = 1024 } ∷ record { kind = 15; start = 4194304; pages = 2048 } ∷ []
