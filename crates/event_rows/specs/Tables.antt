use Rattle.std.specs.Prelude.{List, [], ◌∷◌}
use Rattle.event_core.specs.declared.boot.Descriptor.{Descriptor}
use Rattle.event_core.specs.Table.{Bits}

-- Tables that an earlier kernel handed on, and the maps that they go with.

-- 4 MiB of unaccepted memory (UEFI memory type 15), of which the earlier kernel accepted both units of 2 MiB
abbrev pub giving_map : List Descriptor
giving_map = record { kind = 15; start = 0; pages = 1024 } ∷ []

abbrev pub giving_table : Bits
giving_table = record { unit = 2097152; base = 0; bits = 0 ∷ [] }

-- 8 MiB of it, of which the earlier kernel accepted the last two units
abbrev pub meanwhile_map : List Descriptor
meanwhile_map = record { kind = 15; start = 0; pages = 2048 } ∷ []

abbrev pub meanwhile_table : Bits
meanwhile_table = record { unit = 2097152; base = 0; bits = 3 ∷ [] }

-- units of 4 KiB from the last page in front of the small map's unaccepted memory on: the second one's bit is set, or the first
-- one's too
abbrev pub edge_table : Bits
edge_table = record { unit = 4096; base = 4190208; bits = 2 ∷ [] }

abbrev pub unfit_table : Bits
unfit_table = record edge_table { bits = 3 ∷ [] }
