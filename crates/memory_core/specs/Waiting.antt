use Rattle.std.specs.Prelude.{ℕ, List, Option, Bool, not, ◌==◌, ◌&&◌, count_by}
use Rattle.std.specs.Option.{option_and_then}
use Rattle.std.specs.List.{list_any}
use Rattle.guest_base.specs.declared.memory.Block.{Block}
use Rattle.guest_base.specs.declared.memory.Units.{Units}
use Rattle.event_core.specs.declared.boot.Boot.{Boot}
use Rattle.event_core.specs.declared.entry.Entry.{Entry}
use Rattle.event_core.specs.Blocks.{block_state, block_units, is_loose, is_waiting, lowest_waiting}
use Rattle.event_core.specs.Cut.{cut}

-- Blocks that wait for their acceptance (own rule, after unaccepted_memory.c).

-- the guarded units of the lowest waiting block
abbrev pub waiting_units : Boot → List Entry → Option Units
waiting_units boot memory = option_and_then (block_units boot) (lowest_waiting boot memory)

-- whether a waiting block of the cut begins at a page
abbrev pub waits_from : Boot → List Entry → ℕ → Bool
waits_from boot memory first =
    list_any
    (λ (block : Block). block.first == first && is_waiting (block_state boot memory block))
    (cut boot)

-- how many blocks of the cut aren't accepted: they wait, or are being accepted
unfoldable pub waiting_left : Boot → List Entry → ℕ
waiting_left boot memory =
    count_by (λ (block : Block). not (is_loose (block_state boot memory block))) (cut boot)
