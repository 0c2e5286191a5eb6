use Rattle.std.specs.Prelude.{ℕ, List, Bool, true, false, ◌^◌, fold, if◌then◌else◌}
use Rattle.guest_base.specs.Ranges.{in_range}
use Rattle.guest_base.specs.declared.memory.Block.{Block}
use Rattle.event_core.specs.declared.event.Event.{Event}
use Rattle.event_core.specs.declared.event.Event.TheVariants.{Report, ConvertBegin, ConvertEnd}
use Rattle.event_core.specs.declared.event.ConvertEnd.TheVariants.{Converted, Refused, Half}
use Rattle.event_core.specs.declared.entry.Entry.{Entry}
use Rattle.event_core.specs.Calls.{accepts_page, gives_back}

-- Pages that are neither private nor shared (own rule): those of a block in conversion, of one whose conversion stopped half way,
-- and pages that were given back and not accepted since. A conversion that the module refused leaves its pages as they were.

-- a page of the block
abbrev pub in_block : ℕ → Block → Bool
in_block page block = in_range block.first (2 ^ block.order) page

abbrev pub absent_after : ℕ → Bool → Event → Bool
absent_after page absent (ConvertBegin block to) = if in_block page block then true else absent
absent_after page absent (ConvertEnd block calls Converted) = if in_block page block then gives_back calls else absent
absent_after page absent (ConvertEnd block calls Refused) = if in_block page block then false else absent
absent_after page absent (ConvertEnd block calls (Half stop)) = if in_block page block then true else absent
absent_after page absent (Report run calls stopped next) = if accepts_page calls page then false else absent
absent_after page absent _ = absent

-- of the begins and ends of conversions of the page's blocks, and the reports that accepted the page, the last is a begin, an end
-- half way, or one that gave the page back
unfoldable pub is_absent : List Entry → ℕ → Bool
is_absent memory page = fold (λ absent (e : Entry). absent_after page absent e.event) false memory
