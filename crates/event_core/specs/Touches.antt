use Rattle.std.specs.Prelude.{ℕ, List, [], ◌∷◌, Option, None, Some, true, ◌+◌, ◌-◌, ◌*◌, ◌/◌, ◌^◌, length, min}
use Rattle.std.specs.Option.{option_map_or}
use Rattle.guest_base.specs.declared.limits.TheConstants.{PAGE_BYTES}
use Rattle.guest_base.specs.declared.memory.Pages.{Pages}
use Rattle.guest_base.specs.declared.memory.Block.{Block}
use Rattle.event_core.specs.declared.boot.Boot.{Boot}
use Rattle.event_core.specs.declared.command.Command.{Command}
use Rattle.event_core.specs.declared.command.Command.TheVariants as command
use Rattle.event_core.specs.declared.event.Event.{Event}
use Rattle.event_core.specs.declared.event.Event.TheVariants as event
use Rattle.event_core.specs.declared.reply.Reply.{Reply}
use Rattle.event_core.specs.Holdings.{Holding, Mapping, Own, block_named, mapping_named, block_bytes}
use Rattle.event_core.specs.Refusals.{refusal_of}

-- The pages that an entry touches as private memory of the guest (own rule): to hand out a block every page of it is zeroed, reads
-- and writes touch the pages of their bytes, and so do copies into and out of the pool, on the block's side.

-- the pages of this many bytes of a block from an offset on
abbrev pub pages_of_bytes : Block → ℕ → ℕ → Pages
pages_of_bytes block off len =
    let start = PAGE_BYTES * block.first + off in
    record { first = start / PAGE_BYTES; count = (start + len + 4095) / PAGE_BYTES - start / PAGE_BYTES }

abbrev pub in_named : Own → List ℕ → ℕ → ℕ → List Pages
in_named own name off len = option_map_or (λ (h : Holding). pages_of_bytes h.block off len ∷ []) (block_named own name) []

-- a load's bytes, up to the end of its block
abbrev pub in_loaded : Own → List ℕ → ℕ → List Pages
in_loaded own name off = option_map_or (λ (h : Holding). pages_of_bytes h.block off (min 8 (block_bytes h.block - off)) ∷ []) (block_named own name) []

abbrev pub in_mapped : Own → List ℕ → ℕ → ℕ → List Pages
in_mapped own mapping off len = option_map_or (λ (m : Mapping). pages_of_bytes m.block (m.off + off) len ∷ []) (mapping_named own mapping) []

-- what a command touches where it isn't refused
abbrev pub by_command : Own → Command → Event → List Pages
by_command own (command.Alloc name order) (event.Got block) = record { first = block.first; count = 2 ^ block.order } ∷ []
by_command own (command.Read name off len) e = in_named own name off len
by_command own (command.Write name off hex) e = in_named own name off (length hex)
by_command own (command.Fill name off len byte) e = in_named own name off len
by_command own (command.Load name off) e = in_loaded own name off
by_command own (command.Map mapping name off len direction mask) (event.Looked area (Some run)) = in_named own name off len
by_command own (command.SyncDev mapping off len) (event.CopiedIn run at count) = in_mapped own mapping off len
by_command own (command.SyncCpu mapping off len) (event.CopiedOut run at count) = in_mapped own mapping off len
by_command own (command.Unmap mapping skip) (event.Released run true) = in_mapped own mapping 0 run.len
by_command own _ e = []

-- a refused command touches nothing
abbrev pub unless_refused : Option Reply → List Pages → List Pages
unless_refused None pages = pages
unless_refused (Some refusal) pages = []

-- the pages that an event of a command touches, of a processor that has this
abbrev pub touched_by : Boot → Own → Option Command → Event → List Pages
touched_by boot own None e = []
touched_by boot own (Some c) e = unless_refused (refusal_of boot own c) (by_command own c e)

-- the page behind its block that a load strays into
abbrev pub strayed_into : Event → Option ℕ
strayed_into (event.Touched page found) = Some page.0
strayed_into _ = None
