use Rattle.std.specs.Prelude.{ℕ, List, Bool, true, false, ◌==◌, fold, if◌then◌else◌}
use Rattle.guest_base.specs.declared.memory.Block.{Block}
use Rattle.event_core.specs.declared.event.Event.{Event}
use Rattle.event_core.specs.declared.event.Event.TheVariants.{Got, Freed}
use Rattle.event_core.specs.declared.entry.Entry.{Entry}
use Rattle.event_core.specs.Holdings.{same_block}

-- Who owns a block (own rule, after the page allocator).

-- after an event of its own a processor owns the block that it got, and no more the one that it
-- freed
abbrev pub owned_by : Block → Bool → Event → Bool
owned_by block owned (Got got) = if same_block got block then true else owned
owned_by block owned (Freed freed) = if same_block freed block then false else owned
owned_by block owned _ = owned

-- whether a processor owns a block: of its Gots and Freeds of this block, the last is a Got
unfoldable pub is_owner : List Entry → ℕ → Block → Bool
is_owner memory cpu block =
    fold (λ owned (e : Entry). if e.cpu.0 == cpu then owned_by block owned e.event else owned)
    false memory
