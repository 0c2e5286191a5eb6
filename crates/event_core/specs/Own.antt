use Rattle.std.specs.Prelude.{ℕ, List, [], ◌∷◌, Option, None, Some, true, false, not, ◌+◌, is_some, count_by, slice_get, unwrap_or, fold, map, filter, bytes_eq, if◌then◌else◌}
use Rattle.std.specs.Option.{option_and_then, option_map_or}
use Rattle.std.specs.List.{repeat}
use Rattle.guest_base.specs.declared.memory.Block.{Block}
use Rattle.guest_base.specs.declared.transfer.Direction.{Direction}
use Rattle.event_core.specs.declared.command.Command.{Command}
use Rattle.event_core.specs.declared.command.Command.TheVariants as command
use Rattle.event_core.specs.declared.event.Event.{Event}
use Rattle.event_core.specs.declared.event.Event.TheVariants as event
use Rattle.event_core.specs.declared.event.ConvertEnd.TheVariants as end
use Rattle.event_core.specs.declared.reply.Reply.{Reply}
use Rattle.event_core.specs.declared.reply.Reply.TheVariants.{Done}
use Rattle.event_core.specs.Bytes.{written, zeros}
use Rattle.event_core.specs.Holdings.{Sharing, PrivateBlock, SharedBlock, HalfBlock, Holding, Mapping, Own, block_named, mapping_named, same_block}
use Rattle.event_core.specs.Moved.{Moved}

-- What a processor's own entries tell of it.

-- how many commands have their reply
abbrev pub replied : List Moved → ℕ
replied own = count_by (λ (m : Moved). is_some m.entry.reply) own

-- a processor's script; a number without a script has no command
abbrev pub script_of : List (List Command) → ℕ → List Command
script_of scripts cpu = unwrap_or (slice_get scripts cpu) []

-- a processor's present command: the one whose number is the count of its replies
abbrev pub present : List (List Command) → ℕ → List Moved → Option Command
present scripts cpu own = option_and_then (λ script. slice_get script (replied own)) (slice_get scripts cpu)

-- ---- what an entry of a command changes

-- the holdings of a block with another sharing, and with bytes written from a place on
abbrev pub share_if : Block → Sharing → Holding → Holding
share_if block sharing h = if same_block h.block block then record h { sharing = sharing } else h

abbrev pub with_sharing : Block → Sharing → Own → Own
with_sharing block sharing own = record own { blocks = map (share_if block sharing) own.blocks }

abbrev pub write_if : Block → ℕ → List ℕ → Holding → Holding
write_if block at more h = if same_block h.block block then record h { bytes = written h.bytes at more } else h

abbrev pub with_bytes_at : Block → ℕ → List ℕ → Own → Own
with_bytes_at block at more own = record own { blocks = map (write_if block at more) own.blocks }

abbrev pub clear_if : Block → Holding → Holding
clear_if block h = if same_block h.block block then record h { bytes = zeros } else h

abbrev pub with_zeros : Block → Own → Own
with_zeros block own = record own { blocks = map (clear_if block) own.blocks }

-- a block that was got is private and reads as zero; one that was freed is no longer had
abbrev pub after_alloc : List ℕ → Event → Own → Own
after_alloc name (event.Got block) own = record own { blocks = record { name = name; block = block; sharing = PrivateBlock; bytes = zeros } ∷ own.blocks }
after_alloc name _ own = own

abbrev pub without_block : List ℕ → Own → Own
without_block name own = record own { blocks = filter (λ (h : Holding). not (bytes_eq h.name name)) own.blocks }

abbrev pub after_free : List ℕ → Event → Own → Own
after_free name (event.Freed block) own = without_block name own
after_free name _ own = own

-- bytes are written where the command is done; a refused one writes none
abbrev pub after_write : List ℕ → ℕ → List ℕ → Option Reply → Own → Own
after_write name off more (Some Done) own = option_map_or (λ (h : Holding). with_bytes_at h.block off more own) (block_named own name) own
after_write name off more _ own = own

-- a conversion leaves the block shared, private or half, or as it was where the module refused it; a block that became private
-- reads as zero
abbrev pub after_share : Event → Own → Own
after_share (event.ConvertBegin block to) own = record own { converting = Some block }
after_share (event.ConvertEnd block calls end.Converted) own = with_sharing block SharedBlock (record own { converting = None })
after_share (event.ConvertEnd block calls end.Refused) own = record own { converting = None }
after_share (event.ConvertEnd block calls (end.Half page)) own = with_sharing block HalfBlock (record own { converting = None })
after_share _ own = own

abbrev pub after_private : Event → Own → Own
after_private (event.ConvertBegin block to) own = record own { converting = Some block }
after_private (event.ConvertEnd block calls end.Converted) own = with_zeros block (with_sharing block PrivateBlock (record own { converting = None }))
after_private (event.ConvertEnd block calls end.Refused) own = record own { converting = None }
after_private (event.ConvertEnd block calls (end.Half page)) own = with_sharing block HalfBlock (record own { converting = None })
after_private _ own = own

-- a block that was given back is no longer had; one that the module refused stays
abbrev pub after_giveback : List ℕ → Event → Own → Own
after_giveback name (event.ConvertBegin block to) own = record own { converting = Some block }
after_giveback name (event.ConvertEnd block calls end.Converted) own = without_block name (record own { converting = None })
after_giveback name (event.ConvertEnd block calls end.Refused) own = record own { converting = None }
after_giveback name (event.ConvertEnd block calls (end.Half page)) own = record own { converting = None }
after_giveback name _ own = own

-- a look that found slots makes a mapping of the named block; one that found none is counted
abbrev pub after_map : List ℕ → List ℕ → ℕ → Direction → Event → Own → Own
after_map mapping name off direction (event.Looked area (Some run)) own =
    option_map_or (λ (h : Holding). record own { mappings = record { name = mapping; run = run; block = h.block; off = off; direction = direction } ∷ own.mappings }) (block_named own name) own
after_map mapping name off direction (event.Looked area None) own = record own { looks = own.looks + 1 }
after_map mapping name off direction _ own = own

-- what was copied out stands in the mapping's block, from an offset in the mapping on
abbrev pub copied_out : List ℕ → ℕ → List ℕ → Own → Own
copied_out mapping off more own = option_map_or (λ (m : Mapping). with_bytes_at m.block (m.off + off) more own) (mapping_named own mapping) own

abbrev pub after_sync : List ℕ → List ℕ → Event → Own → Own
after_sync mapping more (event.CopiedOut run off len) own = copied_out mapping off more own
after_sync mapping more _ own = own

-- a released mapping is no longer had
abbrev pub without_mapping : List ℕ → Own → Own
without_mapping mapping own = record own { mappings = filter (λ (m : Mapping). not (bytes_eq m.name mapping)) own.mappings }

abbrev pub after_unmap : List ℕ → List ℕ → Event → Own → Own
after_unmap mapping more (event.Released run true) own = without_mapping mapping (copied_out mapping 0 more own)
after_unmap mapping more (event.Released run false) own = without_mapping mapping own
after_unmap mapping more _ own = own

-- ---- the fold

-- what an entry of a command tells
abbrev pub told : Option Command → Moved → Own → Own
told (Some (command.Alloc name order)) m own = after_alloc name m.entry.event own
told (Some (command.Free name)) m own = after_free name m.entry.event own
told (Some (command.Write name off hex)) m own = after_write name off hex m.entry.reply own
told (Some (command.Fill name off len byte)) m own = after_write name off (repeat len (byte ∷ [])) m.entry.reply own
told (Some (command.Share name)) m own = after_share m.entry.event own
told (Some (command.Private name)) m own = after_private m.entry.event own
told (Some (command.Giveback name)) m own = after_giveback name m.entry.event own
told (Some (command.Map mapping name off len direction mask)) m own = after_map mapping name off direction m.entry.event own
told (Some (command.SyncCpu mapping off len)) m own = after_sync mapping m.bytes m.entry.event own
told (Some (command.Unmap mapping skip)) m own = after_unmap mapping m.bytes m.entry.event own
told _ m own = own

-- a reply ends a command, and its looks count no more
abbrev pub ended : Option Reply → Own → Own
ended (Some reply) own = record own { looks = 0 }
ended None own = own

-- what a processor has after one more entry of its own; the entry's command is that of its number in the script
abbrev pub own_step : List Command → Own → Moved → Own
own_step script own m = ended m.entry.reply (told (slice_get script m.entry.cmd) m own)

-- what a processor has at first
abbrev pub nothing : Own
nothing = record { blocks = []; mappings = []; looks = 0; converting = None }

-- what a processor with this script has after its entries
unfoldable pub own_of : List Command → List Moved → Own
own_of script own = fold (own_step script) nothing own
