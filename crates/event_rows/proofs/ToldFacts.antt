use Rattle.std.proofs.Common.{◌≡◌, ◌≢◌, ℕ, Option, None, Some, List, [], ◌∷◌, refl, subst}
use Rattle.std.specs.Prelude.{slice_get, codes, take, drop}
use Rattle.guest_base.specs.Search.{first_such, each_such, any_such, count_such, row_length}
use Rattle.guest_base.specs.Blocks.{lowest_free}
use Rattle.event_core.specs.Units.{guarded, bit_after, first_run, units_cleared}
use Rattle.event_core.specs.Acceptance.{fits}
use Rattle.event_core.specs.Claims.{claim_of, in_the_way}
use Rattle.event_core.specs.Own.{own_of, script_of}
use Rattle.event_core.specs.Pool.{live_runs, hint_of, run_found}
use Rattle.event_core.specs.PoolBytes.{pool_byte, bytes_moved}
use Rattle.event_core.specs.Absent.{is_absent}
use Rattle.event_core.specs.Cut.{cut, blocks_from, order_at}
use Rattle.event_core.specs.Blocks.{waits_at_boot, block_state, lowest_waiting, in_flight_with, is_owned, free_page}
use Rattle.event_core.specs.MemoryRows.{pending_in, some_unaccepted}
use Rattle.event_core.specs.BlockRows.{alloc_event}
use Rattle.event_core.specs.ConvertRows.{aim_of, is_shared_block, convert_end, pending_in_block}
use Rattle.event_core.specs.OwnRows.{found_at}
use Rattle.event_core.specs.declared.entry.Entry.{Entry}
use Rattle.event_core.specs.declared.boot.Boot.{Boot}
use Rattle.event_core.specs.declared.command.Command.{Command}
use Rattle.event_core.specs.declared.command.Command.TheVariants as command
use Rattle.event_core.specs.declared.reply.Found.{Found}
use Rattle.event_core.specs.declared.reply.Reply.{Reply}
use Rattle.event_core.specs.declared.reply.Reply.TheVariants as reply
use Rattle.event_core.specs.declared.event.Event.TheVariants as event
use Rattle.event_core.specs.declared.entry.Place.TheVariants as place
use Rattle.guest_base.specs.declared.transfer.Direction.TheVariants.{Both}
use Rattle.event_core.specs.Bytes.{row_of, written, zeros}
use Rattle.event_core.specs.Holdings.{Own, Holding, Mapping, PrivateBlock, block_named, mapping_named}
use Rattle.event_core.specs.OwnRows.{strayed_bytes}
use Rattle.event_core.specs.Moved.{Moved}
use Rattle.event_core.specs.Pool.{pool_place}
use Rattle.event_core.specs.Before.{own_before, place_before, StandsAt}
use Rattle.event_core.specs.BytesTold.{BytesTold}
use Rattle.event_rows.proofs.RowLemmas.{OfSome, of_some}
use Rattle.event_rows.proofs.SplitLemmas.{AtEach, each-entry}
use Rattle.event_rows.specs.Written.{entry_at, one_page}
use Rattle.event_rows.specs.OnePage.{page_guest, page_script, page_history}
use Rattle.event_rows.specs.Bounces.{pool_guest, bounce_script, bounce_history, slots_at}

-- Which bytes the replies of a written history tell, entry by entry.

-- the bytes of a load: those of the block, or with the zeros behind it
abbrev loaded_row : Option Found → ℕ → Holding → List ℕ
loaded_row None off h = row_of h.bytes off 8
loaded_row (Some found) off h = strayed_bytes h off

abbrev Tells : Boot → Own → List Moved → Option Command → Option Reply → Type 0
Tells boot own there (Some (command.Read name off len)) (Some (reply.Hex bytes)) = OfSome (λ (h : Holding). bytes ≡ row_of h.bytes off len) (block_named own name)
Tells boot own there (Some (command.Load name off)) (Some (reply.Loaded bytes after)) = OfSome (λ (h : Holding). bytes ≡ loaded_row after off h) (block_named own name)
Tells boot own there (Some (command.DRead mapping off len)) (Some (reply.Hex bytes)) = OfSome (λ (m : Mapping). bytes ≡ row_of (pool_byte boot there) (pool_place boot m.run off) len) (mapping_named own mapping)
Tells boot own there (Some (command.HostRead off len)) (Some (reply.Hex bytes)) = bytes ≡ row_of (pool_byte boot there) off len
Tells boot own there _ _ = Unit {0}

abbrev EntryTells : Boot → List (List Command) → List Entry → Entry → Type 0
EntryTells boot scripts before entry = Tells boot (own_before boot scripts before entry) (place_before boot scripts before entry) (slice_get (script_of scripts entry.cpu.0) entry.cmd) entry.reply

-- for the command and the reply that an entry has
with_both : (boot : Boot) (own : Own) (there : List Moved) (c d : Option Command) (r s : Option Reply) → Tells boot own there c r → c ≡ d → r ≡ s → Tells boot own there d s
with_both boot own there c d r s tells command reply = subst (λ (r : Option Reply). Tells boot own there d r) reply (subst (λ (c : Option Command). Tells boot own there c r) command tells)

entry_tells : (boot : Boot) (scripts : List (List Command)) (entries : List Entry) → AtEach (EntryTells boot scripts) [] entries → (before : List Entry) (entry : Entry) (c : Command) (r : Reply) → StandsAt scripts entries before entry c → entry.reply ≡ Some r → Tells boot (own_before boot scripts before entry) (place_before boot scripts before entry) (Some c) (Some r)
entry_tells boot scripts entries all before entry c r stands replied =
    with_both boot (own_before boot scripts before entry) (place_before boot scripts before entry) (slice_get (script_of scripts entry.cpu.0) entry.cmd) (Some c) entry.reply (Some r) (each-entry (EntryTells boot scripts) entries all before stands.later entry stands.split) stands.its replied

bytes-told : (boot : Boot) (scripts : List (List Command)) (entries : List Entry) → AtEach (EntryTells boot scripts) [] entries → BytesTold boot scripts entries
bytes-told boot scripts entries all = record {
  read = λ before entry name bytes off len h stands replied has. of_some (λ (h : Holding). bytes ≡ row_of h.bytes off len) (block_named (own_before boot scripts before entry) name) h (entry_tells boot scripts entries all before entry (command.Read name off len) (reply.Hex bytes) stands replied) has;
  loaded = λ before entry name bytes off h stands replied has. of_some (λ (h : Holding). bytes ≡ row_of h.bytes off 8) (block_named (own_before boot scripts before entry) name) h (entry_tells boot scripts entries all before entry (command.Load name off) (reply.Loaded bytes None) stands replied) has;
  strayed = λ before entry name bytes off found h stands replied has. of_some (λ (h : Holding). bytes ≡ strayed_bytes h off) (block_named (own_before boot scripts before entry) name) h (entry_tells boot scripts entries all before entry (command.Load name off) (reply.Loaded bytes (Some found)) stands replied) has;
  device = λ before entry mapping bytes off len m stands replied has. of_some (λ (m : Mapping). bytes ≡ row_of (pool_byte boot (place_before boot scripts before entry)) (pool_place boot m.run off) len) (mapping_named (own_before boot scripts before entry) mapping) m (entry_tells boot scripts entries all before entry (command.DRead mapping off len) (reply.Hex bytes) stands replied) has;
  host = λ before entry bytes off len stands replied. entry_tells boot scripts entries all before entry (command.HostRead off len) (reply.Hex bytes) stands replied;
}

-- ---- the history of one page: its reads are the third and the last entry, and a load strays in the fourth

page-tells : AtEach (EntryTells page_guest (page_script ∷ [])) [] (page_history (0 ∷ 1 ∷ 2 ∷ 0 ∷ []))
unfolding first_such each_such any_such count_such row_length guarded bit_after first_run units_cleared claim_of in_the_way own_of pool_byte bytes_moved is_absent cut blocks_from order_at waits_at_boot block_state lowest_waiting in_flight_with is_owned free_page found_at fits aim_of is_shared_block convert_end pending_in_block pending_in some_unaccepted live_runs hint_of run_found alloc_event lowest_free
page-tells = (tt, (tt, (refl, (refl, (tt, (tt, (tt, (tt, (refl, tt)))))))))

pub page-told : BytesTold page_guest (page_script ∷ []) (page_history (0 ∷ 1 ∷ 2 ∷ 0 ∷ []))
page-told = bytes-told page_guest (page_script ∷ []) (page_history (0 ∷ 1 ∷ 2 ∷ 0 ∷ [])) page-tells

-- the block with its written bytes
abbrev written_block : Holding
written_block = record { name = codes "a"; block = one_page 0; sharing = PrivateBlock; bytes = written zeros 1 (1 ∷ 2 ∷ []) }

pub page_mistold-not : (read : List ℕ) → read ≢ 0 ∷ 1 ∷ 2 ∷ 0 ∷ [] → BytesTold page_guest (page_script ∷ []) (page_history read) → ⊥
unfolding first_such each_such any_such count_such row_length guarded bit_after first_run units_cleared claim_of in_the_way own_of pool_byte bytes_moved is_absent cut blocks_from order_at waits_at_boot block_state lowest_waiting in_flight_with is_owned free_page found_at fits aim_of is_shared_block convert_end pending_in_block pending_in some_unaccepted live_runs hint_of run_found alloc_event lowest_free
page_mistold-not read other told =
    other (told.read (take 2 (page_history read)) (entry_at 3 2 place.Own event.Own (Some (reply.Hex read))) (codes "a") read 0 4 written_block (record { later = drop 3 (page_history read); split = refl; its = refl }) refl refl)

-- ---- the bounces: the block is read three times, and the device and the host read the pool once each

bounce-tells : AtEach (EntryTells pool_guest (bounce_script ∷ [])) [] (bounce_history (1 ∷ 170 ∷ 187 ∷ 204 ∷ 5 ∷ []) (7 ∷ 170 ∷ []))
unfolding first_such each_such any_such count_such row_length guarded bit_after first_run units_cleared claim_of in_the_way own_of pool_byte bytes_moved is_absent cut blocks_from order_at waits_at_boot block_state lowest_waiting in_flight_with is_owned free_page found_at fits aim_of is_shared_block convert_end pending_in_block pending_in some_unaccepted live_runs hint_of run_found alloc_event lowest_free
bounce-tells = (tt, (tt, (tt, (tt, (tt, (refl, (tt, (tt, (tt, (refl, (tt, (tt, (tt, (refl, (tt, (tt, (refl, (tt, (refl, (tt, (tt, (tt, tt))))))))))))))))))))))

pub bounce-told : BytesTold pool_guest (bounce_script ∷ []) (bounce_history (1 ∷ 170 ∷ 187 ∷ 204 ∷ 5 ∷ []) (7 ∷ 170 ∷ []))
bounce-told = bytes-told pool_guest (bounce_script ∷ []) (bounce_history (1 ∷ 170 ∷ 187 ∷ 204 ∷ 5 ∷ []) (7 ∷ 170 ∷ [])) bounce-tells

-- the mapping that the device reads
abbrev third_mapping : Mapping
third_mapping = record { name = codes "m"; run = slots_at 2 2; block = one_page 64; off = 0; direction = Both }

pub device_mistold-not : (read told : List ℕ) → told ≢ 7 ∷ 170 ∷ [] → BytesTold pool_guest (bounce_script ∷ []) (bounce_history read told) → ⊥
unfolding first_such each_such any_such count_such row_length guarded bit_after first_run units_cleared claim_of in_the_way own_of pool_byte bytes_moved is_absent cut blocks_from order_at waits_at_boot block_state lowest_waiting in_flight_with is_owned free_page found_at fits aim_of is_shared_block convert_end pending_in_block pending_in some_unaccepted live_runs hint_of run_found alloc_event lowest_free
device_mistold-not read bytes other told =
    other (told.device (take 13 (bounce_history read bytes)) (entry_at 14 13 (place.Area 0) (event.DeviceRead (slots_at 2 2) 0 2) (Some (reply.Hex bytes))) (codes "m") bytes 0 2 third_mapping (record { later = drop 14 (bounce_history read bytes); split = refl; its = refl }) refl refl)
