use Rattle.std.proofs.Common.{◌≡◌, ◌≢◌, ℕ, Option, Some, true, false, not, ◌&&◌, List, [], ◌∷◌, refl, sym, ◌∙◌, ap, inr, cond, if◌then◌else◌}
use Rattle.std.specs.Option.{option_map}
use Rattle.guest_base.specs.Search.{first_such, each_such, any_such, count_such, row_length}
use Rattle.event_core.specs.Units.{guarded, bit_after, first_run, units_cleared}
use Rattle.event_core.specs.Acceptance.{fits}
use Rattle.event_core.specs.Claims.{claim_of, in_the_way}
use Rattle.event_core.specs.Own.{own_of}
use Rattle.event_core.specs.Pool.{live_runs, hint_of, run_found}
use Rattle.event_core.specs.PoolBytes.{pool_byte, bytes_moved}
use Rattle.event_core.specs.Absent.{is_absent}
use Rattle.event_core.specs.Cut.{cut, blocks_from, order_at}
use Rattle.event_core.specs.MemoryRows.{pending_in, some_unaccepted}
use Rattle.event_core.specs.ConvertRows.{aim_of, is_shared_block, convert_end, pending_in_block}
use Rattle.event_core.specs.OwnRows.{found_at}
use Rattle.event_core.specs.Legal.{Whole, with_moved, at_place}
use Rattle.event_core.specs.Moved.{entries_of}
use Rattle.event_core.specs.declared.entry.Place.TheVariants.{Memory}
use Rattle.event_core.specs.Blocks.{waits_at_boot, block_state, lowest_waiting, in_flight_with, is_owned, free_page, is_loose}
use Rattle.event_core.specs.BlockRows.{alloc_event, with_pick}
use Rattle.event_core.specs.Next.{Step, alloc_reply}
use Rattle.event_core.specs.declared.entry.Entry.{Entry}
use Rattle.event_core.specs.declared.event.Event.{Event}
use Rattle.guest_base.specs.Ranges.{in_range}
use Rattle.guest_base.specs.Blocks.{pick, lowest_free}
use Rattle.guest_base.proofs.BlockFacts.{pick_same}
use Rattle.event_core.specs.declared.event.Event.TheVariants as event
use Rattle.event_core.specs.declared.reply.Found.{Found}
use Rattle.event_core.specs.declared.reply.Found.TheVariants.{Accepted, Absent}
use Rattle.event_rows.proofs.RowLemmas.{legal-rows, one-replied, told_by, found_in, some-same}
use Rattle.event_rows.proofs.FreeLemmas.{free_two}
use Rattle.event_rows.specs.Written.{one_page}
use Rattle.event_rows.specs.Straying.{stray_guest, stray_script, block_behind, page_held, stray_given, stray_accepted, stray_history}

abbrev memory_at : List Entry → List Entry
memory_at part = entries_of (at_place Memory (with_moved stray_guest (stray_script ∷ []) part))

-- ---- the page and the block behind it are free, and then the block alone

free_first : (page : ℕ) → free_page stray_guest [] page ≡ cond (in_range 1023 1 page) true (in_range 1024 1024 page && true)
unfolding first_such each_such any_such count_such row_length guarded bit_after first_run units_cleared claim_of in_the_way own_of pool_byte bytes_moved is_absent cut blocks_from order_at waits_at_boot block_state lowest_waiting in_flight_with is_owned free_page found_at fits aim_of is_shared_block convert_end pending_in_block pending_in some_unaccepted live_runs hint_of run_found alloc_event
free_first page = free_two (λ block. is_loose (block_state stray_guest [] block) && not (is_owned [] page)) (λ inside behind. true) (λ inside behind. true) (one_page 1023) block_behind (in_range 1023 1 page) (in_range 1024 1024 page) refl refl

free_then : (page : ℕ) → free_page stray_guest (memory_at (page_held ∷ [])) page ≡ cond (in_range 1023 1 page) false (in_range 1024 1024 page && true)
unfolding first_such each_such any_such count_such row_length guarded bit_after first_run units_cleared claim_of in_the_way own_of pool_byte bytes_moved is_absent cut blocks_from order_at waits_at_boot block_state lowest_waiting in_flight_with is_owned free_page found_at fits aim_of is_shared_block convert_end pending_in_block pending_in some_unaccepted live_runs hint_of run_found alloc_event
free_then page = free_two (λ block. is_loose (block_state stray_guest (memory_at (page_held ∷ [])) block) && not (is_owned (memory_at (page_held ∷ [])) page)) (λ inside behind. not (if inside then true else false)) (λ inside behind. not (if inside then true else false)) (one_page 1023) block_behind (in_range 1023 1 page) (in_range 1024 1024 page) refl refl

page_picked : pick (λ page. cond (in_range 1023 1 page) true (in_range 1024 1024 page && true)) 0 ≡ Some (one_page 1023)
unfolding lowest_free first_such each_such
page_picked = refl

block_picked : pick (λ page. cond (in_range 1023 1 page) false (in_range 1024 1024 page && true)) 10 ≡ Some block_behind
unfolding lowest_free first_such each_such
block_picked = refl

page_got : alloc_event stray_guest [] 0 ≡ Some page_held.event
unfolding first_such each_such any_such count_such row_length guarded bit_after first_run units_cleared claim_of in_the_way own_of pool_byte bytes_moved is_absent cut blocks_from order_at waits_at_boot block_state lowest_waiting in_flight_with is_owned free_page found_at fits aim_of is_shared_block convert_end pending_in_block pending_in some_unaccepted live_runs hint_of run_found alloc_event
page_got = ap (with_pick stray_guest []) (pick_same (free_page stray_guest []) (λ page. cond (in_range 1023 1 page) true (in_range 1024 1024 page && true)) free_first 0 ∙ page_picked)

block_got : alloc_event stray_guest (memory_at (page_held ∷ [])) 10 ≡ Some (event.Got block_behind)
unfolding first_such each_such any_such count_such row_length guarded bit_after first_run units_cleared claim_of in_the_way own_of pool_byte bytes_moved is_absent cut blocks_from order_at waits_at_boot block_state lowest_waiting in_flight_with is_owned free_page found_at fits aim_of is_shared_block convert_end pending_in_block pending_in some_unaccepted live_runs hint_of run_found alloc_event
block_got = ap (with_pick stray_guest (memory_at (page_held ∷ []))) (pick_same (free_page stray_guest (memory_at (page_held ∷ []))) (λ page. cond (in_range 1023 1 page) false (in_range 1024 1024 page && true)) free_then 10 ∙ block_picked)

-- the step of an allocation's event
abbrev as_step : Option Event → Option Step
as_step made = option_map (λ event. let s : Step = record { event = event; reply = alloc_reply event } in s) made

pub stray-whole : Whole stray_guest (stray_script ∷ []) (stray_history Absent)
unfolding first_such each_such any_such count_such row_length guarded bit_after first_run units_cleared claim_of in_the_way own_of pool_byte bytes_moved is_absent cut blocks_from order_at waits_at_boot block_state lowest_waiting in_flight_with is_owned free_page found_at fits aim_of is_shared_block convert_end pending_in_block pending_in some_unaccepted live_runs hint_of run_found
stray-whole = record {
  legal = legal-rows stray_guest (stray_script ∷ []) [] (stray_history Absent)
      (record { over = record { number = refl; step = ap as_step page_got; calls = tt; place = refl }; stamp = refl }, refl, (record { over = record { number = refl; step = ap as_step block_got; calls = tt; place = refl }; stamp = refl }, refl, (record { over = record { number = refl; step = refl; calls = tt; place = refl }; stamp = refl }, refl, (record { over = record { number = refl; step = refl; calls = tt; place = refl }; stamp = refl }, refl, (record { over = record { number = refl; step = refl; calls = (record { kind_is = refl; first = refl; count = refl; level = refl }, inr refl); place = refl }; stamp = refl }, refl, (record { over = record { number = refl; step = refl; calls = tt; place = refl }; stamp = refl }, refl, (record { over = record { number = refl; step = refl; calls = tt; place = refl }; stamp = refl }, refl, (record { over = record { number = refl; step = refl; calls = (refl, refl, record { kind = refl; count = refl }, inr refl, refl); place = refl }; stamp = refl }, refl, (record { over = record { number = refl; step = refl; calls = tt; place = refl }; stamp = refl }, refl, tt)))))))));
  all = one-replied stray_guest stray_script (stray_history Absent) refl;
}

pub stray_found-not : (given : Found) → given ≢ Absent → Whole stray_guest (stray_script ∷ []) (stray_history given) → ⊥
unfolding first_such each_such any_such count_such row_length guarded bit_after first_run units_cleared claim_of in_the_way own_of pool_byte bytes_moved is_absent cut blocks_from order_at waits_at_boot block_state lowest_waiting in_flight_with is_owned free_page found_at fits aim_of is_shared_block convert_end pending_in_block pending_in some_unaccepted live_runs hint_of run_found
stray_found-not given other whole = let e : Some Absent ≡ Some given = ap (λ step. found_in (told_by step)) whole.legal.2.2.2.2.2.0.over.step in other (sym (some-same Absent given e))

pub given-absent : (is_absent stray_given 1024 ≡ true) × (found_at stray_guest stray_given 1024 ≡ Some Absent)
unfolding is_absent found_at
given-absent = (refl, refl)

pub accepted-there : (is_absent (stray_accepted Absent) 1024 ≡ false) × (found_at stray_guest (stray_accepted Absent) 1024 ≡ Some Accepted) × (is_absent (stray_accepted Absent) 1536 ≡ true)
unfolding is_absent found_at
accepted-there = (refl, refl, refl)
