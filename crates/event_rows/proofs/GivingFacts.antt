use Rattle.std.proofs.Common.{◌≡◌, ◌≢◌, ℕ, Option, None, Some, Bool, true, false, not, ◌&&◌, List, [], ◌∷◌, ◌++◌, refl, sym, ◌∙◌, ap, inl, inr, if◌then◌else◌}
use Rattle.std.specs.Option.{option_map}
use Rattle.guest_base.specs.Search.{first_such, each_such, any_such, count_such, row_length}
use Rattle.event_core.specs.Units.{guarded, bit_after, first_run, units_cleared}
use Rattle.event_core.specs.Acceptance.{fits}
use Rattle.event_core.specs.Claims.{claim_of, in_the_way}
use Rattle.event_core.specs.Own.{own_of}
use Rattle.event_core.specs.Pool.{live_runs, hint_of, run_found}
use Rattle.event_core.specs.PoolBytes.{pool_byte, bytes_moved}
use Rattle.event_core.specs.Absent.{is_absent}
use Rattle.event_core.specs.Cut.{cut, blocks_from, order_at}
use Rattle.event_core.specs.MemoryRows.{pending_in, some_unaccepted}
use Rattle.event_core.specs.ConvertRows.{aim_of, is_shared_block, convert_end, pending_in_block}
use Rattle.event_core.specs.OwnRows.{found_at}
use Rattle.event_core.specs.Legal.{Whole, with_moved, at_place}
use Rattle.event_core.specs.Moved.{entries_of}
use Rattle.event_core.specs.declared.entry.Place.TheVariants.{Memory}
use Rattle.event_core.specs.Blocks.{waits_at_boot, block_state, lowest_waiting, in_flight_with, is_owned, free_page, is_loose}
use Rattle.event_core.specs.BlockRows.{alloc_event, with_pick}
use Rattle.event_core.specs.Next.{Step, alloc_reply}
use Rattle.event_core.specs.declared.entry.Entry.{Entry}
use Rattle.event_core.specs.declared.event.Event.{Event}
use Rattle.event_core.specs.declared.event.Event.TheVariants as event
use Rattle.guest_base.specs.Ranges.{in_range}
use Rattle.guest_base.specs.Blocks.{pick, lowest_free}
use Rattle.guest_base.proofs.BlockFacts.{pick_same}
use Rattle.event_core.specs.declared.module_call.PortAnswer.TheVariants as answer
use Rattle.event_core.specs.declared.event.ConvertEnd.TheVariants as end
use Rattle.event_core.specs.declared.reply.Reply.{Reply}
use Rattle.event_core.specs.declared.reply.Reply.TheVariants as reply
use Rattle.event_rows.proofs.RowLemmas.{legal-rows, one-replied, told_by}
use Rattle.event_rows.proofs.PickLemmas.{pick-none}
use Rattle.event_rows.proofs.FreeLemmas.{free_one}
use Rattle.event_core.specs.Holdings.{PrivateBlock, SharedBlock, HalfBlock}
use Rattle.event_core.specs.Own.{nothing}
use Rattle.event_rows.specs.Straying.{stray_guest}
use Rattle.event_rows.specs.Giving.{giveback_refusal, half_of_block, block_past_units, block_of_last_units, has_block, has_mapped, giving_guest, giving_script, given_block, give_call, refused_part, begun_again, given_part, asked_part, claimed_anew, reported_anew, got_anew, giving_history}

-- the memory's entries among those of a history's part
abbrev memory_at : List Entry → List Entry
memory_at part = entries_of (at_place Memory (with_moved giving_guest (giving_script ∷ []) part))

abbrev taken_part : List Entry
taken_part = asked_part true ++ claimed_anew ∷ reported_anew ∷ []

-- ---- the guest's one block is free at first, waits behind the giveback, and is free again behind its acceptance

free_first : (page : ℕ) → free_page giving_guest [] page ≡ (in_range 0 1024 page && true)
unfolding first_such each_such any_such count_such row_length guarded bit_after first_run units_cleared claim_of in_the_way own_of pool_byte bytes_moved is_absent cut blocks_from order_at waits_at_boot block_state lowest_waiting in_flight_with is_owned free_page found_at fits aim_of is_shared_block convert_end pending_in_block pending_in some_unaccepted live_runs hint_of run_found alloc_event
free_first page = free_one (λ block. is_loose (block_state giving_guest [] block) && not (is_owned [] page)) (λ inside. true) given_block (in_range 0 1024 page) refl

none_given : (page : ℕ) → free_page giving_guest (memory_at (asked_part true)) page ≡ (in_range 0 1024 page && false)
unfolding first_such each_such any_such count_such row_length guarded bit_after first_run units_cleared claim_of in_the_way own_of pool_byte bytes_moved is_absent cut blocks_from order_at waits_at_boot block_state lowest_waiting in_flight_with is_owned free_page found_at fits aim_of is_shared_block convert_end pending_in_block pending_in some_unaccepted live_runs hint_of run_found alloc_event
none_given page = free_one (λ block. is_loose (block_state giving_guest (memory_at (asked_part true)) block) && not (is_owned (memory_at (asked_part true)) page)) (λ inside. false) given_block (in_range 0 1024 page) refl

free_anew : (page : ℕ) → free_page giving_guest (memory_at taken_part) page ≡ (in_range 0 1024 page && true)
unfolding first_such each_such any_such count_such row_length guarded bit_after first_run units_cleared claim_of in_the_way own_of pool_byte bytes_moved is_absent cut blocks_from order_at waits_at_boot block_state lowest_waiting in_flight_with is_owned free_page found_at fits aim_of is_shared_block convert_end pending_in_block pending_in some_unaccepted live_runs hint_of run_found alloc_event
free_anew page = free_one (λ block. is_loose (block_state giving_guest (memory_at taken_part) block) && not (is_owned (memory_at taken_part) page)) (λ inside. not (if inside && true then false else (if inside then true else false))) given_block (in_range 0 1024 page) refl

and_false : (b : Bool) → (b && false) ≡ false
and_false true = refl
and_false false = refl

top_picked : pick (λ page. in_range 0 1024 page && true) 10 ≡ Some given_block
unfolding lowest_free first_such each_such
top_picked = refl

got_first : alloc_event giving_guest [] 10 ≡ Some (event.Got given_block)
unfolding first_such each_such any_such count_such row_length guarded bit_after first_run units_cleared claim_of in_the_way own_of pool_byte bytes_moved is_absent cut blocks_from order_at waits_at_boot block_state lowest_waiting in_flight_with is_owned free_page found_at fits aim_of is_shared_block convert_end pending_in_block pending_in some_unaccepted live_runs hint_of run_found alloc_event
got_first = ap (with_pick giving_guest []) (pick_same (free_page giving_guest []) (λ page. in_range 0 1024 page && true) free_first 10 ∙ top_picked)

claim_anew : alloc_event giving_guest (memory_at (asked_part true)) 10 ≡ Some claimed_anew.event
unfolding first_such each_such any_such count_such row_length guarded bit_after first_run units_cleared claim_of in_the_way own_of pool_byte bytes_moved is_absent cut blocks_from order_at waits_at_boot block_state lowest_waiting in_flight_with is_owned free_page found_at fits aim_of is_shared_block convert_end pending_in_block pending_in some_unaccepted live_runs hint_of run_found alloc_event
claim_anew = ap (with_pick giving_guest (memory_at (asked_part true))) (pick-none (free_page giving_guest (memory_at (asked_part true))) 10 (λ page. none_given page ∙ and_false (in_range 0 1024 page)))

get_anew : alloc_event giving_guest (memory_at taken_part) 10 ≡ Some got_anew.event
unfolding first_such each_such any_such count_such row_length guarded bit_after first_run units_cleared claim_of in_the_way own_of pool_byte bytes_moved is_absent cut blocks_from order_at waits_at_boot block_state lowest_waiting in_flight_with is_owned free_page found_at fits aim_of is_shared_block convert_end pending_in_block pending_in some_unaccepted live_runs hint_of run_found alloc_event
get_anew = ap (with_pick giving_guest (memory_at taken_part)) (pick_same (free_page giving_guest (memory_at taken_part)) (λ page. in_range 0 1024 page && true) free_anew 10 ∙ top_picked)

-- the step of an allocation's event
abbrev as_step : Option Event → Option Step
as_step made = option_map (λ event. let s : Step = record { event = event; reply = alloc_reply event } in s) made

pub giving-whole : Whole giving_guest (giving_script ∷ []) (giving_history true)
unfolding first_such each_such any_such count_such row_length guarded bit_after first_run units_cleared claim_of in_the_way own_of pool_byte bytes_moved is_absent cut blocks_from order_at waits_at_boot block_state lowest_waiting in_flight_with is_owned free_page found_at fits aim_of is_shared_block convert_end pending_in_block pending_in some_unaccepted live_runs hint_of run_found
giving-whole = record {
  legal = legal-rows giving_guest (giving_script ∷ []) [] (giving_history true)
      (record { over = record { number = refl; step = ap as_step got_first; calls = tt; place = refl }; stamp = refl }, refl, (record { over = record { number = refl; step = refl; calls = tt; place = refl }; stamp = refl }, refl, (record { over = record { number = refl; step = refl; calls = tt; place = refl }; stamp = refl }, refl, (record { over = record { number = refl; step = refl; calls = (record { kind_is = refl; first = refl; count = refl; level = refl }, inl refl); place = refl }; stamp = refl }, refl, (record { over = record { number = refl; step = refl; calls = tt; place = refl }; stamp = refl }, refl, (record { over = record { number = refl; step = refl; calls = tt; place = refl }; stamp = refl }, refl, (record { over = record { number = refl; step = refl; calls = tt; place = refl }; stamp = refl }, refl, (record { over = record { number = refl; step = refl; calls = (record { kind_is = refl; first = refl; count = refl; level = refl }, inr refl); place = refl }; stamp = refl }, refl, (record { over = record { number = refl; step = refl; calls = tt; place = refl }; stamp = refl }, refl, (record { over = record { number = refl; step = refl; calls = tt; place = refl }; stamp = refl }, refl, (record { over = record { number = refl; step = ap as_step claim_anew; calls = tt; place = refl }; stamp = refl }, refl, (record { over = record { number = refl; step = refl; calls = (refl, refl, record { kind = refl; count = refl }, inr refl, (refl, refl, record { kind = refl; count = refl }, inr refl, refl)); place = refl }; stamp = refl }, refl, (record { over = record { number = refl; step = ap as_step get_anew; calls = tt; place = refl }; stamp = refl }, refl, tt)))))))))))));
  all = one-replied giving_guest giving_script (giving_history true) refl;
}

abbrev asked_in : Option Reply → Bool
asked_in (Some (reply.Query found)) = found
asked_in _ = false

pub bits_left-not : (unaccepted : Bool) → unaccepted ≢ true → Whole giving_guest (giving_script ∷ []) (giving_history unaccepted) → ⊥
unfolding first_such each_such any_such count_such row_length guarded bit_after first_run units_cleared claim_of in_the_way own_of pool_byte bytes_moved is_absent cut blocks_from order_at waits_at_boot block_state lowest_waiting in_flight_with is_owned free_page found_at fits aim_of is_shared_block convert_end pending_in_block pending_in some_unaccepted live_runs hint_of run_found
bits_left-not unaccepted other whole = let e : true ≡ unaccepted = ap (λ step. asked_in (told_by step)) whole.legal.2.2.2.2.2.2.2.2.0.over.step in other (sym e)

pub giving-ends : (convert_end giving_guest (refused_part ++ begun_again ∷ []) given_block (give_call given_block answer.Ok ∷ []) ≡ end.Converted) × (convert_end giving_guest (refused_part ++ begun_again ∷ []) given_block (give_call given_block answer.Failed ∷ []) ≡ end.Refused)
unfolding convert_end aim_of is_shared_block
giving-ends = (refl, refl)

pub given-owned : (is_owned refused_part 1023 ≡ true) × (is_owned given_part 1023 ≡ false)
unfolding is_owned
given-owned = (refl, refl)

pub giving-refused : (giveback_refusal giving_guest nothing ≡ Some reply.Unknown)
    × (giveback_refusal giving_guest (has_block given_block SharedBlock) ≡ Some reply.IsShared)
    × (giveback_refusal giving_guest (has_block given_block HalfBlock) ≡ Some reply.Half)
    × (giveback_refusal giving_guest (has_mapped given_block) ≡ Some reply.Mapped)
    × (giveback_refusal giving_guest (has_block half_of_block PrivateBlock) ≡ Some reply.Small)
    × (giveback_refusal giving_guest (has_block block_past_units PrivateBlock) ≡ Some reply.NoUnit)
    × (giveback_refusal stray_guest (has_block given_block PrivateBlock) ≡ Some reply.NoUnit)
giving-refused = (refl, refl, refl, refl, refl, refl, refl)

pub giving-admitted : (giveback_refusal giving_guest (has_block given_block PrivateBlock) ≡ None) × (giveback_refusal giving_guest (has_block block_of_last_units PrivateBlock) ≡ None)
giving-admitted = (refl, refl)
