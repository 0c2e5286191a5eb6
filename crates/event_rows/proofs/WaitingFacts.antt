use Rattle.std.proofs.Common.{◌≡◌, ℕ, Option, None, Some, List, [], ◌∷◌, refl, sym, ◌∙◌, ap, inr}
use Rattle.guest_base.specs.Search.{first_such, each_such, any_such, count_such, row_length}
use Rattle.event_core.specs.Units.{guarded, bit_after, first_run, units_cleared}
use Rattle.event_core.specs.Acceptance.{fits}
use Rattle.event_core.specs.Claims.{claim_of, in_the_way}
use Rattle.event_core.specs.Own.{own_of}
use Rattle.event_core.specs.Pool.{live_runs, hint_of, run_found}
use Rattle.event_core.specs.PoolBytes.{pool_byte, bytes_moved}
use Rattle.event_core.specs.Absent.{is_absent}
use Rattle.event_core.specs.Cut.{cut, blocks_from, order_at}
use Rattle.event_core.specs.Blocks.{waits_at_boot, block_state, lowest_waiting, in_flight_with, is_owned, free_page}
use Rattle.event_core.specs.MemoryRows.{pending_in, some_unaccepted}
use Rattle.event_core.specs.BlockRows.{alloc_event}
use Rattle.event_core.specs.ConvertRows.{aim_of, is_shared_block, convert_end, pending_in_block}
use Rattle.event_core.specs.OwnRows.{found_at}
use Rattle.event_core.specs.Legal.{Whole}
use Rattle.event_rows.proofs.RowLemmas.{legal-rows, one-replied}
use Rattle.std.specs.Prelude.{Bool, true, false, cond, not, ◌&&◌}
use Rattle.std.specs.Option.{option_map}
use Rattle.guest_base.specs.Ranges.{in_range}
use Rattle.event_core.specs.declared.event.Event.{Event}
use Rattle.event_core.specs.declared.event.Event.TheVariants.{Claim}
use Rattle.event_core.specs.declared.entry.Entry.{Entry}
use Rattle.event_core.specs.Blocks.{is_loose}
use Rattle.event_core.specs.BlockRows.{with_pick}
use Rattle.event_core.specs.Next.{Step, alloc_reply}
use Rattle.event_rows.proofs.PickLemmas.{pick-none, pick-low}
use Rattle.event_rows.specs.Waiting.{waiting_guest, waiting_script, whole_block, waiting_history, unwaited_history, block_claimed, block_reported, page_got}

free_by : (memory : List Entry) (page : ℕ) (loose inside : Bool) → (is_loose (block_state waiting_guest memory whole_block) && not (is_owned memory page)) ≡ loose → elim (cond inside (Some whole_block) None) as (λ _. Bool) [ None ↦ false | Some block ↦ is_loose (block_state waiting_guest memory block) && not (is_owned memory page) ] ≡ (inside && loose)
free_by memory page loose true h = h
free_by memory page loose false h = refl

and_false : (b : Bool) → (b && false) ≡ false
and_false true = refl
and_false false = refl

and_true : (b : Bool) → (b && true) ≡ b
and_true true = refl
and_true false = refl

none_free : (page : ℕ) → free_page waiting_guest [] page ≡ false
unfolding first_such each_such any_such count_such row_length guarded bit_after first_run units_cleared claim_of in_the_way own_of pool_byte bytes_moved is_absent cut blocks_from order_at waits_at_boot block_state lowest_waiting in_flight_with is_owned free_page alloc_event found_at fits aim_of is_shared_block convert_end pending_in_block pending_in some_unaccepted live_runs hint_of run_found
none_free page = free_by [] page false (in_range 0 1024 page) refl ∙ and_false (in_range 0 1024 page)

low_free : (page : ℕ) → free_page waiting_guest (block_claimed ∷ block_reported ∷ []) page ≡ in_range 0 1024 page
unfolding first_such each_such any_such count_such row_length guarded bit_after first_run units_cleared claim_of in_the_way own_of pool_byte bytes_moved is_absent cut blocks_from order_at waits_at_boot block_state lowest_waiting in_flight_with is_owned free_page alloc_event found_at fits aim_of is_shared_block convert_end pending_in_block pending_in some_unaccepted live_runs hint_of run_found
low_free page = free_by (block_claimed ∷ block_reported ∷ []) page true (in_range 0 1024 page) refl ∙ and_true (in_range 0 1024 page)

claim_made : alloc_event waiting_guest [] 0 ≡ Some block_claimed.event
unfolding first_such each_such any_such count_such row_length guarded bit_after first_run units_cleared claim_of in_the_way own_of pool_byte bytes_moved is_absent cut blocks_from order_at waits_at_boot block_state lowest_waiting in_flight_with is_owned free_page alloc_event found_at fits aim_of is_shared_block convert_end pending_in_block pending_in some_unaccepted live_runs hint_of run_found
claim_made = ap (with_pick waiting_guest []) (pick-none (free_page waiting_guest []) 0 none_free)

page_picked : alloc_event waiting_guest (block_claimed ∷ block_reported ∷ []) 0 ≡ Some (page_got 3).event
unfolding first_such each_such any_such count_such row_length guarded bit_after first_run units_cleared claim_of in_the_way own_of pool_byte bytes_moved is_absent cut blocks_from order_at waits_at_boot block_state lowest_waiting in_flight_with is_owned free_page alloc_event found_at fits aim_of is_shared_block convert_end pending_in_block pending_in some_unaccepted live_runs hint_of run_found
page_picked = ap (with_pick waiting_guest (block_claimed ∷ block_reported ∷ [])) (pick-low (free_page waiting_guest (block_claimed ∷ block_reported ∷ [])) low_free)

-- the step of an allocation's event
abbrev as_step : Option Event → Option Step
as_step made = option_map (λ event. let s : Step = record { event = event; reply = alloc_reply event } in s) made

pub waiting-whole : Whole waiting_guest (waiting_script ∷ []) waiting_history
unfolding first_such each_such any_such count_such row_length guarded bit_after first_run units_cleared claim_of in_the_way own_of pool_byte bytes_moved is_absent cut blocks_from order_at waits_at_boot block_state lowest_waiting in_flight_with is_owned free_page found_at fits aim_of is_shared_block convert_end pending_in_block pending_in some_unaccepted live_runs hint_of run_found
waiting-whole = record {
  legal = legal-rows waiting_guest (waiting_script ∷ []) [] waiting_history (
    record { over = record { number = refl; step = ap as_step claim_made; calls = tt; place = refl }; stamp = refl },
    refl,
    (
      record { over = record { number = refl; step = refl; calls = (refl, refl, record { kind = refl; count = refl }, inr refl, (refl, refl, record { kind = refl; count = refl }, inr refl, refl)); place = refl }; stamp = refl },
      refl,
      (record { over = record { number = refl; step = ap as_step page_picked; calls = tt; place = refl }; stamp = refl }, refl, tt),
    ),
  );
  all = one-replied waiting_guest waiting_script waiting_history refl;
}

is_claim : Event → Bool
is_claim (Claim block units run) = true
is_claim _ = false

claims : Option Step → Bool
unfolding is_claim
claims None = false
claims (Some s) = is_claim s.event

pub unwaited-not : Whole waiting_guest (waiting_script ∷ []) unwaited_history → ⊥
unfolding is_claim claims first_such each_such any_such count_such row_length guarded bit_after first_run units_cleared claim_of in_the_way own_of pool_byte bytes_moved is_absent cut blocks_from order_at waits_at_boot block_state lowest_waiting in_flight_with is_owned free_page found_at fits aim_of is_shared_block convert_end pending_in_block pending_in some_unaccepted live_runs hint_of run_found
unwaited-not whole = let e : true ≡ false = ap claims (sym (ap as_step claim_made) ∙ whole.legal.0.over.step) in cc
