use Rattle.std.proofs.Common.{◌≡◌, ◌≢◌, ℕ, Option, [], ◌∷◌, refl, sym, ap, inr}
use Rattle.std.specs.Prelude.{is_none, true, false}
use Rattle.guest_base.specs.declared.memory.Units.{Units}
use Rattle.guest_base.specs.Search.{first_such, each_such, any_such, count_such, row_length}
use Rattle.guest_base.specs.Blocks.{lowest_free}
use Rattle.event_core.specs.Units.{guarded, bit_after, first_run, units_cleared}
use Rattle.event_core.specs.Acceptance.{fits}
use Rattle.event_core.specs.Claims.{claim_of, in_the_way}
use Rattle.event_core.specs.Own.{own_of}
use Rattle.event_core.specs.Pool.{live_runs, hint_of, run_found}
use Rattle.event_core.specs.PoolBytes.{pool_byte, bytes_moved}
use Rattle.event_core.specs.Absent.{is_absent}
use Rattle.event_core.specs.Cut.{cut, blocks_from, order_at}
use Rattle.event_core.specs.Blocks.{waits_at_boot, block_state, lowest_waiting, in_flight_with, is_owned, free_page}
use Rattle.event_core.specs.MemoryRows.{pending_in, some_unaccepted}
use Rattle.event_core.specs.BlockRows.{alloc_event}
use Rattle.event_core.specs.ConvertRows.{aim_of, is_shared_block, convert_end, pending_in_block}
use Rattle.event_core.specs.OwnRows.{found_at}
use Rattle.event_core.specs.Legal.{Whole}
use Rattle.event_rows.proofs.RowLemmas.{legal-rows, two-replied, told_by, count_in}
use Rattle.event_rows.specs.TwoProcessors.{small_pair, first_script, second_script, both_accept, second_early}

pub both-whole : Whole small_pair (first_script ∷ second_script ∷ []) (both_accept 2 0)
unfolding first_such each_such any_such count_such row_length lowest_free guarded bit_after first_run units_cleared claim_of in_the_way own_of pool_byte bytes_moved is_absent cut blocks_from order_at waits_at_boot block_state lowest_waiting in_flight_with is_owned free_page alloc_event found_at fits aim_of is_shared_block convert_end pending_in_block pending_in some_unaccepted live_runs hint_of run_found
both-whole = record {
  legal = legal-rows small_pair (first_script ∷ second_script ∷ []) [] (both_accept 2 0)
      (record { over = record { number = refl; step = refl; calls = tt; place = refl }; stamp = refl }, refl, (record { over = record { number = refl; step = refl; calls = (refl, refl, record { kind = refl; count = refl }, inr refl, (refl, refl, record { kind = refl; count = refl }, inr refl, refl)); place = refl }; stamp = refl }, refl, (record { over = record { number = refl; step = refl; calls = tt; place = refl }; stamp = refl }, refl, tt)));
  all = two-replied small_pair first_script second_script (both_accept 2 0) refl refl;
}

pub both_first-not : (first second : ℕ) → first ≢ 2 → Whole small_pair (first_script ∷ second_script ∷ []) (both_accept first second) → ⊥
unfolding first_such each_such any_such count_such row_length lowest_free guarded bit_after first_run units_cleared claim_of in_the_way own_of pool_byte bytes_moved is_absent cut blocks_from order_at waits_at_boot block_state lowest_waiting in_flight_with is_owned free_page alloc_event found_at fits aim_of is_shared_block convert_end pending_in_block pending_in some_unaccepted live_runs hint_of run_found
both_first-not first second other whole = let e : 2 ≡ first = ap (λ step. count_in (told_by step)) whole.legal.2.0.over.step in other (sym e)

pub both_second-not : (first second : ℕ) → second ≢ 0 → Whole small_pair (first_script ∷ second_script ∷ []) (both_accept first second) → ⊥
unfolding first_such each_such any_such count_such row_length lowest_free guarded bit_after first_run units_cleared claim_of in_the_way own_of pool_byte bytes_moved is_absent cut blocks_from order_at waits_at_boot block_state lowest_waiting in_flight_with is_owned free_page alloc_event found_at fits aim_of is_shared_block convert_end pending_in_block pending_in some_unaccepted live_runs hint_of run_found
both_second-not first second other whole = let e : 0 ≡ second = ap (λ step. count_in (told_by step)) whole.legal.2.2.0.over.step in other (sym e)

pub second_early-not : (run : Option Units) (second : ℕ) → Whole small_pair (first_script ∷ second_script ∷ []) (second_early run second) → ⊥
unfolding first_such each_such any_such count_such row_length lowest_free guarded bit_after first_run units_cleared claim_of in_the_way own_of pool_byte bytes_moved is_absent cut blocks_from order_at waits_at_boot block_state lowest_waiting in_flight_with is_owned free_page alloc_event found_at fits aim_of is_shared_block convert_end pending_in_block pending_in some_unaccepted live_runs hint_of run_found
second_early-not run second whole = let e : true ≡ false = ap is_none whole.legal.2.0.over.step in cc
