use Rattle.std.proofs.Common.{◌≡◌, ◌≢◌, ℕ, List, [], ◌∷◌, refl, sym, ap}
use Rattle.guest_base.specs.Search.{first_such, each_such, any_such, count_such, row_length}
use Rattle.guest_base.specs.Blocks.{lowest_free}
use Rattle.event_core.specs.Units.{guarded, bit_after, first_run, units_cleared}
use Rattle.event_core.specs.Acceptance.{fits}
use Rattle.event_core.specs.Claims.{claim_of, in_the_way}
use Rattle.event_core.specs.Own.{own_of}
use Rattle.event_core.specs.Pool.{live_runs, hint_of, run_found}
use Rattle.event_core.specs.PoolBytes.{pool_byte, bytes_moved}
use Rattle.event_core.specs.Absent.{is_absent}
use Rattle.event_core.specs.Cut.{cut, blocks_from, order_at}
use Rattle.event_core.specs.Blocks.{waits_at_boot, block_state, lowest_waiting, in_flight_with, is_owned, free_page}
use Rattle.event_core.specs.MemoryRows.{pending_in, some_unaccepted}
use Rattle.event_core.specs.BlockRows.{alloc_event}
use Rattle.event_core.specs.ConvertRows.{aim_of, is_shared_block, convert_end, pending_in_block}
use Rattle.event_core.specs.OwnRows.{found_at}
use Rattle.event_core.specs.Legal.{Whole}
use Rattle.event_rows.proofs.RowLemmas.{legal-rows, one-replied, told_by, bytes_in}
use Rattle.event_rows.specs.Bounces.{pool_guest, bounce_script, bounce_history}

pub bounce-whole : Whole pool_guest (bounce_script ∷ []) (bounce_history (1 ∷ 170 ∷ 187 ∷ 204 ∷ 5 ∷ []) (7 ∷ 170 ∷ []))
unfolding first_such each_such any_such count_such row_length lowest_free guarded bit_after first_run units_cleared claim_of in_the_way own_of pool_byte bytes_moved is_absent cut blocks_from order_at waits_at_boot block_state lowest_waiting in_flight_with is_owned free_page alloc_event found_at fits aim_of is_shared_block convert_end pending_in_block pending_in some_unaccepted live_runs hint_of run_found
bounce-whole = record {
  legal = legal-rows pool_guest (bounce_script ∷ []) [] (bounce_history (1 ∷ 170 ∷ 187 ∷ 204 ∷ 5 ∷ []) (7 ∷ 170 ∷ []))
      (record { over = record { number = refl; step = refl; calls = tt; place = refl }; stamp = refl }, refl, (record { over = record { number = refl; step = refl; calls = tt; place = refl }; stamp = refl }, refl, (record { over = record { number = refl; step = refl; calls = tt; place = refl }; stamp = refl }, refl, (record { over = record { number = refl; step = refl; calls = tt; place = refl }; stamp = refl }, refl, (record { over = record { number = refl; step = refl; calls = tt; place = refl }; stamp = refl }, refl, (record { over = record { number = refl; step = refl; calls = tt; place = refl }; stamp = refl }, refl, (record { over = record { number = refl; step = refl; calls = tt; place = refl }; stamp = refl }, refl, (record { over = record { number = refl; step = refl; calls = tt; place = refl }; stamp = refl }, refl, (record { over = record { number = refl; step = refl; calls = tt; place = refl }; stamp = refl }, refl, (record { over = record { number = refl; step = refl; calls = tt; place = refl }; stamp = refl }, refl, (record { over = record { number = refl; step = refl; calls = tt; place = refl }; stamp = refl }, refl, (record { over = record { number = refl; step = refl; calls = tt; place = refl }; stamp = refl }, refl, (record { over = record { number = refl; step = refl; calls = tt; place = refl }; stamp = refl }, refl, (record { over = record { number = refl; step = refl; calls = tt; place = refl }; stamp = refl }, refl, (record { over = record { number = refl; step = refl; calls = tt; place = refl }; stamp = refl }, refl, (record { over = record { number = refl; step = refl; calls = tt; place = refl }; stamp = refl }, refl, (record { over = record { number = refl; step = refl; calls = tt; place = refl }; stamp = refl }, refl, (record { over = record { number = refl; step = refl; calls = tt; place = refl }; stamp = refl }, refl, (record { over = record { number = refl; step = refl; calls = tt; place = refl }; stamp = refl }, refl, (record { over = record { number = refl; step = refl; calls = tt; place = refl }; stamp = refl }, refl, (record { over = record { number = refl; step = refl; calls = tt; place = refl }; stamp = refl }, refl, (record { over = record { number = refl; step = refl; calls = tt; place = refl }; stamp = refl }, refl, tt))))))))))))))))))))));
  all = one-replied pool_guest bounce_script (bounce_history (1 ∷ 170 ∷ 187 ∷ 204 ∷ 5 ∷ []) (7 ∷ 170 ∷ [])) refl;
}

pub bounce_misread-not : (read told : List ℕ) → read ≢ 1 ∷ 170 ∷ 187 ∷ 204 ∷ 5 ∷ [] → Whole pool_guest (bounce_script ∷ []) (bounce_history read told) → ⊥
unfolding first_such each_such any_such count_such row_length lowest_free guarded bit_after first_run units_cleared claim_of in_the_way own_of pool_byte bytes_moved is_absent cut blocks_from order_at waits_at_boot block_state lowest_waiting in_flight_with is_owned free_page alloc_event found_at fits aim_of is_shared_block convert_end pending_in_block pending_in some_unaccepted live_runs hint_of run_found
bounce_misread-not read told other whole = let e : 1 ∷ 170 ∷ 187 ∷ 204 ∷ 5 ∷ [] ≡ read = ap (λ step. bytes_in (told_by step)) whole.legal.2.2.2.2.2.0.over.step in other (sym e)

pub bounce_told-not : (read told : List ℕ) → told ≢ 7 ∷ 170 ∷ [] → Whole pool_guest (bounce_script ∷ []) (bounce_history read told) → ⊥
unfolding first_such each_such any_such count_such row_length lowest_free guarded bit_after first_run units_cleared claim_of in_the_way own_of pool_byte bytes_moved is_absent cut blocks_from order_at waits_at_boot block_state lowest_waiting in_flight_with is_owned free_page alloc_event found_at fits aim_of is_shared_block convert_end pending_in_block pending_in some_unaccepted live_runs hint_of run_found
bounce_told-not read told other whole = let e : 7 ∷ 170 ∷ [] ≡ told = ap (λ step. bytes_in (told_by step)) whole.legal.2.2.2.2.2.2.2.2.2.2.2.2.2.0.over.step in other (sym e)
