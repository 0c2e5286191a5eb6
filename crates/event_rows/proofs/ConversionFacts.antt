use Rattle.std.proofs.Common.{◌≡◌, ◌≢◌, ℕ, Some, List, [], ◌∷◌, refl, sym, ap, inl, inr}
use Rattle.guest_base.specs.Search.{first_such, each_such, any_such, count_such, row_length}
use Rattle.guest_base.specs.Blocks.{lowest_free}
use Rattle.event_core.specs.declared.reply.Found.{Found}
use Rattle.event_core.specs.declared.reply.Found.TheVariants.{Absent}
use Rattle.event_core.specs.Units.{guarded, bit_after, first_run, units_cleared}
use Rattle.event_core.specs.Acceptance.{fits}
use Rattle.event_core.specs.Claims.{claim_of, in_the_way}
use Rattle.event_core.specs.Own.{own_of}
use Rattle.event_core.specs.Pool.{live_runs, hint_of, run_found}
use Rattle.event_core.specs.PoolBytes.{pool_byte, bytes_moved}
use Rattle.event_core.specs.Absent.{is_absent}
use Rattle.event_core.specs.Cut.{cut, blocks_from, order_at}
use Rattle.event_core.specs.Blocks.{waits_at_boot, block_state, lowest_waiting, in_flight_with, is_owned, free_page}
use Rattle.event_core.specs.MemoryRows.{pending_in, some_unaccepted}
use Rattle.event_core.specs.BlockRows.{alloc_event}
use Rattle.event_core.specs.ConvertRows.{aim_of, is_shared_block, convert_end, pending_in_block}
use Rattle.event_core.specs.OwnRows.{found_at}
use Rattle.event_core.specs.Legal.{Whole}
use Rattle.event_rows.proofs.RowLemmas.{legal-rows, one-replied, told_by, bytes_in, found_in, some-same}
use Rattle.event_rows.specs.Conversions.{pair_guest, pair_script, pair_history}

pub pair-whole : Whole pair_guest (pair_script ∷ []) (pair_history (0 ∷ []) Absent)
unfolding first_such each_such any_such count_such row_length lowest_free guarded bit_after first_run units_cleared claim_of in_the_way own_of pool_byte bytes_moved is_absent cut blocks_from order_at waits_at_boot block_state lowest_waiting in_flight_with is_owned free_page alloc_event found_at fits aim_of is_shared_block convert_end pending_in_block pending_in some_unaccepted live_runs hint_of run_found
pair-whole = record {
  legal = legal-rows pair_guest (pair_script ∷ []) [] (pair_history (0 ∷ []) Absent)
      (record { over = record { number = refl; step = refl; calls = tt; place = refl }; stamp = refl }, refl, (record { over = record { number = refl; step = refl; calls = tt; place = refl }; stamp = refl }, refl, (record { over = record { number = refl; step = refl; calls = tt; place = refl }; stamp = refl }, refl, (record { over = record { number = refl; step = refl; calls = tt; place = refl }; stamp = refl }, refl, (record { over = record { number = refl; step = refl; calls = (record { kind_is = refl; first = refl; count = refl; level = refl }, inr refl); place = refl }; stamp = refl }, refl, (record { over = record { number = refl; step = refl; calls = tt; place = refl }; stamp = refl }, refl, (record { over = record { number = refl; step = refl; calls = tt; place = refl }; stamp = refl }, refl, (record { over = record { number = refl; step = refl; calls = tt; place = refl }; stamp = refl }, refl, (record { over = record { number = refl; step = refl; calls = (record { kind_is = refl; first = refl; count = refl; level = refl }, inr refl, (refl, refl, record { kind = refl; count = refl }, inl refl, refl)); place = refl }; stamp = refl }, refl, (record { over = record { number = refl; step = refl; calls = tt; place = refl }; stamp = refl }, refl, (record { over = record { number = refl; step = refl; calls = tt; place = refl }; stamp = refl }, refl, (record { over = record { number = refl; step = refl; calls = tt; place = refl }; stamp = refl }, refl, (record { over = record { number = refl; step = refl; calls = tt; place = refl }; stamp = refl }, refl, (record { over = record { number = refl; step = refl; calls = (refl, refl, record { kind = refl; count = refl }, inr refl, refl); place = refl }; stamp = refl }, refl, (record { over = record { number = refl; step = refl; calls = tt; place = refl }; stamp = refl }, refl, (record { over = record { number = refl; step = refl; calls = tt; place = refl }; stamp = refl }, refl, tt))))))))))))))));
  all = one-replied pair_guest pair_script (pair_history (0 ∷ []) Absent) refl;
}

pub pair_found-not : (read : List ℕ) (half : Found) → half ≢ Absent → Whole pair_guest (pair_script ∷ []) (pair_history read half) → ⊥
unfolding first_such each_such any_such count_such row_length lowest_free guarded bit_after first_run units_cleared claim_of in_the_way own_of pool_byte bytes_moved is_absent cut blocks_from order_at waits_at_boot block_state lowest_waiting in_flight_with is_owned free_page alloc_event found_at fits aim_of is_shared_block convert_end pending_in_block pending_in some_unaccepted live_runs hint_of run_found
pair_found-not read half other whole = let e : Some Absent ≡ Some half = ap (λ step. found_in (told_by step)) whole.legal.2.2.2.2.2.2.2.2.2.2.2.0.over.step in other (sym (some-same Absent half e))

pub pair_misread-not : (read : List ℕ) (half : Found) → read ≢ 0 ∷ [] → Whole pair_guest (pair_script ∷ []) (pair_history read half) → ⊥
unfolding first_such each_such any_such count_such row_length lowest_free guarded bit_after first_run units_cleared claim_of in_the_way own_of pool_byte bytes_moved is_absent cut blocks_from order_at waits_at_boot block_state lowest_waiting in_flight_with is_owned free_page alloc_event found_at fits aim_of is_shared_block convert_end pending_in_block pending_in some_unaccepted live_runs hint_of run_found
pair_misread-not read half other whole = let e : 0 ∷ [] ≡ read = ap (λ step. bytes_in (told_by step)) whole.legal.2.2.2.2.2.2.2.2.2.2.2.2.2.2.0.over.step in other (sym e)
