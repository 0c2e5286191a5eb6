use Rattle.std.proofs.Common.{◌≡◌, ◌≢◌, ℕ, Some, [], ◌∷◌, refl, sym, ap, inr}
use Rattle.guest_base.specs.Search.{first_such, each_such, any_such, count_such, row_length}
use Rattle.event_core.specs.Units.{guarded, bit_after, first_run, units_cleared}
use Rattle.event_core.specs.Acceptance.{fits}
use Rattle.event_core.specs.Claims.{claim_of, in_the_way}
use Rattle.event_core.specs.Own.{own_of}
use Rattle.event_core.specs.Pool.{live_runs, hint_of, run_found}
use Rattle.event_core.specs.PoolBytes.{pool_byte, bytes_moved}
use Rattle.event_core.specs.Absent.{is_absent}
use Rattle.event_core.specs.Cut.{cut, blocks_from, order_at}
use Rattle.event_core.specs.MemoryRows.{pending_in, some_unaccepted}
use Rattle.event_core.specs.ConvertRows.{aim_of, is_shared_block, convert_end, pending_in_block}
use Rattle.event_core.specs.OwnRows.{found_at}
use Rattle.event_core.specs.Legal.{Whole}
use Rattle.event_core.specs.Blocks.{waits_at_boot, block_state, lowest_waiting, in_flight_with, is_owned, free_page}
use Rattle.guest_base.specs.declared.memory.PageState.TheVariants.{Pending, Accepted}
use Rattle.event_core.specs.Given.{first_by}
use Rattle.event_core.specs.Units.{guarded_units}
use Rattle.event_rows.proofs.RowLemmas.{legal-rows, one-replied, told_by, count_in}
use Rattle.event_rows.specs.SmallMap.{small_map}
use Rattle.event_rows.specs.SmallUnits.{small_table, small_unit_guest, small_unit_script, small_unit_history, last_and_guard}

pub small_unit-whole : Whole small_unit_guest (small_unit_script ∷ []) (small_unit_history 1)
unfolding first_such each_such any_such count_such row_length guarded bit_after first_run units_cleared claim_of in_the_way own_of pool_byte bytes_moved is_absent cut blocks_from order_at waits_at_boot block_state lowest_waiting in_flight_with is_owned free_page found_at fits aim_of is_shared_block convert_end pending_in_block pending_in some_unaccepted live_runs hint_of run_found
small_unit-whole = record {
  legal = legal-rows small_unit_guest (small_unit_script ∷ []) [] (small_unit_history 1)
      (record { over = record { number = refl; step = refl; calls = tt; place = refl }; stamp = refl }, refl, (record { over = record { number = refl; step = refl; calls = (refl, refl, record { kind = refl; count = refl }, inr refl, refl); place = refl }; stamp = refl }, refl, tt));
  all = one-replied small_unit_guest small_unit_script (small_unit_history 1) refl;
}

pub small_unit-miscounted : (cleared : ℕ) → cleared ≢ 1 → Whole small_unit_guest (small_unit_script ∷ []) (small_unit_history cleared) → ⊥
unfolding first_such each_such any_such count_such row_length guarded bit_after first_run units_cleared claim_of in_the_way own_of pool_byte bytes_moved is_absent cut blocks_from order_at waits_at_boot block_state lowest_waiting in_flight_with is_owned free_page found_at fits aim_of is_shared_block convert_end pending_in_block pending_in some_unaccepted live_runs hint_of run_found
small_unit-miscounted cleared other whole = let e : 1 ≡ cleared = ap (λ step. count_in (told_by step)) whole.legal.2.0.over.step in other (sym e)

pub small_unit-states : (first_by small_map (Some small_table) 1535 ≡ Some Accepted) × (first_by small_map (Some small_table) 1536 ≡ Some Pending)
small_unit-states = (refl, refl)

pub small_unit-guard : guarded_units small_unit_guest 6287360 4096 ≡ Some last_and_guard
unfolding guarded
small_unit-guard = refl
