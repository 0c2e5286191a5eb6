use Rattle.std.proofs.Common.{◌≡◌, ◌≢◌, Option, Some, [], ◌∷◌, refl, sym, ap}
use Rattle.guest_base.specs.Search.{first_such, each_such, any_such, count_such, row_length}
use Rattle.guest_base.specs.Blocks.{lowest_free}
use Rattle.event_core.specs.Units.{guarded, bit_after, first_run, units_cleared}
use Rattle.event_core.specs.Acceptance.{fits}
use Rattle.event_core.specs.Claims.{claim_of, in_the_way}
use Rattle.event_core.specs.Own.{own_of}
use Rattle.event_core.specs.Pool.{live_runs, hint_of, run_found}
use Rattle.event_core.specs.PoolBytes.{pool_byte, bytes_moved}
use Rattle.event_core.specs.Absent.{is_absent}
use Rattle.event_core.specs.Cut.{cut, blocks_from, order_at}
use Rattle.event_core.specs.Blocks.{waits_at_boot, block_state, lowest_waiting, in_flight_with, is_owned, free_page}
use Rattle.event_core.specs.MemoryRows.{pending_in, some_unaccepted}
use Rattle.event_core.specs.BlockRows.{alloc_event}
use Rattle.event_core.specs.ConvertRows.{aim_of, is_shared_block, convert_end, pending_in_block}
use Rattle.event_core.specs.OwnRows.{found_at}
use Rattle.event_core.specs.Legal.{Whole}
use Rattle.event_rows.proofs.RowLemmas.{legal-rows, one-replied, told_by}
use Rattle.event_core.specs.declared.reply.Reply.{Reply}
use Rattle.event_core.specs.declared.reply.Reply.TheVariants.{Full}
use Rattle.event_rows.specs.TwoAreas.{area_guest, area_script, area_history}

pub areas-whole : Whole area_guest (area_script ∷ []) (area_history (Some Full))
unfolding first_such each_such any_such count_such row_length lowest_free guarded bit_after first_run units_cleared claim_of in_the_way own_of pool_byte bytes_moved is_absent cut blocks_from order_at waits_at_boot block_state lowest_waiting in_flight_with is_owned free_page alloc_event found_at fits aim_of is_shared_block convert_end pending_in_block pending_in some_unaccepted live_runs hint_of run_found
areas-whole = record {
  legal = legal-rows area_guest (area_script ∷ []) [] (area_history (Some Full))
      (record { over = record { number = refl; step = refl; calls = tt; place = refl }; stamp = refl }, refl, (record { over = record { number = refl; step = refl; calls = tt; place = refl }; stamp = refl }, refl, (record { over = record { number = refl; step = refl; calls = tt; place = refl }; stamp = refl }, refl, (record { over = record { number = refl; step = refl; calls = tt; place = refl }; stamp = refl }, refl, (record { over = record { number = refl; step = refl; calls = tt; place = refl }; stamp = refl }, refl, (record { over = record { number = refl; step = refl; calls = tt; place = refl }; stamp = refl }, refl, tt))))));
  all = one-replied area_guest area_script (area_history (Some Full)) refl;
}

pub areas_answered-not : (last : Option Reply) → last ≢ Some Full → Whole area_guest (area_script ∷ []) (area_history last) → ⊥
unfolding first_such each_such any_such count_such row_length lowest_free guarded bit_after first_run units_cleared claim_of in_the_way own_of pool_byte bytes_moved is_absent cut blocks_from order_at waits_at_boot block_state lowest_waiting in_flight_with is_owned free_page alloc_event found_at fits aim_of is_shared_block convert_end pending_in_block pending_in some_unaccepted live_runs hint_of run_found
areas_answered-not last other whole = let e : Some Full ≡ last = ap told_by whole.legal.2.2.2.2.2.0.over.step in other (sym e)
