use Rattle.std.proofs.Common.{◌≡◌, ◌≢◌, ℕ, Option, None, Some, true, false, not, ◌&&◌, [], ◌∷◌, refl, sym, ◌∙◌, ap, inr, cond}
use Rattle.std.specs.Option.{option_map}
use Rattle.guest_base.specs.Search.{first_such, each_such, any_such, count_such, row_length}
use Rattle.event_core.specs.Units.{guarded, bit_after, first_run, units_cleared}
use Rattle.event_core.specs.Acceptance.{fits}
use Rattle.event_core.specs.Claims.{claim_of, in_the_way}
use Rattle.event_core.specs.Own.{own_of}
use Rattle.event_core.specs.Pool.{live_runs, hint_of, run_found}
use Rattle.event_core.specs.PoolBytes.{pool_byte, bytes_moved}
use Rattle.event_core.specs.Absent.{is_absent}
use Rattle.event_core.specs.Cut.{cut, blocks_from, order_at}
use Rattle.event_core.specs.MemoryRows.{pending_in, some_unaccepted}
use Rattle.event_core.specs.ConvertRows.{aim_of, is_shared_block, convert_end, pending_in_block}
use Rattle.event_core.specs.OwnRows.{found_at}
use Rattle.event_core.specs.Legal.{Whole}
use Rattle.event_core.specs.Blocks.{waits_at_boot, block_state, lowest_waiting, in_flight_with, is_owned, free_page, is_loose}
use Rattle.event_core.specs.BlockRows.{alloc_event, with_pick}
use Rattle.event_core.specs.Next.{Step, alloc_reply}
use Rattle.event_core.specs.declared.event.Event.{Event}
use Rattle.guest_base.specs.Ranges.{in_range}
use Rattle.guest_base.specs.Blocks.{pick, lowest_free}
use Rattle.guest_base.proofs.BlockFacts.{pick_same}
use Rattle.event_core.specs.declared.event.Event.TheVariants as event
use Rattle.guest_base.specs.declared.memory.Units.{Units}
use Rattle.event_core.specs.Calls.{calls_of}
use Rattle.event_core.specs.Units.{run_after}
use Rattle.event_core.specs.MemoryRows.{next_run}
use Rattle.event_rows.proofs.RowLemmas.{legal-rows, two-replied}
use Rattle.event_rows.proofs.FreeLemmas.{free_two}
use Rattle.event_rows.specs.Giving.{given_block}
use Rattle.event_rows.specs.Straying.{block_behind}
use Rattle.event_rows.specs.GivenMeanwhile.{meanwhile_guest, giver_script, accepter_script, claimed_units, meanwhile_units, meanwhile_given, meanwhile_history, claim_meanwhile}

-- ---- the second block alone is free

free_second : (page : ℕ) → free_page meanwhile_guest [] page ≡ cond (in_range 0 1024 page) false (in_range 1024 1024 page && true)
unfolding first_such each_such any_such count_such row_length guarded bit_after first_run units_cleared claim_of in_the_way own_of pool_byte bytes_moved is_absent cut blocks_from order_at waits_at_boot block_state lowest_waiting in_flight_with is_owned free_page found_at fits aim_of is_shared_block convert_end pending_in_block pending_in some_unaccepted live_runs hint_of run_found alloc_event
free_second page = free_two (λ block. is_loose (block_state meanwhile_guest [] block) && not (is_owned [] page)) (λ inside behind. false) (λ inside behind. true) given_block block_behind (in_range 0 1024 page) (in_range 1024 1024 page) refl refl

second_picked : pick (λ page. cond (in_range 0 1024 page) false (in_range 1024 1024 page && true)) 10 ≡ Some block_behind
unfolding lowest_free first_such each_such
second_picked = refl

second_got : alloc_event meanwhile_guest [] 10 ≡ Some (event.Got block_behind)
unfolding first_such each_such any_such count_such row_length guarded bit_after first_run units_cleared claim_of in_the_way own_of pool_byte bytes_moved is_absent cut blocks_from order_at waits_at_boot block_state lowest_waiting in_flight_with is_owned free_page found_at fits aim_of is_shared_block convert_end pending_in_block pending_in some_unaccepted live_runs hint_of run_found alloc_event
second_got = ap (with_pick meanwhile_guest []) (pick_same (free_page meanwhile_guest []) (λ page. cond (in_range 0 1024 page) false (in_range 1024 1024 page && true)) free_second 10 ∙ second_picked)

-- the step of an allocation's event
abbrev as_step : Option Event → Option Step
as_step made = option_map (λ event. let s : Step = record { event = event; reply = alloc_reply event } in s) made

pub meanwhile-whole : Whole meanwhile_guest (giver_script ∷ accepter_script ∷ []) (meanwhile_history None)
unfolding first_such each_such any_such count_such row_length guarded bit_after first_run units_cleared claim_of in_the_way own_of pool_byte bytes_moved is_absent cut blocks_from order_at waits_at_boot block_state lowest_waiting in_flight_with is_owned free_page found_at fits aim_of is_shared_block convert_end pending_in_block pending_in some_unaccepted live_runs hint_of run_found
meanwhile-whole = record {
  legal = legal-rows meanwhile_guest (giver_script ∷ accepter_script ∷ []) [] (meanwhile_history None)
      (record { over = record { number = refl; step = ap as_step second_got; calls = tt; place = refl }; stamp = refl }, refl, (record { over = record { number = refl; step = refl; calls = tt; place = refl }; stamp = refl }, refl, (record { over = record { number = refl; step = refl; calls = tt; place = refl }; stamp = refl }, refl, (record { over = record { number = refl; step = refl; calls = (record { kind_is = refl; first = refl; count = refl; level = refl }, inr refl); place = refl }; stamp = refl }, refl, (record { over = record { number = refl; step = refl; calls = (refl, refl, record { kind = refl; count = refl }, inr refl, refl); place = refl }; stamp = refl }, refl, tt)))));
  all = two-replied meanwhile_guest giver_script accepter_script (meanwhile_history None) refl refl;
}

-- the run at which a step's report goes on
abbrev next_of : Event → Option Units
next_of (event.Report run calls stopped next) = next
next_of _ = None

abbrev next_in : Option Step → Option Units
next_in None = None
next_in (Some step) = next_of step.event

pub meanwhile_taken-not : (next : Option Units) → next ≢ None → Whole meanwhile_guest (giver_script ∷ accepter_script ∷ []) (meanwhile_history next) → ⊥
unfolding first_such each_such any_such count_such row_length guarded bit_after first_run units_cleared claim_of in_the_way own_of pool_byte bytes_moved is_absent cut blocks_from order_at waits_at_boot block_state lowest_waiting in_flight_with is_owned free_page found_at fits aim_of is_shared_block convert_end pending_in_block pending_in some_unaccepted live_runs hint_of run_found
meanwhile_taken-not next other whole = let e : None ≡ next = ap next_in whole.legal.2.2.2.2.0.over.step in other (sym e)

pub claim-goes_by : (claim_of meanwhile_guest meanwhile_given 1 ≡ Some claim_meanwhile) × (next_run meanwhile_guest claim_meanwhile None ≡ None) × (run_after meanwhile_guest (calls_of meanwhile_guest meanwhile_given) claimed_units 2 ≡ Some meanwhile_units)
unfolding first_such each_such any_such count_such row_length guarded bit_after first_run units_cleared claim_of in_the_way own_of pool_byte bytes_moved is_absent cut blocks_from order_at waits_at_boot block_state lowest_waiting in_flight_with is_owned free_page found_at fits aim_of is_shared_block convert_end pending_in_block pending_in some_unaccepted live_runs hint_of run_found
claim-goes_by = (refl, refl, refl)
