use Rattle.std.proofs.Common.{◌≡◌, ℕ, zero, suc, Option, None, Some, Bool, true, false, List, [], ◌∷◌, refl, sym, ◌∙◌, ap, arith, subst, if◌then◌else◌}
use Rattle.std.specs.Prelude.{◌==◌}
use Rattle.std.proofs.lemmas.Bool.Decides.{nat_tests}
use Rattle.guest_base.specs.Search.{first_such, each_such, any_such, count_such, row_length}
use Rattle.guest_base.specs.Blocks.{lowest_free}
use Rattle.event_core.specs.Units.{guarded, bit_after, first_run, units_cleared}
use Rattle.event_core.specs.Acceptance.{fits}
use Rattle.event_core.specs.Claims.{claim_of, in_the_way}
use Rattle.event_core.specs.Own.{own_of}
use Rattle.event_core.specs.Pool.{live_runs, hint_of, run_found}
use Rattle.event_core.specs.PoolBytes.{pool_byte, bytes_moved}
use Rattle.event_core.specs.Absent.{is_absent}
use Rattle.event_core.specs.Cut.{cut, blocks_from, order_at}
use Rattle.event_core.specs.Blocks.{waits_at_boot, block_state, lowest_waiting, in_flight_with, is_owned, free_page}
use Rattle.event_core.specs.MemoryRows.{pending_in, some_unaccepted}
use Rattle.event_core.specs.BlockRows.{alloc_event}
use Rattle.event_core.specs.ConvertRows.{aim_of, is_shared_block, convert_end, pending_in_block}
use Rattle.event_core.specs.OwnRows.{found_at}
use Rattle.event_core.specs.Legal.{with_moved, Follows}
use Rattle.event_core.specs.declared.entry.Entry.{Entry}
use Rattle.event_core.specs.declared.command.Command.{Command}
use Rattle.event_core.specs.declared.reply.Reply.{Reply}
use Rattle.event_core.specs.declared.reply.Reply.TheVariants.{Count}
use Rattle.event_core.specs.Turns.{Turned, TakenIn, is_idle, entries_by}
use Rattle.event_rows.proofs.RowLemmas.{told_by}
use Rattle.event_rows.proofs.TwoFacts.{both-whole}
use Rattle.event_rows.specs.TwoProcessors.{small_pair, first_script, second_script, second_claims, both_accept}

abbrev scripts : List (List Command)
scripts = first_script ∷ second_script ∷ []

all-idle : (cpu : ℕ) → is_idle small_pair scripts (with_moved small_pair scripts (both_accept 2 0)) cpu ≡ true
unfolding first_such each_such any_such count_such row_length guarded bit_after first_run units_cleared claim_of in_the_way own_of pool_byte bytes_moved is_absent cut blocks_from order_at waits_at_boot block_state lowest_waiting in_flight_with is_owned free_page found_at fits aim_of is_shared_block convert_end pending_in_block pending_in some_unaccepted live_runs hint_of run_found alloc_event lowest_free
all-idle zero = refl
all-idle (suc zero) = refl
all-idle (suc (suc cpu)) = refl

-- the second processor is blocked in its first turn
pub both-turned : Turned small_pair scripts (0 ∷ 1 ∷ 0 ∷ 1 ∷ []) (both_accept 2 0)
unfolding first_such each_such any_such count_such row_length guarded bit_after first_run units_cleared claim_of in_the_way own_of pool_byte bytes_moved is_absent cut blocks_from order_at waits_at_boot block_state lowest_waiting in_flight_with is_owned free_page found_at fits aim_of is_shared_block convert_end pending_in_block pending_in some_unaccepted live_runs hint_of run_found alloc_event lowest_free
both-turned = record {
  taken = both_accept 2 0;
  same = λ cpu. refl;
  rounds = 0;
  turns = (refl, both-whole.legal.0, (refl, both-whole.legal.2.0, (refl, both-whole.legal.2.2.0, refl)));
  ended = all-idle;
}

-- rounds take the place of turns that no order names
pub both-turned_by_rounds : Turned small_pair scripts [] (both_accept 2 0)
unfolding first_such each_such any_such count_such row_length guarded bit_after first_run units_cleared claim_of in_the_way own_of pool_byte bytes_moved is_absent cut blocks_from order_at waits_at_boot block_state lowest_waiting in_flight_with is_owned free_page found_at fits aim_of is_shared_block convert_end pending_in_block pending_in some_unaccepted live_runs hint_of run_found alloc_event lowest_free
both-turned_by_rounds = record {
  taken = both_accept 2 0;
  same = λ cpu. refl;
  rounds = 2;
  turns = (refl, both-whole.legal.0, (refl, both-whole.legal.2.0, (refl, both-whole.legal.2.2.0, refl)));
  ended = all-idle;
}

kept : (b : Bool) (entry : Entry) (entries : List Entry) → b ≡ true → (if b then entry ∷ entries else entries) ≡ entry ∷ entries
kept true entry entries h = refl
kept false entry entries h = cc

own_first : (entry : Entry) (entries : List Entry) (cpu : ℕ) → entry.cpu.0 ≡ cpu → entries_by cpu (entry ∷ entries) ≡ entry ∷ entries_by cpu entries
own_first entry entries cpu h = kept (entry.cpu.0 == cpu) entry (entries_by cpu entries) (grind (arith, nat_tests, h))

none_taken : (taken : List Entry) → ((cpu : ℕ) → entries_by cpu taken ≡ []) → taken ≡ []
none_taken [] same = refl
none_taken (entry ∷ entries) same = let no : entry ∷ entries_by entry.cpu.0 entries ≡ [] = sym (own_first entry entries entry.cpu.0 refl) ∙ same entry.cpu.0 in cc

idle_at_first : List Entry → Bool
idle_at_first taken = is_idle small_pair scripts (with_moved small_pair scripts taken) 0

busy : idle_at_first [] ≡ false
unfolding first_such each_such any_such count_such row_length guarded bit_after first_run units_cleared claim_of in_the_way own_of pool_byte bytes_moved is_absent cut blocks_from order_at waits_at_boot block_state lowest_waiting in_flight_with is_owned free_page found_at fits aim_of is_shared_block convert_end pending_in_block pending_in some_unaccepted live_runs hint_of run_found alloc_event lowest_free idle_at_first
busy = refl

still : (taken : List Entry) → is_idle small_pair scripts (with_moved small_pair scripts taken) 0 ≡ true → idle_at_first taken ≡ true
unfolding idle_at_first
still taken h = h

pub nothing-turned : (order : List ℕ) → Turned small_pair scripts order [] → ⊥
nothing-turned order turned =
    let no : false ≡ true = sym busy ∙ ap idle_at_first (sym (none_taken turned.taken turned.same)) ∙ still turned.taken (turned.ended 0) in cc

first_same : (a b : Entry) (more others : List Entry) → a ∷ more ≡ b ∷ others → a ≡ b
first_same a b more others h = cc

second_first : (taken : List Entry) (turns : List ℕ) → entries_by 1 taken ≡ second_claims 3 None 0 ∷ [] → TakenIn small_pair scripts [] (1 ∷ turns) taken → ⊥
unfolding first_such each_such any_such count_such row_length guarded bit_after first_run units_cleared claim_of in_the_way own_of pool_byte bytes_moved is_absent cut blocks_from order_at waits_at_boot block_state lowest_waiting in_flight_with is_owned free_page found_at fits aim_of is_shared_block convert_end pending_in_block pending_in some_unaccepted live_runs hint_of run_found alloc_event lowest_free
second_first [] turns same taken = let no : false ≡ true = taken.0 in cc
second_first (entry ∷ entries) turns same taken =
    let is : entry ≡ second_claims 3 None 0 = first_same entry (second_claims 3 None 0) (entries_by 1 entries) [] (sym (own_first entry entries 1 taken.0) ∙ same) in
    let follows : Follows small_pair scripts [] (second_claims 3 None 0) = subst (λ (e : Entry). Follows small_pair scripts [] e) is taken.1 in
    let none : Option Reply = None in
    let no : none ≡ Some (Count 0) = ap told_by follows.over.step in cc

pub second_first-turned : (order : List ℕ) → Turned small_pair scripts (1 ∷ order) (both_accept 2 0) → ⊥
second_first-turned order turned = second_first turned.taken _ (turned.same 1) turned.turns
