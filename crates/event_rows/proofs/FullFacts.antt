use Rattle.std.proofs.Common.{◌≡◌, ◌≢◌, ℕ, zero, suc, ◌+◌, ◌*◌, ◌%◌, Option, None, Some, Bool, true, false, not, ◌&&◌, List, [], ◌∷◌, refl, ap, subst, arith}
use Rattle.std.specs.Prelude.{slice_get, codes, take, nat_le}
use Rattle.std.proofs.lemmas.Bool.Decides.{nat_tests}
use Rattle.guest_base.specs.Search.{first_such, each_such, any_such, count_such, row_length}
use Rattle.guest_base.specs.Blocks.{lowest_free}
use Rattle.event_core.specs.Units.{guarded, bit_after, first_run, units_cleared}
use Rattle.event_core.specs.Acceptance.{fits}
use Rattle.event_core.specs.Claims.{claim_of, in_the_way}
use Rattle.event_core.specs.Own.{own_of, script_of}
use Rattle.event_core.specs.Pool.{live_runs, hint_of, run_found, is_used}
use Rattle.event_core.specs.PoolBytes.{pool_byte, bytes_moved}
use Rattle.event_core.specs.Absent.{is_absent}
use Rattle.event_core.specs.Cut.{cut, blocks_from, order_at}
use Rattle.event_core.specs.Blocks.{waits_at_boot, block_state, lowest_waiting, in_flight_with, is_owned, free_page}
use Rattle.event_core.specs.MemoryRows.{pending_in, some_unaccepted}
use Rattle.event_core.specs.BlockRows.{alloc_event}
use Rattle.event_core.specs.ConvertRows.{aim_of, is_shared_block, convert_end, pending_in_block}
use Rattle.event_core.specs.OwnRows.{found_at}
use Rattle.event_core.specs.declared.entry.Entry.{Entry}
use Rattle.guest_base.specs.Slots.{fits_at, meets_align}
use Rattle.guest_base.specs.Requests.{request_of}
use Rattle.guest_base.specs.declared.transfer.Align.{Align}
use Rattle.guest_base.specs.declared.transfer.Align.TheVariants.{Even}
use Rattle.guest_base.specs.declared.transfer.Direction.TheVariants.{ToDevice}
use Rattle.guest_base.proofs.SearchLemmas.{each_such-fail}
use Rattle.event_core.specs.declared.boot.Boot.{Boot}
use Rattle.event_core.specs.declared.command.Command.{Command}
use Rattle.event_core.specs.declared.command.Command.TheVariants as command
use Rattle.event_core.specs.declared.event.Event.{Event}
use Rattle.event_core.specs.declared.event.Event.TheVariants as event
use Rattle.event_core.specs.declared.reply.Reply.{Reply}
use Rattle.event_core.specs.declared.reply.Reply.TheVariants.{Full}
use Rattle.event_core.specs.Bytes.{zeros}
use Rattle.event_core.specs.Holdings.{Own, Holding, PrivateBlock, block_named}
use Rattle.event_core.specs.Moved.{Moved, entries_of}
use Rattle.event_core.specs.Before.{own_before, place_before}
use Rattle.event_core.specs.FullOnlyWhereFull.{FullOnlyWhereFull, LookedEverywhere, NothingFits}
use Rattle.event_rows.proofs.SplitLemmas.{AtEach, each-entry}
use Rattle.event_rows.proofs.RowLemmas.{OfSome, of_some}
use Rattle.event_rows.specs.TwoAreas.{area_guest, area_script, area_history, area_block, long_run, looked, early_full, missed_run}

-- ---- 65 slots don't fit behind 65 used ones of 128

none_behind : (x y z e : Bool) → (x ≡ true → e ≡ false) → (x && (y && (z && e))) ≡ false
none_behind false y z e h = refl
none_behind true false z e h = refl
none_behind true true false e h = refl
none_behind true true true e h = h refl

used_there : (first : ℕ) → nat_le (first + 65) 128 ≡ true → is_used (long_run 0 ∷ []) first ≡ true
used_there first h = grind (arith, nat_tests, h)

no_fit : (align : Align) (first : ℕ) → fits_at (is_used (long_run 0 ∷ [])) 128 65 align first ≡ false
no_fit align first =
    none_behind (nat_le (first + 65) 128) (nat_le (first % 128 + 65) 128) (meets_align align first) (each_such (λ k. not (is_used (long_run 0 ∷ []) k)) first 65) (λ low. each_such-fail (λ k. not (is_used (long_run 0 ∷ []) k)) first 64 (ap not (used_there first low)))

-- ---- what is said of each entry

abbrev Only : List Entry → Entry → Type 0
Only before entry = entry.reply ≡ Some Full → LookedEverywhere area_guest before entry

abbrev Always : List Entry → Entry → Type 0
Always before entry = (area : ℕ) → entry.event ≡ event.Looked area None → LookedEverywhere area_guest before entry → entry.reply ≡ Some Full

abbrev Empty : Boot → Own → List Moved → Option Command → Event → Type 0
Empty boot own there (Some (command.Map mapping name off len direction mask)) (event.Looked area None) = OfSome (λ (h : Holding). NothingFits boot (entries_of there) (request_of (4096 * h.block.first + off) len mask)) (block_named own name)
Empty boot own there _ _ = Unit {0}

abbrev EmptyAt : List Entry → Entry → Type 0
EmptyAt before entry = Empty area_guest (own_before area_guest (area_script ∷ []) before entry) (place_before area_guest (area_script ∷ []) before entry) (slice_get (script_of (area_script ∷ []) entry.cpu.0) entry.cmd) entry.event

with_look : (boot : Boot) (own : Own) (there : List Moved) (c d : Option Command) (e f : Event) → Empty boot own there c e → c ≡ d → e ≡ f → Empty boot own there d f
with_look boot own there c d e f empty command look = subst (λ (e : Event). Empty boot own there d e) look (subst (λ (c : Option Command). Empty boot own there c e) command empty)

both_looked : LookedEverywhere area_guest (take 5 (area_history (Some Full))) (looked 6 3 1 None (Some Full))
both_looked zero low = refl
both_looked (suc zero) low = refl
both_looked (suc (suc area)) low = absurd (omega (arith, low))

only : AtEach Only [] (area_history (Some Full))
only = (λ full. cc, (λ full. cc, (λ full. cc, (λ full. cc, (λ full. cc, (λ full. both_looked, tt))))))

always : AtEach Always [] (area_history (Some Full))
always = (λ area is everywhere. cc, (λ area is everywhere. cc, (λ area is everywhere. (let no : 0 ≡ 1 = everywhere 1 (omega arith) in absurd (omega (arith, no))), (λ area is everywhere. cc, (λ area is everywhere. (let no : 0 ≡ 1 = everywhere 1 (omega arith) in absurd (omega (arith, no))), (λ area is everywhere. refl, tt))))))

empty : AtEach EmptyAt [] (area_history (Some Full))
unfolding first_such each_such any_such count_such row_length guarded bit_after first_run units_cleared claim_of in_the_way own_of pool_byte bytes_moved is_absent cut blocks_from order_at waits_at_boot block_state lowest_waiting in_flight_with is_owned free_page found_at fits aim_of is_shared_block convert_end pending_in_block pending_in some_unaccepted live_runs hint_of run_found alloc_event lowest_free
empty = (tt, (tt, (λ first. no_fit Even first, (tt, (λ first. no_fit Even first, (λ first. no_fit Even first, tt))))))

pub areas-full : FullOnlyWhereFull area_guest (area_script ∷ []) (area_history (Some Full))
areas-full = record {
  only = λ before later entry is. each-entry Only (area_history (Some Full)) only before later entry is;
  always = λ before later entry area is. each-entry Always (area_history (Some Full)) always before later entry is area;
  empty = λ before entry mapping name off len mask area direction h stands look has. of_some (λ (h : Holding). NothingFits area_guest (entries_of (place_before area_guest (area_script ∷ []) before entry)) (request_of (4096 * h.block.first + off) len mask)) (block_named (own_before area_guest (area_script ∷ []) before entry) name) h (with_look area_guest (own_before area_guest (area_script ∷ []) before entry) (place_before area_guest (area_script ∷ []) before entry) (slice_get (script_of (area_script ∷ []) entry.cpu.0) entry.cmd) (Some (command.Map mapping name off len direction mask)) entry.event (event.Looked area None) (each-entry EmptyAt (area_history (Some Full)) empty before stands.later entry stands.split) stands.its look) has;
}

pub early-full-not : FullOnlyWhereFull area_guest (area_script ∷ []) early_full → ⊥
early-full-not full = let no : 0 ≡ 1 = full.only (take 2 early_full) [] (looked 3 2 0 None (Some Full)) refl refl 1 (omega arith) in absurd (omega (arith, no))

last_looked : (last : Option Reply) → LookedEverywhere area_guest (take 5 (area_history last)) (looked 6 3 1 None last)
last_looked last zero low = refl
last_looked last (suc zero) low = refl
last_looked last (suc (suc area)) low = absurd (omega (arith, low))

pub full_withheld-not : (last : Option Reply) → last ≢ Some Full → FullOnlyWhereFull area_guest (area_script ∷ []) (area_history last) → ⊥
full_withheld-not last other full = other (full.always (take 5 (area_history last)) [] (looked 6 3 1 None last) 1 refl refl (last_looked last))

-- the block as it was got
abbrev got_block : Holding
got_block = record { name = codes "a"; block = area_block; sharing = PrivateBlock; bytes = zeros }

pub run_missed-not : FullOnlyWhereFull area_guest (area_script ∷ []) missed_run → ⊥
unfolding first_such each_such any_such count_such row_length guarded bit_after first_run units_cleared claim_of in_the_way own_of pool_byte bytes_moved is_absent cut blocks_from order_at waits_at_boot block_state lowest_waiting in_flight_with is_owned free_page found_at fits aim_of is_shared_block convert_end pending_in_block pending_in some_unaccepted live_runs hint_of run_found alloc_event lowest_free
run_missed-not full =
    let no : true ≡ false = full.empty (take 1 missed_run) (looked 2 1 0 None None) (codes "m") (codes "a") 0 133120 0 0 ToDevice got_block (record { later = []; split = refl; its = refl }) refl refl 0 in cc
