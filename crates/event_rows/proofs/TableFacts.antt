use Rattle.std.proofs.Common.{◌≡◌, ℕ, zero, suc, ◌-◌, ◌/◌, ◌<◌, ◌≤◌, Bool, true, false, not, ◌&&◌, ◌||◌, Option, None, Some, [], ◌∷◌, refl, sym, ◌∙◌, ap, inr, arith, cond, if◌then◌else◌, length}
use Rattle.std.specs.Prelude.{nat_le, nat_lt}
use Rattle.std.specs.Option.{option_map}
use Rattle.std.proofs.lemmas.Bool.Decides.{nat_tests}
use Rattle.guest_base.specs.Ranges.{in_range}
use Rattle.guest_base.specs.Search.{first_such, each_such, any_such}
use Rattle.guest_base.specs.declared.memory.PageRun.{PageRun}
use Rattle.guest_base.specs.declared.memory.PageState.{PageState}
use Rattle.guest_base.specs.declared.memory.PageState.TheVariants.{Pending, Accepted}
use Rattle.guest_base.proofs.SearchLemmas.{each_such-true}
use Rattle.event_core.specs.Runs.{state_in}
use Rattle.event_core.specs.Units.{bit_of}
use Rattle.event_core.specs.Table.{IsTable, FitsTable, marks_page, bad_unit, most_bytes}
use Rattle.event_core.specs.Given.{first_by}
use Rattle.event_core.specs.Cut.{cut, blocks_from, order_at}
use Rattle.event_core.specs.Boot.{BootRight, BootCalls}
use Rattle.event_rows.proofs.BootedLemmas.{run_of, one-run, two-runs, is-booted}
use Rattle.event_rows.specs.SmallMap.{small_map}
use Rattle.event_rows.specs.SmallUnits.{small_table, small_unit_guest}
use Rattle.event_rows.specs.Giving.{giving_guest}
use Rattle.event_rows.specs.GivenMeanwhile.{meanwhile_guest}
use Rattle.event_rows.specs.Tables.{giving_map, giving_table, meanwhile_map, meanwhile_table, edge_table, unfit_table}

-- ---- which tables fit their maps

at_most : (a b : ℕ) → nat_le a b ≡ true → a ≤ b
at_most a b h = grind (arith, nat_tests, h)

small-is_table : IsTable small_table
unfolding any_such
small-is_table = record { unit_is = refl; aligned = refl; low = at_most _ _ refl; few = at_most (length small_table.bits) (most_bytes small_table.unit small_table.base) refl }

pub small_table-fits : FitsTable small_map small_table
unfolding bad_unit first_such each_such
small_table-fits = record { is_table = small-is_table; none_bad = refl }

pub edge-fit : (bad_unit small_map edge_table ≡ None) × (bad_unit small_map unfit_table ≡ Some 0)
unfolding bad_unit first_such each_such
edge-fit = (refl, refl)

-- ---- the small guest with units of 4 KiB

same_bit : Bool → Bool → Bool
same_bit true b = b
same_bit false b = not b

is_same : (a b : Bool) → same_bit a b ≡ true → a ≡ b
unfolding same_bit
is_same true true h = refl
is_same true false h = cc
is_same false true h = cc
is_same false false h = refl

each-bit : each_such (λ unit. same_bit (bit_of small_table.bits unit) (nat_le 512 unit)) 0 2048 ≡ true
unfolding each_such same_bit
each-bit = refl

small-bit : (unit : ℕ) → unit < 2048 → bit_of small_table.bits unit ≡ nat_le 512 unit
small-bit unit low = is_same _ _ ((each_such-true (λ unit. same_bit (bit_of small_table.bits unit) (nat_le 512 unit)) 0 2048 each-bit).passes unit (omega arith) (omega (arith, low)))

-- the states by two runs
abbrev two_states : PageRun → PageRun → Bool → Bool → Option PageState
two_states low high in_low in_high = option_map (λ (run : PageRun). run.state) (cond in_low (Some low) (cond in_high (Some high) None))

-- a page of accepted memory, or of unaccepted memory that is marked or not
small_states : (low high accepted unaccepted marked : Bool) → low ≡ (accepted || (unaccepted && not marked)) → high ≡ (unaccepted && marked) → (accepted ≡ true → unaccepted ≡ false) →
    two_states (run_of 0 1536 Accepted) (run_of 1536 1536 Pending) low high
    ≡ (if (unaccepted || false) && marked then Some Pending else (if accepted || (unaccepted || false) then Some Accepted else None))
small_states low high true true marked l h apart = let no : true ≡ false = apart refl in cc
small_states low high true false marked l h apart = rw (h, l) refl
small_states low high false true true l h apart = rw (h, l) refl
small_states low high false true false l h apart = rw (h, l) refl
small_states low high false false marked l h apart = rw (h, l) refl

lower_by : (low accepted unaccepted marked told : Bool) → (unaccepted ≡ true → marked ≡ told) → low ≡ (accepted || (unaccepted && not told)) → low ≡ (accepted || (unaccepted && not marked))
lower_by low accepted true marked told h e = e ∙ ap (λ b. accepted || not b) (sym (h refl))
lower_by low accepted false marked told h e = e

upper_by : (high unaccepted marked told : Bool) → (unaccepted ≡ true → marked ≡ told) → high ≡ (unaccepted && told) → high ≡ (unaccepted && marked)
upper_by high true marked told h e = e ∙ sym (h refl)
upper_by high false marked told h e = e

small-mark : (page : ℕ) → in_range 1024 2048 page ≡ true → marks_page small_table page ≡ nat_le 1536 page
small-mark page h = ap (λ b. nat_le 1024 page && b) (small-bit ((page - 1024) / 1) (grind (arith, nat_tests, h))) ∙ grind (arith, nat_tests, h)

small-lower : (page : ℕ) → in_range 0 1536 page ≡ (in_range 0 1024 page || (in_range 1024 2048 page && not (nat_le 1536 page)))
small-lower page = grind (arith, nat_tests)

small-upper : (page : ℕ) → in_range 1536 1536 page ≡ (in_range 1024 2048 page && nat_le 1536 page)
small-upper page = grind (arith, nat_tests)

not-both : (page : ℕ) → in_range 0 1024 page ≡ true → in_range 1024 2048 page ≡ false
not-both page h = grind (arith, nat_tests, h)

small-state : (page : ℕ) → state_in small_unit_guest.ram page ≡ first_by small_map (Some small_table) page
small-state page =
    small_states (in_range 0 1536 page) (in_range 1536 1536 page) (in_range 0 1024 page) (in_range 1024 2048 page) (marks_page small_table page)
    (lower_by (in_range 0 1536 page) (in_range 0 1024 page) (in_range 1024 2048 page) (marks_page small_table page) (nat_le 1536 page) (small-mark page) (small-lower page))
    (upper_by (in_range 1536 1536 page) (in_range 1024 2048 page) (marks_page small_table page) (nat_le 1536 page) (small-mark page) (small-upper page))
    (not-both page)

small-calls : BootCalls small_map (Some small_table) small_unit_guest [] None
unfolding cut blocks_from order_at
small-calls = record { pieces = []; early = refl; stages = inr ([], [], refl, (refl, refl), inr ([], [], refl, (refl, refl), inr ([], [], refl, (refl, refl), (refl, refl)))) }

pub small_unit-booted : BootRight small_map [] (Some small_table) 0 1 1 small_unit_guest
small_unit-booted =
    is-booted small_map (Some small_table) 0 1 1 small_unit_guest
    (two-runs (first_by small_map (Some small_table)) (run_of 0 1536 Accepted) (run_of 1536 1536 Pending) (omega arith) (omega arith) (record { ends = omega arith; differs = λ meets same. cc }) small-state)
    (λ unit low. refl) refl small-calls (refl, refl, refl, refl, refl, refl, refl)

-- ---- the guest of a giveback: no bit is set

left_out : (a b : Bool) → a ≡ false → (a && b) ≡ false
left_out true b h = cc
left_out false b h = refl

clear_bit : (unit : ℕ) → bit_of (0 ∷ []) unit ≡ false
clear_bit zero = refl
clear_bit (suc zero) = refl
clear_bit (suc (suc zero)) = refl
clear_bit (suc (suc (suc zero))) = refl
clear_bit (suc (suc (suc (suc zero)))) = refl
clear_bit (suc (suc (suc (suc (suc zero))))) = refl
clear_bit (suc (suc (suc (suc (suc (suc zero)))))) = refl
clear_bit (suc (suc (suc (suc (suc (suc (suc zero))))))) = refl
clear_bit (suc (suc (suc (suc (suc (suc (suc (suc unit)))))))) = left_out (nat_lt (suc (suc (suc (suc (suc (suc (suc (suc unit)))))))) 8) _ (grind (arith, nat_tests))

giving_states : (unaccepted marked : Bool) → marked ≡ false → option_map (λ (run : PageRun). run.state) (cond unaccepted (Some (run_of 0 1024 Accepted)) None) ≡ (if (unaccepted || false) && marked then Some Pending else (if unaccepted || false then Some Accepted else None))
giving_states true marked h = rw h refl
giving_states false marked h = refl

giving-mark : (page : ℕ) → marks_page giving_table page ≡ false
giving-mark page = ap (λ b. nat_le 0 page && b) (clear_bit ((page - 0) / 512)) ∙ grind (arith, nat_tests)

giving-state : (page : ℕ) → state_in giving_guest.ram page ≡ first_by giving_map (Some giving_table) page
giving-state page = giving_states (in_range 0 1024 page) (marks_page giving_table page) (giving-mark page)

giving-calls : BootCalls giving_map (Some giving_table) giving_guest [] None
unfolding cut blocks_from order_at
giving-calls = record { pieces = []; early = refl; stages = inr ([], [], refl, (refl, refl), (refl, refl)) }

pub giving-booted : BootRight giving_map [] (Some giving_table) 0 1 1 giving_guest
giving-booted =
    is-booted giving_map (Some giving_table) 0 1 1 giving_guest
    (one-run (first_by giving_map (Some giving_table)) (run_of 0 1024 Accepted) (omega arith) giving-state)
    (λ unit low. refl) refl giving-calls (refl, refl, refl, refl, refl, refl, refl)

-- ---- the guest of a giveback within a claim: the first two bits are set

low_bit : (unit : ℕ) → bit_of (3 ∷ []) unit ≡ nat_lt unit 2
low_bit zero = refl
low_bit (suc zero) = refl
low_bit (suc (suc zero)) = refl
low_bit (suc (suc (suc zero))) = refl
low_bit (suc (suc (suc (suc zero)))) = refl
low_bit (suc (suc (suc (suc (suc zero))))) = refl
low_bit (suc (suc (suc (suc (suc (suc zero)))))) = refl
low_bit (suc (suc (suc (suc (suc (suc (suc zero))))))) = refl
low_bit (suc (suc (suc (suc (suc (suc (suc (suc unit)))))))) = left_out (nat_lt (suc (suc (suc (suc (suc (suc (suc (suc unit)))))))) 8) _ (grind (arith, nat_tests)) ∙ grind (arith, nat_tests)

meanwhile_states : (low high unaccepted marked : Bool) → low ≡ (unaccepted && marked) → high ≡ (unaccepted && not marked) →
    two_states (run_of 0 1024 Pending) (run_of 1024 1024 Accepted) low high
    ≡ (if (unaccepted || false) && marked then Some Pending else (if unaccepted || false then Some Accepted else None))
meanwhile_states low high true true l h = rw (h, l) refl
meanwhile_states low high true false l h = rw (h, l) refl
meanwhile_states low high false marked l h = rw (h, l) refl

meanwhile-mark : (page : ℕ) → marks_page meanwhile_table page ≡ nat_lt page 1024
meanwhile-mark page = ap (λ b. nat_le 0 page && b) (low_bit ((page - 0) / 512)) ∙ grind (arith, nat_tests)

meanwhile-lower : (page : ℕ) → in_range 0 1024 page ≡ (in_range 0 2048 page && nat_lt page 1024)
meanwhile-lower page = grind (arith, nat_tests)

meanwhile-upper : (page : ℕ) → in_range 1024 1024 page ≡ (in_range 0 2048 page && not (nat_lt page 1024))
meanwhile-upper page = grind (arith, nat_tests)

meanwhile-state : (page : ℕ) → state_in meanwhile_guest.ram page ≡ first_by meanwhile_map (Some meanwhile_table) page
meanwhile-state page =
    meanwhile_states (in_range 0 1024 page) (in_range 1024 1024 page) (in_range 0 2048 page) (marks_page meanwhile_table page)
    (meanwhile-lower page ∙ ap (λ b. in_range 0 2048 page && b) (sym (meanwhile-mark page)))
    (meanwhile-upper page ∙ ap (λ b. in_range 0 2048 page && not b) (sym (meanwhile-mark page)))

meanwhile-calls : BootCalls meanwhile_map (Some meanwhile_table) meanwhile_guest [] None
unfolding cut blocks_from order_at
meanwhile-calls = record { pieces = []; early = refl; stages = inr ([], [], refl, (refl, refl), inr ([], [], refl, (refl, refl), (refl, refl))) }

pub meanwhile-booted : BootRight meanwhile_map [] (Some meanwhile_table) 0 1 2 meanwhile_guest
meanwhile-booted =
    is-booted meanwhile_map (Some meanwhile_table) 0 1 2 meanwhile_guest
    (two-runs (first_by meanwhile_map (Some meanwhile_table)) (run_of 0 1024 Pending) (run_of 1024 1024 Accepted) (omega arith) (omega arith) (record { ends = omega arith; differs = λ meets same. cc }) meanwhile-state)
    (λ unit low. refl) refl meanwhile-calls (refl, refl, refl, refl, refl, refl, refl)
