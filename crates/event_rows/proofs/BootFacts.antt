use Rattle.std.proofs.Common.{◌≡◌, ℕ, zero, suc, None, Some, Bool, true, false, [], ◌∷◌, refl, inr, arith, ◌<◌, ◌||◌, if◌then◌else◌, cond}
use Rattle.std.specs.Option.{option_map}
use Rattle.std.proofs.lemmas.Bool.Decides.{nat_tests}
use Rattle.std.proofs.lemmas.List.Sorted.{IsPermutation-refl}
use Rattle.guest_base.specs.Ranges.{in_range}
use Rattle.guest_base.specs.declared.memory.PageState.TheVariants.{Pending, Accepted}
use Rattle.guest_base.specs.declared.memory.PageRun.{PageRun}
use Rattle.event_core.specs.Runs.{state_in}
use Rattle.event_core.specs.Map.{first_state}
use Rattle.event_core.specs.Units.{bit_of}
use Rattle.event_core.specs.Stub.{EarlyPieces, stub_bit}
use Rattle.event_core.specs.Cut.{cut, blocks_from, order_at}
use Rattle.event_core.specs.Boot.{BootRight, BootCalls}
use Rattle.event_core.specs.Given.{first_by}
use Rattle.event_rows.proofs.BootedLemmas.{run_of, two-runs, is-booted}
use Rattle.event_rows.specs.Accepts.{small_guest}
use Rattle.event_rows.specs.SmallMap.{small_map}

-- the states by two runs, and by two descriptors, where no page is in both
two_ways : (accepted pending : Bool) → (accepted ≡ true → pending ≡ true → ⊥) →
    option_map (λ (run : PageRun). run.state) (cond accepted (Some (record { pages = record { first = 0; count = 1024 }; state = Accepted })) (cond pending (Some (record { pages = record { first = 1024; count = 2048 }; state = Pending })) None))
    ≡ (if pending || false then Some Pending else (if accepted || (pending || false) then Some Accepted else None))
two_ways true true apart = absurd (apart refl refl)
two_ways true false apart = refl
two_ways false true apart = refl
two_ways false false apart = refl

not_both : (page : ℕ) → in_range 0 1024 page ≡ true → in_range 1024 2048 page ≡ true → ⊥
not_both page low high = grind (arith, nat_tests, low, high)

each-state : (page : ℕ) → state_in small_guest.ram page ≡ first_state small_map page
each-state page = two_ways (in_range 0 1024 page) (in_range 1024 2048 page) (not_both page)

bits : (unit : ℕ) → unit < 8 → bit_of (15 ∷ []) unit ≡ stub_bit small_map unit
bits zero h = refl
bits (suc zero) h = refl
bits (suc (suc zero)) h = refl
bits (suc (suc (suc zero))) h = refl
bits (suc (suc (suc (suc zero)))) h = refl
bits (suc (suc (suc (suc (suc zero))))) h = refl
bits (suc (suc (suc (suc (suc (suc zero)))))) h = refl
bits (suc (suc (suc (suc (suc (suc (suc zero))))))) h = refl
bits (suc (suc (suc (suc (suc (suc (suc (suc unit)))))))) h = absurd (omega (arith, h))

no-pieces : EarlyPieces small_map []
no-pieces = record { sorted = record { kind = 15; start = 4194304; pages = 2048 } ∷ []; same = IsPermutation-refl _; rise = tt; made = refl }

-- three blocks of order 10, which wait or are accepted by the map
no-calls : BootCalls small_map None small_guest [] None
unfolding cut blocks_from order_at
no-calls = record {
  pieces = [];
  early = no-pieces;
  stages = inr ([], [], refl, (refl, refl), inr ([], [], refl, (refl, refl), inr ([], [], refl, (refl, refl), (refl, refl))));
}

pub small_guest-booted : BootRight small_map [] None 0 1 1 small_guest
small_guest-booted =
    is-booted small_map None 0 1 1 small_guest
    (two-runs (first_by small_map None) (run_of 0 1024 Accepted) (run_of 1024 2048 Pending) (omega arith) (omega arith) (record { ends = omega arith; differs = λ meets same. cc }) each-state)
    bits refl no-calls (refl, refl, refl, refl, refl, refl, refl)
