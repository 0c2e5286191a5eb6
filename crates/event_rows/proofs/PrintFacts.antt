use Rattle.std.proofs.Common.{◌≡◌, ℕ, zero, suc, Option, None, Some, Bool, true, false, not, List, [], ◌∷◌, refl, ◌∙◌, ap, arith, ◌<◌, ◌||◌, ◌&&◌, cond}
use Rattle.std.specs.Prelude.{All}
use Rattle.std.specs.Option.{option_map}
use Rattle.std.specs.Fmt.{digits}
use Rattle.std.specs.List.{AllPairs}
use Rattle.std.proofs.lemmas.Bool.Decides.{nat_tests}
use Rattle.guest_base.specs.Ranges.{in_range}
use Rattle.guest_base.specs.declared.memory.PageState.{PageState}
use Rattle.guest_base.specs.declared.memory.PageState.TheVariants.{Pending, Accepted}
use Rattle.guest_base.specs.declared.memory.PageRun.{PageRun}
use Rattle.event_core.specs.Runs.{GoesBefore, state_in}
use Rattle.event_core.specs.Calls.{calls_of}
use Rattle.event_core.specs.MemoryRows.{page_state}
use Rattle.event_core.specs.Printed.{Printed}
use Rattle.event_rows.specs.TwoProcessors.{small_pair, both_accept, pair_text}
use Rattle.event_rows.specs.Accepts.{small_guest, units_accepted_by, one_large, page_text}

-- a run of accepted pages and one of pending pages behind it
abbrev two_runs : ℕ → ℕ → List PageRun
two_runs low high =
    record { pages = record { first = 0; count = low }; state = Accepted } ∷ record { pages = record { first = low; count = high }; state = Pending } ∷ []

-- the states by two runs, where a call accepted pages of the second
abbrev in_two : ℕ → ℕ → Bool → Bool → Option PageState
in_two low high accepted pending =
    option_map (λ (run : PageRun). run.state) (cond accepted (Some (record { pages = record { first = 0; count = low }; state = Accepted })) (cond pending (Some (record { pages = record { first = low; count = high }; state = Pending })) None))

moved_on : (a b c d : ℕ) (call low high : Bool) → in_two c d (call || low) (high && not call) ≡ cond call (Some Accepted) (in_two a b low high)
moved_on a b c d true low high = refl
moved_on a b c d false true high = refl
moved_on a b c d false false true = refl
moved_on a b c d false false false = refl

in_both : (a b c d : ℕ) (low high call_low call_high call : Bool) → low ≡ (call || call_low) → high ≡ (call_high && not call) → in_two c d low high ≡ cond call (Some Accepted) (in_two a b call_low call_high)
in_both a b c d low high call_low call_high call el eh = rw (el, eh) (moved_on a b c d call call_low call_high)

lower : (page : ℕ) → in_range 0 1536 page ≡ (in_range 1024 512 page || in_range 0 1024 page)
lower page = grind (arith, nat_tests)

upper : (page : ℕ) → in_range 1536 1536 page ≡ (in_range 1024 2048 page && not (in_range 1024 512 page))
upper page = grind (arith, nat_tests)

lower_then : (page : ℕ) → in_range 0 2048 page ≡ (in_range 1536 512 page || in_range 0 1536 page)
lower_then page = grind (arith, nat_tests)

upper_then : (page : ℕ) → in_range 2048 1024 page ≡ (in_range 1536 1536 page && not (in_range 1536 512 page))
upper_then page = grind (arith, nat_tests)

-- after one call for the first unit, and after one for the second too
each-state : (page : ℕ) → state_in (two_runs 1536 1536) page ≡ page_state small_guest (calls_of small_guest (units_accepted_by 1 one_large 1)) page
each-state page = in_both 1024 2048 1536 1536 (in_range 0 1536 page) (in_range 1536 1536 page) (in_range 0 1024 page) (in_range 1024 2048 page) (in_range 1024 512 page) (lower page) (upper page)

each-then : (page : ℕ) → state_in (two_runs 2048 1024) page ≡ page_state small_pair (calls_of small_pair (both_accept 2 0)) page
each-then page =
    in_both 1536 1536 2048 1024 (in_range 0 2048 page) (in_range 2048 1024 page) (in_range 0 1536 page) (in_range 1536 1536 page) (in_range 1536 512 page) (lower_then page) (upper_then page)
    ∙ ap (cond (in_range 1536 512 page) (Some Accepted)) (each-state page)

some-pages : (low high : ℕ) → 0 < low → 0 < high → All (λ (run : PageRun). 0 < run.pages.count) (two_runs low high)
some-pages low high l h zero d k = l
some-pages low high l h (suc zero) d k = h
some-pages low high l h (suc (suc n)) d k = absurd (omega (arith, k))

runs-rise : (low high : ℕ) → AllPairs GoesBefore (two_runs low high)
runs-rise low high zero zero d h k = absurd (omega (arith, h))
runs-rise low high zero (suc zero) d h k = record { ends = omega arith; differs = λ meets same. cc }
runs-rise low high zero (suc (suc j)) d h k = absurd (omega (arith, k))
runs-rise low high (suc i) j d h k = absurd (omega (arith, h, k))

pub page_accepted-printed : Printed small_guest (units_accepted_by 1 one_large 1) false page_text
unfolding digits
page_accepted-printed = record {
  runs = two_runs 1536 1536;
  maximal = record { each = each-state; some = some-pages 1536 1536 (omega arith) (omega arith); rise = runs-rise 1536 1536 };
  same = refl;
}

pub both-printed : Printed small_pair (both_accept 2 0) true pair_text
unfolding digits
both-printed = record {
  runs = two_runs 2048 1024;
  maximal = record { each = each-then; some = some-pages 2048 1024 (omega arith) (omega arith); rise = runs-rise 2048 1024 };
  same = refl;
}
