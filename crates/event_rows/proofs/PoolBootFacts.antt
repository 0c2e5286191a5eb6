use Rattle.std.proofs.Common.{◌≡◌, ◌≢◌, ℕ, None, Some, Bool, true, false, [], refl, inl, inr, arith, ◌||◌, if◌then◌else◌, cond}
use Rattle.std.specs.Option.{option_map}
use Rattle.std.proofs.lemmas.Bool.Decides.{nat_tests}
use Rattle.std.proofs.lemmas.List.Sorted.{IsPermutation-refl}
use Rattle.guest_base.specs.Search.{first_such, each_such, any_such, row_length}
use Rattle.guest_base.specs.Ranges.{in_range}
use Rattle.guest_base.specs.declared.memory.PageState.TheVariants.{Accepted}
use Rattle.guest_base.specs.declared.memory.PageRun.{PageRun}
use Rattle.event_core.specs.Runs.{state_in}
use Rattle.event_core.specs.Map.{first_state}
use Rattle.event_core.specs.Units.{guarded, bit_after, first_run}
use Rattle.event_core.specs.Acceptance.{fits}
use Rattle.event_core.specs.MemoryRows.{pending_in}
use Rattle.event_core.specs.Stub.{EarlyPieces}
use Rattle.event_core.specs.Cut.{cut, blocks_from, order_at}
use Rattle.event_core.specs.Boot.{BootRight, BootCalls, PoolPlaced}
use Rattle.event_core.specs.Given.{first_by}
use Rattle.event_rows.proofs.BootedLemmas.{run_of, one-run, is-booted}
use Rattle.event_rows.specs.Bounces.{pool_guest}
use Rattle.event_rows.specs.BootMaps.{pool_map, small_pages_map, stopped_guest, stopped_calls}

one_way : (b : Bool) → option_map (λ (run : PageRun). run.state) (cond b (Some (record { pages = record { first = 0; count = 65 }; state = Accepted })) None) ≡ (if b || false then Some Accepted else None)
one_way true = refl
one_way false = refl

each-state : (page : ℕ) → state_in pool_guest.ram page ≡ first_state pool_map page
each-state page = one_way (in_range 0 65 page)

in_all : (page : ℕ) → in_range 0 64 page ≡ true → in_range 0 65 page ≡ true
in_all page h = grind (arith, nat_tests, h)

held : (b : Bool) → b ≡ true → option_map (λ (run : PageRun). run.state) (cond b (Some (record { pages = record { first = 0; count = 65 }; state = Accepted })) None) ≢ None
held true h = λ no. cc
held false h = cc

pool-place : PoolPlaced pool_guest pool_guest.pool
pool-place = (
  λ no. absurd (omega (arith, no)),
  record { pages = refl; room = λ page h. held (in_range 0 65 page) (in_all page h); lowest = λ first low room. absurd (omega (arith, low)) },
)

no-pieces : EarlyPieces pool_map []
no-pieces = record { sorted = []; same = IsPermutation-refl _; rise = tt; made = refl }

-- the pool is shared, and nothing is accepted
pool-calls : BootCalls pool_map None pool_guest pool_guest.calls None
unfolding cut blocks_from order_at guarded bit_after first_run first_such
pool-calls = record {
  pieces = [];
  early = no-pieces;
  stages = inr ([], pool_guest.calls, refl, (refl, refl), inr (pool_guest.calls, [], refl, refl, inr ([], [], refl, (refl, refl), (refl, refl))));
}

pub pool_guest-booted : BootRight pool_map [] None 128 1 1 pool_guest
unfolding first_such
pool_guest-booted =
    is-booted pool_map None 128 1 1 pool_guest
    (one-run (first_by pool_map None) (run_of 0 65 Accepted) (omega arith) each-state)
    (λ unit low. absurd (omega (arith, low))) pool-place pool-calls (refl, refl, refl, refl, refl, refl, refl)

no-small_pieces : EarlyPieces small_pages_map []
no-small_pieces = record { sorted = small_pages_map; same = IsPermutation-refl _; rise = tt; made = refl }

-- the pool's first unit is begun by its greatest fitting size, and stops at its second page
pub boot-stopped : BootCalls small_pages_map None stopped_guest stopped_calls (Some (record { 0 = 1025 }))
unfolding cut blocks_from order_at guarded bit_after first_run first_such each_such any_such row_length fits pending_in
boot-stopped = record {
  pieces = [];
  early = no-small_pieces;
  stages =
      inl (
        record { 0 = 1025 },
        inl (
          record { 0 = 1025 },
          (
            (
              refl,
              refl,
              record { kind = refl; count = refl },
              inr refl,
              (
                refl,
                refl,
                record { kind = refl; count = refl },
                inr refl,
                (refl, refl, record { kind = refl; count = refl }, inl refl, refl),
              ),
            ),
            refl,
          ),
          refl,
        ),
        refl,
      );
}
