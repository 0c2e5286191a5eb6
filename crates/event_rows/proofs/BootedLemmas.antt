use Rattle.std.proofs.Common.{◌≡◌, ℕ, zero, suc, ◌<◌, Option, None, List, [], ◌∷◌, arith, if◌then◌else◌, length}
use Rattle.std.specs.Prelude.{All, ◌==◌}
use Rattle.std.specs.List.{AllPairs}
use Rattle.guest_base.specs.Requests.{raised_slots}
use Rattle.guest_base.specs.declared.memory.PageRun.{PageRun}
use Rattle.guest_base.specs.declared.memory.PageState.{PageState}
use Rattle.event_core.specs.declared.boot.Boot.{Boot}
use Rattle.event_core.specs.declared.boot.Descriptor.{Descriptor}
use Rattle.event_core.specs.Runs.{AreMaximalRuns, GoesBefore, state_in}
use Rattle.event_core.specs.Units.{bit_of, unit_count}
use Rattle.event_core.specs.Table.{Bits}
use Rattle.event_core.specs.Given.{first_by, unit_by, base_by, length_by, bit_by}
use Rattle.event_core.specs.Boot.{BootRight, BootCalls, PoolPlaced}

-- What the boots of small guests share.

-- the run of a state
abbrev pub run_of : ℕ → ℕ → PageState → PageRun
run_of first count state = record { pages = record { first = first; count = count }; state = state }

one-some : (run : PageRun) → 0 < run.pages.count → All (λ (r : PageRun). 0 < r.pages.count) (run ∷ [])
one-some run some zero d h = some
one-some run some (suc k) d h = absurd (omega (arith, h))

one-rise : (run : PageRun) → AllPairs GoesBefore (run ∷ [])
one-rise run i j d h k = absurd (omega (arith, h, k))

two-some : (low high : PageRun) → 0 < low.pages.count → 0 < high.pages.count → All (λ (run : PageRun). 0 < run.pages.count) (low ∷ high ∷ [])
two-some low high l h zero d k = l
two-some low high l h (suc zero) d k = h
two-some low high l h (suc (suc n)) d k = absurd (omega (arith, k))

two-rise : (low high : PageRun) → GoesBefore low high → AllPairs GoesBefore (low ∷ high ∷ [])
two-rise low high g zero zero d h k = absurd (omega (arith, h))
two-rise low high g zero (suc zero) d h k = g
two-rise low high g zero (suc (suc j)) d h k = absurd (omega (arith, k))
two-rise low high g (suc i) j d h k = absurd (omega (arith, h, k))

-- RAM of one run, or of two of which the first goes before the second, is maximal runs where these tell its states
pub one-run : (states : ℕ → Option PageState) (run : PageRun) → 0 < run.pages.count → ((page : ℕ) → state_in (run ∷ []) page ≡ states page) → AreMaximalRuns states (run ∷ [])
one-run states run some each = record { each = each; some = one-some run some; rise = one-rise run }

pub two-runs : (states : ℕ → Option PageState) (low high : PageRun) → 0 < low.pages.count → 0 < high.pages.count → GoesBefore low high
    → ((page : ℕ) → state_in (low ∷ high ∷ []) page ≡ states page) → AreMaximalRuns states (low ∷ high ∷ [])
two-runs states low high some more goes each = record { each = each; some = two-some low high some more; rise = two-rise low high goes }

-- a boot without host records is right, where what it records besides its runs, bits and calls is as asked for
pub is-booted : (map : List Descriptor) (table : Option Bits) (slots areas cpus : ℕ) (boot : Boot)
    → AreMaximalRuns (first_by map table) boot.ram
    → ((unit : ℕ) → unit < unit_count boot.bits → bit_of boot.bits unit ≡ bit_by map table unit)
    → PoolPlaced boot boot.pool
    → BootCalls map table boot boot.calls None
    → (boot.hosts ≡ []) × (boot.unit ≡ unit_by table) × (boot.base ≡ base_by map table) × (length boot.bits ≡ length_by map table)
    × (boot.cpus ≡ cpus) × (boot.areas ≡ areas) × (boot.slots ≡ (if slots == 0 then 0 else raised_slots slots areas))
    → BootRight map [] table slots areas cpus boot
is-booted map table slots areas cpus boot ram bits pool made asked = record {
  uncalled = record {
    ram = ram;
    same_hosts = asked.0;
    unit = asked.1;
    base = asked.2;
    bitmap = asked.3;
    bits = bits;
    same_cpus = asked.4;
    same_areas = asked.5;
    raised = asked.6;
    pool = pool;
  };
  made = made;
}
