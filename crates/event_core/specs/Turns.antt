use Rattle.std.specs.Prelude.{ℕ, zero, suc, List, [], ◌∷◌, ◌++◌, Bool, true, false, ◌≡◌, ◌+◌, ◌==◌, is_none, filter, length}
use Rattle.event_core.specs.declared.boot.Boot.{Boot}
use Rattle.event_core.specs.declared.command.Command.{Command}
use Rattle.event_core.specs.declared.entry.Entry.{Entry}
use Rattle.event_core.specs.Moved.{Moved, made_by}
use Rattle.event_core.specs.Next.{next_step}
use Rattle.event_core.specs.Legal.{Follows, with_bytes, with_moved, at_place}
use Rattle.event_core.specs.declared.entry.Place.TheVariants.{Memory}

-- Turns on one thread (own rule).

-- A processor makes no event where it is finished or blocked. Only the memory's events can be blocked, and whether they are doesn't
-- depend on the module's answers.
abbrev pub is_idle : Boot → List (List Command) → List Moved → ℕ → Bool
is_idle boot scripts history cpu =
    is_none (next_step boot scripts cpu (made_by cpu history) (at_place Memory history) [])

-- in an idle turn nothing is taken; in any other the turn's processor makes an entry that follows those taken before it
abbrev pub TakenIn : Boot → List (List Command) → List Moved → List ℕ → List Entry → Type 0
TakenIn boot scripts history [] taken = taken ≡ []
TakenIn boot scripts history (cpu ∷ turns) [] = (is_idle boot scripts history cpu ≡ true) × TakenIn boot scripts history turns []
TakenIn boot scripts history (cpu ∷ turns) (entry ∷ taken) =
    elim (is_idle boot scripts history cpu) as (λ _. Type 0) [
      | true ↦ TakenIn boot scripts history turns (entry ∷ taken)
      | false ↦
          (entry.cpu.0 ≡ cpu)
          × Follows boot scripts history entry
          × TakenIn boot scripts (history ++ with_bytes boot scripts history entry ∷ []) turns taken
    ]

-- this many numbers from one on
abbrev pub numbers_from : ℕ → ℕ → List ℕ
numbers_from from zero = []
numbers_from from (suc count) = from ∷ numbers_from (from + 1) count

-- rounds of all processors, rising
abbrev pub rounds_of : ℕ → ℕ → List ℕ
rounds_of cpus zero = []
rounds_of cpus (suc rounds) = numbers_from 0 cpus ++ rounds_of cpus rounds

-- the entries of one processor
abbrev pub entries_by : ℕ → List Entry → List Entry
entries_by cpu entries = filter (λ (e : Entry). e.cpu.0 == cpu) entries

-- Turns in an order, and then round all processors in rising order until none of them has a next event, make these entries: each
-- processor's entries are taken in their order in the history. (The history goes by stamps, so entries of several processors may
-- stand in it in another order than that of the turns.)
pub record Turned (boot : Boot) (scripts : List (List Command)) (order : List ℕ) (entries : List Entry) : Type 0 where
  pub taken : List Entry
  pub same : (cpu : ℕ) → entries_by cpu taken ≡ entries_by cpu entries
  pub rounds : ℕ
  pub turns : TakenIn boot scripts [] (order ++ rounds_of (length scripts) rounds) taken
  pub ended : (cpu : ℕ) → is_idle boot scripts (with_moved boot scripts taken) cpu ≡ true
