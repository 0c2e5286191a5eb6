use Rattle.std.specs.Prelude.{ℕ, List, Option, None, Some, ◌≡◌, IfSome}
use Rattle.guest_words.specs.Words.{Named}
use Rattle.guest_run.specs.declared.program.Ended.{Ended}
use Rattle.guest_run.specs.Ends.{Ends, Outside}
use Rattle.guest_run.specs.Ran.{RunOf}

-- What the program does (own rule).

-- what the program did, by what its arguments name
pub record Did {P : Type 0} (o : Outside P) (arguments : Option Named) (ended : Ended)
    : Type 0 where
  -- a recorded run is of the named files, and keeps what every run keeps
  pub run
      : IfSome ended.run (λ r.
      (named : Named) × (arguments ≡ Some named) × RunOf o.files.holds o.ports named r)
  -- each status has its cause, and each cause its status
  pub ends : Ends o arguments ended

-- the arguments of a run by turns: those that name an order
abbrev pub with_order : Named → Option (List ℕ) → Option Named
with_order named None = None
with_order named (Some order) = Some named

abbrev pub by_turns : Option Named → Option Named
by_turns None = None
by_turns (Some named) = with_order named named.order
