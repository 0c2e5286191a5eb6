use Rattle.std.specs.Prelude.{ℕ, List, Option, IfSome, length}
use Rattle.guest_script.specs.Order.{ReadableOrder}
use Rattle.guest_words.specs.Words.{Named}
use Rattle.guest_runs.specs.Asking.{Asking}
use Rattle.guest_runs.specs.Beginning.{Begins}
use Rattle.guest_run.specs.declared.start.Start.{Start}
use Rattle.guest_run.specs.Booted.{BootedBy}

-- What a run begins with (own rule).

-- The world and the scripts are those of the named files, boot has made its calls on the first port
-- and no other was asked, and each turn of the order is that of a processor.
pub record Starts {P : Type 0} (holds : List ℕ → Option (List ℕ)) (ports : Asking P)
    (named : Named) (s : Start) : Type 0 where
  pub booted : BootedBy holds named s.order s.world.boot s.scripts
  pub begins : Begins ports.made s.world s.scripts ports.after
  pub turns : IfSome s.order (λ order. ReadableOrder (length s.scripts) order)
