-- How faults are counted.
use Rattle.std.specs.Prelude.{ℕ, Bool, if◌then◌else◌}
use Rattle.guest_base.specs.Counts.{raised_by}

-- the count of faults after a call: one more where the outside failed (own rule)
abbrev pub faults_after : Bool → ℕ → ℕ
faults_after failed count = if failed then raised_by 1 count else count
