use Rattle.std.specs.Prelude.{ℕ, List, find, Option, None, Some}
use Rattle.guest_base.specs.Ranges.{in_range}
use Rattle.guest_base.specs.declared.memory.Level.{Level}
use Rattle.guest_base.specs.declared.memory.Level.TheVariants.{Small, Large, Huge}
use Rattle.guest_base.specs.declared.memory.HostRun.{HostRun}

-- the pages of one call of a level: 4 KiB, 2 MiB and 1 GiB of pages of 4 KiB
abbrev pub level_pages : Level → ℕ
level_pages Small = 1
level_pages Large = 512
level_pages Huge = 262144

-- a record's level, or Huge where there is none
abbrev pub level_or_huge : Option HostRun → Level
level_or_huge None = Huge
level_or_huge (Some run) = run.level

-- the level at which the host maps a page: that of the first record that holds it, else Huge (own rule)
abbrev pub level_at : List HostRun → ℕ → Level
level_at hosts page = level_or_huge (find (λ run. in_range run.pages.first run.pages.count page) hosts)
