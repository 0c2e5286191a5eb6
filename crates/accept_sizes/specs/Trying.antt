use Rattle.std.specs.Prelude.{ℕ, Bool, Option, None, Some, ◌%◌, ◌==◌, ◌&&◌, nat_le, if◌then◌else◌}
use Rattle.guest_base.specs.Levels.{level_pages}
use Rattle.guest_base.specs.declared.memory.Level.{Level}
use Rattle.guest_base.specs.declared.memory.Level.TheVariants.{Small, Large, Huge}

-- a level fits at a place from which this many pages are pending
abbrev pub fits_left : ℕ → ℕ → Level → Bool
fits_left place left level = (place % level_pages level == 0) && nat_le (level_pages level) left

-- the greatest of these levels that fits, below the one that was tried
abbrev pub level_below : ℕ → ℕ → Option Level → Level
level_below place left None =
    if fits_left place left Huge
    then Huge
    else (if fits_left place left Large then Large else Small)
level_below place left (Some Huge) = if fits_left place left Large then Large else Small
level_below place left (Some Large) = Small
level_below place left (Some Small) = Small
