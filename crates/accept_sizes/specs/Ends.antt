use Rattle.std.specs.Prelude.{Option, None, Some}
use Rattle.guest_base.specs.declared.memory.Page.{Page}
use Rattle.accept_sizes.specs.declared.accept.RunEnd.{RunEnd}
use Rattle.accept_sizes.specs.declared.accept.RunEnd.TheVariants.{Whole, Stopped}

-- the page at which an acceptance stopped
abbrev pub stopped_at : RunEnd → Option Page
stopped_at Whole = None
stopped_at (Stopped page) = Some page
