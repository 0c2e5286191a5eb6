-- The passes of a new lock, one by one.
use Rattle.std.proofs.Common.{◌≡◌, ℕ, ◌<◌, List, length, get_or, map, ap, ◌∙◌, arith}
use Rattle.std.specs.List.{range_with_len}
use Rattle.std.proofs.lemmas.List.FromFn.{length-map-range_with_len, get_or-map-range_with_len}
use Rattle.atomic_table.specs.Seated.{TableId}
use Rattle.event_core.specs.Parted.{Fixed, Part}
use Rattle.claim_lock.specs.Knows.{first_known}
use Rattle.claim_lock.specs.Seen.{PassSeen}

module _ {S : Type 0} (fixed : S → Fixed) (part : S → ℕ → Part) (table : TableId) (seats : ℕ) (state : S) where
  -- a processor's pass as it is made
  abbrev pub first_pass : ℕ → PassSeen
  first_pass cpu = record { table = table; known = first_known fixed part seats state cpu }

  module _ (passes : List PassSeen) (made : passes ≡ map first_pass (range_with_len 0 seats)) where
    pub count_first : length passes ≡ seats
    count_first = ap length made ∙ length-map-range_with_len first_pass 0 seats

    pub at_first : (cpu : ℕ) (d : PassSeen) → cpu < seats → get_or passes cpu d ≡ first_pass cpu
    at_first cpu d below = ap (λ (l : List PassSeen). get_or l cpu d) made ∙ get_or-map-range_with_len first_pass 0 seats cpu cpu d below (omega arith)

-- the number that a part of the small state keeps
abbrev pub number_of : Part → ℕ
number_of p = get_or p.room 0 0
