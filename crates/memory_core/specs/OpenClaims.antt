use Rattle.std.specs.Prelude.{ℕ, List, Option, None, Some, Bool, false, is_some, length}
use Rattle.guest_base.specs.Ranges.{in_range}
use Rattle.guest_base.specs.Search.{first_such}
use Rattle.guest_base.specs.declared.memory.Units.{Units}
use Rattle.accepting_ranges.specs.Claims.{kept_of, MeetsNone, IsFirstToMeet}
use Rattle.memory_core.specs.declared.claims.OpenClaim.{OpenClaim}

-- The kept claims, of which each has its units.

abbrev pub units_of : OpenClaim → Units
units_of claim = claim.units

-- no kept claim meets the units, where there are some
abbrev pub MeetsNoOther : List (Option OpenClaim) → Option Units → Type 0
MeetsNoOther claims None = Unit {0}
MeetsNoOther claims (Some units) = MeetsNone units_of claims units

-- these are the units of the first kept claim that meets the units
abbrev pub IsFirstMet : List (Option OpenClaim) → Option Units → Units → Type 0
IsFirstMet claims None met = ⊥
IsFirstMet claims (Some units) met = IsFirstToMeet units_of claims units met

-- whether a kept claim is for a block
abbrev pub is_flight : Option OpenClaim → Bool
is_flight None = false
is_flight (Some claim) = is_some claim.block

-- the least processor with a kept claim for a block
abbrev pub first_flight : List (Option OpenClaim) → Option ℕ
first_flight claims = first_such (λ cpu. is_flight (kept_of claims cpu)) 0 (length claims)

-- whether a page is out for a kept claim
abbrev pub has_out : ℕ → Option OpenClaim → Bool
has_out page None = false
has_out page (Some claim) = in_range claim.ticket.pages.first claim.ticket.pages.count page
