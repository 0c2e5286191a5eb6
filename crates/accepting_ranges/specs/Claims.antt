use Rattle.std.specs.Prelude.{ℕ, List, Option, None, Some, ◌≡◌, ◌<◌, ◌≢◌, slice_index_or, length}
use Rattle.guest_base.specs.Ranges.{InRange}
use Rattle.guest_base.specs.declared.memory.Units.{Units}

-- The claims of the processors that accept units at this time: the place of a claim in the list is
-- its processor's number (after the accepting_list of Linux's unaccepted_memory.c). Which units a
-- claim has is given by a function.

-- the claim of a processor
abbrev pub kept_of : {T : Type 0} → List (Option T) → ℕ → Option T
kept_of claims cpu = slice_index_or claims cpu None

-- two ranges have a unit in common
abbrev pub Meet : Units → Units → Type 0
Meet a b = (unit : ℕ) × InRange a.first a.count unit × InRange b.first b.count unit

-- no processor's claim meets the range
abbrev pub MeetsNone : {T : Type 0} → (T → Units) → List (Option T) → Units → Type 0
MeetsNone {T} units claims range =
    (cpu : ℕ) (claim : T) → kept_of claims cpu ≡ Some claim → ¬ Meet (units claim) range

-- the units of the first claim, in order of processors, that meets the range
pub record IsFirstToMeet {T : Type 0} (units : T → Units) (claims : List (Option T))
    (range met : Units) : Type 0 where
  pub cpu : ℕ
  pub claim : T
  pub held : kept_of claims cpu ≡ Some claim
  pub same : units claim ≡ met
  pub meets : Meet met range
  pub before : (other : ℕ) (earlier : T) → other < cpu → kept_of claims other ≡ Some earlier
      → ¬ Meet (units earlier) range

-- there are places for 64 processors, and no two of them have claims that meet
pub record AreApart {T : Type 0} (units : T → Units) (claims : List (Option T)) : Type 0 where
  pub places : length claims ≡ 64
  pub apart : (cpu other : ℕ) (a b : T) → cpu ≢ other
      → kept_of claims cpu ≡ Some a → kept_of claims other ≡ Some b
      → ¬ Meet (units a) (units b)
