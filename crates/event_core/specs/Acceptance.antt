use Rattle.std.specs.Prelude.{ℕ, List, [], ◌∷◌, Option, None, Some, Bool, true, false, ◌≡◌, ◌+◌, ◌-◌, ◌%◌, ◌==◌, if◌then◌else◌}
use Rattle.guest_base.specs.Search.{first_such, each_such}
use Rattle.guest_base.specs.Levels.{level_pages}
use Rattle.guest_base.specs.declared.memory.Page.{Page}
use Rattle.guest_base.specs.declared.memory.Level.{Level}
use Rattle.guest_base.specs.declared.memory.Level.TheVariants.{Small, Large, Huge}
use Rattle.guest_base.specs.declared.memory.HostRun.{HostRun}
use Rattle.event_core.specs.declared.module_call.CallKind.TheVariants.{Accept}
use Rattle.event_core.specs.declared.module_call.PortAnswer.{PortAnswer}
use Rattle.event_core.specs.declared.module_call.PortAnswer.TheVariants.{Failed}
use Rattle.event_core.specs.declared.module_call.ModuleCall.{ModuleCall}
use Rattle.event_core.specs.Calls.{is_done, HonestHost}

-- How a set of pending pages is accepted by sizes (after the TDX guest's acceptance). The set is a test, and no page of it is at or
-- above `end`.

-- a level fits at a place: the place is a multiple of its pages, and all these pages from the place on are in the set
unfoldable pub fits : (ℕ → Bool) → ℕ → Level → Bool
fits set place level =
    elim (place % level_pages level == 0) as (λ _. Bool) [ true ↦ each_such set place (level_pages level) | false ↦ false ]

-- the levels that may be tried at a place, the greatest first: all of them, or those below the one that was tried there
abbrev pub levels_below : Option Level → List Level
levels_below None = Huge ∷ Large ∷ Small ∷ []
levels_below (Some Huge) = Large ∷ Small ∷ []
levels_below (Some Large) = Small ∷ []
levels_below (Some Small) = []

-- the greatest of these that fits
abbrev pub greatest_fitting : (ℕ → Bool) → ℕ → List Level → Option Level
greatest_fitting set place [] = None
greatest_fitting set place (level ∷ levels) =
    elim (fits set place level) as (λ _. Option Level) [ true ↦ Some level | false ↦ greatest_fitting set place levels ]

-- the next call's place: the place where a greater level was tried, else the least page of the set from a place on
abbrev pub place_of_next : (ℕ → Bool) → ℕ → ℕ → Option Level → Option ℕ
place_of_next set end from None = first_such set from (end - from)
place_of_next set end from (Some tried) = Some from

-- the list may end here: behind a call that was done no page of the set is left, or the call that wasn't done was a Small one
abbrev pub MayEnd : (ℕ → Bool) → ℕ → ℕ → Option Level → Type 0
MayEnd set end from None = first_such set from (end - from) ≡ None
MayEnd set end from (Some tried) = tried ≡ Small

-- where the next call goes on, and the level that was tried there and wasn't done
abbrev pub goes_on_at : ModuleCall → ℕ
goes_on_at call = if is_done call then call.first + level_pages call.level else call.first

abbrev pub tried_at : ModuleCall → Option Level
tried_at call = if is_done call then None else Some call.level

-- a call that accepts the pages of its level
pub record IsAcceptCall (call : ModuleCall) : Type 0 where
  pub kind : call.kind ≡ Accept
  pub count : call.count ≡ level_pages call.level

-- The calls that accept the set from a place on. The first call at a place has the greatest level that fits; after a call that
-- wasn't done the next smaller one is tried at the same place; after a call that was done the next is at the least page of the
-- set behind it. The list ends where no page is left, or at a Small call that wasn't done.
abbrev pub AcceptanceSteps : List HostRun → (ℕ → Bool) → ℕ → ℕ → Option Level → List ModuleCall → Type 0
AcceptanceSteps hosts set end from tried [] = MayEnd set end from tried
AcceptanceSteps hosts set end from tried (call ∷ calls) =
    (place_of_next set end from tried ≡ Some call.first)
    × (greatest_fitting set call.first (levels_below tried) ≡ Some call.level)
    × IsAcceptCall call
    × HonestHost hosts call
    × AcceptanceSteps hosts set end (goes_on_at call) (tried_at call) calls

-- the page at which calls stopped: that of a last call which is a Small accept and failed
abbrev pub stop_by : ModuleCall → Level → PortAnswer → Option Page
stop_by call Small Failed = Some (record { 0 = call.first })
stop_by call _ _ = None

abbrev pub stop_of : List ModuleCall → Option Page
stop_of [] = None
stop_of (call ∷ []) = stop_by call call.level call.answer
stop_of (call ∷ next ∷ calls) = stop_of (next ∷ calls)
