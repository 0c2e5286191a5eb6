use Rattle.std.specs.Prelude.{ℕ, List, ◌++◌, Option, None, Some, Bool, true, false, ◌+◌, ◌*◌, ◌&&◌}
use Rattle.std.specs.Option.{option_and_then, option_map_or}
use Rattle.guest_base.specs.Ranges.{in_range}
use Rattle.guest_base.specs.Search.{any_such}
use Rattle.guest_base.specs.declared.memory.Page.{Page}
use Rattle.guest_base.specs.declared.memory.Units.{Units}
use Rattle.guest_base.specs.declared.memory.Block.{Block}
use Rattle.guest_base.specs.declared.memory.PageState.{PageState}
use Rattle.guest_base.specs.declared.memory.PageState.TheVariants.{Pending, Accepted, Shared}
use Rattle.event_core.specs.declared.boot.Boot.{Boot}
use Rattle.event_core.specs.declared.module_call.ModuleCall.{ModuleCall}
use Rattle.event_core.specs.declared.event.Event.{Event}
use Rattle.event_core.specs.declared.event.Event.TheVariants.{Claim, Report}
use Rattle.event_core.specs.declared.entry.Entry.{Entry}
use Rattle.event_core.specs.Calls.{calls_of, state_after}
use Rattle.event_core.specs.Runs.{state_in}
use Rattle.event_core.specs.Units.{unit_pages, unit_first, bit_after, run_after, units_end, units_cleared}
use Rattle.event_core.specs.Acceptance.{AcceptanceSteps, stop_of}
use Rattle.event_core.specs.Claims.{Claimed, in_the_way}

-- What may happen to the memory, after its entries. These are the events of the steps of the memory, which knows no script.

-- a page's state after calls
abbrev pub page_state : Boot → List ModuleCall → ℕ → Option PageState
page_state boot calls page = state_after (state_in boot.ram) calls page

abbrev pub is_pending : Option PageState → Bool
is_pending None = false
is_pending (Some Pending) = true
is_pending (Some Accepted) = false
is_pending (Some Shared) = false

-- the pages of units, and their end
abbrev pub pages_first : Boot → Units → ℕ
pages_first boot units = unit_first boot units.first

abbrev pub pages_count : Boot → Units → ℕ
pages_count boot units = units.count * unit_pages boot

-- a pending page of units, after calls
unfoldable pub pending_in : Boot → List ModuleCall → Units → ℕ → Bool
pending_in boot calls units page =
    in_range (pages_first boot units) (pages_count boot units) page && is_pending (page_state boot calls page)

-- the calls accept the pending pages of the units, after calls before them
abbrev pub AcceptsUnits : Boot → List ModuleCall → Units → List ModuleCall → Type 0
AcceptsUnits boot before units calls =
    AcceptanceSteps boot.hosts (pending_in boot before units) (pages_first boot units + pages_count boot units) (pages_first boot units) None calls

-- the first run of set bits among claimed units
abbrev pub run_of_claim : Boot → List Entry → Option Units → Option Units
run_of_claim boot memory units = option_and_then (λ (u : Units). run_after boot (calls_of boot memory) u u.first) units

-- units are claimed, unless an open claim meets them
abbrev pub claim_event : Boot → List Entry → Option Block → Option Units → Option Event
claim_event boot memory block units =
    elim (in_the_way boot memory units) as (λ _. Option Event) [ None ↦ Some (Claim block units (run_of_claim boot memory units)) | Some _ ↦ None ]

-- the claim's next run, unless the acceptance stopped
abbrev pub next_run : Boot → Claimed → Option Page → Option Units
next_run boot claim None = run_after boot claim.before claim.units (units_end claim.run)
next_run boot claim (Some page) = None

-- a claim's open run is reported, with the calls that were made for it
abbrev pub report_event : Boot → Claimed → List ModuleCall → Event
report_event boot claim calls = Report claim.run calls (stop_of calls) (next_run boot claim (stop_of calls))

-- how many units a claim has cleared with the calls of its open run
abbrev pub cleared_by : Boot → List Entry → Claimed → List ModuleCall → ℕ
cleared_by boot memory claim calls =
    claim.cleared + units_cleared boot (calls_of boot memory) (calls_of boot memory ++ calls) claim.run

-- whether a bit of the units is set
unfoldable pub some_unaccepted : Boot → List Entry → Option Units → Bool
some_unaccepted boot memory units = option_map_or (λ (u : Units). any_such (bit_after boot (calls_of boot memory)) u.first u.count) units false
