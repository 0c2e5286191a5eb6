-- What the memory's entries say of an event that follows them.
use Rattle.std.proofs.Common.{◌≡◌, ℕ, true, Option, None, Some, List, refl}
use Rattle.guest_base.specs.Blocks.{pick}
use Rattle.guest_base.specs.declared.memory.Block.{Block}
use Rattle.guest_base.specs.declared.memory.Page.{Page}
use Rattle.guest_base.specs.declared.memory.Units.{Units}
use Rattle.event_core.specs.declared.boot.Boot.{Boot}
use Rattle.event_core.specs.declared.command.Command.{Command}
use Rattle.event_core.specs.declared.entry.Entry.{Entry}
use Rattle.event_core.specs.declared.entry.Place.TheVariants as place
use Rattle.event_core.specs.declared.event.Event.{Event}
use Rattle.event_core.specs.declared.event.Event.TheVariants as event
use Rattle.event_core.specs.declared.module_call.ModuleCall.{ModuleCall}
use Rattle.event_core.specs.Acceptance.{stop_of}
use Rattle.event_core.specs.Blocks.{lowest_waiting, free_page, block_units}
use Rattle.event_core.specs.Claims.{Claimed, claim_of}
use Rattle.event_core.specs.Legal.{Follows, at_place, place_of, same_place}
use Rattle.event_core.specs.MemoryRows.{run_of_claim, next_run}
use Rattle.event_core.specs.Moved.{Moved, entries_of}
use Rattle.event_core.specs.OwnRows.{found_at}
use Rattle.block_laws.proofs.EventFacts.{area-elsewhere}
use Rattle.block_laws.proofs.RowFacts.{follows-row}
use Rattle.block_laws.specs.Unconverting.{ConvertNothing}

-- a claim of a processor without one: of its first run, and for the lowest waiting block where it is for a block
pub record ClaimFits (boot : Boot) (memory : List Entry) (cpu : ℕ) (block : Option Block) (units run : Option Units) : Type 0 where
  pub none : claim_of boot memory cpu ≡ None
  pub found : run ≡ run_of_claim boot memory units
  pub lowest : (b : Block) → block ≡ Some b → (lowest_waiting boot memory ≡ Some b) × (units ≡ block_units boot b)

-- a report of a processor's claim
pub record ReportFits (boot : Boot) (memory : List Entry) (cpu : ℕ) (run : Units) (calls : List ModuleCall) (stopped : Option Page) (next : Option Units) : Type 0 where
  pub claim : Claimed
  pub opened : claim_of boot memory cpu ≡ Some claim
  pub run_is : run ≡ claim.run
  pub stopped_is : stopped ≡ stop_of calls
  pub next_is : next ≡ next_run boot claim (stop_of calls)

-- a block that an allocation picked
abbrev pub IsPicked : Boot → List Entry → Block → Type 0
IsPicked boot memory block = (order : ℕ) × (pick (free_page boot memory) order ≡ Some block)

-- an event of a processor after a memory's entries
abbrev pub Fits : Boot → List Entry → ℕ → Event → Type 0
Fits boot memory cpu (event.Claim block units run) = ClaimFits boot memory cpu block units run
Fits boot memory cpu (event.Report run calls stopped next) = ReportFits boot memory cpu run calls stopped next
Fits boot memory cpu (event.Got block) = IsPicked boot memory block
Fits boot memory cpu (event.Touched page found) = found_at boot memory page.0 ≡ Some found
Fits boot memory cpu event.Own = Unit {0}
Fits boot memory cpu event.NoBlock = Unit {0}
Fits boot memory cpu (event.Freed block) = Unit {0}
Fits boot memory cpu (event.Asked found) = Unit {0}
Fits boot memory cpu _ = ⊥

-- an event of the memory that follows fits
abbrev FitsThere : Boot → List Entry → ℕ → Event → Type 0
FitsThere boot memory cpu e = same_place place.Memory (place_of boot e) ≡ true → Fits boot memory cpu e

pub follows-fits : (boot : Boot) (scripts : List (List Command)) (history : List Moved) (entry : Entry) → ConvertNothing scripts → Follows boot scripts history entry → same_place place.Memory (place_of boot entry.event) ≡ true → Fits boot (entries_of (at_place entry.place history)) entry.cpu.0 entry.event
follows-fits boot scripts history entry all f =
    follows-row (FitsThere boot (entries_of (at_place entry.place history)) entry.cpu.0) boot scripts history entry all f
    (record {
      quiet = λ there. tt;
      asked = λ found there. tt;
      claimed = λ block units none lowest there. record { none = none; found = refl; lowest = lowest };
      reported = λ claim calls is there. record { claim = claim; opened = is; run_is = refl; stopped_is = refl; next_is = refl };
      got = λ name order block its is there. (order, is);
      none = λ there. tt;
      freed = λ name h its has there. tt;
      touched = λ page found at there. at;
      area = λ e is there. absurd (area-elsewhere boot e is there);
    })
