use Rattle.std.specs.Prelude.{ℕ, List, ◌++◌, Option, None, Some, Bool, false, ◌≡◌, ◌≢◌, ◌+◌, ◌==◌, nat_lt, fold, max, min, if◌then◌else◌}
use Rattle.std.specs.Option.{option_map_or}
use Rattle.guest_base.specs.Search.{first_such}
use Rattle.guest_base.specs.declared.memory.Units.{Units}
use Rattle.guest_base.specs.declared.memory.Block.{Block}
use Rattle.guest_base.specs.declared.memory.Page.{Page}
use Rattle.event_core.specs.declared.boot.Boot.{Boot}
use Rattle.event_core.specs.declared.module_call.ModuleCall.{ModuleCall}
use Rattle.event_core.specs.declared.event.Event.{Event}
use Rattle.event_core.specs.declared.event.Event.TheVariants.{Claim, Report}
use Rattle.event_core.specs.declared.entry.Entry.{Entry}
use Rattle.event_core.specs.Calls.{calls_in}
use Rattle.event_core.specs.Units.{units_cleared, units_end}

-- A processor's open claim: its units, the waiting block that it is for, its open run, the module calls before it, by which the
-- bits at the claim are known, and how many units it has cleared (after the list of ranges being accepted in unaccepted_memory.c).
pub record Claimed : Type 0 where
  pub block : Option Block
  pub units : Units
  pub run : Units
  pub before : List ModuleCall
  pub cleared : ℕ

-- a claim is open where it has a run
abbrev pub opened : Option Block → Option Units → Option Units → List ModuleCall → Option Claimed
opened block (Some units) (Some run) before = Some (record { block = block; units = units; run = run; before = before; cleared = 0 })
opened block None run before = None
opened block (Some units) None before = None

-- a claim goes on with its next run; it is closed by a report that stopped or has no next run
abbrev pub goes_on : Boot → List ModuleCall → List ModuleCall → Option Claimed → Option Page → Option Units → Option Claimed
goes_on boot before now (Some claim) None (Some next) =
    Some (record claim { run = next; cleared = claim.cleared + units_cleared boot before (before ++ now) claim.run })
goes_on boot before now None stopped next = None
goes_on boot before now (Some claim) (Some page) next = None
goes_on boot before now (Some claim) None None = None

-- what an event of its own makes of a processor's claim, after the calls before it
abbrev pub claim_step : Boot → List ModuleCall → Option Claimed → Event → Option Claimed
claim_step boot before claim (Claim block units run) = opened block units run before
claim_step boot before claim (Report run calls stopped next) = goes_on boot before calls claim stopped next
claim_step boot before claim _ = claim

-- the calls so far, and the processor's open claim
pub record Standing : Type 0 where
  pub calls : List ModuleCall
  pub claim : Option Claimed

abbrev pub standing_step : Boot → ℕ → Standing → Entry → Standing
standing_step boot cpu at entry = record {
  calls = at.calls ++ calls_in entry.event;
  claim = if entry.cpu.0 == cpu then claim_step boot at.calls at.claim entry.event else at.claim;
}

-- the open claim of a processor after memory's entries
unfoldable pub claim_of : Boot → List Entry → ℕ → Option Claimed
claim_of boot memory cpu = (fold (standing_step boot cpu) (record { calls = boot.calls; claim = None }) memory).claim

-- two ranges of units have a unit in common
abbrev pub units_meet : Units → Units → Bool
units_meet a b = nat_lt (max a.first b.first) (min (units_end a) (units_end b))

-- whether a claim meets units
abbrev pub claim_meets : Units → Option Claimed → Bool
claim_meets units claim = option_map_or (λ (c : Claimed). units_meet c.units units) claim false

-- the first processor whose open claim meets these units
unfoldable pub in_the_way : Boot → List Entry → Option Units → Option ℕ
in_the_way boot memory None = None
in_the_way boot memory (Some units) = first_such (λ cpu. claim_meets units (claim_of boot memory cpu)) 0 boot.cpus

-- no two processors have open claims with a unit in common
abbrev pub ClaimsApart : Boot → List Entry → Type 0
ClaimsApart boot memory =
    (c d : ℕ) (a b : Claimed) → c ≢ d → claim_of boot memory c ≡ Some a → claim_of boot memory d ≡ Some b
    → units_meet a.units b.units ≡ false
