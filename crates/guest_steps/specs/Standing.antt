use Rattle.std.specs.Prelude.{ℕ, List, [], ◌∷◌, ◌++◌, Option, None, Some, false, true, ◌≡◌, ◌≢◌, ◌+◌, ◌*◌, ◌≤◌, ◌<◌, All, AllPairs, length, map, slice_get, unwrap_or}
use Rattle.guest_base.specs.Counts.{Rose}
use Rattle.guest_base.specs.declared.limits.TheConstants.{PAGE_END}
use Rattle.guest_base.specs.declared.memory.Block.{Block}
use Rattle.event_core.specs.declared.boot.Boot.{Boot}
use Rattle.event_core.specs.declared.command.Command.{Command}
use Rattle.event_core.specs.declared.command.Command.TheVariants.{Alloc, Accept}
use Rattle.event_core.specs.declared.entry.Entry.{Entry}
use Rattle.event_core.specs.declared.entry.Place.{Place}
use Rattle.event_core.specs.declared.entry.Place.TheVariants.{Memory, Area, Own}
use Rattle.event_core.specs.declared.module_call.ModuleCall.{ModuleCall}
use Rattle.event_core.specs.Calls.{calls_of}
use Rattle.event_core.specs.Claims.{Claimed, claim_of}
use Rattle.event_core.specs.Holdings.{Holding, Mapping}
use Rattle.event_core.specs.Legal.{at_place, bare, greatest_stamp}
use Rattle.event_core.specs.Locally.{Rising, FollowsLocally}
use Rattle.event_core.specs.Moved.{Moved, entries_of, made_by}
use Rattle.event_core.specs.Pool.{same_run}
use Rattle.event_core.specs.ReadableScript.{ReadableScript}
use Rattle.event_core.specs.Refusals.{refusal_of}
use Rattle.event_core.specs.Splits.{Lists}
use Rattle.page_module.specs.Spans.{Taken}
use Rattle.pool_laws.specs.Live.{is_live, live_in}
use Rattle.block_laws.specs.Unconverting.{ConvertsNothing}
use Rattle.accept_sizes.specs.Ends.{stopped_at}
use Rattle.memory_core.specs.Away.{BringsSince, NoneOf}
use Rattle.memory_core.specs.Booted.{IsBooted}
use Rattle.memory_core.specs.Owners.{is_owner}
use Rattle.memory_core.specs.Steps.{HasStates, last_stamp}
use Rattle.memory_core.specs.Value.{MemoryValue, Handed, handed_to}
use Rattle.guest_steps.specs.Ground.{Ground, IsGroundOf, there_in}
use Rattle.guest_steps.specs.Replies.{FaultsTold, calls_reported}
use Rattle.guest_steps.specs.Seen.{Seen, Accepted, STEPS, entries_made, own_now, present_command, steps_left, steps_waiting}
use Rattle.guest_steps.specs.Steps.{HaveScript}

-- How a processor stands over the memory and the areas (own rule).

-- the entry stands in its place's list behind these, without its reply; an own event has no list
-- of its place
abbrev pub StoodIn : Place → Moved → (Place → List Moved) → List Moved → Type 0
StoodIn Own m kept there = there ≡ []
StoodIn Memory m kept there = (later : List Moved) × (kept Memory ≡ there ++ bare m ∷ later)
StoodIn (Area area) m kept there =
    (later : List Moved) × (kept (Area area) ≡ there ++ bare m ∷ later)

abbrev pub StoodBehind : Moved → (Place → List Moved) → List Moved → Type 0
StoodBehind m kept there = StoodIn m.entry.place m kept there

-- each entry of the processor follows those before it, and those before it in its place, whatever
-- the other scripts
abbrev pub FollowsAll : Seen → (Place → List Moved) → Type 0
FollowsAll c kept =
    (before later : List Moved) (m : Moved) → c.moved ≡ before ++ m ∷ later
    → (there : List Moved) × StoodBehind m kept there
    × ((scripts : List (List Command)) → HaveScript scripts c
    → FollowsLocally c.boot scripts before there m)

-- an acceptance of a range claims for no block, and an allocation for a waiting one
abbrev pub ClaimsFor : Command → Option Block → Type 0
ClaimsFor (Accept start len) block = block ≡ None
ClaimsFor (Alloc name order) block = block ≢ None
ClaimsFor _ block = ⊥

-- A claim of the processor is open, and the span is out for its run. It is for the processor's
-- present command, which isn't refused. Its last entry is the memory's.
pub record Claiming (c : Seen) (memory : MemoryValue) (claim : Claimed) (span : Taken)
    : Type 0 where
  pub claimed : claim_of c.boot memory.entries c.number ≡ Some claim
  pub handed : Handed
  pub is_handed : handed_to memory c.number ≡ Some handed
  pub ticket : handed.ticket ≡ span.ticket
  pub some : 0 < claim.run.count
  pub command : Command
  pub present : present_command c ≡ Some command
  pub fine : refusal_of c.boot (own_now c) command ≡ None
  pub claims : ClaimsFor command claim.block
  pub clock : greatest_stamp c.moved ≤ last_stamp memory.entries

-- the span has the states in which the memory handed it out, and no entry since is the processor's
pub record IsAsHanded (memory : MemoryValue) (cpu : ℕ) (claim : Claimed) (span : Taken)
    : Type 0 where
  pub before : List Entry
  pub rest : List Entry
  pub split : memory.entries ≡ before ++ rest
  pub others : NoneOf cpu rest
  pub has : HasStates memory.boot (calls_of memory.boot before) claim.run span

-- no claim is open and nothing is out; or a span is out as it was handed out; or calls were made
-- for it
abbrev pub IsOut : Seen → MemoryValue → Option Taken → Option Accepted → Type 0
IsOut c memory None None = claim_of c.boot memory.entries c.number ≡ None
IsOut c memory None (Some done) = ⊥
IsOut c memory (Some span) None =
    (claim : Claimed) × Claiming c memory claim span × IsAsHanded memory c.number claim span
IsOut c memory (Some span) (Some done) =
    (claim : Claimed) × Claiming c memory claim span
    × BringsSince memory c.number claim span done.calls done.end

-- the calls that aren't reported yet
abbrev pub unreported : Option Accepted → List ModuleCall
unreported None = []
unreported (Some done) = done.calls

-- an acceptance that isn't reported yet stopped only where the count of faults rose
abbrev pub StopTold : ℕ → Option Accepted → ℕ → Type 0
StopTold before None after = Unit {0}
StopTold before (Some done) after = stopped_at done.end ≢ None → Rose before after

-- What a processor's port was asked since the processor was made: the calls that its entries
-- report, and those that aren't reported yet. A command was answered that the module failed only
-- where the port's count of faults rose.
pub record PortTells (c : Seen) : Type 0 where
  pub made : c.made ≡ c.made_before ++ calls_reported (entries_made c) ++ unreported c.done
  pub faults : c.faults_before ≤ c.faults
  pub failed : FaultsTold c.faults_before (entries_made c) c.faults
  pub stopped : StopTold c.faults_before c.done c.faults

-- the blocks that the processor has
abbrev pub blocks_had : Seen → List Block
blocks_had c = map (λ (h : Holding). h.block) (own_now c).blocks

-- it owns these by its entries in the memory, and has none of them twice
pub record OwnsHeld (c : Seen) (memory : List Entry) : Type 0 where
  pub owned : All (λ (block : Block). is_owner memory c.number block ≡ true) (blocks_had c)
  pub differ : AllPairs (λ (a b : Block). a ≢ b) (blocks_had c)

-- each of its mappings is live by its entries in the mapping's area, and it has none of them twice
pub record HasLive (c : Seen) : Type 0 where
  pub live : All (λ (m : Mapping).
      is_live m.run (live_in (at_place (Area m.run.area) c.moved)) ≡ true) (own_now c).mappings
  pub differ : AllPairs (λ (a b : Mapping). same_run a.run b.run ≡ false) (own_now c).mappings

-- A processor stands over a memory and areas of its boot. Each place has of it what its entries
-- have there. These are its own, they rise, and each follows where it was made. What is out with it
-- is what the memory handed out for its open claim. Its entries, with the steps that are left, are
-- at most the steps of its commands and of all blocks.
pub record Stands (c : Seen) (base : Ground) : Type 0 where
  pub same : IsGroundOf c.boot base
  pub booted : IsBooted c.boot
  pub cpu : c.number < c.boot.cpus
  pub unconverting : All ConvertsNothing c.script
  pub readable : ReadableScript c.script
  pub mine : (place : Place) → made_by c.number (there_in base place) ≡ at_place place c.moved
  pub named : All (λ (m : Moved). m.entry.cpu.0 ≡ c.number) c.moved
  pub rises : Rising (entries_made c)
  pub follows : FollowsAll c (there_in base)
  pub held : OwnsHeld c base.memory.entries
  pub mapped : HasLive c
  pub out : IsOut c base.memory c.out c.done
  pub port : PortTells c
  pub spent : length c.moved + steps_left c + steps_waiting c.boot base.memory.entries
      ≤ (length c.script + PAGE_END) * STEPS

-- all processors of a boot stand over its memory and areas, each at the place of its number, and
-- the entries there are theirs
pub record Together (boot : Boot) (all : List Seen) (base : Ground) : Type 0 where
  pub count : length all ≡ boot.cpus
  pub same : IsGroundOf boot base
  pub each : (cpu : ℕ) (c : Seen) → slice_get all cpu ≡ Some c
      → (c.number ≡ cpu) × (c.boot ≡ boot) × Stands c base
  pub named : (place : Place) → All (λ (m : Moved). m.entry.cpu.0 < boot.cpus) (there_in base place)
  pub rises : (place : Place) → Rising (entries_of (there_in base place))

-- the scripts of processors, and their lists of entries
abbrev pub scripts_of : List Seen → List (List Command)
scripts_of all = map (λ (c : Seen). c.script) all

abbrev pub lists_of : List Seen → List (List Entry)
lists_of all = map (λ (c : Seen). entries_made c) all

-- the entries of a processor with the bytes that they moved; a number without a processor has none
abbrev pub moved_at : List Seen → ℕ → List Moved
moved_at all cpu = unwrap_or (slice_get (map (λ (c : Seen). c.moved) all) cpu) []

-- the lists of processors beside those of the memory and of the areas
abbrev pub kept_by : List Seen → Ground → Lists
kept_by all base = record {
  by_cpu = moved_at all;
  by_memory = there_in base Memory;
  by_area = λ area. there_in base (Area area);
}
