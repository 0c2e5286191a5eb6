use Rattle.std.proofs.Common.{◌≡◌, ℕ, zero, suc, ◌+◌, ◌≤◌, Option, None, Some, List, [], ◌∷◌, refl, sym, ◌∙◌, ap, subst, arith, length, map, slice_get}
use Rattle.std.specs.Prelude.{All}
use Rattle.std.specs.Option.{ForSome, option_map_or}
use Rattle.std.proofs.lemmas.List.{length-map}
use Rattle.std.proofs.lemmas.List.Elements.{All-nil, All-cons, All-head, All-tail}
use Rattle.event_core.specs.declared.boot.Boot.{Boot}
use Rattle.event_core.specs.declared.command.Command.{Command}
use Rattle.event_core.specs.declared.entry.Place.{Place}
use Rattle.event_core.specs.declared.entry.Place.TheVariants.{Memory, Area, Own}
use Rattle.event_core.specs.declared.module_call.ModuleCall.{ModuleCall}
use Rattle.event_core.specs.ReadableScript.{ReadableScript}
use Rattle.dma_map.specs.Pools.{IsLayout, layout_in}
use Rattle.event_laws.specs.Coming.{BootMade}
use Rattle.block_laws.specs.Unconverting.{ConvertsNothing}
use Rattle.block_laws.specs.Runnable.{IsRunnable}
use Rattle.memory_core.specs.Booted.{IsBooted}
use Rattle.guest_steps.specs.Ground.{Ground, IsGroundOf, ground_of, there_in}
use Rattle.memory_core.proofs.CutLemmas.{cut-length}
use Rattle.memory_core.proofs.PartsLemmas.{booted}
use Rattle.guest_boot.specs.declared.world.World.{World}
use Rattle.guest_boot.specs.Worlds.{WorldStands}
use Rattle.io_areas.specs.Value.{AreaValue}
use Rattle.memory_core.specs.UnderLock.{unmoved}
use Rattle.guest_steps.specs.Running.{AllStand, AtFirst, IsFresh}
use Rattle.guest_steps.specs.Seen.{Seen, first_seen}
use Rattle.guest_steps.specs.Standing.{Stands}
use Rattle.guest_steps.proofs.BeginningLemmas.{AreProcessors, beginning}
use Rattle.guest_runs.specs.Beginning.{Begins}
use Rattle.guest_runs.specs.OnPorts.{first_on, ground_in}

-- The processors of a booted world, before the first entry.

boot-booted : (boot : Boot) → BootMade boot → boot.cpus ≤ 64 → IsBooted boot
boot-booted boot made few =
    let same : boot.cpus ≡ made.cpus = made.right.uncalled.same_cpus in
    booted made.descriptors made.hosts made.table made.slots made.areas made.cpus boot made.rules made.fits made.right.uncalled (omega (arith, same, few))

module _ {P : Type 0} (made : P → List ModuleCall) (faults : P → ℕ) (boot : Boot) where
  first-fresh : (number : ℕ) (scripts : List (List Command)) (ports : List P) → All IsFresh (first_on made faults boot number scripts ports)
  first-fresh number [] ports = All-nil IsFresh
  first-fresh number (script ∷ scripts) [] = All-nil IsFresh
  first-fresh number (script ∷ scripts) (port ∷ ports) = All-cons IsFresh _ (first_on made faults boot (number + 1) scripts ports) refl (first-fresh (number + 1) scripts ports)

  first-at : (number : ℕ) (scripts : List (List Command)) (ports : List P) (k : ℕ) (c : Seen) → All IsRunnable scripts → slice_get (first_on made faults boot number scripts ports) k ≡ Some c → (c.number ≡ number + k) × (c.boot ≡ boot) × All ConvertsNothing c.script × ReadableScript c.script
  first-at number [] ports k c runnable at = cc
  first-at number (script ∷ scripts) [] k c runnable at = cc
  first-at number (script ∷ scripts) (port ∷ ports) zero c runnable at =
      let has = All-head IsRunnable script scripts runnable in
      let B : Seen → Type 0 = λ c. (c.number ≡ number + 0) × (c.boot ≡ boot) × All ConvertsNothing c.script × ReadableScript c.script in
      let first : Seen = first_seen boot number script (made port) (faults port) in
      let same : first ≡ c = cc in
      subst B same ((let n : number ≡ number + 0 = omega arith in n), refl, has.unconverting, has.readable)
  first-at number (script ∷ scripts) (port ∷ ports) (suc k) c runnable at =
      let rest = first-at (number + 1) scripts ports k c (All-tail IsRunnable script scripts runnable) at in
      let is = rest.0 in
      (omega (arith, is), rest.1, rest.2, rest.3)

first-ground : (world : World) → WorldStands world → IsGroundOf world.boot (ground_in world)
first-ground world stands =
    let areas = stands.areas in
    record {
      shares = record { some = λ pool. areas.some; few = areas.few; whole = areas.whole };
      memory = stands.same;
      count = areas.count;
      each = λ n area at. (let first = areas.each n area at in (first.number_is, first.slots));
    }

-- the pool of a world lies in memory
pub world-layout : (world : World) → WorldStands world → ForSome (layout_in world.boot) IsLayout
world-layout world stands = subst (λ layout. ForSome layout IsLayout) stands.layout stands.shaped

none-moved : (areas : List AreaValue) (found : Option AreaValue) → ((area : AreaValue) → found ≡ Some area → area.moved ≡ []) → option_map_or (λ (a : AreaValue). a.moved) found [] ≡ []
none-moved areas None first = refl
none-moved areas (Some area) first = first area refl

-- no place has an entry
pub first-there : (world : World) → WorldStands world → (place : Place) → there_in (ground_in world) place ≡ []
first-there world stands Memory = ap (map unmoved) stands.entries
first-there world stands (Area n) = none-moved world.areas.items (slice_get world.areas.items n) (λ area at. (stands.areas.each n area at).moved)
first-there world stands Own = refl

-- what holds of a processor that stands holds of each of those that stand
all-standing : {T : Type 0} (seen : T → Seen) (stands : T → Ground → Type 0) (all : List T) (base : Ground) → All (λ c. (b : Ground) → Stands (seen c) b → stands c b) all → ((cpu : ℕ) (c : Seen) → slice_get (map seen all) cpu ≡ Some c → Stands c base) → All (λ c. stands c base) all
all-standing seen stands [] base each standing = All-nil (λ c. stands c base)
all-standing {T} seen stands (c ∷ all) base each standing =
    let E : T → Type 0 = λ c. (b : Ground) → Stands (seen c) b → stands c b in
    All-cons (λ c. stands c base) c all (All-head E c all each base (standing 0 (seen c) refl))
    (all-standing seen stands all base (All-tail E c all each) (λ cpu d at. standing (suc cpu) d at))

module _ {P T : Type 0} (made : P → List ModuleCall) (faults : P → ℕ) (seen : T → Seen) (stands : T → Ground → Type 0) where
  pub begin-first : (world : World) (scripts : List (List Command)) (ports : List P) (ps : List P) (all : List T) → Begins made world scripts ports → map seen all ≡ first_on made faults world.boot 0 scripts ps → AtFirst (map seen all) (ground_in world)
  begin-first world scripts ports ps all begins is = record {
    fresh = subst (All IsFresh) (sym is) (first-fresh made faults world.boot 0 scripts ps);
    entries = first-there world begins.stands;
    out = begins.stands.out;
  }

  pub begin-stand : (world : World) (scripts : List (List Command)) (ports : List P) (ps : List P) (all : List T) → Begins made world scripts ports → map seen all ≡ first_on made faults world.boot 0 scripts ps → length all ≡ length scripts
      → All (λ c. (b : Ground) → Stands (seen c) b → stands c b) all → AllStand seen stands world.boot all (ground_in world)
  begin-stand world scripts ports ps all begins is count each =
      let few = begins.few in
      let cpus = begins.cpus in
      let long : length (map seen all) ≡ world.boot.cpus = length-map all seen ∙ count ∙ sym cpus in
      let are : AreProcessors world.boot (map seen all) = λ cpu c at.
      (let found = first-at made faults world.boot 0 scripts ps cpu c begins.runnable (ap (λ cs. slice_get cs cpu) (sym is) ∙ at) in
      (found.0 ∙ (let same : 0 + cpu ≡ cpu = omega arith in same), found.1, found.2, found.3))
      in
      let together = beginning world.boot (map seen all) (ground_in world) (boot-booted world.boot begins.boot_made (omega (arith, few, cpus))) (cut-length world.boot begins.boot_made) long (first-ground world begins.stands) (begin-first world scripts ports ps all begins is) are in
      record {
        together = together;
        each = all-standing seen stands all (ground_in world) each (λ cpu c at. (together.each cpu c at).2);
      }
