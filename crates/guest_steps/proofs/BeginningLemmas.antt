use Rattle.std.proofs.Common.{◌≡◌, ◌≢◌, ℕ, ◌≤◌, ◌<◌, true, false, None, Some, List, [], ◌∷◌, ◌++◌, refl, sym, ◌∙◌, ap, subst, arith, append-nil}
use Rattle.std.specs.Prelude.{All, length, slice_get}
use Rattle.std.proofs.lemmas.Option.{get_or_from_slice_get, slice_get_within}
use Rattle.std.proofs.lemmas.List.Elements.{All-nil, All-get_or}
use Rattle.guest_base.specs.declared.limits.TheConstants.{PAGE_END}
use Rattle.guest_base.specs.declared.memory.Block.{Block}
use Rattle.event_core.specs.declared.boot.Boot.{Boot}
use Rattle.event_core.specs.declared.command.Command.{Command}
use Rattle.event_core.specs.declared.entry.Entry.{Entry}
use Rattle.event_core.specs.declared.entry.Place.{Place}
use Rattle.event_core.specs.declared.entry.Place.TheVariants.{Memory, Area, Own}
use Rattle.event_core.specs.declared.module_call.ModuleCall.{ModuleCall}
use Rattle.event_core.specs.Claims.{claim_of}
use Rattle.event_core.specs.Cut.{cut}
use Rattle.event_core.specs.Holdings.{Mapping}
use Rattle.event_core.specs.Legal.{ComesBefore, at_place}
use Rattle.event_core.specs.Locally.{Rising}
use Rattle.event_core.specs.Moved.{Moved, entries_of, made_by}
use Rattle.event_core.specs.Own.{own_of}
use Rattle.event_core.specs.Pool.{same_run}
use Rattle.event_core.specs.ReadableScript.{ReadableScript}
use Rattle.event_core.proofs.RisingLemmas.{pairs-nil}
use Rattle.block_laws.specs.Unconverting.{ConvertsNothing}
use Rattle.memory_core.specs.Booted.{IsBooted}
use Rattle.memory_core.specs.Owners.{is_owner}
use Rattle.pool_laws.specs.Live.{is_live, live_in}
use Rattle.guest_steps.specs.Ground.{Ground, IsGroundOf, there_in}
use Rattle.guest_steps.specs.Running.{AtFirst, IsFresh}
use Rattle.guest_steps.specs.Seen.{Seen, first_seen, own_now}
use Rattle.guest_steps.specs.Standing.{FollowsAll, HasLive, OwnsHeld, PortTells, Stands, Together}
use Rattle.guest_steps.proofs.AccountLemmas.{first-spent}
use Rattle.guest_steps.proofs.ListLemmas.{not-in-nil}
use Rattle.guest_steps.proofs.StepLemmas.{entries-unmoved}

-- Before the first entry all processors stand.

-- what holds of each item holds of one
pub all-got : {X : Type 0} (P : X → Type 0) (xs : List X) (k : ℕ) (x : X) → All P xs → slice_get xs k ≡ Some x → P x
all-got P xs k x all got = subst P (get_or_from_slice_get xs k x x got) (All-get_or P xs k x (slice_get_within xs k x got) all)

no-claim : (boot : Boot) (cpu : ℕ) → claim_of boot [] cpu ≡ None
unfolding claim_of
no-claim boot cpu = refl

fresh-follows : (c : Seen) (kept : Place → List Moved) → c.moved ≡ [] → FollowsAll c kept
fresh-follows c kept none before later m is = absurd (not-in-nil before later m (sym none ∙ is))

fresh-port : (boot : Boot) (number : ℕ) (script : List Command) (made : List ModuleCall) (faults : ℕ) → PortTells (first_seen boot number script made faults)
fresh-port boot number script made faults = record {
  made = sym (append-nil (made ++ []) ∙ append-nil made);
  faults = omega arith;
  failed = λ some. cc;
  stopped = tt;
}

no-blocks : (boot : Boot) (number : ℕ) (script : List Command) (made : List ModuleCall) (faults : ℕ) (memory : List Entry) → OwnsHeld (first_seen boot number script made faults) memory
unfolding own_of
no-blocks boot number script made faults memory = record { owned = All-nil (λ (b : Block). is_owner memory number b ≡ true); differ = pairs-nil (λ (a b : Block). a ≢ b) }

no-mappings : (boot : Boot) (number : ℕ) (script : List Command) (made : List ModuleCall) (faults : ℕ) → HasLive (first_seen boot number script made faults)
unfolding own_of
no-mappings boot number script made faults = record {
  live = All-nil (λ (m : Mapping). is_live m.run (live_in (at_place (Area m.run.area) [])) ≡ true);
  differ = pairs-nil (λ (a b : Mapping). same_run a.run b.run ≡ false);
}

pub nothing-at : (place : Place) → at_place place [] ≡ []
nothing-at Memory = refl
nothing-at (Area area) = refl
nothing-at Own = refl

no-entries : (base : Ground) → ((place : Place) → there_in base place ≡ []) → base.memory.entries ≡ []
no-entries base none = sym (entries-unmoved base.memory.entries) ∙ ap entries_of (none Memory)

fresh-stands : (boot : Boot) (number : ℕ) (script : List Command) (made : List ModuleCall) (faults : ℕ) (base : Ground) → IsGroundOf boot base → IsBooted boot → length (cut boot) ≤ PAGE_END → number < boot.cpus
    → All ConvertsNothing script → ReadableScript script → ((place : Place) → there_in base place ≡ []) → Stands (first_seen boot number script made faults) base
fresh-stands boot number script made faults base same booted blocks low unconverting readable none =
    let c = first_seen boot number script made faults in
    record {
      same = same;
      booted = booted;
      cpu = low;
      unconverting = unconverting;
      readable = readable;
      mine = λ place. ap (made_by number) (none place) ∙ sym (nothing-at place);
      named = All-nil (λ (m : Moved). m.entry.cpu.0 ≡ number);
      rises = pairs-nil ComesBefore;
      follows = fresh-follows c (there_in base) refl;
      held = no-blocks boot number script made faults base.memory.entries;
      mapped = no-mappings boot number script made faults;
      out = ap (λ es. claim_of boot es number) (no-entries base none) ∙ no-claim boot number;
      port = fresh-port boot number script made faults;
      spent = first-spent boot base.memory.entries (length script) (own_now c).looks blocks;
    }

-- each processor of a boot has its place, and a script that converts nothing
abbrev pub AreProcessors : Boot → List Seen → Type 0
AreProcessors boot all =
    (cpu : ℕ) (c : Seen) → slice_get all cpu ≡ Some c → (c.number ≡ cpu) × (c.boot ≡ boot) × All ConvertsNothing c.script × ReadableScript c.script

pub beginning : (boot : Boot) (all : List Seen) (base : Ground) → IsBooted boot → length (cut boot) ≤ PAGE_END → length all ≡ boot.cpus → IsGroundOf boot base → AtFirst all base → AreProcessors boot all → Together boot all base
beginning boot all base booted blocks count same first each = record {
  count = count;
  same = same;
  each = λ cpu c at.
      let e = each cpu c at in
      let within = slice_get_within all cpu c at in
      let number = e.0 in
      let cpus : c.boot.cpus ≡ boot.cpus = ap (λ (b : Boot). b.cpus) e.1 in (
        e.0,
        e.1,
        subst (λ (x : Seen). Stands x base) (sym (all-got IsFresh all cpu c first.fresh at))
            (fresh-stands c.boot c.number c.script c.made_before c.faults_before base (subst (λ b. IsGroundOf b base) (sym e.1) same) (subst IsBooted (sym e.1) booted) (subst (λ (b : Boot). length (cut b) ≤ PAGE_END) (sym e.1) blocks) (omega (arith, number, within, count, cpus)) e.2 e.3 first.entries),
      );
  named = λ place. subst (All (λ (m : Moved). m.entry.cpu.0 < boot.cpus)) (sym (first.entries place)) (All-nil (λ (m : Moved). m.entry.cpu.0 < boot.cpus));
  rises = λ place. subst (λ ms. Rising (entries_of ms)) (sym (first.entries place)) (pairs-nil ComesBefore);
}
