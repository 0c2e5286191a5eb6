use Rattle.std.proofs.Common.{◌≡◌, ℕ, zero, suc, subst, ◌<◌, ◌≤◌, Bool, true, false, None, Some, [], ◌∷◌, refl, arith, lit<, lit≤}
use Rattle.std.specs.Prelude.{All, ◌≢◌, length, nat_lt, slice_get, ◌&&◌}
use borrow.Author.Tests.{ltb-true}
use Rattle.guest_base.specs.declared.limits.TheConstants.{PAGE_END}
use Rattle.std.proofs.lemmas.List.Elements.{All-nil, All-cons}
use Rattle.event_core.specs.declared.command.Command.TheVariants as command
use Rattle.event_core.specs.declared.entry.Place.{Place}
use Rattle.event_core.specs.declared.entry.Place.TheVariants as place
use Rattle.event_core.specs.Cut.{cut}
use Rattle.event_core.specs.Pool.{area_slots}
use Rattle.event_core.specs.ReadableScript.{IsReadable, ReadableScript}
use Rattle.block_laws.specs.Unconverting.{ConvertsNothing}
use Rattle.event_core.specs.Units.{bit_of}
use Rattle.guest_base.specs.Search as Search
use Rattle.memory_core.specs.Booted.{IsBooted}
use Rattle.io_areas.specs.Value.{AreaValue}
use Rattle.guest_steps.specs.Ground.{Ground, IsGroundOf, there_in}
use Rattle.guest_steps.specs.Running.{IsFresh}
use Rattle.guest_steps.specs.Seen.{Seen, first_seen}
use Rattle.guest_steps.specs.Standing.{Stands}
use Rattle.guest_steps.proofs.BeginningLemmas.{beginning}
use Rattle.guest_cpu.proofs.AloneLemmas.{any_boot as nothing}

-- A boot without memory, before which a processor of one refused command stands.

abbrev pub no_memory : Ground
no_memory = record { memory = record { boot = nothing; entries = []; out = []; room = 0 }; areas = [] }

first-of : (a b : Bool) → (a && b) ≡ true → a ≡ true
first-of true b is = refl
first-of false b is = is

nat_lt-true : (m n : ℕ) → nat_lt m n ≡ true → m < n
nat_lt-true m n is = ltb-true m n is

no-bit : (unit : ℕ) → bit_of [] unit ≡ true → ⊥
no-bit unit is = let below : unit < 0 = nat_lt-true unit 0 (first-of (nat_lt unit 0) _ is) in omega (arith, below)

nothing-booted : IsBooted nothing
unfolding Search.any_such
nothing-booted = record {
  pending = λ unit page set here. absurd (no-bit unit set);
  low = λ page some. absurd (some refl);
  some = lit< tt;
  small = lit≤ tt;
  unit_is = refl;
  aligned = refl;
  cpus = lit≤ tt;
}

abbrev pub refused_seen : Seen
refused_seen = first_seen nothing 0 (command.Accept 0 0 ∷ []) [] 0

pub one-of-blocks : All ConvertsNothing (command.Accept 0 0 ∷ [])
one-of-blocks = All-cons ConvertsNothing (command.Accept 0 0) [] tt (All-nil ConvertsNothing)

pub one-readable : ReadableScript (command.Accept 0 0 ∷ [])
one-readable = record { few = lit≤ tt; each = All-cons IsReadable (command.Accept 0 0) [] (lit< tt, lit< tt) (All-nil IsReadable); named = lit≤ tt }

one-seen : (k : ℕ) (c : Seen) → slice_get (refused_seen ∷ []) k ≡ Some c → (c.number ≡ k) × (c.boot ≡ nothing) × All ConvertsNothing c.script × ReadableScript c.script
one-seen zero c is =
    let same : refused_seen ≡ c = got refused_seen c is in
    let P : Seen → Type 0 = λ x. (x.number ≡ 0) × (x.boot ≡ nothing) × All ConvertsNothing x.script × ReadableScript x.script in
    subst P same (refl, refl, one-of-blocks, one-readable)
  where
    got : (a b : Seen) → Some a ≡ Some b → a ≡ b
    got a b both = cc
one-seen (suc k) c is = absurd (let no : None ≡ Some c = is in cc)

no-cut : length (cut nothing) ≤ PAGE_END
unfolding cut
no-cut = lit≤ tt

no-pool : nothing.pool ≢ None → 0 < nothing.areas
no-pool some = absurd (some refl)

no-area : (n : ℕ) (area : AreaValue) → slice_get no_memory.areas n ≡ Some area → (area.number ≡ n) × (area.slots ≡ area_slots nothing)
no-area n area at = absurd (grind (arith, at))

nothing-ground : IsGroundOf nothing no_memory
nothing-ground = record { shares = record { some = no-pool; few = lit≤ tt; whole = refl }; memory = refl; count = refl; each = no-area }

none-there : (at : Place) → there_in no_memory at ≡ []
none-there place.Memory = refl
none-there (place.Area area) = refl
none-there place.Own = refl

pub refused-stands : Stands refused_seen no_memory
refused-stands = (((beginning nothing (refused_seen ∷ []) no_memory nothing-booted no-cut refl nothing-ground (record { fresh = All-cons IsFresh refused_seen [] refl (All-nil IsFresh); entries = none-there; out = λ cpu. refl }) one-seen).each) 0 refused_seen refl).2
