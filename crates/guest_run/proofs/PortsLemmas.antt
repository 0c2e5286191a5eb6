use Rattle.std.proofs.Common.{◌≡◌, ℕ, suc, ◌<◌, ◌≤◌, Option, List, [], ◌∷◌, refl, sym, ◌∙◌, ap, subst, arith, length, get_or}
use Rattle.std.specs.Prelude.{All, drop, slice_set}
use Rattle.std.proofs.lemmas.List.Elements.{All-tail}
use Rattle.guest_base.specs.Counts.{Rose}
use Rattle.guest_base.specs.declared.memory.Page.{Page}
use Rattle.event_core.specs.declared.module_call.ModuleCall.{ModuleCall}
use Rattle.event_core.specs.Boot.{BootFront, BootStopped}
use Rattle.event_core.specs.Table.{Bits}
use Rattle.guest_boot.specs.Placing.{HasNoRoom}
use Rattle.guest_map.specs.declared.map.GuestMap.{GuestMap}
use Rattle.guest_runs.specs.Asking.{asking, EachKept, OthersUnmade, PortsKept}
use Rattle.guest_runs.proofs.PortsLemmas.{each_same}
use Rattle.guest_input.specs.declared.stop.Stop.TheVariants.{PoolNoRoom}
use Rattle.guest_run.specs.Boots.{BootCut, BootEnds, BootFailed}

-- Boot on the first port.

-- the other ports are as they were
others_set : {P : Type 0} (old : List P) (port : P) → drop 1 (slice_set old 0 port) ≡ drop 1 old
others_set [] port = refl
others_set (p ∷ old) port = refl

-- no port has made a call, so the others still haven't
pub others_unmade : {P : Type 0} (made : P → List ModuleCall) (old new : List P) → All (λ p. made p ≡ []) old → drop 1 new ≡ drop 1 old → OthersUnmade made new
others_unmade made [] new unmade same = subst (All (λ p. made p ≡ [])) (sym same) unmade
others_unmade made (p ∷ old) new unmade same = subst (All (λ p. made p ≡ [])) (sym same) (All-tail (λ p. made p ≡ []) p old unmade)

-- boot stopped, by what its call says of the first port
pub boot_failed : {P : Type 0} (made : P → List ModuleCall) (faults : P → ℕ) (never : P → Type 0) (old : List P) (port_old port : P) (map : GuestMap) (table : Option Bits) (slots areas cpus : ℕ) (page : Page) → 0 < length old → port_old ≡ get_or old 0 port_old → BootStopped map.descriptors map.hosts table slots areas cpus (made port) page → Rose (faults port_old) (faults port) → BootFailed (asking made faults never old (slice_set old 0 port)) map table slots areas cpus
boot_failed made faults never [] port_old port map table slots areas cpus page some is stopped failed = absurd (omega (arith, some))
boot_failed made faults never (p ∷ old) port_old port map table slots areas cpus page some is stopped failed = record {
  page = page;
  stopped = stopped;
  rose = subst (λ q. Rose (faults q) (faults port)) is failed;
  others = refl;
}

-- memory ran out in boot
pub boot_cut : {P : Type 0} (made : P → List ModuleCall) (faults : P → ℕ) (never : P → Type 0) (old : List P) (port : P) (map : GuestMap) (table : Option Bits) (slots areas cpus : ℕ) → 0 < length old → BootFront map.descriptors map.hosts table slots areas cpus (made port) → BootCut (asking made faults never old (slice_set old 0 port)) map table slots areas cpus
boot_cut made faults never [] port map table slots areas cpus some front = absurd (omega (arith, some))
boot_cut made faults never (p ∷ old) port map table slots areas cpus some front = record { front = front; others = refl }

-- the pool has no room, and the first port is as it was
same_first : {P : Type 0} (old : List P) (port_old port : P) → port_old ≡ get_or old 0 port_old → port ≡ port_old → slice_set old 0 port ≡ old
same_first [] port_old port is same = refl
same_first (p ∷ old) port_old port is same = ap (λ q. q ∷ old) (same ∙ is)

pub no_room : {P : Type 0} (made : P → List ModuleCall) (faults : P → ℕ) (never : P → Type 0) (old : List P) (port_old port : P) (map : GuestMap) (table : Option Bits) (slots areas cpus : ℕ) → port_old ≡ get_or old 0 port_old → HasNoRoom map.descriptors slots areas → port ≡ port_old → BootEnds (asking made faults never old (slice_set old 0 port)) map table slots areas cpus PoolNoRoom
no_room made faults never old port_old port map table slots areas cpus is none same = (none, same_first old port_old port is same)

-- the ports that come back
pub kept_first : {P : Type 0} (made : P → List ModuleCall) (faults : P → ℕ) (never : P → Type 0) (old : List P) (port_old port : P) → 0 < length old → port_old ≡ get_or old 0 port_old → faults port_old ≤ faults port → (never port_old → never port) → PortsKept 1 (asking made faults never old (slice_set old 0 port))
kept_first made faults never [] port_old port some is kept well = absurd (omega (arith, some))
kept_first made faults never (p ∷ old) port_old port some is kept well = record {
  each = (record { faults = subst (λ q. faults q ≤ faults port) is kept; never_fails = λ n. well (subst never (sym is) n) }, each_same made faults never old);
  others = others_set (p ∷ old) port;
}

-- they are as many
pub kept_length : {P : Type 0} (faults : P → ℕ) (never : P → Type 0) (before after : List P) → EachKept faults never before after → length after ≡ length before
kept_length faults never [] [] each = refl
kept_length faults never [] (y ∷ after) each = absurd each
kept_length faults never (x ∷ before) [] each = absurd each
kept_length faults never (x ∷ before) (y ∷ after) each = ap suc (kept_length faults never before after each.1)
