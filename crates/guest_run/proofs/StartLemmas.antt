use Rattle.std.proofs.Common.{◌≡◌, ℕ, ◌<◌, ◌≤◌, Bool, true, false, ◌&&◌, List, [], length, Option, refl, inl, inr, arith, subst, sym, ap, ◌∙◌}
use Rattle.std.specs.Prelude.{All, nat_le, drop, Result, Ok, Err, IfOk, IfErr, IfSome}
use Rattle.std.proofs.lemmas.Bool.{leb-true}
use Rattle.guest_base.specs.declared.limits.TheConstants.{MAX_CPUS}
use Rattle.event_core.specs.declared.command.Command.{Command}
use Rattle.event_core.specs.declared.module_call.ModuleCall.{ModuleCall}
use Rattle.event_core.specs.Boot.{BootRight}
use Rattle.event_core.specs.Given.{FitsGiven}
use Rattle.event_core.specs.Map.{MapRules}
use Rattle.event_core.specs.Table.{Bits}
use Rattle.block_laws.specs.Runnable.{IsRunnable}
use Rattle.guest_map.specs.declared.map.GuestMap.{GuestMap}
use Rattle.guest_base.specs.declared.memory.CpuNo.{CpuNo}
use Rattle.guest_script.specs.Order.{ReadableOrder}
use Rattle.guest_boot.specs.declared.world.World.{World}
use Rattle.guest_boot.specs.Placing.{MayAsk}
use Rattle.guest_boot.specs.Worlds.{WorldStands}
use Rattle.guest_words.specs.Words.{Named, cpus_in, KeepsLimits}
use Rattle.guest_input.specs.Asked.{all_names, Asks}
use Rattle.guest_input.specs.Files.{AreGood, AreScriptsOf, IsGiven, IsOrderOf}
use Rattle.guest_input.specs.declared.input.Input.{Input}
use Rattle.guest_input.specs.Reading.{Reading}
use Rattle.guest_input.specs.Stopping.{StopsReading}
use Rattle.guest_input.specs.declared.stop.Stop.{Stop}
use Rattle.guest_input.specs.declared.stop.Stop.TheVariants.{Refused, NotRead, PoolNoRoom, Module, NoMemory}
use Rattle.guest_input.proofs.InputLemmas.{asks_all}
use Rattle.guest_runs.specs.Asking.{Asking, Unasked, first_made}
use Rattle.guest_runs.specs.Beginning.{Begins}
use Rattle.guest_run.specs.Boots.{BootEnds}
use Rattle.guest_run.specs.Starting.{Starts}
use Rattle.guest_run.specs.Stopping.{Stopped}
use Rattle.guest_run.specs.declared.start.Start.{Start}
use Rattle.guest_run.proofs.PortsLemmas.{others_unmade}

-- What a run begins with, and why it doesn't.

-- a boot of the files that ended early
pub boot_stop : {P : Type 0} (files : Reading) (ports : Asking P) (named : Named) (map : GuestMap) (table : Option Bits) (stop : Stop) → AreGood files.holds named → IsGiven files.holds named map table → Asks (all_names named) files → BootEnds ports map table named.slots named.areas (cpus_in named) stop → Stopped files ports named stop
boot_stop files ports named map table (Refused file cause) good given asked ends = absurd ends
boot_stop files ports named map table (NotRead file) good given asked ends = absurd ends
boot_stop files ports named map table PoolNoRoom good given asked ends = (record { good = good; pool = record { map = map; map_is = given.map_is; none = ends.0 } }, asked, ends.1)
boot_stop files ports named map table Module good given asked ends = (record { good = good; map = map; table = table; given = given; failed = ends }, asked)
boot_stop files ports named map table NoMemory good given asked ends = (asks_all named files asked, inr (inl (record { map = map; table = table; given = given; cut = ends })))

-- a stop at the files is one before the ports
pub input_stop : {P : Type 0} (files : Reading) (ports : Asking P) (named : Named) (stop : Stop) → Unasked ports → StopsReading files named stop → Stopped files ports named stop
input_stop files ports named (Refused file cause) unasked stops = (stops, unasked)
input_stop files ports named (NotRead file) unasked stops = (stops, unasked)
input_stop files ports named PoolNoRoom unasked stops = absurd stops
input_stop files ports named Module unasked stops = absurd stops
input_stop files ports named NoMemory unasked stops = (stops, inl unasked)

-- 1 to 64 processors
both : (a b : Bool) → (a && b) ≡ true → (a ≡ true) × (b ≡ true)
both true true h = (refl, refl)
both true false h = cc
both false b h = cc

pub cpus_some : (named : Named) → KeepsLimits named → 0 < cpus_in named
cpus_some named keeps = let le = leb-true 1 (cpus_in named) (both (nat_le 1 (cpus_in named)) (nat_le (cpus_in named) MAX_CPUS) keeps.cpus).0 in omega (arith, le)

pub cpus_few : (named : Named) → KeepsLimits named → cpus_in named ≤ MAX_CPUS
cpus_few named keeps = leb-true (cpus_in named) MAX_CPUS (both (nat_le 1 (cpus_in named)) (nat_le (cpus_in named) MAX_CPUS) keeps.cpus).1

-- what they may ask of the pool
pub may_ask : (named : Named) → KeepsLimits named → MayAsk named.slots named.areas
may_ask named keeps = record { few_slots = keeps.slots; few_areas = keeps.areas; power = keeps.power }

-- the world of a boot, with the scripts that were read
pub begins : {P : Type 0} (made : P → List ModuleCall) (world : World) (scripts : List (List Command)) (map : GuestMap) (table : Option Bits) (slots areas cpus : ℕ) (old ports : List P) → cpus ≡ length scripts → 0 < length scripts → length scripts ≤ MAX_CPUS → All IsRunnable scripts → MapRules map.descriptors map.hosts → FitsGiven map.descriptors table
    → BootRight map.descriptors map.hosts table slots areas cpus world.boot → WorldStands world → MAX_CPUS ≤ length old → All (λ p. made p ≡ []) old → first_made made ports ≡ world.boot.calls → length ports ≡ length old → drop 1 ports ≡ drop 1 old → Begins made world scripts ports
begins made world scripts map table slots areas cpus old ports many some few runnable rules fits right stands enough unmade first same others = record {
  stands = stands;
  boot_made = record { descriptors = map.descriptors; hosts = map.hosts; table = table; slots = slots; areas = areas; cpus = cpus; rules = rules; fits = fits; right = right };
  cpus = right.uncalled.same_cpus ∙ many;
  some = some;
  few = few;
  runnable = runnable;
  enough = omega (arith, few, enough, same);
  first = first;
  others = others_unmade made old ports unmade others;
}

-- what a run of the files begins with
pub starts : {P : Type 0} (holds : List ℕ → Option (List ℕ)) (ports : Asking P) (named : Named) (input : Input) (result : Result Start Stop) → IsGiven holds named input.map input.table → IsOrderOf holds named input.order → IfSome input.order (λ turns. ReadableOrder (cpus_in named) turns) → AreScriptsOf holds named input.scripts
    → IfOk result (λ s. BootRight input.map.descriptors input.map.hosts input.table named.slots named.areas (length input.scripts) s.world.boot) → IfOk result (λ s. s.scripts ≡ input.scripts) → IfOk result (λ s. s.order ≡ input.order) → IfOk result (λ s. Begins ports.made s.world input.scripts ports.after) → IfOk result (λ s. Starts holds ports named s)
starts holds ports named input (Err stop) given order turns are right scripts_is order_is begins = tt
starts holds ports named input (Ok s) given order turns are right scripts_is order_is begins =
    let B : ℕ → Type 0 = λ n. BootRight input.map.descriptors input.map.hosts input.table named.slots named.areas n s.world.boot in
    let T : Option (List CpuNo) → Type 0 = λ o. IfSome o (λ turns. ReadableOrder (length s.scripts) turns) in
    let U : ℕ → Type 0 = λ n. IfSome input.order (λ turns. ReadableOrder n turns) in
    record {
      booted = record {
        order_is = subst (IsOrderOf holds named) (sym order_is) order;
        map = input.map;
        table = input.table;
        given = given;
        right = subst B are.as_many right;
        scripts_are = subst (AreScriptsOf holds named) (sym scripts_is) are;
      };
      begins = subst (λ ss. Begins ports.made s.world ss ports.after) (sym scripts_is) begins;
      turns = subst T (sym order_is) (subst U (sym (ap length scripts_is ∙ are.as_many)) turns);
    }

-- why there is none
pub boot_stops : {P : Type 0} (files : Reading) (ports : Asking P) (named : Named) (input : Input) (result : Result Start Stop) → AreGood files.holds named → IsGiven files.holds named input.map input.table → Asks (all_names named) files → AreScriptsOf files.holds named input.scripts → IfErr result (λ stop. BootEnds ports input.map input.table named.slots named.areas (length input.scripts) stop) → IfErr result (λ stop. Stopped files ports named stop)
boot_stops files ports named input (Ok s) good given asked are ends = tt
boot_stops files ports named input (Err stop) good given asked are ends =
    let E : ℕ → Type 0 = λ n. BootEnds ports input.map input.table named.slots named.areas n stop in
    boot_stop files ports named input.map input.table stop good given asked (subst E are.as_many ends)
