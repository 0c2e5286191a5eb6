use Rattle.std.proofs.Common.{◌≡◌, ℕ, List, length, Option, None, Some, refl, sym, subst, inr, arith}
use Rattle.std.specs.Prelude.{Ok, Err}
use Rattle.std.specs.Option.{option_map}
use Rattle.guest_base.specs.declared.memory.PageRun.{PageRun}
use Rattle.guest_base.specs.declared.memory.CpuNo.{CpuNo}
use Rattle.event_core.specs.declared.boot.Boot.{Boot}
use Rattle.event_core.specs.declared.boot.Recorded.{Recorded}
use Rattle.event_core.specs.declared.command.Command.{Command}
use Rattle.event_core.specs.declared.module_call.ModuleCall.{ModuleCall}
use Rattle.guest_words.specs.Words.{Named, cpus_in, KeepsLimits}
use Rattle.guest_input.specs.Asked.{all_names, Asks}
use Rattle.guest_input.specs.Files.{AreGood, IsOrderIn}
use Rattle.guest_input.specs.Reading.{Reading}
use Rattle.guest_input.specs.declared.stop.Stop.{Stop}
use Rattle.guest_input.specs.declared.stop.Stop.TheVariants.{NoMemory}
use Rattle.guest_input.proofs.InputLemmas.{asks_all}
use Rattle.event_core.specs.Printed.{FinalRuns}
use Rattle.guest_runs.specs.Asking.{asking, PortsKept}
use Rattle.guest_runs.specs.Recordings.{KeepsRun, RunHalts}
use Rattle.guest_runs.proofs.PortsLemmas.{keeps_from, kept_more, kept_then}
use Rattle.guest_run.specs.Booted.{BootedBy}
use Rattle.guest_run.specs.Ran.{numbers, Ran}
use Rattle.guest_run.specs.Starting.{Starts}
use Rattle.guest_run.specs.Stopping.{Stopped}
use Rattle.guest_run.specs.declared.start.Start.{Start}
use Rattle.guest_run.proofs.StartLemmas.{cpus_some}

-- How a run of named files ends.

-- a run is of the files that its world and scripts are of
booted_as : (holds : List ℕ → Option (List ℕ)) (named : Named) (s : Start) (r : Recorded) → BootedBy holds named s.order s.world.boot s.scripts → r.boot ≡ s.world.boot → r.scripts ≡ s.scripts → BootedBy holds named s.order r.boot r.scripts
booted_as holds named s r booted boot scripts =
    let B : Boot → Type 0 = λ b. BootedBy holds named s.order b r.scripts in
    let S : List (List Command) → Type 0 = λ ss. BootedBy holds named s.order s.world.boot ss in
    subst B (sym boot) (subst S (sym scripts) booted)

-- the ports that come back from boot and a run
kept_both : {P : Type 0} (holds : List ℕ → Option (List ℕ)) (made : P → List ModuleCall) (faults : P → ℕ) (never : P → Type 0) (old between after : List P) (named : Named) (s : Start) → Starts holds (asking made faults never old between) named s → PortsKept 1 (asking made faults never old between) → PortsKept (length s.scripts) (asking made faults never between after) → PortsKept (cpus_in named) (asking made faults never old after)
kept_both holds made faults never old between after named s start kept then =
    let some = start.begins.some in
    subst (λ n. PortsKept n (asking made faults never old after)) start.booted.scripts_are.as_many (kept_then made faults never 1 (length s.scripts) old between after (omega (arith, some)) kept then)

-- it is recorded
pub ran : {P : Type 0} (files : Reading) (made : P → List ModuleCall) (faults : P → ℕ) (never : P → Type 0) (old between after : List P) (named : Named) (s : Start) (order : Option (List ℕ)) (r : Recorded × List PageRun) → AreGood files.holds named → Asks (all_names named) files → Starts files.holds (asking made faults never old between) named s → PortsKept 1 (asking made faults never old between)
    → order ≡ option_map numbers s.order → r.0.boot ≡ s.world.boot → r.0.scripts ≡ s.scripts → KeepsRun (asking made faults never between after) order r.0 → FinalRuns r.0 r.1 → PortsKept (length s.scripts) (asking made faults never between after) → Ran files (asking made faults never old after) named (Ok r)
ran files made faults never old between after named s order r good asked start kept is boot scripts keeps final then = record {
  good = good;
  run = record {
    order = s.order;
    booted = booted_as files.holds named s r.0 start.booted boot scripts;
    keeps = subst (λ o. KeepsRun (asking made faults never old after) o r.0) is (keeps_from made faults never old between after order r.0 kept.each keeps);
  };
  final_runs = final;
  asked = asked;
  stop = tt;
  kept = kept_both files.holds made faults never old between after named s start kept then;
}

-- memory ran out in it
pub ran_out : {P : Type 0} (files : Reading) (made : P → List ModuleCall) (faults : P → ℕ) (never : P → Type 0) (old between after : List P) (named : Named) (s : Start) → Asks (all_names named) files → Starts files.holds (asking made faults never old between) named s → PortsKept 1 (asking made faults never old between) → RunHalts (asking made faults never between after) s.world.boot s.scripts
    → PortsKept (length s.scripts) (asking made faults never between after) → Ran files (asking made faults never old after) named (Err NoMemory)
ran_out files made faults never old between after named s asked start kept halts then = record {
  good = tt;
  run = tt;
  final_runs = tt;
  asked = tt;
  stop = (
    asks_all named files asked,
    inr (inr (record {
      run = halts.run;
      order = s.order;
      booted = booted_as files.holds named s halts.run start.booted halts.boot_is halts.scripts_are;
      halted = record { legal = halts.halted.legal; calls = halts.halted.calls };
    })),
  );
  kept = kept_both files.holds made faults never old between after named s start kept then;
}

-- it didn't begin
pub ran_not : {P : Type 0} (files : Reading) (made : P → List ModuleCall) (faults : P → ℕ) (never : P → Type 0) (old after : List P) (named : Named) (stop : Stop) → KeepsLimits named → Stopped files (asking made faults never old after) named stop → PortsKept 1 (asking made faults never old after) → Ran files (asking made faults never old after) named (Err stop)
ran_not files made faults never old after named stop keeps stopped kept = record {
  good = tt;
  run = tt;
  final_runs = tt;
  asked = tt;
  stop = stopped;
  kept = kept_more made faults never 1 (cpus_in named) old after (omega (arith, cpus_some named keeps)) kept;
}

-- without an order file there is no order
order_none : (holds : List ℕ → Option (List ℕ)) (cpus : ℕ) (name : Option (List ℕ)) (order : Option (List CpuNo)) → name ≡ None → IsOrderIn holds cpus name order → None ≡ option_map numbers order
order_none holds cpus None None none is = refl
order_none holds cpus None (Some order) none is = absurd is
order_none holds cpus (Some name) order none is = cc

pub no_order : (holds : List ℕ → Option (List ℕ)) (named : Named) (s : Start) → named.order ≡ None → BootedBy holds named s.order s.world.boot s.scripts → None ≡ option_map numbers s.order
no_order holds named s none booted = order_none holds (cpus_in named) named.order s.order none booted.order_is
