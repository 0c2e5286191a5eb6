use Rattle.std.proofs.Common.{◌≡◌, ◌<◌, ℕ, suc, Option, Some, List, [], ◌∷◌, ◌++◌, refl, ◌∙◌, length}
use Rattle.std.specs.Prelude.{All, slice_get}
use Rattle.std.proofs.lemmas.List.{length-map}
use Rattle.std.proofs.lemmas.List.Elements.{recursion_from_All}
use Rattle.event_core.specs.declared.boot.Boot.{Boot}
use Rattle.event_core.specs.declared.boot.Recorded.{Recorded}
use Rattle.event_core.specs.declared.module_call.ModuleCall.{ModuleCall}
use Rattle.event_core.specs.Calls.{SoundCalls}
use Rattle.event_core.specs.Legal.{Whole}
use Rattle.event_core.specs.Runs.{state_in}
use Rattle.event_laws.specs.Coming.{BootMade}
use Rattle.block_laws.specs.Unconverting.{ConvertsNothing, ConvertNothing}
use Rattle.block_laws.proofs.CallFacts.{blocks-accepted-once}
use Rattle.block_laws.proofs.HistoryFacts.{blocks-untouched}
use Rattle.block_laws.proofs.ToldFacts.{legal-told}
use Rattle.pool_laws.proofs.DisjointFacts.{legal-disjoint}
use Rattle.pool_laws.proofs.LookFacts.{legal-full}
use Rattle.guest_steps.specs.Ground.{Ground}
use Rattle.guest_steps.specs.Running.{AreOf}
use Rattle.guest_steps.specs.Seen.{Seen}
use Rattle.guest_steps.specs.Standing.{Together, scripts_of}
use Rattle.guest_steps.proofs.HistoryLemmas.{one-history}
use Rattle.guest_runs.specs.Asking.{asking}
use Rattle.guest_runs.specs.Recordings.{KeepsRun, RunHalts, TurnedWhere}
use Rattle.guest_runs.proofs.RanLemmas.{RanHere, module-failed, ports-made}

-- What a run keeps whose entries are one history of the processors.

all-unconverting : (all : List Seen) → ((cpu : ℕ) (c : Seen) → slice_get all cpu ≡ Some c → All ConvertsNothing c.script) → ConvertNothing (scripts_of all)
all-unconverting [] each = tt
all-unconverting (c ∷ all) each = (recursion_from_All ConvertsNothing c.script (each 0 c refl), all-unconverting all (λ cpu d at. each (suc cpu) d at))

together-unconverting : (boot : Boot) (all : List Seen) (base : Ground) → Together boot all base → ConvertNothing (scripts_of all)
together-unconverting boot all base t = all-unconverting all (λ cpu c at. (t.each cpu c at).2.unconverting)

together-count : (boot : Boot) (all : List Seen) (base : Ground) → Together boot all base → length (scripts_of all) ≡ boot.cpus
together-count boot all base t = length-map all (λ (c : Seen). c.script) ∙ t.count

module _ {P : Type 0} (made : P → List ModuleCall) (faults : P → ℕ) (never : P → Type 0) where
  pub keeps-run : (boot : Boot) (all : List Seen) (base : Ground) (olds news rest : List P) (order : Option (List ℕ)) (entries : List _) → RanHere made faults never boot all base olds news rest → BootMade boot → 0 < boot.areas → SoundCalls (state_in boot.ram) boot.calls → AreOf all entries
      → Whole boot (scripts_of all) entries → TurnedWhere order (record { boot = boot; scripts = scripts_of all; entries = entries })
      → KeepsRun (asking made faults never (olds ++ rest) (news ++ rest)) order (record { boot = boot; scripts = scripts_of all; entries = entries })
  keeps-run boot all base olds news rest order entries here of_map areas sound are whole turned =
      let r : Recorded = record { boot = boot; scripts = scripts_of all; entries = entries } in
      let unconverting = together-unconverting boot all base here.together in
      let legal = whole.legal in
      record {
        history = record { whole = whole; turned = turned };
        accepted_once = blocks-accepted-once boot (scripts_of all) entries unconverting (together-count boot all base here.together) sound legal;
        untouched = blocks-untouched boot (scripts_of all) entries of_map unconverting legal;
        disjoint = legal-disjoint boot (scripts_of all) entries legal;
        bytes = legal-told boot (scripts_of all) entries legal;
        full = legal-full boot (scripts_of all) entries areas legal;
        calls = ports-made made faults never boot all base olds news rest r here refl are;
        «module» = module-failed made faults never boot all base olds news rest r here are;
      }

  -- the ports' calls are those of a legal history, however far it came
  pub run-halts : (boot : Boot) (all : List Seen) (base : Ground) (olds news rest : List P) → RanHere made faults never boot all base olds news rest → RunHalts (asking made faults never (olds ++ rest) (news ++ rest)) boot (scripts_of all)
  run-halts boot all base olds news rest here =
      let history = one-history boot all base here.together in
      let r : Recorded = record { boot = boot; scripts = scripts_of all; entries = history.0 } in
      record {
        run = r;
        boot_is = refl;
        scripts_are = refl;
        halted = record { legal = history.1; calls = ports-made made faults never boot all base olds news rest r here refl history.2 };
      }
