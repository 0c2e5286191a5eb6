-- Runs that rise, of which those that touch differ, are the maximal runs of the states that they tell.
use Rattle.std.proofs.Common.{ℕ, ◌<◌, List, [], ◌∷◌, All, refl, arith}
use Rattle.std.specs.List.{AllPairs}
use Rattle.std.proofs.lemmas.List.Elements.{All-nil, All-cons}
use Rattle.std.proofs.lemmas.List.Kept.{AllPairs-cons}
use Rattle.guest_base.specs.declared.memory.PageRun.{PageRun}
use Rattle.event_core.specs.Runs.{AreMaximalRuns, GoesBefore, run_end, state_in}
use Rattle.page_module.specs.Tables.{Rising, Differing}

far-behind : (run : PageRun) (from : ℕ) (runs : List PageRun) → run_end run < from → Rising from runs → All (GoesBefore run) runs
far-behind run from [] far rising = All-nil (GoesBefore run)
far-behind run from (next ∷ runs) far rising =
    let low = rising.0 in
    let some = rising.1 in
    All-cons (GoesBefore run) next runs (record { ends = omega arith; differs = λ touch. absurd (omega arith) }) (far-behind run (run_end next) runs (omega arith) rising.3)

all-behind : (run : PageRun) (runs : List PageRun) → Rising (run_end run) runs → Differing (run ∷ runs) → All (GoesBefore run) runs
all-behind run [] rising differing = All-nil (GoesBefore run)
all-behind run (next ∷ runs) rising differing =
    let low = rising.0 in
    let some = rising.1 in
    All-cons (GoesBefore run) next runs (record { ends = low; differs = differing.0 }) (far-behind run (run_end next) runs (omega arith) rising.3)

differing-tail : (run : PageRun) (runs : List PageRun) → Differing (run ∷ runs) → Differing runs
differing-tail run [] d = tt
differing-tail run (next ∷ runs) d = d.1

pairs-of : (runs : List PageRun) (from : ℕ) → Rising from runs → Differing runs → AllPairs GoesBefore runs
pairs-of [] from rising differing = λ i j d lt high. absurd (omega arith)
pairs-of (run ∷ runs) from rising differing =
    AllPairs-cons GoesBefore run runs (all-behind run runs rising.3 differing) (pairs-of runs (run_end run) rising.3 (differing-tail run runs differing))

some-of : (runs : List PageRun) (from : ℕ) → Rising from runs → All (λ (run : PageRun). 0 < run.pages.count) runs
some-of [] from rising = All-nil (λ (run : PageRun). 0 < run.pages.count)
some-of (run ∷ runs) from rising = All-cons (λ (run : PageRun). 0 < run.pages.count) run runs rising.1 (some-of runs (run_end run) rising.3)

pub maximal-runs : (runs : List PageRun) → Rising 0 runs → Differing runs → AreMaximalRuns (state_in runs) runs
maximal-runs runs rising differing = record {
  each = λ page. refl;
  some = some-of runs 0 rising;
  rise = pairs-of runs 0 rising differing;
}
