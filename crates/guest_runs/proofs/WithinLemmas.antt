use Rattle.std.proofs.Common.{◌≡◌, ℕ, suc, zero, ◌+◌, ◌-◌, ◌^◌, ◌<◌, Bool, true, false, ◌&&◌, Option, None, Some, List, [], ◌∷◌, refl, sym, ◌∙◌, ap, inl, inr, arith, cond, length, get_or}
use Rattle.std.specs.Prelude.{find}
use Rattle.std.specs.Option.{option_map}
use Rattle.std.proofs.lemmas.Bool.{cases_Bool, cases_lt}
use Rattle.std.proofs.lemmas.Bool.Decides.{nat_tests}
use Rattle.guest_base.specs.declared.memory.PageRun.{PageRun}
use Rattle.event_core.specs.declared.boot.Boot.{Boot}
use Rattle.event_core.specs.declared.module_call.ModuleCall.{ModuleCall}
use Rattle.event_core.specs.Calls.{States, is_done, covers, after_call, state_after, SoundCalls}
use Rattle.event_core.specs.MemoryRows.{page_state}
use Rattle.event_core.specs.Runs.{run_holds, state_in, AreMaximalRuns}
use Rattle.event_core.proofs.BootFacts.{ram-low}
use Rattle.guest_base.specs.declared.memory.PageState.{PageState}
use Rattle.event_laws.specs.Coming.{BootMade}
use Rattle.event_core.specs.Printed.{EndInMemory}

-- The final runs of pages end in memory.

second_true : (a b : Bool) → (a && b) ≡ true → b ≡ true
second_true true b h = h
second_true false b h = cc

some_none : {A : Type 0} (x : A) (o : Option A) → o ≡ Some x → o ≡ None → ⊥
some_none x o h none = let no : None ≡ Some x = sym none ∙ h in cc

none_stays : (states : States) (calls : List ModuleCall) (page : ℕ) → SoundCalls states calls → states page ≡ None → state_after states calls page ≡ None
none_stays states [] page sound none = none
none_stays states (call ∷ calls) page sound none =
    none_stays (after_call states call) calls page sound.1
    (elim (cases_Bool (is_done call && covers call page)) [
      | inl t ↦ (let has = sound.0 page (second_true (is_done call) (covers call page) t) in absurd (some_none _ _ has none))
      | inr f ↦ rw f none
    ])

found_in : (page : ℕ) (runs : List PageRun) (k : ℕ) (d : PageRun) → k < length runs → run_holds page (get_or runs k d) ≡ true → find (run_holds page) runs ≡ None → ⊥
found_in page [] k d lt h none = absurd (omega (arith, lt))
found_in page (r ∷ rs) zero d lt h none = let no : Some r ≡ None = sym (ap (λ b. cond b (Some r) (find (run_holds page) rs)) h) ∙ none in cc
found_in page (r ∷ rs) (suc k) d lt h none =
    elim (cases_Bool (run_holds page r)) [
      | inl t ↦ (let no : Some r ≡ None = sym (ap (λ b. cond b (Some r) (find (run_holds page) rs)) t) ∙ none in cc)
      | inr f ↦ found_in page rs k d (omega (arith, lt)) h (sym (ap (λ b. cond b (Some r) (find (run_holds page) rs)) f) ∙ none)
    ]

no_state : (page : ℕ) (o : Option PageRun) → option_map (λ (run : PageRun). run.state) o ≡ None → o ≡ None
no_state page None h = refl
no_state page (Some run) h = cc

-- the last page of a run is held by it
holds_last : (run : PageRun) (page : ℕ) → 0 < run.pages.count → page + 1 ≡ run.pages.first + run.pages.count → run_holds page run ≡ true
holds_last run page some is = grind (arith, nat_tests)

none_where : (o : Option PageState) → ((o ≡ None → ⊥) → ⊥) → o ≡ None
none_where None h = refl
none_where (Some state) h = absurd (h (λ no. cc))

-- maximal runs of pages after sound calls end in memory
pub runs_within : (boot : Boot) (calls : List ModuleCall) (runs : List PageRun) → BootMade boot → SoundCalls (state_in boot.ram) calls → AreMaximalRuns (page_state boot calls) runs → EndInMemory runs
runs_within boot calls runs made sound maximal k d lt =
    let run = get_or runs k d in
    let page = run.pages.first + run.pages.count - 1 in
    let some : 0 < run.pages.count = maximal.some k d lt in
    elim (cases_lt page (2 ^ 28)) [
      | inl low ↦ omega (arith, low)
      | inr high ↦
          let first : state_in boot.ram page ≡ None = none_where (state_in boot.ram page) (λ some. (let low = ram-low made.descriptors made.hosts made.table made.slots made.areas made.cpus boot made.rules made.right.uncalled page some in omega (arith, low, high))) in
          let none : state_in runs page ≡ None = maximal.each page ∙ none_stays (state_in boot.ram) calls page sound first in
          absurd (found_in page runs k d lt (holds_last run page some (omega (arith, some))) (no_state page (find (run_holds page) runs) none))
    ]
