use Rattle.std.proofs.Common.{◌≡◌, ◌≢◌, ℕ, ◌<◌, Option, None, Some, List, [], ◌∷◌, ◌++◌, refl, sym, ◌∙◌, ap, subst, arith, slice_get, suc}
use Rattle.std.specs.Prelude.{All}
use Rattle.std.specs.List.{AllByRecursion}
use Rattle.std.proofs.lemmas.List.Elements.{All-nil, All-cons, All-map, All-weaker}
use Rattle.event_core.specs.declared.boot.Boot.{Boot}
use Rattle.event_core.specs.declared.command.Command.{Command}
use Rattle.event_core.specs.declared.entry.Entry.{Entry}
use Rattle.event_core.specs.declared.entry.Place.TheVariants.{Memory}
use Rattle.event_core.specs.Calls.{calls_of}
use Rattle.event_core.specs.Claims.{claim_of}
use Rattle.event_core.specs.Legal.{LegalAfter, Legal, at_place, moved_after, with_bytes, with_moved}
use Rattle.event_core.specs.Locally.{EachFollows, Rising}
use Rattle.event_core.specs.MemoryRows.{page_state}
use Rattle.event_core.specs.Moved.{Moved, entries_of}
use Rattle.event_core.specs.Runs.{AreMaximalRuns}
use Rattle.event_core.specs.Splits.{SplitsInto}
use Rattle.event_core.proofs.LocalLemmas.{moved-entries}
use Rattle.event_core.proofs.SoundLemmas.{placed-push}
use Rattle.event_core.proofs.StandingLemmas.{IsPlaced, calls_of-memory}
use Rattle.guest_base.specs.declared.memory.PageRun.{PageRun}
use Rattle.guest_history.specs.Agreeing.{Agree, AllReplied, AreMadeBy}
use Rattle.page_module.specs.Spans.{Taken}
use Rattle.page_module.specs.States.{state_in}
use Rattle.memory_core.specs.Answers.{NoneOpen}
use Rattle.memory_core.specs.Steps.{IsInTable}
use Rattle.memory_core.specs.UnderLock.{unmoved}
use Rattle.memory_core.proofs.PartsLemmas.{all-in}
use Rattle.guest_steps.specs.Ground.{Ground}
use Rattle.guest_steps.specs.declared.processor.Need.{Need}
use Rattle.guest_steps.specs.declared.processor.Need.TheVariants as need
use Rattle.guest_steps.specs.Running.{AllFinished}
use Rattle.guest_steps.specs.Seen.{Seen, Accepted, entries_made, need_by, need_of}
use Rattle.guest_steps.specs.Standing.{IsOut, Together, kept_by, lists_of, scripts_of}
use Rattle.guest_steps.proofs.BeginningLemmas.{all-got}
use Rattle.guest_steps.proofs.FoundLemmas.{claim-stays}
use Rattle.guest_steps.proofs.FinishedLemmas.{all-replied}
use Rattle.guest_steps.proofs.HistoryLemmas.{list-owner}
use Rattle.guest_steps.proofs.ListLemmas.{all-unmap, past-none}
use Rattle.guest_steps.proofs.StepLemmas.{entries-unmoved}
use Rattle.guest_steps.proofs.TogetherLemmas.{together-agree, together-follows, together-made}
use Rattle.guest_runs.specs.OnPorts.{HaveFinished}

-- What a memory says of its pages where every processor is finished.

-- ---- no claim is open

rests : (out : Option Taken) (at_rest : Need) → need_by out at_rest ≡ need.Finished → out ≡ None
rests None at_rest is = refl
rests (Some span) at_rest is = cc

none-out : (c : Seen) (base : Ground) (out : Option Taken) (done : Option Accepted) → out ≡ None → IsOut c base.memory out done → claim_of c.boot base.memory.entries c.number ≡ None
none-out c base None None is stands = stands
none-out c base None (Some these) is stands = absurd stands
none-out c base (Some span) _ is stands = cc

no-claim : (boot : Boot) (cpu : ℕ) → claim_of boot [] cpu ≡ None
unfolding claim_of
no-claim boot cpu = refl

claim-at : (boot : Boot) (all : List Seen) (base : Ground) (cpu : ℕ) (found : Option Seen) → Together boot all base → AllFinished all → slice_get all cpu ≡ found → claim_of boot base.memory.entries cpu ≡ None
claim-at boot all base cpu None t finished at =
    let past = past-none all cpu at in
    let count = t.count in
    let named = all-unmap (λ (m : Moved). m.entry.cpu.0 < boot.cpus) unmoved base.memory.entries (t.named Memory) in
    let others = All-weaker (λ (e : Entry). e.cpu.0 < boot.cpus) (λ (e : Entry). e.cpu.0 ≢ cpu) (λ e low same. omega (arith, low, same, past, count)) base.memory.entries named in
    claim-stays boot cpu [] base.memory.entries others ∙ no-claim boot cpu
claim-at boot all base cpu (Some c) t finished at =
    let was = t.each cpu c at in
    let at_rest = rests c.out _ (all-got (λ d. need_of d ≡ need.Finished) all cpu c finished at) in
    ap (λ b. claim_of b base.memory.entries cpu) (sym was.1) ∙ ap (claim_of c.boot base.memory.entries) (sym was.0)
    ∙ none-out c base c.out c.done at_rest was.2.out

pub finished-none-open : (boot : Boot) (all : List Seen) (base : Ground) → Together boot all base → AllFinished all → NoneOpen base.memory
finished-none-open boot all base t finished cpu =
    ap (λ b. claim_of b base.memory.entries cpu) t.same.memory ∙ claim-at boot all base cpu (slice_get all cpu) t finished refl

-- ---- all entries report the calls that the memory's report

placed-after : (boot : Boot) (scripts : List (List Command)) (history : List Moved) (entries : List Entry) → AllByRecursion (IsPlaced boot) history → LegalAfter boot scripts history entries → AllByRecursion (IsPlaced boot) (moved_after boot scripts history entries)
placed-after boot scripts history [] placed legal = placed
placed-after boot scripts history (e ∷ entries) placed legal =
    placed-after boot scripts (history ++ with_bytes boot scripts history e ∷ []) entries
    (placed-push boot history (with_bytes boot scripts history e) placed legal.0.over.place) legal.2

pub same-calls : (boot : Boot) (all : List Seen) (base : Ground) (entries : List Entry) → Legal boot (scripts_of all) entries → SplitsInto (with_moved boot (scripts_of all) entries) (kept_by all base) → calls_of boot entries ≡ calls_of boot base.memory.entries
same-calls boot all base entries legal splits =
    let history = with_moved boot (scripts_of all) entries in
    let there : base.memory.entries ≡ entries_of (at_place Memory history) = sym (entries-unmoved base.memory.entries) ∙ ap entries_of splits.memory in
    sym (ap (calls_of boot) there ∙ calls_of-memory boot history (placed-after boot (scripts_of all) [] entries tt legal) ∙ ap (calls_of boot) (moved-entries boot (scripts_of all) [] entries))

-- ---- the lists of processors that have finished

pub left-named : (boot : Boot) (all : List Seen) (base : Ground) (scripts : List (List Command)) (lists : List (List Entry)) → HaveFinished boot all base scripts lists → (cpu : ℕ) (list : List Entry) → slice_get lists cpu ≡ Some list → All (λ (e : Entry). e.cpu.0 ≡ cpu) list
left-named boot all base scripts lists left cpu list at =
    let owner = list-owner all cpu list (ap (λ ls. slice_get ls cpu) (sym left.lists_are) ∙ at) in
    let was = left.together.each cpu owner.0 owner.1 in
    subst (λ es. All (λ (e : Entry). e.cpu.0 ≡ cpu) es) owner.2 (subst (λ n. All (λ (e : Entry). e.cpu.0 ≡ n) (entries_made owner.0)) was.0 (All-map (λ (e : Entry). e.cpu.0 ≡ owner.0.number) (λ (m : Moved). m.entry) owner.0.moved was.2.named))

all-rise : (all : List Seen) → ((cpu : ℕ) (c : Seen) → slice_get all cpu ≡ Some c → Rising (entries_made c)) → All Rising (lists_of all)
all-rise [] each = All-nil Rising
all-rise (c ∷ all) each = All-cons Rising (entries_made c) (lists_of all) (each 0 c refl) (all-rise all (λ cpu d at. each (suc cpu) d at))

pub left-rise : (boot : Boot) (all : List Seen) (base : Ground) (scripts : List (List Command)) (lists : List (List Entry)) → HaveFinished boot all base scripts lists → All Rising lists
left-rise boot all base scripts lists left = subst (All Rising) (sym left.lists_are) (all-rise all (λ cpu c at. (left.together.each cpu c at).2.rises))

-- the lists that are kept of them, with the memory's
pub left-made : (boot : Boot) (all : List Seen) (base : Ground) (scripts : List (List Command)) (lists : List (List Entry)) → HaveFinished boot all base scripts lists → AreMadeBy lists (kept_by all base)
left-made boot all base scripts lists left = subst (λ ls. AreMadeBy ls (kept_by all base)) (sym left.lists_are) (together-made all base)

pub left-agree : (boot : Boot) (all : List Seen) (base : Ground) (scripts : List (List Command)) (lists : List (List Entry)) → HaveFinished boot all base scripts lists → Agree (kept_by all base)
left-agree boot all base scripts lists left = together-agree boot all base left.together

pub left-follow : (boot : Boot) (all : List Seen) (base : Ground) (scripts : List (List Command)) (lists : List (List Entry)) → HaveFinished boot all base scripts lists → EachFollows boot scripts (kept_by all base)
left-follow boot all base scripts lists left = subst (λ ss. EachFollows boot ss (kept_by all base)) (sym left.scripts_are) (together-follows boot all base left.together)

pub left-replied : (boot : Boot) (all : List Seen) (base : Ground) (scripts : List (List Command)) (lists : List (List Entry)) → HaveFinished boot all base scripts lists → AllReplied scripts (kept_by all base)
left-replied boot all base scripts lists left = subst (λ ss. AllReplied ss (kept_by all base)) (sym left.scripts_are) (all-replied boot all base left.together left.finished)

pub left-none-open : (boot : Boot) (all : List Seen) (base : Ground) (scripts : List (List Command)) (lists : List (List Entry)) → HaveFinished boot all base scripts lists → NoneOpen base.memory
left-none-open boot all base scripts lists left = finished-none-open boot all base left.together left.finished

-- the runs of the memory's table are those by the states after all entries
pub left-runs : (boot : Boot) (all : List Seen) (base : Ground) (scripts : List (List Command)) (lists : List (List Entry)) (table runs : List PageRun) (entries : List Entry) → HaveFinished boot all base scripts lists → Legal boot scripts entries × SplitsInto (with_moved boot scripts entries) (kept_by all base)
    → ((page : ℕ) → IsInTable base.memory.boot (claim_of base.memory.boot base.memory.entries) page → state_in table page ≡ page_state base.memory.boot (calls_of base.memory.boot base.memory.entries) page)
    → AreMaximalRuns (state_in table) runs → AreMaximalRuns (page_state boot (calls_of boot entries)) runs
left-runs boot all base scripts lists table runs entries left law states maximal =
    let P : List (List Command) → Type 0 = λ ss. Legal boot ss entries × SplitsInto (with_moved boot ss entries) (kept_by all base) in
    let one = subst P left.scripts_are law in
    let none = left-none-open boot all base scripts lists left in
    record {
      each = λ page.
          maximal.each page ∙ states page (all-in base.memory none page)
          ∙ ap (λ b. page_state b (calls_of b base.memory.entries) page) left.together.same.memory
          ∙ ap (λ calls. page_state boot calls page) (sym (same-calls boot all base entries one.0 one.1));
      some = maximal.some;
      rise = maximal.rise;
    }
