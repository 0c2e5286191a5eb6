use Rattle.std.proofs.Common.{◌≡◌, ℕ, ◌+◌, ◌*◌, ◌<◌, ◌≤◌, Bool, None, List, ◌∙◌, ap, subst, arith}
use Rattle.std.proofs.Math.Path.{fun_ext}
use Rattle.std.proofs.Math.Nat.{mul-le-mul_right}
use Rattle.guest_base.specs.Ranges.{in_range}
use Rattle.guest_base.specs.declared.limits.TheConstants.{PAGE_END}
use Rattle.guest_base.specs.declared.memory.Pages.{Pages}
use Rattle.guest_base.specs.declared.memory.Units.{Units}
use Rattle.event_core.specs.declared.boot.Boot.{Boot}
use Rattle.event_core.specs.declared.module_call.ModuleCall.{ModuleCall}
use Rattle.event_core.specs.Acceptance.{AcceptanceSteps}
use Rattle.event_core.specs.MemoryRows.{page_state, is_pending, pending_in, pages_first, pages_count, AcceptsUnits}
use Rattle.event_core.specs.Units.{unit_pages, units_end}
use Rattle.event_core.proofs.StepsLemmas.{pending-if}
use Rattle.page_module.specs.Spans.{LieInMemory, Taken}
use Rattle.accept_sizes.specs.Accepts.{Accepts, pending_of}
use Rattle.memory_core.specs.Steps.{pages_of, HasStates}

-- The pages of units, and what is accepted in a span.

same-set : (boot : Boot) (before : List ModuleCall) (run : Units) (taken : Taken) → HasStates boot before run taken → pending_of taken ≡ pending_in boot before run
unfolding pending_in
same-set boot before run taken has = fun_ext (λ page.
    ap is_pending (has.states page) ∙ pending-if (in_range (pages_first boot run) (pages_count boot run) page) (page_state boot before page))

-- what is accepted in a span is accepted of its units
pub span-accepts : (boot : Boot) (before : List ModuleCall) (run : Units) (taken span : Taken) (calls : List ModuleCall) → HasStates boot before run taken → Accepts boot.hosts taken span calls → AcceptsUnits boot before run calls
span-accepts boot before run taken span calls has accepts =
    let A : (ℕ → Bool) → Type 0 = λ set. AcceptanceSteps boot.hosts set (pages_first boot run + pages_count boot run) (pages_first boot run) None calls in
    let B : Pages → Type 0 = λ pages. AcceptanceSteps boot.hosts (pending_of taken) (pages.first + pages.count) pages.first None calls in
    subst A (same-set boot before run taken has) (subst B has.pages accepts.steps)

-- pages of units behind others begin behind them
pub pages-behind : (boot : Boot) (run next : Units) → 0 < unit_pages boot → 0 < run.count → units_end run ≤ next.first → (pages_of boot run).first < (pages_of boot next).first
pages-behind boot run next size some behind =
    let size_of = unit_pages boot in
    let le : (run.first + 1) * size_of ≤ next.first * size_of = mul-le-mul_right size_of (let l : run.first + 1 ≤ next.first = omega (arith, some, behind) in l) in
    let more : (run.first + 1) * size_of ≡ run.first * size_of + size_of = omega arith in
    omega (arith, le, more, size)

-- the first page of units that lie in memory is below its end
pub pages-low : (boot : Boot) (run : Units) (pages : Pages) → 0 < unit_pages boot → 0 < run.count → pages ≡ pages_of boot run → LieInMemory pages → pages.first < PAGE_END
pages-low boot run pages size some is low =
    let le : 1 * unit_pages boot ≤ run.count * unit_pages boot = mul-le-mul_right (unit_pages boot) some in
    let count = ap (λ (p : Pages). p.count) is in
    let has : 0 < pages.count = omega (arith, le, size, count) in
    let end = low has in
    omega (arith, has, end)
