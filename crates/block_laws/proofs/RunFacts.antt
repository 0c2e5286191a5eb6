-- Runs of units, and what accepting them leaves pending.
use Rattle.std.proofs.Common.{◌≡◌, ℕ, zero, suc, ◌+◌, ◌-◌, ◌*◌, ◌<◌, ◌≤◌, Bool, true, false, ◌&&◌, Option, None, Some, List, [], ◌∷◌, ◌++◌, refl, sym, ◌∙◌, ap, subst, inl, inr, arith, append_assoc}
use Rattle.std.specs.List.{AllByRecursion, list_any}
use Rattle.std.proofs.lemmas.Bool.{cases_Bool, cases_lt}
use Rattle.std.proofs.Math.Nat.{mul-le-mul_right}
use Rattle.guest_base.specs.Ranges.{in_range}
use Rattle.guest_base.specs.Search.{first_such, row_length}
use Rattle.guest_base.proofs.RangeLemmas.{in_range-intro, in_range-elim}
use Rattle.guest_base.proofs.SearchLemmas.{first_such-Some, first_such-None, row_length-le, row_length_past}
use Rattle.guest_base.specs.declared.memory.Page.{Page}
use Rattle.guest_base.specs.declared.memory.Units.{Units}
use Rattle.event_core.specs.declared.boot.Boot.{Boot}
use Rattle.event_core.specs.declared.module_call.ModuleCall.{ModuleCall}
use Rattle.event_core.specs.Acceptance.{stop_of}
use Rattle.event_core.specs.Boot.{InTurn, AcceptsRun, runs_from}
use Rattle.event_core.specs.MemoryRows.{page_state, is_pending, pending_in, pages_first, pages_count, AcceptsUnits}
use Rattle.event_core.specs.Runs.{state_in}
use Rattle.event_core.specs.Calls.{States}
use Rattle.event_core.specs.Units.{unit_pages, units_end, first_run, run_at}
use Rattle.event_core.proofs.BootFacts.{TakesNone, in-turn-each}
use Rattle.event_core.proofs.EarlyLemmas.{or-cases, or-left, or-right}
use Rattle.event_core.proofs.SoundLemmas.{state_after-append}
use Rattle.block_laws.specs.Guarded.{PageIn, UnitIn}
use Rattle.block_laws.proofs.PageFacts.{not-pending-later}
use Rattle.block_laws.proofs.SizeFacts.{steps-none-left, steps-take-none}

-- ---- a page and its unit

-- a page of a unit is one of the units' pages
page-of-units : (boot : Boot) (run : Units) (unit page : ℕ) → UnitIn run unit → PageIn boot unit page → (pages_first boot run ≤ page) × (page < pages_first boot run + pages_count boot run)
page-of-units boot run unit page at inside =
    let low = inside.low in
    let high = inside.high in
    let first : run.first * unit_pages boot ≤ unit * unit_pages boot = mul-le-mul_right (unit_pages boot) at.low in
    let u = at.high in
    let last : (unit + 1) * unit_pages boot ≤ (run.first + run.count) * unit_pages boot = mul-le-mul_right (unit_pages boot) (omega (arith, u)) in
    let one : (unit + 1) * unit_pages boot ≡ unit * unit_pages boot + unit_pages boot = grind arith in
    let all : (run.first + run.count) * unit_pages boot ≡ run.first * unit_pages boot + run.count * unit_pages boot = grind arith in
    (omega (arith, low, first), omega (arith, high, last, one, all))

-- ---- a run that is accepted

-- calls that accept units and don't stop leave no page of them pending
pub units-accepted : (boot : Boot) (before : List ModuleCall) (run : Units) (calls : List ModuleCall) → AcceptsUnits boot before run calls → stop_of calls ≡ None → (unit page : ℕ) → UnitIn run unit → PageIn boot unit page → is_pending (page_state boot (before ++ calls) page) ≡ false
unfolding pending_in
units-accepted boot before run calls steps none unit page at inside =
    let within = page-of-units boot run unit page at inside in
    let there = in_range-intro (pages_first boot run) (pages_count boot run) page within.0 within.1 in
    ap (λ (states : States). is_pending (states page)) (state_after-append (state_in boot.ram) before calls)
    ∙ elim (cases_Bool (is_pending (page_state boot before page))) [
      | inl t ↦ steps-none-left boot.hosts _ _ (pages_first boot run) calls (page_state boot before) steps none page within.0 within.1 (ap (λ (b : Bool). b && is_pending (page_state boot before page)) there ∙ t)
      | inr f ↦
          sym (ap (λ (states : States). is_pending (states page)) (state_after-append (state_in boot.ram) before calls))
          ∙ not-pending-later boot before calls page (steps-take-none boot.hosts _ _ (pages_first boot run) None calls steps) f
    ]

-- ---- the first run of a test

-- the first run begins at the first number that passes
pub record IsFirstRun (test : ℕ → Bool) (from end : ℕ) (run : Units) : Type 0 where
  pub low : from ≤ run.first
  pub some : 0 < run.count
  pub high : run.first + run.count ≤ end
  pub before : (n : ℕ) → from ≤ n → n < run.first → test n ≡ false

run-some : (test : ℕ → Bool) (first end : ℕ) → first < end → test first ≡ true → 0 < row_length test first (end - first)
run-some test first end below passes = let one = row_length_past test first end below passes in omega (arith, one)

pub first-run : (test : ℕ → Bool) (from end : ℕ) (run : Units) → first_run test from end ≡ Some run → IsFirstRun test from end run
unfolding first_run
first-run test from end run is = by_first (first_such test from (end - from)) refl is where
  by_first : (found : Option ℕ) → first_such test from (end - from) ≡ found → run_at test end found ≡ Some run → IsFirstRun test from end run
  by_first None at is = cc
  by_first (Some first) at is =
      let facts = first_such-Some test from (end - from) first at in
      let low = facts.low in
      let high = facts.high in
      let few = row_length-le test first (end - first) in
      let some = run-some test first end (omega (arith, low, high)) facts.passes in
      let P : Units → Type 0 = IsFirstRun test from end in
      let same : record { first = first; count = row_length test first (end - first) } ≡ run = cc in
      subst P same (record { low = low; some = some; high = omega (arith, low, high, few); before = facts.before })

pub first-run-none : (test : ℕ → Bool) (from end : ℕ) → first_run test from end ≡ None → (n : ℕ) → from ≤ n → n < end → test n ≡ false
unfolding first_run
first-run-none test from end is n low high = by_first (first_such test from (end - from)) refl is where
  by_first : (found : Option ℕ) → first_such test from (end - from) ≡ found → run_at test end found ≡ None → test n ≡ false
  by_first None at is = (first_such-None test from (end - from) at).fails n low (omega (arith, low, high))
  by_first (Some first) at is = cc

-- ---- all runs

abbrev pub in_run : ℕ → Units → Bool
in_run unit run = in_range run.first run.count unit

-- each number that passes lies in a run
pub runs-hold : (test : ℕ → Bool) (most from end n : ℕ) → end ≤ from + most → from ≤ n → n < end → test n ≡ true → list_any (in_run n) (runs_from test most from end) ≡ true
runs-hold test zero from end n enough low high passes = absurd (omega (arith, enough, low, high))
runs-hold test (suc most) from end n enough low high passes = by_found (λ next. runs-hold test most next end n) (first_run test from end) refl where
  by_found : ((next : ℕ) → end ≤ next + most → next ≤ n → n < end → test n ≡ true → list_any (in_run n) (runs_from test most next end) ≡ true)
      → (found : Option Units) → first_run test from end ≡ found → list_any (in_run n) (elim found as (λ _. List Units) [ None ↦ [] | Some run ↦ run ∷ runs_from test most (units_end run) end ]) ≡ true
  by_found behind None is = let no : true ≡ false = sym passes ∙ first-run-none test from end is n low high in cc
  by_found behind (Some run) is =
      let r = first-run test from end run is in
      let at = r.low in
      let some = r.some in
      elim (cases_lt n run.first) [
        | inl before ↦ (let no : true ≡ false = sym passes ∙ r.before n low before in cc)
        | inr first ↦
            elim (cases_lt n (units_end run)) [
              | inl inside ↦ or-left (in_run n run) _ (in_range-intro run.first run.count n first inside)
              | inr past ↦ or-right (in_run n run) _ (behind (units_end run) (omega (arith, enough, at, some)) past high passes)
            ]
      ]

run-takes-none : (boot : Boot) (before : List ModuleCall) (run : Units) (now : List ModuleCall) (stop : Option Page) → Unit {0} → AcceptsRun boot before run now stop → AllByRecursion TakesNone now
run-takes-none boot before run now stop any part = steps-take-none boot.hosts _ _ _ None now part.0

-- nothing is asked of the items
abbrev pub AnyItem : {A : Type 0} → A → Type 0
AnyItem item = Unit {0}

pub each-any : {A : Type 0} (items : List A) → AllByRecursion (λ (item : A). AnyItem item) items
each-any [] = tt
each-any (item ∷ items) = (tt, each-any items)

pub turn-takes-none : (boot : Boot) (done : List ModuleCall) (runs : List Units) (calls : List ModuleCall) (stop : Option Page) → InTurn (AcceptsRun boot) done runs calls stop → AllByRecursion TakesNone calls
turn-takes-none boot done runs calls stop turn = in-turn-each (AcceptsRun boot) (λ (run : Units). AnyItem run) TakesNone (run-takes-none boot) done runs calls stop (each-any runs) turn

-- runs that are accepted in turn, with no stop, have no pending page
pub turn-accepted : (boot : Boot) (done : List ModuleCall) (runs : List Units) (calls : List ModuleCall) → InTurn (AcceptsRun boot) done runs calls None → (unit page : ℕ) → list_any (in_run unit) runs ≡ true → PageIn boot unit page → is_pending (page_state boot (done ++ calls) page) ≡ false
turn-accepted boot done [] calls turn unit page held inside = cc
turn-accepted boot done (run ∷ runs) calls (inl stopped) unit page held inside = let no : None ≡ Some stopped.0 = stopped.2 in cc
turn-accepted boot done (run ∷ runs) calls (inr (now, later, is, part, rest)) unit page held inside =
    let P : List ModuleCall → Type 0 = λ cs. is_pending (page_state boot cs page) ≡ false in
    subst P (append_assoc done now later ∙ ap (λ cs. done ++ cs) (sym is))
    (elim (or-cases (in_run unit run) (list_any (in_run unit) runs) held) [
      | inl here ↦
          (let two = in_range-elim run.first run.count unit here in
          not-pending-later boot (done ++ now) later page (turn-takes-none boot (done ++ now) runs later None rest)
          (units-accepted boot done run now part.0 (sym part.1) unit page (record { low = two.0; high = two.1 }) inside))
      | inr there ↦ turn-accepted boot (done ++ now) runs later rest unit page there inside
    ])
