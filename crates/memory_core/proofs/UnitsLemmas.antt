use Rattle.std.proofs.Common.{◌≡◌, ◌≢◌, ℕ, zero, suc, ◌+◌, ◌-◌, ◌*◌, ◌/◌, ◌^◌, ◌<◌, ◌≤◌, Bool, true, false, Option, None, Some, List, refl, sym, ◌∙◌, ap, subst, inl, inr, arith}
use Rattle.std.proofs.Math.Nat.{mul-le-mul_right, mul-le-mul_left}
use Rattle.std.proofs.lemmas.Bool.{cases_lt}
use Rattle.guest_base.proofs.RangeLemmas.{in_range-intro, in_range-elim, in_range-below, in_range-past}
use Rattle.guest_base.specs.Ranges.{in_range}
use Rattle.guest_base.specs.Search.{first_such, row_length, count_such}
use Rattle.guest_base.proofs.SearchLemmas.{first_such-Some, first_such_same, row_length_same, row_length-pass_each, row_length-le, row_length-pass, count_such-append, count_such_all}
use Rattle.guest_base.specs.declared.memory.Units.{Units}
use Rattle.event_core.specs.declared.boot.Boot.{Boot}
use Rattle.event_core.specs.declared.module_call.ModuleCall.{ModuleCall}
use Rattle.event_core.specs.Runs.{state_in as first_state_of}
use Rattle.event_core.specs.Units.{bit_after, unit_first, unit_pages, units_end, first_run, run_at}
use Rattle.event_core.specs.Claims.{units_meet}
use Rattle.event_core.specs.MemoryRows.{page_state, pages_first, pages_count}
use Rattle.memory_core.specs.Booted.{IsBooted, UnitsAreRam}
use Rattle.memory_core.proofs.RunLemmas.{apart-pages, state_after-some}

-- the unit, of some from one on, in which a page lies
pub record UnitWith (base size first count page : ℕ) : Type 0 where
  pub unit : ℕ
  pub low : first ≤ unit
  pub high : unit < first + count
  pub begins : base + unit * size ≤ page
  pub ends : page < base + unit * size + size

pub unit-with : (base size first count page : ℕ) → base + first * size ≤ page → page < base + first * size + count * size → UnitWith base size first count page
unit-with base size first zero page low high = absurd (omega arith)
unit-with base size first (suc count) page low high =
    elim (cases_lt page (base + first * size + size)) [
      | inl here ↦ record { unit = first; low = omega arith; high = omega arith; begins = low; ends = here }
      | inr later ↦
          (let next : base + (first + 1) * size ≤ page = omega arith in
          let end : page < base + (first + 1) * size + count * size = omega arith in
          let rest = unit-with base size (first + 1) count page next end in
          record { unit = rest.unit; low = omega (arith, rest.low); high = omega (arith, rest.high); begins = rest.begins; ends = rest.ends })
    ]

-- units of which one set ends before the other begins
pub not-met : (a b : Units) (unit : ℕ) → units_meet a b ≡ false → a.first ≤ unit → unit < units_end a → in_range b.first b.count unit ≡ false
not-met a b unit apart low high =
    elim (cases_lt unit b.first) [
      | inl below ↦ in_range-below b.first b.count unit below
      | inr above ↦ elim (cases_lt unit (b.first + b.count)) [
        | inl inside ↦
            (let met : units_meet a b ≡ true = grind arith in
            let no : true ≡ false = sym met ∙ apart in cc)
        | inr past ↦ in_range-past b.first b.count unit past
      ]
    ]

-- the pages of runs of units that don't meet are apart
pub runs-apart : (boot : Boot) (run other : Units) (page : ℕ) → ((unit : ℕ) → in_range run.first run.count unit ≡ true → in_range other.first other.count unit ≡ false) → in_range (pages_first boot run) (pages_count boot run) page ≡ true → in_range (pages_first boot other) (pages_count boot other) page ≡ false
runs-apart boot run other page apart inside =
    let at = in_range-elim (pages_first boot run) (pages_count boot run) page inside in
    let found = unit-with (boot.base / 4096) (unit_pages boot) run.first run.count page at.0 at.1 in
    apart-pages boot other found.unit page (apart found.unit (in_range-intro run.first run.count found.unit found.low found.high))
    (in_range-intro (unit_first boot found.unit) (unit_pages boot) page found.begins found.ends)

-- a page of a run of unaccepted units is RAM
pub run-page-ram : (boot : Boot) (calls : List ModuleCall) (run : Units) → UnitsAreRam boot calls → ((unit : ℕ) → in_range run.first run.count unit ≡ true → bit_after boot calls unit ≡ true) → (page : ℕ) → in_range (pages_first boot run) (pages_count boot run) page ≡ true → first_state_of boot.ram page ≢ None
run-page-ram boot calls run ram all page inside =
    let at = in_range-elim (pages_first boot run) (pages_count boot run) page inside in
    let found = unit-with (boot.base / 4096) (unit_pages boot) run.first run.count page at.0 at.1 in
    ram found.unit page (all found.unit (in_range-intro run.first run.count found.unit found.low found.high)) (in_range-intro (unit_first boot found.unit) (unit_pages boot) page found.begins found.ends)

-- such a page has a state after all calls
pub run-page-some : (boot : Boot) (calls : List ModuleCall) (run : Units) → UnitsAreRam boot calls → ((unit : ℕ) → in_range run.first run.count unit ≡ true → bit_after boot calls unit ≡ true) → (page : ℕ) → in_range (pages_first boot run) (pages_count boot run) page ≡ true → page_state boot calls page ≢ None
run-page-some boot calls run ram all page inside = state_after-some (first_state_of boot.ram) calls page (run-page-ram boot calls run ram all page inside)

-- the run's pages lie below 2^28
pub run-low : (boot : Boot) (calls : List ModuleCall) (run : Units) → IsBooted boot → UnitsAreRam boot calls → 0 < run.count → ((unit : ℕ) → in_range run.first run.count unit ≡ true → bit_after boot calls unit ≡ true) → (pages_first boot run + pages_count boot run ≤ 2 ^ 28) × (run.first + run.count ≤ 2 ^ 28)
run-low boot calls run booted ram some all =
    let size = booted.some in
    let one : 1 * unit_pages boot ≤ run.count * unit_pages boot = mul-le-mul_right (unit_pages boot) some in
    let last : ℕ = pages_first boot run + pages_count boot run - 1 in
    let below = booted.low last (run-page-ram boot calls run ram all last (in_range-intro (pages_first boot run) (pages_count boot run) last (omega arith) (omega arith))) in
    let end : pages_first boot run + pages_count boot run ≤ 2 ^ 28 = omega arith in
    let more : (run.first + run.count) * 1 ≤ (run.first + run.count) * unit_pages boot = mul-le-mul_left (run.first + run.count) size in
    let all_pages : (run.first + run.count) * unit_pages boot ≡ run.first * unit_pages boot + run.count * unit_pages boot = omega arith in
    (end, omega arith)

-- ---- the first run of set bits

pub record IsRunIn (test : ℕ → Bool) (from end : ℕ) (run : Units) : Type 0 where
  pub low : from ≤ run.first
  pub some : 0 < run.count
  pub high : run.first + run.count ≤ end
  pub set : (unit : ℕ) → in_range run.first run.count unit ≡ true → test unit ≡ true

run_at-facts : (test : ℕ → Bool) (from end : ℕ) (found : Option ℕ) (run : Units) → first_such test from (end - from) ≡ found → run_at test end found ≡ Some run → IsRunIn test from end run
run_at-facts test from end None run search is = cc
run_at-facts test from end (Some first) run search is =
    let where_first = first_such-Some test from (end - from) first search in
    let made : Units = record { first = first; count = row_length test first (end - first) } in
    let same : made ≡ run = (let s : Some made ≡ Some run = is in cc) in
    let low = where_first.low in
    let high = where_first.high in
    let one : end - first ≡ suc (end - first - 1) = omega arith in
    let long = ap (row_length test first) one ∙ row_length-pass test first (end - first - 1) where_first.passes in
    let fits = row_length-le test first (end - first) in
    let each = row_length-pass_each test first (end - first) in
    let P : Units → Type 0 = IsRunIn test from end in
    subst P same
    (record {
      low = low;
      some = omega (arith, long);
      high = omega (arith, fits);
      set = λ unit inside. (let two = in_range-elim first (row_length test first (end - first)) unit inside in each.passes unit two.0 two.1);
    })

pub first_run-facts : (test : ℕ → Bool) (from end : ℕ) (run : Units) → first_run test from end ≡ Some run → IsRunIn test from end run
unfolding first_run
first_run-facts test from end run is = run_at-facts test from end (first_such test from (end - from)) run refl is

run_at-same : (test other : ℕ → Bool) (from end : ℕ) (found : Option ℕ) → ((unit : ℕ) → from ≤ unit → unit < end → test unit ≡ other unit) → first_such test from (end - from) ≡ found → run_at test end found ≡ run_at other end found
run_at-same test other from end None same is = refl
run_at-same test other from end (Some first) same is =
    let low = (first_such-Some test from (end - from) first is).low in
    ap (λ n. Some (let u : Units = record { first = first; count = n } in u)) (row_length_same test other first (end - first) (record { same = λ n l h. same n (omega arith) (omega arith) }))

-- it depends on the bits from the one on and below the other alone
pub first_run-same : (test other : ℕ → Bool) (from end : ℕ) → ((unit : ℕ) → from ≤ unit → unit < end → test unit ≡ other unit) → first_run test from end ≡ first_run other from end
unfolding first_run
first_run-same test other from end same =
    run_at-same test other from end (first_such test from (end - from)) same refl
    ∙ ap (run_at other end) (first_such_same test other from (end - from) (record { same = λ n l h. same n l (omega arith) }))

-- as many as a run has, and then those behind it, are set among units
pub run-counts : (test : ℕ → Bool) (from end : ℕ) (run : Units) → IsRunIn test from end run → run.count + count_such test (run.first + run.count) (end - (run.first + run.count)) ≤ count_such test from (end - from)
run-counts test from end run is =
    let low = is.low in
    let high = is.high in
    let three : end - from ≡ (run.first - from) + (run.count + (end - (run.first + run.count))) = omega arith in
    let at : from + (run.first - from) ≡ run.first = omega arith in
    let all = count_such_all test run.first run.count (record { passes = λ n l h. is.set n (in_range-intro run.first run.count n l h) }) in
    let sum : count_such test from (end - from) ≡ count_such test from (run.first - from) + (run.count + count_such test (run.first + run.count) (end - (run.first + run.count))) =
    ap (count_such test from) three
    ∙ count_such-append test from (run.first - from) (run.count + (end - (run.first + run.count)))
    ∙ ap (λ n. count_such test from (run.first - from) + n)
    (ap (λ n. count_such test n (run.count + (end - (run.first + run.count)))) at
    ∙ count_such-append test run.first run.count (end - (run.first + run.count))
    ∙ ap (λ n. n + count_such test (run.first + run.count) (end - (run.first + run.count))) all) in
    omega (arith, sum)
