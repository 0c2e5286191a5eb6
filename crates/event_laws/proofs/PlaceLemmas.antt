-- Where the calls lie that accept runs of units.
use Rattle.std.proofs.Common.{◌≡◌, ℕ, zero, suc, ◌+◌, ◌-◌, ◌*◌, ◌/◌, ◌%◌, ◌<◌, ◌≤◌, min, max, Bool, true, Option, None, Some, List, [], ◌∷◌, refl, sym, ◌∙◌, ap, subst, inl, inr, arith, nat_lt, ◌==◌, eqb-true}
use Rattle.std.specs.List.{AllByRecursion}
use Rattle.std.proofs.lemmas.Bool.{cases_Bool, cases_lt}
use Rattle.std.proofs.lemmas.Bool.Decides.{nat_tests}
use Rattle.std.proofs.Math.Nat.{mul-le-mul_right, le-div_iff_mul-le, div-mul-le_self}
use Rattle.std.proofs.lemmas.Bool.{and_parts}
use Rattle.guest_base.specs.Levels.{level_pages}
use Rattle.guest_base.specs.Search.{first_such, row_length}
use Rattle.guest_base.proofs.RangeLemmas.{in_range-elim}
use Rattle.guest_base.proofs.SearchLemmas.{first_such-Some, row_length-le}
use Rattle.guest_base.specs.declared.memory.Page.{Page}
use Rattle.guest_base.specs.declared.memory.Level.{Level}
use Rattle.guest_base.specs.declared.memory.Level.TheVariants.{Small, Large, Huge}
use Rattle.guest_base.specs.declared.memory.Units.{Units}
use Rattle.guest_base.specs.declared.memory.HostRun.{HostRun}
use Rattle.event_core.specs.declared.boot.Boot.{Boot}
use Rattle.event_core.specs.declared.module_call.CallKind.TheVariants.{Accept}
use Rattle.event_core.specs.declared.module_call.ModuleCall.{ModuleCall}
use Rattle.event_core.specs.Acceptance.{fits, levels_below, goes_on_at, tried_at, AcceptanceSteps}
use Rattle.event_core.specs.Boot.{AcceptsRun, AcceptsRange, InTurn, runs_from, set_runs}
use Rattle.event_core.specs.Calls.{covers}
use Rattle.event_core.specs.MemoryRows.{pending_in, pages_first, pages_count}
use Rattle.event_core.specs.Units.{unit_first, unit_pages, units_between, with_guard, guarded, guarded_units, first_run, run_at, units_end, bit_after}
use Rattle.event_core.proofs.StepsLemmas.{fits-set, greatest_fitting-fits, steps-covers}
use Rattle.event_core.proofs.BootFacts.{in-turn-each}
use Rattle.event_laws.proofs.TurnLemmas.{all-map}

-- ---- acceptance steps

-- a call accepts pages of a set
pub record LiesIn (set : ℕ → Bool) (call : ModuleCall) : Type 0 where
  pub kind : call.kind ≡ Accept
  pub first : set call.first ≡ true
  pub pages : (page : ℕ) → covers call page ≡ true → set page ≡ true

level-some : (level : Level) → 0 < level_pages level
level-some Small = omega arith
level-some Large = omega arith
level-some Huge = omega arith

pub steps-in : (hosts : List HostRun) (set : ℕ → Bool) (end from : ℕ) (tried : Option Level) (calls : List ModuleCall) → AcceptanceSteps hosts set end from tried calls → AllByRecursion (LiesIn set) calls
steps-in hosts set end from tried [] steps = tt
steps-in hosts set end from tried (call ∷ calls) steps =
    let some = level-some call.level in (
      record {
        kind = steps.2.kind;
        first = fits-set set call.first call.level (greatest_fitting-fits set call.first (levels_below tried) call.level steps.1) call.first (omega arith) (omega (arith, some));
        pages = λ page covered. (steps-covers set call.first tried call steps.1 refl steps.2 page covered).1;
      },
      steps-in hosts set end (goes_on_at call) (tried_at call) calls steps.4,
    )

-- ---- runs of units

-- a call accepts, and begins within pages
pub record Begins (from end : ℕ) (call : ModuleCall) : Type 0 where
  pub kind : call.kind ≡ Accept
  pub low : from ≤ call.first
  pub high : call.first < end

mul-up : (a b u : ℕ) → a ≤ b → a * u ≤ b * u
mul-up a b u less = mul-le-mul_right u less

run-begins : (boot : Boot) (before : List ModuleCall) (run : Units) (from end : ℕ) (calls : List ModuleCall) (stop : Option Page) → from ≤ run.first → run.first + run.count ≤ end → AcceptsRun boot before run calls stop → AllByRecursion (Begins (unit_first boot from) (unit_first boot end)) calls
unfolding pending_in
run-begins boot before run from end calls stop low high part =
    all-map (LiesIn (pending_in boot before run)) (Begins (unit_first boot from) (unit_first boot end))
    (λ call lies.
    let within = in_range-elim (pages_first boot run) (pages_count boot run) call.first (and_parts _ _ lies.first).0 in
    let at = within.0 in
    let before_end = within.1 in
    let less = mul-up from run.first (unit_pages boot) low in
    let more = mul-up (run.first + run.count) end (unit_pages boot) high in
    let all : (run.first + run.count) * unit_pages boot ≡ run.first * unit_pages boot + run.count * unit_pages boot = grind arith in
    record { kind = lies.kind; low = omega (arith, at, less); high = omega (arith, before_end, more, all) })
    calls (steps-in boot.hosts (pending_in boot before run) _ _ None calls part.0)

-- runs lie within units
record IsWithin (from end : ℕ) (run : Units) : Type 0 where
  pub low : from ≤ run.first
  pub high : run.first + run.count ≤ end

run-within : (test : ℕ → Bool) (from end : ℕ) (run : Units) → first_run test from end ≡ Some run → IsWithin from end run
unfolding first_run
run-within test from end run is = found (first_such test from (end - from)) refl is where
  found : (f : Option ℕ) → first_such test from (end - from) ≡ f → run_at test end f ≡ Some run → IsWithin from end run
  found None at is = cc
  found (Some first) at is =
      let facts = first_such-Some test from (end - from) first at in
      let low = facts.low in
      let high = facts.high in
      let few = row_length-le test first (end - first) in
      let P : Units → Type 0 = IsWithin from end in
      let same : record { first = first; count = row_length test first (end - first) } ≡ run = cc in
      subst P same (record { low = low; high = omega (arith, low, high, few) })

within-from : (from at end : ℕ) → from ≤ at → (run : Units) → IsWithin at end run → IsWithin from end run
within-from from at end low run w = let l = w.low in record { low = omega (arith, low, l); high = w.high }

runs-within : (test : ℕ → Bool) (most from end : ℕ) → AllByRecursion (IsWithin from end) (runs_from test most from end)
runs-within test zero from end = tt
runs-within test (suc most) from end = by_found (λ next. runs-within test most next end) (first_run test from end) refl where
  by_found : ((next : ℕ) → AllByRecursion (IsWithin next end) (runs_from test most next end)) → (found : Option Units) → first_run test from end ≡ found → AllByRecursion (IsWithin from end) (elim found as (λ _. List Units) [ None ↦ [] | Some run ↦ run ∷ runs_from test most (units_end run) end ])
  by_found behind None is = tt
  by_found behind (Some run) is =
      let w = run-within test from end run is in
      let low = w.low in
      (w, all-map (IsWithin (units_end run) end) (IsWithin from end) (within-from from (units_end run) end (omega (arith, low))) (runs_from test most (units_end run) end) (behind (units_end run)))

-- the calls that accept a range of bytes begin in its guarded units
pub range-begins : (boot : Boot) (done : List ModuleCall) (low high start len : ℕ) (calls : List ModuleCall) (stop : Option Page)
    → ((units : Units) → guarded_units boot start len ≡ Some units → (low ≤ unit_first boot units.first) × (unit_first boot (units_end units) ≤ high))
    → AcceptsRange boot done start len calls stop → AllByRecursion (Begins low high) calls
range-begins boot done low high start len calls stop bounds turn = by_units (guarded_units boot start len) bounds turn where
  by_units : (units : Option Units) → ((u : Units) → units ≡ Some u → (low ≤ unit_first boot u.first) × (unit_first boot (units_end u) ≤ high)) → InTurn (AcceptsRun boot) done (set_runs boot done units) calls stop → AllByRecursion (Begins low high) calls
  by_units None bounds turn = subst (AllByRecursion (Begins low high)) (sym turn.0) tt
  by_units (Some units) bounds turn =
      let ends = bounds units refl in
      let below = ends.0 in
      let above = ends.1 in
      in-turn-each (AcceptsRun boot) (IsWithin units.first (units_end units)) (Begins low high)
      (λ before run now stopped w part.
      all-map (Begins (unit_first boot units.first) (unit_first boot (units_end units))) (Begins low high)
      (λ call b. let l = b.low in let h = b.high in record { kind = b.kind; low = omega (arith, below, l); high = omega (arith, above, h) })
      now (run-begins boot before run units.first (units_end units) now stopped w.low w.high part))
      done (set_runs boot done (Some units)) calls stop (runs-within (bit_after boot done) units.count units.first (units_end units)) turn

-- ---- guarded units

-- where the guarded units of bytes begin and end
pub record GuardedAt (size base start len : ℕ) (units : Units) : Type 0 where
  pub reaches : base ≤ start + len
  pub first : units.first ≡ (max start base - base) / size
  pub end : units_end units ≤ (start + len - base) / size + 1

div-most : (x size q : ℕ) → 0 < size → x < (q + 1) * size → x / size ≤ q
div-most x size q some less =
    elim (cases_lt q (x / size)) [
      | inl more ↦
          (let at : (q + 1) * size ≤ x / size * size = mul-le-mul_right size (omega (arith, more)) in
          let down = div-mul-le_self x size in
          absurd (omega (arith, less, at, down)))
      | inr few ↦ few
    ]

guard-least : (size at : ℕ) → 0 < size → with_guard size at ≤ (at / size + 1) * size
guard-least size at some =
    elim (cases_Bool (at % size == 0)) [
      | inl even ↦ rw even (let e : at % size ≡ 0 = eqb-true (at % size) 0 even in grind arith)
      | inr odd ↦ rw odd (grind arith)
    ]

guard-end : (size at limit : ℕ) → 0 < size → (min (with_guard size at) limit + size - 1) / size ≤ at / size + 1
guard-end size at limit some =
    let most = guard-least size at some in
    let less : min (with_guard size at) limit ≤ with_guard size at = grind arith in
    let next : (at / size + 1 + 1) * size ≡ (at / size + 1) * size + size = grind arith in
    div-most (min (with_guard size at) limit + size - 1) size (at / size + 1) some (omega (arith, most, less, next, some))

between-at : (size base start len from to : ℕ) (units : Units) → 0 < size → base ≤ start + len → from ≡ max start base - base → (to + size - 1) / size ≤ (start + len - base) / size + 1 → units_between size from to ≡ Some units → GuardedAt size base start len units
between-at size base start len from to units positive reaches first last is =
    elim (cases_Bool (nat_lt from to)) [
      | inl some ↦
          (let found : Some (record { first = from / size; count = (to + size - 1) / size - from / size }) ≡ Some units = rw some at is in
          let same : record { first = from / size; count = (to + size - 1) / size - from / size } ≡ units = cc in
          let less : from < to = grind (arith, nat_tests) in
          let down : from / size * size ≤ from = div-mul-le_self from size in
          let up : from / size ≤ (to + size - 1) / size = (le-div_iff_mul-le positive).1 (omega (arith, less, down, positive)) in
          subst (GuardedAt size base start len) same (record { reaches = reaches; first = ap (λ f. f / size) first; end = omega (arith, up, last) }))
      | inr none ↦ (let no : None ≡ Some units = rw none at is in cc)
    ]

pub guarded-at : (size base count start len : ℕ) (units : Units) → 0 < size → guarded size base count start len ≡ Some units → GuardedAt size base start len units
unfolding guarded
guarded-at size base count start len units some is =
    elim (cases_Bool (nat_lt (start + len) base)) [
      | inl below ↦ (let none : None ≡ Some units = rw below at is in cc)
      | inr above ↦
          (let reaches : base ≤ start + len = grind (arith, nat_tests) in
          between-at size base start len (max start base - base) (min (with_guard size (start + len - base)) (count * size)) units some reaches refl (guard-end size (start + len - base) (count * size) some) (rw above at is))
    ]

-- ---- a unit's bytes

-- a unit's pages make a block of order 10 a whole number of times, and the base stands on a unit's border
pub record UnitFits (unit base : ℕ) : Type 0 where
  pub pages : ℕ
  pub many : ℕ
  pub place : ℕ
  pub unit_is : unit ≡ 4096 * pages
  pub whole : pages * many ≡ 1024
  pub small : pages ≤ 512
  pub base_is : base ≡ place * unit

pages-of : (unit base : ℕ) (fits : UnitFits unit base) → (unit / 4096 ≡ fits.pages) × (base / 4096 ≡ fits.place * fits.pages) × (base ≡ 4096 * (fits.place * fits.pages))
pages-of unit base fits =
    let is = fits.unit_is in
    let all : base ≡ 4096 * (fits.place * fits.pages) = fits.base_is ∙ ap (λ u. fits.place * u) is ∙ (grind arith) in
    (omega (arith, is), omega (arith, all), all)

pub unit-some : (unit base : ℕ) → UnitFits unit base → 0 < unit
unit-some unit base fits =
    elim (cases_lt 0 fits.pages) [
      | inl some ↦ (let is = fits.unit_is in omega (arith, is, some))
      | inr none ↦ (let no : fits.pages ≡ 0 = omega (arith, none) in let bad : 0 * fits.many ≡ 1024 = ap (λ p. p * fits.many) (sym no) ∙ fits.whole in absurd (omega (arith, bad)))
    ]

-- the units of bytes from a border of blocks on begin at or above it
above-by : (u place whole block start base : ℕ) → block ≡ whole * u → base ≡ 4096 * (place * u) → block ≤ start → base ≤ 4096 * start → 0 < u → block ≤ place * u + (4096 * start - base) / (4096 * u) * u
above-by u place whole block start base block_is base_is low over some =
    elim (cases_lt place whole) [
      | inl more ↦
          (let gap : ℕ = whole - place in
          let here : whole ≡ place + gap = omega (arith, more) in
          let parts : (place + gap) * u ≡ place * u + gap * u = grind arith in
          let at : block ≡ place * u + gap * u = block_is ∙ ap (λ w. w * u) here ∙ parts in
          let bytes : gap * (4096 * u) ≡ 4096 * (gap * u) = grind arith in
          let positive : 0 < 4096 * u = omega (arith, some) in
          let within : gap * (4096 * u) ≤ 4096 * start - base = omega (arith, bytes, at, base_is, low) in
          let fit : gap ≤ (4096 * start - base) / (4096 * u) = (le-div_iff_mul-le positive).1 within in
          let up : gap * u ≤ (4096 * start - base) / (4096 * u) * u = mul-le-mul_right u fit in
          omega (arith, at, up))
      | inr few ↦
          (let up : whole * u ≤ place * u = mul-le-mul_right u few in
          omega (arith, block_is, up))
    ]

pub begins-above : (unit base block start : ℕ) → UnitFits unit base → block % 1024 ≡ 0 → block ≤ start → block ≤ base / 4096 + ((max (4096 * start) base - base) / unit) * (unit / 4096)
begins-above unit base block start fits even low =
    let three = pages-of unit base fits in
    let base_is = three.2 in
    let whole : block ≡ fits.many * (block / 1024) * fits.pages =
    (let times : block ≡ 1024 * (block / 1024) = omega (arith, even) in
    times ∙ ap (λ n. n * (block / 1024)) (sym fits.whole) ∙ grind arith)
    in
    let place_is = three.1 in
    elim (cases_lt base (4096 * start)) [
      | inl over ↦
          (let most : max (4096 * start) base - base ≡ 4096 * start - base = grind arith in
          let some : 0 < fits.pages = (let positive = unit-some unit base fits in let is = fits.unit_is in omega (arith, positive, is)) in
          let above = above-by fits.pages fits.place (fits.many * (block / 1024)) block start base whole base_is low (omega (arith, over)) some in
          let same : base / 4096 + ((max (4096 * start) base - base) / unit) * (unit / 4096) ≡ fits.place * fits.pages + (4096 * start - base) / (4096 * fits.pages) * fits.pages =
          ap (λ m. base / 4096 + (m / unit) * (unit / 4096)) most ∙ ap (λ b. b + ((4096 * start - base) / unit) * (unit / 4096)) three.1
          ∙ ap (λ p. fits.place * fits.pages + ((4096 * start - base) / unit) * p) three.0 ∙ ap (λ u. fits.place * fits.pages + ((4096 * start - base) / u) * fits.pages) fits.unit_is
          in
          omega (arith, above, same))
      | inr under ↦ omega (arith, under, low)
    ]

-- the guarded units of bytes end less than a unit above them
pub ends-below : (unit base start count end : ℕ) → UnitFits unit base → base ≤ 4096 * start + 4096 * count → end ≤ (4096 * start + 4096 * count - base) / unit + 1 → base / 4096 + end * (unit / 4096) ≤ start + count + 512
ends-below unit base start count end fits reaches last =
    let three = pages-of unit base fits in
    let quotient : ℕ = (4096 * start + 4096 * count - base) / unit in
    let down : quotient * unit ≤ 4096 * start + 4096 * count - base = div-mul-le_self (4096 * start + 4096 * count - base) unit in
    let bytes : quotient * unit ≡ 4096 * (quotient * fits.pages) = ap (λ u. quotient * u) fits.unit_is ∙ grind arith in
    let up : end * fits.pages ≤ (quotient + 1) * fits.pages = mul-le-mul_right fits.pages last in
    let one : (quotient + 1) * fits.pages ≡ quotient * fits.pages + fits.pages = grind arith in
    let small = fits.small in
    let base_is = three.2 in
    let pages : base / 4096 + end * (unit / 4096) ≡ fits.place * fits.pages + end * fits.pages = ap (λ b. b + end * (unit / 4096)) three.1 ∙ ap (λ p. fits.place * fits.pages + end * p) three.0 in
    omega (arith, down, bytes, up, one, small, base_is, pages, reaches)
