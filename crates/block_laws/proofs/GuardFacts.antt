-- The guarded units of a block hold each unit of a page of the block, and of the page behind it.
use Rattle.std.proofs.Common.{◌≡◌, ℕ, ◌+◌, ◌-◌, ◌*◌, ◌/◌, ◌%◌, ◌^◌, ◌<◌, ◌≤◌, min, max, true, false, Some, refl, sym, ◌∙◌, ap, inl, inr, arith, ◌==◌, eq-eqb, nat_lt}
use Rattle.std.proofs.lemmas.Bool.{cases_Bool, cases_lt}
use Rattle.std.proofs.lemmas.Bool.Decides.{nat_tests}
use Rattle.std.proofs.lemmas.Nat.{pow_pos}
use Rattle.std.proofs.Math.Nat.{mul-le-mul_right, le-div_iff_mul-le, div-mul-le_self, mul-mod_left}
use Rattle.guest_base.specs.declared.memory.Block.{Block}
use Rattle.guest_base.specs.declared.memory.Units.{Units}
use Rattle.event_core.specs.declared.boot.Boot.{Boot}
use Rattle.event_core.specs.Blocks.{block_units}
use Rattle.event_core.specs.Units.{unit_count, units_between, with_guard, guarded, guarded_units}
use Rattle.event_laws.proofs.PlaceLemmas.{UnitFits, unit-some}
use Rattle.block_laws.specs.Guarded.{PageIn, UnitIn, IsAt}

-- ---- in bytes

-- where a page of a unit stands in bytes
record Bytes (size base unit page : ℕ) : Type 0 where
  pub low : base + unit * size ≤ 4096 * page
  pub high : 4096 * page < base + unit * size + size

bytes-of : (size base unit page : ℕ) (fits : UnitFits size base) → base / 4096 + unit * (size / 4096) ≤ page → page < base / 4096 + unit * (size / 4096) + size / 4096 → Bytes size base unit page
bytes-of size base unit page fits low high =
    let is = fits.unit_is in
    let whole : base ≡ 4096 * (fits.place * fits.pages) = fits.base_is ∙ ap (λ u. fits.place * u) is ∙ (grind arith) in
    let pages : size / 4096 ≡ fits.pages = omega (arith, is) in
    let first : base / 4096 ≡ fits.place * fits.pages = omega (arith, whole) in
    let all : unit * size ≡ 4096 * (unit * fits.pages) = ap (λ u. unit * u) is ∙ (grind arith) in
    let at : unit * (size / 4096) ≡ unit * fits.pages = ap (λ p. unit * p) pages in
    record { low = omega (arith, low, first, all, whole, at); high = omega (arith, high, first, all, whole, at, pages, is) }

-- an end behind a unit's first byte, or on it, is behind it with the guard
guard-past : (size at unit : ℕ) → 0 < size → unit * size ≤ at → unit * size < with_guard size at
guard-past size at unit some low =
    elim (cases_Bool (at % size == 0)) [
      | inl even ↦ rw even (omega (arith, low, some))
      | inr odd ↦
          rw odd
          (elim (cases_lt (unit * size) at) [
            | inl more ↦ more
            | inr less ↦
                (let same : at ≡ unit * size = omega (arith, low, less) in
                let none = mul-mod_left unit size in
                let zero : at % size ≡ 0 = ap (λ x. x % size) same ∙ none in
                let no : (at % size == 0) ≡ true = eq-eqb (at % size) 0 zero in
                let bad : true ≡ false = sym no ∙ odd in
                cc)
          ])
    ]

guard-least : (size at : ℕ) → at ≤ with_guard size at
guard-least size at =
    elim (cases_Bool (at % size == 0)) [
      | inl even ↦ rw even (omega arith)
      | inr odd ↦ rw odd (omega arith)
    ]

-- the units between two places hold the unit of a byte between them
between-holds : (size from to unit : ℕ) → 0 < size → from < (unit + 1) * size → unit * size < to → from < to → (units : Units) × (units_between size from to ≡ Some units) × UnitIn units unit
between-holds size from to unit some first last less =
    let is : nat_lt from to ≡ true = grind (arith, nat_tests, less) in
    let down : from / size * size ≤ from = div-mul-le_self from size in
    let one : (unit + 1) * size ≡ unit * size + size = grind arith in
    let low : from / size ≤ unit =
    elim (cases_lt unit (from / size)) [
      | inl more ↦ (let up : (unit + 1) * size ≤ from / size * size = mul-le-mul_right size (omega (arith, more)) in absurd (omega (arith, up, down, first)))
      | inr few ↦ few
    ] in
    let reach : (unit + 1) * size ≤ to + size - 1 = omega (arith, one, last, some) in
    let high : unit + 1 ≤ (to + size - 1) / size = (le-div_iff_mul-le some).1 reach in
    (record { first = from / size; count = (to + size - 1) / size - from / size }, rw is refl, record { low = low; high = omega (arith, low, high) })

guarded-holds : (size base count start len unit page : ℕ) → 0 < size → 0 < len → Bytes size base unit page → start ≤ 4096 * page → 4096 * page ≤ start + len → unit < count → (units : Units) × (guarded size base count start len ≡ Some units) × UnitIn units unit
unfolding guarded
guarded-holds size base count start len unit page some much at low high below =
    let first = at.low in
    let last = at.high in
    let reaches : nat_lt (start + len) base ≡ false = grind (arith, nat_tests, first, high) in
    let one : (unit + 1) * size ≡ unit * size + size = grind arith in
    let all : (unit + 1) * size ≤ count * size = mul-le-mul_right size (omega (arith, below)) in
    let past : unit * size < with_guard size (start + len - base) = guard-past size (start + len - base) unit some (omega (arith, first, high)) in
    let least : start + len - base ≤ with_guard size (start + len - base) = guard-least size (start + len - base) in
    let from : max start base - base < (unit + 1) * size = grind (arith, first, last, low, one) in
    let to : unit * size < min (with_guard size (start + len - base)) (count * size) = grind (arith, past, all, one, some) in
    let ends : max start base - base < min (with_guard size (start + len - base)) (count * size) = before first last low high much past least from all one some in
    rw reaches (between-holds size (max start base - base) (min (with_guard size (start + len - base)) (count * size)) unit some from to ends)
  where
    before : base + unit * size ≤ 4096 * page → 4096 * page < base + unit * size + size → start ≤ 4096 * page → 4096 * page ≤ start + len → 0 < len → unit * size < with_guard size (start + len - base) → start + len - base ≤ with_guard size (start + len - base) → max start base - base < (unit + 1) * size → (unit + 1) * size ≤ count * size → (unit + 1) * size ≡ unit * size + size → 0 < size
        → max start base - base < min (with_guard size (start + len - base)) (count * size)
    before first last low high much past least from all one some =
        elim (cases_lt base (start + len)) [
          | inl more ↦ (let less : max start base - base < start + len - base = grind (arith, more, much) in grind (arith, less, least, from, all))
          | inr few ↦
              (let zero : max start base - base ≡ 0 = grind (arith, few, first, high) in
              let none : 0 < with_guard size (start + len - base) = omega (arith, past) in
              grind (arith, zero, none, from, all))
        ]

-- ---- of a range of pages, and of a block

-- a page of the range, or the page behind it
pub range-holds : (boot : Boot) (first count unit page : ℕ) → UnitFits boot.unit boot.base → unit < unit_count boot.bits → PageIn boot unit page → 0 < count → first ≤ page → page ≤ first + count → (units : Units) × (guarded_units boot (4096 * first) (4096 * count) ≡ Some units) × UnitIn units unit
range-holds boot first count unit page fits below inside some low high =
    guarded-holds boot.unit boot.base (unit_count boot.bits) (4096 * first) (4096 * count) unit page (unit-some boot.unit boot.base fits) (omega (arith, some))
    (bytes-of boot.unit boot.base unit page fits inside.low inside.high) (omega (arith, low)) (omega (arith, high)) below

pub guard-holds : (boot : Boot) (block : Block) (unit page : ℕ) → UnitFits boot.unit boot.base → unit < unit_count boot.bits → PageIn boot unit page → IsAt block page → (units : Units) × (block_units boot block ≡ Some units) × UnitIn units unit
guard-holds boot block unit page fits below inside at = range-holds boot block.first (2 ^ block.order) unit page fits below inside (pow_pos block.order) at.low at.high
