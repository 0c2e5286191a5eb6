-- What follows from a table's rules.
use Rattle.std.proofs.Common.{inl, inr, ◌≡◌, ◌≢◌, ◌∙◌, Bool, false, ℕ, ◌+◌, ◌-◌, ◌*◌, ◌%◌, ◌^◌, ◌<◌, ◌≤◌, true, length, arith, subst, sym, mul-le-mul_right}
use Rattle.std.specs.Prelude.{◌==◌}
use Rattle.std.proofs.Math.Nat.{pow-le-pow_right}
use Rattle.std.proofs.lemmas.Bool.{cases_Bool, eqb-true, eq-eqb}
use Rattle.std.proofs.lemmas.Nat.{pow_pos}
use Rattle.std.proofs.lemmas.Grind.{div_ceil_times}
use Rattle.guest_base.specs.Search.{any_such}
use Rattle.guest_base.proofs.SearchLemmas.{any_such-true, any_such_is, any_such_none, any_such-fail, until-suc}
use Rattle.event_core.specs.Units.{unit_count}
use Rattle.event_core.specs.Table.{Bits, IsTable, is_unit, most_bytes}

-- a unit is whole pages, at least one, and at most 2 MiB
pub record UnitFacts (unit : ℕ) : Type 0 where
  pub some : 0 < unit
  pub whole : unit % 4096 ≡ 0
  pub small : unit ≤ 2097152

unit_of : (order : ℕ) → order < 10 → UnitFacts (4096 * 2 ^ order)
unit_of order below =
    let low : order ≤ 9 = omega arith in
    let two : 0 < 2 = omega arith in
    let most : 2 ^ order ≤ 2 ^ 9 = pow-le-pow_right two low in
    record { some = omega (arith, pow_pos order); whole = omega arith; small = omega (arith, most) }

-- a unit of an order, and what the search for its order comes to
abbrev pub has_order : ℕ → ℕ → Bool
has_order unit order = unit == 4096 * 2 ^ order

pub shifted : (order : ℕ) → order < 10 → 4096 * 2 ^ order % 2 ^ 64 ≡ 4096 * 2 ^ order
shifted order below = omega (arith, (unit_of order below).small)

pub order_at : (unit order : ℕ) → order < 10 → unit ≡ 4096 * 2 ^ order % 2 ^ 64 → any_such (has_order unit) order (10 - order) ≡ true
order_at unit order below is = any_such_is (has_order unit) order (10 - order) order (omega arith) (omega (arith, below)) (eq-eqb unit (4096 * 2 ^ order) (is ∙ shifted order below))

isnt_eqb : (a b : ℕ) → a ≢ b → (a == b) ≡ false
isnt_eqb a b isnt = elim (cases_Bool (a == b)) [ inl t ↦ absurd (isnt (eqb-true a b t)) | inr f ↦ f ]

pub order_past : (unit order : ℕ) → order < 10 → unit ≢ 4096 * 2 ^ order % 2 ^ 64 → any_such (has_order unit) order (10 - order) ≡ any_such (has_order unit) (order + 1) (10 - (order + 1))
order_past unit order below isnt =
    rw (until-suc order 10 below)
    (any_such-fail (has_order unit) order (10 - (order + 1)) (isnt_eqb unit (4096 * 2 ^ order) (λ e. isnt (e ∙ sym (shifted order below)))))

pub order_end : (unit order : ℕ) → 10 ≤ order → any_such (has_order unit) order (10 - order) ≡ false
order_end unit order le = any_such_none (has_order unit) order (10 - order) (record { fails = λ n low high. absurd (omega (arith, low, high, le)) })

pub unit_facts : (unit : ℕ) → is_unit unit ≡ true → UnitFacts unit
unit_facts unit is =
    let found = any_such-true (has_order unit) 0 10 is in
    subst UnitFacts (sym (eqb-true unit (4096 * 2 ^ found.0) found.1.passes)) (unit_of found.0 (omega (arith, found.1.high)))

-- a table's units lie in memory, but for less than a byte of bits
pub record TableFacts (table : Bits) : Type 0 where
  pub some : 0 < table.unit
  pub whole : table.unit % 4096 ≡ 0
  pub small : table.unit ≤ 2097152
  pub below : table.base + unit_count table.bits * table.unit < 2 ^ 40 + 8 * table.unit

few-below : (unit base size : ℕ) → 0 < unit → base ≤ 2 ^ 40 → size ≤ most_bytes unit base → base + 8 * size * unit < 2 ^ 40 + 8 * unit
few-below unit base size some low few =
    let up = div_ceil_times (2 ^ 40 - base) (8 * unit) (omega arith) in
    let times : size * (8 * unit) ≤ most_bytes unit base * (8 * unit) = mul-le-mul_right (8 * unit) few in
    omega (arith, up.1, times)

pub table_facts : (table : Bits) → IsTable table → TableFacts table
table_facts table is =
    let unit = unit_facts table.unit is.unit_is in
    record { some = unit.some; whole = unit.whole; small = unit.small; below = few-below table.unit table.base (length table.bits) unit.some is.low is.few }
