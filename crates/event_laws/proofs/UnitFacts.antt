use Rattle.std.proofs.Common.{◌≡◌, ℕ, ◌+◌, ◌-◌, ◌*◌, ◌/◌, ◌^◌, ◌<◌, ◌≤◌, Option, None, Some, List, refl, sym, ◌∙◌, ap, subst, arith, ◌==◌, eqb-true}
use Rattle.std.proofs.lemmas.Nat.{pow-add, pow_pos}
use Rattle.std.proofs.Math.Nat.{le-mul_of_pos_right}
use Rattle.guest_base.proofs.SearchLemmas.{any_such-true}
use Rattle.event_core.specs.declared.boot.Descriptor.{Descriptor}
use Rattle.event_core.specs.Given.{FitsGiven, unit_by, base_by}
use Rattle.event_core.specs.Stub.{least_start, unaccepted}
use Rattle.event_core.specs.Table.{Bits, IsTable}
use Rattle.event_laws.proofs.PlaceLemmas.{UnitFits}

-- The units of a boot fit into blocks of order 10.

pow-small : (order : ℕ) → order < 10 → 2 ^ order ≤ 512
pow-small order few =
    let sums : order + (9 - order) ≡ 9 = omega (arith, few) in
    let all : 2 ^ order * 2 ^ (9 - order) ≡ 512 = sym (pow-add 2 order (9 - order)) ∙ ap (λ n. 2 ^ n) sums in
    let less : 2 ^ order ≤ 2 ^ order * 2 ^ (9 - order) = le-mul_of_pos_right (2 ^ order) (pow_pos (9 - order)) in
    omega (arith, all, less)

pub table-fits : (table : Bits) → IsTable table → UnitFits table.unit table.base
table-fits table is =
    let found = any_such-true (λ order. table.unit == 4096 * 2 ^ order) 0 10 is.unit_is in
    let few = found.1.high in
    let even = is.aligned in
    record {
      pages = 2 ^ found.0;
      many = 2 ^ (10 - found.0);
      place = table.base / table.unit;
      unit_is = eqb-true table.unit (4096 * 2 ^ found.0) found.1.passes;
      whole = sym (pow-add 2 found.0 (10 - found.0)) ∙ ap (λ n. 2 ^ n) (sums found.0 few);
      small = pow-small found.0 few;
      base_is = grind (arith, even);
    }
  where
    sums : (order : ℕ) → order < 0 + 10 → order + (10 - order) ≡ 10
    sums order few = omega (arith, few)

pub units-fit : (descriptors : List Descriptor) (table : Option Bits) (unit base : ℕ) → FitsGiven descriptors table → unit ≡ unit_by table → base ≡ base_by descriptors table → UnitFits unit base
units-fit descriptors None unit base fits unit_is base_is =
    record {
      pages = 512;
      many = 2;
      place = least_start (unaccepted descriptors) / 2097152;
      unit_is = unit_is;
      whole = refl;
      small = omega arith;
      base_is = base_is ∙ ap (λ u. least_start (unaccepted descriptors) / 2097152 * u) (sym unit_is);
    }
units-fit descriptors (Some table) unit base fits unit_is base_is =
    subst (λ b. UnitFits unit b) (sym base_is) (subst (λ u. UnitFits u table.base) (sym unit_is) (table-fits table fits.is_table))
