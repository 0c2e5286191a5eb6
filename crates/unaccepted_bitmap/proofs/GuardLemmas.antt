use Rattle.std.proofs.Common.{◌≡◌, ℕ, ◌+◌, ◌-◌, ◌*◌, ◌/◌, ◌^◌, ◌<◌, ◌≤◌, min, max, None, Some, inl, inr, sym, ◌∙◌, ap, arith, mul-le-mul_right, subst}
use Rattle.std.specs.Prelude.{Option, IfSome, nat_lt, if◌then◌else◌}
use Rattle.std.proofs.lemmas.Bool.{cases_Bool, cases_lt, ltb-true}
use Rattle.guest_base.specs.declared.memory.Units.{Units}
use Rattle.event_core.specs.Units.{unit_count, guarded, units_between, with_guard}
use Rattle.event_core.specs.Table.{Bits, IsTable}
use Rattle.unaccepted_bitmap.proofs.TableFacts.{table_facts}

-- units that lie below a bitmap's end, of which there is one
pub record AreInside (count : ℕ) (units : Units) : Type 0 where
  pub some : 0 < units.count
  pub below : units.first + units.count ≤ count

-- a bitmap has hardly more units than memory has pages
pub unit_count-small : (b : Bits) → IsTable b → unit_count b.bits ≤ 2 ^ 28 + 8
unit_count-small b h =
    let facts = table_facts b h in
    let page : 4096 ≤ b.unit = omega (arith, facts.some, facts.whole) in
    elim (cases_lt (2 ^ 28 + 8) (unit_count b.bits)) [
      | inl more ↦
          absurd
          (let wide : (2 ^ 28 + 9) * b.unit ≤ unit_count b.bits * b.unit = mul-le-mul_right b.unit (omega arith) in
          omega (arith, facts.below))
      | inr le ↦ le
    ]

-- the quotient rounded up of what is at most a multiple
up-le : (size end count : ℕ) → 0 < size → end ≤ count * size → (end + size - 1) / size ≤ count
up-le size end count some le =
    elim (cases_lt count ((end + size - 1) / size)) [
      | inl more ↦
          absurd
          (let wide : (count + 1) * size ≤ (end + size - 1) / size * size = mul-le-mul_right size (omega arith) in omega arith)
      | inr h ↦ h
    ]

up-gt : (size start end : ℕ) → 0 < size → start < end → start / size < (end + size - 1) / size
up-gt size start end some lt =
    elim (cases_lt (start / size) ((end + size - 1) / size)) [
      | inl h ↦ h
      | inr le ↦ absurd (let wide : (end + size - 1) / size * size ≤ start / size * size = mul-le-mul_right size le in omega arith)
    ]

between-inside : (size start end count : ℕ) (units : Units) → 0 < size → end ≤ count * size → units_between size start end ≡ Some units → AreInside count units
between-inside size start end count units some le e =
    elim (cases_Bool (nat_lt start end)) [
      | inl t ↦
          (let lt = ltb-true start end t in
          let made : Units = record { first = start / size; count = (end + size - 1) / size - start / size } in
          let same : Some made ≡ Some units = sym (ap (λ b. if b then Some made else None) t) ∙ e in
          let is : made ≡ units = cc in
          let more = up-gt size start end some lt in
          let most = up-le size end count some le in
          subst (AreInside count) is (record { some = omega arith; below = omega arith }))
      | inr f ↦
          (let made : Units = record { first = start / size; count = (end + size - 1) / size - start / size } in
          let no : None ≡ Some units = sym (ap (λ b. if b then Some made else None) f) ∙ e in
          cc)
    ]

pub guarded-inside : (size base count start len : ℕ) (units : Units) → 0 < size → guarded size base count start len ≡ Some units → AreInside count units
unfolding guarded
guarded-inside size base count start len units some e =
    let end = min (with_guard size (start + len - base)) (count * size) in
    let between = units_between size (max start base - base) end in
    elim (cases_Bool (nat_lt (start + len) base)) [
      | inl t ↦ (let no : None ≡ Some units = sym (ap (λ b. if b then None else between) t) ∙ e in cc)
      | inr f ↦
          between-inside size (max start base - base) end count units some (omega arith)
          (sym (ap (λ b. if b then None else between) f) ∙ e)
    ]

pub guarded-inside_all : (size base count start len : ℕ) (o : Option Units) → 0 < size → o ≡ guarded size base count start len → IfSome o (λ units. (0 < units.count) × (units.first + units.count ≤ count))
guarded-inside_all size base count start len None some e = tt
guarded-inside_all size base count start len (Some units) some e = let h = guarded-inside size base count start len units some (sym e) in (h.some, h.below)

-- what the guarded units of a range within memory need of a bitmap
pub record HasRoom (b : Bits) (start len : ℕ) : Type 0 where
  pub some : 0 < b.unit
  pub room : unit_count b.bits * b.unit < 2 ^ 64
  pub end : start + len + b.unit < 2 ^ 64

pub has_room : (b : Bits) (start len : ℕ) → IsTable b → start + len ≤ 2 ^ 40 → HasRoom b start len
has_room b start len is le =
    let facts = table_facts b is in
    record { some = facts.some; room = omega (arith, facts.below, facts.small); end = omega (arith, le, facts.small) }
