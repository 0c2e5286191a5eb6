-- Units of a table, and the unaccepted descriptors of a map.
use Rattle.std.proofs.Common.{◌≡◌, ℕ, ◌+◌, ◌-◌, ◌*◌, ◌/◌, ◌^◌, ◌<◌, ◌≤◌, Bool, true, false, List, [], ◌∷◌, Some, find, inl, inr, refl, sym, subst, arith, mul-le-mul_right, mul-le-mul_left}
use Rattle.std.specs.Prelude.{not, ◌&&◌, is_some}
use Rattle.std.specs.List.{list_any}
use Rattle.std.proofs.lemmas.Bool.{cases_Bool}
use Rattle.std.proofs.lemmas.Bool.Decides.{nat_tests}
use Rattle.guest_base.specs.Ranges.{in_range}
use Rattle.guest_base.specs.Search.{each_such, first_such}
use Rattle.guest_base.proofs.SearchLemmas.{each_such-pass, each_such-fail, each_such-zero, until-suc}
use Rattle.event_core.specs.declared.boot.Descriptor.{Descriptor}
use Rattle.event_core.specs.Map.{is_unaccepted, holds_page}
use Rattle.event_core.specs.Table.{Bits, IsTable, bad_unit}
use Rattle.event_core.specs.Units.{unit_count}
use Rattle.unaccepted_bitmap.specs.Fits.{AreUnaccepted, is_bad}
use Rattle.unaccepted_bitmap.proofs.TableFacts.{table_facts}

-- one is found where one passes
pub find_any : (p : Descriptor → Bool) (ds : List Descriptor) → is_some (find p ds) ≡ list_any p ds
find_any p [] = refl
find_any p (d ∷ ds) = elim (cases_Bool (p d)) [ inl t ↦ rw t refl | inr f ↦ rw f (find_any p ds) ]

-- what is found passes, and is one of the list
record IsFound (p : Descriptor → Bool) (ds : List Descriptor) (d : Descriptor) : Type 0 where
  passes : p d ≡ true
  stands : (q : Descriptor → Bool) → q d ≡ true → list_any q ds ≡ true

found : (p : Descriptor → Bool) (ds : List Descriptor) (d : Descriptor) → find p ds ≡ Some d → IsFound p ds d
found p [] d e = absurd cc
found p (x ∷ ds) d e =
    elim (cases_Bool (p x)) [
      | inl t ↦
          (let here : Some x ≡ Some d = rw t at e in
          let same : x ≡ d = cc in
          record { passes = subst (λ y. p y ≡ true) same t; stands = λ q h. (let first : q x ≡ true = subst (λ y. q y ≡ true) (sym same) h in rw first refl) })
      | inr f ↦
          (let rest = found p ds d (rw f at e) in
          record { passes = rest.passes; stands = λ q h. elim (cases_Bool (q x)) [ inl t ↦ rw t refl | inr g ↦ rw g (rest.stands q h) ] })
    ]

kind_of : (d : Descriptor) (page : ℕ) → (is_unaccepted d && holds_page page d) ≡ true → is_unaccepted d ≡ true
kind_of d page h = elim (cases_Bool (is_unaccepted d)) [ inl t ↦ t | inr f ↦ absurd (let no : false ≡ true = rw f at h in cc) ]

-- the pages of a found descriptor are unaccepted
pub around_found : (map : List Descriptor) (page : ℕ) (d : Descriptor) → find (λ d. is_unaccepted d && holds_page page d) map ≡ Some d
    → AreUnaccepted map (record { first = d.start / 4096; count = d.pages })
around_found map page d e = λ p held.
    (let is = found (λ d. is_unaccepted d && holds_page page d) map d e in
    let kind = kind_of d page is.passes in
    is.stands (λ d. is_unaccepted d && holds_page p d) (rw (kind, held) refl))

pub not_of : (b : Bool) → true ≡ not b → b ≡ false
not_of true e = absurd cc
not_of false e = refl

pub bad_of : (b : Bool) → false ≡ not b → b ≡ true
bad_of true e = refl
bad_of false e = absurd cc

pub bad_is : (map : List Descriptor) (table : Bits) → bad_unit map table ≡ first_such (is_bad map table) 0 (unit_count table.bits)
unfolding bad_unit
bad_is map table = refl

pub none_unaccepted : (map : List Descriptor) → AreUnaccepted map (record { first = 0; count = 0 })
none_unaccepted map page h = absurd (let no : in_range 0 0 page ≡ false = grind (arith, nat_tests) in cc)

pub each_at : (test : ℕ → Bool) (at end : ℕ) → at < end → test at ≡ false → each_such test at (end - at) ≡ false
each_at test at end below h = rw (until-suc at end below) (each_such-fail test at (end - (at + 1)) h)

pub each_past : (test : ℕ → Bool) (at end : ℕ) → at < end → test at ≡ true → each_such test at (end - at) ≡ each_such test (at + 1) (end - (at + 1))
each_past test at end below h = rw (until-suc at end below) (each_such-pass test at (end - (at + 1)) h)

pub each_end : (test : ℕ → Bool) (at end : ℕ) → end ≤ at → each_such test at (end - at) ≡ true
each_end test at end le = let none : 0 ≡ end - at = omega (arith, le) in subst (λ n. each_such test at n ≡ true) none (each_such-zero test at)

-- a unit of a table begins and ends far below what a number can hold
pub record UnitRoom (table : Bits) (unit : ℕ) : Type 0 where
  pub start : table.base + unit * table.unit < 2 ^ 64
  pub end : table.base / 4096 + unit * (table.unit / 4096) + table.unit / 4096 < 2 ^ 64

pub unit_room : (table : Bits) (unit : ℕ) → IsTable table → unit < unit_count table.bits → UnitRoom table unit
unit_room table unit is inside =
    let facts = table_facts table is in
    let wide : (unit + 1) * table.unit ≤ unit_count table.bits * table.unit = mul-le-mul_right table.unit (omega (arith, inside)) in
    let less : table.unit / 4096 ≤ table.unit = omega arith in
    let few : unit * (table.unit / 4096) ≤ unit * table.unit = mul-le-mul_left unit less in
    record { start = omega (arith, wide, facts.below, facts.small); end = omega (arith, wide, few, facts.below, facts.small) }
