-- What a table of unaccepted units that fits a map leaves pending.
use Rattle.std.proofs.Common.{◌≡◌, ℕ, ◌+◌, ◌-◌, ◌*◌, ◌/◌, ◌<◌, ◌≤◌, Bool, true, false, ◌&&◌, None, Some, List, refl, sym, ◌∙◌, ap, inl, inr, arith, cond, nat_le}
use Rattle.std.proofs.lemmas.Bool.{cases_Bool, and_parts}
use Rattle.std.proofs.lemmas.Bool.Decides.{nat_tests}
use Rattle.std.proofs.Math.Nat.{div-mul-le_self, lt-div-mul-add}
use Rattle.guest_base.specs.Ranges.{in_range}
use Rattle.guest_base.proofs.RangeLemmas.{in_range-intro}
use Rattle.event_core.proofs.BootFacts.{marked-at, fits-page}
use Rattle.guest_base.specs.declared.memory.PageState.TheVariants.{Pending, Accepted}
use Rattle.event_core.specs.declared.boot.Descriptor.{Descriptor}
use Rattle.event_core.specs.Given.{first_by}
use Rattle.event_core.specs.Map.{unaccepted_page, ram_page}
use Rattle.event_core.specs.MemoryRows.{is_pending}
use Rattle.event_core.specs.Table.{Bits, FitsTable, marks_page}
use Rattle.event_core.specs.Units.{bit_of}
use Rattle.event_laws.specs.Marked.{page_of_unit}
use Rattle.event_laws.proofs.PlaceLemmas.{unit-some}
use Rattle.event_laws.proofs.UnitFacts.{table-fits}

pub set-pending : (map : List Descriptor) (table : Bits) (unit page : ℕ) → FitsTable map table → bit_of table.bits unit ≡ true → page_of_unit table unit page ≡ true → first_by map (Some table) page ≡ Some Pending
set-pending map table unit page fits set inside = rw (fits-page map table unit page fits set inside, marked-at table unit page set inside) refl

-- a marked page lies in a set unit
page-in : (base size page : ℕ) → 0 < size → nat_le base page ≡ true → in_range (base + (page - base) / size * size) size page ≡ true
page-in base size page some above =
    let low : base ≤ page = grind (arith, nat_tests, above) in
    let down = div-mul-le_self (page - base) size in
    let up : page - base < (page - base) / size * size + size = lt-div-mul-add some in
    in_range-intro (base + (page - base) / size * size) size page (omega (arith, low, down)) (omega (arith, low, up))

not-marked : (b c m : Bool) → m ≡ false → is_pending (cond (b && m) (Some Pending) (cond c (Some Accepted) None)) ≡ false
not-marked true true m clear = rw clear refl
not-marked true false m clear = rw clear refl
not-marked false true m clear = refl
not-marked false false m clear = refl

pub pending-marked : (map : List Descriptor) (table : Bits) (page : ℕ) → FitsTable map table → is_pending (first_by map (Some table) page) ≡ marks_page table page
pending-marked map table page fits =
    elim (cases_Bool (marks_page table page)) [
      | inl marked ↦
          (let two = and_parts (nat_le (table.base / 4096) page) (bit_of table.bits ((page - table.base / 4096) / (table.unit / 4096))) marked in
          let size = table-fits table fits.is_table in
          let positive = unit-some table.unit table.base size in
          let is = size.unit_is in
          let some : 0 < table.unit / 4096 = omega (arith, positive, is) in
          ap is_pending (set-pending map table ((page - table.base / 4096) / (table.unit / 4096)) page fits two.1 (page-in (table.base / 4096) (table.unit / 4096) page some two.0)) ∙ sym marked)
      | inr clear ↦ not-marked (unaccepted_page map page) (ram_page map page) (marks_page table page) clear ∙ sym clear
    ]
