-- What boot leaves.
use Rattle.std.proofs.Common.{◌≡◌, ℕ, ◌+◌, ◌-◌, ◌*◌, ◌/◌, ◌%◌, ◌^◌, ◌<◌, ◌≤◌, Bool, true, false, Option, None, Some, List, [], ◌∷◌, ◌++◌, map, refl, sym, ◌∙◌, ap, subst, inl, inr, arith, append_assoc, nat_le, ◌==◌, eqb-true}
use Rattle.std.specs.Prelude.{◌⊎◌}
use Rattle.std.specs.List.{AllByRecursion, list_any}
use Rattle.std.specs.Option.{option_map_or}
use Rattle.std.proofs.lemmas.Bool.{cases_Bool, and_parts}
use Rattle.std.proofs.lemmas.Bool.Decides.{nat_tests}
use Rattle.std.proofs.Math.Nat.{div-mul-le_self, lt-div-mul-add}
use Rattle.guest_base.specs.Search.{any_such}
use Rattle.guest_base.proofs.RangeLemmas.{lt-of, in_range-elim}
use Rattle.guest_base.proofs.SearchLemmas.{any_such-false}
use Rattle.guest_base.specs.declared.memory.Block.{Block}
use Rattle.guest_base.specs.declared.memory.HostRun.{HostRun}
use Rattle.guest_base.specs.declared.memory.Page.{Page}
use Rattle.guest_base.specs.declared.memory.Pages.{Pages}
use Rattle.guest_base.specs.declared.memory.Units.{Units}
use Rattle.event_core.specs.declared.boot.Boot.{Boot}
use Rattle.event_core.specs.declared.boot.Descriptor.{Descriptor}
use Rattle.event_core.specs.declared.module_call.ModuleCall.{ModuleCall}
use Rattle.event_core.specs.Blocks.{block_units, waits_at_boot}
use Rattle.event_core.specs.Boot.{InTurn, StagePart, Stage, Early, PoolAccepted, PoolShared, BlockAccepted, AcceptsRun, AcceptsRange, SharesPool, Uncalled, set_runs, pool_stages, stages_of}
use Rattle.event_core.specs.Cut.{cut}
use Rattle.event_core.specs.Given.{FitsGiven, EarlyBy, first_by}
use Rattle.event_core.specs.Map.{MapRules, unaccepted_page, ram_page, is_unaccepted, holds_page}
use Rattle.event_core.specs.MemoryRows.{page_state, is_pending}
use Rattle.event_core.specs.Runs.{state_in}
use Rattle.event_core.specs.Stub.{least_start, greatest_end, unaccepted, stub_base, stub_length}
use Rattle.event_core.specs.Table.{Bits, FitsTable, marks_page}
use Rattle.event_core.specs.Units.{bit_of, bit_after, unit_count, unit_first, unit_pages, units_end, guarded_units}
use Rattle.event_core.proofs.BootFacts.{TakesNone, in-turn-each, all-append}
use Rattle.event_core.proofs.EarlyLemmas.{or-cases, in_pages, early_in}
use Rattle.event_laws.specs.Coming.{BootMade, ComesTo}
use Rattle.event_laws.proofs.ComingFacts.{comes-to}
use Rattle.event_laws.proofs.PlaceLemmas.{UnitFits, unit-some}
use Rattle.event_laws.proofs.TableFacts.{pending-marked}
use Rattle.event_laws.proofs.UnitFacts.{table-fits, units-fit}
use Rattle.event_laws.proofs.WaitFacts.{waits-as-comes}
use Rattle.block_laws.specs.Guarded.{IsPlainCall, PageIn, UnitIn, IsAt, NonePending}
use Rattle.block_laws.proofs.ListFacts.{all-back, each-split}
use Rattle.block_laws.proofs.PageFacts.{pending-first, not-pending-later}
use Rattle.block_laws.proofs.SizeFacts.{steps-accept}
use Rattle.block_laws.proofs.RunFacts.{AnyItem, each-any, runs-hold, turn-accepted}
use Rattle.block_laws.proofs.GuardFacts.{guard-holds}
use Rattle.block_laws.proofs.EarlyFacts.{early-accepted, Placed, unit-at, any-descriptor, any-marks-end, stub-placed, any-filter, first-pending, unit-low, early-in-pieces}
use Rattle.block_laws.proofs.StandFacts.{SetUnit, BootStands, bit-before, set-below, plain-takes, accept-plain}

-- ---- boot's calls

range-plain : (boot : Boot) (done : List ModuleCall) (start len : ℕ) (calls : List ModuleCall) (stop : Option Page) → AcceptsRange boot done start len calls stop → AllByRecursion (IsPlainCall boot) calls
range-plain boot done start len calls stop turn =
    in-turn-each (AcceptsRun boot) AnyItem (IsPlainCall boot) (λ before run now stopped any part. accept-plain boot now (steps-accept boot.hosts _ _ _ None now part.0))
    done (set_runs boot done (guarded_units boot start len)) calls stop (each-any (set_runs boot done (guarded_units boot start len))) turn

-- the stages of a boot share its pool alone
abbrev OwnStage : Boot → Stage → Type 0
OwnStage boot (Early pages) = Unit {0}
OwnStage boot (PoolAccepted pages) = Unit {0}
OwnStage boot (PoolShared pages) = boot.pool ≡ Some pages
OwnStage boot (BlockAccepted block) = Unit {0}

shares-plain : (boot : Boot) (pool : Pages) (calls : List ModuleCall) (stop : Option Page) → boot.pool ≡ Some pool → SharesPool pool calls stop → AllByRecursion (IsPlainCall boot) calls
shares-plain boot pool calls None own is = subst (AllByRecursion (IsPlainCall boot)) (sym is) (inr (pool, own, refl, refl, refl), tt)
shares-plain boot pool calls (Some page) own is = subst (AllByRecursion (IsPlainCall boot)) (sym is.0) (inr (pool, own, refl, refl, refl), tt)

block-plain : (boot : Boot) (done : List ModuleCall) (block : Block) (calls : List ModuleCall) (stop : Option Page) (ten : Bool) → elim ten as (λ _. Type 0) [ true ↦ (calls ≡ []) × (stop ≡ None) | false ↦ AcceptsRange boot done (4096 * block.first) (4096 * 2 ^ block.order) calls stop ] → AllByRecursion (IsPlainCall boot) calls
block-plain boot done block calls stop true part = subst (AllByRecursion (IsPlainCall boot)) (sym part.0) tt
block-plain boot done block calls stop false part = range-plain boot done _ _ calls stop part

stage-plain : (boot : Boot) (done : List ModuleCall) (stage : Stage) (calls : List ModuleCall) (stop : Option Page) → OwnStage boot stage → StagePart boot done stage calls stop → AllByRecursion (IsPlainCall boot) calls
stage-plain boot done (Early pages) calls stop own part = accept-plain boot calls (steps-accept boot.hosts _ _ _ None calls part.0)
stage-plain boot done (PoolAccepted pages) calls stop own part = range-plain boot done _ _ calls stop part
stage-plain boot done (PoolShared pages) calls stop own part = shares-plain boot pages calls stop own part
stage-plain boot done (BlockAccepted block) calls stop own part = block-plain boot done block calls stop (block.order == 10) part

early-own : (boot : Boot) (pieces : List Pages) → AllByRecursion (OwnStage boot) (map Early pieces)
early-own boot [] = tt
early-own boot (p ∷ pieces) = (tt, early-own boot pieces)

pool-own : (boot : Boot) (pool : Option Pages) → boot.pool ≡ pool → AllByRecursion (OwnStage boot) (pool_stages pool)
pool-own boot None is = tt
pool-own boot (Some pool) is = (tt, (is, tt))

blocks-own : (boot : Boot) (blocks : List Block) → AllByRecursion (OwnStage boot) (map BlockAccepted blocks)
blocks-own boot [] = tt
blocks-own boot (b ∷ blocks) = (tt, blocks-own boot blocks)

boot-plain : (boot : Boot) → BootMade boot → AllByRecursion (IsPlainCall boot) boot.calls
boot-plain boot made =
    let right = made.right.made in
    in-turn-each (StagePart boot) (OwnStage boot) (IsPlainCall boot) (stage-plain boot) [] (stages_of boot right.pieces) boot.calls None
    (all-append (OwnStage boot) (map Early right.pieces ++ pool_stages boot.pool) (map BlockAccepted (cut boot)) (all-append (OwnStage boot) (map Early right.pieces) (pool_stages boot.pool) (early-own boot right.pieces) (pool-own boot boot.pool refl)) (blocks-own boot (cut boot)))
    right.stages

boot-takes : (boot : Boot) → BootMade boot → AllByRecursion TakesNone boot.calls
boot-takes boot made = plain-takes boot boot.calls (boot-plain boot made)

-- ---- pending pages lie in set units

-- with a table
pub table-set : (map : List Descriptor) (hosts : List HostRun) (table : Bits) (slots areas cpus : ℕ) (boot : Boot) → FitsTable map table → Uncalled map hosts (Some table) slots areas cpus boot → (page : ℕ) → is_pending (first_by map (Some table) page) ≡ true → (unit : ℕ) × SetUnit boot unit page
table-set map hosts table slots areas cpus boot fits plain page h =
    let marked : marks_page table page ≡ true = sym (pending-marked map table page fits) ∙ h in
    let two = and_parts (nat_le (table.base / 4096) page) (bit_of table.bits ((page - table.base / 4096) / (table.unit / 4096))) marked in
    let unit : ℕ = (page - table.base / 4096) / (table.unit / 4096) in
    let above = two.0 in
    let low : table.base / 4096 ≤ page = grind (arith, nat_tests, above) in
    let size = table-fits table fits.is_table in
    let positive = unit-some table.unit table.base size in
    let is = size.unit_is in
    let some : 0 < table.unit / 4096 = omega (arith, positive, is) in
    let down = div-mul-le_self (page - table.base / 4096) (table.unit / 4096) in
    let up : page - table.base / 4096 < unit * (table.unit / 4096) + table.unit / 4096 = lt-div-mul-add some in
    let below = lt-of unit (unit_count table.bits) ((and_parts _ _ two.1).0) in
    let count : unit_count boot.bits ≡ unit_count table.bits = ap (λ n. 8 * n) plain.bitmap in
    let first : unit_first boot unit ≡ table.base / 4096 + unit * (table.unit / 4096) = ap (λ b. b / 4096 + unit * (boot.unit / 4096)) plain.base ∙ ap (λ u. table.base / 4096 + unit * (u / 4096)) plain.unit in
    let pages : unit_pages boot ≡ table.unit / 4096 = ap (λ u. u / 4096) plain.unit in (
      unit,
      record {
        set = plain.bits unit (omega (arith, below, count)) ∙ two.1;
        inside = record { low = omega (arith, first, down, low); high = omega (arith, first, pages, up, low) };
      },
    )

-- a page of a descriptor stands at or above the base
first-low : (base end page : ℕ) (ds : List Descriptor) → AllByRecursion (Placed base end) ds → list_any (holds_page page) ds ≡ true → base ≤ 4096 * page
first-low base end page [] all h = cc
first-low base end page (d ∷ ds) all h =
    elim (or-cases (holds_page page d) (list_any (holds_page page) ds) h) [
      | inl here ↦
          (let two = in_range-elim (d.start / 4096) d.pages page here in
          let first = two.0 in
          let even = all.0.even in
          let low = all.0.low in
          omega (arith, first, even, low))
      | inr there ↦ first-low base end page ds all.1 there
    ]

-- a page of a unit of 2 MiB
page-in : (base size page least : ℕ) → size ≡ 2097152 → least % 2097152 ≡ 0 → base ≡ least → least ≤ 4096 * page
    → (base / 4096 + (4096 * page - least) / 2097152 * (size / 4096) ≤ page) × (page < base / 4096 + (4096 * page - least) / 2097152 * (size / 4096) + size / 4096)
page-in base size page least is even same low =
    let pages : size / 4096 ≡ 512 = ap (λ s. s / 4096) is in
    let first : base / 4096 ≡ least / 4096 = ap (λ b. b / 4096) same in
    let at : (4096 * page - least) / 2097152 * (size / 4096) ≡ (4096 * page - least) / 2097152 * 512 = ap (λ p. (4096 * page - least) / 2097152 * p) pages in
    (omega (arith, first, at, even, low), omega (arith, first, at, pages, even, low))

-- by the map alone, but for the early pieces
pub stub-set : (map : List Descriptor) (hosts : List HostRun) (slots areas cpus : ℕ) (boot : Boot) → MapRules map hosts → Uncalled map hosts None slots areas cpus boot → (page : ℕ) → is_pending (first_by map None page) ≡ true → (list_any (early_in page) (unaccepted map) ≡ true) ⊎ ((unit : ℕ) × SetUnit boot unit page)
stub-set map hosts slots areas cpus boot rules plain page h =
    let base : ℕ = stub_base map in
    let end : ℕ = greatest_end (unaccepted map) in
    let placed = stub-placed map rules.each in
    let whole : base % 2097152 ≡ 0 = even (least_start (unaccepted map)) in
    let held = any-filter is_unaccepted (holds_page page) map (first-pending (unaccepted_page map page) (ram_page map page) h) in
    elim (any-descriptor base end page (unaccepted map) whole placed held) [
      | inl early ↦ inl early
      | inr marked ↦
          (let unit : ℕ = (4096 * page - base) / 2097152 in
          let within = any-marks-end base end (unit-at base page) (unaccepted map) placed marked in
          let count : unit_count boot.bits ≡ 8 * stub_length map = ap (λ n. 8 * n) plain.bitmap in
          let below : unit < 8 * stub_length map = unit-low base end unit within in
          let low = first-low base end page (unaccepted map) placed held in
          let at = page-in boot.base boot.unit page base plain.unit whole plain.base low in
          inr (
            unit,
            record {
              set = plain.bits unit (omega (arith, below, count)) ∙ marked;
              inside = record { low = at.0; high = at.1 };
            },
          ))
    ]
  where
    even : (n : ℕ) → (n / 2097152 * 2097152) % 2097152 ≡ 0
    even n = omega arith

-- what is pending when boot is over
left-set : (boot : Boot) (made : BootMade boot) → (table : Option Bits) → FitsGiven made.descriptors table → Uncalled made.descriptors made.hosts table made.slots made.areas made.cpus boot → (pieces : List Pages) → EarlyBy made.descriptors table pieces
    → ((page : ℕ) → list_any (in_pages page) pieces ≡ true → is_pending (page_state boot boot.calls page) ≡ false)
    → (page : ℕ) → is_pending (page_state boot boot.calls page) ≡ true → (unit : ℕ) × SetUnit boot unit page
left-set boot made (Some table) fits plain pieces early done page h =
    table-set made.descriptors made.hosts table made.slots made.areas made.cpus boot fits plain page
    (ap is_pending (sym (plain.ram.each page)) ∙ pending-first (state_in boot.ram) boot.calls page (boot-takes boot made) h)
left-set boot made None fits plain pieces early done page h =
    elim (stub-set made.descriptors made.hosts made.slots made.areas made.cpus boot made.rules plain page
    (ap is_pending (sym (plain.ram.each page)) ∙ pending-first (state_in boot.ram) boot.calls page (boot-takes boot made) h)) [
      | inr set ↦ set
      | inl at ↦ (let no : true ≡ false = sym h ∙ done page (early-in-pieces made.descriptors pieces page early at) in cc)
    ]

boot-marked : (boot : Boot) → BootMade boot → (page : ℕ) → is_pending (page_state boot boot.calls page) ≡ true → (unit : ℕ) × SetUnit boot unit page
boot-marked boot made =
    let right = made.right.made in
    left-set boot made made.table made.fits made.right.uncalled right.pieces right.early
    (early-accepted boot right.pieces (pool_stages boot.pool ++ map BlockAccepted (cut boot)) [] boot.calls
    (subst (λ stages. InTurn (StagePart boot) [] stages boot.calls None) (append_assoc (map Early right.pieces) (pool_stages boot.pool) (map BlockAccepted (cut boot))) right.stages) (boot-takes boot made))

boot-fits : (boot : Boot) → BootMade boot → UnitFits boot.unit boot.base
boot-fits boot made = units-fit made.descriptors made.table boot.unit boot.base made.fits made.right.uncalled.unit made.right.uncalled.base

-- ---- blocks that don't wait

module _ (boot : Boot) (made : BootMade boot) (block : Block) (done : List ModuleCall) (comes : ComesTo boot block done) where
  -- a page that is left pending in the block, or behind it, lies in a guarded unit whose bit is set when boot comes to the block
  left-guarded : (page : ℕ) → IsAt block page → is_pending (page_state boot boot.calls page) ≡ true → (units : Units) × (block_units boot block ≡ Some units) × (unit : ℕ) × UnitIn units unit × PageIn boot unit page × (bit_after boot done unit ≡ true)
  left-guarded page at h =
      let found = boot-marked boot made page h in
      let held = guard-holds boot block found.0 page (boot-fits boot made) (set-below boot found.0 page found.1) found.1.inside at in
      let P : List ModuleCall → Type 0 = AllByRecursion (IsPlainCall boot) in
      let Q : List ModuleCall → Type 0 = λ cs. is_pending (page_state boot cs page) ≡ true in
      (held.0, held.1, found.0, held.2, found.1.inside, bit-before boot done comes.rest found.0 page (subst P comes.calls (boot-plain boot made)) found.1 (subst Q comes.calls h))

  -- a block of order 10 that doesn't wait has no set bit
  whole-clear : block.order ≡ 10 → waits_at_boot boot block ≡ false → NonePending boot boot.calls block
  whole-clear ten out page at =
      elim (cases_Bool (is_pending (page_state boot boot.calls page))) [
        | inr f ↦ f
        | inl t ↦
            (let found = left-guarded page at t in
            let clear : any_such (bit_after boot done) found.0.first found.0.count ≡ false =
            sym (ap (λ units. option_map_or (λ (units : Units). any_such (bit_after boot done) units.first units.count) units false) found.1)
            ∙ sym (waits-as-comes boot block done comes ten) ∙ out
            in
            let none = (any_such-false (bit_after boot done) found.0.first found.0.count clear).fails found.2 found.3.low found.3.high in
            let no : true ≡ false = sym found.5 ∙ none in
            cc)
      ]

  -- a smaller one is accepted when boot comes to it
  accepted-clear : (now later : List ModuleCall) → boot.calls ≡ done ++ (now ++ later) → AcceptsRange boot done (4096 * block.first) (4096 * 2 ^ block.order) now None → NonePending boot boot.calls block
  accepted-clear now later is part page at =
      elim (cases_Bool (is_pending (page_state boot boot.calls page))) [
        | inr f ↦ f
        | inl t ↦
            (let found = left-guarded page at t in
            let units = found.0 in
            let turn : InTurn (AcceptsRun boot) done (set_runs boot done (Some units)) now None = subst (λ us. InTurn (AcceptsRun boot) done (set_runs boot done us) now None) found.1 part in
            let held = runs-hold (bit_after boot done) units.count units.first (units_end units) found.2 (omega arith) found.3.low found.3.high found.5 in
            let gone = turn-accepted boot done (set_runs boot done (Some units)) now turn found.2 page held found.4 in
            let all : boot.calls ≡ (done ++ now) ++ later = is ∙ sym (append_assoc done now later) in
            let takes = all-back TakesNone (done ++ now) later (subst (AllByRecursion TakesNone) all (boot-takes boot made)) in
            let no : true ≡ false = sym t ∙ ap (λ cs. is_pending (page_state boot cs page)) all ∙ not-pending-later boot (done ++ now) later page takes gone in
            cc)
      ]

  small-clear : (block.order == 10) ≡ false → NonePending boot boot.calls block
  small-clear small = by_turn comes.does where
    by_turn : InTurn (StagePart boot) done (BlockAccepted block ∷ comes.later) comes.rest None → NonePending boot boot.calls block
    by_turn (inl stopped) = let no : None ≡ Some stopped.0 = stopped.2 in cc
    by_turn (inr (now, later, is, part, rest)) =
        accepted-clear now later (comes.calls ∙ ap (λ cs. done ++ cs) is)
        (subst (λ (b : Bool). elim b as (λ _. Type 0) [ true ↦ (now ≡ []) × ((let none : Option Page = None in none) ≡ None) | false ↦ AcceptsRange boot done (4096 * block.first) (4096 * 2 ^ block.order) now None ]) small part)

  clear-block : waits_at_boot boot block ≡ false → NonePending boot boot.calls block
  clear-block out =
      elim (cases_Bool (block.order == 10)) [
        | inl ten ↦ whole-clear (eqb-true block.order 10 ten) out
        | inr small ↦ small-clear small
      ]

pub boot-stands : (boot : Boot) → BootMade boot → BootStands boot
boot-stands boot made = record {
  fits = boot-fits boot made;
  plain = boot-plain boot made;
  marked = boot-marked boot made;
  loose =
      each-split (λ block. waits_at_boot boot block ≡ false → NonePending boot boot.calls block) [] (cut boot)
      (λ lower higher block is out. let found = comes-to boot lower higher block made is in clear-block boot made block found.0 found.1 out);
}
