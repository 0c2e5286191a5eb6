use Rattle.std.proofs.Common.{◌≡◌, ◌≢◌, ℕ, ◌+◌, ◌*◌, ◌/◌, ◌%◌, ◌^◌, ◌<◌, ◌≤◌, Bool, true, false, ◌&&◌, Option, None, Some, List, [], ◌∷◌, ◌++◌, refl, sym, ◌∙◌, ap, subst, inl, inr, arith, cond, eqb-true}
use Rattle.std.specs.Prelude.{fold, ◌-◌, ◌==◌, nat_le, not}
use Rattle.std.specs.List.{AllByRecursion}
use Rattle.std.proofs.lemmas.Bool.{cases_lt, and_parts, not-false}
use Rattle.std.proofs.lemmas.Bool.Decides.{nat_tests}
use Rattle.guest_base.specs.Ranges.{in_range}
use Rattle.guest_base.specs.declared.memory.Page.{Page}
use Rattle.guest_base.specs.declared.memory.Pages.{Pages}
use Rattle.guest_base.specs.declared.memory.Block.{Block}
use Rattle.guest_base.specs.declared.memory.Level.{Level}
use Rattle.guest_base.specs.declared.memory.HostRun.{HostRun}
use Rattle.guest_base.specs.declared.memory.PageState.{PageState}
use Rattle.guest_base.specs.declared.memory.PageState.TheVariants.{Pending, Accepted, Shared}
use Rattle.event_core.specs.declared.boot.Descriptor.{Descriptor}
use Rattle.event_core.specs.declared.boot.Boot.{Boot}
use Rattle.event_core.specs.declared.module_call.CallKind.{CallKind}
use Rattle.event_core.specs.declared.module_call.CallKind.TheVariants.{Accept, Share, Unshare, Give}
use Rattle.event_core.specs.declared.module_call.ModuleCall.{ModuleCall}
use Rattle.event_core.specs.Acceptance.{AcceptanceSteps, goes_on_at, tried_at}
use Rattle.event_core.specs.Boot.{BootRight, Uncalled, InTurn, StagePart, Stage, Early, PoolAccepted, PoolShared, BlockAccepted, AcceptsRun, AcceptsRange, SharesPool, set_runs}
use Rattle.event_core.specs.Calls.{States, is_done, covers, after_call, state_after, state_before, state_made, SoundCalls}
use Rattle.event_core.specs.Map.{MapRules, first_state, unaccepted_page, ram_page}
use Rattle.event_core.specs.Table.{Bits, FitsTable, is_unit, marks_page, is_unaccepted_unit, bad_unit}
use Rattle.event_core.specs.Given.{FitsGiven, first_by, unit_by}
use Rattle.guest_base.proofs.RangeLemmas.{in_range-elim, lt-of}
use Rattle.event_core.proofs.EarlyLemmas.{UnitHolds}
use Rattle.guest_base.proofs.SearchLemmas.{first_such-None, each_such-true, any_such-true}
use Rattle.std.proofs.Math.Nat.{pow-le-pow_right}
use Rattle.std.proofs.lemmas.Nat.{pow_pos}
use Rattle.event_core.specs.MemoryRows.{page_state, is_pending}
use Rattle.event_core.specs.Runs.{state_in}
use Rattle.event_core.specs.Stub.{default_unit, unaccepted, least_start, stub_base, stub_bit}
use Rattle.event_core.specs.Units.{bit_of, is_marked, mark_step, mark_made, unit_count, unit_first, unit_pages, guarded_units}
use Rattle.event_core.proofs.MapLemmas.{first_none, any_pending, pending_first}

-- Facts about what boot makes of a map that meets its rules.

-- ---- RAM and unaccepted units

-- what isn't RAM by the map has no first state by a table either
none-marked : (b c m : Bool) → cond b (Some Pending) (cond c (Some Accepted) None) ≡ None → cond (b && m) (Some Pending) (cond c (Some Accepted) None) ≡ None
none-marked false c m h = h
none-marked true c m h = cc

none-by : (map : List Descriptor) (table : Option Bits) (page : ℕ) → first_state map page ≡ None → first_by map table page ≡ None
none-by map None page h = h
none-by map (Some t) page h = none-marked (unaccepted_page map page) (ram_page map page) (marks_page t page) h

-- RAM of a map lies below 2^28 pages
pub states-low : (map : List Descriptor) (hosts : List HostRun) (table : Option Bits) → MapRules map hosts → (page : ℕ) → first_by map table page ≢ None → page < 2 ^ 28
states-low map hosts table rules page some =
    elim (cases_lt page (2 ^ 28)) [
      | inl low ↦ low
      | inr high ↦ absurd (some (none-by map table page (first_none map page rules.each high)))
    ]

pub ram-low : (map : List Descriptor) (hosts : List HostRun) (table : Option Bits) (slots areas cpus : ℕ) (boot : Boot) → MapRules map hosts → Uncalled map hosts table slots areas cpus boot → (page : ℕ) → state_in boot.ram page ≢ None → page < 2 ^ 28
ram-low map hosts table slots areas cpus boot rules plain page some = states-low map hosts table rules page (λ none. some (plain.ram.each page ∙ none))

-- a page of a unit lies in the unit's bytes
pub in_unit : (base size unit least page : ℕ) → size ≡ 2097152 → base ≡ least / 2097152 * 2097152 → in_range (base / 4096 + unit * (size / 4096)) (size / 4096) page ≡ true → UnitHolds (base + unit * 2097152) page
in_unit base size unit least page is down inside =
    let pages : size / 4096 ≡ 512 = ap (λ s. s / 4096) is in
    let here : in_range (base / 4096 + unit * 512) 512 page ≡ true = rw pages at inside in
    record { low = grind (arith, nat_tests); high = grind (arith, nat_tests); even = omega (arith, down) }

-- a set unit is one of the stub's, and holds its pages
pub set-unit : (map : List Descriptor) (hosts : List HostRun) (slots areas cpus : ℕ) (boot : Boot) → Uncalled map hosts None slots areas cpus boot → (unit page : ℕ) → bit_of boot.bits unit ≡ true → in_range (unit_first boot unit) (unit_pages boot) page ≡ true → (stub_bit map unit ≡ true) × UnitHolds (stub_base map + unit * default_unit) page
set-unit map hosts slots areas cpus boot plain unit page set inside =
    let at = in_unit boot.base boot.unit unit (least_start (unaccepted map)) page plain.unit plain.base inside in
    let below = lt-of unit (unit_count boot.bits) ((and_parts _ _ set).0) in
    let place : boot.base + unit * 2097152 ≡ stub_base map + unit * default_unit = ap (λ base. base + unit * 2097152) plain.base in
    (sym (plain.bits unit below) ∙ set, subst (λ a. UnitHolds a page) place at)

quarter : (at : ℕ) → at % 2097152 ≡ 0 → at % 4096 ≡ 0
quarter at even = omega (arith, even)

-- the unit in which a page of a unit lies
pub unit-of : (base size unit page : ℕ) → base + unit * size ≤ page → page < base + unit * size + size → (page - base) / size ≡ unit
unit-of base size unit page low high = grind arith

pub marked-at : (table : Bits) (unit page : ℕ) → bit_of table.bits unit ≡ true → in_range (table.base / 4096 + unit * (table.unit / 4096)) (table.unit / 4096) page ≡ true → marks_page table page ≡ true
marked-at table unit page set inside =
    let within = in_range-elim (table.base / 4096 + unit * (table.unit / 4096)) (table.unit / 4096) page inside in
    let first = within.0 in
    let low : nat_le (table.base / 4096) page ≡ true = grind (arith, nat_tests, first) in
    rw low (ap (bit_of table.bits) (unit-of (table.base / 4096) (table.unit / 4096) unit page within.0 within.1) ∙ set)

-- a set unit of a table that fits has unaccepted pages
pub fits-page : (map : List Descriptor) (table : Bits) (unit page : ℕ) → FitsTable map table → bit_of table.bits unit ≡ true → in_range (table.base / 4096 + unit * (table.unit / 4096)) (table.unit / 4096) page ≡ true → unaccepted_page map page ≡ true
unfolding bad_unit
fits-page map table unit page fits set inside =
    let below = lt-of unit (unit_count table.bits) ((and_parts _ _ set).0) in
    let end : unit < 0 + unit_count table.bits = omega (arith, below) in
    let none = (first_such-None _ 0 (unit_count table.bits) fits.none_bad).fails unit (omega arith) end in
    let whole : is_unaccepted_unit map table unit ≡ true = not-false _ (rw set at none) in
    let within = in_range-elim (table.base / 4096 + unit * (table.unit / 4096)) (table.unit / 4096) page inside in
    (each_such-true (unaccepted_page map) _ _ whole).passes page within.0 within.1

-- the pages of a set unit are pending at first
pub set-pending : (map : List Descriptor) (hosts : List HostRun) (table : Option Bits) (slots areas cpus : ℕ) (boot : Boot) → MapRules map hosts → FitsGiven map table → Uncalled map hosts table slots areas cpus boot → (unit page : ℕ) → bit_of boot.bits unit ≡ true → in_range (unit_first boot unit) (unit_pages boot) page ≡ true → state_in boot.ram page ≡ Some Pending
set-pending map hosts (Some table) slots areas cpus boot rules fits plain unit page set inside =
    let below = lt-of unit (unit_count boot.bits) ((and_parts _ _ set).0) in
    let is : bit_of table.bits unit ≡ true = sym (plain.bits unit below) ∙ set in
    let here : in_range (table.base / 4096 + unit * (table.unit / 4096)) (table.unit / 4096) page ≡ true =
    sym (ap (λ base. in_range (base / 4096 + unit * (boot.unit / 4096)) (boot.unit / 4096) page) plain.base ∙ ap (λ size. in_range (table.base / 4096 + unit * (size / 4096)) (size / 4096) page) plain.unit) ∙ inside in
    plain.ram.each page ∙ rw (fits-page map table unit page fits is here, marked-at table unit page is here) refl
set-pending map hosts None slots areas cpus boot rules fits plain unit page set inside =
    let u = set-unit map hosts slots areas cpus boot plain unit page set inside in
    plain.ram.each page ∙ pending_first map page (any_pending (stub_base map + unit * default_unit) page map rules.each u.0 u.1.low u.1.high (quarter _ u.1.even))

-- ---- the size of a unit

-- a unit is 1 to 512 pages
pub record IsSize (pages : ℕ) : Type 0 where
  pub some : 0 < pages
  pub small : pages ≤ 512

size-of : (unit order : ℕ) → order < 10 → unit ≡ 4096 * 2 ^ order → IsSize (unit / 4096)
size-of unit order low is =
    let pages : unit / 4096 ≡ 2 ^ order = (let whole : 4096 * 2 ^ order / 4096 ≡ 2 ^ order = omega arith in ap (λ u. u / 4096) is ∙ whole) in
    let some = pow_pos order in
    let under : order ≤ 9 = omega (arith, low) in
    let two : 0 < 2 = omega arith in
    let few : 2 ^ order ≤ 2 ^ 9 = pow-le-pow_right {n = 2} two {i = order} {j = 9} under in
    record { some = omega (arith, pages, some); small = omega (arith, pages, few) }

table-size : (unit : ℕ) → is_unit unit ≡ true → IsSize (unit / 4096)
table-size unit is =
    let found = any_such-true (λ order. unit == 4096 * 2 ^ order) 0 10 is in
    let high = found.1.high in
    size-of unit found.0 (omega (arith, high)) (eqb-true unit (4096 * 2 ^ found.0) found.1.passes)

pub unit-size : (map : List Descriptor) (table : Option Bits) → FitsGiven map table → IsSize (unit_by table / 4096)
unit-size map None fits = record { some = omega arith; small = omega arith }
unit-size map (Some table) fits = table-size table.unit fits.is_table.unit_is

-- ---- boot's calls make no page pending

abbrev pub TakesNone : ModuleCall → Type 0
TakesNone call = state_made call.kind ≢ Pending

pub all-append : {A : Type 0} (P : A → Type 0) (xs ys : List A) → AllByRecursion P xs → AllByRecursion P ys → AllByRecursion P (xs ++ ys)
all-append P [] ys left right = right
all-append P (x ∷ xs) ys left right = (left.0, all-append P xs ys left.1 right)

-- what holds of the calls of each item's part, where something holds of the item, holds of the calls of all such items
pub in-turn-each : {Item : Type 0} (Part : List ModuleCall → Item → List ModuleCall → Option Page → Type 0) (Q : Item → Type 0) (P : ModuleCall → Type 0)
    → ((done : List ModuleCall) (item : Item) (now : List ModuleCall) (stop : Option Page) → Q item → Part done item now stop → AllByRecursion P now)
    → (done : List ModuleCall) (items : List Item) (calls : List ModuleCall) (stop : Option Page) → AllByRecursion Q items → InTurn Part done items calls stop → AllByRecursion P calls
in-turn-each Part Q P each done [] calls stop all turn = subst (AllByRecursion P) (sym turn.0) tt
in-turn-each Part Q P each done (item ∷ items) calls stop all (inl stopped) = each done item calls (Some stopped.0) all.0 stopped.1
in-turn-each Part Q P each done (item ∷ items) calls stop all (inr (now, later, is, part, rest)) =
    subst (AllByRecursion P) (sym is) (all-append P now later (each done item now None all.0 part) (in-turn-each Part Q P each (done ++ now) items later stop all.1 rest))

all-true : {Item : Type 0} (items : List Item) → AllByRecursion (λ _. Unit {0}) items
all-true [] = tt
all-true (item ∷ items) = (tt, all-true items)

-- what holds of the calls of each part holds of the calls of all
in-turn-all : {Item : Type 0} (Part : List ModuleCall → Item → List ModuleCall → Option Page → Type 0) (P : ModuleCall → Type 0) → ((done : List ModuleCall) (item : Item) (now : List ModuleCall) (stop : Option Page) → Part done item now stop → AllByRecursion P now)
    → (done : List ModuleCall) (items : List Item) (calls : List ModuleCall) (stop : Option Page) → InTurn Part done items calls stop → AllByRecursion P calls
in-turn-all Part P each done items calls stop turn = in-turn-each Part (λ _. Unit {0}) P (λ before item now end any part. each before item now end part) done items calls stop (all-true items) turn

kind-accept : (kind : CallKind) → kind ≡ Accept → state_made kind ≢ Pending
kind-accept Accept is = λ no. cc
kind-accept Share is = cc
kind-accept Unshare is = cc
kind-accept Give is = cc

steps-all : (hosts : List HostRun) (set : ℕ → Bool) (end from : ℕ) (tried : Option Level) (calls : List ModuleCall) → AcceptanceSteps hosts set end from tried calls → AllByRecursion TakesNone calls
steps-all hosts set end from tried [] steps = tt
steps-all hosts set end from tried (call ∷ calls) steps = (kind-accept call.kind steps.2.kind, steps-all hosts set end (goes_on_at call) (tried_at call) calls steps.4)

range-all : (boot : Boot) (done : List ModuleCall) (start len : ℕ) (calls : List ModuleCall) (stop : Option Page) → AcceptsRange boot done start len calls stop → AllByRecursion TakesNone calls
range-all boot done start len calls stop turn =
    in-turn-all (AcceptsRun boot) TakesNone (λ before run now stopped part. steps-all boot.hosts _ _ _ None now part.0) done (set_runs boot done (guarded_units boot start len)) calls stop turn

shared-all : (pool : Pages) (calls : List ModuleCall) (stop : Option Page) → SharesPool pool calls stop → AllByRecursion TakesNone calls
shared-all pool calls None is = subst (AllByRecursion TakesNone) (sym is) ((λ no. cc), tt)
shared-all pool calls (Some page) is = subst (AllByRecursion TakesNone) (sym is.0) ((λ no. cc), tt)

block-all : (boot : Boot) (done : List ModuleCall) (block : Block) (calls : List ModuleCall) (stop : Option Page) (ten : Bool) → elim ten as (λ _. Type 0) [ true ↦ (calls ≡ []) × (stop ≡ None) | false ↦ AcceptsRange boot done (4096 * block.first) (4096 * 2 ^ block.order) calls stop ] → AllByRecursion TakesNone calls
block-all boot done block calls stop true part = subst (AllByRecursion TakesNone) (sym part.0) tt
block-all boot done block calls stop false part = range-all boot done _ _ calls stop part

stage-all : (boot : Boot) (done : List ModuleCall) (stage : Stage) (calls : List ModuleCall) (stop : Option Page) → StagePart boot done stage calls stop → AllByRecursion TakesNone calls
stage-all boot done (Early pages) calls stop part = steps-all boot.hosts _ _ _ None calls part.0
stage-all boot done (PoolAccepted pages) calls stop part = range-all boot done _ _ calls stop part
stage-all boot done (PoolShared pages) calls stop part = shared-all pages calls stop part
stage-all boot done (BlockAccepted block) calls stop part = block-all boot done block calls stop (block.order == 10) part

pub boot-takes-none : (map : List Descriptor) (hosts : List HostRun) (table : Option Bits) (slots areas cpus : ℕ) (boot : Boot) → BootRight map hosts table slots areas cpus boot → AllByRecursion TakesNone boot.calls
boot-takes-none map hosts table slots areas cpus boot right = in-turn-all (StagePart boot) TakesNone (stage-all boot) [] _ boot.calls None right.made.stages

-- ---- what is unaccepted is pending

shared-mark : (b marked : Bool) (s : Option PageState) → marked ≡ is_pending s → (b ≡ true → s ≡ Some Accepted) → cond b marked marked ≡ is_pending (cond b (Some Shared) s)
shared-mark true marked s is sound = is ∙ ap is_pending (sound refl)
shared-mark false marked s is sound = is

accept-mark : (b marked : Bool) (s : Option PageState) → marked ≡ is_pending s → cond b false marked ≡ is_pending (cond b (Some Accepted) s)
accept-mark true marked s is = refl
accept-mark false marked s is = is

mark-one : (page : ℕ) (call : ModuleCall) (marked : Bool) (states : States) (kind : CallKind) → call.kind ≡ kind → state_made kind ≢ Pending → marked ≡ is_pending (states page) → (covers call page ≡ true → states page ≡ Some (state_before kind))
    → cond (is_done call && covers call page) (mark_made kind marked) marked ≡ is_pending (cond (is_done call && covers call page) (Some (state_made kind)) (states page))
mark-one page call marked states Accept kind not is sound = accept-mark (is_done call && covers call page) marked (states page) is
mark-one page call marked states Share kind not is sound = shared-mark (is_done call && covers call page) marked (states page) is (λ b. sound ((and_parts (is_done call) (covers call page) b).1))
mark-one page call marked states Unshare kind not is sound = absurd (not refl)
mark-one page call marked states Give kind not is sound = absurd (not refl)

marks-sound : (page : ℕ) (calls : List ModuleCall) (marked : Bool) (states : States) → marked ≡ is_pending (states page) → SoundCalls states calls → AllByRecursion TakesNone calls → fold (mark_step page) marked calls ≡ is_pending (state_after states calls page)
marks-sound page [] marked states is sound all = is
marks-sound page (call ∷ calls) marked states is sound all =
    marks-sound page calls (mark_step page marked call) (after_call states call)
    (mark-one page call marked states call.kind refl all.0 is (λ covered. sound.0 page covered)) sound.1 all.1

-- after sound calls of boot a page of a set unit is unaccepted exactly where it is pending
pub boot-marks : (map : List Descriptor) (hosts : List HostRun) (table : Option Bits) (slots areas cpus : ℕ) (boot : Boot) → MapRules map hosts → FitsGiven map table → BootRight map hosts table slots areas cpus boot → SoundCalls (state_in boot.ram) boot.calls
    → (unit page : ℕ) → bit_of boot.bits unit ≡ true → in_range (unit_first boot unit) (unit_pages boot) page ≡ true → is_marked true boot.calls page ≡ is_pending (page_state boot boot.calls page)
boot-marks map hosts table slots areas cpus boot rules fits right sound unit page set inside =
    marks-sound page boot.calls true (state_in boot.ram) (sym (ap is_pending (set-pending map hosts table slots areas cpus boot rules fits right.uncalled unit page set inside))) sound (boot-takes-none map hosts table slots areas cpus boot right)
