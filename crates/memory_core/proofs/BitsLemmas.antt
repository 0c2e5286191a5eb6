use Rattle.std.proofs.Common.{◌≡◌, ℕ, ◌+◌, ◌-◌, ◌*◌, ◌/◌, ◌^◌, ◌<◌, ◌≤◌, Bool, true, false, ◌&&◌, Option, None, Some, List, refl, sym, ◌∙◌, ap, arith, cond}
use Rattle.std.specs.Prelude.{nat_lt, not, max, min}
use Rattle.std.specs.Option.{option_and_then, option_map_or}
use Rattle.std.proofs.Math.Nat.{mul-le-mul_right, mul-le-mul_left}
use Rattle.guest_base.proofs.RangeLemmas.{in_range-intro, lt-of}
use Rattle.guest_base.specs.Ranges.{in_range}
use Rattle.guest_base.specs.Search.{any_such, count_such}
use Rattle.guest_base.proofs.SearchLemmas.{any_such_same, count_such_same}
use Rattle.guest_base.specs.declared.memory.Pages.{Pages}
use Rattle.guest_base.specs.declared.memory.Block.{Block}
use Rattle.guest_base.specs.declared.memory.Units.{Units}
use Rattle.event_core.specs.Blocks.{block_units}
use Rattle.event_core.specs.declared.boot.Boot.{Boot}
use Rattle.event_core.specs.declared.entry.Entry.{Entry}
use Rattle.event_core.specs.Calls.{calls_of}
use Rattle.event_core.specs.MemoryRows.{run_of_claim, some_unaccepted}
use Rattle.event_core.specs.Units.{bit_of, bit_after, unit_first, unit_pages, unit_count, first_run, guarded, guarded_units, with_guard, units_between}
use Rattle.event_core.specs.Table.{Bits, IsTable}
use Rattle.unaccepted_bitmap.proofs.TableFacts.{table_facts}
use Rattle.memory_core.specs.Bitmaps.{bits_in, guarded_by, any_in, SameBits, PagesOf, ClearedIn, unit_first_of, unit_pages_of}
use Rattle.memory_core.specs.Steps.{pages_of, unaccepted_count}
use Rattle.memory_core.proofs.UnitsLemmas.{first_run-same}

-- ---- the bitmap that is kept, over the boot's

first-both : (b c : Bool) → (b && c) ≡ true → b ≡ true
first-both true c h = refl
first-both false c h = cc

-- the last unit of a run of set bits lies in the bitmap
pub run-inside : (b : Bits) (run : Units) → 0 < run.count → ((unit : ℕ) → in_range run.first run.count unit ≡ true → bit_of b.bits unit ≡ true) → run.first + run.count ≤ unit_count b.bits
run-inside b run some all =
    let last : ℕ = run.first + run.count - 1 in
    let set = all last (in_range-intro run.first run.count last (omega arith) (omega arith)) in
    let below : nat_lt last (unit_count b.bits) ≡ true = first-both _ _ set in
    let lt : last < unit_count b.bits = lt-of last (unit_count b.bits) below in
    omega arith

-- the pages of units of a bitmap lie in memory, but for less than a byte of bits
pub record PagesLow (base size first count : ℕ) : Type 0 where
  pub starts : base / 4096 + first * size < 2 ^ 29
  pub lasts : count * size < 2 ^ 29
  pub ends : base / 4096 + first * size + count * size < 2 ^ 29

pub pages-low : (b : Bits) (units : Units) → IsTable b → units.first + units.count ≤ unit_count b.bits → PagesLow b.base (b.unit / 4096) units.first units.count
pages-low b units is inside =
    let facts = table_facts b is in
    let size = b.unit / 4096 in
    let whole : b.unit ≡ 4096 * size = (let even = facts.whole in omega (arith, even)) in
    let all : unit_count b.bits * b.unit ≡ 4096 * (unit_count b.bits * size) = (let each : unit_count b.bits * (4096 * size) ≡ 4096 * (unit_count b.bits * size) = omega arith in ap (λ u. unit_count b.bits * u) whole ∙ each) in
    let under : (units.first + units.count) * size ≤ unit_count b.bits * size = mul-le-mul_right size inside in
    let parts : (units.first + units.count) * size ≡ units.first * size + units.count * size = omega arith in
    let below = facts.below in
    let small = facts.small in
    let end : b.base / 4096 + units.first * size + units.count * size < 2 ^ 29 = omega (arith, all, under, parts, below, small) in
    record { starts = omega (arith, end); lasts = omega (arith, end); ends = end }

-- units of a bitmap end far below 2^64
pub units-low : (b : Bits) (units : Units) → IsTable b → units.first + units.count ≤ unit_count b.bits → units.first + units.count < 2 ^ 64
units-low b units is inside =
    let facts = table_facts b is in
    let some : 1 ≤ b.unit = (let s = facts.some in omega (arith, s)) in
    let more = mul-le-mul_left (unit_count b.bits) some in
    let below = facts.below in
    let small = facts.small in
    omega (arith, more, below, small, inside)

pub set-here : (b : Bits) (bits : Option Bits) (run : Units) → bits ≡ Some b → ((unit : ℕ) → in_range run.first run.count unit ≡ true → bits_in bits unit ≡ true) → (unit : ℕ) → in_range run.first run.count unit ≡ true → bit_of b.bits unit ≡ true
set-here b bits run is all unit inside = sym (ap (λ o. bits_in o unit) is) ∙ all unit inside

-- without a bitmap no unit is set
pub none-set : (bits : Option Bits) (run : Units) → bits ≡ None → 0 < run.count → ((unit : ℕ) → in_range run.first run.count unit ≡ true → bits_in bits unit ≡ true) → ⊥
none-set bits run is some all =
    let no : false ≡ true = sym (ap (λ o. bits_in o run.first) is) ∙ all run.first (in_range-intro run.first run.count run.first (omega arith) (omega arith)) in
    cc

pages-same : (a b : Pages) → a.first ≡ b.first → a.count ≡ b.count → a ≡ b
pages-same a b first count = ap (λ f. let p : Pages = record { first = f; count = a.count } in p) first ∙ ap (λ n. let p : Pages = record { first = b.first; count = n } in p) count

same-pages : (boot : Boot) (b : Bits) → b.unit ≡ boot.unit → unit_pages_of b ≡ unit_pages boot
same-pages boot b unit = ap (λ u. u / 4096) unit

same-first : (boot : Boot) (b : Bits) (unit : ℕ) → b.unit ≡ boot.unit → b.base ≡ boot.base → unit_first_of b unit ≡ unit_first boot unit
same-first boot b unit is_unit is_base = ap (λ a. a / 4096 + unit * unit_pages_of b) is_base ∙ ap (λ p. boot.base / 4096 + unit * p) (same-pages boot b is_unit)

-- the pages of a run are the definition's
pub run-pages-are : (boot : Boot) (bits : Option Bits) (run : Units) (pages : Pages) → SameBits boot bits → PagesOf bits run pages → pages ≡ pages_of boot run
run-pages-are boot None run pages same are = absurd are
run-pages-are boot (Some b) run pages same are =
    pages-same pages (pages_of boot run) (are.0 ∙ same-first boot b run.first same.0 same.1) (are.1 ∙ ap (λ n. run.count * n) (same-pages boot b same.0))

cleared-bit : (inside bit any kept : Bool) → (inside ≡ true → bit ≡ true) → cond inside (bit && any) kept ≡ cond inside any kept
cleared-bit true bit any kept set = ap (λ b. b && any) (set refl)
cleared-bit false bit any kept set = refl

-- the bits after a run was cleared
pub cleared-bits : (boot : Boot) (old new : Option Bits) (pending : ℕ → Bool) (run : Units) (cleared : ℕ) → SameBits boot old → ((unit : ℕ) → in_range run.first run.count unit ≡ true → bits_in old unit ≡ true) → ClearedIn old new pending run cleared → (unit : ℕ) → bits_in new unit ≡ cond (in_range run.first run.count unit) (any_such pending (unit_first boot unit) (unit_pages boot)) (bits_in old unit)
cleared-bits boot None new pending run cleared same set is unit = absurd is
cleared-bits boot (Some old) None pending run cleared same set is unit = absurd is
cleared-bits boot (Some old) (Some new) pending run cleared same set is unit =
    is.bits.each unit ∙ cleared-bit (in_range run.first run.count unit) (bit_of old.bits unit) _ _ (set unit)
    ∙ ap (λ any. cond (in_range run.first run.count unit) any (bit_of old.bits unit))
    (ap (λ f. any_such pending f (unit_pages_of old)) (same-first boot old unit same.0 same.1) ∙ ap (any_such pending (unit_first boot unit)) (same-pages boot old same.0))

-- and how many they are
pub cleared-count : (boot : Boot) (old new : Option Bits) (pending : ℕ → Bool) (run : Units) (cleared : ℕ) → SameBits boot old → ClearedIn old new pending run cleared → cleared ≡ count_such (λ unit. not (any_such pending (unit_first boot unit) (unit_pages boot))) run.first run.count
cleared-count boot None new pending run cleared same is = absurd is
cleared-count boot (Some old) None pending run cleared same is = absurd is
cleared-count boot (Some old) (Some new) pending run cleared same is =
    is.count
    ∙ count_such_same _ _ run.first run.count (record {
      same = λ unit low high. ap not (ap (λ f. any_such pending f (unit_pages_of old)) (same-first boot old unit same.0 same.1) ∙ ap (any_such pending (unit_first boot unit)) (same-pages boot old same.0));
    })

pub cleared-same : (boot : Boot) (old new : Option Bits) (pending : ℕ → Bool) (run : Units) (cleared : ℕ) → SameBits boot old → ClearedIn old new pending run cleared → SameBits boot new
cleared-same boot None new pending run cleared same is = absurd is
cleared-same boot (Some old) None pending run cleared same is = absurd is
cleared-same boot (Some old) (Some new) pending run cleared same is = (is.unit ∙ same.0, is.base ∙ same.1, is.bits.size ∙ same.2)

-- ---- guarded units

no-units : (size base end len : ℕ) → units_between size (max end base - base) (min len (0 * size)) ≡ None
no-units size base end len = (let no : nat_lt (max end base - base) (min len (0 * size)) ≡ false = grind arith in ap (λ b. cond b (Some (let u : Units = record { first = (max end base - base) / size; count = (min len (0 * size) + size - 1) / size - (max end base - base) / size } in u)) None) no)

both-none : {A : Type 0} (b : Bool) (o : Option A) → o ≡ None → cond b None o ≡ None
both-none true o h = refl
both-none false o h = h

guarded-none : (size base start len : ℕ) → guarded size base 0 start len ≡ None
unfolding guarded
guarded-none size base start len = both-none (nat_lt (start + len) base) _ (no-units size base start (with_guard size (start + len - base)))

-- the guarded units of a range are the definition's
pub guarded-same : (boot : Boot) (bits : Option Bits) (start len : ℕ) → SameBits boot bits → guarded_by bits start len ≡ guarded_units boot start len
guarded-same boot None start len same = sym (ap (λ (bs : List ℕ). guarded boot.unit boot.base (unit_count bs) start len) same ∙ guarded-none boot.unit boot.base start len)
guarded-same boot (Some b) start len same =
    ap (λ u. guarded u b.base (unit_count b.bits) start len) same.0
    ∙ ap (λ a. guarded boot.unit a (unit_count b.bits) start len) same.1
    ∙ ap (λ n. guarded boot.unit boot.base (8 * n) start len) same.2

-- also of a block
pub block-units-same : (boot : Boot) (bits : Option Bits) (block : Option Block) → SameBits boot bits
    → option_and_then (λ (b : Block). guarded_by bits (4096 * b.first) (4096 * 2 ^ b.order)) block ≡ option_and_then (block_units boot) block
block-units-same boot bits None same = refl
block-units-same boot bits (Some b) same = guarded-same boot bits (4096 * b.first) (4096 * 2 ^ b.order) same

-- so is the first run of unaccepted units
pub run-same : (boot : Boot) (entries : List Entry) (set : ℕ → Bool) (units : Option Units) → ((unit : ℕ) → set unit ≡ bit_after boot (calls_of boot entries) unit) → option_and_then (λ (u : Units). first_run set u.first (u.first + u.count)) units ≡ run_of_claim boot entries units
run-same boot entries set None bits = refl
run-same boot entries set (Some u) bits = first_run-same set (bit_after boot (calls_of boot entries)) u.first (u.first + u.count) (λ unit low high. bits unit)

-- and whether there is an unaccepted unit
pub any-same : (boot : Boot) (entries : List Entry) (set : ℕ → Bool) (units : Option Units) → ((unit : ℕ) → set unit ≡ bit_after boot (calls_of boot entries) unit) → any_in set units ≡ some_unaccepted boot entries units
unfolding some_unaccepted
any-same boot entries set None bits = refl
any-same boot entries set (Some u) bits = any_such_same set (bit_after boot (calls_of boot entries)) u.first u.count (record { same = λ unit low high. bits unit })

-- as many units are unaccepted by the kept bitmap as by the definition
pub count-same : (boot : Boot) (entries : List Entry) (test : ℕ → Bool) (units : Option Units) → ((unit : ℕ) → test unit ≡ bit_after boot (calls_of boot entries) unit)
    → option_map_or (λ (u : Units). count_such test u.first u.count) units 0 ≡ unaccepted_count boot entries units
count-same boot entries test None same = refl
count-same boot entries test (Some u) same = count_such_same test (bit_after boot (calls_of boot entries)) u.first u.count (record { same = λ unit low high. same unit })
