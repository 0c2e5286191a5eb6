use Rattle.std.proofs.Common.{◌≡◌, ℕ, suc, get_or, ◌+◌, ◌*◌, ◌/◌, ◌%◌, ◌^◌, ◌<◌, ◌≤◌, Bool, true, false, ◌&&◌, Option, None, Some, List, [], ◌∷◌, refl, sym, ◌∙◌, ap, subst, inl, inr, arith, length, map, cond, eq-eqb, ne_eqb, ◌-◌}
use Rattle.std.specs.Prelude.{All, AllPairs, nat_lt, slice_index, ◌==◌}
use Rattle.std.specs.Int.{bit_at, IsPowerOfTwo}
use Rattle.std.specs.List.{AllByRecursion, flat_map}
use Rattle.std.proofs.lemmas.Bool.{cases_Bool}
use Rattle.std.proofs.lemmas.List.Elements.{recursion_from_All}
use Rattle.guest_base.specs.Ranges.{in_range}
use Rattle.guest_base.specs.Requests.{raised_slots}
use Rattle.guest_base.proofs.RangeLemmas.{in_range-intro}
use Rattle.dma_map.specs.declared.pool.Layout.{Layout}
use Rattle.guest_base.specs.Search.{any_such}
use Rattle.guest_base.proofs.SearchLemmas.{any_such_is, any_such_none}
use Rattle.guest_base.specs.declared.memory.Pages.{Pages}
use Rattle.guest_base.specs.declared.memory.PageRun.{PageRun}
use Rattle.guest_base.specs.declared.memory.HostRun.{HostRun}
use Rattle.event_core.specs.declared.boot.Descriptor.{Descriptor}
use Rattle.event_core.specs.declared.boot.Boot.{Boot}
use Rattle.event_core.specs.Cut.{cut, blocks_of, ram_ranges, without_pool}
use Rattle.event_core.specs.Map.{MapRules}
use Rattle.event_core.specs.Given.{first_by, unit_by, base_by, length_by, bit_by}
use Rattle.event_core.specs.MemoryRows.{is_pending}
use Rattle.event_core.specs.Runs.{AreMaximalRuns, GoesBefore, run_end}
use Rattle.event_core.specs.Stub.{default_unit, unaccepted, round_down, least_start, stub_base}
use Rattle.event_core.specs.Units.{bit_of, bit_after, unit_count, unit_first, unit_pages}
use Rattle.event_core.proofs.MapLemmas.{pending_first}
use Rattle.event_core.proofs.BootFacts.{set-unit, states-low}
use Rattle.event_core.proofs.EarlyLemmas.{pairs-tail, all-apart, early-held, unaccepted-each, unaccepted-apart}
use Rattle.event_core.specs.Boot.{IsPoolPlace, PoolPlaced, Uncalled}
use Rattle.page_module.specs.States.{state_in}
use Rattle.page_module.specs.Tables.{Rising}
use Rattle.event_core.specs.Table.{Bits}
use Rattle.unaccepted_bitmap.specs.StubMap.{StubBitmap, EarlyRuns, pending_run}
use Rattle.memory_core.specs.Bitmaps.{bits_in, SameBits}
use Rattle.memory_core.specs.Booted.{IsBooted}
use Rattle.guest_boot.specs.Booting.{StandsAfter, IsEarly, LieInMemory}
use Rattle.guest_boot.specs.Placing.{LayoutIn}
use Rattle.guest_boot.specs.Starting.{IsFirstBoot, BitsOf, BitmapBy, EarlyRunsBy}
use Rattle.guest_boot.specs.declared.accept.Kept.{Kept}
use Rattle.guest_boot.proofs.CutLemmas.{runs-low}
use Rattle.guest_boot.proofs.PlaceLemmas.{place-is}
use Rattle.guest_boot.proofs.SlotLemmas.{pages-some}
use Rattle.guest_boot.proofs.EarlyLemmas.{early-at}

-- What a guest is before boot's first call.

-- ---- RAM

pub ram-ends : (map : List Descriptor) (hosts : List HostRun) (table : Option Bits) (ram : List PageRun) → MapRules map hosts → AreMaximalRuns (first_by map table) ram → All (λ (run : PageRun). run_end run ≤ 2 ^ 28) ram
ram-ends map hosts table ram rules maximal = runs-low (2 ^ 28) (first_by map table) ram maximal (states-low map hosts table rules)

behind-first : (run : PageRun) (runs : List PageRun) → AllPairs GoesBefore (run ∷ runs) → AllByRecursion (λ (r : PageRun). run_end run ≤ r.pages.first) runs
behind-first run runs pairs = recursion_from_All (λ (r : PageRun). run_end run ≤ r.pages.first) runs (λ k d low. (pairs 0 (suc k) d (omega arith) (omega arith)).ends)

rising-of : (from : ℕ) (runs : List PageRun) → AllByRecursion (λ (run : PageRun). 0 < run.pages.count) runs → AllByRecursion (λ (run : PageRun). run_end run ≤ 2 ^ 28) runs → AllPairs GoesBefore runs → AllByRecursion (λ (run : PageRun). from ≤ run.pages.first) runs → Rising from runs
rising-of from [] some ends pairs low = tt
rising-of from (run ∷ runs) some ends pairs low = (low.0, some.0, ends.0, rising-of (run_end run) runs some.1 ends.1 (pairs-tail GoesBefore run runs pairs) (behind-first run runs pairs))

from_zero : (runs : List PageRun) → AllByRecursion (λ (run : PageRun). 0 ≤ run.pages.first) runs
from_zero [] = tt
from_zero (run ∷ runs) = (omega arith, from_zero runs)

pub ram-rises : (map : List Descriptor) (hosts : List HostRun) (table : Option Bits) (ram : List PageRun) → MapRules map hosts → AreMaximalRuns (first_by map table) ram → Rising 0 ram
ram-rises map hosts table ram rules maximal =
    rising-of 0 ram (recursion_from_All (λ (run : PageRun). 0 < run.pages.count) ram maximal.some)
    (recursion_from_All (λ (run : PageRun). run_end run ≤ 2 ^ 28) ram (ram-ends map hosts table ram rules maximal)) maximal.rise (from_zero ram)

-- ---- the bits

no_bit : (bits : List ℕ) (unit : ℕ) → bits ≡ [] → bit_of bits unit ≡ false
no_bit bits unit none = (let out : nat_lt unit (8 * 0) ≡ false = grind arith in ap (λ (bs : List ℕ). bit_of bs unit) none ∙ ap (λ b. b && (bit_at (slice_index [] (unit / 8)) (unit % 8) == 1)) out)

first-set : (boot : Boot) (bits : Option Bits) (unit : ℕ) → BitsOf boot bits → bits_in bits unit ≡ bit_of boot.bits unit
first-set boot None unit same = sym (no_bit boot.bits unit same.2)
first-set boot (Some b) unit same = sym (ap (λ (bs : List ℕ). bit_of bs unit) same.2)

first-same : (boot : Boot) (bits : Option Bits) → BitsOf boot bits → SameBits boot bits
first-same boot None same = same.2
first-same boot (Some b) same = (sym same.0, sym same.1, ap length (sym same.2))

marked-any : (first count : ℕ) → 0 < count → any_such (λ page. true) first count ≡ true
marked-any first count some = any_such_is (λ page. true) first count first (omega arith) (omega arith) refl

marked-none : (first count : ℕ) → any_such (λ page. false) first count ≡ false
marked-none first count = any_such_none (λ page. false) first count (record { fails = λ n low high. refl })

any-same : (b : Bool) (first count : ℕ) → 0 < count → any_such (λ page. b) first count ≡ b
any-same true first count some = marked-any first count some
any-same false first count some = marked-none first count

no-unit : (b c : Bool) → b ≡ false → (b && c) ≡ false
no-unit false c h = refl
no-unit true c h = cc

-- a unit's bit, by whether the unit is one of the bitmap's
abbrev bit-by : Boot → ℕ → Bool → Bool
bit-by boot unit b = elim b as (λ _. Bool) [ true ↦ any_such (λ page. bit_of boot.bits unit) (unit_first boot unit) (unit_pages boot) | false ↦ false ]

first-bit : (boot : Boot) (unit : ℕ) → 0 < unit_pages boot → bit_after boot [] unit ≡ bit_of boot.bits unit
unfolding bit_after
first-bit boot unit some = elim (cases_Bool (nat_lt unit (unit_count boot.bits))) [
  | inl t ↦ ap (bit-by boot unit) t ∙ any-same (bit_of boot.bits unit) (unit_first boot unit) (unit_pages boot) some
  | inr f ↦ ap (bit-by boot unit) f ∙ sym (no-unit (nat_lt unit (unit_count boot.bits)) _ f)
]

-- ---- a boot without its calls

early-stub : (map : List Descriptor) (hosts : List HostRun) (slots areas cpus : ℕ) (boot : Boot) (runs : List PageRun) → MapRules map hosts → Uncalled map hosts None slots areas cpus boot → EarlyRuns map runs → All (λ (piece : PageRun). IsEarly boot piece.pages) runs
early-stub map hosts slots areas cpus boot runs rules plain early k d within = record {
  pending = λ page inside. plain.ram.each page ∙ pending_first map page (early-held page map rules.each (early-at map runs k d page early within inside));
  apart = λ unit page set in_unit.
      elim (cases_Bool (in_range (get_or runs k d).pages.first (get_or runs k d).pages.count page)) [
        | inr f ↦ f
        | inl t ↦
            (let u = set-unit map hosts slots areas cpus boot plain unit page set in_unit in
            absurd (all-apart (stub_base map + unit * default_unit) page (unaccepted map) (unaccepted-each map rules.each) (unaccepted-apart map rules.apart) u.1 u.0 (early-at map runs k d page early within t)))
      ];
}

none-early : (boot : Boot) (runs : List PageRun) → runs ≡ [] → All (λ (piece : PageRun). IsEarly boot piece.pages) runs
none-early boot runs none k d within = absurd (omega (arith, within, ap (λ (rs : List PageRun). length rs) none))

-- the pieces are early ones; where a table is given there are none
pub early-each : (descriptors : List Descriptor) (hosts : List HostRun) (table : Option Bits) (slots areas cpus : ℕ) (boot : Boot) (runs : List PageRun) → MapRules descriptors hosts → Uncalled descriptors hosts table slots areas cpus boot → EarlyRunsBy descriptors table runs → All (λ (piece : PageRun). IsEarly boot piece.pages) runs
early-each descriptors hosts None slots areas cpus boot runs rules plain early = early-stub descriptors hosts slots areas cpus boot runs rules plain (record { pieces = early.pieces; early = early.early; are = early.are })
early-each descriptors hosts (Some table) slots areas cpus boot runs rules plain early = none-early boot runs (early.are ∙ ap (λ ps. map pending_run ps) early.early)

-- what is kept before the first call
pub first-stands : (boot : Boot) (kept : Kept) → IsBooted boot → ((page : ℕ) → state_in kept.table.runs page ≡ state_in boot.ram page) → kept.table.out ≡ [] → BitsOf boot kept.bits → kept.calls.items ≡ [] → StandsAfter boot [] kept
first-stands boot kept booted states out bits calls = record {
  states = states;
  none_out = out;
  bits = record { same = first-same boot kept.bits bits; set = λ unit. first-set boot kept.bits unit bits ∙ sym (first-bit boot unit booted.some) };
  marks = λ unit page set inside. (let was = sym (first-bit boot unit booted.some) ∙ set in was ∙ sym (ap is_pending (booted.pending unit page was inside)));
  held = λ unit set. sym (first-bit boot unit booted.some) ∙ set;
  sound = tt;
  calls = calls;
}

-- the recorded bitmap is that of the table, or of the boot stub
pub record Marked (map : List Descriptor) (table : Option Bits) (boot : Boot) : Type 0 where
  pub unit : boot.unit ≡ unit_by table
  pub base : boot.base ≡ base_by map table
  pub size : length boot.bits ≡ length_by map table
  pub bits : (unit : ℕ) → unit < unit_count boot.bits → bit_of boot.bits unit ≡ bit_by map table unit

stub-marked : (map : List Descriptor) (boot : Boot) (o : Option Bits) → StubBitmap map o → BitsOf boot o → Marked map None boot
stub-marked map boot (Some b) stub same = record {
  unit = same.0 ∙ stub.unit;
  base = same.1 ∙ stub.base;
  size = ap (λ (bs : List ℕ). length bs) same.2 ∙ stub.size;
  bits = λ k lt. ap (λ bs. bit_of bs k) same.2 ∙ stub.each k;
}
stub-marked map boot None stub same = record {
  unit = same.0;
  base = same.1 ∙ sym (ap (λ ds. round_down default_unit (least_start ds)) stub);
  size = rw same.2 (rw stub refl);
  bits = λ k lt. absurd (omega (arith, lt, ap (λ (bs : List ℕ). length bs) same.2));
}

table-marked : (map : List Descriptor) (boot : Boot) (table : Bits) → BitsOf boot (Some table) → Marked map (Some table) boot
table-marked map boot table same = record {
  unit = same.0;
  base = same.1;
  size = ap (λ (bs : List ℕ). length bs) same.2;
  bits = λ k lt. ap (λ bs. bit_of bs k) same.2;
}

marked : (map : List Descriptor) (table : Option Bits) (boot : Boot) (o : Option Bits) → BitmapBy map table o → BitsOf boot o → Marked map table boot
marked map None boot o by same = stub-marked map boot o by same
marked map (Some table) boot o by same = table-marked map boot table (subst (BitsOf boot) by same)

-- the slots are raised, and the pool stands at its place
record Placed (slots areas : ℕ) (boot : Boot) : Type 0 where
  pub raised : boot.slots ≡ cond (slots == 0) 0 (raised_slots slots areas)
  pub pool : PoolPlaced boot boot.pool

placed : (hosts : List HostRun) (slots areas cpus : ℕ) (ram : List PageRun) (bits : Option Bits) (layout : Option Layout) (boot : Boot) → AllPairs GoesBefore ram → IsPowerOfTwo areas → LayoutIn (ram_ranges ram) slots areas layout → IsFirstBoot hosts areas cpus ram bits layout boot → Placed slots areas boot
placed hosts slots areas cpus ram bits None boot rise power is first = record {
  raised = first.slots ∙ sym (ap (λ b. cond b 0 (raised_slots slots areas)) (eq-eqb slots 0 is));
  pool = subst (PoolPlaced boot) (sym first.pool) first.slots;
}
placed hosts slots areas cpus ram bits (Some l) boot rise power is first =
    let slots_are : boot.slots ≡ raised_slots slots areas = first.slots ∙ is.raised in
    let some = pages-some slots areas power in
    let at = place-is boot ram (raised_slots slots areas / 2) l.pool first.ram rise some is.place in
    record {
      raised = slots_are ∙ sym (ap (λ b. cond b 0 (raised_slots slots areas)) (ne_eqb slots 0 is.asked));
      pool = subst (PoolPlaced boot) (sym first.pool) (
        (λ none. omega (arith, none, slots_are, some)),
        subst (λ n. IsPoolPlace boot (n / 2) l.pool) (sym slots_are) at,
      );
    }

pub uncalled : (map : List Descriptor) (hosts : List HostRun) (table : Option Bits) (slots areas cpus : ℕ) (ram : List PageRun) (bits : Option Bits) (layout : Option Layout) (boot : Boot) → AreMaximalRuns (first_by map table) ram → BitmapBy map table bits → IsPowerOfTwo areas → LayoutIn (ram_ranges ram) slots areas layout → IsFirstBoot hosts areas cpus ram bits layout boot → Uncalled map hosts table slots areas cpus boot
uncalled map hosts table slots areas cpus ram bits layout boot maximal by power is first =
    let mark = marked map table boot bits by first.bitmap in
    let at = placed hosts slots areas cpus ram bits layout boot maximal.rise power is first in
    record {
      ram = subst (λ runs. AreMaximalRuns (first_by map table) runs) (sym first.ram) maximal;
      same_hosts = first.same_hosts;
      unit = mark.unit;
      base = mark.base;
      bitmap = mark.size;
      bits = mark.bits;
      same_cpus = first.same_cpus;
      same_areas = first.same_areas;
      raised = at.raised;
      pool = at.pool;
    }

-- ---- the stages

pub cut-is : (boot : Boot) (ram : List PageRun) (pool : Option Pages) → boot.pool ≡ pool → boot.ram ≡ ram → flat_map blocks_of (flat_map (without_pool pool) (ram_ranges ram)) ≡ cut boot
unfolding cut
cut-is boot ram pool own is =
    ap (λ rs. flat_map blocks_of (flat_map (without_pool pool) (ram_ranges rs))) (sym is)
    ∙ ap (λ p. flat_map blocks_of (flat_map (without_pool p) (ram_ranges boot.ram))) (sym own)

-- the pages of the pool end within memory
pub pool-lies : (boot : Boot) (pool : Pages) → IsBooted boot → PoolPlaced boot (Some pool) → 2 ≤ boot.slots → LieInMemory pool
pool-lies boot pool booted placed some =
    let count = placed.1.pages in
    let last : ℕ = pool.first + pool.count - 1 in
    let is = booted.low last (placed.1.room last (in_range-intro pool.first (boot.slots / 2) last (omega (arith, count, some)) (omega (arith, count, some)))) in
    record { some = omega (arith, count, some); end = omega (arith, is, count, some) }
