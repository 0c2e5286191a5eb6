use Rattle.std.proofs.Common.{◌≡◌, ℕ, zero, suc, ◌*◌, ◌^◌, ◌≤◌, Bool, true, false, Option, None, Some, List, [], ◌∷◌, refl, sym, ◌∙◌, ap, subst, arith, length, append-nil}
use Rattle.std.specs.Prelude.{sum_by, slice_index_or, replicate, map, ◌/◌, ◌%◌, ◌==◌, nat_lt, Vec}
use Rattle.std.specs.declared.alloc.Global.{Global}
use Rattle.std.specs.List.{AllByRecursion}
use Rattle.std.proofs.lemmas.List.Sums.{sum_by-cons}
use Rattle.std.proofs.Math.Nat.{mul-mod_left}
use Rattle.guest_base.specs.declared.memory.HostRun.{HostRun}
use Rattle.guest_base.specs.declared.memory.PageState.TheVariants.{Pending}
use Rattle.guest_base.proofs.SearchLemmas.{any_such-true, any_such_is}
use Rattle.event_core.specs.declared.boot.Boot.{Boot}
use Rattle.event_core.specs.declared.boot.Descriptor.{Descriptor}
use Rattle.event_core.specs.declared.entry.Entry.{Entry}
use Rattle.event_core.specs.declared.module_call.ModuleCall.{ModuleCall}
use Rattle.event_core.specs.Boot.{Uncalled}
use Rattle.event_core.specs.Calls.{calls_of, SoundCalls}
use Rattle.event_core.specs.Claims.{Claimed, claim_of}
use Rattle.event_core.specs.Given.{FitsGiven, unit_by, base_by}
use Rattle.event_core.specs.Legal.{ComesBefore}
use Rattle.event_core.specs.Locally.{Rising}
use Rattle.event_core.specs.Map.{MapRules}
use Rattle.event_core.specs.MemoryRows.{page_state}
use Rattle.event_core.specs.Runs.{state_in as first_state_of}
use Rattle.event_core.specs.Stub.{default_unit, least_start, unaccepted}
use Rattle.event_core.specs.Table.{Bits, is_unit}
use Rattle.event_core.specs.Units.{bit_of, bit_after, is_marked, unit_count, unit_first, unit_pages}
use Rattle.event_core.proofs.RisingLemmas.{pairs-nil}
use Rattle.event_core.proofs.BootFacts.{unit-size, IsSize, TakesNone, set-pending, ram-low, boot-marks, boot-takes-none}
use Rattle.event_laws.specs.Coming.{BootMade}
use Rattle.page_module.specs.States.{state_in}
use Rattle.page_module.specs.Tables.{Table, is_out}
use Rattle.page_module.specs.declared.ticket.Ticket.{Ticket}
use Rattle.block_allocator.specs.State.{State}
use Rattle.accepting_ranges.specs.Claims.{kept_of}
use Rattle.memory_core.specs.Answers.{GivesTable, NoneOpen}
use Rattle.memory_core.specs.Value.{Handed, MemoryValue}
use Rattle.memory_core.proofs.BegunLemmas.{seen}
use Rattle.memory_core.specs.Bitmaps.{bits_in, BitsAfter}
use Rattle.memory_core.specs.Away.{WaitingFalls}
use Rattle.memory_core.specs.KeptBlocks.{BlocksAfter, flights_of}
use Rattle.memory_core.specs.Settled.{Settled}
use Rattle.memory_core.specs.Booted.{IsBooted, UnitsAreRam}
use Rattle.memory_core.specs.Steps.{last_stamp, IsInTable}
use Rattle.memory_core.specs.StandsFor.{StandsFor, HoldsFor, ClaimStands, spans_of, reports_of, handed_for}
use Rattle.memory_core.specs.declared.claims.OpenClaim.{OpenClaim}
use Rattle.memory_core.proofs.HoldsLemmas.{stands-none, none-kept}
use Rattle.memory_core.proofs.BlockStepLemmas.{falls-first}
use Rattle.memory_core.proofs.SettledLemmas.{settled-first}
use Rattle.memory_core.proofs.OpenLemmas.{handed-is}
use Rattle.memory_core.proofs.RunLemmas.{bit-less}

sum-none : (f : Option OpenClaim → ℕ) (claims : List (Option OpenClaim)) → f None ≡ 0 → ((cpu : ℕ) → kept_of claims cpu ≡ None) → sum_by f claims ≡ 0
sum-none f [] zero_at none = refl
sum-none f (k ∷ claims) zero_at none =
    let first : f k ≡ 0 = ap f (none 0) ∙ zero_at in
    let rest = sum-none f claims zero_at (λ cpu. none (suc cpu)) in
    sum_by-cons f k claims ∙ omega (arith, first, rest)

-- where nothing is kept nothing is out
pub no-spans : (claims : List (Option OpenClaim)) → ((cpu : ℕ) → kept_of claims cpu ≡ None) → sum_by spans_of claims ≡ 0
no-spans claims none = sum-none spans_of claims refl none

pub empty : {A : Type 0} (xs : List A) → length xs ≡ 0 → xs ≡ []
empty [] h = refl
empty (x ∷ xs) h = absurd (omega (arith, h))

-- no claim is kept in empty places
pub none-in : (count cpu : ℕ) → kept_of (let places : List (Option OpenClaim) = replicate count None in places) cpu ≡ None
none-in zero zero = refl
none-in zero (suc cpu) = refl
none-in (suc count) zero = refl
none-in (suc count) (suc cpu) = none-in count cpu

pub none-at-first : (claims : List (Option OpenClaim)) → claims ≡ replicate 64 None → (cpu : ℕ) → kept_of claims cpu ≡ None
none-at-first claims is cpu = ap (λ cs. kept_of cs cpu) is ∙ none-in 64 cpu

pub new-out : (claims : List (Option OpenClaim)) → claims ≡ replicate 64 None → (cpu : ℕ) → slice_index_or (map handed_for claims) cpu None ≡ None
new-out claims is cpu = handed-is claims cpu ∙ ap handed_for (none-at-first claims is cpu)

-- what is out with a processor is out of the table
handed-out : (boot : Boot) (bit : ℕ → Bool) (tickets : List Ticket) (k : Option OpenClaim) (c : Option Claimed) (handed : Handed) → handed_for k ≡ Some handed → ClaimStands boot bit tickets k c → is_out tickets handed.ticket ≡ true
handed-out boot bit tickets None c handed is stands = cc
handed-out boot bit tickets (Some k) None handed is stands = absurd stands
handed-out boot bit tickets (Some k) (Some claim) handed is stands =
    let made : Handed = record { ticket = k.ticket; room = k.room } in
    let same : made ≡ handed = (let both : Some made ≡ Some handed = is in cc) in
    ap (λ (h : Handed). is_out tickets h.ticket) (sym same) ∙ stands.out

no-claim : (boot : Boot) (entries : List Entry) → entries ≡ [] → (cpu : ℕ) → claim_of boot entries cpu ≡ None
unfolding claim_of
no-claim boot entries is cpu = ap (λ es. claim_of boot es cpu) is

second_of_two : (b c : Bool) → elim b as (λ _. Bool) [ true ↦ c | false ↦ false ] ≡ true → c ≡ true
second_of_two true c h = h
second_of_two false c h = cc

-- a unit is one that a table may have, and the first one begins on a unit's border
unit-right : (map : List Descriptor) (table : Option Bits) → FitsGiven map table → is_unit (unit_by table) ≡ true
unit-right map None fits = any_such_is (λ order. default_unit == 4096 * 2 ^ order) 0 10 9 (omega arith) (omega arith) refl
unit-right map (Some table) fits = fits.is_table.unit_is

base-right : (map : List Descriptor) (table : Option Bits) → FitsGiven map table → base_by map table % unit_by table ≡ 0
base-right map None fits = mul-mod_left (least_start (unaccepted map) / default_unit) default_unit
base-right map (Some table) fits = fits.is_table.aligned

pub booted : (map : List Descriptor) (hosts : List HostRun) (table : Option Bits) (slots areas cpus : ℕ) (boot : Boot) → MapRules map hosts → FitsGiven map table → Uncalled map hosts table slots areas cpus boot → boot.cpus ≤ 64 → IsBooted boot
booted map hosts table slots areas cpus boot rules fits plain few =
    let size = subst (λ u. IsSize (u / 4096)) (sym plain.unit) (unit-size map table fits) in
    record {
      pending = set-pending map hosts table slots areas cpus boot rules fits plain;
      low = ram-low map hosts table slots areas cpus boot rules plain;
      some = size.some;
      small = size.small;
      unit_is = ap is_unit plain.unit ∙ unit-right map table fits;
      aligned = ap (λ u. boot.base % u) plain.unit ∙ ap (λ b. b % unit_by table) plain.base ∙ base-right map table fits;
      cpus = few;
    }

-- a bit that is set after boot's calls was set at first
first-set : (boot : Boot) (unit : ℕ) → bit_after boot [] unit ≡ true → bit_of boot.bits unit ≡ true
unfolding bit_after
first-set boot unit h =
    (any_such-true (λ page. bit_of boot.bits unit) (unit_first boot unit) (unit_pages boot) (second_of_two (nat_lt unit (unit_count boot.bits)) _ h)).1.passes

pub boot-set : (boot : Boot) (calls : List ModuleCall) (unit : ℕ) → AllByRecursion TakesNone calls → bit_after boot calls unit ≡ true → bit_of boot.bits unit ≡ true
boot-set boot calls unit none h = first-set boot unit (bit-less boot [] calls unit none h)

-- so the pages of unaccepted units are RAM
pub ram-first : (boot : Boot) (calls : List ModuleCall) → IsBooted boot → AllByRecursion TakesNone calls → UnitsAreRam boot calls
ram-first boot calls begun none unit page set inside is =
    let no : Some Pending ≡ None = sym (begun.pending unit page (boot-set boot calls unit none set) inside) ∙ is in
    cc

-- the memory of a boot
pub new-stands : (boot value : Boot) (entries : Vec Entry Global) (table : Table) (bits : Option Bits) (claims : List (Option OpenClaim)) (blocks : State)
    → value ≡ boot → BootMade boot → SoundCalls (first_state_of boot.ram) boot.calls → boot.cpus ≤ 64
    → ((page : ℕ) → state_in table.runs page ≡ page_state boot boot.calls page) → table.out ≡ [] → BitsAfter boot boot.calls bits → BlocksAfter boot [] blocks
    → claims ≡ replicate 64 None → entries.items ≡ []
    → StandsFor value entries 0 table bits claims blocks (boot.unit / 4096) 0 0
new-stands boot value entries table bits claims blocks same made sound few states none_out after blocks_are free none =
    let calls : calls_of boot entries.items ≡ boot.calls = ap (calls_of boot) none ∙ append-nil boot.calls in
    let none_kept = none-at-first claims free in
    let reports = sum-none reports_of claims refl none_kept in
    let flights = sum-none flights_of claims refl none_kept in
    let long = ap (λ (es : List Entry). length es) none in
    let begun = booted made.descriptors made.hosts made.table made.slots made.areas made.cpus boot made.rules made.fits made.right.uncalled few in
    let takes = boot-takes-none made.descriptors made.hosts made.table made.slots made.areas made.cpus boot made.right in
    let P : List ModuleCall → Type 0 = λ cs. HoldsFor boot cs (claim_of boot entries.items) table.runs table.out (bits_in bits) (kept_of claims) in
    let Q : Boot → Type 0 = λ b. StandsFor b entries 0 table bits claims blocks (boot.unit / 4096) 0 0 in
    subst Q (sym same)
    (record {
      booted = begun;
      holds = subst P (sym calls)
          (record {
            bits = after.set;
            marks = λ unit page set inside.
                (let was = boot-set boot boot.calls unit takes set in
                ap (λ b. is_marked b boot.calls page) was ∙ boot-marks made.descriptors made.hosts made.table made.slots made.areas made.cpus boot made.rules made.fits made.right sound unit page was inside);
            ram = ram-first boot boot.calls begun takes;
            states = λ page inside. states page;
            away = λ cpu claim page is. let no : None ≡ Some claim = sym (no-claim boot entries.items none cpu) ∙ is in cc;
            open_claims = λ cpu. stands-none boot (bits_in bits) table.out (kept_of claims cpu) (claim_of boot entries.items cpu) (none_kept cpu) (no-claim boot entries.items none cpu);
            apart = λ c d a b differ is_a is_b. let no : None ≡ Some a = sym (no-claim boot entries.items none c) ∙ is_a in cc;
          });
      same_bits = after.same;
      last_is = sym (ap last_stamp none);
      places = ap (λ (cs : List (Option OpenClaim)). length cs) free;
      cpus = λ cpu claim is. (let no : None ≡ Some claim = sym (none_kept cpu) ∙ is in cc);
      spans = ap (λ (ts : List Ticket). length ts) none_out ∙ sym (no-spans claims none_kept);
      pages_are = refl;
      reports = sym reports;
      entry_room = omega (arith, long);
      table_room = omega arith;
      stamps = omega arith;
      steady = record {
        rising = subst Rising (sym none) (pairs-nil ComesBefore);
        runs_keep = λ cpu claim before rest page is. (let no : None ≡ Some claim = sym (no-claim boot entries.items none cpu) ∙ is in cc);
        waiting = subst (WaitingFalls boot) (sym none) (falls-first boot);
      };
      settled = subst (Settled boot) (sym none) (settled-first boot made);
      blocks_are = (let B : List Entry → Type 0 = λ es. BlocksAfter boot es blocks in subst B (sym none) blocks_are);
      block_room = record { claimed = omega (arith, flights); step = λ some. absurd (omega (arith, some)) };
    })

-- the table of a memory that stands for its entries
pub gives-table : (boot : Boot) (entries : Vec Entry Global) (last : ℕ) (table : Table) (bits : Option Bits) (claims : List (Option OpenClaim)) (blocks : State) (pages kept room : ℕ) → StandsFor boot entries last table bits claims blocks pages kept room → GivesTable (seen boot entries.items claims room) table
gives-table boot entries last table bits claims blocks pages kept room s = record {
  states = s.holds.states;
  away = s.holds.away;
  out = λ cpu handed is. handed-out boot (bits_in bits) table.out (kept_of claims cpu) (claim_of boot entries.items cpu) handed (sym (handed-is claims cpu) ∙ is) (s.holds.open_claims cpu);
  none = λ none. empty table.out (s.spans ∙ no-spans claims (λ cpu. none-kept boot (bits_in bits) table.out (kept_of claims cpu) (claim_of boot entries.items cpu) (none cpu) (s.holds.open_claims cpu)));
}

-- where no claim is open, every page is in the table
pub all-in : (memory : MemoryValue) → NoneOpen memory → (page : ℕ) → IsInTable memory.boot (claim_of memory.boot memory.entries) page
all-in memory none page cpu claim is = let no : None ≡ Some claim = sym (none cpu) ∙ is in cc
