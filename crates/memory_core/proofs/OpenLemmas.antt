use Rattle.std.proofs.Common.{◌≡◌, ◌≢◌, ℕ, ◌+◌, ◌-◌, ◌*◌, ◌<◌, ◌≤◌, Bool, true, false, Option, None, Some, List, refl, sym, ◌∙◌, ap, subst, inl, inr, arith, cond, length, max, min}
use Rattle.std.specs.Prelude.{slice_set, slice_index_or, map, Vec}
use Rattle.std.specs.declared.alloc.Global.{Global}
use Rattle.std.proofs.Math.ListN.{get_or-map}
use Rattle.std.proofs.lemmas.Bool.{cases_Bool}
use Rattle.std.proofs.lemmas.List.{get_or-set_same, get_or-set_other}
use Rattle.guest_base.proofs.RangeLemmas.{in_range-elim, lt-of}
use Rattle.guest_base.specs.Ranges.{in_range}
use Rattle.guest_base.proofs.SearchLemmas.{first_such_none, first_such_is}
use Rattle.guest_base.specs.declared.memory.Pages.{Pages}
use Rattle.guest_base.specs.declared.memory.PageRun.{PageRun}
use Rattle.guest_base.specs.declared.memory.Units.{Units}
use Rattle.event_core.specs.declared.boot.Boot.{Boot}
use Rattle.event_core.specs.declared.entry.Entry.{Entry}
use Rattle.event_core.specs.declared.module_call.ModuleCall.{ModuleCall}
use Rattle.event_core.specs.Claims.{Claimed, claim_of, claim_meets, in_the_way, units_meet}
use Rattle.event_core.specs.MemoryRows.{page_state, pages_first, pages_count}
use Rattle.event_core.specs.Units.{unit_pages, units_end}
use Rattle.page_module.specs.Spans.{Taken}
use Rattle.page_module.specs.States.{state_in}
use Rattle.page_module.specs.Tables.{Table, run_count}
use Rattle.page_module.proofs.CopyLemmas.{run_count-few}
use Rattle.event_core.specs.Table.{Bits}
use Rattle.block_allocator.specs.State.{State}
use Rattle.accepting_ranges.specs.Claims.{kept_of, Meet, MeetsNone}
use Rattle.memory_core.specs.OpenClaims.{units_of, MeetsNoOther, IsFirstMet}
use Rattle.memory_core.specs.Bitmaps.{bits_in}
use Rattle.memory_core.specs.Steps.{HasStates, pages_of, IsInTable}
use Rattle.memory_core.specs.StandsFor.{StandsFor, pieces_for, handed_for}
use Rattle.memory_core.specs.declared.claims.OpenClaim.{OpenClaim}
use Rattle.memory_core.proofs.ClearLemmas.{nat-cases}
use Rattle.memory_core.proofs.HoldsLemmas.{open-kept, kept-open, other-unit}
use Rattle.memory_core.proofs.UnitsLemmas.{runs-apart}
use Rattle.memory_core.proofs.StepLemmas.{fewer}

-- ---- kept claims and open ones

pub apart-of : (a b : Units) → ¬ Meet a b → units_meet a b ≡ false
apart-of a b apart =
    elim (cases_Bool (units_meet a b)) [
      | inl t ↦
          (let met = lt-of (max a.first b.first) (min (units_end a) (units_end b)) t in
          absurd (apart (max a.first b.first, (omega arith, omega (arith, met)), (omega arith, omega (arith, met)))))
      | inr f ↦ f
    ]

pub met-of : (a b : Units) → Meet a b → units_meet a b ≡ true
met-of a b (unit, in_a, in_b) = grind (arith, in_a.0, in_a.1, in_b.0, in_b.1)

pub meets-swap : (a b : Units) → ¬ Meet a b → ¬ Meet b a
meets-swap a b apart (unit, in_b, in_a) = apart (unit, in_a, in_b)

no_none : {A : Type 0} (o : Option A) (x : A) → o ≡ None → o ≡ Some x → ⊥
no_none o x none some = let no : None ≡ Some x = sym none ∙ some in cc

module _ (boot : Boot) (entries : Vec Entry Global) (last : ℕ) (table : Table) (bits : Option Bits) (claims : List (Option OpenClaim)) (blocks : State) (pages kept room : ℕ) (s : StandsFor boot entries last table bits claims blocks pages kept room) where
  pub open-low : (cpu : ℕ) (claim : Claimed) → claim_of boot entries.items cpu ≡ Some claim → cpu < boot.cpus
  open-low cpu claim is =
      let found = open-kept boot (bits_in bits) table.out (kept_of claims cpu) (claim_of boot entries.items cpu) claim is (s.holds.open_claims cpu) in
      s.cpus cpu found.0 found.1

  -- units that meet no kept claim meet no open one
  before-of : (units : Units) (cpu : ℕ) (claim : Claimed) → ((earlier : OpenClaim) → kept_of claims cpu ≡ Some earlier → ¬ Meet earlier.units units) → claim_of boot entries.items cpu ≡ Some claim → ¬ Meet claim.units units
  before-of units cpu claim none is =
      let found = open-kept boot (bits_in bits) table.out (kept_of claims cpu) (claim_of boot entries.items cpu) claim is (s.holds.open_claims cpu) in
      let P : Units → Type 0 = λ u. ¬ Meet u units in
      subst P found.2.units (none found.0 found.1)

  pub clear-of : (units : Units) → MeetsNone units_of claims units → (cpu : ℕ) (claim : Claimed) → claim_of boot entries.items cpu ≡ Some claim → ¬ Meet claim.units units
  clear-of units none cpu claim is = before-of units cpu claim (none cpu) is

  meets-none : (units : Units) (cpu : ℕ) (claim : Option Claimed) → claim_of boot entries.items cpu ≡ claim → MeetsNone units_of claims units → claim_meets units claim ≡ false
  meets-none units cpu None is none = refl
  meets-none units cpu (Some claim) is none = apart-of claim.units units (clear-of units none cpu claim is)

  pub way-none : (units : Option Units) → MeetsNoOther claims units → in_the_way boot entries.items units ≡ None
  unfolding in_the_way
  way-none None none = refl
  way-none (Some units) none = first_such_none (λ cpu. claim_meets units (claim_of boot entries.items cpu)) 0 boot.cpus (record { fails = λ n low high. meets-none units n (claim_of boot entries.items n) refl none })

  meets-before : (units : Units) (cpu : ℕ) (claim : Option Claimed) → claim_of boot entries.items cpu ≡ claim → ((earlier : OpenClaim) → kept_of claims cpu ≡ Some earlier → ¬ Meet earlier.units units) → claim_meets units claim ≡ false
  meets-before units cpu None is none = refl
  meets-before units cpu (Some claim) is none = apart-of claim.units units (before-of units cpu claim none is)

  pub record MetBy (units : Option Units) (met : Units) : Type 0 where
    pub cpu : ℕ
    pub claim : Claimed
    pub first : in_the_way boot entries.items units ≡ Some cpu
    pub claimed : claim_of boot entries.items cpu ≡ Some claim
    pub same : claim.units ≡ met

  pub way-some : (units : Option Units) (met : Units) → IsFirstMet claims units met → MetBy units met
  unfolding in_the_way
  way-some None met first = absurd first
  way-some (Some units) met first =
      let found = kept-open boot (bits_in bits) table.out (kept_of claims first.cpu) (claim_of boot entries.items first.cpu) first.claim first.held (s.holds.open_claims first.cpu) in
      let same : found.0.units ≡ met = sym found.2.units ∙ first.same in
      let meets : Meet found.0.units units = (let P : Units → Type 0 = λ u. Meet u units in subst P (sym same) first.meets) in
      record {
        cpu = first.cpu;
        claim = found.0;
        first = first_such_is (λ cpu. claim_meets units (claim_of boot entries.items cpu)) 0 boot.cpus first.cpu (record {
          low = omega arith;
          high = omega (arith, open-low first.cpu found.0 found.1);
          passes = ap (claim_meets units) found.1 ∙ met-of found.0.units units meets;
          before = λ n low high. meets-before units n (claim_of boot entries.items n) refl (λ earlier. first.before n earlier high);
        });
        claimed = found.1;
        same = same;
      }

-- ---- room

pub room-take : (up room count few table : ℕ) → 0 < count → count ≤ room → few ≤ count * up → pieces_for up room ≤ table → 2 * few + 2 ≤ table
room-take up room count few table some less fits has =
    let enough : count * (2 * up + 2) ≤ room * (2 * up + 2) = fewer count room (2 * up + 2) less in
    omega (arith, enough, fits, has, some)

pub room-left : (up room count few left ticket table : ℕ) → 0 < count → count ≤ room → left ≡ room - count → few ≤ count * up → pieces_for up room ≤ table → table ≤ ticket + (2 * few + 2) → pieces_for up left ≤ ticket
room-left up room count few left ticket table some less is fits has given =
    let both : left + count ≡ room = omega (arith, less, is) in
    let all : room * (2 * up + 2) ≡ left * (2 * up + 2) + count * (2 * up + 2) = ap (λ n. n * (2 * up + 2)) (sym both) ∙ (let e : (left + count) * (2 * up + 2) ≡ left * (2 * up + 2) + count * (2 * up + 2) = omega arith in e) in
    omega (arith, all, fits, has, given, some)

-- the runs of one state among the pages of a run of units
pub runs-few : (boot : Boot) (run : Units) (runs : List PageRun) (pages : Pages) → pages ≡ pages_of boot run → run_count (state_in runs) pages ≤ run.count * unit_pages boot
runs-few boot run runs pages is = let few = run_count-few (state_in runs) pages in let size : pages.count ≡ run.count * unit_pages boot = ap (λ (p : Pages). p.count) is in omega (arith, few, size)

-- ---- the pages of a run of set bits that is claimed by nobody else

pub run-in : (boot : Boot) (claims : ℕ → Option Claimed) (claim : Claimed) (page : ℕ) → claim.units.first ≤ claim.run.first → units_end claim.run ≤ units_end claim.units
    → ((d : ℕ) (b : Claimed) → claims d ≡ Some b → (b.units.first ≤ b.run.first) × (units_end b.run ≤ units_end b.units) × (units_meet claim.units b.units ≡ false))
    → in_range (pages_first boot claim.run) (pages_count boot claim.run) page ≡ true → IsInTable boot claims page
run-in boot claims claim page low within others inside d b is =
    let other = others d b is in
    runs-apart boot claim.run b.run page
    (λ unit in_run. let at = in_range-elim claim.run.first claim.run.count unit in_run in other-unit b claim unit other.0 other.1 other.2 (omega (arith, low, at.0)) (omega (arith, within, at.1)))
    inside

pub if-in : {A : Type 0} (b : Bool) (x y : A) (z : A) → (b ≡ true → x ≡ y) → cond b x z ≡ cond b y z
if-in true x y z h = h refl
if-in false x y z h = refl

-- what a span has that was taken for such a run
pub has-states : (boot : Boot) (calls : List ModuleCall) (claims : ℕ → Option Claimed) (run : Units) (pages : Pages) (runs : List PageRun) (span : Taken)
    → pages ≡ pages_of boot run → span.ticket.pages ≡ pages
    → ((page : ℕ) → state_in span.runs page ≡ cond (in_range pages.first pages.count page) (state_in runs page) None)
    → ((page : ℕ) → in_range (pages_first boot run) (pages_count boot run) page ≡ true → IsInTable boot claims page)
    → ((page : ℕ) → IsInTable boot claims page → state_in runs page ≡ page_state boot calls page)
    → HasStates boot calls run span
has-states boot calls claims run pages runs span is taken states here holds = record {
  pages = taken ∙ is;
  states = λ page.
      states page ∙ ap (λ (p : Pages). cond (in_range p.first p.count page) (state_in runs page) None) is
      ∙ if-in (in_range (pages_first boot run) (pages_count boot run) page) (state_in runs page) (page_state boot calls page) None (λ inside. holds page (here page inside));
}

-- ---- what is kept for processors

pub kept-same : (claims : List (Option OpenClaim)) (cpu : ℕ) (k : Option OpenClaim) → cpu < length claims → kept_of (slice_set claims cpu k) cpu ≡ k
kept-same claims cpu k low = get_or-set_same claims cpu k None low

pub kept-other : (claims : List (Option OpenClaim)) (cpu other : ℕ) (k : Option OpenClaim) → other ≢ cpu → kept_of (slice_set claims cpu k) other ≡ kept_of claims other
kept-other claims cpu other k differ = get_or-set_other claims cpu other k None differ

-- whoever has a claim is one of the processors, before and after a place was set
pub cpus-set : (claims claims' : List (Option OpenClaim)) (cpu end : ℕ) (k : Option OpenClaim) → claims' ≡ slice_set claims cpu k → cpu < length claims → ((claim : OpenClaim) → k ≡ Some claim → cpu < end)
    → ((other : ℕ) (claim : OpenClaim) → kept_of claims other ≡ Some claim → other < end)
    → (other : ℕ) (claim : OpenClaim) → kept_of claims' other ≡ Some claim → other < end
cpus-set claims claims' cpu end k is low mine were other claim has =
    elim (nat-cases other cpu) [
      | inl same ↦
          (let low_cpu = mine claim (sym (kept-same claims cpu k low) ∙ ap (λ cs. kept_of cs cpu) (sym is) ∙ ap (kept_of claims') (sym same) ∙ has) in
          omega (arith, low_cpu, same))
      | inr differ ↦ were other claim (sym (kept-other claims cpu other k differ) ∙ ap (λ cs. kept_of cs other) (sym is) ∙ has)
    ]

pub handed-is : (claims : List (Option OpenClaim)) (cpu : ℕ) → slice_index_or (map handed_for claims) cpu None ≡ handed_for (kept_of claims cpu)
handed-is claims cpu = get_or-map handed_for claims cpu None
