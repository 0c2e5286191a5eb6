use Rattle.std.proofs.Common.{◌≡◌, ◌≢◌, ℕ, ◌+◌, ◌<◌, ◌≤◌, Bool, true, false, Option, None, Some, List, ◌++◌, refl, sym, ◌∙◌, ap, subst, inl, inr, arith, cond}
use Rattle.guest_base.proofs.RangeLemmas.{in_range-elim}
use Rattle.guest_base.specs.Ranges.{in_range}
use Rattle.guest_base.specs.Search.{any_such}
use Rattle.guest_base.specs.declared.memory.Pages.{Pages}
use Rattle.guest_base.specs.declared.memory.PageRun.{PageRun}
use Rattle.guest_base.specs.declared.memory.PageState.{PageState}
use Rattle.guest_base.specs.declared.memory.Units.{Units}
use Rattle.event_core.specs.declared.boot.Boot.{Boot}
use Rattle.event_core.specs.declared.module_call.ModuleCall.{ModuleCall}
use Rattle.event_core.specs.Acceptance.{AcceptanceSteps}
use Rattle.event_core.specs.Claims.{Claimed, units_meet}
use Rattle.event_core.specs.MemoryRows.{page_state, is_pending, pages_first, pages_count}
use Rattle.event_core.specs.Units.{unit_first, unit_pages, units_end}
use Rattle.page_module.specs.Spans.{Taken}
use Rattle.page_module.specs.States.{state_in}
use Rattle.page_module.specs.Tables.{is_out}
use Rattle.page_module.specs.declared.ticket.Ticket.{Ticket}
use Rattle.accept_sizes.specs.Accepts.{Accepts, pending_of, span_end}
use Rattle.memory_core.specs.Steps.{HasStates, pages_of}
use Rattle.memory_core.specs.StandsFor.{HoldsFor, OpenStands, ClaimStands}
use Rattle.memory_core.specs.declared.claims.OpenClaim.{OpenClaim}
use Rattle.memory_core.proofs.RunLemmas.{Stands, OneRun, run-stands}
use Rattle.memory_core.proofs.UnitsLemmas.{not-met, runs-apart}
use Rattle.memory_core.proofs.ClearLemmas.{nat-cases}

-- ---- claims, kept and open

pub kept-open : (boot : Boot) (bit : ℕ → Bool) (tickets : List Ticket) (k : Option OpenClaim) (c : Option Claimed) (o : OpenClaim) → k ≡ Some o → ClaimStands boot bit tickets k c → (claim : Claimed) × (c ≡ Some claim) × OpenStands boot bit tickets o claim
kept-open boot bit tickets None c o is stands = cc
kept-open boot bit tickets (Some k) None o is stands = absurd stands
kept-open boot bit tickets (Some k) (Some claim) o is stands = (claim, refl, (let same : k ≡ o = cc in subst (λ x. OpenStands boot bit tickets x claim) same stands))

pub open-kept : (boot : Boot) (bit : ℕ → Bool) (tickets : List Ticket) (k : Option OpenClaim) (c : Option Claimed) (claim : Claimed) → c ≡ Some claim → ClaimStands boot bit tickets k c → (o : OpenClaim) × (k ≡ Some o) × OpenStands boot bit tickets o claim
open-kept boot bit tickets k None claim is stands = cc
open-kept boot bit tickets None (Some c) claim is stands = absurd stands
open-kept boot bit tickets (Some o) (Some c) claim is stands = (o, refl, (let same : c ≡ claim = cc in subst (λ x. OpenStands boot bit tickets o x) same stands))

pub none-kept : (boot : Boot) (bit : ℕ → Bool) (tickets : List Ticket) (k : Option OpenClaim) (c : Option Claimed) → c ≡ None → ClaimStands boot bit tickets k c → k ≡ None
none-kept boot bit tickets None c is stands = refl
none-kept boot bit tickets (Some k) (Some c) is stands = cc
none-kept boot bit tickets (Some k) None is stands = absurd stands

pub stands-open : (boot : Boot) (bit : ℕ → Bool) (tickets : List Ticket) (k : Option OpenClaim) (c : Option Claimed) (o : OpenClaim) (claim : Claimed) → k ≡ Some o → c ≡ Some claim → OpenStands boot bit tickets o claim → ClaimStands boot bit tickets k c
stands-open boot bit tickets k c o claim is_k is_c stands =
    let P : Option OpenClaim → Type 0 = λ x. ClaimStands boot bit tickets x (Some claim) in
    let Q : Option Claimed → Type 0 = ClaimStands boot bit tickets k in
    subst Q (sym is_c) (subst P (sym is_k) stands)

pub stands-none : (boot : Boot) (bit : ℕ → Bool) (tickets : List Ticket) (k : Option OpenClaim) (c : Option Claimed) → k ≡ None → c ≡ None → ClaimStands boot bit tickets k c
stands-none boot bit tickets k c is_k is_c =
    let P : Option OpenClaim → Type 0 = λ x. ClaimStands boot bit tickets x None in
    let Q : Option Claimed → Type 0 = ClaimStands boot bit tickets k in
    subst Q (sym is_c) (subst P (sym is_k) tt)

-- a claim stands on where the set bits of its units stay set and its pages are out still
open-moves : (boot : Boot) (bit bit' : ℕ → Bool) (tickets tickets' : List Ticket) (o : OpenClaim) (claim : Claimed) → ((unit : ℕ) → claim.units.first ≤ unit → unit < units_end claim.units → bit unit ≡ true → bit' unit ≡ true) → is_out tickets' o.ticket ≡ true → OpenStands boot bit tickets o claim → OpenStands boot bit' tickets' o claim
open-moves boot bit bit' tickets tickets' o claim stay still stands =
    let low = stands.low in
    let within = stands.within in
    record {
      block = stands.block;
      units = stands.units;
      run = stands.run;
      cleared = stands.cleared;
      some = stands.some;
      low = stands.low;
      within = stands.within;
      end = stands.end;
      each = λ unit inside. (let at = in_range-elim claim.run.first claim.run.count unit inside in stay unit (omega (arith, low, at.0)) (omega (arith, within, at.1)) (stands.each unit inside));
      later = stands.later;
      set = λ unit above below was. stay unit (omega (arith, low, above)) below (stands.set unit above below was);
      few = stands.few;
      out = still;
      pages = stands.pages;
      room = stands.room;
      enough = stands.enough;
    }

pub claim-moves : (boot : Boot) (bit bit' : ℕ → Bool) (tickets tickets' : List Ticket) (k k' : Option OpenClaim) (c c' : Option Claimed) → k' ≡ k → c' ≡ c → ((claim : Claimed) → c ≡ Some claim → (unit : ℕ) → claim.units.first ≤ unit → unit < units_end claim.units → bit unit ≡ true → bit' unit ≡ true) → ((o : OpenClaim) → k ≡ Some o → is_out tickets o.ticket ≡ true → is_out tickets' o.ticket ≡ true) → ClaimStands boot bit tickets k c → ClaimStands boot bit' tickets' k' c'
claim-moves boot bit bit' tickets tickets' None k' None c' is_k is_c stay still stands = stands-none boot bit' tickets' k' c' is_k is_c
claim-moves boot bit bit' tickets tickets' (Some o) k' (Some claim) c' is_k is_c stay still stands = stands-open boot bit' tickets' k' c' o claim is_k is_c (open-moves boot bit bit' tickets tickets' o claim (stay claim refl) (still o refl stands.out) stands)
claim-moves boot bit bit' tickets tickets' None k' (Some c) c' is_k is_c stay still stands = absurd stands
claim-moves boot bit bit' tickets tickets' (Some o) k' None c' is_k is_c stay still stands = absurd stands

-- the functions of two states agree on all other processors
pub record OthersSame (cpu : ℕ) (claims claims' : ℕ → Option Claimed) (kept kept' : ℕ → Option OpenClaim) : Type 0 where
  pub claimed : (other : ℕ) → other ≢ cpu → claims' other ≡ claims other
  pub keeps : (other : ℕ) → other ≢ cpu → kept' other ≡ kept other

no_both : {A : Type 0} (o : Option A) (x : A) → o ≡ None → o ≡ Some x → ⊥
no_both o x none some = let no : None ≡ Some x = sym none ∙ some in cc

choose : {A : Type 0} (b : Bool) (x y z : A) → (b ≡ false → y ≡ z) → cond b x y ≡ cond b x z
choose true x y z h = refl
choose false x y z h = h refl

-- ---- a claim is opened, or goes on: the pages of its run are taken out

none-either : (b : Bool) (o : Option PageState) → o ≡ None → cond b None o ≡ None
none-either true o is = refl
none-either false o is = is

pub holds-open : (boot : Boot) (calls : List ModuleCall) (claims claims' : ℕ → Option Claimed) (runs runs' : List PageRun) (tickets tickets' : List Ticket) (bit : ℕ → Bool) (kept kept' : ℕ → Option OpenClaim) (cpu : ℕ) (o : OpenClaim) (claim : Claimed)
    → HoldsFor boot calls claims runs tickets bit kept → claims cpu ≡ None → OthersSame cpu claims claims' kept kept' → claims' cpu ≡ Some claim → kept' cpu ≡ Some o
    → ((page : ℕ) → state_in runs' page ≡ cond (in_range (pages_first boot claim.run) (pages_count boot claim.run) page) None (state_in runs page))
    → ((ticket : Ticket) → is_out tickets ticket ≡ true → is_out tickets' ticket ≡ true)
    → OpenStands boot bit tickets' o claim
    → ((d : ℕ) (b : Claimed) → claims d ≡ Some b → units_meet claim.units b.units ≡ false)
    → ((d : ℕ) (b : Claimed) → claims d ≡ Some b → units_meet b.units claim.units ≡ false)
    → HoldsFor boot calls claims' runs' tickets' bit kept'
holds-open boot calls claims claims' runs runs' tickets tickets' bit kept kept' cpu o claim holds free others now_claim now_kept rest more opened clear clear' = record {
  bits = holds.bits;
  marks = holds.marks;
  ram = holds.ram;
  states = λ page inside.
      let out = inside cpu claim now_claim in
      rest page ∙ ap (λ b. cond b None (state_in runs page)) out
      ∙ holds.states page (λ d b is. elim (nat-cases d cpu) [
        | inl same ↦ absurd (no_both (claims cpu) b free (ap claims (sym same) ∙ is))
        | inr differ ↦ inside d b (others.claimed d differ ∙ is)
      ]);
  away = λ d b page is at. elim (nat-cases d cpu) [
    | inl same ↦
        (let b_is : Some claim ≡ Some b = sym now_claim ∙ ap claims' (sym same) ∙ is in
        let b_same : claim ≡ b = cc in
        rest page ∙ ap (λ x. cond x None (state_in runs page)) (ap (λ (x : Claimed). in_range (pages_first boot x.run) (pages_count boot x.run) page) b_same ∙ at))
    | inr differ ↦ rest page ∙ none-either (in_range (pages_first boot claim.run) (pages_count boot claim.run) page) (state_in runs page) (holds.away d b page (sym (others.claimed d differ) ∙ is) at)
  ];
  open_claims = λ d. elim (nat-cases d cpu) [
    | inl same ↦ stands-open boot bit tickets' (kept' d) (claims' d) o claim (ap kept' same ∙ now_kept) (ap claims' same ∙ now_claim) opened
    | inr differ ↦ claim-moves boot bit bit tickets tickets' (kept d) (kept' d) (claims d) (claims' d) (others.keeps d differ) (others.claimed d differ) (λ b is unit low high set. set) (λ k is was. more k.ticket was) (holds.open_claims d)
  ];
  apart = λ c d a b differ is_a is_b.
      elim (nat-cases c cpu) [
        | inl c_same ↦
            (let a_is : Some claim ≡ Some a = sym now_claim ∙ ap claims' (sym c_same) ∙ is_a in
            let a_same : claim ≡ a = cc in
            let d_other : d ≢ cpu = λ e. differ (c_same ∙ sym e) in
            ap (λ (x : Claimed). units_meet x.units b.units) (sym a_same) ∙ clear d b (sym (others.claimed d d_other) ∙ is_b))
        | inr c_other ↦ elim (nat-cases d cpu) [
          | inl d_same ↦
              (let b_is : Some claim ≡ Some b = sym now_claim ∙ ap claims' (sym d_same) ∙ is_b in
              let b_same : claim ≡ b = cc in
              ap (λ (x : Claimed). units_meet a.units x.units) (sym b_same) ∙ clear' c a (sym (others.claimed c c_other) ∙ is_a))
          | inr d_other ↦ holds.apart c d a b differ (sym (others.claimed c c_other) ∙ is_a) (sym (others.claimed d d_other) ∙ is_b)
        ]
      ];
}

-- ---- a run is reported: its pages come back

-- what comes back: the span of the run, with the calls that brought it to its states, and the bits that were cleared
pub record Returns (boot : Boot) (calls now : List ModuleCall) (run : Units) (taken span : Taken) (runs runs' : List PageRun) (bit bit' : ℕ → Bool) : Type 0 where
  pub has : HasStates boot calls run taken
  pub accepts : Accepts boot.hosts taken span now
  pub back : (page : ℕ) → state_in runs' page ≡ cond (in_range span.ticket.pages.first span.ticket.pages.count page) (state_in span.runs page) (state_in runs page)
  pub clears : (unit : ℕ) → bit' unit ≡ cond (in_range run.first run.count unit) (any_such (λ page. is_pending (state_in span.runs page)) (unit_first boot unit) (unit_pages boot)) (bit unit)

-- the states of all pages as if those of the run alone had been out
abbrev pub put_back : Boot → List ModuleCall → Units → Taken → ℕ → Option PageState
put_back boot calls run span page = cond (in_range (pages_first boot run) (pages_count boot run) page) (state_in span.runs page) (page_state boot calls page)

pub one-run : (boot : Boot) (calls now : List ModuleCall) (run : Units) (taken span : Taken) (runs runs' : List PageRun) (bit bit' : ℕ → Bool) → ((unit : ℕ) → in_range run.first run.count unit ≡ true → bit unit ≡ true) → Returns boot calls now run taken span runs runs' bit bit' → OneRun boot run now (page_state boot calls) (put_back boot calls run span) (state_in taken.runs) (state_in span.runs) bit bit'
one-run boot calls now run taken span runs runs' bit bit' each returns =
    let from : taken.ticket.pages.first ≡ pages_first boot run = ap (λ (p : Pages). p.first) returns.has.pages in
    let end : span_end taken ≡ pages_first boot run + pages_count boot run = ap (λ (p : Pages). p.first + p.count) returns.has.pages in
    let P : ℕ → Type 0 = λ e. AcceptanceSteps boot.hosts (pending_of taken) e taken.ticket.pages.first None now in
    let Q : ℕ → Type 0 = λ f. AcceptanceSteps boot.hosts (pending_of taken) (pages_first boot run + pages_count boot run) f None now in
    record {
      set = each;
      taken = returns.has.states;
      steps = subst Q from (subst P end returns.accepts.steps);
      made = returns.accepts.states;
      put = λ page. refl;
      clears = returns.clears;
    }

pub stands-virtual : (boot : Boot) (calls : List ModuleCall) (claims : ℕ → Option Claimed) (runs : List PageRun) (tickets : List Ticket) (bit : ℕ → Bool) (kept : ℕ → Option OpenClaim) → HoldsFor boot calls claims runs tickets bit kept → Stands boot calls (page_state boot calls) bit
stands-virtual boot calls claims runs tickets bit kept holds = record { states = λ page. refl; bits = holds.bits; marks = holds.marks; ram = holds.ram }

-- units of another claim are none of the run's
pub other-unit : (claim other : Claimed) (unit : ℕ) → claim.units.first ≤ claim.run.first → units_end claim.run ≤ units_end claim.units → units_meet other.units claim.units ≡ false → other.units.first ≤ unit → unit < units_end other.units → in_range claim.run.first claim.run.count unit ≡ false
other-unit claim other unit low within apart from below =
    let out = not-met other.units claim.units unit apart from below in
    grind (arith, out, low, within)

-- and its pages none of the run's
pub others-page : (boot : Boot) (other claim : Claimed) (page : ℕ) → other.units.first ≤ other.run.first → units_end other.run ≤ units_end other.units → claim.units.first ≤ claim.run.first → units_end claim.run ≤ units_end claim.units
    → units_meet other.units claim.units ≡ false → in_range (pages_first boot other.run) (pages_count boot other.run) page ≡ true → in_range (pages_first boot claim.run) (pages_count boot claim.run) page ≡ false
others-page boot other claim page low within first end apart inside =
    runs-apart boot other.run claim.run page
    (λ unit in_run. let at = in_range-elim other.run.first other.run.count unit in_run in other-unit claim other unit first end apart (omega (arith, low, at.0)) (omega (arith, within, at.1)))
    inside

pub holds-close : (boot : Boot) (calls now : List ModuleCall) (claims claims' : ℕ → Option Claimed) (runs runs' : List PageRun) (tickets tickets' : List Ticket) (bit bit' : ℕ → Bool) (kept kept' : ℕ → Option OpenClaim) (cpu : ℕ) (o : OpenClaim) (claim : Claimed) (taken span : Taken)
    → HoldsFor boot calls claims runs tickets bit kept → OpenStands boot bit tickets o claim → claims cpu ≡ Some claim → OthersSame cpu claims claims' kept kept' → claims' cpu ≡ None → kept' cpu ≡ None
    → Returns boot calls now claim.run taken span runs runs' bit bit'
    → ((other : ℕ) (k : OpenClaim) → other ≢ cpu → kept other ≡ Some k → is_out tickets k.ticket ≡ true → is_out tickets' k.ticket ≡ true)
    → HoldsFor boot (calls ++ now) claims' runs' tickets' bit' kept'
holds-close boot calls now claims claims' runs runs' tickets tickets' bit bit' kept kept' cpu o claim taken span holds opened was others gone unkept returns still =
    let one = one-run boot calls now claim.run taken span runs runs' bit bit' opened.each returns in
    let stands = run-stands boot calls now claim.run (page_state boot calls) (put_back boot calls claim.run span) (state_in taken.runs) (state_in span.runs) bit bit' (stands-virtual boot calls claims runs tickets bit kept holds) one in
    let first : span.ticket.pages ≡ pages_of boot claim.run = ap (λ (t : Ticket). t.pages) returns.accepts.ticket ∙ returns.has.pages in
    record {
      bits = stands.bits;
      marks = stands.marks;
      ram = stands.ram;
      states = λ page inside.
          returns.back page ∙ ap (λ (p : Pages). cond (in_range p.first p.count page) (state_in span.runs page) (state_in runs page)) first
          ∙ choose (in_range (pages_first boot claim.run) (pages_count boot claim.run) page) (state_in span.runs page) (state_in runs page) (page_state boot calls page)
          (λ out. holds.states page (λ d b is. elim (nat-cases d cpu) [
            | inl same ↦
                (let b_is : Some claim ≡ Some b = sym was ∙ ap claims (sym same) ∙ is in
                let b_same : claim ≡ b = cc in
                ap (λ (x : Claimed). in_range (pages_first boot x.run) (pages_count boot x.run) page) (sym b_same) ∙ out)
            | inr differ ↦ inside d b (others.claimed d differ ∙ is)
          ]))
          ∙ stands.states page;
      away = λ d b page is at. elim (nat-cases d cpu) [
        | inl same ↦ absurd (no_both (claims' cpu) b gone (ap claims' (sym same) ∙ is))
        | inr differ ↦
            (let was_b = sym (others.claimed d differ) ∙ is in
            let theirs = open-kept boot bit tickets (kept d) (claims d) b was_b (holds.open_claims d) in
            let out = others-page boot b claim page theirs.2.low theirs.2.within opened.low opened.within (holds.apart d cpu b claim differ was_b was) at in
            returns.back page ∙ ap (λ (p : Pages). cond (in_range p.first p.count page) (state_in span.runs page) (state_in runs page)) first
            ∙ ap (λ x. cond x (state_in span.runs page) (state_in runs page)) out ∙ holds.away d b page was_b at)
      ];
      open_claims = λ d. elim (nat-cases d cpu) [
        | inl same ↦ stands-none boot bit' tickets' (kept' d) (claims' d) (ap kept' same ∙ unkept) (ap claims' same ∙ gone)
        | inr differ ↦
            claim-moves boot bit bit' tickets tickets' (kept d) (kept' d) (claims d) (claims' d) (others.keeps d differ) (others.claimed d differ)
            (λ b is unit low high set.
            let apart = holds.apart d cpu b claim differ is was in
            returns.clears unit ∙ ap (λ x. cond x (any_such (λ page. is_pending (state_in span.runs page)) (unit_first boot unit) (unit_pages boot)) (bit unit)) (other-unit claim b unit opened.low opened.within apart low high) ∙ set)
            (λ k is. still d k differ is) (holds.open_claims d)
      ];
      apart = λ c d a b differ is_a is_b.
          elim (nat-cases c cpu) [
            | inl c_same ↦ absurd (no_both (claims' cpu) a gone (ap claims' (sym c_same) ∙ is_a))
            | inr c_other ↦ elim (nat-cases d cpu) [
              | inl d_same ↦ absurd (no_both (claims' cpu) b gone (ap claims' (sym d_same) ∙ is_b))
              | inr d_other ↦ holds.apart c d a b differ (sym (others.claimed c c_other) ∙ is_a) (sym (others.claimed d d_other) ∙ is_b)
            ]
          ];
    }
