-- What a load finds in a page that isn't pending.
use Rattle.std.proofs.Common.{◌≡◌, ◌≢◌, ℕ, suc, ◌+◌, ◌<◌, ◌≤◌, ◌/◌, Bool, true, false, Option, None, Some, List, [], ◌∷◌, refl, sym, ◌∙◌, ap, inl, inr}
use Rattle.std.specs.Prelude.{nat_lt}
use Rattle.std.specs.List.{flat_map, list_any}
use Rattle.std.proofs.lemmas.Bool.{cases_Bool}
use Rattle.std.proofs.lemmas.List.Folds.{list_any_at}
use Rattle.guest_base.specs.Ranges.{in_range}
use Rattle.guest_base.specs.Search.{any_such}
use Rattle.guest_base.proofs.RangeLemmas.{in_range-intro, in_range-elim}
use Rattle.guest_base.proofs.SearchLemmas.{any_such-true}
use Rattle.guest_base.specs.declared.memory.PageRun.{PageRun}
use Rattle.guest_base.specs.declared.memory.Pages.{Pages}
use Rattle.guest_base.specs.declared.memory.PageState.{PageState}
use Rattle.guest_base.specs.declared.memory.PageState.TheVariants.{Pending, Accepted, Shared}
use Rattle.event_core.specs.declared.boot.Boot.{Boot}
use Rattle.event_core.specs.declared.entry.Entry.{Entry}
use Rattle.event_core.specs.Calls.{calls_in, calls_of}
use Rattle.event_core.specs.Claims.{Claimed, claim_of}
use Rattle.event_core.specs.MemoryRows.{page_state, is_pending, pages_first, pages_count}
use Rattle.event_core.specs.OwnRows.{found_at, found_by}
use Rattle.event_core.specs.Units.{bit_of, bit_after, is_marked, unit_count, unit_first, unit_pages}
use Rattle.event_core.proofs.EarlyLemmas.{or-cases}
use Rattle.event_core.proofs.StepsLemmas.{second_of}
use Rattle.page_module.specs.States.{state_in}
use Rattle.page_module.specs.declared.ticket.Ticket.{Ticket}
use Rattle.accepting_ranges.specs.Claims.{kept_of}
use Rattle.accepting_ranges.proofs.ClaimLemmas.{kept_of-inside}
use Rattle.memory_core.specs.Booted.{MarksArePending}
use Rattle.memory_core.specs.Looks.{found_in}
use Rattle.memory_core.specs.OpenClaims.{has_out}
use Rattle.memory_core.specs.Settled.{Settled}
use Rattle.memory_core.specs.StandsFor.{HoldsFor}
use Rattle.memory_core.specs.Steps.{IsInTable}
use Rattle.memory_core.specs.declared.claims.OpenClaim.{OpenClaim}
use Rattle.memory_core.proofs.HoldsLemmas.{open-kept, kept-open}
use Rattle.memory_core.proofs.OutLemmas.{unit-accepted}
use Rattle.memory_core.proofs.UnitsLemmas.{unit-with}

-- ---- a unit with a set bit has a pending page

-- the pending page of a unit
record PendingIn (boot : Boot) (memory : List Entry) (unit : ℕ) : Type 0 where
  pub page : ℕ
  pub low : unit_first boot unit ≤ page
  pub high : page < unit_first boot unit + unit_pages boot
  pub pending : is_pending (page_state boot (calls_of boot memory) page) ≡ true

pending-in : (boot : Boot) (memory : List Entry) (unit : ℕ) → MarksArePending boot (calls_of boot memory) → bit_after boot (calls_of boot memory) unit ≡ true → PendingIn boot memory unit
unfolding bit_after
pending-in boot memory unit marks set =
    let marked = is_marked (bit_of boot.bits unit) (calls_of boot memory) in
    let first = any_such-true marked (unit_first boot unit) (unit_pages boot) (second_of (nat_lt unit (unit_count boot.bits)) (any_such marked (unit_first boot unit) (unit_pages boot)) set) in
    record {
      page = first.0;
      low = first.1.low;
      high = first.1.high;
      pending = sym (marks unit first.0 set (in_range-intro (unit_first boot unit) (unit_pages boot) first.0 first.1.low first.1.high)) ∙ first.1.passes;
    }

-- ---- pages that are out

-- a page that is out for one of the kept claims
any-out : (page : ℕ) (claims : List (Option OpenClaim)) → list_any (has_out page) claims ≡ true → (cpu : ℕ) × (has_out page (kept_of claims cpu) ≡ true)
any-out page [] h = cc
any-out page (claim ∷ claims) h =
    elim (or-cases (has_out page claim) (list_any (has_out page) claims) h) [
      | inl here ↦ (0, here)
      | inr there ↦ (let rest = any-out page claims there in (suc rest.0, rest.1))
    ]

has-claim : (page : ℕ) (claim : Option OpenClaim) → has_out page claim ≡ true → (kept : OpenClaim) × (claim ≡ Some kept) × (in_range kept.ticket.pages.first kept.ticket.pages.count page ≡ true)
has-claim page None h = cc
has-claim page (Some kept) h = (kept, refl, h)

found-here : (s : Option PageState) → is_pending s ≡ false → found_by false s ≡ found_in s false
found-here None not = refl
found-here (Some Pending) not = cc
found-here (Some Accepted) not = refl
found-here (Some Shared) not = refl

-- ---- what is found

module _ (boot : Boot) (memory : List Entry) (runs : List PageRun) (tickets : List Ticket) (bit : ℕ → Bool) (claims : List (Option OpenClaim)) (settled : Settled boot memory)
    (holds : HoldsFor boot (calls_of boot memory) (claim_of boot memory) runs tickets bit (kept_of claims)) where
  -- the open claim for whose run a page is out
  record OutFor (page : ℕ) : Type 0 where
    pub cpu : ℕ
    pub claim : Claimed
    pub opened : claim_of boot memory cpu ≡ Some claim
    pub inside : in_range (pages_first boot claim.run) (pages_count boot claim.run) page ≡ true
    pub set : (unit : ℕ) → in_range claim.run.first claim.run.count unit ≡ true → bit unit ≡ true

  out-for : (page : ℕ) → list_any (has_out page) claims ≡ true → OutFor page
  out-for page h =
      let at = any-out page claims h in
      let kept = has-claim page (kept_of claims at.0) at.1 in
      let found = kept-open boot bit tickets (kept_of claims at.0) (claim_of boot memory at.0) kept.0 kept.1 (holds.open_claims at.0) in
      record { cpu = at.0; claim = found.0; opened = found.1; inside = sym (ap (λ (p : Pages). in_range p.first p.count page) found.2.pages) ∙ kept.2; set = found.2.each }

  in-table : (page : ℕ) → list_any (has_out page) claims ≡ false → IsInTable boot (claim_of boot memory) page
  in-table page none cpu claim is =
      elim (cases_Bool (in_range (pages_first boot claim.run) (pages_count boot claim.run) page)) [
        | inr f ↦ f
        | inl t ↦
            (let found = open-kept boot bit tickets (kept_of claims cpu) (claim_of boot memory cpu) claim is (holds.open_claims cpu) in
            let out : has_out page (kept_of claims cpu) ≡ true = ap (has_out page) found.1 ∙ ap (λ (p : Pages). in_range p.first p.count page) found.2.pages ∙ t in
            let no : true ≡ false = sym (list_any_at (has_out page) claims cpu None (kept_of-inside claims cpu found.0 found.1) out) ∙ none in
            cc)
      ]

  out-accepted : (page : ℕ) → list_any (has_out page) claims ≡ true → is_pending (page_state boot (calls_of boot memory) page) ≡ false → page_state boot (calls_of boot memory) page ≡ Some Accepted
  out-accepted page h not =
      let out = out-for page h in
      let run = out.claim.run in
      let at = in_range-elim (pages_first boot run) (pages_count boot run) page out.inside in
      let found = unit-with (boot.base / 4096) (unit_pages boot) run.first run.count page at.0 at.1 in
      let set = sym (holds.bits found.unit) ∙ out.set found.unit (in_range-intro run.first run.count found.unit found.low found.high) in
      let pending = pending-in boot memory found.unit holds.marks set in
      unit-accepted boot settled.made (flat_map (λ (e : Entry). calls_in e.event) memory) settled.stands.calls found.unit pending.page page (record { low = pending.low; high = pending.high }) (record { low = found.begins; high = found.ends }) pending.pending
      (holds.ram found.unit page set (in_range-intro (unit_first boot found.unit) (unit_pages boot) page found.begins found.ends)) not

  pub found-is : (page : ℕ) → is_pending (page_state boot (calls_of boot memory) page) ≡ false → found_at boot memory page ≡ found_in (state_in runs page) (list_any (has_out page) claims)
  unfolding found_at
  found-is page not =
      ap (λ (absent : Bool). found_by absent (page_state boot (calls_of boot memory) page)) (settled.absent page)
      ∙ elim (cases_Bool (list_any (has_out page) claims)) [
        | inl t ↦
            (let out = out-for page t in
            let away = holds.away out.cpu out.claim page out.opened out.inside in
            ap (found_by false) (out-accepted page t not) ∙ ap (λ (s : Option PageState). found_in s true) (sym away) ∙ ap (found_in (state_in runs page)) (sym t))
        | inr f ↦
            (let here = holds.states page (in-table page f) in
            found-here (page_state boot (calls_of boot memory) page) not ∙ ap (λ (s : Option PageState). found_in s false) (sym here) ∙ ap (found_in (state_in runs page)) (sym f))
      ]

  pub table-not-pending : (page : ℕ) → is_pending (page_state boot (calls_of boot memory) page) ≡ false → state_in runs page ≢ Some Pending
  table-not-pending page not pending =
      elim (cases_Bool (list_any (has_out page) claims)) [
        | inl t ↦
            (let out = out-for page t in
            let no : None ≡ Some Pending = sym (holds.away out.cpu out.claim page out.opened out.inside) ∙ pending in
            cc)
        | inr f ↦
            (let no : true ≡ false = ap is_pending (sym pending ∙ holds.states page (in-table page f)) ∙ not in
            cc)
      ]
