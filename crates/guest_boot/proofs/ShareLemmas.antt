-- Pages that are accepted, and are shared by one call.
use Rattle.std.proofs.Common.{◌≡◌, ◌≢◌, ℕ, Bool, true, false, Option, None, Some, List, [], ◌∷◌, ◌++◌, refl, sym, ◌∙◌, ap, subst, inl, inr, cond, fold, nat_lt}
use mathlib.Core.Path.{fun_ext}
use Rattle.std.specs.Prelude.{◌||◌, ◌⊎◌}
use Rattle.std.proofs.lemmas.Bool.{cases_Bool}
use Rattle.std.proofs.lemmas.List.Sums.{fold-append}
use Rattle.guest_base.specs.Ranges.{in_range}
use Rattle.guest_base.specs.Search.{any_such}
use Rattle.guest_base.specs.declared.memory.Pages.{Pages}
use Rattle.guest_base.specs.declared.memory.PageRun.{PageRun}
use Rattle.guest_base.specs.declared.memory.PageState.{PageState}
use Rattle.guest_base.specs.declared.memory.PageState.TheVariants.{Accepted, Shared}
use Rattle.event_core.specs.declared.boot.Boot.{Boot}
use Rattle.event_core.specs.declared.module_call.ModuleCall.{ModuleCall}
use Rattle.event_core.specs.declared.module_call.CallKind.TheVariants.{Share}
use Rattle.event_core.specs.declared.module_call.PortAnswer.{PortAnswer}
use Rattle.event_core.specs.declared.module_call.PortAnswer.TheVariants.{Ok as AnsweredOk, SizeMismatch, Failed}
use Rattle.event_core.specs.Boot.{share_call}
use Rattle.event_core.specs.Calls.{SoundCalls}
use Rattle.event_core.specs.MemoryRows.{page_state, is_pending}
use Rattle.event_core.specs.Runs.{state_in as first_state_of}
use Rattle.event_core.specs.Table.{Bits}
use Rattle.event_core.specs.Units.{bit_of, bit_after, mark_step, is_marked, unit_count, unit_first, unit_pages}
use Rattle.event_core.proofs.SoundLemmas.{state_after-append, SoundCalls-append}
use Rattle.page_module.specs.States.{state_in}
use Rattle.page_module.specs.Modules.{AfterCall, span_call}
use Rattle.page_module.specs.Spans.{Taken, SpanIs}
use Rattle.page_module.specs.Tables.{Table, is_out, same_ticket, without}
use Rattle.page_module.specs.declared.ticket.Ticket.{Ticket}
use Rattle.page_module.proofs.OutLemmas.{same_ticket-refl}
use Rattle.memory_core.specs.Bitmaps.{BitsAfter}
use Rattle.memory_core.specs.Booted.{MarksArePending}
use Rattle.guest_boot.specs.Booting.{StandsAfter, AreAccepted}
use Rattle.guest_boot.specs.declared.accept.Kept.{Kept}

-- the calls, with the one that shares the pages
abbrev pub and_shared : List ModuleCall → Pages → List ModuleCall
and_shared done pages = done ++ share_call pages AnsweredOk ∷ []

-- ---- the states of pages

state-shared : (boot : Boot) (done : List ModuleCall) (pages : Pages) (page : ℕ) → page_state boot (and_shared done pages) page ≡ cond (in_range pages.first pages.count page) (Some Shared) (page_state boot done page)
state-shared boot done pages page = ap (λ (f : ℕ → Option PageState). f page) (state_after-append (first_state_of boot.ram) done (share_call pages AnsweredOk ∷ []))

pending-shared : (boot : Boot) (done : List ModuleCall) (pages : Pages) (page : ℕ) → AreAccepted boot done pages → is_pending (page_state boot (and_shared done pages) page) ≡ is_pending (page_state boot done page)
pending-shared boot done pages page accepted =
    ap is_pending (state-shared boot done pages page)
    ∙ elim (cases_Bool (in_range pages.first pages.count page)) [
      | inl t ↦ ap (λ b. is_pending (cond b (Some Shared) (page_state boot done page))) t ∙ sym (ap is_pending (accepted page t))
      | inr f ↦ ap (λ b. is_pending (cond b (Some Shared) (page_state boot done page))) f
    ]

-- ---- the bits of units

same-both : {A : Type 0} (b : Bool) (x : A) → cond b x x ≡ x
same-both true x = refl
same-both false x = refl

mark-shared : (first : Bool) (done : List ModuleCall) (pages : Pages) (page : ℕ) → is_marked first (and_shared done pages) page ≡ is_marked first done page
mark-shared first done pages page = fold-append (mark_step page) first done (share_call pages AnsweredOk ∷ []) ∙ same-both (in_range pages.first pages.count page) (is_marked first done page)

pub bit-shared : (boot : Boot) (done : List ModuleCall) (pages : Pages) (unit : ℕ) → bit_after boot (and_shared done pages) unit ≡ bit_after boot done unit
unfolding bit_after
bit-shared boot done pages unit =
    ap (λ (t : ℕ → Bool). elim (nat_lt unit (unit_count boot.bits)) as (λ _. Bool) [ true ↦ any_such t (unit_first boot unit) (unit_pages boot) | false ↦ false ])
    (fun_ext (λ page. mark-shared (bit_of boot.bits unit) done pages page))

marks-shared : (boot : Boot) (done : List ModuleCall) (pages : Pages) → AreAccepted boot done pages → MarksArePending boot done → MarksArePending boot (and_shared done pages)
marks-shared boot done pages accepted marks unit page set inside =
    mark-shared (bit_of boot.bits unit) done pages page ∙ marks unit page (sym (bit-shared boot done pages unit) ∙ set) inside ∙ sym (pending-shared boot done pages page accepted)

-- ---- what is kept

-- the span of the pages was taken out, shared and put back
pub record SharedBack (pages : Pages) (old mid new : Table) (taken span : Taken) : Type 0 where
  pub pages_are : taken.ticket.pages ≡ pages
  pub rest : (page : ℕ) → state_in mid.runs page ≡ cond (in_range pages.first pages.count page) None (state_in old.runs page)
  pub out : mid.out ≡ old.out ++ taken.ticket ∷ []
  pub ticket : span.ticket ≡ taken.ticket
  pub states : (page : ℕ) → state_in span.runs page ≡ cond (in_range taken.ticket.pages.first taken.ticket.pages.count page) (Some Shared) (state_in taken.runs page)
  pub back : (page : ℕ) → state_in new.runs page ≡ cond (in_range span.ticket.pages.first span.ticket.pages.count page) (state_in span.runs page) (state_in mid.runs page)
  pub back_out : new.out ≡ without span.ticket mid.out

choose : (b : Bool) (x y z : Option PageState) → cond b (cond b x y) (cond b None z) ≡ cond b x z
choose true x y z = refl
choose false x y z = refl

states-back : (pages : Pages) (old mid new : Table) (taken span : Taken) → SharedBack pages old mid new taken span → (page : ℕ) → state_in new.runs page ≡ cond (in_range pages.first pages.count page) (Some Shared) (state_in old.runs page)
states-back pages old mid new taken span s page =
    let b : Bool = in_range pages.first pages.count page in
    let same : span.ticket.pages ≡ pages = ap (λ (t : Ticket). t.pages) s.ticket ∙ s.pages_are in
    s.back page
    ∙ ap (λ (p : Pages). cond (in_range p.first p.count page) (state_in span.runs page) (state_in mid.runs page)) same
    ∙ ap (λ x. cond b x (state_in mid.runs page)) (s.states page ∙ ap (λ (p : Pages). cond (in_range p.first p.count page) (Some Shared) (state_in taken.runs page)) s.pages_are)
    ∙ ap (cond b (cond b (Some Shared) (state_in taken.runs page))) (s.rest page)
    ∙ choose b (Some Shared) (state_in taken.runs page) (state_in old.runs page)

none-left : (pages : Pages) (old mid new : Table) (taken span : Taken) → old.out ≡ [] → SharedBack pages old mid new taken span → new.out ≡ []
none-left pages old mid new taken span none s =
    s.back_out ∙ ap (without span.ticket) (s.out ∙ ap (λ out. out ++ taken.ticket ∷ []) none) ∙ ap (λ t. without t (taken.ticket ∷ [])) s.ticket
    ∙ ap (λ b. cond b [] (taken.ticket ∷ [])) (same_ticket-refl taken.ticket)

-- it stands for the calls with the one that shared the pages
pub shared-stands : (boot : Boot) (done : List ModuleCall) (pages : Pages) (kept next : Kept) (mid : Table) (taken span : Taken) → StandsAfter boot done kept → AreAccepted boot done pages → SharedBack pages kept.table mid next.table taken span
    → next.bits ≡ kept.bits → next.calls.items ≡ kept.calls.items ++ share_call pages AnsweredOk ∷ [] → StandsAfter boot (and_shared done pages) next
shared-stands boot done pages kept next mid taken span stands accepted s bits_is calls_is =
    let B : Option Bits → Type 0 = BitsAfter boot (and_shared done pages) in
    record {
      states = λ page.
          states-back pages kept.table mid next.table taken span s page
          ∙ ap (cond (in_range pages.first pages.count page) (Some Shared)) (stands.states page)
          ∙ sym (state-shared boot done pages page);
      none_out = none-left pages kept.table mid next.table taken span stands.none_out s;
      bits = subst B (sym bits_is) (record { same = stands.bits.same; set = λ unit. stands.bits.set unit ∙ sym (bit-shared boot done pages unit) });
      marks = marks-shared boot done pages accepted stands.marks;
      held = λ unit set. stands.held unit (sym (bit-shared boot done pages unit) ∙ set);
      sound = SoundCalls-append (first_state_of boot.ram) done (share_call pages AnsweredOk ∷ []) stands.sound (accepted, tt);
      calls = calls_is ∙ ap (λ cs. cs ++ share_call pages AnsweredOk ∷ []) stands.calls;
    }

-- the same with a table that has the same pages
pub same-table : (boot : Boot) (done : List ModuleCall) (kept : Kept) (table : Table) → StandsAfter boot done kept → table.runs ≡ kept.table.runs → table.out ≡ kept.table.out → StandsAfter boot done (record { table = table; bits = kept.bits; calls = kept.calls })
same-table boot done kept table stands runs out = record {
  states = λ page. ap (λ rs. state_in rs page) runs ∙ stands.states page;
  none_out = out ∙ stands.none_out;
  bits = stands.bits;
  marks = stands.marks;
  held = stands.held;
  sound = stands.sound;
  calls = stands.calls;
}

-- ---- the call

-- the call is the definition's
pub shared-grew : (before after : List ModuleCall) (pages : Pages) (taken : Taken) (answer is : PortAnswer) → taken.ticket.pages ≡ pages → answer ≡ is → after ≡ before ++ span_call Share taken answer ∷ [] → after ≡ before ++ share_call pages is ∷ []
shared-grew before after pages taken answer is pages_are same recorded =
    recorded ∙ ap (λ (p : Pages). before ++ share_call p answer ∷ []) pages_are ∙ ap (λ a. before ++ share_call pages a ∷ []) same

-- what isn't failed is done
pub done-by : (answer : PortAnswer) → (answer ≡ Failed) ⊎ (answer ≡ AnsweredOk) → answer ≢ Failed → answer ≡ AnsweredOk
done-by answer (inl failed) not = absurd (not failed)
done-by answer (inr done) not = done

-- a call leaves the ticket of its span
pub same-ticket : (state : PageState) (old new : Taken) (first count : ℕ) (answer : PortAnswer) → AfterCall state old new first count answer → new.ticket ≡ old.ticket
same-ticket state old new first count AnsweredOk after = after.ticket
same-ticket state old new first count SizeMismatch after = ap (λ (t : Taken). t.ticket) after
same-ticket state old new first count Failed after = ap (λ (t : Taken). t.ticket) after

-- the span may be put back
pub may-put-back : (before mid : List Ticket) (ticket given : Ticket) → before ≡ [] → mid ≡ before ++ ticket ∷ [] → given ≡ ticket → is_out mid given ≡ true
may-put-back before mid ticket given none is same =
    ap (λ out. is_out out given) (is ∙ ap (λ out. out ++ ticket ∷ []) none) ∙ ap (λ t. same_ticket ticket t || false) same ∙ ap (λ b. b || false) (same_ticket-refl ticket)

-- the pages of the span are accepted
pub span-accepted : (pages : Pages) (runs : List PageRun) (taken : Taken) → taken.ticket.pages ≡ pages → ((page : ℕ) → state_in taken.runs page ≡ cond (in_range pages.first pages.count page) (state_in runs page) None) → ((page : ℕ) → in_range pages.first pages.count page ≡ true → state_in runs page ≡ Some Accepted) → SpanIs Accepted taken
span-accepted pages runs taken are states accepted page inside =
    let here : in_range pages.first pages.count page ≡ true = sym (ap (λ (p : Pages). in_range p.first p.count page) are) ∙ inside in
    states page ∙ ap (λ b. cond b (state_in runs page) None) here ∙ accepted page here

-- pages that are accepted have a state
pub accepted-here : (boot : Boot) (done : List ModuleCall) (pages : Pages) (kept : Kept) → StandsAfter boot done kept → AreAccepted boot done pages → (page : ℕ) → in_range pages.first pages.count page ≡ true → state_in kept.table.runs page ≡ Some Accepted
accepted-here boot done pages kept stands accepted page inside = stands.states page ∙ accepted page inside

pub accepted-some : (s : Option PageState) → s ≡ Some Accepted → s ≢ None
accepted-some s is = λ none. let no : Some Accepted ≡ None = sym is ∙ none in cc
