use Rattle.std.proofs.Common.{◌≡◌, ◌≢◌, ℕ, zero, suc, ◌+◌, ◌^◌, ◌≤◌, Bool, true, false, ◌&&◌, Option, None, Some, List, [], ◌∷◌, ◌++◌, refl, sym, ◌∙◌, ap, subst, inl, inr, arith, cond, append-nil}
use mathlib.Core.Path.{fun_ext}
use Rattle.std.proofs.lemmas.Bool.{cases_Bool, and_parts, false_from_ne_true}
use Rattle.guest_base.specs.Ranges.{in_range}
use Rattle.guest_base.specs.Search.{any_such}
use Rattle.guest_base.proofs.SearchLemmas.{any_such_same}
use Rattle.guest_base.proofs.RangeLemmas.{in_range-intro}
use Rattle.guest_base.specs.declared.memory.Page.{Page}
use Rattle.guest_base.specs.declared.memory.Pages.{Pages}
use Rattle.guest_base.specs.declared.memory.PageState.{PageState}
use Rattle.guest_base.specs.declared.memory.PageState.TheVariants.{Pending}
use Rattle.event_core.specs.declared.boot.Boot.{Boot}
use Rattle.event_core.specs.declared.module_call.ModuleCall.{ModuleCall}
use Rattle.event_core.specs.Acceptance.{AcceptanceSteps, stop_of}
use Rattle.event_core.specs.Boot.{AcceptsPiece, pending_piece}
use Rattle.event_core.specs.Calls.{state_after, SoundCalls}
use Rattle.event_core.specs.MemoryRows.{page_state, is_pending}
use Rattle.event_core.specs.Runs.{state_in as first_state_of}
use Rattle.event_core.specs.Units.{bit_of, bit_after, unit_first, unit_pages}
use Rattle.event_core.proofs.StepsLemmas.{steps-outside, steps-sound, pending-is, pending-if}
use Rattle.event_core.proofs.SoundLemmas.{state_after-append, SoundCalls-append}
use Rattle.page_module.specs.States.{state_in}
use Rattle.page_module.specs.Spans.{Taken}
use Rattle.page_module.specs.Tables.{Table, without}
use Rattle.page_module.specs.declared.ticket.Ticket.{Ticket}
use Rattle.page_module.proofs.OutLemmas.{same_ticket-refl}
use Rattle.accept_sizes.specs.Accepts.{pending_of}
use Rattle.event_core.specs.Table.{Bits}
use Rattle.memory_core.specs.Bitmaps.{BitsAfter}
use Rattle.memory_core.specs.Booted.{IsBooted, MarksArePending}
use Rattle.memory_core.proofs.RunLemmas.{marks-push, steps-accept, accepts-none, bit-less, bits-inside, state_after-same, state_after-some}
use Rattle.guest_boot.specs.Booting.{StandsAfter, IsEarly, AcceptedOut}
use Rattle.guest_boot.specs.declared.accept.Kept.{Kept}

-- Pages that are taken out of the table, accepted by sizes and put back.

-- what is done with the states of pages
pub record OnePiece (boot : Boot) (pages : Pages) (now : List ModuleCall) (table next old new : ℕ → Option PageState) : Type 0 where
  pub taken : (page : ℕ) → old page ≡ cond (in_range pages.first pages.count page) (table page) None
  pub steps : AcceptanceSteps boot.hosts (λ page. is_pending (old page)) (pages.first + pages.count) pages.first None now
  pub made : (page : ℕ) → new page ≡ state_after old now page
  pub put : (page : ℕ) → next page ≡ cond (in_range pages.first pages.count page) (new page) (table page)

choose-in : {A : Type 0} (b : Bool) (x y z : A) → cond b x (cond b z y) ≡ cond b x y
choose-in true x y z = refl
choose-in false x y z = refl

-- the span of an acceptance was put back
pub record PutBack (span : Taken) (mid new : Table) : Type 0 where
  pub states : (page : ℕ) → state_in new.runs page ≡ cond (in_range span.ticket.pages.first span.ticket.pages.count page) (state_in span.runs page) (state_in mid.runs page)
  pub out : new.out ≡ without span.ticket mid.out

pub one-piece : (boot : Boot) (old mid new : Table) (pages : Pages) (span : Taken) (now : List ModuleCall) (a : AcceptedOut boot.hosts old mid pages span now) → PutBack span mid new → OnePiece boot pages now (state_in old.runs) (state_in new.runs) (state_in a.taken.runs) (state_in span.runs)
one-piece boot old mid new pages span now a back =
    let ticket : span.ticket.pages ≡ pages = ap (λ (t : Ticket). t.pages) a.accepts.ticket ∙ a.pages_are in
    let P : Pages → Type 0 = λ p. AcceptanceSteps boot.hosts (pending_of a.taken) (p.first + p.count) p.first None now in
    record {
      taken = a.states;
      steps = subst P a.pages_are a.accepts.steps;
      made = a.accepts.states;
      put = λ page.
          back.states page ∙ ap (λ (p : Pages). cond (in_range p.first p.count page) (state_in span.runs page) (state_in mid.runs page)) ticket
          ∙ ap (cond (in_range pages.first pages.count page) (state_in span.runs page)) (a.rest page)
          ∙ choose-in (in_range pages.first pages.count page) (state_in span.runs page) (state_in old.runs page) None;
    }

without-one : (ticket : Ticket) → without ticket (ticket ∷ []) ≡ []
without-one ticket = ap (λ b. cond b [] (ticket ∷ [])) (same_ticket-refl ticket)

pub none-left : (hosts : List _) (old mid new : Table) (pages : Pages) (span : Taken) (now : List ModuleCall) → AcceptedOut hosts old mid pages span now → PutBack span mid new → new.out ≡ []
none-left hosts old mid new pages span now a back =
    back.out ∙ ap (without span.ticket) a.out ∙ ap (λ t. without t (a.taken.ticket ∷ [])) a.accepts.ticket ∙ without-one a.taken.ticket

piece-set : (boot : Boot) (done : List ModuleCall) (pages : Pages) (table old : ℕ → Option PageState) → ((page : ℕ) → table page ≡ page_state boot done page) → ((page : ℕ) → old page ≡ cond (in_range pages.first pages.count page) (table page) None) → (λ page. is_pending (old page)) ≡ pending_piece boot done pages
piece-set boot done pages table old states taken = fun_ext (λ page.
    ap is_pending (taken page) ∙ pending-if (in_range pages.first pages.count page) (table page)
    ∙ ap (λ s. in_range pages.first pages.count page && is_pending s) (states page))

-- the calls accept the pending pages
pub piece-steps : (boot : Boot) (done now : List ModuleCall) (pages : Pages) (table next old new : ℕ → Option PageState) → ((page : ℕ) → table page ≡ page_state boot done page) → OnePiece boot pages now table next old new → AcceptanceSteps boot.hosts (pending_piece boot done pages) (pages.first + pages.count) pages.first None now
piece-steps boot done now pages table next old new states one =
    let P : (ℕ → Bool) → Type 0 = λ set. AcceptanceSteps boot.hosts set (pages.first + pages.count) pages.first None now in
    subst P (piece-set boot done pages table old states one.taken) one.steps

-- the states after them
pub piece-states : (boot : Boot) (done now : List ModuleCall) (pages : Pages) (table next old new : ℕ → Option PageState) → ((page : ℕ) → table page ≡ page_state boot done page) → OnePiece boot pages now table next old new → (page : ℕ) → next page ≡ page_state boot (done ++ now) page
piece-states boot done now pages table next old new states one page =
    let after = ap (λ (f : ℕ → Option PageState). f page) (state_after-append (first_state_of boot.ram) done now) in
    elim (cases_Bool (in_range pages.first pages.count page)) [
      | inl t ↦
          one.put page ∙ ap (λ b. cond b (new page) (table page)) t ∙ one.made page
          ∙ state_after-same old (page_state boot done) now page (one.taken page ∙ ap (λ b. cond b (table page) None) t ∙ states page)
          ∙ sym after
      | inr f ↦
          one.put page ∙ ap (λ b. cond b (new page) (table page)) f ∙ states page
          ∙ sym (steps-outside boot.hosts (pending_piece boot done pages) _ _ None now (page_state boot done) page (ap (λ b. b && is_pending (page_state boot done page)) f) (piece-steps boot done now pages table next old new states one))
          ∙ sym after
    ]

-- of a unit that is unaccepted the bit says that a page of it is pending
bit-now : (boot : Boot) (done : List ModuleCall) (unit : ℕ) → MarksArePending boot done → bit_after boot done unit ≡ true → bit_after boot done unit ≡ any_such (λ page. is_pending (page_state boot done page)) (unit_first boot unit) (unit_pages boot)
bit-now boot done unit marks set =
    let P : List ModuleCall → Type 0 = λ calls. bit_after boot calls unit ≡ any_such (λ page. is_pending (page_state boot calls page)) (unit_first boot unit) (unit_pages boot) in
    subst P (append-nil done) (bits-inside boot done [] unit marks tt set)

-- pages apart from all units that were set at first change no bit
pub apart-bits : (boot : Boot) (done now : List ModuleCall) (pages : Pages) → ((unit page : ℕ) → bit_of boot.bits unit ≡ true → in_range (unit_first boot unit) (unit_pages boot) page ≡ true → in_range pages.first pages.count page ≡ false)
    → MarksArePending boot done → ((unit : ℕ) → bit_after boot done unit ≡ true → bit_of boot.bits unit ≡ true) → AcceptanceSteps boot.hosts (pending_piece boot done pages) (pages.first + pages.count) pages.first None now → (unit : ℕ) → bit_after boot done unit ≡ bit_after boot (done ++ now) unit
apart-bits boot done now pages apart marks held steps unit =
    let accepts = steps-accept boot.hosts _ _ _ None now steps in
    elim (cases_Bool (bit_after boot done unit)) [
      | inl t ↦
          (bit-now boot done unit marks t
          ∙ any_such_same (λ page. is_pending (page_state boot done page)) (λ page. is_pending (page_state boot (done ++ now) page)) (unit_first boot unit) (unit_pages boot) (record {
            same = λ page low high.
                let out = apart unit page (held unit t) (in_range-intro (unit_first boot unit) (unit_pages boot) page low high) in
                ap is_pending
                (sym (steps-outside boot.hosts (pending_piece boot done pages) _ _ None now (page_state boot done) page (ap (λ b. b && is_pending (page_state boot done page)) out) steps)
                ∙ sym (ap (λ (f : ℕ → Option PageState). f page) (state_after-append (first_state_of boot.ram) done now)));
          })
          ∙ sym (bits-inside boot done now unit marks accepts t))
      | inr f ↦ f ∙ sym (false_from_ne_true _ (λ set. let no : true ≡ false = sym (bit-less boot done now unit (accepts-none now accepts) set) ∙ f in cc))
    ]

pub piece-sound : (boot : Boot) (done now : List ModuleCall) (pages : Pages) → SoundCalls (first_state_of boot.ram) done → AcceptanceSteps boot.hosts (pending_piece boot done pages) (pages.first + pages.count) pages.first None now → SoundCalls (first_state_of boot.ram) (done ++ now)
piece-sound boot done now pages sound steps =
    SoundCalls-append (first_state_of boot.ram) done now sound
    (steps-sound boot.hosts _ _ _ _ now (page_state boot done) (λ page low in_set. pending-is (page_state boot done page) ((and_parts _ _ in_set).1)) steps)

-- ---- an early piece

few-of : (boot : Boot) (first count : ℕ) → IsBooted boot → ((page : ℕ) → in_range first count page ≡ true → first_state_of boot.ram page ≡ Some Pending) → count ≤ 2 ^ 28
few-of boot first zero booted pending = omega arith
few-of boot first (suc n) booted pending =
    let is = pending (first + n) (in_range-intro first (suc n) (first + n) (omega arith) (omega arith)) in
    let low = booted.low (first + n) (λ none. let no : Some Pending ≡ None = sym is ∙ none in cc) in
    omega (arith, low)

pub early-few : (boot : Boot) (pages : Pages) → IsBooted boot → IsEarly boot pages → pages.count ≤ 2 ^ 28
early-few boot pages booted early = few-of boot pages.first pages.count booted early.pending

pub early-here : (boot : Boot) (done : List ModuleCall) (pages : Pages) (table : ℕ → Option PageState) → ((page : ℕ) → table page ≡ page_state boot done page) → IsEarly boot pages → (page : ℕ) → in_range pages.first pages.count page ≡ true → table page ≢ None
early-here boot done pages table states early page inside = λ none.
    state_after-some (first_state_of boot.ram) done page (λ no. let bad : Some Pending ≡ None = sym (early.pending page inside) ∙ no in cc) (sym (states page) ∙ none)

-- what is kept after an early piece
pub piece-stands : (boot : Boot) (done now : List ModuleCall) (kept : Kept) (mid new : Table) (pages : Pages) (span : Taken) (next : Kept) → StandsAfter boot done kept → IsEarly boot pages → AcceptedOut boot.hosts kept.table mid pages span now → PutBack span mid new
    → next.table ≡ new → next.bits ≡ kept.bits → next.calls.items ≡ kept.calls.items ++ now → StandsAfter boot (done ++ now) next
piece-stands boot done now kept mid new pages span next stands early a back table_is bits_is calls_is =
    let one = one-piece boot kept.table mid new pages span now a back in
    let steps = piece-steps boot done now pages (state_in kept.table.runs) (state_in new.runs) (state_in a.taken.runs) (state_in span.runs) stands.states one in
    let accepts = steps-accept boot.hosts _ _ _ None now steps in
    let B : Option Bits → Type 0 = BitsAfter boot (done ++ now) in
    record {
      states = λ page. ap (λ (t : Table). state_in t.runs page) table_is ∙ piece-states boot done now pages (state_in kept.table.runs) (state_in new.runs) (state_in a.taken.runs) (state_in span.runs) stands.states one page;
      none_out = ap (λ (t : Table). t.out) table_is ∙ none-left boot.hosts kept.table mid new pages span now a back;
      bits = subst B (sym bits_is) (record { same = stands.bits.same; set = λ unit. stands.bits.set unit ∙ apart-bits boot done now pages early.apart stands.marks stands.held steps unit });
      marks = marks-push boot done now stands.marks accepts;
      held = λ unit set. stands.held unit (bit-less boot done now unit (accepts-none now accepts) set);
      sound = piece-sound boot done now pages stands.sound steps;
      calls = calls_is ∙ ap (λ cs. cs ++ now) stands.calls;
    }

pub piece-accepts : (boot : Boot) (done now : List ModuleCall) (kept : Kept) (mid new : Table) (pages : Pages) (span : Taken) (stop : Option Page) → StandsAfter boot done kept → AcceptedOut boot.hosts kept.table mid pages span now → PutBack span mid new → stop ≡ stop_of now → AcceptsPiece boot done pages now stop
piece-accepts boot done now kept mid new pages span stop stands a back is =
    (piece-steps boot done now pages (state_in kept.table.runs) (state_in new.runs) (state_in a.taken.runs) (state_in span.runs) stands.states (one-piece boot kept.table mid new pages span now a back), is)
