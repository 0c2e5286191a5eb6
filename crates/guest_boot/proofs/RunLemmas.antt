use Rattle.std.proofs.Common.{◌≡◌, ◌≢◌, ℕ, ◌+◌, ◌^◌, ◌<◌, ◌≤◌, true, false, Option, None, Some, List, ◌++◌, sym, ◌∙◌, ap, subst, arith, cond}
use Rattle.guest_base.specs.Ranges.{in_range}
use Rattle.guest_base.specs.Search.{any_such}
use Rattle.guest_base.specs.declared.memory.Page.{Page}
use Rattle.guest_base.specs.declared.memory.Pages.{Pages}
use Rattle.guest_base.specs.declared.memory.PageState.TheVariants.{Pending}
use Rattle.guest_base.specs.declared.memory.Units.{Units}
use Rattle.event_core.specs.declared.boot.Boot.{Boot}
use Rattle.event_core.specs.declared.module_call.ModuleCall.{ModuleCall}
use Rattle.event_core.specs.Acceptance.{stop_of}
use Rattle.event_core.specs.Boot.{AcceptsRun}
use Rattle.event_core.specs.MemoryRows.{AcceptsUnits}
use Rattle.event_core.specs.Runs.{state_in as first_state_of}
use Rattle.event_core.specs.Units.{bit_after, unit_first, unit_pages}
use Rattle.event_core.proofs.SoundLemmas.{SoundCalls-append, accepts-sound}
use Rattle.page_module.specs.States.{state_in}
use Rattle.page_module.specs.Spans.{Taken}
use Rattle.page_module.specs.Tables.{Table}
use Rattle.accept_sizes.specs.Accepts.{pending_of}
use Rattle.event_core.specs.Table.{Bits}
use Rattle.memory_core.specs.Bitmaps.{bits_in, BitsAfter, PagesOf, ClearedIn}
use Rattle.memory_core.specs.Booted.{IsBooted, UnitsAreRam}
use Rattle.memory_core.specs.Steps.{pages_of}
use Rattle.memory_core.proofs.BitsLemmas.{run-pages-are, cleared-bits, cleared-same}
use Rattle.memory_core.proofs.RunLemmas.{Stands, OneRun, run-accepts, run-stands, steps-accept, accepts-none, bit-less}
use Rattle.memory_core.proofs.UnitsLemmas.{run-low, run-page-some}
use Rattle.guest_boot.specs.Booting.{StandsAfter, AcceptedOut}
use Rattle.guest_boot.specs.declared.accept.Kept.{Kept}
use Rattle.guest_boot.proofs.PieceLemmas.{PutBack, OnePiece, one-piece, none-left}

-- A run of unaccepted units that is accepted by sizes.

-- the units of the run are unaccepted, and these are its pages
pub record RunOf (boot : Boot) (done : List ModuleCall) (kept : Kept) (run : Units) (pages : Pages) : Type 0 where
  pub booted : IsBooted boot
  pub stands : StandsAfter boot done kept
  pub some : 0 < run.count
  pub set : (unit : ℕ) → in_range run.first run.count unit ≡ true → bits_in kept.bits unit ≡ true
  pub pages_are : PagesOf kept.bits run pages

-- the pages of unaccepted units are RAM
units-ram : (boot : Boot) (done : List ModuleCall) (kept : Kept) → IsBooted boot → StandsAfter boot done kept → UnitsAreRam boot done
units-ram boot done kept booted stands unit page set inside = λ none. (let bad : Some Pending ≡ None = sym (booted.pending unit page (stands.held unit set) inside) ∙ none in cc)

set-after : (boot : Boot) (done : List ModuleCall) (kept : Kept) (run : Units) (pages : Pages) → RunOf boot done kept run pages → (unit : ℕ) → in_range run.first run.count unit ≡ true → bit_after boot done unit ≡ true
set-after boot done kept run pages of unit inside = sym (of.stands.bits.set unit) ∙ of.set unit inside

pages-are : (boot : Boot) (done : List ModuleCall) (kept : Kept) (run : Units) (pages : Pages) → RunOf boot done kept run pages → pages ≡ pages_of boot run
pages-are boot done kept run pages of = run-pages-are boot kept.bits run pages of.stands.bits.same of.pages_are

pub run-few : (boot : Boot) (done : List ModuleCall) (kept : Kept) (run : Units) (pages : Pages) → RunOf boot done kept run pages → pages.count ≤ 2 ^ 28
run-few boot done kept run pages of =
    let low = run-low boot done run of.booted (units-ram boot done kept of.booted of.stands) of.some (set-after boot done kept run pages of) in
    let count = ap (λ (p : Pages). p.count) (pages-are boot done kept run pages of) in
    omega (arith, low.0, count)

pub run-ends : (boot : Boot) (done : List ModuleCall) (kept : Kept) (run : Units) (pages : Pages) → RunOf boot done kept run pages → run.first + run.count < 2 ^ 64
run-ends boot done kept run pages of =
    let low = run-low boot done run of.booted (units-ram boot done kept of.booted of.stands) of.some (set-after boot done kept run pages of) in
    omega (arith, low.1)

pub run-here : (boot : Boot) (done : List ModuleCall) (kept : Kept) (run : Units) (pages : Pages) → RunOf boot done kept run pages → (page : ℕ) → in_range pages.first pages.count page ≡ true → state_in kept.table.runs page ≢ None
run-here boot done kept run pages of page inside = λ none.
    run-page-some boot done run (units-ram boot done kept of.booted of.stands) (set-after boot done kept run pages of) page
    (sym (ap (λ (p : Pages). in_range p.first p.count page) (pages-are boot done kept run pages of)) ∙ inside)
    (sym (of.stands.states page) ∙ none)

-- ---- after the acceptance

-- the run's pages were accepted and put back, and the bits of its units cleared
pub record RunDone (boot : Boot) (done now : List ModuleCall) (kept : Kept) (mid new : Table) (bits : Option Bits) (run : Units) (pages : Pages) (span : Taken) (cleared : ℕ) : Type 0 where
  pub of : RunOf boot done kept run pages
  pub out : AcceptedOut boot.hosts kept.table mid pages span now
  pub back : PutBack span mid new
  pub cleared_in : ClearedIn kept.bits bits (pending_of span) run cleared

the-run : (boot : Boot) (done now : List ModuleCall) (kept : Kept) (mid new : Table) (bits : Option Bits) (run : Units) (pages : Pages) (span : Taken) (cleared : ℕ) (d : RunDone boot done now kept mid new bits run pages span cleared) → OneRun boot run now (state_in kept.table.runs) (state_in new.runs) (state_in d.out.taken.runs) (state_in span.runs) (bits_in kept.bits) (bits_in bits)
the-run boot done now kept mid new bits run pages span cleared d =
    let P : Pages → Type 0 = λ p. OnePiece boot p now (state_in kept.table.runs) (state_in new.runs) (state_in d.out.taken.runs) (state_in span.runs) in
    let one = subst P (pages-are boot done kept run pages d.of) (one-piece boot kept.table mid new pages span now d.out d.back) in
    record {
      set = d.of.set;
      taken = one.taken;
      steps = one.steps;
      made = one.made;
      put = one.put;
      clears = cleared-bits boot kept.bits bits (pending_of span) run cleared d.of.stands.bits.same d.of.set d.cleared_in;
    }

the-stands : (boot : Boot) (done : List ModuleCall) (kept : Kept) → IsBooted boot → StandsAfter boot done kept → Stands boot done (state_in kept.table.runs) (bits_in kept.bits)
the-stands boot done kept booted stands = record { states = stands.states; bits = stands.bits.set; marks = stands.marks; ram = units-ram boot done kept booted stands }

run-calls : (boot : Boot) (done now : List ModuleCall) (kept : Kept) (mid new : Table) (bits : Option Bits) (run : Units) (pages : Pages) (span : Taken) (cleared : ℕ) → RunDone boot done now kept mid new bits run pages span cleared → AcceptsUnits boot done run now
run-calls boot done now kept mid new bits run pages span cleared d =
    run-accepts boot done now run (state_in kept.table.runs) (state_in new.runs) (state_in d.out.taken.runs) (state_in span.runs) (bits_in kept.bits) (bits_in bits) (the-stands boot done kept d.of.booted d.of.stands)
    (the-run boot done now kept mid new bits run pages span cleared d)

pub run-made : (boot : Boot) (done now : List ModuleCall) (kept : Kept) (mid new : Table) (bits : Option Bits) (run : Units) (pages : Pages) (span : Taken) (cleared : ℕ) (stop : Option Page) → RunDone boot done now kept mid new bits run pages span cleared → stop ≡ stop_of now → AcceptsRun boot done run now stop
run-made boot done now kept mid new bits run pages span cleared stop d is = (run-calls boot done now kept mid new bits run pages span cleared d, is)

-- what is kept after the run
pub run-after : (boot : Boot) (done now : List ModuleCall) (kept : Kept) (mid new : Table) (bits : Option Bits) (run : Units) (pages : Pages) (span : Taken) (cleared : ℕ) (next : Kept) → RunDone boot done now kept mid new bits run pages span cleared
    → next.table ≡ new → next.bits ≡ bits → next.calls.items ≡ kept.calls.items ++ now → StandsAfter boot (done ++ now) next
run-after boot done now kept mid new bits run pages span cleared next d table_is bits_is calls_is =
    let after =
    run-stands boot done now run (state_in kept.table.runs) (state_in new.runs) (state_in d.out.taken.runs) (state_in span.runs) (bits_in kept.bits) (bits_in bits) (the-stands boot done kept d.of.booted d.of.stands)
    (the-run boot done now kept mid new bits run pages span cleared d) in
    let B : Option Bits → Type 0 = BitsAfter boot (done ++ now) in
    record {
      states = λ page. ap (λ (t : Table). state_in t.runs page) table_is ∙ after.states page;
      none_out = ap (λ (t : Table). t.out) table_is ∙ none-left boot.hosts kept.table mid new pages span now d.out d.back;
      bits = subst B (sym bits_is) (record { same = cleared-same boot kept.bits bits (pending_of span) run cleared d.of.stands.bits.same d.cleared_in; set = after.bits });
      marks = after.marks;
      held = λ unit set. d.of.stands.held unit (bit-less boot done now unit (accepts-none now (steps-accept boot.hosts _ _ _ None now (run-calls boot done now kept mid new bits run pages span cleared d))) set);
      sound = SoundCalls-append (first_state_of boot.ram) done now d.of.stands.sound (accepts-sound boot done run now (run-calls boot done now kept mid new bits run pages span cleared d));
      calls = calls_is ∙ ap (λ cs. cs ++ now) d.of.stands.calls;
    }

-- the bits of other units stay
pub run-others : (boot : Boot) (done now : List ModuleCall) (kept : Kept) (mid new : Table) (bits : Option Bits) (run : Units) (pages : Pages) (span : Taken) (cleared : ℕ) → RunDone boot done now kept mid new bits run pages span cleared → (unit : ℕ) → in_range run.first run.count unit ≡ false → bits_in bits unit ≡ bits_in kept.bits unit
run-others boot done now kept mid new bits run pages span cleared d unit out =
    cleared-bits boot kept.bits bits (pending_of span) run cleared d.of.stands.bits.same d.of.set d.cleared_in unit
    ∙ ap (λ b. cond b (any_such (pending_of span) (unit_first boot unit) (unit_pages boot)) (bits_in kept.bits unit)) out
