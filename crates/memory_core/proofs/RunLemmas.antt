use Rattle.std.proofs.Common.{◌≡◌, ◌≢◌, ℕ, ◌+◌, ◌*◌, ◌/◌, ◌≤◌, Bool, true, false, ◌&&◌, Option, None, Some, List, [], ◌∷◌, ◌++◌, refl, sym, ◌∙◌, ap, subst, inl, inr, arith, cond}
use Rattle.std.specs.Prelude.{fold, nat_lt, if◌then◌else◌, not}
use mathlib.Core.Path.{fun_ext}
use Rattle.std.specs.List.{AllByRecursion}
use Rattle.std.proofs.Math.Nat.{mul-le-mul_right}
use Rattle.std.proofs.lemmas.Bool.{cases_Bool, cases_lt}
use Rattle.std.proofs.lemmas.List.Sums.{fold-append}
use Rattle.guest_base.proofs.RangeLemmas.{in_range-intro, in_range-elim, in_range-below, in_range-past}
use Rattle.guest_base.specs.Ranges.{in_range}
use Rattle.guest_base.specs.Search.{any_such, count_such}
use Rattle.guest_base.proofs.SearchLemmas.{any_such_same, any_such_is, any_such-true, count_such_same}
use Rattle.guest_base.specs.declared.memory.Units.{Units}
use Rattle.guest_base.specs.declared.memory.Level.{Level}
use Rattle.guest_base.specs.declared.memory.HostRun.{HostRun}
use Rattle.guest_base.specs.declared.memory.PageState.{PageState}
use Rattle.guest_base.specs.declared.memory.PageState.TheVariants.{Pending, Accepted}
use Rattle.event_core.specs.declared.boot.Boot.{Boot}
use Rattle.event_core.specs.declared.module_call.CallKind.{CallKind}
use Rattle.event_core.specs.declared.module_call.CallKind.TheVariants.{Accept, Share, Unshare, Give}
use Rattle.event_core.specs.declared.module_call.ModuleCall.{ModuleCall}
use Rattle.event_core.specs.Calls.{States, is_done, covers, after_call, state_after, state_made}
use Rattle.event_core.specs.Runs.{state_in as state_by}
use Rattle.event_core.specs.Units.{bit_of, bit_after, is_marked, mark_step, mark_made, unit_count, unit_first, unit_pages, units_cleared}
use Rattle.event_core.specs.Acceptance.{AcceptanceSteps, goes_on_at, tried_at}
use Rattle.event_core.specs.MemoryRows.{page_state, is_pending, pending_in, pages_first, pages_count, AcceptsUnits}
use Rattle.event_core.proofs.BootFacts.{TakesNone}
use Rattle.event_core.proofs.StepsLemmas.{steps-covers, steps-outside, not_both, pending-if}
use Rattle.event_core.proofs.SoundLemmas.{state_after-append}
use Rattle.memory_core.specs.Booted.{MarksArePending, UnitsAreRam}

-- states of all pages and bits of units that are those after module calls
pub record Stands (boot : Boot) (calls : List ModuleCall) (table : ℕ → Option PageState) (set : ℕ → Bool) : Type 0 where
  pub states : (page : ℕ) → table page ≡ page_state boot calls page
  pub bits : (unit : ℕ) → set unit ≡ bit_after boot calls unit
  pub marks : MarksArePending boot calls
  pub ram : UnitsAreRam boot calls

abbrev pub IsAccept : ModuleCall → Type 0
IsAccept call = call.kind ≡ Accept

-- calls of acceptance steps are accept calls
pub steps-accept : (hosts : List HostRun) (set : ℕ → Bool) (end from : ℕ) (tried : Option Level) (calls : List ModuleCall) → AcceptanceSteps hosts set end from tried calls → AllByRecursion IsAccept calls
steps-accept hosts set end from tried [] steps = tt
steps-accept hosts set end from tried (call ∷ calls) steps = (steps.2.kind, steps-accept hosts set end (goes_on_at call) (tried_at call) calls steps.4)

mark-accept : (page : ℕ) (call : ModuleCall) (marked : Bool) → call.kind ≡ Accept → mark_step page marked call ≡ cond (is_done call && covers call page) false marked
mark-accept page call marked kind = ap (λ k. cond (is_done call && covers call page) (mark_made k marked) marked) kind

pending-accepted : (b : Bool) (s : Option PageState) → is_pending (cond b (Some (state_made Accept)) s) ≡ cond b false (is_pending s)
pending-accepted true s = refl
pending-accepted false s = refl

pending-after : (b : Bool) (s : Option PageState) (kind : CallKind) → kind ≡ Accept → is_pending (cond b (Some (state_made kind)) s) ≡ cond b false (is_pending s)
pending-after b s kind is = ap (λ k. is_pending (cond b (Some (state_made k)) s)) is ∙ pending-accepted b s

-- what is marked goes on to be what is pending
marks-fold : (page : ℕ) (calls : List ModuleCall) (marked : Bool) (states : States) → marked ≡ is_pending (states page) → AllByRecursion IsAccept calls → fold (mark_step page) marked calls ≡ is_pending (state_after states calls page)
marks-fold page [] marked states is all = is
marks-fold page (call ∷ calls) marked states is all =
    marks-fold page calls (mark_step page marked call) (after_call states call)
    (mark-accept page call marked all.0 ∙ ap (cond (is_done call && covers call page) false) is ∙ sym (pending-after (is_done call && covers call page) (states page) call.kind all.0))
    all.1

made-less : (kind : CallKind) (marked : Bool) → state_made kind ≢ Pending → mark_made kind marked ≡ true → marked ≡ true
made-less Accept marked none h = cc
made-less Share marked none h = h
made-less Unshare marked none h = absurd (none refl)
made-less Give marked none h = absurd (none refl)

step-less : (b marked : Bool) (kind : CallKind) → state_made kind ≢ Pending → cond b (mark_made kind marked) marked ≡ true → marked ≡ true
step-less true marked kind none h = made-less kind marked none h
step-less false marked kind none h = h

-- calls that make no page pending mark no page
marks-less : (page : ℕ) (calls : List ModuleCall) (marked : Bool) → AllByRecursion TakesNone calls → fold (mark_step page) marked calls ≡ true → marked ≡ true
marks-less page [] marked all h = h
marks-less page (call ∷ calls) marked all h =
    step-less (is_done call && covers call page) marked call.kind all.0 (marks-less page calls (mark_step page marked call) all.1 h)

any-less : (test other : ℕ → Bool) (first count : ℕ) → ((n : ℕ) → test n ≡ true → other n ≡ true) → any_such test first count ≡ true → any_such other first count ≡ true
any-less test other first count less h =
    let found = any_such-true test first count h in
    any_such_is other first count found.0 found.1.low found.1.high (less found.0 found.1.passes)

first_of_two : (b c : Bool) → elim b as (λ _. Bool) [ true ↦ c | false ↦ false ] ≡ true → b ≡ true
first_of_two true c h = refl
first_of_two false c h = cc

second_less : (b c d : Bool) → (c ≡ true → d ≡ true) → elim b as (λ _. Bool) [ true ↦ c | false ↦ false ] ≡ true → elim b as (λ _. Bool) [ true ↦ d | false ↦ false ] ≡ true
second_less true c d less h = less h
second_less false c d less h = h

-- so they set no bit
pub bit-less : (boot : Boot) (calls now : List ModuleCall) (unit : ℕ) → AllByRecursion TakesNone now → bit_after boot (calls ++ now) unit ≡ true → bit_after boot calls unit ≡ true
unfolding bit_after
bit-less boot calls now unit none h =
    second_less (nat_lt unit (unit_count boot.bits)) _ _
    (any-less (is_marked (bit_of boot.bits unit) (calls ++ now)) (is_marked (bit_of boot.bits unit) calls) (unit_first boot unit) (unit_pages boot)
    (λ page set. marks-less page now (is_marked (bit_of boot.bits unit) calls page) none (sym (fold-append (mark_step page) (bit_of boot.bits unit) calls now) ∙ set)))
    h

pub accepts-none : (calls : List ModuleCall) → AllByRecursion IsAccept calls → AllByRecursion TakesNone calls
accepts-none [] all = tt
accepts-none (call ∷ calls) all = ((λ no. let bad : Accepted ≡ Pending = ap state_made (sym all.0) ∙ no in cc), accepts-none calls all.1)

-- the pages of unaccepted units stay RAM
pub ram-push : (boot : Boot) (calls now : List ModuleCall) → UnitsAreRam boot calls → AllByRecursion TakesNone now → UnitsAreRam boot (calls ++ now)
ram-push boot calls now ram none unit page set inside = ram unit page (bit-less boot calls now unit none set) inside

-- the pages of an unaccepted unit go on to be marked where they are pending
mark-page : (boot : Boot) (calls now : List ModuleCall) → MarksArePending boot calls → AllByRecursion IsAccept now
    → (unit page : ℕ) → bit_after boot calls unit ≡ true → in_range (unit_first boot unit) (unit_pages boot) page ≡ true
    → is_marked (bit_of boot.bits unit) (calls ++ now) page ≡ is_pending (page_state boot (calls ++ now) page)
mark-page boot calls now marks accept unit page set inside =
    fold-append (mark_step page) (bit_of boot.bits unit) calls now
    ∙ marks-fold page now (is_marked (bit_of boot.bits unit) calls page) (page_state boot calls) (marks unit page set inside) accept
    ∙ ap (λ (f : ℕ → Option PageState). is_pending (f page)) (sym (state_after-append (state_by boot.ram) calls now))

pub marks-push : (boot : Boot) (calls now : List ModuleCall) → MarksArePending boot calls → AllByRecursion IsAccept now → MarksArePending boot (calls ++ now)
marks-push boot calls now marks accept unit page set inside = mark-page boot calls now marks accept unit page (bit-less boot calls now unit (accepts-none now accept) set) inside

-- calls that don't cover a page leave its mark
marks-outside : (hosts : List HostRun) (set : ℕ → Bool) (end from : ℕ) (tried : Option Level) (calls : List ModuleCall) (marked : Bool) (page : ℕ) → set page ≡ false → AcceptanceSteps hosts set end from tried calls → fold (mark_step page) marked calls ≡ marked
marks-outside hosts set end from tried [] marked page out steps = refl
marks-outside hosts set end from tried (call ∷ calls) marked page out steps =
    marks-outside hosts set end (goes_on_at call) (tried_at call) calls (mark_step page marked call) page out steps.4
    ∙ mark-accept page call marked steps.2.kind
    ∙ not_both (is_done call) (covers call page) _ _ (λ _. elim (cases_Bool (covers call page)) [
      | inl covered ↦ (let no : true ≡ false = sym (steps-covers set call.first tried call steps.1 refl steps.2 page covered).1 ∙ out in cc)
      | inr uncovered ↦ uncovered
    ])

-- ---- the pages of units

-- the pages of a unit outside a run of units aren't the run's
pub apart-pages : (boot : Boot) (run : Units) (unit page : ℕ) → in_range run.first run.count unit ≡ false → in_range (unit_first boot unit) (unit_pages boot) page ≡ true → in_range (pages_first boot run) (pages_count boot run) page ≡ false
apart-pages boot run unit page out inside =
    let here = in_range-elim (unit_first boot unit) (unit_pages boot) page inside in
    let size = unit_pages boot in
    let base = boot.base / 4096 in
    elim (cases_lt unit run.first) [
      | inl below ↦
          (let le : (unit + 1) * size ≤ run.first * size = mul-le-mul_right size (let l : unit + 1 ≤ run.first = omega arith in l) in
          let more : (unit + 1) * size ≡ unit * size + size = omega arith in
          in_range-below (pages_first boot run) (pages_count boot run) page (omega (arith, here.1, le, more)))
      | inr low ↦ elim (cases_lt unit (run.first + run.count)) [
        | inl high ↦ (let no : true ≡ false = sym (in_range-intro run.first run.count unit low high) ∙ out in cc)
        | inr above ↦
            (let le : (run.first + run.count) * size ≤ unit * size = mul-le-mul_right size above in
            let more : (run.first + run.count) * size ≡ run.first * size + run.count * size = omega arith in
            in_range-past (pages_first boot run) (pages_count boot run) page (omega (arith, here.0, le, more)))
      ]
    ]

-- the pages of a unit of a run are the run's
pub within-pages : (boot : Boot) (run : Units) (unit page : ℕ) → in_range run.first run.count unit ≡ true → in_range (unit_first boot unit) (unit_pages boot) page ≡ true → in_range (pages_first boot run) (pages_count boot run) page ≡ true
within-pages boot run unit page in_run inside =
    let here = in_range-elim (unit_first boot unit) (unit_pages boot) page inside in
    let at = in_range-elim run.first run.count unit in_run in
    let size = unit_pages boot in
    let low : run.first * size ≤ unit * size = mul-le-mul_right size at.0 in
    let high : (unit + 1) * size ≤ (run.first + run.count) * size = mul-le-mul_right size (let l : unit + 1 ≤ run.first + run.count = omega (arith, at.1) in l) in
    let one : (unit + 1) * size ≡ unit * size + size = omega arith in
    let all : (run.first + run.count) * size ≡ run.first * size + run.count * size = omega arith in
    in_range-intro (pages_first boot run) (pages_count boot run) page (omega (arith, here.0, low)) (omega (arith, here.1, high, one, all))

-- ---- the bits after a run

when-set : (b : Bool) (x y : Bool) → (b ≡ true → x ≡ y) → elim b as (λ _. Bool) [ true ↦ x | false ↦ false ] ≡ elim b as (λ _. Bool) [ true ↦ y | false ↦ false ]
when-set true x y h = h refl
when-set false x y h = refl

-- a bit outside the run stays
pub bits-outside : (boot : Boot) (calls now : List ModuleCall) (run : Units) (unit : ℕ) → AcceptsUnits boot calls run now → in_range run.first run.count unit ≡ false → bit_after boot (calls ++ now) unit ≡ bit_after boot calls unit
unfolding bit_after pending_in
bits-outside boot calls now run unit steps out =
    let first = bit_of boot.bits unit in
    when-set (nat_lt unit (unit_count boot.bits)) _ _ (λ here.
    any_such_same (is_marked first (calls ++ now)) (is_marked first calls) (unit_first boot unit) (unit_pages boot) (record {
      same = λ page low high.
          let apart = apart-pages boot run unit page out (in_range-intro (unit_first boot unit) (unit_pages boot) page low high) in
          fold-append (mark_step page) first calls now
          ∙ marks-outside boot.hosts _ _ _ None now (is_marked first calls page) page (ap (λ b. b && is_pending (page_state boot calls page)) apart) steps;
    }))

-- of a unit that was unaccepted the bit stays where a page of the unit is pending
pub bits-inside : (boot : Boot) (calls now : List ModuleCall) (unit : ℕ) → MarksArePending boot calls → AllByRecursion IsAccept now → bit_after boot calls unit ≡ true → bit_after boot (calls ++ now) unit ≡ any_such (λ page. is_pending (page_state boot (calls ++ now) page)) (unit_first boot unit) (unit_pages boot)
unfolding bit_after
bits-inside boot calls now unit marks accept set =
    ap (λ b. elim b as (λ _. Bool) [ true ↦ any_such (is_marked (bit_of boot.bits unit) (calls ++ now)) (unit_first boot unit) (unit_pages boot) | false ↦ false ]) (first_of_two (nat_lt unit (unit_count boot.bits)) _ set)
    ∙ any_such_same (is_marked (bit_of boot.bits unit) (calls ++ now)) (λ page. is_pending (page_state boot (calls ++ now) page)) (unit_first boot unit) (unit_pages boot) (record {
      same = λ page low high. mark-page boot calls now marks accept unit page set (in_range-intro (unit_first boot unit) (unit_pages boot) page low high);
    })

-- ---- the states after a run

pub state_after-same : (s t : States) (calls : List ModuleCall) (page : ℕ) → s page ≡ t page → state_after s calls page ≡ state_after t calls page
state_after-same s t [] page h = h
state_after-same s t (call ∷ calls) page h = state_after-same (after_call s call) (after_call t call) calls page (ap (cond (is_done call && covers call page) (Some (state_made call.kind))) h)

-- ---- one run

-- the pages of a run are taken out with their states, accepted by sizes and put back, and the bits of units without a pending
-- page are cleared
pub record OneRun (boot : Boot) (run : Units) (now : List ModuleCall) (table next old new : ℕ → Option PageState) (bits cleared : ℕ → Bool) : Type 0 where
  pub set : (unit : ℕ) → in_range run.first run.count unit ≡ true → bits unit ≡ true
  pub taken : (page : ℕ) → old page ≡ cond (in_range (pages_first boot run) (pages_count boot run) page) (table page) None
  pub steps : AcceptanceSteps boot.hosts (λ page. is_pending (old page)) (pages_first boot run + pages_count boot run) (pages_first boot run) None now
  pub made : (page : ℕ) → new page ≡ state_after old now page
  pub put : (page : ℕ) → next page ≡ cond (in_range (pages_first boot run) (pages_count boot run) page) (new page) (table page)
  pub clears : (unit : ℕ) → cleared unit ≡ cond (in_range run.first run.count unit) (any_such (λ page. is_pending (new page)) (unit_first boot unit) (unit_pages boot)) (bits unit)

-- the set that was accepted is the run's
same-set : (boot : Boot) (calls : List ModuleCall) (run : Units) (table old : ℕ → Option PageState) → ((page : ℕ) → table page ≡ page_state boot calls page) → ((page : ℕ) → old page ≡ cond (in_range (pages_first boot run) (pages_count boot run) page) (table page) None) → (λ page. is_pending (old page)) ≡ pending_in boot calls run
unfolding pending_in
same-set boot calls run table old states taken = fun_ext (λ page.
    ap is_pending (taken page) ∙ pending-if (in_range (pages_first boot run) (pages_count boot run) page) (table page)
    ∙ ap (λ s. in_range (pages_first boot run) (pages_count boot run) page && is_pending s) (states page))

pub run-accepts : (boot : Boot) (calls now : List ModuleCall) (run : Units) (table next old new : ℕ → Option PageState) (bits cleared : ℕ → Bool) → Stands boot calls table bits → OneRun boot run now table next old new bits cleared → AcceptsUnits boot calls run now
run-accepts boot calls now run table next old new bits cleared stands one =
    let P : (ℕ → Bool) → Type 0 = λ set. AcceptanceSteps boot.hosts set (pages_first boot run + pages_count boot run) (pages_first boot run) None now in
    subst P (same-set boot calls run table old stands.states one.taken) one.steps

-- a page outside the run isn't in its set
out-of-set : (boot : Boot) (calls : List ModuleCall) (run : Units) (page : ℕ) → in_range (pages_first boot run) (pages_count boot run) page ≡ false → pending_in boot calls run page ≡ false
unfolding pending_in
out-of-set boot calls run page out = ap (λ b. b && is_pending (page_state boot calls page)) out

-- the states behind the run
run-states : (boot : Boot) (calls now : List ModuleCall) (run : Units) (table next old new : ℕ → Option PageState) (bits cleared : ℕ → Bool) → Stands boot calls table bits → OneRun boot run now table next old new bits cleared → (page : ℕ) → next page ≡ page_state boot (calls ++ now) page
run-states boot calls now run table next old new bits cleared stands one page =
    let after = ap (λ (f : ℕ → Option PageState). f page) (state_after-append (state_by boot.ram) calls now) in
    elim (cases_Bool (in_range (pages_first boot run) (pages_count boot run) page)) [
      | inl t ↦
          one.put page ∙ ap (λ b. cond b (new page) (table page)) t ∙ one.made page
          ∙ state_after-same old (page_state boot calls) now page (one.taken page ∙ ap (λ b. cond b (table page) None) t ∙ stands.states page)
          ∙ sym after
      | inr f ↦
          one.put page ∙ ap (λ b. cond b (new page) (table page)) f ∙ stands.states page
          ∙ sym (steps-outside boot.hosts (pending_in boot calls run) _ _ None now (page_state boot calls) page (out-of-set boot calls run page f) (run-accepts boot calls now run table next old new bits cleared stands one))
          ∙ sym after
    ]

-- a page of the run after it
run-page : (boot : Boot) (calls now : List ModuleCall) (run : Units) (table next old new : ℕ → Option PageState) (bits cleared : ℕ → Bool) → Stands boot calls table bits → OneRun boot run now table next old new bits cleared → (page : ℕ) → in_range (pages_first boot run) (pages_count boot run) page ≡ true → new page ≡ page_state boot (calls ++ now) page
run-page boot calls now run table next old new bits cleared stands one page t =
    sym (one.put page ∙ ap (λ b. cond b (new page) (table page)) t) ∙ run-states boot calls now run table next old new bits cleared stands one page

run-bits : (boot : Boot) (calls now : List ModuleCall) (run : Units) (table next old new : ℕ → Option PageState) (bits cleared : ℕ → Bool) → Stands boot calls table bits → OneRun boot run now table next old new bits cleared → (unit : ℕ) → cleared unit ≡ bit_after boot (calls ++ now) unit
run-bits boot calls now run table next old new bits cleared stands one unit =
    elim (cases_Bool (in_range run.first run.count unit)) [
      | inl t ↦
          (let set : bit_after boot calls unit ≡ true = sym (stands.bits unit) ∙ one.set unit t in
          let accepts = steps-accept boot.hosts _ _ _ None now one.steps in
          one.clears unit ∙ ap (λ b. cond b (any_such (λ page. is_pending (new page)) (unit_first boot unit) (unit_pages boot)) (bits unit)) t
          ∙ any_such_same (λ page. is_pending (new page)) (λ page. is_pending (page_state boot (calls ++ now) page)) (unit_first boot unit) (unit_pages boot) (record {
            same = λ page low high. ap is_pending (run-page boot calls now run table next old new bits cleared stands one page (within-pages boot run unit page t (in_range-intro (unit_first boot unit) (unit_pages boot) page low high)));
          })
          ∙ sym (bits-inside boot calls now unit stands.marks accepts set))
      | inr f ↦
          one.clears unit ∙ ap (λ b. cond b (any_such (λ page. is_pending (new page)) (unit_first boot unit) (unit_pages boot)) (bits unit)) f
          ∙ stands.bits unit ∙ sym (bits-outside boot calls now run unit (run-accepts boot calls now run table next old new bits cleared stands one) f)
    ]

-- what is kept stands for the calls with those of the run
pub run-stands : (boot : Boot) (calls now : List ModuleCall) (run : Units) (table next old new : ℕ → Option PageState) (bits cleared : ℕ → Bool) → Stands boot calls table bits → OneRun boot run now table next old new bits cleared → Stands boot (calls ++ now) next cleared
run-stands boot calls now run table next old new bits cleared stands one =
    let accepts = steps-accept boot.hosts _ _ _ None now one.steps in
    record {
      states = run-states boot calls now run table next old new bits cleared stands one;
      bits = run-bits boot calls now run table next old new bits cleared stands one;
      marks = marks-push boot calls now stands.marks accepts;
      ram = ram-push boot calls now stands.ram (accepts-none now accepts);
    }

if-not : (b : Bool) → (if b then false else true) ≡ not b
if-not true = refl
if-not false = refl

-- the units that were cleared
pub run-cleared : (boot : Boot) (calls now : List ModuleCall) (run : Units) (table next old new : ℕ → Option PageState) (bits cleared : ℕ → Bool) → Stands boot calls table bits → OneRun boot run now table next old new bits cleared → units_cleared boot calls (calls ++ now) run ≡ count_such (λ unit. not (any_such (λ page. is_pending (new page)) (unit_first boot unit) (unit_pages boot))) run.first run.count
unfolding units_cleared
run-cleared boot calls now run table next old new bits cleared stands one =
    let after = run-stands boot calls now run table next old new bits cleared stands one in
    count_such_same _ _ run.first run.count (record {
      same = λ unit low high.
          let t = in_range-intro run.first run.count unit low high in
          let before : bit_after boot calls unit ≡ true = sym (stands.bits unit) ∙ one.set unit t in
          let later : bit_after boot (calls ++ now) unit ≡ any_such (λ page. is_pending (new page)) (unit_first boot unit) (unit_pages boot) =
          sym (after.bits unit) ∙ one.clears unit ∙ ap (λ b. cond b (any_such (λ page. is_pending (new page)) (unit_first boot unit) (unit_pages boot)) (bits unit)) t in
          ap (λ b. b && (if bit_after boot (calls ++ now) unit then false else true)) before ∙ ap (λ b. if b then false else true) later ∙ if-not _;
    })

some_or : (b : Bool) (made : PageState) (s : Option PageState) → s ≢ None → cond b (Some made) s ≢ None
some_or true made s h = λ no. cc
some_or false made s h = h

-- what begins pending stays with a state
pub state_after-some : (s : States) (calls : List ModuleCall) (page : ℕ) → s page ≢ None → state_after s calls page ≢ None
state_after-some s [] page h = h
state_after-some s (call ∷ calls) page h = state_after-some (after_call s call) calls page (some_or (is_done call && covers call page) (state_made call.kind) (s page) h)
