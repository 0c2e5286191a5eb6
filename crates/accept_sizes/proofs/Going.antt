use Rattle.std.proofs.Common.{length, length-append, ◌≡◌, ◌≢◌, ◌⊎◌, ℕ, ◌+◌, ◌-◌, ◌/◌, ◌%◌, ◌^◌, ◌<◌, ◌≤◌, Bool, true, false, ◌&&◌, Option, None, Some, List, [], ◌∷◌, ◌++◌, refl, sym, ◌∙◌, ap, subst, inl, inr, arith, cond, append_assoc, append-nil, ◌==◌, eqb-true, eq-eqb}
use Rattle.std.specs.Prelude.{nat_le}
use Rattle.std.proofs.lemmas.Bool.{cases_Bool, cases_lt}
use Rattle.guest_base.specs.Ranges.{in_range}
use Rattle.guest_base.specs.Search.{each_such}
use Rattle.guest_base.proofs.RangeLemmas.{in_range-intro}
use Rattle.guest_base.proofs.SearchLemmas.{each_such_is, each_such-true, first_such_is, first_such_none}
use Rattle.guest_base.specs.Levels.{level_pages, level_at}
use Rattle.guest_base.specs.declared.memory.Level.{Level}
use Rattle.guest_base.specs.declared.memory.Pages.{Pages}
use Rattle.guest_base.specs.declared.memory.Level.TheVariants.{Small, Large, Huge}
use Rattle.guest_base.specs.declared.memory.HostRun.{HostRun}
use Rattle.guest_base.specs.declared.memory.PageState.{PageState}
use Rattle.guest_base.specs.declared.memory.PageState.TheVariants.{Pending, Accepted, Shared}
use Rattle.event_core.specs.declared.module_call.ModuleCall.{ModuleCall}
use Rattle.event_core.specs.declared.module_call.PortAnswer.{PortAnswer}
use Rattle.event_core.specs.declared.module_call.PortAnswer.TheVariants.{Ok as AnsweredOk, SizeMismatch, Failed}
use Rattle.event_core.specs.Calls.{state_after, after_call, is_done, covers}
use Rattle.event_core.proofs.SoundLemmas.{state_after-append}
use Rattle.event_core.proofs.StepsLemmas.{not_both}
use Rattle.event_core.specs.Acceptance.{fits, levels_below, greatest_fitting, place_of_next, MayEnd, AcceptanceSteps, goes_on_at, tried_at, stop_of, stop_by}
use Rattle.event_core.specs.MemoryRows.{is_pending}
use Rattle.event_core.specs.Runs.{state_in}
use Rattle.page_module.specs.Spans.{Taken, Becomes}
use Rattle.page_module.specs.Marking.{IsFirstPending, NonePending}
use Rattle.page_module.specs.Modules.{answer_by, accept_call, AfterCall, MayAccept}
use Rattle.accept_sizes.specs.Room.{most_calls_of}
use Rattle.accept_sizes.specs.Trying.{fits_left, level_below}
use Rattle.accept_sizes.specs.Accepts.{pending_of, span_end, Accepts}

-- what holds of a level that was tried at a place and wasn't done: the place is pending, and a smaller one is left
abbrev pub WasTried : Taken → ℕ → Option Level → Type 0
WasTried now from None = Unit {0}
WasTried now from (Some level) = (state_in now.runs from ≡ Some Pending) × (level ≢ Small)

-- how many calls may still be made from a place on: one for each page, and one for each aligned 2 MiB and 1 GiB
abbrev pub blocks_left : ℕ → ℕ → ℕ → ℕ
blocks_left size from end = end / size - (from + size - 1) / size

abbrev pub calls_left : ℕ → ℕ → Option Level → ℕ
calls_left from end None = (end - from) + blocks_left 512 from end + blocks_left 262144 from end
calls_left from end (Some Huge) = (end - from) + blocks_left 512 from end + blocks_left 262144 (from + 1) end
calls_left from end (Some Large) = (end - from) + blocks_left 512 (from + 1) end + blocks_left 262144 (from + 1) end
calls_left from end (Some Small) = 0

-- An acceptance is under way: these calls were made so far, and whatever steps follow from the place go on from them.
pub record Going (hosts : List HostRun) (old now : Taken) (from : ℕ) (tried : Option Level) (calls : List ModuleCall) : Type 0 where
  pub ticket : now.ticket ≡ old.ticket
  pub low : old.ticket.pages.first ≤ from
  pub ahead : (page : ℕ) → from ≤ page → state_in now.runs page ≡ state_in old.runs page
  pub behind : (page : ℕ) → page + 1 ≡ from → state_in now.runs page ≢ Some Pending
  pub here : WasTried now from tried
  pub states : (page : ℕ) → state_in now.runs page ≡ state_after (state_in old.runs) calls page
  pub steps : (rest : List ModuleCall) → AcceptanceSteps hosts (pending_of old) (span_end old) from tried rest → AcceptanceSteps hosts (pending_of old) (span_end old) old.ticket.pages.first None (calls ++ rest)
  pub unstopped : (rest : List ModuleCall) → stop_of (calls ++ rest) ≡ stop_of rest

-- ---- where the next call is made

pub is_pending-Some : (s : Option PageState) → s ≡ Some Pending → is_pending s ≡ true
is_pending-Some s h = ap is_pending h

pub is_pending-not : (s : Option PageState) → s ≢ Some Pending → is_pending s ≡ false
is_pending-not None h = refl
is_pending-not (Some Pending) h = absurd (h refl)
is_pending-not (Some Accepted) h = refl
is_pending-not (Some Shared) h = refl

-- the run of pending pages that was found, in the set of the pages that were pending at first
pub record FoundRun (old : Taken) (from : ℕ) (tried : Option Level) (place left : ℕ) : Type 0 where
  pub low : from ≤ place
  pub below : place + left ≤ span_end old
  pub some : 0 < left
  pub set : (page : ℕ) → place ≤ page → page < place + left → pending_of old page ≡ true
  pub ends : pending_of old (place + left) ≡ false
  pub before : (page : ℕ) → from ≤ page → page < place → pending_of old page ≡ false
  pub same : tried ≢ None → from ≡ place

-- every page with a state lies in the span
pub record Within (old : Taken) : Type 0 where
  pub within : (page : ℕ) → state_in old.runs page ≢ None → page < span_end old

found_same : (now : Taken) (from : ℕ) (tried : Option Level) (place left : ℕ) → WasTried now from tried → IsFirstPending now from (record { first = place; count = left }) → tried ≢ None → from ≡ place
found_same now from None place left was run some = absurd (some refl)
found_same now from (Some level) place left was run some =
    elim (cases_lt from place) [
      | inl lt ↦ absurd (run.first from (omega arith) lt was.0)
      | inr le ↦ (let low = run.from_on in omega arith)
    ]

pub found-run : (hosts : List HostRun) (old now : Taken) (from : ℕ) (tried : Option Level) (calls : List ModuleCall) (place left : ℕ) → Within old → Going hosts old now from tried calls → IsFirstPending now from (record { first = place; count = left }) → FoundRun old from tried place left
found-run hosts old now from tried calls place left inside going run =
    let low : from ≤ place = run.from_on in
    let same : (page : ℕ) → from ≤ page → state_in now.runs page ≡ state_in old.runs page = going.ahead in
    let pending : (page : ℕ) → place ≤ page → page < place + left → state_in old.runs page ≡ Some Pending = λ page l h. sym (same page (omega arith)) ∙ run.pending page (in_range-intro place left page l h) in
    let most : ℕ = place + left - 1 in
    let some : 0 < left = run.some in
    let at : state_in old.runs most ≡ Some Pending = pending most (omega arith) (omega arith) in
    let in_span = inside.within most (λ none. let no : Some Pending ≡ None = sym at ∙ none in cc) in
    record {
      low = low;
      below = omega arith;
      some = some;
      set = λ page l h. is_pending-Some _ (pending page l h);
      ends = is_pending-not _ (λ h. run.maximal (same (place + left) (omega arith) ∙ h));
      before = λ page l h. is_pending-not _ (λ is. run.first page l h (same page l ∙ is));
      same = found_same now from tried place left going.here run;
    }

-- the call's place is the next one
pub found-place : (old : Taken) (from : ℕ) (tried : Option Level) (place left : ℕ) → FoundRun old from tried place left → place_of_next (pending_of old) (span_end old) from tried ≡ Some place
found-place old from None place left found =
    let low = found.low in let below = found.below in let some = found.some in
    first_such_is (pending_of old) from (span_end old - from) place (record {
      low = low;
      high = omega arith;
      passes = found.set place (omega arith) (omega arith);
      before = found.before;
    })
found-place old from (Some level) place left found = ap Some (found.same (λ no. cc))

-- ---- the call's level

and-both : (b c : Bool) → (b && c) ≡ true → (b ≡ true) × (c ≡ true)
and-both true c h = (refl, h)
and-both false c h = cc

both : (b c : Bool) → b ≡ true → c ≡ true → (b && c) ≡ true
both true true h k = refl
both true false h k = cc
both false c h k = cc

fits_when : (set : ℕ → Bool) (place pages left : ℕ) (aligned : Bool) → ((page : ℕ) → place ≤ page → page < place + left → set page ≡ true) → set (place + left) ≡ false → elim aligned as (λ _. Bool) [ true ↦ each_such set place pages | false ↦ false ] ≡ (aligned && nat_le pages left)
fits_when set place pages left false all ends = refl
fits_when set place pages left true all ends =
    elim (cases_lt left pages) [
      | inl more ↦
          elim (cases_Bool (each_such set place pages)) [
            | inl t ↦ (let no : true ≡ false = sym ((each_such-true set place pages t).passes (place + left) (omega arith) (omega arith)) ∙ ends in cc)
            | inr f ↦ f ∙ sym (let n : nat_le pages left ≡ false = grind arith in n)
          ]
      | inr fit ↦
          each_such_is set place pages (record { passes = λ page l h. all page l (omega arith) })
          ∙ sym (let n : nat_le pages left ≡ true = grind arith in n)
    ]

pub fits-left : (set : ℕ → Bool) (place left : ℕ) (level : Level) → ((page : ℕ) → place ≤ page → page < place + left → set page ≡ true) → set (place + left) ≡ false → fits set place level ≡ fits_left place left level
unfolding fits
fits-left set place left level all ends = fits_when set place (level_pages level) left (place % level_pages level == 0) all ends

small_fits : (place left : ℕ) → 0 < left → fits_left place left Small ≡ true
small_fits place left some = both _ _ (eq-eqb (place % 1) 0 (omega arith)) (let n : nat_le 1 left ≡ true = grind arith in n)

choose_small : (b : Bool) → b ≡ true → elim b as (λ _. Option Level) [ true ↦ Some Small | false ↦ None ] ≡ Some Small
choose_small true h = refl
choose_small false h = cc

choose_large : (large small : Bool) → small ≡ true → elim large as (λ _. Option Level) [ true ↦ Some Large | false ↦ elim small as (λ _. Option Level) [ true ↦ Some Small | false ↦ None ] ] ≡ Some (cond large Large Small)
choose_large true small h = refl
choose_large false small h = choose_small small h

choose_huge : (huge large small : Bool) → small ≡ true → elim huge as (λ _. Option Level) [ true ↦ Some Huge | false ↦ elim large as (λ _. Option Level) [ true ↦ Some Large | false ↦ elim small as (λ _. Option Level) [ true ↦ Some Small | false ↦ None ] ] ] ≡ Some (cond huge Huge (cond large Large Small))
choose_huge true large small h = refl
choose_huge false large small h = choose_large large small h

pub found-level : (old : Taken) (from : ℕ) (tried : Option Level) (place left : ℕ) → tried ≢ Some Small → FoundRun old from tried place left → greatest_fitting (pending_of old) place (levels_below tried) ≡ Some (level_below place left tried)
found-level old from None place left not_small found =
    let set = pending_of old in
    let fit = λ (level : Level). fits-left set place left level found.set found.ends in
    choose_huge (fits set place Huge) (fits set place Large) (fits set place Small) (fit Small ∙ small_fits place left found.some)
    ∙ ap (λ b. Some (cond b Huge (cond (fits set place Large) Large Small))) (fit Huge)
    ∙ ap (λ b. Some (cond (fits_left place left Huge) Huge (cond b Large Small))) (fit Large)
found-level old from (Some Huge) place left not_small found =
    let set = pending_of old in
    let fit = λ (level : Level). fits-left set place left level found.set found.ends in
    choose_large (fits set place Large) (fits set place Small) (fit Small ∙ small_fits place left found.some) ∙ ap (λ b. Some (cond b Large Small)) (fit Large)
found-level old from (Some Large) place left not_small found =
    let set = pending_of old in
    choose_small (fits set place Small) (fits-left set place left Small found.set found.ends ∙ small_fits place left found.some)
found-level old from (Some Small) place left not_small found = absurd (not_small refl)

-- the level fits
level_fits : (place left : ℕ) (tried : Option Level) → 0 < left → fits_left place left (level_below place left tried) ≡ true
level_fits place left None some =
    elim (cases_Bool (fits_left place left Huge)) [
      | inl h ↦ rw h h
      | inr h ↦ rw h (elim (cases_Bool (fits_left place left Large)) [ inl l ↦ rw l l | inr l ↦ rw l (small_fits place left some) ])
    ]
level_fits place left (Some Huge) some = elim (cases_Bool (fits_left place left Large)) [ inl l ↦ rw l l | inr l ↦ rw l (small_fits place left some) ]
level_fits place left (Some Large) some = small_fits place left some
level_fits place left (Some Small) some = small_fits place left some

-- so the place is a multiple of its pages, and so many are left
pub record LevelFits (place left : ℕ) (level : Level) : Type 0 where
  pub aligned : place % level_pages level ≡ 0
  pub enough : level_pages level ≤ left

pub fits-facts : (place left : ℕ) (level : Level) → fits_left place left level ≡ true → LevelFits place left level
fits-facts place left level h =
    let two = and-both _ _ h in
    record { aligned = eqb-true _ _ two.0; enough = (let n : nat_le (level_pages level) left ≡ true = two.1 in grind arith) }

pub level-fits : (place left : ℕ) (tried : Option Level) → 0 < left → LevelFits place left (level_below place left tried)
level-fits place left tried some = fits-facts place left _ (level_fits place left tried some)

-- ---- one more call

push-all : (calls : List ModuleCall) (call : ModuleCall) (rest : List ModuleCall) → (calls ++ call ∷ []) ++ rest ≡ calls ++ (call ∷ rest)
push-all calls call rest = append_assoc calls (call ∷ []) rest

-- the answer is one that the host's level allows
abbrev pub IsHonest : List HostRun → ℕ → Level → PortAnswer → Type 0
IsHonest hosts place level answer = (answer ≡ Failed) ⊎ (answer ≡ answer_by level (level_at hosts place))

-- the step that a call makes from a place
pub step-on : (hosts : List HostRun) (old : Taken) (from : ℕ) (tried : Option Level) (place left : ℕ) (level : Level) (answer : PortAnswer) (rest : List ModuleCall) → tried ≢ Some Small → FoundRun old from tried place left → level ≡ level_below place left tried → IsHonest hosts place level answer
    → AcceptanceSteps hosts (pending_of old) (span_end old) (goes_on_at (accept_call place level answer)) (tried_at (accept_call place level answer)) rest
    → AcceptanceSteps hosts (pending_of old) (span_end old) from tried (accept_call place level answer ∷ rest)
step-on hosts old from tried place left level answer rest not_small found is honest steps =
    (found-place old from tried place left found, found-level old from tried place left not_small found ∙ ap Some (sym is), record { kind = refl; count = refl }, honest, steps)

pub was-not-small : (now : Taken) (from : ℕ) (tried : Option Level) → WasTried now from tried → tried ≢ Some Small
was-not-small now from None was = λ no. cc
was-not-small now from (Some level) was = λ e. was.1 (let same : Some level ≡ Some Small = e in cc)

in_range-out : (first count n : ℕ) → first + count ≤ n → in_range first count n ≡ false
in_range-out first count n past = grind arith

some_pages : (level : Level) → 0 < level_pages level
some_pages Small = omega arith
some_pages Large = omega arith
some_pages Huge = omega arith

stop_ok : (call : ModuleCall) (level : Level) → stop_by call level AnsweredOk ≡ None
stop_ok call Small = refl
stop_ok call Large = refl
stop_ok call Huge = refl

stop_big : (call : ModuleCall) (level : Level) (answer : PortAnswer) → level ≢ Small → stop_by call level answer ≡ None
stop_big call Small answer big = absurd (big refl)
stop_big call Large answer big = refl
stop_big call Huge answer big = refl

stop_past : (call : ModuleCall) (rest : List ModuleCall) → stop_by call call.level call.answer ≡ None → stop_of (call ∷ rest) ≡ stop_of rest
stop_past call [] h = h
stop_past call (next ∷ rest) h = refl

-- the states after one more call
states-push : (old : Taken) (calls : List ModuleCall) (call : ModuleCall) (page : ℕ) → state_after (state_in old.runs) (calls ++ call ∷ []) page ≡ after_call (state_after (state_in old.runs) calls) call page
states-push old calls call page = ap (λ (f : ℕ → Option PageState). f page) (state_after-append (state_in old.runs) calls (call ∷ []))

-- what begins the calls of an acceptance, with one more call
steps-push : (hosts : List HostRun) (old now : Taken) (from next : ℕ) (tried now_tried : Option Level) (calls : List ModuleCall) (call : ModuleCall) → Going hosts old now from tried calls → ((rest : List ModuleCall) → AcceptanceSteps hosts (pending_of old) (span_end old) next now_tried rest → AcceptanceSteps hosts (pending_of old) (span_end old) from tried (call ∷ rest))
    → (rest : List ModuleCall) → AcceptanceSteps hosts (pending_of old) (span_end old) next now_tried rest → AcceptanceSteps hosts (pending_of old) (span_end old) old.ticket.pages.first None ((calls ++ call ∷ []) ++ rest)
steps-push hosts old now from next tried now_tried calls call going on rest steps =
    let P : List ModuleCall → Type 0 = AcceptanceSteps hosts (pending_of old) (span_end old) old.ticket.pages.first None in
    subst P (sym (push-all calls call rest)) (going.steps (call ∷ rest) (on rest steps))

stop-push : (hosts : List HostRun) (old now : Taken) (from : ℕ) (tried : Option Level) (calls : List ModuleCall) (call : ModuleCall) → Going hosts old now from tried calls → stop_by call call.level call.answer ≡ None → (rest : List ModuleCall) → stop_of ((calls ++ call ∷ []) ++ rest) ≡ stop_of rest
stop-push hosts old now from tried calls call going passes rest = ap stop_of (push-all calls call rest) ∙ going.unstopped (call ∷ rest) ∙ stop_past call rest passes

done_at : (hosts : List HostRun) (old now new : Taken) (from : ℕ) (tried : Option Level) (calls : List ModuleCall) (place left : ℕ) (level : Level) → Going hosts old now from tried calls → FoundRun old from tried place left → level ≡ level_below place left tried → IsHonest hosts place level AnsweredOk → Becomes Accepted now new place (level_pages level)
    → Going hosts old new (place + level_pages level) None (calls ++ accept_call place level AnsweredOk ∷ [])
done_at hosts old now new from tried calls place left level going found is honest becomes =
    let call = accept_call place level AnsweredOk in
    let low = found.low in
    let first = going.low in
    let some = some_pages level in
    record {
      ticket = becomes.ticket ∙ going.ticket;
      low = omega arith;
      ahead = λ page above. becomes.states page ∙ ap (λ b. cond b (Some Accepted) (state_in now.runs page)) (in_range-out place (level_pages level) page above) ∙ going.ahead page (omega arith);
      behind = λ page last. λ pending. let no : Some Accepted ≡ Some Pending = sym (becomes.states page ∙ ap (λ b. cond b (Some Accepted) (state_in now.runs page)) (in_range-intro place (level_pages level) page (omega arith) (omega arith))) ∙ pending in cc;
      here = tt;
      states = λ page. becomes.states page ∙ ap (λ s. cond (in_range place (level_pages level) page) (Some Accepted) s) (going.states page) ∙ sym (states-push old calls call page);
      steps = steps-push hosts old now from (place + level_pages level) tried None calls call going (λ rest steps. step-on hosts old from tried place left level AnsweredOk rest (was-not-small now from tried going.here) found is honest steps);
      unstopped = stop-push hosts old now from tried calls call going (stop_ok call level);
    }

-- after a call that was done the acceptance goes on behind its pages
pub going-done : (hosts : List HostRun) (old now new : Taken) (from : ℕ) (tried : Option Level) (calls : List ModuleCall) (place left : ℕ) (level : Level) (answer : PortAnswer) → Going hosts old now from tried calls → FoundRun old from tried place left → IsFirstPending now from (record { first = place; count = left }) → level ≡ level_below place left tried → IsHonest hosts place level answer → answer ≡ AnsweredOk → Becomes Accepted now new place (level_pages level)
    → Going hosts old new (place + level_pages level) None (calls ++ accept_call place level answer ∷ [])
going-done hosts old now new from tried calls place left level answer going found run is honest done becomes =
    let P : PortAnswer → Type 0 = λ a. IsHonest hosts place level a → Going hosts old new (place + level_pages level) None (calls ++ accept_call place level a ∷ []) in
    subst P (sym done) (λ honest'. done_at hosts old now new from tried calls place left level going found is honest' becomes) honest

undone_by : (answer : PortAnswer) → answer ≢ AnsweredOk → elim answer as (λ _. Bool) [ AnsweredOk ↦ true | SizeMismatch ↦ false | Failed ↦ false ] ≡ false
undone_by AnsweredOk failed = absurd (failed refl)
undone_by SizeMismatch failed = refl
undone_by Failed failed = refl

not_done : (call : ModuleCall) → call.answer ≢ AnsweredOk → is_done call ≡ false
not_done call failed = undone_by call.answer failed

-- the page before the found run isn't pending
before_place : (hosts : List HostRun) (old now : Taken) (from : ℕ) (tried : Option Level) (calls : List ModuleCall) (place left : ℕ) → Going hosts old now from tried calls → IsFirstPending now from (record { first = place; count = left }) → (page : ℕ) → page + 1 ≡ place → state_in now.runs page ≢ Some Pending
before_place hosts old now from tried calls place left going run page last =
    elim (cases_lt page from) [
      | inl below ↦ (let low = run.from_on in going.behind page (omega arith))
      | inr above ↦ run.first page above (omega arith)
    ]

in_range-parts : (first count n : ℕ) → in_range first count n ≡ true → (first ≤ n) × (n < first + count)
in_range-parts first count n h = grind arith

-- a found call may be made
pub found-may : (hosts : List HostRun) (old now : Taken) (from : ℕ) (tried : Option Level) (calls : List ModuleCall) (place left : ℕ) (level : Level) → Going hosts old now from tried calls → IsFirstPending now from (record { first = place; count = left }) → level ≡ level_below place left tried → MayAccept now place level
found-may hosts old now from tried calls place left level going run is =
    let fit : LevelFits place left level = (let P : Level → Type 0 = LevelFits place left in subst P (sym is) (level-fits place left tried run.some)) in
    let enough = fit.enough in
    record {
      aligned = fit.aligned;
      begins = record {
        pending = λ page covered. (let two = in_range-parts place (level_pages level) page covered in run.pending page (in_range-intro place left page two.0 (omega (arith, two.1))));
        maximal = before_place hosts old now from tried calls place left going run;
      };
    }

-- after a call that wasn't done the acceptance goes on at its place
pub going-failed : (hosts : List HostRun) (old now new : Taken) (from : ℕ) (tried : Option Level) (calls : List ModuleCall) (place left : ℕ) (level : Level) (answer : PortAnswer) → Going hosts old now from tried calls → FoundRun old from tried place left → IsFirstPending now from (record { first = place; count = left }) → level ≡ level_below place left tried → IsHonest hosts place level answer → answer ≢ AnsweredOk → new ≡ now → level ≢ Small
    → Going hosts old new place (Some level) (calls ++ accept_call place level answer ∷ [])
going-failed hosts old now new from tried calls place left level answer going found run is honest failed same not_small =
    let call = accept_call place level answer in
    let undone = not_done call failed in
    let low = found.low in
    let first = going.low in
    let some = found.some in
    let at : goes_on_at call ≡ place = ap (λ b. cond b (place + level_pages level) place) undone in
    let tried_now : tried_at call ≡ Some level = ap (λ b. cond b None (Some level)) undone in
    let unchanged : (page : ℕ) → state_in new.runs page ≡ state_in now.runs page = λ page. ap (λ (s : Taken). state_in s.runs page) same in
    record {
      ticket = ap (λ (s : Taken). s.ticket) same ∙ going.ticket;
      low = omega arith;
      ahead = λ page above. unchanged page ∙ going.ahead page (omega arith);
      behind = λ page last. λ pending. before_place hosts old now from tried calls place left going run page last (sym (unchanged page) ∙ pending);
      here = (unchanged place ∙ run.pending place (in_range-intro place left place (omega arith) (omega arith)), not_small);
      states = λ page. unchanged page ∙ going.states page ∙ sym (states-push old calls call page ∙ not_both (is_done call) (covers call page) _ _ (λ d. let no : true ≡ false = sym d ∙ undone in cc));
      steps =
          steps-push hosts old now from place tried (Some level) calls call going (λ rest steps. step-on hosts old from tried place left level answer rest (was-not-small now from tried going.here) found is honest
          (let P : ℕ → Type 0 = λ n. AcceptanceSteps hosts (pending_of old) (span_end old) n (tried_at call) rest in
          let Q : Option Level → Type 0 = λ t. AcceptanceSteps hosts (pending_of old) (span_end old) place t rest in
          subst P (sym at) (subst Q (sym tried_now) steps)));
      unstopped = stop-push hosts old now from tried calls call going (stop_big call level answer not_small);
    }

-- a Small call that wasn't done ends the acceptance
pub going-stopped : (hosts : List HostRun) (old now new : Taken) (from : ℕ) (tried : Option Level) (calls : List ModuleCall) (place left : ℕ) (level : Level) (answer : PortAnswer) → Going hosts old now from tried calls → FoundRun old from tried place left → level ≡ level_below place left tried → IsHonest hosts place level answer → answer ≡ Failed → new ≡ now → level ≡ Small
    → Accepts hosts old new (calls ++ accept_call place level answer ∷ []) × (stop_of (calls ++ accept_call place level answer ∷ []) ≡ Some (record { 0 = place }))
going-stopped hosts old now new from tried calls place left level answer going found is honest failed same small =
    let call = accept_call place level answer in
    let undone : is_done call ≡ false = ap (λ (a : PortAnswer). is_done (accept_call place level a)) failed in
    let tried_now : tried_at call ≡ Some Small = ap (λ b. cond b None (Some level)) undone ∙ ap Some small in
    let unchanged : (page : ℕ) → state_in new.runs page ≡ state_in now.runs page = λ page. ap (λ (s : Taken). state_in s.runs page) same in
    let Q : Option Level → Type 0 = MayEnd (pending_of old) (span_end old) (goes_on_at call) in (
      record {
        steps = going.steps (call ∷ []) (step-on hosts old from tried place left level answer [] (was-not-small now from tried going.here) found is honest (subst Q (sym tried_now) refl));
        ticket = ap (λ (s : Taken). s.ticket) same ∙ going.ticket;
        states = λ page. unchanged page ∙ going.states page ∙ sym (states-push old calls call page ∙ not_both (is_done call) (covers call page) _ _ (λ d. let no : true ≡ false = sym d ∙ undone in cc));
      },
      going.unstopped (call ∷ []) ∙ ap (λ (l : Level). stop_by call l answer) small ∙ ap (stop_by call Small) failed,
    )

may_end : (hosts : List HostRun) (old now : Taken) (from : ℕ) (tried : Option Level) (calls : List ModuleCall) → Going hosts old now from tried calls → NonePending now from → MayEnd (pending_of old) (span_end old) from tried
may_end hosts old now from None calls going none =
    first_such_none (pending_of old) from (span_end old - from) (record { fails = λ n low high. is_pending-not _ (λ is. none n low (going.ahead n low ∙ is)) })
may_end hosts old now from (Some level) calls going none = absurd (none from (omega arith) going.here.0)

-- where no page is pending the acceptance is whole
pub going-whole : (hosts : List HostRun) (old now : Taken) (from : ℕ) (tried : Option Level) (calls : List ModuleCall) → Going hosts old now from tried calls → NonePending now from → Accepts hosts old now calls × (stop_of calls ≡ None)
going-whole hosts old now from tried calls going none =
    let P : List ModuleCall → Type 0 = AcceptanceSteps hosts (pending_of old) (span_end old) old.ticket.pages.first None in (
      record {
        steps = subst P (append-nil calls) (going.steps [] (may_end hosts old now from tried calls going none));
        ticket = going.ticket;
        states = going.states;
      },
      ap stop_of (sym (append-nil calls)) ∙ going.unstopped [],
    )

small_done : (host : Level) → answer_by Small host ≡ AnsweredOk
small_done Small = refl
small_done Large = refl
small_done Huge = refl

-- a Small call that wasn't done failed
pub small-failed : (hosts : List HostRun) (place : ℕ) (level : Level) (answer : PortAnswer) → level ≡ Small → IsHonest hosts place level answer → answer ≢ AnsweredOk → answer ≡ Failed
small-failed hosts place level answer small honest failed =
    elim honest [
      | inl is ↦ is
      | inr is ↦ absurd (failed (is ∙ ap (λ (l : Level). answer_by l (level_at hosts place)) small ∙ small_done (level_at hosts place)))
    ]

-- ---- room

small_blocks : (a b end : ℕ) → a ≤ b → blocks_left 512 b end ≤ blocks_left 512 a end
small_blocks a b end le = omega arith

great_blocks : (a b end : ℕ) → a ≤ b → blocks_left 262144 b end ≤ blocks_left 262144 a end
great_blocks a b end le = omega arith

small_next : (place end : ℕ) → place % 512 ≡ 0 → place + 512 ≤ end → blocks_left 512 (place + 1) end + 1 ≤ blocks_left 512 place end
small_next place end aligned below = omega arith

great_next : (place end : ℕ) → place % 262144 ≡ 0 → place + 262144 ≤ end → blocks_left 262144 (place + 1) end + 1 ≤ blocks_left 262144 place end
great_next place end aligned below = omega arith

pub left-some : (end from place : ℕ) (tried : Option Level) → from ≤ place → place < end → tried ≢ Some Small → 0 < calls_left from end tried
left-some end from place None low high not_small = omega arith
left-some end from place (Some Huge) low high not_small = omega arith
left-some end from place (Some Large) low high not_small = omega arith
left-some end from place (Some Small) low high not_small = absurd (not_small refl)

pub left-done : (end from place pages : ℕ) (tried : Option Level) → from ≤ place → place + pages ≤ end → 0 < pages → tried ≢ Some Small → calls_left (place + pages) end None + 1 ≤ calls_left from end tried
left-done end from place pages None low below some not_small = omega (arith, small_blocks from (place + pages) end (omega arith), great_blocks from (place + pages) end (omega arith))
left-done end from place pages (Some Huge) low below some not_small = omega (arith, small_blocks from (place + pages) end (omega arith), great_blocks (from + 1) (place + pages) end (omega arith))
left-done end from place pages (Some Large) low below some not_small = omega (arith, small_blocks (from + 1) (place + pages) end (omega arith), great_blocks (from + 1) (place + pages) end (omega arith))
left-done end from place pages (Some Small) low below some not_small = absurd (not_small refl)

left_huge : (end from place : ℕ) → from ≤ place → place % 262144 ≡ 0 → place + 262144 ≤ end → calls_left place end (Some Huge) + 1 ≤ calls_left from end None
left_huge end from place low aligned below = omega (arith, small_blocks from place end low, great_blocks from place end low, great_next place end aligned below)

left_large : (end from place : ℕ) (tried : Option Level) → from ≤ place → place % 512 ≡ 0 → place + 512 ≤ end → (tried ≢ None → from ≡ place) → tried ≢ Some Small → tried ≢ Some Large → calls_left place end (Some Large) + 1 ≤ calls_left from end tried
left_large end from place None low aligned below same small large = omega (arith, small_blocks from place end low, small_next place end aligned below, great_blocks from (place + 1) end (omega arith))
left_large end from place (Some Huge) low aligned below same small large = (let at : from ≡ place = same (λ no. cc) in omega (arith, small_next place end aligned below, ap (λ n. blocks_left 512 n end) at, ap (λ n. blocks_left 262144 (n + 1) end) at))
left_large end from place (Some Large) low aligned below same small large = absurd (large refl)
left_large end from place (Some Small) low aligned below same small large = absurd (small refl)

large_not_huge : (b : Bool) → cond b Large Small ≡ Huge → ⊥
large_not_huge true is = cc
large_not_huge false is = cc

not_huge_below : (place left : ℕ) (level : Level) → level_below place left (Some level) ≢ Huge
not_huge_below place left Huge is = large_not_huge (fits_left place left Large) is
not_huge_below place left Large is = cc
not_huge_below place left Small is = cc

not_large_twice : (place left : ℕ) (tried : Option Level) → level_below place left tried ≡ Large → tried ≢ Some Large
not_large_twice place left None is = λ no. cc
not_large_twice place left (Some Huge) is = λ no. cc
not_large_twice place left (Some Large) is = λ no. cc
not_large_twice place left (Some Small) is = λ no. cc

failed_level : (end from place left : ℕ) (tried : Option Level) (level : Level) → level ≡ level_below place left tried → from ≤ place → place + left ≤ end → LevelFits place left level → (tried ≢ None → from ≡ place) → tried ≢ Some Small → level ≢ Small → calls_left place end (Some level) + 1 ≤ calls_left from end tried
failed_level end from place left None Huge is low below fit same small big = (let enough = fit.enough in left_huge end from place low fit.aligned (omega arith))
failed_level end from place left (Some l) Huge is low below fit same small big = absurd (not_huge_below place left l (sym is))
failed_level end from place left tried Large is low below fit same small big = (let enough = fit.enough in left_large end from place tried low fit.aligned (omega arith) same small (not_large_twice place left tried (sym is)))
failed_level end from place left tried Small is low below fit same small big = absurd (big refl)

pub left-failed : (old : Taken) (from place left : ℕ) (tried : Option Level) (level : Level) → level ≡ level_below place left tried → FoundRun old from tried place left → tried ≢ Some Small → level ≢ Small → calls_left place (span_end old) (Some level) + 1 ≤ calls_left from (span_end old) tried
left-failed old from place left tried level is found small big =
    let P : Level → Type 0 = LevelFits place left in
    failed_level (span_end old) from place left tried level is found.low found.below (subst P (sym is) (level-fits place left tried found.some)) found.same small big

-- how many calls there are with those made
pub length-calls : (old now calls : List ModuleCall) → now ≡ old ++ calls → length now ≡ length old + length calls
length-calls old now calls is = ap (λ (l : List ModuleCall). length l) is ∙ length-append old calls

pub left-first : (first count : ℕ) → calls_left first (first + count) None ≤ most_calls_of count
left-first first count = omega arith

-- every page with a state lies in the span, by what the span tells of its pages
pub within-of : (old : Taken) (pages : Pages) → pages ≡ old.ticket.pages → ((page : ℕ) → state_in old.runs page ≢ None → in_range pages.first pages.count page ≡ true) → Within old
within-of old pages is inside = record {
  within = λ page some.
      let two = in_range-parts pages.first pages.count page (inside page some) in
      let end : pages.first + pages.count ≡ span_end old = ap (λ (p : Pages). p.first + p.count) is in
      omega (arith, two.1, end);
}

-- the calls left before a call, and after it
pub left-here : (old : Taken) (from place left : ℕ) (tried : Option Level) → FoundRun old from tried place left → tried ≢ Some Small → 0 < calls_left from (span_end old) tried
left-here old from place left tried found small = (let below = found.below in let some = found.some in left-some (span_end old) from place tried found.low (omega arith) small)

pub done-left : (old : Taken) (from place left : ℕ) (tried : Option Level) (level : Level) → level ≡ level_below place left tried → FoundRun old from tried place left → tried ≢ Some Small → (place + level_pages level ≤ span_end old) × (calls_left (place + level_pages level) (span_end old) None + 1 ≤ calls_left from (span_end old) tried)
done-left old from place left tried level is found small =
    let P : Level → Type 0 = LevelFits place left in
    let fit : LevelFits place left level = subst P (sym is) (level-fits place left tried found.some) in
    let enough = fit.enough in
    let below = found.below in
    let fits_below : place + level_pages level ≤ span_end old = omega arith in
    (fits_below, left-done (span_end old) from place (level_pages level) tried found.low fits_below (some_pages level) small)

-- what a call leaves of the span
pub after-done : (old new : Taken) (first count : ℕ) (answer : PortAnswer) → AfterCall Accepted old new first count answer → answer ≡ AnsweredOk → Becomes Accepted old new first count
after-done old new first count answer h done = let P : PortAnswer → Type 0 = AfterCall Accepted old new first count in subst P done h

pub after-undone : (old new : Taken) (first count : ℕ) (answer : PortAnswer) → AfterCall Accepted old new first count answer → answer ≢ AnsweredOk → new ≡ old
after-undone old new first count AnsweredOk h failed = absurd (failed refl)
after-undone old new first count SizeMismatch h failed = h
after-undone old new first count Failed h failed = h

-- one more call at the end of a list that goes on from another
pub calls-push : (first now new calls : List ModuleCall) (call : ModuleCall) → now ≡ first ++ calls → new ≡ now ++ call ∷ [] → new ≡ first ++ (calls ++ call ∷ [])
calls-push first now new calls call was is = is ∙ ap (λ l. l ++ call ∷ []) was ∙ append_assoc first calls (call ∷ [])

-- an acceptance begins
pub going-start : (hosts : List HostRun) (old : Taken) (from : ℕ) → from ≡ old.ticket.pages.first → Within old → ((page : ℕ) → page + 1 ≡ from → state_in old.runs page ≢ Some Pending) → Going hosts old old from None []
going-start hosts old from is inside before = record {
  ticket = refl;
  low = omega arith;
  ahead = λ page above. refl;
  behind = before;
  here = tt;
  states = λ page. refl;
  steps = λ rest steps. (let P : ℕ → Type 0 = λ n. AcceptanceSteps hosts (pending_of old) (span_end old) n None rest in subst P is steps);
  unstopped = λ rest. refl;
}

-- nothing stands before a span
pub before-span : (old : Taken) (pages : Pages) → ((page : ℕ) → state_in old.runs page ≢ None → in_range pages.first pages.count page ≡ true) → (page : ℕ) → page + 1 ≡ pages.first → state_in old.runs page ≢ Some Pending
before-span old pages inside page last = λ pending.
    let two = in_range-parts pages.first pages.count page (inside page (λ none. let no : Some Pending ≡ None = sym pending ∙ none in cc)) in
    absurd (omega (arith, two.0))

-- a span with a run has pages, and ends within memory
pub found-some : (old : Taken) (from : ℕ) (tried : Option Level) (place left : ℕ) → FoundRun old from tried place left → old.ticket.pages.first ≤ from → 0 < old.ticket.pages.count
found-some old from tried place left found low = (let a = found.low in let b = found.below in let c = found.some in omega arith)

pub span-end : (old : Taken) (pages : Pages) → pages ≡ old.ticket.pages → (0 < pages.count → pages.first + pages.count ≤ 2 ^ 28) → 0 < old.ticket.pages.count → span_end old < 2 ^ 64
span-end old pages is below some =
    let count : pages.count ≡ old.ticket.pages.count = ap (λ (p : Pages). p.count) is in
    let end : pages.first + pages.count ≡ span_end old = ap (λ (p : Pages). p.first + p.count) is in
    omega (arith, end, below (omega (arith, count, some)))
