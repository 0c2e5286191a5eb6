use Rattle.std.proofs.Common.{◌≡◌, ℕ, zero, suc, ◌+◌, ◌-◌, ◌*◌, ◌<◌, ◌≤◌, Option, None, Some, List, [], ◌∷◌, map, length, refl, sym, ◌∙◌, ap, inl, inr, ◌⊎◌, arith, slice_get, get_or}
use Rattle.std.specs.Prelude.{is_none}
use Rattle.std.specs.Option.{option_and_then}
use Rattle.std.proofs.lemmas.Bool.{cases_lt}
use Rattle.std.proofs.lemmas.List.Sums.{sum_by-cons}
use Rattle.std.proofs.lemmas.Option.{slice_get-get_or, slice_get_past}
use Rattle.guest_base.specs.declared.limits.TheConstants.{PAGE_END}
use Rattle.event_core.specs.declared.boot.Boot.{Boot}
use Rattle.event_core.specs.declared.command.Command.{Command}
use Rattle.event_core.specs.declared.entry.Entry.{Entry}
use Rattle.event_core.specs.Next.{step_of}
use Rattle.event_core.specs.Holdings.{Own}
use Rattle.event_core.specs.Moved.{Moved}
use Rattle.event_core.specs.Own.{own_of, replied}
use Rattle.page_module.specs.Spans.{Taken}
use Rattle.page_module.specs.declared.ticket.Ticket.{Ticket}
use Rattle.memory_core.specs.UnderLock.{unmoved}
use Rattle.guest_steps.specs.declared.processor.Need.{Need}
use Rattle.guest_steps.specs.declared.processor.Need.TheVariants.{Area, Finished, Memory}
use Rattle.guest_steps.specs.Ground.{Ground}
use Rattle.guest_steps.specs.Running.{AllFinished}
use Rattle.guest_steps.specs.Seen.{Seen, STEPS, command_number, commands_left, left_by, need_by, need_for, need_of, own_now, present_command, steps_left}
use Rattle.guest_steps.specs.Standing.{Stands, Together}
use Rattle.guest_steps.specs.Steps.{IsIdle, ticket_of}
use Rattle.guest_steps.proofs.BeginningLemmas.{all-got}
use Rattle.guest_steps.proofs.BlockedLemmas.{blocked-waits}
use Rattle.guest_steps.proofs.FinishedLemmas.{finished-none}
use Rattle.guest_steps.proofs.ListLemmas.{past-none}
use Rattle.guest_steps.proofs.LooksLemmas.{looks-few, looks-none}
use Rattle.guest_steps.proofs.OwnStepLemmas.{next-is}
use Rattle.guest_turns.specs.Walks.{Rests, StaysAs, all_steps}

-- Processors that make no entry.

-- ---- a finished one

finished-rests : (out : Option Taken) (at_rest : Need) → need_by out at_rest ≡ Finished → out ≡ None
finished-rests None at_rest is = refl
finished-rests (Some span) at_rest is = cc

finished-out : (c : Seen) → need_of c ≡ Finished → c.out ≡ None
finished-out c is = finished-rests c.out (need_for c.boot c.number (own_now c) (present_command c)) is

pub finished-idle : (c : Seen) (memory : List Entry) → need_of c ≡ Finished → IsIdle c memory
finished-idle c memory is scripts have =
    ap (λ o. is_none o) (next-is c scripts (map unmoved memory) [] have ∙ ap (option_and_then (λ (x : Command). step_of c.boot c.number (own_now c) (map unmoved memory) x [])) (finished-none c is))

pub rests-idle : (c : Seen) (memory : List Entry) → Rests c memory → IsIdle c memory
rests-idle c memory (inl finished) = finished-idle c memory finished
rests-idle c memory (inr blocked) = blocked.idle

-- ---- not all are blocked

rests-out : (c : Seen) (memory : List Entry) → Rests c memory → c.out ≡ None
rests-out c memory (inl finished) = finished-out c finished
rests-out c memory (inr blocked) = blocked.rests

-- where each processor rests none is blocked: the one that is waited for has a next event
pub all-finished : (boot : Boot) (all : List Seen) (base : Ground) → Together boot all base
    → ((cpu : ℕ) (c : Seen) → slice_get all cpu ≡ Some c → Rests c base.memory.entries) → AllFinished all
all-finished boot all base t rests k d within = by_rest (rests k c at) where
  c : Seen
  c = get_or all k d

  at : slice_get all k ≡ Some c
  at = slice_get-get_or all k d within

  by_rest : Rests c base.memory.entries → need_of c ≡ Finished
  by_rest (inl finished) = finished
  by_rest (inr blocked) =
      let waits = blocked-waits boot all base k c t at blocked in
      absurd (waits.out (rests-out waits.waited base.memory.entries (rests waits.other waits.waited waits.at)))

-- ---- the steps that are left

left-ticket : (commands number : ℕ) (one other : Option Taken) → ticket_of one ≡ ticket_of other → left_by commands number one ≡ left_by commands number other
left-ticket commands number None None is = refl
left-ticket commands number None (Some span) is = cc
left-ticket commands number (Some span) None is = cc
left-ticket commands number (Some one) (Some other) is =
    let same : one.ticket ≡ other.ticket = cc in
    ap (λ (t : Ticket). (commands - (number + 1)) * STEPS + 1 + (PAGE_END - t.pages.first)) same

pub stays-left : (old new : Seen) → StaysAs old new → steps_left new ≡ steps_left old
stays-left old new s =
    let own : own_now new ≡ own_now old = ap (λ (script : List Command). own_of script new.moved) s.script ∙ ap (own_of old.script) s.moved in
    let commands : commands_left new ≡ commands_left old =
    ap (λ (script : List Command). left_by (length script) (command_number new) new.out) s.script
    ∙ ap (λ (moved : List Moved). left_by (length old.script) (replied moved) new.out) s.moved
    ∙ left-ticket (length old.script) (command_number old) new.out old.out s.taken
    in
    ap (λ n. n - (own_now new).looks) commands ∙ ap (λ (o : Own). commands_left old - o.looks) own

-- where no step is left every command has its reply
none-left : (commands number looks : ℕ) → looks < STEPS → (commands - number) * STEPS - looks ≡ 0 → commands ≤ number
none-left commands number looks few is = by_more (cases_lt number commands) where
  by_more : (number < commands) ⊎ (commands ≤ number) → commands ≤ number
  by_more (inr past) = past
  by_more (inl more) =
      let split : commands - number ≡ (commands - (number + 1)) + 1 = omega (arith, more) in
      let much : (commands - number) * STEPS ≡ (commands - (number + 1)) * STEPS + STEPS = ap (λ n. n * STEPS) split ∙ (let sum : ((commands - (number + 1)) + 1) * STEPS ≡ (commands - (number + 1)) * STEPS + STEPS = omega arith in sum) in
      absurd (omega (arith, few, is, much))

claims-need : (c : Seen) (span : Taken) (n : ℕ) → c.out ≡ Some span → need_of c ≡ Area n → ⊥
claims-need c span n out is =
    let no : Memory ≡ Area n = sym (ap (λ o. need_by o (need_for c.boot c.number (own_now c) (present_command c))) out) ∙ is in
    cc

left-finished : (c : Seen) (base : Ground) → Stands c base → steps_left c ≡ 0 → need_of c ≡ Finished
left-finished c base s is = by_out c.out refl where
  by_out : (out : Option Taken) → c.out ≡ out → need_of c ≡ Finished
  by_out None rests =
      let left : left_by (length c.script) (command_number c) None - (own_now c).looks ≡ 0 = ap (λ o. left_by (length c.script) (command_number c) o - (own_now c).looks) (sym rests) ∙ is in
      ap (λ out. need_by out (need_for c.boot c.number (own_now c) (present_command c))) rests
      ∙ ap (need_for c.boot c.number (own_now c)) (slice_get_past c.script (command_number c) (none-left (length c.script) (command_number c) (own_now c).looks (looks-few c base s) left))
  by_out (Some span) claims =
      let left : left_by (length c.script) (command_number c) (Some span) - (own_now c).looks ≡ 0 = ap (λ o. left_by (length c.script) (command_number c) o - (own_now c).looks) (sym claims) ∙ is in
      let none = looks-none c base s (λ n needs. claims-need c span n claims needs) in
      absurd (omega (arith, left, none))

finished-left : (c : Seen) → need_of c ≡ Finished → steps_left c ≡ 0
finished-left c is =
    let past = past-none c.script (command_number c) (finished-none c is) in
    let commands : commands_left c ≡ 0 = ap (left_by (length c.script) (command_number c)) (finished-out c is) ∙ (let none : (length c.script - command_number c) * STEPS ≡ 0 = omega (arith, past) in none) in
    omega (arith, commands)

sum-zero : (all : List Seen) → ((cpu : ℕ) (c : Seen) → slice_get all cpu ≡ Some c → steps_left c ≡ 0) → all_steps all ≡ 0
sum-zero [] each = refl
sum-zero (c ∷ all) each =
    let here = each 0 c refl in
    let rest = sum-zero all (λ cpu d at. each (suc cpu) d at) in
    omega (arith, sum_by-cons steps_left c all, here, rest)

each-zero : (all : List Seen) (cpu : ℕ) (c : Seen) → all_steps all ≡ 0 → slice_get all cpu ≡ Some c → steps_left c ≡ 0
each-zero [] cpu c none at = cc
each-zero (d ∷ all) zero c none at =
    let same : d ≡ c = cc in
    let here : steps_left d ≡ 0 = omega (arith, sum_by-cons steps_left d all, none) in
    ap steps_left (sym same) ∙ here
each-zero (d ∷ all) (suc cpu) c none at =
    let rest : all_steps all ≡ 0 = omega (arith, sum_by-cons steps_left d all, none) in
    each-zero all cpu c rest at

-- where a processor isn't finished steps are left
pub finished-none_left : (all : List Seen) → AllFinished all → all_steps all ≡ 0
finished-none_left all finished =
    sum-zero all (λ cpu c at. finished-left c (all-got (λ (d : Seen). need_of d ≡ Finished) all cpu c finished at))

pub some-left : (boot : Boot) (all : List Seen) (base : Ground) → Together boot all base → (AllFinished all → ⊥) → 0 < all_steps all
some-left boot all base t unfinished = by_left (cases_lt 0 (all_steps all)) where
  by_left : (0 < all_steps all) ⊎ (all_steps all ≤ 0) → 0 < all_steps all
  by_left (inl some) = some
  by_left (inr none) =
      let zero_left : all_steps all ≡ 0 = omega (arith, none) in
      absurd (unfinished (λ k d within.
      let c = get_or all k d in
      let at = slice_get-get_or all k d within in
      left-finished c base (t.each k c at).2 (each-zero all k c zero_left at)))
