use Rattle.std.proofs.Common.{◌≡◌, ℕ, ◌+◌, ◌^◌, ◌<◌, Option, None, Some, List, [], ◌∷◌, ◌++◌, refl, ◌∙◌, ap, subst}
use Rattle.std.specs.Prelude.{length, slice_index_or}
use Rattle.std.proofs.lemmas.Option.{slice_get_read, slice_get_within}
use Rattle.event_core.specs.declared.boot.Boot.{Boot}
use Rattle.event_core.specs.declared.command.Command.{Command}
use Rattle.event_core.specs.declared.entry.Turn.{Turn}
use Rattle.event_core.specs.declared.entry.Place.TheVariants as place
use Rattle.event_core.specs.declared.event.Event.TheVariants as event
use Rattle.event_core.specs.declared.module_call.ModuleCall.{ModuleCall}
use Rattle.event_core.specs.declared.reply.Reply.{Reply}
use Rattle.event_core.specs.Holdings.{Own}
use Rattle.event_core.specs.Moved.{Moved}
use Rattle.event_core.specs.Own.{replied}
use Rattle.event_core.specs.Refusals.{refusal_of}
use Rattle.memory_core.specs.UnderLock.{unmoved}
use Rattle.memory_core.specs.Value.{MemoryValue}
use Rattle.page_module.specs.Spans.{Taken}
use Rattle.guest_steps.specs.Seen.{need_by, need_for, need_unless_refused, need_unrefused}
use Rattle.guest_steps.specs.Steps.{stamp_before}
use Rattle.guest_steps.specs.declared.processor.Need.{Need}
use Rattle.guest_steps.specs.declared.processor.Need.TheVariants as need
use Rattle.guest_cpu.specs.Alone.{EndsAlone, alone_reply}
use Rattle.guest_cpu.specs.Made.{entry_at, turn_of}
use Rattle.guest_cpu.specs.Progressing.{Progressed, command_of, need_in, own_in}
use Rattle.guest_cpu.specs.Resting.{StepsOn}
use Rattle.guest_cpu.specs.Standing.{seen_with}
use Rattle.guest_cpu.specs.Stepping.{own_entry}

-- What a need tells of the present command.

-- a command that the processor ends alone
pub record IsAlone (p : Progressed) : Type 0 where
  pub rests : p.out ≡ None
  pub present : Command
  pub is : command_of p ≡ Some present
  pub need : need_for p.boot p.number (own_in p) (Some present) ≡ need.Own

alone-by : (out : Option Taken) (boot : Boot) (cpu : ℕ) (own : Own) (now : Option Command) → need_by out (need_for boot cpu own now) ≡ need.Own → (out ≡ None) × (c : Command) × (now ≡ Some c) × (need_for boot cpu own (Some c) ≡ need.Own)
alone-by (Some span) boot cpu own now is = absurd (let no : need.Memory ≡ need.Own = is in cc)
alone-by None boot cpu own None is = absurd (let no : need.Finished ≡ need.Own = is in cc)
alone-by None boot cpu own (Some c) is = (refl, c, refl, is)

pub is-alone : (p : Progressed) → need_in p ≡ need.Own → IsAlone p
is-alone p is =
    let r = alone-by p.out p.boot p.number (own_in p) (command_of p) is in
    record { rests = r.0; present = r.1; is = r.2; need = r.3 }

own-at-rest : (out : Option Taken) (n : Need) → need_by out n ≡ need.Own → n ≡ need.Own
own-at-rest None n is = is
own-at-rest (Some span) n is = absurd (let no : need.Memory ≡ need.Own = is in cc)

pub alone-asks : (p : Progressed) (c : Command) → need_in p ≡ need.Own → command_of p ≡ Some c → need_for p.boot p.number (own_in p) (Some c) ≡ need.Own
alone-asks p c is now =
    let N : Option Command → Type 0 = λ o. need_for p.boot p.number (own_in p) o ≡ need.Own in
    subst N now (own-at-rest p.out (need_for p.boot p.number (own_in p) (command_of p)) is)

-- the present command, as it was read
pub read-present : (p : Progressed) (present read : Command) (number : ℕ) → command_of p ≡ Some present → number ≡ replied p.moved → read ≡ slice_index_or p.script number read → command_of p ≡ Some read
read-present p present read number now is got =
    let within = slice_get_within p.script (replied p.moved) present now in
    slice_get_read p.script (length p.script) (replied p.moved) read refl within (got ∙ ap (λ (n : ℕ). slice_index_or p.script n read) is)

-- a command that isn't refused and needs the memory
unrefused-by : (r : Option Reply) (n : Need) → need_unless_refused r n ≡ need.Memory → (r ≡ None) × (n ≡ need.Memory)
unrefused-by (Some x) n is = absurd (let no : need.Own ≡ need.Memory = is in cc)
unrefused-by None n is = (refl, is)

at-rest-by : (out : Option Taken) (n : Need) → out ≡ None → need_by out n ≡ need.Memory → n ≡ need.Memory
at-rest-by None n rests is = is
at-rest-by (Some span) n rests is = absurd (let no : Some span ≡ None = rests in cc)

pub memory-need : (boot : Boot) (cpu : ℕ) (own : Own) (c : Command) → need_for boot cpu own (Some c) ≡ need.Memory → (refusal_of boot own c ≡ None) × (need_unrefused boot cpu own c ≡ need.Memory)
memory-need boot cpu own c is = unrefused-by (refusal_of boot own c) (need_unrefused boot cpu own c) is

pub need-at-rest : (p : Progressed) (c : Command) → p.out ≡ None → command_of p ≡ Some c → need_in p ≡ need.Memory → need_for p.boot p.number (own_in p) (Some c) ≡ need.Memory
need-at-rest p c rests now is =
    let N : Option Command → Type 0 = λ o. need_for p.boot p.number (own_in p) o ≡ need.Memory in
    subst N now (at-rest-by p.out (need_for p.boot p.number (own_in p) (command_of p)) rests is)

pub steps-on : (p : Progressed) (made_before made : List ModuleCall) (faults_before faults : ℕ) (memory : MemoryValue) (c : Command) → p.out ≡ None → command_of p ≡ Some c → need_in p ≡ need.Memory
    → stamp_before (seen_with p made_before made faults_before faults) memory < 2 ^ 64 → StepsOn (seen_with p made_before made faults_before faults) memory c
steps-on p made_before made faults_before faults memory c rests now is fresh =
    let n = memory-need p.boot p.number (own_in p) c (need-at-rest p c rests now is) in
    record { rests = rests; present = now; fine = n.0; need = n.1; fresh = fresh }

-- ---- the entry that the processor makes alone

-- by the turn behind it
abbrev pub own_at : Turn → Reply → Moved
own_at turned told = unmoved (entry_at turned place.Own event.Own (Some told))

pub alone-made : (p : Progressed) (turn : Turn) (c : Command) (told : Reply) (middle new : List Moved) (room : ℕ) → command_of p ≡ Some c → alone_reply p.boot (own_in p) c ≡ Some told
    → middle ≡ p.moved → turn ≡ turn_of p.number middle → new ≡ middle ++ own_at (record turn { clock = turn.clock + 1 }) told ∷ []
    → EndsAlone p (record p { moved = new; room = room })
alone-made p turn c told middle new room now is same is_turn made =
    let at = λ (t : Turn). own_at (record t { clock = t.clock + 1 }) told in
    let entry : at turn ≡ own_entry p told = ap at (is_turn ∙ ap (turn_of p.number) same) in
    let moved : new ≡ p.moved ++ own_entry p told ∷ [] = made ∙ ap (λ (ms : List Moved). ms ++ at turn ∷ []) same ∙ ap (λ (m : Moved). p.moved ++ m ∷ []) entry in
    record { present = c; is = now; told = told; replies = is; after = ap (λ (ms : List Moved). with_moved ms) moved }
  where
    with_moved : List Moved → Progressed
    with_moved ms = record p { moved = ms; room = room }

-- ---- a command that needs an area

pub record NeedsArea (p : Progressed) (area : ℕ) : Type 0 where
  pub rests : p.out ≡ None
  pub present : Command
  pub is : command_of p ≡ Some present
  pub fine : refusal_of p.boot (own_in p) present ≡ None
  pub need : need_unrefused p.boot p.number (own_in p) present ≡ need.Area area

area-unrefused : (r : Option Reply) (n : Need) (area : ℕ) → need_unless_refused r n ≡ need.Area area → (r ≡ None) × (n ≡ need.Area area)
area-unrefused (Some x) n area is = absurd (let no : need.Own ≡ need.Area area = is in cc)
area-unrefused None n area is = (refl, is)

area-by : (out : Option Taken) (boot : Boot) (cpu : ℕ) (own : Own) (now : Option Command) (area : ℕ) → need_by out (need_for boot cpu own now) ≡ need.Area area
    → (out ≡ None) × (c : Command) × (now ≡ Some c) × (refusal_of boot own c ≡ None) × (need_unrefused boot cpu own c ≡ need.Area area)
area-by (Some span) boot cpu own now area is = absurd (let no : need.Memory ≡ need.Area area = is in cc)
area-by None boot cpu own None area is = absurd (let no : need.Finished ≡ need.Area area = is in cc)
area-by None boot cpu own (Some c) area is =
    let u = area-unrefused (refusal_of boot own c) (need_unrefused boot cpu own c) area is in
    (refl, c, refl, u.0, u.1)

pub needs-area : (p : Progressed) (area : ℕ) → need_in p ≡ need.Area area → NeedsArea p area
needs-area p area is =
    let r = area-by p.out p.boot p.number (own_in p) (command_of p) area is in
    record { rests = r.0; present = r.1; is = r.2; fine = r.3; need = r.4 }
