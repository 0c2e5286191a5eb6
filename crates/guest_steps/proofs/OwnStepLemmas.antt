use Rattle.std.proofs.Common.{◌≡◌, ◌⊎◌, ℕ, ◌+◌, ◌*◌, Bool, true, false, not, ◌&&◌, Option, None, Some, List, [], refl, sym, ◌∙◌, ap, subst, inl, inr, cond, map, slice_get}
use Rattle.std.specs.Prelude.{is_none, is_some, length, unwrap_or}
use Rattle.std.specs.Option.{option_and_then}
use Rattle.guest_base.specs.declared.limits.TheConstants.{PAGE_BYTES}
use Rattle.guest_base.specs.Requests.{request_of}
use Rattle.event_core.specs.declared.boot.Boot.{Boot}
use Rattle.event_core.specs.declared.command.Command.{Command}
use Rattle.event_core.specs.declared.command.Command.TheVariants as command
use Rattle.event_core.specs.declared.entry.Entry.{Entry}
use Rattle.event_core.specs.declared.entry.Place.TheVariants as place
use Rattle.event_core.specs.declared.event.Event.{Event}
use Rattle.event_core.specs.declared.event.Event.TheVariants as event
use Rattle.event_core.specs.declared.module_call.ModuleCall.{ModuleCall}
use Rattle.event_core.specs.declared.reply.Reply.{Reply}
use Rattle.event_core.specs.declared.reply.Reply.TheVariants as reply
use Rattle.event_core.specs.Bytes.{row_of}
use Rattle.event_core.specs.AreaRows.{area_looked_in, look_event, look_reply}
use Rattle.event_core.specs.Calls.{calls_in}
use Rattle.event_core.specs.Holdings.{Holding, Mapping, Own, asks_in, asks_out, block_named, mapping_named}
use Rattle.event_core.specs.Legal.{place_of}
use Rattle.event_core.specs.Moved.{Moved, entries_of}
use Rattle.event_core.specs.Next.{Step, copy_step, load_step, look_step, next_step, refused_or, replied_by, step_of, stray_step, unrefused_step}
use Rattle.event_core.specs.Own.{own_of, replied}
use Rattle.event_core.specs.OwnRows.{is_inside}
use Rattle.event_core.specs.Pool.{area_of_offset, run_found}
use Rattle.event_core.specs.PoolBytes.{taken_bytes}
use Rattle.event_core.specs.Refusals.{refusal_of, unknown_or}
use Rattle.event_core.proofs.CommandLemmas.{some-same, step_told}
use Rattle.memory_core.specs.UnderLock.{unmoved}
use Rattle.page_module.specs.Spans.{Taken}
use Rattle.pool_laws.proofs.StepFacts.{NoLook}
use Rattle.guest_steps.specs.declared.processor.Need.{Need}
use Rattle.guest_steps.specs.declared.processor.Need.TheVariants as need
use Rattle.guest_steps.specs.Seen.{Seen, need_by, need_for, need_of, need_of_copy, need_of_load, need_of_mapping, need_unless_refused, need_unrefused, own_now, present_command}
use Rattle.guest_steps.specs.Steps.{HaveScript, IsBusy, own_reply}
use Rattle.guest_steps.proofs.FollowLemmas.{StepTaken}
use Rattle.guest_steps.proofs.LooksLemmas.{map-fine}

-- Steps that a processor makes by itself, or in an area.

-- the next step is that of the present command, whatever the other scripts
pub next-is : (c : Seen) (scripts : List (List Command)) (there : List Moved) (calls : List ModuleCall) → HaveScript scripts c
    → next_step c.boot scripts c.number c.moved there calls ≡ option_and_then (λ (x : Command). step_of c.boot c.number (own_now c) there x calls) (present_command c)
next-is c scripts there calls have =
    let own = c.moved in
    ap (λ (o : Option (List Command)). option_and_then (λ (x : Command). step_of c.boot c.number (own_of (unwrap_or o []) own) there x calls) (option_and_then (λ (s : List Command). slice_get s (replied own)) o)) have

-- an own event with a reply
abbrev IsOwnStep : Option Step → Type 0
IsOwnStep step = (r : Reply) × (step ≡ Some (own_reply r))

read-own : (held : Option Holding) (conditions : Holding → Option Reply) (off len : ℕ) → unknown_or held conditions ≡ None → IsOwnStep (option_and_then (λ (h : Holding). replied_by event.Own (reply.Hex (row_of h.bytes off len))) held)
read-own None conditions off len fine = cc
read-own (Some h) conditions off len fine = (reply.Hex (row_of h.bytes off len), refl)

load-own : (boot : Boot) (memory : List Entry) (held : Option Holding) (off : ℕ) → need_of_load held off ≡ need.Own → IsOwnStep (option_and_then (λ (h : Holding). load_step boot memory h off) held)
load-own boot memory None off is = absurd (let no : need.Memory ≡ need.Own = is in cc)
load-own boot memory (Some h) off is = by_inside (is_inside h.block off) is where
  by_inside : (inside : Bool) → cond inside need.Own need.Memory ≡ need.Own → IsOwnStep (elim inside as (λ _. Option Step) [ true ↦ replied_by event.Own (reply.Loaded (row_of h.bytes off 8) None) | false ↦ stray_step boot memory h off ])
  by_inside true is = (reply.Loaded (row_of h.bytes off 8) None, refl)
  by_inside false is = absurd (let no : need.Memory ≡ need.Own = is in cc)

-- a copy that the mapping doesn't ask for
copy-own : (held : Option Mapping) (asks : Mapping → Bool) (copy : Mapping → Event) → need_of_copy held asks ≡ need.Own → IsOwnStep (option_and_then (λ (m : Mapping). copy_step (asks m) (copy m)) held)
copy-own None asks copy is = absurd (let no : need.Memory ≡ need.Own = is in cc)
copy-own (Some m) asks copy is = by_asked (asks m) is where
  by_asked : (asked : Bool) → cond asked (need.Area m.run.area) need.Own ≡ need.Own → IsOwnStep (copy_step asked (copy m))
  by_asked true is = absurd (let no : need.Area m.run.area ≡ need.Own = is in cc)
  by_asked false is = (reply.Done, refl)

mapping-own : (held : Option Mapping) → need_of_mapping held ≡ need.Own → ⊥
mapping-own None is = let no : need.Memory ≡ need.Own = is in cc
mapping-own (Some m) is = let no : need.Area m.run.area ≡ need.Own = is in cc

area-own : (n : ℕ) → need.Area n ≡ need.Own → ⊥
area-own n is = cc

unrefused-own : (boot : Boot) (cpu : ℕ) (own : Own) (there : List Moved) (c : Command) (calls : List ModuleCall) → refusal_of boot own c ≡ None → need_unrefused boot cpu own c ≡ need.Own → IsOwnStep (unrefused_step boot cpu own there c calls)
unrefused-own boot cpu own there (command.Read name off len) calls fine is = read-own (block_named own name) _ off len fine
unrefused-own boot cpu own there (command.Write name off hex) calls fine is = (reply.Done, refl)
unrefused-own boot cpu own there (command.Fill name off len byte) calls fine is = (reply.Done, refl)
unrefused-own boot cpu own there (command.Load name off) calls fine is = load-own boot (entries_of there) (block_named own name) off is
unrefused-own boot cpu own there (command.Map mapping name off len direction mask) calls fine is = absurd (area-own _ is)
unrefused-own boot cpu own there (command.SyncDev mapping off len) calls fine is = copy-own (mapping_named own mapping) (λ m. asks_in m.direction) (λ m. event.CopiedIn m.run off len) is
unrefused-own boot cpu own there (command.SyncCpu mapping off len) calls fine is = copy-own (mapping_named own mapping) (λ m. asks_out m.direction) (λ m. event.CopiedOut m.run off len) is
unrefused-own boot cpu own there (command.Unmap mapping skip) calls fine is = absurd (mapping-own (mapping_named own mapping) is)
unrefused-own boot cpu own there (command.DRead mapping off len) calls fine is = absurd (mapping-own (mapping_named own mapping) is)
unrefused-own boot cpu own there (command.DWrite mapping off hex) calls fine is = absurd (mapping-own (mapping_named own mapping) is)
unrefused-own boot cpu own there (command.HostRead off len) calls fine is = absurd (area-own _ is)
unrefused-own boot cpu own there (command.HostWrite off hex) calls fine is = absurd (area-own _ is)
unrefused-own boot cpu own there _ calls fine is = absurd (let no : need.Memory ≡ need.Own = is in cc)

by-refusal : (refusal : Option Reply) (unrefused : Need) (step : Option Step) → need_unless_refused refusal unrefused ≡ need.Own → (refusal ≡ None → unrefused ≡ need.Own → IsOwnStep step) → IsOwnStep (refused_or refusal step)
by-refusal (Some r) unrefused step is by = (r, refl)
by-refusal None unrefused step is by = by refl is

by-need : (out : Option Taken) (boot : Boot) (cpu : ℕ) (own : Own) (there : List Moved) (present : Option Command) (calls : List ModuleCall) → need_by out (need_for boot cpu own present) ≡ need.Own
    → IsOwnStep (option_and_then (λ (x : Command). step_of boot cpu own there x calls) present)
by-need (Some span) boot cpu own there present calls is = absurd (let no : need.Memory ≡ need.Own = is in cc)
by-need None boot cpu own there None calls is = absurd (let no : need.Finished ≡ need.Own = is in cc)
by-need None boot cpu own there (Some c) calls is =
    by-refusal (refusal_of boot own c) (need_unrefused boot cpu own c) (unrefused_step boot cpu own there c calls) is (λ fine needs. unrefused-own boot cpu own there c calls fine needs)

pub own-next : (c : Seen) (scripts : List (List Command)) (there : List Moved) (calls : List ModuleCall) → need_of c ≡ need.Own → HaveScript scripts c
    → (r : Reply) × (next_step c.boot scripts c.number c.moved there calls ≡ Some (own_reply r))
own-next c scripts there calls is have =
    let at = by-need c.out c.boot c.number (own_now c) there (present_command c) calls is in
    (at.0, next-is c scripts there calls have ∙ at.1)

-- ---- in an area

-- an event ends no mapping
abbrev pub NoRelease : Event → Type 0
NoRelease (event.Released run copied) = ⊥
NoRelease _ = Unit {0}

-- it ends the named mapping of the command
pub record Releases (own : Own) (c : Command) (e : Event) : Type 0 where
  pub mapping : List ℕ
  pub skip : Bool
  pub copied : Bool
  pub m : Mapping
  pub is : c ≡ command.Unmap mapping skip
  pub named : mapping_named own mapping ≡ Some m
  pub event : e ≡ event.Released m.run copied

-- a look, or an event that ends its command
abbrev pub AreaKind : Own → Command → Step → Type 0
AreaKind own c s = (NoLook s.event → ⊥) ⊎ (NoLook s.event × (is_some s.reply ≡ true) × (NoRelease s.event ⊎ Releases own c s.event))

-- a command's step in an area
pub record AreaStep (boot : Boot) (own : Own) (c : Command) (n : ℕ) (step : Option Step) : Type 0 where
  pub s : Step
  pub is : step ≡ Some s
  pub there : place_of boot s.event ≡ place.Area n
  pub kind : AreaKind own c s

same-area : (a n : ℕ) → need.Area a ≡ need.Area n → place.Area a ≡ place.Area n
same-area a n is = (let same : a ≡ n = cc in ap place.Area same)

-- an event of a mapping that isn't ended
mapping-area : (boot : Boot) (own : Own) (c : Command) (n : ℕ) (held : Option Mapping) (does : Mapping → Event) (tells : Mapping → Reply) → need_of_mapping held ≡ need.Area n
    → ((m : Mapping) → (place_of boot (does m) ≡ place.Area m.run.area) × NoLook (does m) × NoRelease (does m)) → AreaStep boot own c n (option_and_then (λ (m : Mapping). replied_by (does m) (tells m)) held)
mapping-area boot own c n None does tells is each = absurd (let no : need.Memory ≡ need.Area n = is in cc)
mapping-area boot own c n (Some m) does tells is each =
    record { s = record { event = does m; reply = Some (tells m) }; is = refl; there = (each m).0 ∙ same-area m.run.area n is; kind = inr ((each m).1, refl, inl (each m).2) }

unmap-area : (boot : Boot) (own : Own) (n : ℕ) (mapping : List ℕ) (skip : Bool) (held : Option Mapping) → mapping_named own mapping ≡ held → need_of_mapping held ≡ need.Area n
    → AreaStep boot own (command.Unmap mapping skip) n (option_and_then (λ (m : Mapping). replied_by (event.Released m.run (asks_out m.direction && not skip)) reply.Done) held)
unmap-area boot own n mapping skip None named is = absurd (let no : need.Memory ≡ need.Area n = is in cc)
unmap-area boot own n mapping skip (Some m) named is =
    let copied = asks_out m.direction && not skip in
    record {
      s = record { event = event.Released m.run copied; reply = Some reply.Done };
      is = refl;
      there = same-area m.run.area n is;
      kind = inr (tt, refl, inr (record { mapping = mapping; skip = skip; copied = copied; m = m; is = refl; named = named; event = refl }));
    }

copy-area : (boot : Boot) (own : Own) (c : Command) (n : ℕ) (held : Option Mapping) (asks : Mapping → Bool) (copy : Mapping → Event) → need_of_copy held asks ≡ need.Area n
    → ((m : Mapping) → (place_of boot (copy m) ≡ place.Area m.run.area) × NoLook (copy m) × NoRelease (copy m)) → AreaStep boot own c n (option_and_then (λ (m : Mapping). copy_step (asks m) (copy m)) held)
copy-area boot own c n None asks copy is each = absurd (let no : need.Memory ≡ need.Area n = is in cc)
copy-area boot own c n (Some m) asks copy is each = by_asked (asks m) is where
  by_asked : (asked : Bool) → cond asked (need.Area m.run.area) need.Own ≡ need.Area n → AreaStep boot own c n (copy_step asked (copy m))
  by_asked true is =
      record { s = record { event = copy m; reply = Some reply.Done }; is = refl; there = (each m).0 ∙ same-area m.run.area n is; kind = inr ((each m).1, refl, inl (each m).2) }
  by_asked false is = absurd (let no : need.Own ≡ need.Area n = is in cc)

pub load-area : (n : ℕ) (held : Option Holding) (off : ℕ) → need_of_load held off ≡ need.Area n → ⊥
load-area n None off is = let no : need.Memory ≡ need.Area n = is in cc
load-area n (Some h) off is = by_inside (is_inside h.block off) is where
  by_inside : (inside : Bool) → cond inside need.Own need.Memory ≡ need.Area n → ⊥
  by_inside true is = cc
  by_inside false is = cc

pub unrefused-area : (boot : Boot) (cpu : ℕ) (own : Own) (there : List Moved) (c : Command) (calls : List ModuleCall) (n : ℕ) → refusal_of boot own c ≡ None → need_unrefused boot cpu own c ≡ need.Area n
    → AreaStep boot own c n (unrefused_step boot cpu own there c calls)
unrefused-area boot cpu own there (command.Read name off len) calls n fine is = absurd (let no : need.Own ≡ need.Area n = is in cc)
unrefused-area boot cpu own there (command.Write name off hex) calls n fine is = absurd (let no : need.Own ≡ need.Area n = is in cc)
unrefused-area boot cpu own there (command.Fill name off len byte) calls n fine is = absurd (let no : need.Own ≡ need.Area n = is in cc)
unrefused-area boot cpu own there (command.Load name off) calls n fine is = absurd (load-area n (block_named own name) off is)
unrefused-area boot cpu own there (command.Map mapping name off len direction mask) calls n fine is =
    let known = map-fine boot own mapping name off len direction mask fine in
    let look = λ (h : Holding). look_step boot (entries_of there) cpu own.looks (request_of (PAGE_BYTES * h.block.first + off) len mask) in
    let entries = entries_of there in
    let area = area_looked_in boot cpu own.looks in
    let request = request_of (PAGE_BYTES * known.holding.block.first + off) len mask in
    record {
      s = record { event = look_event boot entries area request; reply = look_reply boot own.looks (run_found boot entries area request) };
      is = ap (option_and_then look) known.named;
      there = same-area area n is;
      kind = inl (λ plain. plain);
    }
unrefused-area boot cpu own there (command.SyncDev mapping off len) calls n fine is =
    copy-area boot own _ n (mapping_named own mapping) (λ m. asks_in m.direction) (λ m. event.CopiedIn m.run off len) is (λ m. (refl, tt, tt))
unrefused-area boot cpu own there (command.SyncCpu mapping off len) calls n fine is =
    copy-area boot own _ n (mapping_named own mapping) (λ m. asks_out m.direction) (λ m. event.CopiedOut m.run off len) is (λ m. (refl, tt, tt))
unrefused-area boot cpu own there (command.Unmap mapping skip) calls n fine is = unmap-area boot own n mapping skip (mapping_named own mapping) refl is
unrefused-area boot cpu own there (command.DRead mapping off len) calls n fine is =
    mapping-area boot own _ n (mapping_named own mapping) (λ m. event.DeviceRead m.run off len) (λ m. reply.Hex (taken_bytes boot there (event.DeviceRead m.run off len))) is (λ m. (refl, tt, tt))
unrefused-area boot cpu own there (command.DWrite mapping off hex) calls n fine is =
    mapping-area boot own _ n (mapping_named own mapping) (λ m. event.DeviceWrote m.run off (length hex)) (λ m. reply.Done) is (λ m. (refl, tt, tt))
unrefused-area boot cpu own there (command.HostRead off len) calls n fine is = record {
  s = record { event = event.HostRead off len; reply = Some (reply.Hex (taken_bytes boot there (event.HostRead off len))) };
  is = refl;
  there = same-area (area_of_offset boot off) n is;
  kind = inr (tt, refl, inl tt);
}
unrefused-area boot cpu own there (command.HostWrite off hex) calls n fine is = record {
  s = record { event = event.HostWrote off (length hex); reply = Some reply.Done };
  is = refl;
  there = same-area (area_of_offset boot off) n is;
  kind = inr (tt, refl, inl tt);
}
unrefused-area boot cpu own there _ calls n fine is = absurd (let no : need.Memory ≡ need.Area n = is in cc)

-- a processor that needs an area is at rest, and its present command isn't refused
pub record NeedsArea (c : Seen) (n : ℕ) : Type 0 where
  pub rests : c.out ≡ None
  pub command : Command
  pub present : present_command c ≡ Some command
  pub fine : refusal_of c.boot (own_now c) command ≡ None
  pub needs : need_unrefused c.boot c.number (own_now c) command ≡ need.Area n

pub needs-area : (c : Seen) (n : ℕ) → need_of c ≡ need.Area n → NeedsArea c n
needs-area c n is = by_out c.out refl is where
  own : Own
  own = own_now c

  by_refusal : (x : Command) → c.out ≡ None → present_command c ≡ Some x → (refusal : Option Reply) → refusal_of c.boot own x ≡ refusal → need_unless_refused refusal (need_unrefused c.boot c.number own x) ≡ need.Area n → NeedsArea c n
  by_refusal x rests at (Some r) fine is = absurd (let no : need.Own ≡ need.Area n = is in cc)
  by_refusal x rests at None fine is = record { rests = rests; command = x; present = at; fine = fine; needs = is }

  by_present : c.out ≡ None → (present : Option Command) → present_command c ≡ present → need_for c.boot c.number own present ≡ need.Area n → NeedsArea c n
  by_present rests None at is = absurd (let no : need.Finished ≡ need.Area n = is in cc)
  by_present rests (Some x) at is = by_refusal x rests at (refusal_of c.boot own x) refl is

  by_out : (out : Option Taken) → c.out ≡ out → need_by out (need_for c.boot c.number own (present_command c)) ≡ need.Area n → NeedsArea c n
  by_out (Some span) rests is = absurd (let no : need.Memory ≡ need.Area n = is in cc)
  by_out None rests is = by_present rests (present_command c) refl is

pub step-area : (c : Seen) (there : List Moved) (calls : List ModuleCall) (n : ℕ) (at : NeedsArea c n) → AreaStep c.boot (own_now c) at.command n (step_of c.boot c.number (own_now c) there at.command calls)
step-area c there calls n at =
    let own = own_now c in
    let one = unrefused-area c.boot c.number own there at.command calls n at.fine at.needs in
    record {
      s = one.s;
      is = ap (λ r. refused_or r (unrefused_step c.boot c.number own there at.command calls)) at.fine ∙ one.is;
      there = one.there;
      kind = one.kind;
    }

pub area-next : (c : Seen) (scripts : List (List Command)) (there : List Moved) (calls : List ModuleCall) (n : ℕ) → need_of c ≡ need.Area n → HaveScript scripts c
    → (s : Step) × (next_step c.boot scripts c.number c.moved there calls ≡ Some s) × (place_of c.boot s.event ≡ place.Area n)
area-next c scripts there calls n is have =
    let at = needs-area c n is in
    let one = step-area c there calls n at in (
      one.s,
      next-is c scripts there calls have ∙ ap (option_and_then (λ (x : Command). step_of c.boot c.number (own_now c) there x calls)) at.present ∙ one.is,
      one.there,
    )

-- what kind of entry it makes there
pub area-kind : (c : Seen) (there : List Moved) (m : Moved) (n : ℕ) → need_of c ≡ need.Area n → (t : StepTaken c c.moved there m) → AreaKind (own_now c) t.command (step_told m.entry)
area-kind c there m n is t =
    let at = needs-area c n is in
    let calls = calls_in m.entry.event in
    let one = step-area c there calls n at in
    let same = some-same at.command t.command (sym at.present ∙ t.its) in
    let made = some-same one.s (step_told m.entry) (sym one.is ∙ ap (λ x. step_of c.boot c.number (own_now c) there x calls) same ∙ t.step) in
    subst (λ x. AreaKind (own_now c) x (step_told m.entry)) same (subst (AreaKind (own_now c) at.command) made one.kind)

-- so it is never idle
pub area-busy : (c : Seen) (memory : List Entry) (n : ℕ) → need_of c ≡ need.Area n → IsBusy c memory
area-busy c memory n is scripts have = ap (λ o. is_none o) (area-next c scripts (map unmoved memory) [] n is have).1

pub own-busy : (c : Seen) (memory : List Entry) → need_of c ≡ need.Own → IsBusy c memory
own-busy c memory is scripts have = ap (λ o. is_none o) (own-next c scripts (map unmoved memory) [] is have).1
