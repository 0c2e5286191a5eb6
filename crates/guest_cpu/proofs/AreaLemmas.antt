use Rattle.std.proofs.Common.{◌≡◌, ℕ, ◌+◌, ◌*◌, Bool, true, false, Option, None, Some, List, [], refl, ap, subst, inl, inr, cond}
use Rattle.std.specs.Prelude.{length, not, ◌&&◌, ◌==◌}
use Rattle.std.specs.Option.{option_and_then}
use Rattle.std.proofs.lemmas.Bool.{cases_Bool}
use Rattle.guest_base.specs.Requests.{request_of}
use Rattle.guest_base.specs.declared.limits.TheConstants.{PAGE_BYTES}
use Rattle.guest_base.specs.declared.transfer.SlotRun.{SlotRun}
use Rattle.event_core.specs.declared.boot.Boot.{Boot}
use Rattle.event_core.specs.declared.command.Command.{Command}
use Rattle.event_core.specs.declared.command.Command.TheVariants as command
use Rattle.event_core.specs.declared.entry.Entry.{Entry}
use Rattle.event_core.specs.declared.entry.Place.TheVariants as place
use Rattle.event_core.specs.declared.event.Event.{Event}
use Rattle.event_core.specs.declared.event.Event.TheVariants as event
use Rattle.event_core.specs.declared.reply.Reply.TheVariants as reply
use Rattle.event_core.specs.AreaRows.{look_reply}
use Rattle.event_core.specs.Calls.{calls_in}
use Rattle.event_core.specs.Holdings.{Holding, Mapping, Own, asks_in, asks_out, block_named, mapping_named}
use Rattle.event_core.specs.Legal.{CallsFit, place_of}
use Rattle.event_core.specs.Moved.{Moved, entries_of}
use Rattle.event_core.specs.Next.{Step, copy_step, look_step, replied_by, taking_step, unrefused_step}
use Rattle.event_core.specs.OwnRows.{is_inside}
use Rattle.guest_steps.specs.Replies.{is_module}
use Rattle.guest_steps.specs.Seen.{need_of_load, need_unrefused}
use Rattle.guest_steps.specs.declared.processor.Need.TheVariants as need

-- What a step in an area is.

-- ---- its event

-- an event in an area is of no call of the module
pub area-quiet : (boot : Boot) (e : Event) (n : ℕ) → place_of boot e ≡ place.Area n → calls_in e ≡ []
area-quiet boot (event.Report run calls stopped next) n is = absurd (let no : place.Memory ≡ place.Area n = is in cc)
area-quiet boot (event.ConvertEnd block calls end) n is = absurd (let no : place.Memory ≡ place.Area n = is in cc)
area-quiet boot _ n is = refl

pub area-fits : (boot : Boot) (memory : List Entry) (e : Event) (n : ℕ) → place_of boot e ≡ place.Area n → CallsFit boot memory e
area-fits boot memory (event.Report run calls stopped next) n is = absurd (let no : place.Memory ≡ place.Area n = is in cc)
area-fits boot memory (event.ConvertEnd block calls end) n is = absurd (let no : place.Memory ≡ place.Area n = is in cc)
area-fits boot memory _ n is = tt

-- ---- its reply

-- a step is answered something else than that the module failed
abbrev IsSound : Option Step → Type 0
IsSound None = Unit {0}
IsSound (Some s) = is_module s.reply ≡ false

sound-held : {A : Type 0} (held : Option A) (does : A → Option Step) → ((a : A) → IsSound (does a)) → IsSound (option_and_then does held)
sound-held None does each = tt
sound-held (Some a) does each = each a

look-sound : (boot : Boot) (looks : ℕ) (found : Option SlotRun) → is_module (look_reply boot looks found) ≡ false
look-sound boot looks (Some run) = refl
look-sound boot looks None =
    elim (cases_Bool (looks + 1 == boot.areas)) [
      | inl last ↦ ap (λ (b : Bool). is_module (cond b (Some reply.Full) None)) last
      | inr more ↦ ap (λ (b : Bool). is_module (cond b (Some reply.Full) None)) more
    ]

-- a command that needs an area
abbrev pub NeedsPool : Command → Type 0
NeedsPool (command.Map mapping name off len direction mask) = Unit {0}
NeedsPool (command.SyncDev mapping off len) = Unit {0}
NeedsPool (command.SyncCpu mapping off len) = Unit {0}
NeedsPool (command.Unmap mapping skip) = Unit {0}
NeedsPool (command.DRead mapping off len) = Unit {0}
NeedsPool (command.DWrite mapping off hex) = Unit {0}
NeedsPool (command.HostRead off len) = Unit {0}
NeedsPool (command.HostWrite off hex) = Unit {0}
NeedsPool _ = ⊥

steps-sound : (boot : Boot) (cpu : ℕ) (own : Own) (there : List Moved) (c : Command) → NeedsPool c → IsSound (unrefused_step boot cpu own there c [])
steps-sound boot cpu own there (command.Map mapping name off len direction mask) is =
    sound-held (block_named own name) (λ (h : Holding). look_step boot (entries_of there) cpu own.looks (request_of (PAGE_BYTES * h.block.first + off) len mask)) (λ h. look-sound boot own.looks _)
steps-sound boot cpu own there (command.SyncDev mapping off len) is = sound-held (mapping_named own mapping) (λ (m : Mapping). copy_step (asks_in m.direction) (event.CopiedIn m.run off len)) (λ m. refl)
steps-sound boot cpu own there (command.SyncCpu mapping off len) is = sound-held (mapping_named own mapping) (λ (m : Mapping). copy_step (asks_out m.direction) (event.CopiedOut m.run off len)) (λ m. refl)
steps-sound boot cpu own there (command.Unmap mapping skip) is = sound-held (mapping_named own mapping) (λ (m : Mapping). replied_by (event.Released m.run (asks_out m.direction && not skip)) reply.Done) (λ m. refl)
steps-sound boot cpu own there (command.DRead mapping off len) is = sound-held (mapping_named own mapping) (λ (m : Mapping). taking_step boot there (event.DeviceRead m.run off len)) (λ m. refl)
steps-sound boot cpu own there (command.DWrite mapping off hex) is = sound-held (mapping_named own mapping) (λ (m : Mapping). replied_by (event.DeviceWrote m.run off (length hex)) reply.Done) (λ m. refl)
steps-sound boot cpu own there (command.HostRead off len) is = refl
steps-sound boot cpu own there (command.HostWrite off hex) is = refl
steps-sound boot cpu own there _ is = absurd is

pub area-sound : (boot : Boot) (cpu : ℕ) (own : Own) (there : List Moved) (c : Command) (s : Step) → NeedsPool c → unrefused_step boot cpu own there c [] ≡ Some s → is_module s.reply ≡ false
area-sound boot cpu own there c s is step = let S : Option Step → Type 0 = λ o. IsSound o in subst S step (steps-sound boot cpu own there c is)

-- ---- its command

load-needs : (held : Option Holding) (off n : ℕ) → need_of_load held off ≡ need.Area n → ⊥
load-needs None off n is = (let no : need.Memory ≡ need.Area n = is in cc)
load-needs (Some h) off n is = by_inside (is_inside h.block off) is
  where
    by_inside : (inside : Bool) → cond inside need.Own need.Memory ≡ need.Area n → ⊥
    by_inside true is = cc
    by_inside false is = cc

pub needs-pool : (boot : Boot) (cpu : ℕ) (own : Own) (c : Command) (n : ℕ) → need_unrefused boot cpu own c ≡ need.Area n → NeedsPool c
needs-pool boot cpu own (command.Read name off len) n is = absurd (let no : need.Own ≡ need.Area n = is in cc)
needs-pool boot cpu own (command.Write name off hex) n is = absurd (let no : need.Own ≡ need.Area n = is in cc)
needs-pool boot cpu own (command.Fill name off len byte) n is = absurd (let no : need.Own ≡ need.Area n = is in cc)
needs-pool boot cpu own (command.Load name off) n is = absurd (load-needs (block_named own name) off n is)
needs-pool boot cpu own (command.Map mapping name off len direction mask) n is = tt
needs-pool boot cpu own (command.SyncDev mapping off len) n is = tt
needs-pool boot cpu own (command.SyncCpu mapping off len) n is = tt
needs-pool boot cpu own (command.Unmap mapping skip) n is = tt
needs-pool boot cpu own (command.DRead mapping off len) n is = tt
needs-pool boot cpu own (command.DWrite mapping off hex) n is = tt
needs-pool boot cpu own (command.HostRead off len) n is = tt
needs-pool boot cpu own (command.HostWrite off hex) n is = tt
needs-pool boot cpu own _ n is = absurd (let no : need.Memory ≡ need.Area n = is in cc)
