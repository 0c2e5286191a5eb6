-- The calls of commands that convert nothing find their pages in the state that they need.
use Rattle.std.proofs.Common.{◌≡◌, List, [], ◌∷◌, ◌++◌, sym, ◌∙◌, ap, subst, inl, inr, append_assoc, append-nil}
use Rattle.std.specs.Prelude.{length}
use Rattle.std.specs.List.{AllByRecursion}
use Rattle.std.proofs.lemmas.Bool.{cases_Bool}
use Rattle.event_core.specs.declared.boot.Boot.{Boot}
use Rattle.event_core.specs.declared.command.Command.{Command}
use Rattle.event_core.specs.declared.entry.Entry.{Entry}
use Rattle.event_core.specs.declared.entry.Place.TheVariants as place
use Rattle.event_core.specs.declared.event.Event.{Event}
use Rattle.event_core.specs.declared.event.Event.TheVariants as event
use Rattle.event_core.specs.declared.module_call.ModuleCall.{ModuleCall}
use Rattle.event_core.specs.AcceptedOnce.{AcceptedOnce}
use Rattle.event_core.specs.Calls.{calls_in, calls_of, SoundCalls}
use Rattle.event_core.specs.Legal.{Follows, LegalAfter, Legal, with_bytes, at_place, place_of, same_place, CallsFit}
use Rattle.event_core.specs.MemoryRows.{page_state}
use Rattle.event_core.specs.Moved.{Moved, entries_of}
use Rattle.event_core.specs.Runs.{state_in}
use Rattle.event_core.proofs.SoundLemmas.{SoundCalls-append, accepts-sound, entries_of-push, placed-push, same_place-Memory}
use Rattle.event_core.proofs.StandingLemmas.{IsPlaced, quiet, calls_of-memory, calls_of-push}
use Rattle.block_laws.specs.Unconverting.{ConvertNothing}
use Rattle.block_laws.proofs.ClaimFacts.{legal-claims-apart}
use Rattle.block_laws.proofs.EventFacts.{IsUnconverting}
use Rattle.block_laws.proofs.RowFacts.{follows-unconverting}

-- the calls of such an event that fit are sound after the memory's entries
fit-sound : (boot : Boot) (memory : List Entry) (e : Event) → IsUnconverting e → CallsFit boot memory e → SoundCalls (page_state boot (calls_of boot memory)) (calls_in e)
fit-sound boot memory (event.Report run calls stopped next) is fit = accepts-sound boot (calls_of boot memory) run calls fit
fit-sound boot memory (event.ConvertBegin block to) is fit = absurd is
fit-sound boot memory (event.ConvertEnd block calls end) is fit = absurd is
fit-sound boot memory _ is fit = tt

follows-sound : (boot : Boot) (scripts : List (List Command)) (history : List Moved) (entry : Entry) → ConvertNothing scripts → AllByRecursion (IsPlaced boot) history → Follows boot scripts history entry → SoundCalls (page_state boot (calls_of boot (entries_of history))) (calls_in entry.event)
follows-sound boot scripts history entry all placed f =
    elim (cases_Bool (same_place place.Memory (place_of boot entry.event))) [
      | inl t ↦
          (let at : entry.place ≡ place.Memory = f.over.place ∙ same_place-Memory (place_of boot entry.event) t in
          let P : List ModuleCall → Type 0 = λ calls. SoundCalls (page_state boot calls) (calls_in entry.event) in
          subst P (ap (λ p. calls_of boot (entries_of (at_place p history))) at ∙ calls_of-memory boot history placed)
          (fit-sound boot (entries_of (at_place entry.place history)) entry.event (follows-unconverting boot scripts history entry all f) f.over.calls))
      | inr q ↦
          (let P : List ModuleCall → Type 0 = λ calls. SoundCalls (page_state boot (calls_of boot (entries_of history))) calls in
          subst P (sym (quiet boot entry.event q).0) tt)
    ]

sound-after : (boot : Boot) (scripts : List (List Command)) (history : List Moved) (entries : List Entry) → ConvertNothing scripts → AllByRecursion (IsPlaced boot) history → SoundCalls (state_in boot.ram) (calls_of boot (entries_of history)) → LegalAfter boot scripts history entries → SoundCalls (state_in boot.ram) (calls_of boot (entries_of history ++ entries))
sound-after boot scripts history [] all placed sound legal = rw (append-nil (entries_of history)) sound
sound-after boot scripts history (entry ∷ entries) all placed sound legal =
    let m = with_bytes boot scripts history entry in
    let pushed = entries_of-push history m in
    let now = SoundCalls-append (state_in boot.ram) (calls_of boot (entries_of history)) (calls_in entry.event) sound (follows-sound boot scripts history entry all placed legal.0) in
    let P : List ModuleCall → Type 0 = SoundCalls (state_in boot.ram) in
    let Q : List Entry → Type 0 = λ es. SoundCalls (state_in boot.ram) (calls_of boot es) in
    subst Q (ap (λ es. es ++ entries) pushed ∙ append_assoc (entries_of history) (entry ∷ []) entries)
    (sound-after boot scripts (history ++ m ∷ []) entries all (placed-push boot history m placed legal.0.over.place)
    (subst P (sym (ap (calls_of boot) pushed ∙ calls_of-push boot (entries_of history) entry)) now) legal.2)

-- a legal history accepts no page twice, where boot's calls are sound
pub blocks-accepted-once : (boot : Boot) (scripts : List (List Command)) (entries : List Entry) → ConvertNothing scripts → length scripts ≡ boot.cpus → SoundCalls (state_in boot.ram) boot.calls → Legal boot scripts entries → AcceptedOnce boot entries
blocks-accepted-once boot scripts entries all cpus sound legal = record {
  sound = sound-after boot scripts [] entries all tt (rw (append-nil boot.calls) sound) legal;
  apart = legal-claims-apart boot scripts entries cpus legal;
}
