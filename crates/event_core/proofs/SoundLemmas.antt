use Rattle.std.proofs.Common.{◌≡◌, ℕ, zero, suc, Bool, true, false, ◌&&◌, List, [], ◌∷◌, ◌++◌, refl, ap}
use Rattle.std.specs.Prelude.{slice_get, IfSome}
use Rattle.std.specs.List.{AllByRecursion}
use Rattle.guest_base.specs.declared.memory.Units.{Units}
use Rattle.event_core.specs.declared.boot.Boot.{Boot}
use Rattle.event_core.specs.declared.command.Command.{Command}
use Rattle.event_core.specs.declared.module_call.ModuleCall.{ModuleCall}
use Rattle.event_core.specs.declared.entry.Place.{Place}
use Rattle.event_core.specs.declared.entry.Place.TheVariants as place
use Rattle.event_core.specs.declared.entry.Entry.{Entry}
use Rattle.event_core.specs.Calls.{States, state_after, after_call, SoundCalls}
use Rattle.event_core.specs.MemoryRows.{page_state, pending_in, AcceptsUnits}
use Rattle.event_core.specs.Moved.{Moved, entries_of}
use Rattle.event_core.specs.Legal.{LegalAfter, with_bytes, same_place}
use Rattle.event_core.proofs.StepsLemmas.{steps-sound, pending-is}
use Rattle.event_core.proofs.StandingLemmas.{IsPlaced}

-- Sound calls, and histories with one more entry.

pub state_after-append : (states : States) (a b : List ModuleCall) → state_after states (a ++ b) ≡ state_after (state_after states a) b
state_after-append states [] b = refl
state_after-append states (call ∷ a) b = state_after-append (after_call states call) a b

pub SoundCalls-append : (states : States) (a b : List ModuleCall) → SoundCalls states a → SoundCalls (state_after states a) b → SoundCalls states (a ++ b)
SoundCalls-append states [] b first second = second
SoundCalls-append states (call ∷ a) b first second = (first.0, SoundCalls-append (after_call states call) a b first.1 second)

both_second : (b c : Bool) → (b && c) ≡ true → c ≡ true
both_second true c h = h
both_second false c h = cc

-- the calls for a run of units find their pages pending
pub accepts-sound : (boot : Boot) (before : List ModuleCall) (run : Units) (calls : List ModuleCall) → AcceptsUnits boot before run calls → SoundCalls (page_state boot before) calls
unfolding pending_in
accepts-sound boot before run calls steps =
    steps-sound boot.hosts _ _ _ _ calls (page_state boot before) (λ page low in_set. pending-is (page_state boot before page) (both_second _ _ in_set)) steps

pub entries_of-push : (history : List Moved) (m : Moved) → entries_of (history ++ m ∷ []) ≡ entries_of history ++ m.entry ∷ []
entries_of-push [] m = refl
entries_of-push (h ∷ history) m = ap (λ es. h.entry ∷ es) (entries_of-push history m)

pub placed-push : (boot : Boot) (history : List Moved) (m : Moved) → AllByRecursion (IsPlaced boot) history → IsPlaced boot m → AllByRecursion (IsPlaced boot) (history ++ m ∷ [])
placed-push boot [] m placed here = (here, tt)
placed-push boot (h ∷ history) m placed here = (placed.0, placed-push boot history m placed.1 here)

pub same_place-Memory : (p : Place) → same_place place.Memory p ≡ true → p ≡ place.Memory
same_place-Memory place.Memory h = refl
same_place-Memory (place.Area a) h = cc
same_place-Memory place.Own h = cc

-- what begins a legal history is legal
pub legal-front : (boot : Boot) (scripts : List (List Command)) (history : List Moved) (before later : List Entry) → LegalAfter boot scripts history (before ++ later) → LegalAfter boot scripts history before
legal-front boot scripts history [] later legal = tt
legal-front boot scripts history (entry ∷ before) later legal = (legal.0, legal.1, legal-front boot scripts (history ++ with_bytes boot scripts history entry ∷ []) before later legal.2)

-- what holds of each item holds of the one at a place
pub found_one : {A : Type 0} (P : A → Type 0) (xs : List A) (n : ℕ) → AllByRecursion P xs → IfSome (slice_get xs n) P
found_one P [] n all = tt
found_one P (x ∷ xs) zero all = all.0
found_one P (x ∷ xs) (suc n) all = found_one P xs n all.1
