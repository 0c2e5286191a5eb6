use Rattle.std.proofs.Common.{◌≡◌, ℕ, Bool, true, false, Option, None, List, [], ◌∷◌, ◌++◌, refl, sym, ◌∙◌, ap, inl, inr, cond, append_assoc, append-nil}
use Rattle.std.specs.Prelude.{fold, ◌==◌}
use Rattle.std.specs.List.{flat_map, AllByRecursion}
use Rattle.std.proofs.lemmas.Bool.{cases_Bool}
use Rattle.std.proofs.lemmas.List.Sums.{fold-append}
use Rattle.std.proofs.lemmas.Grind.{flat_map-append}
use Rattle.event_core.specs.declared.boot.Boot.{Boot}
use Rattle.event_core.specs.declared.module_call.ModuleCall.{ModuleCall}
use Rattle.event_core.specs.declared.event.Event.{Event}
use Rattle.event_core.specs.declared.event.Event.TheVariants as event
use Rattle.event_core.specs.declared.entry.Place.TheVariants as place
use Rattle.event_core.specs.declared.entry.Entry.{Entry}
use Rattle.event_core.specs.Calls.{calls_in, calls_of}
use Rattle.event_core.specs.Claims.{Claimed, Standing, standing_step, claim_step, claim_of}
use Rattle.event_core.specs.Moved.{Moved, entries_of}
use Rattle.event_core.specs.Legal.{same_place, at_place, place_of}

-- where a processor stands after entries
abbrev pub standing_of : Boot → ℕ → Standing → List Entry → Standing
standing_of boot cpu at entries = fold (standing_step boot cpu) at entries

-- at boot
abbrev pub at_boot : Boot → Standing
at_boot boot = record { calls = boot.calls; claim = None }

append-none : {A : Type 0} (xs ys : List A) → ys ≡ [] → xs ++ ys ≡ xs
append-none xs ys h = rw h (append-nil xs)

pub standing-calls : (boot : Boot) (cpu : ℕ) (at : Standing) (entries : List Entry) → (standing_of boot cpu at entries).calls ≡ at.calls ++ flat_map (λ (e : Entry). calls_in e.event) entries
standing-calls boot cpu at [] = sym (append-none at.calls [] refl)
standing-calls boot cpu at (entry ∷ entries) =
    standing-calls boot cpu (standing_step boot cpu at entry) entries ∙ append_assoc at.calls (calls_in entry.event) _

-- an entry that stands where its event takes place
abbrev pub IsPlaced : Boot → Moved → Type 0
IsPlaced boot m = m.entry.place ≡ place_of boot m.entry.event

-- what doesn't take place in the memory calls no module and changes no claim
abbrev pub IsQuiet : Boot → Event → Type 0
IsQuiet boot e = (calls_in e ≡ []) × ((before : List ModuleCall) (claim : Option Claimed) → claim_step boot before claim e ≡ claim)

pub quiet : (boot : Boot) (e : Event) → same_place place.Memory (place_of boot e) ≡ false → IsQuiet boot e
quiet boot event.Own h = (refl, λ before claim. refl)
quiet boot (event.Claim block units run) h = cc
quiet boot (event.Report run calls stopped next) h = cc
quiet boot (event.Got block) h = (refl, λ before claim. refl)
quiet boot event.NoBlock h = (refl, λ before claim. refl)
quiet boot (event.Freed block) h = (refl, λ before claim. refl)
quiet boot (event.Asked found) h = (refl, λ before claim. refl)
quiet boot (event.Touched page found) h = (refl, λ before claim. refl)
quiet boot (event.ConvertBegin block to) h = (refl, λ before claim. refl)
quiet boot (event.ConvertEnd block calls end) h = cc
quiet boot (event.Looked area run) h = (refl, λ before claim. refl)
quiet boot (event.CopiedIn run off len) h = (refl, λ before claim. refl)
quiet boot (event.CopiedOut run off len) h = (refl, λ before claim. refl)
quiet boot (event.Released run copied) h = (refl, λ before claim. refl)
quiet boot (event.DeviceRead run off len) h = (refl, λ before claim. refl)
quiet boot (event.DeviceWrote run off len) h = (refl, λ before claim. refl)
quiet boot (event.HostRead off len) h = (refl, λ before claim. refl)
quiet boot (event.HostWrote off len) h = (refl, λ before claim. refl)

same_or : {A : Type 0} (b : Bool) (x y : A) → x ≡ y → cond b x y ≡ y
same_or true x y h = h
same_or false x y h = refl

standing_step-quiet : (boot : Boot) (cpu : ℕ) (at : Standing) (entry : Entry) → IsQuiet boot entry.event → standing_step boot cpu at entry ≡ at
standing_step-quiet boot cpu at entry q =
    let claim : cond (entry.cpu.0 == cpu) (claim_step boot at.calls at.claim entry.event) at.claim ≡ at.claim = same_or (entry.cpu.0 == cpu) _ _ (q.1 at.calls at.claim) in
    ap (λ (c : List ModuleCall). let s : Standing = record { calls = c; claim = cond (entry.cpu.0 == cpu) (claim_step boot at.calls at.claim entry.event) at.claim } in s) (append-none at.calls (calls_in entry.event) q.0)
    ∙ ap (λ (c : Option Claimed). let s : Standing = record { calls = at.calls; claim = c } in s) claim

-- the memory's entries alone say where a processor stands
pub standing-memory : (boot : Boot) (cpu : ℕ) (at : Standing) (history : List Moved) → AllByRecursion (IsPlaced boot) history → standing_of boot cpu at (entries_of (at_place place.Memory history)) ≡ standing_of boot cpu at (entries_of history)
standing-memory boot cpu at [] placed = refl
standing-memory boot cpu at (m ∷ ms) placed =
    elim (cases_Bool (same_place place.Memory m.entry.place)) [
      | inl t ↦ rw t (standing-memory boot cpu (standing_step boot cpu at m.entry) ms placed.1)
      | inr f ↦
          rw f
          (standing-memory boot cpu at ms placed.1
          ∙ sym (ap (λ s. standing_of boot cpu s (entries_of ms)) (standing_step-quiet boot cpu at m.entry (quiet boot m.entry.event (ap (same_place place.Memory) (sym placed.0) ∙ f)))))
    ]

pub claim_of-memory : (boot : Boot) (cpu : ℕ) (history : List Moved) → AllByRecursion (IsPlaced boot) history → claim_of boot (entries_of (at_place place.Memory history)) cpu ≡ claim_of boot (entries_of history) cpu
unfolding claim_of
claim_of-memory boot cpu history placed = ap (λ (s : Standing). s.claim) (standing-memory boot cpu (at_boot boot) history placed)

pub calls_of-memory : (boot : Boot) (history : List Moved) → AllByRecursion (IsPlaced boot) history → calls_of boot (entries_of (at_place place.Memory history)) ≡ calls_of boot (entries_of history)
calls_of-memory boot history placed =
    sym (standing-calls boot 0 (at_boot boot) (entries_of (at_place place.Memory history))) ∙ ap (λ (s : Standing). s.calls) (standing-memory boot 0 (at_boot boot) history placed) ∙ standing-calls boot 0 (at_boot boot) (entries_of history)

-- one more entry
pub calls_of-push : (boot : Boot) (entries : List Entry) (entry : Entry) → calls_of boot (entries ++ entry ∷ []) ≡ calls_of boot entries ++ calls_in entry.event
calls_of-push boot entries entry =
    ap (λ calls. boot.calls ++ calls) (flat_map-append (λ (e : Entry). calls_in e.event) entries (entry ∷ []) ∙ ap (λ calls. flat_map (λ (e : Entry). calls_in e.event) entries ++ calls) (append-nil (calls_in entry.event)))
    ∙ sym (append_assoc boot.calls (flat_map (λ (e : Entry). calls_in e.event) entries) (calls_in entry.event))

pub claim_of-push : (boot : Boot) (entries : List Entry) (entry : Entry) (cpu : ℕ) → claim_of boot (entries ++ entry ∷ []) cpu ≡ cond (entry.cpu.0 == cpu) (claim_step boot (calls_of boot entries) (claim_of boot entries cpu) entry.event) (claim_of boot entries cpu)
unfolding claim_of
claim_of-push boot entries entry cpu =
    ap (λ (s : Standing). s.claim) (fold-append (standing_step boot cpu) (at_boot boot) entries (entry ∷ []))
    ∙ ap (λ calls. cond (entry.cpu.0 == cpu) (claim_step boot calls (standing_of boot cpu (at_boot boot) entries).claim entry.event) (standing_of boot cpu (at_boot boot) entries).claim) (standing-calls boot cpu (at_boot boot) entries)
