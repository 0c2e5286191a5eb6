use Rattle.std.proofs.Common.{◌≡◌, Some, Result, Ok, Err, IsOk, OnOk, List, [], ◌∷◌, ◌++◌, All, Any, refl, sym, ◌∙◌, ap, subst, map, length, append_assoc, arith}
use Rattle.std.specs.Result.{result_and}
use Rattle.std.proofs.lemmas.List.{get_or_append_left, get_or_push, length-append, map-append}
use Rattle.std.proofs.lemmas.List.Elements.{All-push}
use Rattle.event_core.specs.declared.clock.NoRoom.{NoRoom}
use Rattle.guest_threads.specs.declared.locks.Passes.{Passes}
use Rattle.guest_threads.specs.declared.places.Place.{Place}
use Rattle.guest_threads.specs.Places.{IsFinished, IsRefused, passes_at, processors_at}

-- Processors and passes that go to places, and come from there again.

-- the last element of what stands before goes to what stands behind
pub goes-over : {X : Type 0} (all xs ys rest : List X) (x : X) → all ≡ xs ++ rest → xs ≡ ys ++ x ∷ [] → all ≡ ys ++ x ∷ rest
goes-over all xs ys rest x is last = is ∙ ap (λ l. l ++ rest) last ∙ append_assoc ys (x ∷ []) rest

-- and the first element of what stands behind to what stands before
pub comes-over : {X : Type 0} (all xs rest : List X) (x : X) → all ≡ xs ++ x ∷ rest → all ≡ (xs ++ x ∷ []) ++ rest
comes-over all xs rest x is = is ∙ sym (append_assoc xs (x ∷ []) rest)

-- a further place comes first in the order of the numbers
pub processors-push : {T : Type 0} (places : List (Place T)) (place : Place T) → processors_at (places ++ place ∷ []) ≡ place.processor ∷ processors_at places
processors-push [] place = refl
processors-push (p ∷ ps) place = ap (λ l. l ++ p.processor ∷ []) (processors-push ps place)

pub passes-push : {T : Type 0} (places : List (Place T)) (place : Place T) → passes_at (places ++ place ∷ []) ≡ place.passes ∷ passes_at places
passes-push [] place = refl
passes-push (p ∷ ps) place = ap (λ l. l ++ p.passes ∷ []) (passes-push ps place)

pub passes-last : (passes left : List Passes) (mine : Passes) → passes ≡ left ++ mine ∷ [] → map Some passes ≡ map Some left ++ Some mine ∷ []
passes-last passes left mine is = ap (λ l. map Some l) is ∙ map-append (λ p. Some p) left (mine ∷ [])

module _ {X : Type 0} (P : X → Type 0) where
  pub any-before : (xs : List X) (x : X) → Any P xs → Any P (xs ++ x ∷ [])
  any-before xs x a = (a.0, a.1, omega (arith, a.2, length-append xs (x ∷ [])), get_or_append_left xs (x ∷ []) a.1 a.0 a.2 ∙ a.3, a.4)

  pub any-last : (xs : List X) (x : X) → P x → Any P (xs ++ x ∷ [])
  any-last xs x p = (length xs, x, omega (arith, length-append xs (x ∷ [])), get_or_push xs x x (length xs) refl, p)

module _ {T : Type 0} (all places left : List (Place T)) (place : Place T) (last : places ≡ left ++ place ∷ []) where
  -- the places that are left, after one more whose answer goes with the earlier ones
  pub finished-then : (refused : Result Unit NoRoom) → OnOk refused (All IsFinished places → All IsFinished all) → (answer : Result Unit NoRoom) → place.answer ≡ answer
      → OnOk (result_and refused answer) (All IsFinished left → All IsFinished all)
  finished-then (Ok u) fine (Ok v) is = λ rest. fine (subst (All IsFinished) (sym last) (All-push IsFinished left place rest (subst IsOk (sym is) refl)))
  finished-then (Ok u) fine (Err refusal) is = tt
  finished-then (Err refusal) fine answer is = tt

  pub within-then : ((refusal : NoRoom) → Any (IsRefused refusal) places → Any (IsRefused refusal) all) → (refusal : NoRoom) → Any (IsRefused refusal) left → Any (IsRefused refusal) all
  within-then within refusal any = within refusal (subst (Any (IsRefused refusal)) (sym last) (any-before (IsRefused refusal) left place any))

  pub refused-then : ((refusal : NoRoom) → Any (IsRefused refusal) places → Any (IsRefused refusal) all) → (refused answer : Result Unit NoRoom) → ((refusal : NoRoom) → refused ≡ Err refusal → Any (IsRefused refusal) all)
      → place.answer ≡ answer → (refusal : NoRoom) → result_and refused answer ≡ Err refusal → Any (IsRefused refusal) all
  refused-then within (Ok u) answer refusals is refusal error = within refusal (subst (Any (IsRefused refusal)) (sym last) (any-last (IsRefused refusal) left place (is ∙ error)))
  refused-then within (Err first) answer refusals is refusal error = refusals refusal error
