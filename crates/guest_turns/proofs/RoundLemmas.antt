use Rattle.std.proofs.Common.{◌≡◌, ◌≢◌, ℕ, zero, suc, ◌+◌, ◌<◌, Bool, true, false, Some, Ok, List, [], ◌∷◌, ◌++◌, length, refl, sym, ◌∙◌, ap, subst, inl, inr, ◌⊎◌, arith, append-nil, append_assoc, slice_get}
use Rattle.std.specs.Prelude.{Result}
use Rattle.std.specs.declared.alloc.AllocError.{AllocError}
use Rattle.std.proofs.lemmas.Option.{slice_get_within}
use Rattle.event_core.specs.declared.boot.Boot.{Boot}
use Rattle.event_core.specs.Turns.{numbers_from, rounds_of}
use Rattle.guest_steps.specs.Ground.{Ground}
use Rattle.guest_steps.specs.Running.{AllFinished}
use Rattle.guest_steps.specs.Seen.{Seen, steps_waiting}
use Rattle.guest_steps.specs.Standing.{Together}
use Rattle.guest_steps.proofs.ListLemmas.{got-set}
use Rattle.guest_turns.specs.Walks.{Rests, RestsAt, all_left, all_steps, waiting_in}
use Rattle.guest_turns.proofs.RestLemmas.{all-finished, finished-none_left, some-left}

-- A round.

-- ---- its numbers

numbers-push : (from count : ℕ) → numbers_from from (count + 1) ≡ numbers_from from count ++ (from + count) ∷ []
numbers-push from zero = ap (λ n. n ∷ []) (let is : from ≡ from + 0 = omega arith in is)
numbers-push from (suc count) =
    let long : suc count + 1 ≡ suc (count + 1) = omega arith in
    let last : from + 1 + count ≡ from + suc count = omega arith in
    ap (numbers_from from) long
    ∙ ap (λ ns. from ∷ ns) (numbers-push (from + 1) count)
    ∙ ap (λ n. from ∷ (numbers_from (from + 1) count ++ n ∷ [])) last

pub numbers-next : (cpu : ℕ) → numbers_from 0 (cpu + 1) ≡ numbers_from 0 cpu ++ cpu ∷ []
numbers-next cpu = numbers-push 0 cpu ∙ ap (λ n. numbers_from 0 cpu ++ n ∷ []) (let is : 0 + cpu ≡ cpu = omega arith in is)

-- one more round
rounds-push : (cpus rounds : ℕ) → rounds_of cpus rounds ++ numbers_from 0 cpus ≡ rounds_of cpus (suc rounds)
rounds-push cpus zero = sym (append-nil (numbers_from 0 cpus))
rounds-push cpus (suc rounds) =
    append_assoc (numbers_from 0 cpus) (rounds_of cpus rounds) (numbers_from 0 cpus) ∙ ap (λ ns. numbers_from 0 cpus ++ ns) (rounds-push cpus rounds)

pub rounds-next : (order : List ℕ) (cpus all rounds : ℕ) → all ≡ cpus → (order ++ rounds_of cpus rounds) ++ numbers_from 0 all ≡ order ++ rounds_of cpus (suc rounds)
rounds-next order cpus all rounds is =
    ap (λ n. (order ++ rounds_of cpus rounds) ++ numbers_from 0 n) is
    ∙ append_assoc order (rounds_of cpus rounds) (numbers_from 0 cpus)
    ∙ ap (λ ns. order ++ ns) (rounds-push cpus rounds)

-- ---- what it makes

-- So far an entry was made, or each processor up to here rests.
abbrev pub SoFar : ℕ → List Seen → List Seen → Ground → Ground → Type 0
SoFar cpu old new before after =
    (all_left new after < all_left old before)
    ⊎ ((all_steps new ≡ all_steps old) × (waiting_in after ≡ waiting_in before) × ((k : ℕ) (c : Seen) → k < cpu → slice_get new k ≡ Some c → Rests c after.memory.entries))

pub so_far-first : (all : List Seen) (base : Ground) → SoFar 0 all all base base
so_far-first all base = inr (refl, refl, λ k c below at. absurd (omega (arith, below)))

after-event : (cpu : ℕ) (old mid new : List Seen) (before between after : Ground) → all_left new after < all_left mid between → SoFar cpu old mid before between → SoFar (cpu + 1) old new before after
after-event cpu old mid new before between after less (inl some) = inl (omega (arith, less, some))
after-event cpu old mid new before between after less (inr (same, waiting, rests)) = inl (omega (arith, less, same, waiting))

after-rest : (cpu : ℕ) (old mid new : List Seen) (before between after : Ground) → RestsAt cpu mid new between after → SoFar cpu old mid before between → SoFar (cpu + 1) old new before after
after-rest cpu old mid new before between after r so_far = by_far so_far where
  still : waiting_in after ≡ waiting_in between
  still = ap (λ (b : Boot). steps_waiting b after.memory.entries) r.boot ∙ ap (steps_waiting between.memory.boot) r.entries

  by_place : ((k : ℕ) (c : Seen) → k < cpu → slice_get mid k ≡ Some c → Rests c between.memory.entries) → (k : ℕ) (c : Seen) → k < cpu + 1 → ((k ≡ cpu) × (c ≡ r.now)) ⊎ ((k ≢ cpu) × (slice_get mid k ≡ Some c)) → Rests c after.memory.entries
  by_place rests k c below (inl (here, is)) = subst (λ d. Rests d after.memory.entries) (sym is) r.rests
  by_place rests k c below (inr (other, at)) = subst (λ es. Rests c es) (sym r.entries) (rests k c (omega (arith, below, other)) at)

  by_far : SoFar cpu old mid before between → SoFar (cpu + 1) old new before after
  by_far (inl some) = let left = r.left in inl (omega (arith, some, left, still))
  by_far (inr (same, waiting, rests)) =
      inr (r.left ∙ same, still ∙ waiting, λ k c below at. by_place rests k c below (got-set mid cpu r.now k c (sym (ap (λ xs. slice_get xs k) r.others) ∙ at)))

pub so_far-push : (made : Bool) (result : Result Bool AllocError) (cpu : ℕ) (old mid new : List Seen) (before between after : Ground) → result ≡ Ok made
    → (result ≡ Ok true → all_left new after < all_left mid between) → (result ≡ Ok false → RestsAt cpu mid new between after) → SoFar cpu old mid before between → SoFar (cpu + 1) old new before after
so_far-push true result cpu old mid new before between after is event none so_far = after-event cpu old mid new before between after (event is) so_far
so_far-push false result cpu old mid new before between after is event none so_far = after-rest cpu old mid new before between after (none is) so_far

-- a whole round makes an entry, where a processor isn't finished
pub round-less : (boot : Boot) (old new : List Seen) (before after : Ground) (cpus : ℕ) → Together boot old before → Together boot new after → length new ≡ cpus → SoFar cpus old new before after
    → (AllFinished old → ⊥) → all_left new after < all_left old before
round-less boot old new before after cpus first t long (inl some) unfinished = some
round-less boot old new before after cpus first t long (inr (same, waiting, rests)) unfinished =
    let finished = all-finished boot new after t (λ k c at. rests k c (let within = slice_get_within new k c at in omega (arith, within, long)) at) in
    let none = finished-none_left new finished in
    let some = some-left boot old before first unfinished in
    absurd (omega (arith, none, some, same))
