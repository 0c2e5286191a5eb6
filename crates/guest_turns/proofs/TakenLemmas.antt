use Rattle.std.proofs.Common.{◌≡◌, ℕ, Bool, true, false, List, [], ◌∷◌, ◌++◌, refl, sym, subst}
use Rattle.event_core.specs.declared.boot.Boot.{Boot}
use Rattle.event_core.specs.declared.command.Command.{Command}
use Rattle.event_core.specs.declared.entry.Entry.{Entry}
use Rattle.event_core.specs.Moved.{Moved}
use Rattle.event_core.specs.Legal.{Follows, with_bytes, moved_after}
use Rattle.event_core.specs.Turns.{TakenIn, is_idle}

-- Turns behind turns.

pub moved-append : (boot : Boot) (scripts : List (List Command)) (history : List Moved) (taken next : List Entry)
    → moved_after boot scripts history (taken ++ next) ≡ moved_after boot scripts (moved_after boot scripts history taken) next
moved-append boot scripts history [] next = refl
moved-append boot scripts history (entry ∷ taken) next = moved-append boot scripts (history ++ with_bytes boot scripts history entry ∷ []) taken next

-- what a turn tells where it is known whether it was idle
pub if-idle : (idle : Bool) (A B : Type 0) → idle ≡ true → A → elim idle as (λ _. Type 0) [ true ↦ A | false ↦ B ]
if-idle true A B is a = a
if-idle false A B is a = cc

pub if-busy : (idle : Bool) (A B : Type 0) → idle ≡ false → B → elim idle as (λ _. Type 0) [ true ↦ A | false ↦ B ]
if-busy true A B is b = cc
if-busy false A B is b = b

on-either : (idle : Bool) (A B C D : Type 0) → (A → C) → (B → D) → elim idle as (λ _. Type 0) [ true ↦ A | false ↦ B ] → elim idle as (λ _. Type 0) [ true ↦ C | false ↦ D ]
on-either true A B C D one other told = one told
on-either false A B C D one other told = other told

-- entries that were taken in turns, and then in more turns
pub taken-append : (boot : Boot) (scripts : List (List Command)) (history : List Moved) (turns : List ℕ) (taken : List Entry) (more : List ℕ) (next : List Entry)
    → TakenIn boot scripts history turns taken → TakenIn boot scripts (moved_after boot scripts history taken) more next → TakenIn boot scripts history (turns ++ more) (taken ++ next)
taken-append boot scripts history [] taken more next told then =
    subst (λ es. TakenIn boot scripts (moved_after boot scripts history es) more next → TakenIn boot scripts history more (es ++ next)) (sym told) (λ (same : TakenIn boot scripts history more next). same) then
taken-append boot scripts history (cpu ∷ turns) [] more [] told then = (told.0, taken-append boot scripts history turns [] more [] told.1 then)
taken-append boot scripts history (cpu ∷ turns) [] more (entry ∷ next) told then =
    if-idle (is_idle boot scripts history cpu) _ _ told.0 (taken-append boot scripts history turns [] more (entry ∷ next) told.1 then)
taken-append boot scripts history (cpu ∷ turns) (entry ∷ taken) more next told then =
    on-either (is_idle boot scripts history cpu) _ _ _ _
    (λ (idle : TakenIn boot scripts history turns (entry ∷ taken)). taken-append boot scripts history turns (entry ∷ taken) more next idle then)
    (λ (made : (entry.cpu.0 ≡ cpu) × Follows boot scripts history entry × TakenIn boot scripts (history ++ with_bytes boot scripts history entry ∷ []) turns taken).
    (made.0, made.1, taken-append boot scripts (history ++ with_bytes boot scripts history entry ∷ []) turns taken more next made.2 then))
    told
