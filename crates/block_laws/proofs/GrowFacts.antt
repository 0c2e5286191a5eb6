-- What one more entry adds to the memory's entries and to those of its processor.
use Rattle.std.proofs.Common.{◌≡◌, ℕ, Bool, true, false, List, [], ◌∷◌, ◌++◌, map, filter, ◌∙◌, ap, cond, append-nil}
use Rattle.std.specs.Prelude.{◌==◌, fold}
use Rattle.std.proofs.lemmas.List.{map-append}
use Rattle.std.proofs.lemmas.List.Elements.{filter-append}
use Rattle.std.proofs.lemmas.List.Sums.{fold-append}
use Rattle.event_core.specs.declared.command.Command.{Command}
use Rattle.event_core.specs.declared.entry.Entry.{Entry}
use Rattle.event_core.specs.declared.entry.Place.TheVariants as place
use Rattle.event_core.specs.Legal.{at_place, same_place, bare}
use Rattle.event_core.specs.Moved.{Moved, entries_of, made_by}
use Rattle.event_core.specs.Own.{own_of, own_step, nothing}

-- the entries of the memory
abbrev pub memory_of : List Moved → List Entry
memory_of history = entries_of (at_place place.Memory history)

filter-one : {A : Type 0} (test : A → Bool) (xs : List A) (x : A) (b : Bool) → test x ≡ b → filter test (xs ++ x ∷ []) ≡ filter test xs ++ cond b (x ∷ []) []
filter-one test xs x b is = filter-append test xs (x ∷ []) ∙ ap (λ (c : Bool). filter test xs ++ cond c (x ∷ []) []) is

entries-append : (a b : List Moved) → entries_of (a ++ b) ≡ entries_of a ++ entries_of b
entries-append a b = map-append (λ (m : Moved). m.entry) a b

pub memory-grows : (history : List Moved) (m : Moved) → same_place place.Memory m.entry.place ≡ true → memory_of (history ++ m ∷ []) ≡ memory_of history ++ (bare m).entry ∷ []
memory-grows history m is =
    ap (λ (ms : List Moved). entries_of (map bare ms)) (filter-one (λ (n : Moved). same_place place.Memory n.entry.place) history m true is)
    ∙ ap entries_of (map-append bare (filter (λ (n : Moved). same_place place.Memory n.entry.place) history) (m ∷ []))
    ∙ entries-append (at_place place.Memory history) (bare m ∷ [])

pub memory-same : (history : List Moved) (m : Moved) → same_place place.Memory m.entry.place ≡ false → memory_of (history ++ m ∷ []) ≡ memory_of history
memory-same history m is =
    ap (λ (ms : List Moved). entries_of (map bare ms)) (filter-one (λ (n : Moved). same_place place.Memory n.entry.place) history m false is ∙ append-nil (filter (λ (n : Moved). same_place place.Memory n.entry.place) history))

pub own-grows : (script : List Command) (cpu : ℕ) (history : List Moved) (m : Moved) → (m.entry.cpu.0 == cpu) ≡ true → own_of script (made_by cpu (history ++ m ∷ [])) ≡ own_step script (own_of script (made_by cpu history)) m
unfolding own_of
own-grows script cpu history m is =
    ap (fold (own_step script) nothing) (filter-one (λ (n : Moved). n.entry.cpu.0 == cpu) history m true is)
    ∙ fold-append (own_step script) nothing (made_by cpu history) (m ∷ [])

pub own-same : (script : List Command) (cpu : ℕ) (history : List Moved) (m : Moved) → (m.entry.cpu.0 == cpu) ≡ false → own_of script (made_by cpu (history ++ m ∷ [])) ≡ own_of script (made_by cpu history)
own-same script cpu history m is = ap (own_of script) (filter-one (λ (n : Moved). n.entry.cpu.0 == cpu) history m false is ∙ append-nil (made_by cpu history))
