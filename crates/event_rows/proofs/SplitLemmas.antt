use Rattle.std.proofs.Common.{◌≡◌, List, [], ◌∷◌, ◌++◌, sym, subst, append_assoc, append-nil}
use Rattle.event_core.specs.declared.entry.Entry.{Entry}

-- What is said of every place of a history that is written out.

-- at each entry, behind those before it
abbrev pub AtEach : (List Entry → Entry → Type 0) → List Entry → List Entry → Type 0
AtEach P done [] = Unit {0}
AtEach P done (entry ∷ entries) = P done entry × AtEach P (done ++ entry ∷ []) entries

at_split : (P : List Entry → Entry → Type 0) (done before later : List Entry) (entry : Entry) → AtEach P done (before ++ entry ∷ later) → P (done ++ before) entry
at_split P done [] later entry all = subst (λ es. P es entry) (sym (append-nil done)) all.0
at_split P done (b ∷ before) later entry all = subst (λ es. P es entry) (append_assoc done (b ∷ []) before) (at_split P (done ++ b ∷ []) before later entry all.1)

pub each-entry : (P : List Entry → Entry → Type 0) (entries : List Entry) → AtEach P [] entries → (before later : List Entry) (entry : Entry) → entries ≡ before ++ entry ∷ later → P before entry
each-entry P entries all before later entry is = at_split P [] before later entry (subst (AtEach P []) is all)

-- before each entry, and behind the last
abbrev pub AfterEach : (List Entry → Type 0) → List Entry → List Entry → Type 0
AfterEach P done [] = P done
AfterEach P done (entry ∷ entries) = P done × AfterEach P (done ++ entry ∷ []) entries

first_of : (P : List Entry → Type 0) (done later : List Entry) → AfterEach P done later → P done
first_of P done [] all = all
first_of P done (entry ∷ entries) all = all.0

after_split : (P : List Entry → Type 0) (done before later : List Entry) → AfterEach P done (before ++ later) → P (done ++ before)
after_split P done [] later all = subst P (sym (append-nil done)) (first_of P done later all)
after_split P done (b ∷ before) later all = subst P (append_assoc done (b ∷ []) before) (after_split P (done ++ b ∷ []) before later all.1)

pub each-prefix : (P : List Entry → Type 0) (entries : List Entry) → AfterEach P [] entries → (before later : List Entry) → entries ≡ before ++ later → P before
each-prefix P entries all before later is = after_split P [] before later (subst (AfterEach P []) is all)
