use Rattle.std.proofs.Common.{◌≡◌, ℕ, ◌<◌, ◌≤◌, List, Option, None, Some, refl, sym, ◌∙◌, ap, subst, ⊎_elim, arith}
use Rattle.std.proofs.lemmas.Bool.{cases_lt}
use Rattle.guest_base.specs.declared.memory.CpuNo.{CpuNo}
use Rattle.std.specs.Prelude.{Ok}
use Rattle.guest_map.specs.declared.map.GuestMap.{GuestMap}
use Rattle.efi_map.specs.MapFile.{map_of}
use Rattle.guest_words.specs.Words.{Named, cpus_in}
use Rattle.guest_input.specs.declared.stop.Cause.{Cause}
use Rattle.guest_input.specs.declared.stop.InputFile.{InputFile}
use Rattle.guest_input.specs.declared.stop.InputFile.TheVariants.{Order, Map, Table, Script}
use Rattle.guest_input.specs.Asked.{place_of}
use Rattle.guest_input.specs.Causes.{cause_by, HasCause, IsKnownCause, IsGood, IsKnownGood, IsRefused, IsKnownRefused, OfEachBefore}

-- The first file that is refused, by known contents.

pub one_map : (bytes : List ℕ) (a b : GuestMap) → map_of bytes ≡ Ok a → map_of bytes ≡ Ok b → a ≡ b
one_map bytes a b is that = let e : Ok a ≡ Ok b = sym is ∙ that in cc

-- the cause of a file is the one that its known contents have
same_cause : (holds : List ℕ → Option (List ℕ)) (named : Named) (file : InputFile) (a b : Option Cause) → HasCause holds named file a → IsKnownCause holds named file b → a ≡ b
same_cause holds named Order a b has told = sym (has told.0 told.1) ∙ told.2
same_cause holds named Map a b has told = sym (has told.0 told.1) ∙ told.2
same_cause holds named Table a b has told =
    let same : has.0 ≡ told.2 = one_map told.0 has.0 told.2 (has.1 told.0 told.3) told.4 in
    sym (has.2 told.1 told.5) ∙ ap (λ (m : GuestMap). cause_by (cpus_in named) m.descriptors told.1) same ∙ told.6
same_cause holds named (Script cpu) a b has told = sym (has told.0 told.1) ∙ told.2

-- a file that is known to be good isn't refused
pub known_good : {A : Type 0} (holds : List ℕ → Option (List ℕ)) (named : Named) (file : InputFile) (cause : Cause) → IsRefused holds named file cause → IsKnownGood holds named file → A
known_good holds named file cause refused good = let no : Some cause ≡ None = same_cause holds named file (Some cause) None refused.own (good refused.is_named) in cc

-- a file that is good isn't known to be refused
pub good_known : {A : Type 0} (holds : List ℕ → Option (List ℕ)) (named : Named) (file : InputFile) (cause : Cause) → IsGood holds named file → IsKnownRefused holds named file cause → A
good_known holds named file cause good refused = let no : None ≡ Some cause = same_cause holds named file None (Some cause) good refused.own in cc

-- only one file is the first that is refused, for one cause
one_cause : (holds : List ℕ → Option (List ℕ)) (named : Named) (file : InputFile) (a b : Cause) → IsRefused holds named file a → IsKnownRefused holds named file b → a ≡ b
one_cause holds named file a b refused told = let e : Some a ≡ Some b = same_cause holds named file (Some a) (Some b) refused.own told.own in cc

-- a place has one file
same_cpu : (a b : CpuNo) → a.0 ≡ b.0 → a ≡ b
same_cpu a b e = λ i. record { 0 = e i }

same_place : (a b : InputFile) → place_of a ≡ place_of b → a ≡ b
same_place Order Order e = refl
same_place Order Map e = absurd (omega arith)
same_place Order Table e = absurd (omega arith)
same_place Order (Script cpu) e = absurd (omega arith)
same_place Map Order e = absurd (omega arith)
same_place Map Map e = refl
same_place Map Table e = absurd (omega arith)
same_place Map (Script cpu) e = absurd (omega arith)
same_place Table Order e = absurd (omega arith)
same_place Table Map e = absurd (omega arith)
same_place Table Table e = refl
same_place Table (Script cpu) e = absurd (omega arith)
same_place (Script cpu) Order e = absurd (omega arith)
same_place (Script cpu) Map e = absurd (omega arith)
same_place (Script cpu) Table e = absurd (omega arith)
same_place (Script a) (Script b) e = ap Script (same_cpu a b (omega (arith, e)))

same_here : (holds : List ℕ → Option (List ℕ)) (named : Named) (at file : InputFile) (a b : Cause) → at ≡ file → IsRefused holds named at a → IsKnownRefused holds named file b → (at ≡ file) × (a ≡ b)
same_here holds named at file a b here refused told = (here, one_cause holds named file a b (subst (λ (f : InputFile). IsRefused holds named f a) here refused) told)

pub same_first : (holds : List ℕ → Option (List ℕ)) (named : Named) (at file : InputFile) (a b : Cause) → IsRefused holds named at a → IsKnownRefused holds named file b → (at ≡ file) × (a ≡ b)
same_first holds named at file a b refused told =
    ⊎_elim
    (λ (before : place_of at < place_of file). known_good holds named at a refused (told.before at before))
    (λ (past : place_of file ≤ place_of at). ⊎_elim
    (λ (behind : place_of file < place_of at). good_known holds named file b (refused.before file behind) told)
    (λ (there : place_of at ≤ place_of file). same_here holds named at file a b (same_place at file (omega (arith, past, there))) refused told)
    (cases_lt (place_of file) (place_of at)))
    (cases_lt (place_of at) (place_of file))

-- what stands before a file that is good so far isn't known to be refused
pub not_behind : (holds : List ℕ → Option (List ℕ)) (named : Named) (at file : InputFile) (cause : Cause) → OfEachBefore (IsGood holds named) at → IsKnownRefused holds named file cause → place_of at ≤ place_of file
not_behind holds named at file cause good told =
    ⊎_elim
    (λ (before : place_of file < place_of at). good_known holds named file cause (good file before) told)
    (λ (past : place_of at ≤ place_of file). past)
    (cases_lt (place_of file) (place_of at))
