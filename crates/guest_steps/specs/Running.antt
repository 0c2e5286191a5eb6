use Rattle.std.specs.Prelude.{ℕ, List, [], ◌∷◌, None, ◌≡◌, All, map, slice_get, unwrap_or}
use Rattle.event_core.specs.declared.boot.Boot.{Boot}
use Rattle.event_core.specs.declared.entry.Entry.{Entry}
use Rattle.event_core.specs.declared.entry.Place.{Place}
use Rattle.event_core.specs.Turns.{Turned, entries_by}
use Rattle.memory_core.specs.Value.{handed_to}
use Rattle.guest_steps.specs.Ground.{Ground, there_in}
use Rattle.guest_steps.specs.declared.processor.Need.TheVariants.{Finished}
use Rattle.guest_steps.specs.Seen.{Seen, first_seen, need_of}
use Rattle.guest_steps.specs.Standing.{Together, lists_of, scripts_of}

-- How processors run, by turns or on threads (own rule).

-- the processor has made no entry
abbrev pub IsFresh : Seen → Type 0
IsFresh c = c ≡ first_seen c.boot c.number c.script c.made_before c.faults_before

-- no entry was made yet, and nothing is out
pub record AtFirst (all : List Seen) (base : Ground) : Type 0 where
  pub fresh : All IsFresh all
  pub entries : (place : Place) → there_in base place ≡ []
  pub out : (cpu : ℕ) → handed_to base.memory cpu ≡ None

-- every processor is finished
abbrev pub AllFinished : List Seen → Type 0
AllFinished all = All (λ c. need_of c ≡ Finished) all

-- the same processor later, of which nothing is left to report
pub record IsLater (old new : Seen) : Type 0 where
  pub boot : new.boot ≡ old.boot
  pub number : new.number ≡ old.number
  pub script : new.script ≡ old.script
  pub made_before : new.made_before ≡ old.made_before
  pub faults_before : new.faults_before ≡ old.faults_before
  pub reported : new.done ≡ None

-- a processor of a type is that later, and if its port never failed it never fails
pub record StaysLater {T : Type 0} (seen : T → Seen) (NeverFails : T → Type 0)
    (old new : T) : Type 0 where
  pub later : IsLater (seen old) (seen new)
  pub never_fails : NeverFails old → NeverFails new

-- so it is with each of them, and as many come back
abbrev pub EachLater : {T : Type 0} → (T → Seen) → (T → Type 0) → List T → List T → Type 0
EachLater seen NeverFails [] [] = Unit {0}
EachLater seen NeverFails (old ∷ olds) (new ∷ news) =
    StaysLater seen NeverFails old new × EachLater seen NeverFails olds news
EachLater seen NeverFails [] (new ∷ news) = ⊥
EachLater seen NeverFails (old ∷ olds) [] = ⊥

-- all processors of a boot stand over its memory and areas, also by what each keeps
pub record AllStand {T : Type 0} (seen : T → Seen) (stands : T → Ground → Type 0)
    (boot : Boot) (all : List T) (base : Ground) : Type 0 where
  pub together : Together boot (map seen all) base
  pub each : All (λ c. stands c base) all

-- entries are those of the processors, each of which made its list
abbrev pub AreOf : List Seen → List Entry → Type 0
AreOf all entries =
    (cpu : ℕ) → entries_by cpu entries ≡ unwrap_or (slice_get (lists_of all) cpu) []

-- turns in this order, and then round all processors until none has a next event, make the
-- processors' entries
abbrev pub TurnedBy : Boot → List Seen → List ℕ → Type 0
TurnedBy boot all order =
    (entries : List Entry) → AreOf all entries → Turned boot (scripts_of all) order entries
