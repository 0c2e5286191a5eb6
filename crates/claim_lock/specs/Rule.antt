-- The rule of the table that the lock stands on: one word, 0 where the lock is free and c + 1 where
-- processor c holds it, and one slot for the state.
use Rattle.std.specs.Prelude.{◌≡◌, ◌≢◌, ℕ, suc, zero, ◌+◌, ◌≤◌, ◌<◌, List, [], ◌∷◌, Option, Some, None, All, MatchBool, ◌==◌}
use mathlib.Core.Option.{some}
use mathlib.Core.Option as core
use lib.ListN.{get_elem?}
use Rattle.atomic_table.specs.Table.{State, Me}
use Rattle.event_core.specs.Moved.{Moved}
use Rattle.event_core.specs.Parted.{Fixed, Part}
use Rattle.claim_lock.specs.declared.known.Known.{Known}
use Rattle.claim_lock.specs.declared.view.View.{View}
use Rattle.claim_lock.specs.Knows.{Finds, left_known, first_known}

-- what stands for a processor where there is none
abbrev pub nobody : Known
nobody = record {
  number = 0;
  seats = 0;
  fixed = record { boot = None; areas = [] };
  part = record { claim = None; converting = None; out = []; room = []; live = [] };
  own = [];
  seen = [];
}

-- the first processor of a seat
abbrev pub first_of : List Known → Known
first_of [] = nobody
first_of (k ∷ ks) = k

-- its other processors
abbrev pub others_of : List Known → List Known
others_of [] = []
others_of (k ∷ ks) = ks

module _ {S : Type 0} where
  -- a seat with the knowledge of these processors, none of which holds the lock
  abbrev pub resting : List Known → View S
  resting all = record { known = all; taken = None }

  -- a seat of a processor that holds the lock since it took this state
  abbrev pub holding : Known → S → View S
  holding known state = record { known = known ∷ []; taken = Some state }

  -- the word says of a processor at rest that it does not hold the lock, and of one that holds it
  -- that it does, since it took the present state
  abbrev pub Holds : ℕ → S → ℕ → Option S → Type 0
  Holds word state cpu None = word ≢ cpu + 1
  Holds word state cpu (Some taken) = (word ≡ cpu + 1) × (taken ≡ state)

module _ {S : Type 0} (fixed : S → Fixed) (part : S → ℕ → Part) (moved : S → List Moved)
    (seats : ℕ) where
  -- what is known of a processor at a seat is true, and no other seat has this processor
  pub record Fits (word : ℕ) (state : S) (owner : ℕ → ℕ) (seat : ℕ) (taken : Option S)
      (known : Known) : Type 0 where
    pub below : known.number < seats
    pub counted : known.seats ≡ seats
    pub owned : owner known.number ≡ seat
    pub held : Holds word state known.number taken
    pub finds : Finds fixed part moved known state

  -- there is a present state: it is at home where the lock is free, and what each seat knows
  -- is true of it
  pub record Stands (word : ℕ) (home : core.Option (Option S))
      (views : List (View S)) : Type 0 where
    pub state : S
    pub owner : ℕ → ℕ
    pub bounded : word ≤ seats
    pub at_home : word ≡ 0 → home ≡ some (Some state)
    pub each : (seat : ℕ) (v : View S) → get_elem? views seat ≡ some v
        → All (Fits word state owner seat v.taken) v.known

  -- the table has this one word and this one slot, and they stand so
  abbrev pub Keeps : State (Option S) (View S) → Type 0
  Keeps s =
      (word : ℕ) × (home : core.Option (Option S)) × (s.words ≡ word ∷ []) × (s.homes ≡ home ∷ [])
      × Stands word home s.views

module _ {S : Type 0} (fixed : S → Fixed) (part : S → ℕ → Part) (moved : S → List Moved) where
  -- a processor that found the word 0 holds the lock and has the state, and else nothing changed
  abbrev pub Wins : Me (Option S) (View S) → ℕ → Me (Option S) (View S) → Type 0
  Wins v found w =
      MatchBool (found == 0)
      ((state : S) × (w ≡ (holding (first_of v.0.known) state, (0, Some state) ∷ []))
      × Finds fixed part moved (first_of v.0.known) state)
      (w ≡ v)

module _ {S : Type 0} (part : S → ℕ → Part) (moved : S → List Moved) where
  -- the processor is at rest again, and knows the state that it put home
  abbrev pub Releases : Me (Option S) (View S) → Me (Option S) (View S) → Type 0
  Releases v w =
      (taken state : S) → v.0.taken ≡ Some taken → v.1 ≡ (0, Some state) ∷ []
      → w ≡ (resting (left_known part moved (first_of v.0.known) taken state ∷ []), [])

module _ {S : Type 0} (fixed : S → Fixed) (part : S → ℕ → Part) where
  -- the knowledge of this many processors from one number on
  abbrev pub dealt : ℕ → S → ℕ → ℕ → List Known
  dealt seats state cpu zero = []
  dealt seats state cpu (suc n) =
      first_known fixed part seats state cpu ∷ dealt seats state (cpu + 1) n
