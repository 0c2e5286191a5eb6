-- What a processor knows of the state under the lock, and what it may do to it (own rule).
use Rattle.std.specs.Prelude.{◌≡◌, ◌≢◌, ℕ, ◌<◌, List, [], ◌++◌, length, drop, All}
use Rattle.event_core.specs.Moved.{Moved, made_by}
use Rattle.event_core.specs.Parted.{Fixed, Part}
use Rattle.claim_lock.specs.declared.known.Known.{Known}

-- one list begins with another
abbrev pub BeginsWith : List Moved → List Moved → Type 0
BeginsWith all first = (rest : List Moved) × (all ≡ first ++ rest)

-- the entries that stand behind the first ones
abbrev pub added : List Moved → List Moved → List Moved
added first all = drop (length first) all

-- the entry is one of the processor's
abbrev pub IsOf : ℕ → Moved → Type 0
IsOf cpu m = m.entry.cpu.0 ≡ cpu

module _ {S : Type 0} (fixed : S → Fixed) (part : S → ℕ → Part) (moved : S → List Moved) where
  -- what a processor knew when it gave the state back holds of the state that it finds
  pub record Finds (known : Known) (state : S) : Type 0 where
    pub as_given : fixed state ≡ known.fixed
    pub as_left : part state known.number ≡ known.part
    pub longer : BeginsWith (moved state) known.seen
    pub own_alone : made_by known.number (moved state) ≡ known.own
    pub named : All (λ (m : Moved). m.entry.cpu.0 < known.seats) (moved state)

  -- while a processor held the state, it changed its own part alone, and added its own entries
  -- at the end
  pub record MayGive (cpu : ℕ) (taken state : S) : Type 0 where
    pub same_fixed : fixed state ≡ fixed taken
    pub same_others : (other : ℕ) → other ≢ cpu → part state other ≡ part taken other
    pub only_added : (new : List Moved) × (moved state ≡ moved taken ++ new) × All (IsOf cpu) new

module _ {S : Type 0} (fixed : S → Fixed) (part : S → ℕ → Part) where
  -- a processor's part counts as left as it was handed in, and it has made and seen no entry
  abbrev pub first_known : ℕ → S → ℕ → Known
  first_known seats state cpu = record {
    number = cpu;
    seats = seats;
    fixed = fixed state;
    part = part state cpu;
    own = [];
    seen = [];
  }

module _ {S : Type 0} (part : S → ℕ → Part) (moved : S → List Moved) where
  -- what a processor knows when it gives the state back: its part as it leaves it, and all entries
  abbrev pub left_known : Known → S → S → Known
  left_known known taken state = record {
    number = known.number;
    seats = known.seats;
    fixed = known.fixed;
    part = part state known.number;
    own = known.own ++ added (moved taken) (moved state);
    seen = moved state;
  }
