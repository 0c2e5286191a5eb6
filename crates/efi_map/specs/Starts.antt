-- Ranges that are apart, looked up by their starts: each start with the end of its range.
use Rattle.std.specs.Prelude.{◌≡◌, ◌≢◌, ℕ, Option, Some, List, All, ◌+◌, ◌<◌, ◌≤◌}
use Rattle.std.specs.List.{Any}
use Rattle.guest_base.specs.declared.memory.HostRun.{HostRun}
use Rattle.event_core.specs.declared.boot.Descriptor.{Descriptor}
use Rattle.event_core.specs.Map.{descriptor_end}

abbrev pub Ends : Type 0
Ends = ℕ → Option ℕ

-- each range has a number, and a later one begins at its end or behind it
pub record AreRanges (ends : Ends) : Type 0 where
  pub some : (start end : ℕ) → ends start ≡ Some end → start < end
  pub apart : (start end later later-end : ℕ) → ends start ≡ Some end → ends later ≡ Some later-end → start < later → end ≤ later

-- every range that begins at `last` or below it ends at `start` or below it
abbrev pub IsClear : Ends → ℕ → ℕ → Type 0
IsClear ends start last = (s e : ℕ) → ends s ≡ Some e → s ≤ last → e ≤ start

-- a range was added, if it has a number
pub record Notes (before after : Ends) (start end : ℕ) : Type 0 where
  pub here : start < end → after start ≡ Some end
  pub others : (s : ℕ) → (start < end → s ≢ start) → after s ≡ before s

-- the ranges are those of things that have a start and an end
pub record Indexes {X : Type 0} (start end : X → ℕ) (ends : Ends) (xs : List X) : Type 0 where
  pub has : All (λ x. start x < end x → ends (start x) ≡ Some (end x)) xs
  pub only : (s e : ℕ) → ends s ≡ Some e → Any (λ x. (start x ≡ s) × (end x ≡ e)) xs
  pub ranges : AreRanges ends

-- the bytes of descriptors
abbrev pub descriptor_start : Descriptor → ℕ
descriptor_start d = d.start

abbrev pub IndexesDescriptors : Ends → List Descriptor → Type 0
IndexesDescriptors ends ds = Indexes descriptor_start descriptor_end ends ds

-- the pages of host records
abbrev pub host_start : HostRun → ℕ
host_start h = h.pages.first

abbrev pub host_end : HostRun → ℕ
host_end h = h.pages.first + h.pages.count

abbrev pub IndexesHosts : Ends → List HostRun → Type 0
IndexesHosts ends hs = Indexes host_start host_end ends hs
