-- Entries with the bytes that they moved into or out of the pool (own rule).
use Rattle.std.specs.Prelude.{ℕ, List, ◌==◌, map, filter}
use Rattle.event_core.specs.declared.entry.Entry.{Entry}

-- an entry, and the bytes that it moved into or out of the pool; an entry that moved none has none
pub record Moved : Type 0 where
  pub entry : Entry
  pub bytes : List ℕ

-- the entries alone
abbrev pub entries_of : List Moved → List Entry
entries_of moved = map (λ (m : Moved). m.entry) moved

-- the entries of one processor with their bytes, in their order
abbrev pub made_by : ℕ → List Moved → List Moved
made_by cpu moved = filter (λ (m : Moved). m.entry.cpu.0 == cpu) moved
