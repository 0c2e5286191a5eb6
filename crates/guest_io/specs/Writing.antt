-- What putting bytes into a sink leaves.
use Rattle.std.specs.Prelude.{◌≡◌, ℕ, Bool, true, false, List, ◌++◌, take, Option, Some, None, Result, Err}
use Rattle.guest_io.specs.declared.sink.PutFault.{PutFault}
use Rattle.guest_io.specs.declared.sink.PutFault.TheVariants.{Failed}

-- the answer says that the outside failed
abbrev pub is_failed : {B : Type 0} → Result B PutFault → Bool
is_failed (Err Failed) = true
is_failed _ = false

-- what was written, with these bytes at its end; where it isn't known it stays unknown (own rule)
abbrev pub appended : Option (List ℕ) → List ℕ → Option (List ℕ)
appended None bytes = None
appended (Some before) bytes = Some (before ++ bytes)

-- a prefix of these bytes was appended (own rule)
abbrev pub AppendsPrefix : Option (List ℕ) → List ℕ → Option (List ℕ) → Type 0
AppendsPrefix before bytes after = (sent : ℕ) × (after ≡ appended before (take sent bytes))
