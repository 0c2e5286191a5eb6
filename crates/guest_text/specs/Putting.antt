use Rattle.std.specs.Prelude.{ℕ, List, Option, ◌≡◌}
use Rattle.guest_io.specs.Writing.{appended, AppendsPrefix}

-- A sink before and after: what was written, wherever that is known, and the count of its faults
-- (own rule).
pub record Putting : Type 0 where
  pub before : Option (List ℕ)
  pub after : Option (List ℕ)
  pub faults_before : ℕ
  pub faults_after : ℕ

-- the sink that was `old` and is `new`, by a sink's ghost members `written` and `faults`
abbrev pub putting : {K : Type 0} → (K → Option (List ℕ)) → (K → ℕ) → K → K → Putting
putting written faults old new = record {
  before = written old;
  after = written new;
  faults_before = faults old;
  faults_after = faults new;
}

-- the text was put
abbrev pub Put : Putting → List ℕ → Type 0
Put out text = out.after ≡ appended out.before text

-- a prefix of the text was put
abbrev pub PutFront : Putting → List ℕ → Type 0
PutFront out text = AppendsPrefix out.before text out.after

-- nothing was put
abbrev pub PutNothing : Putting → Type 0
PutNothing out = out.after ≡ out.before
