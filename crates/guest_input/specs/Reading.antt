use Rattle.std.specs.Prelude.{ℕ, List, Option}

-- Files before and after: what each holds, wherever that is known, the names that were asked for,
-- and the count of faults (own rule).
pub record Reading : Type 0 where
  pub holds : List ℕ → Option (List ℕ)
  pub asked_before : List (List ℕ)
  pub asked_after : List (List ℕ)
  pub faults_before : ℕ
  pub faults_after : ℕ

-- the files that were `old` and are `new`, by the files' ghost members `holds`, `asked` and
-- `faults`
abbrev pub reading : {F : Type 0} → (F → List ℕ → Option (List ℕ)) → (F → List (List ℕ)) → (F → ℕ)
    → F → F → Reading
reading holds asked faults old new = record {
  holds = holds old;
  asked_before = asked old;
  asked_after = asked new;
  faults_before = faults old;
  faults_after = faults new;
}
