use Rattle.std.proofs.Common.{◌≡◌, ℕ, ◌+◌, List, [], ◌∷◌, refl, ◌∙◌, ap, arith, length, map}
use Rattle.event_core.specs.declared.boot.Boot.{Boot}
use Rattle.event_core.specs.declared.command.Command.{Command}
use Rattle.event_core.specs.declared.module_call.ModuleCall.{ModuleCall}
use Rattle.guest_cpu.specs.declared.cpu.Cpu.{Cpu}
use Rattle.guest_cpu.specs.Standing.{seen_by}
use Rattle.guest_steps.specs.Running.{EachLater}
use Rattle.guest_steps.specs.Seen.{Seen, first_seen}
use Rattle.guest_steps.specs.Standing.{scripts_of}
use Rattle.guest_runs.specs.OnPorts.{EachRan, first_on, ports_of}

-- Processors that ran on their ports.

module _ {P : Type 0} (made : P → List ModuleCall) (faults : P → ℕ) (never : P → Type 0) (boot : Boot) where
  pub each-ran : (number : ℕ) (scripts : List (List Command)) (olds news : List (Cpu P)) → map (seen_by made faults) olds ≡ first_on made faults boot number scripts (ports_of olds) → EachLater (seen_by made faults) (λ (c : Cpu P). never c.port) olds news → EachRan made faults never (ports_of olds) (map (seen_by made faults) news) (ports_of news)
  each-ran number scripts [] [] is later = tt
  each-ran number scripts [] (n ∷ news) is later = absurd later
  each-ran number scripts (o ∷ olds) [] is later = absurd later
  each-ran number [] (o ∷ olds) (n ∷ news) is later = cc
  each-ran number (script ∷ scripts) (o ∷ olds) (n ∷ news) is later =
      let first : seen_by made faults o ≡ first_seen boot number script (made o.port) (faults o.port) = cc in
      let rest : map (seen_by made faults) olds ≡ first_on made faults boot (number + 1) scripts (ports_of olds) = cc in (
        record {
          made_before = later.0.later.made_before ∙ ap (λ (c : Seen). c.made_before) first;
          made_after = refl;
          faults_before = later.0.later.faults_before ∙ ap (λ (c : Seen). c.faults_before) first;
          faults_after = refl;
          never_fails = later.0.never_fails;
          reported = later.0.later.reported;
        },
        each-ran (number + 1) scripts olds news rest later.1,
      )

  pub later-scripts : (number : ℕ) (scripts : List (List Command)) (olds news : List (Cpu P)) → map (seen_by made faults) olds ≡ first_on made faults boot number scripts (ports_of olds) → length olds ≡ length scripts → EachLater (seen_by made faults) (λ (c : Cpu P). never c.port) olds news → scripts_of (map (seen_by made faults) news) ≡ scripts
  later-scripts number [] [] [] is count later = refl
  later-scripts number (s ∷ scripts) [] news is count later = absurd (omega (arith, count))
  later-scripts number scripts [] (n ∷ news) is count later = absurd later
  later-scripts number scripts (o ∷ olds) [] is count later = absurd later
  later-scripts number [] (o ∷ olds) (n ∷ news) is count later = cc
  later-scripts number (script ∷ scripts) (o ∷ olds) (n ∷ news) is count later =
      let first : seen_by made faults o ≡ first_seen boot number script (made o.port) (faults o.port) = cc in
      let rest : map (seen_by made faults) olds ≡ first_on made faults boot (number + 1) scripts (ports_of olds) = cc in
      let here : (seen_by made faults n).script ≡ script = later.0.later.script ∙ ap (λ (c : Seen). c.script) first in
      ap (λ s. s ∷ scripts_of (map (seen_by made faults) news)) here
      ∙ ap (λ ss. script ∷ ss) (later-scripts (number + 1) scripts olds news rest (omega (arith, count)) later.1)
