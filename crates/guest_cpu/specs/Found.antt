use Rattle.std.specs.Prelude.{ℕ, List}
use Rattle.std.proofs.Common.{sym, ◌∙◌, ap}
use Rattle.event_core.specs.declared.module_call.ModuleCall.{ModuleCall}
use Rattle.event_core.specs.Claims.{claim_of}
use Rattle.guest_steps.specs.Ground.{FoundAgain, Ground}
use Rattle.guest_steps.proofs.FoundLemmas.{found-standing}
use Rattle.guest_cpu.specs.Progressing.{Progressed}
use Rattle.guest_cpu.specs.Standing.{CourseStands, seen_with}

-- A processor goes on standing while others make entries.
pub found-course : (p : Progressed) (made_before made : List ModuleCall)
    (faults_before faults room : ℕ) (left found : Ground)
    → CourseStands p made_before made faults_before faults room left
    → FoundAgain p.number left found
    → CourseStands p made_before made faults_before faults room found
found-course p made_before made faults_before faults room left found s again =
    let same = s.stands.same.memory in
    let memory = again.memory in
    record {
      stands =
          found-standing (seen_with p made_before made faults_before faults)
          left found s.stands again;
      runs = λ claim is. s.runs claim (
          ap (λ b. claim_of b left.memory.entries p.number) (sym same)
          ∙ sym memory.claim
          ∙ ap (λ b. claim_of b found.memory.entries p.number) (memory.boot ∙ same)
          ∙ is
          );
      port = s.port;
    }
