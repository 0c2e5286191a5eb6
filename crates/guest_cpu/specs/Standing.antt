use Rattle.std.specs.Prelude.{ℕ, List, [], ◌∷◌, Option, None, Some, ◌≡◌, ◌≤◌, drop, sum_by}
use Rattle.guest_base.specs.declared.memory.Units.{Units}
use Rattle.event_core.specs.declared.boot.Boot.{Boot}
use Rattle.event_core.specs.declared.module_call.ModuleCall.{ModuleCall}
use Rattle.event_core.specs.Claims.{Claimed, claim_of}
use Rattle.event_core.specs.Units.{bit_after, units_end}
use Rattle.memory_core.specs.Bitmaps.{AreRunsFrom}
use Rattle.memory_core.specs.Value.{MemoryValue}
use Rattle.guest_steps.specs.Ground.{Ground}
use Rattle.guest_steps.specs.Seen.{Seen, Accepted}
use Rattle.guest_steps.specs.Standing.{Stands}
use Rattle.guest_cpu.specs.declared.cpu.Cpu.{Cpu}
use Rattle.guest_cpu.specs.Kept.{most_of}
use Rattle.guest_cpu.specs.Progressing.{Progressed}

-- How a processor of a kind of port stands over the memory and the areas.

-- what contracts see of a processor, whose port was asked this when it was made and now
abbrev pub seen_with : Progressed → List ModuleCall → List ModuleCall → ℕ → ℕ → Seen
seen_with p made_before made faults_before faults = record {
  boot = p.boot;
  number = p.number;
  script = p.script;
  moved = p.moved;
  out = p.out;
  done = p.done;
  made_before = made_before;
  made = made;
  faults_before = faults_before;
  faults = faults;
}

-- by a port's calls and count of faults
abbrev pub seen_by : {P : Type 0} → (P → List ModuleCall) → (P → ℕ) → Cpu P → Seen
seen_by made faults c =
    seen_with c.progress (made c.port_before.value) (made c.port) (faults c.port_before.value)
    (faults c.port)

-- a claim's runs, from its open one on, as they were at the claim
abbrev pub RunsAre : Boot → Claimed → List Units → Type 0
RunsAre boot claim [] = ⊥
RunsAre boot claim (run ∷ later) =
    (run ≡ claim.run)
    × AreRunsFrom (bit_after boot claim.before) (units_end claim.run) (units_end claim.units) later

-- the runs for which a processor has room are those of its open claim
abbrev pub RunsStand : Progressed → MemoryValue → Type 0
RunsStand p memory =
    (claim : Claimed) → claim_of p.boot memory.entries p.number ≡ Some claim
    → RunsAre p.boot claim p.runs

-- the most calls that are still to be made for runs: for all, or for those behind the first
abbrev pub calls_owed : Boot → Option Accepted → List Units → ℕ
calls_owed boot None runs = sum_by (most_of boot) runs
calls_owed boot (Some done) runs = sum_by (most_of boot) (drop 1 runs)

-- A processor whose port was asked this stands over the memory and the areas, and has room for all
-- that its open claim needs until it closes, its port's room among it.
pub record CourseStands (p : Progressed) (made_before made : List ModuleCall)
    (faults_before faults room : ℕ) (base : Ground) : Type 0 where
  pub stands : Stands (seen_with p made_before made faults_before faults) base
  pub runs : RunsStand p base.memory
  pub port : calls_owed p.boot p.done p.runs ≤ room

abbrev pub CpuStands : {P : Type 0} → (P → List ModuleCall) → (P → ℕ) → (P → ℕ) → Cpu P
    → Ground → Type 0
CpuStands made faults room c base =
    CourseStands c.progress (made c.port_before.value) (made c.port) (faults c.port_before.value)
    (faults c.port) (room c.port) base
