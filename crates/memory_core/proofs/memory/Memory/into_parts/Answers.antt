use Rattle.std.proofs.Common.{subst}
use Rattle.event_core.specs.Locally.{Rising}
use Rattle.memory_core.specs.Answers.{GivesTable}
use Rattle.memory_core.specs.Value.{MemoryValue}
use Rattle.memory_core.proofs.PartsLemmas.{gives-table}
use Rattle.memory_core.proofs.memory.Memory.into_parts.Goals as goal

pub returns-clause-rising : goal.returns-clause-rising
returns-clause-rising c = subst (λ (m : MemoryValue). Rising m.entries) c.self.view_is c.self.invariant.0.steady.rising

pub returns-clause-table : goal.returns-clause-table
returns-clause-table c =
    let i = c.self.inside in
    let P : MemoryValue → Type 0 = λ m. GivesTable m i.table in
    subst P c.self.view_is (gives-table i.boot.value i.entries i.last i.table i.bits i.accepting i.blocks i.unit_pages i.kept i.room c.self.invariant.0)
