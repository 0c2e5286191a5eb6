use Rattle.std.proofs.Common.{Option, ◌∙◌, ap, subst}
use Rattle.guest_base.specs.declared.memory.Units.{Units}
use Rattle.event_core.specs.Units.{guarded_units}
use Rattle.memory_core.specs.Answers.{BegunBy}
use Rattle.memory_core.specs.Steps.{Appends, claim_of_units}
use Rattle.memory_core.specs.Value.{MemoryValue}
use Rattle.memory_core.proofs.BitsLemmas.{guarded-same}
use Rattle.memory_core.proofs.memory.Memory.begin_accept.Goals as goal

pub returns-clause-begun : goal.returns-clause-begun
returns-clause-begun c =
    let i = c.self.inside in
    let guarded = c.guarded_units_of-units.ensures.units ∙ guarded-same i.boot.value i.bits c.args.start c.args.len c.self.invariant.0.same_bits ∙ ap (λ (m : MemoryValue). guarded_units m.boot c.args.start c.args.len) c.self.view_is in
    let P : Option Units → Type 0 = λ units. BegunBy c.args.self.now c.open_claim.new.self c.args.turn.now units c.open_claim.result in
    subst P guarded c.open_claim.ensures.begun

pub returns-clause-appends : goal.returns-clause-appends
returns-clause-appends c free =
    let i = c.self.inside in
    let guarded = c.guarded_units_of-units.ensures.units ∙ guarded-same i.boot.value i.bits c.args.start c.args.len c.self.invariant.0.same_bits ∙ ap (λ (m : MemoryValue). guarded_units m.boot c.args.start c.args.len) c.self.view_is in
    let P : Option Units → Type 0 = λ units. Appends c.args.self.now c.open_claim.new.self c.args.turn.now c.open_claim.new.turn (claim_of_units c.args.self.now units) in
    subst P guarded (c.open_claim.ensures.appends free)
