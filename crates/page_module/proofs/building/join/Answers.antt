use Rattle.std.proofs.Common.{List, ap, sym, ◌∙◌}
use Rattle.guest_base.specs.declared.memory.PageRun.{PageRun}
use Rattle.page_module.specs.Building.{joined}
use Rattle.page_module.proofs.JoinLemmas.{joined-snoc}
use Rattle.page_module.proofs.building.join.Goals as goal

pub returns-in-Some-clause-items : goal.returns-in-Some-clause-items
returns-in-Some-clause-items c =
    c.push_both.ensures.items ∙ sym (joined-snoc c.pop.new.self.items c.in-Some.last c.args.run) ∙ ap (λ (l : List PageRun). joined l c.args.run) (sym c.in-Some.ensures.items)
