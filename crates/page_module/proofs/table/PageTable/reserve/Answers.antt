use Rattle.page_module.proofs.TableLemmas.{table-low}
use Rattle.page_module.proofs.table.PageTable.reserve.Goals as goal

pub returns-then-self-pieces-clause-low : goal.returns-then-self-pieces-clause-low
returns-then-self-pieces-clause-low c = table-low c.args.self.now c.self.inside.runs.items c.self.inside.out.items c.self.inside.room c.self.view_is c.self.invariant.rising

pub returns-else-self-pieces-clause-low : goal.returns-else-self-pieces-clause-low
returns-else-self-pieces-clause-low c = table-low c.args.self.now c.self.inside.runs.items c.self.inside.out.items c.self.inside.room c.self.view_is c.self.invariant.rising
