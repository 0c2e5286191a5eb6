use Rattle.held_blocks.proofs.holdings.Holdings.pool.Goals as goal

pub returns-clause-stands : goal.returns-clause-stands
returns-clause-stands c = c.self.invariant.pool c.in-Some.layout c.in-Some.is
