use Rattle.std.proofs.Common.{ap, not}
use Rattle.std.specs.Str.{bytes_eq}
use Rattle.event_core.specs.Holdings.{Holding}
use Rattle.held_blocks.specs.Held.{own_with}
use Rattle.held_blocks.proofs.HeldLemmas.{apart-filter, dropped}
use Rattle.held_blocks.proofs.held.HeldBlocks.freed.Goals as goal

pub invariant_of-self : goal.invariant_of-self
invariant_of-self c =
    rw (c.drop_named.ensures.items, dropped c.self.inside.kept.items c.args.name.now)
    (apart-filter (λ (h : Holding). not (bytes_eq h.name c.args.name.now)) _ c.self.invariant)

pub returns-clause-held : goal.returns-clause-held
returns-clause-held c =
    rw (← c.self.view_is, c.drop_named.ensures.items) (ap own_with (dropped c.self.inside.kept.items c.args.name.now))
