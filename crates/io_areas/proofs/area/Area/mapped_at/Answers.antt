use Rattle.std.proofs.Common.{ap, subst, ◌∙◌}
use Rattle.pool_laws.specs.Live.{IsInArea, is_live, live_of}
use Rattle.pool_laws.proofs.LiveLemmas.{mine-in-area}
use Rattle.io_areas.specs.Value.{AreaValue}
use Rattle.io_areas.proofs.area.Area.mapped_at.Goals as goal

pub returns-clause-mapping : goal.returns-clause-mapping
returns-clause-mapping c =
    let i = c.self.inside in
    let cpu = c.args.cpu.0 in
    let P : AreaValue → Type 0 = λ a. IsInArea a.number a.slots c.args.run in
    let mine = ap (λ (a : AreaValue). is_live c.args.run (live_of cpu a.moved)) c.self.view_is ∙ c.requires in
    subst P c.self.view_is (mine-in-area i.number i.count cpu i.transfers.moved c.args.run c.self.invariant.mappings mine)
