use Rattle.std.proofs.Common.{◌≡◌, ◌+◌, ◌≤◌, true, sym, subst, bytes_eq}
use Rattle.dma_map.specs.Kept.{mapping_in}
use Rattle.dma_map.specs.declared.kept.Live.{Live}
use Rattle.event_core.specs.Holdings.{Mapping, block_bytes}
use Rattle.held_blocks.specs.Held.{blocks_of, is_held}
use Rattle.held_blocks.proofs.MappedLemmas.{of-found, of-held}
use Rattle.held_blocks.proofs.OwnLemmas.{live-some}
use Rattle.held_blocks.proofs.holdings.Holdings.live.Goals as goal

pub returns-clause-held : goal.returns-clause-held
returns-clause-held c =
    let i = c.self.inside in
    let m = live-some (mapping_in i.mappings c.args.mapping.now) c.in-Some.live (sym c.in-Some.ensures) in
    let of = of-found (λ (m : Mapping). bytes_eq m.name c.args.mapping.now) (blocks_of i.blocks) i.mappings.mappings m.0 c.self.invariant.mapped m.1 in
    rw (← c.self.view_is) (subst (λ (l : Live). is_held l.block (blocks_of i.blocks) ≡ true) m.2 (of-held (blocks_of i.blocks) m.0 of))

pub returns-clause-within : goal.returns-clause-within
returns-clause-within c =
    let i = c.self.inside in
    let m = live-some (mapping_in i.mappings c.args.mapping.now) c.in-Some.live (sym c.in-Some.ensures) in
    let of = of-found (λ (m : Mapping). bytes_eq m.name c.args.mapping.now) (blocks_of i.blocks) i.mappings.mappings m.0 c.self.invariant.mapped m.1 in
    subst (λ (l : Live). l.off + l.run.len ≤ block_bytes l.block) m.2 of.within
