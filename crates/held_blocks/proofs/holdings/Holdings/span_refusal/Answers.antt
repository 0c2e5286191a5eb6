use Rattle.std.proofs.Common.{ap, ◌∙◌, ◌==◌}
use Rattle.event_core.specs.declared.reply.Reply.TheVariants.{Zero}
use Rattle.event_core.specs.Refusals.{past_end, refuse, unknown_or}
use Rattle.dma_map.specs.Kept.{mapping_in}
use Rattle.dma_map.specs.declared.kept.Live.{Live}
use Rattle.held_blocks.proofs.RefusalLemmas.{live-or}
use Rattle.held_blocks.proofs.holdings.Holdings.span_refusal.Goals as goal

pub returns : goal.returns
returns c =
    rw (← c.self.view_is)
    (c.refuse_part_span.ensures
    ∙ ap (λ o. unknown_or o (λ (l : Live). refuse Zero (c.args.len == 0) (past_end l.run.len c.args.off c.args.len))) c.find.ensures
    ∙ live-or (mapping_in c.self.inside.mappings c.args.mapping.now) (λ n. refuse Zero (c.args.len == 0) (past_end n c.args.off c.args.len)))
