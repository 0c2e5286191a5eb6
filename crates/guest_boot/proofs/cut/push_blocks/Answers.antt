use Rattle.std.proofs.Common.{[], ◌∷◌, ◌++◌, ◌-◌, ◌+◌, List, refl, ap, sym, ◌∙◌, arith, append_assoc, append-nil}
use Rattle.guest_base.specs.declared.memory.Block.{Block}
use Rattle.event_core.specs.Cut.{blocks_from}
use Rattle.guest_boot.proofs.CutLemmas.{blocks-next, blocks-end}
use Rattle.guest_boot.proofs.cut.push_blocks.Goals as goal

pub loop-left-preserved : goal.loop-left-preserved
loop-left-preserved c =
    let block : Block = record { first = c.loop-left.first; order = c.order_at-order.result } in
    let later : List Block = blocks_from (c.loop-left.left - c.block_pages-left.result) (c.loop-left.first + c.block_pages-first.result) (c.loop-left.left - c.block_pages-left.result) in
    record {
      blocks =
          ap (λ (bs : List Block). bs ++ later) c.in_ok-push.ensures.items
          ∙ append_assoc c.loop-left.blocks.items (block ∷ []) later
          ∙ ap (λ (bs : List Block). c.loop-left.blocks.items ++ bs)
          (rw (c.block_pages-first.ensures, c.block_pages-left.ensures)
          (sym (blocks-next c.loop-left.first c.loop-left.left c.order_at-order.result _ c.loop-left-test.true c.order_at-order.ensures.order refl)))
          ∙ c.loop-left.invariant.blocks;
      end = omega arith;
    }

pub returns : goal.returns
returns c =
    sym (append-nil c.loop-left.blocks.items)
    ∙ ap (λ (bs : List Block). c.loop-left.blocks.items ++ bs) (sym (blocks-end c.loop-left.first c.loop-left.left (omega arith)))
    ∙ c.loop-left.invariant.blocks
