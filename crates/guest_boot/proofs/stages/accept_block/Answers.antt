use Rattle.std.proofs.Common.{◌*◌, ◌∙◌, ap}
use Rattle.guest_base.specs.declared.limits.TheConstants.{PAGE_BYTES}
use Rattle.guest_base.specs.declared.memory.Pages.{Pages}
use Rattle.memory_core.specs.Bitmaps.{bits_in, guarded_by, any_in}
use Rattle.guest_boot.proofs.SetRunsLemmas.{waits-by}
use Rattle.guest_boot.proofs.stages.accept_block.Goals as goal

pub returns-then-block-eq-MAX_ORDER-clause-waits : goal.returns-then-block-eq-MAX_ORDER-clause-waits
returns-then-block-eq-MAX_ORDER-clause-waits g c =
    let bits = c.args.kept.now.bits in
    c.has_unaccepted.ensures
    ∙ ap (λ (pages : Pages). any_in (bits_in bits) (guarded_by bits (PAGE_BYTES * pages.first) (PAGE_BYTES * pages.count))) c.pages-pages.ensures
    ∙ waits-by c.args.boot.now (g.P.Port.made c.args.port.now) bits c.args.block c.requires.stands.bits c.if-block-eq-MAX_ORDER.true
