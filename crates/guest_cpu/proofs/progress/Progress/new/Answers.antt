use Rattle.std.proofs.Common.{Option, ap, sym, subst, ◌∙◌}
use Rattle.std.specs.Option.{ForSome}
use Rattle.dma_map.specs.Pools.{HasPool, IsLayout}
use Rattle.dma_map.specs.declared.pool.Layout.{Layout}
use Rattle.event_core.specs.declared.boot.Boot.{Boot}
use Rattle.guest_cpu.proofs.KeptLemmas.{has-pool, keeps-first}
use Rattle.guest_cpu.proofs.progress.Progress.new.Goals as goal

pub new-requires-2 : goal.new-requires-2
new-requires-2 c = let I : Option Layout → Type 0 = λ l. ForSome l IsLayout in subst I (sym c.of_boot.ensures) c.requires.pool

pub invariant_of-result : goal.invariant_of-result
invariant_of-result c =
    let boot = c.args.boot.now in
    let L : Option Layout → Type 0 = λ l. HasPool c.of.result.value l in
    let B : Boot → Type 0 = λ b. HasPool b c.of_boot.result in
    let I : Option Layout → Type 0 = λ l. ForSome l IsLayout in
    let H : Option Layout → Type 0 = λ l. HasPool boot l in
    let layout = c.new-2.ensures.layout in
    let has = subst B (sym c.of.ensures) (subst H (sym c.of_boot.ensures) (has-pool boot)) in
    keeps-first c.of.result.value c.args.hosts c.args.script c.new.result c.new-2.result c.new-3.result.items
    (c.requires.hosts ∙ ap (λ (b : Boot). b.hosts) (sym c.of.ensures)) (subst L (sym layout) has) (subst I (sym layout) (subst I (sym c.of_boot.ensures) c.requires.pool))
    c.requires.unconverting c.requires.readable c.new.ensures c.new-2.ensures.own c.new-3.ensures.items
