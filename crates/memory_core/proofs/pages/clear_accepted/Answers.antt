use Rattle.std.proofs.Common.{◌≡◌, true, false, sym, ◌∙◌, ap, rules, subst}
use Rattle.event_core.specs.Table.{Bits}
use Rattle.unaccepted_bitmap.specs.BitmapValue.{ClearsBits}
use Rattle.accept_sizes.specs.Accepts.{pending_of}
use Rattle.memory_core.proofs.ClearLemmas.{further-start, further-clear, further-keep}
use Rattle.memory_core.proofs.pages.clear_accepted.Goals as goal
use Rattle.memory_core.proofs.pages.clear_accepted.Goals.{then-not-has_pending, else-not-has_pending}

pub loop-unit-init : goal.loop-unit-init
loop-unit-init c = further-start c.args.bits.now (pending_of c.args.span.now) c.args.run.first

pub loop-unit-preserved : goal.loop-unit-preserved
loop-unit-preserved c =
    elim c.if-not-has_pending.branch [
      | then-not-has_pending w ↦
          (let P : Bits → Type 0 = λ b. ClearsBits c.loop-unit.bits.bits b.bits (record { first = c.loop-unit.unit; count = 1 }) in
          let none : c.has_pending.result ≡ false = search rules in
          further-clear c.args.bits.now c.loop-unit.bits c.if-not-has_pending.bits (pending_of c.args.span.now) c.args.run.first c.loop-unit.unit c.loop-unit.cleared c.if-not-has_pending.cleared c.pages_of-pages.result.first c.pages_of-pages.result.count c.has_pending.result c.loop-unit.invariant c.loop-unit.auto.unit c.pages_of-pages.ensures.first c.pages_of-pages.ensures.count c.has_pending.ensures none (subst P (sym w.bits-is) w.clear.ensures.bits) (ap (λ (b : Bits). b.unit) w.bits-is ∙ w.clear.ensures.unit) (ap (λ (b : Bits). b.base) w.bits-is ∙ w.clear.ensures.base) w.cleared-is)
      | else-not-has_pending w ↦
          (let some : c.has_pending.result ≡ true = search rules in
          further-keep c.args.bits.now c.loop-unit.bits c.if-not-has_pending.bits (pending_of c.args.span.now) c.args.run.first c.loop-unit.unit c.loop-unit.cleared c.if-not-has_pending.cleared c.pages_of-pages.result.first c.pages_of-pages.result.count c.has_pending.result c.loop-unit.invariant c.loop-unit.auto.unit c.pages_of-pages.ensures.first c.pages_of-pages.ensures.count c.has_pending.ensures some w.bits-is w.cleared-is)
    ]
