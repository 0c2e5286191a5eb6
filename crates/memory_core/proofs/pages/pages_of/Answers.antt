use Rattle.std.proofs.Common.{arith}
use Rattle.memory_core.proofs.BitsLemmas.{pages-low}
use Rattle.memory_core.proofs.pages.pages_of.Goals as goal

pub overflow_mul-result : goal.overflow_mul-result
overflow_mul-result c =
    let low = pages-low c.args.bits.now c.args.units c.unit-size.ensures.kept c.requires in
    let at = low.starts in
    let same = c.unit-size.ensures.value in
    rw same (omega (arith, at))

pub overflow_add-result : goal.overflow_add-result
overflow_add-result c =
    let low = pages-low c.args.bits.now c.args.units c.unit-size.ensures.kept c.requires in
    let at = low.starts in
    rw (c.unit-size.ensures.value, c.base.ensures.value) (omega (arith, at))

pub overflow_mul-result-2 : goal.overflow_mul-result-2
overflow_mul-result-2 c =
    let low = pages-low c.args.bits.now c.args.units c.unit-size.ensures.kept c.requires in
    let at = low.lasts in
    rw (c.unit-size.ensures.value) (omega (arith, at))

pub returns-clause-end : goal.returns-clause-end
returns-clause-end c =
    let low = pages-low c.args.bits.now c.args.units c.unit-size.ensures.kept c.requires in
    let at = low.ends in
    rw (c.unit-size.ensures.value, c.base.ensures.value) (omega (arith, at))
