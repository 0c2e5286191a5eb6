use Rattle.std.proofs.Common.{◌≡◌, ◌*◌, ◌^◌, ◌%◌, sym, ◌∙◌, ap, arith}
use Rattle.std.specs.Option.{option_and_then}
use Rattle.guest_base.specs.declared.memory.Block.{Block}
use Rattle.memory_core.specs.Bitmaps.{guarded_by}
use Rattle.memory_core.proofs.units.block_units_of.Goals as goal

pub guarded_units_of-requires-clause-end : goal.guarded_units_of-requires-clause-end
guarded_units_of-requires-clause-end c =
    let form = c.requires c.in-Some.block c.in-Some.is in
    let size : 2 ^ c.in-Some.block.order ≡ 1024 = ap (λ n. 2 ^ n) form.0 in
    let end = form.2 in
    omega (arith, size, end)

pub returns-in-Some-clause-units : goal.returns-in-Some-clause-units
returns-in-Some-clause-units c =
    let form = c.requires c.in-Some.block c.in-Some.is in
    let size : 2 ^ c.in-Some.block.order ≡ 1024 = ap (λ n. 2 ^ n) form.0 in
    let same : 4096 * 2 ^ c.in-Some.block.order % 18446744073709551616 ≡ 4096 * 2 ^ c.in-Some.block.order = omega (arith, size) in
    c.guarded_units_of.ensures.units ∙ ap (guarded_by c.args.bits.now (4096 * c.in-Some.block.first)) same
    ∙ ap (option_and_then (λ (b : Block). guarded_by c.args.bits.now (4096 * b.first) (4096 * 2 ^ b.order))) (sym c.in-Some.is)
