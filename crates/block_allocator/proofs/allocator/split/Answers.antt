use Rattle.std.proofs.Common.{◌≡◌, ◌+◌, ◌-◌, ◌*◌, ap, arith}
use Rattle.block_allocator.proofs.Merging.{part_beside, absent_rank, halved, halved_pages}
use Rattle.block_allocator.proofs.allocator.split.Goals as goal

pub put-requires-clause-absent : goal.put-requires-clause-absent
put-requires-clause-absent c =
    let b = c.args.block in
    let upper = c.upper_half.result in
    let order : upper.order ≡ b.order - 1 = ap (λ x. x.order) c.upper_half.ensures in
    let number : upper.number ≡ 2 * b.number + 1 = ap (λ x. x.number) c.upper_half.ensures in
    absent_rank c.args.free.now.items upper
    (part_beside c.args.free.now.items b upper c.requires.beside (omega (arith, c.requires.order)) (omega arith))

pub returns-clause-beside : goal.returns-clause-beside
returns-clause-beside c =
    let b = c.args.block in
    let upper = c.upper_half.result in
    let lower = c.lower_half.result in
    let upper_order : upper.order ≡ b.order - 1 = ap (λ x. x.order) c.upper_half.ensures in
    let upper_number : upper.number ≡ 2 * b.number + 1 = ap (λ x. x.number) c.upper_half.ensures in
    let lower_order : lower.order ≡ b.order - 1 = ap (λ x. x.order) c.lower_half.ensures in
    let lower_number : lower.number ≡ 2 * b.number = ap (λ x. x.number) c.lower_half.ensures in
    halved c.args.free.now.items c.put.new.list.items b upper lower c.requires.beside (omega (arith, c.requires.order)) upper_number (omega (arith, c.requires.order)) lower_number c.put.ensures.added

pub returns-clause-pages : goal.returns-clause-pages
returns-clause-pages c =
    let b = c.args.block in
    let upper = c.upper_half.result in
    let lower = c.lower_half.result in
    let upper_order : upper.order ≡ b.order - 1 = ap (λ x. x.order) c.upper_half.ensures in
    let upper_number : upper.number ≡ 2 * b.number + 1 = ap (λ x. x.number) c.upper_half.ensures in
    let lower_order : lower.order ≡ b.order - 1 = ap (λ x. x.order) c.lower_half.ensures in
    let lower_number : lower.number ≡ 2 * b.number = ap (λ x. x.number) c.lower_half.ensures in
    halved_pages c.args.free.now.items c.put.new.list.items b upper lower (omega (arith, c.requires.order)) upper_number (omega arith) lower_number c.put.ensures.added
