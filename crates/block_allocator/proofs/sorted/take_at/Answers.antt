use Rattle.std.proofs.Common.{◌∙◌, ◌<◌, length, ap, sym, ◌||◌, arith}
use Rattle.std.specs.List.{list_any}
use Rattle.block_allocator.specs.Kept.{is_numbered}
use Rattle.block_allocator.proofs.SortedLists.{any-remove, gone}
use Rattle.block_allocator.proofs.sorted.take_at.Goals as goal

pub returns-clause-removed : goal.returns-clause-removed
returns-clause-removed c = λ test.
    let within : c.args.place < length c.args.list.now.items = omega (arith, c.args.list.now.ok.0) in
    any-remove test c.args.list.now.items c.args.place c.remove.result within c.remove.ensures.value
    ∙ ap (λ ys. list_any test ys || test c.remove.result) (sym c.remove.ensures.items)

pub returns-clause-gone : goal.returns-clause-gone
returns-clause-gone c =
    let within : c.args.place < length c.args.list.now.items = omega (arith, c.args.list.now.ok.0) in
    ap (list_any (is_numbered c.remove.result.order c.remove.result.number)) c.remove.ensures.items
    ∙ gone c.args.list.now.items c.args.place c.remove.result c.requires.rises within c.remove.ensures.value
