use Rattle.std.proofs.Common.{◌||◌, ◌^◌, ap, sym, ◌∙◌}
use Rattle.guest_base.specs.Ranges.{in_range}
use Rattle.block_allocator.specs.Kept.{covers}
use Rattle.block_allocator.specs.State.{is_free, page_waits}
use Rattle.block_allocator.proofs.Waiting.{beside_from, range_is, sound_freed, not_waiting}
use Rattle.std.proofs.lemmas.Bool.{and_parts, leb-true, ltb-true}
use Rattle.block_allocator.proofs.store.Blocks.free.Goals as goal

pub free_block-requires-clause-beside : goal.free_block-requires-clause-beside
free_block-requires-clause-beside c =
    beside_from c.self.inside.free.items c.self.invariant.buddies c.args.block c.numbered.result c.numbered.ensures c.requires.may.order c.requires.may.aligned c.requires.may.end
    (λ page inside. ap (λ v. is_free v page) c.self.view_is ∙ c.requires.may.not_free page inside)

pub invariant_of-self : goal.invariant_of-self
invariant_of-self c =
    sound_freed c.self.inside.free.items c.self.inside.waiting.items c.free_block.new.free.items c.numbered.result c.self.invariant
    c.free_block.ensures.rises c.free_block.ensures.buddies c.free_block.ensures.pages
    (λ page in_b.
    let inside = sym (range_is c.args.block c.numbered.result c.numbered.ensures c.requires.may.aligned page) ∙ in_b in
    let parts = and_parts _ _ inside in
    not_waiting c.self.inside.waiting.items c.self.invariant.waiting_form page
    (ap (λ v. page_waits v page) c.self.view_is ∙ c.requires.may.not_waiting page (leb-true _ _ parts.0, ltb-true _ _ parts.1)))

pub returns-clause-pages : goal.returns-clause-pages
returns-clause-pages c = λ page.
    c.free_block.ensures.pages page
    ∙ ap (λ t. covers c.self.inside.free.items page || t) (range_is c.args.block c.numbered.result c.numbered.ensures c.requires.may.aligned page)
    ∙ ap (λ v. is_free v page || in_range c.args.block.first (2 ^ c.args.block.order) page) c.self.view_is
