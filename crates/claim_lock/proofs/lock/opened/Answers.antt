use Rattle.std.proofs.Common.{[], ◌∷◌, ◌++◌, Some, ap, ◌∙◌}
use Rattle.claim_lock.proofs.Steps.{opens_at}
use Rattle.claim_lock.proofs.lock.opened.Goals as goal

pub new-requires : goal.new-requires
new-requires g c =
    opens_at
    g.S.Parted.fixed
    g.S.Parted.part
    g.S.Parted.moved
    c.args.origin.now.seats
    c.args.state
    c.args.origin.now.state.value
    c.push_reserved.new.self.items
    c.requires.state
    (c.push_reserved.ensures.items ∙ ap (λ l. l ++ Some c.args.state ∷ []) c.in_ok-slots.ensures.items)
    c.requires.entries
