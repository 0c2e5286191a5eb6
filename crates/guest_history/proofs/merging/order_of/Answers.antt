use Rattle.std.proofs.Common.{map, ◌∙◌, ap}
use Rattle.event_core.specs.declared.entry.Entry.{Entry}
use Rattle.guest_history.proofs.OrderLemmas.{order-low, order-taken, order-turned}
use Rattle.guest_history.proofs.merging.order_of.Goals as goal

pub returns-clause-low : goal.returns-clause-low
returns-clause-low c =
    order-low c.args.run.now.boot c.args.run.now.scripts c.args.run.now.entries c.from_vec.result
    (c.from_vec.ensures ∙ c.in_ok-cpus_of.ensures ∙ ap (map (λ (e : Entry). e.cpu)) c.as_slice.ensures)

pub returns-clause-taken : goal.returns-clause-taken
returns-clause-taken c =
    order-taken c.args.run.now.boot c.args.run.now.scripts c.args.run.now.entries c.from_vec.result
    (c.from_vec.ensures ∙ c.in_ok-cpus_of.ensures ∙ ap (map (λ (e : Entry). e.cpu)) c.as_slice.ensures)

pub returns-clause-turned : goal.returns-clause-turned
returns-clause-turned c =
    order-turned c.args.run.now.boot c.args.run.now.scripts c.args.run.now.entries c.from_vec.result
    (c.from_vec.ensures ∙ c.in_ok-cpus_of.ensures ∙ ap (map (λ (e : Entry). e.cpu)) c.as_slice.ensures)
