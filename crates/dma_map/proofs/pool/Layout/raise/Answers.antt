use Rattle.std.proofs.Common.{◌*◌, ltb, sym, ◌∙◌, arith}
use Rattle.std.proofs.lemmas.Bool.{cond-false, le-ltb}
use Rattle.guest_base.specs.Requests.{raised_to_power}
use Rattle.dma_map.proofs.PowerLemmas.{raised_to_power_is, power_within, power_of_segments}
use Rattle.dma_map.proofs.pool.Layout.raise.Goals as goal

pub returns-then-slots-least-clause-power : goal.returns-then-slots-least-clause-power
returns-then-slots-least-clause-power c = power_of_segments c.args.areas c.requires.power

pub returns-else-slots-least-clause-raised : goal.returns-else-slots-least-clause-raised
returns-else-slots-least-clause-raised c =
    let more = le-ltb c.args.slots (128 * c.args.areas) (omega arith) in
    sym
    (cond-false (ltb c.args.slots (128 * c.args.areas)) (128 * c.args.areas) (raised_to_power c.args.slots) more
    ∙ raised_to_power_is c.args.slots c.next_power_of_two.result c.next_power_of_two.ensures.power c.next_power_of_two.ensures.lower_bound c.next_power_of_two.ensures.upper_bound)

pub returns-else-slots-least-clause-limit : goal.returns-else-slots-least-clause-limit
returns-else-slots-least-clause-limit c = power_within c.next_power_of_two.result 17 c.next_power_of_two.ensures.power (omega (arith, c.next_power_of_two.ensures.upper_bound))
