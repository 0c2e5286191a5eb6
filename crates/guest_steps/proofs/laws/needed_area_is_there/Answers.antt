use Rattle.guest_steps.proofs.MappedLemmas.{needed-there}
use Rattle.guest_steps.proofs.laws.needed_area_is_there.Goals as goal

pub returns : goal.returns
returns c one base n stands needs = let there = needed-there one base n stands needs in (there.area, there.number, there.has)
