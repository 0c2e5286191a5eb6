use Rattle.std.proofs.Common.{refl}
use Rattle.dma_map.proofs.pool.tests.raised_sizes.Goals as goal

pub raise-requires-4-clause-power : goal.raise-requires-4-clause-power
raise-requires-4-clause-power g c = (2, refl)

pub raise-requires-5-clause-power : goal.raise-requires-5-clause-power
raise-requires-5-clause-power g c = (6, refl)

pub raise-requires-6-clause-power : goal.raise-requires-6-clause-power
raise-requires-6-clause-power g c = (6, refl)
