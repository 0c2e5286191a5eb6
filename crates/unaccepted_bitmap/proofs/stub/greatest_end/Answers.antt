use Rattle.std.proofs.Common.{◌^◌, arith}
use Rattle.unaccepted_bitmap.proofs.StubLemmas.{greatest_end-le}
use Rattle.unaccepted_bitmap.proofs.stub.greatest_end.Goals as goal

pub overflow_cast-result : goal.overflow_cast-result
overflow_cast-result c = omega (arith, c.furthest_end.ensures, greatest_end-le (2 ^ 40) c.args.descriptors.now c.requires)

pub returns-clause-below : goal.returns-clause-below
returns-clause-below c = omega (arith, c.furthest_end.ensures, greatest_end-le (2 ^ 40) c.args.descriptors.now c.requires)
