use Rattle.std.proofs.Common.{◌^◌, ◌≤◌, arith}
use Rattle.std.proofs.Math.Pow.{pow_mono}
use Rattle.boot_tests.proofs.worlds.booted.Goals as goal

pub boot-requires-clause-asked : goal.boot-requires-clause-asked
boot-requires-clause-asked c =
    let few : 2 ^ c.args.order ≤ 2 ^ 6 = pow_mono {j = 6} c.requires.order in
    record { few_slots = c.requires.slots; few_areas = omega (arith, c.areas_of.ensures, few); power = (c.args.order, c.areas_of.ensures) }
