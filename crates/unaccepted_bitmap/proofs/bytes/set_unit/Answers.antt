use Rattle.std.proofs.Common.{◌%◌, ◌/◌, ◌*◌, ◌^◌, ◌<◌, length, ap, arith}
use Rattle.std.specs.Prelude.{bit_or}
use Rattle.std.proofs.lemmas.List.{get_or_read}
use Rattle.unaccepted_bitmap.proofs.BitLemmas.{bit_of-set}
use Rattle.unaccepted_bitmap.proofs.bytes.set_unit.Goals as goal

pub returns-clause-each : goal.returns-clause-each
returns-clause-each c =
    λ k.
    let xs = c.args.bytes.now.items in
    let place : c.args.unit / 8 < length xs = omega (arith, c.requires) in
    bit_of-set xs c.args.unit k _ c.requires
    (ap (λ byte. bit_or byte (1 * 2 ^ (c.args.unit % 8) % 2 ^ 8)) (get_or_read xs _ _ place c.index_mut.ensures.value 0))
