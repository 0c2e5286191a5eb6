use Rattle.std.proofs.Common.{arith}
use Rattle.efi_map.proofs.Limits.{few_of}
use Rattle.efi_map.proofs.Rules.{rules_of}
use Rattle.efi_map.proofs.reading.read_map.Goals as goal

pub returns-clause-rules : goal.returns-clause-rules
returns-clause-rules c = rules_of c.args.bytes.now c.map.result (λ i. omega (arith, c.type_inv.bytes i)) c.map.ensures

pub returns-clause-few : goal.returns-clause-few
returns-clause-few c = few_of c.args.bytes.now c.map.result c.map.ensures
