use Rattle.efi_map.proofs.Again.{again_of}
use Rattle.efi_map.proofs.writing.write_map.Goals as goal

pub returns-clause-again : goal.returns-clause-again
returns-clause-again c = again_of c.args.map.now c.bytes_of.result c.bytes_of.ensures
