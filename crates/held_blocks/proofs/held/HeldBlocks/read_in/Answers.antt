use Rattle.held_blocks.specs.Held.{blocks_of, holding}
use Rattle.held_blocks.proofs.PlaceLemmas.{told-bytes, told-count}
use Rattle.held_blocks.proofs.held.HeldBlocks.read_in.Goals as goal

pub returns-clause-bytes : goal.returns-clause-bytes
returns-clause-bytes c = told-bytes (blocks_of c.args.self.now) c.args.block (holding c.kept_in.result.now) c.args.off c.args.len c.read.result c.kept_in.ensures.holding c.read.ensures

pub returns-clause-count : goal.returns-clause-count
returns-clause-count c = told-count _ _ _ _ c.read.ensures
