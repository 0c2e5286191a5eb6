use Rattle.block_laws.proofs.CutPages.{cut-pages}
use Rattle.block_laws.proofs.HeldFacts.{free-clear}
use Rattle.block_laws.proofs.guarded.free_pages_are_clear.Goals as goal

pub returns : goal.returns
returns c = λ boot memory page made stands free. free-clear boot memory page (cut-pages boot made) stands free
