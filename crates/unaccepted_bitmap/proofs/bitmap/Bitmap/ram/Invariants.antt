use Rattle.unaccepted_bitmap.proofs.CutLemmas.{IsCutSoFar}
use Rattle.unaccepted_bitmap.proofs.bitmap.Bitmap.ram.Given as goal

abbrev pub invariant-loop-run : goal.invariant-loop-run
invariant-loop-run l = IsCutSoFar l.fn.self l.run-items l.run-index l.runs.items
