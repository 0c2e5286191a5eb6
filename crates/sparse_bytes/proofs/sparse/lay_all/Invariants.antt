use Rattle.std.proofs.Common.{◌≡◌, ℕ, ◌+◌, ◌<◌, take, length, get_or}
use Rattle.event_core.specs.Bytes.{zeros}
use Rattle.sparse_bytes.specs.Runs.{laid_over}
use Rattle.sparse_bytes.proofs.sparse.lay_all.Given as goal

abbrev pub invariant-loop-run : goal.invariant-loop-run
invariant-loop-run l =
    (length l.bytes ≡ length l.initial.bytes)
    × ((k : ℕ) → k < length l.initial.bytes → get_or l.bytes k 0 ≡ laid_over zeros (take l.run-index l.run-items) (l.at + k))
