use Rattle.std.proofs.Common.{◌≡◌, ℕ, length, take, drop}
use Rattle.std.specs.Io.KnownBytes.{Appends}
use Rattle.guest_io.proofs.real_sink.write_whole.Given as goal

-- the bytes before those that are left are written
abbrev pub invariant-loop-left : goal.invariant-loop-left
invariant-loop-left g l =
    (sent : ℕ) × (l.left ≡ drop sent l.bytes)
    × Appends (g.W.Write.contents l.fn.out) (g.W.Write.contents l.out) (take sent l.bytes)

-- the bytes that are left
abbrev pub decreases-loop-left : goal.decreases-loop-left
decreases-loop-left g l = length l.left
