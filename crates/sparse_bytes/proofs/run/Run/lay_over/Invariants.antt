use Rattle.std.proofs.Common.{◌≡◌, ℕ, ◌+◌, ◌-◌, ◌<◌, ◌≤◌, max, length, get_or, if◌then◌else◌}
use Rattle.guest_base.specs.Ranges.{in_range}
use Rattle.sparse_bytes.specs.Runs.{bytes_in}
use Rattle.sparse_bytes.proofs.run.Run.lay_over.Given as goal

abbrev pub invariant-loop-place : goal.invariant-loop-place
invariant-loop-place l =
    (length l.bytes ≡ length l.initial.bytes)
    × ((k : ℕ) → k < length l.initial.bytes → get_or l.bytes k 0
    ≡ (if in_range l.first (l.place - l.first) (l.at + k)
    then get_or (bytes_in l.self.content) (l.at + k - l.self.start) 0
    else get_or l.initial.bytes k 0))
    × (l.place ≤ max l.first l.end)
