use Rattle.std.proofs.Common.{◌+◌, ◌-◌, ◌≤◌, vec_len}
use Rattle.guest_io.specs.Reading.{Gives}
use Rattle.guest_io.proofs.real_files.read_whole.Given as goal

abbrev pub invariant-loop-bytes : goal.invariant-loop-bytes
invariant-loop-bytes g l = record {
  within : vec_len l.bytes ≤ l.max + 1;
  gives : Gives (g.F.Read.remaining l.fn.file) (g.F.Read.remaining l.file) l.bytes.items l.fn.bytes_read l.bytes_read;
}

-- the bytes that may still be read
abbrev pub decreases-loop-bytes : goal.decreases-loop-bytes
decreases-loop-bytes g l = l.max + 1 - vec_len l.bytes
