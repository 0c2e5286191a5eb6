-- What standard output counts.
use Rattle.std.specs.Prelude.{ℕ}
use Rattle.guest_io.specs.declared.real_sink.RealSink.{RealSink}

-- the faults so far
abbrev pub faults_of : {R : Type 0} → RealSink R → ℕ
faults_of sink = sink.faults
