-- What a sink in memory stands for.
use Rattle.std.specs.Prelude.{◌≡◌, ℕ, List, [], Option, Some}
use Rattle.guest_io.specs.declared.mem_sink.MemSink.{MemSink}

-- the bytes written, which are always known
abbrev pub written_in : MemSink → Option (List ℕ)
written_in sink = Some sink.written.items

-- the faults so far
abbrev pub faults_of : MemSink → ℕ
faults_of sink = sink.calls.faults

-- the numbers of the calls that are to fail
abbrev pub failing_of : MemSink → List ℕ
failing_of sink = sink.calls.failing.items

-- the calls made so far
abbrev pub calls_of : MemSink → ℕ
calls_of sink = sink.calls.made

-- no call is to fail, and none has failed
abbrev pub NeverFails : MemSink → Type 0
NeverFails sink = (failing_of sink ≡ []) × (faults_of sink ≡ 0)
