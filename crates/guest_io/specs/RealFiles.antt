-- What the files of the system count.
use Rattle.std.specs.Prelude.{ℕ, List, map, string_bytes}
use Rattle.guest_io.specs.declared.real_files.RealFiles.{RealFiles}

-- the names asked for
abbrev pub names_asked : {R : Type 0} → RealFiles R → List (List ℕ)
names_asked files = map string_bytes files.asked.items

-- the faults so far
abbrev pub faults_of : {R : Type 0} → RealFiles R → ℕ
faults_of files = files.faults

-- the bytes read so far
abbrev pub bytes_of : {R : Type 0} → RealFiles R → ℕ
bytes_of files = files.bytes_read
