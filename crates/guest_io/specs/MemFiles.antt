-- What files in memory stand for.
use Rattle.std.specs.Prelude.{◌≡◌, ℕ, List, [], map, Option, Some, string_bytes}
use Rattle.guest_io.specs.Reading.{content_of}
use Rattle.guest_io.specs.declared.mem_files.MemFiles.{MemFiles}

-- the bytes of the file of a name
abbrev pub content_in : MemFiles → List ℕ → List ℕ
content_in files name = content_of files.files.items name

-- what each name holds, which is always known
abbrev pub known : MemFiles → List ℕ → Option (List ℕ)
known files name = Some (content_in files name)

-- the names asked for
abbrev pub names_asked : MemFiles → List (List ℕ)
names_asked files = map string_bytes files.asked.items

-- the faults so far
abbrev pub faults_of : MemFiles → ℕ
faults_of files = files.calls.faults

-- the bytes read so far
abbrev pub bytes_of : MemFiles → ℕ
bytes_of files = files.bytes_read

-- the numbers of the calls that are to fail
abbrev pub failing_of : MemFiles → List ℕ
failing_of files = files.calls.failing.items

-- the calls made so far
abbrev pub calls_of : MemFiles → ℕ
calls_of files = files.calls.made

-- no call is to fail, and none has failed
abbrev pub NeverFails : MemFiles → Type 0
NeverFails files = (failing_of files ≡ []) × (faults_of files ≡ 0)
