use Rattle.std.specs.Prelude.{ℕ, List, [], ◌∷◌, ◌++◌, Option, Some, ◌≡◌, ◌⊎◌, ◌<◌, take}
use Rattle.guest_base.specs.declared.memory.CpuNo.{CpuNo}
use Rattle.std.specs.Option.{option_or}
use Rattle.guest_base.specs.Counts.{Rose}
use Rattle.event_core.specs.declared.boot.Descriptor.{Descriptor}
use Rattle.unaccepted_bitmap.specs.TableFile.{table_of}
use Rattle.guest_words.specs.Words.{Named, cpus_in}
use Rattle.guest_input.specs.declared.stop.Cause.{Cause}
use Rattle.guest_input.specs.declared.stop.InputFile.{InputFile}
use Rattle.guest_input.specs.declared.stop.InputFile.TheVariants.{Table, Script}
use Rattle.guest_input.specs.declared.stop.Stop.{Stop}
use Rattle.guest_input.specs.declared.stop.Stop.TheVariants.{Refused, NotRead, PoolNoRoom, Module, NoMemory}
use Rattle.guest_input.specs.Asked.{all_names, names_to, Asks, AsksFront}
use Rattle.guest_input.specs.Causes.{cause_of, cause_by, fit_cause, table_cause, IsGood, IsRefused, OfEachBefore}
use Rattle.guest_input.specs.Reading.{Reading}
use Rattle.guest_input.specs.Stops.{name_of, IsNamed}

-- What a stop says, at each layer.

-- the file is refused for the cause that its bytes have; or memory ran out
abbrev pub FindsBy : InputFile → Option Cause → Stop → Type 0
FindsBy file found (Refused at cause) = (at ≡ file) × (found ≡ Some cause)
FindsBy file found (NotRead at) = ⊥
FindsBy file found PoolNoRoom = ⊥
FindsBy file found Module = ⊥
FindsBy file found NoMemory = Unit {0}

-- what is wrong with a table's bytes within the file's limit, by a map
abbrev pub content_by : List Descriptor → List ℕ → Option Cause
content_by map bytes = option_or (table_cause (table_of bytes)) (fit_cause map (table_of bytes))

-- the file is refused for the cause, wherever its contents are known; or it couldn't be read; or
-- memory ran out
abbrev pub StopsBy : (List ℕ → Option Cause) → Reading → Named → InputFile → Stop → Type 0
StopsBy causes files named file (Refused at cause) =
    (at ≡ file)
    × ((bytes : List ℕ) → files.holds (name_of named file) ≡ Some bytes → causes bytes ≡ Some cause)
StopsBy causes files named file (NotRead at) =
    (at ≡ file) × Rose files.faults_before files.faults_after
StopsBy causes files named file PoolNoRoom = ⊥
StopsBy causes files named file Module = ⊥
StopsBy causes files named file NoMemory = Unit {0}

abbrev pub StopsAt : Reading → Named → InputFile → Stop → Type 0
StopsAt files named file stop = StopsBy (cause_of (cpus_in named) file) files named file stop

-- the same of a table, by a map
abbrev pub StopsAtTable : List Descriptor → Reading → Named → Stop → Type 0
StopsAtTable map files named stop =
    StopsBy (cause_by (cpus_in named) map) files named Table stop

-- some names were asked for, and then one more; where memory ran out that may be missing
abbrev pub AsksOneMore : List (List ℕ) → List ℕ → Reading → Stop → Type 0
AsksOneMore names name files NoMemory = Asks (names ++ name ∷ []) files ⊎ Asks names files
AsksOneMore names name files stop = Asks (names ++ name ∷ []) files

-- one name was asked for; where memory ran out it may be missing
abbrev pub AsksOne : List ℕ → Reading → Stop → Type 0
AsksOne name files stop = AsksOneMore [] name files stop

-- a stop at a script: those before it are good, and their names were asked for
pub record StopsAtScript (files : Reading) (named : Named) (cpu : CpuNo)
    (stop : Stop) : Type 0 where
  pub is_named : IsNamed named (Script cpu)
  pub own : StopsAt files named (Script cpu) stop
  pub before : (earlier : CpuNo) → earlier.0 < cpu.0 → IsGood files.holds named (Script earlier)
  pub asks : AsksOneMore (take cpu.0 named.scripts) (name_of named (Script cpu)) files stop

-- a stop at one of the scripts
abbrev pub StopsAtOne : Reading → Named → Stop → Type 0
StopsAtOne files named stop = (cpu : CpuNo) × StopsAtScript files named cpu stop

-- This file, which is named, is refused for the cause, wherever its contents are known; those
-- before it are good; and exactly the names up to it were asked for.
pub record RefusesFile (files : Reading) (named : Named) (file : InputFile)
    (cause : Cause) : Type 0 where
  pub refused : IsRefused files.holds named file cause
  pub asked : Asks (names_to named file) files

-- The file, which is named, couldn't be read: it was asked for last, and the count of the files'
-- faults rose. Those before it are good, wherever their contents are known.
pub record IsNotRead (files : Reading) (named : Named) (file : InputFile) : Type 0 where
  pub is_named : IsNamed named file
  pub rose : Rose files.faults_before files.faults_after
  pub asked : Asks (names_to named file) files
  pub before : OfEachBefore (IsGood files.holds named) file

-- the cause of a stop at the files, and the names that were asked for up to it
abbrev pub StopsReading : Reading → Named → Stop → Type 0
StopsReading files named (Refused file cause) = RefusesFile files named file cause
StopsReading files named (NotRead file) = IsNotRead files named file
StopsReading files named PoolNoRoom = ⊥
StopsReading files named Module = ⊥
StopsReading files named NoMemory = AsksFront (all_names named) files
