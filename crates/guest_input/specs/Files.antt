use Rattle.std.specs.Prelude.{ℕ, List, Option, None, Some, ◌≡◌, Ok, length, slice_get}
use Rattle.guest_base.specs.declared.memory.CpuNo.{CpuNo}
use Rattle.event_core.specs.declared.command.Command.{Command}
use Rattle.event_core.specs.Given.{FitsGiven}
use Rattle.event_core.specs.Table.{Bits}
use Rattle.guest_map.specs.declared.map.GuestMap.{GuestMap}
use Rattle.guest_script.specs.Order.{order_in}
use Rattle.guest_script.specs.Script.{script_of}
use Rattle.unaccepted_bitmap.specs.TableFile.{table_of}
use Rattle.guest_words.specs.Words.{Named, cpus_in}
use Rattle.guest_input.specs.declared.stop.InputFile.{InputFile}
use Rattle.guest_input.specs.Causes.{IsGood, IsKnownGood, IsMapOf}

-- What good files hold (own rule).

-- all files are good, wherever their contents are known
abbrev pub AreGood : (List ℕ → Option (List ℕ)) → Named → Type 0
AreGood holds named = (file : InputFile) → IsGood holds named file

-- all files that are named have known contents, and are good
abbrev pub AreKnownGood : (List ℕ → Option (List ℕ)) → Named → Type 0
AreKnownGood holds named = (file : InputFile) → IsKnownGood holds named file

-- the table is that of the file of this name, wherever its contents are known; without a name there
-- is none
abbrev pub IsTableOf : (List ℕ → Option (List ℕ)) → Option (List ℕ) → Option Bits → Type 0
IsTableOf holds None None = Unit {0}
IsTableOf holds (Some name) (Some table) =
    (bytes : List ℕ) → holds name ≡ Some bytes → table_of bytes ≡ Ok table
IsTableOf holds None (Some table) = ⊥
IsTableOf holds (Some name) None = ⊥

-- the order is that of the file of this name, wherever its contents are known; without a name there
-- is none
abbrev pub IsOrderIn : (List ℕ → Option (List ℕ)) → ℕ → Option (List ℕ) → Option (List CpuNo)
    → Type 0
IsOrderIn holds cpus None None = Unit {0}
IsOrderIn holds cpus (Some name) (Some order) =
    (bytes : List ℕ) → holds name ≡ Some bytes → order_in cpus bytes ≡ Ok order
IsOrderIn holds cpus None (Some order) = ⊥
IsOrderIn holds cpus (Some name) None = ⊥

-- the order is the order file's, of as many processors as there are scripts
abbrev pub IsOrderOf : (List ℕ → Option (List ℕ)) → Named → Option (List CpuNo) → Type 0
IsOrderOf holds named order = IsOrderIn holds (cpus_in named) named.order order

-- the script is that of the file of this name, wherever its contents are known
abbrev pub IsScriptOf : (List ℕ → Option (List ℕ)) → List ℕ → List Command → Type 0
IsScriptOf holds name script =
    (bytes : List ℕ) → holds name ≡ Some bytes → script_of bytes ≡ Ok script

-- these scripts are those of the files of these names, one by one
abbrev pub IsEachOf : (List ℕ → Option (List ℕ)) → List (List ℕ) → List (List Command) → Type 0
IsEachOf holds names scripts =
    (cpu : ℕ) (name : List ℕ) (script : List Command) → slice_get names cpu ≡ Some name
    → slice_get scripts cpu ≡ Some script → IsScriptOf holds name script

-- there are as many scripts as script files, and each is its file's
pub record AreScriptsOf (holds : List ℕ → Option (List ℕ)) (named : Named)
    (scripts : List (List Command)) : Type 0 where
  pub as_many : length scripts ≡ cpus_in named
  pub each : IsEachOf holds named.scripts scripts

-- what boot is given: the map and the table of the files; the table fits the map
pub record IsGiven (holds : List ℕ → Option (List ℕ)) (named : Named) (map : GuestMap)
    (table : Option Bits) : Type 0 where
  pub map_is : IsMapOf holds named map
  pub table_is : IsTableOf holds named.table table
  pub fits : FitsGiven map.descriptors table
