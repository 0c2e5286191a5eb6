use Rattle.std.specs.Prelude.{ℕ, List, ◌≡◌, ◌<◌, length, nat_lt, slice_get, if◌then◌else◌, Option, None, Some, Result, Ok, Err}
use Rattle.std.specs.Option.{option_and_then, option_map, option_or}
use Rattle.std.specs.List.{list_all}
use Rattle.guest_base.specs.declared.memory.CpuNo.{CpuNo}
use Rattle.event_core.specs.declared.boot.Descriptor.{Descriptor}
use Rattle.event_core.specs.declared.command.Command.{Command}
use Rattle.event_core.specs.Table.{Bits, bad_unit}
use Rattle.efi_map.specs.declared.fault.MapFault.{MapFault}
use Rattle.guest_map.specs.declared.map.GuestMap.{GuestMap}
use Rattle.efi_map.specs.MapFile.{map_of}
use Rattle.guest_script.specs.declared.order.OrderFault.{OrderFault}
use Rattle.guest_script.specs.Order.{order_in}
use Rattle.guest_script.specs.declared.fault.ScriptFault.{ScriptFault}
use Rattle.guest_script.specs.Script.{script_of}
use Rattle.unaccepted_bitmap.specs.declared.fault.TableFault.{TableFault}
use Rattle.unaccepted_bitmap.specs.TableFile.{table_of}
use Rattle.guest_words.specs.Words.{Named, cpus_in}
use Rattle.guest_input.specs.declared.stop.Cause.{Cause}
use Rattle.guest_input.specs.declared.stop.Cause.TheVariants.{TooLong, Later, OfOrder, OfMap, OfTable, BadBit, OfScript}
use Rattle.guest_input.specs.declared.stop.InputFile.{InputFile}
use Rattle.guest_input.specs.declared.stop.InputFile.TheVariants.{Order, Map, Table, Script}
use Rattle.guest_base.specs.declared.limits.TheConstants.{MAX_MAP_BYTES, MAX_ORDER_BYTES, MAX_SCRIPT_BYTES}
use Rattle.guest_input.specs.declared.stop.TheConstants.{MAX_TABLE_BYTES}
use Rattle.guest_input.specs.Runnable.{is_runnable}
use Rattle.guest_input.specs.Asked.{place_of}
use Rattle.guest_input.specs.Stops.{IsNamed}

-- Which files are refused, and why (own rule).

-- the most bytes of a file
abbrev pub limit_of : InputFile → ℕ
limit_of Order = MAX_ORDER_BYTES
limit_of Map = MAX_MAP_BYTES
limit_of Table = MAX_TABLE_BYTES
limit_of (Script cpu) = MAX_SCRIPT_BYTES

-- an order file has to hold an order of the processors
abbrev pub order_cause : Result (List CpuNo) OrderFault → Option Cause
order_cause (Ok order) = None
order_cause (Err fault) = Some (OfOrder fault)

-- a map file has to hold a map
abbrev pub map_cause : Result GuestMap MapFault → Option Cause
map_cause (Ok map) = None
map_cause (Err fault) = Some (OfMap fault)

-- a table file has to hold a table
abbrev pub table_cause : Result Bits TableFault → Option Cause
table_cause (Ok table) = None
table_cause (Err fault) = Some (OfTable fault)

-- a script file has to hold a script, and today one whose commands can all be run
abbrev pub script_cause : Result (List Command) ScriptFault → Option Cause
script_cause (Ok script) = if list_all is_runnable script then None else Some Later
script_cause (Err fault) = Some (OfScript fault)

-- what is wrong with bytes that are within the file's limit, by themselves and the number of
-- processors; nothing where they are good
abbrev pub content_cause : ℕ → InputFile → List ℕ → Option Cause
content_cause cpus Order bytes = order_cause (order_in cpus bytes)
content_cause cpus Map bytes = map_cause (map_of bytes)
content_cause cpus Table bytes = table_cause (table_of bytes)
content_cause cpus (Script cpu) bytes = script_cause (script_of bytes)

-- why bytes are refused by themselves; None where they are good
abbrev pub cause_of : ℕ → InputFile → List ℕ → Option Cause
cause_of cpus file bytes =
    if nat_lt (limit_of file) (length bytes) then Some TooLong else content_cause cpus file bytes

-- a table has to fit the map: the first unit that doesn't
abbrev pub fit_cause : List Descriptor → Result Bits TableFault → Option Cause
fit_cause map (Ok table) = option_map BadBit (bad_unit map table)
fit_cause map (Err fault) = None

-- why a table's bytes are refused; whether it fits the map is looked at last
abbrev pub cause_by : ℕ → List Descriptor → List ℕ → Option Cause
cause_by cpus map bytes = option_or (cause_of cpus Table bytes) (fit_cause map (table_of bytes))

-- the contents of a file, where they are known; one that no argument names has none
abbrev pub held : (List ℕ → Option (List ℕ)) → Named → InputFile → Option (List ℕ)
held holds named Order = option_and_then holds named.order
held holds named Map = holds named.map
held holds named Table = option_and_then holds named.table
held holds named (Script cpu) = option_and_then holds (slice_get named.scripts cpu.0)

-- the map is the map file's, wherever its contents are known
abbrev pub IsMapOf : (List ℕ → Option (List ℕ)) → Named → GuestMap → Type 0
IsMapOf holds named map = (bytes : List ℕ) → holds named.map ≡ Some bytes → map_of bytes ≡ Ok map

-- the map file's contents are known, and this is its map
pub record IsKnownMapOf (holds : List ℕ → Option (List ℕ)) (named : Named)
    (map : GuestMap) : Type 0 where
  pub bytes : List ℕ
  pub held : holds named.map ≡ Some bytes
  pub map_is : map_of bytes ≡ Ok map

-- Wherever the file's contents are known, this is its cause (None where it is good). A table's is
-- by a map, which is the map file's wherever the contents of that are known.
abbrev pub HasCause : (List ℕ → Option (List ℕ)) → Named → InputFile → Option Cause → Type 0
HasCause holds named Table cause =
    (map : GuestMap) × IsMapOf holds named map
    × ((bytes : List ℕ) → held holds named Table ≡ Some bytes
    → cause_by (cpus_in named) map.descriptors bytes ≡ cause)
HasCause holds named file cause =
    (bytes : List ℕ) → held holds named file ≡ Some bytes
    → cause_of (cpus_in named) file bytes ≡ cause

-- the file's contents are known, and this is its cause; of a table the map file's contents are
-- known too
abbrev pub IsKnownCause : (List ℕ → Option (List ℕ)) → Named → InputFile → Option Cause → Type 0
IsKnownCause holds named Table cause =
    (map_bytes bytes : List ℕ) × (map : GuestMap) × (holds named.map ≡ Some map_bytes)
    × (map_of map_bytes ≡ Ok map)
    × (held holds named Table ≡ Some bytes)
    × (cause_by (cpus_in named) map.descriptors bytes ≡ cause)
IsKnownCause holds named file cause =
    (bytes : List ℕ) × (held holds named file ≡ Some bytes)
    × (cause_of (cpus_in named) file bytes ≡ cause)

-- the file is good, wherever its contents are known
abbrev pub IsGood : (List ℕ → Option (List ℕ)) → Named → InputFile → Type 0
IsGood holds named file = HasCause holds named file None

-- where the file is named, its contents are known, and it is good
abbrev pub IsKnownGood : (List ℕ → Option (List ℕ)) → Named → InputFile → Type 0
IsKnownGood holds named file = IsNamed named file → IsKnownCause holds named file None

-- what holds of each file that is read before this one
abbrev pub OfEachBefore : (InputFile → Type 0) → InputFile → Type 0
OfEachBefore P file = (earlier : InputFile) → place_of earlier < place_of file → P earlier

-- this file, which is named, is refused for the cause, wherever its contents are known, and those
-- before it are good so
pub record IsRefused (holds : List ℕ → Option (List ℕ)) (named : Named) (file : InputFile)
    (cause : Cause) : Type 0 where
  pub is_named : IsNamed named file
  pub own : HasCause holds named file (Some cause)
  pub before : OfEachBefore (IsGood holds named) file

-- the contents of this file and of those before it are known: this one is refused for the cause,
-- and those before it are good
pub record IsKnownRefused (holds : List ℕ → Option (List ℕ)) (named : Named) (file : InputFile)
    (cause : Cause) : Type 0 where
  pub own : IsKnownCause holds named file (Some cause)
  pub before : OfEachBefore (IsKnownGood holds named) file
