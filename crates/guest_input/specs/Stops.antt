use Rattle.std.specs.Prelude.{ℕ, List, [], ◌++◌, ◌<◌, codes, length, slice_get, unwrap_or, IsSome}
use Rattle.std.specs.Fmt.{decimal}
use Rattle.efi_map.specs.declared.fault.MapFault.{MapFault}
use Rattle.efi_map.specs.declared.fault.MapFault.TheVariants as fault
use Rattle.unaccepted_bitmap.specs.declared.fault.TableFault.{TableFault}
use Rattle.unaccepted_bitmap.specs.declared.fault.TableFault.TheVariants as table
use Rattle.guest_script.specs.declared.order.OrderFault.{OrderFault}
use Rattle.guest_script.specs.declared.order.OrderFault.TheVariants as order
use Rattle.guest_script.specs.declared.fault.ScriptFault.{ScriptFault}
use Rattle.guest_script.specs.declared.fault.ScriptFault.TheVariants as script
use Rattle.guest_script.specs.declared.fault.Why.{Why}
use Rattle.guest_script.specs.declared.fault.Why.TheVariants as why
use Rattle.event_core.specs.Texts.{line}
use Rattle.guest_words.specs.Words.{Named}
use Rattle.guest_input.specs.declared.stop.Cause.{Cause}
use Rattle.guest_input.specs.declared.stop.Cause.TheVariants.{TooLong, Later, OfOrder, OfMap, OfTable, BadBit, OfScript}
use Rattle.guest_input.specs.declared.stop.InputFile.{InputFile}
use Rattle.guest_input.specs.declared.stop.InputFile.TheVariants.{Order, Map, Table, Script}
use Rattle.guest_input.specs.declared.stop.Stop.{Stop}
use Rattle.guest_input.specs.declared.stop.Stop.TheVariants.{Refused, NotRead, PoolNoRoom, Module, NoMemory}

-- The lines and statuses of a run that ends before its text (own rule).

-- the name of a file; that of one that no argument names is empty
abbrev pub name_of : Named → InputFile → List ℕ
name_of named Order = unwrap_or named.order []
name_of named Map = named.map
name_of named Table = unwrap_or named.table []
name_of named (Script cpu) = unwrap_or (slice_get named.scripts cpu.0) []

-- the arguments name the file
abbrev pub IsNamed : Named → InputFile → Type 0
IsNamed named Order = IsSome named.order
IsNamed named Map = Unit {0}
IsNamed named Table = IsSome named.table
IsNamed named (Script cpu) = cpu.0 < length named.scripts

-- what is wrong with an order file
abbrev pub order_fault_text : OrderFault → List ℕ
order_fault_text (order.Word number) = codes "word " ++ decimal number
order_fault_text order.TooMany = codes "too many"
order_fault_text order.NoMemory = codes "memory"

-- what is wrong with a map file
abbrev pub map_fault_text : MapFault → List ℕ
map_fault_text (fault.Short length) = codes "short " ++ decimal length
map_fault_text fault.BadMagic = codes "magic"
map_fault_text (fault.BadSize size) = codes "size " ++ decimal size
map_fault_text (fault.BadVersion version) = codes "version " ++ decimal version
map_fault_text (fault.TooMany count) = codes "count " ++ decimal count
map_fault_text (fault.Unaligned number) = codes "unaligned " ++ decimal number
map_fault_text (fault.TooHigh number) = codes "high " ++ decimal number
map_fault_text (fault.Overlap earlier number) =
    codes "overlap " ++ (decimal earlier ++ (codes " " ++ decimal number))
map_fault_text fault.TooMuchRam = codes "ram"
map_fault_text (fault.BadHost number) = codes "host " ++ decimal number
map_fault_text (fault.Trailing place) = codes "trailing " ++ decimal place
map_fault_text fault.NoMemory = codes "memory"

-- what is wrong with a table file
abbrev pub table_fault_text : TableFault → List ℕ
table_fault_text (table.Short length) = codes "short " ++ decimal length
table_fault_text (table.BadVersion version) = codes "version " ++ decimal version
table_fault_text (table.BadUnit unit) = codes "unit " ++ decimal unit
table_fault_text (table.BadBase base) = codes "base " ++ decimal base
table_fault_text (table.BadLength length) = codes "length " ++ decimal length
table_fault_text table.NoMemory = codes "memory"

-- what is wrong with a line of a script file
abbrev pub why_text : Why → List ℕ
why_text why.Word = codes "word"
why_text why.Number = codes "number"
why_text why.Hex = codes "hex"
why_text why.Arity = codes "arity"
why_text why.TooLong = codes "long"
why_text why.NotUtf8 = codes "utf8"

-- what is wrong with a script file
abbrev pub script_fault_text : ScriptFault → List ℕ
script_fault_text (script.Line number w) =
    codes "line " ++ (decimal number ++ (codes " " ++ why_text w))
script_fault_text script.TooManyCommands = codes "too many lines"
script_fault_text script.TooManyBytes = codes "too many bytes"
script_fault_text script.NoMemory = codes "memory"

-- why a file is refused
abbrev pub cause_text : Cause → List ℕ
cause_text TooLong = codes "too long"
cause_text Later = codes "later"
cause_text (OfOrder f) = order_fault_text f
cause_text (OfMap f) = map_fault_text f
cause_text (OfTable f) = table_fault_text f
cause_text (BadBit unit) = codes "bit " ++ decimal unit
cause_text (OfScript f) = script_fault_text f

-- the line of a refused file
abbrev pub refused_line : List ℕ → Cause → List ℕ
refused_line name cause = codes "refused: " ++ (name ++ (codes ": " ++ line (cause_text cause)))

-- the line of a file that couldn't be read
abbrev pub not_read_line : List ℕ → List ℕ
not_read_line name = line (codes "failed: read " ++ name)

-- the line of arguments that don't match the usage line
abbrev pub words_line : List ℕ
words_line = line (codes "refused: words")

-- the line of a pool that no range of memory holds
abbrev pub pool_line : List ℕ
pool_line = line (codes "refused: pool")

-- the line of a boot that stopped
abbrev pub boot_line : List ℕ
boot_line = line (codes "failed: boot")

-- the line of a stop; where memory ran out there is none
abbrev pub stop_line : Named → Stop → List ℕ
stop_line named (Refused file cause) = refused_line (name_of named file) cause
stop_line named (NotRead file) = not_read_line (name_of named file)
stop_line named PoolNoRoom = pool_line
stop_line named Module = boot_line
stop_line named NoMemory = []

-- the status of a stop
abbrev pub status_of : Stop → ℕ
status_of (Refused file cause) = 3
status_of (NotRead file) = 4
status_of PoolNoRoom = 3
status_of Module = 7
status_of NoMemory = 6
