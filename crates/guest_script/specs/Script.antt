use Rattle.std.specs.Prelude.{◌≡◌, ℕ, ◌+◌, ◌==◌, Bool, false, List, [], ◌∷◌, ◌++◌, length, sum_by, nat_le, nat_lt, if◌then◌else◌, Result, Ok, Err}
use Rattle.std.specs.List.{slice_split}
use Rattle.std.specs.Str.{is_utf8}
use Rattle.guest_base.specs.declared.limits.TheConstants.{MAX_LINE_BYTES, MAX_NAMED_BYTES, MAX_COMMANDS}
use Rattle.event_core.specs.declared.command.Command.{Command}
use Rattle.event_core.specs.ReadableScript.{bytes_named}
use Rattle.guest_script.specs.declared.fault.Why.{Why}
use Rattle.guest_script.specs.declared.fault.Why.TheVariants as why
use Rattle.guest_script.specs.declared.fault.ScriptFault.{ScriptFault}
use Rattle.guest_script.specs.declared.fault.ScriptFault.TheVariants as fault
use Rattle.guest_script.specs.declared.fault.LineFault.{LineFault}
use Rattle.guest_script.specs.declared.fault.LineFault.TheVariants as line_fault
use Rattle.guest_script.specs.Words.{words_of}
use Rattle.guest_script.specs.Commands.{command_of}

-- whether the first word begins with #
abbrev pub is_comment : List (List ℕ) → Bool
is_comment [] = false
is_comment ([] ∷ words) = false
is_comment ((b ∷ bs) ∷ words) = b == 35

-- the words of a line of at most 1,048,576 bytes of UTF-8; a comment has none
unfoldable pub line_words : List ℕ → Result (List (List ℕ)) Why
line_words line =
    if nat_lt MAX_LINE_BYTES (length line) then Err why.TooLong
    else if is_utf8 line then Ok (if is_comment (words_of line) then [] else words_of line)
    else Err why.NotUtf8

-- a fault of a line, with the line's number
abbrev pub at_line : {A : Type 0} → ℕ → Result A Why → Result A ScriptFault
at_line number (Ok x) = Ok x
at_line number (Err why) = Err (fault.Line number why)

-- what follows, where there is no fault
abbrev pub followed_by : {A B : Type 0} → Result A ScriptFault → (A → Result B ScriptFault) → Result B ScriptFault
followed_by (Ok x) next = next x
followed_by (Err e) next = Err e

-- the script with one more command, whose bytes may name 4,194,304 together with those before it
abbrev pub with_command : List Command → Command → Result (List Command) ScriptFault
with_command script command =
    if nat_lt MAX_NAMED_BYTES (sum_by bytes_named script + bytes_named command)
    then Err fault.TooManyBytes
    else Ok (script ++ command ∷ [])

-- the script with the command of a line's words; a line without words is skipped, and there are at most 2,048 commands
unfoldable pub with_words : ℕ → List Command → List (List ℕ) → Result (List Command) ScriptFault
with_words number script [] = Ok script
with_words number script (first ∷ words) =
    if nat_le MAX_COMMANDS (length script) then Err fault.TooManyCommands
    else followed_by (at_line number (command_of first words)) (with_command script)

-- the script with the command of a line of this number
unfoldable pub with_line : ℕ → List Command → List ℕ → Result (List Command) ScriptFault
with_line number script line = followed_by (at_line number (line_words line)) (with_words number script)

-- the script with the commands of lines, numbered from number on: the first fault in their order
abbrev pub with_lines : ℕ → List Command → List (List ℕ) → Result (List Command) ScriptFault
with_lines number script [] = Ok script
with_lines number script (line ∷ lines) =
    followed_by (with_line number script line) (λ longer. with_lines (number + 1) longer lines)

-- the script of a file: its lines stand between line feeds, and what stands after the last line feed is a line too, skipped where
-- it is empty (own rule)
abbrev pub script_of : List ℕ → Result (List Command) ScriptFault
script_of bytes = with_lines 1 [] (slice_split (λ b. b == 10) bytes)

-- a fault of a line, or being out of memory, as a fault of the script
abbrev pub fault_at : ℕ → LineFault → ScriptFault
fault_at number (line_fault.Why w) = fault.Line number w
fault_at number line_fault.NoMemory = fault.NoMemory

-- a fault is what reading answers, unless memory ran out
abbrev pub ScriptFails : {A : Type 0} → ScriptFault → Result A ScriptFault → Type 0
ScriptFails fault.NoMemory read = Unit {0}
ScriptFails (fault.Line number why) read = read ≡ Err (fault.Line number why)
ScriptFails fault.TooManyCommands read = read ≡ Err fault.TooManyCommands
ScriptFails fault.TooManyBytes read = read ≡ Err fault.TooManyBytes

-- what was returned is what reading answers, unless memory ran out
abbrev pub ScriptGives : {A : Type 0} → Result A ScriptFault → Result A ScriptFault → Type 0
ScriptGives (Ok x) read = read ≡ Ok x
ScriptGives (Err e) read = ScriptFails e read
