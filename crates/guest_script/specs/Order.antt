use Rattle.std.specs.Prelude.{◌≡◌, ℕ, ◌+◌, ◌<◌, ◌≤◌, ◌==◌, Bool, false, not, List, [], ◌∷◌}
use Rattle.std.specs.Prelude.{◌++◌, length, All, nat_lt, if◌then◌else◌, is_some, Option, None, Some, Result, Ok, Err}
use Rattle.std.specs.List.{slice_split, take_while, filter_map, flat_map, prefix_len}
use Rattle.std.specs.Result.{result_err}
use Rattle.std.specs.Fmt.{decimal}
use Rattle.event_core.specs.Texts.{line}
use Rattle.guest_base.specs.declared.memory.CpuNo.{CpuNo}
use Rattle.guest_base.specs.declared.limits.TheConstants.{MAX_TURNS}
use Rattle.guest_script.specs.declared.order.OrderFault.{OrderFault}
use Rattle.guest_script.specs.declared.order.OrderFault.TheVariants as fault
use Rattle.guest_script.specs.Number.{number_of}
use Rattle.guest_script.specs.Words.{words_of}

-- Order files: whose turn it is, one processor after another (own rule).

-- a word that begins a comment: its first byte is #
abbrev pub begins_comment : List ℕ → Bool
begins_comment [] = false
begins_comment (b ∷ bs) = b == 35

-- the words of a line up to the first one that begins a comment
abbrev pub turn_words : List ℕ → List (List ℕ)
turn_words line = take_while (λ word. not (begins_comment word)) (words_of line)

-- the words of an order file: those of each of its lines, which stand between line feeds
abbrev pub order_words : List ℕ → List (List ℕ)
order_words bytes = flat_map turn_words (slice_split (λ b. b == 10) bytes)

-- the processor that a number names, of this many
abbrev pub processor_of : ℕ → Option ℕ → Option CpuNo
processor_of cpus None = None
processor_of cpus (Some n) = if nat_lt n cpus then Some (record { 0 = n }) else None

-- the processor that a word names, of this many: the word is a number below their number
abbrev pub turn_of : ℕ → List ℕ → Option CpuNo
turn_of cpus word = processor_of cpus (number_of word)

-- the number of words from the front on that name processors
abbrev pub named_first : ℕ → List (List ℕ) → ℕ
named_first cpus words = prefix_len (λ word. is_some (turn_of cpus word)) words

-- The first fault where this many turns stand before words of this number, of which the first
-- `named` name processors: that there are too many turns, or that the next word names none.
abbrev pub fault_behind : ℕ → ℕ → ℕ → Option OrderFault
fault_behind before named words =
    if nat_lt MAX_TURNS (before + named) then Some fault.TooMany
    else if named == words then None
    else Some (fault.Word (before + named + 1))

-- the first fault of words that stand behind this many turns
abbrev pub words_fault : ℕ → ℕ → List (List ℕ) → Option OrderFault
words_fault cpus before words = fault_behind before (named_first cpus words) (length words)

-- the processors that words name, unless there is a fault
abbrev pub turns_unless : ℕ → List (List ℕ) → Option OrderFault → Result (List CpuNo) OrderFault
turns_unless cpus words None = Ok (filter_map (turn_of cpus) words)
turns_unless cpus words (Some fault) = Err fault

-- The order of a file, for this many processors: each of its words names one of them, and they are
-- at most 16,777,216. Else its first fault: the first word that names none, or the 16,777,217th
-- turn, whichever comes first.
abbrev pub order_in : ℕ → List ℕ → Result (List CpuNo) OrderFault
order_in cpus bytes = turns_unless cpus (order_words bytes) (words_fault cpus 0 (order_words bytes))

-- these words stand behind `before`, no fault is among them, and `after` has their turns too
pub record AddsTurns (cpus : ℕ) (words : List (List ℕ)) (before after : List CpuNo) : Type 0 where
  pub fine : words_fault cpus (length before) words ≡ None
  pub turns : after ≡ before ++ filter_map (turn_of cpus) words

-- this fault is the first one, unless memory ran out
abbrev pub IsFirstFault : OrderFault → Option OrderFault → Type 0
IsFirstFault fault.NoMemory first = Unit {0}
IsFirstFault (fault.Word n) first = first ≡ Some (fault.Word n)
IsFirstFault fault.TooMany first = first ≡ Some fault.TooMany

-- what reading returned is the file's order or its first fault, unless memory ran out
abbrev pub OrderGives : Result (List CpuNo) OrderFault → Result (List CpuNo) OrderFault → Type 0
OrderGives (Ok order) read = read ≡ Ok order
OrderGives (Err fault) read = IsFirstFault fault (result_err read)

-- the printed order: a line with its number for each turn
abbrev pub turns_text : List CpuNo → List ℕ
turns_text order = flat_map (λ (cpu : CpuNo). line (decimal cpu.0)) order

-- an order that can be read, for this many processors
pub record ReadableOrder (cpus : ℕ) (order : List CpuNo) : Type 0 where
  pub below : All (λ (cpu : CpuNo). cpu.0 < cpus) order
  pub few : length order ≤ MAX_TURNS
