use Rattle.std.specs.Prelude.{ℕ, ◌+◌, ◌*◌, ◌/◌, ◌%◌, true, false, List, [], ◌∷◌, ◌++◌, codes, Option, None, Some}
use Rattle.std.specs.List.{flat_map}
use Rattle.std.specs.Fmt.{decimal, digits, digit_glyph}
use Rattle.guest_base.specs.declared.limits.TheConstants.{PAGE_BYTES}
use Rattle.guest_base.specs.declared.memory.PageState.{PageState}
use Rattle.guest_base.specs.declared.memory.PageState.TheVariants.{Pending, Accepted, Shared}
use Rattle.guest_base.specs.declared.memory.PageRun.{PageRun}
use Rattle.event_core.specs.declared.reply.Found.{Found}
use Rattle.event_core.specs.declared.reply.Found.TheVariants as found
use Rattle.event_core.specs.declared.reply.Reply.{Reply}
use Rattle.event_core.specs.declared.reply.Reply.TheVariants as reply

-- a line, ended by its line feed
abbrev pub line : List ℕ → List ℕ
line text = text ++ 10 ∷ []

-- an address: 0x and lower case hexadecimal digits without leading zeros
abbrev pub address_text : ℕ → List ℕ
address_text n = codes "0x" ++ digits 16 false n

-- bytes: two lower case hexadecimal digits for each
abbrev pub hex_text : List ℕ → List ℕ
hex_text [] = []
hex_text (b ∷ bs) = digit_glyph false (b / 16) ∷ digit_glyph false (b % 16) ∷ hex_text bs

-- what stands in the page after a block, behind a space, where a load was answered it
abbrev pub found_text : Option Found → List ℕ
found_text None = []
found_text (Some found.Accepted) = codes " accepted"
found_text (Some found.Shared) = codes " shared"
found_text (Some found.Absent) = codes " absent"
found_text (Some found.Outside) = codes " outside"

-- the printed text of a reply (own rule)
abbrev pub reply_text : Reply → List ℕ
reply_text reply.Done = codes "ok"
reply_text (reply.Addr address) = codes "ok " ++ address_text address
reply_text (reply.Count units) = codes "ok " ++ decimal units
reply_text (reply.Hex bytes) = codes "ok " ++ hex_text bytes
reply_text (reply.Loaded bytes after) = codes "ok " ++ hex_text bytes ++ found_text after
reply_text (reply.Query true) = codes "ok unaccepted"
reply_text (reply.Query false) = codes "ok accepted"
reply_text reply.NoBlock = codes "noblock"
reply_text reply.Unknown = codes "unknown"
reply_text reply.Taken = codes "taken"
reply_text reply.Range = codes "range"
reply_text reply.IsShared = codes "shared"
reply_text reply.IsPrivate = codes "private"
reply_text reply.Half = codes "half"
reply_text reply.Mapped = codes "mapped"
reply_text reply.TooLong = codes "toolong"
reply_text reply.Zero = codes "zero"
reply_text reply.Full = codes "full"
reply_text reply.NoPool = codes "nopool"
reply_text reply.Small = codes "small"
reply_text reply.NoUnit = codes "nounit"
reply_text reply.Module = codes "module"

-- a page's state
abbrev pub state_text : PageState → List ℕ
state_text Pending = codes "pending"
state_text Accepted = codes "accepted"
state_text Shared = codes "shared"

-- the replies, a line for each, numbered from k on
abbrev pub replies_text : ℕ → List Reply → List ℕ
replies_text k [] = []
replies_text k (reply ∷ replies) = line (decimal k ++ codes " " ++ reply_text reply) ++ replies_text (k + 1) replies

-- the section of a processor: its number, and its replies numbered from 1 on
abbrev pub processor_text : ℕ → List Reply → List ℕ
processor_text cpu replies = line (codes "cpu " ++ decimal cpu) ++ replies_text 1 replies

-- the sections of the processors from the number cpu on
abbrev pub processors_text : ℕ → List (List Reply) → List ℕ
processors_text cpu [] = []
processors_text cpu (replies ∷ others) = processor_text cpu replies ++ processors_text (cpu + 1) others

-- a run of pages: its first address, the first address after it, and its state
abbrev pub page_run_text : PageRun → List ℕ
page_run_text run = line (address_text (PAGE_BYTES * run.pages.first) ++ codes "-" ++ address_text (PAGE_BYTES * (run.pages.first + run.pages.count)) ++ codes " " ++ state_text run.state)

-- the section of the pages
abbrev pub pages_text : List PageRun → List ℕ
pages_text runs = line (codes "pages") ++ flat_map page_run_text runs

-- the section of the order: the processor of each entry, where it is asked for
abbrev pub order_text : Option (List ℕ) → List ℕ
order_text None = []
order_text (Some cpus) = line (codes "order") ++ flat_map (λ cpu. line (decimal cpu)) cpus

-- the last line
abbrev pub end_text : List ℕ
end_text = line (codes "end")

-- the printed text of a run: the processors from 0 on with their replies, the runs of pages of one state, the order where it is asked for, and the end (own rule)
abbrev pub run_text : List (List Reply) → List PageRun → Option (List ℕ) → List ℕ
run_text replies runs order = processors_text 0 replies ++ pages_text runs ++ order_text order ++ end_text
