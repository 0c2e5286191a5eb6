use Rattle.std.specs.Prelude.{ℕ, List, Option, None, Some, Bool, true, false, ◌≡◌, ◌==◌, ◌≤◌, All, map, filter, filter_map}
use Rattle.guest_base.specs.declared.limits.TheConstants.{PAGE_END}
use Rattle.guest_base.specs.declared.memory.PageRun.{PageRun}
use Rattle.event_core.specs.declared.boot.Boot.{Boot}
use Rattle.event_core.specs.declared.boot.Recorded.{Recorded}
use Rattle.event_core.specs.declared.reply.Reply.{Reply}
use Rattle.event_core.specs.declared.entry.Entry.{Entry}
use Rattle.event_core.specs.Calls.{calls_of}
use Rattle.event_core.specs.Runs.{AreMaximalRuns, run_end}
use Rattle.event_core.specs.MemoryRows.{page_state}
use Rattle.event_core.specs.Turns.{numbers_from}
use Rattle.event_core.specs.Texts.{run_text}

-- the replies of a processor, in its order
abbrev pub replies_of_cpu : List Entry → ℕ → List Reply
replies_of_cpu entries cpu = filter_map (λ (e : Entry). e.reply) (filter (λ (e : Entry). e.cpu.0 == cpu) entries)

-- the replies of each processor
abbrev pub replies_by_processor : Boot → List Entry → List (List Reply)
replies_by_processor boot entries = map (replies_of_cpu entries) (numbers_from 0 boot.cpus)

-- the processor of each entry, where the order is asked for
abbrev pub order_asked : Bool → List Entry → Option (List ℕ)
order_asked false entries = None
order_asked true entries = Some (map (λ (e : Entry). e.cpu.0) entries)

-- A text is the printed text of a run: the replies of each processor, and the maximal runs of pages by their states after all
-- entries; the processors of the entries in their order, where that is asked for.
pub record Printed (boot : Boot) (entries : List Entry) (ordered : Bool) (text : List ℕ) : Type 0 where
  pub runs : List PageRun
  pub maximal : AreMaximalRuns (page_state boot (calls_of boot entries)) runs
  pub same : text ≡ run_text (replies_by_processor boot entries) runs (order_asked ordered entries)

-- the runs end within memory, which has 2^28 pages
abbrev pub EndInMemory : List PageRun → Type 0
EndInMemory runs = All (λ (run : PageRun). run_end run ≤ PAGE_END) runs

-- the final runs of pages: the maximal runs by their states after all entries, which end in memory
pub record FinalRuns (r : Recorded) (runs : List PageRun) : Type 0 where
  pub maximal : AreMaximalRuns (page_state r.boot (calls_of r.boot r.entries)) runs
  pub within : EndInMemory runs
