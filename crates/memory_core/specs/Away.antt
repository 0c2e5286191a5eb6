-- What stays of a processor's open claim while others step the memory (own rule).
use Rattle.std.specs.Prelude.{ℕ, List, ◌++◌, Some, true, ◌≡◌, ◌≢◌, ◌^◌, ◌≤◌, All, IfSome, max}
use Rattle.guest_base.specs.Ranges.{in_range}
use Rattle.event_core.specs.declared.boot.Boot.{Boot}
use Rattle.event_core.specs.declared.entry.Entry.{Entry}
use Rattle.event_core.specs.declared.entry.Turn.{Turn}
use Rattle.event_core.specs.declared.module_call.ModuleCall.{ModuleCall}
use Rattle.event_core.specs.Calls.{calls_of}
use Rattle.event_core.specs.Claims.{Claimed, claim_of}
use Rattle.event_core.specs.Locally.{Rising}
use Rattle.event_core.specs.MemoryRows.{page_state, pages_first, pages_count}
use Rattle.page_module.specs.Spans.{Taken}
use Rattle.accept_sizes.specs.declared.accept.RunEnd.{RunEnd}
use Rattle.memory_core.specs.Steps.{BringsTo, last_stamp}
use Rattle.memory_core.specs.Value.{MemoryValue, handed_to}
use Rattle.memory_core.specs.Waiting.{waiting_left}

-- entries that other processors made
abbrev pub NoneOf : ℕ → List Entry → Type 0
NoneOf cpu entries = All (λ (e : Entry). e.cpu.0 ≢ cpu) entries

-- entries of other processors leave the states of the pages of a processor's open run
abbrev pub RunsKeep : Boot → List Entry → Type 0
RunsKeep boot entries =
    (cpu : ℕ) (claim : Claimed) (before rest : List Entry) (page : ℕ)
    → claim_of boot entries cpu ≡ Some claim → entries ≡ before ++ rest → NoneOf cpu rest
    → in_range (pages_first boot claim.run) (pages_count boot claim.run) page ≡ true
    → page_state boot (calls_of boot before) page ≡ page_state boot (calls_of boot entries) page

-- no step makes more blocks wait
abbrev pub WaitingFalls : Boot → List Entry → Type 0
WaitingFalls boot entries =
    (before rest : List Entry) → entries ≡ before ++ rest
    → waiting_left boot entries ≤ waiting_left boot before

-- What a memory's entries keep: they rise, those of other processors leave the pages of an open
-- run, and none makes more blocks wait.
pub record Steady (boot : Boot) (entries : List Entry) : Type 0 where
  pub rising : Rising entries
  pub runs_keep : RunsKeep boot entries
  pub waiting : WaitingFalls boot entries

-- calls brought the span of an open run from the states in which the memory handed it out, and no
-- entry since is the processor's
pub record BringsSince (memory : MemoryValue) (cpu : ℕ) (claim : Claimed) (span : Taken)
    (calls : List ModuleCall) (end : RunEnd) : Type 0 where
  pub before : List Entry
  pub rest : List Entry
  pub split : memory.entries ≡ before ++ rest
  pub others : NoneOf cpu rest
  pub brings : BringsTo memory.boot (calls_of memory.boot before) claim.run span calls end

-- a processor may report its open run: the span is the one that is out for it, calls brought it to
-- its states, and stamps are left for the claim
pub record MayReport (memory : MemoryValue) (turn : Turn) (span : Taken) (calls : List ModuleCall)
    (end : RunEnd) : Type 0 where
  pub claim : Claimed
  pub claimed : claim_of memory.boot memory.entries turn.cpu.0 ≡ Some claim
  pub out : IfSome (handed_to memory turn.cpu.0) (λ h. h.ticket ≡ span.ticket)
  pub brings : BringsSince memory turn.cpu.0 claim span calls end
  pub clock : turn.clock ≤ max (2 ^ 64) (last_stamp memory.entries)

-- a processor finds the memory as it left it, but for the entries of others: its claim is the same,
-- and so is what is out for it, with the room for its end. No more blocks wait.
pub record FoundAgain (cpu : ℕ) (left found : MemoryValue) : Type 0 where
  pub boot : found.boot ≡ left.boot
  pub rest : List Entry
  pub longer : found.entries ≡ left.entries ++ rest
  pub others : NoneOf cpu rest
  pub claim : claim_of found.boot found.entries cpu ≡ claim_of left.boot left.entries cpu
  pub handed : handed_to found cpu ≡ handed_to left cpu
  pub waiting : waiting_left left.boot found.entries ≤ waiting_left left.boot left.entries
