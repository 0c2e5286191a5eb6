use Rattle.std.specs.Prelude.{ℕ, List, [], ◌∷◌, Option, None, Some, ◌≡◌, ◌<◌, ◌≤◌, All, length, map}
use Rattle.std.specs.Option.{ForSome}
use Rattle.guest_base.specs.declared.memory.HostRun.{HostRun}
use Rattle.guest_base.specs.declared.memory.Units.{Units}
use Rattle.event_core.specs.declared.boot.Boot.{Boot}
use Rattle.event_core.specs.declared.command.Command.{Command}
use Rattle.event_core.specs.declared.module_call.ModuleCall.{ModuleCall}
use Rattle.event_core.specs.MemoryRows.{pages_count}
use Rattle.event_core.specs.Own.{own_of}
use Rattle.event_core.specs.ReadableScript.{ReadableScript}
use Rattle.block_laws.specs.Unconverting.{ConvertsNothing}
use Rattle.dma_map.specs.Pools.{HasPool, IsLayout}
use Rattle.dma_map.specs.declared.pool.Layout.{Layout}
use Rattle.held_blocks.specs.Holdings.{HoldingsValue, own_in as own_held}
use Rattle.page_module.specs.Spans.{LieInMemory, Taken}
use Rattle.accept_sizes.specs.declared.accept.RunEnd.{RunEnd}
use Rattle.accept_sizes.specs.Room.{most_calls_of}
use Rattle.guest_steps.specs.Seen.{Accepted}
use Rattle.guest_cpu.specs.Made.{Made}
use Rattle.guest_cpu.specs.declared.progress.OpenRun.{OpenRun}
use Rattle.guest_cpu.specs.declared.progress.RunRoom.{RunRoom}
use Rattle.guest_cpu.specs.declared.runs.Worked.{Worked}

-- What a processor keeps between its steps, and what it stands for.

-- the span that is out, and what was done for it
abbrev pub out_of : Option OpenRun → Option Taken
out_of None = None
out_of (Some open_run) = Some open_run.span

abbrev pub done_by : List ModuleCall → Option RunEnd → Option Accepted
done_by calls None = None
done_by calls (Some end) = Some (record { calls = calls; end = end })

abbrev pub done_of : Option OpenRun → Option Accepted
done_of None = None
done_of (Some open_run) = done_by open_run.room.log.calls open_run.end

-- the runs that there is room for
abbrev pub runs_in : List RunRoom → List Units
runs_in rooms = map (λ (r : RunRoom). r.run) rooms

-- the claim's runs, from the one that is out on
abbrev pub runs_of : Option OpenRun → List RunRoom → List Units
runs_of None later = runs_in later
runs_of (Some open_run) later = open_run.room.run ∷ runs_in later

-- the most calls that the acceptance of a run of units makes
abbrev pub most_of : Boot → Units → ℕ
most_of boot run = most_calls_of (pages_count boot run)

-- there is room for the calls of a run, and for a copy of them
pub record HasRoom (boot : Boot) (room : RunRoom) : Type 0 where
  pub unnoted : room.log.calls ≡ []
  pub log : most_of boot room.run ≤ room.log.room
  pub uncopied : room.copy.calls ≡ []
  pub copy : most_of boot room.run ≤ room.copy.room

-- the calls that were made for the run that is out can be copied; before they are made there is
-- room for them
pub record OpenHasRoom (boot : Boot) (open_run : OpenRun) : Type 0 where
  pub few : length open_run.room.log.calls ≤ most_of boot open_run.room.run
  pub uncopied : open_run.room.copy.calls ≡ []
  pub copy : most_of boot open_run.room.run ≤ open_run.room.copy.room
  pub unworked : open_run.end ≡ None → HasRoom boot open_run.room

abbrev pub RoomOf : Boot → Option OpenRun → Type 0
RoomOf boot None = Unit {0}
RoomOf boot (Some open_run) = OpenHasRoom boot open_run

-- nothing is kept for runs where none is out
abbrev pub RestsBare : Option OpenRun → List RunRoom → Type 0
RestsBare None later = later ≡ []
RestsBare (Some open_run) later = Unit {0}

-- the looks for the present mapping are fewer than the areas
abbrev pub HasFewLooks : HoldingsValue → Type 0
HasFewLooks held = ForSome held.layout (λ (l : Layout). held.looks < l.areas)

-- What a processor keeps: the host records and the layout of the pool of its boot, what its entries
-- tell that it has, and room for the reports of the runs of its claim.
pub record Keeps (boot : Boot) (hosts : List HostRun) (script : List Command) (made : Made)
    (held : HoldingsValue) (open_run : Option OpenRun) (later : List RunRoom) : Type 0 where
  pub same_hosts : hosts ≡ boot.hosts
  pub pool : HasPool boot held.layout
  pub laid_out : ForSome held.layout IsLayout
  pub looks : HasFewLooks held
  pub unconverting : All ConvertsNothing script
  pub readable : ReadableScript script
  pub holds : own_of script made.moved ≡ own_held held
  pub reports : length (runs_of open_run later) ≤ made.room
  pub rooms : All (HasRoom boot) later
  pub room : RoomOf boot open_run
  pub rests : RestsBare open_run later

-- The first of the rooms is opened with the span, and its run told. Without a span no room is kept.
abbrev pub OpensFirst : Option Taken → List RunRoom → Option OpenRun → List RunRoom → Option Units
    → Type 0
OpensFirst None rooms open_run later run = (open_run ≡ None) × (later ≡ []) × (run ≡ None)
OpensFirst (Some span) [] open_run later run = ⊥
OpensFirst (Some span) (room ∷ rooms) open_run later run =
    (open_run ≡ Some (record { span = span; room = room; end = None }))
    × (later ≡ rooms) × (run ≡ Some room.run)

-- an open run that was worked on: its run, its span, its calls twice, and its end
pub record TellsWorked (open_run : Option OpenRun) (worked : Worked) : Type 0 where
  pub out : out_of open_run ≡ Some worked.span
  pub low : LieInMemory worked.span.ticket.pages
  pub done : done_of open_run ≡ Some (record { calls = worked.calls; end = worked.end })
  pub runs : (later : List RunRoom) → runs_of open_run later ≡ worked.run ∷ runs_in later
  pub copy : worked.copy ≡ worked.calls
