use Rattle.std.specs.Prelude.{ℕ, Bool, false, true, List, [], ◌∷◌, ◌++◌, Option, None, Some, ◌≡◌, ◌≢◌, ◌+◌, ◌^◌, ◌≤◌, ◌<◌, drop, max}
use Rattle.guest_base.specs.declared.memory.Block.{Block}
use Rattle.guest_base.specs.declared.memory.Units.{Units}
use Rattle.event_core.specs.declared.entry.Entry.{Entry}
use Rattle.event_core.specs.declared.entry.Place.TheVariants as place
use Rattle.event_core.specs.declared.entry.Turn.{Turn}
use Rattle.event_core.specs.declared.event.Event.{Event}
use Rattle.event_core.specs.declared.event.Event.TheVariants as event
use Rattle.event_core.specs.declared.module_call.ModuleCall.{ModuleCall}
use Rattle.event_core.specs.declared.reply.Reply.{Reply}
use Rattle.event_core.specs.declared.reply.Reply.TheVariants as reply
use Rattle.event_core.specs.Acceptance.{stop_of}
use Rattle.event_core.specs.Calls.{calls_of}
use Rattle.event_core.specs.Claims.{Claimed, claim_of}
use Rattle.event_core.specs.Legal.{greatest_stamp}
use Rattle.event_core.specs.Moved.{Moved}
use Rattle.event_core.specs.MemoryRows.{next_run, report_event, run_of_claim}
use Rattle.event_core.specs.Next.{claim_reply}
use Rattle.event_core.specs.Own.{replied}
use Rattle.event_core.specs.Units.{bit_after, guarded_units, units_end}
use Rattle.accept_sizes.specs.Ends.{stopped_at}
use Rattle.accept_sizes.specs.declared.accept.RunEnd.{RunEnd}
use Rattle.memory_core.specs.Answers.{BegunBy, IsBlocked, OthersKeep, ReportedBy}
use Rattle.memory_core.specs.Away.{MayReport}
use Rattle.memory_core.specs.Bitmaps.{AreRunsFrom}
use Rattle.memory_core.specs.Steps.{Appends, BringsTo, last_stamp}
use Rattle.memory_core.specs.Value.{MemoryValue}
use Rattle.memory_core.specs.declared.memory.Begin.{Begin}
use Rattle.memory_core.specs.declared.memory.Begin.TheVariants.{Clear, Claimed as IsClaimed, Blocked}
use Rattle.memory_core.specs.declared.memory.Reported.{Reported}
use Rattle.memory_core.specs.declared.memory.Reported.TheVariants.{Next, Closed, Stopped}
use Rattle.page_module.specs.Spans.{LieInMemory, Taken}
use Rattle.memory_core.specs.UnderLock.{unmoved}
use Rattle.guest_steps.specs.Steps.{without_reply}
use Rattle.guest_steps.specs.declared.processor.Stepped.{Stepped}
use Rattle.guest_steps.specs.declared.processor.Stepped.TheVariants as stepped
use Rattle.guest_cpu.specs.Made.{entry_at, turn_of}
use Rattle.guest_cpu.specs.Progressing.{Progressed, command_of}
use Rattle.guest_cpu.specs.Wanting.{is_alloc}

-- What a step does to a processor's course.

-- a processor of the memory's boot that has no open claim may step it: stamps are left
pub record MayStep (p : Progressed) (memory : MemoryValue) : Type 0 where
  pub same : memory.boot ≡ p.boot
  pub cpu : p.number < p.boot.cpus
  pub rests : p.out ≡ None
  pub free : claim_of p.boot memory.entries p.number ≡ None
  pub few : replied p.moved < 2 ^ 32
  pub clock : greatest_stamp p.moved < 2 ^ 64
  pub last : last_stamp memory.entries < 2 ^ 64

-- nothing changed but the room for entries
abbrev pub OnlyRoom : Progressed → Progressed → Type 0
OnlyRoom old new = (new ≡ record old { room = new.room }) × (old.room ≤ new.room)

-- an entry of the processor's present command that it makes by itself, and under the memory's lock
abbrev pub own_entry : Progressed → Reply → Moved
own_entry p told = unmoved (record {
  stamp = greatest_stamp p.moved + 1;
  cpu = record { 0 = p.number };
  cmd = replied p.moved;
  place = place.Own;
  event = event.Own;
  reply = Some told;
})

abbrev pub memory_entry : Progressed → MemoryValue → Event → Option Reply → Entry
memory_entry p memory event reply = record {
  stamp = max (greatest_stamp p.moved) (last_stamp memory.entries) + 1;
  cpu = record { 0 = p.number };
  cmd = replied p.moved;
  place = place.Memory;
  event = event;
  reply = reply;
}

-- a step of the memory made an entry with this event and this reply
pub record Adds (old new : Progressed) (before after : MemoryValue) (event : Event)
    (reply : Option Reply) : Type 0 where
  pub boot : new.boot ≡ old.boot
  pub number : new.number ≡ old.number
  pub script : new.script ≡ old.script
  pub moved : new.moved ≡ old.moved ++ unmoved (memory_entry old before event reply) ∷ []
  pub same : after.boot ≡ before.boot
  pub memory : after.entries
      ≡ before.entries ++ without_reply (memory_entry old before event reply) ∷ []
  pub others : OthersKeep before after old.number

-- the runs are those of unaccepted units among these, after the memory's entries
abbrev pub AreRunsAmong : MemoryValue → Option Units → List Units → Type 0
AreRunsAmong memory None runs = runs ≡ []
AreRunsAmong memory (Some units) runs =
    AreRunsFrom (bit_after memory.boot (calls_of memory.boot memory.entries))
    units.first (units_end units) runs

-- of runs, the first is gone on with where its pages are out in a span, and else none
abbrev pub runs_with : Option Taken → List Units → List Units
runs_with None runs = []
runs_with (Some span) runs = runs

abbrev pub first_of : List Units → Option Units
first_of [] = None
first_of (run ∷ later) = Some run

-- the course goes on behind an entry with these runs, of which the first is out in the span, if any
abbrev pub going_on : Progressed → Moved → Option Taken → List Units → ℕ → Progressed
going_on p m span runs room = record p {
  moved = p.moved ++ m ∷ [];
  out = span;
  done = None;
  runs = runs;
  room = room;
}

-- the span that a claim that isn't blocked took out, and the one with which a report goes on
abbrev pub span_of_claim : Begin → Option Taken
span_of_claim Clear = None
span_of_claim (IsClaimed span) = Some span
span_of_claim (Blocked met) = None

abbrev pub span_of_report : Reported → Option Taken
span_of_report (Next span) = Some span
span_of_report (Closed count) = None
span_of_report Stopped = None

-- the reply of a command whose claim was closed by a report: a claim for a block that wasn't
-- stopped has none
abbrev pub reply_of_report : Bool → Reported → Option Reply
reply_of_report for_block (Next span) = None
reply_of_report true (Closed count) = None
reply_of_report false (Closed count) = Some (reply.Count count)
reply_of_report for_block Stopped = Some reply.Module

-- the reply of a claim: one for a block has none
abbrev pub reply_of_claim : Option Block → Option Units → Option Reply
reply_of_claim None run = claim_reply run
reply_of_claim (Some block) run = None

abbrev pub claim_made : Turn → Option Block → Option Units → List Units → Moved
claim_made turned block units runs =
    let run = first_of runs in
    unmoved (entry_at turned place.Memory (event.Claim block units run) (reply_of_claim block run))

-- units were claimed, of which these are the unaccepted runs
pub record ClaimMade (old new : Progressed) (before after : MemoryValue) (block : Option Block)
    (units : Option Units) (span : Option Taken) (runs : List Units) (ended : Stepped)
    : Type 0 where
  pub is : ended ≡ stepped.Event
  pub turned : Turn
  pub appends :
      Appends before after (turn_of old.number old.moved) turned
      (event.Claim block units (run_of_claim before.boot before.entries units))
  pub course : new ≡ going_on old (claim_made turned block units (runs_with span runs)) span
      (runs_with span runs) new.room

-- a claim was begun: it is blocked, or made
pub record Begins (old new : Progressed) (before after : MemoryValue) (start len : ℕ)
    (runs : List Units) (ended : Stepped) : Type 0 where
  pub begin : Begin
  pub begun : BegunBy before after (turn_of old.number old.moved)
      (guarded_units before.boot start len) begin
  pub blocked : IsBlocked begin
      → (ended ≡ stepped.Blocked) × (new ≡ old) × (after ≡ before)
  pub made : ¬ IsBlocked begin → ClaimMade old new before after None
      (guarded_units before.boot start len) (span_of_claim begin) runs ended
  pub others : OthersKeep before after old.number

-- a claim's run may be reported: calls were made for the span that is out
pub record Reportable (p : Progressed) (memory : MemoryValue) : Type 0 where
  pub span : Taken
  pub out : p.out ≡ Some span
  pub calls : List ModuleCall
  pub end : RunEnd
  pub done : p.done ≡ Some (record { calls = calls; end = end })
  pub few : replied p.moved < 2 ^ 32
  pub may : MayReport memory (turn_of p.number p.moved) span calls end
  pub next : (run : Units) → next_run memory.boot may.claim (stop_of calls) ≡ Some run
      → drop 1 p.runs ≢ []

-- the open run of a claim was reported, with the calls that were made for it
pub record Reports (old new : Progressed) (before after : MemoryValue) (claim : Claimed)
    (calls : List ModuleCall) (end : RunEnd) : Type 0 where
  pub span : Taken
  pub out : old.out ≡ Some span
  pub low : LieInMemory span.ticket.pages
  pub brings : BringsTo before.boot (calls_of before.boot before.entries) claim.run span calls end
  pub run : Units
  pub first : old.runs ≡ run ∷ drop 1 old.runs
  pub turned : Turn
  pub appends : Appends before after (turn_of old.number old.moved) turned
      (report_event before.boot claim calls)
  pub reported : Reported
  pub by : ReportedBy before after (turn_of old.number old.moved) claim calls reported
  pub course :
      let span = span_of_report reported in
      let later = runs_with span (drop 1 old.runs) in
      let event = event.Report run calls (stopped_at end) (first_of later) in
      let reply = reply_of_report (is_alloc (command_of old)) reported in
      new ≡ going_on old (unmoved (entry_at turned place.Memory event reply)) span later new.room
  pub others : OthersKeep before after old.number
