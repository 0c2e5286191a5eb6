use Rattle.std.proofs.Common.{◌≡◌, ℕ, Option, None, Some, List, [], ◌∷◌, ◌++◌, sym, ◌∙◌, ap, subst}
use Rattle.std.specs.Prelude.{drop}
use Rattle.guest_base.specs.declared.memory.Page.{Page}
use Rattle.guest_base.specs.declared.memory.Units.{Units}
use Rattle.event_core.specs.declared.entry.Entry.{Entry}
use Rattle.event_core.specs.declared.entry.Turn.{Turn}
use Rattle.event_core.specs.declared.event.Event.{Event}
use Rattle.event_core.specs.declared.event.Event.TheVariants as event
use Rattle.event_core.specs.declared.module_call.ModuleCall.{ModuleCall}
use Rattle.event_core.specs.declared.reply.Reply.{Reply}
use Rattle.event_core.specs.Calls.{calls_of}
use Rattle.event_core.specs.Claims.{Claimed, claim_of}
use Rattle.event_core.specs.MemoryRows.{report_event}
use Rattle.accept_sizes.specs.Ends.{stopped_at}
use Rattle.accept_sizes.specs.declared.accept.RunEnd.{RunEnd}
use Rattle.memory_core.specs.Answers.{OthersKeep, ReportedBy}
use Rattle.memory_core.specs.Steps.{Appends, BringsTo}
use Rattle.memory_core.specs.Value.{MemoryValue}
use Rattle.memory_core.specs.declared.memory.Reported.{Reported}
use Rattle.page_module.specs.Spans.{Taken}
use Rattle.guest_steps.specs.Seen.{Accepted}
use Rattle.guest_cpu.specs.declared.progress.OpenRun.{OpenRun}
use Rattle.guest_cpu.specs.declared.progress.RunRoom.{RunRoom}
use Rattle.guest_cpu.specs.declared.runs.Worked.{Worked}
use Rattle.guest_cpu.specs.Kept.{OpensFirst, TellsWorked, done_of, out_of, runs_in, runs_of}
use Rattle.guest_cpu.specs.Made.{entry_at, turn_of}
use Rattle.guest_cpu.specs.Progressing.{Progressed, command_of}
use Rattle.guest_cpu.specs.Stepping.{Reports, first_of, going_on, reply_of_report, runs_with, span_of_report}
use Rattle.guest_cpu.specs.Wanting.{is_alloc}
use Rattle.event_core.specs.declared.entry.Place.TheVariants as place
use Rattle.memory_core.specs.UnderLock.{unmoved}
use Rattle.event_core.specs.Moved.{Moved}

-- What a report makes of a processor's course.

-- what is seen of the run that is opened
record Opened (span : Option Taken) (rooms : List RunRoom) (open_run : Option OpenRun) (later : List RunRoom) (run : Option Units) : Type 0 where
  out : out_of open_run ≡ span
  done : done_of open_run ≡ None
  runs : runs_of open_run later ≡ runs_with span (runs_in rooms)
  first : run ≡ first_of (runs_with span (runs_in rooms))

opens-seen : (span : Option Taken) (rooms : List RunRoom) (open_run : Option OpenRun) (later : List RunRoom) (run : Option Units) → OpensFirst span rooms open_run later run → Opened span rooms open_run later run
opens-seen None rooms open_run later run opens = record {
  out = ap out_of opens.0;
  done = ap done_of opens.0;
  runs = ap (λ (o : Option OpenRun). runs_of o later) opens.0 ∙ ap runs_in opens.1;
  first = opens.2;
}
opens-seen (Some span) [] open_run later run opens = absurd opens
opens-seen (Some span) (room ∷ rooms) open_run later run opens = record {
  out = ap out_of opens.0;
  done = ap done_of opens.0;
  runs = ap (λ (o : Option OpenRun). runs_of o later) opens.0 ∙ ap (λ (rs : List RunRoom). room.run ∷ runs_in rs) opens.1;
  first = opens.2;
}

-- the same, told apart
abbrev pub calls_told : Option Accepted → List ModuleCall
calls_told None = []
calls_told (Some accepted) = accepted.calls

abbrev pub end_told : RunEnd → Option Accepted → RunEnd
end_told end None = end
end_told end (Some accepted) = accepted.end

-- the course behind a report
abbrev reported_as : Progressed → Turn → Units → List ModuleCall → Option Page → Option Units → Option Reply → Option Taken → List Units → ℕ → Progressed
reported_as p turned run calls stopped next reply span runs room = going_on p (unmoved (entry_at turned place.Memory (event.Report run calls stopped next) reply)) span runs room

abbrev seen_as : Progressed → List Moved → Option Taken → Option Accepted → List Units → ℕ → Progressed
seen_as p moved out done runs room = record p { moved = moved; out = out; done = done; runs = runs; room = room }

module _ (p : Progressed) (open_run : Option OpenRun) (later : List RunRoom) (w : Worked) (before after : MemoryValue) (turn turned : Turn) (reported : Reported) (span : Option Taken) (reply : Option Reply)
    (opened : Option OpenRun) (rest : List RunRoom) (next : Option Units) (stopped : Option Page) (moved : List Moved) (room : ℕ) where
  report-course : p.runs ≡ runs_of open_run later → TellsWorked open_run w → span ≡ span_of_report reported → reply ≡ reply_of_report (is_alloc (command_of p)) reported → OpensFirst span later opened rest next → stopped ≡ stopped_at w.end
      → moved ≡ p.moved ++ unmoved (entry_at turned place.Memory (event.Report w.run w.copy stopped next) reply) ∷ []
      → seen_as p moved (out_of opened) (done_of opened) (runs_of opened rest) room
      ≡ reported_as p turned w.run w.calls (stopped_at w.end) (first_of (runs_with (span_of_report reported) (drop 1 p.runs))) (reply_of_report (is_alloc (command_of p)) reported) (span_of_report reported) (runs_with (span_of_report reported) (drop 1 p.runs)) room
  report-course has_runs tells is_span is_reply opens is_stopped made =
      let o = opens-seen span later opened rest next opens in
      let behind : runs_in later ≡ drop 1 p.runs = sym (ap (drop 1) (has_runs ∙ tells.runs later)) in
      let runs : runs_with span (runs_in later) ≡ runs_with (span_of_report reported) (drop 1 p.runs) = ap (λ (s : Option Taken). runs_with s (runs_in later)) is_span ∙ ap (runs_with (span_of_report reported)) behind in
      let told : event.Report w.run w.copy stopped next ≡ event.Report w.run w.calls (stopped_at w.end) (first_of (runs_with (span_of_report reported) (drop 1 p.runs))) =
      ap (λ (cs : List ModuleCall). event.Report w.run cs stopped next) tells.copy ∙ ap (λ (s : Option Page). event.Report w.run w.calls s next) is_stopped ∙ ap (event.Report w.run w.calls (stopped_at w.end)) (o.first ∙ ap first_of runs) in
      let entry : entry_at turned place.Memory (event.Report w.run w.copy stopped next) reply ≡ entry_at turned place.Memory (event.Report w.run w.calls (stopped_at w.end) (first_of (runs_with (span_of_report reported) (drop 1 p.runs)))) (reply_of_report (is_alloc (command_of p)) reported) =
      ap (λ (e : Event). entry_at turned place.Memory e reply) told ∙ ap (λ (r : Option Reply). entry_at turned place.Memory (event.Report w.run w.calls (stopped_at w.end) (first_of (runs_with (span_of_report reported) (drop 1 p.runs)))) r) is_reply in
      let list = made ∙ ap (λ (e : Entry). p.moved ++ unmoved e ∷ []) entry in
      ap (λ (ms : List Moved). seen_as p ms (out_of opened) (done_of opened) (runs_of opened rest) room) list
      ∙ ap (λ (s : Option Taken). seen_as p (p.moved ++ unmoved (entry_at turned place.Memory (event.Report w.run w.calls (stopped_at w.end) (first_of (runs_with (span_of_report reported) (drop 1 p.runs)))) (reply_of_report (is_alloc (command_of p)) reported)) ∷ []) s (done_of opened) (runs_of opened rest) room) (o.out ∙ is_span)
      ∙ ap (λ (d : Option Accepted). seen_as p (p.moved ++ unmoved (entry_at turned place.Memory (event.Report w.run w.calls (stopped_at w.end) (first_of (runs_with (span_of_report reported) (drop 1 p.runs)))) (reply_of_report (is_alloc (command_of p)) reported)) ∷ []) (span_of_report reported) d (runs_of opened rest) room) o.done
      ∙ ap (λ (rs : List Units). seen_as p (p.moved ++ unmoved (entry_at turned place.Memory (event.Report w.run w.calls (stopped_at w.end) (first_of (runs_with (span_of_report reported) (drop 1 p.runs)))) (reply_of_report (is_alloc (command_of p)) reported)) ∷ []) (span_of_report reported) None rs room) (o.runs ∙ runs)

  pub reports-made : p.out ≡ out_of open_run → p.done ≡ done_of open_run → p.runs ≡ runs_of open_run later → TellsWorked open_run w → turn ≡ turn_of p.number p.moved
      → ((claim : Claimed) → claim_of before.boot before.entries turn.cpu.0 ≡ Some claim → ReportedBy before after turn claim w.calls reported)
      → ((claim : Claimed) → claim_of before.boot before.entries turn.cpu.0 ≡ Some claim → Appends before after turn turned (report_event before.boot claim w.calls))
      → ((claim : Claimed) → claim_of before.boot before.entries turn.cpu.0 ≡ Some claim → BringsTo before.boot (calls_of before.boot before.entries) claim.run w.span w.calls w.end)
      → OthersKeep before after turn.cpu.0
      → span ≡ span_of_report reported → reply ≡ reply_of_report (is_alloc (command_of p)) reported → OpensFirst span later opened rest next → stopped ≡ stopped_at w.end
      → moved ≡ p.moved ++ unmoved (entry_at turned place.Memory (event.Report w.run w.copy stopped next) reply) ∷ []
      → (calls : List ModuleCall) (end : RunEnd) → (let d : Option Accepted = Some (record { calls = calls; end = end }) in p.done ≡ d) → (claim : Claimed) → claim_of before.boot before.entries p.number ≡ Some claim
      → Reports p (seen_as p moved (out_of opened) (done_of opened) (runs_of opened rest) room) before after claim calls end
  reports-made is_out is_done has_runs tells is_turn by appends brings others is_span is_reply opens is_stopped made calls end done claim claimed =
      let both = sym tells.done ∙ sym is_done ∙ done in
      let same : w.calls ≡ calls = ap calls_told both in
      let same_end : w.end ≡ end = ap (end_told end) both in
      let new = seen_as p moved (out_of opened) (done_of opened) (runs_of opened rest) room in
      let C : List ModuleCall → Type 0 = λ cs. Reports p new before after claim cs end in
      let E : RunEnd → Type 0 = λ e. Reports p new before after claim w.calls e in
      let B : Turn → Type 0 = λ t. ReportedBy before after t claim w.calls reported in
      let A : Turn → Type 0 = λ t. Appends before after t turned (report_event before.boot claim w.calls) in
      let O : Turn → Type 0 = λ t. OthersKeep before after t.cpu.0 in
      let at : claim_of before.boot before.entries turn.cpu.0 ≡ Some claim = ap (λ (t : Turn). claim_of before.boot before.entries t.cpu.0) is_turn ∙ claimed in
      subst C same (subst E same_end (record {
        span = w.span;
        out = is_out ∙ tells.out;
        low = tells.low;
        brings = brings claim at;
        run = w.run;
        first = has_runs ∙ tells.runs later ∙ ap (λ (rs : List Units). w.run ∷ rs) (sym (ap (drop 1) (has_runs ∙ tells.runs later)));
        turned = turned;
        appends = subst A is_turn (appends claim at);
        reported = reported;
        by = subst B is_turn (by claim at);
        course = report-course has_runs tells is_span is_reply opens is_stopped made;
        others = subst O is_turn others;
      }))
