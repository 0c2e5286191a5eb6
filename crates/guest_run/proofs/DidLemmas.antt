use Rattle.std.proofs.Common.{◌≡◌, ℕ, List, [], Option, None, Some, sym, subst, inl, inr}
use Rattle.std.specs.Prelude.{Result, Ok, Err, IfOk, IfErr, IfSome}
use Rattle.guest_base.specs.declared.memory.PageRun.{PageRun}
use Rattle.event_core.specs.declared.boot.Recorded.{Recorded}
use Rattle.guest_words.specs.Words.{Named}
use Rattle.guest_input.specs.Asked.{Asks}
use Rattle.guest_input.specs.Stops.{words_line}
use Rattle.guest_input.specs.declared.stop.Stop.{Stop}
use Rattle.guest_text.specs.Putting.{Putting}
use Rattle.guest_runs.specs.Asking.{PortsKept, Unasked}
use Rattle.guest_run.specs.declared.program.Ended.{Ended}
use Rattle.guest_run.specs.Did.{Did}
use Rattle.guest_run.specs.Ends.{cpus_of, Outside, RunEnds}
use Rattle.guest_run.specs.Ends.Ending.{Unmatched, Stops, Runs}
use Rattle.guest_run.specs.Ran.{Ran, RunOf}
use Rattle.guest_run.specs.Stopping.{EndsWith, StopEnds}
use Rattle.guest_run.proofs.EndLemmas.{ends_of}
use Rattle.guest_run.proofs.RoomLemmas.{room_of_run}

-- What the program did.

-- a run that the arguments ask for
abbrev IsAsked : {P : Type 0} → Outside P → Option Named → Recorded → Type 0
IsAsked o arguments r = (named : Named) × (arguments ≡ Some named) × RunOf o.files.holds o.ports named r

-- it ran, or stopped before that
pub did_run : {P : Type 0} (o : Outside P) (arguments : Option Named) (named : Named) (result : Result (Recorded × List PageRun) Stop) (ended : Ended) → arguments ≡ Some named → Ran o.files o.ports named result → IfOk result (λ r. RunEnds o.out r.0 ended) → IfErr result (λ stop. (ended.run ≡ None) × StopEnds o.out named stop ended) → Did o arguments ended
did_run o arguments named (Ok r) ended is ran ends stops = record {
  run = subst (λ run. IfSome run (IsAsked o arguments)) (sym ends.0) (named, is, ran.run);
  ends = ends_of o arguments ended (subst (λ a. PortsKept (cpus_of a) o.ports) (sym is) ran.kept) (Runs named r.0 is ran.good (room_of_run o.files.holds o.ports named r.0 ran.run) ran.asked ends);
}
did_run o arguments named (Err stop) ended is ran ends stops = record {
  run = subst (λ run. IfSome run (IsAsked o arguments)) (sym stops.0) tt;
  ends = ends_of o arguments ended (subst (λ a. PortsKept (cpus_of a) o.ports) (sym is) ran.kept) (Stops named stop is ran.stop stops.1);
}

-- a line that is put ends without a run
without_run : (out : Putting) (line : List ℕ) (status : ℕ) (ended : Ended) → EndsWith out line status ended → ended.run ≡ None
without_run out line status ended (inl put) = put.0.1
without_run out line status ended (inr (inl cut)) = cut.0.1
without_run out line status ended (inr (inr none)) = none.0.1

-- it refused its arguments
pub did_refuse : {P : Type 0} (o : Outside P) (arguments : Option Named) (ended : Ended) → arguments ≡ None → Asks [] o.files → Unasked o.ports → PortsKept 0 o.ports → EndsWith o.out words_line 2 ended → Did o arguments ended
did_refuse o arguments ended none asks unasked kept ends = record {
  run = subst (λ run. IfSome run (IsAsked o arguments)) (sym (without_run o.out words_line 2 ended ends)) tt;
  ends = ends_of o arguments ended (subst (λ a. PortsKept (cpus_of a) o.ports) (sym none) kept) (Unmatched none asks unasked ends);
}
