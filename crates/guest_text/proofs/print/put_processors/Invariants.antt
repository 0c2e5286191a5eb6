use Rattle.std.proofs.Common.{◌≡◌, ◌-◌, ◌≤◌, map}
use Rattle.guest_io.specs.Writing.{appended}
use Rattle.event_core.specs.Turns.{numbers_from}
use Rattle.event_core.specs.Texts.{processors_text}
use Rattle.event_core.specs.Printed.{replies_of_cpu}
use Rattle.guest_text.proofs.PrintLemmas.{Sent}
use Rattle.guest_text.proofs.print.put_processors.Given as goal

-- what is written, and the sections that are left
abbrev pub invariant-loop-cpu : goal.invariant-loop-cpu
invariant-loop-cpu g l = record {
  cut : Sent (g.K.Sink.written l.fn.out) (g.K.Sink.written l.out) (processors_text l.cpu (map (replies_of_cpu l.entries) (numbers_from l.cpu (l.cpus - l.cpu)))) (processors_text 0 (map (replies_of_cpu l.entries) (numbers_from 0 l.cpus)));
  text : appended (g.K.Sink.written l.out) (processors_text l.cpu (map (replies_of_cpu l.entries) (numbers_from l.cpu (l.cpus - l.cpu)))) ≡ appended (g.K.Sink.written l.fn.out) (processors_text 0 (map (replies_of_cpu l.entries) (numbers_from 0 l.cpus)));
  faults : g.K.Sink.faults l.fn.out ≤ g.K.Sink.faults l.out;
}
