use Rattle.std.proofs.Common.{◌≡◌, ◌∙◌, ap, arith, subst, ◌-◌, ◌+◌, map, List, ℕ, Err}
use Rattle.guest_io.specs.Writing.{appended}
use Rattle.event_core.specs.declared.reply.Reply.{Reply}
use Rattle.event_core.specs.Turns.{numbers_from}
use Rattle.event_core.specs.Texts.{processor_text, processors_text}
use Rattle.event_core.specs.Printed.{replies_of_cpu}
use Rattle.guest_text.proofs.PrintLemmas.{Sent, next_section, first_section, sent-more, sent-stop, part-cut, on-err}
use Rattle.guest_text.proofs.print.put_processors.Goals as goal

pub loop-cpu-preserved : goal.loop-cpu-preserved
loop-cpu-preserved g c =
    let f : ℕ → List Reply = replies_of_cpu c.args.entries.now in
    let part : List ℕ = processor_text c.loop-cpu.cpu (f c.loop-cpu.cpu) in
    let rest : List ℕ = processors_text (c.loop-cpu.cpu + 1) (map f (numbers_from (c.loop-cpu.cpu + 1) (c.args.cpus - (c.loop-cpu.cpu + 1)))) in
    let whole : List ℕ = processors_text 0 (map (replies_of_cpu c.args.entries.now) (numbers_from 0 c.args.cpus)) in
    let put : g.K.Sink.written c.put.new.self ≡ appended (g.K.Sink.written c.loop-cpu.out) part = c.in_ok-put.ensures.ok ∙ ap (appended (g.K.Sink.written c.loop-cpu.out)) (c.as_slice.ensures ∙ c.in_ok-section.ensures) in
    record {
      cut = sent-more (g.K.Sink.written c.args.out.now) (g.K.Sink.written c.loop-cpu.out) (g.K.Sink.written c.put.new.self) part rest whole
          (subst (λ (t : List ℕ). Sent (g.K.Sink.written c.args.out.now) (g.K.Sink.written c.loop-cpu.out) t whole) (first_section f c.loop-cpu.cpu c.args.cpus c.loop-cpu-test.true) c.loop-cpu.invariant.cut) put;
      text = next_section f c.loop-cpu.cpu c.args.cpus (g.K.Sink.written c.loop-cpu.out) (g.K.Sink.written c.put.new.self) c.loop-cpu-test.true put ∙ c.loop-cpu.invariant.text;
      faults = omega (arith, c.loop-cpu.invariant.faults, c.in_ok-put.ensures.faults_kept);
    }

pub returns-in_err-section-clause-cut : goal.returns-in_err-section-clause-cut
returns-in_err-section-clause-cut g c =
    let f : ℕ → List Reply = replies_of_cpu c.args.entries.now in
    on-err c.from_residual.result (sent-stop (g.K.Sink.written c.args.out.now) (g.K.Sink.written c.loop-cpu.out) (processors_text c.loop-cpu.cpu (map f (numbers_from c.loop-cpu.cpu (c.args.cpus - c.loop-cpu.cpu)))) (processors_text 0 (map (replies_of_cpu c.args.entries.now) (numbers_from 0 c.args.cpus))) c.loop-cpu.invariant.cut)

pub returns-in_err-put-clause-cut : goal.returns-in_err-put-clause-cut
returns-in_err-put-clause-cut g c =
    let f : ℕ → List Reply = replies_of_cpu c.args.entries.now in
    let part : List ℕ = processor_text c.loop-cpu.cpu (f c.loop-cpu.cpu) in
    let rest : List ℕ = processors_text (c.loop-cpu.cpu + 1) (map f (numbers_from (c.loop-cpu.cpu + 1) (c.args.cpus - (c.loop-cpu.cpu + 1)))) in
    let whole : List ℕ = processors_text 0 (map (replies_of_cpu c.args.entries.now) (numbers_from 0 c.args.cpus)) in
    part-cut c.from_residual-in_err-put.result c.in_err-put.field-0.0 (g.K.Sink.written c.args.out.now) (g.K.Sink.written c.loop-cpu.out) (g.K.Sink.written c.put.new.self) c.as_slice.result.now part rest whole
    (subst (λ (t : List ℕ). Sent (g.K.Sink.written c.args.out.now) (g.K.Sink.written c.loop-cpu.out) t whole) (first_section f c.loop-cpu.cpu c.args.cpus c.loop-cpu-test.true) c.loop-cpu.invariant.cut)
    (c.as_slice.ensures ∙ c.in_ok-section.ensures)
    (λ is. c.in_err-put.ensures.failed_within (ap Err is)) (λ is. c.in_err-put.ensures.no_memory (ap Err is))
