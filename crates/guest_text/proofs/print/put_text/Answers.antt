use Rattle.std.proofs.Common.{map, ◌∙◌, ◌++◌, ap, refl, List, ℕ, None, Err}
use Rattle.guest_io.specs.Writing.{appended}
use Rattle.event_core.specs.Texts.{processors_text, pages_text, end_text, run_text}
use Rattle.event_core.specs.Printed.{replies_of_cpu}
use Rattle.event_core.specs.Turns.{numbers_from}
use Rattle.guest_text.proofs.PrintLemmas.{text-parts, sent-none, sent-more, sent-cut, sent-stop, part-cut, last-cut, on-err}
use Rattle.guest_text.proofs.print.put_text.Goals as goal

pub returns-in_err-put_processors-clause-cut : goal.returns-in_err-put_processors-clause-cut
returns-in_err-put_processors-clause-cut g c =
    let sections : List ℕ = processors_text 0 (map (replies_of_cpu c.args.entries.now) (numbers_from 0 c.args.cpus)) in
    let pages : List ℕ = pages_text c.args.runs.now in
    let whole : List ℕ = run_text (map (replies_of_cpu c.args.entries.now) (numbers_from 0 c.args.cpus)) c.args.runs.now None in
    on-err c.from_residual.result (sent-cut (g.K.Sink.written c.args.out.now) (g.K.Sink.written c.args.out.now) (g.K.Sink.written c.put_processors.new.out) sections (pages ++ end_text) whole (sent-none (g.K.Sink.written c.args.out.now) (sections ++ (pages ++ end_text)) whole (text-parts sections pages end_text)) c.in_err-put_processors.ensures.cut)

pub returns-in_err-pages-clause-cut : goal.returns-in_err-pages-clause-cut
returns-in_err-pages-clause-cut g c =
    let sections : List ℕ = processors_text 0 (map (replies_of_cpu c.args.entries.now) (numbers_from 0 c.args.cpus)) in
    let pages : List ℕ = pages_text c.args.runs.now in
    let whole : List ℕ = run_text (map (replies_of_cpu c.args.entries.now) (numbers_from 0 c.args.cpus)) c.args.runs.now None in
    on-err c.from_residual-in_err-pages.result (sent-stop (g.K.Sink.written c.args.out.now) (g.K.Sink.written c.put_processors.new.out) (pages ++ end_text) whole (sent-more (g.K.Sink.written c.args.out.now) (g.K.Sink.written c.args.out.now) (g.K.Sink.written c.put_processors.new.out) sections (pages ++ end_text) whole (sent-none (g.K.Sink.written c.args.out.now) (sections ++ (pages ++ end_text)) whole (text-parts sections pages end_text)) c.in_ok-put_processors.ensures.ok))

pub returns-in_err-put-clause-cut : goal.returns-in_err-put-clause-cut
returns-in_err-put-clause-cut g c =
    let sections : List ℕ = processors_text 0 (map (replies_of_cpu c.args.entries.now) (numbers_from 0 c.args.cpus)) in
    let pages : List ℕ = pages_text c.args.runs.now in
    let whole : List ℕ = run_text (map (replies_of_cpu c.args.entries.now) (numbers_from 0 c.args.cpus)) c.args.runs.now None in
    part-cut c.from_residual-in_err-put.result c.in_err-put.field-0.0 (g.K.Sink.written c.args.out.now) (g.K.Sink.written c.put_processors.new.out) (g.K.Sink.written c.put.new.self) c.as_bytes.result.now pages end_text whole (sent-more (g.K.Sink.written c.args.out.now) (g.K.Sink.written c.args.out.now) (g.K.Sink.written c.put_processors.new.out) sections (pages ++ end_text) whole (sent-none (g.K.Sink.written c.args.out.now) (sections ++ (pages ++ end_text)) whole (text-parts sections pages end_text)) c.in_ok-put_processors.ensures.ok) (c.as_bytes.ensures.value ∙ c.in_ok-pages.ensures)
    (λ is. c.in_err-put.ensures.failed_within (ap Err is)) (λ is. c.in_err-put.ensures.no_memory (ap Err is))

pub returns-clause-cut : goal.returns-clause-cut
returns-clause-cut g c =
    let sections : List ℕ = processors_text 0 (map (replies_of_cpu c.args.entries.now) (numbers_from 0 c.args.cpus)) in
    let pages : List ℕ = pages_text c.args.runs.now in
    let whole : List ℕ = run_text (map (replies_of_cpu c.args.entries.now) (numbers_from 0 c.args.cpus)) c.args.runs.now None in
    last-cut c.put-2.result (g.K.Sink.written c.args.out.now) (g.K.Sink.written c.put.new.self) (g.K.Sink.written c.put-2.new.self) end_text end_text whole (sent-more (g.K.Sink.written c.args.out.now) (g.K.Sink.written c.put_processors.new.out) (g.K.Sink.written c.put.new.self) pages end_text whole (sent-more (g.K.Sink.written c.args.out.now) (g.K.Sink.written c.args.out.now) (g.K.Sink.written c.put_processors.new.out) sections (pages ++ end_text) whole (sent-none (g.K.Sink.written c.args.out.now) (sections ++ (pages ++ end_text)) whole (text-parts sections pages end_text)) c.in_ok-put_processors.ensures.ok) (c.in_ok-put.ensures.ok ∙ ap (appended (g.K.Sink.written c.put_processors.new.out)) (c.as_bytes.ensures.value ∙ c.in_ok-pages.ensures))) refl c.put-2.ensures.failed_within c.put-2.ensures.no_memory
