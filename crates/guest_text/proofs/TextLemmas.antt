use Rattle.std.proofs.Common.{◌≡◌, ℕ, false, Option, None, List, [], ◌∷◌, ◌++◌, refl, sym, ◌∙◌, ap, inl, inr, ◌==◌, map, filter}
use Rattle.std.specs.Prelude.{if◌then◌else◌}
use Rattle.std.specs.Prelude.{Ok, Err, OnOk, OnErr, Result}
use Rattle.std.specs.List.{filter_map}
use Rattle.std.proofs.lemmas.Bool.{cases_Bool}
use Rattle.std.proofs.lemmas.List.Elements.{filter_map-append, filter-append}
use Rattle.guest_base.specs.declared.memory.PageRun.{PageRun}
use Rattle.event_core.specs.declared.boot.Recorded.{Recorded}
use Rattle.event_core.specs.declared.entry.Entry.{Entry}
use Rattle.event_core.specs.declared.reply.Reply.{Reply}
use Rattle.event_core.specs.Turns.{numbers_from}
use Rattle.event_core.specs.Printed.{FinalRuns, Printed, replies_by_processor, replies_of_cpu}
use Rattle.event_core.specs.Texts.{run_text}
use Rattle.guest_io.specs.declared.sink.PutFault.{PutFault}
use Rattle.guest_text.specs.Printings.{PrintedAfter, CutAfter}
use Rattle.guest_text.specs.Putting.{Putting, Put, PutFront}

-- The text that is put is the printed text of the run.

-- the reply in an entry, where the entry is the processor's
abbrev pub reply_by : ℕ → Entry → Option Reply
reply_by cpu entry = if entry.cpu.0 == cpu then entry.reply else None

-- the processor's replies, entry by entry
abbrev pub replies_of : ℕ → List Entry → List Reply
replies_of cpu entries = filter_map (reply_by cpu) entries

one_reply : (cpu : ℕ) (entry : Entry) → replies_of_cpu (entry ∷ []) cpu ≡ replies_of cpu (entry ∷ [])
one_reply cpu entry = elim (cases_Bool (entry.cpu.0 == cpu)) [ inl t ↦ rw t refl | inr f ↦ rw f refl ]

pub replies_same : (cpu : ℕ) (entries : List Entry) → replies_of cpu entries ≡ replies_of_cpu entries cpu
replies_same cpu [] = refl
replies_same cpu (entry ∷ entries) =
    filter_map-append (reply_by cpu) (entry ∷ []) entries
    ∙ ap (λ rs. rs ++ replies_of cpu entries) (sym (one_reply cpu entry))
    ∙ ap (λ rs. replies_of_cpu (entry ∷ []) cpu ++ rs) (replies_same cpu entries)
    ∙ sym (filter_map-append (λ (e : Entry). e.reply) (filter (λ (e : Entry). e.cpu.0 == cpu) (entry ∷ [])) (filter (λ (e : Entry). e.cpu.0 == cpu) entries))
    ∙ ap (filter_map (λ (e : Entry). e.reply)) (sym (filter-append (λ (e : Entry). e.cpu.0 == cpu) (entry ∷ []) entries))

-- a printed text of the run
printed_text : (r : Recorded) (entries : List Entry) (runs put : List PageRun) → entries ≡ r.entries → put ≡ runs → FinalRuns r runs → Printed r.boot r.entries false (run_text (map (replies_of_cpu entries) (numbers_from 0 r.boot.cpus)) put None)
printed_text r entries runs put same-entries same final = record {
  runs = runs;
  maximal = final.maximal;
  same = ap (λ es. run_text (map (replies_of_cpu es) (numbers_from 0 r.boot.cpus)) put None) same-entries ∙ ap (λ rs. run_text (replies_by_processor r.boot r.entries) rs None) same;
}

-- a text that was put is the run's
pub printed_of : (result : Result (Unit {0}) PutFault) (r : Recorded) (entries : List Entry) (runs put : List PageRun) (out : Putting) → entries ≡ r.entries → put ≡ runs → FinalRuns r runs → OnOk result (Put out (run_text (map (replies_of_cpu entries) (numbers_from 0 r.boot.cpus)) put None)) → OnOk result (PrintedAfter r out)
printed_of (Ok x) r entries runs put out same-entries same final is = (_, printed_text r entries runs put same-entries same final, is)
printed_of (Err e) r entries runs put out same-entries same final is = tt

-- and so is one of which a prefix was put
pub cut_of : (result : Result (Unit {0}) PutFault) (r : Recorded) (entries : List Entry) (runs put : List PageRun) (out : Putting) → entries ≡ r.entries → put ≡ runs → FinalRuns r runs → OnErr result (PutFront out (run_text (map (replies_of_cpu entries) (numbers_from 0 r.boot.cpus)) put None)) → OnErr result (CutAfter r out)
cut_of (Ok x) r entries runs put out same-entries same final is = tt
cut_of (Err e) r entries runs put out same-entries same final is = (_, printed_text r entries runs put same-entries same final, is)
