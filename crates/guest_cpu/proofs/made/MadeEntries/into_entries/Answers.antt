use Rattle.std.proofs.Common.{sym, ap, ◌∙◌}
use Rattle.event_core.specs.Moved.{entries_of}
use Rattle.io_areas.proofs.EntryLemmas.{with-bytes-entries}
use Rattle.guest_cpu.specs.Made.{Made}
use Rattle.guest_cpu.proofs.made.MadeEntries.into_entries.Goals as goal

pub returns : goal.returns
returns c =
    let i = c.self.inside in
    c.from_vec.ensures ∙ sym (with-bytes-entries i.entries.items i.moves.items c.self.invariant.beside) ∙ ap (λ (t : Made). entries_of t.moved) c.self.view_is
