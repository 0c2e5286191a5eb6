use Rattle.std.proofs.Common.{sym, ap, ◌∙◌}
use Rattle.event_core.specs.Moved.{entries_of}
use Rattle.io_areas.specs.Transfers.{TransfersValue}
use Rattle.io_areas.proofs.EntryLemmas.{with-bytes-entries}
use Rattle.io_areas.proofs.transfers.Transfers.into_entries.Goals as goal

pub returns-clause-entries : goal.returns-clause-entries
returns-clause-entries c =
    let i = c.self.inside in
    c.from_vec.ensures ∙ sym (with-bytes-entries i.entries.items i.moves.items c.self.invariant.beside) ∙ ap (λ (t : TransfersValue). entries_of t.moved) c.self.view_is
