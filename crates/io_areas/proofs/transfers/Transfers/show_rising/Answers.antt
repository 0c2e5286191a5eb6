use Rattle.std.proofs.Common.{sym, subst}
use Rattle.event_core.specs.Locally.{Rising}
use Rattle.event_core.specs.Moved.{entries_of}
use Rattle.io_areas.specs.Transfers.{TransfersValue}
use Rattle.io_areas.proofs.EntryLemmas.{with-bytes-entries}
use Rattle.io_areas.proofs.transfers.Transfers.show_rising.Goals as goal

pub returns : goal.returns
returns c =
    let i = c.self.inside in
    let P : TransfersValue → Type 0 = λ t. Rising (entries_of t.moved) in
    subst P c.self.view_is (subst Rising (sym (with-bytes-entries i.entries.items i.moves.items c.self.invariant.beside)) c.self.invariant.rising)
