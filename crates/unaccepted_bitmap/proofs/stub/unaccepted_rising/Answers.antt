use Rattle.unaccepted_bitmap.proofs.StubLemmas.{is_rising}
use Rattle.unaccepted_bitmap.proofs.stub.unaccepted_rising.Goals as goal

pub returns : goal.returns
returns c =
    is_rising c.args.descriptors.now _ _ c.in_ok-kept.ensures c.requires.each c.requires.apart c.sort_by_start.ensures.same c.in_ok-sort_by_start.ensures.rise
