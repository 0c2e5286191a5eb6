use Rattle.std.proofs.Common.{length}
use Rattle.sparse_bytes.specs.Runs.{bytes_in}
use Rattle.sparse_bytes.proofs.RunLemmas.{part-range}
use Rattle.sparse_bytes.proofs.run.Run.lay_over.Goals as goal

pub returns-clause-bytes : goal.returns-clause-bytes
returns-clause-bytes c k below =
    rw (← part-range c.args.self.now.start (length (bytes_in c.args.self.now.content)) c.args.at (length c.args.bytes.now) k
    c.max-first.result c.end_within-end.result c.loop-place.place c.max-first.ensures c.end_within-end.ensures below
    c.loop-place.auto.place c.loop-place-test.false c.loop-place.invariant.2) (c.loop-place.invariant.1 k below)
