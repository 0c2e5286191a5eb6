use Rattle.std.proofs.Common.{[], rules}
use Rattle.guest_io.proofs.StreamLemmas.{Gives-nil, Gives-kept}
use Rattle.guest_io.proofs.real_files.read_some.Goals as goal

pub returns-in_default-clause-gives : goal.returns-in_default-clause-gives
returns-in_default-clause-gives g c =
    ([], search rules, Gives-kept _ _ _ [] _ _ (Gives-nil (g.F.Read.remaining c.args.file.now) c.args.bytes_read.now (search rules)) c.in_default.ensures.bytes)
