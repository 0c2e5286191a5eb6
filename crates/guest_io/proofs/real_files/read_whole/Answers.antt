use Rattle.std.proofs.Common.{◌++◌, length-append, arith}
use Rattle.guest_io.proofs.StreamLemmas.{Gives-then}
use Rattle.guest_io.proofs.real_files.read_whole.Goals as goal

pub returns-in_err-read_some-clause-gives : goal.returns-in_err-read_some-clause-gives
returns-in_err-read_some-clause-gives g c =
    let bytes = c.loop-bytes.bytes.items in
    let (given, few, gives) = c.read_some.ensures.gives in (
      bytes ++ given,
      omega (arith, length-append bytes given, few, c.saturating_add.ensures, c.len-in-loop-bytes.ensures, c.len.ensures, c.loop-bytes-test.true, c.loop-bytes.bytes.ok.0),
      Gives-then _ _ _ bytes given _ _ _ c.loop-bytes.invariant.gives gives,
    )

pub returns-then-branch-eq0-clause-gives : goal.returns-then-branch-eq0-clause-gives
returns-then-branch-eq0-clause-gives g c =
    let bytes = c.loop-bytes.bytes.items in
    let (given, few, gives) = c.read_some.ensures.gives in (
      bytes ++ given,
      omega (arith, length-append bytes given, few, c.saturating_add.ensures, c.len-in-loop-bytes.ensures, c.len.ensures, c.loop-bytes-test.true, c.loop-bytes.bytes.ok.0),
      Gives-then _ _ _ bytes given _ _ _ c.loop-bytes.invariant.gives gives,
    )
