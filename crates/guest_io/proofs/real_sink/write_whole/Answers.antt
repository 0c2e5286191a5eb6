use Rattle.std.proofs.Common.{◌+◌, sym, subst}
use Rattle.std.specs.Io.KnownBytes.{Appends}
use Rattle.std.proofs.KnownBytes.{Appends-trans}
use Rattle.guest_io.proofs.StreamLemmas.{moves_on}
use Rattle.guest_io.proofs.real_sink.write_whole.Goals as goal

pub loop-left-preserved : goal.loop-left-preserved
loop-left-preserved g c =
    let (sent, split, appended) = c.loop-left.invariant in
    let taken = c.in-Ok.taken in
    let on = moves_on c.args.bytes.now c.loop-left.left.now sent taken split in
    (sent + taken, on.0, subst (Appends _ _) (sym on.1) (Appends-trans _ _ _ _ _ appended c.in-Ok.ensures.bytes))
