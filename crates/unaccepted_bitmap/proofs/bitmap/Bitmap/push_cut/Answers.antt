use Rattle.std.proofs.Common.{arith}
use Rattle.unaccepted_bitmap.proofs.CutLemmas.{cut_more}
use Rattle.unaccepted_bitmap.proofs.bitmap.Bitmap.push_cut.Goals as goal

pub loop-page-preserved : goal.loop-page-preserved
loop-page-preserved c =
    cut_more c.args.self.now c.args.runs.now.items c.loop-page.runs.items c.push_run.new.runs.items c.args.run c.loop-page.page
    (omega (arith, c.loop-page.auto.page)) c.loop-page.invariant (rw (c.one_page.ensures, c.state_by.ensures) at c.in_ok-push_run.ensures)
