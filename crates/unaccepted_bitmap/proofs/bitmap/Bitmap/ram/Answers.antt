use Rattle.std.proofs.Common.{◌≡◌, length, sym, subst, arith}
use Rattle.guest_base.specs.declared.memory.PageRun.{PageRun}
use Rattle.guest_base.specs.declared.memory.PageState.TheVariants.{Pending}
use Rattle.event_core.specs.Map.{first_state}
use Rattle.event_core.specs.Runs.{AreMaximalRuns}
use Rattle.unaccepted_bitmap.proofs.CutLemmas.{IsCutSoFar, so_far_start, so_far_more, so_far_end, runs_low}
use Rattle.unaccepted_bitmap.proofs.bitmap.Bitmap.ram.Goals as goal

abbrev none : PageRun
none = record { pages = record { first = 0; count = 0 }; state = Pending }

pub loop-run-init : goal.loop-run-init
loop-run-init c = rw c.new-runs.ensures.items (so_far_start c.args.self.now c.as_slice-run-items.result.now)

pub push_cut-requires-clause-end : goal.push_cut-requires-clause-end
push_cut-requires-clause-end c =
    let map = c.args.map.now.descriptors in
    let are = subst (AreMaximalRuns (first_state map)) (sym c.as_slice-run-items.ensures) c.in_ok-by_map.ensures in
    runs_low map c.as_slice-run-items.result.now c.requires.each are c.loop-run.run-index none c.loop-run-test.true

pub push_cut-requires-clause-below : goal.push_cut-requires-clause-below
push_cut-requires-clause-below c = c.loop-run.invariant.below c.loop-run.run-index none (omega arith) c.loop-run-test.true

pub push_cut-requires-clause-maximal : goal.push_cut-requires-clause-maximal
push_cut-requires-clause-maximal c = c.loop-run.invariant.maximal

pub loop-run-preserved : goal.loop-run-preserved
loop-run-preserved c =
    let map = c.args.map.now.descriptors in
    let are = subst (AreMaximalRuns (first_state map)) (sym c.as_slice-run-items.ensures) c.in_ok-by_map.ensures in
    so_far_more c.args.self.now c.as_slice-run-items.result.now c.loop-run.runs.items c.push_cut.new.runs.items c.loop-run.run-index none
    c.loop-run-test.true are.rise c.loop-run.invariant c.in_ok-push_cut.ensures

pub returns : goal.returns
returns c =
    let map = c.args.map.now.descriptors in
    let items = c.as_slice-run-items.result.now in
    let are = subst (AreMaximalRuns (first_state map)) (sym c.as_slice-run-items.ensures) c.in_ok-by_map.ensures in
    let all : c.loop-run.run-index ≡ length items = omega (arith, c.loop-run-test.false, c.loop-run.auto.run-index-end) in
    rw c.from_vec.ensures
    (so_far_end c.args.self.now map items c.loop-run.runs.items are (subst (λ n. IsCutSoFar c.args.self.now items n c.loop-run.runs.items) all c.loop-run.invariant))
