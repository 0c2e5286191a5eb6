use Rattle.std.proofs.Common.{◌≡◌, take, take_all, arith}
use Rattle.guest_base.specs.declared.memory.PageRun.{PageRun}
use Rattle.guest_base.specs.declared.memory.PageState.TheVariants.{Pending}
use Rattle.guest_map.proofs.Joining.{by_itself, none_joined, one_joined}
use Rattle.guest_map.proofs.ram.joined.Goals as goal

abbrev none : PageRun
none = record { pages = record { first = 0; count = 0 }; state = Pending }

pub loop-next-init : goal.loop-next-init
loop-next-init c = rw c.new-runs.ensures.items (none_joined c.args.sorted.now)

pub push_run-requires-clause-some : goal.push_run-requires-clause-some
push_run-requires-clause-some c = c.requires.some c.loop-next.next-index none c.loop-next-test.true

pub push_run-requires-clause-end : goal.push_run-requires-clause-end
push_run-requires-clause-end c = c.requires.below c.loop-next.next-index none c.loop-next-test.true

pub push_run-requires-clause-below : goal.push_run-requires-clause-below
push_run-requires-clause-below c = c.loop-next.invariant.below c.loop-next.next-index none (omega arith) c.loop-next-test.true

pub push_run-requires-clause-maximal : goal.push_run-requires-clause-maximal
push_run-requires-clause-maximal c = by_itself c.args.sorted.now c.loop-next.next-index c.loop-next.runs.items c.loop-next.invariant

pub loop-next-preserved : goal.loop-next-preserved
loop-next-preserved c =
    one_joined c.args.sorted.now c.loop-next.next-index c.loop-next.runs.items c.push_run.new.runs.items none
    c.loop-next-test.true c.requires c.loop-next.invariant c.in_ok-push_run.ensures

pub returns : goal.returns
returns c =
    let whole : take c.loop-next.next-index c.args.sorted.now ≡ c.args.sorted.now = take_all c.loop-next.next-index c.args.sorted.now c.loop-next-test.false in
    rw c.from_vec.ensures (rw whole at c.loop-next.invariant.maximal)
