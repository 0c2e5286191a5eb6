use Rattle.std.proofs.Common.{◌∙◌, Err, ap, arith}
use Rattle.std.proofs.lemmas.Result.{err_from_is_err_and}
use Rattle.event_core.specs.Boot.{InTurn, AcceptsBlock}
use Rattle.event_core.proofs.FrontLemmas.{block-exists}
use Rattle.guest_boot.proofs.InTurnLemmas.{worked-left, leads-start, leads-stop, leads-next, leads-end}
use Rattle.guest_boot.proofs.PutLemmas.{puts-start, puts-may, puts-next, puts-end}
use Rattle.guest_boot.proofs.stages.accept_blocks.Goals as goal

pub loop-block-init : goal.loop-block-init
loop-block-init g c = record {
  leads = leads-start (AcceptsBlock c.args.boot.now) (g.P.Port.made c.args.port.now) c.args.blocks.now;
  puts = puts-start c.args.boot.now (g.P.Port.made c.args.port.now) c.args.blocks.now c.args.store.now c.requires.ram c.requires.blocks c.requires.empty;
  room = omega (arith, c.requires.room);
  stands = c.requires.stands;
  faults = omega arith;
  never_fails = λ never. never;
}

pub returns-in_err-waits-clause-done : goal.returns-in_err-waits-clause-done
returns-in_err-waits-clause-done g c =
    let e = err_from_is_err_and c.from_residual.result c.from_residual.ensures.1 in
    let Part = AcceptsBlock c.args.boot.now in
    let start = g.P.Port.made c.args.port.now in
    worked-left c.from_residual.result _ c.args.boot.now (InTurn Part start c.args.blocks.now) start (g.P.Port.made c.accept_block.new.port) _ (e.1 ∙ ap (λ x. Err x) e.2)
    (leads-stop Part start (g.P.Port.made c.loop-block.port) (g.P.Port.made c.accept_block.new.port) c.args.blocks.now c.loop-block.block-index _ _ (block-exists c.args.boot.now) c.loop-block-test.true c.loop-block.invariant.leads c.in_err-waits.ensures.done.made)

pub put_block-requires-clause-may : goal.put_block-requires-clause-may
put_block-requires-clause-may g c =
    let at = c.loop-block.block-index in
    let low = c.loop-block-test.true in
    puts-may c.args.blocks.now at _ c.loop-block.store low (c.requires.orders at _ low) (c.requires.low at _ low) c.loop-block.invariant.puts

pub loop-block-preserved : goal.loop-block-preserved
loop-block-preserved g c = record {
  leads = leads-next (AcceptsBlock c.args.boot.now) (g.P.Port.made c.args.port.now) (g.P.Port.made c.loop-block.port) (g.P.Port.made c.accept_block.new.port) c.args.blocks.now c.loop-block.block-index _ c.loop-block-test.true c.loop-block.invariant.leads c.in_ok-waits.ensures.done.made;
  puts = puts-next c.args.boot.now (g.P.Port.made c.args.port.now) (g.P.Port.made c.loop-block.port) (g.P.Port.made c.accept_block.new.port) c.args.blocks.now c.loop-block.block-index _ c.loop-block.store c.put_block.new.store c.in_ok-waits.waits c.loop-block-test.true c.loop-block.invariant.puts c.in_ok-waits.ensures.done.made c.in_ok-waits.ensures.waits c.put_block.ensures.free c.put_block.ensures.waiting;
  room = omega (arith, c.loop-block.invariant.room, c.put_block.ensures.room);
  stands = c.in_ok-waits.ensures.done.stands;
  faults = omega (arith, c.loop-block.invariant.faults, c.in_ok-waits.ensures.faults.kept);
  never_fails = λ never. c.in_ok-waits.ensures.never_fails (c.loop-block.invariant.never_fails never);
}

pub returns-clause-done : goal.returns-clause-done
returns-clause-done g c = record {
  made = leads-end (AcceptsBlock c.args.boot.now) (g.P.Port.made c.args.port.now) (g.P.Port.made c.loop-block.port) c.args.blocks.now c.loop-block.block-index c.loop-block-test.false c.loop-block.invariant.leads;
  stands = c.loop-block.invariant.stands;
}

pub returns-clause-put : goal.returns-clause-put
returns-clause-put g c = puts-end c.args.boot.now (g.P.Port.made c.args.port.now) (g.P.Port.made c.loop-block.port) c.args.blocks.now c.loop-block.block-index c.loop-block.store c.loop-block-test.false c.loop-block.invariant.puts
