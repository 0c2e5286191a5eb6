use Rattle.memory_core.proofs.BlockStepLemmas.{takes-out, begins-out, begins-free, may-start}
use Rattle.memory_core.proofs.memory.start_block.Goals as goal

pub put_accepted-requires-clause-may : goal.put_accepted-requires-clause-may
put_accepted-requires-clause-may c =
    let t = c.take_unaccepted.ensures in
    let b = c.in-Some.block in
    let form = c.requires.block b c.in-Some.is in
    let lowest = c.requires.lowest b c.in-Some.is in
    let out = takes-out c.args.blocks.now c.take_unaccepted.new.self c.take_unaccepted.result b form lowest t.block t.lowest t.others t.none t.free t.room in
    may-start c.args.blocks.now c.take_unaccepted.new.self b form lowest t.apart out.waiting out.free

pub returns-then-is_none : goal.returns-then-is_none
returns-then-is_none c =
    let t = c.take_unaccepted.ensures in
    let b = c.in-Some.block in
    let out = takes-out c.args.blocks.now c.take_unaccepted.new.self c.take_unaccepted.result b (c.requires.block b c.in-Some.is) (c.requires.lowest b c.in-Some.is) t.block t.lowest t.others t.none t.free t.room in
    begins-free c.args.blocks.now c.take_unaccepted.new.self c.put_accepted.new.self c.args.block c.args.run b c.is_none.result c.in-Some.is c.is_none.ensures c.if-is_none.true out c.put_accepted.ensures.pages c.put_accepted.ensures.waiting c.put_accepted.ensures.room

pub returns-else-is_none : goal.returns-else-is_none
returns-else-is_none c =
    let t = c.take_unaccepted.ensures in
    let b = c.in-Some.block in
    let out = takes-out c.args.blocks.now c.take_unaccepted.new.self c.take_unaccepted.result b (c.requires.block b c.in-Some.is) (c.requires.lowest b c.in-Some.is) t.block t.lowest t.others t.none t.free t.room in
    begins-out c.args.blocks.now c.take_unaccepted.new.self c.args.block c.args.run b c.is_none.result c.in-Some.is c.is_none.ensures c.if-is_none.false out
