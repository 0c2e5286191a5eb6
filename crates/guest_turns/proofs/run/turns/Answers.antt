use Rattle.std.proofs.Common.{◌≡◌, suc, ◌++◌, [], map, sym, subst, append-nil, length, refl}
use Rattle.std.specs.Prelude.{All, IsTrue, true}
use Rattle.std.proofs.lemmas.Bool.{both_ways}
use Rattle.guest_base.specs.declared.memory.CpuNo.{CpuNo}
use Rattle.event_core.specs.Turns.{numbers_from, rounds_of}
use Rattle.guest_steps.specs.Ground.{ground_of}
use Rattle.guest_steps.specs.declared.processor.Need.TheVariants.{Finished}
use Rattle.guest_steps.specs.Seen.{need_of}
use Rattle.guest_turns.specs.Walks.{WalksOn}
use Rattle.guest_turns.proofs.EndLemmas.{each-finished, finished-each, first-later, walk-ends, walk-start}
use Rattle.guest_turns.proofs.GoOnLemmas.{as-many, go_on-then, walks-then}
use Rattle.guest_turns.proofs.RoundLemmas.{rounds-next}
use Rattle.guest_turns.proofs.run.turns.Goals as goal

pub returns-in_err-in_order-clause-later : goal.returns-in_err-in_order-clause-later
returns-in_err-in_order-clause-later g c =
    c.in_order.ensures.go_on.later c.args.processors.now.items (first-later g.T.Processor.seen g.T.Processor.never_fails c.args.processors.now.items (ground_of c.args.memory.now c.args.areas.now.items) c.requires.first)

pub loop-alloc-init : goal.loop-alloc-init
loop-alloc-init g c =
    let seen = g.T.Processor.seen in
    let order = map (λ (cpu : CpuNo). cpu.0) c.args.order.now in
    let e = c.in_ok-in_order.ensures in
    record {
      go_on = e.go_on;
      walk = (0, subst (λ turns. WalksOn turns (map seen c.args.processors.now.items) (map seen c.in_order.new.processors.items) (ground_of c.args.memory.now c.args.areas.now.items) (ground_of c.in_order.new.memory c.in_order.new.areas.items)) (sym (append-nil order)) e.walk);
    }

pub loop-alloc-preserved : goal.loop-alloc-preserved
loop-alloc-preserved g c =
    let seen = g.T.Processor.seen in
    let old = c.args.processors.now.items in
    let mid = c.loop-alloc.processors.items in
    let new = c.round.new.processors.items in
    let before = ground_of c.args.memory.now c.args.areas.now.items in
    let between = ground_of c.loop-alloc.memory c.loop-alloc.areas.items in
    let after = ground_of c.round.new.memory c.round.new.areas.items in
    let inv = c.loop-alloc.invariant in
    let e = c.in_ok-round.ensures in
    let order = map (λ (cpu : CpuNo). cpu.0) c.args.order.now in
    let cpus = before.memory.boot.cpus in
    let rounds = inv.walk.0 in
    let many : length mid ≡ cpus = as-many seen g.T.Processor.stands g.T.Processor.never_fails before.memory.boot mid between inv.go_on.stand in
    record {
      go_on = go_on-then seen g.T.Processor.stands g.T.Processor.never_fails old mid new before between after inv.go_on e.go_on;
      walk = (
        suc rounds,
        subst (λ turns. WalksOn turns (map seen old) (map seen new) before after) (rounds-next order cpus (length mid) rounds many)
            (walks-then (order ++ rounds_of cpus rounds) (numbers_from 0 (length mid)) (map seen old) (map seen mid) (map seen new) before between after inv.go_on.stand.together.same.memory inv.walk.1 e.walk),
      );
    }

pub loop-alloc-smaller : goal.loop-alloc-smaller
loop-alloc-smaller g c =
    let seen = g.T.Processor.seen in
    let mid = c.loop-alloc.processors.items in
    c.in_ok-round.ensures.less (λ finished.
    let each : All (λ p. need_of (seen p) ≡ Finished) c.deref.result.now = subst (λ all. All (λ p. need_of (seen p) ≡ Finished) all) (sym c.deref.ensures.value) (finished-each seen mid finished) in
    both_ways c.all_finished.result c.loop-alloc-test.true (c.all_finished.ensures.1 each))

pub returns-in_err-round-clause-later : goal.returns-in_err-round-clause-later
returns-in_err-round-clause-later g c =
    let old = c.args.processors.now.items in
    let first = first-later g.T.Processor.seen g.T.Processor.never_fails old (ground_of c.args.memory.now c.args.areas.now.items) c.requires.first in
    c.round.ensures.go_on.later old (c.loop-alloc.invariant.go_on.later old first)

pub returns-clause-later : goal.returns-clause-later
returns-clause-later g c =
    let old = c.args.processors.now.items in
    c.loop-alloc.invariant.go_on.later old (first-later g.T.Processor.seen g.T.Processor.never_fails old (ground_of c.args.memory.now c.args.areas.now.items) c.requires.first)

pub returns-clause-finished : goal.returns-clause-finished
returns-clause-finished g c =
    let seen = g.T.Processor.seen in
    let new = c.loop-alloc.processors.items in
    let yes : IsTrue true = refl in
    each-finished seen new (subst (λ all. All (λ p. need_of (seen p) ≡ Finished) all) c.deref.ensures.value (c.loop-alloc-test.ensures.0 yes))

pub returns-clause-turned : goal.returns-clause-turned
returns-clause-turned g c =
    let seen = g.T.Processor.seen in
    let new = c.loop-alloc.processors.items in
    let before = ground_of c.args.memory.now c.args.areas.now.items in
    let inv = c.loop-alloc.invariant in
    let yes : IsTrue true = refl in
    let finished = each-finished seen new (subst (λ all. All (λ p. need_of (seen p) ≡ Finished) all) c.deref.ensures.value (c.loop-alloc-test.ensures.0 yes)) in
    walk-ends before.memory.boot (map seen new) (ground_of c.loop-alloc.memory c.loop-alloc.areas.items) (map (λ (cpu : CpuNo). cpu.0) c.args.order.now) inv.walk.0 inv.go_on.stand.together finished
    (inv.walk.1 [] (walk-start before.memory.boot (map seen c.args.processors.now.items) before c.requires.first))
