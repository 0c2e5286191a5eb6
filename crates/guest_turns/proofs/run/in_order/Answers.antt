use Rattle.std.proofs.Common.{◌≡◌, ◌<◌, ◌≤◌, List, ◌∷◌, [], map, take, get_or, length, ap, subst, arith}
use Rattle.std.proofs.lemmas.List.{take_all}
use Rattle.guest_base.specs.declared.memory.CpuNo.{CpuNo}
use Rattle.guest_steps.specs.Ground.{ground_of}
use Rattle.guest_turns.specs.Walks.{WalksOn}
use Rattle.guest_turns.proofs.GoOnLemmas.{go_on-then, numbers-more, walks-then}
use Rattle.guest_turns.proofs.run.in_order.Goals as goal

pub loop-cpu-preserved : goal.loop-cpu-preserved
loop-cpu-preserved g c =
    let seen = g.T.Processor.seen in
    let old = c.args.processors.now.items in
    let mid = c.loop-cpu.processors.items in
    let new = c.turn.new.processors.items in
    let before = ground_of c.args.memory.now c.args.areas.now.items in
    let between = ground_of c.loop-cpu.memory c.loop-cpu.areas.items in
    let after = ground_of c.turn.new.memory c.turn.new.areas.items in
    let inv = c.loop-cpu.invariant in
    let items = c.as_slice-cpu-items.result.now in
    let k = c.loop-cpu.cpu-index in
    let none : CpuNo = record { 0 = 0 } in
    let some = map (λ (cpu : CpuNo). cpu.0) (take k c.args.order.now) in
    let within : k < length items = omega arith in
    record {
      go_on = go_on-then seen g.T.Processor.stands g.T.Processor.never_fails old mid new before between after inv.go_on c.in_ok-turn.ensures.go_on;
      walk = subst (λ turns. WalksOn turns (map seen old) (map seen new) before after) (numbers-more items c.args.order.now k none c.as_slice-cpu-items.ensures within)
          (walks-then some ((get_or items k none).0 ∷ []) (map seen old) (map seen mid) (map seen new) before between after inv.go_on.stand.together.same.memory inv.walk c.in_ok-turn.ensures.walk);
    }

pub returns-clause-walk : goal.returns-clause-walk
returns-clause-walk g c =
    let seen = g.T.Processor.seen in
    let before = ground_of c.args.memory.now c.args.areas.now.items in
    let after = ground_of c.loop-cpu.memory c.loop-cpu.areas.items in
    let same : length c.as_slice-cpu-items.result.now ≡ length c.args.order.now = ap (λ (items : List CpuNo). length items) c.as_slice-cpu-items.ensures in
    let long : length c.args.order.now ≤ c.loop-cpu.cpu-index = omega (arith, same, c.loop-cpu-test.false) in
    subst (λ cpus. WalksOn (map (λ (cpu : CpuNo). cpu.0) cpus) (map seen c.args.processors.now.items) (map seen c.loop-cpu.processors.items) before after) (take_all c.loop-cpu.cpu-index c.args.order.now long)
    c.loop-cpu.invariant.walk
