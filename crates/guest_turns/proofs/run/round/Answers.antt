use Rattle.std.proofs.Common.{◌≡◌, ◌∷◌, [], map, length, sym, subst, arith}
use Rattle.std.proofs.lemmas.List.{length-map}
use Rattle.event_core.specs.Turns.{numbers_from}
use Rattle.guest_steps.specs.Ground.{ground_of}
use Rattle.guest_turns.specs.Walks.{WalksOn}
use Rattle.guest_turns.proofs.GoOnLemmas.{go_on-length, go_on-then, walks-then}
use Rattle.guest_turns.proofs.RoundLemmas.{numbers-next, round-less, so_far-push}
use Rattle.guest_turns.proofs.run.round.Goals as goal

pub loop-cpu-preserved : goal.loop-cpu-preserved
loop-cpu-preserved g c =
    let seen = g.T.Processor.seen in
    let old = c.args.processors.now.items in
    let mid = c.loop-cpu.processors.items in
    let new = c.turn.new.processors.items in
    let before = ground_of c.args.memory.now c.args.areas.now.items in
    let between = ground_of c.loop-cpu.memory c.loop-cpu.areas.items in
    let after = ground_of c.turn.new.memory c.turn.new.areas.items in
    let inv = c.loop-cpu.invariant in
    let cpu = c.loop-cpu.cpu in
    record {
      go_on = go_on-then seen g.T.Processor.stands g.T.Processor.never_fails old mid new before between after inv.go_on c.in_ok-turn.ensures.go_on;
      walk = subst (λ turns. WalksOn turns (map seen old) (map seen new) before after) (sym (numbers-next cpu))
          (walks-then (numbers_from 0 cpu) (cpu ∷ []) (map seen old) (map seen mid) (map seen new) before between after inv.go_on.stand.together.same.memory inv.walk c.in_ok-turn.ensures.walk);
      so_far = so_far-push c.in_ok-turn.field-0 c.turn.result cpu (map seen old) (map seen mid) (map seen new) before between after c.in_ok-turn.was c.turn.ensures.event c.turn.ensures.none inv.so_far;
    }

pub returns-clause-less : goal.returns-clause-less
returns-clause-less g c =
    let seen = g.T.Processor.seen in
    let old = c.args.processors.now.items in
    let new = c.loop-cpu.processors.items in
    let inv = c.loop-cpu.invariant in
    let before = ground_of c.args.memory.now c.args.areas.now.items in
    let after = ground_of c.loop-cpu.memory c.loop-cpu.areas.items in
    let same = go_on-length seen g.T.Processor.stands g.T.Processor.never_fails old new before after c.requires.stand inv.go_on in
    let all = length-map new seen in
    let cpus : length (map seen new) ≡ c.loop-cpu.cpu = omega (arith, same, all) in
    round-less c.args.memory.now.boot (map seen old) (map seen new) before after c.loop-cpu.cpu c.requires.stand.together inv.go_on.stand.together cpus inv.so_far
