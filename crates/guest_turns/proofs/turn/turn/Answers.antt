use Rattle.std.proofs.Common.{◌<◌, refl, sym, subst, map}
use Rattle.std.specs.Prelude.{OnOk, [], ◌∷◌}
use Rattle.std.proofs.lemmas.List.{map-set}
use Rattle.std.proofs.lemmas.Option.{slice_get_read}
use Rattle.guest_steps.specs.Ground.{ground_of}
use Rattle.guest_steps.proofs.StampLemmas.{stamps-small}
use Rattle.guest_turns.specs.Walks.{RestsAt, WalksOn, all_left}
use Rattle.guest_turns.proofs.StandLemmas.{event-leaves, rest-is, seen-at, turn-goes_on, turn-of, turn-walks}
use Rattle.guest_turns.proofs.turn.turn.Goals as goal

pub one_turn-requires-clause-stamps : goal.one_turn-requires-clause-stamps
one_turn-requires-clause-stamps g c κs w =
    let seen = g.T.Processor.seen in
    let all = c.args.processors.now.items in
    let was = c.index_mut.result.now in
    let at = slice_get_read all _ c.args.cpu was refl c.requires.cpu c.index_mut.ensures.value in
    let base = ground_of c.args.memory.now c.args.areas.now.items in
    let left = stamps-small c.args.memory.now.boot (map seen all) base c.args.cpu (seen was) c.requires.stand.together (seen-at seen all c.args.cpu was at) in
    record { memory = left.0; areas = left.1 }

pub returns-clause-go_on : goal.returns-clause-go_on
returns-clause-go_on g c =
    let seen = g.T.Processor.seen in
    let laws = g.met.T.Processor g.world.𝓛 g.world.𝓜 g.world.𝓡 (λ s allowed. allowed, λ patient. patient, λ alone. alone, λ cuts. cuts) in
    let all = c.args.processors.now.items in
    let was = c.index_mut.result.now in
    let now = c.one_turn.new.processor in
    let before = ground_of c.args.memory.now c.args.areas.now.items in
    let after = ground_of c.one_turn.new.memory c.one_turn.new.areas.items in
    let at = slice_get_read all _ c.args.cpu was refl c.requires.cpu c.index_mut.ensures.value in
    let e = c.one_turn.ensures in
    turn-goes_on seen g.T.Processor.stands g.T.Processor.never_fails laws.told laws.left_standing all c.args.cpu was now before after c.requires.stand at e.stand e.later
    (turn-of c.one_turn.result (seen was) (seen now) before after e.event e.none e.refused)

pub returns-clause-walk : goal.returns-clause-walk
returns-clause-walk g c =
    let seen = g.T.Processor.seen in
    let all = c.args.processors.now.items in
    let was = c.index_mut.result.now in
    let now = c.one_turn.new.processor in
    let before = ground_of c.args.memory.now c.args.areas.now.items in
    let after = ground_of c.one_turn.new.memory c.one_turn.new.areas.items in
    let at = slice_get_read all _ c.args.cpu was refl c.requires.cpu c.index_mut.ensures.value in
    let e = c.one_turn.ensures in
    subst (λ new. OnOk c.one_turn.result (WalksOn (c.args.cpu ∷ []) (map seen all) new before after)) (sym (map-set seen all c.args.cpu now))
    (turn-walks c.one_turn.result (map seen all) c.args.cpu (seen was) (seen now) before after c.requires.stand.together (seen-at seen all c.args.cpu was at) e.event e.none)

pub returns-clause-event : goal.returns-clause-event
returns-clause-event g c is =
    let seen = g.T.Processor.seen in
    let all = c.args.processors.now.items in
    let was = c.index_mut.result.now in
    let now = c.one_turn.new.processor in
    let at = slice_get_read all _ c.args.cpu was refl c.requires.cpu c.index_mut.ensures.value in
    let before = ground_of c.args.memory.now c.args.areas.now.items in
    let after = ground_of c.one_turn.new.memory c.one_turn.new.areas.items in
    subst (λ new. all_left new after < all_left (map seen all) before) (sym (map-set seen all c.args.cpu now))
    (event-leaves (map seen all) c.args.cpu (seen was) (seen now) before after (seen-at seen all c.args.cpu was at) (c.one_turn.ensures.event is))

pub returns-clause-none : goal.returns-clause-none
returns-clause-none g c is =
    let seen = g.T.Processor.seen in
    let all = c.args.processors.now.items in
    let was = c.index_mut.result.now in
    let now = c.one_turn.new.processor in
    let at = slice_get_read all _ c.args.cpu was refl c.requires.cpu c.index_mut.ensures.value in
    let none = c.one_turn.ensures.none is in
    let before = ground_of c.args.memory.now c.args.areas.now.items in
    let after = ground_of c.one_turn.new.memory c.one_turn.new.areas.items in
    subst (λ new. RestsAt c.args.cpu (map seen all) new before after) (sym (map-set seen all c.args.cpu now))
    (rest-is (map seen all) c.args.cpu (seen was) (seen now) before after (seen-at seen all c.args.cpu was at) none.0 none.1)
