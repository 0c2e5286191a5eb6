use Rattle.std.proofs.Common.{◌∷◌, [], List, ℕ, subst, rules, tests}
use Rattle.std.specs.Prelude.{◌==◌, not, length, map}
use Rattle.std.proofs.lemmas.Iterator.Consumers.{YieldsList-from_filter, YieldsList-so_far, YieldsList-turn, YieldsList-end, YieldsList-at}
use Rattle.std.proofs.lemmas.List.{map-append}
use Rattle.std.proofs.lemmas.Result.{err_from_is_err_and}
use Rattle.std.proofs.lemmas.Iterator.Search.{YieldsList-from_take_while}
use Rattle.std.proofs.lemmas.Iterator.Splits.{YieldsList-from_slice_split}
use Rattle.guest_script.specs.Words.{is_blank}
use Rattle.guest_script.specs.Order.{begins_comment, turn_words, AddsTurns}
use Rattle.guest_script.proofs.OrderLemmas.{adds_more, turns_counted, fails_behind, at_item}
use Rattle.guest_script.proofs.order.read_turns.Goals as goal

pub loop-word-preserved : goal.loop-word-preserved
loop-word-preserved c =
    let adds = adds_more c.args.cpus (map (λ word. word.now) c.loop-word.yielded) (c.in-Some.word.now ∷ []) c.args.turns.now.items c.loop-word.turns.items c.add_turn.new.turns.items c.loop-word.invariant.turns c.in_ok-add_turn.ensures.ok in
    record {
      turns = rw (map-append (λ word. word.now) c.loop-word.yielded (c.in-Some.word ∷ [])) adds;
      few = (turns_counted c.args.cpus (c.in-Some.word.now ∷ []) c.loop-word.turns.items c.add_turn.new.turns.items c.in_ok-add_turn.ensures.ok).1;
    }

pub returns-in_err-add_turn-clause-err : goal.returns-in_err-add_turn-clause-err
returns-in_err-add_turn-clause-err c =
    let t =
    YieldsList-turn
    (YieldsList-at c.into_iter-word-iterator.ensures.into_iter_gives
    (YieldsList-from_take_while _ (λ (word : List ℕ). not (begins_comment word))
    (YieldsList-from_filter _ (λ (word : List ℕ). not (length word == 0))
    (YieldsList-from_slice_split _ is_blank c.args.line.now (cc) (cc) (cc) (λ x r q k. search (rules, tests)))
    c.filter.ensures.closure (λ x r q k. search (rules, tests)))
    c.take_while-word-items.ensures.closure c.take_while-word-items.ensures.done (λ x r q k. search (rules, tests))))
    c.loop-word.yielded _ c.loop-word.yielded_by _ _ c.in-Some.word c.in-Some.is c.next.ensures.steps in
    let so =
    YieldsList-so_far
    (YieldsList-at c.into_iter-word-iterator.ensures.into_iter_gives
    (YieldsList-from_take_while _ (λ (word : List ℕ). not (begins_comment word))
    (YieldsList-from_filter _ (λ (word : List ℕ). not (length word == 0))
    (YieldsList-from_slice_split _ is_blank c.args.line.now (cc) (cc) (cc) (λ x r q k. search (rules, tests)))
    c.filter.ensures.closure (λ x r q k. search (rules, tests)))
    c.take_while-word-items.ensures.closure c.take_while-word-items.ensures.done (λ x r q k. search (rules, tests))))
    c.loop-word.yielded _ c.loop-word.yielded_by in
    let all = at_item (turn_words c.args.line.now) (map (λ word. word.now) c.loop-word.yielded) (length c.loop-word.yielded) c.in-Some.word.now so t.0 t.1 in
    let failed = err_from_is_err_and c.from_residual.result c.from_residual.ensures.1 in
    rw (failed.1, failed.2, all) (fails_behind c.args.cpus c.in_err-add_turn.field-0.0 (map (λ word. word.now) c.loop-word.yielded) (c.in-Some.word.now ∷ []) _ c.args.turns.now.items c.loop-word.turns.items c.loop-word.invariant.turns c.in_err-add_turn.ensures.err)

pub returns-clause-ok : goal.returns-clause-ok
returns-clause-ok c =
    let t =
    YieldsList-end
    (YieldsList-at c.into_iter-word-iterator.ensures.into_iter_gives
    (YieldsList-from_take_while _ (λ (word : List ℕ). not (begins_comment word))
    (YieldsList-from_filter _ (λ (word : List ℕ). not (length word == 0))
    (YieldsList-from_slice_split _ is_blank c.args.line.now (cc) (cc) (cc) (λ x r q k. search (rules, tests)))
    c.filter.ensures.closure (λ x r q k. search (rules, tests)))
    c.take_while-word-items.ensures.closure c.take_while-word-items.ensures.done (λ x r q k. search (rules, tests))))
    c.loop-word.yielded _ c.loop-word.yielded_by _ _ c.in-None.is c.next.ensures.steps in
    subst (λ (ws : List (List ℕ)). AddsTurns c.args.cpus ws c.args.turns.now.items c.loop-word.turns.items) t.0 c.loop-word.invariant.turns
