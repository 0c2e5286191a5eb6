use Rattle.std.proofs.Common.{◌∷◌, [], List, ℕ, sym, ap, ◌∙◌, subst, rules, tests}
use Rattle.std.specs.Prelude.{◌==◌, length, map}
use Rattle.std.specs.List.{slice_split, flat_map}
use Rattle.std.proofs.lemmas.Iterator.Consumers.{YieldsList-so_far, YieldsList-turn, YieldsList-end, YieldsList-at}
use Rattle.std.proofs.lemmas.Iterator.Splits.{YieldsList-from_slice_split}
use Rattle.std.proofs.lemmas.List.{map-append}
use Rattle.std.proofs.lemmas.Result.{err_from_is_err_and}
use Rattle.guest_script.specs.Order.{turn_words, AddsTurns, words_fault, IsFirstFault}
use Rattle.guest_script.proofs.OrderLemmas.{adds_more, turns_counted, fails_behind, at_item, lines_more, lines_at, order_fails, order_read, readable}
use Rattle.guest_script.proofs.order.read_order.Goals as goal

pub loop-line-preserved : goal.loop-line-preserved
loop-line-preserved c =
    let seen : List (List ℕ) = map (λ line. line.now) c.loop-line.yielded in
    let adds = adds_more c.args.cpus (flat_map turn_words seen) (turn_words c.in-Some.line.now) [] c.loop-line.turns.items c.read_turns.new.turns.items c.loop-line.invariant.turns c.in_ok-read_turns.ensures.ok in
    record {
      turns = rw (map-append (λ line. line.now) c.loop-line.yielded (c.in-Some.line ∷ []), lines_more seen c.in-Some.line.now) adds;
      few = (turns_counted c.args.cpus (turn_words c.in-Some.line.now) c.loop-line.turns.items c.read_turns.new.turns.items c.in_ok-read_turns.ensures.ok).1;
    }

pub returns-in_err-read_turns-clause-order : goal.returns-in_err-read_turns-clause-order
returns-in_err-read_turns-clause-order c =
    let t =
    YieldsList-turn
    (YieldsList-at c.into_iter-line-iterator.ensures.into_iter_gives
    (YieldsList-from_slice_split _ (λ b. b == 10) c.args.bytes.now (cc) (cc) (cc) (λ x r q k. search (rules, tests))))
    c.loop-line.yielded _ c.loop-line.yielded_by _ _ c.in-Some.line c.in-Some.is c.next.ensures.steps in
    let so =
    YieldsList-so_far
    (YieldsList-at c.into_iter-line-iterator.ensures.into_iter_gives
    (YieldsList-from_slice_split _ (λ b. b == 10) c.args.bytes.now (cc) (cc) (cc) (λ x r q k. search (rules, tests))))
    c.loop-line.yielded _ c.loop-line.yielded_by in
    let seen : List (List ℕ) = map (λ line. line.now) c.loop-line.yielded in
    let lines = slice_split (λ b. b == 10) c.args.bytes.now in
    let all = at_item lines seen (length c.loop-line.yielded) c.in-Some.line.now so t.0 t.1 in
    let words = ap (λ ls. flat_map turn_words ls) all ∙ lines_at seen _ c.in-Some.line.now in
    let first = fails_behind c.args.cpus c.in_err-read_turns.field-0.0 (flat_map turn_words seen) (turn_words c.in-Some.line.now) _ [] c.loop-line.turns.items c.loop-line.invariant.turns c.in_err-read_turns.ensures.err in
    let failed = err_from_is_err_and c.from_residual.result c.from_residual.ensures.1 in
    rw (failed.1, failed.2) (order_fails c.args.cpus c.in_err-read_turns.field-0.0 c.args.bytes.now (subst (λ ws. IsFirstFault c.in_err-read_turns.field-0.0 (words_fault c.args.cpus 0 ws)) (sym words) first))

pub returns-clause-order : goal.returns-clause-order
returns-clause-order c =
    let t =
    YieldsList-end
    (YieldsList-at c.into_iter-line-iterator.ensures.into_iter_gives
    (YieldsList-from_slice_split _ (λ b. b == 10) c.args.bytes.now (cc) (cc) (cc) (λ x r q k. search (rules, tests))))
    c.loop-line.yielded _ c.loop-line.yielded_by _ _ c.in-None.is c.next.ensures.steps in
    rw c.from_vec.ensures (order_read c.args.cpus c.args.bytes.now c.loop-line.turns.items (subst (λ ls. AddsTurns c.args.cpus (flat_map turn_words ls) [] c.loop-line.turns.items) t.0 c.loop-line.invariant.turns))

pub returns-clause-readable : goal.returns-clause-readable
returns-clause-readable c =
    rw c.from_vec.ensures (readable c.args.cpus (flat_map turn_words (map (λ line. line.now) c.loop-line.yielded)) c.loop-line.turns.items c.loop-line.invariant.turns)
