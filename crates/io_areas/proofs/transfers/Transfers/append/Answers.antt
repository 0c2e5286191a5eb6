use Rattle.std.proofs.Common.{◌≡◌, ℕ, ◌+◌, None, List, [], ◌∷◌, ◌++◌, max, sym, ap, ◌∙◌, arith}
use Rattle.std.specs.Prelude.{Vec}
use Rattle.std.specs.declared.alloc.Global.{Global}
use Rattle.event_core.specs.declared.entry.Place.TheVariants as place
use Rattle.event_core.specs.declared.entry.Turn.{Turn}
use Rattle.event_core.specs.declared.event.Event.{Event}
use Rattle.event_core.specs.Legal.{greatest_stamp}
use Rattle.event_core.specs.Moved.{Moved}
use Rattle.io_areas.specs.Transfers.{TransfersValue}
use Rattle.io_areas.proofs.EntryLemmas.{moved-more, stands-more}
use Rattle.io_areas.proofs.transfers.Transfers.append.Goals as goal

-- the bare entry with a stamp
abbrev stamped : ℕ → ℕ → Turn → Event → List ℕ → Moved
stamped number stamp turn event bytes = record {
  entry = record {
    stamp = stamp;
    cpu = turn.cpu;
    cmd = turn.cmd;
    place = place.Area number;
    event = event;
    reply = None;
  };
  bytes = bytes;
}

pub invariant_of-self : goal.invariant_of-self
invariant_of-self c =
    let i = c.self.inside in
    let m = stamped c.args.number c.stamp_with.new.clock c.args.turn.now c.args.event c.args.bytes.now in
    let clock = c.stamp_with.ensures.clock in
    stands-more i.entries c.push_reserved.new.self i.moves c.push_reserved-2.new.self i.spare c.replace-spare.new.dest i.last c.stamp_with.new.last i.room m
    c.push_reserved.ensures.items
    (c.push_reserved-2.ensures.items ∙ ap (λ bytes. i.moves.items ++ bytes ∷ []) c.filled.ensures)
    (ap (λ (v : Vec ℕ Global). v.items) c.replace-spare.ensures.after ∙ c.new.ensures.items)
    (c.stamp_with.ensures.last ∙ sym clock)
    (omega (arith, clock))
    c.self.invariant

pub returns-clause-moved : goal.returns-clause-moved
returns-clause-moved c =
    let i = c.self.inside in
    let old = c.args.self.now in
    let turn = c.args.turn.now in
    let last : i.last ≡ greatest_stamp old.moved = c.self.invariant.last_is ∙ ap (λ (t : TransfersValue). greatest_stamp t.moved) c.self.view_is in
    let stamp : c.stamp_with.new.clock ≡ max turn.clock (greatest_stamp old.moved) + 1 = c.stamp_with.ensures.clock ∙ ap (λ n. max turn.clock n + 1) last in
    let m : ℕ → Moved = λ n. stamped c.args.number n turn c.args.event c.args.bytes.now in
    moved-more i.entries.items c.push_reserved.new.self.items i.moves.items c.push_reserved-2.new.self.items (m c.stamp_with.new.clock)
    c.push_reserved.ensures.items
    (c.push_reserved-2.ensures.items ∙ ap (λ bytes. i.moves.items ++ bytes ∷ []) c.filled.ensures)
    c.self.invariant.beside
    ∙ ap (λ (t : TransfersValue). t.moved ++ m c.stamp_with.new.clock ∷ []) c.self.view_is
    ∙ ap (λ n. old.moved ++ m n ∷ []) stamp
