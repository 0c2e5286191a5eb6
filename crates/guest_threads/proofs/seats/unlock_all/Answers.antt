use Rattle.std.proofs.Common.{◌≡◌, ℕ, All, Any, sym, ◌∙◌, subst, get_or, length, arith}
use Rattle.std.specs.Prelude.{vec_len}
use Rattle.std.proofs.lemmas.List.Elements.{All-weaker}
use Rattle.std.proofs.lemmas.Option.{slice_get-get_or}
use Rattle.claim_lock.specs.Rule.{nobody}
use Rattle.claim_lock.specs.Seen.{LockSeen, PassSeen}
use Rattle.guest_steps.specs.Ground.{ground_of}
use Rattle.guest_threads.specs.declared.locks.Passes.{Passes}
use Rattle.guest_threads.specs.Dealt.{AreAllOf}
use Rattle.guest_threads.proofs.LockLemmas.{area-all-of, areas-counts, closed-seen, closed-stand, found-all, memory-numbers, memory-tables, risen-all}
use Rattle.guest_threads.proofs.seats.unlock_all.Goals as goal

pub gather-requires-clause-counts : goal.gather-requires-clause-counts
gather-requires-clause-counts g c =
    All-weaker (λ (p : Passes). length p.areas.items ≡ length c.args.locks.areas.items) (λ (p : Passes). length p.areas.items ≡ vec_len c.args.homes.areas) (λ p is. is ∙ sym c.requires.room.count) c.args.passes.items
    (areas-counts g.T.Processor.seen g.T.Processor.stands c.args.locks c.args.passes.items c.args.processors.now.items c.requires.seated)

pub close-memory-requires-clause-lock : goal.close-memory-requires-clause-lock
close-memory-requires-clause-lock g c =
    subst (All (λ (p : PassSeen). p.table ≡ c.args.locks.memory.table)) (sym c.gather.ensures.memory)
    (memory-tables g.T.Processor.seen g.T.Processor.stands c.args.locks c.args.passes.items c.args.processors.now.items c.requires.seated)

pub close-memory-requires-clause-all : goal.close-memory-requires-clause-all
close-memory-requires-clause-all g c = λ cpu below.
    subst (Any (λ (p : PassSeen). p.known.number ≡ cpu)) (sym c.gather.ensures.memory)
    (memory-numbers g.T.Processor.seen g.T.Processor.stands c.args.locks c.args.passes.items c.args.processors.now.items c.requires.seated cpu below)

pub open_areas-areas-requires-clause-all : goal.open_areas-areas-requires-clause-all
open_areas-areas-requires-clause-all g c = λ n d e low.
    let lock = get_or c.args.locks.areas.items n d in
    let x : PassSeen = record { table = lock.table; known = nobody } in
    subst (AreAllOf lock) (sym (c.gather.ensures.areas n e x (omega (arith, low, c.requires.room.count, c.args.locks.areas.ok.0))))
    (area-all-of g.T.Processor.seen g.T.Processor.stands c.args.locks c.args.passes.items c.args.processors.now.items c.requires.seated n lock
    (slice_get-get_or c.args.locks.areas.items n d (omega (arith, low, c.args.locks.areas.ok.0))) x)

pub returns-clause-stand : goal.returns-clause-stand
returns-clause-stand g c =
    let laws = g.met.T.Processor g.world.𝓛 g.world.𝓜 g.world.𝓡 (λ s allowed. allowed, λ patient. patient, λ alone. alone, λ cuts. cuts) in
    let memory = c.close-memory.result in
    let areas = c.open_areas-areas.result in
    let away = c.gather.new.areas in
    let count : length c.args.locks.areas.items ≡ length areas.items = omega (arith, c.open_areas-areas.ensures.count, areas.ok.0, c.args.locks.areas.ok.0) in
    let homes : length away.items ≡ length areas.items = omega (arith, c.gather.ensures.count, c.requires.room.count, away.ok.0, count) in
    closed-stand g.T.Processor.seen g.T.Processor.stands laws.told laws.left_standing c.args.locks c.args.passes.items c.args.processors.now.items (ground_of memory areas.items) c.requires.seated count
    (found-all c.args.passes.items c.gather.new.memory.items away.items memory areas.items c.gather.ensures.memory homes (λ n d e low. c.gather.ensures.areas n d e (omega (arith, low, count, c.requires.room.count))) c.close-memory.ensures
    (λ n d e low. c.open_areas-areas.ensures.opened n d e (omega (arith, low, count, c.args.locks.areas.ok.0))))
    c.show_rising.ensures.waiting c.show_rising.ensures.rising (risen-all away.items areas.items homes
    (λ n d e low. c.open_areas-areas.ensures.opened n d e (omega (arith, low, count, c.args.locks.areas.ok.0))))

pub returns-clause-seen : goal.returns-clause-seen
returns-clause-seen g c =
    let memory = c.close-memory.result in
    let areas = c.open_areas-areas.result in
    let away = c.gather.new.areas in
    let count : length c.args.locks.areas.items ≡ length areas.items = omega (arith, c.open_areas-areas.ensures.count, areas.ok.0, c.args.locks.areas.ok.0) in
    let homes : length away.items ≡ length areas.items = omega (arith, c.gather.ensures.count, c.requires.room.count, away.ok.0, count) in
    closed-seen g.T.Processor.seen g.T.Processor.stands c.args.locks c.args.passes.items c.args.processors.now.items (ground_of memory areas.items) c.requires.seated count
    (found-all c.args.passes.items c.gather.new.memory.items away.items memory areas.items c.gather.ensures.memory homes (λ n d e low. c.gather.ensures.areas n d e (omega (arith, low, count, c.requires.room.count))) c.close-memory.ensures
    (λ n d e low. c.open_areas-areas.ensures.opened n d e (omega (arith, low, count, c.args.locks.areas.ok.0))))
