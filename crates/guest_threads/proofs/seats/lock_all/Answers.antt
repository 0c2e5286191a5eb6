use Rattle.std.proofs.Common.{◌≡◌, ℕ, sym, length, arith}
use Rattle.claim_lock.specs.Knows.{first_known}
use Rattle.claim_lock.specs.Seen.{PassSeen}
use Rattle.event_core.specs.declared.entry.Place.TheVariants.{Memory}
use Rattle.memory_core.specs.UnderLock.{fixed_of, part_of}
use Rattle.guest_threads.specs.declared.locks.Locks.{Locks}
use Rattle.guest_threads.proofs.LockLemmas.{areas-empty, begun-count, dealt-made, new-seated}
use Rattle.guest_threads.proofs.seats.lock_all.Goals as goal

pub new-requires-clause-entries : goal.new-requires-clause-entries
new-requires-clause-entries g c = c.requires.first Memory

pub lock_areas-requires-clause-entries : goal.lock_areas-requires-clause-entries
lock_areas-requires-clause-entries g c = areas-empty c.args.memory c.args.areas.items c.requires.first

pub lock_areas-requires-clause-count : goal.lock_areas-requires-clause-count
lock_areas-requires-clause-count g c =
    let by : ℕ → PassSeen = λ cpu. record { table = c.in_ok-memory.memory.table; known = first_known fixed_of part_of c.len-seats.result c.args.memory cpu } in
    let count = begun-count c.in_ok-all.all.items c.in_ok-memory.passes.items c.len-seats.result by c.in_ok-all.ensures.memory c.in_ok-memory.ensures.passes in
    omega (arith, count, c.in_ok-all.all.ok.0)

pub returns-clause-seated : goal.returns-clause-seated
returns-clause-seated g c =
    let seats = c.len-seats.result in
    let locks : Locks = record { memory = c.in_ok-memory.memory; areas = c.in_ok-areas.areas } in
    let by : ℕ → PassSeen = λ cpu. record { table = c.in_ok-memory.memory.table; known = first_known fixed_of part_of seats c.args.memory cpu } in
    let begun = c.in_ok-all.all in
    let passes = c.lock_areas.new.all in
    let count = begun-count begun.items c.in_ok-memory.passes.items seats by c.in_ok-all.ensures.memory c.in_ok-memory.ensures.passes in
    let same : length passes.items ≡ length begun.items = omega (arith, c.lock_areas.ensures.all, passes.ok.0, begun.ok.0) in
    new-seated g.T.Processor.seen g.T.Processor.stands locks passes.items seats c.args.memory c.args.areas.items c.args.processors.now.items c.requires.stand c.requires.first c.requires.some (omega (arith, c.len-seats.ensures, c.args.processors.now.ok.0)) c.in_ok-memory.ensures.lock
    c.in_ok-areas.ensures.seats c.in_ok-areas.ensures.count (omega (arith, same, count))
    (dealt-made locks seats c.args.memory c.args.areas.items c.in_ok-memory.passes.items begun.items passes.items c.in_ok-memory.ensures.lock c.in_ok-memory.ensures.passes c.in_ok-all.ensures.memory same
    (λ k d low. c.in_ok-areas.ensures.memory k d (omega (arith, low, begun.ok.0))) (λ k d low. c.in_ok-areas.ensures.passes k d (omega (arith, low, begun.ok.0))))
