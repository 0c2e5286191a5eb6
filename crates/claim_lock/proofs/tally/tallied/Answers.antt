use Rattle.std.proofs.Common.{◌<◌, ℕ, [], Some, All, length, get_or, refl, ap, sym, ◌∙◌, subst, arith}
use Rattle.std.proofs.lemmas.List.Elements.{Contains-get_or}
use Rattle.event_core.specs.Moved.{Moved, made_by}
use Rattle.event_core.specs.Parted.{Fixed, Part}
use Rattle.claim_lock.specs.declared.tally.Tally.{Tally}
use Rattle.claim_lock.specs.Rule.{nobody}
use Rattle.claim_lock.specs.Seen.{PassSeen}
use Rattle.claim_lock.specs.Tallied.{Ready, nothing_fixed, numbered}
use Rattle.claim_lock.proofs.Passes.{number_of}
use Rattle.claim_lock.proofs.Passes.{count_first, at_first}
use Rattle.claim_lock.proofs.tally.tallied.Goals as goal

abbrev fixed : Tally → Fixed
fixed t = nothing_fixed

abbrev part : Tally → ℕ → Part
part t cpu = numbered (get_or t.counts cpu 0)

pub seated-requires-clause-ready : goal.seated-requires-clause-ready
seated-requires-clause-ready g c =
    λ k d below.
    let made = c.in_ok-lock.ensures.passes in
    let count = count_first fixed part c.in_ok-lock.lock.table c.args.seats c.new.result c.in_ok-lock.passes.items made in
    let at = at_first fixed part c.in_ok-lock.lock.table c.args.seats c.new.result c.in_ok-lock.passes.items made k d (omega (arith, count)) in
    subst (λ (q : PassSeen). Ready c.in_ok-lock.lock k (Some q) []) (sym at) (refl, refl, refl, sym c.in_ok-lock.ensures.lock, ap numbered (c.new.ensures.counts k (omega (arith, count))))

pub seated-requires-clause-few : goal.seated-requires-clause-few
seated-requires-clause-few g c =
    let count = count_first fixed part c.in_ok-lock.lock.table c.args.seats c.new.result c.in_ok-lock.passes.items c.in_ok-lock.ensures.passes in omega (arith, count)

pub worked-requires-clause-few : goal.worked-requires-clause-few
worked-requires-clause-few g c κs within =
    let count = count_first fixed part c.in_ok-lock.lock.table c.args.seats c.new.result c.in_ok-lock.passes.items c.in_ok-lock.ensures.passes in (
      omega (arith, count, c.in_ok-desks.ensures.count),
      omega (arith, count, c.in_ok-desks.ensures.count),
    )

pub close-requires-clause-lock : goal.close-requires-clause-lock
close-requires-clause-lock g c =
    λ k d below. let here : k < length c.worked.new.desks.items = omega (arith, c.in_ok-passes.ensures.passes) in (c.in_ok-passes.ensures.ready k d c.new.result.notes here).0

pub close-requires-clause-all : goal.close-requires-clause-all
close-requires-clause-all g c =
    λ cpu below.
    let count = count_first fixed part c.in_ok-lock.lock.table c.args.seats c.new.result c.in_ok-lock.passes.items c.in_ok-lock.ensures.passes in
    let seats = c.in_ok-lock.ensures.lock in
    let here : cpu < length c.worked.new.desks.items = omega (arith, count, c.in_ok-desks.ensures.count, c.worked.ensures.count, seats) in
    let there : cpu < length c.in_ok-passes.passes.items = omega (arith, c.in_ok-passes.ensures.passes) in
    let none : PassSeen = record { table = c.in_ok-lock.lock.table; known = nobody } in
    let has = Contains-get_or c.in_ok-passes.passes.items cpu none there in
    (has.0, get_or c.in_ok-passes.passes.items cpu none, has.1, has.2, (c.in_ok-passes.ensures.ready cpu none c.new.result.notes here).1)

pub returns-clause-count : goal.returns-clause-count
returns-clause-count g c =
    let count = count_first fixed part c.in_ok-lock.lock.table c.args.seats c.new.result c.in_ok-lock.passes.items c.in_ok-lock.ensures.passes in
    omega (arith, count, c.in_ok-desks.ensures.count, c.worked.ensures.count, c.in_ok-passes.ensures.made)

pub returns-clause-entries : goal.returns-clause-entries
returns-clause-entries g c =
    λ cpu d below.
    let count = count_first fixed part c.in_ok-lock.lock.table c.args.seats c.new.result c.in_ok-lock.passes.items c.in_ok-lock.ensures.passes in
    let here : cpu < length c.worked.new.desks.items = omega (arith, count, c.in_ok-desks.ensures.count, c.worked.ensures.count) in
    let there : cpu < length c.in_ok-passes.passes.items = omega (arith, c.in_ok-passes.ensures.passes) in
    let none : PassSeen = record { table = c.in_ok-lock.lock.table; known = nobody } in
    let ready = c.in_ok-passes.ensures.ready cpu none d here in
    let found = c.close.ensures cpu none there in
    ap (λ (n : ℕ). made_by n c.close.result.notes.items) (sym ready.1) ∙ (found.own_alone ∙ ready.2)

pub returns-clause-numbers : goal.returns-clause-numbers
returns-clause-numbers g c =
    λ cpu d below.
    let count = count_first fixed part c.in_ok-lock.lock.table c.args.seats c.new.result c.in_ok-lock.passes.items c.in_ok-lock.ensures.passes in
    let here : cpu < length c.worked.new.desks.items = omega (arith, count, c.in_ok-desks.ensures.count, c.worked.ensures.count) in
    let there : cpu < length c.in_ok-passes.passes.items = omega (arith, c.in_ok-passes.ensures.passes) in
    let none : PassSeen = record { table = c.in_ok-lock.lock.table; known = nobody } in
    let ready = c.in_ok-passes.ensures.ready cpu none d here in
    let found = c.close.ensures cpu none there in
    ap number_of (ap (λ (n : ℕ). numbered (get_or c.close.result.counts n 0)) (sym ready.1) ∙ (found.as_left ∙ ready.4))

pub returns-clause-named : goal.returns-clause-named
returns-clause-named g c =
    let count = count_first fixed part c.in_ok-lock.lock.table c.args.seats c.new.result c.in_ok-lock.passes.items c.in_ok-lock.ensures.passes in
    let here : 0 < length c.worked.new.desks.items = omega (arith, count, c.in_ok-desks.ensures.count, c.worked.ensures.count) in
    let there : 0 < length c.in_ok-passes.passes.items = omega (arith, c.in_ok-passes.ensures.passes) in
    let none : PassSeen = record { table = c.in_ok-lock.lock.table; known = nobody } in
    let ready = c.in_ok-passes.ensures.ready 0 none c.new.result.notes here in
    let found = c.close.ensures 0 none there in
    subst (λ (n : ℕ). All (λ (m : Moved). m.entry.cpu.0 < n) c.close.result.notes.items) (ready.3 ∙ c.in_ok-lock.ensures.lock) found.named
