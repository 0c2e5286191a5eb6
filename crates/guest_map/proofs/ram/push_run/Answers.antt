use Rattle.std.proofs.Common.{◌≡◌, ◌≢◌, ◌∷◌, ◌++◌, [], refl}
use Rattle.std.proofs.lemmas.Bool.{false≢true}
use Rattle.event_core.specs.Runs.{run_end}
use Rattle.guest_map.proofs.Joining.{pushed_behind, pushed_grown, last_ends}
use Rattle.guest_map.proofs.ram.push_run.Goals as goal

pub returns-then-not-goes_on : goal.returns-then-not-goes_on
returns-then-not-goes_on c =
    let runs = c.pop.new.self.items in
    let last = c.in-Some.last in
    let old : c.args.runs.now.items ≡ runs ++ last ∷ [] = c.in-Some.ensures.items in
    let differs : run_end last ≡ c.args.next.pages.first → last.state ≢ c.args.next.state = λ at same. false≢true (c.if-not-goes_on.ensures.1 (at, same)) in
    let pushed =
    pushed_behind runs last c.args.next differs (last_ends runs last c.args.next.pages.first (rw old at c.requires.below)) c.requires.some (rw old at c.requires.maximal)
    in
    rw (c.in_ok-push-3.ensures.items, c.in_ok-push-2.ensures.items, old) pushed

pub returns : goal.returns
returns c =
    let runs = c.pop.new.self.items in
    let last = c.in-Some.last in
    let old : c.args.runs.now.items ≡ runs ++ last ∷ [] = c.in-Some.ensures.items in
    let facts : (run_end last ≡ c.args.next.pages.first) × (last.state ≡ c.args.next.state) = c.if-not-goes_on.ensures.0 refl in
    rw (c.in_ok-push-4.ensures.items, c.grown.ensures, old) (pushed_grown runs last c.args.next facts.0 facts.1 (rw old at c.requires.maximal))
