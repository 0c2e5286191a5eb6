use Rattle.std.proofs.Common.{◌≡◌, ℕ, zero, suc, ◌<◌, Bool, true, List, [], ◌∷◌, sym, ◌∙◌, ap, refl, arith, length, map, get_or}
use Rattle.std.specs.Prelude.{◌||◌}
use Rattle.std.specs.List.{list_any}
use Rattle.guest_base.specs.declared.memory.Pages.{Pages}
use Rattle.guest_base.specs.declared.memory.PageRun.{PageRun}
use Rattle.event_core.specs.declared.boot.Descriptor.{Descriptor}
use Rattle.event_core.specs.Stub.{unaccepted}
use Rattle.event_core.proofs.EarlyLemmas.{in_pages, early_in, or-left, or-right, in-early}
use Rattle.unaccepted_bitmap.specs.StubMap.{EarlyRuns, pending_run}

-- The early pieces as runs.

any-runs : (test : Pages → Bool) (pieces : List Pages) → list_any (λ (run : PageRun). test run.pages) (map pending_run pieces) ≡ list_any test pieces
any-runs test [] = refl
any-runs test (p ∷ pieces) = ap (λ b. test p || b) (any-runs test pieces)

any-at : (test : PageRun → Bool) (runs : List PageRun) (k : ℕ) (d : PageRun) → k < length runs → test (get_or runs k d) ≡ true → list_any test runs ≡ true
any-at test [] k d within h = absurd (omega arith)
any-at test (run ∷ runs) zero d within h = or-left (test run) (list_any test runs) h
any-at test (run ∷ runs) (suc k) d within h = or-right (test run) (list_any test runs) (any-at test runs k d (omega arith) h)

-- a page of one of the early runs is in an early piece of an unaccepted descriptor
pub early-at : (map : List Descriptor) (runs : List PageRun) (k : ℕ) (d : PageRun) (page : ℕ) → EarlyRuns map runs → k < length runs → in_pages page (get_or runs k d).pages ≡ true → list_any (early_in page) (unaccepted map) ≡ true
early-at map runs k d page early within inside =
    let any = any-at (λ (run : PageRun). in_pages page run.pages) runs k d within inside in
    in-early map early.pieces page early.early
    (sym (any-runs (in_pages page) early.pieces) ∙ ap (list_any (λ (run : PageRun). in_pages page run.pages)) (sym early.are) ∙ any)
