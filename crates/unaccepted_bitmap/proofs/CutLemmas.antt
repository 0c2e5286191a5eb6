-- Runs by a map, cut by a table.
use Rattle.std.proofs.Common.{◌≡◌, ℕ, ◌+◌, ◌-◌, ◌^◌, ◌<◌, ◌≤◌, Bool, true, false, cond, List, [], ◌∷◌, length, get_or, take, Option, Some, None, inl, inr, refl, sym, ap, subst, ◌∙◌, arith}
use Rattle.std.specs.Prelude.{◌&&◌, ◌||◌, ◌==◌, if◌then◌else◌, nat_le}
use Rattle.std.specs.Option.{option_map, option_or}
use Rattle.std.specs.List.{All, AllPairs}
use Rattle.std.proofs.lemmas.Bool.{cases_Bool, cases_lt, eqb-true}
use Rattle.std.proofs.lemmas.Bool.Decides.{nat_tests}
use Rattle.std.proofs.lemmas.List.{take_more, get_or_default}
use Rattle.std.proofs.Math.Seq.{take-length}
use Rattle.std.proofs.lemmas.List.Elements.{All-nil, All-cons}
use Rattle.guest_base.specs.declared.memory.PageState.{PageState}
use Rattle.guest_base.specs.declared.memory.PageState.TheVariants.{Pending, Accepted}
use Rattle.guest_base.specs.declared.memory.PageRun.{PageRun}
use Rattle.event_core.specs.declared.boot.Descriptor.{Descriptor}
use Rattle.event_core.specs.Map.{first_state, unaccepted_page, ram_page, is_ram, is_unaccepted, holds_page, IsDescriptor}
use Rattle.event_core.proofs.MapLemmas.{first_none}
use Rattle.unaccepted_bitmap.proofs.StubLemmas.{in_range_is}
use Rattle.event_core.specs.Runs.{state_in, run_end, run_holds, GoesBefore, AreMaximalRuns}
use Rattle.event_core.specs.Table.{Bits, marks_page}
use Rattle.event_core.specs.Given.{first_by}
use Rattle.guest_map.specs.Ram.{AreBelow, IsPushed}
use Rattle.guest_map.proofs.Joining.{state_push, no_runs}
use Rattle.unaccepted_bitmap.specs.Fits.{state_by, cut_state, IsCut}

-- the first runs by the map, cut
pub record IsCutSoFar (table : Bits) (by_map : List PageRun) (done : ℕ) (runs : List PageRun) : Type 0 where
  pub maximal : AreMaximalRuns (state_in runs) runs
  pub below : (k : ℕ) (d : PageRun) → done ≤ k → k < length by_map → AreBelow (get_or by_map k d).pages.first runs
  pub each : (page : ℕ) → state_in runs page ≡ option_map (state_by table page) (state_in (take done by_map) page)

abbrev first_pages : PageRun → ℕ → PageRun
first_pages run count = record { pages = record { first = run.pages.first; count = count }; state = run.state }

abbrev one : ℕ → PageState → PageRun
one page state = record { pages = record { first = page; count = 1 }; state = state }

or_assoc : (a b c : Option PageState) → option_or (option_or a b) c ≡ option_or a (option_or b c)
or_assoc (Some x) b c = refl
or_assoc None b c = refl

or_none : (a : Option PageState) → option_or a None ≡ a
or_none (Some x) = refl
or_none None = refl

one_more : (first count page at : ℕ) (s : PageState) → at ≡ first + count → (f : ℕ → PageState) →
    option_or (if run_holds page (record { pages = record { first = first; count = count }; state = s }) then Some (f page) else None) (if run_holds page (one at (f at)) then Some (f at) else None)
    ≡ (if run_holds page (record { pages = record { first = first; count = count + 1 }; state = s }) then Some (f page) else None)
one_more first count page at s is f =
    let few : PageRun = record { pages = record { first = first; count = count }; state = s } in
    let more : PageRun = record { pages = record { first = first; count = count + 1 }; state = s } in
    elim (cases_Bool (run_holds page few)) [
      | inl t ↦ (let held : run_holds page more ≡ true = grind (arith, nat_tests, t) in rw (t, held) refl)
      | inr f' ↦
          elim (cases_Bool (run_holds page (one at (f at)))) [
            | inl t ↦
                (let held : run_holds page more ≡ true = grind (arith, nat_tests, t, is) in
                let same : page ≡ at = grind (arith, nat_tests, t) in
                rw (f', t, held) (ap (λ p. Some (f p)) (sym same)))
            | inr g ↦ (let not_held : run_holds page more ≡ false = grind (arith, nat_tests, f', g, is) in rw (f', g, not_held) refl)
          ]
    ]

pub cut_none : (table : Bits) (old : List PageRun) (run : PageRun) → AreMaximalRuns (state_in old) old → AreBelow run.pages.first old → IsCut table old (first_pages run 0) old
cut_none table old run maximal below = record {
  maximal = maximal;
  below = λ k d lt. omega (arith, below k d lt);
  each = λ page. (let none : run_holds page (first_pages run 0) ≡ false = grind (arith, nat_tests) in rw none (sym (or_none (state_in old page))));
}

pub cut_more : (table : Bits) (old mid new : List PageRun) (run : PageRun) (page : ℕ) → run.pages.first ≤ page
    → IsCut table old (first_pages run (page - run.pages.first)) mid
    → IsPushed mid (one page (state_by table page run.state)) new
    → IsCut table old (first_pages run (page + 1 - run.pages.first)) new
cut_more table old mid new run page low cut pushed =
    let count = page - run.pages.first in
    let next : PageRun = one page (state_by table page run.state) in
    let more : count + 1 ≡ page + 1 - run.pages.first = omega (arith, low) in
    let at : page ≡ run.pages.first + count = omega (arith, low) in
    let made : IsCut table old (first_pages run (count + 1)) new = record {
      maximal = record { each = λ p. refl; some = pushed.maximal.some; rise = pushed.maximal.rise };
      below = λ k d lt. omega (arith, pushed.below k d lt, low);
      each = λ p.
          pushed.maximal.each p
          ∙ state_push mid next p
          ∙ ap (λ (o : Option PageState). option_or o (cond (run_holds p next) (Some next.state) None)) (cut.each p)
          ∙ or_assoc (state_in old p) (cut_state table (first_pages run count) p) (cond (run_holds p next) (Some next.state) None)
          ∙ ap (option_or (state_in old p)) (one_more run.pages.first count p page run.state at (λ q. state_by table q run.state));
    } in
    subst (λ n. IsCut table old (first_pages run n) new) more made

pub so_far_start : (table : Bits) (by_map : List PageRun) → IsCutSoFar table by_map 0 []
so_far_start table by_map = record { maximal = no_runs; below = λ k d le lt i e h. absurd (omega (arith, h)); each = λ page. refl }

map_or : (f : PageState → PageState) (o : Option PageState) (b : Bool) (s : PageState) → option_or (option_map f o) (if b then Some (f s) else None) ≡ option_map f (option_or o (cond b (Some s) None))
map_or f (Some x) b s = refl
map_or f None true s = refl
map_or f None false s = refl

pub so_far_more : (table : Bits) (by_map old new : List PageRun) (done : ℕ) (d : PageRun) → done < length by_map → AllPairs GoesBefore by_map
    → IsCutSoFar table by_map done old → IsCut table old (get_or by_map done d) new → IsCutSoFar table by_map (done + 1) new
so_far_more table by_map old new done d lt rise so_far cut =
    let run = get_or by_map done d in
    record {
      maximal = cut.maximal;
      below = λ k e le lt' i x h.
          (let pair : run_end run ≤ (get_or by_map k d).pages.first = (rise done k d (omega (arith, le)) lt').ends in
          let later : run_end run ≤ (get_or by_map k e).pages.first = subst (λ (r : PageRun). run_end run ≤ r.pages.first) (get_or_default by_map k d e lt') pair in
          omega (arith, cut.below i x h, later));
      each = λ page.
          cut.each page
          ∙ ap (λ (o : Option PageState). option_or o (cut_state table run page)) (so_far.each page)
          ∙ map_or (state_by table page) (state_in (take done by_map) page) (run_holds page run) run.state
          ∙ sym (ap (option_map (state_by table page)) (state_push (take done by_map) run page))
          ∙ sym (ap (λ (xs : List PageRun). option_map (state_by table page) (state_in xs page)) (take_more by_map done d lt));
    }

-- unaccepted memory is RAM
one_ram : (d : Descriptor) (page : ℕ) → (is_unaccepted d && holds_page page d) ≡ true → (is_ram d && holds_page page d) ≡ true
one_ram d page h =
    elim (cases_Bool (is_unaccepted d)) [
      | inl t ↦
          (let kind : d.kind ≡ 15 = eqb-true d.kind 15 t in
          let ram : is_ram d ≡ true = ap (λ k. (nat_le 1 k && nat_le k 4) || ((k == 7) || (k == 15))) kind in
          rw ram (rw t at h))
      | inr f ↦ absurd (let no : false ≡ true = rw f at h in cc)
    ]

any_ram : (map : List Descriptor) (page : ℕ) → unaccepted_page map page ≡ true → ram_page map page ≡ true
any_ram [] page h = h
any_ram (d ∷ ds) page h =
    elim (cases_Bool (is_unaccepted d && holds_page page d)) [
      | inl t ↦ (let here = one_ram d page t in rw here refl)
      | inr f ↦
          (let later : ram_page ds page ≡ true = any_ram ds page (rw f at h) in
          elim (cases_Bool (is_ram d && holds_page page d)) [ inl t ↦ rw t refl | inr g ↦ rw g later ])
    ]

by_bools : (u r m : Bool) (s : PageState) → (u ≡ true → r ≡ true) → s ≡ (if m then Pending else Accepted) → (f : PageState → PageState) → f Pending ≡ s → f Accepted ≡ Accepted
    → option_map f (if u then Some Pending else (if r then Some Accepted else None)) ≡ (if u && m then Some Pending else (if r then Some Accepted else None))
by_bools true r true s ram is f pending accepted = ap Some (pending ∙ is)
by_bools true r false s ram is f pending accepted = rw (ram refl) (ap Some (pending ∙ is))
by_bools false true m s ram is f pending accepted = ap Some accepted
by_bools false false m s ram is f pending accepted = refl

pub so_far_end : (table : Bits) (map : List Descriptor) (by_map runs : List PageRun) → AreMaximalRuns (first_state map) by_map → IsCutSoFar table by_map (length by_map) runs
    → AreMaximalRuns (first_by map (Some table)) runs
so_far_end table map by_map runs are so_far = record {
  each = λ page.
      so_far.each page
      ∙ ap (λ (xs : List PageRun). option_map (state_by table page) (state_in xs page)) (take-length by_map)
      ∙ ap (option_map (state_by table page)) (are.each page)
      ∙ by_bools (unaccepted_page map page) (ram_page map page) (marks_page table page) (if marks_page table page then Pending else Accepted) (any_ram map page) refl (state_by table page) refl refl;
  some = so_far.maximal.some;
  rise = so_far.maximal.rise;
}

-- ---- runs by the map end within memory

none_holds : (xs : List PageRun) (page : ℕ) → state_in xs page ≡ None → All (λ (run : PageRun). run_holds page run ≡ false) xs
none_holds [] page e = All-nil (λ (run : PageRun). run_holds page run ≡ false)
none_holds (x ∷ xs) page e =
    elim (cases_Bool (run_holds page x)) [
      | inl t ↦ absurd (let some : state_in (x ∷ xs) page ≡ Some x.state = rw t refl in cc)
      | inr f ↦ All-cons (λ (run : PageRun). run_holds page run ≡ false) x xs f (none_holds xs page (rw f at e))
    ]

pub runs_low : (map : List Descriptor) (runs : List PageRun) → All IsDescriptor map → AreMaximalRuns (first_state map) runs → All (λ (run : PageRun). run_end run ≤ 2 ^ 28) runs
runs_low map runs each are = λ k d lt.
    (let run = get_or runs k d in
    elim (cases_lt (2 ^ 28) (run_end run)) [
      | inr le ↦ le
      | inl high ↦
          absurd
          (let page = run_end run - 1 in
          let some = are.some k d lt in
          let none : state_in runs page ≡ None = are.each page ∙ first_none map page each (omega (arith, high)) in
          let out : run_holds page run ≡ false = none_holds runs page none k d lt in
          let held : run_holds page run ≡ true = in_range_is run.pages.first run.pages.count page (omega (arith, some)) (omega (arith, some)) in
          cc)
    ])
