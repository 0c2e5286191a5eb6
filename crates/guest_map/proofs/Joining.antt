-- Joining runs wherever one goes on with another.
use Rattle.std.proofs.Common.{◌≡◌, ◌≢◌, ℕ, ◌+◌, ◌<◌, ◌≤◌, Bool, true, false, cond, List, [], ◌∷◌, ◌++◌, length, get_or, take, find, Option, Some, None, refl, sym, ap, subst, ◌∙◌, arith}
use Rattle.std.specs.Prelude.{◌||◌}
use Rattle.std.specs.Option.{option_map, option_or}
use Rattle.std.specs.List.{All, AllPairs}
use Rattle.std.proofs.lemmas.Bool.Decides.{nat_tests}
use Rattle.std.proofs.lemmas.List.{get_or_default, take_more}
use Rattle.std.proofs.lemmas.List.Elements.{All-push}
use Rattle.std.proofs.lemmas.List.{length-append}
use Rattle.std.proofs.Math.ListN.{get_or-append}
use Rattle.std.proofs.Math.Seq.{get_or-append_seam}
use Rattle.std.proofs.lemmas.List.Quantifiers.{all_pairs_push}
use Rattle.std.proofs.lemmas.List.Folds.{find-append}
use Rattle.guest_base.specs.declared.memory.PageState.{PageState}
use Rattle.guest_base.specs.declared.memory.PageRun.{PageRun}
use Rattle.event_core.specs.Runs.{run_holds, run_end, state_in, GoesBefore, AreMaximalRuns, grown}
use Rattle.guest_map.specs.Ram.{AreOrdered, AreBelow, IsPushed}

-- what was seen, joined: the runs that are done, and the last one, which may still grow
pub record Joins (seen runs : List PageRun) (last : PageRun) : Type 0 where
  pub each : (page : ℕ) → state_in (runs ++ last ∷ []) page ≡ state_in seen page
  pub some : All (λ (run : PageRun). 0 < run.pages.count) runs
  pub last_some : 0 < last.pages.count
  pub rise : AllPairs GoesBefore runs
  pub before : All (λ (run : PageRun). GoesBefore run last) runs

state_or : (a b : Option PageRun) → option_map (λ (run : PageRun). run.state) (option_or a b) ≡ option_or (option_map (λ (run : PageRun). run.state) a) (option_map (λ (run : PageRun). run.state) b)
state_or (Some x) b = refl
state_or None b = refl

state_one : (b : Bool) (x : PageRun) → option_map (λ (run : PageRun). run.state) (cond b (Some x) None) ≡ cond b (Some x.state) None
state_one true x = refl
state_one false x = refl

-- a page's state with one more run
pub state_push : (xs : List PageRun) (x : PageRun) (page : ℕ) → state_in (xs ++ x ∷ []) page ≡ option_or (state_in xs page) (cond (run_holds page x) (Some x.state) None)
state_push xs x page =
    ap (option_map (λ (run : PageRun). run.state)) (find-append (run_holds page) xs (x ∷ []))
    ∙ state_or (find (run_holds page) xs) (find (run_holds page) (x ∷ []))
    ∙ ap (option_or (state_in xs page)) (state_one (run_holds page x) x)

grown_holds : (last next : PageRun) (page : ℕ) → run_end last ≡ next.pages.first → run_holds page (grown last next) ≡ (run_holds page last || run_holds page next)
grown_holds last next page meets = grind (arith, nat_tests)

grown_state : (done seen : Option PageState) (l n : Bool) (s : PageState) → option_or done (cond l (Some s) None) ≡ seen → option_or done (cond (l || n) (Some s) None) ≡ option_or seen (cond n (Some s) None)
grown_state (Some a) seen l n s e = rw (← e) refl
grown_state None seen true n s e = rw (← e) refl
grown_state None seen false n s e = rw (← e) refl

pub joins_grow : (seen runs : List PageRun) (last next : PageRun) → run_end last ≡ next.pages.first → last.state ≡ next.state → Joins seen runs last → Joins (seen ++ next ∷ []) runs (grown last next)
joins_grow seen runs last next meets same joins = record {
  each = λ page.
      state_push runs (grown last next) page
      ∙ ap (λ (b : Bool). option_or (state_in runs page) (cond b (Some last.state) None)) (grown_holds last next page meets)
      ∙ grown_state (state_in runs page) (state_in seen page) (run_holds page last) (run_holds page next) last.state (sym (state_push runs last page) ∙ joins.each page)
      ∙ ap (λ (s : PageState). option_or (state_in seen page) (cond (run_holds page next) (Some s) None)) same
      ∙ sym (state_push seen next page);
  some = joins.some;
  last_some = omega (arith, joins.last_some);
  rise = joins.rise;
  before = λ k d lt. record { ends = (joins.before k d lt).ends; differs = (joins.before k d lt).differs };
}

pub joins_push : (seen runs : List PageRun) (last next : PageRun) → run_end last ≤ next.pages.first → (run_end last ≡ next.pages.first → last.state ≢ next.state) → 0 < next.pages.count → Joins seen runs last → Joins (seen ++ next ∷ []) (runs ++ last ∷ []) next
joins_push seen runs last next ends differs some joins = record {
  each = λ page.
      state_push (runs ++ last ∷ []) next page
      ∙ ap (λ (o : Option PageState). option_or o (cond (run_holds page next) (Some next.state) None)) (joins.each page)
      ∙ sym (state_push seen next page);
  some = All-push (λ (run : PageRun). 0 < run.pages.count) runs last joins.some joins.last_some;
  last_some = some;
  rise = all_pairs_push GoesBefore runs last joins.rise joins.before;
  before = All-push (λ (run : PageRun). GoesBefore run next) runs last
      (λ k d lt. record { ends = omega (arith, (joins.before k d lt).ends, joins.last_some, ends); differs = λ at. absurd (omega (arith, at, (joins.before k d lt).ends, joins.last_some, ends)) })
      (record { ends = ends; differs = differs });
}

pub joins_end : (seen runs : List PageRun) (last : PageRun) → Joins seen runs last → AreMaximalRuns (state_in seen) (runs ++ last ∷ [])
joins_end seen runs last joins = record {
  each = joins.each;
  some = All-push (λ (run : PageRun). 0 < run.pages.count) runs last joins.some joins.last_some;
  rise = all_pairs_push GoesBefore runs last joins.rise joins.before;
}

pub no_runs : AreMaximalRuns (state_in []) []
no_runs = record { each = λ page. refl; some = λ k d lt. absurd (omega (arith, lt)); rise = λ i j d lt up. absurd (omega (arith, up)) }

-- the last of maximal runs may still grow
joins_again : (runs : List PageRun) (last : PageRun) → AreMaximalRuns (state_in (runs ++ last ∷ [])) (runs ++ last ∷ []) → Joins (runs ++ last ∷ []) runs last
joins_again runs last are =
    let n = length-append runs (last ∷ []) in
    record {
      each = λ page. refl;
      some = λ k d lt. subst (λ (run : PageRun). 0 < run.pages.count) (get_or-append runs (last ∷ []) d k lt) (are.some k d (omega (arith, n, lt)));
      last_some = subst (λ (run : PageRun). 0 < run.pages.count) (get_or-append_seam runs last [] last) (are.some (length runs) last (omega (arith, n)));
      rise = λ i j d lt up. subst (λ (run : PageRun). GoesBefore run (get_or runs j d)) (get_or-append runs (last ∷ []) d i (omega arith))
          (subst (λ (run : PageRun). GoesBefore (get_or (runs ++ last ∷ []) i d) run) (get_or-append runs (last ∷ []) d j up) (are.rise i j d lt (omega (arith, n, up))));
      before = λ k d lt. subst (λ (run : PageRun). GoesBefore run last) (get_or-append runs (last ∷ []) d k lt)
          (subst (λ (run : PageRun). GoesBefore (get_or (runs ++ last ∷ []) k d) run) (get_or-append_seam runs last [] d) (are.rise k (length runs) d lt (omega (arith, n))));
    }

ends_push : (runs : List PageRun) (last : PageRun) (page : ℕ) → AreBelow (run_end last) runs → run_end last ≤ page → AreBelow page (runs ++ last ∷ [])
ends_push runs last page below le =
    All-push (λ (run : PageRun). run_end run ≤ page) runs last (λ k d lt. omega (arith, below k d lt, le)) le

pub last_ends : (runs : List PageRun) (last : PageRun) (page : ℕ) → AreBelow page (runs ++ last ∷ []) → run_end last ≤ page
last_ends runs last page below =
    subst (λ (run : PageRun). run_end run ≤ page) (get_or-append_seam runs last [] last) (below (length runs) last (omega (arith, length-append runs (last ∷ []))))

before_below : (runs : List PageRun) (last : PageRun) → 0 < last.pages.count → All (λ (run : PageRun). GoesBefore run last) runs → AreBelow (run_end last) runs
before_below runs last some before = λ k d lt. omega (arith, (before k d lt).ends, some)

pub pushed_grown : (runs : List PageRun) (last next : PageRun) → run_end last ≡ next.pages.first → last.state ≡ next.state
    → AreMaximalRuns (state_in (runs ++ last ∷ [])) (runs ++ last ∷ [])
    → IsPushed (runs ++ last ∷ []) next (runs ++ grown last next ∷ [])
pushed_grown runs last next meets same are =
    let joins = joins_again runs last are in
    let more = joins_grow (runs ++ last ∷ []) runs last next meets same joins in
    record {
      maximal = joins_end ((runs ++ last ∷ []) ++ next ∷ []) runs (grown last next) more;
      below = ends_push runs (grown last next) (run_end next) (before_below runs (grown last next) more.last_some more.before) (omega (arith, meets));
    }

pub pushed_behind : (runs : List PageRun) (last next : PageRun) → (run_end last ≡ next.pages.first → last.state ≢ next.state) → run_end last ≤ next.pages.first
    → 0 < next.pages.count → AreMaximalRuns (state_in (runs ++ last ∷ [])) (runs ++ last ∷ [])
    → IsPushed (runs ++ last ∷ []) next ((runs ++ last ∷ []) ++ next ∷ [])
pushed_behind runs last next differs ends some are =
    let more = joins_push (runs ++ last ∷ []) runs last next ends differs some (joins_again runs last are) in
    record {
      maximal = joins_end ((runs ++ last ∷ []) ++ next ∷ []) (runs ++ last ∷ []) next more;
      below = ends_push (runs ++ last ∷ []) next (run_end next) (before_below (runs ++ last ∷ []) next some more.before) (omega arith);
    }

-- the first of ordered runs, joined: all later ones lie behind them
pub record AreJoined (sorted : List PageRun) (done : ℕ) (runs : List PageRun) : Type 0 where
  pub maximal : AreMaximalRuns (state_in (take done sorted)) runs
  pub below : (k : ℕ) (d : PageRun) → done ≤ k → k < length sorted → AreBelow (get_or sorted k d).pages.first runs

-- they are maximal by their own states
pub by_itself : (sorted : List PageRun) (done : ℕ) (runs : List PageRun) → AreJoined sorted done runs → AreMaximalRuns (state_in runs) runs
by_itself sorted done runs are = record { each = λ page. refl; some = are.maximal.some; rise = are.maximal.rise }

pub none_joined : (sorted : List PageRun) → AreJoined sorted 0 []
none_joined sorted = record { maximal = no_runs; below = λ k d le lt i e h. absurd (omega (arith, h)) }

pub one_joined : (sorted : List PageRun) (done : ℕ) (old new : List PageRun) (d : PageRun) → done < length sorted → AreOrdered sorted
    → AreJoined sorted done old → IsPushed old (get_or sorted done d) new → AreJoined sorted (done + 1) new
one_joined sorted done old new d lt ordered are pushed =
    let next = get_or sorted done d in
    record {
      maximal = record {
        each = λ page.
            pushed.maximal.each page
            ∙ state_push old next page
            ∙ ap (λ (o : Option PageState). option_or o (cond (run_holds page next) (Some next.state) None)) (are.maximal.each page)
            ∙ sym (state_push (take done sorted) next page)
            ∙ sym (ap (λ (xs : List PageRun). state_in xs page) (take_more sorted done d lt));
        some = pushed.maximal.some;
        rise = pushed.maximal.rise;
      };
      below = λ k e le lt' i x h.
          (let pair : run_end next ≤ (get_or sorted k d).pages.first = ordered.rise done k d (omega (arith, le)) lt' in
          let later : run_end next ≤ (get_or sorted k e).pages.first = subst (λ (r : PageRun). run_end next ≤ r.pages.first) (get_or_default sorted k d e lt') pair in
          omega (arith, pushed.below i x h, later));
    }
