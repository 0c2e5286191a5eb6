-- Each step on the table keeps its rule.
use Rattle.std.proofs.Common.{◌≡◌, ◌≢◌, ℕ, zero, suc, ◌+◌, ◌<◌, ◌≤◌, Bool, false, cond, eqb, List, [], ◌∷◌, ◌++◌, Option, None, Some, length, set, get_or, map, All, Any, refl, sym, ap, ◌∙◌, subst, ⊎_elim, arith, eq-eqb, ne_eqb}
use mathlib.Core.Option as core
use mathlib.Core.Option.{some, none, some-injective, some-ne-none}
use lib.ListN.{get_elem?}
use prog.Atomic.{either}
use Rattle.std.proofs.lemmas.List.Elements.{All-nil, All-cons, All-head, All-tail, All-append, All-weaker}
use Rattle.std.proofs.Math.ListN.{length-set}
use Rattle.atomic_table.specs.Table.{State, Me, Act, takes, gives, keeps, Valid, homes_after, carried_after, stepped, Allows, Splits, Joins, Enters, Final, Seen, opening}
use Rattle.atomic_table.proofs.Lists.{at_set, set_else, set_again}
use Rattle.event_core.specs.Moved.{Moved, made_by}
use Rattle.event_core.specs.Parted.{Fixed, Part}
use Rattle.claim_lock.specs.declared.known.Known.{Known}
use Rattle.claim_lock.specs.declared.view.View.{View}
use Rattle.claim_lock.specs.Knows.{Finds, MayGive, first_known, left_known}
use Rattle.claim_lock.specs.Rule.{Fits, Stands, Keeps, Holds, Wins, Releases, resting, holding, dealt, first_of, others_of}
use Rattle.claim_lock.specs.Seen.{PassSeen}
use Rattle.claim_lock.proofs.Lists.{at_end, at_only, any_map, all_unmap}
use Rattle.claim_lock.proofs.Found.{finds_still, finds_left}

module _ {S : Type 0} where
  -- who is neither the holder before a step nor after it is at rest before and after it
  pub else_held : (word word' : ℕ) (state state' : S) (cpu : ℕ) (taken : Option S) → word ≢ cpu + 1 → word' ≢ cpu + 1 → Holds word state cpu taken → Holds word' state' cpu taken
  else_held word word' state state' cpu None before after h = after
  else_held word word' state state' cpu (Some t) before after h = absurd (before h.0)

  slot_of : List (ℕ × Option S) → Option S
  slot_of [] = None
  slot_of (x ∷ xs) = x.1

  -- what a seat carries determines the state
  carried_same : (x y : S) → ◌≡◌ {A = List (ℕ × Option S)} ((0, Some x) ∷ []) ((0, Some y) ∷ []) → x ≡ y
  unfolding slot_of
  carried_same x y e = let same : Some x ≡ Some y = ap slot_of e in cc

module _ {S : Type 0} (fixed : S → Fixed) (part : S → ℕ → Part) (moved : S → List Moved) (seats : ℕ) where
  -- a step is one on the word, the slot and the views
  pub allows : (slots id : ℕ) (me : Me (Option S) (View S)) (f : ℕ → ℕ) (then : ℕ → Me (Option S) (View S) → Type 0)
      → ((word : ℕ) (home : core.Option (Option S)) (views : List (View S)) → Stands fixed part moved seats word home views → get_elem? views id ≡ some me.0
      → (w : View S) × (a : Act (Option S)) × Valid (home ∷ []) me.1 a × Keeps fixed part moved seats record { words = f word ∷ []; homes = homes_after (home ∷ []) me.1 a; views = set views id w } × then word (w, carried_after me.1 a))
      → Allows (Keeps fixed part moved seats) slots id me 0 f then
  allows slots id me f then step s kept one at fits =
      let P : State (Option S) (View S) → Type 0 = λ t. (w : View S) × (a : Act (Option S)) × Valid t.homes me.1 a × Keeps fixed part moved seats (stepped t 0 (f (get_or t.words 0 0)) id me.1 w a) × then (get_or t.words 0 0) (w, carried_after me.1 a) in
      let same : ◌≡◌ {A = State (Option S) (View S)} record { words = kept.0 ∷ []; homes = kept.1 ∷ []; views = s.views } s = λ i. record { words = sym kept.2 i; homes = sym kept.3 i; views = s.views } in
      subst P same (step kept.0 kept.1 s.views kept.4 at)

  module _ (word : ℕ) (home : core.Option (Option S)) (views : List (View S)) (stands : Stands fixed part moved seats word home views) where
    -- two processors of two seats have two numbers
    pub apart : (k j : Known) (id seat : ℕ) → seat ≢ id → stands.owner k.number ≡ id → stands.owner j.number ≡ seat → j.number ≢ k.number
    apart k j id seat ne mine theirs e = ne (sym theirs ∙ (ap stands.owner e ∙ mine))

    -- what is known of the processors of a seat
    pub known_here : (id : ℕ) (v : View S) → get_elem? views id ≡ some v → All (Fits fixed part moved seats word stands.state stands.owner id v.taken) v.known
    known_here id v at = stands.each id v at

    -- what is known of the one processor of a seat
    pub known_one : (id : ℕ) (v : View S) (k : Known) (ks : List Known) → v.known ≡ k ∷ ks → get_elem? views id ≡ some v → Fits fixed part moved seats word stands.state stands.owner id v.taken k
    known_one id v k ks e at = All-head (Fits fixed part moved seats word stands.state stands.owner id v.taken) k ks (subst (λ (l : List Known). All (Fits fixed part moved seats word stands.state stands.owner id v.taken) l) e (stands.each id v at))

  -- the word was 0
  won : (id : ℕ) (k : Known) (home : core.Option (Option S)) (views : List (View S)) (stands : Stands fixed part moved seats 0 home views) → get_elem? views id ≡ some (resting (k ∷ []))
      → Stands fixed part moved seats (k.number + 1) none (set views id (holding k stands.state))
  won id k home views stands at =
      let mine = known_one 0 home views stands id (resting (k ∷ [])) k [] refl at in
      record {
        state = stands.state;
        owner = stands.owner;
        bounded = let b : k.number < seats = mine.below in omega arith;
        at_home = λ e. absurd (omega arith);
        each = λ seat v there.
            ⊎_elim
            (λ t.
            let F : ℕ → View S → Type 0 = λ i u. All (Fits fixed part moved seats (k.number + 1) stands.state stands.owner i u.taken) u.known in
            subst (λ (u : View S). F seat u) t.1 (subst (λ (i : ℕ). F i (holding k stands.state)) (sym t.0)
            (All-cons (Fits fixed part moved seats (k.number + 1) stands.state stands.owner id (Some stands.state)) k []
            record { below = mine.below; counted = mine.counted; owned = mine.owned; held = (refl, refl); finds = mine.finds }
            (All-nil (Fits fixed part moved seats (k.number + 1) stands.state stands.owner id (Some stands.state))))))
            (λ t.
            All-weaker
            (Fits fixed part moved seats 0 stands.state stands.owner seat v.taken)
            (Fits fixed part moved seats (k.number + 1) stands.state stands.owner seat v.taken)
            (λ j f.
            let ne : j.number ≢ k.number = apart 0 home views stands k j id seat t.0 mine.owned f.owned in
            record {
              below = f.below;
              counted = f.counted;
              owned = f.owned;
              held = else_held 0 (k.number + 1) stands.state stands.state j.number v.taken (λ e. omega arith) (λ e. ne (omega arith)) f.held;
              finds = f.finds;
            })
            v.known
            (stands.each seat v t.1))
            (at_set views id seat (holding k stands.state) v there);
      }

  win : (id : ℕ) (k : Known) (word : ℕ) (home : core.Option (Option S)) (views : List (View S)) → Stands fixed part moved seats word home views → get_elem? views id ≡ some (resting (k ∷ []))
      → (w : View S) × (a : Act (Option S)) × Valid (home ∷ []) [] a × Keeps fixed part moved seats record { words = either (eqb word 0) (k.number + 1) word ∷ []; homes = homes_after (home ∷ []) [] a; views = set views id w }
      × Wins fixed part moved (resting (k ∷ []), []) word (w, carried_after [] a)
  win id k zero home views stands at = (
    holding k stands.state,
    takes 0 (Some stands.state),
    ap some (stands.at_home refl),
    (k.number + 1, none, refl, refl, won id k home views stands at),
    (stands.state, refl, (known_one 0 home views stands id (resting (k ∷ [])) k [] refl at).finds),
  )
  win id k (suc n) home views stands at =
      let no : eqb (suc n) 0 ≡ false = ne_eqb (suc n) 0 (λ e. omega arith) in (
        resting (k ∷ []),
        keeps,
        tt,
        (suc n, home, ap (λ (b : Bool). either b (k.number + 1) (suc n) ∷ []) no, refl, subst (λ (l : List (View S)). Stands fixed part moved seats (suc n) home l) (sym (set_again views id (resting (k ∷ [])) at)) stands),
        rw no refl,
      )

  -- one attempt to take the lock
  pub wins : (slots id : ℕ) (k : Known) → Allows (Keeps fixed part moved seats) slots id (resting (k ∷ []), []) 0 (λ n. either (eqb n 0) (k.number + 1) n) (Wins fixed part moved (resting (k ∷ []), []))
  wins slots id k = allows slots id (resting (k ∷ []), []) (λ n. either (eqb n 0) (k.number + 1) n) (Wins fixed part moved (resting (k ∷ []), [])) (win id k)

  -- the same at a seat that is at rest
  pub wins_at : (slots id : ℕ) (me : Me (Option S) (View S)) (k : Known) (cpu : ℕ) → me ≡ (resting (k ∷ []), []) → cpu ≡ k.number
      → Allows (Keeps fixed part moved seats) slots id me 0 (λ n. either (eqb n 0) (cpu + 1) n) (Wins fixed part moved me)
  wins_at slots id me k cpu rests same =
      let P : Me (Option S) (View S) → ℕ → Type 0 = λ m c. Allows (Keeps fixed part moved seats) slots id m 0 (λ n. either (eqb n 0) (c + 1) n) (Wins fixed part moved m) in
      subst (λ (m : Me (Option S) (View S)). P m cpu) (sym rests) (subst (λ (c : ℕ). P (resting (k ∷ []), []) c) (sym same) (wins slots id k))

  -- the word becomes 0, and the state is home
  released : (id : ℕ) (k : Known) (taken state : S) → MayGive fixed part moved k.number taken state → (word : ℕ) (home : core.Option (Option S)) (views : List (View S)) (stands : Stands fixed part moved seats word home views)
      → get_elem? views id ≡ some (holding k taken) → Stands fixed part moved seats 0 (some (Some state)) (set views id (resting (left_known part moved k taken state ∷ [])))
  released id k taken state may word home views stands at =
      let mine = known_one word home views stands id (holding k taken) k [] refl at in
      let left : Known = left_known part moved k taken state in
      let held : word ≡ k.number + 1 = mine.held.0 in
      let below : k.number < seats = mine.below in
      let mine_counted : k.seats ≡ seats = mine.counted in
      let found : Finds fixed part moved k taken = subst (λ (s : S). Finds fixed part moved k s) (sym mine.held.1) mine.finds in
      record {
        state = state;
        owner = stands.owner;
        bounded = omega arith;
        at_home = λ e. refl;
        each = λ seat v there.
            ⊎_elim
            (λ t.
            let F : ℕ → View S → Type 0 = λ i u. All (Fits fixed part moved seats 0 state stands.owner i u.taken) u.known in
            subst (λ (u : View S). F seat u) t.1 (subst (λ (i : ℕ). F i (resting (left ∷ []))) (sym t.0)
            (All-cons (Fits fixed part moved seats 0 state stands.owner id None) left []
            record { below = mine.below; counted = mine.counted; owned = mine.owned; held = (λ e. absurd (omega arith)); finds = finds_left fixed part moved k.number taken state may k refl (omega arith) found }
            (All-nil (Fits fixed part moved seats 0 state stands.owner id None)))))
            (λ t.
            All-weaker
            (Fits fixed part moved seats word stands.state stands.owner seat v.taken)
            (Fits fixed part moved seats 0 state stands.owner seat v.taken)
            (λ j f.
            let ne : j.number ≢ k.number = apart word home views stands k j id seat t.0 mine.owned f.owned in
            let counted : j.seats ≡ seats = f.counted in
            record {
              below = f.below;
              counted = f.counted;
              owned = f.owned;
              held = else_held word 0 stands.state state j.number v.taken (λ e. ne (omega arith)) (λ e. omega arith) f.held;
              finds = finds_still fixed part moved k.number taken state may j ne (omega arith) (subst (λ (s : S). Finds fixed part moved j s) (sym mine.held.1) f.finds);
            })
            v.known
            (stands.each seat v t.1))
            (at_set views id seat (resting (left ∷ [])) v there);
      }

  release : (id : ℕ) (k : Known) (taken state : S) → MayGive fixed part moved k.number taken state → (word : ℕ) (home : core.Option (Option S)) (views : List (View S)) → Stands fixed part moved seats word home views
      → get_elem? views id ≡ some (holding k taken)
      → (w : View S) × (a : Act (Option S)) × Valid (home ∷ []) ((0, Some state) ∷ []) a
      × Keeps fixed part moved seats record { words = either (eqb word (k.number + 1)) 0 word ∷ []; homes = homes_after (home ∷ []) ((0, Some state) ∷ []) a; views = set views id w }
      × Releases part moved (holding k taken, (0, Some state) ∷ []) (w, carried_after ((0, Some state) ∷ []) a)
  release id k taken state may word home views stands at =
      let mine = known_one word home views stands id (holding k taken) k [] refl at in
      let free : either (eqb word (k.number + 1)) 0 word ≡ 0 = rw (eq-eqb word (k.number + 1) mine.held.0) refl in (
        resting (left_known part moved k taken state ∷ []),
        gives,
        tt,
        (0, some (Some state), ap (λ (n : ℕ). n ∷ []) free, refl, released id k taken state may word home views stands at),
        (λ t s e f. let et : taken ≡ t = cc in let es : state ≡ s = carried_same state s f in ap (λ (p : S × S). (resting (left_known part moved k p.0 p.1 ∷ []), [])) (λ i. (et i, es i))),
      )

  -- the lock is given back
  pub releases : (slots id : ℕ) (k : Known) (taken state : S) → MayGive fixed part moved k.number taken state
      → Allows (Keeps fixed part moved seats) slots id (holding k taken, (0, Some state) ∷ []) 0 (λ n. either (eqb n (k.number + 1)) 0 n) (λ n. Releases part moved (holding k taken, (0, Some state) ∷ []))
  releases slots id k taken state may =
      allows slots id (holding k taken, (0, Some state) ∷ []) (λ n. either (eqb n (k.number + 1)) 0 n) (λ n. Releases part moved (holding k taken, (0, Some state) ∷ [])) (release id k taken state may)

  -- the same at a seat that holds the lock
  pub releases_at : (slots id : ℕ) (me : Me (Option S) (View S)) (k : Known) (cpu : ℕ) (taken state : S) → me ≡ (holding k taken, (0, Some state) ∷ []) → cpu ≡ k.number → MayGive fixed part moved k.number taken state
      → Allows (Keeps fixed part moved seats) slots id me 0 (λ n. either (eqb n (cpu + 1)) 0 n) (λ n. Releases part moved me)
  releases_at slots id me k cpu taken state holds same may =
      let P : Me (Option S) (View S) → ℕ → Type 0 = λ m c. Allows (Keeps fixed part moved seats) slots id m 0 (λ n. either (eqb n (c + 1)) 0 n) (λ n. Releases part moved m) in
      subst (λ (m : Me (Option S) (View S)). P m cpu) (sym holds) (subst (λ (c : ℕ). P (holding k taken, (0, Some state) ∷ []) c) (sym same) (releases slots id k taken state may))

  -- a seat without a processor sits down
  pub enters : (slots : ℕ) → Enters (Keeps fixed part moved seats) slots 0 (λ found w. ◌≡◌ {A = Me (Option S) (View S)} (w, []) (resting [], []))
  enters slots s kept one fits =
      let stands = kept.4 in (
        resting [],
        (
          kept.0,
          kept.1,
          kept.2,
          kept.3,
          record {
            state = stands.state;
            owner = stands.owner;
            bounded = stands.bounded;
            at_home = stands.at_home;
            each = λ seat v there.
                ⊎_elim
                (λ t. stands.each seat v t)
                (λ t. let F : View S → Type 0 = λ u. All (Fits fixed part moved seats kept.0 stands.state stands.owner seat u.taken) u.known in subst F t.1 (All-nil (Fits fixed part moved seats kept.0 stands.state stands.owner seat None)))
                (at_end s.views (resting []) v seat there);
          },
        ),
        refl,
      )

  -- who owns the numbers once one seat took in another's processors
  joint_owner : (ℕ → ℕ) → ℕ → ℕ → ℕ → ℕ
  joint_owner owner id other n = cond (eqb (owner n) other) id (owner n)

  joint_mine : (owner : ℕ → ℕ) (id other n : ℕ) → other ≢ id → owner n ≡ id → joint_owner owner id other n ≡ id
  unfolding joint_owner
  joint_mine owner id other n ne e = rw (ne_eqb (owner n) other (λ h. ne (sym h ∙ e))) e

  joint_theirs : (owner : ℕ → ℕ) (id other n : ℕ) → owner n ≡ other → joint_owner owner id other n ≡ id
  unfolding joint_owner
  joint_theirs owner id other n e = rw (eq-eqb (owner n) other e) refl

  joint_else : (owner : ℕ → ℕ) (id other n seat : ℕ) → seat ≢ other → owner n ≡ seat → joint_owner owner id other n ≡ seat
  unfolding joint_owner
  joint_else owner id other n seat ne e = rw (ne_eqb (owner n) other (λ h. ne (sym e ∙ h))) e

  -- a processor whose number has another owner now
  fits_moved : (word : ℕ) (state : S) (owner owner' : ℕ → ℕ) (seat seat' : ℕ) (taken : Option S) (ks : List Known) → ((k : Known) → Fits fixed part moved seats word state owner seat taken k → owner' k.number ≡ seat')
      → All (Fits fixed part moved seats word state owner seat taken) ks → All (Fits fixed part moved seats word state owner' seat' taken) ks
  fits_moved word state owner owner' seat seat' taken ks moves all =
      All-weaker (Fits fixed part moved seats word state owner seat taken) (Fits fixed part moved seats word state owner' seat' taken)
      (λ k f. record { below = f.below; counted = f.counted; owned = moves k f; held = f.held; finds = f.finds }) ks all

  -- the seats have other views, and the numbers other owners; all else stands as it was
  new_owners : (s : State (Option S) (View S)) (kept : Keeps fixed part moved seats s) (views : List (View S)) (owner : ℕ → ℕ)
      → ((seat : ℕ) (v : View S) → get_elem? views seat ≡ some v → All (Fits fixed part moved seats kept.0 kept.4.state owner seat v.taken) v.known)
      → Keeps fixed part moved seats record { words = s.words; homes = s.homes; views = views }
  new_owners s kept views owner each = (
    kept.0,
    kept.1,
    kept.2,
    kept.3,
    record { state = kept.4.state; owner = owner; bounded = kept.4.bounded; at_home = kept.4.at_home; each = each },
  )

  -- a seat takes in another's processors
  pub joins : (id : ℕ) (ks : List Known) (other : ℕ) (js : List Known) → Joins (Keeps fixed part moved seats) id (resting ks) other (resting js) (resting (ks ++ js)) (resting [])
  joins id ks other js s kept at ne at_other =
      let stands = kept.4 in
      let owner : ℕ → ℕ = joint_owner stands.owner id other in
      let there : get_elem? s.views other ≡ some (resting js) = sym (set_else s.views id other (resting (ks ++ js)) ne) ∙ at_other in
      let F : ℕ → View S → Type 0 = λ i u. All (Fits fixed part moved seats kept.0 stands.state owner i u.taken) u.known in
      new_owners s kept _ owner
      (λ seat v found.
      ⊎_elim
      (λ t. subst (λ (u : View S). F seat u) t.1 (All-nil (Fits fixed part moved seats kept.0 stands.state owner seat None)))
      (λ t.
      ⊎_elim
      (λ u.
      subst (λ (w : View S). F seat w) u.1 (subst (λ (i : ℕ). F i (resting (ks ++ js))) (sym u.0)
      (All-append (Fits fixed part moved seats kept.0 stands.state owner id None) ks js
      (fits_moved kept.0 stands.state stands.owner owner id id None ks (λ k f. joint_mine stands.owner id other k.number ne f.owned) (stands.each id (resting ks) at))
      (fits_moved kept.0 stands.state stands.owner owner other id None js (λ k f. joint_theirs stands.owner id other k.number f.owned) (stands.each other (resting js) there)))))
      (λ u. fits_moved kept.0 stands.state stands.owner owner seat seat v.taken v.known (λ k f. joint_else stands.owner id other k.number seat t.0 f.owned) (stands.each seat v u.1))
      (at_set s.views id seat (resting (ks ++ js)) v t.1))
      (at_set (set s.views id (resting (ks ++ js))) other seat (resting []) v found))

  -- the same at two seats that are at rest
  pub joins_at : (id : ℕ) (v : View S) (other : ℕ) (w : View S) (ks js : List Known) → v ≡ resting ks → w ≡ resting js → Joins (Keeps fixed part moved seats) id v other w (resting (v.known ++ w.known)) (resting [])
  joins_at id v other w ks js ev ew =
      let P : View S → View S → Type 0 = λ x y. Joins (Keeps fixed part moved seats) id x other y (resting (x.known ++ y.known)) (resting []) in
      subst (λ (x : View S). P x w) (sym ev) (subst (λ (y : View S). P (resting ks) y) (sym ew) (joins id ks other js))

  -- who owns the numbers once a processor has a seat of its own
  split_owner : (ℕ → ℕ) → ℕ → ℕ → ℕ → ℕ
  split_owner owner cpu new n = cond (eqb n cpu) new (owner n)

  split_this : (owner : ℕ → ℕ) (cpu new : ℕ) → split_owner owner cpu new cpu ≡ new
  unfolding split_owner
  split_this owner cpu new = rw (eq-eqb cpu cpu refl) refl

  split_else : (owner : ℕ → ℕ) (cpu new n : ℕ) → n ≢ cpu → split_owner owner cpu new n ≡ owner n
  unfolding split_owner
  split_else owner cpu new n ne = rw (ne_eqb n cpu ne) refl

  -- the numbers that are dealt rise
  above : (state : S) (cpu n : ℕ) → All (λ (k : Known). cpu ≤ k.number) (dealt fixed part seats state cpu n)
  above state cpu zero = All-nil (λ (k : Known). cpu ≤ k.number)
  above state cpu (suc n) =
      All-cons (λ (k : Known). cpu ≤ k.number) (first_known fixed part seats state cpu) (dealt fixed part seats state (cpu + 1) n)
      (omega arith)
      (All-weaker (λ (k : Known). cpu + 1 ≤ k.number) (λ (k : Known). cpu ≤ k.number) (λ k h. omega arith) (dealt fixed part seats state (cpu + 1) n) (above state (cpu + 1) n))

  -- both of a pair of facts
  both : {A : Type 0} (P Q R : A → Type 0) → ((x : A) → P x → Q x → R x) → (xs : List A) → All P xs → All Q xs → All R xs
  both P Q R f xs p q k d h = f (get_or xs k d) (p k d h) (q k d h)

  -- the first processor of a seat gets a seat of its own
  pub splits : (id : ℕ) (state : S) (cpu n : ℕ)
      → Splits (Keeps fixed part moved seats) id (resting (dealt fixed part seats state cpu (suc n))) (resting (dealt fixed part seats state (cpu + 1) n)) (resting (first_known fixed part seats state cpu ∷ []))
  splits id state cpu n s kept at =
      let stands = kept.4 in
      let this : Known = first_known fixed part seats state cpu in
      let ks : List Known = dealt fixed part seats state (cpu + 1) n in
      let owner : ℕ → ℕ = split_owner stands.owner cpu (length s.views) in
      let F : ℕ → View S → Type 0 = λ i u. All (Fits fixed part moved seats kept.0 stands.state owner i u.taken) u.known in
      let P : Known → Type 0 = Fits fixed part moved seats kept.0 stands.state stands.owner id None in
      let here : All P (this ∷ ks) = stands.each id (resting (this ∷ ks)) at in
      let first : P this = All-head P this ks here in
      new_owners s kept _ owner
      (λ seat v found.
      ⊎_elim
      (λ t.
      ⊎_elim
      (λ u.
      subst (λ (w : View S). F seat w) u.1 (subst (λ (i : ℕ). F i (resting ks)) (sym u.0)
      (both (λ (k : Known). cpu + 1 ≤ k.number) P (Fits fixed part moved seats kept.0 stands.state owner id None)
      (λ k up f. record { below = f.below; counted = f.counted; owned = split_else stands.owner cpu (length s.views) k.number (λ e. omega arith) ∙ f.owned; held = f.held; finds = f.finds })
      ks (above state (cpu + 1) n) (All-tail P this ks here))))
      (λ u.
      fits_moved kept.0 stands.state stands.owner owner seat seat v.taken v.known
      (λ k f. split_else stands.owner cpu (length s.views) k.number (λ e. u.0 (sym f.owned ∙ (ap stands.owner e ∙ first.owned))) ∙ f.owned)
      (stands.each seat v u.1))
      (at_set s.views id seat (resting ks) v t))
      (λ t.
      let e : seat ≡ length s.views = t.0 ∙ length-set s.views id (resting ks) in
      subst (λ (w : View S). F seat w) t.1 (subst (λ (i : ℕ). F i (resting (this ∷ []))) (sym e)
      (All-cons (Fits fixed part moved seats kept.0 stands.state owner (length s.views) None) this []
      record { below = first.below; counted = first.counted; owned = split_this stands.owner cpu (length s.views); held = first.held; finds = first.finds }
      (All-nil (Fits fixed part moved seats kept.0 stands.state owner (length s.views) None)))))
      (at_end (set s.views id (resting ks)) (resting (this ∷ [])) v seat found))

  -- the same at a seat that is at rest
  pub splits_at : (id : ℕ) (v : View S) (state : S) (cpu n : ℕ) → v ≡ resting (dealt fixed part seats state cpu (suc n)) → Splits (Keeps fixed part moved seats) id v (resting (others_of v.known)) (resting (first_of v.known ∷ []))
  splits_at id v state cpu n e = subst (λ (x : View S). Splits (Keeps fixed part moved seats) id x (resting (others_of x.known)) (resting (first_of x.known ∷ []))) (sym e) (splits id state cpu n)

  -- what is dealt is true of the state as it is handed in
  dealt_fits : (state : S) → moved state ≡ [] → (cpu n : ℕ) → cpu + n ≤ seats → All (Fits fixed part moved seats 0 state (λ _. 0) 0 None) (dealt fixed part seats state cpu n)
  dealt_fits state empty cpu zero h = All-nil (Fits fixed part moved seats 0 state (λ _. 0) 0 None)
  dealt_fits state empty cpu (suc n) h =
      All-cons (Fits fixed part moved seats 0 state (λ _. 0) 0 None) (first_known fixed part seats state cpu) (dealt fixed part seats state (cpu + 1) n)
      record {
        below = omega arith;
        counted = refl;
        owned = refl;
        held = λ e. omega arith;
        finds = record {
          as_given = refl;
          as_left = refl;
          longer = (moved state, refl);
          own_alone = ap (made_by cpu) empty;
          named = subst (λ (l : List Moved). All (λ (m : Moved). m.entry.cpu.0 < seats) l) (sym empty) (All-nil (λ (m : Moved). m.entry.cpu.0 < seats));
        };
      }
      (dealt_fits state empty (cpu + 1) n (omega arith))

  -- the table as it is made
  pub opens : (state : S) → moved state ≡ [] → Keeps fixed part moved seats (opening (0 ∷ []) (Some state ∷ []) (resting (dealt fixed part seats state 0 seats)))
  opens state empty = (
    0,
    some (Some state),
    refl,
    refl,
    record {
      state = state;
      owner = λ _. 0;
      bounded = omega arith;
      at_home = λ _. refl;
      each = λ seat v at.
          let t = at_only (resting (dealt fixed part seats state 0 seats)) v seat at in
          let F : ℕ → View S → Type 0 = λ i u. All (Fits fixed part moved seats 0 state (λ _. 0) i u.taken) u.known in
          subst (λ (u : View S). F seat u) t.1 (subst (λ (i : ℕ). F i (resting (dealt fixed part seats state 0 seats))) (sym t.0) (dealt_fits state empty 0 seats (omega arith)));
    },
  )

  -- the same where a snapshot stands for the state
  pub opens_at : (state origin : S) (slots : List (Option S)) → origin ≡ state → slots ≡ Some state ∷ [] → moved state ≡ [] → Keeps fixed part moved seats (opening (0 ∷ []) slots (resting (dealt fixed part seats origin 0 seats)))
  opens_at state origin slots same one empty =
      let P : List (Option S) → S → Type 0 = λ l o. Keeps fixed part moved seats (opening (0 ∷ []) l (resting (dealt fixed part seats o 0 seats))) in
      subst (λ (l : List (Option S)). P l origin) (sym one) (subst (λ (o : S). P (Some state ∷ []) o) (sym same) (opens state empty))

  -- where all processors are at rest the lock is free
  all_rest : (word : ℕ) (state : S) (owner : ℕ → ℕ) (id : ℕ) (ks : List Known) → word ≤ seats → All (Fits fixed part moved seats word state owner id None) ks → ((cpu : ℕ) → cpu < seats → Any (λ (k : Known). k.number ≡ cpu) ks) → word ≡ 0
  all_rest zero state owner id ks h all has = refl
  all_rest (suc c) state owner id ks h all has =
      let one = has c (omega arith) in
      let e : one.1.number ≡ c = one.4 in
      let f : Fits fixed part moved seats (suc c) state owner id None one.1 = subst (λ (k : Known). Fits fixed part moved seats (suc c) state owner id None k) one.3 (all one.0 one.1 one.2) in
      absurd (f.held (omega arith))

  -- the table as it is closed, once one seat has all processors
  pub closes : (id : ℕ) (ks : List Known) (ws : List ℕ) (xs : List (Option S)) → Final (Seen (Keeps fixed part moved seats) id (resting ks)) ws xs → ((cpu : ℕ) → cpu < seats → Any (λ (k : Known). k.number ≡ cpu) ks)
      → (state : S) × (get_elem? xs 0 ≡ some (Some state)) × All (λ (k : Known). Finds fixed part moved k state) ks
  closes id ks ws xs final has =
      let kept = final.1.0 in
      let stands = kept.4 in
      let all = stands.each id (resting ks) final.1.1 in
      let free : kept.0 ≡ 0 = all_rest kept.0 stands.state stands.owner id ks stands.bounded all has in
      let home : get_elem? final.0.homes 0 ≡ some (some (Some stands.state)) = ap (λ (l : List (core.Option (Option S))). get_elem? l 0) kept.3 ∙ ap some (stands.at_home free) in (
        stands.state,
        final.4 0 (Some stands.state) home,
        All-weaker (Fits fixed part moved seats kept.0 stands.state stands.owner id None) (λ (k : Known). Finds fixed part moved k stands.state) (λ k f. f.finds) ks all,
      )

  -- the same at a seat that is at rest, of what is taken out of the slot
  pub closes_at : (id : ℕ) (v : View S) (passes : List PassSeen) (ws : List ℕ) (xs : List (Option S)) (out : Option S) → v ≡ resting (map (λ (p : PassSeen). p.known) passes)
      → Final (Seen (Keeps fixed part moved seats) id v) ws xs → get_elem? xs 0 ≡ some out → ((cpu : ℕ) → cpu < seats → Any (λ (p : PassSeen). p.known.number ≡ cpu) passes)
      → (state : S) × (out ≡ Some state) × All (λ (p : PassSeen). Finds fixed part moved p.known state) passes
  closes_at id v passes ws xs out e final took has =
      let known : PassSeen → Known = λ p. p.known in
      let end = closes id (map known passes) ws xs (subst (λ (u : View S). Final (Seen (Keeps fixed part moved seats) id u) ws xs) e final) (λ cpu below. any_map known (λ (k : Known). k.number ≡ cpu) passes (has cpu below)) in (
        end.0,
        some-injective out (Some end.0) (sym took ∙ end.1),
        all_unmap known (λ (k : Known). Finds fixed part moved k end.0) passes end.2,
      )

  -- what is dealt, at the seat and at the new one
  pub deals_first : (me : Me (Option S) (View S)) (state : S) (cpu n : ℕ) → me ≡ (resting (dealt fixed part seats state cpu (suc n)), [])
      → ◌≡◌ {A = Me (Option S) (View S)} (resting (first_of me.0.known ∷ []), []) (resting (first_known fixed part seats state cpu ∷ []), [])
  deals_first me state cpu n e = ap (λ (m : Me (Option S) (View S)). let r : Me (Option S) (View S) = (resting (first_of m.0.known ∷ []), []) in r) e

  pub deals_rest : (me : Me (Option S) (View S)) (state : S) (cpu n : ℕ) → me ≡ (resting (dealt fixed part seats state cpu (suc n)), [])
      → ◌≡◌ {A = Me (Option S) (View S)} (resting (others_of me.0.known), me.1) (resting (dealt fixed part seats state (cpu + 1) n), [])
  deals_rest me state cpu n e = ap (λ (m : Me (Option S) (View S)). let r : Me (Option S) (View S) = (resting (others_of m.0.known), m.1) in r) e

module _ {S : Type 0} where
  -- a seat with one processor, said by its own first one
  pub one_of : (me : Me (Option S) (View S)) (k : Known) → me ≡ (resting (k ∷ []), []) → me ≡ (resting (first_of me.0.known ∷ []), [])
  one_of me k e = e ∙ ap (λ (m : Me (Option S) (View S)). let r : Me (Option S) (View S) = (resting (first_of m.0.known ∷ []), []) in r) (sym e)

  pub first_is : (me : Me (Option S) (View S)) (k : Known) → me ≡ (resting (k ∷ []), []) → first_of me.0.known ≡ k
  first_is me k e = ap (λ (m : Me (Option S) (View S)). first_of m.0.known) e

module _ {S : Type 0} (part : S → ℕ → Part) (moved : S → List Moved) where
  -- what the release tells, at a seat that holds the lock
  pub released_is : (known : Known) (taken state : S) (v w : Me (Option S) (View S)) → v ≡ (holding known taken, (0, Some state) ∷ []) → Releases part moved v w → w ≡ (resting (left_known part moved known taken state ∷ []), [])
  released_is known taken state v w holds told =
      let P : Me (Option S) (View S) → Type 0 = λ m. Releases part moved m w in
      let here : Releases part moved (holding known taken, (0, Some state) ∷ []) w = subst P holds told in
      here taken state refl refl
