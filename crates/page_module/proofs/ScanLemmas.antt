-- What the scans for the first page find.
use Rattle.std.proofs.Common.{◌≡◌, ◌≢◌, ℕ, ◌+◌, ◌-◌, ◌<◌, ◌≤◌, List, [], ◌∷◌, Option, None, Some, Bool, true, false, max, unwrap_or, arith, refl, sym, ◌∙◌, inl, inr, subst}
use Rattle.std.proofs.lemmas.Bool.{cases_lt, cases_Bool, lt-ltb, le-ltb}
use Rattle.guest_base.specs.declared.memory.PageState.{PageState}
use Rattle.guest_base.specs.declared.memory.PageState.TheVariants.{Pending, Accepted, Shared}
use Rattle.event_core.specs.Runs.{state_in}
use Rattle.page_module.specs.Spans.{Taken, runs_now, RunsFrom}
use Rattle.page_module.specs.Marking.{hits, first_from, rest_first, first_in, first_in_rest, first_page, IsFirstPending, NonePending}
use Rattle.page_module.specs.declared.span.TakenRun.{TakenRun}
use Rattle.page_module.specs.declared.ticket.Ticket.{Ticket}
use Rattle.guest_base.proofs.RangeLemmas.{in_range-intro, in_range-elim}
use Rattle.page_module.proofs.RangeCases.{where_is, below, within, past}
use Rattle.page_module.proofs.SpanLemmas.{runs-end, state-below, state-past, state-some, state_here, state-head, state-tail, state-first, state-rest}

-- the first number of a range at or after a number
record FoundIn (first count from at : ℕ) : Type 0 where
  pub first_on : first ≤ at
  pub from_on : from ≤ at
  pub within : at < first + count
  pub least : (n : ℕ) → first ≤ n → from ≤ n → at ≤ n

part-some : (first count from at : ℕ) → first_from first count from ≡ Some at → FoundIn first count from at
part-some first count from at e =
    elim (cases_lt (max first from) (first + count)) [
      | inl l ↦
          let s : Some (max first from) ≡ Some at = sym (rw (lt-ltb (max first from) (first + count) l) refl) ∙ e in
          let m : max first from ≡ at = cc in
          record { first_on = omega arith; from_on = omega arith; within = omega arith; least = λ n a b. omega arith }
      | inr g ↦ let s : None ≡ Some at = sym (rw (le-ltb (max first from) (first + count) g) refl) ∙ e in cc
    ]

part-none : (first count from : ℕ) → first_from first count from ≡ None → (n : ℕ) → first ≤ n → from ≤ n → first + count ≤ n
part-none first count from e n a b =
    elim (cases_lt (max first from) (first + count)) [
      | inl l ↦ let s : Some (max first from) ≡ None = sym (rw (lt-ltb (max first from) (first + count) l) refl) ∙ e in cc
      | inr g ↦ omega arith
    ]

-- what a scan from a page on finds in pages with their states
pub record Found (pending : Bool) (from : ℕ) (states : ℕ → Option PageState) (at : ℕ) : Type 0 where
  pub from_on : from ≤ at
  pub hit : hits pending (states at) ≡ true
  pub least : (n : ℕ) → from ≤ n → n < at → hits pending (states n) ≡ false

-- no page of a taken run is hit
NoneIn : Bool → ℕ → TakenRun → Type 0
NoneIn pending from t = (n : ℕ) → t.run.pages.first ≤ n → n < t.run.pages.first + t.run.pages.count → from ≤ n → hits pending (Some (state_here t n)) ≡ false

-- the first page of a taken run that is hit
record FirstIn (pending : Bool) (from : ℕ) (t : TakenRun) (at : ℕ) : Type 0 where
  pub first_on : t.run.pages.first ≤ at
  pub within : at < t.run.pages.first + t.run.pages.count
  pub from_on : from ≤ at
  pub hit : hits pending (Some (state_here t at)) ≡ true
  pub least : (n : ℕ) → t.run.pages.first ≤ n → from ≤ n → n < at → hits pending (Some (state_here t n)) ≡ false

-- the rest of a run, where no page before it is hit
rest-some : (pending : Bool) (from : ℕ) (t : TakenRun) (at : ℕ) → t.accepted ≤ t.run.pages.count →
    ((n : ℕ) → t.run.pages.first ≤ n → n < rest_first t → from ≤ n → hits pending (Some Accepted) ≡ false) →
    first_in_rest pending from t ≡ Some at → FirstIn pending from t at
rest-some pending from t at a before e =
    elim (cases_Bool (hits pending (Some t.run.state))) [
      | inl h ↦
          let f : FoundIn (rest_first t) (t.run.pages.count - t.accepted) from at = part-some (rest_first t) (t.run.pages.count - t.accepted) from at (rw h at e) in
          let g = f.first_on in
          let w = f.within in
          record {
            first_on = omega arith;
            within = omega arith;
            from_on = f.from_on;
            hit = rw (state-rest t at f.first_on) h;
            least = λ n b c d. elim (cases_lt n (rest_first t)) [
              | inl l ↦ rw (state-first t n b l) (before n b l c)
              | inr l ↦ absurd (let z = f.least n l c in omega arith)
            ];
          }
      | inr h ↦ let z : None ≡ Some at = rw h at e in cc
    ]

rest-none : (pending : Bool) (from : ℕ) (t : TakenRun) → t.accepted ≤ t.run.pages.count →
    ((n : ℕ) → t.run.pages.first ≤ n → n < rest_first t → from ≤ n → hits pending (Some Accepted) ≡ false) →
    first_in_rest pending from t ≡ None → (n : ℕ) → t.run.pages.first ≤ n → n < t.run.pages.first + t.run.pages.count → from ≤ n →
    hits pending (Some (state_here t n)) ≡ false
rest-none pending from t a before e n b c d =
    elim (cases_lt n (rest_first t)) [
      | inl l ↦ rw (state-first t n b l) (before n b l d)
      | inr l ↦ rw (state-rest t n l)
          (elim (cases_Bool (hits pending (Some t.run.state))) [
            | inl h ↦ absurd (let z = part-none (rest_first t) (t.run.pages.count - t.accepted) from (rw h at e) n l d in omega arith)
            | inr h ↦ h
          ])
    ]

in-some : (pending : Bool) (from : ℕ) (t : TakenRun) (at : ℕ) → t.accepted ≤ t.run.pages.count → first_in pending from t ≡ Some at → FirstIn pending from t at
in-some true from t at a e = rest-some true from t at a (λ n b c d. refl) e
in-some false from t at a e = go (first_from t.run.pages.first t.accepted from) refl e
  where
    go : (o : Option ℕ) → first_from t.run.pages.first t.accepted from ≡ o →
        elim o as (λ _. Option ℕ) [ Some page ↦ Some page | None ↦ first_in_rest false from t ] ≡ Some at → FirstIn false from t at
    go (Some p) q s =
        let f : FoundIn t.run.pages.first t.accepted from at = part-some t.run.pages.first t.accepted from at (q ∙ s) in
        let w = f.within in
        record {
          first_on = f.first_on;
          within = omega arith;
          from_on = f.from_on;
          hit = rw (state-first t at f.first_on w) refl;
          least = λ n b c d. absurd (let z = f.least n b c in omega arith);
        }
    go None q s = rest-some false from t at a (λ n b c d. absurd (let z = part-none t.run.pages.first t.accepted from q n b d in omega arith)) s

in-none : (pending : Bool) (from : ℕ) (t : TakenRun) → t.accepted ≤ t.run.pages.count → first_in pending from t ≡ None → (n : ℕ) → t.run.pages.first ≤ n → n < t.run.pages.first + t.run.pages.count → from ≤ n → hits pending (Some (state_here t n)) ≡ false
in-none true from t a e = rest-none true from t a (λ n b c d. refl) e
in-none false from t a e = go (first_from t.run.pages.first t.accepted from) refl e
  where
    go : (o : Option ℕ) → first_from t.run.pages.first t.accepted from ≡ o →
        elim o as (λ _. Option ℕ) [ Some page ↦ Some page | None ↦ first_in_rest false from t ] ≡ None → (n : ℕ) → t.run.pages.first ≤ n → n < t.run.pages.first + t.run.pages.count → from ≤ n → hits false (Some (state_here t n)) ≡ false
    go (Some p) q s = cc
    go None q s = rest-none false from t a (λ n b c d. absurd (let z = part-none t.run.pages.first t.accepted from q n b d in omega arith)) s

-- a page that is hit doesn't lie below the first run
behind-runs : (pending : Bool) (first end n : ℕ) (rs : List TakenRun) → RunsFrom first end rs → hits pending (state_in (runs_now rs) n) ≡ true → first ≤ n
behind-runs pending first end n rs h i =
    elim (cases_lt n first) [ inl l ↦ let z : false ≡ true = rw (state-below first end n rs h l) at i in cc | inr l ↦ l ]

pub scan-some : (pending : Bool) (from at first end : ℕ) (rs : List TakenRun) → RunsFrom first end rs → first_page pending from rs ≡ Some at →
    (at < end) × Found pending from (state_in (runs_now rs)) at
scan-some pending from at first end [] h e = cc
scan-some pending from at first end (t ∷ rs) h e =
    go (λ s. scan-some pending from at (first + t.run.pages.count) end rs h.3 s) (first_in pending from t) refl e
  where
    head : (n : ℕ) → t.run.pages.first ≤ n → n < t.run.pages.first + t.run.pages.count → state_in (runs_now (t ∷ rs)) n ≡ Some (state_here t n)
    head n b c = state-head t rs n (in_range-intro t.run.pages.first t.run.pages.count n b c) h.2

    go : (first_page pending from rs ≡ Some at → (at < end) × Found pending from (state_in (runs_now rs)) at) →
        (o : Option ℕ) → first_in pending from t ≡ o →
        elim o as (λ _. Option ℕ) [ Some page ↦ Some page | None ↦ first_page pending from rs ] ≡ Some at → (at < end) × Found pending from (state_in (runs_now (t ∷ rs))) at
    go tail (Some p) q s =
        let f = in-some pending from t at h.2 (q ∙ s) in
        let w = f.within in
        let x = h.0 in
        let z = runs-end (first + t.run.pages.count) end rs h.3 in (
          omega arith,
          record {
            from_on = f.from_on;
            hit = rw (head at f.first_on w) f.hit;
            least = λ n b c. elim (cases_lt n t.run.pages.first) [
              | inl l ↦ rw (state-below first end n (t ∷ rs) h (omega arith)) refl
              | inr l ↦ rw (head n l (omega arith)) (f.least n l b c)
            ];
          },
        )
    go tail None q s =
        let r = tail s in
        let f = r.1 in
        let x = h.0 in
        let behind : (n : ℕ) → hits pending (state_in (runs_now rs) n) ≡ true → first + t.run.pages.count ≤ n = λ n i. behind-runs pending (first + t.run.pages.count) end n rs h.3 i in
        let w = behind at f.hit in (
          r.0,
          record {
            from_on = f.from_on;
            hit = rw (state-tail t rs at (omega arith) h.2) f.hit;
            least = λ n b c. elim (where_is t.run.pages.first t.run.pages.count n) [
              | below l ↦ rw (state-below first end n (t ∷ rs) h (omega arith)) refl
              | within l m ↦ rw (head n l m) (in-none pending from t h.2 q n l m b)
              | past l ↦ rw (state-tail t rs n l h.2) (f.least n b c)
            ];
          },
        )

pub scan-none : (pending : Bool) (from first end : ℕ) (rs : List TakenRun) → RunsFrom first end rs → first_page pending from rs ≡ None →
    (n : ℕ) → from ≤ n → hits pending (state_in (runs_now rs) n) ≡ false
scan-none pending from first end [] h e n b = refl
scan-none pending from first end (t ∷ rs) h e n b =
    go (λ s. scan-none pending from (first + t.run.pages.count) end rs h.3 s n b) (first_in pending from t) refl e
  where
    go : (first_page pending from rs ≡ None → hits pending (state_in (runs_now rs) n) ≡ false) →
        (o : Option ℕ) → first_in pending from t ≡ o →
        elim o as (λ _. Option ℕ) [ Some page ↦ Some page | None ↦ first_page pending from rs ] ≡ None → hits pending (state_in (runs_now (t ∷ rs)) n) ≡ false
    go tail (Some p) q s = cc
    go tail None q s =
        elim (where_is t.run.pages.first t.run.pages.count n) [
          | below l ↦ let x = h.0 in rw (state-below first end n (t ∷ rs) h (omega arith)) refl
          | within l m ↦ rw (state-head t rs n (in_range-intro t.run.pages.first t.run.pages.count n l m) h.2) (in-none pending from t h.2 q n l m b)
          | past l ↦ rw (state-tail t rs n l h.2) (tail s)
        ]

-- a state that is hit, or isn't
hit-pending : (state : Option PageState) → hits true state ≡ true → state ≡ Some Pending
hit-pending None e = cc
hit-pending (Some Pending) e = refl
hit-pending (Some Accepted) e = cc
hit-pending (Some Shared) e = cc

missed-pending : (state : Option PageState) → hits true state ≡ false → state ≢ Some Pending
missed-pending None e p = cc
missed-pending (Some Pending) e p = cc
missed-pending (Some Accepted) e p = cc
missed-pending (Some Shared) e p = cc

hit-other : (state : Option PageState) → hits false state ≡ true → state ≢ Some Pending
hit-other None e p = cc
hit-other (Some Pending) e p = cc
hit-other (Some Accepted) e p = cc
hit-other (Some Shared) e p = cc

missed-other : (state : Option PageState) → hits false state ≡ false → state ≢ None → state ≡ Some Pending
missed-other None e p = absurd (p refl)
missed-other (Some Pending) e p = refl
missed-other (Some Accepted) e p = cc
missed-other (Some Shared) e p = cc

pub none-pending : (ticket : Ticket) (rs : List TakenRun) (span : Taken) (from : ℕ) →
    RunsFrom ticket.pages.first (ticket.pages.first + ticket.pages.count) rs →
    (let own : Taken = record { ticket = ticket; runs = runs_now rs } in own ≡ span) →
    first_page true from rs ≡ None → NonePending span from
none-pending ticket rs span from h e f =
    let P : Taken → Type 0 = λ s. NonePending s from in
    subst P e (λ page b. missed-pending (state_in (runs_now rs) page) (scan-none true from ticket.pages.first (ticket.pages.first + ticket.pages.count) rs h f page b))

-- the end of the pending pages from a page on
record EndsAt (first end last : ℕ) (states : ℕ → Option PageState) : Type 0 where
  pub after : first < last
  pub pending : (n : ℕ) → first ≤ n → n < last → states n ≡ Some Pending
  pub ends : states last ≢ Some Pending

ends-at : (at first end : ℕ) (rs : List TakenRun) (o : Option ℕ) → RunsFrom first end rs → first ≤ at → at < end → state_in (runs_now rs) at ≡ Some Pending →
    first_page false at rs ≡ o → EndsAt at end (unwrap_or o end) (state_in (runs_now rs))
ends-at at first end rs (Some last) h a b p q =
    let r = scan-some false at last first end rs h q in
    let f = r.1 in
    let other = hit-other (state_in (runs_now rs) last) f.hit in
    let on = f.from_on in
    let inside = r.0 in
    record {
      after = elim (cases_lt at last) [ inl l ↦ l | inr l ↦ let s : last ≡ at = omega arith in absurd (other (rw s p)) ];
      pending = λ n c d. missed-other (state_in (runs_now rs) n) (f.least n c d) (state-some first end n rs h (omega arith) (omega arith));
      ends = other;
    }
ends-at at first end rs None h a b p q =
    record {
      after = b;
      pending = λ n c d. missed-other (state_in (runs_now rs) n) (scan-none false at first end rs h q n c) (state-some first end n rs h (omega arith) d);
      ends = λ e. let z = state-past first end end rs h (omega arith) in cc;
    }

pub next-pending : (ticket : Ticket) (rs : List TakenRun) (span : Taken) (from first end : ℕ) →
    RunsFrom ticket.pages.first (ticket.pages.first + ticket.pages.count) rs →
    (let own : Taken = record { ticket = ticket; runs = runs_now rs } in own ≡ span) →
    first_page true from rs ≡ Some first →
    end ≡ unwrap_or (first_page false first rs) (ticket.pages.first + ticket.pages.count) →
    (first < end) × IsFirstPending span from (record { first = first; count = end - first })
next-pending ticket rs span from first end h e f g =
    let last : ℕ = ticket.pages.first + ticket.pages.count in
    let r = scan-some true from first ticket.pages.first last rs h f in
    let found = r.1 in
    let here = hit-pending (state_in (runs_now rs) first) found.hit in
    let on = behind-runs true ticket.pages.first last first rs h found.hit in
    let x : EndsAt first last end (state_in (runs_now rs)) =
    rw g (ends-at first ticket.pages.first last rs (first_page false first rs) h on r.0 here refl) in
    let after = x.after in
    let P : Taken → Type 0 = λ s. IsFirstPending s from (record { first = first; count = end - first }) in (
      after,
      subst P e (record {
        some = omega arith;
        from_on = found.from_on;
        first = λ page b c. missed-pending (state_in (runs_now rs) page) (found.least page b c);
        pending = λ page i. let w = in_range-elim first (end - first) page i in x.pending page w.0 (omega arith);
        maximal = let s : first + (end - first) ≡ end = omega arith in rw s x.ends;
      }),
    )
