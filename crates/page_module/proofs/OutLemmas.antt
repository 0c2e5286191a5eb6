-- Lemmas on the tickets of the spans that are out.
use Rattle.std.proofs.Common.{◌≡◌, ◌≢◌, ℕ, ◌+◌, List, [], ◌∷◌, ◌++◌, Option, None, Bool, true, false, ◌&&◌, ◌||◌, ◌==◌, All, length, sum_by, if◌then◌else◌, arith, refl, sym, ap, ◌∙◌, inl, inr}
use Rattle.std.proofs.lemmas.Bool.{cases_Bool}
use Rattle.std.proofs.lemmas.Bool.Decides.{nat_tests}
use Rattle.std.proofs.lemmas.List.Elements.{All-nil, All-cons, All-head, All-tail, All-push}
use Rattle.std.proofs.lemmas.List.Sums.{sum_by-cons}
use Rattle.guest_base.specs.Ranges.{in_range}
use Rattle.guest_base.specs.declared.memory.Pages.{Pages}
use Rattle.guest_base.specs.declared.memory.PageRun.{PageRun}
use Rattle.guest_base.specs.declared.memory.PageState.{PageState}
use Rattle.event_core.specs.Runs.{state_in}
use Rattle.page_module.specs.Tables.{is_out, without, same_ticket, Apart}
use Rattle.page_module.specs.Building.{places, AllOut}
use Rattle.page_module.specs.declared.ticket.Ticket.{Ticket}
use Rattle.page_module.proofs.SpanLemmas.{pages-same}

pub same_ticket-true : (a b : Ticket) → same_ticket a b ≡ true → a ≡ b
same_ticket-true a b e =
    let h : (((a.pages.first == b.pages.first) && (a.pages.count == b.pages.count)) ≡ true) × (a.runs ≡ b.runs) × (a.room ≡ b.room) = grind (arith, nat_tests) in
    let p = pages-same a.pages b.pages h.0 in
    ap (λ q. let r : Ticket = record { pages = q; runs = a.runs; room = a.room } in r) p
    ∙ ap (λ n. let r : Ticket = record { pages = b.pages; runs = n; room = a.room } in r) h.1
    ∙ ap (λ n. let r : Ticket = record { pages = b.pages; runs = b.runs; room = n } in r) h.2

pub same_ticket-refl : (a : Ticket) → same_ticket a a ≡ true
same_ticket-refl a = grind (arith, nat_tests)

-- the pages of a span that is out have no state
pub out-free : (runs : List PageRun) (out : List Ticket) (ticket : Ticket) → AllOut runs out → is_out out ticket ≡ true →
    (page : ℕ) → in_range ticket.pages.first ticket.pages.count page ≡ true → state_in runs page ≡ None
out-free runs [] ticket h o page i = cc
out-free runs (x ∷ out) ticket h o page i =
    elim (cases_Bool (same_ticket x ticket)) [
      | inl t ↦ let e = same_ticket-true x ticket t in h.0 page (rw e i)
      | inr f ↦ out-free runs out ticket h.2 (rw f at o) page i
    ]

-- a span that is out shares no page with those that all others of a list share none with
out-apart : (pages : Pages) (out : List Ticket) (ticket : Ticket) → All (λ (other : Ticket). Apart pages other.pages) out → is_out out ticket ≡ true → Apart pages ticket.pages
out-apart pages [] ticket h o = cc
out-apart pages (x ∷ out) ticket h o =
    elim (cases_Bool (same_ticket x ticket)) [
      | inl t ↦ let e = same_ticket-true x ticket t in rw (sym e) (All-head (λ (other : Ticket). Apart pages other.pages) x out h)
      | inr f ↦ out-apart pages out ticket (All-tail (λ (other : Ticket). Apart pages other.pages) x out h) (rw f at o)
    ]

-- how much is kept without one
pub places-without : (out : List Ticket) (ticket : Ticket) → is_out out ticket ≡ true → sum_by places (without ticket out) + places ticket ≡ sum_by places out
places-without [] ticket o = cc
places-without (x ∷ out) ticket o =
    elim (cases_Bool (same_ticket x ticket)) [
      | inl t ↦ let e = same_ticket-true x ticket t in rw t (let s = sum_by-cons places x out in let p = ap places e in omega arith)
      | inr f ↦ rw f (let r = places-without out ticket (rw f at o) in let s = sum_by-cons places x out in let q = sum_by-cons places x (without ticket out) in omega arith)
    ]

pub length-without : (out : List Ticket) (ticket : Ticket) → is_out out ticket ≡ true → length (without ticket out) + 1 ≡ length out
length-without [] ticket o = cc
length-without (x ∷ out) ticket o =
    elim (cases_Bool (same_ticket x ticket)) [
      | inl t ↦ rw t (omega arith)
      | inr f ↦ rw f (let r = length-without out ticket (rw f at o) in omega arith)
    ]

apart-sym : (a b : Pages) → Apart a b → Apart b a
apart-sym a b h page i j = h page j i

-- one more span is out
pub all-out-more : (old new : List PageRun) (out : List Ticket) (ticket : Ticket) → AllOut old out →
    ((page : ℕ) → in_range ticket.pages.first ticket.pages.count page ≡ true → state_in old page ≢ None) →
    ((page : ℕ) → state_in new page ≡ (if in_range ticket.pages.first ticket.pages.count page then None else state_in old page)) →
    AllOut new (out ++ ticket ∷ [])
all-out-more old new [] ticket h here rest =
    ((λ page i. rest page ∙ rw i refl), All-nil (λ (other : Ticket). Apart ticket.pages other.pages), tt)
all-out-more old new (x ∷ out) ticket h here rest = (
  (λ page i. rest page ∙ rw (h.0 page i) (none-either (in_range ticket.pages.first ticket.pages.count page))),
  All-push (λ (other : Ticket). Apart x.pages other.pages) out ticket h.1 (λ page i j. here page j (h.0 page i)),
  all-out-more old new out ticket h.2 here rest,
)
  where
    none-either : (b : Bool) → (let none : Option PageState = None in (if b then none else none) ≡ none)
    none-either true = refl
    none-either false = refl

-- its pages are none of those that are out already
pub out-alone : (runs : List PageRun) (out : List Ticket) (pages : Pages) → AllOut runs out →
    ((page : ℕ) → in_range pages.first pages.count page ≡ true → state_in runs page ≢ None) →
    All (λ (other : Ticket). Apart pages other.pages) out
out-alone runs [] pages h here = All-nil (λ (other : Ticket). Apart pages other.pages)
out-alone runs (x ∷ out) pages h here =
    All-cons (λ (other : Ticket). Apart pages other.pages) x out (λ page i j. here page i (h.0 page j)) (out-alone runs out pages h.2 here)

-- the spans that are left out, where one is back
all-out-kept : (old new : List PageRun) (out : List Ticket) (pages : Pages) → AllOut old out → All (λ (other : Ticket). Apart pages other.pages) out →
    ((page : ℕ) → in_range pages.first pages.count page ≡ false → state_in new page ≡ state_in old page) → AllOut new out
all-out-kept old new [] pages h a rest = tt
all-out-kept old new (x ∷ out) pages h a rest =
    let far = All-head (λ (other : Ticket). Apart pages other.pages) x out a in (
      (λ page i. elim (cases_Bool (in_range pages.first pages.count page)) [
        | inl t ↦ absurd (far page t i)
        | inr f ↦ rest page f ∙ h.0 page i
      ]),
      h.1,
      all-out-kept old new out pages h.2 (All-tail (λ (other : Ticket). Apart pages other.pages) x out a) rest,
    )

all-without : (P : Ticket → Type 0) (out : List Ticket) (ticket : Ticket) → All P out → All P (without ticket out)
all-without P [] ticket h = h
all-without P (x ∷ out) ticket h =
    elim (cases_Bool (same_ticket x ticket)) [
      | inl t ↦ rw t (All-tail P x out h)
      | inr f ↦ rw f (All-cons P x (without ticket out) (All-head P x out h) (all-without P out ticket (All-tail P x out h)))
    ]

pub all-out-less : (old new : List PageRun) (out : List Ticket) (ticket : Ticket) → AllOut old out → is_out out ticket ≡ true →
    ((page : ℕ) → in_range ticket.pages.first ticket.pages.count page ≡ false → state_in new page ≡ state_in old page) → AllOut new (without ticket out)
all-out-less old new [] ticket h o rest = cc
all-out-less old new (x ∷ out) ticket h o rest =
    elim (cases_Bool (same_ticket x ticket)) [
      | inl t ↦ rw t
          (let e = same_ticket-true x ticket t in
          all-out-kept old new out ticket.pages h.2 (rw (sym e) h.1) rest)
      | inr f ↦ rw f
          (let there : is_out out ticket ≡ true = rw f at o in
          let far = out-apart x.pages out ticket h.1 there in (
            (λ page i. elim (cases_Bool (in_range ticket.pages.first ticket.pages.count page)) [
              | inl t ↦ absurd (far page i t)
              | inr n ↦ rest page n ∙ h.0 page i
            ]),
            all-without (λ (other : Ticket). Apart x.pages other.pages) out ticket h.1,
            all-out-less old new out ticket h.2 there rest,
          ))
    ]

-- the place of a ticket

pub without-found : (out : List Ticket) (ticket x : Ticket) → same_ticket x ticket ≡ true → without ticket (x ∷ out) ≡ out
without-found out ticket x t = rw t refl

-- What callers may use: a ticket that is among those of the spans that are out.

pub is_out-last : (out : List Ticket) (ticket : Ticket) → is_out (out ++ ticket ∷ []) ticket ≡ true
is_out-last [] ticket = rw (same_ticket-refl ticket) refl
is_out-last (x ∷ out) ticket = rw (is_out-last out ticket) (or-true (same_ticket x ticket))
  where
    or-true : (b : Bool) → (b || true) ≡ true
    or-true true = refl
    or-true false = refl

pub is_out-more : (out : List Ticket) (ticket other : Ticket) → is_out out other ≡ true → is_out (out ++ ticket ∷ []) other ≡ true
is_out-more [] ticket other o = cc
is_out-more (x ∷ out) ticket other o =
    elim (cases_Bool (same_ticket x other)) [ inl t ↦ rw t refl | inr f ↦ rw f (is_out-more out ticket other (rw f at o)) ]

pub is_out-less : (out : List Ticket) (ticket other : Ticket) → is_out out other ≡ true → other ≢ ticket → is_out (without ticket out) other ≡ true
is_out-less [] ticket other o n = cc
is_out-less (x ∷ out) ticket other o n =
    elim (cases_Bool (same_ticket x ticket)) [
      | inl t ↦ rw t
          (elim (cases_Bool (same_ticket x other)) [
            | inl s ↦ absurd (n (sym (same_ticket-true x other s) ∙ same_ticket-true x ticket t))
            | inr f ↦ rw f at o
          ])
      | inr f ↦ rw f
          (elim (cases_Bool (same_ticket x other)) [ inl s ↦ rw s refl | inr g ↦ rw g (is_out-less out ticket other (rw g at o) n) ])
    ]
