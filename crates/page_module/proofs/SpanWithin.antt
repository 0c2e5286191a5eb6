use Rattle.std.proofs.Common.{◌≡◌, ◌≢◌, ℕ, ◌+◌, List, None, true, arith, sym, ap, ◌∙◌, inl, inr}
use Rattle.std.proofs.lemmas.Bool.{cases_lt}
use Rattle.guest_base.specs.Ranges.{in_range}
use Rattle.event_core.specs.Runs.{state_in}
use Rattle.page_module.specs.Spans.{Taken, runs_now, RunsFrom}
use Rattle.page_module.specs.declared.ticket.Ticket.{Ticket}
use Rattle.page_module.specs.declared.span.TakenRun.{TakenRun}
use Rattle.page_module.proofs.SpanLemmas.{state-below, state-past}

-- no page outside a span has a state in it
pub span-within : (ticket : Ticket) (rs : List TakenRun) (span : Taken) → (let own : Taken = record { ticket = ticket; runs = runs_now rs } in own ≡ span) →
    RunsFrom ticket.pages.first (ticket.pages.first + ticket.pages.count) rs →
    (page : ℕ) → state_in span.runs page ≢ None → in_range ticket.pages.first ticket.pages.count page ≡ true
span-within ticket rs span view from page some =
    let first = ticket.pages.first in
    let end = ticket.pages.first + ticket.pages.count in
    let runs = ap (λ (s : Taken). state_in s.runs page) view in
    elim (cases_lt page first) [
      | inl below ↦ absurd (some (sym runs ∙ state-below first end page rs from below))
      | inr low ↦ elim (cases_lt page end) [
        | inl high ↦ grind arith
        | inr past ↦ absurd (some (sym runs ∙ state-past first end page rs from past))
      ]
    ]
