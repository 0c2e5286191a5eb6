use Rattle.std.proofs.Common.{◌≡◌, ℕ, ◌+◌, ◌*◌, ◌-◌, ◌≤◌, ◌<◌, Bool, true, false, ◌||◌, None, Some, List, [], ◌∷◌, ◌++◌, refl, sym, ◌∙◌, ap, inl, inr, arith, append_assoc, append-nil, cond, lit<}
use Rattle.std.specs.Prelude.{is_some}
use Rattle.std.proofs.lemmas.Bool.{cases_Bool, cases_lt}
use Rattle.std.proofs.lemmas.Grind.{flat_map-append}
use Rattle.std.proofs.lemmas.List.Folds.{list_any-append}
use Rattle.std.proofs.lemmas.List.Sums.{fold-append}
use Rattle.guest_base.specs.Counts.{Rose}
use Rattle.event_core.specs.declared.entry.Entry.{Entry}
use Rattle.event_core.specs.declared.module_call.ModuleCall.{ModuleCall}
use Rattle.event_core.specs.Calls.{calls_in}
use Rattle.event_core.specs.Moved.{Moved}
use Rattle.event_core.specs.Own.{replied}
use Rattle.page_module.specs.Spans.{Taken}
use Rattle.guest_base.specs.declared.limits.TheConstants.{PAGE_END}
use Rattle.guest_steps.specs.Replies.{FaultsTold, calls_reported, is_module, some_module}
use Rattle.guest_steps.specs.Seen.{STEPS, left_by}

-- What one more entry tells.

-- ---- calls

pub reported-push : (entries : List Entry) (e : Entry) → calls_reported (entries ++ e ∷ []) ≡ calls_reported entries ++ calls_in e.event
reported-push entries e = flat_map-append (λ (x : Entry). calls_in x.event) entries (e ∷ []) ∙ ap (λ cs. calls_reported entries ++ cs) (append-nil (calls_in e.event))

-- what isn't reported yet, and then is
pub made-reported : (made before : List ModuleCall) (entries : List Entry) (e : Entry) (calls : List ModuleCall) → calls_in e.event ≡ calls → made ≡ before ++ calls_reported entries ++ calls → made ≡ before ++ calls_reported (entries ++ e ∷ []) ++ []
made-reported made before entries e calls is made_is =
    made_is
    ∙ append_assoc before (calls_reported entries) calls
    ∙ ap (λ cs. before ++ (calls_reported entries ++ cs)) (sym is)
    ∙ ap (λ cs. before ++ cs) (sym (reported-push entries e))
    ∙ sym (append-nil (before ++ calls_reported (entries ++ e ∷ [])))

-- ---- replies

pub rose-on : (before mid after : ℕ) → before ≤ mid → mid ≤ after → Rose before mid → Rose before after
rose-on before mid after le on (inl less) = inl (omega (arith, less, on))
rose-on before mid after le on (inr last) =
    elim (cases_lt mid after) [
      | inl more ↦ inl (omega (arith, le, more))
      | inr same ↦ inr (omega (arith, on, same, last))
    ]

pub told-on : (entries : List Entry) (before mid after : ℕ) → before ≤ mid → mid ≤ after → FaultsTold before entries mid → FaultsTold before entries after
told-on entries before mid after le on told some = rose-on before mid after le on (told some)

pub rose-from : (before mid after : ℕ) → before ≤ mid → Rose mid after → Rose before after
rose-from before mid after le (inl less) = inl (omega (arith, le, less))
rose-from before mid after le (inr last) = inr last

or_false : (b : Bool) → (b || false) ≡ b
or_false true = refl
or_false false = refl

pub told-push : (entries : List Entry) (e : Entry) (before after : ℕ) → FaultsTold before entries after → (is_module e.reply ≡ true → Rose before after) → FaultsTold before (entries ++ e ∷ []) after
told-push entries e before after told last some =
    elim (cases_Bool (is_module e.reply)) [
      | inl t ↦ last t
      | inr f ↦
          (let parts : some_module (entries ++ e ∷ []) ≡ (some_module entries || (is_module e.reply || false)) = list_any-append (λ (x : Entry). is_module x.reply) entries (e ∷ []) in
          let none : (some_module entries || (is_module e.reply || false)) ≡ some_module entries = ap (λ b. some_module entries || (b || false)) f ∙ or_false (some_module entries) in
          told (sym none ∙ sym parts ∙ some))
    ]

pub replied-push : (moved : List Moved) (m : Moved) → replied (moved ++ m ∷ []) ≡ replied moved + cond (is_some m.entry.reply) 1 0
replied-push moved m = fold-append (λ (n : ℕ) (x : Moved). n + cond (is_some x.entry.reply) 1 0) 0 moved (m ∷ [])

-- ---- steps that are left

less-by : (left steps : ℕ) → 0 < steps → left * steps < (left + 1) * steps
less-by left steps some = omega arith

pub less-replied : (commands number : ℕ) → number < commands → left_by commands (number + 1) None < left_by commands number None
less-replied commands number more =
    let is : commands - number ≡ (commands - (number + 1)) + 1 = omega (arith, more) in
    let less = less-by (commands - (number + 1)) STEPS (lit< tt) in
    let same = ap (λ n. n * STEPS) is in
    omega (arith, less, same)

pub less-claimed : (commands number : ℕ) (span : Taken) → number < commands → left_by commands number (Some span) < left_by commands number None
less-claimed commands number span more =
    let is : commands - number ≡ (commands - (number + 1)) + 1 = omega (arith, more) in
    let same = ap (λ n. n * STEPS) is in
    let apart : ((commands - (number + 1)) + 1) * STEPS ≡ (commands - (number + 1)) * STEPS + STEPS = omega arith in
    omega (arith, same, apart)

pub less-next : (commands number : ℕ) (span next : Taken) → span.ticket.pages.first < next.ticket.pages.first → span.ticket.pages.first < PAGE_END → left_by commands number (Some next) < left_by commands number (Some span)
less-next commands number span next behind low = omega (arith, behind, low)

pub less-closed : (commands number : ℕ) (span : Taken) → left_by commands (number + 1) None < left_by commands number (Some span)
less-closed commands number span = omega arith
