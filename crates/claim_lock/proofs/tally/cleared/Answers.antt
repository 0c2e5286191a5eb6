use Rattle.std.proofs.Common.{◌≡◌, ◌<◌, ◌+◌, ℕ, List, [], ◌∷◌, ◌++◌, Option, Some, Vec, Global, length, get_or, ap, sym, ◌∙◌, subst, arith, append_assoc, length-append}
use Rattle.std.proofs.Math.Seq.{get_or-append_seam}
use Rattle.claim_lock.specs.declared.tally.Desk.{Desk}
use Rattle.claim_lock.specs.declared.tally.Note.{Note}
use Rattle.claim_lock.specs.Seen.{PassSeen}
use Rattle.claim_lock.specs.Tallied.{Ready}
use Rattle.claim_lock.proofs.Lists.{each_push_both}
use Rattle.claim_lock.proofs.tally.cleared.Goals as goal

pub loop-desk-preserved : goal.loop-desk-preserved
loop-desk-preserved c =
    let inv = c.loop-desk.invariant in
    let desk : Desk = c.in-Some.desk in
    let pass : PassSeen = c.in-Some-pass.pass in
    let before : List Desk = c.loop-desk.yielded in
    let after : List Desk = c.next.new.self.rest.items in
    let n : ℕ = length before in
    let items : c.args.desks.items ≡ before ++ (desk ∷ after) = inv.all ∙ ap (λ (l : List Desk). before ++ l) c.in-Some.ensures.steps.0 in
    let longer : length (before ++ desk ∷ []) ≡ n + 1 = omega (arith, length-append before (desk ∷ [])) in
    let below : n < length c.args.desks.items = omega (arith, ap length items, length-append before (desk ∷ after)) in
    let seam : get_or c.args.desks.items n desk ≡ desk = ap (λ (l : List Desk). get_or l n desk) items ∙ get_or-append_seam before desk after desk in
    let ready : Ready c.args.lock.now n desk.pass desk.made.items = subst (λ (q : Desk). Ready c.args.lock.now n q.pass q.made.items) seam (c.requires n desk below) in
    let here : Ready c.args.lock.now n (Some pass) desk.made.items = subst (λ (q : Option PassSeen). Ready c.args.lock.now n q desk.made.items) c.in-Some-pass.is ready in
    let P : ℕ → PassSeen → Vec Note Global → Type 0 = λ k p m. Ready c.args.lock.now k (Some p) m.items in
    let all : (k : ℕ) (d : PassSeen) (e : Vec Note Global) → k < n + 1 → P k (get_or (c.loop-desk.passes.items ++ pass ∷ []) k d) (get_or (c.loop-desk.all_made.items ++ desk.made ∷ []) k e) =
    each_push_both P c.loop-desk.passes.items c.loop-desk.all_made.items n pass desk.made inv.passes inv.made inv.ready here
    in
    let Q : List PassSeen → List (Vec Note Global) → ℕ → Type 0 = λ ps ms m. (k : ℕ) (d : PassSeen) (e : Vec Note Global) → k < m → P k (get_or ps k d) (get_or ms k e) in
    record {
      all = items ∙ sym (append_assoc before (desk ∷ []) after);
      passes = omega (arith, ap length c.in_ok-push.ensures.items, length-append c.loop-desk.passes.items (pass ∷ []), inv.passes, longer);
      made = omega (arith, ap length c.in_ok-push-2.ensures.items, length-append c.loop-desk.all_made.items (desk.made ∷ []), inv.made, longer);
      ready = subst (λ (m : ℕ). Q c.push.new.self.items c.push-in-loop-desk.new.self.items m) (sym longer)
          (subst (λ (l : List PassSeen). Q l c.push-in-loop-desk.new.self.items (n + 1)) (sym c.in_ok-push.ensures.items)
          (subst (λ (l : List (Vec Note Global)). Q (c.loop-desk.passes.items ++ pass ∷ []) l (n + 1)) (sym c.in_ok-push-2.ensures.items) all));
    }

pub returns-clause-ready : goal.returns-clause-ready
returns-clause-ready c =
    let rest : List Desk = c.loop-desk.desk-iterator.rest.items in
    λ k d e below. c.loop-desk.invariant.ready k d e (omega (arith, ap length c.loop-desk.invariant.all, length-append c.loop-desk.yielded rest, c.in-None.ensures.steps.0))
