use Rattle.std.proofs.Common.{◌≡◌, ◌<◌, ℕ, ◌+◌, List, [], ◌∷◌, ◌++◌, Some, length, get_or, ap, sym, ◌∙◌, subst, arith, append_assoc, length-append}
use Rattle.std.proofs.Math.Seq.{get_or-append_seam}
use Rattle.claim_lock.specs.declared.tally.Desk.{Desk}
use Rattle.claim_lock.specs.Seen.{PassSeen}
use Rattle.event_core.specs.Moved.{Moved}
use Rattle.claim_lock.specs.Tallied.{Ready, numbered}
use Rattle.claim_lock.proofs.Lists.{each_push}
use Rattle.claim_lock.proofs.tally.seated.Goals as goal

pub loop-pass-preserved : goal.loop-pass-preserved
loop-pass-preserved c =
    let inv = c.loop-pass.invariant in
    let pass : PassSeen = c.in-Some.pass in
    let before : List PassSeen = c.loop-pass.yielded in
    let after : List PassSeen = c.next.new.self.rest.items in
    let n : ℕ = length before in
    let items : c.args.passes.items ≡ before ++ (pass ∷ after) = inv.all ∙ ap (λ (l : List PassSeen). before ++ l) c.in-Some.ensures.steps.0 in
    let longer : length (before ++ pass ∷ []) ≡ n + 1 = omega (arith, length-append before (pass ∷ [])) in
    let below : n < length c.args.passes.items = omega (arith, ap length items, length-append before (pass ∷ after)) in
    let seam : get_or c.args.passes.items n pass ≡ pass = ap (λ (l : List PassSeen). get_or l n pass) items ∙ get_or-append_seam before pass after pass in
    let ready : Ready c.args.lock.now n (Some pass) [] = subst (λ (q : PassSeen). Ready c.args.lock.now n (Some q) []) seam (c.requires.ready n pass below) in
    let desk : Desk = record { cpu = c.loop-pass.cpu; pass = Some pass; made = c.new.result } in
    let P : ℕ → Desk → Type 0 = λ k a. (a.cpu ≡ k) × Ready c.args.lock.now k a.pass a.made.items in
    let here : P (length c.loop-pass.desks.items) desk = (inv.at ∙ sym inv.count, (ready.0, ready.1 ∙ sym inv.count, ready.2 ∙ sym c.new.ensures.items, ready.3, ready.4 ∙ ap (λ (l : List Moved). numbered (length l)) (sym c.new.ensures.items))) in
    let all : (k : ℕ) (d : Desk) → k < length (c.loop-pass.desks.items ++ desk ∷ []) → P k (get_or (c.loop-pass.desks.items ++ desk ∷ []) k d) = each_push P c.loop-pass.desks.items desk inv.ready here in
    record {
      all = items ∙ sym (append_assoc before (pass ∷ []) after);
      at = omega (arith, inv.at, longer);
      count = omega (arith, ap length c.in_ok-push.ensures.items, length-append c.loop-pass.desks.items (desk ∷ []), inv.count, longer);
      ready = subst (λ (l : List Desk). (k : ℕ) (d : Desk) → k < length l → P k (get_or l k d)) (sym c.in_ok-push.ensures.items) all;
    }
