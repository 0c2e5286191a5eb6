use Rattle.std.proofs.Common.{◌≡◌, All, [], ◌∷◌, ◌++◌, sym, ◌∙◌, ap, subst, map, append_assoc}
use Rattle.std.proofs.lemmas.List.{map-append}
use Rattle.std.proofs.lemmas.List.Elements.{All-push}
use Rattle.guest_threads.specs.declared.locks.Passes.{Passes}
use Rattle.guest_threads.proofs.dealing.seated_at_memory.Goals as goal

pub loop-memory-preserved : goal.loop-memory-preserved
loop-memory-preserved c =
    let inv = c.loop-memory.invariant in
    let pass = c.in-Some.memory in
    let before = c.loop-memory.yielded in
    let all = c.loop-memory.all.items in
    let mine : Passes = record { memory = pass; areas = c.new-areas.result } in
    let push = c.in_ok-push.ensures.items in
    record {
      items = inv.items ∙ ap (λ l. before ++ l) c.in-Some.ensures.steps.0 ∙ sym (append_assoc before (pass ∷ []) c.next.new.self.rest.items);
      memory = ap (map (λ (p : Passes). p.memory)) push ∙ map-append (λ (p : Passes). p.memory) all (mine ∷ []) ∙ ap (λ l. l ++ pass ∷ []) inv.memory;
      none = subst (All (λ (p : Passes). p.areas.items ≡ [])) (sym push) (All-push (λ (p : Passes). p.areas.items ≡ []) all mine inv.none c.new-areas.ensures.items);
    }
