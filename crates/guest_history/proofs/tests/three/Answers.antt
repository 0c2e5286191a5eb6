use Rattle.std.proofs.Common.{[], ◌∷◌, subst, sym, ◌∙◌}
use Rattle.std.specs.Prelude.{All}
use Rattle.std.proofs.lemmas.List.Elements.{All-nil, All-cons}
use Rattle.event_core.specs.Locally.{Rising}
use Rattle.guest_history.proofs.tests.three.Goals as goal

pub gather-requires-clause-rise : goal.gather-requires-clause-rise
gather-requires-clause-rise c =
    let first = c.in_ok-first.first in
    let second = c.in_ok-second.second in
    let third = c.in_ok-third.third in
    subst (All Rising) (sym (c.from_vec.ensures ∙ c.in_ok-lists.ensures.items))
    (All-cons Rising first (second ∷ third ∷ []) c.in_ok-first.ensures.rises
    (All-cons Rising second (third ∷ []) c.in_ok-second.ensures.rises (All-cons Rising third [] c.in_ok-third.ensures.rises (All-nil Rising))))
