use Rattle.std.proofs.Common.{◌≡◌, sym, ◌∙◌, subst, OnErr}
use Rattle.guest_threads.specs.Progress.{Progresses}
use Rattle.guest_threads.proofs.SeatLemmas.{gone-on, own-refused, own-same, seated-kept}
use Rattle.guest_threads.proofs.one.own_step.Goals as goal

pub returns : goal.returns
returns g c =
    let old = c.args.processor.now in
    let step = c.step_own-answer in
    let new = step.new.self in
    let same = own-same g.T.Processor.seen g.T.Processor.never_fails old new step.result step.ensures.event step.ensures.refused step.ensures.never_fails_kept in
    subst (Progresses g.T.Processor.seen g.T.Processor.stands g.T.Processor.never_fails c.args.locks.now old new) (sym c.gone_on.ensures)
    (gone-on g.T.Processor.seen g.T.Processor.stands g.T.Processor.never_fails c.args.locks.now c.args.passes old new step.result same
    (seated-kept g.T.Processor.seen g.T.Processor.stands c.args.locks.now c.args.passes old new c.requires.seated same.number same.boot step.ensures.stands)
    (λ refusal is.
    own-refused (g.T.Processor.seen old) (g.T.Processor.seen new) c.args.passes refusal c.requires.need (subst (λ r. OnErr r (g.T.Processor.seen new ≡ g.T.Processor.seen old)) is step.ensures.refused)
    (λ stamp e. step.ensures.worn stamp (is ∙ e))))
