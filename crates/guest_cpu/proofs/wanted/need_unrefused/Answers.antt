use Rattle.std.proofs.Common.{subst}
use Rattle.std.specs.Prelude.{◌≡◌, None}
use Rattle.event_core.specs.declared.command.Command.{Command}
use Rattle.event_core.specs.Refusals.{refusal_of}
use Rattle.guest_cpu.proofs.AloneLemmas.{known-load}
use Rattle.guest_cpu.proofs.wanted.need_unrefused.Goals as goal
use Rattle.held_blocks.specs.Holdings.{own_in as own_held}

pub need_of_load-requires : goal.need_of_load-requires
need_of_load-requires c =
    let boot = c.requires.fine.0 in
    let own = own_held c.args.held.now in
    let F : Command → Type 0 = λ x. refusal_of boot own x ≡ None in
    known-load boot own c.in-Load.name c.in-Load.off (subst F c.in-Load.is c.requires.fine.2)
