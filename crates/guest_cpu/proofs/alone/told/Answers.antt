use Rattle.std.proofs.Common.{◌≡◌, ◌+◌, ◌≤◌, None, [], ◌∷◌, length, subst}
use Rattle.std.specs.List.{repeat}
use Rattle.event_core.specs.declared.command.Command.{Command}
use Rattle.event_core.specs.Holdings.{Holding, block_bytes, block_named}
use Rattle.event_core.specs.Own.{with_bytes_at}
use Rattle.event_core.specs.Refusals.{refusal_of}
use Rattle.held_blocks.specs.Holdings.{own_in as own_held}
use Rattle.held_blocks.proofs.UnrefusedLemmas.{unrefused-fill, unrefused-write}
use Rattle.guest_cpu.proofs.AloneLemmas.{layout-stays}
use Rattle.guest_cpu.proofs.alone.told.Goals as goal

pub returns-in_ok-write-in-Write-clause-layout : goal.returns-in_ok-write-in-Write-clause-layout
returns-in_ok-write-in-Write-clause-layout c =
    let own = own_held c.args.held.now in
    let w = c.in-Write in
    let boot = c.requires.alone.0 in
    let F : Command → Type 0 = λ x. refusal_of boot own x ≡ None in
    let ends = unrefused-write boot own w.name w.off w.hex (subst F w.is c.requires.alone.3) in
    layout-stays (λ (h : Holding). w.off + length w.hex ≤ block_bytes h.block) (block_named own w.name) c.args.held.now c.write.new.self (λ (h : Holding). with_bytes_at h.block w.off c.as_slice.result.now own) ends c.in_ok-write-in-Write.ensures.ok

pub returns-in_ok-fill-in-Fill-clause-layout : goal.returns-in_ok-fill-in-Fill-clause-layout
returns-in_ok-fill-in-Fill-clause-layout c =
    let own = own_held c.args.held.now in
    let w = c.in-Fill in
    let boot = c.requires.alone.0 in
    let F : Command → Type 0 = λ x. refusal_of boot own x ≡ None in
    let ends = unrefused-fill boot own w.name w.off w.len w.byte (subst F w.is c.requires.alone.3) in
    layout-stays (λ (h : Holding). w.off + w.len ≤ block_bytes h.block) (block_named own w.name) c.args.held.now c.fill.new.self (λ (h : Holding). with_bytes_at h.block w.off (repeat w.len (w.byte ∷ [])) own) ends c.in_ok-fill-in-Fill.ensures.ok
