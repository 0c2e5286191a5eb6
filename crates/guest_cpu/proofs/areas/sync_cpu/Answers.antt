use Rattle.std.proofs.Common.{ℕ, List, ◌≡◌, length, drop, Some, ◌∙◌, ap, subst}
use Rattle.event_core.specs.declared.event.Event.TheVariants.{CopiedOut}
use Rattle.event_core.specs.declared.reply.Reply.TheVariants.{Done}
use Rattle.event_core.specs.Holdings.{Mapping, asks_out}
use Rattle.event_core.specs.Own.{copied_out}
use Rattle.held_blocks.specs.Holdings.{Leaves, own_in as own_held}
use Rattle.guest_cpu.specs.declared.access.Access.{Access}
use Rattle.guest_cpu.proofs.AccessLemmas.{copy-here, mine-still}
use Rattle.guest_cpu.proofs.EndingLemmas.{all-filled, copied-made}
use Rattle.guest_cpu.proofs.areas.sync_cpu.Goals as goal

pub copy_out-requires-clause-mine : goal.copy_out-requires-clause-mine
copy_out-requires-clause-mine c =
    let area = c.args.area.now in
    let cpu = c.args.turn.now.cpu.0 in
    let may = c.requires.may.4 in
    let h = copy-here (own_held c.args.held.now) area cpu c.args.mapping.now c.live.result (λ (m : Mapping). asks_out m.direction) c.live.ensures.live may.need may.mine in
    mine-still area c.reserve.new.area cpu c.live.result.run c.reserve.ensures.kept h.0.mine

pub returns : goal.returns
returns c =
    let held = c.args.held.now in
    let between = c.reserve_copy.new.self in
    let area = c.args.area.now in
    let may = c.requires.may.4 in
    let l = c.live.result in
    let out = c.copy_out.new.out in
    let h = copy-here (own_held held) area c.args.turn.now.cpu.0 c.args.mapping.now l (λ (m : Mapping). asks_out m.direction) c.live.ensures.live may.need may.mine in
    let whole = all-filled c.in_ok-out.out.len out (drop (length out) c.in_ok-out.out.items) (c.copy_out.ensures.len ∙ c.as_mut_slice.ensures.len) in
    let copy : c.filled-copy.result ≡ out = c.filled-copy.ensures ∙ c.as_slice.ensures.value ∙ whole in
    let bytes : c.from_vec.result ≡ out = c.from_vec.ensures ∙ whole in
    let long : length c.as_mut_slice.result.now ≡ c.args.len = ap length c.as_mut_slice.ensures.value ∙ c.in_ok-out.ensures in
    let A : List ℕ → Access = λ bs. record { event = CopiedOut l.run c.args.off c.args.len; reply = Some Done; bytes = bs } in
    let L : List ℕ → Type 0 = λ bs. Leaves between c.copied_out.new.self (copied_out c.args.mapping.now c.args.off bs (own_held between)) in
    copied-made held between c.copied_out.new.self area c.reserve.new.area c.copy_out.new.self c.args.turn.now c.copy_out.new.turn c.args.mapping.now l
    c.reserve_copy.ensures.same c.reserve.ensures.kept h.0 c.args.off c.args.len (length c.as_mut_slice.result.now) out c.done.result (c.done.ensures ∙ ap A copy) h.1 long c.copy_out.ensures.out c.copy_out.ensures.appends (subst L bytes c.copied_out.ensures)
