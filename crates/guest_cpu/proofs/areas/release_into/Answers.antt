use Rattle.std.proofs.Common.{ℕ, List, ◌≡◌, length, drop, Some, true, sym, ◌∙◌, ap, subst}
use Rattle.event_core.specs.declared.event.Event.TheVariants.{Released}
use Rattle.event_core.specs.declared.reply.Reply.TheVariants.{Done}
use Rattle.event_core.specs.Own.{copied_out}
use Rattle.held_blocks.specs.Holdings.{Leaves, own_in as own_held}
use Rattle.guest_cpu.specs.declared.access.Access.{Access}
use Rattle.guest_cpu.proofs.AccessLemmas.{mapping-here, mine-still}
use Rattle.guest_cpu.proofs.EndingLemmas.{all-filled, released-into-made}
use Rattle.guest_cpu.proofs.areas.release_into.Goals as goal

pub release_into-requires-clause-mine : goal.release_into-requires-clause-mine
release_into-requires-clause-mine c =
    let area = c.args.area.now in
    let cpu = c.args.turn.now.cpu.0 in
    let may = c.requires.may.4 in
    let h = mapping-here (own_held c.args.held.now) area cpu c.args.mapping.now c.live.result c.live.ensures.live may.need may.mine in
    mine-still area c.reserve.new.area cpu c.live.result.run c.reserve.ensures.kept h.mine

pub returns : goal.returns
returns c =
    let held = c.args.held.now in
    let between = c.reserve_copy.new.self in
    let area = c.args.area.now in
    let may = c.requires.may.4 in
    let l = c.live.result in
    let out = c.release_into.new.out in
    let h = mapping-here (own_held held) area c.args.turn.now.cpu.0 c.args.mapping.now l c.live.ensures.live may.need may.mine in
    let bytes_len : length c.as_mut_slice.result.now ≡ l.run.len = ap length c.as_mut_slice.ensures.value ∙ c.in_ok-out.ensures ∙ c.from-len.ensures in
    let whole = all-filled c.in_ok-out.out.len out (drop (length out) c.in_ok-out.out.items) (c.release_into.ensures.len ∙ sym bytes_len ∙ c.as_mut_slice.ensures.len) in
    let copy : c.filled-copy.result ≡ out = c.filled-copy.ensures ∙ c.as_slice.ensures.value ∙ whole in
    let bytes : c.from_vec.result ≡ out = c.from_vec.ensures ∙ whole in
    let A : List ℕ → Access = λ bs. record { event = Released l.run true; reply = Some Done; bytes = bs } in
    let L : List ℕ → Type 0 = λ bs. Leaves between c.copied_out.new.self (copied_out c.args.mapping.now 0 bs (own_held between)) in
    released-into-made held between c.unmapped.new.self area c.reserve.new.area c.release_into.new.self c.args.turn.now c.release_into.new.turn c.args.mapping.now l
    c.reserve_copy.ensures.same c.reserve.ensures.kept h c.copied_out.new.self out c.done.result (c.done.ensures ∙ ap A copy) c.requires.asks c.release_into.ensures.out c.release_into.ensures.appends
    (subst L bytes c.copied_out.ensures) c.unmapped.ensures
