use Rattle.std.proofs.Common.{ℕ, List, ◌≡◌, Ok, sym, ◌∙◌, ap, subst}
use Rattle.guest_base.specs.declared.transfer.Request.{Request}
use Rattle.event_core.specs.declared.command.Command.{Command}
use Rattle.event_core.specs.declared.event.Event.TheVariants.{Looked}
use Rattle.event_core.specs.Holdings.{Own}
use Rattle.held_blocks.specs.Held.{EndsWithin}
use Rattle.held_blocks.specs.Holdings.{own_in as own_held}
use Rattle.io_areas.specs.Value.{Appends, moved_by_look}
use Rattle.guest_cpu.specs.declared.access.Access.{Access}
use Rattle.guest_cpu.specs.Accessing.{AccessedBy, MayAccessWith}
use Rattle.guest_cpu.proofs.AccessLemmas.{size-still}
use Rattle.guest_cpu.proofs.EndingLemmas.{found-within, looked-made, looks-by}
use Rattle.guest_cpu.proofs.areas.look.Goals as goal

pub keep_look-bytes-requires-clause-within : goal.keep_look-bytes-requires-clause-within
keep_look-bytes-requires-clause-within c =
    let held = c.args.held.now in
    let area = c.args.area.now in
    let reserved = c.reserve.new.area in
    let m = c.in-Map in
    let C : Command → Type 0 = λ x. MayAccessWith held area c.args.turn.now x in
    let by = looks-by held area c.args.turn.now m.mapping m.name m.off m.len m.direction m.mask (subst C m.is c.requires.may) in
    let len : c.request-request.result.len ≡ m.len = ap (λ (r : Request). r.len) (c.request-request.ensures.request by.h by.named) in
    let O : Own → Type 0 = λ o. EndsWithin o m.name m.off m.len in
    let ends = subst O (sym c.reserve_mapping.ensures.same.own) by.may.within in
    let E : ℕ → Type 0 = λ n. EndsWithin (own_held c.reserve_mapping.new.self) m.name m.off n in
    found-within (own_held c.reserve_mapping.new.self) reserved by.boot m.name m.off c.request-request.result c.look-run.result (subst E (sym len) ends) (c.look-run.ensures.found by.boot (size-still by.boot area reserved c.reserve.ensures.kept by.size))

pub returns : goal.returns
returns c =
    let held = c.args.held.now in
    let now = c.keep_look-bytes.new.held in
    let area = c.args.area.now in
    let turn = c.args.turn.now in
    let m = c.in-Map in
    let run = c.look-run.result in
    let reply = c.look_reply-reply.result in
    let C : Command → Type 0 = λ x. MayAccessWith held area turn x in
    let by = looks-by held area turn m.mapping m.name m.off m.len m.direction m.mask (subst C m.is c.requires.may) in
    let a : Access = record { event = Looked c.args.number run; reply = reply; bytes = c.keep_look-bytes.result } in
    let number : ℕ → Access = λ n. record { event = Looked n run; reply = reply; bytes = c.keep_look-bytes.result } in
    let moves : List ℕ → Access = λ bs. record { event = Looked area.number run; reply = reply; bytes = bs } in
    let bytes : c.keep_look-bytes.result ≡ moved_by_look run c.in_ok-bytes-in-Map.bytes = c.keep_look-bytes.ensures.bytes in
    let R : Command → Type 0 = λ x. AccessedBy held now area c.look-run.new.self turn c.look-run.new.turn x (Ok a) in
    let B : List ℕ → Type 0 = λ bs. Appends c.reserve.new.area c.look-run.new.self turn c.look-run.new.turn (Looked c.reserve.new.area.number run) (moved_by_look run bs) in
    subst R (sym m.is)
    (looked-made held c.reserve_mapping.new.self now area c.reserve.new.area c.look-run.new.self turn c.look-run.new.turn m.mapping m.name m.off m.len m.direction m.mask c.request-request.result run reply c.in_ok-bytes-in-Map.bytes a
    (ap number c.requires.number ∙ ap moves bytes) by c.reserve_mapping.ensures.same c.reserve.ensures.kept c.request-request.ensures.request c.in_ok-bytes-in-Map.ensures.bytes c.look-run.ensures.found
    (subst B c.as_slice.ensures c.look-run.ensures.appends) c.look_reply-reply.ensures (c.keep_look-bytes.ensures.keeps area.number))
