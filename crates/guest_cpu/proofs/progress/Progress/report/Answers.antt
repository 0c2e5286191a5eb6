use Rattle.std.proofs.Common.{◌≡◌, suc, Bool, Option, List, length, arith, ap, refl, sym, ◌∙◌, subst}
use Rattle.std.specs.Option.{ForSome}
use Rattle.dma_map.specs.Pools.{HasPool, IsLayout}
use Rattle.dma_map.specs.declared.pool.Layout.{Layout}
use Rattle.std.proofs.lemmas.List.{length-map}
use Rattle.guest_base.specs.declared.memory.Units.{Units}
use Rattle.event_core.specs.Claims.{claim_of}
use Rattle.held_blocks.specs.Holdings.{own_in as own_held}
use Rattle.guest_cpu.specs.declared.progress.OpenRun.{OpenRun}
use Rattle.guest_cpu.specs.Kept.{done_of, out_of, runs_in, runs_of}
use Rattle.guest_cpu.specs.Progressing.{Progressed, command_of}
use Rattle.guest_cpu.specs.Stepping.{Reports, reply_of_report}
use Rattle.guest_cpu.specs.Wanting.{is_alloc}
use Rattle.guest_cpu.specs.contracts.progress.Progress.{the_view}
use Rattle.guest_cpu.proofs.KeptLemmas.{few-ended, opens-keep}
use Rattle.guest_cpu.proofs.OwnLemmas.{report-holds}
use Rattle.guest_cpu.proofs.ReportLemmas.{reports-made}
use Rattle.guest_cpu.proofs.progress.Progress.report.Goals as goal

pub invariant_of-self : goal.invariant_of-self
invariant_of-self c =
    let long : length (runs_of c.self.inside.open_run c.self.inside.later.items) ≡ suc (length (runs_in c.self.inside.later.items)) =
    ap (λ (o : Option OpenRun). length (runs_of o c.self.inside.later.items)) (sym c.take.ensures.value) ∙ ap (λ (rs : List Units). length rs) (c.worked_run-span.ensures.runs c.self.inside.later.items) in
    let mapped = length-map c.self.inside.later.items (λ (r : _). r.run) in
    let added = c.add_there.ensures in
    let more = added.room in
    let k = c.self.invariant in
    let layout = added.held.layout in
    let L : Option Layout → Type 0 = λ l. HasPool c.self.inside.boot.value l in
    let I : Option Layout → Type 0 = λ l. ForSome l IsLayout in
    let fits = c.self.invariant.reports in
    let holds = report-holds c.self.inside.script c.self.inside.made.moved c.add_there.new.made.moved c.report.new.turn c.worked_run-span.result.run c.worked_run-span.result.copy c.stopped_page.result c.go_on-next.result c.is_for_block-for_block.result c.report.result
    c.after_report-span.result.1 c.self.inside.held c.add_there.new.held k.holds c.after_report-span.ensures.reply added.held.own added.moved in
    opens-keep c.self.inside.boot.value c.self.inside.hosts c.self.inside.script c.add_there.new.made c.add_there.new.held c.after_report-span.result.0 c.self.inside.later.items c.go_on-next.new.open_run c.go_on-next.new.later.items c.go_on-next.result
    k.same_hosts (subst L (sym layout) k.pool) (subst I (sym layout) k.laid_out) (few-ended c.self.inside.held c.add_there.new.held c.after_report-span.result.1 (own_held c.self.inside.held) k.laid_out k.looks layout refl added.held.own) k.unconverting k.readable holds (omega (arith, long, mapped, more, fits)) k.rooms c.go_on-next.ensures

pub returns : goal.returns
returns c calls end done claim claimed =
    let old : Progressed = the_view c.self.inside in
    let new : Progressed = the_view (record c.self.inside { made = c.add_there.new.made; held = c.add_there.new.held; open_run = c.go_on-next.new.open_run; later = c.go_on-next.new.later }) in
    let R : Progressed → Type 0 = λ p. Reports p new c.args.memory.now c.report.new.self claim calls end in
    let told : c.is_for_block-for_block.result ≡ is_alloc (command_of old) = c.is_for_block-for_block.ensures ∙ ap (λ (p : Progressed). is_alloc (command_of p)) (sym c.self.view_is) in
    let taken : c.take.result ≡ c.self.inside.open_run = c.take.ensures.value in
    subst R c.self.view_is
    (reports-made old c.take.result c.self.inside.later.items c.worked_run-span.result c.args.memory.now c.report.new.self c.turn-turn.result c.report.new.turn c.report.result c.after_report-span.result.0 c.after_report-span.result.1
    c.go_on-next.new.open_run c.go_on-next.new.later.items c.go_on-next.result c.stopped_page.result c.add_there.new.made.moved c.add_there.new.made.room
    (ap out_of (sym taken)) (ap done_of (sym taken)) (ap (λ (o : Option OpenRun). runs_of o c.self.inside.later.items) (sym taken)) c.worked_run-span.ensures c.turn-turn.ensures
    c.report.ensures.reported c.report.ensures.appends c.report.ensures.brings c.report.ensures.others c.after_report-span.ensures.next (c.after_report-span.ensures.reply ∙ ap (λ (b : Bool). reply_of_report b c.report.result) told) c.go_on-next.ensures c.stopped_page.ensures c.add_there.ensures.moved
    calls end (ap (λ (p : Progressed). p.done) c.self.view_is ∙ done) claim (ap (λ (p : Progressed). claim_of c.args.memory.now.boot c.args.memory.now.entries p.number) c.self.view_is ∙ claimed))
