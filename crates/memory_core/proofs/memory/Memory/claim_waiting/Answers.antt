use Rattle.std.proofs.Common.{◌≡◌, Option, sym, subst}
use Rattle.guest_base.specs.declared.memory.Units.{Units}
use Rattle.memory_core.specs.Steps.{IsForLowest, MayBegin, unaccepted_count}
use Rattle.memory_core.proofs.ClaimedLookLemmas.{for-lowest, look-cleared, looks-claim, looks-stopped}
use Rattle.memory_core.proofs.memory.Memory.claim_waiting.Goals as goal

pub open_claim-requires-clause-lowest : goal.open_claim-requires-clause-lowest
open_claim-requires-clause-lowest c block is =
    let its = for-lowest c.args.self.now c.args.block c.waiting_units-units.result c.requires.lowest c.waiting_units-units.ensures.units in
    let same : c.args.block ≡ block = cc in
    subst (IsForLowest c.args.self.now c.waiting_units-units.result) same its

pub open_claim-requires-clause-step : goal.open_claim-requires-clause-step
open_claim-requires-clause-step c =
    let P : Option Units → Type 0 = λ u. MayBegin c.args.self.now c.args.turn.now (unaccepted_count c.args.self.now.boot c.args.self.now.entries u) in
    subst P (sym c.waiting_units-units.ensures.units) c.requires.step

pub returns-in-Clear-clause-looked : goal.returns-in-Clear-clause-looked
returns-in-Clear-clause-looked c order none =
    let its = for-lowest c.args.self.now c.args.block c.waiting_units-units.result c.requires.lowest c.waiting_units-units.ensures.units in
    let e = c.in-Clear.ensures in
    look-cleared c.args.self.now c.open_claim.new.self c.args.turn.now c.open_claim.new.turn c.args.block c.waiting_units-units.result its order none e.begun.0 e.begun.1 e.begun.2 (e.appends (λ no. no))

pub returns-in-Clear-clause-looks : goal.returns-in-Clear-clause-looks
returns-in-Clear-clause-looks c order none =
    let its = for-lowest c.args.self.now c.args.block c.waiting_units-units.result c.requires.lowest c.waiting_units-units.ensures.units in
    let e = c.in-Clear.ensures in
    looks-claim c.args.self.now c.open_claim.new.self c.args.turn.now c.open_claim.new.turn c.args.block c.waiting_units-units.result its order none e.begun.0 (e.appends (λ no. no))

pub returns-in-Claimed-clause-looks : goal.returns-in-Claimed-clause-looks
returns-in-Claimed-clause-looks c order none =
    let its = for-lowest c.args.self.now c.args.block c.waiting_units-units.result c.requires.lowest c.waiting_units-units.ensures.units in
    let e = c.in-Claimed.ensures in
    looks-claim c.args.self.now c.open_claim.new.self c.args.turn.now c.open_claim.new.turn c.args.block c.waiting_units-units.result its order none e.begun.free (e.appends (λ no. no))

pub returns-in-Blocked-clause-looks : goal.returns-in-Blocked-clause-looks
returns-in-Blocked-clause-looks c order none =
    let its = for-lowest c.args.self.now c.args.block c.waiting_units-units.result c.requires.lowest c.waiting_units-units.ensures.units in
    let e = c.in-Blocked.ensures in
    looks-stopped c.args.self.now c.open_claim.new.self c.args.turn.now c.open_claim.new.turn c.args.block c.waiting_units-units.result its order none c.in-Blocked.met e.begun (e.blocked tt)
