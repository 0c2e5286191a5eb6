use Rattle.std.proofs.Common.{◌≡◌, ℕ, ◌+◌, ◌-◌, ◌*◌, ◌^◌, ◌<◌, ◌≤◌, true, Option, None, Some, List, [], ◌∷◌, ◌++◌, sym, ◌∙◌, ap, subst, arith, refl, rules}
use Rattle.std.specs.Prelude.{slice_set, Vec}
use Rattle.std.specs.declared.alloc.Global.{Global}
use Rattle.guest_base.specs.Ranges.{in_range}
use Rattle.guest_base.specs.declared.memory.Pages.{Pages}
use Rattle.guest_base.specs.declared.memory.Units.{Units}
use Rattle.event_core.specs.declared.entry.Entry.{Entry}
use Rattle.event_core.specs.declared.entry.Turn.{Turn}
use Rattle.event_core.specs.declared.event.Event.{Event}
use Rattle.event_core.specs.declared.event.Event.TheVariants.{Claim}
use Rattle.event_core.specs.Blocks.{lowest_waiting}
use Rattle.event_core.specs.Calls.{calls_of}
use Rattle.event_core.specs.Claims.{claim_of, in_the_way}
use Rattle.event_core.specs.MemoryRows.{run_of_claim, page_state, pages_first, pages_count}
use Rattle.event_core.specs.Units.{unit_pages, units_end}
use Rattle.page_module.specs.States.{state_in}
use Rattle.page_module.specs.Tables.{run_count}
use Rattle.accepting_ranges.specs.Claims.{kept_of}
use Rattle.block_laws.proofs.FitFacts.{ClaimFits}
use Rattle.memory_core.specs.Bitmaps.{bits_in, AreRunsFrom}
use Rattle.memory_core.specs.Answers.{IsMet, Opens, OthersKeep, UsesFor}
use Rattle.memory_core.specs.KeptBlocks.{HasBlockRoom}
use Rattle.memory_core.specs.Steps.{last_stamp, bare_entry, pages_of, Appends}
use Rattle.memory_core.specs.declared.claims.OpenClaim.{OpenClaim}
use Rattle.memory_core.specs.Value.{MemoryValue}
use Rattle.memory_core.specs.Waiting.{waiting_left}
use Rattle.memory_core.proofs.BeginLemmas.{made_claim, claimed-in, stands-claimed}
use Rattle.memory_core.proofs.BegunLemmas.{ClaimedFacts, seen, both-is, claimed-facts, claim-fits, appends-of, run-is, none-claimed, others-kept, opens-of, uses-for}
use Rattle.memory_core.proofs.BitsLemmas.{run-pages-are}
use Rattle.memory_core.proofs.BlocksLemmas.{lowest-back}
use Rattle.memory_core.proofs.BlockStepLemmas.{BlocksGo, begun-go, begun-falls, room-begun, room-cleared, room-after-less}
use Rattle.memory_core.proofs.HoldsLemmas.{none-kept}
use Rattle.memory_core.proofs.OpenLemmas.{way-some, way-none, room-take, runs-few, has-states}
use Rattle.memory_core.proofs.StepLemmas.{stands-more, calls-claimed, claims-closed}
use Rattle.memory_core.proofs.UnitsLemmas.{run-page-some}
use Rattle.memory_core.proofs.memory.Memory.open_claim.Goals.{After-first_run_of-run, After-append, After-run_pages, In-Some-both_of}
use Rattle.memory_core.proofs.memory.Memory.open_claim.Goals as goal

-- ---- what holds on the way

-- what a claim of a block does to the blocks
block_fits : (c : After-first_run_of-run) → ClaimFits c.self.inside.boot.value c.self.inside.entries.items c.args.turn.now.cpu.0 c.args.block c.args.units c.first_run_of-run.result
block_fits c =
    let i = c.self.inside in
    claim-fits i.boot.value i.entries.items i.accepting i.room c.args.self.now i.bits c.args.turn.now.cpu.0 c.args.block c.args.units c.first_run_of-run.result c.self.view_is c.requires.step.free c.self.invariant.0.holds.bits c.first_run_of-run.ensures c.requires.lowest

-- the entry is the definition's, whatever is kept and left with it
appended : (c : After-append) (claims : List (Option OpenClaim)) (room : ℕ)
    → Appends c.args.self.now (seen c.self.inside.boot.value c.append.new.entries.items claims room) c.args.turn.now c.append.new.turn (Claim c.args.block c.args.units (run_of_claim c.args.self.now.boot c.args.self.now.entries c.args.units))
appended c claims room =
    let i = c.self.inside in
    let s = c.self.invariant.0 in
    let turn = c.args.turn.now in
    let B = c.args.block in
    let U = c.args.units in
    let new = seen i.boot.value c.append.new.entries.items claims room in
    let P : MemoryValue → Type 0 = λ m. Appends m new turn c.append.new.turn (Claim B U (run_of_claim m.boot m.entries U)) in
    subst P c.self.view_is
    (appends-of (seen i.boot.value i.entries.items i.accepting i.room) new turn c.append.new.turn i.last (Claim B U c.first_run_of-run.result) _
    refl c.append.ensures.entries s.last_is (ap (Claim B U) (run-is i.boot.value i.entries.items i.bits U c.first_run_of-run.result s.holds.bits c.first_run_of-run.ensures)) c.append.ensures.turn)

-- the units and the run that are claimed
facts : (c : In-Some-both_of) → ClaimedFacts c.self.inside.boot.value c.self.inside.entries.items c.self.inside.bits c.self.inside.accepting c.args.units c.self.inside.room c.in-Some-both_of.units c.in-Some-both_of.run'
facts c =
    let i = c.self.inside in
    claimed-facts i.boot.value i.entries.items i.accepting i.room c.args.self.now i.bits c.args.units c.first_run_of-run.result (c.in-Some-both_of.units, c.in-Some-both_of.run') c.self.view_is c.self.invariant.0.holds.bits
    c.requires.end c.first_run_of-run.ensures (sym c.both_of.ensures ∙ c.in-Some-both_of.is) (c.in_default.ensures.none refl) c.requires.step.room

pages-are : (c : After-run_pages) → c.run_pages.result ≡ pages_of c.self.inside.boot.value c.in-Some-both_of.run'
pages-are c = run-pages-are c.self.inside.boot.value c.self.inside.bits c.in-Some-both_of.run' c.run_pages.result c.self.invariant.0.same_bits c.run_pages.ensures

-- ---- the goals
pub returns-in-Some-clause-begun : goal.returns-in-Some-clause-begun
returns-in-Some-clause-begun c =
    let i = c.self.inside in
    let s = c.self.invariant.0 in
    let met = way-some i.boot.value i.entries i.last i.table i.bits i.accepting i.blocks i.unit_pages i.kept i.room s c.args.units c.in-Some.met c.in-Some.ensures.some in
    let P : MemoryValue → Type 0 = λ m. IsMet m c.args.units c.in-Some.met in
    subst P c.self.view_is (record { cpu = met.cpu; claim = met.claim; first = met.first; claimed = met.claimed; same = met.same })

pub start_block-requires-clause-lowest : goal.start_block-requires-clause-lowest
start_block-requires-clause-lowest c block is =
    let i = c.self.inside in
    let s = c.self.invariant.0 in
    (lowest-back i.boot.value i.entries.items i.blocks block s.settled s.blocks_are
    (let P : MemoryValue → Type 0 = λ m. lowest_waiting m.boot m.entries ≡ Some block in subst P (sym c.self.view_is) (c.requires.lowest block is).lowest)).1

pub start_block-requires-clause-block : goal.start_block-requires-clause-block
start_block-requires-clause-block c block is =
    let i = c.self.inside in
    let s = c.self.invariant.0 in
    (lowest-back i.boot.value i.entries.items i.blocks block s.settled s.blocks_are
    (let P : MemoryValue → Type 0 = λ m. lowest_waiting m.boot m.entries ≡ Some block in subst P (sym c.self.view_is) (c.requires.lowest block is).lowest)).0

pub start_block-requires-clause-room : goal.start_block-requires-clause-room
start_block-requires-clause-room c =
    let i = c.self.inside in
    let room = ap (λ (m : MemoryValue). m.room) c.self.view_is in
    let need = c.requires.step.room in
    let step = c.self.invariant.0.block_room.step (omega (arith, room, need)) in
    omega (arith, step)

pub run_pages-requires-clause-some : goal.run_pages-requires-clause-some
run_pages-requires-clause-some c = (facts (goal.at.run_pages-requires-clause-some c).In-Some-both_of).first.some

pub run_pages-requires-clause-set : goal.run_pages-requires-clause-set
run_pages-requires-clause-set c = (facts (goal.at.run_pages-requires-clause-set c).In-Some-both_of).first.set

pub take-span-requires-clause-here : goal.take-span-requires-clause-here
take-span-requires-clause-here c page inside none =
    let i = c.self.inside in
    let s = c.self.invariant.0 in
    let f = facts (goal.at.take-span-requires-clause-here c).In-Some-both_of in
    let run = c.in-Some-both_of.run' in
    let pages = pages-are (goal.at.take-span-requires-clause-here c).After-run_pages in
    let at : in_range (pages_first i.boot.value run) (pages_count i.boot.value run) page ≡ true = sym (ap (λ (p : Pages). in_range p.first p.count page) pages) ∙ inside in
    run-page-some i.boot.value (calls_of i.boot.value i.entries.items) run s.holds.ram (λ unit h. sym (s.holds.bits unit) ∙ f.first.set unit h) page at
    (sym (s.holds.states page (claimed-in i.boot.value i.entries i.last i.table i.bits i.accepting i.blocks i.unit_pages i.kept i.room c.in-Some-both_of.units run s f.clear f.first page at)) ∙ none)

pub take-span-requires-clause-room : goal.take-span-requires-clause-room
take-span-requires-clause-room c =
    let i = c.self.inside in
    let s = c.self.invariant.0 in
    let f = facts (goal.at.take-span-requires-clause-room c).In-Some-both_of in
    let run = c.in-Some-both_of.run' in
    let pages = pages-are (goal.at.take-span-requires-clause-room c).After-run_pages in
    let P : ℕ → Type 0 = λ n. i.room * (2 * n + 2) ≤ i.table.room in
    room-take (unit_pages i.boot.value) i.room run.count (run_count (state_in i.table.runs) c.run_pages.result) i.table.room f.first.some (let less = f.fits in omega (arith, less)) (runs-few i.boot.value run i.table.runs c.run_pages.result pages) (subst P s.pages_are s.table_room)

pub runs_behind-requires-clause-run : goal.runs_behind-requires-clause-run
runs_behind-requires-clause-run c = (facts (goal.at.runs_behind-requires-clause-run c).In-Some-both_of).first.within

pub runs_behind-requires-clause-room : goal.runs_behind-requires-clause-room
runs_behind-requires-clause-room c =
    let i = c.self.inside in
    let s = c.self.invariant.0 in
    let f = facts (goal.at.runs_behind-requires-clause-room c).In-Some-both_of in
    let counts = f.first.counts in
    let need = f.need in
    let spare = c.self.invariant.1.enough in
    omega (arith, counts, need, spare)

pub overflow_sub-claim-in-Some-both_of : goal.overflow_sub-claim-in-Some-both_of
overflow_sub-claim-in-Some-both_of c = let less = (facts (goal.at.overflow_sub-claim-in-Some-both_of c).In-Some-both_of).fits in omega (arith, less)

pub add-requires : goal.add-requires
add-requires c =
    let i = c.self.inside in
    let s = c.self.invariant.0 in
    let f = facts (goal.at.add-requires c).In-Some-both_of in
    let cpu = c.args.turn.now.cpu.0 in
    let few = s.booted.cpus in
    let low = c.requires.step.cpu in
    let cpus = ap (λ (m : MemoryValue). m.boot.cpus) c.self.view_is in
    let cpu_now : c.append.new.turn.cpu.0 ≡ cpu = ap (λ (t : Turn). t.cpu.0) c.append.ensures.turn in
    let in_place : c.append.new.turn.cpu.0 < 64 = omega (arith, few, low, cpus, cpu_now) in
    let free : kept_of i.accepting c.append.new.turn.cpu.0 ≡ None =
    ap (kept_of i.accepting) cpu_now
    ∙ none-kept i.boot.value (bits_in i.bits) i.table.out (kept_of i.accepting cpu) (claim_of i.boot.value i.entries.items cpu)
    (ap (λ (m : MemoryValue). claim_of m.boot m.entries cpu) c.self.view_is ∙ c.requires.step.free) (s.holds.open_claims cpu) in
    let apart = f.clear in
    search rules

pub invariant_of-self : goal.invariant_of-self
invariant_of-self c =
    let i = c.self.inside in
    let s = c.self.invariant.0 in
    let f = facts (goal.at.invariant_of-self c).In-Some-both_of in
    let run = c.in-Some-both_of.run' in
    let units = c.in-Some-both_of.units in
    let step = c.requires.step in
    let pages = pages-are (goal.at.invariant_of-self c).After-run_pages in
    let first = f.first in
    let turn = c.args.turn.now in
    let cpu_now : c.append.new.turn.cpu.0 ≡ turn.cpu.0 = ap (λ (t : Turn). t.cpu.0) c.append.ensures.turn in
    let last : i.last < 2 ^ 64 = (let is = s.last_is in let same = ap (λ (m : MemoryValue). last_stamp m.entries) c.self.view_is in let low = step.last in omega arith) in
    let left : ℕ = i.room - 1 - run.count in
    let low = step.cpu in
    let cpus = ap (λ (m : MemoryValue). m.boot.cpus) c.self.view_is in
    let free = ap (λ (m : MemoryValue). claim_of m.boot m.entries turn.cpu.0) c.self.view_is ∙ step.free in
    let less = f.fits in
    let some = first.some in
    let fits = s.entry_room in
    let small = i.entries.small in
    let U = both-is c.args.units c.first_run_of-run.result (units, run) (sym c.both_of.ensures ∙ c.in-Some-both_of.is) in
    let B = c.args.block in
    let event : Claim B c.args.units c.first_run_of-run.result ≡ Claim B (Some units) (Some run) = ap (λ u. Claim B u c.first_run_of-run.result) U.0 ∙ ap (Claim B (Some units)) U.1 in
    let claims_is = c.add.ensures ∙ ap (λ n. slice_set i.accepting n (Some (made_claim B units run c.replace.result c.ticket.result left))) cpu_now ∙ ap (λ t. slice_set i.accepting turn.cpu.0 (Some (made_claim B units run c.replace.result t left))) c.ticket.ensures in
    let fit = block_fits (goal.at.invariant_of-self c).After-first_run_of-run in
    let room = ap (λ (m : MemoryValue). m.room) c.self.view_is in
    let places = s.places in
    let few = s.booted.cpus in
    let enough = room-begun i.blocks c.start_block.new.blocks i.accepting c.add.new.self turn.cpu.0 i.room B c.first_run_of-run.result (made_claim B units run c.replace.result c.take-span.result.ticket left) s.block_room (omega (arith, less)) c.start_block.ensures
    (none-kept i.boot.value (bits_in i.bits) i.table.out (kept_of i.accepting turn.cpu.0) (claim_of i.boot.value i.entries.items turn.cpu.0) free (s.holds.open_claims turn.cpu.0)) (omega (arith, low, cpus, places, few)) claims_is in
    let G : Event → Type 0 = λ e. BlocksGo i.boot.value i.entries.items (bare_entry turn i.last e) c.start_block.new.blocks c.add.new.self 0 in
    let go = subst G event (begun-go i.boot.value i.entries.items turn i.last i.blocks c.start_block.new.blocks c.add.new.self 0 B c.args.units c.first_run_of-run.result s.settled s.steady.waiting s.blocks_are fit c.start_block.ensures enough) in (
      stands-claimed i.boot.value i.entries c.append.new.entries i.last c.append.new.last i.table c.take-span.new.self i.bits i.accepting c.add.new.self i.blocks c.start_block.new.blocks i.unit_pages i.kept _ i.room left turn B units run c.replace.result c.run_pages.result c.take-span.result
          s (omega (arith, low, cpus)) free f.clear first f.end f.need (subst (λ (rs : Vec Units Global). AreRunsFrom (bits_in i.bits) (units_end run) (units_end units) rs.items) (sym c.replace.ensures.value) c.runs_behind.ensures)
          (c.append.ensures.entries ∙ ap (λ e. i.entries.items ++ bare_entry turn i.last e ∷ []) event) c.append.ensures.capacity c.append.ensures.last step.clock last
          pages c.take-span.ensures.pages c.take-span.ensures.rest c.take-span.ensures.out c.take-span.ensures.room
          refl claims_is
          refl (omega (arith, fits, small, less, some)) go,
      record { empty = ap (λ (rs : Vec Units Global). rs.items) c.replace.ensures.after ∙ c.new.ensures.items; enough = omega arith },
    )

pub invariant_of-self-in-None : goal.invariant_of-self-in-None
invariant_of-self-in-None c =
    let i = c.self.inside in
    let s = c.self.invariant.0 in
    let step = c.requires.step in
    let turn = c.args.turn.now in
    let B = c.args.block in
    let U = c.args.units in
    let R = c.first_run_of-run.result in
    let last : i.last < 2 ^ 64 = (let is = s.last_is in let same = ap (λ (m : MemoryValue). last_stamp m.entries) c.self.view_is in let low = step.last in omega arith) in
    let free = ap (λ (m : MemoryValue). claim_of m.boot m.entries turn.cpu.0) c.self.view_is ∙ step.free in
    let room = ap (λ (m : MemoryValue). m.room) c.self.view_is in
    let need = step.room in
    let fits = s.entry_room in
    let small = i.entries.small in
    let some : 0 < i.room = omega (arith, room, need) in
    let less : c.room_left-self-inside.result < i.room = (let is = c.room_left-self-inside.ensures in let low = room-after-less B i.room some in omega (arith, is, low)) in
    let enough : HasBlockRoom c.start_block.new.blocks i.accepting c.room_left-self-inside.result =
    (let P : ℕ → Type 0 = HasBlockRoom c.start_block.new.blocks i.accepting in subst P (sym c.room_left-self-inside.ensures) (room-cleared i.blocks c.start_block.new.blocks i.accepting i.room B R s.block_room some c.start_block.ensures)) in
    let fit = block_fits (goal.at.invariant_of-self-in-None c).After-first_run_of-run in
    let go = begun-go i.boot.value i.entries.items turn i.last i.blocks c.start_block.new.blocks i.accepting c.room_left-self-inside.result B U R s.settled s.steady.waiting s.blocks_are fit c.start_block.ensures enough in
    let spare = c.self.invariant.1.enough in (
      stands-more i.boot.value i.entries c.append.new.entries i.last c.append.new.last i.table i.bits i.accepting i.blocks c.start_block.new.blocks i.unit_pages i.kept i.room _ turn (Claim B U R) s
          (calls-claimed i.boot.value i.entries.items turn i.last B U R) (claims-closed i.boot.value i.entries.items turn i.last B U R free (sym c.both_of.ensures ∙ c.in-None.is))
          c.append.ensures.entries c.append.ensures.capacity c.append.ensures.last step.clock last (omega (arith, fits, small)) less go,
      record { empty = c.self.invariant.1.empty; enough = omega (arith, spare, less) },
    )

pub returns-in-Some-both_of-clause-begun : goal.returns-in-Some-both_of-clause-begun
returns-in-Some-both_of-clause-begun c =
    let i = c.self.inside in
    let s = c.self.invariant.0 in
    let f = facts (goal.at.returns-in-Some-both_of-clause-begun c).In-Some-both_of in
    let run = c.in-Some-both_of.run' in
    let units = c.in-Some-both_of.units in
    let pages = pages-are (goal.at.returns-in-Some-both_of-clause-begun c).After-run_pages in
    let first = f.first in
    let turn = c.args.turn.now in
    let cpu_now : c.append.new.turn.cpu.0 ≡ turn.cpu.0 = ap (λ (t : Turn). t.cpu.0) c.append.ensures.turn in
    let left : ℕ = i.room - 1 - run.count in
    let low = c.requires.step.cpu in
    let cpus = ap (λ (m : MemoryValue). m.boot.cpus) c.self.view_is in
    let places = s.places in
    let few = s.booted.cpus in
    let less = f.fits in
    let B = c.args.block in
    let U = c.args.units in
    let R = c.first_run_of-run.result in
    let calls = calls_of i.boot.value i.entries.items in
    let P : MemoryValue → Type 0 = λ m. Opens m (seen i.boot.value c.append.new.entries.items c.add.new.self 0) turn.cpu.0 U c.take-span.result in
    subst P c.self.view_is
    (opens-of i.boot.value i.entries.items c.append.new.entries.items i.accepting c.add.new.self i.room turn.cpu.0 U run c.take-span.result (made_claim B units run c.replace.result c.ticket.result left) calls
    (way-none i.boot.value i.entries i.last i.table i.bits i.accepting i.blocks i.unit_pages i.kept i.room s U (c.in_default.ensures.none refl))
    f.run_is (omega (arith, less)) (omega (arith, low, cpus, places, few))
    (c.add.ensures ∙ ap (λ n. slice_set i.accepting n (Some (made_claim B units run c.replace.result c.ticket.result left))) cpu_now) c.ticket.ensures
    (ap (calls_of i.boot.value) c.append.ensures.entries ∙ calls-claimed i.boot.value i.entries.items turn i.last B U R)
    (has-states i.boot.value calls (claim_of i.boot.value i.entries.items) run c.run_pages.result i.table.runs c.take-span.result pages c.take-span.ensures.pages c.take-span.ensures.states
    (claimed-in i.boot.value i.entries i.last i.table i.bits i.accepting i.blocks i.unit_pages i.kept i.room units run s f.clear first) s.holds.states))

pub returns-in-Some-both_of-clause-appends : goal.returns-in-Some-both_of-clause-appends
returns-in-Some-both_of-clause-appends c free = appended (goal.at.returns-in-Some-both_of-clause-appends c).After-append c.add.new.self 0

pub returns-in-None-clause-begun : goal.returns-in-None-clause-begun
returns-in-None-clause-begun c =
    let i = c.self.inside in
    let s = c.self.invariant.0 in
    let B = c.args.block in
    let U = c.args.units in
    let some = c.requires.step.room in
    let room = ap (λ (m : MemoryValue). m.room) c.self.view_is in
    let new = seen i.boot.value c.append.new.entries.items i.accepting c.room_left-self-inside.result in
    let P : MemoryValue → Type 0 = λ m. (in_the_way m.boot m.entries U ≡ None) × (run_of_claim m.boot m.entries U ≡ None) × UsesFor B m new in
    subst P c.self.view_is (
      way-none i.boot.value i.entries i.last i.table i.bits i.accepting i.blocks i.unit_pages i.kept i.room s U (c.in_default.ensures.none refl),
      none-claimed i.boot.value i.entries.items i.bits U c.first_run_of-run.result s.holds.bits c.first_run_of-run.ensures (sym c.both_of.ensures ∙ c.in-None.is),
      uses-for (seen i.boot.value i.entries.items i.accepting i.room) new B refl (omega (arith, some, room)) c.room_left-self-inside.ensures,
    )

pub returns-in-None-clause-appends : goal.returns-in-None-clause-appends
returns-in-None-clause-appends c free = appended (goal.at.returns-in-None-clause-appends c).After-append c.self.inside.accepting c.room_left-self-inside.result

pub returns-in-Some-both_of-clause-others : goal.returns-in-Some-both_of-clause-others
returns-in-Some-both_of-clause-others c =
    let i = c.self.inside in
    let s = c.self.invariant.0 in
    let turn = c.args.turn.now in
    let B = c.args.block in
    let U = c.args.units in
    let R = c.first_run_of-run.result in
    let cpu_now : c.append.new.turn.cpu.0 ≡ turn.cpu.0 = ap (λ (t : Turn). t.cpu.0) c.append.ensures.turn in
    let made = made_claim B c.in-Some-both_of.units c.in-Some-both_of.run' c.replace.result c.ticket.result (i.room - 1 - c.in-Some-both_of.run'.count) in
    let fit = block_fits (goal.at.returns-in-Some-both_of-clause-others c).After-first_run_of-run in
    let P : MemoryValue → Type 0 = λ m. OthersKeep m (seen i.boot.value c.append.new.entries.items c.add.new.self 0) turn.cpu.0 in
    subst P c.self.view_is
    (others-kept i.boot.value i.entries.items c.append.new.entries.items i.accepting c.add.new.self i.room 0 turn.cpu.0 (Some made)
    (ap (calls_of i.boot.value) c.append.ensures.entries ∙ calls-claimed i.boot.value i.entries.items turn i.last B U R)
    (let W : List Entry → Type 0 = λ es. waiting_left i.boot.value es ≤ waiting_left i.boot.value i.entries.items in subst W (sym c.append.ensures.entries) (begun-falls i.boot.value i.entries.items turn i.last B U R fit))
    (c.add.ensures ∙ ap (λ n. slice_set i.accepting n (Some made)) cpu_now))

pub returns-in-None-clause-others : goal.returns-in-None-clause-others
returns-in-None-clause-others c =
    let i = c.self.inside in
    let s = c.self.invariant.0 in
    let turn = c.args.turn.now in
    let B = c.args.block in
    let U = c.args.units in
    let R = c.first_run_of-run.result in
    let fit = block_fits (goal.at.returns-in-None-clause-others c).After-first_run_of-run in
    let P : MemoryValue → Type 0 = λ m. OthersKeep m (seen i.boot.value c.append.new.entries.items i.accepting c.room_left-self-inside.result) turn.cpu.0 in
    subst P c.self.view_is (record {
      handed = λ other differ. refl;
      states = λ other claim page differ has inside. ap (λ cs. page_state i.boot.value cs page) (ap (calls_of i.boot.value) c.append.ensures.entries ∙ calls-claimed i.boot.value i.entries.items turn i.last B U R);
      waiting = (let W : List Entry → Type 0 = λ es. waiting_left i.boot.value es ≤ waiting_left i.boot.value i.entries.items in subst W (sym c.append.ensures.entries) (begun-falls i.boot.value i.entries.items turn i.last B U R fit));
    })
