-- What an entry of the memory makes of its blocks.
use Rattle.std.proofs.Common.{◌≡◌, ◌≢◌, ℕ, ◌+◌, ◌-◌, ◌*◌, ◌/◌, ◌%◌, ◌^◌, ◌<◌, ◌≤◌, Bool, false, ◌&&◌, inl, inr, eq-eqb, Option, None, Some, List, [], ◌∷◌, ◌++◌, refl, sym, ◌∙◌, ap, subst, arith, length, true}
use Rattle.std.specs.Prelude.{IfNone, IfSome, is_some, sum_by, slice_set, not, ◌==◌, ◌||◌}
use Rattle.std.proofs.lemmas.Bool.{cases_Bool}
use Rattle.std.specs.Option.{ForSome}
use Rattle.std.proofs.lemmas.List.Sums.{sum_by-cons, sum_by-set}
use Rattle.guest_base.specs.Ranges.{in_range}
use Rattle.guest_base.proofs.RangeLemmas.{in_range-intro}
use Rattle.guest_base.specs.declared.memory.Block.{Block}
use Rattle.guest_base.specs.declared.memory.Page.{Page}
use Rattle.guest_base.specs.declared.memory.Units.{Units}
use Rattle.event_core.specs.declared.boot.Boot.{Boot}
use Rattle.event_core.specs.declared.entry.Entry.{Entry}
use Rattle.event_core.specs.declared.entry.Turn.{Turn}
use Rattle.event_core.specs.declared.event.Event.TheVariants.{Claim, Freed, Report}
use Rattle.event_core.specs.declared.module_call.ModuleCall.{ModuleCall}
use Rattle.event_core.specs.Acceptance.{stop_of}
use Rattle.event_core.specs.Calls.{calls_of}
use Rattle.event_core.specs.Claims.{Claimed, claim_of}
use Rattle.event_core.specs.Legal.{CallsFit}
use Rattle.event_core.specs.MemoryRows.{AcceptsUnits, next_run, report_event}
use Rattle.accepting_ranges.specs.Claims.{kept_of}
use Rattle.accepting_ranges.proofs.ClaimLemmas.{kept_of-inside}
use Rattle.block_allocator.specs.State.{State, Apart, IsBlock, IsLowestWaiting, MayPut, is_free, page_waits, waits}
use Rattle.block_laws.proofs.FitFacts.{ClaimFits, Fits}
use Rattle.memory_core.specs.Answers.{room_after}
use Rattle.memory_core.specs.Away.{WaitingFalls}
use Rattle.memory_core.specs.KeptBlocks.{Begins, BlocksAfter, HasBlockRoom, PutBack, Releases, TakesOut, flights_of, blocks_in}
use Rattle.memory_core.specs.Owners.{is_owner}
use Rattle.memory_core.specs.Settled.{Settled}
use Rattle.memory_core.specs.Steps.{bare_entry}
use Rattle.memory_core.specs.Waiting.{waiting_left}
use Rattle.memory_core.specs.declared.claims.OpenClaim.{OpenClaim}
use Rattle.memory_core.proofs.BlocksLemmas.{LeavesBlocks, ten-first, blocks-same, blocks-next, blocks-without, blocks-closed, blocks-stopped, blocks-claimed, blocks-cleared, may-close}
use Rattle.memory_core.proofs.SettledLemmas.{settled-push}
use Rattle.memory_core.proofs.WaitingLemmas.{falls-push, waiting-push, waiting-closed}

-- behind one more entry what stands of blocks still stands, and the kept blocks are those after it, with room for those of the
-- open claims and of the next step
pub record BlocksGo (boot : Boot) (entries : List Entry) (entry : Entry) (blocks : State) (claims : List (Option OpenClaim)) (room : ℕ) : Type 0 where
  pub settled : Settled boot (entries ++ entry ∷ [])
  pub falls : WaitingFalls boot (entries ++ entry ∷ [])
  pub blocks_are : BlocksAfter boot (entries ++ entry ∷ []) blocks
  pub enough : HasBlockRoom blocks claims room

pub blocks-go : (boot : Boot) (entries : List Entry) (entry : Entry) (blocks : State) (claims : List (Option OpenClaim)) (room : ℕ)
    → Settled boot entries → WaitingFalls boot entries → Fits boot entries entry.cpu.0 entry.event → CallsFit boot entries entry.event
    → ((block : Block) → entry.event ≡ Freed block → is_owner entries entry.cpu.0 block ≡ true)
    → BlocksAfter boot (entries ++ entry ∷ []) blocks → HasBlockRoom blocks claims room → BlocksGo boot entries entry blocks claims room
blocks-go boot entries entry blocks claims room settled falls fits steps frees after enough = record {
  settled = settled-push boot entries entry settled fits steps frees;
  falls = falls-push boot entries entry falls fits;
  blocks_are = after;
  enough = enough;
}

front-none : (xs ys : List Entry) → [] ≡ xs ++ ys → xs ≡ []
front-none [] ys is = refl
front-none (x ∷ xs) ys is = cc

pub falls-first : (boot : Boot) → WaitingFalls boot []
falls-first boot before rest is =
    let none = front-none before rest is in
    let same : waiting_left boot before ≡ waiting_left boot [] = ap (waiting_left boot) none in
    omega (arith, same)

few-blocks : (block : Option Block) → blocks_in block ≤ 1
few-blocks None = omega arith
few-blocks (Some block) = omega arith

few-flights : (k : Option OpenClaim) → flights_of k ≤ 1
few-flights None = omega arith
few-flights (Some k) = few-blocks k.block

-- ---- room is taken

flights-few : (claims : List (Option OpenClaim)) → sum_by flights_of claims ≤ length claims
flights-few [] = omega arith
flights-few (k ∷ claims) =
    let first = few-flights k in
    let rest = flights-few claims in
    let sum = sum_by-cons flights_of k claims in
    omega (arith, first, rest, sum)

pub room-taken : (blocks : State) (claims : List (Option OpenClaim)) (room : ℕ) → length claims ≡ 64 → 74 ≤ blocks.room → HasBlockRoom blocks claims room
room-taken blocks claims room places enough =
    let few = flights-few claims in
    record { claimed = omega (arith, few, places, enough); step = λ some. omega (arith, few, places, enough) }

pub blocks-stay : (boot : Boot) (entries : List Entry) (old new : State) → ((page : ℕ) → is_free new page ≡ is_free old page) → ((first : ℕ) → waits new first ≡ waits old first) → BlocksAfter boot entries old → BlocksAfter boot entries new
blocks-stay boot entries old new free waiting after = record { free = λ page. free page ∙ after.free page; waiting = λ first. waiting first ∙ after.waiting first }

-- where less room is left for a step, it is enough
pub room-less : (blocks : State) (claims : List (Option OpenClaim)) (room room' : ℕ) → room' ≤ room → HasBlockRoom blocks claims room → HasBlockRoom blocks claims room'
room-less blocks claims room room' less has = record { claimed = has.claimed; step = λ some. has.step (omega (arith, some, less)) }

-- ---- a claim

begun-blocks : (boot : Boot) (entries : List Entry) (entry : Entry) (old new : State) (block : Option Block) (units run : Option Units)
    → Settled boot entries → BlocksAfter boot entries old → ClaimFits boot entries entry.cpu.0 block units run → entry.event ≡ Claim block units run → Begins old new block run
    → BlocksAfter boot (entries ++ entry ∷ []) new
begun-blocks boot entries entry old new None units run settled after fits is begins =
    subst (BlocksAfter boot (entries ++ entry ∷ [])) (sym begins) (blocks-same boot entries entry old after (subst LeavesBlocks (sym is) tt))
begun-blocks boot entries entry old new (Some block) units (Some run) settled after fits is begins =
    blocks-claimed boot entries entry old new block units run settled after (fits.lowest block refl).0 is begins.waiting begins.free
begun-blocks boot entries entry old new (Some block) units None settled after fits is begins =
    let mid : State = record { free = old.free; waiting = new.waiting; room = 0 } in
    blocks-cleared boot entries entry old mid new block units settled after (fits.lowest block refl).0 is begins.waiting (λ page. refl) begins.pages (λ first. refl)

pub begun-go : (boot : Boot) (entries : List Entry) (turn : Turn) (last : ℕ) (old new : State) (claims : List (Option OpenClaim)) (room : ℕ) (block : Option Block) (units run : Option Units)
    → Settled boot entries → WaitingFalls boot entries → BlocksAfter boot entries old → ClaimFits boot entries turn.cpu.0 block units run → Begins old new block run → HasBlockRoom new claims room
    → BlocksGo boot entries (bare_entry turn last (Claim block units run)) new claims room
begun-go boot entries turn last old new claims room block units run settled falls after fits begins enough =
    let entry = bare_entry turn last (Claim block units run) in
    blocks-go boot entries entry new claims room settled falls fits tt
    (λ freed_block freed. let no : Claim block units run ≡ Freed freed_block = freed in cc)
    (begun-blocks boot entries entry old new block units run settled after fits refl begins) enough

pub begun-falls : (boot : Boot) (entries : List Entry) (turn : Turn) (last : ℕ) (block : Option Block) (units run : Option Units)
    → ClaimFits boot entries turn.cpu.0 block units run → waiting_left boot (entries ++ bare_entry turn last (Claim block units run) ∷ []) ≤ waiting_left boot entries
begun-falls boot entries turn last block units run fits = waiting-push boot entries (bare_entry turn last (Claim block units run)) fits

begins-room : (old new : State) (block : Option Block) (run : Option Units) → Begins old new block run → old.room ≤ new.room + 1
begins-room old new None run begins = let same : new.room ≡ old.room = ap (λ (v : State). v.room) begins in omega (arith, same)
begins-room old new (Some block) (Some run) begins = let room = begins.room in omega (arith, room)
begins-room old new (Some block) None begins = begins.room

-- the claim is kept: its room for the block is that of the step
pub room-begun : (old new : State) (claims claims' : List (Option OpenClaim)) (cpu room : ℕ) (block : Option Block) (run : Option Units) (k : OpenClaim)
    → HasBlockRoom old claims room → 0 < room → Begins old new block run → kept_of claims cpu ≡ None → cpu < length claims → claims' ≡ slice_set claims cpu (Some k)
    → HasBlockRoom new claims' 0
room-begun old new claims claims' cpu room block run k has some begins free inside is =
    let step = has.step some in
    let left = begins-room old new block run begins in
    let sums = sum_by-set flights_of claims cpu (Some k) None inside in
    let was : flights_of (kept_of claims cpu) ≡ 0 = ap flights_of free in
    let now = ap (λ (cs : List (Option OpenClaim)). sum_by flights_of cs) is in
    let few = few-blocks k.block in
    record { claimed = omega (arith, step, left, sums, was, now, few); step = λ none. absurd (omega (arith, none)) }

-- it leaves less room
pub room-after-less : (block : Option Block) (room : ℕ) → 0 < room → room_after block room < room
room-after-less None room some = omega (arith, some)
room-after-less (Some block) room some = some

-- the claim has no run
pub room-cleared : (old new : State) (claims : List (Option OpenClaim)) (room : ℕ) (block : Option Block) (run : Option Units)
    → HasBlockRoom old claims room → 0 < room → Begins old new block run → HasBlockRoom new claims (room_after block room)
room-cleared old new claims room None run has some begins =
    let P : State → Type 0 = λ v. HasBlockRoom v claims (room - 1) in subst P (sym begins) (room-less old claims room (room - 1) (omega arith) has)
room-cleared old new claims room (Some block) run has some begins =
    let step = has.step some in
    let left = begins-room old new (Some block) run begins in
    record { claimed = omega (arith, step, left); step = λ none. absurd (omega (arith, none)) }

-- the lowest waiting block may be put once it was taken out of the waiting ones
pub may-start : (old mid : State) (block : Block) → IsBlock 10 block → IsLowestWaiting old block → Apart old
    → ((first : ℕ) → waits mid first ≡ (waits old first && not (block.first == first))) → ((page : ℕ) → is_free mid page ≡ is_free old page) → MayPut mid block
may-start old mid block form lowest apart others same =
    let ten = form.0 in
    let size : 2 ^ block.order ≡ 2 ^ 10 = ap (λ o. 2 ^ o) ten in
    let aligned : block.first % 2 ^ block.order ≡ 0 = ap (λ n. block.first % n) size ∙ form.1 in
    let end = form.2 in
    record {
      order = omega (arith, ten);
      aligned = aligned;
      end = omega (arith, end, size);
      not_free = λ page at.
          let first = ten-first block page ten aligned (in_range-intro block.first (2 ^ block.order) page at.0 at.1) in
          let waiting : page_waits old page ≡ true = ap (waits old) (sym first) ∙ lowest.0 in
          same page ∙ (elim (cases_Bool (is_free old page)) [
            | inl t ↦ (let no : true ≡ false = sym waiting ∙ apart.pages page t in cc)
            | inr f ↦ f
          ]);
      not_waiting = λ page at.
          let first = ten-first block page ten aligned (in_range-intro block.first (2 ^ block.order) page at.0 at.1) in
          let here = page / 2 ^ 10 * 2 ^ 10 in
          others here ∙ ap (λ b. waits old here && not b) (eq-eqb block.first here first) ∙ and-false (waits old here);
    }
  where
    and-false : (b : Bool) → (b && false) ≡ false
    and-false true = refl
    and-false false = refl

one-lowest : (blocks : State) (a b : Block) → IsBlock 10 a → IsBlock 10 b → IsLowestWaiting blocks a → IsLowestWaiting blocks b → a ≡ b
one-lowest blocks a b form_a form_b low_a low_b =
    let first : a.first ≡ b.first = (let under = low_a.1 b.first low_b.0 in let above = low_b.1 a.first low_a.0 in omega (arith, under, above)) in
    let order : a.order ≡ b.order = form_a.0 ∙ sym form_b.0 in
    ap (λ n. let c : Block = record { first = n; order = a.order } in c) first ∙ ap (λ n. let c : Block = record { first = b.first; order = n } in c) order

-- the block that is taken out is the lowest one
pub takes-out : (old mid : State) (taken : Option Block) (block : Block) → IsBlock 10 block → IsLowestWaiting old block
    → IfSome taken (IsBlock 10) → IfSome taken (IsLowestWaiting old) → IfSome taken (λ b. (first : ℕ) → waits mid first ≡ (waits old first && not (b.first == first)))
    → IfNone taken ((first : ℕ) → waits old first ≡ false)
    → ((page : ℕ) → is_free mid page ≡ is_free old page) → old.room ≤ mid.room → TakesOut old mid block
takes-out old mid None block form lowest forms lowests others none free room = let no : true ≡ false = sym lowest.0 ∙ none block.first in cc
takes-out old mid (Some b) block form lowest forms lowests others none free room =
    let same = one-lowest old b block forms form lowests lowest in
    let P : Block → Type 0 = TakesOut old mid in
    subst P same (record { free = free; waiting = others; room = room })

pub begins-out : (old mid : State) (block : Option Block) (run : Option Units) (b : Block) (none : Bool) → block ≡ Some b → is_some run ≡ not none → none ≡ false → TakesOut old mid b → Begins old mid block run
begins-out old mid None run b none is some f out = cc
begins-out old mid (Some block) None b none is some f out = let no : false ≡ true = some ∙ ap not f in cc
begins-out old mid (Some block) (Some run) b none is some f out = let same : b ≡ block = cc in subst (TakesOut old mid) same out

pub begins-free : (old mid new : State) (block : Option Block) (run : Option Units) (b : Block) (none : Bool) → block ≡ Some b → is_some run ≡ not none → none ≡ true → TakesOut old mid b
    → ((page : ℕ) → is_free new page ≡ (is_free mid page || in_range b.first (2 ^ b.order) page)) → ((first : ℕ) → waits new first ≡ waits mid first) → mid.room ≤ new.room + 1
    → Begins old new block run
begins-free old mid new None run b none is some t out pages waiting room = cc
begins-free old mid new (Some block) (Some run) b none is some t out pages waiting room = let no : true ≡ false = some ∙ ap not t in cc
begins-free old mid new (Some block) None b none is some t out pages waiting room =
    let same : b ≡ block = cc in
    let was = out.room in
    subst (Releases old new) same (record {
      pages = λ page. pages page ∙ ap (λ f. f || in_range b.first (2 ^ b.order) page) (out.free page);
      waiting = λ first. waiting first ∙ out.waiting first;
      room = omega (arith, was, room);
    })

-- ---- a report

-- it fits
pub report-fits : (boot : Boot) (entries : List Entry) (cpu : ℕ) (claim : Claimed) (now : List ModuleCall) → claim_of boot entries cpu ≡ Some claim → Fits boot entries cpu (report_event boot claim now)
report-fits boot entries cpu claim now is = record { claim = claim; opened = is; run_is = refl; stopped_is = refl; next_is = refl }

pub report-falls : (boot : Boot) (entries : List Entry) (turn : Turn) (last : ℕ) (claim : Claimed) (now : List ModuleCall) → claim_of boot entries turn.cpu.0 ≡ Some claim
    → waiting_left boot (entries ++ bare_entry turn last (report_event boot claim now) ∷ []) ≤ waiting_left boot entries
report-falls boot entries turn last claim now is = waiting-push boot entries (bare_entry turn last (report_event boot claim now)) (report-fits boot entries turn.cpu.0 claim now is)

-- one that ends the acceptance of a block makes fewer wait
pub report-fewer : (boot : Boot) (entries : List Entry) (turn : Turn) (last : ℕ) (claim : Claimed) (now : List ModuleCall) (block : Option Block) → Settled boot entries → claim_of boot entries turn.cpu.0 ≡ Some claim
    → stop_of now ≡ None → next_run boot claim (stop_of now) ≡ None → claim.block ≡ block → block ≢ None
    → waiting_left boot (entries ++ bare_entry turn last (report_event boot claim now) ∷ []) < waiting_left boot entries
report-fewer boot entries turn last claim now None settled is stop none for some = absurd (some refl)
report-fewer boot entries turn last claim now (Some block) settled is stop none for some =
    waiting-closed boot entries (bare_entry turn last (report_event boot claim now)) claim.run now claim block settled
    (ap (λ s. Report claim.run now s (next_run boot claim (stop_of now))) stop ∙ ap (Report claim.run now None) none) is for

closed-blocks : (boot : Boot) (entries : List Entry) (entry : Entry) (old new : State) (claim : Claimed) (now : List ModuleCall) (block : Option Block) (stop : Option Page)
    → Settled boot entries → BlocksAfter boot entries old → claim_of boot entries entry.cpu.0 ≡ Some claim → claim.block ≡ block → entry.event ≡ Report claim.run now stop None → PutBack old new block stop
    → BlocksAfter boot (entries ++ entry ∷ []) new
closed-blocks boot entries entry old new claim now None stop settled after open_is for is put =
    subst (BlocksAfter boot (entries ++ entry ∷ [])) (sym put) (blocks-without boot entries entry old claim claim.run now stop None settled after open_is for is)
closed-blocks boot entries entry old new claim now (Some block) None settled after open_is for is put =
    blocks-closed boot entries entry old new claim block claim.run now settled after open_is for is put.pages put.waiting
closed-blocks boot entries entry old new claim now (Some block) (Some page) settled after open_is for is put =
    blocks-stopped boot entries entry old new claim block claim.run now page None settled after open_is for is put.waiting put.free

pub closed-go : (boot : Boot) (entries : List Entry) (turn : Turn) (last : ℕ) (old new : State) (claims : List (Option OpenClaim)) (room : ℕ) (claim : Claimed) (now : List ModuleCall) (block : Option Block) (stop : Option Page)
    → Settled boot entries → WaitingFalls boot entries → BlocksAfter boot entries old → claim_of boot entries turn.cpu.0 ≡ Some claim → AcceptsUnits boot (calls_of boot entries) claim.run now
    → next_run boot claim (stop_of now) ≡ None → block ≡ claim.block → stop_of now ≡ stop → PutBack old new block stop → HasBlockRoom new claims room
    → BlocksGo boot entries (bare_entry turn last (report_event boot claim now)) new claims room
closed-go boot entries turn last old new claims room claim now block stop settled falls after open_is accepts none for stops put enough =
    let entry = bare_entry turn last (report_event boot claim now) in
    blocks-go boot entries entry new claims room settled falls (report-fits boot entries turn.cpu.0 claim now open_is) accepts
    (λ freed_block freed. let no : report_event boot claim now ≡ Freed freed_block = freed in cc)
    (closed-blocks boot entries entry old new claim now block stop settled after open_is (sym for)
    (ap (λ s. Report claim.run now s (next_run boot claim (stop_of now))) stops ∙ ap (Report claim.run now stop) none) put)
    enough

pub next-go : (boot : Boot) (entries : List Entry) (turn : Turn) (last : ℕ) (blocks : State) (claims : List (Option OpenClaim)) (room : ℕ) (claim : Claimed) (now : List ModuleCall) (run : Units)
    → Settled boot entries → WaitingFalls boot entries → BlocksAfter boot entries blocks → claim_of boot entries turn.cpu.0 ≡ Some claim → AcceptsUnits boot (calls_of boot entries) claim.run now
    → next_run boot claim (stop_of now) ≡ Some run → stop_of now ≡ None → HasBlockRoom blocks claims room
    → BlocksGo boot entries (bare_entry turn last (report_event boot claim now)) blocks claims room
next-go boot entries turn last blocks claims room claim now run settled falls after open_is accepts next stop enough =
    let entry = bare_entry turn last (report_event boot claim now) in
    blocks-go boot entries entry blocks claims room settled falls (report-fits boot entries turn.cpu.0 claim now open_is) accepts
    (λ freed_block freed. let no : report_event boot claim now ≡ Freed freed_block = freed in cc)
    (blocks-next boot entries entry blocks claim.run run now after
    (ap (λ s. Report claim.run now s (next_run boot claim (stop_of now))) stop ∙ ap (Report claim.run now None) next))
    enough

-- the claim goes on for its block
pub room-next : (blocks : State) (claims claims' : List (Option OpenClaim)) (cpu room : ℕ) (o next : OpenClaim)
    → HasBlockRoom blocks claims room → kept_of claims cpu ≡ Some o → claims' ≡ slice_set claims cpu (Some next) → next.block ≡ o.block → HasBlockRoom blocks claims' 0
room-next blocks claims claims' cpu room o next has keeps is same =
    let inside = kept_of-inside claims cpu o keeps in
    let sums = sum_by-set flights_of claims cpu (Some next) None inside in
    let was : flights_of (kept_of claims cpu) ≡ blocks_in o.block = ap flights_of keeps in
    let mine : blocks_in next.block ≡ blocks_in o.block = ap blocks_in same in
    let now = ap (λ (cs : List (Option OpenClaim)). sum_by flights_of cs) is in
    let enough = has.claimed in
    record { claimed = omega (arith, enough, sums, was, mine, now); step = λ none. absurd (omega (arith, none)) }

put-room : (old new : State) (block : Option Block) (stop : Option Page) → PutBack old new block stop → old.room ≤ new.room + blocks_in block
put-room old new None stop put = let same : new.room ≡ old.room = ap (λ (v : State). v.room) put in omega (arith, same)
put-room old new (Some block) None put = put.room
put-room old new (Some block) (Some page) put = put.room

-- the claim is closed: its room for the block was used
pub room-closed : (old new : State) (claims claims' : List (Option OpenClaim)) (cpu room : ℕ) (o : OpenClaim) (stop : Option Page)
    → HasBlockRoom old claims room → kept_of claims cpu ≡ Some o → claims' ≡ slice_set claims cpu None → PutBack old new o.block stop → HasBlockRoom new claims' room
room-closed old new claims claims' cpu room o stop has keeps is put =
    let inside = kept_of-inside claims cpu o keeps in
    let sums = sum_by-set flights_of claims cpu None None inside in
    let was : flights_of (kept_of claims cpu) ≡ blocks_in o.block = ap flights_of keeps in
    let now = ap (λ (cs : List (Option OpenClaim)). sum_by flights_of cs) is in
    let enough = has.claimed in
    let left = put-room old new o.block stop put in
    record { claimed = omega (arith, enough, sums, was, now, left); step = λ some. (let step = has.step some in omega (arith, step, sums, was, now, left)) }

-- what is needed to put the block of a claim back
pub record MayPutBack (blocks : State) (block : Option Block) : Type 0 where
  pub may : ForSome block (MayPut blocks)
  pub order : ForSome block (λ b. b.order ≡ 10)
  pub room : ForSome block (λ b. 1 ≤ blocks.room)

pub may-put-back : (boot : Boot) (entries : List Entry) (blocks : State) (claims : List (Option OpenClaim)) (cpu room : ℕ) (o : OpenClaim) (claim : Claimed)
    → Settled boot entries → BlocksAfter boot entries blocks → HasBlockRoom blocks claims room → claim_of boot entries cpu ≡ Some claim → o.block ≡ claim.block → kept_of claims cpu ≡ Some o
    → MayPutBack blocks o.block
may-put-back boot entries blocks claims cpu room o claim settled after has open_is for keeps =
    record {
      may = λ block is. (found block is).0;
      order = λ block is. (found block is).1;
      room = λ block is.
          let one : blocks_in o.block ≡ 1 = ap blocks_in is in
          let sums = sum_by-set flights_of claims cpu None None (kept_of-inside claims cpu o keeps) in
          let was : flights_of (kept_of claims cpu) ≡ blocks_in o.block = ap flights_of keeps in
          let enough = has.claimed in
          omega (arith, one, sums, was, enough);
    }
  where
    found : (block : Block) → o.block ≡ Some block → MayPut blocks block × (block.order ≡ 10)
    found block is = may-close boot entries blocks cpu claim block settled after open_is (sym for ∙ is)
