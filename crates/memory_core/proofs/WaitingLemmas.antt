-- How many blocks aren't accepted, after one more entry.
use Rattle.std.proofs.Common.{◌≡◌, ℕ, zero, suc, ◌<◌, ◌≤◌, Bool, true, false, Option, None, Some, List, [], ◌∷◌, ◌++◌, length, get_or, refl, sym, ◌∙◌, ap, inl, inr, arith, cond, eq-eqb}
use Rattle.std.specs.Prelude.{Contains, count_by, not, ◌⊎◌, ◌==◌}
use Rattle.std.proofs.lemmas.Bool.{cases_Bool, and_from}
use Rattle.std.proofs.lemmas.List.Elements.{All-contains_itself, recursion_from_All}
use Rattle.std.proofs.lemmas.List.Sums.{sum_by-cons}
use Rattle.guest_base.specs.declared.memory.Block.{Block}
use Rattle.guest_base.specs.declared.memory.Units.{Units}
use Rattle.event_core.specs.declared.boot.Boot.{Boot}
use Rattle.event_core.specs.declared.entry.Entry.{Entry}
use Rattle.event_core.specs.declared.event.Event.{Event}
use Rattle.event_core.specs.declared.event.Event.TheVariants as event
use Rattle.event_core.specs.declared.module_call.ModuleCall.{ModuleCall}
use Rattle.event_core.specs.Blocks.{BlockState, Waits, InFlight, Loose, after_claim, block_state, block_step, is_loose, is_waiting, lowest_waiting, reported}
use Rattle.event_core.specs.Claims.{Claimed, claim_of}
use Rattle.event_core.specs.Cut.{cut}
use Rattle.event_core.specs.Holdings.{same_block}
use Rattle.block_laws.proofs.FitFacts.{Fits}
use Rattle.block_laws.proofs.ListFacts.{found-one}
use Rattle.block_laws.proofs.StandFacts.{block_state-push, same-block}
use Rattle.memory_core.specs.Away.{WaitingFalls}
use Rattle.memory_core.specs.Settled.{Settled}
use Rattle.memory_core.specs.Waiting.{waiting_left}

-- ---- counts

abbrev bit : Bool → ℕ
bit b = cond b 1 0

le-bit : (b c : Bool) → (b ≡ true → c ≡ true) → bit b ≤ bit c
le-bit true c more = rw (more refl) omega arith
le-bit false c more = omega arith

count-le : {X : Type 0} (p q : X → Bool) → ((x : X) → p x ≡ true → q x ≡ true) → (xs : List X) → count_by p xs ≤ count_by q xs
count-le p q more [] = omega arith
count-le p q more (x ∷ xs) =
    let one = le-bit (p x) (q x) (more x) in
    let rest = count-le p q more xs in
    let a = sum_by-cons (λ y. cond (p y) 1 0) x xs in
    let b = sum_by-cons (λ y. cond (q y) 1 0) x xs in
    omega (arith, one, rest, a, b)

count-less : {X : Type 0} (p q : X → Bool) → ((x : X) → p x ≡ true → q x ≡ true) → (xs : List X) (k : ℕ) (x : X) → k < length xs → get_or xs k x ≡ x → p x ≡ false → q x ≡ true → count_by p xs < count_by q xs
count-less p q more [] k x within is out has = absurd (omega (arith, within))
count-less p q more (y ∷ xs) zero x within is out has =
    let rest = count-le p q more xs in
    let a = sum_by-cons (λ z. cond (p z) 1 0) y xs in
    let b = sum_by-cons (λ z. cond (q z) 1 0) y xs in
    let c : bit (p y) ≡ 0 = ap (λ z. bit (p z)) is ∙ ap bit out in
    let d : bit (q y) ≡ 1 = ap (λ z. bit (q z)) is ∙ ap bit has in
    omega (arith, rest, a, b, c, d)
count-less p q more (y ∷ xs) (suc k) x within is out has =
    let one = le-bit (p y) (q y) (more y) in
    let rest = count-less p q more xs k x (omega (arith, within)) is out has in
    let a = sum_by-cons (λ z. cond (p z) 1 0) y xs in
    let b = sum_by-cons (λ z. cond (q z) 1 0) y xs in
    omega (arith, one, rest, a, b)

-- ---- the state of a block

pub waiting-is : (at : BlockState) → is_waiting at ≡ true → at ≡ Waits
waiting-is Waits is = refl
waiting-is (InFlight cpu) is = cc
waiting-is Loose is = cc

pub loose-is : (at : BlockState) → is_loose at ≡ true → at ≡ Loose
loose-is Waits is = cc
loose-is (InFlight cpu) is = cc
loose-is Loose is = refl

pub same-itself : (block : Block) → same_block block block ≡ true
same-itself block = and_from (block.first == block.first) (block.order == block.order) (eq-eqb block.first block.first refl) (eq-eqb block.order block.order refl)

-- the lowest waiting block is one of the cut, and waits
pub lowest-waits : (boot : Boot) (memory : List Entry) (block : Block) → lowest_waiting boot memory ≡ Some block → Contains (cut boot) block × (block_state boot memory block ≡ Waits)
unfolding lowest_waiting
lowest-waits boot memory block is =
    let found = found-one (Contains (cut boot)) (λ b. is_waiting (block_state boot memory b)) (cut boot) block (recursion_from_All (Contains (cut boot)) (cut boot) (All-contains_itself (cut boot))) is in
    (found.0, waiting-is (block_state boot memory block) found.1)

-- a block that isn't waiting isn't the one that is claimed
pub not-claimed : (boot : Boot) (memory : List Entry) (claimed block : Block) → lowest_waiting boot memory ≡ Some claimed → (at : BlockState) → block_state boot memory block ≡ at → is_waiting at ≡ false → same_block claimed block ≡ false
not-claimed boot memory claimed block lowest at is not =
    elim (cases_Bool (same_block claimed block)) [
      | inr f ↦ f
      | inl t ↦
          (let waits = (lowest-waits boot memory claimed lowest).1 in
          let same = same-block claimed block t in
          let no : true ≡ false = ap is_waiting (sym waits ∙ ap (block_state boot memory) same ∙ is) ∙ not in
          cc)
    ]

loose-step : (boot : Boot) (memory : List Entry) (cpu : ℕ) (e : Event) (block : Block) → Fits boot memory cpu e → block_state boot memory block ≡ Loose → block_step block cpu Loose e ≡ Loose
loose-step boot memory cpu (event.Claim None units run) block fits is = refl
loose-step boot memory cpu (event.Claim (Some claimed) units run) block fits is =
    ap (λ b. cond b (after_claim cpu run) Loose) (not-claimed boot memory claimed block (fits.lowest claimed refl).0 Loose is refl)
loose-step boot memory cpu (event.Report run calls stopped next) block fits is = refl
loose-step boot memory cpu event.Own block fits is = refl
loose-step boot memory cpu (event.Got got) block fits is = refl
loose-step boot memory cpu event.NoBlock block fits is = refl
loose-step boot memory cpu (event.Freed freed) block fits is = refl
loose-step boot memory cpu (event.Asked found) block fits is = refl
loose-step boot memory cpu (event.Touched page found) block fits is = refl
loose-step boot memory cpu _ block fits is = absurd fits

-- an accepted block stays so
pub loose-stays : (boot : Boot) (memory : List Entry) (entry : Entry) (block : Block) → Fits boot memory entry.cpu.0 entry.event → block_state boot memory block ≡ Loose → block_state boot (memory ++ entry ∷ []) block ≡ Loose
loose-stays boot memory entry block fits is =
    block_state-push boot memory entry block
    ∙ ap (λ at. block_step block entry.cpu.0 at entry.event) is
    ∙ loose-step boot memory entry.cpu.0 entry.event block fits is

-- ---- one more entry

not-not : (b : Bool) → not b ≡ true → b ≡ false
not-not true h = cc
not-not false h = refl

-- each block that isn't accepted after it wasn't before
not-loose-before : (boot : Boot) (memory now : List Entry) → ((block : Block) → block_state boot memory block ≡ Loose → block_state boot now block ≡ Loose) → (block : Block) → not (is_loose (block_state boot now block)) ≡ true → not (is_loose (block_state boot memory block)) ≡ true
not-loose-before boot memory now stays block h =
    elim (cases_Bool (is_loose (block_state boot memory block))) [
      | inr f ↦ ap not f
      | inl t ↦
          (let loose = stays block (loose-is (block_state boot memory block) t) in
          let no : true ≡ false = sym (ap is_loose loose) ∙ not-not (is_loose (block_state boot now block)) h in
          cc)
    ]

left-le : (boot : Boot) (memory now : List Entry) → ((block : Block) → block_state boot memory block ≡ Loose → block_state boot now block ≡ Loose) → waiting_left boot now ≤ waiting_left boot memory
unfolding waiting_left
left-le boot memory now stays =
    count-le (λ (block : Block). not (is_loose (block_state boot now block))) (λ (block : Block). not (is_loose (block_state boot memory block))) (not-loose-before boot memory now stays) (cut boot)

left-less : (boot : Boot) (memory now : List Entry) → ((block : Block) → block_state boot memory block ≡ Loose → block_state boot now block ≡ Loose)
    → (block : Block) → Contains (cut boot) block → is_loose (block_state boot memory block) ≡ false → block_state boot now block ≡ Loose → waiting_left boot now < waiting_left boot memory
unfolding waiting_left
left-less boot memory now stays block held before after =
    count-less (λ (block : Block). not (is_loose (block_state boot now block))) (λ (block : Block). not (is_loose (block_state boot memory block))) (not-loose-before boot memory now stays)
    (cut boot) held.0 block held.1 held.2 (ap (λ at. not (is_loose at)) after) (ap not before)

-- an event that fits makes no more blocks wait
pub waiting-push : (boot : Boot) (memory : List Entry) (entry : Entry) → Fits boot memory entry.cpu.0 entry.event → waiting_left boot (memory ++ entry ∷ []) ≤ waiting_left boot memory
waiting-push boot memory entry fits = left-le boot memory (memory ++ entry ∷ []) (λ block is. loose-stays boot memory entry block fits is)

-- a list with one more item, cut in two
last-or : {X : Type 0} (xs : List X) (x : X) (before rest : List X) → xs ++ x ∷ [] ≡ before ++ rest → (xs ++ x ∷ [] ≡ before) ⊎ ((front : List X) × (xs ≡ before ++ front))
last-or xs x [] rest is = inr (xs, refl)
last-or [] x (y ∷ []) rest is = let same : x ≡ y = cc in inl (ap (λ z. z ∷ []) same)
last-or [] x (y ∷ z ∷ before) rest is = cc
last-or (w ∷ xs) x (y ∷ before) rest is =
    let first : w ≡ y = cc in
    let others : xs ++ x ∷ [] ≡ before ++ rest = cc in
    elim (last-or xs x before rest others) [
      | inl all ↦ inl (ap (λ zs. w ∷ zs) all ∙ ap (λ z. z ∷ before) first)
      | inr front ↦ inr (front.0, ap (λ zs. w ∷ zs) front.1 ∙ ap (λ z. z ∷ (before ++ front.0)) first)
    ]

pub falls-push : (boot : Boot) (memory : List Entry) (entry : Entry) → WaitingFalls boot memory → Fits boot memory entry.cpu.0 entry.event → WaitingFalls boot (memory ++ entry ∷ [])
falls-push boot memory entry falls fits before rest is =
    let now = memory ++ entry ∷ [] in
    elim (last-or memory entry before rest is) [
      | inl all ↦ (let same : waiting_left boot now ≡ waiting_left boot before = ap (waiting_left boot) all in omega (arith, same))
      | inr front ↦
          (let less = waiting-push boot memory entry fits in
          let then = falls before front.0 front.1 in
          omega (arith, less, then))
    ]

-- the lowest waiting block that has no unaccepted unit waits no more
pub waiting-cleared : (boot : Boot) (memory : List Entry) (entry : Entry) (block : Block) (units : Option Units) → entry.event ≡ event.Claim (Some block) units None → lowest_waiting boot memory ≡ Some block → waiting_left boot (memory ++ entry ∷ []) < waiting_left boot memory
waiting-cleared boot memory entry block units is lowest =
    let waits = lowest-waits boot memory block lowest in
    let now = memory ++ entry ∷ [] in
    let step : (b : Block) → block_state boot now b ≡ cond (same_block block b) Loose (block_state boot memory b) =
    λ b. block_state-push boot memory entry b ∙ ap (block_step b entry.cpu.0 (block_state boot memory b)) is
    in
    left-less boot memory now (λ b loose. step b ∙ either (same_block block b) (block_state boot memory b) loose) block waits.0 (ap is_loose waits.1)
    (step block ∙ ap (λ t. cond t Loose (block_state boot memory block)) (same-itself block))
  where
    either : (t : Bool) (at : BlockState) → at ≡ Loose → cond t Loose at ≡ Loose
    either true at loose = refl
    either false at loose = loose

-- a claim for a block that comes to its end makes the block accepted
pub waiting-closed : (boot : Boot) (memory : List Entry) (entry : Entry) (run : Units) (calls : List ModuleCall) (claim : Claimed) (block : Block) → Settled boot memory → entry.event ≡ event.Report run calls None None → claim_of boot memory entry.cpu.0 ≡ Some claim → claim.block ≡ Some block → waiting_left boot (memory ++ entry ∷ []) < waiting_left boot memory
waiting-closed boot memory entry run calls claim block settled is opened its =
    let flight = settled.flights entry.cpu.0 claim block opened its in
    let now = memory ++ entry ∷ [] in
    let step : (b : Block) (at : BlockState) → block_state boot memory b ≡ at → block_state boot now b ≡ reported entry.cpu.0 None None at =
    λ b at before. block_state-push boot memory entry b ∙ ap (block_step b entry.cpu.0 (block_state boot memory b)) is ∙ ap (reported entry.cpu.0 None None) before
    in
    left-less boot memory now (λ b loose. step b Loose loose) block flight.1 (ap is_loose flight.0)
    (step block (InFlight entry.cpu.0) flight.0 ∙ ap (λ t. cond t Loose (InFlight entry.cpu.0)) (eq-eqb entry.cpu.0 entry.cpu.0 refl))
