use Rattle.std.proofs.Common.{◌≡◌, ◌≢◌, ℕ, ◌<◌, Bool, true, false, not, Option, Some, List, [], ◌∷◌, ◌++◌, refl, sym, ◌∙◌, ap, subst, inl, inr, cond, slice_get, get_or, append-nil}
use Rattle.std.specs.Prelude.{All, AllPairs, Contains, bytes_eq, find, length}
use Rattle.std.proofs.lemmas.Bool.{cases_Bool, eq-eqb}
use Rattle.std.proofs.lemmas.List.{get_or-map, length-map}
use Rattle.std.proofs.lemmas.List.Elements.{All-cons, All-weaker, All-filter, All-map, recursion_from_All}
use Rattle.std.proofs.lemmas.List.Kept.{AllPairs-cons, AllPairs-filter}
use Rattle.guest_base.specs.declared.memory.Block.{Block}
use Rattle.event_core.specs.declared.command.Command.{Command}
use Rattle.event_core.specs.declared.entry.Entry.{Entry}
use Rattle.event_core.specs.declared.entry.Place.TheVariants as place
use Rattle.event_core.specs.declared.event.Event.{Event}
use Rattle.event_core.specs.declared.event.Event.TheVariants as event
use Rattle.event_core.specs.Calls.{calls_in}
use Rattle.event_core.specs.Holdings.{Holding, Own, block_named, same_block}
use Rattle.event_core.specs.Legal.{same_place}
use Rattle.event_core.specs.Moved.{entries_of}
use Rattle.event_core.specs.Own.{own_of, own_step, replied}
use Rattle.event_core.proofs.CommandLemmas.{step_told}
use Rattle.event_core.proofs.RisingLemmas.{pairs-head, pairs-map, pairs-tail, pairs-unmap}
use Rattle.block_laws.specs.Unconverting.{ConvertsNothing}
use Rattle.block_laws.proofs.EventFacts.{IsUnconverting}
use Rattle.block_laws.proofs.ListFacts.{found-one}
use Rattle.block_laws.proofs.OwnedFacts.{Change, Same, Gets, Frees, IsQuiet, OwnFits, blocks_in, left, own-rows, quiet-elsewhere, step-change}
use Rattle.block_laws.proofs.RowFacts.{step-row, unconverting-rows}
use Rattle.block_laws.proofs.StandFacts.{same-block}
use Rattle.memory_core.specs.Owners.{is_owner, owned_by}
use Rattle.memory_core.proofs.SettledLemmas.{is_owner-push}
use Rattle.memory_core.proofs.WaitingLemmas.{same-itself}
use Rattle.pool_laws.proofs.LookFacts.{own-push}
use Rattle.guest_steps.specs.Ground.{Ground, there_in}
use Rattle.guest_steps.specs.Seen.{Seen, own_now}
use Rattle.guest_steps.specs.Standing.{OwnsHeld, blocks_had}
use Rattle.guest_steps.specs.Steps.{MakesIn, without_reply}
use Rattle.guest_steps.proofs.BeginningLemmas.{all-got}
use Rattle.guest_steps.proofs.FollowLemmas.{step-taken}
use Rattle.guest_steps.proofs.ListLemmas.{all-unmap}
use Rattle.guest_steps.proofs.StepLemmas.{entries-after}

-- The blocks that a processor has are its own, and no two are one.

-- ---- what is held

-- each is the processor's in the memory
pub held-owned : (c : Seen) (memory : List Entry) → OwnsHeld c memory → (h : Holding) → Contains (own_now c).blocks h → is_owner memory c.number h.block ≡ true
held-owned c memory held h (k, within, is) =
    let blocks = (own_now c).blocks in
    let long : k < length (blocks_had c) = subst (λ n. k < n) (sym (length-map blocks (λ (g : Holding). g.block))) within in
    subst (λ (b : Block). is_owner memory c.number b ≡ true) (get_or-map (λ (g : Holding). g.block) blocks k h h.block within ∙ ap (λ (g : Holding). g.block) is) (held.owned k h.block long)

-- what holds of each item holds of one that is found
pub all-found : {X : Type 0} (P : X → Type 0) (test : X → Bool) (xs : List X) (x : X) → All P xs → find test xs ≡ Some x → P x
all-found P test xs x all is = (found-one P test xs x (recursion_from_All P xs all) is).0

pub named-owned : (c : Seen) (memory : List Entry) → OwnsHeld c memory → (name : List ℕ) (h : Holding) → block_named (own_now c) name ≡ Some h → is_owner memory c.number h.block ≡ true
named-owned c memory held name h is =
    let P : Block → Type 0 = λ b. is_owner memory c.number b ≡ true in
    all-found (λ (g : Holding). P g.block) (λ (g : Holding). bytes_eq g.name name) (own_now c).blocks h (all-unmap P (λ (g : Holding). g.block) (own_now c).blocks held.owned) is

-- ---- what an event changes

-- the processor owns these blocks after an event of its own, and no two are one
record Holds (memory : List Entry) (cpu : ℕ) (e : Event) (blocks : List Block) : Type 0 where
  pub owned : All (λ (b : Block). owned_by b (is_owner memory cpu b) e ≡ true) blocks
  pub differ : AllPairs (λ (a b : Block). a ≢ b) blocks

quiet-owner : (block : Block) (owned : Bool) (e : Event) → IsQuiet e → owned_by block owned e ≡ owned
quiet-owner block owned (event.Got got) is = absurd is
quiet-owner block owned (event.Freed freed) is = absurd is
quiet-owner block owned _ is = refl

gets-more : (got block : Block) (owned : Bool) → owned ≡ true → owned_by block owned (event.Got got) ≡ true
gets-more got block owned is = either (same_block got block) where
  either : (same : Bool) → cond same true owned ≡ true
  either true = refl
  either false = is

freed-others : (freed block : Block) (owned : Bool) → block ≢ freed → owned ≡ true → owned_by block owned (event.Freed freed) ≡ true
freed-others freed block owned differ is =
    elim (cases_Bool (same_block freed block)) [
      | inl t ↦ absurd (differ (sym (same-block freed block t)))
      | inr f ↦ ap (λ b. cond b false owned) f ∙ is
    ]

abbrev block_of : List ℕ → List Holding → Option Holding
block_of name held = find (λ (g : Holding). bytes_eq g.name name) held

-- the block of a name is none of those that are left without it
others-left : (name : List ℕ) (held : List Holding) (h : Holding) → AllPairs (λ (x y : Holding). x.block ≢ y.block) held → block_of name held ≡ Some h → All (λ (x : Holding). x.block ≢ h.block) (left name held)
others-left name [] h differ is = cc
others-left name (g ∷ held) h differ is =
    let P : Holding → Type 0 = λ x. x.block ≢ h.block in
    let front = pairs-head (λ (x y : Holding). x.block ≢ y.block) g held differ in
    let rest = pairs-tail (λ (x y : Holding). x.block ≢ y.block) g held differ in
    let named : Bool → Type 0 = λ b. cond b (Some g) (block_of name held) ≡ Some h in
    elim (cases_Bool (bytes_eq g.name name)) [
      | inl t ↦
          (let here : Some g ≡ Some h = subst named t is in
          let same : g ≡ h = cc in
          rw t (All-filter (λ (x : Holding). not (bytes_eq x.name name)) P held
          (All-weaker (λ (x : Holding). g.block ≢ x.block) P (λ x apart equal. apart (ap (λ (y : Holding). y.block) same ∙ sym equal)) held front)))
      | inr f ↦
          (let there : block_of name held ≡ Some h = subst named f is in
          rw f (All-cons P g (left name held) (all-found (λ (x : Holding). g.block ≢ x.block) (λ (x : Holding). bytes_eq x.name name) held h front there) (others-left name held h rest there)))
    ]

holds-changed : (there memory : List Entry) (cpu : ℕ) (before after : List Block) (e : Event) → Change there before after e → All (λ (b : Block). is_owner memory cpu b ≡ true) before → AllPairs (λ (a b : Block). a ≢ b) before
    → ((block : Block) → e ≡ event.Got block → is_owner memory cpu block ≡ false) → Holds memory cpu e after
holds-changed there memory cpu before after e (Same begun quiet) owned differ fresh =
    subst (Holds memory cpu e) begun
    (record {
      owned = All-weaker (λ b. is_owner memory cpu b ≡ true) (λ b. owned_by b (is_owner memory cpu b) e ≡ true) (λ b is. quiet-owner b (is_owner memory cpu b) e quiet ∙ is) before owned;
      differ = differ;
    })
holds-changed there memory cpu before after e (Gets block is now none) owned differ fresh =
    let O : Block → Bool = λ b. is_owner memory cpu b in
    let Q : Block → Type 0 = λ b. owned_by b (O b) (event.Got block) ≡ true in
    subst (λ bs. Holds memory cpu e bs) (sym now)
    (subst (λ x. Holds memory cpu x (block ∷ before)) (sym is)
    (record {
      owned = All-cons Q block before (ap (λ b. cond b true (O block)) (same-itself block)) (All-weaker (λ b. O b ≡ true) Q (λ b has. gets-more block b (O b) has) before owned);
      differ = AllPairs-cons (λ (a b : Block). a ≢ b) block before
          (All-weaker (λ b. O b ≡ true) (λ b. block ≢ b) (λ b has same. (let no : true ≡ false = sym has ∙ ap O (sym same) ∙ fresh block is in cc)) before owned) differ;
    }))
holds-changed there memory cpu before after e (Frees held name h is begun now found) owned differ fresh =
    let O : Block → Bool = λ b. is_owner memory cpu b in
    let P : Block → Type 0 = λ b. O b ≡ true in
    let of : Holding → Block = λ g. g.block in
    let has = all-unmap P of held (subst (All P) begun owned) in
    let apart = pairs-unmap of (λ (a b : Block). a ≢ b) held (subst (AllPairs (λ (a b : Block). a ≢ b)) begun differ) in
    let keeps : Holding → Bool = λ g. not (bytes_eq g.name name) in
    let others = others-left name held h apart found in
    let had = All-filter keeps (λ (g : Holding). P g.block) held has in
    let Q : Block → Type 0 = λ b. owned_by b (O b) (event.Freed h.block) ≡ true in
    subst (λ bs. Holds memory cpu e bs) (sym now)
    (subst (λ x. Holds memory cpu x (blocks_in (left name held))) (sym is)
    (record {
      owned = All-map Q of (left name held) (λ k d within. freed-others h.block (get_or (left name held) k d).block (O (get_or (left name held) k d).block) (others k d within) (had k d within));
      differ = pairs-map of (λ (a b : Block). a ≢ b) (left name held) (AllPairs-filter (λ (x y : Holding). x.block ≢ y.block) keeps held apart);
    }))

-- ---- the next entry of a processor

-- who owns a block after the entry
owner-by : (b : Bool) (before : List Entry) (e : Entry) (cpu : ℕ) (block : Block) → e.cpu.0 ≡ cpu → (b ≡ false → IsQuiet e.event)
    → owned_by block (is_owner before cpu block) e.event ≡ is_owner (before ++ cond b (without_reply e ∷ []) []) cpu block
owner-by true before e cpu block mine elsewhere =
    sym (is_owner-push before (without_reply e) cpu block
    ∙ ap (λ b. cond b (owned_by block (is_owner before cpu block) e.event) (is_owner before cpu block)) (eq-eqb e.cpu.0 cpu mine))
owner-by false before e cpu block mine elsewhere =
    quiet-owner block (is_owner before cpu block) e.event (elsewhere refl) ∙ sym (ap (λ es. is_owner es cpu block) (append-nil before))

-- a step leaves it so, where a block that was got had no owner
pub held-next : (old new : Seen) (before after : Ground) (m : MakesIn old new before after) → All ConvertsNothing old.script → OwnsHeld old before.memory.entries
    → ((block : Block) → m.m.entry.event ≡ event.Got block → is_owner before.memory.entries old.number block ≡ false) → OwnsHeld new after.memory.entries
held-next old new before after m unconverting held fresh =
    let e = m.m.entry in
    let there = there_in before e.place in
    let memory = before.memory.entries in
    let own = own_now old in
    let t = step-taken old old.moved there m.m m.makes.next.mine m.makes.next.follows in
    let converts = all-got ConvertsNothing old.script (replied old.moved) t.command unconverting t.its in
    let is = step-row IsUnconverting old.boot old.number own there t.command (calls_in e.event) (step_told e) converts (unconverting-rows old.boot (entries_of there) old.number own t.command) t.step in
    let fits = step-row (OwnFits old.boot (entries_of there) own t.command) old.boot old.number own there t.command (calls_in e.event) (step_told e) converts
    (own-rows old.boot (entries_of there) old.number own t.command) t.step
    in
    let change = step-change old.boot (entries_of there) own old.script t.command m.m (ap (slice_get old.script) t.number ∙ t.its) converts is fits in
    let holds = holds-changed (entries_of there) memory old.number (blocks_had old) (blocks_in (own_step old.script own m.m).blocks) e.event change held.owned held.differ fresh in
    let now : blocks_in (own_step old.script own m.m).blocks ≡ blocks_had new =
    ap (λ (o : Own). blocks_in o.blocks)
    (sym (ap (λ (s : List Command). own_of s new.moved) m.makes.same.script ∙ ap (own_of old.script) m.makes.moved ∙ own-push old.script old.moved m.m))
    in
    let here = same_place place.Memory e.place in
    let longer = entries-after memory after.memory.entries m.m here (m.there place.Memory) in
    let quiet : here ≡ false → IsQuiet e.event = λ elsewhere. quiet-elsewhere old.boot e.event is (ap (same_place place.Memory) (sym t.place) ∙ elsewhere) in
    let owner : (b : Block) → owned_by b (is_owner memory old.number b) e.event ≡ is_owner after.memory.entries new.number b =
    λ b. owner-by here memory e old.number b m.makes.next.mine quiet ∙ ap (λ es. is_owner es old.number b) (sym longer) ∙ ap (λ n. is_owner after.memory.entries n b) (sym m.makes.same.number)
    in
    record {
      owned = All-weaker (λ b. owned_by b (is_owner memory old.number b) e.event ≡ true) (λ b. is_owner after.memory.entries new.number b ≡ true)
          (λ b has. sym (owner b) ∙ has) (blocks_had new)
          (subst (All (λ b. owned_by b (is_owner memory old.number b) e.event ≡ true)) now holds.owned);
      differ = subst (AllPairs (λ (a b : Block). a ≢ b)) now holds.differ;
    }
