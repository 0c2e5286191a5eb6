use Rattle.std.proofs.Common.{◌≡◌, ◌≢◌, ℕ, true, List, [], ◌∷◌, ◌++◌, sym, ◌∙◌, ap, cond, append-nil, append_assoc}
use Rattle.std.proofs.lemmas.Bool.{ne_eqb}
use Rattle.std.proofs.lemmas.List.Elements.{All-head, All-tail, All-weaker}
use Rattle.guest_base.specs.declared.memory.Block.{Block}
use Rattle.event_core.specs.declared.entry.Entry.{Entry}
use Rattle.memory_core.specs.Away.{NoneOf}
use Rattle.memory_core.specs.Owners.{is_owner, owned_by}
use Rattle.memory_core.proofs.SettledLemmas.{is_owner-push}
use Rattle.guest_steps.specs.Seen.{Seen}
use Rattle.guest_steps.specs.Standing.{OwnsHeld, blocks_had}

-- Entries of others leave a processor the blocks that it has.

owner-stays : (cpu : ℕ) (block : Block) (before rest : List Entry) → NoneOf cpu rest → is_owner (before ++ rest) cpu block ≡ is_owner before cpu block
owner-stays cpu block before [] none = ap (λ es. is_owner es cpu block) (append-nil before)
owner-stays cpu block before (e ∷ es) none =
    let other = All-head (λ (x : Entry). x.cpu.0 ≢ cpu) e es none in
    ap (λ xs. is_owner xs cpu block) (sym (append_assoc before (e ∷ []) es))
    ∙ owner-stays cpu block (before ++ e ∷ []) es (All-tail (λ (x : Entry). x.cpu.0 ≢ cpu) e es none)
    ∙ is_owner-push before e cpu block
    ∙ ap (λ b. cond b (owned_by block (is_owner before cpu block) e.event) (is_owner before cpu block)) (ne_eqb e.cpu.0 cpu other)

pub held-found : (c : Seen) (left found rest : List Entry) → found ≡ left ++ rest → NoneOf c.number rest → OwnsHeld c left → OwnsHeld c found
held-found c left found rest longer none held = record {
  owned = All-weaker (λ b. is_owner left c.number b ≡ true) (λ b. is_owner found c.number b ≡ true)
      (λ b is. ap (λ es. is_owner es c.number b) longer ∙ owner-stays c.number b left rest none ∙ is) (blocks_had c) held.owned;
  differ = held.differ;
}
