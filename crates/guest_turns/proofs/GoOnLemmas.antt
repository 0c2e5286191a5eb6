use Rattle.std.proofs.Common.{◌≡◌, ℕ, ◌+◌, ◌<◌, List, [], ◌∷◌, ◌++◌, get_or, map, take, length, sym, ◌∙◌, ap, subst, append-nil, append_assoc}
use Rattle.std.proofs.lemmas.List.{length-map, map-append, take_more}
use Rattle.guest_base.specs.declared.memory.CpuNo.{CpuNo}
use Rattle.event_core.specs.declared.boot.Boot.{Boot}
use Rattle.guest_steps.specs.Ground.{Ground}
use Rattle.guest_steps.specs.Running.{AllStand}
use Rattle.guest_steps.specs.Seen.{Seen}
use Rattle.guest_turns.specs.Walks.{GoOn, Walked, WalksOn}

-- Turns behind turns, of all processors.

module _ {T : Type 0} (seen : T → Seen) (stands : T → Ground → Type 0) (NeverFails : T → Type 0) where
  pub go_on-first : (all : List T) (base : Ground) → AllStand seen stands base.memory.boot all base → GoOn seen stands NeverFails all all base base
  go_on-first all base stand = record { stand = stand; later = λ first each. each }

  pub go_on-then : (a b c : List T) (before between after : Ground) → GoOn seen stands NeverFails a b before between → GoOn seen stands NeverFails b c between after
      → GoOn seen stands NeverFails a c before after
  go_on-then a b c before between after one other = record {
    stand = subst (λ boot. AllStand seen stands boot c after) one.stand.together.same.memory other.stand;
    later = λ first each. other.later first (one.later first each);
  }

  -- all stand before the memory as it is
  pub stand-here : (a b : List T) (before after : Ground) → GoOn seen stands NeverFails a b before after → AllStand seen stands after.memory.boot b after
  stand-here a b before after one = subst (λ boot. AllStand seen stands boot b after) (sym one.stand.together.same.memory) one.stand

  pub as-many : (boot : Boot) (all : List T) (base : Ground) → AllStand seen stands boot all base → length all ≡ boot.cpus
  as-many boot all base stand = sym (length-map all seen) ∙ stand.together.count

  pub go_on-length : (a b : List T) (before after : Ground) → AllStand seen stands before.memory.boot a before → GoOn seen stands NeverFails a b before after → length b ≡ length a
  go_on-length a b before after stand one = as-many before.memory.boot b after one.stand ∙ sym (as-many before.memory.boot a before stand)

pub walks-first : (all : List Seen) (base : Ground) → WalksOn [] all all base base
walks-first all base turns walked = subst (λ ts. Walked base.memory.boot all base ts) (sym (append-nil turns)) walked

pub walks-then : (some more : List ℕ) (a b c : List Seen) (before between after : Ground) → between.memory.boot ≡ before.memory.boot → WalksOn some a b before between → WalksOn more b c between after
    → WalksOn (some ++ more) a c before after
walks-then some more a b c before between after same one other turns walked =
    let two = other (turns ++ some) (subst (λ boot. Walked boot b between (turns ++ some)) (sym same) (one turns walked)) in
    subst (λ ts. Walked before.memory.boot c after ts) (append_assoc turns some more) (subst (λ boot. Walked boot c after ((turns ++ some) ++ more)) same two)

-- the number of one more turn
pub numbers-more : (items order : List CpuNo) (k : ℕ) (d : CpuNo) → items ≡ order → k < length items
    → map (λ (cpu : CpuNo). cpu.0) (take k order) ++ (get_or items k d).0 ∷ [] ≡ map (λ (cpu : CpuNo). cpu.0) (take (k + 1) order)
numbers-more items order k d is within =
    let number = λ (cpu : CpuNo). cpu.0 in
    ap (λ cpus. map number (take k cpus) ++ (get_or items k d).0 ∷ []) (sym is)
    ∙ sym (map-append number (take k items) (get_or items k d ∷ []))
    ∙ ap (map number) (sym (take_more items k d within))
    ∙ ap (λ cpus. map number (take (k + 1) cpus)) is
