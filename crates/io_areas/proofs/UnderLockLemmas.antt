use Rattle.std.proofs.Common.{◌≡◌, ◌≢◌, ℕ, true, false, None, List, [], ◌∷◌, ◌++◌, refl, sym, ◌∙◌, ap, append-nil, inl, inr}
use Rattle.std.specs.Prelude.{All, ◌==◌}
use Rattle.std.proofs.lemmas.Bool.{cases_eq, eq-eqb, ne_eqb}
use Rattle.std.proofs.lemmas.List.{append_cancel_left}
use Rattle.std.proofs.lemmas.List.Elements.{All-nil, All-cons, All-head, All-tail, filter-append}
use Rattle.guest_base.specs.declared.transfer.SlotRun.{SlotRun}
use Rattle.event_core.specs.declared.entry.Turn.{Turn}
use Rattle.event_core.specs.declared.event.Event.{Event}
use Rattle.event_core.specs.Moved.{Moved, made_by}
use Rattle.event_core.specs.Parted.{Fixed, Part}
use Rattle.event_core.proofs.RisingLemmas.{filter-at}
use Rattle.pool_laws.specs.Live.{live_in, live_of}
use Rattle.pool_laws.proofs.LiveLemmas.{live-of-other}
use Rattle.claim_lock.specs.Knows.{Finds, MayGive, IsOf}
use Rattle.claim_lock.specs.declared.known.Known.{Known}
use Rattle.io_areas.specs.contracts.area.AreaParted.TheImpl.{ghosts}
use Rattle.io_areas.specs.Away.{FoundAgain}
use Rattle.io_areas.specs.UnderLock.{fixed_of, part_of}
use Rattle.io_areas.specs.Value.{AreaValue, Appends, entry_by}

-- What the lock of an area asks for and gives, for the crates above.

-- ---- what a processor may have done when it gives the lock back

abbrev pub MayGiveBack : ℕ → AreaValue → AreaValue → Type 0
MayGiveBack cpu old new = MayGive ghosts.fixed ghosts.part ghosts.moved cpu old new

fixed-same : (old new : AreaValue) → new.number ≡ old.number → new.slots ≡ old.slots → fixed_of new ≡ fixed_of old
fixed-same old new number slots = ap (λ n. fixed_by n new.slots) number ∙ ap (λ s. fixed_by old.number s) slots where
  fixed_by : ℕ → ℕ → Fixed
  fixed_by n s = record { boot = None; areas = (n, s) ∷ [] }

part-same : (old new : AreaValue) (cpu : ℕ) → live_of cpu new.moved ≡ live_of cpu old.moved → part_of new cpu ≡ part_of old cpu
part-same old new cpu live = ap part_by live where
  part_by : List SlotRun → Part
  part_by runs = record { claim = None; converting = None; out = []; room = []; live = runs }

-- a step that appends its entry
pub may-give-step : (old new : AreaValue) (turn turned : Turn) (event : Event) (bytes : List ℕ) → Appends old new turn turned event bytes → MayGiveBack turn.cpu.0 old new
may-give-step old new turn turned event bytes appends =
    let m = entry_by old turn event bytes in
    record {
      same_fixed = fixed-same old new appends.number appends.slots;
      same_others =
          λ other differ.
          part-same old new other (ap (live_of other) appends.moved ∙ live-of-other other old.moved m (ne_eqb turn.cpu.0 other (λ same. differ (sym same))));
      only_added = (m ∷ [], appends.moved, All-cons (IsOf turn.cpu.0) m [] refl (All-nil (IsOf turn.cpu.0)));
    }

-- a call that changes room alone, as `reserve`
pub may-give-still : (cpu : ℕ) (old new : AreaValue) → new.number ≡ old.number → new.slots ≡ old.slots → new.moved ≡ old.moved → MayGiveBack cpu old new
may-give-still cpu old new number slots moved = record {
  same_fixed = fixed-same old new number slots;
  same_others = λ other differ. part-same old new other (ap (live_of other) moved);
  only_added = ([], moved ∙ sym (append-nil old.moved), All-nil (IsOf cpu));
}

-- ---- what a processor finds when it takes the lock again

-- where a processor has no more of the entries, the added ones are others'
none-made : (cpu : ℕ) (first rest : List Moved) → made_by cpu (first ++ rest) ≡ made_by cpu first → All (λ (m : Moved). m.entry.cpu.0 ≢ cpu) rest
none-made cpu first rest same =
    none rest
    (append_cancel_left (made_by cpu first) (made_by cpu rest) []
    (sym (filter-append (λ (m : Moved). m.entry.cpu.0 == cpu) first rest) ∙ same ∙ sym (append-nil (made_by cpu first))))
  where
    none : (xs : List Moved) → made_by cpu xs ≡ [] → All (λ (m : Moved). m.entry.cpu.0 ≢ cpu) xs
    none [] is = All-nil (λ (m : Moved). m.entry.cpu.0 ≢ cpu)
    none (x ∷ xs) is = elim (cases_eq x.entry.cpu.0 cpu) [
      | inl mine ↦
          (let bad : x ∷ made_by cpu xs ≡ [] = sym (filter-at (λ (m : Moved). m.entry.cpu.0 == cpu) x xs true (eq-eqb x.entry.cpu.0 cpu mine)) ∙ is in cc)
      | inr other ↦
          All-cons (λ (m : Moved). m.entry.cpu.0 ≢ cpu) x xs other
          (none xs (sym (filter-at (λ (m : Moved). m.entry.cpu.0 == cpu) x xs false (ne_eqb x.entry.cpu.0 cpu other)) ∙ is))
    ]

-- other processors' entries are none of its own
none-of-mine : (cpu : ℕ) (rest : List Moved) → All (λ (m : Moved). m.entry.cpu.0 ≢ cpu) rest → made_by cpu rest ≡ []
none-of-mine cpu [] others = refl
none-of-mine cpu (m ∷ rest) others =
    filter-at (λ (x : Moved). x.entry.cpu.0 == cpu) m rest false (ne_eqb m.entry.cpu.0 cpu (All-head (λ (x : Moved). x.entry.cpu.0 ≢ cpu) m rest others))
    ∙ none-of-mine cpu rest (All-tail (λ (x : Moved). x.entry.cpu.0 ≢ cpu) m rest others)

first-number : List (ℕ × ℕ) → ℕ
first-number [] = 0
first-number (p ∷ ps) = p.0

first-slots : List (ℕ × ℕ) → ℕ
first-slots [] = 0
first-slots (p ∷ ps) = p.1

-- A processor finds the area as it left it but for the entries of others, where it knows the area
-- as it left it and has made just its entries in it.
pub found-again : (known : Known) (left found : AreaValue) → known.fixed ≡ ghosts.fixed left → known.seen ≡ ghosts.moved left → known.own ≡ made_by known.number (ghosts.moved left)
    → Finds ghosts.fixed ghosts.part ghosts.moved known found → FoundAgain known.number left found
unfolding first-number first-slots
found-again known left found is_fixed is_seen is_own finds =
    let pairs = finds.as_given ∙ is_fixed in
    let longer : found.moved ≡ left.moved ++ finds.longer.0 = finds.longer.1 ∙ ap (λ ms. ms ++ finds.longer.0) is_seen in
    record {
      number = ap (λ (f : Fixed). first-number f.areas) pairs;
      slots = ap (λ (f : Fixed). first-slots f.areas) pairs;
      rest = finds.longer.0;
      longer = longer;
      others = none-made known.number left.moved finds.longer.0 (sym (ap (made_by known.number) longer) ∙ finds.own_alone ∙ is_own);
    }

-- its live mappings are those that it left
pub live-again : (cpu : ℕ) (left found : AreaValue) → FoundAgain cpu left found → live_of cpu found.moved ≡ live_of cpu left.moved
live-again cpu left found f =
    ap (live_of cpu) f.longer
    ∙ ap live_in
    (filter-append (λ (m : Moved). m.entry.cpu.0 == cpu) left.moved f.rest
    ∙ ap (λ ms. made_by cpu left.moved ++ ms) (none-of-mine cpu f.rest f.others)
    ∙ append-nil (made_by cpu left.moved))
