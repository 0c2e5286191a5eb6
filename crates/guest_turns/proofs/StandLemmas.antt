use Rattle.std.proofs.Common.{◌≡◌, ◌≢◌, ℕ, ◌+◌, ◌<◌, Bool, true, false, Some, Ok, Err, List, [], ◌∷◌, ◌++◌, set, map, length, refl, sym, ◌∙◌, ap, subst, inl, inr, ◌⊎◌, arith, slice_get, get_or, eqb-true}
use Rattle.std.specs.Prelude.{OnErr, OnOk, Result, ◌==◌}
use Rattle.std.specs.Option.{option_map}
use Rattle.std.specs.declared.alloc.AllocError.{AllocError}
use Rattle.std.proofs.lemmas.Bool.{both_ways, cases_Bool, eq-eqb}
use Rattle.std.proofs.lemmas.List.{length-set, map-set, set-set, get_or-set_other, get_or-set_same}
use Rattle.std.proofs.lemmas.List.Sums.{sum_by-set}
use Rattle.std.proofs.lemmas.Option.{get_or_from_slice_get, slice_get-get_or, slice_get-map, slice_get_within}
use Rattle.event_core.specs.declared.boot.Boot.{Boot}
use Rattle.event_core.specs.declared.entry.Entry.{Entry}
use Rattle.guest_steps.specs.Ground.{FoundAgain, Ground}
use Rattle.guest_steps.specs.Running.{AllStand, StaysLater}
use Rattle.guest_steps.specs.Seen.{Seen, steps_left, steps_waiting}
use Rattle.guest_steps.specs.Standing.{Stands, Together}
use Rattle.guest_turns.specs.Walks.{GoOn, MakesTurn, Rests, RestsAt, Waits, Walked, WalksOn, all_left, all_steps, waiting_in}
use Rattle.guest_steps.proofs.AmongLemmas.{makes-together, room-there, room-together, set-together}
use Rattle.guest_steps.proofs.ListLemmas.{slice_get-set_same}
use Rattle.guest_steps.proofs.StepLemmas.{makes-leave-others, room-leaves}
use Rattle.guest_turns.proofs.LaterLemmas.{later-set}
use Rattle.guest_turns.proofs.RestLemmas.{rests-idle, stays-left}
use Rattle.guest_turns.proofs.WalkLemmas.{moved-same, scripts-same, walk-makes, walk-rests, walk-same}

-- One processor of all has its turn.

-- with an entry, or without
abbrev pub HasTurn : Seen → Seen → Ground → Ground → Type 0
HasTurn was now before after = MakesTurn was now before after ⊎ Waits was now before after

pub turn-of : (result : Result Bool AllocError) (was now : Seen) (before after : Ground) → (result ≡ Ok true → MakesTurn was now before after)
    → (result ≡ Ok false → Waits was now before after × Rests now after.memory.entries) → OnErr result (Waits was now before after) → HasTurn was now before after
turn-of (Ok true) was now before after event none refused = inl (event refl)
turn-of (Ok false) was now before after event none refused = inr (none refl).0
turn-of (Err e) was now before after event none refused = inr refused

same-boot : (was now : Seen) (before after : Ground) → HasTurn was now before after → after.memory.boot ≡ before.memory.boot
same-boot was now before after (inl m) = m.makes.boot
same-boot was now before after (inr w) = w.room.memory.boot

-- ---- what the others find

others-find : (was now : Seen) (before after : Ground) (other : ℕ) → HasTurn was now before after → other ≢ was.number → FoundAgain other before after
others-find was now before after other (inl m) differ = makes-leave-others m.worked now before after other m.makes (λ same. differ (same ∙ m.stays.number))
others-find was now before after other (inr w) differ = room-leaves before after other w.room

turn-together : (boot : Boot) (all : List Seen) (cpu : ℕ) (was now : Seen) (before after : Ground) → Together boot all before → slice_get all cpu ≡ Some was → Stands now after
    → HasTurn was now before after → Together boot (set all cpu now) after
turn-together boot all cpu was now before after t at stands (inl m) =
    let one = set-together boot all cpu was m.worked before t at m.stays.number m.stays.boot m.stands in
    let two = makes-together boot (set all cpu m.worked) cpu m.worked now before after one (slice_get-set_same all cpu was m.worked at) m.makes stands in
    subst (λ xs. Together boot xs after) (set-set all cpu m.worked now) two
turn-together boot all cpu was now before after t at stands (inr w) =
    set-together boot all cpu was now after (room-together boot all before after t w.room) at w.stays.number w.stays.boot stands

pub seen-at : {T : Type 0} (seen : T → Seen) (all : List T) (cpu : ℕ) (c : T) → slice_get all cpu ≡ Some c → slice_get (map seen all) cpu ≡ Some (seen c)
seen-at seen all cpu c at = slice_get-map seen all cpu ∙ ap (option_map seen) at

module _ {T : Type 0} (seen : T → Seen) (stands : T → Ground → Type 0) (NeverFails : T → Type 0)
    (told : (c : T) (base : Ground) → stands c base → Stands (seen c) base)
    (left_standing : (c : T) (left found : Ground) → stands c left → FoundAgain (seen c).number left found → stands c found) where
  each-stands : (all : List T) (cpu : ℕ) (was now : T) (before after : Ground) → AllStand seen stands before.memory.boot all before → slice_get all cpu ≡ Some was → stands now after
      → HasTurn (seen was) (seen now) before after → (k : ℕ) (d : T) → k < length (set all cpu now) → (k == cpu ≡ true) ⊎ (k == cpu ≡ false) → stands (get_or (set all cpu now) k d) after
  each-stands all cpu was now before after all_stand at stand turn k d within (inl here) =
      let same : cpu ≡ k = sym (eqb-true k cpu here) in
      let is : get_or (set all cpu now) k d ≡ now = ap (λ n. get_or (set all cpu now) n d) (sym same) ∙ get_or-set_same all cpu now d (slice_get_within all cpu was at) in
      subst (λ c. stands c after) (sym is) stand
  each-stands all cpu was now before after all_stand at stand turn k d within (inr other) =
      let differ : k ≢ cpu = λ same. both_ways (k == cpu) other (eq-eqb k cpu same) in
      let long : k < length all = subst (λ n. k < n) (length-set all cpu now) within in
      let c = get_or all k d in
      let its = all_stand.together.each k (seen c) (seen-at seen all k c (slice_get-get_or all k d long)) in
      let his = all_stand.together.each cpu (seen was) (seen-at seen all cpu was at) in
      let found = others-find (seen was) (seen now) before after k turn (λ same. differ (same ∙ his.0)) in
      subst (λ c. stands c after) (sym (get_or-set_other all cpu k now d differ))
      (left_standing c before after (all_stand.each k d long) (subst (λ n. FoundAgain n before after) (sym its.0) found))

  pub turn-goes_on : (all : List T) (cpu : ℕ) (was now : T) (before after : Ground) → AllStand seen stands before.memory.boot all before → slice_get all cpu ≡ Some was → stands now after
      → StaysLater seen NeverFails was now → HasTurn (seen was) (seen now) before after → GoOn seen stands NeverFails all (set all cpu now) before after
  turn-goes_on all cpu was now before after all_stand at stand later turn = record {
    stand = record {
      together = subst (λ xs. Together before.memory.boot xs after) (sym (map-set seen all cpu now))
          (turn-together before.memory.boot (map seen all) cpu (seen was) (seen now) before after all_stand.together (seen-at seen all cpu was at) (told now after stand) turn);
      each = λ k d within. each-stands all cpu was now before after all_stand at stand turn k d within (cases_Bool (k == cpu));
    };
    later = λ first each. later-set seen NeverFails first all cpu was now each at later;
  }

-- ---- the entries that were taken

event-walks : (all : List Seen) (cpu : ℕ) (was now : Seen) (before after : Ground) → Together before.memory.boot all before → slice_get all cpu ≡ Some was → MakesTurn was now before after
    → WalksOn (cpu ∷ []) all (set all cpu now) before after
event-walks all cpu was now before after t at m turns walked =
    let its = t.each cpu was at in
    let mid = walk-same before.memory.boot all (set all cpu m.worked) before before turns (moved-same all cpu was m.worked at m.stays.moved) (scripts-same all cpu was m.worked at m.stays.script) (λ place. refl) walked in
    let end = walk-makes before.memory.boot (set all cpu m.worked) cpu m.worked now before after turns (slice_get-set_same all cpu was m.worked at) (m.stays.number ∙ its.0) (m.stays.boot ∙ its.1) m.makes mid in
    subst (λ xs. Walked before.memory.boot xs after (turns ++ cpu ∷ [])) (set-set all cpu m.worked now) end

rest-walks : (all : List Seen) (cpu : ℕ) (was now : Seen) (before after : Ground) → Together before.memory.boot all before → slice_get all cpu ≡ Some was
    → Waits was now before after → Rests now after.memory.entries → WalksOn (cpu ∷ []) all (set all cpu now) before after
rest-walks all cpu was now before after t at w rests turns walked =
    let its = t.each cpu was at in
    let mid = walk-same before.memory.boot all (set all cpu now) before after turns (moved-same all cpu was now at w.stays.moved) (scripts-same all cpu was now at w.stays.script) (room-there before after w.room) walked in
    walk-rests before.memory.boot (set all cpu now) after turns cpu now (slice_get-set_same all cpu was now at) (w.stays.number ∙ its.0) (w.stays.boot ∙ its.1) (rests-idle now after.memory.entries rests) mid

pub turn-walks : (result : Result Bool AllocError) (all : List Seen) (cpu : ℕ) (was now : Seen) (before after : Ground) → Together before.memory.boot all before → slice_get all cpu ≡ Some was
    → (result ≡ Ok true → MakesTurn was now before after) → (result ≡ Ok false → Waits was now before after × Rests now after.memory.entries)
    → OnOk result (WalksOn (cpu ∷ []) all (set all cpu now) before after)
turn-walks (Ok true) all cpu was now before after t at event none = event-walks all cpu was now before after t at (event refl)
turn-walks (Ok false) all cpu was now before after t at event none = rest-walks all cpu was now before after t at (none refl).0 (none refl).1
turn-walks (Err e) all cpu was now before after t at event none = tt

-- ---- the steps that are left

left-set : (all : List Seen) (cpu : ℕ) (was now : Seen) → slice_get all cpu ≡ Some was → all_steps (set all cpu now) + steps_left was ≡ all_steps all + steps_left now
left-set all cpu was now at = ap (λ (c : Seen). all_steps (set all cpu now) + steps_left c) (sym (get_or_from_slice_get all cpu was was at)) ∙ sum_by-set steps_left all cpu now was (slice_get_within all cpu was at)

pub event-leaves : (all : List Seen) (cpu : ℕ) (was now : Seen) (before after : Ground) → slice_get all cpu ≡ Some was → MakesTurn was now before after → all_left (set all cpu now) after < all_left all before
event-leaves all cpu was now before after at m =
    let W : Boot → List Entry → ℕ = λ b es. steps_waiting b es in
    let boot = m.stands.same.memory in
    let less : steps_left now + W now.boot after.memory.entries < steps_left m.worked + W m.worked.boot before.memory.entries = m.makes.less in
    let one : W m.worked.boot before.memory.entries ≡ waiting_in before = ap (λ b. W b before.memory.entries) (sym boot) in
    let two : W now.boot after.memory.entries ≡ waiting_in after = ap (λ b. W b after.memory.entries) (m.makes.makes.same.boot ∙ sym (m.makes.boot ∙ boot)) in
    let same : steps_left m.worked ≡ steps_left was = stays-left was m.worked m.stays in
    let sums = left-set all cpu was now at in
    counted (all_steps all) (all_steps (set all cpu now)) (steps_left was) (steps_left m.worked) (steps_left now) (waiting_in before) (waiting_in after) (W m.worked.boot before.memory.entries) (W now.boot after.memory.entries) less one two same sums
  where
    counted : (a b x y z p q u v : ℕ) → z + v < y + u → u ≡ p → v ≡ q → y ≡ x → b + x ≡ a + z → b + q < a + p
    counted a b x y z p q u v less one two same sums = omega (arith, less, one, two, same, sums)

pub rest-is : (all : List Seen) (cpu : ℕ) (was now : Seen) (before after : Ground) → slice_get all cpu ≡ Some was → Waits was now before after → Rests now after.memory.entries
    → RestsAt cpu all (set all cpu now) before after
rest-is all cpu was now before after at w rests =
    let same : steps_left now ≡ steps_left was = stays-left was now w.stays in
    let sums = left-set all cpu was now at in
    record { boot = w.room.memory.boot; entries = w.room.memory.entries; now = now; others = refl; rests = rests; left = omega (arith, same, sums) }
