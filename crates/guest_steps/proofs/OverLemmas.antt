use Rattle.std.proofs.Common.{◌≡◌, ◌⊎◌, ℕ, ◌+◌, ◌-◌, ◌*◌, ◌<◌, ◌≤◌, Bool, true, false, Option, None, Some, List, [], ◌∷◌, ◌++◌, refl, sym, ◌∙◌, ap, subst, inl, inr, arith, map, cond, slice_get}
use Rattle.std.specs.Prelude.{is_some, length}
use Rattle.std.specs.Option.{option_map_or}
use Rattle.std.proofs.lemmas.Bool.{cases_eq, eq-eqb, ne_eqb}
use Rattle.std.proofs.lemmas.List.{map-append}
use Rattle.std.proofs.lemmas.Option.{slice_get_within}
use Rattle.event_core.specs.declared.boot.Boot.{Boot}
use Rattle.event_core.specs.declared.command.Command.{Command}
use Rattle.event_core.specs.declared.entry.Entry.{Entry}
use Rattle.event_core.specs.declared.entry.Place.{Place}
use Rattle.event_core.specs.declared.entry.Place.TheVariants.{Memory, Area, Own}
use Rattle.event_core.specs.declared.event.Event.{Event}
use Rattle.event_core.specs.declared.event.Event.TheVariants as event
use Rattle.event_core.specs.declared.reply.Reply.{Reply}
use Rattle.event_core.specs.Calls.{calls_in}
use Rattle.event_core.specs.Holdings.{Own as OwnHeld}
use Rattle.event_core.specs.Legal.{bare, place_of, same_place}
use Rattle.event_core.specs.Moved.{Moved}
use Rattle.event_core.specs.Own.{ended, own_of, replied, told}
use Rattle.event_core.specs.PoolBytes.{bytes_moved, given_bytes, taken_bytes, writes_at}
use Rattle.event_core.proofs.CommandLemmas.{step_told}
use Rattle.page_module.specs.Spans.{Taken}
use Rattle.io_areas.specs.Value.{AreaValue}
use Rattle.memory_core.specs.UnderLock.{moved_of, unmoved}
use Rattle.memory_core.specs.Value.{MemoryValue}
use Rattle.pool_laws.proofs.LookFacts.{replied-push}
use Rattle.pool_laws.proofs.StepFacts.{IsKnown, IsLook, step-known}
use Rattle.guest_steps.specs.declared.processor.Need.TheVariants as need
use Rattle.guest_steps.specs.Ground.{Ground, HasArea, IsSameArea, ground_of, there_in, with_area}
use Rattle.guest_steps.specs.Seen.{Seen, STEPS, commands_left, left_by, need_of, own_now, steps_left, steps_waiting}
use Rattle.guest_steps.specs.Standing.{Stands}
use Rattle.guest_steps.specs.Steps.{Makes, MakesIn, MakesInArea, MakesInMemory, MakesOwn, there_after, without_reply}
use Rattle.guest_steps.proofs.FollowLemmas.{StepTaken, step-taken}
use Rattle.guest_steps.proofs.GroundLemmas.{each-set, there-of}
use Rattle.guest_steps.proofs.ListLemmas.{slice_get-set_other, slice_get-set_same}
use Rattle.guest_steps.proofs.LooksLemmas.{goes-on, looks-few, looks-none, own-behind}
use Rattle.guest_steps.proofs.OwnStepLemmas.{AreaKind, area-busy, area-kind, needs-area, own-busy}

-- A step at one place is a step over all places.

-- ---- over the memory

-- an event of the memory moves no byte of the pool
quiet-by : (boot : Boot) (script : List Command) (own : OwnHeld) (there : List Moved) (cmd : ℕ) (e : Event) → place_of boot e ≡ Memory
    → elim (writes_at boot e) as (λ _. List ℕ) [ Some at ↦ given_bytes own (slice_get script cmd) | None ↦ taken_bytes boot there e ] ≡ []
quiet-by boot script own there cmd (event.Looked area run) is = absurd (let no : Area area ≡ Memory = is in cc)
quiet-by boot script own there cmd (event.CopiedIn run off len) is = absurd (let no : Area run.area ≡ Memory = is in cc)
quiet-by boot script own there cmd (event.CopiedOut run off len) is = absurd (let no : Area run.area ≡ Memory = is in cc)
quiet-by boot script own there cmd (event.Released run copied) is = absurd (let no : Area run.area ≡ Memory = is in cc)
quiet-by boot script own there cmd (event.DeviceRead run off len) is = absurd (let no : Area run.area ≡ Memory = is in cc)
quiet-by boot script own there cmd (event.DeviceWrote run off len) is = absurd (let no : Area run.area ≡ Memory = is in cc)
quiet-by boot script own there cmd (event.HostRead off len) is = absurd (let no : Area _ ≡ Memory = is in cc)
quiet-by boot script own there cmd (event.HostWrote off len) is = absurd (let no : Area _ ≡ Memory = is in cc)
quiet-by boot script own there cmd _ is = refl

pub quiet-bytes : (boot : Boot) (script : List Command) (own : OwnHeld) (there : List Moved) (e : Entry) → place_of boot e.event ≡ Memory → bytes_moved boot script own there e ≡ []
unfolding bytes_moved
quiet-bytes boot script own there e is = quiet-by boot script own there e.cmd e.event is

-- so it is kept without bytes
pub bare-unmoved : (m : Moved) → m.bytes ≡ [] → bare m ≡ unmoved (without_reply m.entry)
bare-unmoved m none = ap (λ (bytes : List ℕ). let kept : Moved = record { entry = without_reply m.entry; bytes = bytes } in kept) none

abbrev kept-at : Place → Moved → List Moved → Place → List Moved
kept-at place m there at = cond (same_place place at) (there ++ bare m ∷ []) there

pub fewer-left : (a l b k u v w : ℕ) → a + u < b + v → k ≡ 0 → w ≡ u → (a - l) + w < (b - k) + v
fewer-left a l b k u v w less none same = omega (arith, less, none, same)

pub other-need : {n : ℕ} → need.Memory ≡ need.Area n → ⊥
other-need {n} is = cc

pub own-need : {n : ℕ} → need.Own ≡ need.Area n → ⊥
own-need {n} is = cc

unfoldable pub memory-makes-in : (old new : Seen) (before after : MemoryValue) (areas : List AreaValue) → Stands old (ground_of before areas) → need_of old ≡ need.Memory → MakesInMemory old new before after
    → MakesIn old new (ground_of before areas) (ground_of after areas)
memory-makes-in old new before after areas s needs m =
    let base = ground_of before areas in
    record {
      m = m.m;
      makes = subst (λ p. Makes old new (there_in base p) m.m) (sym m.place) m.makes;
      busy = m.busy;
      boot = m.boot;
      areas = record { count = refl; each = λ n was at. (was, at, (refl, refl)) };
      there = by_place;
      others = m.others;
      less = fewer-left (commands_left new) (own_now new).looks (commands_left old) (own_now old).looks (steps_waiting old.boot after.entries) (steps_waiting old.boot before.entries) (steps_waiting new.boot after.entries)
          m.less (looks-none old base s (λ n is. other-need (sym needs ∙ is))) (ap (λ b. steps_waiting b after.entries) m.makes.same.boot);
    }
  where
    none : m.m.bytes ≡ []
    none =
        let t = step-taken old old.moved (moved_of before) m.m m.makes.next.mine m.makes.next.follows in
        t.bytes ∙ quiet-bytes old.boot old.script (own_now old) (moved_of before) m.m.entry (sym t.place ∙ m.place)

    by_place : (place : Place) → there_in (ground_of after areas) place ≡ there_after m.m place (there_in (ground_of before areas) place)
    by_place Memory =
        ap (map unmoved) m.entries
        ∙ map-append unmoved before.entries (without_reply m.m.entry ∷ [])
        ∙ ap (λ x. moved_of before ++ x ∷ []) (sym (bare-unmoved m.m none))
        ∙ sym (ap (kept-at Memory m.m (moved_of before)) m.place)
    by_place (Area n) = sym (ap (kept-at (Area n) m.m (there_in (ground_of before areas) (Area n))) m.place)
    by_place Own = refl

-- ---- in an area

-- fewer steps are left: the command ended, or has looked once more
pub area-less : (old new : Seen) (base : Ground) (there : List Moved) (m : Moved) (n : ℕ) → Stands old base → need_of old ≡ need.Area n → new.out ≡ None → Makes old new there m → steps_left new < steps_left old
area-less old new base there m n s needs rests makes = by_reply m.entry.reply refl where
  own : OwnHeld
  own = own_now old

  t : StepTaken old old.moved there m
  t = step-taken old old.moved there m makes.next.mine makes.next.follows

  k : ℕ
  k = replied old.moved

  left-now : (j : ℕ) → replied new.moved ≡ j → commands_left new ≡ left_by (length old.script) j None
  left-now j is =
      ap (λ (o : Option Taken). left_by (length new.script) (replied new.moved) o) rests
      ∙ ap (λ i. left_by (length new.script) i None) is
      ∙ ap (λ (x : List Command). left_by (length x) j None) makes.same.script

  left-was : commands_left old ≡ left_by (length old.script) k None
  left-was = ap (left_by (length old.script) k) (needs-area old n needs).rests

  own-new : own_now new ≡ own_of old.script (old.moved ++ m ∷ [])
  own-new = ap (λ (x : List Command). own_of x new.moved) makes.same.script ∙ ap (own_of old.script) makes.moved

  by_left : (j looks : ℕ) → replied new.moved ≡ j → (own_now new).looks ≡ looks → left_by (length old.script) j None - looks < left_by (length old.script) k None - own.looks → steps_left new < steps_left old
  by_left j looks number now less =
      let a = left-now j number in
      let b = left-was in
      let one : commands_left new - (own_now new).looks ≡ left_by (length old.script) j None - looks = ap (λ x. x - (own_now new).looks) a ∙ ap (λ x. left_by (length old.script) j None - x) now in
      let two : commands_left old - own.looks ≡ left_by (length old.script) k None - own.looks = ap (λ x. x - own.looks) b in
      omega (arith, one, two, less)

  ended-less : (x l c i : ℕ) → i < c → l < STEPS → x ≡ 0 → (c - (i + 1)) * STEPS - x < (c - i) * STEPS - l
  ended-less x l c i below few none =
      let split : c - i ≡ (c - (i + 1)) + 1 = omega (arith, below) in
      let more : (c - i) * STEPS ≡ (c - (i + 1)) * STEPS + STEPS = ap (λ y. y * STEPS) split ∙ (let sum : ((c - (i + 1)) + 1) * STEPS ≡ (c - (i + 1)) * STEPS + STEPS = omega arith in sum) in
      omega (arith, few, none, more)

  looked-less : (x l c i : ℕ) → i < c → l < STEPS → x ≡ l + 1 → (c - i) * STEPS - x < (c - i) * STEPS - l
  looked-less x l c i below few more =
      let split : c - i ≡ (c - (i + 1)) + 1 = omega (arith, below) in
      let much : (c - i) * STEPS ≡ (c - (i + 1)) * STEPS + STEPS = ap (λ y. y * STEPS) split ∙ (let sum : ((c - (i + 1)) + 1) * STEPS ≡ (c - (i + 1)) * STEPS + STEPS = omega arith in sum) in
      omega (arith, few, more, much)

  by_reply : (said : Option Reply) → m.entry.reply ≡ said → steps_left new < steps_left old
  by_reply (Some r) is =
      by_left (k + 1) 0 (ap replied makes.moved ∙ replied-push old.moved m (Some r) is)
      (ap (λ (x : OwnHeld). x.looks) (own-new ∙ own-behind old old.moved there m t) ∙ ap (λ (x : Option Reply). (ended x (told (Some t.command) m own)).looks) is)
      (ended-less 0 own.looks (length old.script) k (slice_get_within old.script k t.command t.its) (looks-few old base s) refl)
  by_reply None is =
      by_left k (own.looks + 1) (ap replied makes.moved ∙ replied-push old.moved m None is ∙ (let none : k + 0 ≡ k = omega arith in none))
      (ap (λ (x : OwnHeld). x.looks) own-new ∙ look-more is)
      (looked-less (own.looks + 1) own.looks (length old.script) k (slice_get_within old.script k t.command t.its) (looks-few old base s) refl)
    where
      look-more : m.entry.reply ≡ None → (own_of old.script (old.moved ++ m ∷ [])).looks ≡ own.looks + 1
      look-more none = by_known (step-known old.boot old.number own there t.command (calls_in m.entry.event) (step_told m.entry) t.step) (area-kind old there m n needs t)
        where
          counted : IsLook old.boot old.number own there t.command (step_told m.entry) → (own_of old.script (old.moved ++ m ∷ [])).looks ≡ own.looks + 1
          counted look = ap (λ (x : OwnHeld). x.looks) (goes-on old old.moved there m t none look).behind

          by_known : IsKnown old.boot old.number own there t.command (step_told m.entry) → AreaKind own t.command (step_told m.entry) → (own_of old.script (old.moved ++ m ∷ [])).looks ≡ own.looks + 1
          by_known (inr look) kind = counted look
          by_known (inl plain) (inl not) = absurd (not plain.event)
          by_known (inl plain) (inr ends) = absurd (let no : false ≡ true = sym (ap (λ (r : Option Reply). is_some r) none) ∙ ends.1 in cc)

unfoldable pub area-makes-in : (old new : Seen) (base : Ground) (before after : AreaValue) → Stands old base → HasArea base before → need_of old ≡ need.Area before.number → MakesInArea old new before after
    → MakesIn old new base (with_area base after)
area-makes-in old new base before after s has needs m = record {
  m = m.m;
  makes = subst (λ p. Makes old new (there_in base p) m.m) (sym m.place) (subst (λ ms. Makes old new ms m.m) (sym (there-of base before.number before has)) m.makes);
  busy = area-busy old base.memory.entries before.number needs;
  boot = refl;
  areas = each-set IsSameArea (λ a. (refl, refl)) base.areas after.number before after at (m.number, m.slots);
  there = by_place;
  others = record { handed = λ other differ. refl; states = λ other claim page differ claimed within. refl; waiting = omega arith };
  less = still-waiting (steps_left new) (steps_left old) (steps_waiting old.boot base.memory.entries) (steps_waiting new.boot base.memory.entries)
      (area-less old new base before.moved m.m before.number s needs m.rests m.makes) (ap (λ b. steps_waiting b base.memory.entries) m.makes.same.boot);
}
  where
    at : slice_get base.areas after.number ≡ Some before
    at = ap (slice_get base.areas) m.number ∙ has

    still-waiting : (a b u w : ℕ) → a < b → w ≡ u → a + w < b + u
    still-waiting a b u w less same = omega (arith, less, same)

    by_number : (k : ℕ) → (k ≡ after.number) ⊎ (k ≡ after.number → ⊥) → there_in (with_area base after) (Area k) ≡ there_after m.m (Area k) (there_in base (Area k))
    by_number k (inl here) =
        let it : same_place (Area k) m.m.entry.place ≡ true = ap (same_place (Area k)) m.place ∙ eq-eqb k before.number (here ∙ m.number) in
        there-of (with_area base after) k after (ap (slice_get (with_area base after).areas) here ∙ slice_get-set_same base.areas after.number before after at)
        ∙ m.moved
        ∙ ap (λ ms. ms ++ bare m.m ∷ []) (sym (there-of base k before (ap (slice_get base.areas) (here ∙ m.number) ∙ has)))
        ∙ sym (ap (λ b. cond b (there_in base (Area k) ++ bare m.m ∷ []) (there_in base (Area k))) it)
    by_number k (inr other) =
        let out : same_place (Area k) m.m.entry.place ≡ false = ap (same_place (Area k)) m.place ∙ ne_eqb k before.number (λ same. other (same ∙ sym m.number)) in
        ap (λ (o : Option AreaValue). option_map_or (λ (a : AreaValue). a.moved) o []) (slice_get-set_other base.areas after.number k after other)
        ∙ sym (ap (λ b. cond b (there_in base (Area k) ++ bare m.m ∷ []) (there_in base (Area k))) out)

    by_place : (place : Place) → there_in (with_area base after) place ≡ there_after m.m place (there_in base place)
    by_place Memory = sym (ap (kept-at Memory m.m (there_in base Memory)) m.place)
    by_place (Area k) = by_number k (cases_eq k after.number)
    by_place Own = refl

-- ---- alone

unfoldable pub own-makes-in : (old new : Seen) (base : Ground) → Stands old base → need_of old ≡ need.Own → MakesOwn old new → MakesIn old new base base
own-makes-in old new base s needs m = record {
  m = m.m;
  makes = subst (λ p. Makes old new (there_in base p) m.m) (sym m.place) m.makes;
  busy = own-busy old base.memory.entries needs;
  boot = refl;
  areas = record { count = refl; each = λ n was at. (was, at, (refl, refl)) };
  there = by_place;
  others = record { handed = λ other differ. refl; states = λ other claim page differ claimed within. refl; waiting = omega arith };
  less = alone-less (commands_left new) (own_now new).looks (commands_left old) (own_now old).looks (steps_waiting old.boot base.memory.entries) (steps_waiting new.boot base.memory.entries)
      m.less (looks-none old base s (λ n is. own-need (sym needs ∙ is))) (ap (λ b. steps_waiting b base.memory.entries) m.makes.same.boot);
}
  where
    alone-less : (a l b k u w : ℕ) → a < b → k ≡ 0 → w ≡ u → (a - l) + w < (b - k) + u
    alone-less a l b k u w less none same = omega (arith, less, none, same)

    by_place : (place : Place) → there_in base place ≡ there_after m.m place (there_in base place)
    by_place Memory = sym (ap (kept-at Memory m.m (there_in base Memory)) m.place)
    by_place (Area k) = sym (ap (kept-at (Area k) m.m (there_in base (Area k))) m.place)
    by_place Own = refl
