use Rattle.std.proofs.Common.{◌≡◌, ℕ, ◌<◌, ◌≤◌, true, Option, None, Some, Ok, Err, List, length, refl, sym, ◌∙◌, ap, arith, slice_get}
use Rattle.std.specs.Prelude.{Result}
use Rattle.std.specs.Result.{IsErr}
use Rattle.std.specs.declared.alloc.AllocError.{AllocError}
use Rattle.std.proofs.lemmas.Option.{slice_get_within}
use Rattle.event_core.specs.declared.boot.Boot.{Boot}
use Rattle.event_core.specs.declared.command.Command.{Command}
use Rattle.event_core.specs.Moved.{Moved}
use Rattle.event_core.specs.Own.{own_of, replied}
use Rattle.page_module.specs.Spans.{Taken}
use Rattle.io_areas.specs.Value.{AreaValue}
use Rattle.memory_core.specs.Value.{MemoryValue}
use Rattle.guest_steps.specs.declared.processor.Need.{Need}
use Rattle.guest_steps.specs.declared.processor.Need.TheVariants.{Area, Memory, Own}
use Rattle.guest_steps.specs.Ground.{Ground, HasArea, ground_of, with_area}
use Rattle.guest_steps.specs.Running.{StaysLater}
use Rattle.guest_steps.specs.Seen.{Accepted, Seen, need_by, need_for, need_of, own_now, present_command}
use Rattle.guest_steps.specs.Standing.{IsOut, Stands}
use Rattle.guest_steps.specs.Steps.{AreaRoomAlone, MakesIn, MakesInArea, MakesInMemory, MakesOwn, Works, ticket_of}
use Rattle.guest_steps.proofs.GroundLemmas.{each-set}
use Rattle.guest_steps.proofs.MappedLemmas.{needed-there}
use Rattle.guest_steps.proofs.OverLemmas.{area-makes-in, memory-makes-in, own-makes-in}
use Rattle.guest_steps.proofs.OwnStepLemmas.{needs-area}
use Rattle.guest_turns.specs.Walks.{MakesTurn, OneTurn}

-- A processor makes an entry over the memory, in an area, or by itself.

at-once : (old new : Seen) (before after : Ground) → Stands old before → MakesIn old new before after → MakesTurn old new before after
at-once old new before after stands makes = record { worked = old; stays = record { boot = refl; number = refl; script = refl; moved = refl; taken = refl }; stands = stands; makes = makes }

module _ {T : Type 0} (seen : T → Seen) (stands : T → Ground → Type 0) (NeverFails : T → Type 0) (old new : T) where
  makes-later : (before after : Ground) → MakesIn (seen old) (seen new) before after → (NeverFails old → NeverFails new) → StaysLater seen NeverFails old new
  makes-later before after m never = record {
    later = record {
      boot = m.makes.same.boot;
      number = m.makes.same.number;
      script = m.makes.same.script;
      made_before = m.makes.same.made_before;
      faults_before = m.makes.same.faults_before;
      reported = m.makes.done;
    };
    never_fails = never;
  }

  made-turn : (before after : Ground) → Stands (seen old) before → stands new after → MakesIn (seen old) (seen new) before after → (NeverFails old → NeverFails new)
      → OneTurn seen stands NeverFails (Ok true) old new before after
  made-turn before after standing stand m never = record {
    stand = stand;
    later = makes-later before after m never;
    event = λ made. at-once (seen old) (seen new) before after standing m;
    none = λ not. cc;
    refused = tt;
  }

  pub own-one_turn : (base : Ground) → Stands (seen old) base → need_of (seen old) ≡ Own → stands new base → MakesOwn (seen old) (seen new) → (NeverFails old → NeverFails new)
      → OneTurn seen stands NeverFails (Ok true) old new base base
  own-one_turn base standing needs stand m never = made-turn base base standing stand (own-makes-in (seen old) (seen new) base standing needs m) never

  pub area-one_turn : (base : Ground) (before after : AreaValue) → Stands (seen old) base → HasArea base before → need_of (seen old) ≡ Area before.number → stands new (with_area base after) → MakesInArea (seen old) (seen new) before after
      → (NeverFails old → NeverFails new) → OneTurn seen stands NeverFails (Ok true) old new base (with_area base after)
  area-one_turn base before after standing has needs stand m never =
      made-turn base (with_area base after) standing stand (area-makes-in (seen old) (seen new) base before after standing has needs m) never

-- ---- the area that a processor needs

-- it stands at the place of its number
pub needed-within : (c : Seen) (base : Ground) (n : ℕ) → Stands c base → need_of c ≡ Area n → n < length base.areas
needed-within c base n s needs =
    let there = needed-there c base n s needs in
    let within = slice_get_within base.areas there.area.number there.area there.has in
    let number = there.number in
    omega (arith, within, number)

pub record AreaAt (c : Seen) (base : Ground) (n : ℕ) (area : AreaValue) : Type 0 where
  pub number : area.number ≡ n
  pub has : HasArea base area
  pub needs : need_of c ≡ Area area.number

pub area-at : (c : Seen) (base : Ground) (n : ℕ) (area : AreaValue) → Stands c base → need_of c ≡ Area n → slice_get base.areas n ≡ Some area → AreaAt c base n area
area-at c base n area s needs at =
    let number = (s.same.each n area at).0 in
    record { number = number; has = ap (slice_get base.areas) number ∙ at; needs = needs ∙ ap Area (sym number) }

-- nothing is left to report of it
rests-done : (c : Seen) (memory : MemoryValue) (out : Option Taken) (unsaid : Option Accepted) → IsOut c memory out unsaid → out ≡ None → unsaid ≡ None
rests-done c memory None None told is = refl
rests-done c memory None (Some accepted) told is = absurd told
rests-done c memory (Some span) unsaid told is = cc

-- what holds of each error holds of a result that is one
pub err-any : {A E : Type 0} (result : Result A E) → IsErr result → (P : Result A E → Type 0) → ((e : E) → P (Err e)) → P result
err-any (Ok a) is P each = cc
err-any (Err e) is P each = each e

-- ---- the work, and then the memory

need-same : (one other : Option Taken) (at_rest : Need) → ticket_of one ≡ ticket_of other → need_by one at_rest ≡ need_by other at_rest
need-same None None at_rest is = refl
need-same None (Some span) at_rest is = cc
need-same (Some span) None at_rest is = cc
need-same (Some one) (Some other) at_rest is = refl

-- the work leaves what the next step needs
pub works-need : (old new : Seen) → Works old new → need_of new ≡ need_of old
works-need old new w =
    ap (λ (b : Boot). need_by new.out (need_for b new.number (own_now new) (present_command new))) w.boot
    ∙ ap (λ n. need_by new.out (need_for old.boot n (own_now new) (present_command new))) w.number
    ∙ ap (λ (s : List Command). need_by new.out (need_for old.boot old.number (own_of s new.moved) (slice_get s (replied new.moved)))) w.script
    ∙ ap (λ (ms : List Moved). need_by new.out (need_for old.boot old.number (own_of old.script ms) (slice_get old.script (replied ms)))) w.moved
    ∙ need-same new.out old.out (need_for old.boot old.number (own_now old) (present_command old)) w.taken

module _ {T : Type 0} (seen : T → Seen) (stands : T → Ground → Type 0) (NeverFails : T → Type 0) where
  pub memory-one_turn : (old worked new : T) (before after : MemoryValue) (areas : List AreaValue) → Stands (seen worked) (ground_of before areas) → need_of (seen old) ≡ Memory → stands new (ground_of after areas)
      → Works (seen old) (seen worked) → MakesInMemory (seen worked) (seen new) before after → (NeverFails old → NeverFails new) → OneTurn seen stands NeverFails (Ok true) old new (ground_of before areas) (ground_of after areas)
  memory-one_turn old worked new before after areas standing needs stand w m never = record {
    stand = stand;
    later = record {
      later = record {
        boot = m.makes.same.boot ∙ w.boot;
        number = m.makes.same.number ∙ w.number;
        script = m.makes.same.script ∙ w.script;
        made_before = m.makes.same.made_before ∙ w.made_before;
        faults_before = m.makes.same.faults_before ∙ w.faults_before;
        reported = m.makes.done;
      };
      never_fails = never;
    };
    event = λ made. record {
      worked = seen worked;
      stays = record { boot = w.boot; number = w.number; script = w.script; moved = w.moved; taken = w.taken };
      stands = standing;
      makes = memory-makes-in (seen worked) (seen new) before after areas standing (works-need (seen old) (seen worked) w ∙ needs) m;
    };
    none = λ not. cc;
    refused = tt;
  }

  -- a step in an area that memory was too little for
  pub area-refused : (old new : T) (base : Ground) (before after : AreaValue) (e : AllocError) → Stands (seen old) base → HasArea base before → need_of (seen old) ≡ Area before.number → stands new (with_area base after)
      → seen new ≡ seen old → AreaRoomAlone before after → (NeverFails old → NeverFails new) → OneTurn seen stands NeverFails (Err e) old new base (with_area base after)
  area-refused old new base before after e s has needs stand same room never = record {
    stand = stand;
    later = record {
      later = record {
        boot = ap (λ (c : Seen). c.boot) same;
        number = ap (λ (c : Seen). c.number) same;
        script = ap (λ (c : Seen). c.script) same;
        made_before = ap (λ (c : Seen). c.made_before) same;
        faults_before = ap (λ (c : Seen). c.faults_before) same;
        reported = ap (λ (c : Seen). c.done) same ∙ rests-done (seen old) base.memory (seen old).out (seen old).done s.out (needs-area (seen old) before.number needs).rests;
      };
      never_fails = never;
    };
    event = λ not. cc;
    none = λ not. cc;
    refused = record {
      stays = record {
        boot = ap (λ (c : Seen). c.boot) same;
        number = ap (λ (c : Seen). c.number) same;
        script = ap (λ (c : Seen). c.script) same;
        moved = ap (λ (c : Seen). c.moved) same;
        taken = ap (λ (c : Seen). ticket_of c.out) same;
      };
      room = record {
        memory = record { boot = refl; entries = refl; out = refl; room = omega arith };
        areas = each-set AreaRoomAlone (λ a. record { number = refl; slots = refl; moved = refl; room = omega arith }) base.areas after.number before after (ap (slice_get base.areas) room.number ∙ has) room;
      };
    };
  }
