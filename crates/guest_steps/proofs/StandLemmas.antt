use Rattle.std.proofs.Common.{◌≡◌, ◌⊎◌, ℕ, ◌≤◌, ◌<◌, Bool, true, false, None, Some, List, [], ◌∷◌, ◌++◌, refl, sym, ◌∙◌, ap, subst, inl, inr, arith, cond, map, append-nil, append_assoc, eq-eqb}
use Rattle.std.specs.Prelude.{All, filter, slice_get, ◌==◌}
use Rattle.std.proofs.lemmas.Bool.{cases_Bool}
use Rattle.std.proofs.lemmas.List.{map-append}
use Rattle.std.proofs.lemmas.List.Elements.{All-push, filter-append}
use Rattle.guest_base.specs.declared.memory.Block.{Block}
use Rattle.event_core.specs.declared.boot.Boot.{Boot}
use Rattle.event_core.specs.declared.command.Command.{Command}
use Rattle.event_core.specs.declared.entry.Entry.{Entry}
use Rattle.event_core.specs.declared.entry.Place.{Place}
use Rattle.event_core.specs.declared.entry.Place.TheVariants.{Memory, Area, Own}
use Rattle.event_core.specs.declared.event.Event.TheVariants.{Got}
use Rattle.event_core.specs.declared.module_call.ModuleCall.{ModuleCall}
use Rattle.event_core.specs.declared.reply.Reply.{Reply}
use Rattle.event_core.specs.Legal.{at_place, bare, greatest_stamp, place_of, same_place}
use Rattle.event_core.specs.Locally.{FollowsLocally, Rising}
use Rattle.event_core.specs.Moved.{Moved, entries_of, made_by}
use Rattle.event_core.specs.ReadableScript.{ReadableScript}
use Rattle.event_core.proofs.RisingLemmas.{filter-at}
use Rattle.block_laws.specs.Unconverting.{ConvertsNothing}
use Rattle.memory_core.specs.Booted.{IsBooted}
use Rattle.memory_core.specs.Owners.{is_owner}
use Rattle.guest_steps.specs.Ground.{Ground, IsGroundOf, there_in}
use Rattle.guest_steps.specs.Seen.{Seen}
use Rattle.guest_steps.specs.Standing.{FollowsAll, HasLive, IsOut, PortTells, Stands, StoodBehind, StoodIn}
use Rattle.guest_steps.specs.Steps.{HaveScript, MakesIn, there_after}
use Rattle.guest_steps.proofs.AccountLemmas.{makes-spent}
use Rattle.guest_steps.proofs.AmongLemmas.{rises-push}
use Rattle.guest_steps.proofs.FoundLemmas.{stood-behind}
use Rattle.guest_steps.proofs.GroundLemmas.{base-same}
use Rattle.guest_steps.proofs.HeldLemmas.{held-next}
use Rattle.guest_steps.proofs.ListLemmas.{alone, alone-has, split-push}
use Rattle.guest_steps.proofs.StepLemmas.{after-if}

-- A processor stands behind an entry that it made.

-- ---- each place has of it what its entries have there

made-push : (cpu : ℕ) (there : List Moved) (m : Moved) → m.entry.cpu.0 ≡ cpu → made_by cpu (there ++ bare m ∷ []) ≡ made_by cpu there ++ bare m ∷ []
made-push cpu there m mine =
    filter-append (λ (x : Moved). x.entry.cpu.0 == cpu) there (bare m ∷ []) ∙ ap (λ ms. made_by cpu there ++ ms) (filter-at (λ (x : Moved). x.entry.cpu.0 == cpu) (bare m) [] true (eq-eqb m.entry.cpu.0 cpu mine))

made-if : (b : Bool) (cpu : ℕ) (there : List Moved) (m : Moved) → m.entry.cpu.0 ≡ cpu → made_by cpu (cond b (there ++ bare m ∷ []) there) ≡ cond b (made_by cpu there ++ bare m ∷ []) (made_by cpu there)
made-if true cpu there m mine = made-push cpu there m mine
made-if false cpu there m mine = refl

kept-if : (test : Moved → Bool) (moved : List Moved) (m : Moved) → map bare (filter test (moved ++ m ∷ [])) ≡ cond (test m) (map bare (filter test moved) ++ bare m ∷ []) (map bare (filter test moved))
kept-if test moved m = ap (map bare) (filter-append test moved (m ∷ [])) ∙ map-append bare (filter test moved) (filter test (m ∷ [])) ∙ by_test (test m) refl where
  there : List Moved
  there = map bare (filter test moved)

  by_test : (b : Bool) → test m ≡ b → there ++ map bare (filter test (m ∷ [])) ≡ cond b (there ++ bare m ∷ []) there
  by_test true is = ap (λ ms. there ++ map bare ms) (filter-at test m [] true is)
  by_test false is = ap (λ ms. there ++ map bare ms) (filter-at test m [] false is) ∙ append-nil there

-- both lists grow by the entry, or neither
mine-after : (place : Place) (cpu : ℕ) (there moved : List Moved) (m : Moved) → m.entry.cpu.0 ≡ cpu → made_by cpu there ≡ at_place place moved → made_by cpu (there_after m place there) ≡ at_place place (moved ++ m ∷ [])
mine-after Memory cpu there moved m mine has =
    let b = same_place Memory m.entry.place in
    made-if b cpu there m mine ∙ ap (λ ms. cond b (ms ++ bare m ∷ []) ms) has ∙ sym (kept-if (λ (x : Moved). same_place Memory x.entry.place) moved m)
mine-after (Area k) cpu there moved m mine has =
    let b = same_place (Area k) m.entry.place in
    made-if b cpu there m mine ∙ ap (λ ms. cond b (ms ++ bare m ∷ []) ms) has ∙ sym (kept-if (λ (x : Moved). same_place (Area k) x.entry.place) moved m)
mine-after Own cpu there moved m mine has = has

-- a place that has what entries have there has it with one more entry
pub kept-after : (place : Place) (there moved : List Moved) (m : Moved) → at_place place moved ≡ there → at_place place (moved ++ m ∷ []) ≡ there_after m place there
kept-after Memory there moved m has =
    kept-if (λ (x : Moved). same_place Memory x.entry.place) moved m ∙ ap (λ ms. cond (same_place Memory m.entry.place) (ms ++ bare m ∷ []) ms) has
kept-after (Area k) there moved m has =
    kept-if (λ (x : Moved). same_place (Area k) x.entry.place) moved m ∙ ap (λ ms. cond (same_place (Area k) m.entry.place) (ms ++ bare m ∷ []) ms) has
kept-after Own there moved m has = has

-- ---- each entry follows

-- a place has its entries, and perhaps one more
longer-after : (m : Moved) (place : Place) (there : List Moved) → (rest : List Moved) × (there_after m place there ≡ there ++ rest)
longer-after m Memory there = (cond (same_place Memory m.entry.place) (bare m ∷ []) [], after-if (same_place Memory m.entry.place) there m)
longer-after m (Area k) there = (cond (same_place (Area k) m.entry.place) (bare m ∷ []) [], after-if (same_place (Area k) m.entry.place) there m)
longer-after m Own there = ([], sym (append-nil there))

-- the entry that was made stands behind those before it in its place
stood-made : (at : Place) (m : Moved) (kept : Place → List Moved) (there : List Moved) → at ≡ m.entry.place → kept at ≡ there_after m at there → (at ≡ Own → there ≡ []) → StoodIn at m kept there
stood-made Memory m kept there is now own = ([], now ∙ ap (λ p. cond (same_place Memory p) (there ++ bare m ∷ []) there) (sym is))
stood-made (Area k) m kept there is now own =
    ([], now ∙ ap (λ p. cond (same_place (Area k) p) (there ++ bare m ∷ []) there) (sym is) ∙ ap (λ b. cond b (there ++ bare m ∷ []) there) (eq-eqb k k refl))
stood-made Own m kept there is now own = own refl

nothing-own : (base : Ground) (place : Place) → place ≡ Own → there_in base place ≡ []
nothing-own base place is = ap (there_in base) is

-- ---- all of it

module _ (old new : Seen) (before after : Ground) (s : Stands old before) (m : MakesIn old new before after) where
  abbrev there : List Moved
  there = there_in before m.m.entry.place

  longer : (place : Place) → (rest : List Moved) × (there_in after place ≡ there_in before place ++ rest)
  longer place = let more = longer-after m.m place (there_in before place) in (more.0, m.there place ∙ more.1)

  old-have : (scripts : List (List Command)) → HaveScript scripts new → HaveScript scripts old
  old-have scripts have = ap (slice_get scripts) (sym m.makes.same.number) ∙ have ∙ ap Some m.makes.same.script

  abbrev FollowsHere : List Moved → Moved → Type 0
  FollowsHere first x = (behind : List Moved) × StoodBehind x (there_in after) behind × ((scripts : List (List Command)) → HaveScript scripts new → FollowsLocally new.boot scripts first behind x)

  last-follows : FollowsHere old.moved m.m
  last-follows = (
    there,
    stood-made m.m.entry.place m.m (there_in after) there refl (m.there m.m.entry.place) (nothing-own before m.m.entry.place),
    λ scripts have. subst (λ b. FollowsLocally b scripts old.moved there m.m) (sym m.makes.same.boot) (m.makes.next.follows scripts (old-have scripts have)),
  )

  follows-made : FollowsAll new (there_in after)
  follows-made first later x is =
      elim (split-push old.moved m.m first x later (sym m.makes.moved ∙ is)) as (λ _. FollowsHere first x) [
        | inl last ↦ subst (λ ms. FollowsHere ms x) (sym last.0) (subst (FollowsHere old.moved) (sym last.1) last-follows)
        | inr earlier ↦
            (let f = s.follows first earlier.0 x earlier.1 in (
              f.0,
              stood-behind x (there_in before) (there_in after) f.0 longer f.1,
              λ scripts have. subst (λ b. FollowsLocally b scripts first f.0 x) (sym m.makes.same.boot) (f.2 scripts (old-have scripts have)),
            ))
      ]

  greater : greatest_stamp old.moved < m.m.entry.stamp
  greater =
      let stamp = (m.makes.next.follows (alone old.number old.script) (alone-has old.number old.script)).stamp in
      omega (arith, stamp)

  -- a block that was got had no owner
  pub made-stands : ((block : Block) → m.m.entry.event ≡ Got block → is_owner before.memory.entries old.number block ≡ false) → HasLive new → IsOut new after.memory new.out new.done → PortTells new → Stands new after
  made-stands nobodys live out port =
      let same = m.makes.same in
      let B : Boot → Type 0 = λ b. IsBooted b in
      let C : List Command → Type 0 = λ cs. All ConvertsNothing cs in
      let L : List Command → Type 0 = λ cs. ReadableScript cs in
      let A : ℕ → Type 0 = λ n. All (λ (x : Moved). x.entry.cpu.0 ≡ n) new.moved in
      let E : List Moved → Type 0 = λ ms. All (λ (x : Moved). x.entry.cpu.0 ≡ old.number) ms in
      let R : List Moved → Type 0 = λ ms. Rising (entries_of ms) in
      let cpus = ap (λ (b : Boot). b.cpus) same.boot in
      let number = same.number in
      let low = s.cpu in
      record {
        same = subst (λ b. IsGroundOf b after) (sym same.boot) (base-same old.boot before after s.same m.boot m.areas);
        booted = subst B (sym same.boot) s.booted;
        cpu = omega (arith, cpus, number, low);
        unconverting = subst C (sym same.script) s.unconverting;
        readable = subst L (sym same.script) s.readable;
        mine = λ place.
            ap (λ n. made_by n (there_in after place)) same.number
            ∙ ap (made_by old.number) (m.there place)
            ∙ mine-after place old.number (there_in before place) old.moved m.m m.makes.next.mine (s.mine place)
            ∙ ap (at_place place) (sym m.makes.moved);
        named = subst A (sym same.number) (subst E (sym m.makes.moved) (All-push (λ (x : Moved). x.entry.cpu.0 ≡ old.number) old.moved m.m s.named m.makes.next.mine));
        rises = subst R (sym m.makes.moved) (rises-push old.moved m.m s.rises greater);
        follows = follows-made;
        held = held-next old new before after m s.unconverting s.held nobodys;
        mapped = live;
        out = out;
        port = port;
        spent = makes-spent old new before after m s.spent;
      }
