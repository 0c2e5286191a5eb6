use Rattle.std.proofs.Common.{◌≡◌, ◌⊎◌, ℕ, zero, suc, ◌+◌, ◌*◌, ◌%◌, ◌<◌, ◌≤◌, Bool, true, false, not, Option, None, Some, List, [], ◌∷◌, ◌++◌, filter, map, refl, sym, ◌∙◌, ap, subst, inl, inr, arith, cond, append-nil, get_or, slice_get}
use Rattle.std.specs.Prelude.{All, AllPairs, bytes_eq, find, length, nat_lt, ◌==◌}
use Rattle.std.specs.List.{repeat}
use Rattle.std.specs.Option.{option_map_or}
use Rattle.std.proofs.lemmas.Bool.{both_ways, cases_Bool, eq-eqb, false_from_ne_true}
use Rattle.std.proofs.lemmas.Bool.Decides.{nat_tests}
use Rattle.std.proofs.lemmas.List.{map-append}
use Rattle.std.proofs.lemmas.List.Elements.{All-cons, All-filter, All-head, All-nil, All-tail, All-weaker, filter-append}
use Rattle.std.proofs.lemmas.List.Kept.{AllPairs-cons, AllPairs-filter}
use Rattle.std.proofs.lemmas.Nat.{div_below, mod_below}
use Rattle.std.proofs.lemmas.Option.{slice_get-get_or}
use Rattle.guest_base.specs.declared.limits.TheConstants.{PAGE_BYTES, SLOT_BYTES}
use Rattle.guest_base.specs.declared.memory.Pages.{Pages}
use Rattle.guest_base.specs.declared.transfer.Direction.{Direction}
use Rattle.guest_base.specs.declared.transfer.Request.{Request}
use Rattle.guest_base.specs.declared.transfer.SlotRun.{SlotRun}
use Rattle.guest_base.specs.Requests.{request_of}
use Rattle.guest_base.proofs.RangeLemmas.{in_range-intro}
use Rattle.event_core.specs.declared.boot.Boot.{Boot}
use Rattle.event_core.specs.declared.command.Command.{Command}
use Rattle.event_core.specs.declared.command.Command.TheVariants as command
use Rattle.event_core.specs.declared.entry.Place.TheVariants.{Memory, Area, Own as OwnPlace}
use Rattle.event_core.specs.declared.event.Event.{Event}
use Rattle.event_core.specs.declared.event.Event.TheVariants as event
use Rattle.event_core.specs.declared.reply.Reply.{Reply}
use Rattle.event_core.specs.declared.reply.Reply.TheVariants as reply
use Rattle.event_core.specs.AreaRows.{area_looked_in}
use Rattle.event_core.specs.Calls.{calls_in}
use Rattle.event_core.specs.Holdings.{Holding, Mapping, Own, asks_in, asks_out, block_named, mapping_named}
use Rattle.event_core.specs.Legal.{at_place, bare, place_of, same_place}
use Rattle.event_core.specs.Moved.{Moved, entries_of, made_by}
use Rattle.event_core.specs.Next.{Step}
use Rattle.event_core.specs.Own.{after_alloc, after_free, after_map, after_sync, after_unmap, after_write, copied_out, ended, own_of, replied, told, with_bytes_at}
use Rattle.event_core.specs.Pool.{area_count, area_of_offset, area_slots, is_used, live_after, live_runs, run_found, same_run}
use Rattle.event_core.specs.ReadableScript.{IsReadable}
use Rattle.event_core.specs.Refusals.{pool_refusal, refusal_of}
use Rattle.event_core.proofs.CommandLemmas.{some-same, step_told}
use Rattle.event_core.proofs.RefusalLemmas.{refuse-none}
use Rattle.event_core.proofs.RisingLemmas.{filter-at, pairs-head, pairs-tail}
use Rattle.event_laws.proofs.TurnLemmas.{all-map}
use Rattle.block_laws.specs.Mapped.{IsOfHeldBlock, MappedAreHeld}
use Rattle.block_laws.specs.Unconverting.{ConvertsNothing}
use Rattle.block_laws.proofs.MappedFacts.{IsNamed, MappingsNamed, named-held, step-named}
use Rattle.pool_laws.specs.Live.{MappingsStand, is_live, live_in, live_of}
use Rattle.pool_laws.proofs.LiveLemmas.{found-free, live-first, live-in-push, live-kept, live-more, same-run, same-run-refl, used-some}
use Rattle.pool_laws.proofs.StepFacts.{IsLook, NoLook, need-some, step-known}
use Rattle.io_areas.specs.Value.{AreaValue}
use Rattle.guest_steps.specs.declared.processor.Need.TheVariants as need
use Rattle.guest_steps.specs.Ground.{Ground, HasArea, IsGroundOf, there_in}
use Rattle.guest_steps.specs.Seen.{Seen, need_of, need_of_copy, need_of_mapping, need_unrefused, own_now}
use Rattle.guest_steps.specs.Standing.{HasLive, Stands}
use Rattle.guest_steps.specs.Steps.{Makes, MakesInArea}
use Rattle.guest_steps.proofs.BeginningLemmas.{all-got}
use Rattle.guest_steps.proofs.FollowLemmas.{StepTaken, each-prefix, step-taken}
use Rattle.guest_steps.proofs.GroundLemmas.{there-none}
use Rattle.guest_steps.proofs.HeldLemmas.{all-found}
use Rattle.guest_steps.proofs.LooksLemmas.{map-fine, own-behind, some-pool}
use Rattle.guest_steps.proofs.OwnStepLemmas.{AreaKind, NoRelease, Releases, area-kind, load-area, needs-area}

-- The mappings that a processor has.

-- ---- an event that begins no mapping and ends none

held-mappings : {A : Type 0} (f : A → Own) (held : Option A) (own : Own) → ((a : A) → (f a).mappings ≡ own.mappings) → (option_map_or f held own).mappings ≡ own.mappings
held-mappings f None own each = refl
held-mappings f (Some a) own each = each a

alloc-mappings : (name : List ℕ) (e : Event) (own : Own) → (after_alloc name e own).mappings ≡ own.mappings
alloc-mappings name (event.Got block) own = refl
alloc-mappings name e own = refl

free-mappings : (name : List ℕ) (e : Event) (own : Own) → (after_free name e own).mappings ≡ own.mappings
free-mappings name (event.Freed block) own = refl
free-mappings name e own = refl

write-mappings : (name : List ℕ) (off : ℕ) (more : List ℕ) (r : Option Reply) (own : Own) → (after_write name off more r own).mappings ≡ own.mappings
write-mappings name off more (Some reply.Done) own = held-mappings (λ (h : Holding). with_bytes_at h.block off more own) (block_named own name) own (λ h. refl)
write-mappings name off more r own = refl

map-mappings : (mapping name : List ℕ) (off : ℕ) (direction : Direction) (e : Event) (own : Own) → NoLook e → (after_map mapping name off direction e own).mappings ≡ own.mappings
map-mappings mapping name off direction (event.Looked area run) own plain = absurd plain
map-mappings mapping name off direction e own plain = refl

out-mappings : (mapping : List ℕ) (off : ℕ) (more : List ℕ) (own : Own) → (copied_out mapping off more own).mappings ≡ own.mappings
out-mappings mapping off more own = held-mappings (λ (m : Mapping). with_bytes_at m.block (m.off + off) more own) (mapping_named own mapping) own (λ m. refl)

sync-mappings : (mapping : List ℕ) (more : List ℕ) (e : Event) (own : Own) → (after_sync mapping more e own).mappings ≡ own.mappings
sync-mappings mapping more (event.CopiedOut run off len) own = out-mappings mapping off more own
sync-mappings mapping more e own = refl

unmap-mappings : (mapping more : List ℕ) (e : Event) (own : Own) → NoRelease e → (after_unmap mapping more e own).mappings ≡ own.mappings
unmap-mappings mapping more (event.Released run copied) own still = absurd still
unmap-mappings mapping more e own still = refl

told-mappings : (c : Command) (m : Moved) (own : Own) → ConvertsNothing c → NoLook m.entry.event → NoRelease m.entry.event → (told (Some c) m own).mappings ≡ own.mappings
told-mappings (command.Alloc name order) m own converts plain still = alloc-mappings name m.entry.event own
told-mappings (command.Free name) m own converts plain still = free-mappings name m.entry.event own
told-mappings (command.Write name off hex) m own converts plain still = write-mappings name off hex m.entry.reply own
told-mappings (command.Fill name off len byte) m own converts plain still = write-mappings name off (repeat len (byte ∷ [])) m.entry.reply own
told-mappings (command.Share name) m own converts plain still = absurd converts
told-mappings (command.Private name) m own converts plain still = absurd converts
told-mappings (command.Giveback name) m own converts plain still = absurd converts
told-mappings (command.Map mapping name off len direction mask) m own converts plain still = map-mappings mapping name off direction m.entry.event own plain
told-mappings (command.SyncCpu mapping off len) m own converts plain still = sync-mappings mapping m.bytes m.entry.event own
told-mappings (command.Unmap mapping skip) m own converts plain still = unmap-mappings mapping m.bytes m.entry.event own still
told-mappings c m own converts plain still = refl

ended-mappings : (r : Option Reply) (own : Own) → (ended r own).mappings ≡ own.mappings
ended-mappings None own = refl
ended-mappings (Some r) own = refl

live-still : (e : Event) (live : List SlotRun) → NoLook e → NoRelease e → live_after live e ≡ live
live-still (event.Looked area run) live plain still = absurd plain
live-still (event.Released run copied) live plain still = absurd still
live-still e live plain still = refl

-- an event of the memory or of the processor itself is such
quiet-memory : (boot : Boot) (e : Event) → place_of boot e ≡ Memory → NoLook e × NoRelease e
quiet-memory boot (event.Looked area run) is = absurd (let no : Area area ≡ Memory = is in cc)
quiet-memory boot (event.Released run copied) is = absurd (let no : Area run.area ≡ Memory = is in cc)
quiet-memory boot e is = (tt, tt)

quiet-own : (boot : Boot) (e : Event) → place_of boot e ≡ OwnPlace → NoLook e × NoRelease e
quiet-own boot (event.Looked area run) is = absurd (let no : Area area ≡ OwnPlace = is in cc)
quiet-own boot (event.Released run copied) is = absurd (let no : Area run.area ≡ OwnPlace = is in cc)
quiet-own boot e is = (tt, tt)

-- ---- what lives in an area by the processor's own entries

abbrev lives_at : List Moved → ℕ → List SlotRun
lives_at moved k = live_in (at_place (Area k) moved)

at-push : (moved : List Moved) (m : Moved) (k : ℕ) → at_place (Area k) (moved ++ m ∷ []) ≡ at_place (Area k) moved ++ map bare (filter (λ (x : Moved). same_place (Area k) x.entry.place) (m ∷ []))
at-push moved m k =
    let test = λ (x : Moved). same_place (Area k) x.entry.place in
    ap (map bare) (filter-append test moved (m ∷ [])) ∙ map-append bare (filter test moved) (filter test (m ∷ []))

lives-here : (moved : List Moved) (m : Moved) (k : ℕ) → same_place (Area k) m.entry.place ≡ true → lives_at (moved ++ m ∷ []) k ≡ live_after (lives_at moved k) m.entry.event
lives-here moved m k here =
    let test = λ (x : Moved). same_place (Area k) x.entry.place in
    ap live_in (at-push moved m k ∙ ap (λ ms. at_place (Area k) moved ++ map bare ms) (filter-at test m [] true here)) ∙ live-in-push (at_place (Area k) moved) (bare m)

lives-elsewhere : (moved : List Moved) (m : Moved) (k : ℕ) → same_place (Area k) m.entry.place ≡ false → lives_at (moved ++ m ∷ []) k ≡ lives_at moved k
lives-elsewhere moved m k out =
    let test = λ (x : Moved). same_place (Area k) x.entry.place in
    ap live_in (at-push moved m k ∙ ap (λ ms. at_place (Area k) moved ++ map bare ms) (filter-at test m [] false out) ∙ append-nil (at_place (Area k) moved))

-- a mapping lives
abbrev Lives : List Moved → Mapping → Type 0
Lives moved m = is_live m.run (lives_at moved m.run.area) ≡ true

abbrev Differ : Mapping → Mapping → Type 0
Differ a b = same_run a.run b.run ≡ false

-- mappings with their entries
record AreLive (moved : List Moved) (mappings : List Mapping) : Type 0 where
  live : All (Lives moved) mappings
  differ : AllPairs Differ mappings

live-of-seen : (c : Seen) → HasLive c → AreLive c.moved (own_now c).mappings
live-of-seen c h = record { live = h.live; differ = h.differ }

seen-live : (old new : Seen) (m : Moved) (mappings : List Mapping) → new.moved ≡ old.moved ++ m ∷ [] → (own_now new).mappings ≡ mappings → AreLive (old.moved ++ m ∷ []) mappings → HasLive new
seen-live old new m mappings moved is are =
    let a = subst (λ ms. AreLive ms mappings) (sym moved) are in
    let b = subst (λ xs. AreLive new.moved xs) (sym is) a in
    record { live = b.live; differ = b.differ }

-- an entry that leaves what lives everywhere
still-live : (moved : List Moved) (m : Moved) (mappings : List Mapping) → ((live : List SlotRun) → live_after live m.entry.event ≡ live) → AreLive moved mappings → AreLive (moved ++ m ∷ []) mappings
still-live moved m mappings still are = record {
  live = All-weaker (Lives moved) (Lives (moved ++ m ∷ [])) (λ x lives. ap (is_live x.run) (by_place x.run.area (cases_Bool (same_place (Area x.run.area) m.entry.place))) ∙ lives) mappings are.live;
  differ = are.differ;
}
  where
    by_place : (k : ℕ) → (same_place (Area k) m.entry.place ≡ true) ⊎ (same_place (Area k) m.entry.place ≡ false) → lives_at (moved ++ m ∷ []) k ≡ lives_at moved k
    by_place k (inl here) = lives-here moved m k here ∙ still (lives_at moved k)
    by_place k (inr out) = lives-elsewhere moved m k out

-- a mapping that began: its run was no live one
begun-live : (moved : List Moved) (m : Moved) (area : ℕ) (now : Mapping) (mappings : List Mapping) → m.entry.event ≡ event.Looked area (Some now.run) → same_place (Area now.run.area) m.entry.place ≡ true
    → (is_live now.run (lives_at moved now.run.area) ≡ true → ⊥) → AreLive moved mappings → AreLive (moved ++ m ∷ []) (now ∷ mappings)
begun-live moved m area now mappings is there new are = record {
  live = All-cons (Lives (moved ++ m ∷ [])) now mappings
      (ap (is_live now.run) (grown now.run.area there) ∙ live-first now.run (lives_at moved now.run.area))
      (All-weaker (Lives moved) (Lives (moved ++ m ∷ [])) (λ x lives. by_place x lives (cases_Bool (same_place (Area x.run.area) m.entry.place))) mappings are.live);
  differ = AllPairs-cons Differ now mappings
      (All-weaker (Lives moved) (Differ now) (λ x lives. false_from_ne_true (same_run now.run x.run) (λ same.
      let one : now.run ≡ x.run = same-run now.run x.run same in
      new (subst (λ (r : SlotRun). is_live r (lives_at moved r.area) ≡ true) (sym one) lives))) mappings are.live)
      are.differ;
}
  where
    grown : (k : ℕ) → same_place (Area k) m.entry.place ≡ true → lives_at (moved ++ m ∷ []) k ≡ now.run ∷ lives_at moved k
    grown k here = lives-here moved m k here ∙ ap (live_after (lives_at moved k)) is

    by_place : (x : Mapping) → Lives moved x → (same_place (Area x.run.area) m.entry.place ≡ true) ⊎ (same_place (Area x.run.area) m.entry.place ≡ false) → Lives (moved ++ m ∷ []) x
    by_place x lives (inl here) = ap (is_live x.run) (grown x.run.area here) ∙ live-more x.run now.run (lives_at moved x.run.area) lives
    by_place x lives (inr out) = ap (is_live x.run) (lives-elsewhere moved m x.run.area out) ∙ lives

differ-swap : (a b : SlotRun) → same_run a b ≡ false → same_run b a ≡ false
differ-swap a b differ =
    false_from_ne_true (same_run b a) (λ same. both_ways (same_run a b) differ (ap (λ r. same_run r b) (sym (same-run b a same)) ∙ same-run-refl b))

-- the mappings that are left without one name
abbrev left_without : List ℕ → List Mapping → List Mapping
left_without name mappings = filter (λ (m : Mapping). not (bytes_eq m.name name)) mappings

abbrev named_in : List ℕ → List Mapping → Option Mapping
named_in name mappings = find (λ (m : Mapping). bytes_eq m.name name) mappings

-- none of them is the one of the name
others-differ : (name : List ℕ) (mappings : List Mapping) (gone : Mapping) → AllPairs Differ mappings → named_in name mappings ≡ Some gone → All (λ (x : Mapping). Differ x gone) (left_without name mappings)
others-differ name [] gone differ is = cc
others-differ name (g ∷ mappings) gone differ is =
    let P : Mapping → Type 0 = λ x. Differ x gone in
    let front = pairs-head Differ g mappings differ in
    let rest = pairs-tail Differ g mappings differ in
    let named : Bool → Type 0 = λ b. cond b (Some g) (named_in name mappings) ≡ Some gone in
    elim (cases_Bool (bytes_eq g.name name)) [
      | inl t ↦
          (let here : Some g ≡ Some gone = subst named t is in
          let same : g ≡ gone = cc in
          rw t (All-filter (λ (x : Mapping). not (bytes_eq x.name name)) P mappings
          (All-weaker (Differ g) P (λ x apart. ap (λ (y : Mapping). same_run x.run y.run) (sym same) ∙ differ-swap g.run x.run apart) mappings front)))
      | inr f ↦
          (let there : named_in name mappings ≡ Some gone = subst named f is in
          rw f (All-cons P g (left_without name mappings) (all-found (Differ g) (λ (x : Mapping). bytes_eq x.name name) mappings gone front there) (others-differ name mappings gone rest there)))
    ]

-- a mapping that ended
ended-live : (moved : List Moved) (m : Moved) (name : List ℕ) (gone : Mapping) (copied : Bool) (mappings : List Mapping) → m.entry.event ≡ event.Released gone.run copied → named_in name mappings ≡ Some gone
    → AreLive moved mappings → AreLive (moved ++ m ∷ []) (left_without name mappings)
ended-live moved m name gone copied mappings is named are = record {
  live = both (left_without name mappings) (All-filter keeps (Lives moved) mappings are.live) (others-differ name mappings gone are.differ named);
  differ = AllPairs-filter Differ keeps mappings are.differ;
}
  where
    keeps : Mapping → Bool
    keeps x = not (bytes_eq x.name name)

    by_place : (x : Mapping) → Lives moved x → Differ x gone → (same_place (Area x.run.area) m.entry.place ≡ true) ⊎ (same_place (Area x.run.area) m.entry.place ≡ false) → Lives (moved ++ m ∷ []) x
    by_place x lives differ (inl here) =
        ap (is_live x.run) (lives-here moved m x.run.area here ∙ ap (live_after (lives_at moved x.run.area)) is) ∙ live-kept x.run gone.run (lives_at moved x.run.area) lives differ
    by_place x lives differ (inr out) = ap (is_live x.run) (lives-elsewhere moved m x.run.area out) ∙ lives

    both : (xs : List Mapping) → All (Lives moved) xs → All (λ x. Differ x gone) xs → All (Lives (moved ++ m ∷ [])) xs
    both [] live differ = All-nil (Lives (moved ++ m ∷ []))
    both (x ∷ xs) live differ =
        All-cons (Lives (moved ++ m ∷ [])) x xs
        (by_place x (All-head (Lives moved) x xs live) (All-head (λ y. Differ y gone) x xs differ) (cases_Bool (same_place (Area x.run.area) m.entry.place)))
        (both xs (All-tail (Lives moved) x xs live) (All-tail (λ y. Differ y gone) x xs differ))

-- ---- a step

-- what the processor has behind its entry
now-has : (old new : Seen) (there : List Moved) (m : Moved) (t : StepTaken old old.moved there m) → Makes old new there m → (own_now new).mappings ≡ (told (Some t.command) m (own_now old)).mappings
now-has old new there m t makes =
    ap (λ (o : Own). o.mappings) (ap (λ (s : List Command). own_of s new.moved) makes.same.script ∙ ap (own_of old.script) makes.moved ∙ own-behind old old.moved there m t)
    ∙ ended-mappings m.entry.reply (told (Some t.command) m (own_now old))

quiet-live : (old new : Seen) (there : List Moved) (m : Moved) (t : StepTaken old old.moved there m) → Makes old new there m → ConvertsNothing t.command → NoLook m.entry.event → NoRelease m.entry.event → HasLive old → HasLive new
quiet-live old new there m t makes converts plain still h =
    seen-live old new m (own_now old).mappings makes.moved (now-has old new there m t makes ∙ told-mappings t.command m (own_now old) converts plain still)
    (still-live old.moved m (own_now old).mappings (λ live. live-still m.entry.event live plain still) (live-of-seen old h))

-- by an entry of the memory or of the processor itself
pub elsewhere-live : (old new : Seen) (there : List Moved) (m : Moved) → All ConvertsNothing old.script → Makes old new there m → (m.entry.place ≡ Memory) ⊎ (m.entry.place ≡ OwnPlace) → HasLive old → HasLive new
elsewhere-live old new there m unconverting makes at h = by_quiet quiet where
  t : StepTaken old old.moved there m
  t = step-taken old old.moved there m makes.next.mine makes.next.follows

  quiet : NoLook m.entry.event × NoRelease m.entry.event
  quiet = elim at [
    | inl memory ↦ quiet-memory old.boot m.entry.event (sym t.place ∙ memory)
    | inr own ↦ quiet-own old.boot m.entry.event (sym t.place ∙ own)
  ]

  by_quiet : NoLook m.entry.event × NoRelease m.entry.event → HasLive new
  by_quiet q = quiet-live old new there m t makes (all-got ConvertsNothing old.script (replied old.moved) t.command unconverting t.its) q.0 q.1 h

-- a run that a look found is no live one of the processor's
found-fresh : (boot : Boot) (number slots cpu area : ℕ) (moved : List Moved) (request : Request) (run : SlotRun) → MappingsStand number slots moved → 0 < request.need → run_found boot (entries_of moved) area request ≡ Some run
    → is_live run (live_of cpu moved) ≡ true → ⊥
found-fresh boot number slots cpu area moved request run stands some is lives =
    let its = found-free boot (entries_of moved) area request run is in
    let count = its.count in
    let here = in_range-intro run.first run.count run.first (omega arith) (omega (arith, count, some)) in
    both_ways (is_used (live_in moved) run.first) (its.fits.free run.first here) (used-some (live_in moved) run run.first (stands.among cpu run lives) here)

-- by an entry of an area whose mappings stand
pub area-live : (old new : Seen) (base : Ground) (before after : AreaValue) → Stands old base → HasArea base before → MappingsStand before.number before.slots before.moved → need_of old ≡ need.Area before.number
    → MakesInArea old new before after → HasLive new
area-live old new base before after s has stand needs m = by_kind (area-kind old before.moved m.m before.number needs t) where
  own : Own
  own = own_now old

  e : Event
  e = m.m.entry.event

  t : StepTaken old old.moved before.moved m.m
  t = step-taken old old.moved before.moved m.m m.makes.next.mine m.makes.next.follows

  converts : ConvertsNothing t.command
  converts = all-got ConvertsNothing old.script (replied old.moved) t.command s.unconverting t.its

  now : (own_now new).mappings ≡ (told (Some t.command) m.m own).mappings
  now = now-has old new before.moved m.m t m.makes

  was : AreLive old.moved own.mappings
  was = live-of-seen old s.mapped

  release : Releases own t.command e → HasLive new
  release r =
      let unmapped : (own_now new).mappings ≡ left_without r.mapping own.mappings =
      now ∙ ap (λ x. (told (Some x) m.m own).mappings) r.is ∙ ap (λ x. (after_unmap r.mapping m.m.bytes x own).mappings) r.event ∙ either r.copied
      in
      seen-live old new m.m (left_without r.mapping own.mappings) m.makes.moved unmapped (ended-live old.moved m.m r.mapping r.m r.copied own.mappings r.event r.named was)
    where
      either : (copied : Bool) → (after_unmap r.mapping m.m.bytes (event.Released r.m.run copied) own).mappings ≡ left_without r.mapping own.mappings
      either true = ap (left_without r.mapping) (out-mappings r.mapping 0 m.m.bytes own)
      either false = refl

  look : IsLook old.boot old.number own before.moved t.command (step_told m.m.entry) → HasLive new
  look l = by_found (run_found old.boot (entries_of before.moved) area request) refl
    where
      request : Request
      request = request_of (PAGE_BYTES * l.holding.block.first + l.off) l.len l.mask

      area : ℕ
      area = area_looked_in old.boot old.number own.looks

      looked : (found : Option SlotRun) → run_found old.boot (entries_of before.moved) area request ≡ found → e ≡ event.Looked area found
      looked found is = sym (ap (λ (x : Step). x.event) (some-same _ (step_told m.m.entry) l.step)) ∙ ap (event.Looked area) is

      mapped : (found : Option SlotRun) → e ≡ event.Looked area found → (own_now new).mappings ≡ (after_map l.mapping l.name l.off l.direction (event.Looked area found) own).mappings
      mapped found is = now ∙ ap (λ x. (told (Some x) m.m own).mappings) l.is ∙ ap (λ x. (after_map l.mapping l.name l.off l.direction x own).mappings) is

      by_found : (found : Option SlotRun) → run_found old.boot (entries_of before.moved) area request ≡ found → HasLive new
      by_found None is =
          seen-live old new m.m own.mappings m.makes.moved (mapped None (looked None is)) (still-live old.moved m.m own.mappings (λ live. ap (live_after live) (looked None is)) was)
      by_found (Some run) is =
          let its = found-free old.boot (entries_of before.moved) area request run is in
          let at : m.m.entry.place ≡ Area area = t.place ∙ ap (place_of old.boot) (looked (Some run) is) in
          let number : area ≡ before.number = (let both : Area area ≡ Area before.number = sym at ∙ m.place in cc) in
          let it : Mapping = record { name = l.mapping; run = run; block = l.holding.block; off = l.off; direction = l.direction } in
          let begun : (own_now new).mappings ≡ it ∷ own.mappings =
          mapped (Some run) (looked (Some run) is)
          ∙ ap (λ (o : Option Holding). (option_map_or (λ (h : Holding). record own { mappings = record { name = l.mapping; run = run; block = h.block; off = l.off; direction = l.direction } ∷ own.mappings }) o own).mappings) l.named
          in
          let there : same_place (Area run.area) m.m.entry.place ≡ true = ap (same_place (Area run.area)) at ∙ eq-eqb run.area area its.area in
          let mine : lives_at old.moved run.area ≡ live_of old.number before.moved =
          ap live_in (sym (s.mine (Area run.area)))
          ∙ ap (λ k. live_of old.number (there_in base (Area k))) (its.area ∙ number)
          ∙ ap (λ (o : Option AreaValue). live_of old.number (option_map_or (λ (a : AreaValue). a.moved) o [])) has
          in
          let fresh : is_live run (lives_at old.moved run.area) ≡ true → ⊥ =
          λ lives.
          found-fresh old.boot before.number before.slots old.number area before.moved request run stand
          (need-some (PAGE_BYTES * l.holding.block.first + l.off) l.len l.mask l.some) is (sym (ap (is_live run) mine) ∙ lives)
          in
          seen-live old new m.m (it ∷ own.mappings) m.makes.moved begun (begun-live old.moved m.m area it own.mappings (looked (Some run) is) there fresh was)

  by_kind : AreaKind own t.command (step_told m.m.entry) → HasLive new
  by_kind (inl looks) =
      elim (step-known old.boot old.number own before.moved t.command (calls_in e) (step_told m.m.entry) t.step) [
        | inl plain ↦ absurd (looks plain.event)
        | inr l ↦ look l
      ]
  by_kind (inr (plain, ends, inl still)) = quiet-live old new before.moved m.m t m.makes converts plain still s.mapped
  by_kind (inr (plain, ends, inr r)) = release r

-- ---- the area that is needed

blank : AreaValue
blank = record { number = 0; slots = 0; moved = []; room = 0 }

-- an area of a boot
pub record IsThere (base : Ground) (n : ℕ) : Type 0 where
  pub area : AreaValue
  pub number : area.number ≡ n
  pub has : HasArea base area

there-below : (boot : Boot) (base : Ground) (n : ℕ) → IsGroundOf boot base → n < length base.areas → IsThere base n
there-below boot base n g within =
    let area = get_or base.areas n blank in
    let got = slice_get-get_or base.areas n blank within in
    let number = (g.each n area got).0 in
    record { area = area; number = number; has = ap (slice_get base.areas) number ∙ got }

pool-areas : (boot : Boot) → (boot.pool ≡ None → ⊥) → area_count boot ≡ boot.areas
pool-areas boot some = by_pool boot.pool some where
  by_pool : (pool : Option Pages) → (pool ≡ None → ⊥) → option_map_or (λ (p : Pages). boot.areas) pool 0 ≡ boot.areas
  by_pool None some = absurd (some refl)
  by_pool (Some p) some = refl

there-in-pool : (boot : Boot) (base : Ground) (n : ℕ) → IsGroundOf boot base → (boot.pool ≡ None → ⊥) → n < boot.areas → IsThere base n
there-in-pool boot base n g some low = there-below boot base n g (let same = g.count ∙ pool-areas boot some in omega (arith, same, low))

none-lives : (run : SlotRun) → is_live run (live_in []) ≡ false
unfolding live_runs
none-lives run = refl

-- a live mapping's area is there
there-mapped : (c : Seen) (base : Ground) (m : Mapping) → Stands c base → is_live m.run (live_in (at_place (Area m.run.area) c.moved)) ≡ true → IsThere base m.run.area
there-mapped c base m s lives = by_area (slice_get base.areas m.run.area) refl where
  nowhere : slice_get base.areas m.run.area ≡ None → at_place (Area m.run.area) c.moved ≡ []
  nowhere at = sym (s.mine (Area m.run.area)) ∙ ap (made_by c.number) (there-none base m.run.area at)

  by_area : (found : Option AreaValue) → slice_get base.areas m.run.area ≡ found → IsThere base m.run.area
  by_area None at = absurd (both_ways (is_live m.run (live_in [])) (none-lives m.run) (sym (ap (λ ms. is_live m.run (live_in ms)) (nowhere at)) ∙ lives))
  by_area (Some area) at =
      let number = (s.same.each m.run.area area at).0 in
      record { area = area; number = number; has = ap (slice_get base.areas) number ∙ at }

-- a look's area, and the area of a byte of the pool
looked-below : (areas cpu looks : ℕ) → 0 < areas → (cpu % areas + looks) % areas < areas
looked-below areas cpu looks some = mod_below (cpu % areas + looks) areas some

offset-below : (boot : Boot) (off len : ℕ) → boot.areas * area_slots boot ≡ boot.slots → 0 < len → off + len ≤ SLOT_BYTES * boot.slots → area_of_offset boot off < boot.areas
offset-below boot off len whole some inside =
    let slots : SLOT_BYTES * boot.slots ≡ boot.areas * (SLOT_BYTES * area_slots boot) = ap (λ n. SLOT_BYTES * n) (sym whole) ∙ turned boot.areas (area_slots boot) in
    let low : off < boot.areas * (SLOT_BYTES * area_slots boot) = omega (arith, slots, some, inside) in
    div_below off (SLOT_BYTES * area_slots boot) boot.areas (some-slots boot.areas (area_slots boot) low) low
  where
    turned : (a s : ℕ) → SLOT_BYTES * (a * s) ≡ a * (SLOT_BYTES * s)
    turned a s = omega arith

    some-slots : (a s : ℕ) → off < a * (SLOT_BYTES * s) → 0 < SLOT_BYTES * s
    some-slots a zero low = absurd (let none : a * (SLOT_BYTES * 0) ≡ 0 = omega arith in omega (arith, low, none))
    some-slots a (suc s) low = omega arith

-- a host's access that isn't refused lies in the pool
host-inside : (boot : Boot) (off len : ℕ) → pool_refusal boot off len ≡ None → off + len ≤ SLOT_BYTES * boot.slots
host-inside boot off len fine =
    let out = (refuse-none reply.Range (nat_lt (SLOT_BYTES * boot.slots) (off + len)) _ fine).0 in
    grind (arith, nat_tests, out)

nonzero : (n : ℕ) → (n == 0) ≡ false → 0 < n
nonzero zero is = cc
nonzero (suc n) is = omega arith

copy-there : (c : Seen) (base : Ground) (n : ℕ) (mapping : List ℕ) (asks : Mapping → Bool) (held : Option Mapping) → Stands c base → mapping_named (own_now c) mapping ≡ held → need_of_copy held asks ≡ need.Area n → IsThere base n
copy-there c base n mapping asks None s named is = absurd (let no : need.Memory ≡ need.Area n = is in cc)
copy-there c base n mapping asks (Some m) s named is = by_asked (asks m) is where
  by_asked : (asked : Bool) → cond asked (need.Area m.run.area) need.Own ≡ need.Area n → IsThere base n
  by_asked true is =
      let same : m.run.area ≡ n = cc in
      subst (IsThere base) same (there-mapped c base m s (all-found (Lives c.moved) (λ (x : Mapping). bytes_eq x.name mapping) (own_now c).mappings m s.mapped.live named))
  by_asked false is = absurd (let no : need.Own ≡ need.Area n = is in cc)

mapping-there : (c : Seen) (base : Ground) (n : ℕ) (mapping : List ℕ) (held : Option Mapping) → Stands c base → mapping_named (own_now c) mapping ≡ held → need_of_mapping held ≡ need.Area n → IsThere base n
mapping-there c base n mapping None s named is = absurd (let no : need.Memory ≡ need.Area n = is in cc)
mapping-there c base n mapping (Some m) s named is =
    let same : m.run.area ≡ n = cc in
    subst (IsThere base) same (there-mapped c base m s (all-found (Lives c.moved) (λ (x : Mapping). bytes_eq x.name mapping) (own_now c).mappings m s.mapped.live named))

command-there : (c : Seen) (base : Ground) (n : ℕ) (x : Command) → Stands c base → IsReadable x → refusal_of c.boot (own_now c) x ≡ None → need_unrefused c.boot c.number (own_now c) x ≡ need.Area n → IsThere base n
command-there c base n (command.Read name off len) s readable fine is = absurd (let no : need.Own ≡ need.Area n = is in cc)
command-there c base n (command.Write name off hex) s readable fine is = absurd (let no : need.Own ≡ need.Area n = is in cc)
command-there c base n (command.Fill name off len byte) s readable fine is = absurd (let no : need.Own ≡ need.Area n = is in cc)
command-there c base n (command.Load name off) s readable fine is = absurd (load-area n (block_named (own_now c) name) off is)
command-there c base n (command.Map mapping name off len direction mask) s readable fine is =
    let pool = (map-fine c.boot (own_now c) mapping name off len direction mask fine).pool in
    let same : area_looked_in c.boot c.number (own_now c).looks ≡ n = cc in
    subst (IsThere base) same (there-in-pool c.boot base (area_looked_in c.boot c.number (own_now c).looks) s.same pool (looked-below c.boot.areas c.number (own_now c).looks (s.same.shares.some pool)))
command-there c base n (command.SyncDev mapping off len) s readable fine is = copy-there c base n mapping (λ m. asks_in m.direction) (mapping_named (own_now c) mapping) s refl is
command-there c base n (command.SyncCpu mapping off len) s readable fine is = copy-there c base n mapping (λ m. asks_out m.direction) (mapping_named (own_now c) mapping) s refl is
command-there c base n (command.Unmap mapping skip) s readable fine is = mapping-there c base n mapping (mapping_named (own_now c) mapping) s refl is
command-there c base n (command.DRead mapping off len) s readable fine is = mapping-there c base n mapping (mapping_named (own_now c) mapping) s refl is
command-there c base n (command.DWrite mapping off hex) s readable fine is = mapping-there c base n mapping (mapping_named (own_now c) mapping) s refl is
command-there c base n (command.HostRead off len) s readable fine is =
    let same : area_of_offset c.boot off ≡ n = cc in
    let pool = refuse-none reply.NoPool _ _ fine in
    let zero_len = refuse-none reply.Zero _ _ pool.1 in
    subst (IsThere base) same
    (there-in-pool c.boot base (area_of_offset c.boot off) s.same (some-pool c.boot.pool pool.0)
    (offset-below c.boot off len s.same.shares.whole (nonzero len zero_len.0) (host-inside c.boot off len zero_len.1)))
command-there c base n (command.HostWrite off hex) s readable fine is =
    let same : area_of_offset c.boot off ≡ n = cc in
    let pool = refuse-none reply.NoPool _ _ fine in
    let some = readable.1.some in
    subst (IsThere base) same
    (there-in-pool c.boot base (area_of_offset c.boot off) s.same (some-pool c.boot.pool pool.0)
    (offset-below c.boot off (length hex) s.same.shares.whole (omega (arith, some)) (host-inside c.boot off (length hex) pool.1)))
command-there c base n _ s readable fine is = absurd (let no : need.Memory ≡ need.Area n = is in cc)

pub needed-there : (c : Seen) (base : Ground) (n : ℕ) → Stands c base → need_of c ≡ need.Area n → IsThere base n
needed-there c base n s is =
    let at = needs-area c n is in
    command-there c base n at.command s (all-got IsReadable c.script (replied c.moved) at.command s.readable.each at.present) at.fine at.needs

-- ---- the blocks of mappings

no-mapped : (script : List Command) → MappingsNamed (own_of script [])
unfolding own_of
no-mapped script = tt

named-all : (c : Seen) (base : Ground) → Stands c base → MappingsNamed (own_now c)
named-all c base s =
    each-prefix c (there_in base) (λ own. MappingsNamed (own_of c.script own)) s.follows s.named (no-mapped c.script)
    (λ own there m t named.
    subst MappingsNamed (sym (own-behind c own there m t)) (step-named c.boot c.number (own_of c.script own) there t.command (calls_in m.entry.event) m t.step named))

-- the block of each of its mappings is one that it has, and the mapping's bytes lie in it
pub mapped-held : (c : Seen) (base : Ground) → Stands c base → MappedAreHeld (own_now c)
mapped-held c base s = all-map (IsNamed (own_now c).blocks) (IsOfHeldBlock (own_now c)) (named-held (own_now c)) (own_now c).mappings (named-all c base s)
