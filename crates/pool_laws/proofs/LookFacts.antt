-- A command looks once in each area before it is refused as full.
use Rattle.std.proofs.Common.{◌≡◌, ◌≢◌, ◌⊎◌, ℕ, zero, suc, ◌+◌, ◌*◌, ◌-◌, ◌%◌, ◌<◌, ◌≤◌, Bool, true, false, ◌&&◌, Option, None, Some, List, [], ◌∷◌, ◌++◌, cond, refl, sym, ◌∙◌, ap, subst, inl, inr, arith}
use Rattle.std.specs.Prelude.{◌==◌, count_by, fold, is_some, slice_get}
use Rattle.std.specs.List.{AllByRecursion, repeat}
use Rattle.std.specs.Option.{option_map_or}
use Rattle.std.proofs.lemmas.Bool.{cases_Bool, cases_lt, cases_eq, and_right, eqb-true, eq-eqb, ne_eqb}
use Rattle.std.proofs.Math.Nat.{add-mod_left, mod-eq_of_lt}
use Rattle.std.proofs.lemmas.Nat.{mod_below}
use Rattle.std.proofs.lemmas.List.Sums.{fold-append}
use Rattle.guest_base.specs.declared.limits.TheConstants.{PAGE_BYTES}
use Rattle.guest_base.specs.declared.transfer.Direction.{Direction}
use Rattle.guest_base.specs.declared.transfer.Request.{Request}
use Rattle.guest_base.specs.declared.transfer.SlotRun.{SlotRun}
use Rattle.guest_base.specs.Requests.{request_of}
use Rattle.event_core.specs.declared.boot.Boot.{Boot}
use Rattle.event_core.specs.declared.command.Command.{Command}
use Rattle.event_core.specs.declared.command.Command.TheVariants as command
use Rattle.event_core.specs.declared.entry.Entry.{Entry}
use Rattle.event_core.specs.declared.event.ConvertEnd.TheVariants as end
use Rattle.event_core.specs.declared.event.Event.{Event}
use Rattle.event_core.specs.declared.event.Event.TheVariants as event
use Rattle.event_core.specs.declared.reply.Reply.{Reply}
use Rattle.event_core.specs.declared.reply.Reply.TheVariants as reply
use Rattle.event_core.specs.AreaRows.{area_looked_in, look_reply}
use Rattle.event_core.specs.Before.{own_before, place_before}
use Rattle.event_core.specs.FullOnlyWhereFull.{FullOnlyWhereFull, LookedEverywhere, NothingFits, found_none, is_empty_look}
use Rattle.event_core.specs.Holdings.{Holding, Mapping, Own, block_named, mapping_named}
use Rattle.event_core.specs.Legal.{Follows, Legal, LegalAfter, at_place, moved_after, with_bytes, with_moved}
use Rattle.event_core.specs.Moved.{Moved, entries_of, made_by}
use Rattle.event_core.specs.Next.{Step}
use Rattle.event_core.specs.Own.{after_alloc, after_free, after_giveback, after_map, after_private, after_share, after_sync, after_unmap, after_write, copied_out, ended, nothing, own_of, own_step, replied, script_of, told, with_bytes_at}
use Rattle.event_core.specs.Pool.{run_found}
use Rattle.event_core.proofs.LocalLemmas.{moved-entries}
use Rattle.event_core.proofs.SoundLemmas.{legal-front}
use Rattle.pool_laws.proofs.LiveLemmas.{made-by-other, made-by-push, nothing-fits}
use Rattle.event_core.proofs.CommandLemmas.{command-of, follows-at, some-same, step_told}
use Rattle.pool_laws.proofs.StepFacts.{IsKnown, IsLook, NoLook, NotFull, known-of, need-some}

-- ---- the areas that are looked in

-- The area of a look: the start and the looks before it, once round. How many of so many looks are in an area.
abbrev pub place_at : ℕ → ℕ → ℕ → ℕ
place_at areas start looks = (start + looks) % areas

abbrev pub visits : ℕ → ℕ → ℕ → ℕ → ℕ
visits areas start area zero = 0
visits areas start area (suc looks) = visits areas start area looks + cond (place_at areas start looks == area) 1 0

small-mod : (a n : ℕ) → a < n → a % n ≡ a
small-mod a n low = mod-eq_of_lt low

round-past : (start looks areas : ℕ) → start < areas → looks < areas → areas ≤ start + looks → (start + looks) % areas ≡ start + looks - areas
round-past start looks areas low within past =
    let e : start + looks ≡ areas + (start + looks - areas) = omega arith in
    ap (λ n. n % areas) e ∙ add-mod_left areas (start + looks - areas) ∙ small-mod (start + looks - areas) areas (omega arith)

-- a look before the end of the areas, or behind it
round-is : (start looks areas area : ℕ) → start < areas → looks < areas → place_at areas start looks ≡ area → (start + looks ≡ area) ⊎ (start + looks ≡ area + areas)
round-is start looks areas area low within is =
    elim (cases_lt (start + looks) areas) [
      | inl before ↦ inl (sym (small-mod (start + looks) areas before) ∙ is)
      | inr past ↦ (let same : start + looks - areas ≡ area = sym (round-past start looks areas low within past) ∙ is in inr (omega (arith, same)))
    ]

round-of : (start looks areas area : ℕ) → start < areas → looks < areas → area < areas → (start + looks ≡ area) ⊎ (start + looks ≡ area + areas) → place_at areas start looks ≡ area
round-of start looks areas area low within inside either =
    elim either [
      | inl before ↦ small-mod (start + looks) areas (omega (arith, before)) ∙ before
      | inr past ↦ (let same : start + looks - areas ≡ area = omega (arith, past) in round-past start looks areas low within (omega (arith, past)) ∙ same)
    ]

-- two looks of one command are in two areas
round-once : (start one other areas area : ℕ) → start < areas → one < areas → other < areas → place_at areas start one ≡ area → place_at areas start other ≡ area → one ≡ other
round-once start one other areas area low within also here there =
    elim (round-is start one areas area low within here) [
      | inl a ↦
          elim (round-is start other areas area low also there) [
            | inl b ↦ omega (arith, a, b)
            | inr b ↦ omega (arith, a, b)
          ]
      | inr a ↦
          elim (round-is start other areas area low also there) [
            | inl b ↦ omega (arith, a, b)
            | inr b ↦ omega (arith, a, b)
          ]
    ]

other-area : (start one other areas area : ℕ) → start < areas → one < areas → other < areas → place_at areas start other ≡ area → one ≢ other → (place_at areas start one == area) ≡ false
other-area start one other areas area low within also there differ = ne_eqb (place_at areas start one) area (λ here. differ (round-once start one other areas area low within also here there))

-- an area isn't looked in before its look, and once from it on
visits-low : (start areas area at looks : ℕ) → start < areas → at < areas → place_at areas start at ≡ area → looks ≤ at → visits areas start area looks ≡ 0
visits-low start areas area at zero low within is before = refl
visits-low start areas area at (suc looks) low within is before =
    let out = other-area start looks at areas area low (omega arith) within is (omega arith) in
    rw out (omega (arith, visits-low start areas area at looks low within is (omega arith)))

visits-high : (start areas area at looks : ℕ) → start < areas → at < areas → place_at areas start at ≡ area → at < looks → looks ≤ areas → visits areas start area looks ≡ 1
visits-high start areas area at zero low within is past most = absurd (omega arith)
visits-high start areas area at (suc looks) low within is past most =
    elim (cases_eq at looks) [
      | inl same ↦
          (let here : (place_at areas start looks == area) ≡ true = eq-eqb (place_at areas start looks) area (ap (place_at areas start) (sym same) ∙ is) in
          rw here (omega (arith, visits-low start areas area at looks low within is (omega arith))))
      | inr differ ↦
          (let less : at < looks = omega (arith, differ) in
          let out = other-area start looks at areas area low (omega arith) within is (omega arith) in
          rw out (omega (arith, visits-high start areas area at looks low within is less (omega arith))))
    ]

-- once round, each area is looked in once
visits-round : (start areas area : ℕ) → start < areas → area < areas → visits areas start area areas ≡ 1
visits-round start areas area low inside =
    elim (cases_lt area start) [
      | inl below ↦ visits-high start areas area (area + areas - start) areas low (omega arith) (round-of start (area + areas - start) areas area low (omega arith) inside (inr (omega arith))) (omega arith) (omega arith)
      | inr from ↦ visits-high start areas area (area - start) areas low (omega arith) (round-of start (area - start) areas area low (omega arith) inside (inl (omega arith))) (omega arith) (omega arith)
    ]

-- ---- the looks of a processor's present command

abbrev pub is_own_look : ℕ → ℕ → Moved → Bool
is_own_look cmd area m = (m.entry.cmd == cmd) && found_none area m.entry.event

-- The looks of a processor are those of its present command, each in its area.
pub record LooksStand (areas start cmd looks : ℕ) (own : List Moved) : Type 0 where
  pub low : AllByRecursion (λ (m : Moved). m.entry.cmd ≤ cmd) own
  pub few : looks < areas
  pub each : (area : ℕ) → count_by (is_own_look cmd area) own ≡ visits areas start area looks

count-push : {A : Type 0} (test : A → Bool) (xs : List A) (x : A) → count_by test (xs ++ x ∷ []) ≡ count_by test xs + cond (test x) 1 0
count-push test xs x = fold-append (λ n y. n + cond (test y) 1 0) 0 xs (x ∷ [])

low-push : (cmd : ℕ) (own : List Moved) (m : Moved) (more : ℕ) → AllByRecursion (λ (n : Moved). n.entry.cmd ≤ cmd) own → m.entry.cmd ≡ cmd → cmd ≤ more → AllByRecursion (λ (n : Moved). n.entry.cmd ≤ more) (own ++ m ∷ [])
low-push cmd [] m more low is le = (omega (arith, is), tt)
low-push cmd (n ∷ own) m more low is le = (omega (arith, low.0), low-push cmd own m more low.1 is le)

none-later : (cmd area : ℕ) (own : List Moved) → AllByRecursion (λ (m : Moved). m.entry.cmd ≤ cmd) own → count_by (is_own_look (cmd + 1) area) own ≡ 0
none-later cmd area [] low = refl
none-later cmd area (m ∷ own) low =
    let out : (m.entry.cmd == (cmd + 1)) ≡ false = ne_eqb m.entry.cmd (cmd + 1) (λ same. absurd (omega (arith, low.0, same))) in
    rw out (omega (arith, none-later cmd area own low.1))

-- a reply ends the command
looks-reply : (areas start cmd looks : ℕ) (own : List Moved) (m : Moved) → LooksStand areas start cmd looks own → m.entry.cmd ≡ cmd → LooksStand areas start (cmd + 1) 0 (own ++ m ∷ [])
looks-reply areas start cmd looks own m stands is =
    let low = low-push cmd own m cmd stands.low is (omega arith) in
    record {
      low = low-push cmd own m (cmd + 1) stands.low is (omega arith);
      few = omega (arith, stands.few);
      each = λ area. none-later cmd area (own ++ m ∷ []) low;
    }

-- an event that is no look counts for none
looks-still : (areas start cmd looks : ℕ) (own : List Moved) (m : Moved) → LooksStand areas start cmd looks own → m.entry.cmd ≡ cmd → ((area : ℕ) → found_none area m.entry.event ≡ false) → LooksStand areas start cmd looks (own ++ m ∷ [])
looks-still areas start cmd looks own m stands is none = record {
  low = low-push cmd own m cmd stands.low is (omega arith);
  few = stands.few;
  each =
      λ area.
      let out : is_own_look cmd area m ≡ false = and_right (m.entry.cmd == cmd) (found_none area m.entry.event) (none area) in
      let pushed = count-push (is_own_look cmd area) own m in
      let one : ◌≡◌ {A = ℕ} (cond (is_own_look cmd area m) 1 0) 0 = ap (λ (b : Bool). cond b 1 0) out in
      omega (arith, pushed, one, stands.each area);
}

own-look : (cmd area looked : ℕ) (m : Moved) → m.entry.cmd ≡ cmd → m.entry.event ≡ event.Looked looked None → is_own_look cmd area m ≡ (looked == area)
own-look cmd area looked m is looks =
    let here : (m.entry.cmd == cmd) ≡ true = eq-eqb m.entry.cmd cmd is in
    rw here (ap (found_none area) looks)

-- a look that found none is one more
looks-look : (areas start cmd looks : ℕ) (own : List Moved) (m : Moved) → LooksStand areas start cmd looks own → m.entry.cmd ≡ cmd → m.entry.event ≡ event.Looked (place_at areas start looks) None → looks + 1 < areas → LooksStand areas start cmd (looks + 1) (own ++ m ∷ [])
looks-look areas start cmd looks own m stands is looking few = record {
  low = low-push cmd own m cmd stands.low is (omega arith);
  few = few;
  each =
      λ area.
      let next : looks + 1 ≡ suc looks = omega arith in
      let pushed = count-push (is_own_look cmd area) own m in
      let one : cond (is_own_look cmd area m) 1 0 ≡ cond (place_at areas start looks == area) 1 0 = ap (λ (b : Bool). cond b 1 0) (own-look cmd area (place_at areas start looks) m is looking) in
      pushed ∙ ap (λ n. n + cond (is_own_look cmd area m) 1 0) (stands.each area) ∙ ap (λ n. visits areas start area looks + n) one ∙ sym (ap (visits areas start area) next);
}

looks-as : (areas start cmd cmd' looks looks' : ℕ) (own : List Moved) → cmd' ≡ cmd → looks' ≡ looks → LooksStand areas start cmd looks own → LooksStand areas start cmd' looks' own
looks-as areas start cmd cmd' looks looks' own c l stands = subst (λ n. LooksStand areas start n looks' own) (sym c) (subst (λ n. LooksStand areas start cmd n own) (sym l) stands)

-- ---- what an entry tells of the looks

held-looks : {A : Type 0} (f : A → Own) (held : Option A) (own : Own) → ((a : A) → (f a).looks ≡ own.looks) → (option_map_or f held own).looks ≡ own.looks
held-looks f None own each = refl
held-looks f (Some a) own each = each a

alloc-looks : (name : List ℕ) (e : Event) (own : Own) → (after_alloc name e own).looks ≡ own.looks
alloc-looks name (event.Got block) own = refl
alloc-looks name e own = refl

free-looks : (name : List ℕ) (e : Event) (own : Own) → (after_free name e own).looks ≡ own.looks
free-looks name (event.Freed block) own = refl
free-looks name e own = refl

write-looks : (name : List ℕ) (off : ℕ) (more : List ℕ) (r : Option Reply) (own : Own) → (after_write name off more r own).looks ≡ own.looks
write-looks name off more (Some reply.Done) own = held-looks (λ (h : Holding). with_bytes_at h.block off more own) (block_named own name) own (λ h. refl)
write-looks name off more r own = refl

share-looks : (e : Event) (own : Own) → (after_share e own).looks ≡ own.looks
share-looks (event.ConvertEnd block calls end.Converted) own = refl
share-looks (event.ConvertEnd block calls end.Refused) own = refl
share-looks (event.ConvertEnd block calls (end.Half page)) own = refl
share-looks e own = refl

private-looks : (e : Event) (own : Own) → (after_private e own).looks ≡ own.looks
private-looks (event.ConvertEnd block calls end.Converted) own = refl
private-looks (event.ConvertEnd block calls end.Refused) own = refl
private-looks (event.ConvertEnd block calls (end.Half page)) own = refl
private-looks e own = refl

giveback-looks : (name : List ℕ) (e : Event) (own : Own) → (after_giveback name e own).looks ≡ own.looks
giveback-looks name (event.ConvertEnd block calls end.Converted) own = refl
giveback-looks name (event.ConvertEnd block calls end.Refused) own = refl
giveback-looks name (event.ConvertEnd block calls (end.Half page)) own = refl
giveback-looks name e own = refl

out-looks : (mapping : List ℕ) (off : ℕ) (more : List ℕ) (own : Own) → (copied_out mapping off more own).looks ≡ own.looks
out-looks mapping off more own = held-looks (λ (m : Mapping). with_bytes_at m.block (m.off + off) more own) (mapping_named own mapping) own (λ m. refl)

sync-looks : (mapping : List ℕ) (more : List ℕ) (e : Event) (own : Own) → (after_sync mapping more e own).looks ≡ own.looks
sync-looks mapping more (event.CopiedOut run off len) own = out-looks mapping off more own
sync-looks mapping more e own = refl

unmap-looks : (mapping more : List ℕ) (e : Event) (own : Own) → (after_unmap mapping more e own).looks ≡ own.looks
unmap-looks mapping more (event.Released run true) own = out-looks mapping 0 more own
unmap-looks mapping more (event.Released run false) own = refl
unmap-looks mapping more e own = refl

map-looks : (mapping name : List ℕ) (off : ℕ) (direction : Direction) (e : Event) (own : Own) → NoLook e → (after_map mapping name off direction e own).looks ≡ own.looks
map-looks mapping name off direction (event.Looked area run) own plain = absurd plain
map-looks mapping name off direction e own plain = refl

pub told-looks : (c : Option Command) (m : Moved) (own : Own) → NoLook m.entry.event → (told c m own).looks ≡ own.looks
told-looks (Some (command.Alloc name order)) m own plain = alloc-looks name m.entry.event own
told-looks (Some (command.Free name)) m own plain = free-looks name m.entry.event own
told-looks (Some (command.Write name off hex)) m own plain = write-looks name off hex m.entry.reply own
told-looks (Some (command.Fill name off len byte)) m own plain = write-looks name off (repeat len (byte ∷ [])) m.entry.reply own
told-looks (Some (command.Share name)) m own plain = share-looks m.entry.event own
told-looks (Some (command.Private name)) m own plain = private-looks m.entry.event own
told-looks (Some (command.Giveback name)) m own plain = giveback-looks name m.entry.event own
told-looks (Some (command.Map mapping name off len direction mask)) m own plain = map-looks mapping name off direction m.entry.event own plain
told-looks (Some (command.SyncCpu mapping off len)) m own plain = sync-looks mapping m.bytes m.entry.event own
told-looks (Some (command.Unmap mapping skip)) m own plain = unmap-looks mapping m.bytes m.entry.event own
told-looks c m own plain = refl

found-plain : (e : Event) (area : ℕ) → NoLook e → found_none area e ≡ false
found-plain (event.Looked looked run) area plain = absurd plain
found-plain e area plain = refl

pub own-push : (script : List Command) (own : List Moved) (m : Moved) → own_of script (own ++ m ∷ []) ≡ own_step script (own_of script own) m
unfolding own_of
own-push script own m = fold-append (own_step script) nothing own (m ∷ [])

-- ---- a look and its reply

-- a look that doesn't end its command found none, and isn't the last
pub look-goes-on : (boot : Boot) (looks : ℕ) (found : Option SlotRun) → look_reply boot looks found ≡ None → (found ≡ None) × (looks + 1 ≡ boot.areas → ⊥)
look-goes-on boot looks (Some run) is = cc
look-goes-on boot looks None is = (
  refl,
  λ last.
      let here : (looks + 1 == boot.areas) ≡ true = eq-eqb (looks + 1) boot.areas last in
      let no : Some reply.Full ≡ None = sym (ap (λ (b : Bool). cond b (Some reply.Full) None) here) ∙ is in
      cc,
)

-- one that is refused as full found none, and is the last
look-full : (boot : Boot) (looks : ℕ) (found : Option SlotRun) → look_reply boot looks found ≡ Some reply.Full → (found ≡ None) × (looks + 1 ≡ boot.areas)
look-full boot looks (Some run) is = cc
look-full boot looks None is =
    elim (cases_Bool (looks + 1 == boot.areas)) [
      | inl t ↦ (refl, eqb-true (looks + 1) boot.areas t)
      | inr f ↦ (let no : None ≡ Some reply.Full = sym (ap (λ (b : Bool). cond b (Some reply.Full) None) f) ∙ is in cc)
    ]

-- What a look of a command is: where it looks, what it finds there, and its reply.
pub record Look (boot : Boot) (cpu looks : ℕ) (own : Own) (there : List Moved) (c : Command) (entry : Entry) : Type 0 where
  pub found : Option SlotRun
  pub event : entry.event ≡ event.Looked (place_at boot.areas (cpu % boot.areas) looks) found
  pub reply : entry.reply ≡ look_reply boot looks found

pub look-of : (boot : Boot) (cpu : ℕ) (own : Own) (there : List Moved) (c : Command) (entry : Entry) → IsLook boot cpu own there c (step_told entry) → Look boot cpu own.looks own there c entry
look-of boot cpu own there c entry look =
    let request : Request = request_of (PAGE_BYTES * look.holding.block.first + look.off) look.len look.mask in
    let same = some-same _ (step_told entry) look.step in
    record {
      found = run_found boot (entries_of there) (area_looked_in boot cpu own.looks) request;
      event = ap (λ (s : Step). s.event) (sym same);
      reply = ap (λ (s : Step). s.reply) (sym same);
    }

-- one more look is counted
pub look-counted : (boot : Boot) (cpu : ℕ) (own : Own) (there : List Moved) (c : Command) (m : Moved) (area : ℕ) → IsLook boot cpu own there c (step_told m.entry) → m.entry.event ≡ event.Looked area None → (told (Some c) m own).looks ≡ own.looks + 1
look-counted boot cpu own there c m area look is =
    ap (λ (d : Command). (told (Some d) m own).looks) look.is ∙ ap (λ (e : Event). (after_map look.mapping look.name look.off look.direction e own).looks) is

-- ---- histories

abbrev StandsFor : Boot → List (List Command) → ℕ → List Moved → Type 0
StandsFor boot scripts cpu own = LooksStand boot.areas (cpu % boot.areas) (replied own) (own_of (script_of scripts cpu) own).looks own

-- of each processor
pub record AllLooksStand (boot : Boot) (scripts : List (List Command)) (history : List Moved) : Type 0 where
  pub looks : (cpu : ℕ) → StandsFor boot scripts cpu (made_by cpu history)

pub replied-push : (own : List Moved) (m : Moved) (said : Option Reply) → m.entry.reply ≡ said → replied (own ++ m ∷ []) ≡ replied own + cond (is_some said) 1 0
replied-push own m said is = count-push (λ (n : Moved). is_some n.entry.reply) own m ∙ ap (λ r. replied own + cond (is_some r) 1 0) is

-- A processor's own entries, and one more that its command makes.
record OneMore (boot : Boot) (script : List Command) (cpu : ℕ) (own : List Moved) (there : List Moved) (m : Moved) : Type 0 where
  number : m.entry.cmd ≡ replied own
  command : Command
  its : slice_get script m.entry.cmd ≡ Some command
  known : IsKnown boot cpu (own_of script own) there command (step_told m.entry)

after-more : (boot : Boot) (script : List Command) (cpu : ℕ) (own there : List Moved) (m : Moved) (more : OneMore boot script cpu own there m)
    → own_of script (own ++ m ∷ []) ≡ ended m.entry.reply (told (Some more.command) m (own_of script own))
after-more boot script cpu own there m more = own-push script own m ∙ ap (λ c. ended m.entry.reply (told c m (own_of script own))) more.its

-- where its command doesn't end, the event is no look, or a look that isn't the last
looks-on : (boot : Boot) (script : List Command) (cpu : ℕ) (own there : List Moved) (m : Moved) → OneMore boot script cpu own there m → m.entry.reply ≡ None
    → LooksStand boot.areas (cpu % boot.areas) (replied own) (own_of script own).looks own
    → LooksStand boot.areas (cpu % boot.areas) (replied own) (own_of script (own ++ m ∷ [])).looks (own ++ m ∷ [])
looks-on boot script cpu own there m more is stands =
    let areas = boot.areas in
    let start = cpu % boot.areas in
    let n = replied own in
    let o = own_of script own in
    let same : (own_of script (own ++ m ∷ [])).looks ≡ (told (Some more.command) m o).looks =
    ap (λ (x : Own). x.looks) (after-more boot script cpu own there m more)
    ∙ ap (λ (r : Option Reply). (ended r (told (Some more.command) m o)).looks) is
    in
    elim more.known [
      | inl plain ↦
          looks-as areas start n n o.looks (own_of script (own ++ m ∷ [])).looks (own ++ m ∷ []) refl (same ∙ told-looks (Some more.command) m o plain.event)
          (looks-still areas start n o.looks own m stands more.number (λ area. found-plain m.entry.event area plain.event))
      | inr look ↦
          (let its = look-of boot cpu o there more.command m.entry look in
          let goes = look-goes-on boot o.looks its.found (sym its.reply ∙ is) in
          let looking : m.entry.event ≡ event.Looked (place_at areas start o.looks) None = its.event ∙ ap (event.Looked (place_at areas start o.looks)) goes.0 in
          looks-as areas start n n (o.looks + 1) (own_of script (own ++ m ∷ [])).looks (own ++ m ∷ []) refl (same ∙ look-counted boot cpu o there more.command m (place_at areas start o.looks) look looking)
          (looks-look areas start n o.looks own m stands more.number looking (less-last (o.looks + 1) areas (omega (arith, stands.few)) goes.1)))
    ]
  where
    less-last : (a b : ℕ) → a ≤ b → (a ≡ b → ⊥) → a < b
    less-last a b le differ =
        elim (cases_lt a b) [
          | inl lt ↦ lt
          | inr ge ↦ (let same : a ≡ b = omega arith in absurd (differ same))
        ]

looks-more : (boot : Boot) (script : List Command) (cpu : ℕ) (own there : List Moved) (m : Moved) (said : Option Reply) → OneMore boot script cpu own there m → m.entry.reply ≡ said
    → LooksStand boot.areas (cpu % boot.areas) (replied own) (own_of script own).looks own
    → LooksStand boot.areas (cpu % boot.areas) (replied (own ++ m ∷ [])) (own_of script (own ++ m ∷ [])).looks (own ++ m ∷ [])
looks-more boot script cpu own there m None more is stands =
    let none : replied own + 0 ≡ replied own = omega arith in
    let n : replied (own ++ m ∷ []) ≡ replied own = replied-push own m None is ∙ none in
    looks-as boot.areas (cpu % boot.areas) (replied own) (replied (own ++ m ∷ [])) (own_of script (own ++ m ∷ [])).looks (own_of script (own ++ m ∷ [])).looks (own ++ m ∷ []) n refl
    (looks-on boot script cpu own there m more is stands)
looks-more boot script cpu own there m (Some r) more is stands =
    let l : (own_of script (own ++ m ∷ [])).looks ≡ 0 =
    ap (λ (x : Own). x.looks) (after-more boot script cpu own there m more)
    ∙ ap (λ (r : Option Reply). (ended r (told (Some more.command) m (own_of script own))).looks) is
    in
    looks-as boot.areas (cpu % boot.areas) (replied own + 1) (replied (own ++ m ∷ [])) 0 (own_of script (own ++ m ∷ [])).looks (own ++ m ∷ []) (replied-push own m (Some r) is) l
    (looks-reply boot.areas (cpu % boot.areas) (replied own) (own_of script own).looks own m stands more.number)

more-of : (boot : Boot) (scripts : List (List Command)) (history : List Moved) (entry : Entry) → Follows boot scripts history entry
    → OneMore boot (script_of scripts entry.cpu.0) entry.cpu.0 (made_by entry.cpu.0 history) (at_place entry.place history) (with_bytes boot scripts history entry)
more-of boot scripts history entry f = let c = command-of boot scripts history entry f in record { number = f.over.number; command = c.command; its = c.its; known = known-of boot scripts history entry f }

looks-push : (boot : Boot) (scripts : List (List Command)) (history : List Moved) (entry : Entry) → Follows boot scripts history entry → AllLooksStand boot scripts history
    → AllLooksStand boot scripts (history ++ with_bytes boot scripts history entry ∷ [])
looks-push boot scripts history entry f stands =
    let m = with_bytes boot scripts history entry in
    let mine : StandsFor boot scripts entry.cpu.0 (made_by entry.cpu.0 history ++ m ∷ []) =
    looks-more boot (script_of scripts entry.cpu.0) entry.cpu.0 (made_by entry.cpu.0 history) (at_place entry.place history) m entry.reply (more-of boot scripts history entry f) refl (stands.looks entry.cpu.0)
    in
    let own : StandsFor boot scripts entry.cpu.0 (made_by entry.cpu.0 (history ++ m ∷ [])) =
    subst (StandsFor boot scripts entry.cpu.0) (sym (made-by-push entry.cpu.0 history m (eq-eqb entry.cpu.0 entry.cpu.0 refl))) mine
    in
    record {
      looks =
          λ cpu.
          elim (cases_Bool (entry.cpu.0 == cpu)) [
            | inl t ↦ subst (λ c. StandsFor boot scripts c (made_by c (history ++ m ∷ []))) (eqb-true entry.cpu.0 cpu t) own
            | inr g ↦ subst (StandsFor boot scripts cpu) (sym (made-by-other cpu history m g)) (stands.looks cpu)
          ];
    }

looks-first : (boot : Boot) (scripts : List (List Command)) → 0 < boot.areas → AllLooksStand boot scripts []
unfolding own_of
looks-first boot scripts some = record { looks = λ cpu. record { low = tt; few = some; each = λ area. refl } }

looks-after : (boot : Boot) (scripts : List (List Command)) (history : List Moved) (entries : List Entry) → AllLooksStand boot scripts history → LegalAfter boot scripts history entries → AllLooksStand boot scripts (moved_after boot scripts history entries)
looks-after boot scripts history [] stands legal = stands
looks-after boot scripts history (entry ∷ entries) stands legal = looks-after boot scripts (history ++ with_bytes boot scripts history entry ∷ []) entries (looks-push boot scripts history entry legal.0 stands) legal.2

-- ---- the looks in the whole history

abbrev of_command : ℕ → ℕ → ℕ → Entry → Bool
of_command cpu cmd area e = (e.cpu.0 == cpu) && ((e.cmd == cmd) && found_none area e.event)

abbrev counts : {A : Type 0} → (A → Bool) → ℕ → A → ℕ
counts test n x = n + cond (test x) 1 0

counted-from : (cpu cmd area n : ℕ) (history : List Moved) → fold (counts (of_command cpu cmd area)) n (entries_of history) ≡ fold (counts (is_own_look cmd area)) n (made_by cpu history)
counted-from cpu cmd area n [] = refl
counted-from cpu cmd area n (m ∷ history) =
    elim (cases_Bool (m.entry.cpu.0 == cpu)) [
      | inl t ↦
          (let here : of_command cpu cmd area m.entry ≡ is_own_look cmd area m = ap (λ (b : Bool). b && is_own_look cmd area m) t in
          ap (λ (b : Bool). fold (counts (of_command cpu cmd area)) (n + cond b 1 0) (entries_of history)) here
          ∙ counted-from cpu cmd area (n + cond (is_own_look cmd area m) 1 0) history
          ∙ sym (ap (λ (b : Bool). fold (counts (is_own_look cmd area)) n (cond b (m ∷ made_by cpu history) (made_by cpu history))) t))
      | inr f ↦
          (let here : of_command cpu cmd area m.entry ≡ false = ap (λ (b : Bool). b && is_own_look cmd area m) f in
          let same : n + 0 ≡ n = omega arith in
          ap (λ (b : Bool). fold (counts (of_command cpu cmd area)) (n + cond b 1 0) (entries_of history)) here
          ∙ ap (λ k. fold (counts (of_command cpu cmd area)) k (entries_of history)) same
          ∙ counted-from cpu cmd area n history
          ∙ sym (ap (λ (b : Bool). fold (counts (is_own_look cmd area)) n (cond b (m ∷ made_by cpu history) (made_by cpu history))) f))
    ]

counted-by : (cpu cmd area : ℕ) (history : List Moved) → count_by (of_command cpu cmd area) (entries_of history) ≡ count_by (is_own_look cmd area) (made_by cpu history)
counted-by cpu cmd area history = counted-from cpu cmd area 0 history

empty-look : (entry : Entry) (area : ℕ) → is_empty_look entry area entry ≡ found_none area entry.event
empty-look entry area =
    let cpu : (entry.cpu.0 == entry.cpu.0) ≡ true = eq-eqb entry.cpu.0 entry.cpu.0 refl in
    let cmd : (entry.cmd == entry.cmd) ≡ true = eq-eqb entry.cmd entry.cmd refl in
    rw (cpu, cmd) refl

-- What stands before an entry of a legal history, and of its looks.
record StandsBefore (boot : Boot) (scripts : List (List Command)) (before : List Entry) (entry : Entry) : Type 0 where
  follows : Follows boot scripts (with_moved boot scripts before) entry
  few : (own_before boot scripts before entry).looks < boot.areas
  counted : (area : ℕ) → count_by (is_empty_look entry area) (before ++ entry ∷ []) ≡ visits boot.areas (entry.cpu.0 % boot.areas) area (own_before boot scripts before entry).looks + cond (found_none area entry.event) 1 0

stands-before : (boot : Boot) (scripts : List (List Command)) (entries before later : List Entry) (entry : Entry) → 0 < boot.areas → Legal boot scripts entries → entries ≡ before ++ entry ∷ later → StandsBefore boot scripts before entry
stands-before boot scripts entries before later entry some legal is =
    let split = subst (LegalAfter boot scripts []) is legal in
    let follows = follows-at boot scripts [] before entry later split in
    let front = legal-front boot scripts [] before (entry ∷ later) split in
    let history = with_moved boot scripts before in
    let stands = (looks-after boot scripts [] before (looks-first boot scripts some) front).looks entry.cpu.0 in
    record {
      follows = follows;
      few = stands.few;
      counted =
          λ area.
          count-push (is_empty_look entry area) before entry
          ∙ ap (λ n. n + cond (is_empty_look entry area entry) 1 0)
          (ap (count_by (is_empty_look entry area)) (sym (moved-entries boot scripts [] before))
          ∙ counted-by entry.cpu.0 entry.cmd area history
          ∙ ap (λ n. count_by (is_own_look n area) (made_by entry.cpu.0 history)) follows.over.number
          ∙ stands.each area)
          ∙ ap (λ (b : Bool). visits boot.areas (entry.cpu.0 % boot.areas) area (own_before boot scripts before entry).looks + cond b 1 0) (empty-look entry area);
    }

-- with a look that finds none, its area is counted once more
counted-look : (boot : Boot) (cpu looks : ℕ) (e : Event) (area : ℕ) → e ≡ event.Looked (place_at boot.areas (cpu % boot.areas) looks) None
    → visits boot.areas (cpu % boot.areas) area looks + cond (found_none area e) 1 0 ≡ visits boot.areas (cpu % boot.areas) area (suc looks)
counted-look boot cpu looks e area is = ap (λ (e : Event). visits boot.areas (cpu % boot.areas) area looks + cond (found_none area e) 1 0) is

not-full : (said : Option Reply) → NotFull said → said ≡ Some reply.Full → ⊥
not-full said other is = subst NotFull is other

no-look : (e : Event) (area : ℕ) (run : Option SlotRun) → NoLook e → e ≡ event.Looked area run → ⊥
no-look e area run plain is = subst NoLook is plain

found-same : (a b : ℕ) (one other : Option SlotRun) → event.Looked a one ≡ event.Looked b other → one ≡ other
found-same a b one other is = cc

only-full : (boot : Boot) (scripts : List (List Command)) (before : List Entry) (entry : Entry) → 0 < boot.areas → StandsBefore boot scripts before entry → entry.reply ≡ Some reply.Full → LookedEverywhere boot before entry
only-full boot scripts before entry some stands is area inside =
    let cpu = entry.cpu.0 in
    let own = own_before boot scripts before entry in
    let there = place_before boot scripts before entry in
    let c = command-of boot scripts (with_moved boot scripts before) entry stands.follows in
    elim (known-of boot scripts (with_moved boot scripts before) entry stands.follows) [
      | inl plain ↦ absurd (not-full entry.reply plain.reply is)
      | inr look ↦
          (let its = look-of boot cpu own there c.command entry look in
          let full = look-full boot own.looks its.found (sym its.reply ∙ is) in
          let looking : entry.event ≡ event.Looked (place_at boot.areas (cpu % boot.areas) own.looks) None = its.event ∙ ap (event.Looked (place_at boot.areas (cpu % boot.areas) own.looks)) full.0 in
          let last : suc own.looks ≡ boot.areas = omega (arith, full.1) in
          stands.counted area
          ∙ counted-look boot cpu own.looks entry.event area looking
          ∙ ap (visits boot.areas (cpu % boot.areas) area) last
          ∙ visits-round (cpu % boot.areas) boot.areas area (mod_below cpu boot.areas some) inside)
    ]

-- before the last look, the next area isn't looked in
not-everywhere : (boot : Boot) (cpu looks : ℕ) → 0 < boot.areas → suc looks < boot.areas → visits boot.areas (cpu % boot.areas) (place_at boot.areas (cpu % boot.areas) (suc looks)) (suc looks) ≡ 0
not-everywhere boot cpu looks some more = visits-low (cpu % boot.areas) boot.areas (place_at boot.areas (cpu % boot.areas) (suc looks)) (suc looks) (suc looks) (mod_below cpu boot.areas some) more refl (omega arith)

always-full : (boot : Boot) (scripts : List (List Command)) (before : List Entry) (entry : Entry) (area : ℕ) → 0 < boot.areas → StandsBefore boot scripts before entry → entry.event ≡ event.Looked area None → LookedEverywhere boot before entry → entry.reply ≡ Some reply.Full
always-full boot scripts before entry area some stands looked everywhere =
    let cpu = entry.cpu.0 in
    let own = own_before boot scripts before entry in
    let there = place_before boot scripts before entry in
    let c = command-of boot scripts (with_moved boot scripts before) entry stands.follows in
    elim (known-of boot scripts (with_moved boot scripts before) entry stands.follows) [
      | inl plain ↦ absurd (no-look entry.event area None plain.event looked)
      | inr look ↦
          (let its = look-of boot cpu own there c.command entry look in
          let none : its.found ≡ None = found-same (place_at boot.areas (cpu % boot.areas) own.looks) area its.found None (sym its.event ∙ looked) in
          let looking : entry.event ≡ event.Looked (place_at boot.areas (cpu % boot.areas) own.looks) None = its.event ∙ ap (event.Looked (place_at boot.areas (cpu % boot.areas) own.looks)) none in
          let says : entry.reply ≡ cond (own.looks + 1 == boot.areas) (Some reply.Full) None = its.reply ∙ ap (look_reply boot own.looks) none in
          elim (cases_eq (own.looks + 1) boot.areas) [
            | inl last ↦ says ∙ ap (λ (b : Bool). cond b (Some reply.Full) None) (eq-eqb (own.looks + 1) boot.areas last)
            | inr differ ↦
                (let more : suc own.looks < boot.areas = omega (arith, stands.few, differ) in
                let next = place_at boot.areas (cpu % boot.areas) (suc own.looks) in
                let one = sym (everywhere next (mod_below (cpu % boot.areas + suc own.looks) boot.areas some)) ∙ stands.counted next ∙ counted-look boot cpu own.looks entry.event next looking in
                let nowhere = not-everywhere boot cpu own.looks some more in
                absurd (omega (arith, one, nowhere)))
          ])
    ]

-- ---- what a look that finds none says

map-same : (mapping mapping' name name' : List ℕ) (off off' len len' : ℕ) (direction direction' : Direction) (mask mask' : ℕ) → command.Map mapping name off len direction mask ≡ command.Map mapping' name' off' len' direction' mask'
    → (name' ≡ name) × (off' ≡ off) × (len' ≡ len) × (mask' ≡ mask)
map-same mapping mapping' name name' off off' len len' direction direction' mask mask' is =
    let n : name' ≡ name = cc in
    let o : off' ≡ off = cc in
    let l : len' ≡ len = cc in
    let m : mask' ≡ mask = cc in
    (n, o, l, m)

request-same : (addr addr' len len' mask mask' : ℕ) → addr' ≡ addr → len' ≡ len → mask' ≡ mask → request_of addr' len' mask' ≡ request_of addr len mask
request-same addr addr' len len' mask mask' a l m = ap (λ x. request_of x len' mask') a ∙ ap (λ x. request_of addr x mask') l ∙ ap (request_of addr len) m

empty-fits : (boot : Boot) (scripts : List (List Command)) (before : List Entry) (entry : Entry) (mapping name : List ℕ) (off len mask area : ℕ) (direction : Direction) (h : Holding) → Follows boot scripts (with_moved boot scripts before) entry
    → slice_get (script_of scripts entry.cpu.0) entry.cmd ≡ Some (command.Map mapping name off len direction mask) → entry.event ≡ event.Looked area None → block_named (own_before boot scripts before entry) name ≡ Some h
    → NothingFits boot (entries_of (place_before boot scripts before entry)) (request_of (PAGE_BYTES * h.block.first + off) len mask)
empty-fits boot scripts before entry mapping name off len mask area direction h follows its looked named =
    let own = own_before boot scripts before entry in
    let there = place_before boot scripts before entry in
    let c = command-of boot scripts (with_moved boot scripts before) entry follows in
    elim (known-of boot scripts (with_moved boot scripts before) entry follows) [
      | inl plain ↦ absurd (no-look entry.event area None plain.event looked)
      | inr look ↦
          (let parts = map-same mapping look.mapping name look.name off look.off len look.len direction look.direction mask look.mask (some-same (command.Map mapping name off len direction mask) c.command (sym its ∙ c.its) ∙ look.is) in
          let held : look.holding ≡ h = some-same look.holding h (sym look.named ∙ ap (block_named own) parts.0 ∙ named) in
          let addr : PAGE_BYTES * look.holding.block.first + look.off ≡ PAGE_BYTES * h.block.first + off = ap (λ (x : Holding). PAGE_BYTES * x.block.first + look.off) held ∙ ap (λ x. PAGE_BYTES * h.block.first + x) parts.1 in
          let request : Request = request_of (PAGE_BYTES * look.holding.block.first + look.off) look.len look.mask in
          let number = area_looked_in boot entry.cpu.0 own.looks in
          let same = some-same _ (step_told entry) look.step in
          let none : run_found boot (entries_of there) number request ≡ None = found-same number area (run_found boot (entries_of there) number request) None (ap (λ (s : Step). s.event) same ∙ looked) in
          subst (NothingFits boot (entries_of there)) (request-same (PAGE_BYTES * h.block.first + off) (PAGE_BYTES * look.holding.block.first + look.off) len look.len mask look.mask addr parts.2 parts.3)
          (nothing-fits boot (entries_of there) number request (need-some (PAGE_BYTES * look.holding.block.first + look.off) look.len look.mask look.some) none))
    ]

pub legal-full : (boot : Boot) (scripts : List (List Command)) (entries : List Entry) → 0 < boot.areas → Legal boot scripts entries → FullOnlyWhereFull boot scripts entries
legal-full boot scripts entries some legal = record {
  only = λ before later entry is full. only-full boot scripts before entry some (stands-before boot scripts entries before later entry some legal is) full;
  always = λ before later entry area is looked everywhere. always-full boot scripts before entry area some (stands-before boot scripts entries before later entry some legal is) looked everywhere;
  empty =
      λ before entry mapping name off len mask area direction h at looked has.
      empty-fits boot scripts before entry mapping name off len mask area direction h (stands-before boot scripts entries before at.later entry some legal at.split).follows at.its looked has;
}
