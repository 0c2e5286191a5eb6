-- A claim is made only where no open claim meets its units: so the units of open claims are apart.
use Rattle.std.proofs.Common.{◌≡◌, ◌≢◌, ℕ, ◌<◌, Bool, true, false, Option, None, Some, List, [], ◌∷◌, ◌++◌, refl, sym, ◌∙◌, ap, subst, inl, inr, arith, append_assoc, append-nil, eqb-true}
use Rattle.std.specs.Prelude.{◌==◌, slice_get, length, IfSome}
use Rattle.std.specs.Option.{option_and_then, option_map}
use Rattle.std.specs.List.{AllByRecursion}
use Rattle.std.proofs.Math.Nat.{max_comm, min_comm}
use Rattle.std.proofs.lemmas.Option.{slice_get_past}
use Rattle.std.proofs.lemmas.Bool.{cases_Bool, cases_lt}
use Rattle.guest_base.proofs.SearchLemmas.{first_such-None}
use Rattle.guest_base.specs.Blocks.{pick}
use Rattle.guest_base.specs.declared.memory.Block.{Block}
use Rattle.guest_base.specs.declared.memory.Page.{Page}
use Rattle.guest_base.specs.declared.memory.PageState.{PageState}
use Rattle.guest_base.specs.declared.memory.PageState.TheVariants.{Pending, Accepted, Shared}
use Rattle.guest_base.specs.declared.memory.Units.{Units}
use Rattle.event_core.specs.declared.boot.Boot.{Boot}
use Rattle.event_core.specs.declared.command.Command.{Command}
use Rattle.event_core.specs.declared.command.Command.TheVariants as command
use Rattle.event_core.specs.declared.entry.Entry.{Entry}
use Rattle.event_core.specs.declared.entry.Place.TheVariants as place
use Rattle.event_core.specs.declared.event.Event.{Event}
use Rattle.event_core.specs.declared.event.Event.TheVariants as event
use Rattle.event_core.specs.declared.module_call.ModuleCall.{ModuleCall}
use Rattle.event_core.specs.declared.reply.Found.{Found}
use Rattle.event_core.specs.declared.reply.Reply.{Reply}
use Rattle.event_core.specs.declared.reply.Reply.TheVariants as reply
use Rattle.event_core.specs.BlockRows.{alloc_event, with_pick, without_free, without_waiting}
use Rattle.event_core.specs.Blocks.{lowest_waiting, in_flight_with, free_page, block_units}
use Rattle.event_core.specs.Bytes.{row_of}
use Rattle.event_core.specs.Calls.{calls_in, calls_of}
use Rattle.event_core.specs.Claims.{Claimed, claim_of, claim_step, opened, goes_on, in_the_way, units_meet, claim_meets, ClaimsApart}
use Rattle.event_core.specs.Holdings.{Holding, Own, block_named, mapping_named, asks_in, asks_out}
use Rattle.event_core.specs.Legal.{Follows, LegalAfter, Legal, with_bytes, at_place, place_of}
use Rattle.event_core.specs.MemoryRows.{claim_event, run_of_claim}
use Rattle.event_core.specs.Moved.{Moved, entries_of, made_by}
use Rattle.event_core.specs.Next.{Step, step_of, unrefused_step, refused_or, replied_by, accept_step, alloc_step, alloc_reply, claim_reply, convert_step, copy_step, load_step, stray_step}
use Rattle.event_core.specs.Own.{replied, own_of, script_of}
use Rattle.event_core.specs.OwnRows.{is_inside, strayed_bytes, page_behind, found_at}
use Rattle.event_core.specs.Refusals.{refusal_of}
use Rattle.event_core.specs.Units.{guarded_units, units_end}
use Rattle.event_core.proofs.SoundLemmas.{entries_of-push, placed-push, legal-front}
use Rattle.event_core.proofs.StandingLemmas.{IsPlaced, claim_of-memory, claim_of-push}
use Rattle.event_core.proofs.CommandLemmas.{command-of, step_told}

-- ---- a claim had nothing in its way

-- an event after a memory's entries: nothing was in the way of one that is a claim
abbrev pub HasWay : Boot → List Entry → Event → Type 0
HasWay boot memory (event.Claim block units run) = in_the_way boot memory units ≡ None
HasWay boot memory _ = Unit {0}

pub record HaveWay (boot : Boot) (memory : List Entry) (step : Option Step) : Type 0 where
  pub each : IfSome step (λ (s : Step). HasWay boot memory s.event)

none-way : (boot : Boot) (memory : List Entry) → HaveWay boot memory None
none-way boot memory = record { each = tt }

one-way : (boot : Boot) (memory : List Entry) (e : Event) (r : Option Reply) → HasWay boot memory e → HaveWay boot memory (Some (record { event = e; reply = r }))
one-way boot memory e r way = record { each = way }

held-way : {A : Type 0} (boot : Boot) (memory : List Entry) (step : A → Option Step) (held : Option A) → ((a : A) → HaveWay boot memory (step a)) → HaveWay boot memory (option_and_then step held)
held-way boot memory step None each = none-way boot memory
held-way boot memory step (Some a) each = each a

refused-way : (boot : Boot) (memory : List Entry) (refusal : Option Reply) (step : Option Step) → HaveWay boot memory step → HaveWay boot memory (refused_or refusal step)
refused-way boot memory None step way = way
refused-way boot memory (Some r) step way = one-way boot memory event.Own (Some r) tt

abbrev EventWay : Boot → List Entry → Option Event → Type 0
EventWay boot memory made = IfSome made (HasWay boot memory)

mapped-way : (boot : Boot) (memory : List Entry) (e : Option Event) (told : Event → Option Reply) → EventWay boot memory e → HaveWay boot memory (option_map (λ e. let s : Step = record { event = e; reply = told e } in s) e)
mapped-way boot memory None told way = none-way boot memory
mapped-way boot memory (Some e) told way = one-way boot memory e (told e) way

claim-way : (boot : Boot) (memory : List Entry) (block : Option Block) (units : Option Units) → EventWay boot memory (claim_event boot memory block units)
claim-way boot memory block units = by_way (in_the_way boot memory units) refl where
  by_way : (way : Option ℕ) → in_the_way boot memory units ≡ way → EventWay boot memory (elim way as (λ _. Option Event) [ None ↦ Some (event.Claim block units (run_of_claim boot memory units)) | Some _ ↦ None ])
  by_way None is = is
  by_way (Some cpu) is = tt

accept-way : (boot : Boot) (memory : List Entry) (claim : Option Claimed) (units : Option Units) (calls : List ModuleCall) → HaveWay boot memory (accept_step boot memory claim units calls)
accept-way boot memory None units calls = mapped-way boot memory (claim_event boot memory None units) (λ _. claim_reply (run_of_claim boot memory units)) (claim-way boot memory None units)
accept-way boot memory (Some claim) units calls = record { each = tt }

pick-way : (boot : Boot) (memory : List Entry) (block : Option Block) → EventWay boot memory (with_pick boot memory block)
pick-way boot memory (Some block) = tt
pick-way boot memory None = by_waiting (lowest_waiting boot memory) where
  by_flight : (way : Option ℕ) → EventWay boot memory (without_waiting way)
  by_flight None = tt
  by_flight (Some cpu) = tt

  by_waiting : (block : Option Block) → EventWay boot memory (without_free boot memory block)
  by_waiting (Some block) = claim-way boot memory (Some block) (block_units boot block)
  by_waiting None = by_flight (in_flight_with boot memory)

alloc-way : (boot : Boot) (memory : List Entry) (claim : Option Claimed) (order : ℕ) (calls : List ModuleCall) → HaveWay boot memory (alloc_step boot memory claim order calls)
unfolding alloc_event
alloc-way boot memory None order calls = mapped-way boot memory (alloc_event boot memory order) alloc_reply (pick-way boot memory (pick (free_page boot memory) order))
alloc-way boot memory (Some claim) order calls = record { each = tt }

convert-way : (boot : Boot) (memory : List Entry) (begun : Option Block) (block : Block) (to : PageState) (calls : List ModuleCall) → HaveWay boot memory (convert_step boot memory begun block to calls)
convert-way boot memory None block to calls = record { each = tt }
convert-way boot memory (Some begun) block to calls = record { each = tt }

load-way : (boot : Boot) (memory : List Entry) (h : Holding) (off : ℕ) → HaveWay boot memory (load_step boot memory h off)
load-way boot memory h off = by_inside (is_inside h.block off) where
  by_found : (found : Option Found)
      → HaveWay boot memory (option_map (λ f. let s : Step = record { event = event.Touched (record { 0 = page_behind h.block }) f; reply = Some (reply.Loaded (strayed_bytes h off) (Some f)) } in s) found)
  by_found None = none-way boot memory
  by_found (Some f) = record { each = tt }

  by_inside : (inside : Bool) → HaveWay boot memory (elim inside as (λ _. Option Step) [ true ↦ replied_by event.Own (reply.Loaded (row_of h.bytes off 8) None) | false ↦ stray_step boot memory h off ])
  by_inside true = record { each = tt }
  by_inside false = by_found (found_at boot memory (page_behind h.block))

copy-way : (boot : Boot) (memory : List Entry) (asked : Bool) (copy : Event) → HasWay boot memory copy → HaveWay boot memory (copy_step asked copy)
copy-way boot memory true copy way = record { each = way }
copy-way boot memory false copy way = record { each = tt }

unrefused-way : (boot : Boot) (cpu : ℕ) (own : Own) (there : List Moved) (c : Command) (calls : List ModuleCall) → HaveWay boot (entries_of there) (unrefused_step boot cpu own there c calls)
unrefused-way boot cpu own there (command.Alloc name order) calls = alloc-way boot (entries_of there) (claim_of boot (entries_of there) cpu) order calls
unrefused-way boot cpu own there (command.Free name) calls = held-way boot (entries_of there) _ (block_named own name) (λ h. record { each = tt })
unrefused-way boot cpu own there (command.Accept start len) calls = accept-way boot (entries_of there) (claim_of boot (entries_of there) cpu) (guarded_units boot start len) calls
unrefused-way boot cpu own there (command.Query start len) calls = record { each = tt }
unrefused-way boot cpu own there (command.Read name off len) calls = held-way boot (entries_of there) _ (block_named own name) (λ h. record { each = tt })
unrefused-way boot cpu own there (command.Write name off hex) calls = record { each = tt }
unrefused-way boot cpu own there (command.Fill name off len byte) calls = record { each = tt }
unrefused-way boot cpu own there (command.Load name off) calls = held-way boot (entries_of there) _ (block_named own name) (λ h. load-way boot (entries_of there) h off)
unrefused-way boot cpu own there (command.Share name) calls = held-way boot (entries_of there) _ (block_named own name) (λ h. convert-way boot (entries_of there) own.converting h.block Shared calls)
unrefused-way boot cpu own there (command.Private name) calls = held-way boot (entries_of there) _ (block_named own name) (λ h. convert-way boot (entries_of there) own.converting h.block Accepted calls)
unrefused-way boot cpu own there (command.Giveback name) calls = held-way boot (entries_of there) _ (block_named own name) (λ h. convert-way boot (entries_of there) own.converting h.block Pending calls)
unrefused-way boot cpu own there (command.Map mapping name off len direction mask) calls = held-way boot (entries_of there) _ (block_named own name) (λ h. record { each = tt })
unrefused-way boot cpu own there (command.SyncDev mapping off len) calls = held-way boot (entries_of there) _ (mapping_named own mapping) (λ m. copy-way boot (entries_of there) (asks_in m.direction) _ tt)
unrefused-way boot cpu own there (command.SyncCpu mapping off len) calls = held-way boot (entries_of there) _ (mapping_named own mapping) (λ m. copy-way boot (entries_of there) (asks_out m.direction) _ tt)
unrefused-way boot cpu own there (command.Unmap mapping skip) calls = held-way boot (entries_of there) _ (mapping_named own mapping) (λ m. record { each = tt })
unrefused-way boot cpu own there (command.DRead mapping off len) calls = held-way boot (entries_of there) _ (mapping_named own mapping) (λ m. record { each = tt })
unrefused-way boot cpu own there (command.DWrite mapping off hex) calls = held-way boot (entries_of there) _ (mapping_named own mapping) (λ m. record { each = tt })
unrefused-way boot cpu own there (command.HostRead off len) calls = record { each = tt }
unrefused-way boot cpu own there (command.HostWrite off hex) calls = record { each = tt }

-- nothing is in the way of a claim that follows
pub follows-way : (boot : Boot) (scripts : List (List Command)) (history : List Moved) (entry : Entry) → Follows boot scripts history entry → HasWay boot (entries_of (at_place entry.place history)) entry.event
follows-way boot scripts history entry f =
    let c = command-of boot scripts history entry f in
    let own = own_of (script_of scripts entry.cpu.0) (made_by entry.cpu.0 history) in
    let there = at_place entry.place history in
    (subst (HaveWay boot (entries_of there)) c.step (refused-way boot (entries_of there) (refusal_of boot own c.command) _ (unrefused-way boot entry.cpu.0 own there c.command (calls_in entry.event)))).each

claim-has-way : (boot : Boot) (memory : List Entry) (e : Event) (block : Option Block) (units run : Option Units) → HasWay boot memory e → e ≡ event.Claim block units run → in_the_way boot memory units ≡ None
claim-has-way boot memory e block units run way is = subst (HasWay boot memory) is way

-- ---- claims are apart

units_meet-swap : (a b : Units) → units_meet a b ≡ units_meet b a
units_meet-swap a b = grind (arith, max_comm a.first b.first, min_comm (units_end a) (units_end b))

-- where nothing is in the way, no claim meets the units
way-clear : (boot : Boot) (memory : List Entry) (units : Units) → in_the_way boot memory (Some units) ≡ None → (cpu : ℕ) → cpu < boot.cpus → claim_meets units (claim_of boot memory cpu) ≡ false
unfolding in_the_way
way-clear boot memory units h cpu low = (first_such-None _ 0 boot.cpus h).fails cpu (omega arith) (omega arith)

-- a processor with a step has a script
has-script : (boot : Boot) (scripts : List (List Command)) (history : List Moved) (entry : Entry) → Follows boot scripts history entry → entry.cpu.0 < length scripts
has-script boot scripts history entry f =
    elim (cases_lt entry.cpu.0 (length scripts)) [
      | inl low ↦ low
      | inr high ↦
          (let none = slice_get_past scripts entry.cpu.0 high in
          let own = made_by entry.cpu.0 history in
          let no : None ≡ Some (step_told entry) =
          sym (ap (λ script. option_and_then (λ c. step_of boot entry.cpu.0 (own_of (script_of scripts entry.cpu.0) own) (at_place entry.place history) c (calls_in entry.event)) (option_and_then (λ commands. slice_get commands (replied own)) script)) none)
          ∙ f.over.step
          in cc)
    ]

-- the claims after entries: each is a processor's, and they are apart
pub record AreApart (boot : Boot) (entries : List Entry) : Type 0 where
  pub low : (cpu : ℕ) (claim : Claimed) → claim_of boot entries cpu ≡ Some claim → cpu < boot.cpus
  pub apart : ClaimsApart boot entries

-- a claim that a step makes is a new one, or has the units of the one before
pub data Made (e : Event) (before : Option Claimed) (units : Units) : Type 0 where
  New : (block : Option Block) (run : Units) → e ≡ event.Claim block (Some units) (Some run) → Made e before units
  Kept : (old : Claimed) → before ≡ Some old → old.units ≡ units → Made e before units

made-opened : (block : Option Block) (units run : Option Units) (calls : List ModuleCall) (before : Option Claimed) (claim : Claimed) → opened block units run calls ≡ Some claim → Made (event.Claim block units run) before claim.units
made-opened block None run calls before claim h = cc
made-opened block (Some units) None calls before claim h = cc
made-opened block (Some units) (Some run) calls before claim h =
    let same : Some units ≡ Some claim.units = ap (option_map (λ (c : Claimed). c.units)) h in
    let there : units ≡ claim.units = cc in
    New block run (ap (λ u. event.Claim block (Some u) (Some run)) there)

made-reported : (boot : Boot) (calls now : List ModuleCall) (before : Option Claimed) (stopped : Option Page) (next : Option Units) (run : Units) (claim : Claimed) → goes_on boot calls now before stopped next ≡ Some claim → Made (event.Report run now stopped next) before claim.units
made-reported boot calls now None stopped next run claim h = cc
made-reported boot calls now (Some old) (Some page) next run claim h = cc
made-reported boot calls now (Some old) None None run claim h = cc
made-reported boot calls now (Some old) None (Some next) run claim h =
    let same : Some old.units ≡ Some claim.units = ap (option_map (λ (c : Claimed). c.units)) h in
    let there : old.units ≡ claim.units = cc in
    Kept old refl there

made-step : (boot : Boot) (calls : List ModuleCall) (before : Option Claimed) (e : Event) (claim : Claimed) → claim_step boot calls before e ≡ Some claim → Made e before claim.units
made-step boot calls before (event.Claim block units run) claim h = made-opened block units run calls before claim h
made-step boot calls before (event.Report run now stopped next) claim h = made-reported boot calls now before stopped next run claim h
made-step boot calls before _ claim h = Kept claim h refl

-- the claim of a processor after one more entry: its own may be new, each other's stays
pub data After (boot : Boot) (entries : List Entry) (entry : Entry) (cpu : ℕ) (units : Units) : Type 0 where
  Mine : (block : Option Block) (run : Units) → entry.cpu.0 ≡ cpu → entry.event ≡ event.Claim block (Some units) (Some run) → After boot entries entry cpu units
  Before : (old : Claimed) → claim_of boot entries cpu ≡ Some old → old.units ≡ units → After boot entries entry cpu units

after-made : (boot : Boot) (entries : List Entry) (entry : Entry) (cpu : ℕ) (units : Units) → entry.cpu.0 ≡ cpu → Made entry.event (claim_of boot entries cpu) units → After boot entries entry cpu units
after-made boot entries entry cpu units same (New block run is) = Mine block run same is
after-made boot entries entry cpu units same (Kept old was there) = Before old was there

after : (boot : Boot) (entries : List Entry) (entry : Entry) (cpu : ℕ) (claim : Claimed) → claim_of boot (entries ++ entry ∷ []) cpu ≡ Some claim → After boot entries entry cpu claim.units
after boot entries entry cpu claim h =
    let now = sym (claim_of-push boot entries entry cpu) ∙ h in
    elim (cases_Bool (entry.cpu.0 == cpu)) [
      | inl t ↦ after-made boot entries entry cpu claim.units (eqb-true entry.cpu.0 cpu t) (made-step boot (calls_of boot entries) (claim_of boot entries cpu) entry.event claim (rw t at now))
      | inr f ↦ Before claim (rw f at now) refl
    ]

-- a processor that makes a claim meets no claim of another
mine-clear : (boot : Boot) (scripts : List (List Command)) (history : List Moved) (entry : Entry) (block : Option Block) (units run : Units) → AllByRecursion (IsPlaced boot) history → Follows boot scripts history entry → entry.event ≡ event.Claim block (Some units) (Some run) → (cpu : ℕ) (other : Claimed) → cpu < boot.cpus → claim_of boot (entries_of history) cpu ≡ Some other → units_meet other.units units ≡ false
mine-clear boot scripts history entry block units run placed f is cpu other low claims =
    let there = entries_of (at_place entry.place history) in
    let clear = claim-has-way boot there entry.event block (Some units) (Some run) (follows-way boot scripts history entry f) is in
    let at : entry.place ≡ place.Memory = f.over.place ∙ ap (place_of boot) is in
    let claimed : claim_of boot there cpu ≡ Some other = ap (λ p. claim_of boot (entries_of (at_place p history)) cpu) at ∙ claim_of-memory boot cpu history placed ∙ claims in
    sym (ap (claim_meets units) claimed) ∙ way-clear boot there units clear cpu low

pair-apart : (boot : Boot) (scripts : List (List Command)) (history : List Moved) (entry : Entry) → AllByRecursion (IsPlaced boot) history → Follows boot scripts history entry → AreApart boot (entries_of history) → (c d : ℕ) (a b : Units) → c ≢ d → After boot (entries_of history) entry c a → After boot (entries_of history) entry d b → units_meet a b ≡ false
pair-apart boot scripts history entry placed f was c d a b differ (Mine block run same is) (Mine block' run' same' is') = absurd (differ (sym same ∙ same'))
pair-apart boot scripts history entry placed f was c d a b differ (Mine block run same is) (Before old had there) =
    units_meet-swap a b ∙ ap (λ u. units_meet u a) (sym there) ∙ mine-clear boot scripts history entry block a run placed f is d old (was.low d old had) had
pair-apart boot scripts history entry placed f was c d a b differ (Before old had there) (Mine block run same is) =
    ap (λ u. units_meet u b) (sym there) ∙ mine-clear boot scripts history entry block b run placed f is c old (was.low c old had) had
pair-apart boot scripts history entry placed f was c d a b differ (Before old had there) (Before other had' there') =
    ap (λ u. units_meet u b) (sym there) ∙ ap (units_meet old.units) (sym there') ∙ was.apart c d old other differ had had'

apart-push : (boot : Boot) (scripts : List (List Command)) (history : List Moved) (entry : Entry) → length scripts ≡ boot.cpus → AllByRecursion (IsPlaced boot) history → Follows boot scripts history entry → AreApart boot (entries_of history) → AreApart boot (entries_of history ++ entry ∷ [])
apart-push boot scripts history entry cpus placed f was = record {
  low = λ cpu claim h. elim (after boot (entries_of history) entry cpu claim h) [
    | Mine block run same is ↦ (let low = has-script boot scripts history entry f in omega (arith, low, same, cpus))
    | Before old had there ↦ was.low cpu old had
  ];
  apart = λ c d a b differ ha hb. pair-apart boot scripts history entry placed f was c d a.units b.units differ (after boot (entries_of history) entry c a ha) (after boot (entries_of history) entry d b hb);
}

no-claim : (boot : Boot) (cpu : ℕ) → claim_of boot [] cpu ≡ None
unfolding claim_of
no-claim boot cpu = refl

pub apart-start : (boot : Boot) → AreApart boot []
apart-start boot = record {
  low = λ cpu claim h. let no : None ≡ Some claim = sym (no-claim boot cpu) ∙ h in cc;
  apart = λ c d a b differ ha hb. let no : None ≡ Some a = sym (no-claim boot c) ∙ ha in cc;
}

apart-after : (boot : Boot) (scripts : List (List Command)) (history : List Moved) (entries : List Entry) → length scripts ≡ boot.cpus → AllByRecursion (IsPlaced boot) history → AreApart boot (entries_of history) → LegalAfter boot scripts history entries → AreApart boot (entries_of history ++ entries)
apart-after boot scripts history [] cpus placed was legal = rw (append-nil (entries_of history)) was
apart-after boot scripts history (entry ∷ entries) cpus placed was legal =
    let m = with_bytes boot scripts history entry in
    let pushed = entries_of-push history m in
    let P : List Entry → Type 0 = AreApart boot in
    subst P (ap (λ es. es ++ entries) pushed ∙ append_assoc (entries_of history) (entry ∷ []) entries)
    (apart-after boot scripts (history ++ m ∷ []) entries cpus (placed-push boot history m placed legal.0.over.place)
    (subst P (sym pushed) (apart-push boot scripts history entry cpus placed legal.0 was)) legal.2)

-- at each place of a legal history the units of the open claims are apart
pub legal-claims-apart : (boot : Boot) (scripts : List (List Command)) (entries : List Entry) → length scripts ≡ boot.cpus → Legal boot scripts entries → (before later : List Entry) → entries ≡ before ++ later → ClaimsApart boot before
legal-claims-apart boot scripts entries cpus legal before later is =
    let P : List Entry → Type 0 = Legal boot scripts in
    (apart-after boot scripts [] before cpus tt (apart-start boot) (legal-front boot scripts [] before later (subst P is legal))).apart
