-- Each byte that a reply tells is the one that was last written.
use Rattle.std.proofs.Common.{◌≡◌, ℕ, Bool, true, false, Option, None, Some, List, [], refl, ◌∙◌, ap, subst}
use Rattle.std.specs.Option.{option_and_then, option_map}
use Rattle.event_core.specs.declared.boot.Boot.{Boot}
use Rattle.event_core.specs.declared.command.Command.{Command}
use Rattle.event_core.specs.declared.entry.Entry.{Entry}
use Rattle.event_core.specs.declared.event.Event.{Event}
use Rattle.event_core.specs.declared.event.Event.TheVariants as event
use Rattle.event_core.specs.declared.reply.Found.{Found}
use Rattle.event_core.specs.declared.reply.Reply.{Reply}
use Rattle.event_core.specs.declared.reply.Reply.TheVariants as reply
use Rattle.event_core.specs.Before.{own_before, place_before, StandsAt}
use Rattle.event_core.specs.Bytes.{row_of}
use Rattle.event_core.specs.BytesTold.{BytesTold}
use Rattle.event_core.specs.Calls.{calls_in}
use Rattle.event_core.specs.Holdings.{Holding, Mapping, block_named, mapping_named}
use Rattle.event_core.specs.Legal.{Legal, with_moved}
use Rattle.event_core.specs.Moved.{Moved, entries_of}
use Rattle.event_core.specs.Next.{Step, replied_by, unrefused_step, load_step, stray_step, taking_step}
use Rattle.event_core.specs.OwnRows.{is_inside, strayed_bytes, page_behind, found_at}
use Rattle.event_core.specs.Pool.{pool_place}
use Rattle.event_core.specs.PoolBytes.{pool_byte}
use Rattle.event_core.specs.Refusals.{refusal_of}
use Rattle.event_core.proofs.CommandLemmas.{step_told, follows-at, step-at}
use Rattle.event_core.proofs.RefusalLemmas.{IsRefusal, refusal-is, not-refused}

-- ---- steps that tell bytes

told-by : (e : Event) (r told : Reply) (s : Step) → replied_by e r ≡ Some s → s.reply ≡ Some told → r ≡ told
told-by e r told s is replies =
    let said : Some (Some r) ≡ Some s.reply = ap (option_map (λ (t : Step). t.reply)) is in cc

hex-same : (a b : List ℕ) → reply.Hex a ≡ reply.Hex b → b ≡ a
hex-same a b h = cc

read-told : (held : Option Holding) (off len : ℕ) (s : Step) (bytes : List ℕ) (h : Holding) → option_and_then (λ (g : Holding). replied_by event.Own (reply.Hex (row_of g.bytes off len))) held ≡ Some s → s.reply ≡ Some (reply.Hex bytes) → held ≡ Some h → bytes ≡ row_of h.bytes off len
read-told None off len s bytes h is replies has = cc
read-told (Some g) off len s bytes h is replies has =
    let same : g ≡ h = cc in
    hex-same (row_of g.bytes off len) bytes (told-by event.Own _ _ s is replies) ∙ ap (λ (x : Holding). row_of x.bytes off len) same

-- what a load tells
abbrev LoadTold : Option Found → Holding → ℕ → List ℕ → Type 0
LoadTold None h off bytes = bytes ≡ row_of h.bytes off 8
LoadTold (Some found) h off bytes = bytes ≡ strayed_bytes h off

loaded-as : (h : Holding) (off : ℕ) (found other : Option Found) (bytes more : List ℕ) → LoadTold found h off bytes → reply.Loaded bytes found ≡ reply.Loaded more other → LoadTold other h off more
loaded-as h off found other bytes more told is =
    let bytes_are : bytes ≡ more = cc in
    let found_is : found ≡ other = cc in
    subst (λ f. LoadTold f h off more) found_is (subst (LoadTold found h off) bytes_are told)

stray-told : (page : ℕ) (h : Holding) (off : ℕ) (at : Option Found) (s : Step) (found : Option Found) (bytes : List ℕ)
    → option_map (λ f. let t : Step = record { event = event.Touched (record { 0 = page }) f; reply = Some (reply.Loaded (strayed_bytes h off) (Some f)) } in t) at ≡ Some s
    → s.reply ≡ Some (reply.Loaded bytes found) → LoadTold found h off bytes
stray-told page h off None s found bytes is replies = cc
stray-told page h off (Some f) s found bytes is replies =
    let said : Some (Some (reply.Loaded (strayed_bytes h off) (Some f))) ≡ Some s.reply = ap (option_map (λ (t : Step). t.reply)) is in
    loaded-as h off (Some f) found (strayed_bytes h off) bytes refl cc

load-told : (boot : Boot) (memory : List Entry) (h : Holding) (off : ℕ) (s : Step) (found : Option Found) (bytes : List ℕ) → load_step boot memory h off ≡ Some s → s.reply ≡ Some (reply.Loaded bytes found) → LoadTold found h off bytes
load-told boot memory h off s found bytes is replies = by_inside (is_inside h.block off) is where
  by_inside : (inside : Bool) → elim inside as (λ _. Option Step) [ true ↦ replied_by event.Own (reply.Loaded (row_of h.bytes off 8) None) | false ↦ stray_step boot memory h off ] ≡ Some s → LoadTold found h off bytes
  by_inside true is = loaded-as h off None found (row_of h.bytes off 8) bytes refl (told-by event.Own _ _ s is replies)
  by_inside false is = stray-told (page_behind h.block) h off (found_at boot memory (page_behind h.block)) s found bytes is replies

held-load : (boot : Boot) (memory : List Entry) (held : Option Holding) (off : ℕ) (s : Step) (found : Option Found) (bytes : List ℕ) (h : Holding) → option_and_then (λ g. load_step boot memory g off) held ≡ Some s → s.reply ≡ Some (reply.Loaded bytes found) → held ≡ Some h → LoadTold found h off bytes
held-load boot memory None off s found bytes h is replies has = cc
held-load boot memory (Some g) off s found bytes h is replies has =
    let same : g ≡ h = cc in
    subst (λ x. LoadTold found x off bytes) same (load-told boot memory g off s found bytes is replies)

device-told : (boot : Boot) (there : List Moved) (held : Option Mapping) (off len : ℕ) (s : Step) (bytes : List ℕ) (m : Mapping) → option_and_then (λ (n : Mapping). taking_step boot there (event.DeviceRead n.run off len)) held ≡ Some s → s.reply ≡ Some (reply.Hex bytes) → held ≡ Some m → bytes ≡ row_of (pool_byte boot there) (pool_place boot m.run off) len
device-told boot there None off len s bytes m is replies has = cc
device-told boot there (Some n) off len s bytes m is replies has =
    let same : n ≡ m = cc in
    hex-same (row_of (pool_byte boot there) (pool_place boot n.run off) len) bytes (told-by (event.DeviceRead n.run off len) _ _ s is replies) ∙ ap (λ (x : Mapping). row_of (pool_byte boot there) (pool_place boot x.run off) len) same

-- ---- all of them

-- the step of the entry's command, where the reply tells bytes
unrefused-at : (boot : Boot) (scripts : List (List Command)) (entries before : List Entry) (entry : Entry) (c : Command) (told : Reply) → Legal boot scripts entries → StandsAt scripts entries before entry c → (IsRefusal told → ⊥) → entry.reply ≡ Some told
    → unrefused_step boot entry.cpu.0 (own_before boot scripts before entry) (place_before boot scripts before entry) c (calls_in entry.event) ≡ Some (step_told entry)
unrefused-at boot scripts entries before entry c told legal at tells replies =
    let own = own_before boot scripts before entry in
    let there = place_before boot scripts before entry in
    let P : List Entry → Type 0 = Legal boot scripts in
    let f = follows-at boot scripts [] before entry at.later (subst P at.split legal) in
    not-refused (refusal_of boot own c) _ (step_told entry) told (refusal-is boot own c) tells (step-at boot scripts (with_moved boot scripts before) entry c f at.its) replies

pub legal-told : (boot : Boot) (scripts : List (List Command)) (entries : List Entry) → Legal boot scripts entries → BytesTold boot scripts entries
legal-told boot scripts entries legal = record {
  read = λ before entry name bytes off len h at is has. read-told (block_named (own_before boot scripts before entry) name) off len (step_told entry) bytes h (unrefused-at boot scripts entries before entry _ (reply.Hex bytes) legal at (λ no. no) is) is has;
  loaded = λ before entry name bytes off h at is has. held-load boot (entries_of (place_before boot scripts before entry)) (block_named (own_before boot scripts before entry) name) off (step_told entry) None bytes h (unrefused-at boot scripts entries before entry _ (reply.Loaded bytes None) legal at (λ no. no) is) is has;
  strayed = λ before entry name bytes off found h at is has. held-load boot (entries_of (place_before boot scripts before entry)) (block_named (own_before boot scripts before entry) name) off (step_told entry) (Some found) bytes h (unrefused-at boot scripts entries before entry _ (reply.Loaded bytes (Some found)) legal at (λ no. no) is) is has;
  device = λ before entry mapping bytes off len m at is has. device-told boot (place_before boot scripts before entry) (mapping_named (own_before boot scripts before entry) mapping) off len (step_told entry) bytes m (unrefused-at boot scripts entries before entry _ (reply.Hex bytes) legal at (λ no. no) is) is has;
  host = λ before entry bytes off len at is. hex-same (row_of (pool_byte boot (place_before boot scripts before entry)) off len) bytes (told-by (event.HostRead off len) _ _ (step_told entry) (unrefused-at boot scripts entries before entry _ (reply.Hex bytes) legal at (λ no. no) is) is);
}
