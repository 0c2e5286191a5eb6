use Rattle.std.proofs.Common.{◌≡◌, ℕ, ◌≤◌, Option, None, Some, List, [], ◌∷◌, ◌++◌, length, refl, sym, ◌∙◌, ap, subst, arith}
use Rattle.std.specs.Prelude.{All, slice_get}
use Rattle.std.specs.List.{repeat}
use Rattle.std.specs.Option.{ForSome, option_map, option_map_or}
use Rattle.guest_base.specs.declared.memory.Pages.{Pages}
use Rattle.std.proofs.lemmas.List.{length-map}
use Rattle.std.proofs.lemmas.List.Elements.{All-nil, All-head, All-tail}
use Rattle.guest_base.specs.declared.memory.HostRun.{HostRun}
use Rattle.guest_base.specs.declared.memory.Units.{Units}
use Rattle.event_core.specs.declared.boot.Boot.{Boot}
use Rattle.event_core.specs.declared.command.Command.{Command}
use Rattle.event_core.specs.declared.command.Command.TheVariants as command
use Rattle.event_core.specs.declared.entry.Turn.{Turn}
use Rattle.event_core.specs.declared.event.Event.TheVariants as event
use Rattle.event_core.specs.declared.module_call.ModuleCall.{ModuleCall}
use Rattle.event_core.specs.declared.reply.Reply.{Reply}
use Rattle.event_core.specs.declared.reply.Reply.TheVariants as reply
use Rattle.event_core.specs.Holdings.{Holding, Own, block_named}
use Rattle.event_core.specs.Moved.{Moved}
use Rattle.event_core.specs.Own.{after_write, ended, nothing, own_of, replied, told, with_bytes_at}
use Rattle.event_core.specs.ReadableScript.{ReadableScript}
use Rattle.block_laws.specs.Unconverting.{ConvertsNothing}
use Rattle.dma_map.specs.Pools.{HasPool, IsLayout, layout_in}
use Rattle.dma_map.specs.declared.pool.Layout.{Layout}
use Rattle.held_blocks.specs.Holdings.{HoldingsValue, own_in as own_held}
use Rattle.page_module.specs.Spans.{Taken}
use Rattle.guest_cpu.specs.Alone.{own_behind, own_written}
use Rattle.guest_steps.proofs.BeginningLemmas.{all-got}
use Rattle.guest_cpu.specs.Made.{Made, turn_of}
use Rattle.guest_cpu.specs.declared.progress.OpenRun.{OpenRun}
use Rattle.guest_cpu.specs.declared.progress.RunRoom.{RunRoom}
use Rattle.guest_cpu.specs.Kept.{HasFewLooks, Keeps, HasRoom, OpensFirst, RestsBare, most_of, out_of, runs_of}
use Rattle.guest_cpu.proofs.OwnLemmas.{alone-told, own-first, told-now}

-- What a processor keeps: what it has, and the runs of its claim.

-- ---- what it has

-- the entry of a command tells of it what was done
pub holds-told : (script : List Command) (moved : List Moved) (m : Moved) (c : Command) (held now : HoldingsValue) → own_of script moved ≡ own_held held → slice_get script m.entry.cmd ≡ Some c
    → ended m.entry.reply (told (Some c) m (own_held held)) ≡ own_held now → own_of script (moved ++ m ∷ []) ≡ own_held now
holds-told script moved m c held now holds its is = told-now script moved m c (own_held held) holds its ∙ is

-- also where the command ended by the processor alone
pub holds-alone : (script : List Command) (moved : List Moved) (m : Moved) (c : Command) (held now : HoldingsValue) → own_of script moved ≡ own_held held → slice_get script m.entry.cmd ≡ Some c → ConvertsNothing c
    → m.entry.event ≡ event.Own → own_held now ≡ own_behind c m.entry.reply (own_held held) → own_of script (moved ++ m ∷ []) ≡ own_held now
holds-alone script moved m c held now holds its unconverting at is =
    holds-told script moved m c held now holds its (ap (ended m.entry.reply) (alone-told c m (own_held held) unconverting at) ∙ sym is)

-- the looks stay few behind an entry that makes none
pub few-ended : (held now : HoldingsValue) (r : Option Reply) (own : Own) → ForSome held.layout IsLayout → HasFewLooks held → now.layout ≡ held.layout → own.looks ≡ held.looks → own_held now ≡ ended r own → HasFewLooks now
few-ended held now None own laid_out few layout looks is = λ l has.
    (let below = few l (sym layout ∙ has) in
    let same = ap (λ (o : Own). o.looks) is in
    omega (arith, below, same, looks))
few-ended held now (Some r) own laid_out few layout looks is = λ l has.
    (let some = (laid_out l (sym layout ∙ has)).some_areas in
    let none = ap (λ (o : Own). o.looks) is in
    omega (arith, some, none))

bytes-looks : (held : Option Holding) (off : ℕ) (more : List ℕ) (own : Own) → (option_map_or (λ (h : Holding). with_bytes_at h.block off more own) held own).looks ≡ own.looks
bytes-looks None off more own = refl
bytes-looks (Some h) off more own = refl

write-looks : (name : List ℕ) (off : ℕ) (more : List ℕ) (r : Option Reply) (own : Own) → (after_write name off more r own).looks ≡ own.looks
write-looks name off more None own = refl
write-looks name off more (Some reply.Done) own = bytes-looks (block_named own name) off more own
write-looks name off more (Some _) own = refl

-- a command that ends by the processor alone makes no look
pub written-looks : (c : Command) (r : Option Reply) (own : Own) → (own_written c r own).looks ≡ own.looks
written-looks (command.Write name off hex) r own = write-looks name off hex r own
written-looks (command.Fill name off len byte) r own = write-looks name off (repeat len (byte ∷ [])) r own
written-looks _ r own = refl

-- a boot's pool has the layout that is read off it
pool-is : (boot : Boot) (pool : Option Pages) → boot.pool ≡ pool → HasPool boot (option_map (λ (p : Pages). let l : Layout = record { pool = p; slots = boot.slots; areas = boot.areas } in l) pool)
pool-is boot None is = is
pool-is boot (Some p) is = record { pool = is; slots = refl; areas = refl }

pub has-pool : (boot : Boot) → HasPool boot (layout_in boot)
has-pool boot = pool-is boot boot.pool refl

-- no entry, and nothing held
pub keeps-first : (boot : Boot) (hosts : List HostRun) (script : List Command) (made : Made) (held : HoldingsValue) (later : List RunRoom) → hosts ≡ boot.hosts → HasPool boot held.layout → ForSome held.layout IsLayout → All ConvertsNothing script → ReadableScript script → made.moved ≡ [] → own_held held ≡ nothing → later ≡ []
    → Keeps boot hosts script made held None later
keeps-first boot hosts script made held later same pool laid_out unconverting readable moved none_held none =
    let K : List RunRoom → Type 0 = λ l. Keeps boot hosts script made held None l in
    subst K (sym none) (record {
      same_hosts = same;
      pool = pool;
      laid_out = laid_out;
      looks = λ l is. (let none = ap (λ (o : Own). o.looks) none_held in let some = (laid_out l is).some_areas in omega (arith, none, some));
      unconverting = unconverting;
      readable = readable;
      holds = ap (own_of script) moved ∙ own-first script ∙ sym none_held;
      reports = omega arith;
      rooms = All-nil (HasRoom boot);
      room = tt;
      rests = refl;
    })

-- room alone changes nothing of what is held
pub keeps-room : (boot : Boot) (hosts : List HostRun) (script : List Command) (made new : Made) (held now : HoldingsValue) (open_run : Option OpenRun) (later : List RunRoom) → Keeps boot hosts script made held open_run later
    → new.moved ≡ made.moved → made.room ≤ new.room → own_held now ≡ own_held held → now.layout ≡ held.layout → Keeps boot hosts script new now open_run later
keeps-room boot hosts script made new held now open_run later k moved more own layout =
    let L : Option Layout → Type 0 = λ l. HasPool boot l in
    let I : Option Layout → Type 0 = λ l. ForSome l IsLayout in
    let looks = ap (λ (o : Own). o.looks) own in
    record {
      same_hosts = k.same_hosts;
      pool = subst L (sym layout) k.pool;
      laid_out = subst I (sym layout) k.laid_out;
      looks = λ l has. (let below = k.looks l (sym layout ∙ has) in omega (arith, below, looks));
      unconverting = k.unconverting;
      readable = k.readable;
      holds = ap (own_of script) moved ∙ k.holds ∙ sym own;
      reports = (let fits = k.reports in omega (arith, fits, more));
      rooms = k.rooms;
      room = k.room;
      rests = k.rests;
    }

-- ---- with no claim open

no-runs-kept : (open_run : Option OpenRun) (later : List RunRoom) → out_of open_run ≡ None → RestsBare open_run later → length (runs_of open_run later) ≡ 0
no-runs-kept None later rests bare = ap (λ (rs : List RunRoom). length (runs_of None rs)) bare
no-runs-kept (Some open_run) later rests bare = absurd (let no : Some open_run.span ≡ None = rests in cc)

-- other entries, and what they tell, are kept with no room for runs
pub keeps-at-rest : (boot : Boot) (hosts : List HostRun) (script : List Command) (made new : Made) (held now : HoldingsValue) (open_run : Option OpenRun) (later : List RunRoom) → Keeps boot hosts script made held open_run later
    → out_of open_run ≡ None → now.layout ≡ held.layout → HasFewLooks now → own_of script new.moved ≡ own_held now → Keeps boot hosts script new now open_run later
keeps-at-rest boot hosts script made new held now open_run later k rests layout few holds =
    let none = no-runs-kept open_run later rests k.rests in
    let L : Option Layout → Type 0 = λ l. HasPool boot l in
    let I : Option Layout → Type 0 = λ l. ForSome l IsLayout in
    record {
      same_hosts = k.same_hosts;
      pool = subst L (sym layout) k.pool;
      laid_out = subst I (sym layout) k.laid_out;
      looks = few;
      unconverting = k.unconverting;
      readable = k.readable;
      holds = holds;
      reports = omega (arith, none);
      rooms = k.rooms;
      room = k.room;
      rests = k.rests;
    }

-- the command of the turn behind an entry is the present one
pub turned-present : (script : List Command) (number clock : ℕ) (moved : List Moved) (turn turned : Turn) (c : Command) → turn ≡ turn_of number moved → turned ≡ record turn { clock = clock } → slice_get script (replied moved) ≡ Some c → slice_get script turned.cmd ≡ Some c
turned-present script number clock moved turn turned c is then now = ap (λ (t : Turn). slice_get script t.cmd) (then ∙ ap (λ (t : Turn). with_clock t) is) ∙ now
  where
    with_clock : Turn → Turn
    with_clock t = record t { clock = clock }

-- one more entry, which tells what was done
pub keeps-told : (boot : Boot) (hosts : List HostRun) (script : List Command) (made new : Made) (held now : HoldingsValue) (open_run : Option OpenRun) (later : List RunRoom) (m : Moved) (c : Command) → Keeps boot hosts script made held open_run later
    → out_of open_run ≡ None → now.layout ≡ held.layout → HasFewLooks now → new.moved ≡ made.moved ++ m ∷ [] → slice_get script m.entry.cmd ≡ Some c → ended m.entry.reply (told (Some c) m (own_held held)) ≡ own_held now → Keeps boot hosts script new now open_run later
keeps-told boot hosts script made new held now open_run later m c k rests layout few moved is tells =
    keeps-at-rest boot hosts script made new held now open_run later k rests layout few (ap (own_of script) moved ∙ holds-told script made.moved m c held now k.holds is tells)

-- the entry of a command that the processor ends alone, in room that was taken before
pub keeps-alone : (boot : Boot) (hosts : List HostRun) (script : List Command) (made middle new : Made) (held now : HoldingsValue) (open_run : Option OpenRun) (later : List RunRoom) (m : Moved) (c : Command) → Keeps boot hosts script made held open_run later
    → out_of open_run ≡ None → now.layout ≡ held.layout → HasFewLooks now → middle.moved ≡ made.moved → new.moved ≡ middle.moved ++ m ∷ [] → slice_get script m.entry.cmd ≡ Some c → m.entry.event ≡ event.Own → own_held now ≡ own_behind c m.entry.reply (own_held held) → Keeps boot hosts script new now open_run later
keeps-alone boot hosts script made middle new held now open_run later m c k rests layout few same moved is at behind =
    let unconverting = all-got ConvertsNothing script m.entry.cmd c k.unconverting is in
    keeps-at-rest boot hosts script made new held now open_run later k rests layout few
    (ap (own_of script) (moved ∙ ap (λ (ms : List Moved). ms ++ m ∷ []) same) ∙ holds-alone script made.moved m c held now k.holds is unconverting at behind)

-- ---- the runs of its claim

open_with : Taken → RunRoom → OpenRun
open_with span room = record { span = span; room = room; end = None }

-- the run that is opened has the room that it was given
pub opens-keep : (boot : Boot) (hosts : List HostRun) (script : List Command) (made : Made) (held : HoldingsValue) (span : Option Taken) (rooms : List RunRoom) (open_run : Option OpenRun) (later : List RunRoom) (run : Option Units)
    → hosts ≡ boot.hosts → HasPool boot held.layout → ForSome held.layout IsLayout → HasFewLooks held → All ConvertsNothing script → ReadableScript script → own_of script made.moved ≡ own_held held → length rooms ≤ made.room → All (HasRoom boot) rooms → OpensFirst span rooms open_run later run
    → Keeps boot hosts script made held open_run later
unfolding open_with
opens-keep boot hosts script made held None rooms open_run later run same pool laid_out few unconverting readable holds fits all opens =
    let K : Option OpenRun → Type 0 = λ o. Keeps boot hosts script made held o later in
    let L : List RunRoom → Type 0 = λ l. Keeps boot hosts script made held None l in
    subst K (sym opens.0) (subst L (sym opens.1) (record {
      same_hosts = same;
      pool = pool;
      laid_out = laid_out;
      looks = few;
      unconverting = unconverting;
      readable = readable;
      holds = holds;
      reports = omega arith;
      rooms = All-nil (HasRoom boot);
      room = tt;
      rests = refl;
    }))
opens-keep boot hosts script made held (Some span) [] open_run later run same pool laid_out few unconverting readable holds fits all opens = absurd opens
opens-keep boot hosts script made held (Some span) (room ∷ rooms) open_run later run same pool laid_out few unconverting readable holds fits all opens =
    let K : Option OpenRun → Type 0 = λ o. Keeps boot hosts script made held o later in
    let L : List RunRoom → Type 0 = λ l. Keeps boot hosts script made held (Some (open_with span room)) l in
    let long = length-map rooms (λ (r : RunRoom). r.run) in
    let has = All-head (HasRoom boot) room rooms all in
    let none = has.unnoted in
    let nothing : length room.log.calls ≤ most_of boot room.run = let l : length room.log.calls ≡ 0 = ap (λ (cs : List ModuleCall). length cs) none in omega (arith, l) in
    subst K (sym opens.0) (subst L (sym opens.1) (record {
      same_hosts = same;
      pool = pool;
      laid_out = laid_out;
      looks = few;
      unconverting = unconverting;
      readable = readable;
      holds = holds;
      reports = omega (arith, fits, long);
      rooms = All-tail (HasRoom boot) room rooms all;
      room = record { few = nothing; uncopied = has.uncopied; copy = has.copy; unworked = λ _. has };
      rests = tt;
    }))
