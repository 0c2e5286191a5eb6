use Rattle.std.proofs.Common.{◌≡◌, ℕ, Bool, true, false, Option, None, Some, List, [], ◌∷◌, ◌++◌, refl, sym, ◌∙◌, ap}
use Rattle.std.specs.Prelude.{slice_get}
use Rattle.std.specs.List.{repeat}
use Rattle.std.proofs.lemmas.List.Sums.{fold-append}
use Rattle.guest_base.specs.declared.memory.Block.{Block}
use Rattle.guest_base.specs.declared.memory.Page.{Page}
use Rattle.guest_base.specs.declared.memory.Units.{Units}
use Rattle.event_core.specs.declared.command.Command.{Command}
use Rattle.event_core.specs.declared.command.Command.TheVariants as command
use Rattle.event_core.specs.declared.entry.Place.TheVariants as place
use Rattle.event_core.specs.declared.entry.Turn.{Turn}
use Rattle.event_core.specs.declared.event.Event.{Event}
use Rattle.event_core.specs.declared.event.Event.TheVariants as event
use Rattle.event_core.specs.declared.module_call.ModuleCall.{ModuleCall}
use Rattle.event_core.specs.declared.reply.Reply.{Reply}
use Rattle.event_core.specs.Holdings.{Own}
use Rattle.event_core.specs.Moved.{Moved}
use Rattle.event_core.specs.Own.{after_alloc, after_free, after_map, after_sync, after_unmap, after_write, ended, nothing, own_of, own_step, told}
use Rattle.block_laws.specs.Unconverting.{ConvertsNothing}
use Rattle.held_blocks.specs.Holdings.{HoldingsValue, own_in as own_held}
use Rattle.memory_core.specs.UnderLock.{unmoved}
use Rattle.memory_core.specs.declared.memory.Reported.{Reported}
use Rattle.memory_core.specs.declared.memory.Reported.TheVariants.{Next, Closed, Stopped}
use Rattle.guest_cpu.specs.Alone.{own_written}
use Rattle.guest_cpu.specs.Made.{entry_at}
use Rattle.guest_cpu.specs.Stepping.{reply_of_claim, reply_of_report}

-- What one more entry makes of what a processor has.

pub own-push : (script : List Command) (moved : List Moved) (m : Moved) → own_of script (moved ++ m ∷ []) ≡ own_step script (own_of script moved) m
unfolding own_of
own-push script moved m = fold-append (own_step script) nothing moved (m ∷ [])

pub own-first : (script : List Command) → own_of script [] ≡ nothing
unfolding own_of
own-first script = refl

-- what an entry of a command tells of one that has this
pub told-now : (script : List Command) (moved : List Moved) (m : Moved) (c : Command) (own : Own) → own_of script moved ≡ own → slice_get script m.entry.cmd ≡ Some c → own_of script (moved ++ m ∷ []) ≡ ended m.entry.reply (told (Some c) m own)
told-now script moved m c own is its =
    own-push script moved m
    ∙ ap (λ (o : Own). own_step script o m) is
    ∙ ap (λ (oc : Option Command). ended m.entry.reply (told oc m own)) its

-- ---- commands that end by the processor alone

pub alone-told : (c : Command) (m : Moved) (own : Own) → ConvertsNothing c → m.entry.event ≡ event.Own → told (Some c) m own ≡ own_written c m.entry.reply own
alone-told (command.Alloc name order) m own is at = ap (λ (e : Event). after_alloc name e own) at
alone-told (command.Free name) m own is at = ap (λ (e : Event). after_free name e own) at
alone-told (command.Accept start len) m own is at = refl
alone-told (command.Query start len) m own is at = refl
alone-told (command.Read name off len) m own is at = refl
alone-told (command.Write name off hex) m own is at = refl
alone-told (command.Fill name off len byte) m own is at = refl
alone-told (command.Load name off) m own is at = refl
alone-told (command.Map mapping name off len direction mask) m own is at = ap (λ (e : Event). after_map mapping name off direction e own) at
alone-told (command.SyncDev mapping off len) m own is at = refl
alone-told (command.SyncCpu mapping off len) m own is at = ap (λ (e : Event). after_sync mapping m.bytes e own) at
alone-told (command.Unmap mapping skip) m own is at = ap (λ (e : Event). after_unmap mapping m.bytes e own) at
alone-told (command.DRead mapping off len) m own is at = refl
alone-told (command.DWrite mapping off hex) m own is at = refl
alone-told (command.HostRead off len) m own is at = refl
alone-told (command.HostWrite off hex) m own is at = refl
alone-told _ m own is at = absurd is

-- ---- entries that tell of nothing but the end of a command

pub quiet-now : (script : List Command) (moved : List Moved) (m : Moved) (own : Own) → own_of script moved ≡ own → ((oc : Option Command) → told oc m own ≡ own) → own_of script (moved ++ m ∷ []) ≡ ended m.entry.reply own
quiet-now script moved m own is quiet =
    own-push script moved m
    ∙ ap (λ (o : Own). own_step script o m) is
    ∙ ap (ended m.entry.reply) (quiet (slice_get script m.entry.cmd))

-- bytes are written only where the reply says so
claim-unwritten : (name : List ℕ) (off : ℕ) (more : List ℕ) (block : Option Block) (run : Option Units) (own : Own) → after_write name off more (reply_of_claim block run) own ≡ own
claim-unwritten name off more None None own = refl
claim-unwritten name off more None (Some run) own = refl
claim-unwritten name off more (Some block) run own = refl

report-unwritten : (name : List ℕ) (off : ℕ) (more : List ℕ) (for_block : Bool) (reported : Reported) (own : Own) → after_write name off more (reply_of_report for_block reported) own ≡ own
report-unwritten name off more for_block (Next span) own = refl
report-unwritten name off more true (Closed count) own = refl
report-unwritten name off more false (Closed count) own = refl
report-unwritten name off more for_block Stopped own = refl

-- a claim tells of none, whatever the command
pub claim-tells : (turned : Turn) (block : Option Block) (units run : Option Units) (own : Own) (oc : Option Command) → told oc (unmoved (entry_at turned place.Memory (event.Claim block units run) (reply_of_claim block run))) own ≡ own
claim-tells turned block units run own (Some (command.Write name off hex)) = claim-unwritten name off hex block run own
claim-tells turned block units run own (Some (command.Fill name off len byte)) = claim-unwritten name off (repeat len (byte ∷ [])) block run own
claim-tells turned block units run own _ = refl

-- nor does a report
pub report-tells : (turned : Turn) (run : Units) (calls : List ModuleCall) (stopped : Option Page) (next : Option Units) (for_block : Bool) (reported : Reported) (own : Own) (oc : Option Command)
    → told oc (unmoved (entry_at turned place.Memory (event.Report run calls stopped next) (reply_of_report for_block reported))) own ≡ own
report-tells turned run calls stopped next for_block reported own (Some (command.Write name off hex)) = report-unwritten name off hex for_block reported own
report-tells turned run calls stopped next for_block reported own (Some (command.Fill name off len byte)) = report-unwritten name off (repeat len (byte ∷ [])) for_block reported own
report-tells turned run calls stopped next for_block reported own _ = refl

-- what is held stays behind a claim
pub claim-holds : (script : List Command) (moved made : List Moved) (turned : Turn) (block : Option Block) (units run : Option Units) (answer : Option Reply) (held now : HoldingsValue) → own_of script moved ≡ own_held held → answer ≡ reply_of_claim block run → own_held now ≡ ended answer (own_held held)
    → made ≡ moved ++ unmoved (entry_at turned place.Memory (event.Claim block units run) answer) ∷ [] → own_of script made ≡ own_held now
claim-holds script moved made turned block units run answer held now holds is after made_is =
    ap (own_of script) (made_is ∙ ap (λ (r : Option Reply). moved ++ unmoved (entry_at turned place.Memory (event.Claim block units run) r) ∷ []) is)
    ∙ quiet-now script moved (unmoved (entry_at turned place.Memory (event.Claim block units run) (reply_of_claim block run))) (own_held held) holds (claim-tells turned block units run (own_held held))
    ∙ sym (after ∙ ap (λ (r : Option Reply). ended r (own_held held)) is)

-- and behind a report
pub report-holds : (script : List Command) (moved made : List Moved) (turned : Turn) (run : Units) (calls : List ModuleCall) (stopped : Option Page) (next : Option Units) (for_block : Bool) (reported : Reported) (answer : Option Reply) (held now : HoldingsValue) → own_of script moved ≡ own_held held
    → answer ≡ reply_of_report for_block reported → own_held now ≡ ended answer (own_held held) → made ≡ moved ++ unmoved (entry_at turned place.Memory (event.Report run calls stopped next) answer) ∷ [] → own_of script made ≡ own_held now
report-holds script moved made turned run calls stopped next for_block reported answer held now holds is after made_is =
    ap (own_of script) (made_is ∙ ap (λ (r : Option Reply). moved ++ unmoved (entry_at turned place.Memory (event.Report run calls stopped next) r) ∷ []) is)
    ∙ quiet-now script moved (unmoved (entry_at turned place.Memory (event.Report run calls stopped next) (reply_of_report for_block reported))) (own_held held) holds (report-tells turned run calls stopped next for_block reported (own_held held))
    ∙ sym (after ∙ ap (λ (r : Option Reply). ended r (own_held held)) is)

-- ---- allocations

-- an entry of an allocation that got no block and doesn't end it changes nothing
pub alloc-still : (script : List Command) (moved : List Moved) (m : Moved) (name : List ℕ) (order : ℕ) → slice_get script m.entry.cmd ≡ Some (command.Alloc name order) → m.entry.reply ≡ None → ((own : Own) → after_alloc name m.entry.event own ≡ own)
    → own_of script (moved ++ m ∷ []) ≡ own_of script moved
alloc-still script moved m name order its none quiet =
    let own = own_of script moved in
    own-push script moved m
    ∙ ap (λ (oc : Option Command). ended m.entry.reply (told oc m own)) its
    ∙ ap (λ (r : Option Reply). ended r (after_alloc name m.entry.event own)) none
    ∙ quiet own
