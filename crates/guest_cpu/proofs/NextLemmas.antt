use Rattle.std.proofs.Common.{◌≡◌, ℕ, ◌+◌, max, Bool, true, false, Option, None, Some, List, [], refl, sym, ◌∙◌, ap, subst, map, arith}
use Rattle.std.specs.Prelude.{is_none, unwrap_or}
use Rattle.std.specs.Option.{option_and_then, option_map}
use Rattle.guest_base.specs.declared.memory.Block.{Block}
use Rattle.guest_base.specs.declared.memory.Page.{Page}
use Rattle.event_core.specs.declared.boot.Boot.{Boot}
use Rattle.event_core.specs.declared.command.Command.{Command}
use Rattle.event_core.specs.declared.command.Command.TheVariants as command
use Rattle.event_core.specs.declared.entry.Entry.{Entry}
use Rattle.event_core.specs.declared.entry.Place.TheVariants as place
use Rattle.event_core.specs.declared.event.Event.{Event}
use Rattle.event_core.specs.declared.event.Event.TheVariants as event
use Rattle.event_core.specs.declared.module_call.ModuleCall.{ModuleCall}
use Rattle.event_core.specs.declared.reply.Found.{Found}
use Rattle.event_core.specs.declared.reply.Reply.{Reply}
use Rattle.event_core.specs.declared.reply.Reply.TheVariants as reply
use Rattle.event_core.specs.Bytes.{row_of}
use Rattle.event_core.specs.Calls.{calls_in}
use Rattle.event_core.specs.Claims.{Claimed}
use Rattle.event_core.specs.Holdings.{Holding, Own, block_named}
use Rattle.event_core.specs.Legal.{CallsFit, greatest_stamp, place_of}
use Rattle.event_core.specs.MemoryRows.{report_event, some_unaccepted}
use Rattle.event_core.specs.Moved.{Moved, entries_of}
use Rattle.event_core.specs.Next.{Step, load_step, next_step, refused_or, replied_by, step_of, stray_step, unrefused_step}
use Rattle.event_core.specs.Own.{own_of, replied, script_of}
use Rattle.event_core.specs.OwnRows.{found_at, is_inside, page_behind, strayed_bytes}
use Rattle.event_core.specs.PoolBytes.{bytes_moved, given_bytes, taken_bytes, writes_at}
use Rattle.event_core.specs.Refusals.{memory_range_refusal, refusal_of}
use Rattle.event_core.specs.Units.{guarded_units}
use Rattle.event_core.proofs.BlockingLemmas.{blocked-same}
use Rattle.memory_core.specs.Steps.{last_stamp}
use Rattle.memory_core.specs.UnderLock.{unmoved}
use Rattle.memory_core.proofs.UnderLockLemmas.{greatest-last}
use Rattle.io_areas.specs.Value.{AreaValue}
use Rattle.guest_steps.specs.Seen.{Seen, need_for, own_now, present_command}
use Rattle.guest_steps.specs.Steps.{HaveScript, IsBusy, IsNext}
use Rattle.guest_steps.specs.declared.processor.Need.TheVariants as need
use Rattle.guest_steps.proofs.OwnStepLemmas.{next-is}
use Rattle.guest_steps.proofs.StepLemmas.{entries-unmoved}
use Rattle.guest_cpu.specs.Accessing.{moved_for}
use Rattle.guest_cpu.specs.Alone.{alone_reply}
use Rattle.guest_cpu.proofs.AloneLemmas.{alone-step}

-- What a processor's next entry is.

-- the next step is that of the present command, whatever the other scripts
pub next-now : (c : Seen) (scripts : List (List Command)) (there : List Moved) (calls : List ModuleCall) (command : Command) → HaveScript scripts c → present_command c ≡ Some command
    → next_step c.boot scripts c.number c.moved there calls ≡ step_of c.boot c.number (own_now c) there command calls
next-now c scripts there calls command have now =
    next-is c scripts there calls have ∙ ap (option_and_then (λ (x : Command). step_of c.boot c.number (own_now c) there x calls)) now

-- an event that moves no byte
abbrev pub MovesNone : Event → Type 0
MovesNone event = (boot : Boot) (script : List Command) (own : Own) (there : List Moved) (e : Entry) → e.event ≡ event → [] ≡ bytes_moved boot script own there e

pub own-moves : MovesNone event.Own
unfolding bytes_moved
own-moves boot script own there e is = rw is refl

pub asked-moves : (found : Bool) → MovesNone (event.Asked found)
unfolding bytes_moved
asked-moves found boot script own there e is = rw is refl

pub freed-moves : (block : Block) → MovesNone (event.Freed block)
unfolding bytes_moved
freed-moves block boot script own there e is = rw is refl

pub touched-moves : (page : Page) (found : Found) → MovesNone (event.Touched page found)
unfolding bytes_moved
touched-moves page found boot script own there e is = rw is refl

pub report-moves : (boot' : Boot) (claim : Claimed) (calls : List ModuleCall) → MovesNone (report_event boot' claim calls)
unfolding bytes_moved
report-moves boot' claim calls boot script own there e is = rw is refl

-- ---- under the memory's lock

-- an entry of a processor with this event and reply
abbrev pub entry_of_step : Seen → List Entry → Event → Option Reply → Entry
entry_of_step c memory event reply = record {
  stamp = max (greatest_stamp c.moved) (last_stamp memory) + 1;
  cpu = record { 0 = c.number };
  cmd = replied c.moved;
  place = place.Memory;
  event = event;
  reply = reply;
}

-- the entry is the processor's next one behind the memory's, and so it isn't idle
pub record NextThere (c : Seen) (memory : List Entry) (e : Entry) : Type 0 where
  pub next : IsNext c (map unmoved memory) (unmoved e)
  pub busy : IsBusy c memory

-- a step that isn't refused, of the present command, is the processor's next entry
pub memory-next : (c : Seen) (memory : List Entry) (command : Command) (event : Event) (reply : Option Reply) → present_command c ≡ Some command → refusal_of c.boot (own_now c) command ≡ None
    → unrefused_step c.boot c.number (own_now c) (map unmoved memory) command (calls_in event) ≡ Some (record { event = event; reply = reply })
    → CallsFit c.boot memory event → place.Memory ≡ place_of c.boot event → MovesNone event
    → NextThere c memory (entry_of_step c memory event reply)
memory-next c memory command event reply now fine steps fits place moves =
    let there = map unmoved memory in
    let own = own_now c in
    let step : (scripts : List (List Command)) → HaveScript scripts c → next_step c.boot scripts c.number c.moved there (calls_in event) ≡ Some (record { event = event; reply = reply }) =
    (λ scripts have. next-now c scripts there (calls_in event) command have now ∙ ap (λ (r : Option Reply). refused_or r (unrefused_step c.boot c.number own there command (calls_in event))) fine ∙ steps) in
    let F : List Entry → Type 0 = λ es. CallsFit c.boot es event in
    record {
      next = record {
        mine = refl;
        follows = λ scripts have. record {
          over = record { number = refl; step = step scripts have; calls = subst F (sym (entries-unmoved memory)) fits; place = place };
          stamp = ap (λ (n : ℕ). max (greatest_stamp c.moved) n + 1) (sym (greatest-last memory));
          bytes = moves c.boot (script_of scripts c.number) (own_of (script_of scripts c.number) c.moved) there (entry_of_step c memory event reply) refl;
        };
      };
      busy = λ scripts have. sym (blocked-same c.boot scripts c.number c.moved there (calls_in event)) ∙ ap (λ (s : Option Step). is_none s) (step scripts have);
    }

-- whether a range of memory has an unaccepted unit
pub query-next : (c : Seen) (memory : List Entry) (start len : ℕ) → memory_range_refusal start len ≡ None → present_command c ≡ Some (command.Query start len)
    → (let found = some_unaccepted c.boot memory (guarded_units c.boot start len) in NextThere c memory (entry_of_step c memory (event.Asked found) (Some (reply.Query found))))
query-next c memory start len fine now =
    let found = some_unaccepted c.boot memory (guarded_units c.boot start len) in
    let S : List Entry → Step = λ es. record { event = event.Asked (some_unaccepted c.boot es (guarded_units c.boot start len)); reply = Some (reply.Query (some_unaccepted c.boot es (guarded_units c.boot start len))) } in
    memory-next c memory (command.Query start len) (event.Asked found) (Some (reply.Query found)) now fine (ap (λ (es : List Entry). Some (S es)) (entries-unmoved memory)) tt refl (asked-moves found)

-- a block is freed
pub free-next : (c : Seen) (memory : List Entry) (name : List ℕ) (h : Holding) → present_command c ≡ Some (command.Free name) → refusal_of c.boot (own_now c) (command.Free name) ≡ None → block_named (own_now c) name ≡ Some h
    → NextThere c memory (entry_of_step c memory (event.Freed h.block) (Some reply.Done))
free-next c memory name h now fine named =
    memory-next c memory (command.Free name) (event.Freed h.block) (Some reply.Done) now fine
    (ap (option_and_then (λ (x : Holding). replied_by (event.Freed x.block) reply.Done)) named) tt refl (freed-moves h.block)

-- a load that ends past its block
load-step : (boot : Boot) (memory : List Entry) (h : Holding) (off : ℕ) → is_inside h.block off ≡ false → load_step boot memory h off ≡ stray_step boot memory h off
load-step boot memory h off outside = ap by outside
  where
    by : Bool → Option Step
    by b = elim b as (λ _. Option Step) [ true ↦ replied_by event.Own (reply.Loaded (row_of h.bytes off 8) None) | false ↦ stray_step boot memory h off ]

pub stray-next : (c : Seen) (memory : List Entry) (name : List ℕ) (off : ℕ) (h : Holding) (found : Found) → present_command c ≡ Some (command.Load name off) → refusal_of c.boot (own_now c) (command.Load name off) ≡ None
    → block_named (own_now c) name ≡ Some h → is_inside h.block off ≡ false → found_at c.boot memory (page_behind h.block) ≡ Some found
    → (let page : Page = record { 0 = page_behind h.block } in NextThere c memory (entry_of_step c memory (event.Touched page found) (Some (reply.Loaded (strayed_bytes h off) (Some found)))))
stray-next c memory name off h found now fine named outside is =
    let page : Page = record { 0 = page_behind h.block } in
    let S : Found → Step = λ f. record { event = event.Touched page f; reply = Some (reply.Loaded (strayed_bytes h off) (Some f)) } in
    memory-next c memory (command.Load name off) (event.Touched page found) (Some (reply.Loaded (strayed_bytes h off) (Some found))) now fine
    (ap (option_and_then (λ (x : Holding). load_step c.boot _ x off)) named
    ∙ load-step c.boot _ h off outside
    ∙ ap (λ (es : List Entry). stray_step c.boot es h off) (entries-unmoved memory)
    ∙ ap (option_map S) is)
    tt refl (touched-moves page found)

-- ---- by the processor alone

abbrev pub alone_entry : Seen → Reply → Entry
alone_entry c told = record {
  stamp = greatest_stamp c.moved + 1;
  cpu = record { 0 = c.number };
  cmd = replied c.moved;
  place = place.Own;
  event = event.Own;
  reply = Some told;
}

-- a command that ends by the processor alone
pub alone-next : (c : Seen) (command : Command) (told : Reply) → present_command c ≡ Some command → need_for c.boot c.number (own_now c) (Some command) ≡ need.Own → alone_reply c.boot (own_now c) command ≡ Some told
    → IsNext c [] (unmoved (alone_entry c told))
alone-next c command told now asks is = record {
  mine = refl;
  follows = λ scripts have. record {
    over = record {
      number = refl;
      step = next-now c scripts [] [] command have now ∙ alone-step c.boot c.number (own_now c) [] command told asks is;
      calls = tt;
      place = refl;
    };
    stamp = max-zero (greatest_stamp c.moved);
    bytes = own-moves c.boot (script_of scripts c.number) (own_of (script_of scripts c.number) c.moved) [] (alone_entry c told) refl;
  };
}
  where
    max-zero : (n : ℕ) → n + 1 ≡ max n 0 + 1
    max-zero n = omega arith

-- ---- in an area

-- an entry that moved these bytes
abbrev pub entry_in_area : Seen → AreaValue → Event → Option Reply → List ℕ → Moved
entry_in_area c area event reply bytes = record {
  entry = record {
    stamp = max (greatest_stamp c.moved) (greatest_stamp area.moved) + 1;
    cpu = record { 0 = c.number };
    cmd = replied c.moved;
    place = place.Area area.number;
    event = event;
    reply = reply;
  };
  bytes = bytes;
}

-- the bytes that an event of a command moves, by the command that it is of
abbrev moved_by : Boot → Own → List Moved → Event → Option Command → List ℕ
moved_by boot own there event oc = elim (writes_at boot event) as (λ _. List ℕ) [ Some at ↦ given_bytes own oc | None ↦ taken_bytes boot there event ]

-- a step there that isn't refused, of the present command, is the processor's next entry
pub area-next : (c : Seen) (area : AreaValue) (command : Command) (event : Event) (reply : Option Reply) (bytes : List ℕ) → present_command c ≡ Some command → refusal_of c.boot (own_now c) command ≡ None
    → unrefused_step c.boot c.number (own_now c) area.moved command [] ≡ Some (record { event = event; reply = reply }) → calls_in event ≡ [] → CallsFit c.boot (entries_of area.moved) event → place.Area area.number ≡ place_of c.boot event
    → bytes ≡ moved_for c.boot (own_now c) area.moved command event
    → IsNext c area.moved (entry_in_area c area event reply bytes)
unfolding bytes_moved
area-next c area command event reply bytes now fine steps quiet fits place moves =
    let own = own_now c in
    let R : List ModuleCall → Type 0 = λ cs. unrefused_step c.boot c.number own area.moved command cs ≡ Some (record { event = event; reply = reply }) in
    let S : List Command → Type 0 = λ script. bytes ≡ bytes_moved c.boot script (own_of script c.moved) area.moved (entry_in_area c area event reply bytes).entry in
    let here : S c.script = moves ∙ ap (moved_by c.boot own area.moved event) (sym now) in
    record {
      mine = refl;
      follows = λ scripts have. record {
        over = record {
          number = refl;
          step = next-now c scripts area.moved (calls_in event) command have now
              ∙ ap (λ (r : Option Reply). refused_or r (unrefused_step c.boot c.number own area.moved command (calls_in event))) fine
              ∙ subst R (sym quiet) steps;
          calls = fits;
          place = place;
        };
        stamp = refl;
        bytes = subst S (sym (ap (λ (o : Option (List Command)). unwrap_or o []) have)) here;
      };
    }
