use Rattle.std.specs.Prelude.{ℕ, List, [], Option, None, slice_get}
use Rattle.guest_base.specs.declared.memory.Units.{Units}
use Rattle.event_core.specs.declared.boot.Boot.{Boot}
use Rattle.event_core.specs.declared.command.Command.{Command}
use Rattle.event_core.specs.Holdings.{Own}
use Rattle.event_core.specs.Moved.{Moved}
use Rattle.event_core.specs.Own.{own_of, replied}
use Rattle.page_module.specs.Spans.{Taken}
use Rattle.guest_steps.specs.Seen.{Accepted, need_by, need_for}
use Rattle.guest_steps.specs.declared.processor.Need.{Need}

-- How far a processor has come in its script (own rule).

-- How the guest was booted, the processor's number, its script, its entries with the bytes that
-- they moved, the span that is out for its open claim, what was done for this span and isn't
-- reported, the runs of the claim from the one that is out on, as they were at the claim, and for
-- how many more entries there is room.
pub record Progressed : Type 0 where
  pub boot : Boot
  pub number : ℕ
  pub script : List Command
  pub moved : List Moved
  pub out : Option Taken
  pub done : Option Accepted
  pub runs : List Units
  pub room : ℕ

-- a processor that has made no entry, and has no room
abbrev pub first_progress : Boot → ℕ → List Command → ℕ → Progressed
first_progress boot number script room = record {
  boot = boot;
  number = number;
  script = script;
  moved = [];
  out = None;
  done = None;
  runs = [];
  room = room;
}

-- what it has, as its entries tell
abbrev pub own_in : Progressed → Own
own_in p = own_of p.script p.moved

-- its present command; none where all have their reply
abbrev pub command_of : Progressed → Option Command
command_of p = slice_get p.script (replied p.moved)

-- what its next step needs
abbrev pub need_in : Progressed → Need
need_in p = need_by p.out (need_for p.boot p.number (own_in p) (command_of p))
