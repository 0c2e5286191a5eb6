-- The mappings of a processor after one more entry, for the tests.
use Rattle.std.proofs.Common.{◌≡◌, ℕ, Option, None, Some, List, refl, ◌∙◌, ap}
use Rattle.std.proofs.lemmas.Bool.{eq-eqb}
use Rattle.guest_base.specs.declared.transfer.SlotRun.{SlotRun}
use Rattle.event_core.specs.declared.entry.Turn.{Turn}
use Rattle.event_core.specs.declared.event.Event.{Event}
use Rattle.event_core.specs.declared.event.Event.TheVariants.{Looked}
use Rattle.event_core.specs.Pool.{live_after}
use Rattle.pool_laws.specs.Live.{is_live, live_of}
use Rattle.pool_laws.proofs.LiveLemmas.{live-of-push, live-first, live-more}
use Rattle.io_areas.specs.Value.{AreaValue, Appends, IsMine, entry_by}

live-now : (old new : AreaValue) (turn turned : Turn) (event : Event) (bytes : List ℕ) → Appends old new turn turned event bytes → live_of turned.cpu.0 new.moved ≡ live_after (live_of turn.cpu.0 old.moved) event
live-now old new turn turned event bytes appends =
    let cpu : turned.cpu.0 ≡ turn.cpu.0 = ap (λ (t : Turn). t.cpu.0) appends.clock in
    ap (λ n. live_of n new.moved) cpu ∙ ap (live_of turn.cpu.0) appends.moved
    ∙ live-of-push turn.cpu.0 old.moved (entry_by old turn event bytes) (eq-eqb turn.cpu.0 turn.cpu.0 refl)

-- an event that leaves the mappings
pub mine-still : (old new : AreaValue) (turn turned : Turn) (event : Event) (bytes : List ℕ) (run : SlotRun) → ((live : List SlotRun) → live_after live event ≡ live) → Appends old new turn turned event bytes → IsMine old turn.cpu.0 run → IsMine new turned.cpu.0 run
mine-still old new turn turned event bytes run still appends mine =
    ap (is_live run) (live-now old new turn turned event bytes appends ∙ still (live_of turn.cpu.0 old.moved)) ∙ mine

-- a look
pub mine-found : (old new : AreaValue) (turn turned : Turn) (area : ℕ) (run : SlotRun) (bytes : List ℕ) → Appends old new turn turned (Looked area (Some run)) bytes → IsMine new turned.cpu.0 run
mine-found old new turn turned area run bytes appends =
    ap (is_live run) (live-now old new turn turned (Looked area (Some run)) bytes appends) ∙ live-first run (live_of turn.cpu.0 old.moved)

pub mine-kept : (old new : AreaValue) (turn turned : Turn) (area : ℕ) (found : Option SlotRun) (bytes : List ℕ) (run : SlotRun) → Appends old new turn turned (Looked area found) bytes → IsMine old turn.cpu.0 run → IsMine new turned.cpu.0 run
mine-kept old new turn turned area None bytes run appends mine = mine-still old new turn turned (Looked area None) bytes run (λ live. refl) appends mine
mine-kept old new turn turned area (Some more) bytes run appends mine =
    ap (is_live run) (live-now old new turn turned (Looked area (Some more)) bytes appends) ∙ live-more run more (live_of turn.cpu.0 old.moved) mine
