use Rattle.std.specs.Prelude.{ℕ, List, [], ◌∷◌, ◌++◌, Option, None, Some, ◌≡◌}
use Rattle.std.specs.Option.{option_map}
use Rattle.event_core.specs.declared.boot.Boot.{Boot}
use Rattle.event_core.specs.declared.command.Command.{Command}
use Rattle.event_core.specs.declared.command.Command.TheVariants as command
use Rattle.event_core.specs.declared.reply.Reply.{Reply}
use Rattle.event_core.specs.declared.reply.Reply.TheVariants as reply
use Rattle.event_core.specs.Bytes.{row_of}
use Rattle.event_core.specs.Holdings.{Holding, Own, block_named}
use Rattle.event_core.specs.Own.{after_write, ended}
use Rattle.event_core.specs.Refusals.{refusal_of}
use Rattle.std.specs.List.{repeat}
use Rattle.guest_cpu.specs.Progressing.{Progressed, command_of, own_in}
use Rattle.guest_cpu.specs.Stepping.{own_entry}

-- Commands that end by the processor alone (own rule).

-- what is told of a named block
abbrev pub told_of : Own → List ℕ → (Holding → Reply) → Option Reply
told_of own name tell = option_map tell (block_named own name)

-- the reply of a command that isn't refused and ends by the processor alone: bytes of its blocks,
-- that they are written, or that its mapping doesn't ask for the copy
abbrev pub reply_alone : Own → Command → Option Reply
reply_alone own (command.Read name off len) =
    told_of own name (λ (h : Holding). reply.Hex (row_of h.bytes off len))
reply_alone own (command.Write name off hex) = Some reply.Done
reply_alone own (command.Fill name off len byte) = Some reply.Done
reply_alone own (command.Load name off) =
    told_of own name (λ (h : Holding). reply.Loaded (row_of h.bytes off 8) None)
reply_alone own (command.SyncDev mapping off len) = Some reply.Done
reply_alone own (command.SyncCpu mapping off len) = Some reply.Done
reply_alone own _ = None

abbrev pub refusal_or : Option Reply → Option Reply → Option Reply
refusal_or (Some refusal) told = Some refusal
refusal_or None told = told

-- the reply of a command that ends by the processor alone
abbrev pub alone_reply : Boot → Own → Command → Option Reply
alone_reply boot own c = refusal_or (refusal_of boot own c) (reply_alone own c)

-- what a processor has behind such a command with this reply, but for the looks, and with them
abbrev pub own_written : Command → Option Reply → Own → Own
own_written (command.Write name off hex) told own = after_write name off hex told own
own_written (command.Fill name off len byte) told own =
    after_write name off (repeat len (byte ∷ [])) told own
own_written _ told own = own

abbrev pub own_behind : Command → Option Reply → Own → Own
own_behind c told own = ended told (own_written c told own)

-- the present command ended by the processor alone
pub record EndsAlone (old new : Progressed) : Type 0 where
  pub present : Command
  pub is : command_of old ≡ Some present
  pub told : Reply
  pub replies : alone_reply old.boot (own_in old) present ≡ Some told
  pub after : new ≡ record old {
    moved = old.moved ++ own_entry old told ∷ [];
    room = new.room;
  }
