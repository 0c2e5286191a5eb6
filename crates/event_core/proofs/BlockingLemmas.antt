use Rattle.std.proofs.Common.{◌≡◌, ℕ, Option, None, Some, List, [], refl}
use Rattle.std.specs.Prelude.{is_none}
use Rattle.std.specs.Option.{option_and_then}
use Rattle.guest_base.specs.declared.memory.Block.{Block}
use Rattle.guest_base.specs.declared.memory.Units.{Units}
use Rattle.guest_base.specs.declared.memory.PageState.{PageState}
use Rattle.guest_base.specs.declared.memory.PageState.TheVariants.{Pending, Accepted, Shared}
use Rattle.event_core.specs.declared.boot.Boot.{Boot}
use Rattle.event_core.specs.declared.command.Command.{Command}
use Rattle.event_core.specs.declared.command.Command.TheVariants as command
use Rattle.event_core.specs.declared.module_call.ModuleCall.{ModuleCall}
use Rattle.event_core.specs.declared.entry.Entry.{Entry}
use Rattle.event_core.specs.declared.reply.Reply.{Reply}
use Rattle.event_core.specs.Units.{guarded_units}
use Rattle.event_core.specs.Claims.{Claimed, claim_of}
use Rattle.event_core.specs.Moved.{Moved, entries_of}
use Rattle.event_core.specs.Holdings.{Own, Holding, block_named}
use Rattle.event_core.specs.Own.{own_of, script_of, present}
use Rattle.event_core.specs.Refusals.{refusal_of}
use Rattle.event_core.specs.Next.{Step, accept_step, alloc_step, convert_step, refused_or, unrefused_step, step_of, next_step}

-- Whether a processor is blocked doesn't depend on what the module answers.

accepting : (boot : Boot) (memory : List Entry) (claim : Option Claimed) (units : Option Units) (calls : List ModuleCall) → is_none (accept_step boot memory claim units calls) ≡ is_none (accept_step boot memory claim units [])
accepting boot memory None units calls = refl
accepting boot memory (Some claim) units calls = refl

allocating : (boot : Boot) (memory : List Entry) (claim : Option Claimed) (order : ℕ) (calls : List ModuleCall) → is_none (alloc_step boot memory claim order calls) ≡ is_none (alloc_step boot memory claim order [])
allocating boot memory None order calls = refl
allocating boot memory (Some claim) order calls = refl

converting_one : (boot : Boot) (memory : List Entry) (begun : Option Block) (block : Block) (to : PageState) (calls : List ModuleCall) → is_none (convert_step boot memory begun block to calls) ≡ is_none (convert_step boot memory begun block to [])
converting_one boot memory None block to calls = refl
converting_one boot memory (Some begun) block to calls = refl

converting : (boot : Boot) (memory : List Entry) (begun : Option Block) (h : Option Holding) (to : PageState) (calls : List ModuleCall) → is_none (option_and_then (λ (h : Holding). convert_step boot memory begun h.block to calls) h) ≡ is_none (option_and_then (λ (h : Holding). convert_step boot memory begun h.block to []) h)
converting boot memory begun None to calls = refl
converting boot memory begun (Some h) to calls = converting_one boot memory begun h.block to calls

unrefused : (boot : Boot) (cpu : ℕ) (own : Own) (there : List Moved) (c : Command) (calls : List ModuleCall) → is_none (unrefused_step boot cpu own there c calls) ≡ is_none (unrefused_step boot cpu own there c [])
unrefused boot cpu own there (command.Accept start len) calls = accepting boot (entries_of there) (claim_of boot (entries_of there) cpu) (guarded_units boot start len) calls
unrefused boot cpu own there (command.Alloc name order) calls = allocating boot (entries_of there) (claim_of boot (entries_of there) cpu) order calls
unrefused boot cpu own there (command.Share name) calls = converting boot (entries_of there) own.converting (block_named own name) Shared calls
unrefused boot cpu own there (command.Private name) calls = converting boot (entries_of there) own.converting (block_named own name) Accepted calls
unrefused boot cpu own there (command.Giveback name) calls = converting boot (entries_of there) own.converting (block_named own name) Pending calls
unrefused boot cpu own there _ calls = refl

refused : (refusal : Option Reply) (a b : Option Step) → is_none a ≡ is_none b → is_none (refused_or refusal a) ≡ is_none (refused_or refusal b)
refused None a b h = h
refused (Some r) a b h = refl

present_one : (boot : Boot) (cpu : ℕ) (own : Own) (there : List Moved) (c : Option Command) (calls : List ModuleCall) → is_none (option_and_then (λ command. step_of boot cpu own there command calls) c) ≡ is_none (option_and_then (λ command. step_of boot cpu own there command []) c)
present_one boot cpu own there None calls = refl
present_one boot cpu own there (Some c) calls = refused (refusal_of boot own c) (unrefused_step boot cpu own there c calls) (unrefused_step boot cpu own there c []) (unrefused boot cpu own there c calls)

pub blocked-same : (boot : Boot) (scripts : List (List Command)) (cpu : ℕ) (own there : List Moved) (calls : List ModuleCall) → is_none (next_step boot scripts cpu own there calls) ≡ is_none (next_step boot scripts cpu own there [])
blocked-same boot scripts cpu own there calls = present_one boot cpu (own_of (script_of scripts cpu) own) there (present scripts cpu own) calls
