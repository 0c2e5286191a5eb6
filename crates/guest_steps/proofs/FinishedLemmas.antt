use Rattle.std.proofs.Common.{◌≡◌, ℕ, ◌+◌, ◌≤◌, Bool, true, false, cond, Option, None, Some, List, [], ◌∷◌, ◌++◌, refl, sym, ◌∙◌, ap, arith, slice_get}
use Rattle.std.specs.Prelude.{length, is_some}
use Rattle.std.specs.Option.{option_map}
use Rattle.std.proofs.lemmas.List.Sums.{count_by-le-length, sum_by-append}
use Rattle.std.proofs.lemmas.Option.{slice_get-map, slice_get_within}
use Rattle.event_core.specs.declared.boot.Boot.{Boot}
use Rattle.event_core.specs.declared.command.Command.{Command}
use Rattle.event_core.specs.declared.command.Command.TheVariants as command
use Rattle.event_core.specs.declared.reply.Reply.{Reply}
use Rattle.event_core.specs.Holdings as holdings
use Rattle.event_core.specs.Moved.{Moved}
use Rattle.event_core.specs.OwnRows.{is_inside}
use Rattle.event_core.specs.Own.{replied}
use Rattle.event_core.specs.Refusals.{refusal_of}
use Rattle.guest_history.specs.Agreeing.{AllReplied}
use Rattle.page_module.specs.Spans.{Taken}
use Rattle.guest_steps.specs.declared.processor.Need.{Need}
use Rattle.guest_steps.specs.declared.processor.Need.TheVariants as need
use Rattle.guest_steps.specs.Ground.{Ground, there_in}
use Rattle.guest_steps.specs.Running.{AllFinished}
use Rattle.guest_steps.specs.Seen.{Seen, command_number, need_by, need_for, need_of, need_of_copy, need_of_load, need_of_mapping, need_unless_refused, need_unrefused, own_now, present_command}
use Rattle.guest_steps.specs.Standing.{Stands, Together, kept_by, scripts_of}
use Rattle.guest_steps.proofs.BeginningLemmas.{all-got}
use Rattle.guest_steps.proofs.FollowLemmas.{each-prefix}
use Rattle.guest_steps.proofs.ListLemmas.{past-none}
use Rattle.guest_steps.proofs.TogetherLemmas.{moved-some}

-- A processor that is finished has replied to every command.

-- ---- no command is left

need-load : (held : Option holdings.Holding) (off : ℕ) → need_of_load held off ≡ need.Finished → ⊥
need-load None off is = cc
need-load (Some h) off is = either (is_inside h.block off) is where
  either : (inside : Bool) → cond inside need.Own need.Memory ≡ need.Finished → ⊥
  either true is = cc
  either false is = cc

need-copy : (held : Option holdings.Mapping) (asks : holdings.Mapping → Bool) → need_of_copy held asks ≡ need.Finished → ⊥
need-copy None asks is = cc
need-copy (Some m) asks is = either (asks m) is where
  either : (asked : Bool) → cond asked (need.Area m.run.area) need.Own ≡ need.Finished → ⊥
  either true is = cc
  either false is = cc

need-mapping : (held : Option holdings.Mapping) → need_of_mapping held ≡ need.Finished → ⊥
need-mapping None is = cc
need-mapping (Some m) is = cc

need-unrefused : (boot : Boot) (cpu : ℕ) (own : holdings.Own) (c : Command) → need_unrefused boot cpu own c ≡ need.Finished → ⊥
need-unrefused boot cpu own (command.Load name off) is = need-load (holdings.block_named own name) off is
need-unrefused boot cpu own (command.SyncDev mapping off len) is = need-copy (holdings.mapping_named own mapping) (λ (m : holdings.Mapping). holdings.asks_in m.direction) is
need-unrefused boot cpu own (command.SyncCpu mapping off len) is = need-copy (holdings.mapping_named own mapping) (λ (m : holdings.Mapping). holdings.asks_out m.direction) is
need-unrefused boot cpu own (command.Unmap mapping skip) is = need-mapping (holdings.mapping_named own mapping) is
need-unrefused boot cpu own (command.DRead mapping off len) is = need-mapping (holdings.mapping_named own mapping) is
need-unrefused boot cpu own (command.DWrite mapping off hex) is = need-mapping (holdings.mapping_named own mapping) is
need-unrefused boot cpu own _ is = cc

need-refused : (refusal : Option Reply) (unrefused : Need) → (unrefused ≡ need.Finished → ⊥) → need_unless_refused refusal unrefused ≡ need.Finished → ⊥
need-refused None unrefused not is = not is
need-refused (Some refusal) unrefused not is = cc

need-none : (boot : Boot) (cpu : ℕ) (own : holdings.Own) (c : Option Command) → need_for boot cpu own c ≡ need.Finished → c ≡ None
need-none boot cpu own None is = refl
need-none boot cpu own (Some c) is = absurd (need-refused (refusal_of boot own c) (need_unrefused boot cpu own c) (need-unrefused boot cpu own c) is)

need-rests : (out : Option Taken) (at_rest : Need) → need_by out at_rest ≡ need.Finished → at_rest ≡ need.Finished
need-rests None at_rest is = is
need-rests (Some span) at_rest is = cc

pub finished-none : (c : Seen) → need_of c ≡ need.Finished → present_command c ≡ None
finished-none c is =
    need-none c.boot c.number (own_now c) (present_command c)
    (need-rests c.out (need_for c.boot c.number (own_now c) (present_command c)) is)

-- ---- no more replies than commands

replied-more : (own : List Moved) (m : Moved) → replied (own ++ m ∷ []) ≤ replied own + 1
replied-more own m =
    let both = sum_by-append (λ (x : Moved). cond (is_some x.entry.reply) 1 0) own (m ∷ []) in
    let one = count_by-le-length (λ (x : Moved). is_some x.entry.reply) (m ∷ []) in
    omega (arith, both, one)

pub replied-low : (c : Seen) (base : Ground) → Stands c base → replied c.moved ≤ length c.script
replied-low c base stands =
    each-prefix c (there_in base) (λ own. replied own ≤ length c.script) stands.follows stands.named (omega arith)
    (λ own there m t low.
    let below = slice_get_within c.script (replied own) t.command t.its in
    let more = replied-more own m in
    omega (arith, below, more))

-- a finished processor has replied to all
pub finished-replied : (c : Seen) (base : Ground) → Stands c base → need_of c ≡ need.Finished → replied c.moved ≡ length c.script
finished-replied c base stands is =
    let low = replied-low c base stands in
    let high = past-none c.script (command_number c) (finished-none c is) in
    omega (arith, low, high)

-- whose script it is
script-owner : (all : List Seen) (cpu : ℕ) (script : List Command) (found : Option Seen) → slice_get all cpu ≡ found → slice_get (scripts_of all) cpu ≡ Some script
    → (c : Seen) × (slice_get all cpu ≡ Some c) × (c.script ≡ script)
script-owner all cpu script None is at =
    let no : None ≡ Some script = sym (slice_get-map (λ (x : Seen). x.script) all cpu ∙ ap (option_map (λ (x : Seen). x.script)) is) ∙ at in
    cc
script-owner all cpu script (Some c) is at =
    let one : Some c.script ≡ Some script = sym (slice_get-map (λ (x : Seen). x.script) all cpu ∙ ap (option_map (λ (x : Seen). x.script)) is) ∙ at in
    (c, is, (let same : c.script ≡ script = cc in same))

pub all-replied : (boot : Boot) (all : List Seen) (base : Ground) → Together boot all base → AllFinished all → AllReplied (scripts_of all) (kept_by all base)
all-replied boot all base t finished cpu script at =
    let o = script-owner all cpu script (slice_get all cpu) refl at in
    let was = t.each cpu o.0 o.1 in
    ap replied (moved-some all cpu o.0 o.1)
    ∙ finished-replied o.0 base was.2 (all-got (λ (x : Seen). need_of x ≡ need.Finished) all cpu o.0 finished o.1)
    ∙ ap (λ (s : List Command). length s) o.2
