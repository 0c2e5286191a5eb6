use Rattle.std.proofs.Common.{◌≡◌, ℕ, ◌+◌, ◌*◌, ◌≤◌, ◌<◌, ◌-◌, None, Some, List, [], ◌∷◌, ◌∙◌, sym, ap, arith}
use Rattle.std.specs.Prelude.{length}
use Rattle.std.proofs.lemmas.List.{length-append}
use Rattle.std.proofs.lemmas.List.Sums.{count_by-le-length}
use Rattle.guest_base.specs.declared.limits.TheConstants.{PAGE_END}
use Rattle.event_core.specs.declared.boot.Boot.{Boot}
use Rattle.event_core.specs.declared.command.Command.{Command}
use Rattle.event_core.specs.declared.entry.Entry.{Entry}
use Rattle.event_core.specs.Cut.{cut}
use Rattle.event_core.specs.Moved.{Moved}
use Rattle.page_module.specs.Spans.{Taken}
use Rattle.memory_core.specs.Waiting.{waiting_left}
use Rattle.memory_core.proofs.StepLemmas.{fewer}
use Rattle.guest_steps.specs.Ground.{Ground}
use Rattle.guest_steps.specs.Seen.{Seen, STEPS, left_by, steps_left, steps_waiting}
use Rattle.guest_steps.specs.Steps.{MakesIn}

-- The steps that a processor has left.

-- an entry is one more, and at least one step fewer is left
pub makes-spent : (old new : Seen) (before after : Ground) → MakesIn old new before after
    → length old.moved + steps_left old + steps_waiting old.boot before.memory.entries ≤ (length old.script + PAGE_END) * STEPS
    → length new.moved + steps_left new + steps_waiting new.boot after.memory.entries ≤ (length new.script + PAGE_END) * STEPS
makes-spent old new before after m spent =
    let long : length new.moved ≡ length old.moved + 1 = ap (λ (ms : List Moved). length ms) m.makes.moved ∙ length-append old.moved (m.m ∷ []) in
    let less = m.less in
    let same : (length old.script + PAGE_END) * STEPS ≡ (length new.script + PAGE_END) * STEPS = ap (λ (cs : List Command). (length cs + PAGE_END) * STEPS) (sym m.makes.same.script) in
    counted (length old.moved) (length new.moved) (steps_left old) (steps_left new) (steps_waiting old.boot before.memory.entries) (steps_waiting new.boot after.memory.entries)
    ((length old.script + PAGE_END) * STEPS) ((length new.script + PAGE_END) * STEPS) long less same spent
  where
    counted : (a b m n v u x y : ℕ) → b ≡ a + 1 → n + u < m + v → x ≡ y → a + m + v ≤ x → b + n + u ≤ y
    counted a b m n v u x y long less same spent = omega (arith, long, less, same, spent)

-- fewer blocks that aren't accepted take fewer steps
pub waiting-fewer : (boot : Boot) (memory after : List Entry) → waiting_left boot after ≤ waiting_left boot memory → steps_waiting boot after ≤ steps_waiting boot memory
waiting-fewer boot memory after less = fewer (waiting_left boot after) (waiting_left boot memory) STEPS less

-- no more blocks wait than there are
waiting-most : (boot : Boot) (memory : List Entry) → waiting_left boot memory ≤ length (cut boot)
unfolding waiting_left
waiting-most boot memory = search (arith, count_by-le-length)

-- at first all steps are left
pub first-spent : (boot : Boot) (memory : List Entry) (commands looks : ℕ) → length (cut boot) ≤ PAGE_END → 0 + ((commands - 0) * STEPS - looks) + steps_waiting boot memory ≤ (commands + PAGE_END) * STEPS
first-spent boot memory commands looks few =
    let most = waiting-most boot memory in
    let less = fewer (commands + waiting_left boot memory) (commands + PAGE_END) STEPS (omega (arith, most, few)) in
    let none : (commands - 0) * STEPS ≡ commands * STEPS = ap (λ n. n * STEPS) (let same : commands - 0 ≡ commands = omega arith in same) in
    omega (arith, less, none)

-- an allocation whose claim ended well looks again, where one block fewer is left
pub again-less : (boot : Boot) (memory after : List Entry) (commands number : ℕ) (span : Taken) → number < commands → waiting_left boot after < waiting_left boot memory
    → left_by commands number None + steps_waiting boot after < left_by commands number (Some span) + steps_waiting boot memory
again-less boot memory after commands number span some less =
    let fewer_blocks = fewer (waiting_left boot after + 1) (waiting_left boot memory) STEPS (omega (arith, less)) in
    omega (arith, fewer_blocks, some)

-- and so it is where it found the block accepted
pub cleared-less : (boot : Boot) (memory after : List Entry) (commands number : ℕ) → waiting_left boot after < waiting_left boot memory
    → left_by commands number None + steps_waiting boot after < left_by commands number None + steps_waiting boot memory
cleared-less boot memory after commands number less =
    let fewer_blocks = fewer (waiting_left boot after + 1) (waiting_left boot memory) STEPS (omega (arith, less)) in
    omega (arith, fewer_blocks)
