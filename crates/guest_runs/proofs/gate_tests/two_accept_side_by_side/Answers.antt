use Rattle.std.proofs.Common.{◌≡◌, ℕ, suc, List, [], ◌∷◌, ◌++◌, refl, ◌∙◌, ap, subst, arith, append_assoc, length, length-append}
use Rattle.gate_port.specs.Gate.{calls_made, faults_of, room_of}
use Rattle.guest_cpu.specs.Standing.{CpuStands, seen_by}
use Rattle.guest_steps.specs.Seen.{Seen}
use Rattle.guest_steps.specs.Ground.{Ground}
use Rattle.guest_threads.specs.declared.locks.Locks.{Locks}
use Rattle.guest_threads.specs.declared.locks.Passes.{Passes}
use Rattle.guest_threads.specs.Seated.{EachSeated, Seated}
use Rattle.guest_runs.proofs.gate_tests.two_accept_side_by_side.Goals as goal

module _ {T : Type 0} (seen : T → Seen) (stands : T → Ground → Type 0) (locks : Locks) where
  as-many : (cpu : ℕ) (passes : List Passes) (all : List T) → EachSeated seen stands locks cpu passes all → length passes ≡ length all
  as-many cpu [] [] each = refl
  as-many cpu [] (c ∷ all) each = absurd each
  as-many cpu (p ∷ passes) [] each = absurd each
  as-many cpu (p ∷ passes) (c ∷ all) each = ap suc (as-many (suc cpu) passes all each.2)

  seats : (passes : List Passes) (all : List T) (p q : Passes) (c d : T) → EachSeated seen stands locks 0 (passes ++ p ∷ q ∷ []) (all ++ c ∷ d ∷ []) → length (all ++ c ∷ d ∷ []) ≡ 2 → Seated seen stands locks p c × Seated seen stands locks q d
  seats [] [] p q c d each count = (each.1, each.2.1)
  seats (x ∷ passes) [] p q c d each count =
      let same = as-many 0 ((x ∷ passes) ++ p ∷ q ∷ []) (c ∷ d ∷ []) each in
      let long = length-append (x ∷ passes) (p ∷ q ∷ []) in
      absurd (omega (arith, same, long))
  seats passes (x ∷ all) p q c d each count =
      let long = length-append (x ∷ all) (c ∷ d ∷ []) in
      absurd (omega (arith, count, long))

  -- those that were taken from the ends
  pub two-seats : (all_passes later passes : List Passes) (all_cs others all : List T) (p q : Passes) (c d : T) → EachSeated seen stands locks 0 all_passes all_cs → length all_cs ≡ 2
      → all_passes ≡ later ++ q ∷ [] → later ≡ passes ++ p ∷ [] → all_cs ≡ others ++ d ∷ [] → others ≡ all ++ c ∷ [] → Seated seen stands locks p c × Seated seen stands locks q d
  two-seats all_passes later passes all_cs others all p q c d each count at_q at_p at_d at_c =
      let ps : all_passes ≡ passes ++ p ∷ q ∷ [] = at_q ∙ ap (λ xs. xs ++ q ∷ []) at_p ∙ append_assoc passes (p ∷ []) (q ∷ []) in
      let cs : all_cs ≡ all ++ c ∷ d ∷ [] = at_d ∙ ap (λ xs. xs ++ d ∷ []) at_c ∙ append_assoc all (c ∷ []) (d ∷ []) in
      seats passes all p q c d (subst (λ xs. EachSeated seen stands locks 0 xs (all ++ c ∷ d ∷ [])) ps (subst (λ xs. EachSeated seen stands locks 0 all_passes xs) cs each)) (subst (λ xs. length xs ≡ 2) cs count)

pub run_both-one-requires-clause-first : goal.run_both-one-requires-clause-first
run_both-one-requires-clause-first g c κs =
    let made = c.in_ok-locks.field-0 in
    (two-seats (seen_by calls_made faults_of) (CpuStands calls_made faults_of room_of) made.locks made.passes.items c.take_last-others.new.self.items c.take_last-mine.new.self.items made.all.items c.take_last-other.new.self.items c.take_last-cpu.new.self.items
    c.take_last-mine.result c.take_last-others.result c.take_last-cpu.result c.take_last-other.result c.in_ok-locks.ensures.seated.each c.in_ok-locks.ensures.two
    c.take_last-others.ensures.items c.take_last-mine.ensures.items c.take_last-other.ensures.items c.take_last-cpu.ensures.items).0

pub run_both-one-requires-clause-second : goal.run_both-one-requires-clause-second
run_both-one-requires-clause-second g c κs =
    let made = c.in_ok-locks.field-0 in
    (two-seats (seen_by calls_made faults_of) (CpuStands calls_made faults_of room_of) made.locks made.passes.items c.take_last-others.new.self.items c.take_last-mine.new.self.items made.all.items c.take_last-other.new.self.items c.take_last-cpu.new.self.items
    c.take_last-mine.result c.take_last-others.result c.take_last-cpu.result c.take_last-other.result c.in_ok-locks.ensures.seated.each c.in_ok-locks.ensures.two
    c.take_last-others.ensures.items c.take_last-mine.ensures.items c.take_last-other.ensures.items c.take_last-cpu.ensures.items).1
