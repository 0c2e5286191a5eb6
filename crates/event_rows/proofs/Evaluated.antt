use Rattle.std.proofs.Common.{◌≡◌, ◌≢◌, ℕ, zero, suc, Option, None, Some, List, [], ◌∷◌, refl, sym, ap, length, inl, inr, arith}
use Rattle.std.specs.Prelude.{slice_get, All, ◌<◌}
use Rattle.guest_base.specs.Levels.{level_pages}
use Rattle.guest_base.specs.Search.{first_such, each_such, any_such, count_such, row_length}
use Rattle.guest_base.specs.declared.memory.Level.{Level}
use Rattle.event_core.specs.declared.command.Command.{Command}
use Rattle.event_core.specs.declared.reply.Reply.{Reply}
use Rattle.event_core.specs.declared.reply.Reply.TheVariants.{Count}
use Rattle.event_core.specs.Units.{guarded, bit_after, first_run, units_cleared}
use Rattle.event_core.specs.Acceptance.{fits}
use Rattle.event_core.specs.MemoryRows.{pending_in}
use Rattle.event_core.specs.Claims.{claim_of, in_the_way}
use Rattle.event_core.specs.PoolBytes.{bytes_moved}
use Rattle.event_core.specs.Next.{Step}
use Rattle.event_core.specs.Legal.{Whole, Follows, with_moved, ComesBefore}
use Rattle.event_core.specs.Moved.{Moved, made_by}
use Rattle.event_core.specs.Own.{replied}
use Rattle.event_core.specs.declared.event.Event.{Event}
use Rattle.event_core.specs.declared.event.Event.TheVariants.{Claim}
use Rattle.event_core.specs.declared.module_call.ModuleCall.{ModuleCall}
use Rattle.guest_base.specs.declared.memory.Units.{Units}
use Rattle.guest_base.specs.declared.memory.Level.TheVariants.{Small, Large}
use Rattle.event_rows.specs.Accepts.{small_guest, accepting, first_units, accepted, accepted_singly, claimed, reported, units_accepted_by, one_large, two_large}

-- what a step claims, answers or calls, as numbers that can be told apart
count_told : Option Reply → ℕ
count_told (Some (Count n)) = n
count_told _ = 0

count_of : Option Step → ℕ
unfolding count_told
count_of None = 0
count_of (Some step) = count_told step.reply

claimed_in : Event → ℕ
claimed_in (Claim block (Some units) run) = units.count
claimed_in _ = 0

claimed_by : Option Step → ℕ
unfolding claimed_in
claimed_by None = 0
claimed_by (Some step) = claimed_in step.event

size_of : Option Level → ℕ
size_of None = 0
size_of (Some level) = level_pages level

script_length : Option (List Command) → ℕ
script_length None = 0
script_length (Some script) = length script

-- nothing comes before the first entry
none-before : (P : Moved → Type 0) → All P []
none-before P k d h = absurd (omega (arith, h))

-- what holds of one entry holds of each of a list with that one alone
alone : (P : Moved → Type 0) (m : Moved) → P m → All P (m ∷ [])
alone P m p zero d h = p
alone P m p (suc k) d h = absurd (omega (arith, h))

-- the history after the claim
abbrev behind_claim : Units → List Moved
behind_claim units = record { entry = claimed units; bytes = [] } ∷ []

-- the one script's one command has its reply
all-replied : (len : ℕ) (units : Units) (calls : List ModuleCall) (count cpu : ℕ) (script : List Command) → slice_get (accepting len) cpu ≡ Some script → replied (made_by cpu (with_moved small_guest (accepting len) (claimed units ∷ reported units calls count ∷ []))) ≡ length script
unfolding script_length
all-replied len units calls count zero script h = ap script_length h
all-replied len units calls count (suc cpu) script h = cc

one-two : 1 < 2
one-two = omega arith

-- the report's stamp is greater than the claim's
rising : (units : Units) (calls : List ModuleCall) (count : ℕ) → All (λ (m : Moved). ComesBefore m.entry (reported units calls count)) (behind_claim units)
rising units calls count =
    alone (λ (m : Moved). ComesBefore m.entry (reported units calls count)) (record { entry = claimed units; bytes = [] }) (inl one-two)

page-claimed : Follows small_guest (accepting 4096) [] (claimed (first_units 1))
unfolding guarded bit_after first_run units_cleared fits pending_in claim_of in_the_way first_such each_such any_such count_such row_length
page-claimed = record { over = record { number = refl; step = refl; calls = tt; place = refl }; stamp = refl }

page-reported : Follows small_guest (accepting 4096) (behind_claim (first_units 1)) (reported (first_units 1) one_large 1)
unfolding guarded bit_after first_run units_cleared fits pending_in claim_of in_the_way first_such each_such any_such count_such row_length
page-reported = record {
  over = record { number = refl; step = refl; calls = (refl, refl, record { kind = refl; count = refl }, inr refl, refl); place = refl };
  stamp = refl;
}

pub page_accepted-whole : Whole small_guest (accepting 4096) (units_accepted_by 1 one_large 1)
unfolding bytes_moved
page_accepted-whole = record {
  legal = (page-claimed, none-before _, (page-reported, rising (first_units 1) one_large 1, tt));
  all = all-replied 4096 (first_units 1) one_large 1;
}

unit-claimed : Follows small_guest (accepting 2097152) [] (claimed (first_units 2))
unfolding guarded bit_after first_run units_cleared fits pending_in claim_of in_the_way first_such each_such any_such count_such row_length
unit-claimed = record { over = record { number = refl; step = refl; calls = tt; place = refl }; stamp = refl }

unit-reported : Follows small_guest (accepting 2097152) (behind_claim (first_units 2)) (reported (first_units 2) two_large 2)
unfolding guarded bit_after first_run units_cleared fits pending_in claim_of in_the_way first_such each_such any_such count_such row_length
unit-reported = record {
  over = record { number = refl; step = refl; calls = (refl, refl, record { kind = refl; count = refl }, inr refl, (refl, refl, record { kind = refl; count = refl }, inr refl, refl)); place = refl };
  stamp = refl;
}

pub unit_accepted-whole : Whole small_guest (accepting 2097152) (units_accepted_by 2 two_large 2)
unfolding bytes_moved
unit_accepted-whole = record {
  legal = (unit-claimed, none-before _, (unit-reported, rising (first_units 2) two_large 2, tt));
  all = all-replied 2097152 (first_units 2) two_large 2;
}

pub page_miscounted-not : (count : ℕ) → count ≢ 1 → Whole small_guest (accepting 4096) (units_accepted_by 1 one_large count) → ⊥
unfolding count_of count_told guarded bit_after first_run units_cleared fits pending_in claim_of in_the_way first_such each_such any_such count_such row_length
page_miscounted-not count other whole = let e : 1 ≡ count = ap count_of whole.legal.2.0.over.step in other (sym e)

pub unit_miscounted-not : (count : ℕ) → count ≢ 2 → Whole small_guest (accepting 2097152) (units_accepted_by 2 two_large count) → ⊥
unfolding count_of count_told guarded bit_after first_run units_cleared fits pending_in claim_of in_the_way first_such each_such any_such count_such row_length
unit_miscounted-not count other whole = let e : 2 ≡ count = ap count_of whole.legal.2.0.over.step in other (sym e)

pub page_unreported-not : Whole small_guest (accepting 4096) (claimed (first_units 1) ∷ []) → ⊥
page_unreported-not whole = let e : 0 ≡ 1 = whole.all 0 _ refl in absurd (omega (arith, e))

pub unit_unreported-not : Whole small_guest (accepting 2097152) (claimed (first_units 2) ∷ []) → ⊥
unit_unreported-not whole = let e : 0 ≡ 1 = whole.all 0 _ refl in absurd (omega (arith, e))

pub page_accepted_small-not : Whole small_guest (accepting 4096) (units_accepted_by 1 (accepted Small 1024 1 ∷ []) 1) → ⊥
unfolding size_of guarded bit_after first_run units_cleared fits pending_in claim_of in_the_way first_such each_such any_such count_such row_length
page_accepted_small-not whole = let e : 512 ≡ 1 = ap size_of whole.legal.2.0.over.calls.1 in absurd (omega (arith, e))

pub page_accepted_singly-not : Whole small_guest (accepting 4096) (units_accepted_by 1 (accepted_singly 1024 512) 1) → ⊥
unfolding size_of guarded bit_after first_run units_cleared fits pending_in claim_of in_the_way first_such each_such any_such count_such row_length
page_accepted_singly-not whole = let e : 512 ≡ 1 = ap size_of whole.legal.2.0.over.calls.1 in absurd (omega (arith, e))

pub unit_accepted_small-not : Whole small_guest (accepting 2097152) (units_accepted_by 2 (accepted Large 1024 512 ∷ accepted Small 1536 1 ∷ []) 2) → ⊥
unfolding size_of guarded bit_after first_run units_cleared fits pending_in claim_of in_the_way first_such each_such any_such count_such row_length
unit_accepted_small-not whole = let e : 512 ≡ 1 = ap size_of whole.legal.2.0.over.calls.4.1 in absurd (omega (arith, e))

pub unit_unguarded-not : Whole small_guest (accepting 2097152) (units_accepted_by 1 one_large 1) → ⊥
unfolding claimed_by claimed_in guarded bit_after first_run units_cleared fits pending_in claim_of in_the_way first_such each_such any_such count_such row_length
unit_unguarded-not whole = let e : 2 ≡ 1 = ap claimed_by whole.legal.0.over.step in absurd (omega (arith, e))
