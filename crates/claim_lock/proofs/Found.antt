-- What the processors know stays true of the state that one of them gives back.
use Rattle.std.proofs.Common.{◌≡◌, ◌≢◌, ℕ, ◌<◌, true, false, eqb, List, [], ◌++◌, All, refl, sym, ap, ◌∙◌, subst, arith, eq-eqb, ne_eqb, append_assoc, append-nil}
use Rattle.std.proofs.lemmas.List.Elements.{All-append, All-weaker, filter-append}
use Rattle.std.proofs.lemmas.List.Prefix.{front_rest}
use Rattle.event_core.specs.Moved.{Moved, made_by}
use Rattle.event_core.specs.Parted.{Fixed, Part}
use Rattle.claim_lock.specs.declared.known.Known.{Known}
use Rattle.claim_lock.specs.Knows.{Finds, MayGive, IsOf, left_known}
use Rattle.claim_lock.proofs.Lists.{filter_all, filter_none}

-- of entries of one processor, all are made by it
pub made_alone : (cpu : ℕ) (new : List Moved) → All (IsOf cpu) new → made_by cpu new ≡ new
made_alone cpu new all = filter_all (λ (m : Moved). eqb m.entry.cpu.0 cpu) new (All-weaker (IsOf cpu) (λ (m : Moved). eqb m.entry.cpu.0 cpu ≡ true) (λ m e. eq-eqb m.entry.cpu.0 cpu e) new all)

-- and none by another
pub made_else : (cpu other : ℕ) (new : List Moved) → other ≢ cpu → All (IsOf cpu) new → made_by other new ≡ []
made_else cpu other new apart all = filter_none (λ (m : Moved). eqb m.entry.cpu.0 other) new (All-weaker (IsOf cpu) (λ (m : Moved). eqb m.entry.cpu.0 other ≡ false) (λ m e. ne_eqb m.entry.cpu.0 other (λ o. apart (sym o ∙ e))) new all)

module _ {S : Type 0} (fixed : S → Fixed) (part : S → ℕ → Part) (moved : S → List Moved) (cpu : ℕ) (taken state : S) (may : MayGive fixed part moved cpu taken state) where
  -- each entry still names a processor that there is
  pub named_still : (seats : ℕ) → cpu < seats → All (λ (m : Moved). m.entry.cpu.0 < seats) (moved taken) → All (λ (m : Moved). m.entry.cpu.0 < seats) (moved state)
  named_still seats below named =
      let P : Moved → Type 0 = λ m. m.entry.cpu.0 < seats in
      let new : List Moved = may.only_added.0 in
      let here : All P new = All-weaker (IsOf cpu) P (λ m e. let at : m.entry.cpu.0 ≡ cpu = e in omega arith) new may.only_added.2 in
      subst (λ (l : List Moved). All P l) (sym may.only_added.1) (All-append P (moved taken) new named here)

  -- what another processor knows stays true
  pub finds_still : (known : Known) → known.number ≢ cpu → cpu < known.seats → Finds fixed part moved known taken → Finds fixed part moved known state
  finds_still known apart below found = record {
    as_given = may.same_fixed ∙ found.as_given;
    as_left = may.same_others known.number apart ∙ found.as_left;
    longer = (
      found.longer.0 ++ may.only_added.0,
      may.only_added.1 ∙ (ap (λ l. l ++ may.only_added.0) found.longer.1 ∙ append_assoc known.seen found.longer.0 may.only_added.0),
    );
    own_alone =
        ap (made_by known.number) may.only_added.1
        ∙ (filter-append (λ (m : Moved). eqb m.entry.cpu.0 known.number) (moved taken) may.only_added.0
        ∙ (ap (λ l. made_by known.number (moved taken) ++ l) (made_else cpu known.number may.only_added.0 apart may.only_added.2)
        ∙ (append-nil (made_by known.number (moved taken)) ∙ found.own_alone)));
    named = named_still known.seats below found.named;
  }

  -- the entries that the state has of the processor are those that it knows from now on
  pub own_left : (known : Known) → known.number ≡ cpu → Finds fixed part moved known taken → made_by known.number (moved state) ≡ (left_known part moved known taken state).own
  own_left known same found =
      ap (made_by known.number) may.only_added.1
      ∙ (filter-append (λ (m : Moved). eqb m.entry.cpu.0 known.number) (moved taken) may.only_added.0
      ∙ ◌∙◌ {A = List Moved}
      (ap (λ l. l ++ made_by known.number may.only_added.0) found.own_alone)
      (ap (λ l. known.own ++ l)
      (ap (λ c. made_by c may.only_added.0) same
      ∙ (made_alone cpu may.only_added.0 may.only_added.2 ∙ sym (front_rest (moved state) (moved taken) may.only_added.0 may.only_added.1)))))

  -- what the processor itself knows from now on is true
  pub finds_left : (known : Known) → known.number ≡ cpu → cpu < known.seats → Finds fixed part moved known taken → Finds fixed part moved (left_known part moved known taken state) state
  finds_left known same below found = record {
    as_given = may.same_fixed ∙ found.as_given;
    as_left = refl;
    longer = ([], sym (append-nil (moved state)));
    own_alone = own_left known same found;
    named = named_still known.seats below found.named;
  }
