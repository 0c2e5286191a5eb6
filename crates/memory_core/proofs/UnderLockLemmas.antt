use Rattle.std.proofs.Common.{◌≡◌, ◌≢◌, ℕ, ◌≤◌, max, true, false, Option, None, Some, List, [], ◌∷◌, ◌++◌, refl, sym, ◌∙◌, ap, subst, arith, append-nil, append_assoc, inl, inr, cond, map}
use Rattle.std.specs.Prelude.{IfSome, fold, ◌==◌}
use Rattle.std.specs.Option.{option_map}
use Rattle.std.proofs.lemmas.Bool.{cases_eq, eq-eqb, ne_eqb}
use Rattle.std.proofs.lemmas.List.{append_cancel_left, map-append}
use Rattle.std.proofs.lemmas.List.Elements.{All-nil, All-cons, All-head, All-tail, All-append, filter-append}
use Rattle.guest_base.specs.declared.memory.Pages.{Pages}
use Rattle.event_core.specs.declared.boot.Boot.{Boot}
use Rattle.event_core.specs.declared.entry.Entry.{Entry}
use Rattle.event_core.specs.declared.entry.Turn.{Turn}
use Rattle.event_core.specs.declared.event.Event.{Event}
use Rattle.event_core.specs.declared.module_call.ModuleCall.{ModuleCall}
use Rattle.event_core.specs.Calls.{calls_of}
use Rattle.event_core.specs.Claims.{Claimed, claim_of, claim_step}
use Rattle.event_core.specs.Legal.{greatest_stamp}
use Rattle.event_core.specs.Moved.{Moved, made_by}
use Rattle.event_core.specs.Parted.{Fixed, Part}
use Rattle.event_core.proofs.RisingLemmas.{filter-at}
use Rattle.event_core.proofs.StandingLemmas.{claim_of-push}
use Rattle.page_module.specs.Spans.{Taken}
use Rattle.accept_sizes.specs.declared.accept.RunEnd.{RunEnd}
use Rattle.claim_lock.specs.Knows.{Finds, MayGive, IsOf}
use Rattle.claim_lock.specs.declared.known.Known.{Known}
use Rattle.memory_core.specs.contracts.memory.MemoryParted.TheImpl.{ghosts}
use Rattle.memory_core.specs.Answers.{OthersKeep}
use Rattle.memory_core.specs.Away.{NoneOf, BringsSince, FoundAgain, MayReport, WaitingFalls}
use Rattle.memory_core.specs.Steps.{Appends, BringsTo, bare_entry, last_stamp}
use Rattle.memory_core.specs.UnderLock.{fixed_of, part_of, moved_of, unmoved, claim_part, pages_out, room_kept}
use Rattle.memory_core.specs.Value.{MemoryValue, Handed, handed_to}
use Rattle.memory_core.proofs.StepLemmas.{claim-other}

-- ---- what a processor may have done when it gives the lock back

abbrev pub MayGiveBack : ℕ → MemoryValue → MemoryValue → Type 0
MayGiveBack cpu old new = MayGive ghosts.fixed ghosts.part ghosts.moved cpu old new

-- a part of what the memory has for a processor
abbrev part_by : Boot → Option Claimed → Option Handed → Part
part_by boot claim handed = record { claim = option_map (claim_part boot) claim; converting = None; out = pages_out handed; room = room_kept handed; live = [] }

part-same : (old new : MemoryValue) (cpu : ℕ) → new.boot ≡ old.boot → claim_of new.boot new.entries cpu ≡ claim_of old.boot old.entries cpu → handed_to new cpu ≡ handed_to old cpu → part_of new cpu ≡ part_of old cpu
part-same old new cpu boot claim handed =
    ap (λ b. part_by b (claim_of new.boot new.entries cpu) (handed_to new cpu)) boot
    ∙ ap (λ c. part_by old.boot c (handed_to new cpu)) claim
    ∙ ap (λ h. part_by old.boot (claim_of old.boot old.entries cpu) h) handed

fixed-same : (old new : MemoryValue) → new.boot ≡ old.boot → fixed_of new ≡ fixed_of old
fixed-same old new boot = ap (λ b. let f : Fixed = record { boot = Some b; areas = [] } in f) boot

-- a step that appends its entry and leaves what is out with the others
pub may-give-step : (old new : MemoryValue) (turn turned : Turn) (event : Event) → Appends old new turn turned event → OthersKeep old new turn.cpu.0 → MayGiveBack turn.cpu.0 old new
may-give-step old new turn turned event appends others = record {
  same_fixed = fixed-same old new appends.boot;
  same_others = λ other differ.
      part-same old new other appends.boot
      (ap (λ b. claim_of b new.entries other) appends.boot ∙ ap (λ es. claim_of old.boot es other) appends.entries ∙ claim-other old.boot old.entries turn (last_stamp old.entries) event other differ)
      (others.handed other differ);
  only_added = (
    unmoved (bare_entry turn (last_stamp old.entries) event) ∷ [],
    ap (map unmoved) appends.entries ∙ map-append unmoved old.entries (bare_entry turn (last_stamp old.entries) event ∷ []),
    All-cons (IsOf turn.cpu.0) (unmoved (bare_entry turn (last_stamp old.entries) event)) [] refl (All-nil (IsOf turn.cpu.0)),
  );
}

-- a call that changes neither the entries nor what is out, as `reserve`, or a blocked claim
pub may-give-still : (cpu : ℕ) (old new : MemoryValue) → new.boot ≡ old.boot → new.entries ≡ old.entries → new.out ≡ old.out → MayGiveBack cpu old new
may-give-still cpu old new boot entries out = record {
  same_fixed = fixed-same old new boot;
  same_others = λ other differ. ap (λ m. part_of m other) (let same : seen_by new.boot new.entries new.out 0 ≡ seen_by old.boot old.entries old.out 0 = all in same);
  only_added = ([], ap (map unmoved) entries ∙ sym (append-nil (map unmoved old.entries)), All-nil (IsOf cpu));
}
  where
    seen_by : Boot → List Entry → List (Option Handed) → ℕ → MemoryValue
    seen_by b es hs n = record { boot = b; entries = es; out = hs; room = n }

    all : seen_by new.boot new.entries new.out 0 ≡ seen_by old.boot old.entries old.out 0
    all = ap (λ b. seen_by b new.entries new.out 0) boot ∙ ap (λ es. seen_by old.boot es new.out 0) entries ∙ ap (λ hs. seen_by old.boot old.entries hs 0) out

-- ---- what a processor finds when it takes the lock again

-- the memory's last stamp is the greatest of its entries
greatest-from : (from : ℕ) (entries : List Entry) → fold (λ greatest (m : Moved). max greatest m.entry.stamp) from (map unmoved entries) ≡ fold (λ last (e : Entry). max last e.stamp) from entries
greatest-from from [] = refl
greatest-from from (e ∷ es) = greatest-from (max from e.stamp) es

pub greatest-last : (entries : List Entry) → greatest_stamp (map unmoved entries) ≡ last_stamp entries
greatest-last entries = greatest-from 0 entries

-- the entries that were added, without their bytes
added-entries : (all first : List Entry) (rest : List Moved) → map unmoved all ≡ map unmoved first ++ rest → (es : List Entry) × (all ≡ first ++ es) × (rest ≡ map unmoved es)
added-entries all [] rest is = (all, refl, sym is)
added-entries [] (e ∷ first) rest is = cc
added-entries (x ∷ all) (e ∷ first) rest is =
    let head : unmoved x ≡ unmoved e = cc in
    let tail : map unmoved all ≡ map unmoved first ++ rest = cc in
    let found = added-entries all first rest tail in
    (found.0, ap (λ (m : Moved). m.entry ∷ all) head ∙ ap (λ es. e ∷ es) found.1, found.2)

-- where a processor has no more of the entries, the added ones are others'
none-made : (cpu : ℕ) (first : List Moved) (es : List Entry) → made_by cpu (first ++ map unmoved es) ≡ made_by cpu first → NoneOf cpu es
none-made cpu first es same =
    none es (append_cancel_left (made_by cpu first) (made_by cpu (map unmoved es)) [] (sym (filter-append (λ (m : Moved). m.entry.cpu.0 == cpu) first (map unmoved es)) ∙ same ∙ sym (append-nil (made_by cpu first))))
  where
    none : (xs : List Entry) → made_by cpu (map unmoved xs) ≡ [] → NoneOf cpu xs
    none [] is = All-nil (λ (e : Entry). e.cpu.0 ≢ cpu)
    none (x ∷ xs) is = elim (cases_eq x.cpu.0 cpu) [
      | inl mine ↦
          (let bad : unmoved x ∷ made_by cpu (map unmoved xs) ≡ [] = sym (filter-at (λ (m : Moved). m.entry.cpu.0 == cpu) (unmoved x) (map unmoved xs) true (eq-eqb x.cpu.0 cpu mine)) ∙ is in cc)
      | inr other ↦
          All-cons (λ (e : Entry). e.cpu.0 ≢ cpu) x xs other
          (none xs (sym (filter-at (λ (m : Moved). m.entry.cpu.0 == cpu) (unmoved x) (map unmoved xs) false (ne_eqb x.cpu.0 cpu other)) ∙ is))
    ]

-- other processors' entries leave a processor's claim
claim-stays : (boot : Boot) (cpu : ℕ) (before rest : List Entry) → NoneOf cpu rest → claim_of boot (before ++ rest) cpu ≡ claim_of boot before cpu
claim-stays boot cpu before [] none = ap (λ es. claim_of boot es cpu) (append-nil before)
claim-stays boot cpu before (e ∷ es) none =
    let other = All-head (λ (x : Entry). x.cpu.0 ≢ cpu) e es none in
    ap (λ xs. claim_of boot xs cpu) (sym (append_assoc before (e ∷ []) es))
    ∙ claim-stays boot cpu (before ++ e ∷ []) es (All-tail (λ (x : Entry). x.cpu.0 ≢ cpu) e es none)
    ∙ claim_of-push boot before e cpu
    ∙ ap (λ b. cond b (claim_step boot (calls_of boot before) (claim_of boot before cpu) e.event) (claim_of boot before cpu)) (ne_eqb e.cpu.0 cpu other)

-- what is out for a claim is told by its part
handed-back : (a b : Option Handed) → pages_out a ≡ pages_out b → room_kept a ≡ room_kept b → a ≡ b
handed-back None None pages room = refl
handed-back None (Some b) pages room = cc
handed-back (Some a) None pages room = cc
handed-back (Some a) (Some b) pages room =
    let p : a.ticket.pages ≡ b.ticket.pages = cc in
    let n : a.room ≡ b.room = cc in
    let r : a.ticket.runs ≡ b.ticket.runs = cc in
    let m : a.ticket.room ≡ b.ticket.room = cc in
    ap (λ x. made x a.ticket.runs a.ticket.room a.room) p ∙ ap (λ x. made b.ticket.pages x a.ticket.room a.room) r ∙ ap (λ x. made b.ticket.pages b.ticket.runs x a.room) m ∙ ap (λ x. made b.ticket.pages b.ticket.runs b.ticket.room x) n
  where
    made : Pages → ℕ → ℕ → ℕ → Option Handed
    made pages runs room units = Some (record { ticket = record { pages = pages; runs = runs; room = room }; room = units })

-- A processor finds the memory as it left it but for the entries of others, where it knows the memory as it left it and has made
-- just its entries in it.
pub found-again : (known : Known) (left found : MemoryValue) → known.fixed ≡ ghosts.fixed left → known.part ≡ ghosts.part left known.number → known.seen ≡ ghosts.moved left → known.own ≡ made_by known.number (ghosts.moved left)
    → Finds ghosts.fixed ghosts.part ghosts.moved known found → WaitingFalls found.boot found.entries → FoundAgain known.number left found
found-again known left found is_fixed is_part is_seen is_own finds falls =
    let cpu = known.number in
    let boots : Some found.boot ≡ Some left.boot = ap (λ (f : Fixed). f.boot) (finds.as_given ∙ is_fixed) in
    let boot : found.boot ≡ left.boot = cc in
    let rest = added-entries found.entries left.entries finds.longer.0 (finds.longer.1 ∙ ap (λ ms. ms ++ finds.longer.0) is_seen) in
    let others = none-made cpu (moved_of left) rest.0 (sym (ap (λ es. made_by cpu (map unmoved es)) rest.1 ∙ ap (made_by cpu) (map-append unmoved left.entries rest.0)) ∙ finds.own_alone ∙ is_own) in
    let part : part_of found cpu ≡ part_of left cpu = finds.as_left ∙ is_part in
    record {
      boot = boot;
      rest = rest.0;
      longer = rest.1;
      others = others;
      claim = ap (λ b. claim_of b found.entries cpu) boot ∙ ap (λ es. claim_of left.boot es cpu) rest.1 ∙ claim-stays left.boot cpu left.entries rest.0 others;
      handed = handed-back (handed_to found cpu) (handed_to left cpu) (ap (λ (p : Part). p.out) part) (ap (λ (p : Part). p.room) part);
      waiting = subst (λ b. WaitingFalls b found.entries) boot falls left.entries rest.0 rest.1;
    }

-- the calls brought its span from the states in which it got the pages, whatever others did meanwhile
brings-again : (cpu : ℕ) (left found : MemoryValue) (claim : Claimed) (span : Taken) (calls : List ModuleCall) (end : RunEnd) → FoundAgain cpu left found
    → BringsSince left cpu claim span calls end → BringsSince found cpu claim span calls end
brings-again cpu left found claim span calls end f b = record {
  before = b.before;
  rest = b.rest ++ f.rest;
  split = f.longer ∙ ap (λ es. es ++ f.rest) b.split ∙ append_assoc b.before b.rest f.rest;
  others = All-append (λ (e : Entry). e.cpu.0 ≢ cpu) b.rest f.rest b.others f.others;
  brings = subst (λ boot. BringsTo boot (calls_of boot b.before) claim.run span calls end) (sym f.boot) b.brings;
}

-- where nothing was done meanwhile, they are those of now
pub brings-now : (memory : MemoryValue) (cpu : ℕ) (claim : Claimed) (span : Taken) (calls : List ModuleCall) (end : RunEnd)
    → BringsTo memory.boot (calls_of memory.boot memory.entries) claim.run span calls end → BringsSince memory cpu claim span calls end
brings-now memory cpu claim span calls end brings = record {
  before = memory.entries;
  rest = [];
  split = sym (append-nil memory.entries);
  others = All-nil (λ (e : Entry). e.cpu.0 ≢ cpu);
  brings = brings;
}

-- the last stamp only grows
pub last-grows : (from : ℕ) (entries rest : List Entry) → fold (λ last (e : Entry). max last e.stamp) from entries ≤ fold (λ last (e : Entry). max last e.stamp) from (entries ++ rest)
last-grows from [] [] = omega arith
last-grows from [] (e ∷ es) = let more = last-grows (max from e.stamp) [] es in omega (arith, more)
last-grows from (e ∷ es) rest = last-grows (max from e.stamp) es rest

-- so a processor that might report when it gave the lock back may report when it takes the lock again
pub report-again : (left found : MemoryValue) (turn : Turn) (span : Taken) (calls : List ModuleCall) (end : RunEnd) → FoundAgain turn.cpu.0 left found → MayReport left turn span calls end → MayReport found turn span calls end
report-again left found turn span calls end f m =
    let more = last-grows 0 left.entries f.rest in
    let is : last_stamp found.entries ≡ last_stamp (left.entries ++ f.rest) = ap last_stamp f.longer in
    let low = m.clock in
    let P : Option Handed → Type 0 = λ h. IfSome h (λ (x : Handed). x.ticket ≡ span.ticket) in
    record {
      claim = m.claim;
      claimed = f.claim ∙ m.claimed;
      out = subst P (sym f.handed) m.out;
      brings = brings-again turn.cpu.0 left found m.claim span calls end f m.brings;
      clock = omega (arith, low, more, is);
    }
