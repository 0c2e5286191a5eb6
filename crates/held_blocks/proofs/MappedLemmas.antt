-- Lemmas on mappings of blocks that are held.
use Rattle.std.proofs.Common.{◌≡◌, ℕ, ◌+◌, ◌≤◌, List, [], ◌∷◌, Bool, true, false, not, ◌||◌, Option, Some, None, Result, OnOk, OnErr, Ok, Err, map, filter, find, bytes_eq, arith, refl, sym, ap, subst, ◌∙◌, inl, inr}
use Rattle.std.specs.List.{list_any}
use Rattle.std.specs.Option.{option_map, ForSome, IsSome}
use Rattle.std.proofs.lemmas.Bool.{cases_Bool}
use Rattle.std.proofs.lemmas.Option.{same_Some}
use Rattle.std.proofs.lemmas.Slice.Eq.{bytes_eq-Decides}
use Rattle.guest_base.specs.declared.memory.Block.{Block}
use Rattle.event_core.specs.Holdings.{Holding, Mapping, Own, block_bytes, block_named, same_block}
use Rattle.event_core.specs.Own.{with_bytes_at, write_if}
use Rattle.held_blocks.specs.Held.{Held, blocks_of, is_held, owned}
use Rattle.held_blocks.specs.Holdings.{AreOfHeld, IsOfHeld}
use Rattle.held_blocks.proofs.HeldLemmas.{name-if, same-itself}

-- the block of a name among these
abbrev pub named_in : List Holding → List ℕ → Option Holding
named_in hs name = find (λ (h : Holding). bytes_eq h.name name) hs

-- ---- one block more

of-more : (h : Holding) (hs : List Holding) (m : Mapping) → named_in hs h.name ≡ None → IsOfHeld hs m → IsOfHeld (h ∷ hs) m
of-more h hs m fresh of = record {
  name = of.name;
  holding = of.holding;
  named = elim (cases_Bool (bytes_eq h.name of.name)) [
    | inl t ↦
        absurd
        (let e : of.name ≡ h.name = sym ((bytes_eq-Decides h.name of.name).0 t) in
        let clash : Some of.holding ≡ None = sym of.named ∙ ap (named_in hs) e ∙ fresh in
        cc)
    | inr f ↦ rw f of.named
  ];
  same = of.same;
  within = of.within;
}

pub all-more : (h : Holding) (hs : List Holding) (ms : List Mapping) → named_in hs h.name ≡ None → AreOfHeld hs ms → AreOfHeld (h ∷ hs) ms
all-more h hs [] fresh all = tt
all-more h hs (m ∷ ms) fresh all = (of-more h hs m fresh all.0, all-more h hs ms fresh all.1)

-- ---- the block of a name less

-- another name has its block still
find-filter : (hs : List Holding) (n name : List ℕ) → bytes_eq n name ≡ false →
    named_in (filter (λ (h : Holding). not (bytes_eq h.name name)) hs) n ≡ named_in hs n
find-filter [] n name other = refl
find-filter (h ∷ hs) n name other =
    elim (cases_Bool (bytes_eq h.name name)) [
      | inl t ↦ elim (cases_Bool (bytes_eq h.name n)) [
        | inl u ↦
            absurd
            (let e : n ≡ name = sym ((bytes_eq-Decides h.name n).0 u) ∙ (bytes_eq-Decides h.name name).0 t in
            let clash : false ≡ true = sym other ∙ (bytes_eq-Decides n name).1 e in
            cc)
        | inr v ↦ rw (t, v) (find-filter hs n name other)
      ]
      | inr f ↦ elim (cases_Bool (bytes_eq h.name n)) [
        | inl u ↦ rw (f, u) refl
        | inr v ↦ rw (f, v) (find-filter hs n name other)
      ]
    ]

-- no mapping of these is of the block of a name
abbrev pub AreElsewhere : List Holding → List ℕ → List Mapping → Type 0
AreElsewhere hs name ms = ForSome (named_in hs name) (λ (h : Holding). list_any (λ (m : Mapping). same_block m.block h.block) ms ≡ false)

of-less : (hs : List Holding) (name : List ℕ) (m : Mapping) → ((h : Holding) → named_in hs name ≡ Some h → same_block m.block h.block ≡ false) →
    IsOfHeld hs m → IsOfHeld (filter (λ (h : Holding). not (bytes_eq h.name name)) hs) m
of-less hs name m apart of = record {
  name = of.name;
  holding = of.holding;
  named = elim (cases_Bool (bytes_eq of.name name)) [
    | inl t ↦
        absurd
        (let e : name ≡ of.name = sym ((bytes_eq-Decides of.name name).0 t) in
        let no : same_block m.block of.holding.block ≡ false = apart of.holding (ap (named_in hs) e ∙ of.named) in
        let clash : false ≡ true = sym no ∙ ap (same_block m.block) of.same ∙ same-itself m.block in
        cc)
    | inr f ↦ find-filter hs of.name name f ∙ of.named
  ];
  same = of.same;
  within = of.within;
}

first-not : (a b : Bool) → a || b ≡ false → a ≡ false
first-not a b h = grind (arith, h)

later-not : (a b : Bool) → a || b ≡ false → b ≡ false
later-not a b h = grind (arith, h)

pub all-less : (hs : List Holding) (name : List ℕ) (ms : List Mapping) → AreElsewhere hs name ms → AreOfHeld hs ms →
    AreOfHeld (filter (λ (h : Holding). not (bytes_eq h.name name)) hs) ms
all-less hs name [] apart all = tt
all-less hs name (m ∷ ms) apart all = (
  of-less hs name m (λ h is. first-not (same_block m.block h.block) (list_any (λ (m : Mapping). same_block m.block h.block) ms) (apart h is)) all.0,
  all-less hs name ms (λ h is. later-not (same_block m.block h.block) (list_any (λ (m : Mapping). same_block m.block h.block) ms) (apart h is)) all.1,
)

-- ---- bytes of a block written

find-written : (block : Block) (at : ℕ) (more : List ℕ) (hs : List Holding) (n : List ℕ) →
    named_in (map (write_if block at more) hs) n ≡ option_map (write_if block at more) (named_in hs n)
find-written block at more [] n = refl
find-written block at more (h ∷ hs) n =
    rw (name-if block at more h)
    (elim (cases_Bool (bytes_eq h.name n)) [ inl t ↦ rw t refl | inr f ↦ rw f (find-written block at more hs n) ])

block-if : (block : Block) (at : ℕ) (more : List ℕ) (h : Holding) → (write_if block at more h).block ≡ h.block
block-if block at more h = elim (cases_Bool (same_block h.block block)) [ inl t ↦ rw t refl | inr f ↦ rw f refl ]

pub all-written : (block : Block) (at : ℕ) (more : List ℕ) (hs : List Holding) (ms : List Mapping) → AreOfHeld hs ms →
    AreOfHeld (map (write_if block at more) hs) ms
all-written block at more hs [] all = tt
all-written block at more hs (m ∷ ms) all = (
  record {
    name = all.0.name;
    holding = write_if block at more all.0.holding;
    named = find-written block at more hs all.0.name ∙ ap (option_map (write_if block at more)) all.0.named;
    same = block-if block at more all.0.holding ∙ all.0.same;
    within = all.0.within;
  },
  all-written block at more hs ms all.1,
)

-- after a write to the block of a name, or a write for which there was no memory
pub all-after : {A E : Type 0} (r : Result A E) (old new : Held) (ms : List Mapping) (name : List ℕ) (at : ℕ) (more : List ℕ) →
    IsSome (block_named (owned old) name) →
    OnOk r (ForSome (block_named (owned old) name) (λ (h : Holding). owned new ≡ with_bytes_at h.block at more (owned old))) →
    OnErr r (blocks_of new ≡ blocks_of old) → AreOfHeld (blocks_of old) ms → AreOfHeld (blocks_of new) ms
all-after (Err e) old new ms name at more some ok err all = rw err all
all-after (Ok x) old new ms name at more some ok err all = found (block_named (owned old) name) refl some
  where
    found : (o : Option Holding) → block_named (owned old) name ≡ o → IsSome o → AreOfHeld (blocks_of new) ms
    found None is some = absurd (grind (arith, some))
    found (Some h) is some =
        subst (λ (own : Own). AreOfHeld own.blocks ms) (sym (ok h is)) (all-written h.block at more (blocks_of old) ms all)

-- ---- mappings more and less

pub of-block : (hs : List Holding) (name : List ℕ) (h : Holding) (m : Mapping) → named_in hs name ≡ Some h → h.block ≡ m.block →
    m.off + m.run.len ≤ block_bytes m.block → IsOfHeld hs m
of-block hs name h m named same within = record { name = name; holding = h; named = named; same = same; within = within }

pub all-filter : (test : Mapping → Bool) (hs : List Holding) (ms : List Mapping) → AreOfHeld hs ms → AreOfHeld hs (filter test ms)
all-filter test hs [] all = tt
all-filter test hs (m ∷ ms) all =
    elim (cases_Bool (test m)) [ inl t ↦ rw t (all.0, all-filter test hs ms all.1) | inr f ↦ rw f (all-filter test hs ms all.1) ]

-- ---- the mapping of a name

pub of-found : (test : Mapping → Bool) (hs : List Holding) (ms : List Mapping) (m : Mapping) → AreOfHeld hs ms → find test ms ≡ Some m → IsOfHeld hs m
of-found test hs [] m all is = absurd (grind (arith, is))
of-found test hs (x ∷ xs) m all is =
    elim (cases_Bool (test x)) [
      | inl t ↦ subst (λ (m : Mapping). IsOfHeld hs m) (same_Some _ _ (rw t at is)) all.0
      | inr f ↦ of-found test hs xs m all.1 (rw f at is)
    ]

found-held : (test : Holding → Bool) (hs : List Holding) (h : Holding) (block : Block) → find test hs ≡ Some h → h.block ≡ block → is_held block hs ≡ true
found-held test [] h block is same = absurd (grind (arith, is))
found-held test (x ∷ xs) h block is same =
    elim (cases_Bool (test x)) [
      | inl t ↦
          let e : x.block ≡ block = ap (λ (h : Holding). h.block) (same_Some _ _ (rw t at is)) ∙ same in
          rw (e, same-itself block) refl
      | inr f ↦
          let rest = found-held test xs h block (rw f at is) same in
          elim (cases_Bool (same_block x.block block)) [ inl t ↦ rw t refl | inr g ↦ rw g rest ]
    ]

-- its block is held
pub of-held : (hs : List Holding) (m : Mapping) → IsOfHeld hs m → is_held m.block hs ≡ true
of-held hs m of = found-held (λ (h : Holding). bytes_eq h.name of.name) hs of.holding m.block of.named of.same
