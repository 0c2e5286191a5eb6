-- What a command that isn't refused says of its block, its mapping and the pool.
use Rattle.std.proofs.Common.{◌≡◌, ℕ, ◌+◌, ◌*◌, ◌<◌, ◌≤◌, ◌==◌, Bool, false, List, Option, Some, None, length, nat_le, nat_lt, is_none, arith, refl, inl, inr}
use Rattle.std.specs.Option.{ForSome, IsSome, IsSomeAnd, is_some}
use Rattle.std.proofs.lemmas.Bool.{cases_Bool}
use Rattle.std.proofs.lemmas.Option.{same_Some}
use Rattle.guest_base.specs.Requests.{too_long}
use Rattle.guest_base.specs.declared.transfer.Direction.{Direction}
use Rattle.event_core.specs.declared.boot.Boot.{Boot}
use Rattle.event_core.specs.declared.command.Command.TheVariants.{Alloc, Free, Read, Write, Fill, Load, Map, SyncDev, SyncCpu, Unmap, DRead, DWrite, HostRead, HostWrite}
use Rattle.event_core.specs.declared.reply.Reply.{Reply}
use Rattle.event_core.specs.declared.reply.Reply.TheVariants.{Mapped, NoPool, Range, Taken, TooLong, Zero}
use Rattle.event_core.specs.Holdings.{Sharing, PrivateBlock, SharedBlock, HalfBlock, Holding, Mapping, Own, block_named, block_bytes, is_mapped, mapping_named}
use Rattle.event_core.specs.Refusals.{map_refusal, refusal_of, refuse, unless_private, unknown_or, past_end, pool_refusal}
use Rattle.held_blocks.specs.Held.{EndsWithin}
use Rattle.held_blocks.specs.Holdings.{IsPart, MayMap}

private-none : (sharing : Sharing) (others : Option Reply) → unless_private sharing others ≡ None → others ≡ None
private-none PrivateBlock others is = is
private-none SharedBlock others is = absurd (grind arith)
private-none HalfBlock others is = absurd (grind arith)

told : (reply : Reply) → Some reply ≡ None → ⊥
told reply is = grind (arith, is)

-- conditions that end in a fact about the block of a name
known : (P : Holding → Type 0) (o : Option Holding) (conditions : Holding → Option Reply) →
    ((h : Holding) → conditions h ≡ None → P h) → unknown_or o (λ h. unless_private h.sharing (conditions h)) ≡ None → IsSomeAnd o P
known P None conditions says is = absurd (grind arith)
known P (Some h) conditions says is = says h (private-none h.sharing (conditions h) is)

within : (size off len : ℕ) → past_end size off len ≡ None → off + len ≤ size
within size off len is =
    elim (cases_Bool (nat_lt size (off + len))) [ inl t ↦ absurd (grind (arith, t, is)) | inr f ↦ grind (arith, f) ]

not-zero : (size off len : ℕ) → refuse Zero (len == 0) (past_end size off len) ≡ None → off + len ≤ size
not-zero size off len is =
    elim (cases_Bool (len == 0)) [ inl t ↦ absurd (grind (arith, t, is)) | inr f ↦ within size off len (rw f at is) ]

below : (size off : ℕ) → refuse Range (nat_le size off) None ≡ None → off + 1 ≤ size
below size off is =
    elim (cases_Bool (nat_le size off)) [ inl t ↦ absurd (grind (arith, t, is)) | inr f ↦ grind (arith, f) ]

taken : (o : Option Holding) → refuse Taken (is_some o) None ≡ None → o ≡ None
taken None is = refl
taken (Some h) is = absurd (grind (arith, is))

is-some : (P : Holding → Type 0) (o : Option Holding) → IsSomeAnd o P → IsSome o
is-some P None h = absurd h
is-some P (Some x) h = refl

pub unrefused-alloc : (boot : Boot) (own : Own) (name : List ℕ) (order : ℕ) → refusal_of boot own (Alloc name order) ≡ None → block_named own name ≡ None
unrefused-alloc boot own name order is = taken (block_named own name) is

pub unrefused-free : (boot : Boot) (own : Own) (name : List ℕ) → refusal_of boot own (Free name) ≡ None → IsSome (block_named own name)
unrefused-free boot own name is =
    is-some (λ h. Unit {0}) (block_named own name)
    (known (λ h. Unit {0}) (block_named own name) (λ h. refuse Mapped (is_mapped own h.block) None) (λ h e. tt) is)

pub unrefused-read : (boot : Boot) (own : Own) (name : List ℕ) (off len : ℕ) → refusal_of boot own (Read name off len) ≡ None → EndsWithin own name off len
unrefused-read boot own name off len is =
    known (λ h. off + len ≤ block_bytes h.block) (block_named own name)
    (λ h. refuse Zero (len == 0) (past_end (block_bytes h.block) off len)) (λ h e. not-zero (block_bytes h.block) off len e) is

pub unrefused-write : (boot : Boot) (own : Own) (name : List ℕ) (off : ℕ) (hex : List ℕ) → refusal_of boot own (Write name off hex) ≡ None →
    EndsWithin own name off (length hex)
unrefused-write boot own name off hex is =
    known (λ h. off + length hex ≤ block_bytes h.block) (block_named own name)
    (λ h. past_end (block_bytes h.block) off (length hex)) (λ h e. within (block_bytes h.block) off (length hex) e) is

pub unrefused-fill : (boot : Boot) (own : Own) (name : List ℕ) (off len byte : ℕ) → refusal_of boot own (Fill name off len byte) ≡ None →
    EndsWithin own name off len
unrefused-fill boot own name off len byte is = unrefused-read boot own name off len is

-- the first byte of a load lies in the block
pub unrefused-load : (boot : Boot) (own : Own) (name : List ℕ) (off : ℕ) → refusal_of boot own (Load name off) ≡ None → EndsWithin own name off 1
unrefused-load boot own name off is =
    known (λ h. off + 1 ≤ block_bytes h.block) (block_named own name)
    (λ h. refuse Range (nat_le (block_bytes h.block) off) None) (λ h e. below (block_bytes h.block) off e) is

-- no live mapping is of a block that may be freed
pub unrefused-unmapped : (boot : Boot) (own : Own) (name : List ℕ) → refusal_of boot own (Free name) ≡ None →
    ForSome (block_named own name) (λ (h : Holding). is_mapped own h.block ≡ false)
unrefused-unmapped boot own name is = of (block_named own name) is
  where
    of : (o : Option Holding) → unknown_or o (λ h. unless_private h.sharing (refuse Mapped (is_mapped own h.block) None)) ≡ None →
        ForSome o (λ (h : Holding). is_mapped own h.block ≡ false)
    of None is h at = absurd (grind (arith, at))
    of (Some x) is h at =
        let p = private-none x.sharing (refuse Mapped (is_mapped own x.block) None) is in
        rw (← same_Some _ _ at)
        (elim (cases_Bool (is_mapped own x.block)) [ inl t ↦ absurd (told Mapped (rw t at p)) | inr f ↦ f ])

-- ---- mappings

-- what isn't refused of a mapping of a block's bytes
record Mappable (boot : Boot) (h : Holding) (off len mask : ℕ) : Type 0 where
  some : 0 < len
  within : off + len ≤ block_bytes h.block
  short : too_long (4096 * h.block.first + off) len mask ≡ false
  pool : is_none boot.pool ≡ false

mappable : (boot : Boot) (h : Holding) (off len mask : ℕ) → map_refusal boot h off len mask ≡ None → Mappable boot h off len mask
mappable boot h off len mask is =
    let long : Bool = too_long (4096 * h.block.first + off) len mask in
    let p = private-none h.sharing (refuse Zero (len == 0) (refuse Range (nat_lt (block_bytes h.block) (off + len)) (refuse TooLong long (refuse NoPool (is_none boot.pool) None)))) is in
    elim (cases_Bool (len == 0)) [
      | inl t ↦ absurd (told Zero (rw t at p))
      | inr zero ↦
          let q : refuse Range (nat_lt (block_bytes h.block) (off + len)) (refuse TooLong long (refuse NoPool (is_none boot.pool) None)) ≡ None = rw zero at p in
          elim (cases_Bool (nat_lt (block_bytes h.block) (off + len))) [
            | inl t ↦ absurd (told Range (rw t at q))
            | inr range ↦
                let r : refuse TooLong long (refuse NoPool (is_none boot.pool) None) ≡ None = rw range at q in
                elim (cases_Bool long) [
                  | inl t ↦ absurd (told TooLong (rw t at r))
                  | inr short ↦
                      let s : refuse NoPool (is_none boot.pool) None ≡ None = rw short at r in
                      elim (cases_Bool (is_none boot.pool)) [
                        | inl t ↦ absurd (told NoPool (rw t at s))
                        | inr pool ↦ record { some = grind (arith, zero); within = grind (arith, range); short = short; pool = pool }
                      ]
                ]
          ]
    ]

some-of : {A : Type 0} (o : Option A) → is_none o ≡ false → IsSome o
some-of None is = absurd (grind (arith, is))
some-of (Some x) is = refl

-- what isn't refused of a command that maps: its mapping's name is free, its bytes may be mapped, and there is a pool
pub record MapsFine (boot : Boot) (own : Own) (mapping name : List ℕ) (off len mask : ℕ) : Type 0 where
  pub fresh : mapping_named own mapping ≡ None
  pub may : MayMap own name off len mask
  pub pool : IsSome boot.pool

pub unrefused-map : (boot : Boot) (own : Own) (mapping name : List ℕ) (off len : ℕ) (direction : Direction) (mask : ℕ) →
    refusal_of boot own (Map mapping name off len direction mask) ≡ None → MapsFine boot own mapping name off len mask
unrefused-map boot own mapping name off len direction mask is =
    of (mapping_named own mapping) (block_named own name) refl refl is
  where
    of : (m : Option Mapping) (o : Option Holding) → mapping_named own mapping ≡ m → block_named own name ≡ o →
        refuse Taken (is_some m) (unknown_or o (λ h. map_refusal boot h off len mask)) ≡ None → MapsFine boot own mapping name off len mask
    of (Some m) o at named is = absurd (told Taken is)
    of None None at named is = absurd (grind (arith, is))
    of None (Some h) at named is =
        let fine = mappable boot h off len mask is in
        record {
          fresh = at;
          may = record {
            some = fine.some;
            within = rw named fine.within;
            short = λ x other. rw (← same_Some _ _ (rw named at other)) fine.short;
          };
          pool = some-of boot.pool fine.pool;
        }

-- a range of bytes of a mapping has a byte and ends in it
span-known : (o : Option Mapping) (off len : ℕ) → unknown_or o (λ m. refuse Zero (len == 0) (past_end m.run.len off len)) ≡ None →
    (0 < len) × IsSomeAnd o (λ (m : Mapping). off + len ≤ m.run.len)
span-known None off len is = absurd (grind (arith, is))
span-known (Some m) off len is =
    elim (cases_Bool (len == 0)) [
      | inl t ↦ absurd (told Zero (rw t at is))
      | inr zero ↦ (grind (arith, zero), not-zero m.run.len off len is)
    ]

pub unrefused-sync-dev : (boot : Boot) (own : Own) (mapping : List ℕ) (off len : ℕ) → refusal_of boot own (SyncDev mapping off len) ≡ None →
    (0 < len) × IsPart own mapping off len
unrefused-sync-dev boot own mapping off len is = span-known (mapping_named own mapping) off len is

pub unrefused-sync-cpu : (boot : Boot) (own : Own) (mapping : List ℕ) (off len : ℕ) → refusal_of boot own (SyncCpu mapping off len) ≡ None →
    (0 < len) × IsPart own mapping off len
unrefused-sync-cpu boot own mapping off len is = span-known (mapping_named own mapping) off len is

pub unrefused-device-read : (boot : Boot) (own : Own) (mapping : List ℕ) (off len : ℕ) → refusal_of boot own (DRead mapping off len) ≡ None →
    (0 < len) × IsPart own mapping off len
unrefused-device-read boot own mapping off len is = span-known (mapping_named own mapping) off len is

part-known : (o : Option Mapping) (off len : ℕ) → unknown_or o (λ m. past_end m.run.len off len) ≡ None →
    IsSomeAnd o (λ (m : Mapping). off + len ≤ m.run.len)
part-known None off len is = absurd (grind (arith, is))
part-known (Some m) off len is = within m.run.len off len is

pub unrefused-device-write : (boot : Boot) (own : Own) (mapping : List ℕ) (off : ℕ) (hex : List ℕ) →
    refusal_of boot own (DWrite mapping off hex) ≡ None → IsPart own mapping off (length hex)
unrefused-device-write boot own mapping off hex is = part-known (mapping_named own mapping) off (length hex) is

pub unrefused-unmap : (boot : Boot) (own : Own) (mapping : List ℕ) (skip : Bool) → refusal_of boot own (Unmap mapping skip) ≡ None →
    IsSome (mapping_named own mapping)
unrefused-unmap boot own mapping skip is = of (mapping_named own mapping) is
  where
    of : (o : Option Mapping) → unknown_or o (λ m. None) ≡ None → IsSome o
    of None is = absurd (grind (arith, is))
    of (Some m) is = refl

-- the name of a mapping that has a part is known
pub part-some : (own : Own) (mapping : List ℕ) (off len : ℕ) → IsPart own mapping off len → IsSome (mapping_named own mapping)
part-some own mapping off len part = of (mapping_named own mapping) part
  where
    of : (o : Option Mapping) → IsSomeAnd o (λ (m : Mapping). off + len ≤ m.run.len) → IsSome o
    of None part = absurd part
    of (Some m) part = refl

-- ---- the pool

pub unrefused-host-read : (boot : Boot) (own : Own) (off len : ℕ) → refusal_of boot own (HostRead off len) ≡ None →
    IsSome boot.pool × (0 < len) × (pool_refusal boot off len ≡ None)
unrefused-host-read boot own off len is =
    elim (cases_Bool (is_none boot.pool)) [
      | inl t ↦ absurd (told NoPool (rw t at is))
      | inr pool ↦
          let p : refuse Zero (len == 0) (pool_refusal boot off len) ≡ None = rw pool at is in
          elim (cases_Bool (len == 0)) [
            | inl t ↦ absurd (told Zero (rw t at p))
            | inr zero ↦ (some-of boot.pool pool, grind (arith, zero), rw zero at p)
          ]
    ]

pub unrefused-host-write : (boot : Boot) (own : Own) (off : ℕ) (hex : List ℕ) → refusal_of boot own (HostWrite off hex) ≡ None →
    IsSome boot.pool × (pool_refusal boot off (length hex) ≡ None)
unrefused-host-write boot own off hex is =
    elim (cases_Bool (is_none boot.pool)) [
      | inl t ↦ absurd (told NoPool (rw t at is))
      | inr pool ↦ (some-of boot.pool pool, rw pool at is)
    ]
